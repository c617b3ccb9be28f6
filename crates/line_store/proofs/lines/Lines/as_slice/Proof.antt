-- `as_slice` reads both fields through the `&`, and lends the lines made. Assumes `Logic`.
use Rattle.std.proofs.Common.{ℕ, ◌+◌, ◌*◌, ◌^◌, List, [], ◌∷◌, length, refl, ap, arith}
use Rattle.std.proofs.raw_atomic.Walks.{proved}
use mir.Syntax.{named}
use mir.Val.{Val, vptr}
use base.Fml.{ftrue, fhide, flft}
use contract.Monad.{fact}
use contract.Running.{tables}
use types.Kit.{‵, raw, ◌⊛◌, at_ret, ◌$◌, ◌∵◌, !, qed, move, keep, drop, use1, split, join, fsplit, fjoin, feq_i, flt_i, suffices, frame, done}
use types.Part.{agg}
use types.Run.{enter, of_opd, load, look, stop, fld, no_more, and_then, first, blocks, exec, returns}
use types.ByLocal.{alloc_all, pass_all, free_all, look_at, get, through, sets, sets_last, env}
use denote.Exit.{yes}
use denote.Memory.{hidden_shr}
use denote.Opens.{shr_dup, unhide, hide}
use denote.RawPtr.{block_of, count_of, InBlock}
use denote.Ref.{ShrRef, shr_vals, shr_Tells}
use denote.Signature.{plain}
use denote.Slice.{slice_val}
use denote.Steps.{heard, nothing}
use denote.Struct.Lending.{in_block_says, lent_out}
use denote.Triple.Walked.{Stays, walk_of, says, stay_none_ref, Goes-none_ref, ends_at}
use Rattle.std.proofs.VecSteps.Shapes.{after}
use Rattle.std.proofs.Words.{word_in, word_out, pointer_in, pointer_out}
use Rattle.line_store.proofs.Fields.{Words, shows_at, shows_made}
use Rattle.line_store.specs.contracts.lines.Lines as L
use Rattle.line_store.specs.contracts.lines.Lines.as_slice as f
use Rattle.line_store.proofs.lines.Lines.TheLaws.{the_row_laws}
use Rattle.line_store.proofs.lines.Lines.as_slice.Statement.{statement}
use Rattle.line_store.proofs.lines.Lines.as_slice.Code as code

abbrev stayed : Stays f.ended.signature.params f.ended.kept
stayed = (stay_none_ref (0 ∷ []) tt (plain (λ _. L.the_row)) yes, tt)

pub as_slice_spec : {M : Type 1} → statement M
as_slice_spec 𝓤 𝓛 𝓜 𝓡 wired =
    let c = f.clauses 𝓛 𝓜.mem 𝓡.returns in let W = walk_of 𝓛 f.ended stayed c in let 𝓣 = tables 𝓤 𝓛.H 𝓜 𝓡 𝓡.env in
    proved 𝓛 f.ended stayed c 𝓜 𝓡 (Goes-none_ref 𝓛 1 (0 ∷ []) tt (plain (λ _. L.the_row)) yes, tt)
    f.Key.name code.function (code.unfolded 𝓤 𝓛.H 𝓜 𝓡 wired)
    (λ κs. (shr_vals, tt)) (λ κs. (shr_Tells (named 0) κs.0 L.the_row, tt)) (λ κs qs bounds a _ are.
    let κ = κs.0 in let b = a.0.ref_ptr.0 in let o = a.0.ref_ptr.1 in let d = a.0.now in
    let y : W.Ghost = ((κs, qs, bounds, a, (shr_vals a.0, tt)), tt) in
    let at : ℕ × ℕ = (block_of d.at, count_of d.at) in
    let fields : Words.Denot = (d.at, (d.made, tt)) in
    qed 𝓛 (((‵ (flft κ qs.0) ⊛ ‵ ftrue) ⊛ ‵ ((ShrRef (named 0) κ L.the_row).own_val a.0 (shr_vals a.0)) ⊛ ‵ ftrue) ∷ ‵ ftrue ∷ []) ∵
    split ! $ split ! $ move ! (2 ∷ []) $ split ! $ keep ! (0 ∷ 2 ∷ []) $
    enter ! _ _ _ _ _ $ alloc_all ! (λ l. pass_all ! refl ((tt, tt), tt) $
    fsplit ! $ drop ! $ shr_dup ! L.the_row the_row_laws.shr_laws d b o κ $
    use1 𝓛 (‵ (hidden_shr Words κ fields b o) ⊛ ‵ (fhide (L.the_lent d d.at κ))) (lent_out 𝓛 L.struct L.the_codes L.the_heap L.the_lent κ d b o) $ split ! $
    move ! (1 ∷ []) $ unhide ! $ fsplit ! $ use1 𝓛 (raw (fact 𝓤 (InBlock d.at))) (in_block_says 𝓛 d.at) $ heard ! (InBlock d.at) (λ inb. fsplit ! $ drop ! $ hide ! $
    -- [the lines; the fields; all; the token; the locals]
    move ! (1 ∷ 3 ∷ []) $ first ! $ blocks ! $
    pointer_in ! tt d.at inb b (o + 0) (shows_at 𝓛 κ b o d) (λ q0.
    sets ! (of_opd ! (load ! (through ! refl (fld ! refl (stop !))) (look ! 1 refl))) refl (tt, tt) $
    pointer_out ! tt d.at inb b (o + 0) $ move ! (1 ∷ 0 ∷ []) $
    word_in ! tt d.made b (o + 8) (shows_made 𝓛 κ b o d) (λ q1 fits.
    sets ! (of_opd ! (load ! (through ! refl (fld ! refl (stop !))) (look ! 1 refl))) refl (tt, record { fits = fits }) $
    word_out ! tt d.made b (o + 8) fits $
    sets_last ! (agg ! (and_then ! (get ! refl) (and_then ! (get ! refl) (no_more !)))) refl (tt, (tt, (record { fits = fits }, tt))) $
    exec ! 𝓣.C 𝓣.Λ (env code.Mir.locals l) (after 1 (code.function).body) (at_ret _ (W.post y)) $
    sets ! (of_opd ! (get ! refl)) refl (tt, (tt, (record { fits = fits }, tt))) $
    returns ! (look_at ! 0 refl) $ free_all ! refl $ keep ! (0 ∷ 3 ∷ 2 ∷ []) $
    let long = length d.items in
    suffices ! _ (ends_at 𝓛 f.ended stayed c y (slice_val at d.made) (record { ref_ptr = at; now = d.items }) (tt, tt) (tt, tt)) $ says ! refl $
    nothing ! $ move ! (1 ∷ 0 ∷ []) $ join ! $ frame ! $ feq_i ! (List Val) (vptr b o ∷ []) (vptr b o ∷ []) refl $ fjoin ! $ nothing ! $ move ! (1 ∷ 0 ∷ []) $ fjoin ! $ frame ! $
    flt_i ! (long * 64) (2 ^ 63) (omega (arith, d.fits.0, d.fits.1, d.fits.2)) $ flt_i ! long (2 ^ 64) (omega (arith, d.fits.0, d.fits.1, d.fits.2)) $ fjoin ! $
    feq_i ! (List Val) (slice_val at d.made ∷ []) (slice_val at long ∷ []) (ap (λ (n : ℕ). slice_val at n ∷ []) d.fits.0) $ fjoin ! $ fjoin ! $ done !)))))
