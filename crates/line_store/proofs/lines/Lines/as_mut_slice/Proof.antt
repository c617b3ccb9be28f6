-- `as_mut_slice` lends the lines made, and the memory follows them. Assumes `Logic`.
use Rattle.std.proofs.Common.{◌≡◌, ℕ, ◌+◌, ◌-◌, ◌*◌, ◌<◌, ◌^◌, List, [], ◌∷◌, length, refl, sym, ◌∙◌, arith}
use Rattle.std.proofs.raw_atomic.Walks.{proved}
use seplogic.Ra.Ura.{Ura}
use base.Fraction.{full_share}
use mir.Syntax.{named}
use mir.Val.{Val}
use base.Logic.{ent, sep}
use base.Fml.{GName, Fml, ftrue, fsep, froom, flft}
use contract.Running.{tables}
use types.Logic.{Logic, sem}
use types.Kit.{‵, ◌⊛◌, some, given, later, await, pick, learn, at_ret, ◌$◌, ◌∵◌, !, qed, move, keep, drop, use1, split, join, group, rewrite, fsplit, fsplit3, fjoin, fpack, suffices, frame, done}
use types.Part.{agg, whole, sub, look_in}
use types.Run.{enter, of_opd, load, stop, fld, no_more, and_then, first, blocks, exec, returns}
use types.SemTy.{cells}
use types.ByLocal.{alloc_all, pass_all, free_all, look_at, get, through, sets, sets_last, env}
use denote.Array.{Array}
use denote.Exit.{no}
use denote.Follow.{follows}
use denote.FollowSlice.{lends_Elements}
use denote.Index.{row, whole_in, whole_out}
use denote.Memory.{part_at, part_of, cell_at, mem}
use denote.RawPtr.{block_ptr}
use denote.Ref.{MutRef, MutBor, mut_vals, mut_Tells}
use denote.Signature.{plain, mut_ref_to}
use denote.Slice.{MutSlice, slice_val}
use denote.Steps.{nothing}
use denote.Triple.Walked.{Stays, walk_of, says, stay_dropped, Goes-spent_ref, ends_at}
use Rattle.std.proofs.VecSteps.Gaps.{all_new}
use Rattle.std.proofs.VecSteps.Rows.{apart, whole as whole_row}
use Rattle.std.proofs.VecSteps.Shapes.{after}
use Rattle.line_store.specs.Memory.{Line, room_of}
use Rattle.line_store.specs.Lends.{with_items}
use Rattle.line_store.specs.declared.lines.Lines.{Lines}
use Rattle.line_store.specs.contracts.lines.Lines as L
use Rattle.line_store.specs.contracts.lines.Lines.as_mut_slice as f
use Rattle.line_store.proofs.Memory.{line}
use Rattle.line_store.proofs.Fields.{lines_val, lines_opens, lines_made}
use Rattle.line_store.proofs.lines.Lines.as_mut_slice.Statement.{statement}
use Rattle.line_store.proofs.lines.Lines.as_mut_slice.Code as code

abbrev stayed : Stays f.ended.signature.params f.ended.kept
stayed = (stay_dropped (mut_ref_to (0 ∷ []) tt (plain (λ _. L.the_row))) no, tt)

module _ {M : Type 1} {𝓤 : Ura M} (𝓛 : Logic 𝓤) (d : Lines) (b o rb ro : ℕ) where
  -- the room behind the lines, and the fields
  abbrev Rest : Fml
  Rest = fsep (froom (room_of (d.room - d.made)) b (o + d.made * 64)) (cell_at full_share L.the_row.mir (lines_val (block_ptr b o) d.made ∷ []) rb ro)

  back : d.at ≡ block_ptr b o → (ws : List (List ℕ)) → length ws ≡ length d.items → ent 𝓤 (sep 𝓤 (sem 𝓛 (cells (mem Line) ws b o)) (sem 𝓛 Rest)) (sem 𝓛 ((mem L.the_row).own_at (with_items d ws) rb ro))
  unfolding part_of
  back e ws same =
      let count : length ws ≡ d.made = same ∙ sym d.fits.0 in
      qed 𝓛 (‵ (cells (mem Line) ws b o) ∷ ‵ Rest ∷ []) ∵ use1 𝓛 (‵ (row Line full_share ws b o)) (whole_out 𝓛 Line ws b o) $
      use1 𝓛 (‵ (part_at (Array Line d.made) full_share ws b o)) (whole_row line 𝓛 full_share d.made ws b o count) $
      rewrite ! 0 (λ (zs : List (List ℕ)). ‵ (part_at (Array Line d.made) full_share zs b o)) (sym (all_new d.made d.items ws count)) refl $
      move ! (1 ∷ []) $ fsplit ! $ move ! (2 ∷ []) $ lines_made ! (with_items d ws) b o rb ro e $ fjoin ! $
      fpack ! (List Val) (λ us. fsep (cell_at full_share L.the_row.mir us rb ro) (L.the_row.own_val (with_items d ws) us)) (lines_val d.at d.made ∷ []) $ done !

pub as_mut_slice_spec : {M : Type 1} → statement M
as_mut_slice_spec 𝓤 𝓛 𝓜 𝓡 wired =
    let c = f.clauses 𝓛 𝓜.mem 𝓡.returns in let W = walk_of 𝓛 f.ended stayed c in let 𝓣 = tables 𝓤 𝓛.H 𝓜 𝓡 𝓡.env in
    proved 𝓛 f.ended stayed c 𝓜 𝓡 (Goes-spent_ref 𝓛 1 (0 ∷ []) tt (plain (λ _. L.the_row)), tt)
    f.Key.name code.function (code.unfolded 𝓤 𝓛.H 𝓜 𝓡 wired)
    (λ κs. (mut_vals, tt)) (λ κs. (mut_Tells (named 0) κs.0 L.the_row, tt)) (λ κs qs bounds a _ are.
    let κ = κs.0 in let q = qs.0 in let rb = a.0.ref_ptr.0 in let ro = a.0.ref_ptr.1 in let γ = a.0.ghost_name in let d = a.0.now in
    let y : W.Ghost = ((κs, qs, bounds, a, (mut_vals a.0, tt)), tt) in
    qed 𝓛 (((‵ (flft κ q) ⊛ ‵ ftrue) ⊛ ‵ ((MutRef (named 0) κ L.the_row).own_val a.0 (mut_vals a.0)) ⊛ ‵ ftrue) ∷ ‵ ftrue ∷ []) ∵
    split ! $ split ! $ move ! (2 ∷ []) $ split ! $ keep ! (0 ∷ 2 ∷ []) $
    enter ! _ _ _ _ _ $ alloc_all ! (λ l. pass_all ! refl ((tt, tt), tt) $
    fsplit3 ! $ drop ! $ lines_opens ! tt d rb ro (λ b o e fits.
    let roomy : length d.items < 2 ^ 64 = omega (arith, d.fits.0, d.fits.1, d.fits.2) in let fitting : length d.items * 64 < 2 ^ 63 = omega (arith, d.fits.0, d.fits.1, d.fits.2) in
    let r : GName → MutBor (List (List ℕ)) = λ δ. record { ref_ptr = (b, o); ghost_name = δ; now = d.items } in
    first ! $ blocks ! $
    sets ! (of_opd ! (load ! (through ! refl (fld ! refl (stop !))) (look_in ! 2 (sub ! 0 refl (whole !))))) refl (tt, tt) $
    sets ! (of_opd ! (load ! (through ! refl (fld ! refl (stop !))) (look_in ! 2 (sub ! 1 refl (whole !))))) refl (tt, record { fits = fits }) $
    sets_last ! (agg ! (and_then ! (get ! refl) (and_then ! (get ! refl) (no_more !)))) refl (tt, (tt, (record { fits = fits }, tt))) $
    exec ! 𝓣.C 𝓣.Λ (env code.Mir.locals l) (after 1 (code.function).body) (at_ret _ (W.post y)) $
    sets ! (of_opd ! (get ! refl)) refl (tt, (tt, (record { fits = fits }, tt))) $
    use1 𝓛 (given (length d.items ≡ d.made) (‵ (row Line full_share d.items b o))) (apart line 𝓛 full_share d.made d.items b o) $ learn ! (λ _.
    use1 𝓛 (‵ (cells (mem Line) d.items b o)) (whole_in 𝓛 Line d.items b o) $ move ! (1 ∷ 2 ∷ []) $ fjoin ! $
    -- [the rest; the lines; the open borrow, in three entries]
    move ! (2 ∷ 3 ∷ 4 ∷ 1 ∷ 0 ∷ []) $ group ! 5 $
    use1 𝓛 (later (some (λ (δ : GName). ‵ ((MutSlice (named 0) κ Line).own_val (r δ) (slice_val (b, o) (length d.items) ∷ [])) ⊛ ‵ (flft κ q) ⊛ ‵ (follows L.the_row (Array Line 0) γ δ (with_items d)))))
    (lends_Elements 𝓛 L.the_row Line (with_items d) (named 0) κ q rb ro b o γ d.items (roomy, fitting) (sem 𝓛 (Rest 𝓛 d b o rb ro)) (back 𝓛 d b o rb ro e) (L.the_row.coded.code d) (L.the_row.coded.code d)) $ await ! tt $ pick ! (λ δ.
    returns ! (look_at ! 0 refl) $ free_all ! refl $ split ! $ move ! (1 ∷ []) $ split ! $ move ! (2 ∷ 0 ∷ 1 ∷ []) $ keep ! (0 ∷ 1 ∷ 2 ∷ []) $
    rewrite ! 0 (λ (n : ℕ). ‵ ((MutSlice (named 0) κ Line).own_val (r δ) (slice_val (b, o) n ∷ []))) (sym d.fits.0) refl $
    suffices ! _ (ends_at 𝓛 f.ended stayed c y (slice_val (b, o) d.made) (r δ) (tt, tt) (tt, tt)) $
    nothing ! $ nothing ! $ fjoin ! $ join ! $ nothing ! $ move ! (2 ∷ 0 ∷ []) $ join ! $ join ! $ frame ! $ says ! refl $ done !)))))
