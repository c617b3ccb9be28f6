-- `line_mut` lends one line, and the memory follows it. Assumes `Logic`.
use Rattle.std.proofs.Common.{◌≡◌, ℕ, ◌+◌, ◌-◌, ◌*◌, ◌<◌, ◌^◌, List, [], ◌∷◌, length, get_or, set, refl, sym, arith, w64}
use Rattle.std.proofs.raw_atomic.Walks.{proved}
use seplogic.Ra.Ura.{Ura}
use base.Fraction.{full_share}
use mir.Syntax.{named}
use mir.Val.{Val, vptr, vint}
use base.Logic.{ent, sep}
use base.Fml.{GName, Fml, ftrue, fsep, froom, flft}
use contract.Monad.{fact}
use contract.Running.{tables}
use types.Logic.{Logic, sem}
use types.Kit.{‵, raw, ◌⊛◌, some, given, later, await, pick, learn, at_ret, ◌$◌, ◌∵◌, !, qed, move, keep, drop, use1, use2, split, join, group, fsplit3, fjoin, fjoin3, fpack, suffices, frame, done}
use types.Part.{whole, sub, look_in}
use types.Run.{enter, of_opd, lit, bin, addr, load, stop, fld, first, blocks, exec, returns}
use types.ByLocal.{alloc_all, pass_all, free_all, look_at, get, through, sets, sets_last, env}
use denote.Array.{Array}
use denote.Builtin.{usize}
use denote.Exit.{yes, no}
use denote.Follow.{follows, lends_Part}
use denote.Index.{others}
use denote.Memory.{part_at, part_of, cell_at, mem, shares}
use denote.Plain.{uint_vals, uint_Tells}
use denote.RawPtr.{block_ptr}
use denote.Ref.{MutRef, MutBor, mut_vals, mut_Tells}
use denote.Signature.{plain, mut_ref_to}
use denote.Steps.{heard, nothing}
use denote.Triple.Walked.{Stays, walk_of, says, stay_dropped, Goes-dropped, Goes-spent_ref, ends_at}
use Rattle.std.proofs.VecSteps.Rows.{take_out, put_in}
use Rattle.std.proofs.VecSteps.Shapes.{after}
use Rattle.line_store.specs.Memory.{Line, room_of}
use Rattle.line_store.specs.Lends.{with_item}
use Rattle.line_store.specs.declared.lines.Lines.{Lines}
use Rattle.line_store.specs.contracts.lines.Lines as L
use Rattle.line_store.specs.contracts.lines.Lines.line_mut as f
use Rattle.line_store.proofs.Memory.{line}
use Rattle.line_store.proofs.Fields.{lines_val, lines_opens, lines_made}
use Rattle.line_store.proofs.lines.Lines.line_mut.Statement.{statement}
use Rattle.line_store.proofs.lines.Lines.line_mut.Code as code

abbrev stayed : Stays f.ended.signature.params f.ended.kept
stayed = (stay_dropped (mut_ref_to (0 ∷ []) tt (plain (λ _. L.the_row))) no, (stay_dropped (plain (λ _. usize)) yes, tt))

module _ {M : Type 1} {𝓤 : Ura M} (𝓛 : Logic 𝓤) (d : Lines) (i b o rb ro : ℕ) where
  -- the other lines, the room behind them, and the fields
  abbrev Rest : Fml
  Rest = fsep (others (shares Line) full_share d.items i b o) (fsep (froom (room_of (d.room - d.made)) b (o + d.made * 64)) (cell_at full_share L.the_row.mir (lines_val (block_ptr b o) d.made ∷ []) rb ro))

  back : d.at ≡ block_ptr b o → i < d.made → (w : List ℕ) → ent 𝓤 (sep 𝓤 (sem 𝓛 ((mem Line).own_at w b (i * 64 + o))) (sem 𝓛 Rest)) (sem 𝓛 ((mem L.the_row).own_at (with_item d i w) rb ro))
  unfolding part_of
  back e inside w =
      qed 𝓛 (‵ (part_at Line full_share w b (i * 64 + o)) ∷ ‵ Rest ∷ []) ∵ move ! (1 ∷ []) $ fsplit3 ! $ move ! (3 ∷ 0 ∷ []) $
      use2 𝓛 (‵ (part_at (Array Line d.made) full_share (set d.items i w) b o)) (put_in line 𝓛 d.made d.items i w b o inside (sym d.fits.0)) $
      lines_made ! (with_item d i w) b o rb ro e $ fjoin ! $
      fpack ! (List Val) (λ us. fsep (cell_at full_share L.the_row.mir us rb ro) (L.the_row.own_val (with_item d i w) us)) (lines_val d.at d.made ∷ []) $ done !

pub line_mut_spec : {M : Type 1} → statement M
line_mut_spec 𝓤 𝓛 𝓜 𝓡 wired =
    let c = f.clauses 𝓛 𝓜.mem 𝓡.returns in let W = walk_of 𝓛 f.ended stayed c in let 𝓣 = tables 𝓤 𝓛.H 𝓜 𝓡 𝓡.env in
    proved 𝓛 f.ended stayed c 𝓜 𝓡 (Goes-spent_ref 𝓛 1 (0 ∷ []) tt (plain (λ _. L.the_row)), (Goes-dropped 𝓛 1 (plain (λ _. usize)) yes (λ κs x w. refl), tt))
    f.Key.name code.function (code.unfolded 𝓤 𝓛.H 𝓜 𝓡 wired)
    (λ κs. (mut_vals, (uint_vals w64, tt))) (λ κs. (mut_Tells (named 0) κs.0 L.the_row, (uint_Tells w64, tt))) (λ κs qs bounds a _ are.
    let κ = κs.0 in let q = qs.0 in let rb = a.0.ref_ptr.0 in let ro = a.0.ref_ptr.1 in let γ = a.0.ghost_name in let d = a.0.now in let i = a.1.0 in
    let y : W.Ghost = ((κs, qs, bounds, a, (mut_vals a.0, (uint_vals w64 i, tt))), tt) in
    qed 𝓛 (((‵ (flft κ q) ⊛ ‵ ftrue) ⊛ ‵ ((MutRef (named 0) κ L.the_row).own_val a.0 (mut_vals a.0)) ⊛ ‵ (usize.own_val i (vint w64 i ∷ [])) ⊛ ‵ ftrue) ∷ raw (fact 𝓤 (i < length d.items)) ∷ []) ∵
    move ! (1 ∷ []) $ heard ! _ (λ there. split ! $ split ! $ move ! (2 ∷ []) $ split ! $ keep ! (0 ∷ 2 ∷ []) $
    enter ! _ _ _ _ _ $ alloc_all ! (λ l. pass_all ! refl ((tt, tt), ((tt, record { fits = are.1.0.1 }), tt)) $
    fsplit3 ! $ drop ! $ lines_opens ! tt d rb ro (λ b o e fits.
    let inside : i < d.made = omega (arith, there, d.fits.0) in let place : i * 64 < 2 ^ 64 = omega (arith, inside, d.fits.1, d.fits.2) in
    let x = get_or d.items i [] in let to = i * 64 + o in
    let r : GName → MutBor (List ℕ) = λ δ. record { ref_ptr = (b, to); ghost_name = δ; now = x } in
    use1 𝓛 (given (length d.items ≡ d.made) (‵ (part_at Line full_share x b to) ⊛ ‵ (others (shares Line) full_share d.items i b o))) (take_out line 𝓛 d.made d.items i [] b o inside) $ learn ! (λ _. split ! $
    -- [the line; the others; the room; the fields; the open borrow, in three entries]
    first ! $ blocks ! $
    sets ! (of_opd ! (load ! (through ! refl (fld ! refl (stop !))) (look_in ! 3 (sub ! 0 refl (whole !))))) refl (tt, tt) $
    sets ! (bin ! (get ! refl) (lit ! tt) (record { fits = place })) refl (tt, record { fits = place }) $
    sets ! (bin ! (get ! refl) (get ! refl) tt) refl (tt, tt) $
    sets_last ! (addr ! (through ! refl (stop !))) refl (tt, tt) $
    exec ! 𝓣.C 𝓣.Λ (env code.Mir.locals l) (after 1 (code.function).body) (at_ret _ (W.post y)) $
    sets ! (of_opd ! (get ! refl)) refl (tt, tt) $
    move ! (1 ∷ 2 ∷ 3 ∷ []) $ fjoin3 ! $ move ! (2 ∷ 3 ∷ 4 ∷ 1 ∷ 0 ∷ []) $ group ! 5 $
    use1 𝓛 (later (some (λ (δ : GName). ‵ ((MutRef (named 0) κ Line).own_val (r δ) (vptr b to ∷ [])) ⊛ ‵ (flft κ q) ⊛ ‵ (follows L.the_row Line γ δ (with_item d i)))))
    (lends_Part 𝓛 L.the_row Line (with_item d i) (named 0) κ q rb ro b to γ (sem 𝓛 (Rest 𝓛 d i b o rb ro)) (back 𝓛 d i b o rb ro e inside) (L.the_row.coded.code d) (L.the_row.coded.code d) x) $ await ! tt $ pick ! (λ δ.
    returns ! (look_at ! 0 refl) $ free_all ! refl $ split ! $ move ! (1 ∷ []) $ split ! $ move ! (2 ∷ 0 ∷ 1 ∷ []) $ keep ! (0 ∷ 1 ∷ 2 ∷ []) $
    suffices ! _ (ends_at 𝓛 f.ended stayed c y (vptr b to) (r δ) (tt, (tt, tt)) (tt, (tt, tt))) $
    nothing ! $ nothing ! $ fjoin ! $ nothing ! $ fjoin ! $ join ! $ nothing ! $ move ! (2 ∷ 0 ∷ []) $ join ! $ join ! $ frame ! $ says ! refl $ done !))))))
