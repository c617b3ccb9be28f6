-- `push_four` writes four lines into the first of the room. Assumes `Logic`.
use Rattle.std.proofs.Common.{ℕ, ◌+◌, ◌-◌, ◌*◌, ◌<◌, ◌≤◌, ◌≡◌, ◌^◌, List, [], ◌∷◌, ◌++◌, length, length-append, append_assoc, refl, sym, ap, ◌∙◌, arith, w8}
use Rattle.std.proofs.raw_atomic.Walks.{proved}
use base.Fraction.{full_share}
use mir.Syntax.{named}
use mir.Val.{Val, vptr, vunit}
use base.Fml.{ftrue, froom, flft}
use contract.Monad.{fact}
use contract.Running.{tables}
use types.Kit.{‵, raw, ◌⊛◌, at_ret, ◌$◌, ◌∵◌, !, qed, move, keep, drop, use1, use2, split, join, fsplit3, fjoin, fjoin3, feq_i, suffices, frame, done}
use types.Part.{whole, sub, look_in, store_in}
use types.Run.{enter, of_opd, lit, unit_lit, bin, load, init, stop, fld, assigns, assigns_last, first, blocks, exec, returns}
use types.ByLocal.{alloc_all, pass_all, free_all, look_at, get, through, sets, env}
use denote.Array.{Array, array_vals, Array-Tells}
use denote.Builtin.{u8, ArrayOf}
use denote.Exit.{yes}
use denote.Memory.{lone, part_at}
use denote.Plain.{uint_vals, uint_Tells}
use denote.Ref.{MutRef, mut_vals, mut_Tells}
use denote.Signature.{Slot, plain}
use denote.Steps.{heard, nothing}
use denote.Triple.Walked.{Stays, walk_of, stay_ref, stay_dropped, Goes-ref, Goes-dropped, ends_at}
use Rattle.core.proofs.mem.Facts.{says_two}
use Rattle.std.proofs.VecSteps.Rows.{el_in, spare, snoc}
use Rattle.std.proofs.VecSteps.Shapes.{after}
use Rattle.line_store.specs.Memory.{Line, room_of}
use Rattle.line_store.specs.declared.lines.Lines.{Lines}
use Rattle.line_store.specs.contracts.lines.Lines as L
use Rattle.line_store.specs.contracts.lines.Lines.push_four as f
use Rattle.line_store.proofs.Memory.{line, line_laws}
use Rattle.line_store.proofs.Fields.{lines_opens, lines_closes}
use Rattle.line_store.proofs.lines.Lines.push_four.Statement.{statement}
use Rattle.line_store.proofs.lines.Lines.push_four.Code as code

abbrev a_line : Slot 1
a_line = ArrayOf (plain (λ _. u8)) (λ _. tt) 64

abbrev stayed : Stays f.ended.signature.params f.ended.kept
stayed = (stay_ref (0 ∷ []) tt (plain (λ _. L.the_row)), (stay_dropped a_line yes, (stay_dropped a_line yes, (stay_dropped a_line yes, (stay_dropped a_line yes, tt)))))

abbrev more : (d : Lines) (x : List ℕ) → length d.items < d.room → Lines
more d x less = record { at = d.at; made = d.made + 1; items = d.items ++ x ∷ []; room = d.room; fits = (ap (λ (n : ℕ). n + 1) d.fits.0 ∙ sym (length-append d.items (x ∷ [])), omega (arith, less, d.fits.0), d.fits.2) }

-- one behind the other is all four at once
all_four : (items : List (List ℕ)) (w x y z : List ℕ) → (((items ++ w ∷ []) ++ x ∷ []) ++ y ∷ []) ++ z ∷ [] ≡ items ++ w ∷ x ∷ y ∷ z ∷ []
all_four items w x y z = ap (λ (l : List (List ℕ)). (l ++ y ∷ []) ++ z ∷ []) (append_assoc items (w ∷ []) (x ∷ [])) ∙ ap (λ (l : List (List ℕ)). l ++ z ∷ []) (append_assoc items (w ∷ x ∷ []) (y ∷ [])) ∙ append_assoc items (w ∷ x ∷ y ∷ []) (z ∷ [])

pub push_four_spec : {M : Type 1} → statement M
push_four_spec 𝓤 𝓛 𝓜 𝓡 wired =
    let c = f.clauses 𝓛 𝓜.mem 𝓡.returns in let W = walk_of 𝓛 f.ended stayed c in let 𝓣 = tables 𝓤 𝓛.H 𝓜 𝓡 𝓡.env in
    proved 𝓛 f.ended stayed c 𝓜 𝓡 (Goes-ref 𝓛 1 0 tt (plain (λ _. L.the_row)), (Goes-dropped 𝓛 1 a_line yes (λ κs x w. refl), (Goes-dropped 𝓛 1 a_line yes (λ κs x w. refl), (Goes-dropped 𝓛 1 a_line yes (λ κs x w. refl), (Goes-dropped 𝓛 1 a_line yes (λ κs x w. refl), tt)))))
    f.Key.name code.function (code.unfolded 𝓤 𝓛.H 𝓜 𝓡 wired)
    (λ κs. (mut_vals, (array_vals (uint_vals w8), (array_vals (uint_vals w8), (array_vals (uint_vals w8), (array_vals (uint_vals w8), tt))))))
    (λ κs. (mut_Tells (named 0) κs.0 L.the_row, (Array-Tells u8 (uint_vals w8) (uint_Tells w8) 64, (Array-Tells u8 (uint_vals w8) (uint_Tells w8) 64, (Array-Tells u8 (uint_vals w8) (uint_Tells w8) 64, (Array-Tells u8 (uint_vals w8) (uint_Tells w8) 64, tt)))))) (λ κs qs bounds a _ are.
    let κ = κs.0 in let q = qs.0 in let rb = a.0.ref_ptr.0 in let ro = a.0.ref_ptr.1 in let d = a.0.now in
    let x0 = a.1.0 in let x1 = a.1.1.0 in let x2 = a.1.1.1.0 in let x3 = a.1.1.1.1.0 in
    let v0 = array_vals (uint_vals w8) x0 in let v1 = array_vals (uint_vals w8) x1 in let v2 = array_vals (uint_vals w8) x2 in let v3 = array_vals (uint_vals w8) x3 in
    let y : W.Ghost = ((κs, qs, bounds, a, (mut_vals a.0, (v0, (v1, (v2, (v3, tt)))))), tt) in
    qed 𝓛 (((‵ (flft κ q) ⊛ ‵ ftrue) ⊛ ‵ ((MutRef (named 0) κ L.the_row).own_val a.0 (mut_vals a.0)) ⊛ ‵ (Line.own_val x0 v0) ⊛ ‵ (Line.own_val x1 v1) ⊛ ‵ (Line.own_val x2 v2) ⊛ ‵ (Line.own_val x3 v3) ⊛ ‵ ftrue) ∷ raw (fact 𝓤 (length d.items + 4 ≤ d.room)) ∷ []) ∵
    move ! (1 ∷ []) $ heard ! _ (λ less. split ! $ split ! $ move ! (2 ∷ []) $ split ! $ move ! (1 ∷ []) $ split ! $ move ! (1 ∷ []) $ split ! $ move ! (1 ∷ []) $ split ! $ move ! (1 ∷ []) $ split ! $ keep ! (5 ∷ 6 ∷ 4 ∷ 3 ∷ 2 ∷ 0 ∷ []) $
    let typed0 = ((line_laws.lawful 𝓛).typed x0 v0 are.1.0).0 in
    let typed1 = ((line_laws.lawful 𝓛).typed x1 v1 are.1.1.0).0 in
    let typed2 = ((line_laws.lawful 𝓛).typed x2 v2 are.1.1.1.0).0 in
    let typed3 = ((line_laws.lawful 𝓛).typed x3 v3 are.1.1.1.1.0).0 in
    enter ! _ _ _ _ _ $ alloc_all ! (λ l. pass_all ! refl ((tt, tt), (typed0, (typed1, (typed2, (typed3, tt))))) $
    fsplit3 ! $ drop ! $ lines_opens ! tt d rb ro (λ b o e fits.
    let d1 = more d x0 (omega (arith, less, d.fits.0)) in
    let d2 = more d1 x1 (omega (arith, less, d.fits.0, d1.fits.0)) in
    let d3 = more d2 x2 (omega (arith, less, d.fits.0, d2.fits.0)) in
    let new = more d3 x3 (omega (arith, less, d.fits.0, d3.fits.0)) in
    let n = d.made in
    let p0 : n * 64 < 2 ^ 64 = omega (arith, less, d.fits.0, d.fits.2) in
    let p1 : (n + 1) * 64 < 2 ^ 64 = omega (arith, less, d.fits.0, d.fits.2) in
    let p2 : (n + 1 + 1) * 64 < 2 ^ 64 = omega (arith, less, d.fits.0, d.fits.2) in
    let p3 : (n + 1 + 1 + 1) * 64 < 2 ^ 64 = omega (arith, less, d.fits.0, d.fits.2) in
    let n1 : n + 1 < 2 ^ 64 = omega (arith, less, d.fits.0, d.fits.2) in
    let n2 : n + 1 + 1 < 2 ^ 64 = omega (arith, less, d.fits.0, d.fits.2) in
    let n3 : n + 1 + 1 + 1 < 2 ^ 64 = omega (arith, less, d.fits.0, d.fits.2) in
    let n4 : n + 1 + 1 + 1 + 1 < 2 ^ 64 = omega (arith, less, d.fits.0, d.fits.2) in
    move ! (1 ∷ []) $ use1 𝓛 (‵ (froom (lone Line.mir) b (n * 64 + o)) ⊛ ‵ (froom (room_of (d.room - (n + 1))) b (o + (n + 1) * 64))) (spare line 𝓛 b o n d.room (omega (arith, less, d.fits.0))) $ split ! $
    move ! (1 ∷ []) $ use1 𝓛 (‵ (froom (lone Line.mir) b ((n + 1) * 64 + o)) ⊛ ‵ (froom (room_of (d.room - (n + 1 + 1))) b (o + (n + 1 + 1) * 64))) (spare line 𝓛 b o (n + 1) d.room (omega (arith, less, d.fits.0))) $ split ! $
    move ! (1 ∷ []) $ use1 𝓛 (‵ (froom (lone Line.mir) b ((n + 1 + 1) * 64 + o)) ⊛ ‵ (froom (room_of (d.room - (n + 1 + 1 + 1))) b (o + (n + 1 + 1 + 1) * 64))) (spare line 𝓛 b o (n + 1 + 1) d.room (omega (arith, less, d.fits.0))) $ split ! $
    move ! (1 ∷ []) $ use1 𝓛 (‵ (froom (lone Line.mir) b ((n + 1 + 1 + 1) * 64 + o)) ⊛ ‵ (froom (room_of (d.room - (n + 1 + 1 + 1 + 1))) b (o + (n + 1 + 1 + 1 + 1) * 64))) (spare line 𝓛 b o (n + 1 + 1 + 1) d.room (omega (arith, less, d.fits.0))) $ split ! $
    move ! (4 ∷ 3 ∷ 2 ∷ 0 ∷ 1 ∷ []) $
    -- [the room of the four lines; that of the rest; the lines; the fields; the open borrow, in three entries; the new lines]
    sets ! (of_opd ! (load ! (through ! refl (fld ! refl (stop !))) (look_in ! 6 (sub ! 0 refl (whole !))))) refl (tt, tt) $
    sets ! (of_opd ! (load ! (through ! refl (fld ! refl (stop !))) (look_in ! 6 (sub ! 1 refl (whole !))))) refl (tt, record { fits = fits }) $
    sets ! (bin ! (get ! refl) (lit ! tt) (record { fits = n1 })) refl (tt, record { fits = n1 }) $
    sets ! (bin ! (get ! refl) (lit ! tt) (record { fits = n2 })) refl (tt, record { fits = n2 }) $
    sets ! (bin ! (get ! refl) (lit ! tt) (record { fits = n3 })) refl (tt, record { fits = n3 }) $
    first ! $ blocks ! $
    sets ! (bin ! (get ! refl) (lit ! tt) (record { fits = p0 })) refl (tt, record { fits = p0 }) $
    sets ! (bin ! (get ! refl) (get ! refl) tt) refl (tt, tt) $
    assigns ! (of_opd ! (get ! refl)) (through ! refl (stop !)) (init ! 0 refl typed0) $
    sets ! (bin ! (get ! refl) (lit ! tt) (record { fits = p1 })) refl (tt, record { fits = p1 }) $
    sets ! (bin ! (get ! refl) (get ! refl) tt) refl (tt, tt) $
    assigns ! (of_opd ! (get ! refl)) (through ! refl (stop !)) (init ! 1 refl typed1) $
    sets ! (bin ! (get ! refl) (lit ! tt) (record { fits = p2 })) refl (tt, record { fits = p2 }) $
    sets ! (bin ! (get ! refl) (get ! refl) tt) refl (tt, tt) $
    assigns ! (of_opd ! (get ! refl)) (through ! refl (stop !)) (init ! 2 refl typed2) $
    sets ! (bin ! (get ! refl) (lit ! tt) (record { fits = p3 })) refl (tt, record { fits = p3 }) $
    sets ! (bin ! (get ! refl) (get ! refl) tt) refl (tt, tt) $
    assigns_last ! (of_opd ! (get ! refl)) (through ! refl (stop !)) (init ! 3 refl typed3) $
    exec ! 𝓣.C 𝓣.Λ (env code.Mir.locals l) (after 6 (code.function).body) (at_ret _ (W.post y)) $
    sets ! (bin ! (get ! refl) (lit ! tt) (record { fits = n4 })) refl (tt, record { fits = n4 }) $
    assigns ! (of_opd ! (get ! refl)) (through ! refl (fld ! refl (stop !))) (store_in ! 6 (sub ! 1 refl (whole !)) (tt, record { fits = n4 })) $
    sets ! (of_opd ! (unit_lit !)) refl (tt, tt) $
    move ! (0 ∷ 10 ∷ []) $ use2 𝓛 (‵ (part_at Line full_share x0 b (n * 64 + o))) (el_in line 𝓛 full_share x0 b (n * 64 + o) _) $
    move ! (1 ∷ 10 ∷ []) $ use2 𝓛 (‵ (part_at Line full_share x1 b ((n + 1) * 64 + o))) (el_in line 𝓛 full_share x1 b ((n + 1) * 64 + o) _) $
    move ! (2 ∷ 10 ∷ []) $ use2 𝓛 (‵ (part_at Line full_share x2 b ((n + 1 + 1) * 64 + o))) (el_in line 𝓛 full_share x2 b ((n + 1 + 1) * 64 + o) _) $
    move ! (3 ∷ 10 ∷ []) $ use2 𝓛 (‵ (part_at Line full_share x3 b ((n + 1 + 1 + 1) * 64 + o))) (el_in line 𝓛 full_share x3 b ((n + 1 + 1 + 1) * 64 + o) _) $
    move ! (5 ∷ 3 ∷ []) $ use2 𝓛 (‵ (part_at (Array Line (n + 1)) full_share d1.items b o)) (snoc line 𝓛 b o n d.items x0) $
    move ! (0 ∷ 3 ∷ []) $ use2 𝓛 (‵ (part_at (Array Line (n + 1 + 1)) full_share d2.items b o)) (snoc line 𝓛 b o (n + 1) d1.items x1) $
    move ! (0 ∷ 2 ∷ []) $ use2 𝓛 (‵ (part_at (Array Line (n + 1 + 1 + 1)) full_share d3.items b o)) (snoc line 𝓛 b o (n + 1 + 1) d2.items x2) $
    move ! (0 ∷ 1 ∷ []) $ use2 𝓛 (‵ (part_at (Array Line (n + 1 + 1 + 1 + 1)) full_share new.items b o)) (snoc line 𝓛 b o (n + 1 + 1 + 1) d3.items x3) $
    lines_closes ! tt new b o rb ro e $ returns ! (look_at ! 0 refl) $ free_all ! refl $ keep ! (0 ∷ 1 ∷ 2 ∷ []) $
    suffices ! _ (ends_at 𝓛 f.ended stayed c y vunit tt (new, (tt, (tt, (tt, (tt, tt))))) (tt, (tt, (tt, (tt, (tt, tt)))))) $ says_two ! (all_four d.items x0 x1 x2 x3, (refl, refl)) $
    nothing ! $ move ! (3 ∷ 0 ∷ []) $ join ! $ frame ! $ feq_i ! (List Val) (vptr rb ro ∷ []) (vptr rb ro ∷ []) refl $ fjoin3 ! $ nothing ! $ nothing ! $ fjoin ! $ nothing ! $ fjoin ! $ nothing ! $ fjoin ! $ nothing ! $ fjoin ! $ move ! (1 ∷ 0 ∷ []) $ fjoin ! $
    feq_i ! (List Val) (vunit ∷ []) (vunit ∷ []) refl $ move ! (1 ∷ 0 ∷ []) $ done !))))
