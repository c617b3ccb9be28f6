-- The fields of a `Lines`: their machine value, what a `&` shows of them, and a `&mut` opened. Assumes `Logic`.
use Rattle.std.proofs.Common.{◌≡◌, ℕ, ◌+◌, ◌-◌, ◌*◌, ◌^◌, ◌<◌, List, [], ◌∷◌, ◌++◌, refl, sym, ap, ◌∙◌, arith, w64}
use base.Fraction.{full_share}
use base.Stored.{Gv}
use mir.Val.{Val, vint, vstruct, vcons, vnil, of_list}
use seplogic.Ra.Ura.{Ura}
use base.Logic.{ent, sep, emp, id⊢, never}
use base.Fml.{Lft, GName, Share, Fml, froom, flft, fobs, fauth, fbor, fobor}
use types.Logic.{Logic, sem}
use types.Kit.{Goal, Soaks, Step, step, Seq, Item, ‵, ◌$◌, ◌∵◌, !, qed, move, keep, drop, use0, rewrite, fsplit, fjoin, done}
use types.SemTy.{Body}
use denote.Builtin.{usize}
use denote.RattleType.{RattleType, RowLaws}
use denote.Array.{Array}
use denote.Laws.{Is, shows}
use denote.Memory.{hidden_shr, part_at, cell_at, mem}
use denote.Opens.{shr_dup, unhide, hide}
use denote.Plain.{uint_row_laws}
use denote.RawPtr.{Ptr, RawPtr, block_ptr, ptr_val, ptr_row_laws, in_a_block}
use denote.Shadow.{shadow, makes_shadow}
use denote.Steps.{opens, closes, peeks}
use denote.Struct.Struct.{Struct, Struct-row_laws}
use denote.Struct.Owning.{shape}
use Rattle.line_store.specs.Memory.{Line, room_of, lines_own}
use Rattle.line_store.specs.declared.lines.Lines.{Lines}
use Rattle.line_store.specs.contracts.lines.Lines as L
use Rattle.line_store.proofs.lines.Lines.TheLaws.{lowers}

-- the fields, as a plain struct
abbrev pub Words : RattleType
Words = Struct (shape L.the_type)

words_laws : RowLaws Words
words_laws = Struct-row_laws (shape L.the_type) (ptr_row_laws, (uint_row_laws w64, tt))

-- their machine value
abbrev pub lines_val : Ptr → ℕ → Val
lines_val at made = vstruct (vcons (ptr_val at) (vcons (vint w64 made) vnil))

abbrev pub words_own : Ptr → ℕ → List Val → Fml
words_own at made = Words.own_val (at, (made, tt))

pub words_told : (at : Ptr) (made : ℕ) (vs : List Val) → shadow (words_own at made vs) → (vs ≡ lines_val at made ∷ []) × (made < 2 ^ 64)
words_told at made vs s = (s.1.0 ∙ (λ i. vstruct (of_list (s.1.1.0 i ++ (s.1.1.1.0.0 i ++ []))) ∷ []), s.1.1.1.0.1)

pub words_made : {M : Type 1} {𝓤 : Ura M} (𝓛 : Logic 𝓤) (at : Ptr) (made : ℕ) → made < 2 ^ 64 → ent 𝓤 (emp 𝓤) (sem 𝓛 (words_own at made (lines_val at made ∷ [])))
words_made 𝓛 at made fits = makes_shadow 𝓛 (words_own at made (lines_val at made ∷ [])) (λ _. (tt, (tt, ((tt, tt), tt)))) ((ptr_val at ∷ [], (vint w64 made ∷ [], tt)), (refl, (refl, ((refl, fits), tt))))

module _ {M : Type 1} {𝓤 : Ura M} (𝓛 : Logic 𝓤) (κ : Lft) (b o : ℕ) (d : Lines) where
  abbrev pub Seen : Fml
  Seen = hidden_shr Words κ (d.at, (d.made, tt)) b o

  pub shows_at : ent 𝓤 (sem 𝓛 Seen) (sep 𝓤 (sem 𝓛 (hidden_shr RawPtr κ d.at b (o + 0))) (sem 𝓛 Seen))
  shows_at = qed 𝓛 (‵ Seen ∷ []) ∵ shr_dup ! Words words_laws (d.at, (d.made, tt)) b o κ $ unhide ! $ fsplit ! $ fsplit ! $ hide ! $ keep ! (0 ∷ 3 ∷ []) $ done !

  pub shows_made : ent 𝓤 (sem 𝓛 Seen) (sep 𝓤 (sem 𝓛 (hidden_shr usize κ d.made b (o + 8))) (sem 𝓛 Seen))
  shows_made = qed 𝓛 (‵ Seen ∷ []) ∵ shr_dup ! Words words_laws (d.at, (d.made, tt)) b o κ $ unhide ! $ fsplit ! $ fsplit ! $ drop ! $ fsplit ! $ hide ! $ keep ! (0 ∷ 3 ∷ []) $ done !

-- the lines made, the room behind them, the fields' cell, and the open borrow
module _ {M : Type 1} {𝓤 : Ura M} {𝓛 : Logic 𝓤} {K : Type 0} {Γ : List (Item 𝓤)} {G : Goal 𝓤 𝓛.H} where
  pub lines_opens : K → Soaks G → {κ : Lft} {q : Share} {γ : GName} (d : Lines) (rb ro : ℕ)
      → ((b o : ℕ) → d.at ≡ block_ptr b o → d.made < 2 ^ 64
      → Seq K 𝓛 (‵ (part_at (Array Line d.made) full_share d.items b o) ∷ ‵ (froom (room_of (d.room - d.made)) b (o + d.made * 64)) ∷ ‵ (cell_at full_share L.the_row.mir (lines_val (block_ptr b o) d.made ∷ []) rb ro)
      ∷ ‵ (fobor κ q (Body (mem L.the_row) rb ro γ)) ∷ ‵ (fobs γ (L.the_row.coded.code d)) ∷ ‵ (fauth γ (L.the_row.coded.code d)) ∷ Γ) G)
      → Seq K 𝓛 (‵ (fobs γ (L.the_row.coded.code d)) ∷ ‵ (fbor κ (Body (mem L.the_row) rb ro γ)) ∷ ‵ (flft κ q) ∷ Γ) G
  lines_opens t z d rb ro k = opens t z L.the_row {h = d} rb ro (λ us. move t (1 ∷ []) $ peeks t L.the_row (Is L.the_row) (shows 𝓛 L.the_row) d us (λ is. fsplit t $ move t (1 ∷ []) $
      in_a_block t d.at (λ p. lines_own p d.made d.items d.room) (id⊢ 𝓤 (never 𝓤)) (λ b o e. fsplit t $ move t (2 ∷ []) $ drop t $
      rewrite t 2 (λ (ws : List Val). ‵ (cell_at full_share L.the_row.mir ws rb ro)) (lowers.val_is d us is ∙ ap (λ (p : Ptr). lines_val p d.made ∷ []) e) refl $ k b o e (omega (arith, d.fits.1, d.fits.2)))))

  -- the fields' cell and what is owned, of those parts
  pub lines_made : K → (d : Lines) (b o rb ro : ℕ) → d.at ≡ block_ptr b o
      → Step K 𝓛 (‵ (cell_at full_share L.the_row.mir (lines_val d.at d.made ∷ []) rb ro) ∷ ‵ (L.the_row.own_val d (lines_val d.at d.made ∷ [])) ∷ Γ) G
      (‵ (part_at (Array Line d.made) full_share d.items b o) ∷ ‵ (froom (room_of (d.room - d.made)) b (o + d.made * 64)) ∷ ‵ (cell_at full_share L.the_row.mir (lines_val (block_ptr b o) d.made ∷ []) rb ro) ∷ Γ) G
  lines_made t d b o rb ro e = step (λ s. fjoin t $ rewrite t 0 (λ (p : Ptr). ‵ (lines_own p d.made d.items d.room)) (sym e) refl $
      use0 𝓛 (‵ (words_own d.at d.made (lines_val d.at d.made ∷ []))) (words_made 𝓛 d.at d.made (omega (arith, d.fits.1, d.fits.2))) $ fjoin t $ move t (1 ∷ []) $
      rewrite t 0 (λ (p : Ptr). ‵ (cell_at full_share L.the_row.mir (lines_val p d.made ∷ []) rb ro)) (sym e) refl $ s)

module _ {M : Type 1} {𝓤 : Ura M} {𝓛 : Logic 𝓤} {K : Type 0} {Γ : List (Item 𝓤)} {G : Goal 𝓤 𝓛.H} where
  pub lines_closes : K → Soaks G → {κ : Lft} {q : Share} {u v : Gv} {γ : GName} (d : Lines) (b o rb ro : ℕ) → d.at ≡ block_ptr b o
      → Step K 𝓛 (‵ (fobs γ (L.the_row.coded.code d)) ∷ ‵ (fbor κ (Body (mem L.the_row) rb ro γ)) ∷ ‵ (flft κ q) ∷ Γ) G
      (‵ (part_at (Array Line d.made) full_share d.items b o) ∷ ‵ (froom (room_of (d.room - d.made)) b (o + d.made * 64)) ∷ ‵ (cell_at full_share L.the_row.mir (lines_val (block_ptr b o) d.made ∷ []) rb ro)
      ∷ ‵ (fobor κ q (Body (mem L.the_row) rb ro γ)) ∷ ‵ (fobs γ u) ∷ ‵ (fauth γ v) ∷ Γ) G
  lines_closes t z d b o rb ro e = step (λ s. lines_made t d b o rb ro e $ closes t z L.the_row d (lines_val d.at d.made ∷ []) rb ro $ s)
