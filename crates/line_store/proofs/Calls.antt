-- What the walks that call an allocator share: the machine values of a `Lease` and of a pair, and parts of a body. Assumes `Logic`.
use Rattle.std.proofs.Common.{◌≡◌, ℕ, zero, suc, List, [], ◌∷◌, ◌++◌, refl, ◌∙◌}
use seplogic.Ra.Ura.{Ura}
use mir.Syntax.{Body}
use mir.Val.{Val, vstruct, vcons, vnil, of_list}
use base.Logic.{ent, sep, emp}
use base.Fml.{Fml}
use prog.Wp.{Env, Calls, Loops, Wp, after_seq, after_block}
use types.Logic.{Logic, sem}
use types.Kit.{‵, ◌$◌, ◌∵◌, !, qed, move, fjoin, fpack, feq_i, done, Post, any_q, post}
use denote.Builtin.{unit}
use denote.RattleType.{RattleType, Valss}
use denote.Shadow.{shadow, makes_shadow}
use denote.Signature.{Slot, plain}
use denote.Steps.{nothing}
use denote.Struct.Struct.{Struct, within}
use denote.Struct.Declared as Declared
use denote.Struct.Tuple.{Tuple, tuple_type}

-- a struct by its fields alone: what it owns does not read its name
abbrev plainly : List RattleType → RattleType
plainly Rs = Struct (record { name = []; args = []; types = []; fields = Rs })

abbrev pub lease_val : Val
lease_val = vstruct (vcons (vstruct vnil) vnil)

abbrev pub lease_own : List Val → Fml
lease_own = (plainly (plainly [] ∷ [])).own_val (tt, tt)

pub lease_told : (vs : List Val) → shadow (lease_own vs) → vs ≡ lease_val ∷ []
lease_told vs s = s.1.0 ∙ (λ i. vstruct (of_list (s.1.1.0.1.0 i ++ [])) ∷ [])

pub lease_made : {M : Type 1} {𝓤 : Ura M} (𝓛 : Logic 𝓤) → ent 𝓤 (emp 𝓤) (sem 𝓛 (lease_own (lease_val ∷ [])))
lease_made 𝓛 = makes_shadow 𝓛 (lease_own (lease_val ∷ [])) (λ _. (tt, ((λ _. (tt, tt)), tt))) ((vstruct vnil ∷ [], tt), (refl, ((tt, (refl, tt)), tt)))

abbrev pub pair_val : Val → Val → Val
pair_val v w = vstruct (vcons v (vcons w vnil))

pub pair_of : {M : Type 1} {𝓤 : Ura M} (𝓛 : Logic 𝓤) (R S : RattleType) (x : R.Denot) (y : S.Denot) (v w : Val)
    → ent 𝓤 (sep 𝓤 (sem 𝓛 (R.own_val x (v ∷ []))) (sem 𝓛 (S.own_val y (w ∷ [])))) (sem 𝓛 ((Tuple (R ∷ S ∷ [])).own_val (x, y) (pair_val v w ∷ [])))
pair_of 𝓛 R S x y v w = qed 𝓛 (‵ (R.own_val x (v ∷ [])) ∷ ‵ (S.own_val y (w ∷ [])) ∷ []) ∵ nothing ! $ move ! (2 ∷ 0 ∷ []) $ fjoin ! $ move ! (1 ∷ 0 ∷ []) $ fjoin ! $
    feq_i ! (List Val) (pair_val v w ∷ []) (pair_val v w ∷ []) refl $ fjoin ! $
    fpack ! (Valss (R ∷ S ∷ [])) (within (Declared.shape (tuple_type (R ∷ S ∷ []))) (x, (y, tt)) (pair_val v w ∷ [])) (v ∷ [], (w ∷ [], tt)) $ done !

abbrev pub slot_at : {n : ℕ} → ℕ → List (Slot n) → Slot n
slot_at k [] = plain (λ _. unit)
slot_at zero (s ∷ ss) = s
slot_at (suc k) (s ∷ ss) = slot_at k ss

module _ {M : Type 1} {𝓤 : Ura M} (𝓛 : Logic 𝓤) where
  open 𝓛 use {H}

  -- what runs after a part of a body, and after a block
  abbrev pub then_runs : Calls 𝓤 H → Loops 𝓤 H → Env 𝓤 H → Body → Post 𝓤 H → Post 𝓤 H
  then_runs C Λ E b q = any_q (after_seq 𝓤 H (Wp 𝓤 H C Λ E b (post 𝓤 H q)) (post 𝓤 H q))

  abbrev pub out_of_block : Post 𝓤 H → Post 𝓤 H
  out_of_block q = any_q (after_block 𝓤 H (post 𝓤 H q))
