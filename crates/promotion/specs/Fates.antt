use Rattle.std.specs.Prelude.{◌≡◌, ℕ, ◌==◌, Bool, true, false, nat_eq, [], Some, None, is_some, refl}
use Rattle.std.proofs.Common.{sym, ap, subst, ◌∙◌, arith}
use Rattle.std.proofs.lemmas.Bool.Decides.{nat_tests}
use Rattle.std.specs.FinMap.{get}
use Rattle.number_maps.specs.Keys.{by_key}
use Rattle.ledger.specs.Ledger.{Holding, Ledger, is_alone, is_unused, holding_at, with_page, without_page}
use Rattle.ledger.specs.Changes.{without_own}
use Rattle.ledger.specs.PlaceLaws.{gone_other, gone_over, put_here, put_other, put_spaces, space_of_page}
use Rattle.ledger.specs.UnitLaws.{alone_is}
use Rattle.overlay_memory.specs.PageLaws.{some_is}
use Rattle.ledger.specs.AloneLaws.{IsAlone, alone_apart, alone_kept, any_page, contradicts, not_true, unused_parts}

-- A ledger in which some pages of a space were settled, and when two such are alike.

-- What a page holds now: what it held, where it wasn't altered; else it has no own lines, and the origin that it had where it was
-- alone; where it wasn't, it is alone now.
abbrev pub IsFate : Bool → Bool → Ledger → ℕ → ℕ → Holding → Holding → Type 0
IsFate false alone now space page was is = is ≡ was
IsFate true true now space page was is = is ≡ without_own was.origin
IsFate true false now space page was is = (is.own ≡ []) × (is_alone now space page ≡ true)

pub record HasFate (altered alone : Bool) (now : Ledger) (space page : ℕ) (was : Holding) : Type 0 where
  pub is : Holding
  pub there : holding_at now space page ≡ Some is
  pub fate : IsFate altered alone now space page was is

pub record AreTurned (altered alone : ℕ → Bool) (before now : Ledger) (space : ℕ) : Type 0 where
  pub spaces : (q : ℕ) → is_some (get now q) ≡ is_some (get before q)
  pub others : (q r : ℕ) → (q ≡ space → ⊥) → holding_at now q r ≡ holding_at before q r
  pub absent : (r : ℕ) → holding_at before space r ≡ None → holding_at now space r ≡ None
  pub pages : (r : ℕ) (x : Holding) → holding_at before space r ≡ Some x → HasFate (altered r) (alone r) now space r x

-- what a page holds without own lines
pub bare_is : (z : Holding) (o : ℕ) → z.own ≡ [] → z.origin ≡ o → z ≡ without_own o
bare_is z o own origin = λ i. record { origin = origin i; own = own i }

pub fate_same : (t t' a a' : Bool) (now : Ledger) (space page : ℕ) (was is : Holding) → t ≡ t' → a ≡ a' → IsFate t' a' now space page was is → IsFate t a now space page was is
fate_same t t' a a' now space page was is e h fate =
    subst (λ b. IsFate b a now space page was is) (sym e) (subst (λ b. IsFate t' b now space page was is) (sym h) fate)

-- none was altered yet
pub none_altered : (a : ℕ → Bool) (before : Ledger) (space : ℕ) → AreTurned (λ r. false) a before before space
none_altered a before space = record {
  spaces = λ q. refl;
  others = λ q r d. refl;
  absent = λ r e. e;
  pages = λ r x at. record { is = x; there = at; fate = refl };
}

-- the origin of a page that was alone stays
origin_kept : (t a : ℕ → Bool) (before now : Ledger) (space page : ℕ) (x y : Holding) → AreTurned t a before now space
    → holding_at before space page ≡ Some x → holding_at now space page ≡ Some y → a page ≡ true → y.origin ≡ x.origin
origin_kept t a before now space page x y h was at alone =
    let f = h.pages page x was in
    ap (λ (z : Holding). z.origin) (some_is y f.is (sym at ∙ f.there)) ∙ by_turn (t page) (a page) f.is alone f.fate
  where
    by_turn : (b c : Bool) (z : Holding) → c ≡ true → IsFate b c now space page x z → z.origin ≡ x.origin
    by_turn false c z e fate = ap (λ (z : Holding). z.origin) fate
    by_turn true true z e fate = ap (λ (z : Holding). z.origin) fate
    by_turn true false z e fate = cc

-- An origin that no other page has differs from each other page's.
unlike : (now : Ledger) (space page r : ℕ) (origin : ℕ) (y : Holding) → is_unused (without_page now space page) origin ≡ true → (r ≡ page → ⊥)
    → holding_at now space r ≡ Some y → nat_eq origin y.origin ≡ false
unlike now space page r origin y unused other at = not_true _ (λ same.
    contradicts (without_page now space page) origin
    (any_page (λ (holding : Holding). holding.origin == origin) (without_page now space page) space r y (gone_other now space page space r (λ _ e. other e) ∙ at) (altered origin y.origin same))
    (unused_parts (without_page now space page) origin unused).1)
  where
    altered : (m n : ℕ) → nat_eq m n ≡ true → nat_eq n m ≡ true
    altered m n e = grind (arith, nat_tests)

-- One page more is settled.
module _ (t u a : ℕ → Bool) (before now : Ledger) (space page : ℕ) (x y z : Holding)
    (h : AreTurned t a before now space) (was : holding_at before space page ≡ Some x) (at : holding_at now space page ≡ Some y)
    (turns : u page ≡ true) (stays : (r : ℕ) → (r ≡ page → ⊥) → u r ≡ t r) (own : z.own ≡ [])
    (kept : a page ≡ true → z.origin ≡ x.origin) (fresh : a page ≡ false → is_unused (without_page now space page) z.origin ≡ true) where
  still_alone : (r : ℕ) (w : Holding) → (r ≡ page → ⊥) → holding_at now space r ≡ Some w → is_alone now space r ≡ true
      → is_alone (with_page now space page z) space r ≡ true
  still_alone r w other there alone = alone_kept now space page space r y z w (λ _ e. other e) at there (same (a page) refl) ∙ alone
    where
      same : (b : Bool) → a page ≡ b → nat_eq z.origin w.origin ≡ nat_eq y.origin w.origin
      same true e = ap (λ o. nat_eq o w.origin) (kept e ∙ sym (origin_kept t a before now space page x y h was at e))
      same false e =
          let apart : IsAlone now space r = alone_apart now space r alone in
          unlike now space page r z.origin w (fresh e) other there
          ∙ sym (ap (λ (v : Holding). nat_eq y.origin v.origin) (some_is w apart.holding (sym there ∙ apart.there))
          ∙ apart.others space page y (λ _ e. other (sym e)) at)

  fate_here : (b : Bool) → a page ≡ b → IsFate true b (with_page now space page z) space page x z
  fate_here true e = bare_is z x.origin own (kept e)
  fate_here false e = (
    own,
    alone_is (with_page now space page z) space page z (put_here now space page z space page refl refl)
        ∙ ap (λ (l : Ledger). is_unused l z.origin) (gone_over now space page z) ∙ fresh e,
  )

  fate_there : (r : ℕ) (w v : Holding) → (r ≡ page → ⊥) → holding_at now space r ≡ Some v → (b c : Bool) → IsFate b c now space r w v
      → IsFate b c (with_page now space page z) space r w v
  fate_there r w v other there false c fate = fate
  fate_there r w v other there true true fate = fate
  fate_there r w v other there true false fate = (fate.0, still_alone r v other there fate.1)

  has_here : (r : ℕ) (w : Holding) → r ≡ page → holding_at before space r ≡ Some w → HasFate (u r) (a r) (with_page now space page z) space r w
  has_here r w same had = record {
    is = z;
    there = put_here now space page z space r refl same;
    fate = subst (λ n. IsFate (u n) (a n) (with_page now space page z) space n w z) (sym same)
        (subst (λ (v : Holding). IsFate (u page) (a page) (with_page now space page z) space page v z) (some_is x w (sym was ∙ ap (holding_at before space) (sym same) ∙ had))
        (fate_same (u page) true (a page) (a page) (with_page now space page z) space page x z turns refl (fate_here (a page) refl)));
  }

  has_there : (r : ℕ) (w : Holding) → (r ≡ page → ⊥) → holding_at before space r ≡ Some w → HasFate (u r) (a r) (with_page now space page z) space r w
  has_there r w other had =
      let f = h.pages r w had in record {
        is = f.is;
        there = put_other now space page z space r (λ _ e. other e) ∙ f.there;
        fate = fate_same (u r) (t r) (a r) (a r) (with_page now space page z) space r w f.is (stays r other) refl (fate_there r w f.is other f.there (t r) (a r) f.fate);
      }

  pub one_altered : AreTurned u a before (with_page now space page z) space
  one_altered = record {
    spaces = λ q. put_spaces now space page z q (ap is_some (space_of_page now space page y at)) ∙ h.spaces q;
    others = λ q r d. put_other now space page z q r (λ s _. d s) ∙ h.others q r d;
    absent = λ r none. put_other now space page z space r (λ _ e. let no = sym (ap is_some was) ∙ ap (λ n. is_some (holding_at before space n)) (sym e) ∙ ap is_some none in cc) ∙ h.absent r none;
    pages = λ r w had. by_key r page (λ same. has_here r w same had) (λ other. has_there r w other had);
  }
