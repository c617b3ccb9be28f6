use Rattle.std.specs.Prelude.{◌≡◌, ℕ, ◌+◌, ◌≤◌, Bool, true, false, ◌&&◌, ◌||◌, nat_eq, nat_le, List, [], ◌∷◌, ◌++◌, length, Option, Some, None, is_some, refl}
use Rattle.std.proofs.Common.{sym, ap, subst, ◌∙◌, arith}
use Rattle.std.proofs.lemmas.Bool.Decides.{nat_tests}
use Rattle.std.proofs.lemmas.List.Sums.{fold-append}
use Rattle.std.specs.Option.{option_map, option_map_or}
use Rattle.std.specs.FinMap.{empty, get}
use Rattle.number_maps.specs.Keys.{by_key}
use Rattle.ledger.specs.Ledger.{Holding, Ledger, holding_at, is_alone, pages_of, with_page}
use Rattle.ledger.specs.Alike.{AreAlike}
use Rattle.ledger.specs.AlikeLaws.{alike_chain}
use Rattle.ledger.specs.AloneLaws.{unused_without}
use Rattle.ledger.specs.Changes.{imported, joined, stored, with_line, with_lines, without_own}
use Rattle.ledger.specs.ClassLaws.{class_le}
use Rattle.ledger.specs.Events.{Import, Store, ledger_after}
use Rattle.ledger.specs.OriginLaws.{new_is_unused}
use Rattle.ledger.specs.Origins.{new_origin}
use Rattle.ledger.specs.RowLaws.{alike_after}
use Rattle.ledger.specs.AlikeUnits.{units_alike}
use Rattle.ledger.specs.StoreLaws.{joined_there, large_there, longer, stored_anew, stored_joins, stored_nothing}
use Rattle.ledger.specs.Units.{class, units}
use Rattle.ledger.specs.PlaceLaws.{put_here}
use Rattle.delta_spaces.specs.Made.{IsMade, made_by, made_put, made_settled, old_shared, same_made}
use Rattle.delta_spaces.specs.Finding.{NoneTwice, apart_other, found_beside, found_here}
use Rattle.delta_spaces.specs.Imported.{Row, classes, import_made, import_units, imported_at, imported_old, imported_same, is_many, row_at}

-- Rows of an import with one more, and with a line more.

-- what lines given to a page of the base make
abbrev lines_joined : Option Holding → List ℕ → Holding
lines_joined None lines = record { origin = 0; own = with_lines [] lines }
lines_joined (Some holding) lines = record { origin = holding.origin; own = with_lines holding.own lines }

imported_is : (before : Ledger) (base page : ℕ) (lines : List ℕ) → imported before base page lines ≡ lines_joined (holding_at before base page) lines
unfolding imported
imported_is before base page lines = at (holding_at before base page)
  where
    at : (o : Option Holding)
        → option_map_or {U = Holding} (λ holding. record { origin = holding.origin; own = with_lines holding.own lines }) o (record { origin = 0; own = with_lines [] lines })
        ≡ lines_joined o lines
    at None = refl
    at (Some h) = refl

-- with further lines they join the others
further_lines : (o : Option Holding) (lines next : List ℕ)
    → ◌≡◌ {A = Holding} (lines_joined o (lines ++ next)) (record { origin = (lines_joined o lines).origin; own = with_lines (lines_joined o lines).own next })
unfolding with_lines
further_lines None lines next = λ i. record { origin = 0; own = fold-append with_line [] lines next i }
further_lines (Some h) lines next = λ i. record { origin = h.origin; own = fold-append with_line h.own lines next i }

pub imported_further : (before : Ledger) (base page : ℕ) (lines next : List ℕ)
    → ◌≡◌ {A = Holding} (imported before base page (lines ++ next))
    (record { origin = (imported before base page lines).origin; own = with_lines (imported before base page lines).own next })
imported_further before base page lines next =
    imported_is before base page (lines ++ next) ∙ further_lines (holding_at before base page) lines next
    ∙ ap (λ (h : Holding). record { origin = h.origin; own = with_lines h.own next }) (sym (imported_is before base page lines))

module _ (before : Ledger) (base to : ℕ) (differ : base ≡ to → ⊥) (bare : pages_of before to ≡ empty) where
  -- A page more.
  module _ (front back : List Row) (row : Row) (apart : NoneTwice (front ++ row ∷ back)) where
    pub row_added : (l : Ledger) → IsMade before l to (imported_at before base (front ++ back)) (λ _. false)
        → IsMade before (with_page l to row.0 (imported before base row.0 row.1)) to (imported_at before base (front ++ row ∷ back)) (λ _. false)
    row_added l is =
        made_put before l to (imported_at before base (front ++ back)) (λ _. false) is row.0 (imported before base row.0 row.1)
        (imported_at before base (front ++ row ∷ back)) (λ _. false) (imported_old before base to differ row.0 row.1)
        (ap (option_map (imported before base row.0)) (found_here front back row apart)) refl
        (λ r other. (ap (option_map (imported before base r)) (found_beside front back row r other), refl))

  -- A line more: what a store of it makes of the ledger.
  module _ (front back : List Row) (page line : ℕ) (lines : List ℕ) (apart : NoneTwice (front ++ (page, lines) ∷ back)) where
    abbrev rows : List Row
    rows = front ++ (page, lines) ∷ back

    abbrev more : List Row
    more = front ++ (page, lines ++ line ∷ []) ∷ back

    abbrev want : ℕ → Option Holding
    want = imported_at before base rows

    abbrev wanted : ℕ → Option Holding
    wanted = imported_at before base more

    abbrev x : Holding
    x = imported before base page lines

    abbrev y : Holding
    y = imported before base page (lines ++ line ∷ [])

    -- its lines have joined
    y_is : ◌≡◌ {A = Holding} y (record { origin = x.origin; own = with_lines x.own (line ∷ []) })
    y_is = imported_further before base page lines (line ∷ [])

    at_page : want page ≡ Some x
    at_page = ap (option_map (imported before base page)) (found_here front back (page, lines) apart)

    then_page : wanted page ≡ Some y
    then_page = ap (option_map (imported before base page)) (found_here front back (page, lines ++ line ∷ []) (apart_other front back page lines (lines ++ line ∷ []) apart))

    beside : (r : ℕ) → (r ≡ page → ⊥) → wanted r ≡ want r
    beside r other =
        ap (option_map (imported before base r)) (found_beside front back (page, lines ++ line ∷ []) r other ∙ sym (found_beside front back (page, lines) r other))

    abbrev done : ℕ → Bool
    done r = is_many (want r)

    abbrev also : ℕ → Bool
    also r = is_many (wanted r)

    both : (r : ℕ) → (r ≡ page → ⊥) → (wanted r ≡ want r) × (also r ≡ done r)
    both r other = (beside r other, ap is_many (beside r other))

    own_is : length y.own ≡ length (with_lines x.own (line ∷ []))
    own_is = ap (λ (h : Holding). length h.own) y_is

    module _ (l : Ledger) (is : IsMade before l to want done) where
      many_still : nat_le 32 (length x.own) ≡ true → IsMade before (stored false l l to page (line ∷ [])) to wanted also
      many_still many =
          let alone = (is.settled page (ap is_many at_page ∙ many)).alone in
          subst (λ (m : Ledger). IsMade before m to wanted also) (sym (stored_nothing false l l to page (line ∷ []) alone))
          (made_by before l to want done is wanted also same (λ r e. by_key r page
          (λ here. let no = sym e ∙ ap done here ∙ ap is_many at_page ∙ many in absurd cc)
          (λ other. beside r other)))
        where
          too : nat_le 32 (length y.own) ≡ true
          too = let le = longer (line ∷ []) x.own in let own = own_is in grind (arith, nat_tests)

          same : (r : ℕ) → also r ≡ done r
          same r = by_key r page
              (λ here. ap also here ∙ ap is_many then_page ∙ too ∙ sym (ap done here ∙ ap is_many at_page ∙ many))
              (λ other. (both r other).1)

      module _ (few : nat_le 32 (length x.own) ≡ false) where
        held : holding_at l to page ≡ Some x
        held = is.held page (ap is_many at_page ∙ few) ∙ at_page

        shared : is_alone l to page ≡ false
        shared = old_shared before l to want done is page x held (imported_old before base to differ page lines)

        joins : nat_le 32 (length (with_lines x.own (line ∷ []))) ≡ false → IsMade before (stored false l l to page (line ∷ [])) to wanted also
        joins small =
            subst (λ (m : Ledger). IsMade before m to wanted also) (sym (stored_joins false l l to page (line ∷ []) shared not_large
            ∙ joined_there l to page (line ∷ []) x held ∙ ap (with_page l to page) (sym y_is)))
            (made_put before l to want done is page y wanted also (imported_old before base to differ page (lines ++ line ∷ [])) then_page
            (ap is_many then_page ∙ ap (nat_le 32) own_is ∙ small) both)
          where
            not_large : (true && Rattle.ledger.specs.Changes.is_large (joined l to page (line ∷ [])) to page) ≡ false
            not_large =
                ap (λ (m : Ledger). Rattle.ledger.specs.Changes.is_large m to page) (joined_there l to page (line ∷ []) x held)
                ∙ large_there (with_page l to page (record { origin = x.origin; own = with_lines x.own (line ∷ []) })) to page _ (put_here l to page _ to page refl refl)
                ∙ small

        settles : nat_le 32 (length (with_lines x.own (line ∷ []))) ≡ true → IsMade before (stored false l l to page (line ∷ [])) to wanted also
        settles many =
            subst (λ (m : Ledger). IsMade before m to wanted also) (sym (stored_anew l l to page (line ∷ []) x held shared many))
            (made_settled before l to want done is page (new_origin l) wanted also (unused_without l to page (new_origin l) (new_is_unused l))
            (ap is_many then_page ∙ ap (nat_le 32) own_is ∙ many) both)

        few_then : IsMade before (stored false l l to page (line ∷ [])) to wanted also
        few_then = by_size (nat_le 32 (length (with_lines x.own (line ∷ [])))) refl
          where
            by_size : (b : Bool) → nat_le 32 (length (with_lines x.own (line ∷ []))) ≡ b → IsMade before (stored false l l to page (line ∷ [])) to wanted also
            by_size true e = settles e
            by_size false e = joins e

      line_added : IsMade before (stored false l l to page (line ∷ [])) to wanted also
      line_added = by_size (nat_le 32 (length x.own)) refl
        where
          by_size : (b : Bool) → nat_le 32 (length x.own) ≡ b → IsMade before (stored false l l to page (line ∷ [])) to wanted also
          by_size true e = many_still e
          by_size false e = few_then e

    -- a ledger like that of the import with the lines so far, and then the store of one more
    pub import_stored : (l : Ledger) → AreAlike l (ledger_after (Import base to rows) before)
        → AreAlike (ledger_after (Store false to ((page, line ∷ []) ∷ [])) l) (ledger_after (Import base to more) before)
    import_stored l alike =
        let a : Ledger = ledger_after (Import base to rows) before in
        alike_chain _ _ _ (alike_after (Store false to ((page, line ∷ []) ∷ [])) l a alike)
        (same_made before (stored false a a to page (line ∷ [])) (ledger_after (Import base to more) before) to wanted also
        (line_added a (import_made before base to differ bare rows apart))
        (import_made before base to differ bare more (apart_other front back page lines (lines ++ line ∷ []) apart)))

  -- The units so far.
  pub units_so_far : (l : Ledger) (rows : List Row) → NoneTwice rows → AreAlike l (ledger_after (Import base to rows) before) → units l ≡ units before + classes before base rows
  units_so_far l rows apart alike = units_alike l (ledger_after (Import base to rows) before) alike ∙ import_units before base to differ bare rows apart

-- Rows with fewer lines have no more units.
pub classes_append : (before : Ledger) (base : ℕ) (front back : List Row) → classes before base (front ++ back) ≡ classes before base front + classes before base back
classes_append before base [] back = omega arith
classes_append before base (row ∷ front) back = let rest = classes_append before base front back in omega (arith, rest)

pub class_further : (before : Ledger) (base page : ℕ) (lines next : List ℕ)
    → class (length (imported before base page lines).own) ≤ class (length (imported before base page (lines ++ next)).own)
class_further before base page lines next =
    let le = class_le _ _ (longer next (imported before base page lines).own) in
    let same = ap (λ (h : Holding). class (length h.own)) (imported_further before base page lines next) in omega (arith, le, same)

-- Of two ledgers that differ in the space alone, which has no page in either, the import makes the same.
module _ (a b : Ledger) (base to : ℕ) (differ : base ≡ to → ⊥) (spaces : (q : ℕ) → (nat_eq q to || is_some (get a q)) ≡ (nat_eq q to || is_some (get b q)))
    (same : (q r : ℕ) → (q ≡ to → ⊥) → holding_at a q r ≡ holding_at b q r) where
  pub made_beside : (l : Ledger) (want : ℕ → Option Holding) (done : ℕ → Bool) → IsMade a l to want done → IsMade b l to want done
  made_beside l want done is = record {
    spaces = λ q. is.spaces q ∙ spaces q;
    others = λ q r other. is.others q r other ∙ same q r other;
    held = is.held;
    settled = is.settled;
  }

  pub imported_beside : (rows : List Row) (r : ℕ) → imported_at a base rows r ≡ imported_at b base rows r
  imported_beside rows r = at (row_at rows r)
    where
      at : (o : Option (List ℕ)) → option_map (imported a base r) o ≡ option_map (imported b base r) o
      at None = refl
      at (Some lines) = ap Some (imported_same a b base r lines (same base r differ))

  pub classes_beside : (rows : List Row) → classes a base rows ≡ classes b base rows
  classes_beside [] = refl
  classes_beside (row ∷ rows) =
      let rest = classes_beside rows in
      let one = ap (λ (h : Holding). class (length h.own)) (imported_same a b base row.0 row.1 (same base row.0 differ)) in omega (arith, rest, one)

  pub import_beside : (rows : List Row) → NoneTwice rows → pages_of a to ≡ empty → pages_of b to ≡ empty
      → AreAlike (ledger_after (Import base to rows) a) (ledger_after (Import base to rows) b)
  import_beside rows apart bare_a bare_b =
      same_made b (ledger_after (Import base to rows) a) (ledger_after (Import base to rows) b) to (imported_at b base rows) (λ r. is_many (imported_at b base rows r))
      (made_by b _ to _ _ (made_beside _ _ _ (import_made a base to differ bare_a rows apart)) (imported_at b base rows) (λ r. is_many (imported_at b base rows r))
      (λ r. ap is_many (sym (imported_beside rows r))) (λ r e. sym (imported_beside rows r)))
      (import_made b base to differ bare_b rows apart)
