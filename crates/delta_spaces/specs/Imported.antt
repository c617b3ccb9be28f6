use Rattle.std.specs.Prelude.{◌≡◌, ℕ, ◌+◌, ◌≤◌, Bool, true, false, cond, not, ◌&&◌, ◌||◌, nat_eq, nat_le, List, [], ◌∷◌, length, Option, Some, None, is_some, refl}
use Rattle.std.proofs.Common.{inl, inr, sym, ap, subst, ◌∙◌, arith}
use Rattle.std.proofs.lemmas.Bool.Decides.{nat_tests}
use Rattle.std.specs.List.{fold}
use Rattle.std.specs.Option.{option_map, option_map_or}
use Rattle.std.specs.Ordering.{nat_cmp, is_eq}
use Rattle.std.specs.FinMap.{empty, get, insert, remove}
use Rattle.std.specs.FinMap.Entries.{find}
use Rattle.number_maps.specs.Keys.{by_key, differs, insert_kept, ties}
use Rattle.number_maps.specs.Values.{remove_absent}
use Rattle.ledger.specs.Ledger.{Holding, Ledger, Space, has_origin, holding_at, is_unused, pages_of, with_page}
use Rattle.ledger.specs.Alike.{own_at}
use Rattle.ledger.specs.AlikeUnits.{units_alike}
use Rattle.ledger.specs.AloneLaws.{any_page, are, arent, nowhere, unused_without, without_absent}
use Rattle.ledger.specs.Changes.{imported, is_large, settled, settled_if_large, with_lines, without_own}
use Rattle.ledger.specs.ClassLaws.{class_many, class_none}
use Rattle.ledger.specs.Events.{Import, ledger_after}
use Rattle.ledger.specs.OriginLaws.{new_is_unused}
use Rattle.ledger.specs.Origins.{new_origin}
use Rattle.ledger.specs.PlaceLaws.{no_page, page_is, pages_there}
use Rattle.ledger.specs.StoreLaws.{large_absent, large_there, settled_shared}
use Rattle.ledger.specs.TallyLaws.{empty_holdings, same_units}
use Rattle.ledger.specs.UnitLaws.{frame_for, units_changed, units_new}
use Rattle.ledger.specs.Units.{class, units}
use Rattle.delta_spaces.specs.Finding.{NoneTwice}
use Rattle.delta_spaces.specs.Made.{IsMade, IsOld, made_by, made_none, made_put, made_settled, old_shared, same_made}

-- The ledger after an import, page by page.

abbrev pub Row : Type 0
Row = ℕ × List ℕ

abbrev pub row_at : List Row → ℕ → Option (List ℕ)
row_at rows page = find nat_cmp page rows

-- what a page is to hold, before it is settled
abbrev pub imported_at : Ledger → ℕ → List Row → ℕ → Option Holding
imported_at before base rows page = option_map (imported before base page) (row_at rows page)

abbrev pub is_many : Option Holding → Bool
is_many held = option_map_or (λ holding. nat_le 32 (length holding.own)) held false

-- the units of all of its segments, of which one of 32 lines or more is as large as a frame
abbrev pub classes : Ledger → ℕ → List Row → ℕ
classes before base [] = 0
classes before base (row ∷ rows) = class (length (imported before base row.0 row.1).own) + classes before base rows

by_test : {P : Type 0} (b : Bool) → (b ≡ true → P) → (b ≡ false → P) → P
by_test true yes_ no_ = yes_ refl
by_test false yes_ no_ = no_ refl

abbrev or_else : Option Holding → Option Holding → Option Holding
or_else None other = other
or_else (Some x) other = Some x

pub imported_same : (a b : Ledger) (base page : ℕ) (lines : List ℕ) → holding_at a base page ≡ holding_at b base page → imported a base page lines ≡ imported b base page lines
unfolding imported
imported_same a b base page lines same =
    ap (λ (o : Option Holding). option_map_or (λ holding. record { origin = holding.origin; own = with_lines holding.own lines }) o (record { origin = 0; own = with_lines [] lines })) same

module _ (before : Ledger) (base to : ℕ) (differ : base ≡ to → ⊥) where
  -- its origin is an old one
  pub imported_old : (page : ℕ) (lines : List ℕ) → IsOld before to (imported before base page lines).origin
  unfolding imported
  imported_old page lines = at (holding_at before base page) refl
    where
      held : Option Holding → Holding
      held o = option_map_or (λ holding. record { origin = holding.origin; own = with_lines holding.own lines }) o (record { origin = 0; own = with_lines [] lines })

      at : (o : Option Holding) → holding_at before base page ≡ o → IsOld before to (held o).origin
      at None is = inl refl
      at (Some h) is = inr (record { space = base; page = page; holding = h; other = differ; there = is; is = refl })

  -- Pages are put one after the other.

  abbrev place : Ledger → Row → Ledger
  place ledger page = with_page ledger to page.0 (imported ledger base page.0 page.1)

  abbrev over : List Row → (ℕ → Option Holding) → ℕ → Option Holding
  over rows want page = or_else (imported_at before base rows page) (want page)

  module _ (l : Ledger) (want : ℕ → Option Holding) (is : IsMade before l to want (λ _. false)) (row : Row) where
    abbrev x : Holding
    x = imported before base row.0 row.1

    abbrev more : ℕ → Option Holding
    more page = cond (is_eq (nat_cmp page row.0)) (Some x) (want page)

    put_is : place l row ≡ with_page l to row.0 x
    put_is = ap (with_page l to row.0) (imported_same l before base row.0 row.1 (is.others base row.0 differ))

    placed_one : IsMade before (place l row) to more (λ _. false)
    placed_one =
        subst (λ (m : Ledger). IsMade before m to more (λ _. false)) (sym put_is)
        (made_put before l to want (λ _. false) is row.0 x more (λ _. false) (imported_old row.0 row.1)
        (ap (λ b. cond b (Some x) (want row.0)) (ties row.0 row.0 refl)) refl
        (λ r other. (ap (λ b. cond b (Some x) (want r)) (differs r row.0 other), refl)))

    no_frame : (origin : ℕ) → IsOld before to origin → is_unused l origin ≡ false
    unfolding is_unused has_origin
    no_frame origin (inl zero) = ap (λ b. not b && not (has_origin l origin)) zero
    no_frame origin (inr had) =
        ap (λ b. not (nat_eq origin 0) && not b)
        (any_page (λ (holding : Holding). nat_eq holding.origin origin) l had.space had.page had.holding (is.others had.space had.page had.other ∙ had.there)
        (are had.holding.origin origin had.is))
        ∙ neither (nat_eq origin 0)
      where
        neither : (b : Bool) → (not b && false) ≡ false
        neither true = refl
        neither false = refl

    units_one : want row.0 ≡ None → units (place l row) ≡ units l + class (length x.own)
    unfolding frame_for
    units_one none =
        let put = ap units put_is in
        let here : is_some (get l to) ≡ true = is.spaces to ∙ ap (λ b. b || is_some (get before to)) (are to to refl) in
        let new = units_new l to row.0 x (without_absent l to row.0 here (is.held row.0 refl ∙ none)) in
        let frame : frame_for (is_unused l x.origin) ≡ 0 = ap frame_for (no_frame x.origin (imported_old row.0 row.1)) in
        omega (arith, put, new, frame)

  over_more : (row : Row) (rows : List Row) (want : ℕ → Option Holding) → row_at rows row.0 ≡ None → (r : ℕ)
      → over (row ∷ rows) want r ≡ or_else (imported_at before base rows r) (cond (is_eq (nat_cmp r row.0)) (Some (imported before base row.0 row.1)) (want r))
  over_more row rows want absent r = by_key r row.0
      (λ same.
      ap (λ b. or_else (option_map (imported before base r) (cond b (Some row.1) (row_at rows r))) (want r)) (ties r row.0 same)
      ∙ ap (λ q. Some (imported before base q row.1)) same
      ∙ sym (ap (λ b. or_else (imported_at before base rows r) (cond b (Some (imported before base row.0 row.1)) (want r))) (ties r row.0 same)
      ∙ ap (λ (o : Option (List ℕ)). or_else (option_map (imported before base r) o) (Some (imported before base row.0 row.1))) (ap (row_at rows) same ∙ absent)))
      (λ other.
      ap (λ b. or_else (option_map (imported before base r) (cond b (Some row.1) (row_at rows r))) (want r)) (differs r row.0 other)
      ∙ sym (ap (λ b. or_else (imported_at before base rows r) (cond b (Some (imported before base row.0 row.1)) (want r))) (differs r row.0 other)))

  placed_all : (rows : List Row) (l : Ledger) (want : ℕ → Option Holding) → NoneTwice rows → IsMade before l to want (λ _. false)
      → IsMade before (fold place l rows) to (over rows want) (λ _. false)
  placed_all [] l want apart is = made_by before l to want (λ _. false) is (over [] want) (λ _. false) (λ r. refl) (λ r e. refl)
  placed_all (row ∷ rows) l want apart is =
      made_by before _ to _ (λ _. false) (placed_all rows (place l row) (more l want is row) apart.1 (placed_one l want is row)) (over (row ∷ rows) want) (λ _. false) (λ r. refl)
      (λ r e. over_more row rows want apart.0 r)

  units_placed : (rows : List Row) (l : Ledger) (want : ℕ → Option Holding) → NoneTwice rows → IsMade before l to want (λ _. false)
      → ((r : ℕ) → is_some (row_at rows r) ≡ true → want r ≡ None) → units (fold place l rows) ≡ units l + classes before base rows
  units_placed [] l want apart is none = omega arith
  units_placed (row ∷ rows) l want apart is none =
      let one = units_one l want is row (none row.0 (ap (λ b. is_some (cond b (Some row.1) (row_at rows row.0))) (ties row.0 row.0 refl))) in
      let rest = units_placed rows (place l row) (more l want is row) apart.1 (placed_one l want is row) still in
      omega (arith, one, rest)
    where
      still : (r : ℕ) → is_some (row_at rows r) ≡ true → more l want is row r ≡ None
      still r some = by_key r row.0
          (λ same. let no = sym some ∙ ap is_some (ap (row_at rows) same ∙ apart.0) in absurd cc)
          (λ other. ap (λ b. cond b (Some (imported before base row.0 row.1)) (want r)) (differs r row.0 other)
          ∙ none r (ap (λ b. is_some (cond b (Some row.1) (row_at rows r))) (differs r row.0 other) ∙ some))

  -- Large ones are settled one after the other.

  module _ (bare : pages_of before to ≡ empty) (want : ℕ → Option Holding) (old : (r : ℕ) (h : Holding) → want r ≡ Some h → IsOld before to h.origin) where
    not_there : (r : ℕ) → holding_at before to r ≡ None
    not_there r = page_is before to r ∙ ap (λ (m : Space). get m r) bare ∙ no_page r

    abbrev settle : Ledger → Row → Ledger
    settle ledger page = settled_if_large before ledger to page.0

    abbrev also : (ℕ → Bool) → ℕ → ℕ → Bool
    also done page r = done r || (nat_eq r page && is_many (want r))

    record IsSettling (l new : Ledger) (done : ℕ → Bool) (page : ℕ) : Type 0 where
      made : IsMade before new to want (also done page)
      units_same : units new ≡ units l

    module _ (l : Ledger) (done : ℕ → Bool) (is : IsMade before l to want done) (page : ℕ) where
      -- a page that isn't large stays
      stays : is_large l to page ≡ false → (done page ≡ false → is_many (want page) ≡ false) → IsSettling l (settled_if_large before l to page) done page
      unfolding settled_if_large
      stays small few =
          subst (λ (m : Ledger). IsSettling l m done page) (sym (ap (λ b. cond b (settled before l to page) l) small))
          (record { made = made_by before l to want done is want (also done page) same (λ r e. refl); units_same = refl })
        where
          at_page : (d m : Bool) → (d ≡ false → m ≡ false) → (d || (true && m)) ≡ d
          at_page true m h = refl
          at_page false m h = h refl

          beside : (d : Bool) → (d || false) ≡ d
          beside true = refl
          beside false = refl

          same : (r : ℕ) → also done page r ≡ done r
          same r = by_key r page
              (λ here. ap (λ b. done r || (b && is_many (want r))) (are r page here)
              ∙ at_page (done r) (is_many (want r)) (λ e. ap (λ q. is_many (want q)) here ∙ few (sym (ap done here) ∙ e)))
              (λ other. ap (λ b. done r || (b && is_many (want r))) (arent r page other) ∙ beside (done r))

      large_page : (h : Holding) → holding_at l to page ≡ Some h → want page ≡ Some h → nat_le 32 (length h.own) ≡ true → IsSettling l (settled_if_large before l to page) done page
      unfolding settled_if_large frame_for
      large_page h at wanted many =
          subst (λ (m : Ledger). IsSettling l m done page) (sym (ap (λ b. cond b (settled before l to page) l) (large_there l to page h at ∙ many)
          ∙ settled_shared before l to page h at (nowhere before to page (not_there page)))) (record {
            made = made_settled before l to want done is page (new_origin l) want (also done page) (unused_without l to page (new_origin l) (new_is_unused l)) is_done beside;
            units_same = same_sum;
          })
        where
          is_done : also done page page ≡ true
          is_done =
              ap (λ b. done page || (b && is_many (want page))) (are page page refl) ∙ ap (λ (o : Option Holding). done page || is_many o) wanted
              ∙ ap (λ b. done page || b) many ∙ either (done page)
            where
              either : (d : Bool) → (d || true) ≡ true
              either true = refl
              either false = refl

          beside : (r : ℕ) → (r ≡ page → ⊥) → (want r ≡ want r) × (also done page r ≡ done r)
          beside r other = (refl, ap (λ b. done r || (b && is_many (want r))) (arent r page other) ∙ none (done r))
            where
              none : (d : Bool) → (d || false) ≡ d
              none true = refl
              none false = refl

          same_sum : units (with_page l to page (without_own (new_origin l))) ≡ units l
          same_sum =
              let changed = units_changed l to page h (without_own (new_origin l)) at in
              let was = ap frame_for (old_shared before l to want done is page h at (old page h wanted)) in
              let new = ap frame_for (unused_without l to page (new_origin l) (new_is_unused l)) in
              let none = class_none in
              let full = class_many (length h.own) (above many) in
              omega (arith, changed, was, new, none, full)
            where
              above : nat_le 32 (length h.own) ≡ true → 32 ≤ length h.own
              above e = grind (arith, nat_tests)

      settled_one : IsSettling l (settled_if_large before l to page) done page
      settled_one = by_test (done page)
          (λ e. stays (small_own (holding_at l to page) refl (is.settled page e).none) (λ f. let no = sym e ∙ f in absurd cc))
          (λ e. by_want (want page) refl (is.held page e))
        where
          small_own : (o : Option Holding) → holding_at l to page ≡ o → own_at l to page ≡ Some [] → is_large l to page ≡ false
          small_own None at none = large_absent l to page at
          small_own (Some h) at none =
              large_there l to page h at ∙ ap (λ (own : Option (List ℕ)). option_map_or (λ own. nat_le 32 (length own)) own false) (sym (ap (option_map (λ (h : Holding). h.own)) at) ∙ none)

          by_want : (o : Option Holding) → want page ≡ o → holding_at l to page ≡ want page → IsSettling l (settled_if_large before l to page) done page
          by_want None wanted at = stays (large_absent l to page (at ∙ wanted)) (λ _. ap is_many wanted)
          by_want (Some h) wanted at = by_test (nat_le 32 (length h.own))
              (λ many. large_page h (at ∙ wanted) wanted many)
              (λ few. stays (large_there l to page h (at ∙ wanted) ∙ few) (λ _. ap is_many wanted ∙ few))

    record AreSettling (l new : Ledger) (rows : List Row) (done : ℕ → Bool) : Type 0 where
      made : IsMade before new to want (λ r. done r || (is_some (row_at rows r) && is_many (want r)))
      units_same : units new ≡ units l

    settled_all : (rows : List Row) (l : Ledger) (done : ℕ → Bool) → IsMade before l to want done → AreSettling l (fold settle l rows) rows done
    settled_all [] l done is = record { made = made_by before l to want done is want _ (λ r. none (done r)) (λ r e. refl); units_same = refl }
      where
        none : (d : Bool) → (d || false) ≡ d
        none true = refl
        none false = refl
    settled_all (row ∷ rows) l done is =
        let one = settled_one l done is row.0 in
        let rest = settled_all rows (settle l row) (also done row.0) one.made in record {
          made = made_by before _ to want _ rest.made want _ same (λ r e. refl);
          units_same = rest.units_same ∙ one.units_same;
        }
      where
        at_row : (d h m : Bool) → (d || m) ≡ ((d || (true && m)) || (h && m))
        at_row true h m = refl
        at_row false h true = refl
        at_row false true false = refl
        at_row false false false = refl

        beside : (d h m : Bool) → (d || (h && m)) ≡ ((d || (false && m)) || (h && m))
        beside true h m = refl
        beside false h m = refl

        same : (r : ℕ) → (done r || (is_some (row_at (row ∷ rows) r) && is_many (want r))) ≡ (also done row.0 r || (is_some (row_at rows r) && is_many (want r)))
        same r = by_key r row.0
            (λ here. ap (λ b. done r || (is_some (cond b (Some row.1) (row_at rows r)) && is_many (want r))) (ties r row.0 here)
            ∙ at_row (done r) (is_some (row_at rows r)) (is_many (want r))
            ∙ sym (ap (λ b. (done r || (b && is_many (want r))) || (is_some (row_at rows r) && is_many (want r))) (are r row.0 here)))
            (λ other. ap (λ b. done r || (is_some (cond b (Some row.1) (row_at rows r)) && is_many (want r))) (differs r row.0 other)
            ∙ beside (done r) (is_some (row_at rows r)) (is_many (want r))
            ∙ sym (ap (λ b. (done r || (b && is_many (want r))) || (is_some (row_at rows r) && is_many (want r))) (arent r row.0 other)))

  -- The ledger after it.

  over_none : (rows : List Row) (r : ℕ) → imported_at before base rows r ≡ over rows (λ _. None) r
  over_none rows r = at (imported_at before base rows r)
    where
      at : (o : Option Holding) → o ≡ or_else o None
      at None = refl
      at (Some h) = refl

  at_old : (rows : List Row) (r : ℕ) (h : Holding) → imported_at before base rows r ≡ Some h → IsOld before to h.origin
  at_old rows r h is = at (row_at rows r) is
    where
      at : (o : Option (List ℕ)) → option_map (imported before base r) o ≡ Some h → IsOld before to h.origin
      at None e = let no = ap is_some e in absurd cc
      at (Some lines) e = subst (λ (o : Option Holding). IsOld before to (option_map_or (λ (x : Holding). x.origin) o 0)) e (imported_old r lines)

  module _ (bare : pages_of before to ≡ empty) (rows : List Row) (apart : NoneTwice rows) where
    abbrev placed : Ledger
    placed = fold place (insert before to empty) rows

    placed_made : IsMade before placed to (imported_at before base rows) (λ _. false)
    placed_made =
        made_by before placed to (over rows (λ _. None)) (λ _. false) (placed_all rows (insert before to empty) (λ _. None) apart (made_none before to))
        (imported_at before base rows) (λ _. false) (λ r. refl) (λ r e. over_none rows r)

    -- before any is settled
    placed_sum : units placed ≡ units before + classes before base rows
    placed_sum =
        units_placed rows (insert before to empty) (λ _. None) apart (made_none before to) (λ r some. refl)
        ∙ ap (λ n. n + classes before base rows) (by_space (get before to) refl)
      where
        by_space : (o : Option Space) → get before to ≡ o → units (insert before to empty) ≡ units before
        by_space None is =
            same_units (insert before to empty) (remove before to) (empty_holdings before to empty refl) ∙ ap units (remove_absent before to is)
        by_space (Some m) is = ap units (insert_kept before to empty (is ∙ ap Some (sym (pages_there before to m is) ∙ bare)))

    placed_alike : (l : Ledger) → IsMade before l to (imported_at before base rows) (λ _. false) → units l ≡ units before + classes before base rows
    placed_alike l is =
        units_alike l placed (same_made before l placed to (imported_at before base rows) (λ _. false) is placed_made) ∙ placed_sum

    after : AreSettling bare (imported_at before base rows) (at_old rows) placed (ledger_after (Import base to rows) before) rows (λ _. false)
    after = settled_all bare (imported_at before base rows) (at_old rows) rows placed (λ _. false) placed_made

    pub import_made : IsMade before (ledger_after (Import base to rows) before) to (imported_at before base rows) (λ r. is_many (imported_at before base rows r))
    import_made = made_by before _ to _ _ after.made (imported_at before base rows) _ (λ r. same r (row_at rows r)) (λ r e. refl)
      where
        same : (r : ℕ) (o : Option (List ℕ)) → is_many (option_map (imported before base r) o) ≡ (is_some o && is_many (option_map (imported before base r) o))
        same r None = refl
        same r (Some lines) = refl

    pub import_units : units (ledger_after (Import base to rows) before) ≡ units before + classes before base rows
    import_units = after.units_same ∙ placed_sum

pub placed_units : (before : Ledger) (base to : ℕ) → (base ≡ to → ⊥) → pages_of before to ≡ empty → (l : Ledger) (rows : List Row) → NoneTwice rows
    → IsMade before l to (imported_at before base rows) (λ _. false) → units l ≡ units before + classes before base rows
placed_units before base to differ bare l rows apart is = placed_alike before base to differ bare rows apart l is
