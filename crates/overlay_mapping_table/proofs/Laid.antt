use Rattle.std.proofs.Common.{◌≡◌, ℕ, ◌+◌, ◌<◌, List, length, get_or, slice_set, replicate, Option, Some, None, subst, subst₂, sym, ap, ap₂, refl, ◌∙◌, arith}
use Rattle.std.proofs.lemmas.List.{length-set}
use Rattle.overlay_address.specs.Names.{IsName}
use Rattle.overlay_mapping_table.specs.declared.entry.Entry.{Entry}
use Rattle.overlay_mapping_table.specs.declared.gaps.Gap.{Gap}
use Rattle.overlay_mapping_table.specs.Rows.{nothing, no_rows, slots_of, AreSlots}
use Rattle.overlay_mapping_table.specs.Gaps.{no_gap, seen_slots, ShowNone, AreDown, AreLaid, AreUp, IsGapIn, IsWrittenAt}
use Rattle.overlay_mapping_table.specs.Shifts.{AreOneUp}
use Rattle.overlay_mapping_table.proofs.Beside.{all_empty, kept_clear, kept_new, kept_put, stands_clear, stands_put}
use Rattle.overlay_mapping_table.proofs.Seen.{seen_whole, size_seen, written}
use Rattle.overlay_mapping_table.proofs.Blocks.{bare_down_slot, bare_up_slot, kept_down, kept_up, rows_down, rows_up}

-- Names and entries beside each other, with a gap.

-- the slots that they make
abbrev pub laid_slots : List ℕ → List Entry → Gap → List (Option (ℕ × Entry))
laid_slots names entries gap = slots_of (seen_slots names 0 gap) (seen_slots entries nothing gap)

module _ (slots : List (Option (ℕ × Entry))) (names : List ℕ) (entries : List Entry) (gap : Gap) (stands : laid_slots names entries gap ≡ slots)
    (laid : AreLaid names entries gap) where
  pub as_many : length names ≡ length slots
  as_many = sym (sym (ap length stands) ∙ laid.slots.size ∙ size_seen names 0 gap)

  pub within_names : (at : ℕ) → at < length slots → at < length names
  within_names at less = omega (arith, less, ap length stands, laid.slots.size, size_seen names 0 gap)

  pub within_entries : (at : ℕ) → at < length slots → at < length entries
  within_entries at less = omega (arith, within_names at less, laid.same)

  pub room_entries : IsGapIn (length entries) gap
  room_entries = subst (λ n. IsGapIn n gap) (sym laid.same) laid.room

  laid_moved : (names₂ : List ℕ) (entries₂ : List Entry) (gap₂ : Gap) → IsGapIn (length names) gap₂
      → length (seen_slots names₂ 0 gap₂) ≡ length (seen_slots names 0 gap) → length (seen_slots entries₂ nothing gap₂) ≡ length (seen_slots entries nothing gap)
      → AreSlots (seen_slots names₂ 0 gap₂) (seen_slots entries₂ nothing gap₂) → AreLaid names₂ entries₂ gap₂
  laid_moved names₂ entries₂ gap₂ gap_in size size′ kept =
      record {
        same = sym (size_seen entries₂ nothing gap₂) ∙ kept.same ∙ size_seen names₂ 0 gap₂;
        room = subst (λ n. IsGapIn n gap₂) (sym (sym (size_seen names₂ 0 gap₂) ∙ size ∙ size_seen names 0 gap)) gap_in;
        slots = kept;
      }

  -- A write, once something is written for a slot.
  module _ (names₁ : List ℕ) (entries₁ : List Entry) (gap₁ : Gap) (room : IsGapIn (length names) gap₁) (same : seen_slots names₁ 0 gap₁ ≡ seen_slots names 0 gap)
      (beside : seen_slots entries₁ nothing gap₁ ≡ seen_slots entries nothing gap) (at : ℕ) (inside : at < length slots) where
    pub size₁ : length names₁ ≡ length names
    size₁ = sym (size_seen names₁ 0 gap₁) ∙ ap length same ∙ size_seen names 0 gap

    size₂ : length entries₁ ≡ length entries
    size₂ = sym (size_seen entries₁ nothing gap₁) ∙ ap length beside ∙ size_seen entries nothing gap

    room₁ : IsGapIn (length names₁) gap₁
    room₁ = subst (λ n. IsGapIn n gap₁) (sym size₁) room

    room₂ : IsGapIn (length entries₁) gap₁
    room₂ = subst (λ n. IsGapIn n gap₁) (sym (size₂ ∙ laid.same)) room

    -- it is inside
    pub inside₁ : (n : ℕ) → n ≡ length names₁ → at < n
    inside₁ n is = omega (arith, within_names at inside, size₁, is)

    pub gap_in₁ : (n : ℕ) → n ≡ length names₁ → IsGapIn n gap₁
    gap_in₁ n is = subst (λ k. IsGapIn k gap₁) (sym is) room₁

    pub inside₂ : (n place : ℕ) → n ≡ length names₁ → place < n → place < length entries₁
    inside₂ n place is less = omega (arith, less, is, size₁, size₂, laid.same)

    module _ (place : ℕ) (here : IsWrittenAt gap₁ at place) where
      named : (m : ℕ) (new : List ℕ) → new ≡ slice_set names₁ place m → seen_slots new 0 gap₁ ≡ slice_set (seen_slots names 0 gap) at m
      named m new is =
          ap (λ (ns : List ℕ). seen_slots ns 0 gap₁) is
          ∙ written names₁ 0 m gap₁ room₁ at place (omega (arith, within_names at inside, size₁)) here
          ∙ ap (λ (ns : List ℕ). slice_set ns at m) same

      valued : (e : Entry) (new : List Entry) → new ≡ slice_set entries₁ place e → seen_slots new nothing gap₁ ≡ slice_set (seen_slots entries nothing gap) at e
      valued e new is =
          ap (λ (es : List Entry). seen_slots es nothing gap₁) is
          ∙ written entries₁ nothing e gap₁ room₂ at place (omega (arith, within_entries at inside, size₂)) here
          ∙ ap (λ (es : List Entry). slice_set es at e) beside

      laid_again : (new : List ℕ) (new₂ : List Entry) → length new ≡ length names₁ → length new₂ ≡ length entries₁
          → AreSlots (seen_slots new 0 gap₁) (seen_slots new₂ nothing gap₁) → AreLaid new new₂ gap₁
      laid_again new new₂ size size′ slots =
          record {
            same = size′ ∙ size₂ ∙ laid.same ∙ sym (size ∙ size₁);
            room = subst (λ n. IsGapIn n gap₁) (sym (size ∙ size₁)) room;
            slots = slots;
          }

      pub laid_put : (name m : ℕ) (e : Entry) (new : List ℕ) (new₂ : List Entry) → new ≡ slice_set names₁ place m → new₂ ≡ slice_set entries₁ place e
          → m ≡ name + 0 → IsName name → AreLaid new new₂ gap₁
      laid_put name m e new new₂ is is₂ number true_name =
          laid_again new new₂ (ap length is ∙ length-set names₁ place m) (ap length is₂ ∙ length-set entries₁ place e)
          (subst₂ (λ ns es. AreSlots ns es) (sym (named m new is)) (sym (valued e new₂ is₂))
          (kept_put (seen_slots names 0 gap) (seen_slots entries nothing gap) at name m e laid.slots number true_name))

      pub shows_put : (name m : ℕ) (e : Entry) (new : List ℕ) (new₂ : List Entry) → new ≡ slice_set names₁ place m → new₂ ≡ slice_set entries₁ place e
          → m ≡ name + 0 → IsName name → laid_slots new new₂ gap₁ ≡ slice_set slots at (Some (name, e))
      shows_put name m e new new₂ is is₂ number true_name =
          ap₂ (λ ns es. slots_of ns es) (named m new is) (valued e new₂ is₂)
          ∙ stands_put slots (seen_slots names 0 gap) (seen_slots entries nothing gap) at name m e stands number true_name

      pub laid_clear : (new : List ℕ) → new ≡ slice_set names₁ place 0 → AreLaid new entries₁ gap₁
      laid_clear new is =
          laid_again new entries₁ (ap length is ∙ length-set names₁ place 0) refl
          (subst₂ (λ ns es. AreSlots ns es) (sym (named 0 new is)) (sym beside)
          (kept_clear (seen_slots names 0 gap) (seen_slots entries nothing gap) at laid.slots))

      pub shows_clear : (new : List ℕ) → new ≡ slice_set names₁ place 0 → laid_slots new entries₁ gap₁ ≡ slice_set slots at None
      shows_clear new is =
          ap₂ (λ ns es. slots_of ns es) (named 0 new is) beside ∙ stands_clear slots (seen_slots names 0 gap) (seen_slots entries nothing gap) at stands

  -- Rows that went up.
  module _ (names₂ : List ℕ) (entries₂ : List Entry) (gap₂ : Gap) (from end room : ℕ) (gap_in : IsGapIn (length names) gap₂)
      (up : AreUp (seen_slots names 0 gap) (seen_slots names₂ 0 gap₂) 0 from end room) (bare : get_or (seen_slots names₂ 0 gap₂) from 0 ≡ 0)
      (up₂ : AreUp (seen_slots entries nothing gap) (seen_slots entries₂ nothing gap₂) nothing from end room) where
    pub laid_up : AreLaid names₂ entries₂ gap₂
    laid_up =
        laid_moved names₂ entries₂ gap₂ gap_in up.size up₂.size
        (kept_up (seen_slots names 0 gap) (seen_slots names₂ 0 gap₂) (seen_slots entries nothing gap) (seen_slots entries₂ nothing gap₂) laid.slots up.size up₂.size from end room up
        bare up₂)

    pub rows_raised : ShowNone (seen_slots names 0 gap) end room → end < length slots → AreOneUp slots (laid_slots names₂ entries₂ gap₂) from end
    rows_raised free inside =
        rows_up (seen_slots names 0 gap) (seen_slots names₂ 0 gap₂) (seen_slots entries nothing gap) (seen_slots entries₂ nothing gap₂) laid.slots up.size up₂.size from end room up
        bare up₂ slots stands free (omega (arith, within_names end inside, size_seen names 0 gap))

    pub bare_raised : get_or (laid_slots names₂ entries₂ gap₂) from None ≡ None
    bare_raised =
        bare_up_slot (seen_slots names 0 gap) (seen_slots names₂ 0 gap₂) (seen_slots entries nothing gap) (seen_slots entries₂ nothing gap₂) laid.slots up.size up₂.size from end
        room up bare up₂

  -- Rows that went down.
  module _ (names₂ : List ℕ) (entries₂ : List Entry) (gap₂ : Gap) (to last : ℕ) (gap_in : IsGapIn (length names) gap₂)
      (down : AreDown (seen_slots names 0 gap) (seen_slots names₂ 0 gap₂) 0 to last)
      (down₂ : AreDown (seen_slots entries nothing gap) (seen_slots entries₂ nothing gap₂) nothing to last) where
    pub laid_down : AreLaid names₂ entries₂ gap₂
    laid_down =
        laid_moved names₂ entries₂ gap₂ gap_in down.size down₂.size
        (kept_down (seen_slots names 0 gap) (seen_slots names₂ 0 gap₂) (seen_slots entries nothing gap) (seen_slots entries₂ nothing gap₂) laid.slots down.size down₂.size to last
        down down₂)

    pub rows_lowered : last < length slots → AreOneUp (laid_slots names₂ entries₂ gap₂) slots to last
    rows_lowered inside =
        rows_down (seen_slots names 0 gap) (seen_slots names₂ 0 gap₂) (seen_slots entries nothing gap) (seen_slots entries₂ nothing gap₂) laid.slots down.size down₂.size to last
        down down₂ slots stands (omega (arith, within_names last inside, size_seen names 0 gap))

    pub bare_lowered : get_or (laid_slots names₂ entries₂ gap₂) last None ≡ None
    bare_lowered =
        bare_down_slot (seen_slots names 0 gap) (seen_slots names₂ 0 gap₂) (seen_slots entries nothing gap) (seen_slots entries₂ nothing gap₂) laid.slots down.size down₂.size to
        last down down₂

-- None yet.
module _ (names : List ℕ) (entries : List Entry) (gap : Gap) (n : ℕ) (x : Entry) (is : names ≡ replicate n 0) (is₂ : entries ≡ replicate n x)
    (none : gap ≡ no_gap) where
  whole_names : seen_slots names 0 gap ≡ names
  whole_names =
      seen_whole names 0 gap (ap (λ (g : Gap). g.len) none)
      (let end = ap (λ (g : Gap). g.end) none in let at = ap (λ (g : Gap). g.at) none in omega (arith, at, end))

  whole_entries : seen_slots entries nothing gap ≡ entries
  whole_entries =
      seen_whole entries nothing gap (ap (λ (g : Gap). g.len) none)
      (let end = ap (λ (g : Gap). g.end) none in let at = ap (λ (g : Gap). g.at) none in omega (arith, at, end))

  pub laid_new : AreLaid names entries gap
  laid_new =
      record {
        same = kept.same;
        room =
            let end = ap (λ (g : Gap). g.end) none in
            let at = ap (λ (g : Gap). g.at) none in
            let len = ap (λ (g : Gap). g.len) none in record { order = omega (arith, at, end); inside = omega (arith, end, len) };
        slots = subst₂ (λ ns es. AreSlots ns es) (sym whole_names) (sym whole_entries) kept;
      }
    where
      kept : AreSlots names entries
      kept = kept_new names entries n x is is₂

  pub shows_new : laid_slots names entries gap ≡ no_rows n
  shows_new = ap₂ (λ ns es. slots_of ns es) (whole_names ∙ is) (whole_entries ∙ is₂) ∙ all_empty n x
