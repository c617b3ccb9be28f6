use Rattle.std.proofs.Common.{◌≡◌, ℕ, ◌+◌, ◌-◌, ◌%◌, ◌^◌, ◌<◌, Bool, cond, min, List, [], ◌∷◌, length, map, filter, set, get_or, Option, Some, None, sym, ap, subst, ◌∙◌, arith, take}
use Rattle.std.specs.List.Retain.{RetainsInTurn}
use Rattle.std.proofs.Math.ListN.{replicate}
use Rattle.std.proofs.lemmas.List.{get_or-replicate, get_or_default, length-replicate, same_lists, set-get_or}
use Rattle.translation_cache.specs.Translations.{Entry, Translations, changed, entered, entry_of, flushed, found, found_in, looked, looked_by, no_translations, raised, raised_by, set_of, updated, with_hits, with_misses, with_set, without_space}
use Rattle.translation_cache.specs.declared.TheConstants.{SETS, SET_ENTRIES}

-- What a change of one list is to all of them.

-- what a test that changes nothing leaves
pub retained : {F X : Type 0} (R : F → X → Bool → F → X → Type 0) (p : X → Bool) (f : F)
    → ((x : X) (b : Bool) (g : F) (y : X) → R f x b g y → (b ≡ p x) × (y ≡ x) × (g ≡ f)) → (xs ys : List X) → RetainsInTurn R f xs ys → ys ≡ filter p xs
retained R p f says [] ys h = h
retained R p f says (x ∷ xs) ys (b, t, y, said, zs, rest, is) =
    let one = says x b t y said in
    is ∙ (λ i. cond (one.0 i) (one.1 i ∷ zs) zs)
    ∙ ap (λ ws. cond (p x) (x ∷ ws) ws) (retained R p f says xs zs (subst (λ s. RetainsInTurn R s xs zs) one.2 rest))

module _ {A : Type 0} where
  abbrev pub translations_of : List (List (Entry A)) → ℕ → ℕ → Translations A
  translations_of sets hits misses = record { sets = sets; hits = hits; misses = misses }

  -- the list of a page, as the code reads it
  read_is : (t : Translations A) (page at : ℕ) (d : List (Entry A)) → at ≡ page % SETS → at < length t.sets → get_or t.sets at d ≡ set_of page t
  read_is t page at d is within = get_or_default t.sets at d [] within ∙ ap (λ n. get_or t.sets n []) is

  -- and the lists, as it writes them
  written_is : (t : Translations A) (page at : ℕ) (es : List (Entry A)) → at ≡ page % SETS → translations_of (set t.sets at es) t.hits t.misses ≡ with_set page es t
  written_is t page at es is = ap (λ n. translations_of (set t.sets n es) t.hits t.misses) is

  pub updated_is : (f : A → A) (t : Translations A) (space page at : ℕ) (es d : List (Entry A)) → at ≡ page % SETS → at < length t.sets
      → es ≡ changed f space page (get_or t.sets at d) → translations_of (set t.sets at es) t.hits t.misses ≡ updated f space page t
  unfolding updated
  updated_is f t space page at es d is within new =
      written_is t page at es is ∙ ap (λ xs. with_set page xs t) (new ∙ ap (changed f space page) (read_is t page at d is within))

  pub entered_is : (t : Translations A) (space page at : ℕ) (held : A) (es d : List (Entry A)) → at ≡ page % SETS → at < length t.sets
      → es ≡ take SET_ENTRIES (entry_of space page held ∷ get_or t.sets at d) → translations_of (set t.sets at es) t.hits t.misses ≡ entered space page held t
  unfolding entered
  entered_is t space page at held es d is within new =
      written_is t page at es is ∙ ap (λ xs. with_set page xs t) (new ∙ ap (λ xs. take SET_ENTRIES (entry_of space page held ∷ xs)) (read_is t page at d is within))

  pub found_is : (t : Translations A) (space page at : ℕ) (o : Option A) (d : List (Entry A)) → at ≡ page % SETS → at < length t.sets
      → o ≡ found_in space page (get_or t.sets at d) → o ≡ found space page t
  unfolding found
  found_is t space page at o d is within there = there ∙ ap (found_in space page) (read_is t page at d is within)

  pub hit_is : (t : Translations A) (space page at hits : ℕ) (held : A) (es d : List (Entry A)) → at ≡ page % SETS → at < length t.sets
      → Some held ≡ found_in space page (get_or t.sets at d) → es ≡ raised space page (get_or t.sets at d) → hits ≡ min (t.hits + 1) (2 ^ 64 - 1)
      → translations_of (set t.sets at es) hits t.misses ≡ looked space page t
  unfolding looked found with_hits
  hit_is t space page at hits held es d is within there new count =
      let read = read_is t page at d is within in
      let in_list = there ∙ ap (found_in space page) read in
      ap (λ h. translations_of (set t.sets at es) h t.misses) count
      ∙ ap (λ (x : Translations A). with_hits 1 x) (written_is t page at es is)
      ∙ ap (λ xs. with_hits 1 (with_set page xs t)) (new ∙ ap (raised space page) read ∙ ap (raised_by space page (set_of page t)) (sym in_list))
      ∙ ap (looked_by space page t) in_list

  pub miss_is : (t : Translations A) (space page at misses : ℕ) (es d : List (Entry A)) → at ≡ page % SETS → at < length t.sets
      → None ≡ found_in space page (get_or t.sets at d) → es ≡ raised space page (get_or t.sets at d) → misses ≡ min (t.misses + 1) (2 ^ 64 - 1)
      → translations_of (set t.sets at es) t.hits misses ≡ looked space page t
  unfolding looked found with_misses
  miss_is t space page at misses es d is within there new count =
      let read = read_is t page at d is within in
      let in_list = there ∙ ap (found_in space page) read in
      ap (translations_of (set t.sets at es) t.hits) count
      ∙ ap (λ (x : Translations A). with_misses 1 x)
      (written_is t page at es is ∙ ap (λ xs. with_set page xs t) (new ∙ ap (raised space page) read ∙ ap (raised_by space page (set_of page t)) (sym in_list))
      ∙ ap (λ sets. translations_of sets t.hits t.misses) (set-get_or t.sets (page % SETS) []))
      ∙ ap (looked_by space page t) in_list

  pub flushed_is : (t : Translations A) (space : ℕ) (sets : List (List (Entry A))) → sets ≡ map (without_space space) t.sets
      → translations_of sets t.hits t.misses ≡ flushed space t
  unfolding flushed
  flushed_is t space sets new = ap (λ xs. translations_of xs t.hits t.misses) new

  pub none_is : (sets : List (List (Entry A))) → length sets ≡ SETS → ((i : ℕ) (d : List (Entry A)) → i < SETS → get_or sets i d ≡ []) → translations_of sets 0 0 ≡ no_translations
  unfolding no_translations
  none_is sets count each =
      let none : List (Entry A) = [] in
      ap (λ xs. translations_of xs 0 0)
      (same_lists sets (replicate SETS none) (count ∙ sym (length-replicate SETS none))
      (λ i d less. each i d (omega (arith, count)) ∙ sym (get_or-replicate SETS i none d (omega (arith, count)))))
