use Rattle.std.specs.Prelude.{◌≡◌, ℕ, ◌-◌, ◌%◌, ◌^◌, ◌≤◌, List, [], ◌∷◌, length, slice_index_or, None}
use Rattle.translation_cache.specs.Translations.{Entry, Translations, found_in}
use Rattle.translation_cache.specs.declared.TheConstants.{SETS, SET_ENTRIES}

-- What is true of the lists of every cache.

module _ {A : Type 0} where
  -- each entry stands in the list of its page
  abbrev pub AreOfSet : ℕ → List (Entry A) → Type 0
  AreOfSet set [] = Unit {0}
  AreOfSet set (entry ∷ entries) = (entry.page % SETS ≡ set) × AreOfSet set entries

  -- no page of a space has two entries
  abbrev pub AreDistinct : List (Entry A) → Type 0
  AreDistinct [] = Unit {0}
  AreDistinct (entry ∷ entries) = (found_in entry.space entry.page entries ≡ None) × AreDistinct entries

  pub record IsSet (set : ℕ) (entries : List (Entry A)) : Type 0 where
    pub few : length entries ≤ SET_ENTRIES
    pub placed : AreOfSet set entries
    pub once : AreDistinct entries

  pub record IsFormed (t : Translations A) : Type 0 where
    pub count : length t.sets ≡ SETS
    pub each : (set : ℕ) → IsSet set (slice_index_or t.sets set [])
    pub hits_fit : t.hits ≤ 2 ^ 64 - 1
    pub misses_fit : t.misses ≤ 2 ^ 64 - 1
