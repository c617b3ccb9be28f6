use Rattle.std.specs.Prelude.{◌≡◌, ℕ, true, List, ◌∷◌, ◌++◌, length, Option, Some, None}
use Rattle.translation_cache.specs.Translations.{Entry, found_in, is_of}

-- Where the entry of a page stands in a list.

module _ {A : Type 0} where
  -- it is behind as many entries, none of which is of the page
  pub record IsPlace (space page : ℕ) (entries : List (Entry A)) (place : ℕ) : Type 0 where
    pub front : List (Entry A)
    pub entry : Entry A
    pub back : List (Entry A)
    pub cut : entries ≡ front ++ entry ∷ back
    pub behind : length front ≡ place
    pub none : found_in space page front ≡ None
    pub is : is_of space page entry ≡ true

  abbrev pub FindsPlace : ℕ → ℕ → List (Entry A) → Option ℕ → Type 0
  FindsPlace space page entries None = found_in space page entries ≡ None
  FindsPlace space page entries (Some place) = IsPlace space page entries place
