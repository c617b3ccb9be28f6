use Rattle.std.specs.Prelude.{ℕ, ◌+◌, ◌-◌, ◌%◌, ◌^◌, ◌&&◌, Bool, not, nat_eq, min, List, [], ◌∷◌, map, take, filter, replicate, slice_index_or, slice_set, Option, Some, None, if◌then◌else◌}
use Rattle.overlay_bits.specs.Lines.{with_line}
use Rattle.translation_cache.specs.declared.TheConstants.{SETS, SET_ENTRIES}
use Rattle.translation_cache.specs.declared.cached.Cached.{Cached}

-- The translation lists, whatever an entry holds of its page.

-- the entry of a page of a space
pub record Entry (A : Type 0) : Type 0 where
  pub space : ℕ
  pub page : ℕ
  pub held : A

-- A list for each set, the entry that was used last first; and how many look-ups found the entry of their page, and how many
-- didn't.
pub record Translations (A : Type 0) : Type 0 where
  pub sets : List (List (Entry A))
  pub hits : ℕ
  pub misses : ℕ

-- a count that rose by so many; it stays at 2^64 - 1
abbrev pub counted_up : ℕ → ℕ → ℕ
counted_up count n = min (count + n) (2 ^ 64 - 1)

module _ {A : Type 0} where
  abbrev pub entry_of : ℕ → ℕ → A → Entry A
  entry_of space page held = record { space = space; page = page; held = held }

  -- One list.

  -- whether an entry is that of a page of a space
  abbrev pub is_of : ℕ → ℕ → Entry A → Bool
  is_of space page entry = nat_eq entry.space space && nat_eq entry.page page

  -- what the entry of a page holds
  abbrev pub found_in : ℕ → ℕ → List (Entry A) → Option A
  found_in space page [] = None
  found_in space page (entry ∷ entries) = if is_of space page entry then Some entry.held else found_in space page entries

  -- the list without the entry of a page
  abbrev pub without : ℕ → ℕ → List (Entry A) → List (Entry A)
  without space page [] = []
  without space page (entry ∷ entries) = if is_of space page entry then entries else entry ∷ without space page entries

  -- the list with what the entry of a page holds changed, where it is there; the order stays
  abbrev pub changed : (A → A) → ℕ → ℕ → List (Entry A) → List (Entry A)
  changed f space page [] = []
  changed f space page (entry ∷ entries) =
      if is_of space page entry then entry_of entry.space entry.page (f entry.held) ∷ entries else entry ∷ changed f space page entries

  -- the entry of a page goes to the front, where it is there
  abbrev pub raised_by : ℕ → ℕ → List (Entry A) → Option A → List (Entry A)
  raised_by space page entries None = entries
  raised_by space page entries (Some held) = entry_of space page held ∷ without space page entries

  abbrev pub raised : ℕ → ℕ → List (Entry A) → List (Entry A)
  raised space page entries = raised_by space page entries (found_in space page entries)

  -- the list without the entries of a space
  abbrev pub without_space : ℕ → List (Entry A) → List (Entry A)
  without_space space entries = filter (λ (entry : Entry A). not (nat_eq entry.space space)) entries

  -- All lists.

  -- none has an entry, and nothing was counted
  unfoldable pub no_translations : Translations A
  no_translations = record { sets = replicate SETS []; hits = 0; misses = 0 }

  -- the list of a page, and the lists with another one in its place
  abbrev pub set_of : ℕ → Translations A → List (Entry A)
  set_of page t = slice_index_or t.sets (page % SETS) []

  abbrev pub with_set : ℕ → List (Entry A) → Translations A → Translations A
  with_set page entries t = record { sets = slice_set t.sets (page % SETS) entries; hits = t.hits; misses = t.misses }

  -- so many hits more, and misses
  unfoldable pub with_hits : ℕ → Translations A → Translations A
  with_hits n t = record { sets = t.sets; hits = counted_up t.hits n; misses = t.misses }

  unfoldable pub with_misses : ℕ → Translations A → Translations A
  with_misses n t = record { sets = t.sets; hits = t.hits; misses = counted_up t.misses n }

  -- what the entry of a page holds, where it is there
  unfoldable pub found : ℕ → ℕ → Translations A → Option A
  found space page t = found_in space page (set_of page t)

  -- A page was looked up: where its entry is there, a hit is counted and it goes to the front of its list; else a miss is counted.
  abbrev pub looked_by : ℕ → ℕ → Translations A → Option A → Translations A
  looked_by space page t None = with_misses 1 t
  looked_by space page t (Some held) = with_hits 1 (with_set page (entry_of space page held ∷ without space page (set_of page t)) t)

  unfoldable pub looked : ℕ → ℕ → Translations A → Translations A
  looked space page t = looked_by space page t (found space page t)

  -- a page got an entry, at the front of its list, of which a fifth one is dropped
  unfoldable pub entered : ℕ → ℕ → A → Translations A → Translations A
  entered space page held t = with_set page (take SET_ENTRIES (entry_of space page held ∷ set_of page t)) t

  -- what the entry of a page holds was changed, where it is there
  unfoldable pub updated : (A → A) → ℕ → ℕ → Translations A → Translations A
  updated f space page t = with_set page (changed f space page (set_of page t)) t

  -- all entries of a space were removed
  unfoldable pub flushed : ℕ → Translations A → Translations A
  flushed space t = record { sets = map (without_space space) t.sets; hits = t.hits; misses = t.misses }

-- what an entry holds, with an own line more
abbrev pub cached_with : ℕ → Cached → Cached
cached_with line c = record { perms = c.perms; frame = c.frame; bits = with_line c.bits line }

-- the entry of a page has an own line more, where it is there
abbrev pub with_bit : ℕ → ℕ → ℕ → Translations Cached → Translations Cached
with_bit space page line t = updated (cached_with line) space page t

-- the entry of a page holds something else, where it is there
abbrev pub with_cached : ℕ → ℕ → Cached → Translations Cached → Translations Cached
with_cached space page c t = updated (λ _. c) space page t
