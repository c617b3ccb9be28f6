use Rattle.std.specs.Prelude.{ℕ, ◌+◌, ◌-◌, ◌^◌, ◌==◌, min, Bool, List, [], ◌∷◌, Option, None, Some, if◌then◌else◌, nat_eq}
use Rattle.std.specs.List.{list_any}
use lib.Pointwise.{pointwise}
use Rattle.ovl_io.specs.Outside.{FetchRefused}

-- The forms in memory, as contracts see them.

-- A source: the bytes that are left, the most that a call gives, the numbers of the calls that fail, and
-- how many calls and faults there were.
pub record SourceInMemory : Type 0 where
  pub left : List ℕ
  pub most : ℕ
  pub fails : List ℕ
  pub calls : ℕ
  pub faults : ℕ

-- A source that never fails.
pub record PlainSource : Type 0 where
  pub left : List ℕ
  pub most : ℕ

-- A shelf: files by name, the numbers of the fetches that fail, how many fetches and faults there were,
-- and what the last fetch was refused.
pub record ShelfInMemory : Type 0 where
  pub files : List (List ℕ × List ℕ)
  pub fails : List ℕ
  pub calls : ℕ
  pub faults : ℕ
  pub refused : Option FetchRefused

-- A sink: the bytes that it took, for how many it has room in all, the most that a call takes, the
-- numbers of the calls that fail, and how many calls and faults there were.
pub record SinkInMemory : Type 0 where
  pub taken : List ℕ
  pub room : ℕ
  pub most : ℕ
  pub fails : List ℕ
  pub calls : ℕ
  pub faults : ℕ

-- whether a call's number is among those that fail
abbrev pub is_among : List ℕ → ℕ → Bool
is_among fails call = list_any (λ k. k == call) fails

-- a count of calls after one more
abbrev pub one_call_more : ℕ → ℕ
one_call_more calls = min (calls + 1) (2 ^ 32 - 1)

-- a count of faults after one more
abbrev pub one_fault_more : ℕ → ℕ
one_fault_more faults = min (faults + 1) (2 ^ 64 - 1)

-- the file of a name: that of the first pair with the name
abbrev pub file_named : List (List ℕ × List ℕ) → List ℕ → Option (List ℕ)
file_named [] name = None
file_named (pair ∷ pairs) name = if pointwise nat_eq pair.0 name then Some pair.1 else file_named pairs name

-- what is said of the bytes of an object that tells none
abbrev pub untold : List ℕ
untold = []

-- the faults of an object that never fails
abbrev pub no_faults : ℕ
no_faults = 0

-- what a shelf that is never refused tells
abbrev pub never_refused : Option FetchRefused
never_refused = None
