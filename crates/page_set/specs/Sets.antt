use Rattle.std.specs.Prelude.{◌≡◌, ℕ, ◌+◌, ◌-◌, ◌/◌, ◌%◌, ◌^◌, ◌<◌, ◌≤◌, ◌⊎◌, Bool, true, false, ◌&&◌, nat_eq, nat_le, nat_lt, if◌then◌else◌, List, [], length, Option, Some, None, IsSome}
use Rattle.std.specs.Ordering.{nat_cmp}
use Rattle.std.specs.FinMap.{FinMap, get, len}
use Rattle.overlay_bits.specs.Lines.{AreLines, has_line}
use Rattle.page_set.specs.declared.TheConstants.{CHUNK_PAGES}

-- Sets of pages, by chunks of 64.

-- of each chunk with a member the places of its members, which are below 64
abbrev pub Chunks : Type 0
Chunks = FinMap nat_cmp (List ℕ)

-- the members, and how many chunks there is room for
pub record Members : Type 0 where
  pub chunks : Chunks
  pub room : ℕ

-- whether a page is a member
abbrev pub places_in : Option (List ℕ) → List ℕ
places_in None = []
places_in (Some places) = places

abbrev pub holds : Chunks → ℕ → Bool
holds chunks page = has_line (places_in (get chunks (page / CHUNK_PAGES))) (page % CHUNK_PAGES)

-- what is true of each chunk: it is that of pages below 2^64, and has a member
pub record IsChunk (chunk : ℕ) (places : List ℕ) : Type 0 where
  pub low : chunk < 2 ^ 58
  pub are : AreLines places
  pub some : 0 < length places

abbrev pub AreChunks : Chunks → Type 0
AreChunks chunks = (k : ℕ) (places : List ℕ) → get chunks k ≡ Some places → IsChunk k places

-- how many chunks the n pages from one on lie in
abbrev pub chunks_in : ℕ → ℕ → ℕ
chunks_in from n = (from % CHUNK_PAGES + n + (CHUNK_PAGES - 1)) / CHUNK_PAGES

-- a chunk is that of a page which is there; and pages lie in at most so many chunks
pub record IsChunkOf {X : Type 0} (pages : FinMap nat_cmp X) (chunk : ℕ) : Type 0 where
  pub page : ℕ
  pub there : IsSome (get pages page)
  pub is : page / CHUNK_PAGES ≡ chunk

abbrev pub LieInFew : {X : Type 0} → FinMap nat_cmp X → ℕ → Type 0
LieInFew pages most = (chunks : Chunks) → ((k : ℕ) → IsSome (get chunks k) → IsChunkOf pages k) → len chunks ≤ most

-- a page's chunk has a member, or there is room for one more
abbrev pub CanInsert : Members → ℕ → Type 0
CanInsert set page = IsSome (get set.chunks (page / CHUNK_PAGES)) ⊎ (len set.chunks < set.room)

-- a page is a member, or isn't, and every other one is as before
abbrev pub IsPut : Chunks → ℕ → Bool → Chunks → Type 0
IsPut old page on new = (q : ℕ) → holds new q ≡ (if nat_eq page q then on else holds old q)

-- whether a page is one of the n from `from` on
abbrev pub is_within : ℕ → ℕ → ℕ → Bool
is_within from n page = nat_le from page && nat_lt page (from + n)

-- the n pages from `from` on are no members, and every other one is as before
abbrev pub AreTakenOut : Chunks → ℕ → ℕ → Chunks → Type 0
AreTakenOut old from n new = (q : ℕ) → holds new q ≡ (if is_within from n q then false else holds old q)

-- the least member not below a page, or that there is none
abbrev pub IsNextMember : Chunks → ℕ → Option ℕ → Type 0
IsNextMember chunks page None = (q : ℕ) → page ≤ q → holds chunks q ≡ false
IsNextMember chunks page (Some found) =
    (page ≤ found) × (holds chunks found ≡ true) × ((q : ℕ) → page ≤ q → q < found → holds chunks q ≡ false)
