use Rattle.std.specs.Prelude.{ℕ, zero, suc, ◌+◌, ◌<◌, Bool, false, Option, Some, None, is_some, IsSome}
use Rattle.std.specs.List.{fold, range_with_len}
use Rattle.std.specs.Option.{option_map_or, unwrap_or}
use Rattle.std.specs.Ordering.{nat_cmp}
use Rattle.std.specs.FinMap.{FinMap, empty, get, insert, remove}
use Rattle.page_table.specs.Table.{Pages}

-- Spaces by number, whatever a page has.

-- a space: its pages, those that await being shared, and whether it is speculating
pub record SpaceOf (P : Type 0) : Type 0 where
  pub pages : FinMap nat_cmp P
  pub awaiting : Pages
  pub speculating : Bool

-- the spaces, how many frames there are, and which of them is the zero frame
pub record Spaces (P : Type 0) : Type 0 where
  pub spaces : FinMap nat_cmp (SpaceOf P)
  pub frames : ℕ
  pub zero_frame : ℕ

abbrev pub bare_space : {P : Type 0} → SpaceOf P
bare_space = record { pages = empty; awaiting = empty; speculating = false }

-- whether a space is there, the space, and a page of it
abbrev pub holds_space : {P : Type 0} → Spaces P → ℕ → Bool
holds_space v space = is_some (get v.spaces space)

unfoldable pub space_in : {P : Type 0} → Spaces P → ℕ → SpaceOf P
space_in v space = unwrap_or (get v.spaces space) bare_space

unfoldable pub page_in : {P : Type 0} → Spaces P → ℕ → ℕ → Option P
page_in v space page = get (space_in v space).pages page

-- the n pages from `from` on are there
abbrev pub AreMapped : {P : Type 0} → Spaces P → ℕ → ℕ → ℕ → Type 0
AreMapped v space from n = (i : ℕ) → i < n → IsSome (page_in v space (from + i))

-- Changes.

-- a space put in, and taken away
unfoldable pub put_space : {P : Type 0} → Spaces P → ℕ → SpaceOf P → Spaces P
put_space v space x = record { spaces = insert v.spaces space x; frames = v.frames; zero_frame = v.zero_frame }

unfoldable pub cut_space : {P : Type 0} → Spaces P → ℕ → Spaces P
cut_space v space = record { spaces = remove v.spaces space; frames = v.frames; zero_frame = v.zero_frame }

-- a space with other pages, those that await and the mark as they were
abbrev pub of_pages : {P : Type 0} → SpaceOf P → FinMap nat_cmp P → SpaceOf P
of_pages x pages = record { pages = pages; awaiting = x.awaiting; speculating = x.speculating }

-- a page put at a place, and taken away
unfoldable pub put_page : {P : Type 0} → Spaces P → ℕ → ℕ → P → Spaces P
put_page v space page x = put_space v space (of_pages (space_in v space) (insert (space_in v space).pages page x))

unfoldable pub cut_page : {P : Type 0} → Spaces P → ℕ → ℕ → Spaces P
cut_page v space page = put_space v space (of_pages (space_in v space) (remove (space_in v space).pages page))

-- one or the other
unfoldable pub set_page : {P : Type 0} → Spaces P → ℕ → ℕ → Option P → Spaces P
set_page v space page None = cut_page v space page
set_page v space page (Some x) = put_page v space page x

-- as many pages put from one on, each the same
unfoldable pub put_pages : {P : Type 0} → Spaces P → ℕ → ℕ → ℕ → P → Spaces P
put_pages v space from count x = fold (λ w page. put_page w space page x) v (range_with_len from count)

-- as many pages taken away from one on, one after the other
unfoldable pub cut_pages : {P : Type 0} → Spaces P → ℕ → ℕ → ℕ → Spaces P
cut_pages v space from zero = v
cut_pages v space from (suc k) = cut_page (cut_pages v space from k) space (from + k)

-- a page that is there, changed
unfoldable pub altered_page : {P : Type 0} → (P → P) → Spaces P → ℕ → ℕ → Spaces P
altered_page turn v space page = option_map_or (λ x. put_page v space page (turn x)) (page_in v space page) v

-- a space with a mark, and one whose pages are to be those of a table
unfoldable pub put_mark : {P : Type 0} → Spaces P → ℕ → Bool → Spaces P
put_mark v space on =
    let x = space_in v space in put_space v space (record { pages = x.pages; awaiting = x.awaiting; speculating = on })

unfoldable pub put_awaiting : {P : Type 0} → Spaces P → ℕ → Pages → Spaces P
put_awaiting v space awaiting =
    let x = space_in v space in put_space v space (record { pages = x.pages; awaiting = awaiting; speculating = x.speculating })

-- a page that awaits becomes one of the space's
unfoldable pub put_shared : {P : Type 0} → Spaces P → ℕ → ℕ → P → Spaces P
put_shared v space page x =
    let y = space_in v space in
    put_space v space (record { pages = insert y.pages page x; awaiting = remove y.awaiting page; speculating = y.speculating })
