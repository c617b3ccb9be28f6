use Rattle.std.specs.Prelude.{◌≡◌, ℕ, ◌+◌, ◌*◌, true, false, List, [], ◌∷◌, ◌++◌, map, Some, refl}
use Rattle.std.proofs.Common.{◌∙◌}
use Rattle.std.specs.List.{range_with_len}
use Rattle.std.specs.FinMap.{empty}
use Rattle.sizes.specs.declared.TheConstants.{PAGE_BYTES}
use Rattle.ledger.specs.Ledger.{holding_at}
use Rattle.ledger.specs.Units.{class, own_lines, units}
use Rattle.ledger.specs.Changes.{with_lines, without_own}
use Rattle.ledger.specs.Events.{Event, Load, Store, Copy, Settle, SettlePage, Commit, Discard, Map, Unmap, Drop, Rebase, Import}
use Rattle.ledger.specs.UnitLaws.{frame_for}
use Rattle.ledger.specs.Touched.{lines_on_page, touched, touched_between}
use Rattle.ledger.specs.Written.{all_after, holding_is, lines_are, units_are}

-- The units after some events, as the checker computes them from what each event does.

-- some events, from no space on, come to so many units
abbrev pub Needs : List Event → ℕ → Type 0
Needs events count = units (all_after events empty) ≡ count

-- and to so many own lines
abbrev pub ComesTo : List Event → ℕ → ℕ → Type 0
ComesTo events count lines = Needs events count × (own_lines (all_after events empty) ≡ lines)

-- a load of 17 pages: page 16, which is stored, and the stack
abbrev loads : ℕ → Event
loads space = Load space ((16, true) ∷ map (λ page. (page, false)) (range_with_len 67108848 16))

-- a store of so many bytes at an address, in a space that isn't speculating, and in one that is
abbrev stores : ℕ → ℕ → ℕ → Event
stores space address count = Store false space (touched address count)

abbrev stores_speculating : ℕ → ℕ → ℕ → Event
stores_speculating space address count = Store true space (touched address count)

-- a load of 17 pages of which one is stored: 32 units
pub units_loaded : Needs (loads 1 ∷ []) 32
unfolding class frame_for
units_loaded = units_are (loads 1 ∷ []) ∙ refl

-- Stores into the stack.

abbrev stack_once : List Event
stack_once = loads 1 ∷ stores 1 274877906928 8 ∷ []

abbrev stack_four_times : List Event
stack_four_times = stack_once ++ (stores 1 274877906864 8 ∷ stores 1 274877906800 8 ∷ stores 1 274877906736 8 ∷ [])

-- a load, and a store into its stack: 33 units
pub line_of_the_stack : Needs stack_once 33
unfolding class frame_for with_lines touched touched_between lines_on_page
line_of_the_stack = units_are stack_once ∙ refl

-- and stores into three lines more, so that its segment has four: 34
pub lines_of_the_stack : Needs stack_four_times 34
unfolding class frame_for with_lines touched touched_between lines_on_page
lines_of_the_stack = units_are stack_four_times ∙ refl

-- A store over two pages: the first is alone, the second is on the zero frame.

abbrev over_two_pages : List Event
over_two_pages = loads 1 ∷ loads 2 ∷ Map 1 17 1 ∷ stores 1 69628 8 ∷ []

abbrev over_two_pages_later : List Event
over_two_pages_later = loads 1 ∷ loads 2 ∷ Map 1 17 1 ∷ Drop 2 ∷ stores 1 69628 8 ∷ []

-- beside another load: 49 units
pub two_pages_beside : Needs over_two_pages 49
unfolding class frame_for with_lines touched touched_between lines_on_page
two_pages_beside = units_are over_two_pages ∙ refl

-- once the other space is gone: 33
pub two_pages_alone : Needs over_two_pages_later 33
unfolding class frame_for with_lines touched touched_between lines_on_page
two_pages_alone = units_are over_two_pages_later ∙ refl

-- A fork, and a speculation that is given up.

abbrev forked : List Event
forked = loads 1 ∷ Copy 1 2 ∷ stores 1 67584 1 ∷ []

abbrev started : List Event
started = forked ++ (Settle 1 ∷ [])

abbrev started_and_stored : List Event
started_and_stored = started ++ (stores_speculating 1 67584 1 ∷ [])

abbrev stored_alone : List Event
stored_alone = started ++ (Drop 2 ∷ stores_speculating 1 67584 1 ∷ stores_speculating 1 67648 1 ∷ [])

abbrev discarded_alone : List Event
discarded_alone = stored_alone ++ (Discard 1 ∷ [])

-- a load, a fork of it, and a store into the page that both have: 33 units
pub units_forked : Needs forked 33
unfolding class frame_for with_lines touched touched_between lines_on_page
units_forked = units_are forked ∙ refl

-- the page is settled in a frame of its own: 48
pub units_started : Needs started 48
unfolding class frame_for with_lines touched touched_between lines_on_page
units_started = units_are started ∙ refl

-- a store while it is speculating: 49
pub units_speculating : Needs started_and_stored 49
unfolding class frame_for with_lines touched touched_between lines_on_page
units_speculating = units_are started_and_stored ∙ refl

-- two of them once the other space is gone: 33
pub units_speculating_alone : Needs stored_alone 33
unfolding class frame_for with_lines touched touched_between lines_on_page
units_speculating_alone = units_are stored_alone ∙ refl

-- and given up: 32
pub units_given_up : Needs discarded_alone 32
unfolding class frame_for with_lines touched touched_between lines_on_page
units_given_up = units_are discarded_alone ∙ refl

-- A speculation that is committed while its page is shared: the overlay stays, with 33 units.

abbrev committed_shared : List Event
committed_shared = loads 1 ∷ Copy 1 2 ∷ Settle 1 ∷ stores_speculating 1 67584 1 ∷ Commit 1 ∷ []

pub units_committed_shared : Needs committed_shared 33
unfolding class frame_for with_lines touched touched_between lines_on_page
units_committed_shared = units_are committed_shared ∙ refl

-- A page that comes to be alone.

abbrev alone_again : List Event
alone_again = loads 1 ∷ stores 1 67584 1 ∷ Copy 1 2 ∷ stores 1 67584 1 ∷ Drop 2 ∷ stores 1 67648 1 ∷ []

abbrev promoted : List Event
promoted = alone_again ++ (SettlePage 1 16 ∷ [])

-- what is stored then goes into its frame, beside the overlay that it has: 33 units
pub units_alone_again : Needs alone_again 33
unfolding class frame_for with_lines touched touched_between lines_on_page
units_alone_again = units_are alone_again ∙ refl

-- and promoted, without it: 32
pub units_promoted : Needs promoted 32
unfolding class frame_for with_lines touched touched_between lines_on_page
units_promoted = units_are promoted ∙ refl

-- Sixteen overlays of a line each, of which every other one goes.

abbrev sixteen_overlays : List Event
sixteen_overlays = loads 1 ∷ Map 1 32 16 ∷ map (λ page. stores 1 (PAGE_BYTES * page) 1) (range_with_len 32 16)

abbrev eight_overlays : List Event
eight_overlays = sixteen_overlays ++ map (λ k. Unmap 1 (32 + 2 * k) 1) (range_with_len 0 8)

abbrev and_one_of_sixteen_lines : List Event
and_one_of_sixteen_lines = eight_overlays ++ (Map 1 48 1 ∷ stores 1 196608 1024 ∷ [])

-- 48 units
pub units_of_sixteen_overlays : Needs sixteen_overlays 48
unfolding class frame_for with_lines touched touched_between lines_on_page
units_of_sixteen_overlays = units_are sixteen_overlays ∙ refl

-- 40 once eight of their pages are unmapped
pub units_of_eight_overlays : Needs eight_overlays 40
unfolding class frame_for with_lines touched touched_between lines_on_page
units_of_eight_overlays = units_are eight_overlays ∙ refl

-- and 48 again with one overlay of sixteen lines
pub units_of_nine_overlays : Needs and_one_of_sixteen_lines 48
unfolding class frame_for with_lines touched touched_between lines_on_page
units_of_nine_overlays = units_are and_one_of_sixteen_lines ∙ refl

-- A checkpoint that is restored twice and forgotten: 32 units.

abbrev restored_twice : List Event
restored_twice = loads 1 ∷ Copy 1 2 ∷ stores 1 67584 1 ∷ Copy 2 1 ∷ stores 1 67584 1 ∷ Copy 2 1 ∷ Drop 2 ∷ []

pub units_restored_twice : Needs restored_twice 32
unfolding class frame_for with_lines touched touched_between lines_on_page
units_restored_twice = units_are restored_twice ∙ refl

-- Pages with 32 own lines or more.

-- A speculation of a fork that stores into half of a page, is committed, and is forked: 48 units throughout.

abbrev half_speculated : List Event
half_speculated = loads 1 ∷ Copy 1 2 ∷ stores_speculating 1 67584 2048 ∷ []

abbrev half_committed : List Event
half_committed = half_speculated ++ (Commit 1 ∷ [])

abbrev half_forked : List Event
half_forked = half_committed ++ (Copy 1 3 ∷ [])

pub units_half_speculated : ComesTo half_speculated 48 32
unfolding class frame_for with_lines touched touched_between lines_on_page
units_half_speculated = (units_are half_speculated ∙ refl, lines_are half_speculated ∙ refl)

pub units_half_committed : ComesTo half_committed 48 0
unfolding class frame_for with_lines touched touched_between lines_on_page
units_half_committed = (units_are half_committed ∙ refl, lines_are half_committed ∙ refl)

pub units_half_forked : ComesTo half_forked 48 0
unfolding class frame_for with_lines touched touched_between lines_on_page
units_half_forked = (units_are half_forked ∙ refl, lines_are half_forked ∙ refl)

-- A zero page of which 31 lines are stored, then one more, then 32 more: it gets a frame with the 32nd line, which is written then.

abbrev with_31_lines : List Event
with_31_lines = loads 1 ∷ Map 1 32 1 ∷ stores 1 131072 1984 ∷ []

abbrev with_32_lines : List Event
with_32_lines = with_31_lines ++ (stores 1 133056 1 ∷ [])

abbrev with_64_lines : List Event
with_64_lines = with_32_lines ++ (stores 1 133120 2048 ∷ [])

pub units_of_31_lines : ComesTo with_31_lines 40 31
unfolding class frame_for with_lines touched touched_between lines_on_page
units_of_31_lines = (units_are with_31_lines ∙ refl, lines_are with_31_lines ∙ refl)

pub units_of_32_lines : ComesTo with_32_lines 48 0
unfolding class frame_for with_lines touched touched_between lines_on_page
units_of_32_lines = (units_are with_32_lines ∙ refl, lines_are with_32_lines ∙ refl)

pub units_of_64_lines : ComesTo with_64_lines 48 0
unfolding class frame_for with_lines touched touched_between lines_on_page
units_of_64_lines = (units_are with_64_lines ∙ refl, lines_are with_64_lines ∙ refl)

-- 30 lines, and a store into two lines more
abbrev with_30_and_2_lines : List Event
with_30_and_2_lines = loads 1 ∷ Map 1 32 1 ∷ stores 1 131072 1920 ∷ stores 1 133052 8 ∷ []

pub units_of_30_and_2_lines : ComesTo with_30_and_2_lines 48 0
unfolding class frame_for with_lines touched touched_between lines_on_page
units_of_30_and_2_lines = (units_are with_30_and_2_lines ∙ refl, lines_are with_30_and_2_lines ∙ refl)

-- half of a page at once: of a zero page, of one that another space has too, of one that is alone, and while speculating
abbrev half_of_zero : List Event
half_of_zero = loads 1 ∷ Map 1 32 1 ∷ stores 1 131072 2048 ∷ []

abbrev half_of_shared : List Event
half_of_shared = loads 1 ∷ Copy 1 2 ∷ stores 1 67584 2048 ∷ []

abbrev half_of_alone : List Event
half_of_alone = loads 1 ∷ stores 1 67584 2048 ∷ []

abbrev half_speculating : List Event
half_speculating = loads 1 ∷ Map 1 32 1 ∷ stores_speculating 1 131072 2048 ∷ []

pub units_half_of_zero : ComesTo half_of_zero 48 0
unfolding class frame_for with_lines touched touched_between lines_on_page
units_half_of_zero = (units_are half_of_zero ∙ refl, lines_are half_of_zero ∙ refl)

pub units_half_of_shared : ComesTo half_of_shared 48 0
unfolding class frame_for with_lines touched touched_between lines_on_page
units_half_of_shared = (units_are half_of_shared ∙ refl, lines_are half_of_shared ∙ refl)

pub units_half_of_alone : ComesTo half_of_alone 32 0
unfolding class frame_for with_lines touched touched_between lines_on_page
units_half_of_alone = (units_are half_of_alone ∙ refl, lines_are half_of_alone ∙ refl)

pub units_half_speculating : ComesTo half_speculating 48 32
unfolding class frame_for with_lines touched touched_between lines_on_page
units_half_speculating = (units_are half_speculating ∙ refl, lines_are half_speculating ∙ refl)

-- it gets the least origin that no page has
pub origin_half_of_shared : holding_at (all_after half_of_shared empty) 1 16 ≡ Some (without_own 2)
unfolding class frame_for with_lines touched touched_between lines_on_page
origin_half_of_shared = holding_is half_of_shared 1 16 ∙ refl

-- A store over two zero pages: both are settled, one, or none.

abbrev both_settled : List Event
both_settled = loads 1 ∷ Map 1 32 2 ∷ stores 1 133120 4096 ∷ []

abbrev one_settled : List Event
one_settled = loads 1 ∷ Map 1 32 2 ∷ stores 1 133120 4032 ∷ []

abbrev none_settled : List Event
none_settled = loads 1 ∷ Map 1 32 2 ∷ stores 1 133184 3968 ∷ []

pub units_both_settled : ComesTo both_settled 64 0
unfolding class frame_for with_lines touched touched_between lines_on_page
units_both_settled = (units_are both_settled ∙ refl, lines_are both_settled ∙ refl)

pub units_one_settled : ComesTo one_settled 56 31
unfolding class frame_for with_lines touched touched_between lines_on_page
units_one_settled = (units_are one_settled ∙ refl, lines_are one_settled ∙ refl)

pub units_none_settled : ComesTo none_settled 48 62
unfolding class frame_for with_lines touched touched_between lines_on_page
units_none_settled = (units_are none_settled ∙ refl, lines_are none_settled ∙ refl)

-- pages ascending
pub origins_both_settled : (holding_at (all_after both_settled empty) 1 32 ≡ Some (without_own 2)) × (holding_at (all_after both_settled empty) 1 33 ≡ Some (without_own 3))
unfolding class frame_for with_lines touched touched_between lines_on_page
origins_both_settled = (holding_is both_settled 1 32 ∙ refl, holding_is both_settled 1 33 ∙ refl)

-- A page of a few own lines that comes to be alone keeps them, whatever is stored; commit takes them.

abbrev alone_with_line : List Event
alone_with_line = loads 1 ∷ Copy 1 2 ∷ stores 1 67584 1 ∷ Drop 2 ∷ stores 1 65536 4096 ∷ []

pub units_alone_with_line : ComesTo alone_with_line 33 1
unfolding class frame_for with_lines touched touched_between lines_on_page
units_alone_with_line = (units_are alone_with_line ∙ refl, lines_are alone_with_line ∙ refl)

pub units_alone_committed : ComesTo (alone_with_line ++ (Commit 1 ∷ [])) 32 0
unfolding class frame_for with_lines touched touched_between lines_on_page
units_alone_committed = (units_are (alone_with_line ++ (Commit 1 ∷ [])) ∙ refl, lines_are (alone_with_line ++ (Commit 1 ∷ [])) ∙ refl)

-- A page that is put on another one, with 31 lines of its own.

abbrev two_loads : List Event
two_loads = loads 1 ∷ loads 2 ∷ []

abbrev rebased_once : List Event
rebased_once = two_loads ++ (Rebase 2 1 ((16, 16, range_with_len 32 31) ∷ []) ∷ [])

-- 40 units and 31 lines, and the origin of that page
pub units_rebased_once : ComesTo rebased_once 40 31
unfolding class frame_for with_lines
units_rebased_once = (units_are rebased_once ∙ refl, lines_are rebased_once ∙ refl)

pub origin_rebased_once : holding_at (all_after rebased_once empty) 2 16 ≡ Some (record { origin = 1; own = range_with_len 32 31 })
unfolding class frame_for with_lines
origin_rebased_once = holding_is rebased_once 2 16 ∙ refl

-- all pages of a space that are alone, on those of another: 32 units, and no lines
abbrev rebased_all : List Event
rebased_all = two_loads ++ (Rebase 2 1 ((16, 16, []) ∷ []) ∷ [])

pub units_rebased_all : ComesTo rebased_all 32 0
unfolding class frame_for with_lines
units_rebased_all = (units_are rebased_all ∙ refl, lines_are rebased_all ∙ refl)

-- one page on the zero page, and the next one on the first, which has origin 0 by then
abbrev rebased_twice : List Event
rebased_twice = two_loads ++ (Map 1 17 1 ∷ Rebase 1 1 ((16, 17, 3 ∷ []) ∷ []) ∷ Rebase 2 1 ((16, 16, 3 ∷ 5 ∷ []) ∷ []) ∷ [])

pub units_rebased_twice : ComesTo rebased_twice 18 3
unfolding class frame_for with_lines
units_rebased_twice = (units_are rebased_twice ∙ refl, lines_are rebased_twice ∙ refl)

-- An image that is read over a base.

-- the page that both have gets the base's origin and one line more, and all others are zero
abbrev imported_line : List Event
imported_line = loads 1 ∷ Copy 1 2 ∷ Import 2 3 ((16, 32 ∷ []) ∷ (67108848, []) ∷ []) ∷ []

pub units_imported_line : ComesTo imported_line 33 1
unfolding class frame_for with_lines
units_imported_line = (units_are imported_line ∙ refl, lines_are imported_line ∙ refl)

pub origin_imported_line : holding_at (all_after imported_line empty) 3 16 ≡ Some (record { origin = 1; own = 32 ∷ [] })
unfolding class frame_for with_lines
origin_imported_line = holding_is imported_line 3 16 ∙ refl

-- own lines of the base are joined with those given, and 32 of them are settled; so is a page that the base lacks
abbrev imported_large : List Event
imported_large =
    loads 1 ∷ Copy 1 2 ∷ stores 2 65536 64 ∷ Import 2 3 ((16, range_with_len 1 31) ∷ (17, range_with_len 0 32) ∷ (18, range_with_len 0 31) ∷ []) ∷ []

pub units_imported_large : ComesTo imported_large 73 32
unfolding class frame_for with_lines touched touched_between lines_on_page
units_imported_large = (units_are imported_large ∙ refl, lines_are imported_large ∙ refl)

pub origins_imported_large : (holding_at (all_after imported_large empty) 3 16 ≡ Some (without_own 2)) × (holding_at (all_after imported_large empty) 3 17 ≡ Some (without_own 3))
unfolding class frame_for with_lines touched touched_between lines_on_page
origins_imported_large = (holding_is imported_large 3 16 ∙ refl, holding_is imported_large 3 17 ∙ refl)
