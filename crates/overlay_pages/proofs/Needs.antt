use Rattle.overlay_pages.specs.ViewLaws.{state_awaiting}
use Rattle.overlay_pages.proofs.Bringing.{all_brought, brought_already, frame_in, joins_fits, joins_state}
use Rattle.overlay_pages.proofs.FoundLines.{brings_fits, brings_state, found_frame, found_there}
use Rattle.overlay_pages.proofs.Growing.{begins_room, begun_first, grows_enough, grows_fits, grows_low, grows_size}
use Rattle.overlay_pages.proofs.Sizes.{first_size}
use Rattle.overlay_pages.proofs.Joining.{page_with, overlay_order, overlay_room, overlay_segment, overlay_set}
use Rattle.overlay_pages.proofs.Shifts.{few_framed, few_none}
use Rattle.overlay_pages.proofs.NewFrames.{frame_inside_of}
use Rattle.overlay_pages.proofs.Common.{ℕ, IsSome, ◌≤◌, ◌<◌, refl, LAST_SPACE, PAGE_END}
use Rattle.overlay_pages.proofs.Stores.{Store}
use Rattle.overlay_pages.proofs.Books.{LedgerView, page_in, overlay_at}
use Rattle.overlay_pages.proofs.Views.{IsJoined, view_of}

-- Laws that the search takes, for steps of calls.

pub number_is : (store : Store) (table : LedgerView) (s p : ℕ) → IsJoined (view_of store table) → IsSome (page_in table s p) → s ≤ LAST_SPACE
number_is store table s p is there = let f = page_with table s p there (overlay_at table s p) refl in (is.held s p f.x f.there).number

pub low_is : (store : Store) (table : LedgerView) (s p : ℕ) → IsJoined (view_of store table) → IsSome (page_in table s p) → p < PAGE_END
low_is store table s p is there = let f = page_with table s p there (overlay_at table s p) refl in (is.held s p f.x f.there).low

-- What steps of calls need.
pub ruleset needs = (all_brought, begins_room, begun_first, brings_fits, brings_state, brought_already, few_framed, few_none, first_size, found_frame, found_there, frame_in, frame_inside_of, grows_enough, grows_fits, grows_low, grows_size, joins_fits, joins_state, low_is, number_is, overlay_order, overlay_room, overlay_segment, overlay_set, state_awaiting)
