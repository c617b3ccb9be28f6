use Rattle.space_maps.specs.Laws.{cut_one}
use Rattle.overlay_pages.specs.ViewLaws.{state_awaiting, state_books, state_count, state_frames, state_holds, state_mark, state_page_some, state_zero}
use Rattle.overlay_pages.proofs.Tables.{none_state, absent_state, brought_frame, brought_overlay, entries_state, entry_state, frame_of_page, next_state, no_pages_state, none_back, overlaid_bare, own_state, rises_state, added_state, adopted_state, ended_state, entries_few, entries_once, marked_state, seen_low}
use Rattle.overlay_pages.proofs.Removing.{mapped_low, mapped_state, run_low, zeros_low, zeros_state}
use Rattle.overlay_pages.proofs.Found.{frame_in_range, of_page}
use Rattle.overlay_pages.proofs.Lending.{lent_has, lent_inside, lent_there}
use Rattle.overlay_pages.proofs.Growing.{free_is}
use Rattle.overlay_pages.proofs.OwnPlaces.{has_own_place}
use Rattle.overlay_pages.proofs.Placed.{cut_altered}

-- What the state of a view has of the tables.
pub ruleset reads = (state_awaiting, state_books, state_count, state_frames, state_holds, state_mark, state_page_some, state_zero)

-- What calls that only read the tables answer.
pub ruleset answers = (absent_state, added_state, adopted_state, brought_frame, brought_overlay, cut_one, cut_altered, ended_state, entries_few, entries_once, entries_state, entry_state, frame_in_range, frame_of_page, free_is, has_own_place, lent_has, lent_inside, lent_there, mapped_low, mapped_state, marked_state, next_state, no_pages_state, none_back, none_state, of_page, overlaid_bare, own_state, rises_state, run_low, seen_low, zeros_low, zeros_state)
