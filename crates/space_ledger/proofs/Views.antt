pub use Rattle.ledger.specs.AloneLaws.{AreOriginsApart, are, arent, not_true, origin_with, without_absent}
pub use Rattle.ledger.specs.Changes.{with_lines}
unfoldable pub use Rattle.ledger.specs.Changes.{has_own}
pub use Rattle.ledger.specs.ClassLaws.{class_most, class_none}
pub use Rattle.ledger.specs.Events.{Store, ledger_after}
pub use Rattle.ledger.specs.Ledger.{Holding, Ledger, all_holdings, has_origin, holding_at, is_alone, is_unused, with_page, without_page}
pub use Rattle.ledger.specs.PlaceLaws.{by_place}
pub use Rattle.ledger.specs.StoreLaws.{class_rises, store_nothing, two_rises, units_store}
pub use Rattle.ledger.specs.TallyLaws.{alone_by_count, empty_holdings, had_by_count, lines_tally, no_holdings, same_lines, same_sharers, same_units, sharers_at, sharers_few, sharers_put, tally_changed, tally_le, tally_none, tally_put, units_few}
pub use Rattle.ledger.specs.UnitLaws.{alone_is, lines_at, lines_put, units_at, units_own, units_put}
unfoldable pub use Rattle.ledger.specs.UnitLaws.{frame_for}
pub use Rattle.ledger.specs.Units.{class, tally, units_of}
unfoldable pub use Rattle.ledger.specs.Units.{overlaid_pages, own_lines, sharers, units}
pub use Rattle.space_ledger.specs.Calls.{AreBare, AreBareBelow, AreBareOnZero, AreBooks, ArePagesFree, AreSharedBare, AreSharersCounted, GivesNothingUp, GivesUpAtLast, HasOverlayRoom, HasSpare, HasFramesApart, IsBareFrom, IsBareRun, IsBooked, IsFreeFor, IsLined, IsNextOf, IsNextOverlaid, IsNextOwn, IsSound, NamesOnce, RisesBeside, given_up}
unfoldable pub use Rattle.space_ledger.specs.Calls.{entries_of}
pub use Rattle.space_ledger.specs.Calls.AreSharedBare.{Still, Then}
pub use Rattle.space_ledger.specs.Frames.{held_run, released_run, run_freed, run_units}
unfoldable pub use Rattle.space_ledger.specs.Frames.{counted_run, counted_units, frame_units, held_by, released_by}
pub use Rattle.space_ledger.specs.Joined.{joined_same}
pub use Rattle.space_ledger.specs.Kept.{AreTables, IsShown, Overlays, plain, put_over, seen_page}
unfoldable pub use Rattle.space_ledger.specs.Kept.{seen, tables_of}
pub use Rattle.space_ledger.specs.Space.{AreNotOverlaid, AwaitsRun, HasMapped, IsCounted, IsLeast, IsFirstPageFrom, IsLeastOverlaid, IsRunBelow, IsStartOf, OverlaidSpace, SpaceTable, adopted, awaited, first_of, marked, with_entry}
unfoldable pub use Rattle.space_ledger.specs.Space.{pages_below, pages_from, run_awaited, without_pages}
pub use Rattle.space_ledger.specs.View.{LedgerView, PageView, SpaceView, frame_at, frame_awaiting, holding_of, ledger_of, lines_of, origin_of, overlay_at}
unfoldable pub use Rattle.space_ledger.specs.View.{with_block, with_entry_at, with_frame, with_overlay, with_page_shared, with_run_shared, with_zero_pages}
pub use Rattle.space_ledger.specs.ViewLaws.{entry_frame, given_as, unused_is}
pub use Rattle.space_ledger.specs.declared.tables.Tables.TheInside.{Inside}
pub use Rattle.space_maps.specs.Books.{books_absent, books_added, books_awaiting, books_cut, books_cut_page, books_empty, books_kept, books_len, books_lost, books_marked, books_page, books_put, books_put_page, books_put_shared, books_spaces, books_there}
pub use Rattle.space_maps.specs.Laws.{ArePut, after_cut, are_cut, are_put, beside_space, changed_there, cut_one, in_space, keeps_page_put, keeps_put, page_absent, page_added, page_awaited, page_cut_beside, page_cut_here, page_lost, page_marked, page_of, page_put_beside, page_put_here, page_shared_beside, page_shared_here, same_spaces, space_absent, space_beside, space_left, space_over, space_put, space_there, spaces_alike, there_space}
pub use Rattle.space_maps.specs.Mapped.{mapped_at, mapped_bare, mapped_cut, mapped_cut_pages, mapped_holds, mapped_none, mapped_page, mapped_put, mapped_space}
unfoldable pub use Rattle.space_maps.specs.Mapped.{mapped}
pub use Rattle.space_maps.specs.Options.{by_option, by_test, map_alike, map_from, map_some, map_still, map_twice, none_by}
pub use Rattle.space_maps.specs.Spaces.{AreMapped, Spaces, bare_space, holds_space, of_pages, page_in, space_in}
unfoldable pub use Rattle.space_maps.specs.Spaces.{cut_page, cut_pages, cut_space, put_awaiting, put_mark, put_page, put_pages, put_shared, put_space}

-- What proofs here use of spaces and ledgers.
