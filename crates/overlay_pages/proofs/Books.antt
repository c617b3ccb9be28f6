pub use Rattle.ledger.specs.AloneLaws.{alone_apart, are, arent, holder, not_true, origin_with, unused_from, unused_parts, unused_without, without_absent, alone_same}
pub use Rattle.ledger.specs.Changes.{with_line}
unfoldable pub use Rattle.ledger.specs.Changes.{has_own, with_lines}
pub use Rattle.ledger.specs.ClassLaws.{class_le, class_most, class_none, class_one}
pub use Rattle.ledger.specs.Events.{Store, ledger_after}
pub use Rattle.ledger.specs.Ledger.{Holding, Ledger, all_holdings, has_origin, holding_at, is_alone, with_page, without_page}
unfoldable pub use Rattle.ledger.specs.Ledger.{is_unused}
pub use Rattle.ledger.specs.PlaceLaws.{by_place, put_again}
pub use Rattle.ledger.specs.StoreLaws.{longer, store_nothing, units_store}
pub use Rattle.ledger.specs.TallyLaws.{no_holdings, overlaid_few, same_units}
pub use Rattle.ledger.specs.UnitLaws.{alone_is, no_units, units_at, units_changed, units_new, units_own}
unfoldable pub use Rattle.ledger.specs.UnitLaws.{frame_for}
pub use Rattle.ledger.specs.Units.{overlaid_pages, units_of}
unfoldable pub use Rattle.ledger.specs.Units.{class, units}
pub use Rattle.number_maps.specs.Keys.{alike, by_key, removed_other, removed_same}
pub use Rattle.number_maps.specs.Values.{len_low}
pub use Rattle.number_maps.specs.Views.{get_viewed}
pub use Rattle.page_table.specs.Run.{entry_at}
pub use Rattle.page_table.specs.Table.{Pages, is_within}
pub use Rattle.page_table.specs.declared.entry.PageEntry.{PageEntry}
pub use Rattle.page_table.specs.declared.run.PageRun.{PageRun}
pub use Rattle.space_ledger.specs.Calls.{AreBareBelow, AreSharedBare, GivesNothingUp, GivesUpAtLast, IsBareRun, NamesOnce, given_up}
pub use Rattle.space_ledger.specs.Calls.AreSharedBare.{Still, Then}
pub use Rattle.space_ledger.specs.Joined.{put_same}
pub use Rattle.space_ledger.specs.Space.{IsLeast}
pub use Rattle.space_ledger.specs.View.{LedgerView, PageView, SpaceView, frame_at, frame_awaiting, holding_of, ledger_of, lines_of, origin_of, overlay_at}
unfoldable pub use Rattle.space_ledger.specs.View.{with_block, with_frame, with_overlay, with_page_shared, with_zero_pages}
pub use Rattle.space_ledger.specs.ViewLaws.{entry_frame, given_as}
pub use Rattle.space_maps.specs.Books.{books_added, books_awaiting, books_cut_page, books_empty, books_lost, books_marked, books_page, books_put_page, books_spaces, books_there}
pub use Rattle.space_maps.specs.Laws.{KeepsSpaces, after_cut, are_cut, changed_there, cut_over, keeps_page_cut, keeps_page_put, keeps_page_set, keeps_still, keeps_twice, page_absent, page_added, page_again, page_awaited, page_lost, page_marked, page_put_beside, page_put_here, page_set_beside, page_set_here, page_shared_beside, put_shared_as, put_there, set_some, space_put, spaces_alike, there_cut, there_put, there_space, page_over}
pub use Rattle.space_maps.specs.Mapped.{mapped_none}
unfoldable pub use Rattle.space_maps.specs.Mapped.{mapped}
pub use Rattle.space_maps.specs.Options.{by_option, by_test, map_alike, map_from, map_twice, map_some}
pub use Rattle.space_maps.specs.Spaces.{AreMapped, bare_space, cut_page, holds_space, space_in, altered_page}
unfoldable pub use Rattle.space_maps.specs.Spaces.{cut_pages, cut_space, page_in, put_awaiting, put_mark, put_page, put_pages, put_shared, put_space, set_page}

-- What proofs here use of tables and ledgers.
