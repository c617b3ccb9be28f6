pub use Rattle.overlay_pages.specs.Calls.{AreShared, AreZeros, AwaitBare, AwaitsLike, IsEmptyState, IsNextPage, MovesFewBeside, RisesBy, with_line_at_place, zero_holding}
unfoldable pub use Rattle.overlay_pages.specs.Calls.{entries_in}
pub use Rattle.overlay_pages.specs.Changes.{Fits, HasCopyRoom, HasShareRoom, IsAway, IsNewFrame, IsPlaced, IsRebased, SeesFrame, brought, committed, copied, discarded, frame_in, is_writable, limit_of, moved_to, rebased_page, shared_page, units_of, whole_page, writes_frame, written}
unfoldable pub use Rattle.overlay_pages.specs.Changes.{with_brought, with_shared, with_written, with_zeros}
pub use Rattle.overlay_pages.specs.LineLaws.{line_at, lines_same, set_line}
pub use Rattle.overlay_pages.specs.Lines.{line_in_page, page_lines}
unfoldable pub use Rattle.overlay_pages.specs.Lines.{bytes_of_line, lines_of_bytes, zero_line, zero_page}
pub use Rattle.overlay_pages.specs.SpotLaws.{found_at}
pub use Rattle.overlay_pages.specs.Spots.{IsBroughtTo, IsFound, IsFoundAt, IsFoundPage, IsFoundPageAt, IsInFrame, IsInSegment, IsPlace, IsPutPlace, IsSpot, KeepsPlaces, KeepsPlacesBut}
pub use Rattle.overlay_pages.specs.State.{PageState, SpaceState, State, books, held_page}
pub use Rattle.overlay_pages.specs.Steps.{AreKept, FollowsAll, FollowsAt, IsAhead, IsBehind, IsLaid, IsOfPage, KeepsOtherOverlays, Moved, MovesFew, PutsLine, Tells, by_rank, given_page, joins, laid, laid_line, relocated}
unfoldable pub use Rattle.overlay_pages.specs.Steps.{went_overlay, went_page}
pub use Rattle.overlay_pages.specs.TableLaws.{state_added, state_awaiting_put, state_cut_space, state_mark_put}
pub use Rattle.overlay_pages.specs.View.{HasOwnPlace, IsHeld, IsJoined, IsJoinedWith, IsOwned, MemoryView, ShareFrameLine, line_seen, place_at, place_in_page, segment_of, view_of}
unfoldable pub use Rattle.overlay_pages.specs.View.{page_state, state_of}
pub use Rattle.overlay_pages.specs.ViewLaws.{state_awaiting, state_books, state_frames, state_holds, state_mark, state_page, state_page_some, state_page_there, state_pages, state_zero}
pub use Rattle.overlay_pages.specs.declared.spots.FoundLine.{FoundLine}
pub use Rattle.overlay_pages.specs.declared.spots.FoundPage.{FoundPage}
pub use Rattle.overlay_pages.specs.declared.spots.Spot.{Spot}
pub use Rattle.overlay_pages.specs.declared.spots.Spot.TheVariants.{Frame, Segment}

-- What proofs here use of what a memory is seen as.
