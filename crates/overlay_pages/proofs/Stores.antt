pub use Rattle.line_store.specs.Lines.{line_of}
unfoldable pub use Rattle.line_store.specs.Lines.{zero_lines}
pub use Rattle.overlay_address.specs.Laws.{page_back, same_page, same_space, space_back}
pub use Rattle.overlay_address.specs.Names.{overlay_page, page_of, space_of}
pub use Rattle.overlay_bits.specs.Below.{has_append}
pub use Rattle.overlay_bits.specs.Laws.{are_with, count_with, has_next, has_with, with_there}
pub use Rattle.overlay_bits.specs.Lines.{AreLines, has_line, with_line}
pub use Rattle.overlay_mapping_table.specs.declared.entry.Entry.{Entry}
pub use Rattle.segment_store.specs.Changes.{AreCarried, AreLow, BeginsSegment, CopiesSegment, EndsSegment, FillsFrame, HasLinesNow, Inserts, IsEmptyStore, IsKept, IsOutside, IsTarget, KeepsFrame, KeepsFrames, KeepsOtherFrames, KeepsOtherSegments, KeepsScratch, KeepsSegment, KeepsSegments, Lays, Lifts, MakesMoves, block_of, units_after}
pub use Rattle.segment_store.specs.Kept.{IsStore}
pub use Rattle.segment_store.specs.Laws.{Alters, count_fits, filled_there, frame_alters, frame_inside, frame_set_here, frame_set_store, frame_stays, frames_stay, inside_of, lies_at, line_alters, line_lies, line_set_store, lines_there, order_of, others_stay, places_differ, refilled, scratch_stays, segment_range, segments_stay, set_beside, set_here, stays_twice}
pub use Rattle.segment_store.specs.Places.{LiesIn}
pub use Rattle.segment_store.specs.Pointers.{capacity_of}
pub use Rattle.segment_store.specs.Runs.{lands, low_last, made_carries, outside_fixed, target_last, made_low}
pub use Rattle.segment_store.specs.Store.{IsFrame, IsSegment, Store, composed_line, frame_line, frame_place, line_in, lines_at, lines_with, place_of, scratch_line, scratch_place, segment_at, with_frame_line, with_segment_line}
pub use Rattle.segment_store.specs.declared.segment.Segment.{Segment}
pub use Rattle.store_compaction.specs.Next.{Ascend}
pub use Rattle.store_compaction.specs.declared.moves.Move.{Move}
pub use Rattle.unit_map.specs.Changes.{HasRoom}
pub use Rattle.unit_map.specs.Laws.{by_order}
pub use Rattle.unit_map.specs.Pieces.{AreSettled, CanSettle, IsPiece, Piece, free_at, free_frames, free_units, taken_at, units_in}
pub use Rattle.unit_map.specs.Settled.{settled_room}
pub use Rattle.unit_map.specs.declared.block.Block.{Block}

-- What proofs here use of stores: segments, blocks, lines and sets of lines.
