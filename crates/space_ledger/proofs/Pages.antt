pub use Rattle.frame_pool.specs.Counts.{held, none_shared, released, sharers_of}
pub use Rattle.frame_pool.specs.Laws.{held_here, held_other, none_at, released_here, released_other}
pub use Rattle.number_maps.specs.Cuts.{by_entries}
pub use Rattle.number_maps.specs.Keys.{alike, by_key, get_other, get_same, insert_kept, removed_other, removed_same}
pub use Rattle.number_maps.specs.Values.{len_low, remove_absent}
pub use Rattle.number_maps.specs.Views.{get_viewed, len_viewed, viewed, viewed_empty, viewed_gone, viewed_put, viewed_same}
pub use Rattle.overlay_address.specs.Laws.{is_name, page_back, same_page, same_space, space_back}
pub use Rattle.overlay_address.specs.Names.{IsName, overlay_page, space_of}
pub use Rattle.overlay_bits.specs.Lines.{AreLines, Rise, has_line}
pub use Rattle.overlay_mapping_table.specs.Table.{HasRoomFor}
pub use Rattle.overlay_mapping_table.specs.declared.entry.Entry.{Entry}
pub use Rattle.page_set.specs.Sets.{AreTakenOut, Chunks, IsNextMember, IsPut, holds}
pub use Rattle.page_table.specs.Nodes.{OverlaidAreThere, Table}
pub use Rattle.page_table.specs.Run.{IsNextRun, IsRunFrom, entry_at}
pub use Rattle.page_table.specs.Table.{AreThere, IsFree, IsMapped, IsNext, IsUnmapped, Pages, is_within}
pub use Rattle.page_table.specs.declared.entry.PageEntry.{PageEntry}
pub use Rattle.page_table.specs.declared.run.PageRun.{PageRun}
pub use Rattle.unit_map.specs.declared.block.Block.{Block}

-- What proofs here use of maps, pages, frames and overlays.
