use Rattle.std.proofs.Common.{◌-◌, ◌<◌, ◌≤◌}
use Rattle.overlay_mapping_table.specs.Gaps.{seen_slots, ShowNone}
use Rattle.overlay_mapping_table.proofs.moves.room_from.Given as goal

abbrev pub invariant-looking : goal.invariant-looking
invariant-looking l = (0 < l.room) × ((l.room ≤ l.most) × ShowNone (seen_slots l.names 0 l.gap) l.end l.room)

abbrev pub decreases-looking : goal.decreases-looking
decreases-looking l = l.most - l.room
