use Rattle.std.proofs.Common.{◌+◌, ap}
use Rattle.overlay_mapping_table.proofs.Ends.{bare_there, full_there, take_now}
use Rattle.overlay_mapping_table.proofs.shifts.take_out.Goals as goal

pub last_from-last-requires-clause-there : goal.last_from-last-requires-clause-there
last_from-last-requires-clause-there c =
    full_there c.args.slots.now c.requires.there.0 c.args.at (c.len.result + c.args.at) c.requires.there.1 (ap (λ n. n + c.args.at) c.len.ensures)

pub lower-requires-clause-bare : goal.lower-requires-clause-bare
lower-requires-clause-bare c =
    bare_there c.args.slots.now c.clear.new.self c.requires.there.0 c.args.at (c.len.result + c.args.at) c.requires.there.1
    (ap (λ n. n + c.args.at) c.len.ensures) c.clear.ensures

pub returns : goal.returns
returns c =
    λ name there.
    take_now c.args.slots.now c.clear.new.self c.lower.new.slots name c.args.at (c.len.result + c.args.at) c.last_from-last.result c.requires.sound there
    (ap (λ n. n + c.args.at) c.len.ensures) c.last_from-last.ensures c.clear.ensures c.lower.ensures
