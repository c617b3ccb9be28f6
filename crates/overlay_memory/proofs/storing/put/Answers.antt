use Rattle.std.proofs.Common.{◌+◌, ◌-◌, ◌++◌, length, take, drop, refl, arith}
use Rattle.overlay_memory.proofs.Filling.{line_put}
use Rattle.overlay_memory.proofs.storing.put.Goals as goal

pub returns : goal.returns
returns c =
    let at = c.args.at in
    let bytes = c.args.bytes.now in
    let old = c.line_at_mut.result.now in
    let new = c.copy_from_slice.new.self in
    record {
      filled =
          line_put c.args.pages.now c.args.found.space c.args.found.page c.args.found.line at (at + length bytes - at) bytes old new _ c.line_at_mut.ensures.value
          (c.line_at_mut.ensures.state (take at old ++ (new ++ drop (at + length bytes - at) (drop at old)))) c.copy_from_slice.ensures.after (omega arith) (omega arith)
          c.requires.found.line c.requires.some c.requires.fits c.requires.writable;
      table = refl;
      places = c.line_at_mut.ensures.places (take at old ++ (new ++ drop (at + length bytes - at) (drop at old)));
      joined = c.line_at_mut.ensures.joined;
    }
