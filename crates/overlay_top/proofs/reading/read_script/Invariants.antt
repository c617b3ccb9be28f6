use Rattle.std.proofs.Common.{◌≡◌, ◌-◌, ◌≤◌, ◌++◌, vec_len}
use Rattle.overlay_top.proofs.reading.read_script.Given as goal

-- the script so far, and what is left, are what was left
abbrev pub invariant-reading : goal.invariant-reading
invariant-reading g l = record {
  within : vec_len l.script ≤ 1048577;
  sound : g.S.Source.faults l.source ≡ g.S.Source.faults l.fn.source;
  read : g.S.Source.tells → g.S.Source.left l.fn.source ≡ l.script.items ++ g.S.Source.left l.source;
}

abbrev pub decreases-reading : goal.decreases-reading
decreases-reading g l = 1048577 - vec_len l.script
