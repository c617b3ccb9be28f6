use Rattle.std.proofs.Common.{◌≡◌, take}
use Rattle.std.specs.List.{list_all}
use Rattle.report_text.specs.Texts.{is_plain}
use Rattle.report_text.proofs.push.are_plain.Given as goal

-- whether those so far do
abbrev pub invariant-loop-b : goal.invariant-loop-b
invariant-loop-b l = record {
  plain : l.plain ≡ list_all is_plain (take l.b-index l.bytes);
}
