use Rattle.std.proofs.Common.{◌≡◌, ◌++◌, take}
use Rattle.std.specs.Prelude.{flat_map}
use Rattle.workload.specs.File.{field_bytes}
use Rattle.workload.proofs.file.push_fields.Given as goal

-- the fields so far
abbrev pub invariant-loop-field : goal.invariant-loop-field
invariant-loop-field l = l.file.items ≡ l.initial.file.items ++ flat_map field_bytes (take l.field-index l.fields)
