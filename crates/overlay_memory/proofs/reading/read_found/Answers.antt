use Rattle.std.proofs.Common.{◌≡◌, ◌+◌, ◌-◌, ◌%◌, true, false, length, take, drop, sym, ap, ◌∙◌, refl, arith}
use Rattle.std.specs.Prelude.{Err}
use Rattle.ovl_io.specs.Permissions.{permits}
use Rattle.overlay_memory.specs.declared.error.MemoryError.TheVariants.{Forbidden}
use Rattle.overlay_memory.proofs.Pieced.{found_lacks, found_permits, found_piece, low_address, permitted, reads_of}
use Rattle.overlay_memory.proofs.reading.read_found.Goals as goal

pub returns-then-contains-clause-access : goal.returns-then-contains-clause-access
returns-then-contains-clause-access c =
    let found = c.args.found in
    let may : permits found.perms.0 c.args.need.0 ≡ true = sym (c.contains.ensures tt) ∙ c.if-contains.true in
    permitted c.args.pages.now found.space c.args.need.0 c.args.address (length c.args.into.now)
    (found_permits c.args.pages.now found.space c.args.address c.args.need.0 found c.requires.found c.line_at-bytes.ensures.joined may) (omega (arith, c.requires.one_line))

pub returns-then-contains-clause-bytes : goal.returns-then-contains-clause-bytes
returns-then-contains-clause-bytes c =
    let at = c.args.address % 64 in
    let n = length c.args.into.now in
    let count : at + n - at ≡ n = omega arith in
    c.copy_from_slice.ensures.after ∙ ap (λ k. take k (drop at c.line_at-bytes.result.now)) count
    ∙ found_piece c.args.pages.now c.args.address n c.args.found c.line_at-bytes.result.now c.requires.found c.requires.one_line c.line_at-bytes.ensures.value c.line_at-bytes.ensures.bytes

pub returns-then-contains-clause-low : goal.returns-then-contains-clause-low
returns-then-contains-clause-low c =
    let found = c.args.found in
    let may : permits found.perms.0 c.args.need.0 ≡ true = sym (c.contains.ensures tt) ∙ c.if-contains.true in
    low_address c.args.pages.now found.space c.args.need.0 c.args.address
    (found_permits c.args.pages.now found.space c.args.address c.args.need.0 found c.requires.found c.line_at-bytes.ensures.joined may)

pub returns-else-contains-clause-access : goal.returns-else-contains-clause-access
returns-else-contains-clause-access c =
    let found = c.args.found in
    let lacks : permits found.perms.0 c.args.need.0 ≡ false = sym (c.contains.ensures tt) ∙ c.if-contains.false in
    reads_of c.args.pages.now found.space c.args.need.0 c.args.address (length c.args.into.now) (Err (Forbidden c.args.address))
    c.requires.some (omega (arith, c.requires.one_line))
    (refl, found_lacks c.args.pages.now found.space c.args.address c.args.need.0 found c.requires.found lacks)
