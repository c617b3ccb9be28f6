use Rattle.std.proofs.Common.{◌≡◌, ◌≤◌, ℕ, List, ap, length, subst, sym, ◌∙◌, arith, Ok}
use Rattle.std.specs.FinMap.{len}
use Rattle.std.specs.List.{AllByRecursion}
use Rattle.image_lines.specs.Lines.{IsByte}
use Rattle.sizes.specs.declared.TheConstants.{MOST_SPACE_PAGES}
use Rattle.overlay_memory.specs.View.{TranslatedView, state_of}
use Rattle.space_maps.specs.Spaces.{space_in}
use Rattle.machine_core.specs.Machine.{spaces_of}
use Rattle.command_core.specs.Kept.{checkpoint_in}
use Rattle.command_core.specs.Images.{image_between, short_enough}
use Rattle.command_core.proofs.Exporting.{back_same, comes_back, delta_same, image_is, is_wanted, length_is, short, too_large}
use Rattle.command_core.proofs.Fitting.{few_pages_in}
use Rattle.command_core.proofs.imaging.export_space.Goals as goal

pub image_length-length-requires-clause-few : goal.image_length-length-requires-clause-few
image_length-length-requires-clause-few c =
    subst (λ (m : TranslatedView). len (space_in (state_of m) c.args.saved.now.space).pages ≤ MOST_SPACE_PAGES) (sym c.memory-memory.ensures)
    (few_pages_in c.args.machine.now c.args.saved.now.space c.requires.fit)

pub returns-then-length-gt-MOST_EXPORTED-clause-exports : goal.returns-then-length-gt-MOST_EXPORTED-clause-exports
returns-then-length-gt-MOST_EXPORTED-clause-exports c =
    let n = c.image_length-length.result in
    too_large _ n (length_is c.args.machine.now c.memory-memory.result.now c.memory-memory.ensures c.args.saved.now c.args.base.now n c.image_length-length.ensures)
    c.if-length-gt-MOST_EXPORTED.true

pub returns-in-Err-clause-exports : goal.returns-in-Err-clause-exports
returns-in-Err-clause-exports c =
    let n = c.image_length-length.result in
    is_wanted _ _ (short _ n (length_is c.args.machine.now c.memory-memory.result.now c.memory-memory.ensures c.args.saved.now c.args.base.now n c.image_length-length.ensures)
    c.if-length-gt-MOST_EXPORTED.false)

pub returns-clause-exports : goal.returns-clause-exports
returns-clause-exports c =
    let n = c.image_length-length.result in
    is_wanted _ _ (short _ n (length_is c.args.machine.now c.memory-memory.result.now c.memory-memory.ensures c.args.saved.now c.args.base.now n c.image_length-length.ensures)
    c.if-length-gt-MOST_EXPORTED.false)

pub returns-in-Ok-encode-clause-exports : goal.returns-in-Ok-encode-clause-exports
returns-in-Ok-encode-clause-exports c =
    let n = c.image_length-length.result in
    let x = c.args.saved.now in
    let y = c.args.base.now in
    let machine = c.args.machine.now in
    let image = c.in-Ok-encode.image.items in
    short _ n (length_is machine c.memory-memory.result.now c.memory-memory.ensures x y n c.image_length-length.ensures) c.if-length-gt-MOST_EXPORTED.false
    ∙ ap Ok (sym (image_is (spaces_of machine) x y c.in-Ok.delta image
    (delta_same machine c.memory-memory.result.now c.memory-memory.ensures x y c.in-Ok.delta c.in-Ok.ensures.gathers) c.in-Ok-encode.ensures.image))

pub returns-in-Ok-encode-clause-back : goal.returns-in-Ok-encode-clause-back
returns-in-Ok-encode-clause-back c =
    let n = c.image_length-length.result in
    let x = c.args.saved.now in
    let y = c.args.base.now in
    let machine = c.args.machine.now in
    let image = c.in-Ok-encode.image.items in
    let gathered_is = delta_same machine c.memory-memory.result.now c.memory-memory.ensures x y c.in-Ok.delta c.in-Ok.ensures.gathers in
    let long = length_is machine c.memory-memory.result.now c.memory-memory.ensures x y n c.image_length-length.ensures in
    comes_back (spaces_of machine) x y c.in-Ok.delta image gathered_is
    (back_same machine c.memory-memory.result.now c.memory-memory.ensures x y c.in-Ok.delta c.in-Ok.ensures.back) c.in-Ok-encode.ensures.image
    (subst (AllByRecursion IsByte) c.as_slice.ensures.value c.byte_count-fits.ensures.fit)
    (omega (arith, ap length (image_is (spaces_of machine) x y c.in-Ok.delta image gathered_is c.in-Ok-encode.ensures.image), long, c.if-length-gt-MOST_EXPORTED.false))
