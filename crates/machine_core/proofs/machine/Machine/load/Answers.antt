use Rattle.std.proofs.Common.{◌+◌, ◌*◌, List, length, ap, ◌∙◌, arith, Ok, Err}
use Rattle.std.proofs.lemmas.List.{length-map}
use Rattle.elf_loader.specs.declared.image.ImagePage.{ImagePage}
use Rattle.elf_loader.specs.Image.{image_pages, listed_page}
use Rattle.overlay_memory.specs.declared.error.SpaceError.TheVariants.{Full, Memory}
use Rattle.overlay_memory.specs.View.{state_of}
use Rattle.machine_core.specs.Machine.{Machine, spaces_of}
use Rattle.machine_core.specs.LoadLaws.{loads_as, same_stays}
use Rattle.machine_core.proofs.Images.{few_items}
use Rattle.machine_core.proofs.Loaded.{counted, full_at, not_full_at}
use Rattle.machine_core.proofs.machine.Machine.load.Goals as goal

pub stored_in-requires : goal.stored_in-requires
stored_in-requires c = few_items c.args.file.now c.pages.result.now c.requires.of_file.taken (c.pages.ensures ∙ c.requires.of_file.pages)

pub make-requires-clause-fits : goal.make-requires-clause-fits
make-requires-clause-fits c =
    not_full_at c.args.file.now c.args.p c.args.self.now (state_of c.self.inside.memory) (c.units.result + 16 * c.stored_in.result) (ap (λ (m : Machine). spaces_of m) c.self.view_is)
    (counted c.args.file.now c.args.p c.args.self.now (state_of c.self.inside.memory) c.pages.result.now c.units.result c.stored_in.result c.requires.of_file.taken
    c.requires.no_space (ap (λ (m : Machine). spaces_of m) c.self.view_is) (c.pages.ensures ∙ c.requires.of_file.pages) c.units.ensures.sum c.stored_in.ensures.count)
    c.in_default.ensures

pub overflow_add-needed : goal.overflow_add-needed
overflow_add-needed c = omega (arith, c.units.ensures.few, c.stored_in.ensures.few)

pub overflow_cast-result : goal.overflow_cast-result
overflow_cast-result c = omega (arith, few_items c.args.file.now c.pages-in-Ok.result.now c.requires.of_file.taken (c.pages-in-Ok.ensures ∙ c.requires.of_file.pages))

pub overflow_add-result : goal.overflow_add-result
overflow_add-result c = omega (arith, few_items c.args.file.now c.pages-in-Ok.result.now c.requires.of_file.taken (c.pages-in-Ok.ensures ∙ c.requires.of_file.pages))

pub returns-in-Some-clause-loads : goal.returns-in-Some-clause-loads
returns-in-Some-clause-loads c =
    full_at c.args.file.now c.args.p c.args.self.now (state_of c.self.inside.memory) (c.units.result + 16 * c.stored_in.result) c.in-Some.shortage
    (ap (λ (m : Machine). spaces_of m) c.self.view_is)
    (counted c.args.file.now c.args.p c.args.self.now (state_of c.self.inside.memory) c.pages.result.now c.units.result c.stored_in.result c.requires.of_file.taken
    c.requires.no_space (ap (λ (m : Machine). spaces_of m) c.self.view_is) (c.pages.ensures ∙ c.requires.of_file.pages) c.units.ensures.sum c.stored_in.ensures.count)
    c.in-Some.ensures

pub returns-in-Some-clause-stands : goal.returns-in-Some-clause-stands
returns-in-Some-clause-stands c =
    loads_as c.args.p c.args.file.now c.args.self.now c.args.self.now (Err (Full c.in-Some.shortage.needed c.in-Some.shortage.limit)) (returns-in-Some-clause-loads c)

pub returns-in-Ok-clause-loads : goal.returns-in-Ok-clause-loads
returns-in-Ok-clause-loads c =
    let file = c.args.file.now in (
      ap (λ (xs : List ImagePage). length xs + 16) (c.pages-in-Ok.ensures ∙ c.requires.of_file.pages) ∙ ap (λ n. n + 16) (length-map (image_pages file) (listed_page file)),
      not_full_at c.args.file.now c.args.p c.args.self.now (state_of c.self.inside.memory) (c.units.result + 16 * c.stored_in.result) (ap (λ (m : Machine). spaces_of m) c.self.view_is)
          (counted c.args.file.now c.args.p c.args.self.now (state_of c.self.inside.memory) c.pages.result.now c.units.result c.stored_in.result c.requires.of_file.taken
          c.requires.no_space (ap (λ (m : Machine). spaces_of m) c.self.view_is) (c.pages.ensures ∙ c.requires.of_file.pages) c.units.ensures.sum c.stored_in.ensures.count)
          c.in_default.ensures,
      c.in-Ok.ensures.made,
    )

pub returns-in-Ok-clause-stands : goal.returns-in-Ok-clause-stands
returns-in-Ok-clause-stands c =
    loads_as c.args.p c.args.file.now c.args.self.now c.make.new.self (Ok (length c.pages-in-Ok.result.now + 16)) (returns-in-Ok-clause-loads c)

pub returns-in-Err-clause-loads : goal.returns-in-Err-clause-loads
returns-in-Err-clause-loads c = (
  not_full_at c.args.file.now c.args.p c.args.self.now (state_of c.self.inside.memory) (c.units.result + 16 * c.stored_in.result) (ap (λ (m : Machine). spaces_of m) c.self.view_is)
      (counted c.args.file.now c.args.p c.args.self.now (state_of c.self.inside.memory) c.pages.result.now c.units.result c.stored_in.result c.requires.of_file.taken
      c.requires.no_space (ap (λ (m : Machine). spaces_of m) c.self.view_is) (c.pages.ensures ∙ c.requires.of_file.pages) c.units.ensures.sum c.stored_in.ensures.count)
      c.in_default.ensures,
  c.in-Err.ensures.kept,
)

pub returns-in-Err-clause-stands : goal.returns-in-Err-clause-stands
returns-in-Err-clause-stands c = loads_as c.args.p c.args.file.now c.args.self.now c.make.new.self (Err Memory) (returns-in-Err-clause-loads c)

pub returns-in-Ok-clause-others : goal.returns-in-Ok-clause-others
returns-in-Ok-clause-others c = c.in-Ok.ensures.made.others

pub returns-in-Err-clause-others : goal.returns-in-Err-clause-others
returns-in-Err-clause-others c = same_stays c.args.p c.args.self.now c.make.new.self c.in-Err.ensures.kept
