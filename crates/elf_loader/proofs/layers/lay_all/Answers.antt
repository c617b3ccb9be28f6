use Rattle.std.proofs.Common.{◌≡◌, ◌+◌, ◌-◌, ◌*◌, ap, ◌∙◌, arith, drop}
use Rattle.elf_loader.specs.Layers.{no_header, last_among}
use Rattle.elf_loader.proofs.Holding.{byte_by, laid_more}
use Rattle.elf_loader.proofs.Pages.{page_numbers_is, page_length_is}
use Rattle.elf_loader.proofs.layers.lay_all.Goals as goal

pub offset_bounds-loads-layers : goal.offset_bounds-loads-layers
offset_bounds-loads-layers c =
    let there = c.requires.layered.there (c.laying.left - 1) 0 (omega (arith, c.laying.invariant.0)) in omega arith

pub bounds-loads-layers : goal.bounds-loads-layers
bounds-loads-layers c = c.requires.layered.there (c.laying.left - 1) 0 (omega (arith, c.laying.invariant.0))

pub lay-requires-clause-in_file : goal.lay-requires-clause-in_file
lay-requires-clause-in_file c =
    let there = c.requires.layered.there (c.laying.left - 1) 0 (omega (arith, c.laying.invariant.0)) in
    (c.requires.lie _ no_header there).in_file

pub lay-requires-clause-in_memory : goal.lay-requires-clause-in_memory
lay-requires-clause-in_memory c =
    let there = c.requires.layered.there (c.laying.left - 1) 0 (omega (arith, c.laying.invariant.0)) in
    let lies = c.requires.lie _ no_header there in
    λ some. let part = lies.part in let below = lies.below (omega arith) in omega arith

pub lay-requires-clause-is_page : goal.lay-requires-clause-is_page
lay-requires-clause-is_page c = let low = c.requires.is_page in omega (arith, page_numbers_is)

pub laying-preserved : goal.laying-preserved
laying-preserved c =
    let inv = c.laying.invariant in
    let one : c.laying.left - 1 + 1 ≡ c.laying.left = omega arith in (
      omega (arith, inv.0),
      omega arith,
      laid_more c.args.loads.now c.args.layers.now (c.laying.left - 1) c.args.file.now c.laying.out c.lay.new.out c.args.page (omega (arith, inv.0))
          (λ i h. inv.2 i h ∙ ap (λ n. byte_by c.args.file.now (4096 * c.args.page + i) (last_among c.args.loads.now (drop n c.args.layers.now) (4096 * c.args.page + i))) (omega arith))
          c.lay.ensures,
    )

pub returns : goal.returns
returns c i in_page =
    let inv = c.laying.invariant in
    let address = 4096 * c.args.page + i in
    let none : c.laying.left ≡ 0 = omega arith in
    inv.2 i (omega (arith, page_length_is))
    ∙ ap (λ n. byte_by c.args.file.now address (last_among c.args.loads.now (drop n c.args.layers.now) address)) none
    ∙ ap (byte_by c.args.file.now address) (c.requires.layered.same address (omega arith) (omega (arith, page_length_is)))
