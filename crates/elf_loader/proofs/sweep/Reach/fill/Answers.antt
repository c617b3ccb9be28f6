use Rattle.std.proofs.Common.{◌-◌, length, map, ap, arith, length-append}
use Rattle.std.specs.List.{range_with_len}
use Rattle.std.proofs.lemmas.List.FromFn.{length-map-range_with_len}
use Rattle.elf_loader.specs.Reach.{page_at}
use Rattle.elf_loader.proofs.sweep.Reach.fill.Goals as goal

pub returns-clause-few : goal.returns-clause-few
returns-clause-few c =
    omega (
      arith,
      ap length c.in_ok-append.ensures,
      length-append c.args.pages.now.items (map (page_at c.args.self.now) (range_with_len c.args.from (c.min-end.result - c.args.from))),
      length-map-range_with_len (page_at c.args.self.now) c.args.from (c.min-end.result - c.args.from),
    )
