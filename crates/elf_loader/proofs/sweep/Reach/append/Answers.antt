use Rattle.std.proofs.Common.{◌≡◌, ◌-◌, ◌++◌, map, ap, ◌∙◌, arith}
use Rattle.std.specs.List.{range_with_len}
use Rattle.elf_loader.specs.Reach.{page_at}
use Rattle.elf_loader.proofs.Ranges.{one_more}
use Rattle.elf_loader.proofs.sweep.Reach.append.Goals as goal

pub loop-page-preserved : goal.loop-page-preserved
loop-page-preserved c =
    one_more (page_at c.args.self.now) c.args.from c.loop-page.page c.args.pages.now.items c.loop-page.pages.items c.push.new.self.items c.page.result
    c.in_ok-push.ensures.items c.page.ensures c.loop-page.invariant (omega arith)

pub returns : goal.returns
returns c =
    let end : c.loop-page.page - c.args.from ≡ c.args.end - c.args.from = omega arith in
    c.loop-page.invariant ∙ ap (λ n. c.args.pages.now.items ++ map (page_at c.args.self.now) (range_with_len c.args.from n)) end
