use Rattle.std.proofs.Common.{sym, ◌∙◌, arith, false}
use Rattle.std.proofs.lemmas.List.{get_or_default}
use Rattle.elf_loader.proofs.Pages.{page_numbers_is}
use Rattle.elf_loader.proofs.Stacking.{layered_full, layered_put, both_ok}
use Rattle.elf_loader.proofs.layers.Stack.lay_at.Goals as goal

pub returns-then-index-clause-layered : goal.returns-then-index-clause-layered
returns-then-index-clause-layered c =
    layered_full c.args.loads.now c.args.load _ _ _ c.requires.load (get_or_default c.args.self.now.full.items c.args.at false c.index.result.now (omega (arith, c.requires.marked, c.requires.at)) ∙ sym c.index.ensures ∙ c.if-index.true) c.requires.layered

pub fills-fills-requires : goal.fills-fills-requires
fills-fills-requires c = let low = c.requires.is_page in omega (arith, page_numbers_is)

pub returns-clause-layered : goal.returns-clause-layered
returns-clause-layered c =
    both_ok c.add_layer.result c.add_layer.ensures.layers c.add_layer.ensures.full
    (layered_put c.args.loads.now c.args.load _ c.args.at _ _ _ _ _ c.requires.load (omega (arith, c.requires.as_many, c.requires.at)) (omega (arith, c.requires.marked, c.requires.at))
    c.fills-fills.ensures c.requires.layered)
