use Rattle.std.proofs.Common.{◌+◌, ◌-◌, ◌*◌, ◌/◌, ◌%◌, arith, subst, sym, ◌∙◌}
use Rattle.overlay_pages.specs.Spots.{IsFoundPage}
use Rattle.overlay_pages.specs.View.{state_of}
use Rattle.overlay_memory.proofs.Filling.{fill_more}
use Rattle.overlay_memory.proofs.storing.fill_page.Goals as goal

pub fill_found-requires-clause-found : goal.fill_found-requires-clause-found
fill_found-requires-clause-found c = subst (λ t. IsFoundPage t c.args.page.now) (sym c.filling.invariant.table) c.requires.found

pub filling-preserved : goal.filling-preserved
filling-preserved c =
    let done = c.filling.done in
    let n = c.min-n.result in
    let least = c.min-n.ensures in
    let so_far = c.filling.invariant in
    let from = c.args.at + done in
    let next = 4096 * c.args.page.now.page + (64 * (from / 64) + from % 64) in
    record {
      within = omega (arith, so_far.within, least);
      filled = fill_more (state_of c.args.pages.now) (state_of c.filling.pages) (state_of c.fill_found.new.pages) c.args.page.now.space
          (4096 * c.args.page.now.page + c.args.at) next done n (done + n - done)
          c.args.bytes.now so_far.within (omega arith) (omega arith) so_far.filled c.fill_found.ensures.filled;
      table = c.fill_found.ensures.table ∙ so_far.table;
    }
