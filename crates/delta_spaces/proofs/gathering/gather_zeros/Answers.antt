use Rattle.std.proofs.Common.{◌+◌, ap, ◌∙◌}
use Rattle.delta_spaces.proofs.Walking.{zeros_more, zeros_there}
use Rattle.delta_spaces.proofs.gathering.gather_zeros.Goals as goal

pub perms_of-perms-requires : goal.perms_of-perms-requires
perms_of-perms-requires c = record {
  there = zeros_there c.args.mem.now.pages c.args.saved c.args.base c.args.page c.args.n c.gathering.i _ c.requires.zeros c.requires.base_zeros c.gathering-test.true
      (ap (λ i. c.args.page + i) c.from.ensures);
}

pub gathering-preserved : goal.gathering-preserved
gathering-preserved c =
    zeros_more c.args.mem.now.pages c.args.saved c.args.base c.args.page c.args.n c.gathering.i _ c.perms_of-perms.result _ c.gathering.pages.items _ c.requires.zeros c.requires.base_zeros
    c.gathering-test.true c.requires.low (ap (λ i. c.args.page + i) c.from.ensures) c.perms_of-perms.ensures.perms (c.new-lines.ensures ∙ c.new.ensures.items) c.gathering.invariant
    c.in_ok-push.ensures.items
