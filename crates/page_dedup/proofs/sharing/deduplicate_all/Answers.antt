use Rattle.std.proofs.Common.{◌+◌, refl, sym, ap, subst, ◌∙◌}
use Rattle.overlay_pages.specs.View as seen
use Rattle.overlay_memory.specs.View.{state_of}
use Rattle.page_dedup.specs.Deduplicated.{HasShared, SharesOne}
use Rattle.page_dedup.proofs.Marking.{none_marked}
use Rattle.page_dedup.proofs.Walking.{IsSharing, all_shared, none_shared, passed_over, put_there}
use Rattle.page_dedup.proofs.sharing.deduplicate_all.Goals as goal
use Rattle.page_dedup.proofs.sharing.deduplicate_all.Goals.{then-share_one, else-share_one}

pub mark_frames-requires : goal.mark_frames-requires
mark_frames-requires c = record { clear = none_marked 65536 }

pub sharing-init : goal.sharing-init
sharing-init c = record { walked = none_shared (state_of c.args.mem.now) c.args.space c.args.from; lists = refl; marks = c.mark_frames.ensures }

pub sharing-preserved : goal.sharing-preserved
sharing-preserved c = record {
  walked = elim c.if-share_one.branch [
    | then-share_one w ↦
        let did = subst (SharesOne c.sharing.mem c.share_one.new.mem c.args.space c.in-Some.page c.args.from) w.if-share_one.true c.share_one.ensures.shares in
        subst (λ n. IsSharing (state_of c.args.mem.now) (state_of c.share_one.new.mem) c.args.space c.args.from n (c.in-Some.page + 1)) (sym w.count-is)
        (put_there (state_of c.args.mem.now) (state_of c.sharing.mem) c.args.space c.args.from c.sharing.count c.sharing.at c.in-Some.page c.sharing.invariant.walked
        c.in-Some.ensures.0 c.share_one.ensures.low c.in-Some.ensures.2 (state_of c.share_one.new.mem) did.0 did.1)
    | else-share_one w ↦
        let did = subst (SharesOne c.sharing.mem c.share_one.new.mem c.args.space c.in-Some.page c.args.from) w.if-share_one.false c.share_one.ensures.shares in
        subst (λ n. IsSharing (state_of c.args.mem.now) (state_of c.share_one.new.mem) c.args.space c.args.from n (c.in-Some.page + 1)) (sym w.count-is)
        (subst (λ m. IsSharing (state_of c.args.mem.now) (state_of m) c.args.space c.args.from c.sharing.count (c.in-Some.page + 1)) (sym did.1)
        (passed_over (state_of c.args.mem.now) (state_of c.sharing.mem) c.args.space c.args.from c.sharing.count c.sharing.at c.in-Some.page c.sharing.invariant.walked
        c.in-Some.ensures.0 c.share_one.ensures.low c.in-Some.ensures.2 did.0))
  ];
  lists = c.share_one.ensures.lists ∙ c.sharing.invariant.lists;
  marks = c.share_one.ensures.marks;
}

pub returns-clause-shared : goal.returns-clause-shared
returns-clause-shared c =
    subst (λ v. HasShared (state_of c.args.mem.now) v c.args.space c.args.from c.sharing.count) (sym (ap seen.state_of c.forget_translations.ensures.pages))
    (all_shared (state_of c.args.mem.now) (state_of c.sharing.mem) c.args.space c.args.from c.sharing.count c.sharing.at c.sharing.invariant.walked c.in_default.ensures)
