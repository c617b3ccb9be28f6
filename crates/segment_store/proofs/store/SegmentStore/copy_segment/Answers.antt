use Rattle.std.proofs.Common.{◌≡◌, ◌*◌, ◌^◌, inl, inr, subst, sym, ap, ◌∙◌, arith}
use Rattle.line_store.specs.Lines.{with_copied}
use Rattle.segment_store.specs.Store.{Store, IsSegment, lines_at}
use Rattle.segment_store.specs.contracts.store.SegmentStore.{the_view}
use Rattle.segment_store.specs.Changes.{BeginsSegment, CopiesSegment}
use Rattle.segment_store.specs.Laws.{set_there}
use Rattle.segment_store.proofs.Beginning.{began}
use Rattle.segment_store.proofs.Copying.{copied_pointers, copies, copying, four_fits, now_segments}
use Rattle.segment_store.proofs.store.SegmentStore.copy_segment.Goals as goal

pub copy_lines-requires-clause-source : goal.copy_lines-requires-clause-source
copy_lines-requires-clause-source c =
    let e = c.in-Some.ensures in
    let k = copying (the_view c.self.inside) c.self.invariant c.args.from c.in-Some.to (subst (λ s. IsSegment s c.args.from) (sym c.self.view_is) c.requires.there) e.some.0 e.within e.apart in
    omega (arith, k.source, c.self.invariant.lines, four_fits c.args.from.order k.low)

pub copy_lines-requires-clause-apart : goal.copy_lines-requires-clause-apart
copy_lines-requires-clause-apart c =
    let e = c.in-Some.ensures in
    let k = copying (the_view c.self.inside) c.self.invariant c.args.from c.in-Some.to (subst (λ s. IsSegment s c.args.from) (sym c.self.view_is) c.requires.there) e.some.0 e.within e.apart in
    let size = four_fits c.args.from.order k.low in
    elim k.apart [ inl h ↦ inl (omega (arith, h, size)) | inr h ↦ inr (omega (arith, h, size)) ]

abbrev after : goal.After-copy → Store
after c = the_view record { region = c.copy_lines.new.self; map = c.take.new.self; slots = c.copy.new.slots }

module _ (c : goal.After-copy) where
  there : IsSegment (the_view c.self.inside) c.args.from
  there = subst (λ s. IsSegment s c.args.from) (sym c.self.view_is) c.requires.there

  lines : c.copy_lines.new.self ≡ with_copied c.self.inside.region (4 * c.args.from.unit) (4 * c.in-Some.to.unit) (4 * 2 ^ c.args.from.order)
  lines =
      let e = c.in-Some.ensures in
      let k = copying (the_view c.self.inside) c.self.invariant c.args.from c.in-Some.to there e.some.0 e.within e.apart in
      c.copy_lines.ensures.copied ∙ ap (λ n. with_copied c.self.inside.region (4 * c.args.from.unit) (4 * c.in-Some.to.unit) n) (four_fits c.args.from.order k.low)

  copied : CopiesSegment (the_view c.self.inside) (after c) c.args.from c.in-Some.to
  copied =
      let e = c.in-Some.ensures in
      copies (the_view c.self.inside) (after c) c.args.from c.args.owner c.in-Some.to c.self.invariant there e.some.0 e.within e.apart lines c.copy_lines.ensures.count c.copy.ensures

  has : BeginsSegment (the_view c.self.inside) (after c) c.args.owner c.args.from.order (lines_at (the_view c.self.inside) c.args.from.unit) c.in-Some.to
  has =
      let e = c.in-Some.ensures in
      let old = the_view c.self.inside in
      began old (after c) c.args.owner c.args.from.order (lines_at old c.args.from.unit) c.in-Some.to c.self.invariant e.pieces e.some e.taken e.others e.only e.units e.free e.apart e.settled
      (now_segments old (after c) c.args.from c.args.owner c.in-Some.to c.self.invariant there e.some.0 e.within e.apart lines c.copy_lines.ensures.count c.copy.ensures)
      copied.outside (set_there old c.self.invariant c.args.from there)
      (copied_pointers old (after c) c.args.from c.args.owner c.in-Some.to c.self.invariant there e.some.0 e.within e.apart lines c.copy_lines.ensures.count c.copy.ensures)

pub invariant_of-self : goal.invariant_of-self
invariant_of-self c = (has c).store

pub returns : goal.returns
returns c = rw (← c.self.view_is) (record { begins = has c; copies = copied c })
