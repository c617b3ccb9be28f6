use Rattle.std.proofs.Common.{ℕ, List, length, ap, subst, sym, ◌∙◌, arith}
use Rattle.overlay_mapping_table.specs.declared.entry.Entry.{Entry}
use Rattle.overlay_mapping_table.specs.Rows.{nothing}
use Rattle.overlay_mapping_table.specs.Gaps.{seen_slots, AreDown, IsGapIn}
use Rattle.overlay_mapping_table.proofs.Seen.{down_anew, down_in, size_seen}
use Rattle.overlay_mapping_table.proofs.moves.move_down.Goals as goal

pub returns-then-gap-last-clause-names : goal.returns-then-gap-last-clause-names
returns-then-gap-last-clause-names c =
    down_in c.args.names.now c.shift.new.items 0 c.args.gap c.args.to c.args.last c.requires.gap c.if-gap-last.true c.requires.order c.shift.ensures

pub returns-then-gap-last-clause-entries : goal.returns-then-gap-last-clause-entries
returns-then-gap-last-clause-entries c =
    down_in c.args.entries.now c.shift-then-gap-last.new.items nothing c.args.gap c.args.to c.args.last
    (subst (λ n. IsGapIn n c.args.gap) (sym c.requires.beside) c.requires.gap) c.if-gap-last.true c.requires.order c.shift-then-gap-last.ensures

pub returns-clause-names : goal.returns-clause-names
returns-clause-names c =
    subst (λ (old : List ℕ). AreDown old (seen_slots c.close.new.items 0 (record { at = c.args.to; end = c.args.last; len = 1 })) 0 c.args.to c.args.last)
    c.close.ensures
    (down_anew c.close.new.items 0 c.args.to c.args.last c.requires.order
    (omega (arith, c.requires.last, ap length c.close.ensures, size_seen c.args.names.now 0 c.args.gap)))

pub returns-clause-entries : goal.returns-clause-entries
returns-clause-entries c =
    let as_seen = c.close-2.ensures ∙ ap (λ (e : Entry). seen_slots c.args.entries.now e c.args.gap) c.nothing.ensures in
    subst (λ (old : List Entry). AreDown old (seen_slots c.close-2.new.items nothing (record { at = c.args.to; end = c.args.last; len = 1 })) nothing c.args.to c.args.last)
    as_seen
    (down_anew c.close-2.new.items nothing c.args.to c.args.last c.requires.order
    (omega (arith, c.requires.last, c.requires.beside, ap length as_seen, size_seen c.args.entries.now nothing c.args.gap)))
