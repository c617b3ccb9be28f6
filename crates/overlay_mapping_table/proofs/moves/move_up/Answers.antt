use Rattle.std.proofs.Common.{ℕ, ◌+◌, ◌-◌, List, length, ap, refl, subst, sym, ◌∙◌, arith}
use Rattle.std.proofs.lemmas.List.{length-set}
use Rattle.overlay_mapping_table.specs.declared.entry.Entry.{Entry}
use Rattle.overlay_mapping_table.specs.Rows.{nothing}
use Rattle.overlay_mapping_table.specs.Gaps.{seen_slots, AreUp, IsGapIn}
use Rattle.overlay_mapping_table.proofs.Seen.{bare_up, same_but, size_seen, up_anew, up_in}
use Rattle.overlay_mapping_table.proofs.moves.move_up.Goals as goal

pub returns-then-gap-end-clause-names : goal.returns-then-gap-end-clause-names
returns-then-gap-end-clause-names c =
    up_in c.args.names.now c.shift.new.items c.set.new.self 0 c.args.gap c.args.from c.args.end c.args.room c.requires.gap c.if-gap-gt0.true
    c.if-gap-end.true c.requires.order c.shift.ensures (ap length c.set.ensures ∙ length-set c.shift.new.items c.args.from 0)
    (same_but c.shift.new.items c.set.new.self 0 c.args.from c.set.ensures)

pub returns-then-gap-end-clause-bare : goal.returns-then-gap-end-clause-bare
returns-then-gap-end-clause-bare c =
    bare_up c.shift.new.items c.set.new.self 0 c.args.from (c.args.end + 1) (c.args.gap.len - 1)
    (omega (arith, c.shift.ensures.size, c.requires.order, c.requires.room)) c.set.ensures

pub returns-then-gap-end-clause-entries : goal.returns-then-gap-end-clause-entries
returns-then-gap-end-clause-entries c =
    up_in c.args.entries.now c.shift-then-gap-end.new.items c.shift-then-gap-end.new.items nothing c.args.gap c.args.from c.args.end c.args.room
    (subst (λ n. IsGapIn n c.args.gap) (sym c.requires.beside) c.requires.gap) c.if-gap-gt0.true c.if-gap-end.true c.requires.order
    c.shift-then-gap-end.ensures refl (λ i d differ. refl)

pub copy-requires-clause-from : goal.copy-requires-clause-from
copy-requires-clause-from c =
    omega (arith, c.requires.order, c.requires.room, ap length c.close.ensures, size_seen c.args.names.now 0 c.args.gap)

pub copy-requires-clause-to : goal.copy-requires-clause-to
copy-requires-clause-to c =
    omega (arith, c.requires.order, c.requires.room, ap length c.close.ensures, size_seen c.args.names.now 0 c.args.gap)

pub copy-requires-2-clause-from : goal.copy-requires-2-clause-from
copy-requires-2-clause-from c =
    omega (arith, c.requires.order, c.requires.room, c.requires.beside, ap length c.close-2.ensures, size_seen c.args.entries.now c.nothing.result c.args.gap)

pub copy-requires-2-clause-to : goal.copy-requires-2-clause-to
copy-requires-2-clause-to c =
    omega (arith, c.requires.order, c.requires.room, c.requires.beside, ap length c.close-2.ensures, size_seen c.args.entries.now c.nothing.result c.args.gap)

pub set-requires-2 : goal.set-requires-2
set-requires-2 c =
    omega (arith, c.requires.order, c.requires.room, ap length c.close.ensures, size_seen c.args.names.now 0 c.args.gap, c.copy.ensures.size)

pub returns-clause-names : goal.returns-clause-names
returns-clause-names c =
    subst
    (λ (old : List ℕ).
    AreUp old (seen_slots c.set-2.new.self 0 (record { at = c.args.from + 1; end = c.args.end + 1; len = c.args.room - 1 })) 0 c.args.from c.args.end
    c.args.room)
    c.close.ensures
    (up_anew c.close.new.items c.copy.new.self c.set-2.new.self 0 c.args.from c.args.end c.args.room c.requires.some c.requires.order
    (omega (arith, c.requires.room, ap length c.close.ensures, size_seen c.args.names.now 0 c.args.gap)) c.copy.ensures
    (ap length c.set-2.ensures ∙ length-set c.copy.new.self c.args.from 0) (same_but c.copy.new.self c.set-2.new.self 0 c.args.from c.set-2.ensures))

pub returns-clause-bare : goal.returns-clause-bare
returns-clause-bare c =
    bare_up c.copy.new.self c.set-2.new.self 0 c.args.from (c.args.end + 1) (c.args.room - 1)
    (omega (arith, c.requires.order, c.requires.room, ap length c.close.ensures, size_seen c.args.names.now 0 c.args.gap, c.copy.ensures.size)) c.set-2.ensures

pub returns-clause-entries : goal.returns-clause-entries
returns-clause-entries c =
    let as_seen = c.close-2.ensures ∙ ap (λ (e : Entry). seen_slots c.args.entries.now e c.args.gap) c.nothing.ensures in
    subst
    (λ (old : List Entry).
    AreUp old (seen_slots c.copy-2.new.self nothing (record { at = c.args.from + 1; end = c.args.end + 1; len = c.args.room - 1 })) nothing c.args.from
    c.args.end c.args.room)
    as_seen
    (up_anew c.close-2.new.items c.copy-2.new.self c.copy-2.new.self nothing c.args.from c.args.end c.args.room c.requires.some c.requires.order
    (omega (arith, c.requires.room, c.requires.beside, ap length as_seen, size_seen c.args.entries.now nothing c.args.gap)) c.copy-2.ensures refl
    (λ i d differ. refl))
