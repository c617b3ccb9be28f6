use Rattle.std.proofs.Common.{true, false, sym, ◌∙◌, refl}
use Rattle.command_core.proofs.Deduplicating.{mark_told, marked_found, pair_by}
use Rattle.command_core.proofs.dedup.pair_refusal.Goals as goal

pub returns-then-not-has_process-clause-first : goal.returns-then-not-has_process-clause-first
returns-then-not-has_process-clause-first c =
    pair_by c.args.machine.now c.args.p c.args.q false _ _ _ (sym c.has_process.ensures ∙ c.if-not-has_process.true) refl refl refl

pub returns-then-not-has_process-2-clause-first : goal.returns-then-not-has_process-2-clause-first
returns-then-not-has_process-2-clause-first c =
    pair_by c.args.machine.now c.args.p c.args.q true false _ _ (sym c.has_process.ensures ∙ c.if-not-has_process.false)
    (sym c.has_process-2.ensures ∙ c.if-not-has_process-2.true) refl refl

pub returns-then-is_speculating-clause-first : goal.returns-then-is_speculating-clause-first
returns-then-is_speculating-clause-first c =
    let machine = c.args.machine.now in
    let p = c.args.p in
    let q = c.args.q in
    let mine = sym c.has_process.ensures ∙ c.if-not-has_process.false in
    pair_by machine p q true true true _ mine (sym c.has_process-2.ensures ∙ c.if-not-has_process-2.false)
    (marked_found machine p mine ∙ mark_told machine p c.memory.result.now c.is_speculating.result true c.memory.ensures c.is_speculating.ensures.mark c.if-is_speculating.true) refl

pub returns-then-is_speculating-2-clause-first : goal.returns-then-is_speculating-2-clause-first
returns-then-is_speculating-2-clause-first c =
    let machine = c.args.machine.now in
    let p = c.args.p in
    let q = c.args.q in
    let mine = sym c.has_process.ensures ∙ c.if-not-has_process.false in
    let theirs = sym c.has_process-2.ensures ∙ c.if-not-has_process-2.false in
    pair_by machine p q true true false true mine theirs
    (marked_found machine p mine ∙ mark_told machine p c.memory.result.now c.is_speculating.result false c.memory.ensures c.is_speculating.ensures.mark c.if-is_speculating.false)
    (marked_found machine q theirs ∙ mark_told machine q c.memory-2.result.now c.is_speculating-2.result true c.memory-2.ensures c.is_speculating-2.ensures.mark c.if-is_speculating-2.true)

pub returns-clause-first : goal.returns-clause-first
returns-clause-first c =
    let machine = c.args.machine.now in
    let p = c.args.p in
    let q = c.args.q in
    let mine = sym c.has_process.ensures ∙ c.if-not-has_process.false in
    let theirs = sym c.has_process-2.ensures ∙ c.if-not-has_process-2.false in
    pair_by machine p q true true false false mine theirs
    (marked_found machine p mine ∙ mark_told machine p c.memory.result.now c.is_speculating.result false c.memory.ensures c.is_speculating.ensures.mark c.if-is_speculating.false)
    (marked_found machine q theirs ∙ mark_told machine q c.memory-2.result.now c.is_speculating-2.result false c.memory-2.ensures c.is_speculating-2.ensures.mark c.if-is_speculating-2.false)
