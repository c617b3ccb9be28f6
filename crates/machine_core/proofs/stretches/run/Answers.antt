use Rattle.std.proofs.Common.{◌≡◌, ◌+◌, ◌-◌, ◌/◌, ◌%◌, ◌<◌, ◌≤◌, length, take, ap, refl, subst, sym, ◌∙◌, arith}
use Rattle.std.proofs.lemmas.Bool.Decides.{nat_tests}
use Rattle.std.proofs.lemmas.List.{length-drop, length-take-le}
use Rattle.sizes.specs.declared.TheConstants.{PAGE_BYTES}
use Rattle.decoded_lines.specs.declared.TheConstants.{LINE_WORDS}
use Rattle.rv_execute.specs.declared.outcome.Outcome.{Outcome}
use Rattle.machine_core.specs.Access.{spaces_lent}
use Rattle.machine_core.specs.Ahead.{guest_ahead}
use Rattle.machine_core.specs.Executions.{AreLikeExecutions, Comes, after_steps, executions, resumed, steps_in, stops_in}
use Rattle.machine_core.specs.Held.{HoldsOn, IsInHand}
use Rattle.machine_core.specs.Kept.{IsBeside, guest_lent}
use Rattle.machine_core.specs.declared.hand.Hand.{Hand}
use Rattle.machine_core.proofs.Runs.{AreRun, aligned_at, begun_run, both_beside, ends, ends_running, first_is, goes_on, holds_on, next_word, rest_of}
use Rattle.machine_core.proofs.Staying.{stays_in_hand, stays_owed}
use Rattle.machine_core.proofs.Stepping.{is_so_far, so_far}
use Rattle.machine_core.proofs.Constants.{truth}
use Rattle.machine_core.proofs.stretches.run.Goals as goal

pub running-init : goal.running-init
running-init g c =
    let f = c.count_from-count.ensures.few in
    let m = c.min.ensures in
    let count = length-take-le c.count_from-count.result c.words_from-words.result.now (omega (arith, f, m)) in
    record {
      so = begun_run (truth g.row.EXTENSION) (stops_in c.args.stops) c.args.lines.now c.args.view.now c.args.process.now c.args.most c.pc-pc.result _ _
          (omega (arith, count)) c.pc-pc.ensures c.requires.runs c.requires.ready c.requires.taken;
      within = omega (arith, count);
    }

pub running-preserved : goal.running-preserved
running-preserved g c =
    let came = c.execute_word-outcome in
    let few_is : c.count_from-count.result ≤ c.args.most = (let f = c.count_from-count.ensures.few in let m = c.min.ensures in omega (arith, f, m)) in
    let inside_is : c.pc-pc.result / 4 % LINE_WORDS + c.count_from-count.result ≤ LINE_WORDS =
    (let f = c.count_from-count.ensures.few in let m = c.min.ensures in let w = c.words_from-words.ensures.count in omega (arith, f, m, w)) in
    let aligned_is = ap (λ n. n % 4) c.pc-pc.ensures
    ∙ aligned_at c.args.lines.now c.args.view.now.memory.now c.args.view.now.space c.args.view.now.hand c.args.process.now.regs.pc c.requires.taken in
    let some_is : 0 < length c.running.rest.now = (let test = c.running-test.true in let has = c.is_empty-in-running.ensures in grind (arith, nat_tests)) in
    let on = came.ensures.on c.if-not-on.false in
    let page_is : c.args.view.now.hand.start / PAGE_BYTES ≡ c.pc-pc.result / PAGE_BYTES =
    (let start = c.requires.taken.has.start in let pc = c.pc-pc.ensures in omega (arith, start, pc)) in
    let goes = goes_on (truth g.row.EXTENSION) (stops_in c.args.stops) c.args.lines.now c.args.view.now c.running.view c.args.process.now c.running.process
    c.args.most c.pc-pc.result c.count_from-count.result (take c.count_from-count.result c.words_from-words.result.now) c.running.rest.now c.running.invariant.so few_is c.running.invariant.within some_is inside_is aligned_is c.count_from-count.ensures.past came.new.view came.new.process came.result.0
    came.ensures.outcome came.ensures.after came.ensures.loan came.ensures.space
    came.ensures.ready came.ensures.saved came.ensures.beside on page_is in
    let n = length-drop 1 c.running.rest.now in
    let within = c.running.invariant.within in
    subst (λ r. record {
      so : AreRun (truth g.row.EXTENSION) (stops_in c.args.stops) c.args.lines.now c.args.view.now came.new.view c.args.process.now came.new.process c.args.most c.pc-pc.result
          (take c.count_from-count.result c.words_from-words.result.now) r (c.count_from-count.result - length r);
      within : length r ≤ c.count_from-count.result;
    }) (sym (rest_of c.running.rest.now)) (record { so = goes; within = omega (arith, n, within) })

pub execute_word-outcome-requires-clause-word : goal.execute_word-outcome-requires-clause-word
execute_word-outcome-requires-clause-word g c =
    let few_is : c.count_from-count.result ≤ c.args.most = (let f = c.count_from-count.ensures.few in let m = c.min.ensures in omega (arith, f, m)) in
    let inside_is : c.pc-pc.result / 4 % LINE_WORDS + c.count_from-count.result ≤ LINE_WORDS =
    (let f = c.count_from-count.ensures.few in let m = c.min.ensures in let w = c.words_from-words.ensures.count in omega (arith, f, m, w)) in
    let aligned_is = ap (λ n. n % 4) c.pc-pc.ensures
    ∙ aligned_at c.args.lines.now c.args.view.now.memory.now c.args.view.now.space c.args.view.now.hand c.args.process.now.regs.pc c.requires.taken in
    let some_is : 0 < length c.running.rest.now = (let test = c.running-test.true in let has = c.is_empty-in-running.ensures in grind (arith, nat_tests)) in
    next_word (truth g.row.EXTENSION) (stops_in c.args.stops) c.args.lines.now c.args.view.now c.running.view c.args.process.now c.running.process
    c.args.most c.pc-pc.result c.count_from-count.result (take c.count_from-count.result c.words_from-words.result.now) c.running.rest.now c.running.invariant.so
    few_is c.running.invariant.within some_is inside_is aligned_is c.count_from-count.ensures.past c.words_from-words.result.now refl (let f = c.count_from-count.ensures.few in let m = c.min.ensures in omega (arith, f, m)) c.words_from-words.ensures.words _ (first_is c.running.rest.now _ some_is)

-- a turn that ends the run
pub returns-then-not-on : goal.returns-then-not-on
returns-then-not-on g c =
    let came = c.execute_word-outcome in
    let few_is : c.count_from-count.result ≤ c.args.most = (let f = c.count_from-count.ensures.few in let m = c.min.ensures in omega (arith, f, m)) in
    let inside_is : c.pc-pc.result / 4 % LINE_WORDS + c.count_from-count.result ≤ LINE_WORDS =
    (let f = c.count_from-count.ensures.few in let m = c.min.ensures in let w = c.words_from-words.ensures.count in omega (arith, f, m, w)) in
    let aligned_is = ap (λ n. n % 4) c.pc-pc.ensures
    ∙ aligned_at c.args.lines.now c.args.view.now.memory.now c.args.view.now.space c.args.view.now.hand c.args.process.now.regs.pc c.requires.taken in
    let some_is : 0 < length c.running.rest.now = (let test = c.running-test.true in let has = c.is_empty-in-running.ensures in grind (arith, nat_tests)) in
    let k = c.count_from-count.result - length c.running.rest.now in
    let so = c.running.invariant.so in
    record {
      loan = came.ensures.loan ∙ so.loan;
      space = came.ensures.space ∙ so.space;
      came =
          let owed = ap (λ (h : Hand). h.owed) c.leave.ensures.left ∙ ap (λ n. n + (k + 1)) (stays_owed c.running.view came.new.view came.ensures.stays)
          ∙ ap (λ (h : Hand). h.owed + (k + 1)) c.running.invariant.so.kept in
          let stops = stops_in c.args.stops in
          let first = guest_ahead c.args.view.now.hand.owed (guest_lent (truth g.row.EXTENSION) c.args.view.now c.args.process.now) in
          subst (λ (o : Outcome). Comes stops c.args.view.now.space c.args.most first c.leave.result.0 o (guest_ahead c.leave.new.hand.owed (guest_lent (truth g.row.EXTENSION) came.new.view came.new.process)))
          (sym c.leave.ensures.outcome)
          (subst (λ n. Comes stops c.args.view.now.space c.args.most first n came.result.0 (guest_ahead c.leave.new.hand.owed (guest_lent (truth g.row.EXTENSION) came.new.view came.new.process)))
          (sym c.leave.ensures.steps)
          (subst (λ n. Comes stops c.args.view.now.space c.args.most first (k + steps_in came.result.0) came.result.0 (guest_ahead n (guest_lent (truth g.row.EXTENSION) came.new.view came.new.process))) (sym owed)
          (ends (truth g.row.EXTENSION) (stops_in c.args.stops) c.args.lines.now c.args.view.now c.running.view c.args.process.now c.running.process
          c.args.most c.pc-pc.result c.count_from-count.result (take c.count_from-count.result c.words_from-words.result.now) c.running.rest.now c.running.invariant.so few_is c.running.invariant.within some_is inside_is aligned_is c.count_from-count.ensures.past came.new.view came.new.process came.result.0
          came.ensures.outcome came.ensures.after)));
      running = λ stepped.
          ends_running (truth g.row.EXTENSION) (stops_in c.args.stops) c.args.lines.now c.args.view.now c.running.view c.args.process.now c.running.process
          c.args.most c.pc-pc.result c.count_from-count.result (take c.count_from-count.result c.words_from-words.result.now) c.running.rest.now c.running.invariant.so few_is c.running.invariant.within some_is inside_is aligned_is c.count_from-count.ensures.past came.new.view came.new.process came.result.0
          came.ensures.outcome came.ensures.after (sym c.leave.ensures.outcome ∙ stepped);
      goes = λ stepped.
          let steps = c.leave.ensures.steps ∙ ap (λ o. k + steps_in o) (sym c.leave.ensures.outcome ∙ stepped) in
          let held = subst (IsInHand c.args.lines.now c.running.view.memory.now c.running.view.space) (sym so.kept) so.hand_is in
          let owed = stays_owed c.running.view came.new.view came.ensures.stays ∙ ap (λ (h : Hand). h.owed) so.kept in
          subst (λ (h : Hand). HoldsOn c.args.lines.now (record { memory = came.new.view.memory; space = came.new.view.space; hand = h }) c.args.view.now.hand.owed c.leave.result.0) (sym c.leave.ensures.left)
          (subst (λ n. HoldsOn c.args.lines.now (record { memory = came.new.view.memory; space = came.new.view.space; hand = record { start = came.new.view.hand.start; known = came.new.view.hand.known; owed = came.new.view.hand.owed + (k + 1) } })
          c.args.view.now.hand.owed n) (sym steps)
          (holds_on c.args.lines.now came.new.view came.new.view.hand c.args.view.now.hand.owed (k + 1) came.ensures.ready
          (stays_in_hand c.args.lines.now c.running.view came.new.view came.ensures.stays held) owed (omega arith)));
      saved = came.ensures.saved ∙ so.saved;
      beside =
          both_beside c.args.view.now.space (spaces_lent c.args.view.now) (spaces_lent c.running.view) (spaces_lent c.execute_word-outcome.new.view) c.running.invariant.so.beside
          (subst (λ p. IsBeside p (spaces_lent c.running.view) (spaces_lent c.execute_word-outcome.new.view)) c.running.invariant.so.space c.execute_word-outcome.ensures.beside);
    }

-- all of them
pub returns : goal.returns
returns g c =
    let so = c.running.invariant.so in
    let n = c.count_from-count.result in
    record {
      loan = so.loan;
      space = so.space;
      came =
          let stops = stops_in c.args.stops in
          let few = c.count_from-count.ensures.few in
          let m = c.min.ensures in
          let whole = executions stops c.args.view.now.space c.args.most (guest_ahead c.args.view.now.hand.owed (guest_lent (truth g.row.EXTENSION) c.args.view.now c.args.process.now)) in
          let all : n - length c.running.rest.now ≡ n = (let test = c.running-test.false in let has = c.is_empty-in-running.ensures in grind (arith, nat_tests)) in (
            omega (arith, few, m),
            subst (λ (h : Hand). AreLikeExecutions (after_steps n (resumed stops c.args.view.now.space (c.args.most - n) (guest_ahead (h.owed + n) (guest_lent (truth g.row.EXTENSION) c.running.view c.running.process))))
                whole) (sym so.kept)
                (subst (λ e. AreLikeExecutions (after_steps n e) whole) (sym (is_so_far stops c.args.view.now.space n (c.args.most - n)
                (guest_ahead (c.args.view.now.hand.owed + n) (guest_lent (truth g.row.EXTENSION) c.running.view c.running.process)) c.count_from-count.ensures.some))
                (subst (λ k. AreLikeExecutions
                (after_steps k (so_far k stops c.args.view.now.space (c.args.most - k) (guest_ahead (c.args.view.now.hand.owed + k) (guest_lent (truth g.row.EXTENSION) c.running.view c.running.process)))) whole) all so.all)),
          );
      running = λ done. so.running;
      goes = λ done.
          holds_on c.args.lines.now c.running.view c.running.view.hand c.args.view.now.hand.owed n so.ready
          (subst (IsInHand c.args.lines.now c.running.view.memory.now c.running.view.space) (sym so.kept) so.hand_is) (ap (λ (h : Hand). h.owed) so.kept) c.count_from-count.ensures.some;
      saved = so.saved;
      beside = so.beside;
    }
