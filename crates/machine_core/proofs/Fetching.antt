use Rattle.std.proofs.Common.{◌≡◌, ℕ, zero, suc, ◌+◌, ◌-◌, ◌%◌, ◌/◌, ◌<◌, Bool, cond, List, [], ◌∷◌, map, sym, ap, subst, ◌∙◌, refl, arith}
use Rattle.sizes.specs.declared.TheConstants.{PAGE_BYTES}
use Rattle.breakpoints.specs.Breakpoints.{Addresses}
use Rattle.ovl_io.specs.Memory.{Memory, denied_at}
use Rattle.rv_execute.specs.CallLaws.{AreTried, are_tried_by}
use Rattle.rv_execute.specs.Calls.{Call, Fetch, access_of, fetch_at}
use Rattle.rv_execute.specs.Execution.{Execution, fetch_effect_by}
use Rattle.rv_execute.specs.declared.outcome.Outcome.{Outcome}
use Rattle.rv_execute.specs.declared.outcome.Outcome.TheVariants as outcome
use Rattle.rv_mul.specs.Tables.{table_of}
use Rattle.overlay_pages.specs.State.{State, memory_of}
use Rattle.translation_cache.specs.Bare.{BareTranslations}
use Rattle.translation_cache.specs.Counted.{counted, translated}
use Rattle.translation_cache.specs.CountedLaws.{IsFront, access_in_page, counted_one}
use Rattle.machine_core.specs.Ahead.{ahead, guest_ahead}
use Rattle.machine_core.specs.Executions.{AreLikeExecutions, Comes, EndsWith, Executions, after_steps, executions, first_execution, last_execution, resumed}
use Rattle.machine_core.specs.Kept.{guest_seen}
use Rattle.machine_core.specs.Tried.{each_counted, tried_counted}
use Rattle.machine_core.specs.Turns.{Guest, executed, guest_executed, is_full, ledger_executed, outcome_of, translations_executed, units_needed}
use Rattle.machine_core.specs.declared.process.Process as declared
use Rattle.machine_core.proofs.Ahead.{ahead_each, ahead_more, front_ahead}
use Rattle.machine_core.proofs.Executing.{fetched}
use Rattle.machine_core.proofs.Holding.{fetched_front}

-- A fetch that is made before it is asked for, in the place of one that is owed.

-- What comes of executions goes by what comes of the first and what is behind it.
module _ (stops : Addresses) (p : ℕ) (a b : Guest) (came : outcome_of p a ≡ outcome_of p b) (same : executed p a ≡ executed p b) where
  abbrev begun : ℕ → Guest → Outcome → Guest → Executions
  begun m now o next = first_execution stops o now next (executions stops p m next)

  first_of : (m : ℕ) → executions stops p (suc m) a ≡ begun m a (outcome_of p b) (executed p b)
  first_of m = ap (λ o. begun m a o (executed p a)) came ∙ ap (begun m a (outcome_of p b)) same

  ends_over : (m k : ℕ) (o o' : Outcome) (after next : Guest) → EndsWith (last_execution o' a next) k o after → EndsWith (last_execution o' b next) k o after
  ends_over m k o o' after next ends = record { steps = ends.steps; outcome_is = ends.outcome_is; after_is = ends.after_is }

  over_last : (m n : ℕ) (o o' : Outcome) (next : Guest) → (o ≡ outcome.Stepped → 0 < n)
      → executions stops p (suc m) a ≡ last_execution o' a (executed p b) → executions stops p (suc m) b ≡ last_execution o' b (executed p b)
      → Comes stops p (suc m) a n o next → Comes stops p (suc m) b n o next
  over_last m n outcome.Stepped o' next some one two comes =
      absurd (let more = some refl in let steps = comes.1.steps ∙ ap (λ (e : Executions). e.steps) one in omega (arith, more, steps))
  over_last m n outcome.Asked o' next some one two comes = (
    comes.0,
    subst (λ e. EndsWith e n outcome.Asked next) (sym two) (ends_over m n outcome.Asked o' next (executed p b) (subst (λ e. EndsWith e n outcome.Asked next) one comes.1)),
  )
  over_last m n (outcome.Fault kind address) o' next some one two comes = (
    comes.0,
    subst (λ e. EndsWith e n (outcome.Fault kind address) next) (sym two)
        (ends_over m n (outcome.Fault kind address) o' next (executed p b) (subst (λ e. EndsWith e n (outcome.Fault kind address) next) one comes.1)),
  )
  over_last m n (outcome.Full units limit) o' next some one two comes = (
    comes.0,
    subst (λ e. EndsWith e n (outcome.Full units limit) next) (sym two)
        (ends_over m n (outcome.Full units limit) o' next (executed p b) (subst (λ e. EndsWith e n (outcome.Full units limit) next) one comes.1)),
  )

  comes_by : (m n : ℕ) (o : Outcome) (next : Guest) → (o ≡ outcome.Stepped → 0 < n) → (e : Executions) → e ≡ executions stops p (suc m) a → e ≡ executions stops p (suc m) b
      → Comes stops p (suc m) a n o next → Comes stops p (suc m) b n o next
  comes_by m n outcome.Stepped next some e one two comes =
      (comes.0, subst (λ e. AreLikeExecutions (after_steps n (resumed stops p (suc m - n) next)) e) (sym one ∙ two) comes.1)
  comes_by m n outcome.Asked next some e one two comes = (comes.0, subst (λ e. EndsWith e n outcome.Asked next) (sym one ∙ two) comes.1)
  comes_by m n (outcome.Fault kind address) next some e one two comes = (comes.0, subst (λ e. EndsWith e n (outcome.Fault kind address) next) (sym one ∙ two) comes.1)
  comes_by m n (outcome.Full units limit) next some e one two comes = (comes.0, subst (λ e. EndsWith e n (outcome.Full units limit) next) (sym one ∙ two) comes.1)

  by_outcome : (m n : ℕ) (o : Outcome) (next : Guest) → (o ≡ outcome.Stepped → 0 < n) → (o' : Outcome) → executions stops p (suc m) a ≡ begun m a o' (executed p b)
      → executions stops p (suc m) b ≡ begun m b o' (executed p b) → Comes stops p (suc m) a n o next → Comes stops p (suc m) b n o next
  by_outcome m n o next some outcome.Stepped one two comes = comes_by m n o next some _ (sym one) (sym two) comes
  by_outcome m n o next some outcome.Asked one two comes = over_last m n o outcome.Asked next some one two comes
  by_outcome m n o next some (outcome.Fault kind address) one two comes = over_last m n o (outcome.Fault kind address) next some one two comes
  by_outcome m n o next some (outcome.Full units limit) one two comes = over_last m n o (outcome.Full units limit) next some one two comes

  pub comes_over : (most n : ℕ) (o : Outcome) (next : Guest) → 0 < most → (o ≡ outcome.Stepped → 0 < n) → Comes stops p most a n o next → Comes stops p most b n o next
  comes_over zero n o next left some comes = absurd (omega (arith, left))
  comes_over (suc m) n o next left some comes = by_outcome m n o next some (outcome_of p b) (first_of m) refl comes

-- What an execution leaves but for the lists doesn't go by them.
module _ (extension : Bool) (p : ℕ) (spaces : State) (process : declared.Process) where
  abbrev seen : BareTranslations → Guest
  seen t = guest_seen extension p spaces t process

  abbrev memory : Memory
  memory = memory_of spaces p

  came_any : (t u : BareTranslations) → outcome_of p (seen t) ≡ outcome_of p (seen u)
  unfolding is_full ledger_executed units_needed
  came_any t u = refl

  executed_any : (t u : BareTranslations) → translations_executed p (seen t) ≡ translations_executed p (seen u) → executed p (seen t) ≡ executed p (seen u)
  unfolding is_full ledger_executed units_needed
  executed_any t u same = λ i. cond (is_full p (seen t)) (record (seen t) { translations = same i }) (record (executed_of t) { translations = same i })
    where
      executed_of : BareTranslations → Guest
      executed_of t = guest_executed p (seen t)

  abbrev behind : List Call
  behind = (fetch_effect_by (table_of extension) (denied_at memory (fetch_at process.regs.pc)) process.regs memory).calls

  -- what its fetch makes of them is all that counts
  by_fetch : process.regs.pc % 4 ≡ 0 → (t : BareTranslations)
      → translations_executed p (seen t) ≡ each_counted p memory behind (counted p memory (fetch_at process.regs.pc ∷ []) t)
  unfolding translations_executed each_counted
  by_fetch aligned t =
      let is = ap (λ (e : Execution). e.calls) (fetched (table_of extension) process.regs memory aligned) in
      ap (λ calls. counted p memory (map access_of calls) t) is
      ∙ sym (tried_counted p memory (Fetch process.regs.pc ∷ behind) t (subst (AreTried memory) is (are_tried_by (table_of extension) process.regs memory)))

  pub fetched_before : process.regs.pc % 4 ≡ 0 → (n k : ℕ) (t u : BareTranslations) → n ≡ k + 1 → u ≡ counted p memory (fetch_at process.regs.pc ∷ []) t
      → IsFront p (process.regs.pc / PAGE_BYTES) u → translations_executed p (seen (ahead k u)) ≡ translations_executed p (seen (ahead n t))
  unfolding each_counted
  fetched_before aligned n k t u one is front =
      by_fetch aligned (ahead k u)
      ∙ ap (each_counted p memory behind)
      (fetched_front p process.regs.pc memory (ahead k u) aligned (front_ahead p (process.regs.pc / PAGE_BYTES) k u front) ∙ sym (ahead_more n k u one) ∙ ap (ahead n) is
      ∙ sym (ahead_each p memory n (Fetch process.regs.pc ∷ []) t))
      ∙ sym (by_fetch aligned (ahead n t))

-- So what comes from the state behind the fetch, with one less that is owed, comes from the one before it.
pub comes_fetched : (extension : Bool) (stops : Addresses) (p : ℕ) (s left : State) (t u : BareTranslations) (process : declared.Process) (most k n : ℕ) (o : Outcome) (next : Guest)
    → process.regs.pc % 4 ≡ 0 → left ≡ s → u ≡ translated p (memory_of s p) (process.regs.pc / PAGE_BYTES) t → IsFront p (process.regs.pc / PAGE_BYTES) u
    → 0 < most → (o ≡ outcome.Stepped → 0 < n)
    → Comes stops p most (guest_ahead k (guest_seen extension p left u process)) n o next
    → Comes stops p most (guest_ahead (k + 1) (guest_seen extension p s t process)) n o next
comes_fetched extension stops p s left t u process most k n o next aligned same lists front some_left some comes =
    let m = memory_of s p in
    let fetch = fetch_at process.regs.pc in
    let counts : u ≡ counted p m (fetch ∷ []) t = lists ∙ sym (counted_one p m fetch t ∙ access_in_page p m fetch t (omega arith) (omega (arith, aligned))) in
    comes_over stops p (guest_seen extension p s (ahead k u) process) (guest_seen extension p s (ahead (k + 1) t) process)
    (came_any extension p s process (ahead k u) (ahead (k + 1) t))
    (executed_any extension p s process (ahead k u) (ahead (k + 1) t) (fetched_before extension p s process aligned (k + 1) k t u refl counts front)) most n o next some_left some
    (subst (λ (v : State). Comes stops p most (guest_seen extension p v (ahead k u) process) n o next) same comes)
