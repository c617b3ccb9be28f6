use Rattle.std.proofs.Common.{◌≡◌, ℕ, ◌/◌, Bool, List, Option, sym, ap, subst, ◌∙◌}
use Rattle.sizes.specs.declared.TheConstants.{PAGE_BYTES}
use Rattle.ovl_io.specs.Memory.{Memory}
use Rattle.ovl_io.specs.declared.process_state.ProcessState.TheVariants as state
use Rattle.rv_execute.specs.CallLaws.{are_tried_by}
use Rattle.rv_execute.specs.Calls.{Call}
use Rattle.rv_execute.specs.Execution.{Executes, execution_by, full_in}
use Rattle.rv_execute.specs.Registers.{Registers}
use Rattle.rv_execute.specs.declared.outcome.Outcome.{Outcome}
use Rattle.rv_mul.specs.Tables.{table_of}
use Rattle.overlay_pages.specs.State.{memory_of}
use Rattle.machine_core.specs.Access.{IsSameLoan, lists_lent, spaces_lent}
use Rattle.machine_core.specs.Ahead.{ahead, guest_ahead}
use Rattle.machine_core.specs.Held.{Makes}
use Rattle.machine_core.specs.InHand.{StaysInHand}
use Rattle.machine_core.specs.Kept.{IsBeside, guest_lent, guest_seen}
use Rattle.machine_core.specs.Tried.{each_counted, tried_counted}
use Rattle.machine_core.specs.Turns.{AreLikeGuests, executed, outcome_of, state_left, store_made, translations_executed}
use Rattle.machine_core.specs.declared.process.Process as declared
use Rattle.machine_core.specs.declared.view.View.{View}
use Rattle.machine_core.proofs.Accessing.{Came, executes, performed}
use Rattle.machine_core.proofs.Ahead.{ahead_each, ahead_more, front_ahead}
use Rattle.machine_core.proofs.Holding.{fetched_front}

-- An execution whose fetch may be still to be counted, in the space that is lent.
pub record IsExecutedOwing (extension : Bool) (k n : ℕ) (old new : View) (before after : declared.Process) (o : Outcome) : Type 0 where
  pub stays : StaysInHand old new
  pub loan : new.memory.ghost_name ≡ old.memory.ghost_name
  pub space : new.space ≡ old.space
  pub outcome_is : o ≡ outcome_of old.space (guest_ahead k (guest_lent extension old before))
  pub after_is : AreLikeGuests (guest_ahead n (guest_lent extension new after)) (executed old.space (guest_ahead k (guest_lent extension old before)))
  pub beside : IsBeside old.space (spaces_lent old) (spaces_lent new)

-- what calls came to, with what is owed
record IsMade (k n : ℕ) (calls : List Call) (old new : View) (full : Option (ℕ × ℕ)) : Type 0 where
  same : IsSameLoan old new
  came : Came old.space (spaces_lent old) (spaces_lent new) (store_made (memory_of (spaces_lent old) old.space) calls) full
  lists : ahead n (lists_lent new) ≡ each_counted old.space (memory_of (spaces_lent old) old.space) calls (ahead k (lists_lent old))

is_made : (k n pc : ℕ) (calls : List Call) (old new : View) (full : Option (ℕ × ℕ)) → Makes k n pc calls old full new → IsMade k n calls old new full
unfolding each_counted
is_made k n pc calls old new full (Makes.AllAsked is made) =
    let all = performed calls old new full made in
    record {
      same = all.same;
      came = all.came;
      lists = ap (λ i. ahead i (lists_lent new)) is ∙ ap (ahead k) all.lists
          ∙ sym (ahead_each old.space (memory_of (spaces_lent old) old.space) k calls (lists_lent old));
    }
is_made k n pc calls old new full (Makes.FetchOwed rest is behind aligned front made) =
    let m = memory_of (spaces_lent old) old.space in
    let all = performed rest old new full made in
    record {
      same = all.same;
      came = subst (λ c. Came old.space (spaces_lent old) (spaces_lent new) (store_made m c) full) (sym behind) all.came;
      lists = ap (ahead n) all.lists ∙ sym (ahead_each old.space m n rest (lists_lent old))
          ∙ ap (each_counted old.space m rest)
          (ahead_more n k (lists_lent old) is
          ∙ sym (fetched_front old.space pc m (ahead k (lists_lent old)) aligned (front_ahead old.space (pc / PAGE_BYTES) k (lists_lent old) front)))
          ∙ ap (λ c. each_counted old.space m c (ahead k (lists_lent old))) (sym behind);
    }

pub owing : (extension : Bool) (k n pc : ℕ) (old new : View) (process : declared.Process) (regs : Registers) (o : Outcome)
    → Executes (execution_by (table_of extension) process.regs (memory_of (spaces_lent old) old.space)) process.regs (memory_of (spaces_lent old) old.space) regs (memory_of (spaces_lent new) new.space) o
    → process.state ≡ state.Running
    → Makes k n pc (execution_by (table_of extension) process.regs (memory_of (spaces_lent old) old.space)).calls old (full_in o) new
    → IsExecutedOwing extension k n old new process (record { regs = regs; state = state_left o process.state; saved = process.saved }) o
unfolding translations_executed
owing extension k n pc old new process regs o done runs made =
    let memory = memory_of (spaces_lent old) old.space in
    let all = is_made k n pc (execution_by (table_of extension) process.regs memory).calls old new (full_in o) made in
    let moved = ap (memory_of (spaces_lent new)) all.same.space in
    let counts = all.lists ∙ tried_counted old.space memory (execution_by (table_of extension) process.regs memory).calls (ahead k (lists_lent old)) (are_tried_by (table_of extension) process.regs memory) in
    let one = executes extension old.space (spaces_lent old) (spaces_lent new) (ahead k (lists_lent old)) (ahead n (lists_lent new)) process regs o
    (subst (λ (m : Memory). Executes (execution_by (table_of extension) process.regs memory) process.regs memory regs m o) moved done) runs counts all.came in
    record {
      stays = all.same.hand;
      loan = all.same.loan;
      space = all.same.space;
      outcome_is = one.outcome_is;
      after_is = subst (λ p. AreLikeGuests (guest_seen extension p (spaces_lent new) (ahead n (lists_lent new)) (record { regs = regs; state = state_left o process.state; saved = process.saved }))
          (executed old.space (guest_ahead k (guest_lent extension old process)))) (sym all.same.space) one.after_is;
      beside = one.beside;
    }
