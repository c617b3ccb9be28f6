use Rattle.std.proofs.Common.{◌≡◌, ℕ, ◌*◌, ◌<◌, ◌≤◌, Bool, true, false, cond, List, [], ◌∷◌, length, nat_lt, sym, ap, subst, ◌∙◌, refl, arith, Option, Some, None}
use Rattle.std.specs.Prelude.{Result, Ok, Err}
use Rattle.std.specs.Option.{is_some, option_map_or, unwrap_or}
use Rattle.std.proofs.lemmas.Bool.Decides.{nat_tests}
use Rattle.ledger.specs.Alike.{AreAlike}
use Rattle.ledger.specs.AlikeLaws.{alike_itself}
use Rattle.ledger.specs.AlikeUnits.{units_alike}
use Rattle.ledger.specs.Ledger.{Ledger}
use Rattle.ledger.specs.Units.{units}
use Rattle.ovl_io.specs.Memory.{Access, Memory, denied_at}
use Rattle.ovl_io.specs.declared.process_state.ProcessState.{ProcessState}
use Rattle.ovl_io.specs.declared.process_state.ProcessState.TheVariants as state
use Rattle.rv_execute.specs.Calls.{Call, Fetch, Load, Store, Performs, fetch_at, full_of, load_at, store_at}
use Rattle.rv_execute.specs.Registers.{Registers}
use Rattle.rv_execute.specs.Execution.{Execution, Executes, execution_by, full_in, outcome_by}
use Rattle.rv_mul.specs.Tables.{table_of}
use Rattle.rv_execute.specs.declared.memory.Refused.{Refused}
use Rattle.rv_execute.specs.declared.memory.Refused.TheVariants as refused
use Rattle.rv_execute.specs.declared.outcome.Outcome.{Outcome}
use Rattle.rv_execute.specs.declared.outcome.Outcome.TheVariants as outcome
use Rattle.overlay_memory.specs.Access.{stored_books}
use Rattle.overlay_pages.specs.Changes.{limit_of}
use Rattle.overlay_pages.specs.State.{State, base_of, books, memory_of}
use Rattle.space_maps.specs.Spaces.{space_in}
use Rattle.machine_core.specs.declared.process.Process as declared
use Rattle.machine_core.specs.declared.process.SavedRegs.{SavedRegs}
use Rattle.machine_core.specs.declared.view.View.{View}
use Rattle.machine_core.specs.Process.{Whole, is_speculating}
use Rattle.machine_core.specs.Machine.{kept_in, kept_whole, none_saved}
use Rattle.translation_cache.specs.Bare.{BareTranslations}
use Rattle.machine_core.specs.Tried.{each_counted}
use Rattle.machine_core.specs.Access.{IsSameLoan, IsStoredBy, IsUnchanged, Leaves, lists_after, lists_lent, spaces_lent}
use Rattle.machine_core.specs.Turns.{AreLikeGuests, Guest, exceeds, executed, execution_of, guest_executed, guest_refused, is_full, ledger_executed, ledger_stored, outcome_of, state_executed, state_left, store_made, store_of, translations_executed, units_needed}
use Rattle.machine_core.specs.Kept.{IsBeside, guest_seen}
use Rattle.machine_core.proofs.Staying.{stays_both, stays_same}

-- What the calls of one instruction make of the memory of all spaces.

-- its store was done
pub record HasStored (p : ℕ) (store : ℕ × ℕ) (old new : State) : Type 0 where
  pub ledger : AreAlike (books new) (stored_books old p store.0 store.1)
  pub kept : (saved : Option SavedRegs) → kept_in new p saved ≡ kept_in old p saved
  pub frames : new.frames ≡ old.frames
  pub beside : IsBeside p old new

-- or there weren't units enough for it
abbrev pub CameBy : ℕ → State → State → ℕ × ℕ → Bool → Option (ℕ × ℕ) → Type 0
CameBy p old new store true full = (full ≡ Some (units (stored_books old p store.0 store.1), limit_of old)) × (new ≡ old)
CameBy p old new store false full = (full ≡ None) × HasStored p store old new

abbrev pub Came : ℕ → State → State → Option (ℕ × ℕ) → Option (ℕ × ℕ) → Type 0
Came p old new None full = (full ≡ None) × (new ≡ old)
Came p old new (Some store) full = CameBy p old new store (nat_lt (limit_of old) (units (stored_books old p store.0 store.1))) full

pub record IsPerformed (calls : List Call) (old new : View) (full : Option (ℕ × ℕ)) : Type 0 where
  pub same : IsSameLoan old new
  pub came : Came old.space (spaces_lent old) (spaces_lent new) (store_made (memory_of (spaces_lent old) old.space) calls) full
  pub lists : lists_lent new ≡ each_counted old.space (memory_of (spaces_lent old) old.space) calls (lists_lent old)

is_over : (l u : ℕ) → l < u → nat_lt l u ≡ true
is_over l u h = grind (arith, nat_tests)

not_over : (l u : ℕ) → u ≤ l → nat_lt l u ≡ false
not_over l u h = by_test (nat_lt l u) refl
  where
    by_test : (b : Bool) → nat_lt l u ≡ b → b ≡ false
    by_test true e = absurd (grind (arith, nat_tests))
    by_test false e = refl

-- what is kept of a space, by its mark and its base
kept_same : (m n : Bool) (x y : Memory) (saved : SavedRegs) → n ≡ m → (m ≡ true → y ≡ x)
    → cond n (Some (kept_whole y saved)) None ≡ cond m (Some (kept_whole x saved)) None
kept_same true n x y saved is base = ap (λ b. cond b (Some (kept_whole y saved)) None) is ∙ ap (λ m. Some (kept_whole m saved)) (base refl)
kept_same false n x y saved is base = ap (λ b. cond b (Some (kept_whole y saved)) None) is

-- by the answer of the store
stored_came : (p : ℕ) (old new : State) (address : ℕ) (bytes : List ℕ) (answer : Result (Unit {0}) Refused) (full : Option (ℕ × ℕ))
    → Leaves p old address bytes answer new → full ≡ full_of answer
    → Came p old new (option_map_or (λ at. None) (denied_at (memory_of old p) (store_at address (length bytes))) (Some (address, length bytes))) full
stored_came p old new address bytes (Ok done) full (allowed, stored, fits) is =
    let frames : new.frames ≡ old.frames = stored.frames in
    let limit = ap (λ n. 16 * n) frames in
    let needed = units_alike (books new) (stored_books old p address (length bytes)) stored.ledger in
    let test = not_over (limit_of old) (units (stored_books old p address (length bytes))) (omega (arith, fits, limit, needed)) in
    subst (λ (o : Option ℕ). Came p old new (option_map_or (λ at. None) o (Some (address, length bytes))) full) (sym allowed)
    (subst (λ b. CameBy p old new (address, length bytes) b full) (sym test)
    (is, record { ledger = stored.ledger; kept = λ saved. kept_same (space_in old p).speculating (space_in new p).speculating (base_of old p) (base_of new p) (unwrap_or saved none_saved) stored.mark stored.base; frames = frames; beside = record { spaces = stored.others; there = stored.spaces; awaiting = stored.awaiting; mark = stored.mark } }))
stored_came p old new address bytes (Err (refused.At at)) full (denied, same) is =
    subst (λ (o : Option ℕ). Came p old new (option_map_or (λ at. None) o (Some (address, length bytes))) full) (sym denied) (is, same)
stored_came p old new address bytes (Err (refused.Full needed limit)) full (allowed, needed_is, limit_is, over, same) is =
    let u = units (stored_books old p address (length bytes)) in
    let test = is_over (limit_of old) u (omega (arith, over, needed_is, limit_is)) in
    subst (λ (o : Option ℕ). Came p old new (option_map_or (λ at. None) o (Some (address, length bytes))) full) (sym allowed)
    (subst (λ b. CameBy p old new (address, length bytes) b full) (sym test)
    (is ∙ ap (λ n. Some (n, limit)) needed_is ∙ ap (λ n. Some (u, n)) limit_is, same))

carried : (calls : List Call) (old next new : View) (full : Option (ℕ × ℕ)) (access : Access) → IsUnchanged access old next → IsPerformed calls next new full
    → IsSameLoan old new × Came old.space (spaces_lent old) (spaces_lent new) (store_made (memory_of (spaces_lent old) old.space) calls) full
    × (lists_lent new ≡ each_counted old.space (memory_of (spaces_lent old) old.space) calls (lists_after old access))
carried calls old next new full access (same, kept, counts) done = (
  record { loan = done.same.loan ∙ same.loan; space = done.same.space ∙ same.space; hand = stays_both old next new same.hand done.same.hand },
  subst (λ (s : State). Came old.space s (spaces_lent new) (store_made (memory_of s old.space) calls) full) kept
      (subst (λ p. Came p (spaces_lent next) (spaces_lent new) (store_made (memory_of (spaces_lent next) p) calls) full) same.space done.came),
  done.lists ∙ ap (λ p. each_counted p (memory_of (spaces_lent next) p) calls (lists_lent next)) same.space
      ∙ ap (λ (s : State). each_counted old.space (memory_of s old.space) calls (lists_lent next)) kept
      ∙ ap (each_counted old.space (memory_of (spaces_lent old) old.space) calls) counts,
)

pub performed : (calls : List Call) (old new : View) (full : Option (ℕ × ℕ))
    → Performs (λ old address new. IsUnchanged (fetch_at address) old new) (λ old address count new. IsUnchanged (load_at address count) old new) (λ old address bytes answer new. IsStoredBy old address bytes answer new)
    calls old full new
    → IsPerformed calls old new full
unfolding each_counted
performed [] old new full (none, is) = record {
  same = record { loan = ap (λ (v : View). v.memory.ghost_name) is; space = ap (λ (v : View). v.space) is; hand = stays_same old new is };
  came = (none, ap spaces_lent is);
  lists = ap lists_lent is;
}
performed (Fetch address ∷ calls) old new full (next, unchanged, more) =
    let all = carried calls old next new full (fetch_at address) unchanged (performed calls next new full more) in record { same = all.0; came = all.1; lists = all.2 }
performed (Load address count ∷ calls) old new full (next, unchanged, more) =
    let all = carried calls old next new full (load_at address count) unchanged (performed calls next new full more) in record { same = all.0; came = all.1; lists = all.2 }
performed (Store address bytes ∷ calls) old new full (answer, stored, is, last) =
    record {
      same = stored.0;
      came = stored_came old.space (spaces_lent old) (spaces_lent new) address bytes answer full stored.1 is;
      lists = stored.2 ∙ ap (λ calls. each_counted old.space (memory_of (spaces_lent old) old.space) calls (lists_after old (store_at address (length bytes)))) (sym last);
    }

-- One execution.

pub record IsExecuted (extension : Bool) (p : ℕ) (old new : State) (t u : BareTranslations) (before after : declared.Process) (o : Outcome) : Type 0 where
  pub outcome_is : o ≡ outcome_of p (guest_seen extension p old t before)
  pub after_is : AreLikeGuests (guest_seen extension p new u after) (executed p (guest_seen extension p old t before))
  pub beside : IsBeside p old new

-- what an outcome that isn't for want of units says
record IsDone (e : Execution) (regs : Registers) (memory : Memory) (o : Outcome) : Type 0 where
  outcome_is : o ≡ outcome_by e.upshot
  state_is : state_left o state.Running ≡ state_executed e.upshot
  registers : regs ≡ e.registers
  memory_is : memory ≡ e.memory

is_done : (e : Execution) (old : Registers) (old_memory : Memory) (regs : Registers) (memory : Memory) (o : Outcome) → full_in o ≡ None
    → Executes e old old_memory regs memory o → IsDone e regs memory o
is_done e old old_memory regs memory outcome.Stepped none (is, r, m) =
    record { outcome_is = sym (ap outcome_by is); state_is = sym (ap state_executed is); registers = r; memory_is = m }
is_done e old old_memory regs memory outcome.Asked none (is, r, m) =
    record { outcome_is = sym (ap outcome_by is); state_is = sym (ap state_executed is); registers = r; memory_is = m }
is_done e old old_memory regs memory (outcome.Fault kind address) none (is, r, m) =
    record { outcome_is = sym (ap outcome_by is); state_is = sym (ap state_executed is); registers = r; memory_is = m }
is_done e old old_memory regs memory (outcome.Full needed limit) none done = cc

record IsFull (old : Registers) (old_memory : Memory) (regs : Registers) (memory : Memory) (o : Outcome) (needed limit : ℕ) : Type 0 where
  outcome_is : o ≡ outcome.Full needed limit
  state_is : state_left o state.Running ≡ state.Running
  registers : regs ≡ old
  memory_is : memory ≡ old_memory

full_by : (e : Execution) (old : Registers) (old_memory : Memory) (regs : Registers) (memory : Memory) (o : Outcome) (needed limit : ℕ) → full_in o ≡ Some (needed, limit)
    → Executes e old old_memory regs memory o → IsFull old old_memory regs memory o needed limit
full_by e old old_memory regs memory outcome.Stepped needed limit is done = cc
full_by e old old_memory regs memory outcome.Asked needed limit is done = cc
full_by e old old_memory regs memory (outcome.Fault kind address) needed limit is done = cc
full_by e old old_memory regs memory (outcome.Full n l) needed limit is (steps, r, m) =
    record {
      outcome_is = ap (λ o. option_map_or (λ (x : ℕ × ℕ). outcome.Full x.0 x.1) o outcome.Stepped) is;
      state_is = refl;
      registers = r;
      memory_is = m;
    }

made : (r s : Registers) (t u : ProcessState) (m n : Memory) (c d : Option Whole) (k l : Ledger) (f g : ℕ) (extension : Bool) (x y : BareTranslations)
    → r ≡ s → t ≡ u → m ≡ n → c ≡ d → AreAlike k l → f ≡ g → x ≡ y
    → AreLikeGuests (record { process = record { registers = r; state = t; memory = m; kept = c }; ledger = k; frames = f; extension = extension; translations = x })
    (record { process = record { registers = s; state = u; memory = n; kept = d }; ledger = l; frames = g; extension = extension; translations = y })
made r s t u m n c d k l f g extension x y rs tu mn cd kl fg xy = record {
  process = λ i. record { registers = rs i; state = tu i; memory = mn i; kept = cd i };
  ledger = kl;
  frames = fg;
  extension = refl;
  translations = xy;
}

alike_by : (k l : Ledger) → k ≡ l → AreAlike k l
alike_by k l same = subst (AreAlike k) same (alike_itself k)

-- a whole is kept where the mark is
marked : (mark : Bool) (whole : Whole) → is_some (cond mark (Some whole) None) ≡ mark
marked true whole = refl
marked false whole = refl

module _ (extension : Bool) (p : ℕ) (old new : State) (t u : BareTranslations) (process : declared.Process) (regs : Registers) (o : Outcome)
    (done : Executes (execution_by (table_of extension) process.regs (memory_of old p)) process.regs (memory_of old p) regs (memory_of new p) o) (runs : process.state ≡ state.Running)
    (counts : u ≡ translations_executed p (guest_seen extension p old t process)) where
  abbrev guest : Guest
  guest = guest_seen extension p old t process

  abbrev left : declared.Process
  left = record { regs = regs; state = state_left o process.state; saved = process.saved }

  speculates : is_speculating guest.process ≡ (space_in old p).speculating
  speculates = marked (space_in old p).speculating (kept_whole (base_of old p) (unwrap_or process.saved none_saved))

  full_is : (store : Option (ℕ × ℕ)) → store_of extension guest.process ≡ store → is_full p guest ≡ exceeds store (units (ledger_stored p (space_in old p).speculating store (books old))) (limit_of old)
  unfolding is_full ledger_executed
  full_is store is =
      ap (λ (s : Option (ℕ × ℕ)). exceeds s (units (ledger_stored p (is_speculating guest.process) s (books old))) (limit_of old)) is
      ∙ ap (λ b. exceeds store (units (ledger_stored p b store (books old))) (limit_of old)) speculates

  ledger_is : (store : Option (ℕ × ℕ)) → store_of extension guest.process ≡ store → ledger_executed p guest ≡ ledger_stored p (space_in old p).speculating store (books old)
  unfolding ledger_executed
  ledger_is store is =
      ap (λ (s : Option (ℕ × ℕ)). ledger_stored p (is_speculating guest.process) s (books old)) is
      ∙ ap (λ b. ledger_stored p b store (books old)) speculates

  enough : (store : Option (ℕ × ℕ)) → store_of extension guest.process ≡ store → is_full p guest ≡ false → full_in o ≡ None
      → AreAlike (books new) (ledger_stored p (space_in old p).speculating store (books old))
      → kept_in new p process.saved ≡ kept_in old p process.saved → new.frames ≡ old.frames → IsBeside p old new
      → IsExecuted extension p old new t u process left o
  enough store is not_full none ledger kept frames beside =
      let e = execution_by (table_of extension) process.regs (memory_of old p) in
      let d = is_done e process.regs (memory_of old p) regs (memory_of new p) o none done in
      record {
        outcome_is = d.outcome_is ∙ sym (ap (λ b. cond b (outcome.Full (units_needed p guest) (limit_of old)) (outcome_by e.upshot)) not_full);
        after_is = subst (λ b. AreLikeGuests (guest_seen extension p new u left) (cond b (guest_refused p guest) (guest_executed p guest))) (sym not_full)
            (made regs e.registers (state_left o process.state) (state_executed e.upshot) (memory_of new p) e.memory (kept_in new p process.saved) (kept_in old p process.saved) (books new) (ledger_executed p guest) _ _ extension u _
            d.registers (ap (state_left o) runs ∙ d.state_is) d.memory_is kept (subst (AreAlike (books new)) (sym (ledger_is store is)) ledger) frames counts);
        beside = beside;
      }

  same_beside : new ≡ old → IsBeside p old new
  same_beside same = subst (IsBeside p old) (sym same) (record { spaces = λ q other. refl; there = λ q. refl; awaiting = refl; mark = refl })

  by_store : (store : Option (ℕ × ℕ)) → store_of extension guest.process ≡ store → Came p old new store (full_in o) → IsExecuted extension p old new t u process left o
  by_store None is (none, same) =
      enough None is (full_is None is) none (alike_by (books new) (books old) (ap books same)) (ap (λ (s : State). kept_in s p process.saved) same) (ap (λ (s : State). s.frames) same) (same_beside same)
  by_store (Some store) is came = by_test (nat_lt (limit_of old) (units (stored_books old p store.0 store.1))) refl came
    where
      by_test : (b : Bool) → nat_lt (limit_of old) (units (stored_books old p store.0 store.1)) ≡ b → CameBy p old new store b (full_in o) → IsExecuted extension p old new t u process left o
      by_test true over (full, same) =
          let f = full_by (execution_by (table_of extension) process.regs (memory_of old p)) process.regs (memory_of old p) regs (memory_of new p) o _ _ full done in
          let test = full_is (Some store) is ∙ over in
          record {
            outcome_is = f.outcome_is ∙ ap (λ l. outcome.Full (units l) (limit_of old)) (sym (ledger_is (Some store) is))
                ∙ sym (ap (λ b. cond b (outcome.Full (units_needed p guest) (limit_of old)) (outcome_by (execution_of extension guest.process).upshot)) test);
            after_is = subst (λ b. AreLikeGuests (guest_seen extension p new u left) (cond b (guest_refused p guest) (guest_executed p guest))) (sym test)
                (made regs process.regs (state_left o process.state) process.state (memory_of new p) (memory_of old p) (kept_in new p process.saved) (kept_in old p process.saved) (books new) (books old) _ _ extension u _
                f.registers (ap (state_left o) runs ∙ f.state_is ∙ sym runs) f.memory_is (ap (λ (s : State). kept_in s p process.saved) same) (alike_by (books new) (books old) (ap books same)) (ap (λ (s : State). s.frames) same) counts);
            beside = same_beside same;
          }
      by_test false under (none, has) = enough (Some store) is (full_is (Some store) is ∙ under) none has.ledger (has.kept process.saved) has.frames has.beside

  pub executes : Came p old new (store_made (memory_of old p) (execution_by (table_of extension) process.regs (memory_of old p)).calls) (full_in o) → IsExecuted extension p old new t u process left o
  unfolding store_of
  executes came = by_store _ refl came
