use Rattle.std.proofs.Common.{◌≡◌, ℕ, ◌+◌, ◌-◌, ◌*◌, ◌/◌, ◌%◌, ◌^◌, ◌<◌, ◌≤◌, Bool, false, List, [], ◌∷◌, drop, get_or, length, take, Option, Some, None, sym, ap, subst, ◌∙◌, refl, arith}
use Rattle.std.specs.Prelude.{slice_get}
use Rattle.std.proofs.lemmas.Option.{slice_get-get_or}
use Rattle.std.proofs.lemmas.List.{drop-drop, get_or-drop, get_or-take, length-drop, take_all}
use Rattle.std.specs.Borrow.{Bor}
use Rattle.std.specs.Ordering.{nat_cmp}
use Rattle.std.specs.FinSet.{contains, contains-empty}
use Rattle.sizes.specs.declared.TheConstants.{LINE_BYTES, PAGE_BYTES, PAGE_LINES}
use Rattle.breakpoints.specs.Breakpoints.{Addresses}
use Rattle.overlay_memory.specs.View.{TranslatedView}
use Rattle.decoded_lines.specs.Decoded.{AreFromBy, IsOfWordBy, line_word}
use Rattle.rv_mul.specs.Tables.{table_of}
use Rattle.decoded_lines.specs.declared.TheConstants.{KEPT_LINES, LINE_WORDS}
use Rattle.ovl_io.specs.declared.process_state.ProcessState.TheVariants as state
use Rattle.rv_decode.specs.declared.instruction.Instr.{Instr}
use Rattle.rv_execute.specs.declared.outcome.Outcome.{Outcome}
use Rattle.rv_execute.specs.declared.outcome.Outcome.TheVariants as outcome
use Rattle.machine_core.specs.Access.{IsReadyView, spaces_lent}
use Rattle.machine_core.specs.Ahead.{guest_ahead}
use Rattle.machine_core.specs.Executions.{AreLikeExecutions, Comes, ComesFrom, Executions, after_steps, executions, steps_in, stops_in}
use Rattle.machine_core.specs.Held.{GoesPast, HasRun, HoldsOn, IsInHand, IsOn, IsReached, IsWordAt, owing}
use Rattle.machine_core.specs.InHand.{IsLineHeld, page_in}
use Rattle.machine_core.specs.Turns.{AreLikeGuests, Guest, executed, outcome_of}
use Rattle.overlay_pages.specs.State.{State}
use Rattle.machine_core.specs.Kept.{IsBeside, guest_lent}
use Rattle.machine_core.specs.declared.process.Process.{Process}
use Rattle.machine_core.specs.declared.hand.Hand.{Hand}
use Rattle.machine_core.specs.declared.view.View.{View}
use Rattle.machine_core.proofs.Holding.{word_is}
use Rattle.machine_core.proofs.Staying.{keeps_in_hand}
use Rattle.machine_core.proofs.Stepping.{comes, from_first, is_so_far, on_so_far, one_step, so_far, still_runs}

-- A run of a line in hand.

-- where its words stand
at_here : (start pc n : ℕ) → start % LINE_BYTES ≡ 0 → start < 2 ^ 64 → n < LINE_WORDS → pc ≡ (start + 4 * n) % 2 ^ 64 → pc ≡ start + 4 * n
at_here start pc n whole low inside is = omega (arith, whole, low, inside, is)

-- the next one is another word of it, or the line's end
pub on_here : (start from k pc next : ℕ) → start % LINE_BYTES ≡ 0 → start < 2 ^ 64 → from + k < LINE_WORDS → pc ≡ (start + 4 * (from + k)) % 2 ^ 64
    → next ≡ (pc + 4) % 2 ^ 64 → next ≡ (start + 4 * (from + (k + 1))) % 2 ^ 64
on_here start from k pc next whole low inside is goes = omega (arith, whole, low, inside, is, goes)

-- no address is a stop where none are handed over
pub no_stop : (stops : Option (Bor Addresses)) (address : ℕ) → stops ≡ None → contains (stops_in stops) address ≡ false
no_stop stops address none = ap (λ (o : Option (Bor Addresses)). contains (stops_in o) address) none ∙ contains-empty nat_cmp address

-- an address whose line is in hand is aligned
pub aligned_at : (lines : List (List ℕ)) (memory : TranslatedView) (space : ℕ) (hand : Hand) (address : ℕ) → IsReached lines memory space hand address → address % 4 ≡ 0
aligned_at lines memory space hand address taken =
    let whole = (taken.hand_is (address / LINE_BYTES % PAGE_LINES) (omega arith) taken.has.known).0 in
    let start = taken.has.start in
    omega (arith, whole, start)

-- the line of an address in hand
pub held_at : (lines : List (List ℕ)) (memory : TranslatedView) (space : ℕ) (hand : Hand) (address : ℕ) → IsReached lines memory space hand address
    → IsLineHeld lines memory space (LINE_BYTES * (address / LINE_BYTES))
held_at lines memory space hand address taken =
    let start = taken.has.start in
    let aligned = aligned_at lines memory space hand address taken in
    let at : hand.start + LINE_BYTES * (address / LINE_BYTES % PAGE_LINES) ≡ LINE_BYTES * (address / LINE_BYTES) = omega (arith, start, aligned) in
    subst (IsLineHeld lines memory space) at (taken.hand_is (address / LINE_BYTES % PAGE_LINES) (omega arith) taken.has.known).1

-- the line of the first address, and the place of the first word in it
module _ (extension : Bool) (lines : List (List ℕ)) (view : View) (first k pc : ℕ) (held : IsLineHeld lines view.memory.now view.space (LINE_BYTES * (first / LINE_BYTES)))
    (inside : first / 4 % LINE_WORDS + k < LINE_WORDS) (here : pc ≡ (LINE_BYTES * (first / LINE_BYTES) + 4 * (first / 4 % LINE_WORDS + k)) % 2 ^ 64) where
  abbrev start : ℕ
  start = LINE_BYTES * (first / LINE_BYTES)

  abbrev from : ℕ
  from = first / 4 % LINE_WORDS

  pc_is : pc ≡ start + 4 * (from + k)
  pc_is = at_here start pc (from + k) held.whole held.low inside here

  -- the first of those that are left
  pub word_in : (words : List Instr) (count : ℕ) (i : Instr) → k < count → count ≤ length words → i ≡ get_or (drop k (take count words)) 0 i
      → AreFromBy (table_of extension).has words from (get_or lines (first / 4 / LINE_WORDS % KEPT_LINES) [])
      → IsWordAt extension view pc i
  word_in words count i below few is are =
      let number : first / 4 / LINE_WORDS ≡ start / LINE_BYTES = omega arith in
      let one : k + 0 ≡ k = omega arith in
      let there : k < length words = omega (arith, below, few) in
      let same : slice_get words k ≡ Some i = slice_get-get_or words k i there
      ∙ ap Some (sym (is ∙ get_or-drop k (take count words) 0 i ∙ ap (λ n. get_or (take count words) n i) one ∙ get_or-take count words k i below)) in
      word_is extension lines view start pc (from + k) held pc_is inside i
      (subst (λ n. IsOfWordBy (table_of extension).has (Some i) (line_word (get_or lines (n % KEPT_LINES) []) (from + k))) number
      (subst (λ o. IsOfWordBy (table_of extension).has o (line_word (get_or lines (first / 4 / LINE_WORDS % KEPT_LINES) []) (from + k))) same (are k there)))

  -- executions don't stop at a word behind the first one
  pub goes_past : (stops : Addresses) (count : ℕ) → first % 4 ≡ 0 → GoesPast stops first count → k < count → 0 < k → contains stops pc ≡ false
  goes_past stops count aligned past below some =
      let at = pc_is in
      let same : first + 4 * k ≡ pc = omega (arith, at, aligned) in
      subst (λ a. contains stops a ≡ false) same (past k some below)

  pub page_here : first / PAGE_BYTES ≡ pc / PAGE_BYTES
  page_here = let at = pc_is in omega (arith, at, inside)

pub start_page : (address : ℕ) → address / PAGE_BYTES ≡ LINE_BYTES * (address / LINE_BYTES) / PAGE_BYTES
start_page address = omega arith

-- What is in hand behind a run, with more fetches owed.
pub holds_on : (lines : List (List ℕ)) (view : View) (hand : Hand) (owed n : ℕ) → IsReadyView view → IsInHand lines view.memory.now view.space hand → hand.owed ≡ owed → 0 < n
    → HoldsOn lines (record { memory = view.memory; space = view.space; hand = owing hand n }) owed n
holds_on lines view hand owed n ready held is some = record {
  ready = record { there = ready.there; none_awaits = ready.none_awaits };
  hand_is = held;
  owes = omega (arith, is);
  some = some;
}

-- One more of them.
module _ (extension : Bool) (stops : Addresses) (p : ℕ) (guest : Guest) (most k owed : ℕ) (old new : View) (before after : Process) (o : Outcome) (same : old.space ≡ p) (below : k < most)
    (is : AreLikeExecutions (after_steps k (so_far k stops p (most - k) (guest_ahead (owed + k) (guest_lent extension old before)))) (executions stops p most guest))
    (past : 0 < k → contains stops before.regs.pc ≡ false) (came : (n : ℕ) → o ≡ outcome_of old.space (guest_ahead n (guest_lent extension old before)))
    (moved : (n : ℕ) → AreLikeGuests (guest_ahead (n + 1) (guest_lent extension new after)) (executed old.space (guest_ahead n (guest_lent extension old before)))) where
  abbrev all : Executions
  all = executions stops p most guest

  abbrev now : Guest
  now = guest_ahead (owed + k) (guest_lent extension old before)

  abbrev next : Guest
  next = guest_ahead (owed + (k + 1)) (guest_lent extension new after)

  begins : AreLikeExecutions (after_steps k (executions stops p (most - k) now)) all
  begins = subst (λ e. AreLikeExecutions (after_steps k e) all) (on_so_far stops p k (most - k) now past) is

  next_is : AreLikeGuests next (executed old.space now)
  next_is =
      let one : owed + k + 1 ≡ owed + (k + 1) = omega arith in
      subst (λ n. AreLikeGuests (guest_ahead n (guest_lent extension new after)) (executed old.space now)) one (moved (owed + k))

  next_of : AreLikeGuests next (executed p now)
  next_of = subst (λ q. AreLikeGuests next (executed q now)) same next_is

  came_of : o ≡ outcome_of p now
  came_of = came (owed + k) ∙ ap (λ n. outcome_of n now) same

  pub one_so_far : o ≡ outcome.Stepped → AreLikeExecutions (after_steps (k + 1) (so_far (k + 1) stops p (most - (k + 1)) next)) all
  one_so_far stepped =
      subst (λ e. AreLikeExecutions (after_steps (k + 1) e) all) (is_so_far stops p (k + 1) (most - (k + 1)) next (omega arith))
      (one_step stops p all most k now next below begins next_of (sym stepped ∙ came_of))

  pub runs_on : o ≡ outcome.Stepped → before.state ≡ state.Running → after.state ≡ state.Running
  runs_on stepped running = still_runs old.space now next running (sym stepped ∙ came (owed + k)) next_is

  pub came_by : Comes stops p most guest (k + steps_in o) o next
  came_by = comes stops p all most k now next below begins next_of guest refl o came_of

-- what each of two stretches leaves beside, both do
pub both_beside : (p : ℕ) (old mid new : State) → IsBeside p old mid → IsBeside p mid new → IsBeside p old new
both_beside p old mid new one two = record {
  spaces = λ q other. two.spaces q other ∙ one.spaces q other;
  there = λ q. two.there q ∙ one.there q;
  awaiting = two.awaiting ∙ one.awaiting;
  mark = two.mark ∙ one.mark;
}

-- Steps of a run so far, one behind the other: the lines are still in hand, and the words that are left follow.
pub record AreRun (extension : Bool) (stops : Addresses) (lines : List (List ℕ)) (old now : View) (before process : Process) (most pc : ℕ) (words rest : List Instr) (k : ℕ)
    : Type 0 where
  pub loan : now.memory.ghost_name ≡ old.memory.ghost_name
  pub space : now.space ≡ old.space
  pub ready : IsReadyView now
  pub all : AreLikeExecutions (after_steps k (so_far k stops old.space (most - k) (guest_ahead (old.hand.owed + k) (guest_lent extension now process))))
      (executions stops old.space most (guest_ahead old.hand.owed (guest_lent extension old before)))
  pub running : process.state ≡ state.Running
  pub saved : process.saved ≡ before.saved
  pub beside : IsBeside old.space (spaces_lent old) (spaces_lent now)
  pub kept : now.hand ≡ old.hand
  pub here : process.regs.pc ≡ (LINE_BYTES * (pc / LINE_BYTES) + 4 * (pc / 4 % LINE_WORDS + k)) % 2 ^ 64
  pub line : IsLineHeld lines now.memory.now now.space (LINE_BYTES * (pc / LINE_BYTES))
  pub hand_is : IsInHand lines now.memory.now now.space old.hand
  pub rest_is : rest ≡ drop k words

-- at its start no step was taken
pub begun_run : (extension : Bool) (stops : Addresses) (lines : List (List ℕ)) (view : View) (process : Process) (most pc k : ℕ) (words : List Instr) → k ≡ 0
    → pc ≡ process.regs.pc → process.state ≡ state.Running → IsReadyView view → IsReached lines view.memory.now view.space view.hand process.regs.pc
    → AreRun extension stops lines view view process process most pc words words k
begun_run extension stops lines view process most pc k words none is running ready taken =
    let held = held_at lines view.memory.now view.space view.hand pc (subst (IsReached lines view.memory.now view.space view.hand) (sym is) taken) in
    let low = held.low in
    let aligned = aligned_at lines view.memory.now view.space view.hand process.regs.pc taken in
    let owes : view.hand.owed ≡ view.hand.owed + 0 = omega arith in
    let first : AreLikeExecutions (after_steps 0 (executions stops view.space (most - 0) (guest_ahead (view.hand.owed + 0) (guest_lent extension view process))))
    (executions stops view.space most (guest_ahead view.hand.owed (guest_lent extension view process))) =
    subst (λ n. AreLikeExecutions (after_steps 0 (executions stops view.space (most - 0) (guest_ahead n (guest_lent extension view process))))
    (executions stops view.space most (guest_ahead view.hand.owed (guest_lent extension view process)))) owes
    (from_first stops view.space most (guest_ahead view.hand.owed (guest_lent extension view process))) in
    subst (AreRun extension stops lines view view process process most pc words words) (sym none)
    (record {
      loan = refl;
      space = refl;
      ready = ready;
      all = first;
      running = running;
      saved = refl;
      beside = record { spaces = λ q other. refl; there = λ q. refl; awaiting = refl; mark = refl };
      kept = refl;
      here = omega (arith, is, aligned, low);
      line = held;
      hand_is = taken.hand_is;
      rest_is = refl;
    })

-- the first of some is whatever it is asked for with
pub first_is : (rest : List Instr) (d : Instr) → 0 < length rest → get_or rest 0 d ≡ get_or rest 0 (get_or rest 0 d)
first_is [] d some = absurd (omega (arith, some))
first_is (i ∷ rest) d some = refl

-- The first words of a line, of which so many are left.
pub rest_of : (rest : List Instr) → take (length rest - 1) (drop 1 rest) ≡ drop 1 rest
rest_of rest = take_all (length rest - 1) (drop 1 rest) (let n = length-drop 1 rest in omega (arith, n))

module _ (extension : Bool) (stops : Addresses) (lines : List (List ℕ)) (old mid : View) (before process : Process) (most pc count : ℕ) (words rest : List Instr)
    (so : AreRun extension stops lines old mid before process most pc words rest (count - length rest)) (few : count ≤ most) (within : length rest ≤ count) (some : 0 < length rest)
    (inside : pc / 4 % LINE_WORDS + count ≤ LINE_WORDS) (aligned : pc % 4 ≡ 0) (past : GoesPast stops pc count) where
  abbrev done : ℕ
  done = count - length rest

  is_inside : pc / 4 % LINE_WORDS + done < LINE_WORDS
  is_inside = omega (arith, within, some, inside)

  is_past : 0 < done → contains stops process.regs.pc ≡ false
  is_past = goes_past extension lines mid pc done process.regs.pc so.line is_inside so.here stops count aligned past (omega (arith, within, some))

  below : done < most
  below = omega (arith, within, some, few)

  -- the word of the next one
  pub next_word : (all : List Instr) → words ≡ take count all → count ≤ length all
      → AreFromBy (table_of extension).has all (pc / 4 % LINE_WORDS) (get_or lines (pc / 4 / LINE_WORDS % KEPT_LINES) [])
      → (i : Instr) → i ≡ get_or rest 0 i → IsWordAt extension mid process.regs.pc i
  next_word all words_are whole are i is =
      word_in extension lines mid pc done process.regs.pc so.line is_inside so.here all count i (omega (arith, within, some)) whole
      (is ∙ ap (λ r. get_or r 0 i) (so.rest_is ∙ ap (drop done) words_are)) are

  -- It was executed, and that came of it.
  module _ (new : View) (after : Process) (o : Outcome) (came : (n : ℕ) → o ≡ outcome_of mid.space (guest_ahead n (guest_lent extension mid process)))
      (moved : (n : ℕ) → AreLikeGuests (guest_ahead (n + 1) (guest_lent extension new after)) (executed mid.space (guest_ahead n (guest_lent extension mid process)))) where
    -- what came ends the run
    pub ends : Comes stops old.space most (guest_ahead old.hand.owed (guest_lent extension old before)) (done + steps_in o) o (guest_ahead (old.hand.owed + (done + 1)) (guest_lent extension new after))
    ends =
        came_by extension stops old.space (guest_ahead old.hand.owed (guest_lent extension old before)) most done old.hand.owed mid new process after o so.space below so.all is_past came moved

    pub ends_running : o ≡ outcome.Stepped → after.state ≡ state.Running
    ends_running stepped =
        runs_on extension stops old.space (guest_ahead old.hand.owed (guest_lent extension old before)) most done old.hand.owed mid new process after o so.space below so.all is_past came moved stepped so.running

    -- or the run goes on
    pub goes_on : new.memory.ghost_name ≡ mid.memory.ghost_name → new.space ≡ mid.space → IsReadyView new → after.saved ≡ process.saved
        → IsBeside mid.space (spaces_lent mid) (spaces_lent new) → IsOn mid new process.regs.pc after.regs.pc o → page_in old.hand ≡ pc / PAGE_BYTES
        → AreRun extension stops lines old new before after most pc words (drop 1 rest) (count - length (drop 1 rest))
    goes_on loan space ready saved beside on page =
        let n = length-drop 1 rest in
        let one : done + 1 ≡ count - length (drop 1 rest) = omega (arith, n, within, some) in
        subst (AreRun extension stops lines old new before after most pc words (drop 1 rest)) one
        (record {
          loan = loan ∙ so.loan;
          space = space ∙ so.space;
          ready = ready;
          all = one_so_far extension stops old.space (guest_ahead old.hand.owed (guest_lent extension old before)) most done old.hand.owed mid new process after o so.space below so.all is_past came moved on.stepped;
          running = ends_running on.stepped;
          saved = saved ∙ so.saved;
          beside = both_beside old.space (spaces_lent old) (spaces_lent mid) (spaces_lent new) so.beside (subst (λ p. IsBeside p (spaces_lent mid) (spaces_lent new)) so.space beside);
          kept = on.keeps.0 ∙ so.kept;
          here = on_here (LINE_BYTES * (pc / LINE_BYTES)) (pc / 4 % LINE_WORDS) done process.regs.pc after.regs.pc so.line.whole so.line.low is_inside so.here on.next_is;
          line = on.keeps.1 lines (LINE_BYTES * (pc / LINE_BYTES)) so.line (sym (start_page pc) ∙ sym page ∙ sym (ap page_in so.kept));
          hand_is = subst (IsInHand lines new.memory.now new.space) so.kept
              (keeps_in_hand lines mid new on.keeps (subst (IsInHand lines mid.memory.now mid.space) (sym so.kept) so.hand_is));
          rest_is = ap (drop 1) so.rest_is ∙ drop-drop 1 done words;
        })

-- A run from where the line was reached is one from before.
pub run_reached : (extension : Bool) (stops : Addresses) (most : ℕ) (lines : List (List ℕ)) (before after : Process) (old mid new : View) (n : ℕ) (o : Outcome)
    → mid.memory.ghost_name ≡ old.memory.ghost_name → mid.space ≡ old.space → spaces_lent mid ≡ spaces_lent old → mid.hand.owed ≤ old.hand.owed
    → ComesFrom mid.space (guest_ahead mid.hand.owed (guest_lent extension mid before)) old.space (guest_ahead old.hand.owed (guest_lent extension old before)) → 0 < most
    → HasRun extension stops most lines before after mid new n o → HasRun extension stops most lines before after old new n o
run_reached extension stops most lines before after old mid new n o loan space spaces owed from left run = record {
  loan = run.loan ∙ loan;
  space = run.space ∙ space;
  came = from stops most n o _ left (λ stepped. (run.goes stepped).some) run.came;
  running = run.running;
  goes = λ stepped.
      let goes = run.goes stepped in
      let owes = goes.owes in
      record { ready = goes.ready; hand_is = goes.hand_is; owes = omega (arith, owes, owed); some = goes.some };
  saved = run.saved;
  beside = subst (λ (s : State). IsBeside old.space s (spaces_lent new)) spaces (subst (λ p. IsBeside p (spaces_lent mid) (spaces_lent new)) space run.beside);
}
