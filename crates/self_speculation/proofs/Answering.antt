use Rattle.std.proofs.Common.{◌≡◌, ℕ, ◌+◌, ◌/◌, Bool, true, false, cond, sym, ap, subst, ◌∙◌, refl, Option, Some, None, inl, inr}
use Rattle.std.specs.Prelude.{IsSome}
use Rattle.std.specs.Option.{is_some, option_map, option_map_or, unwrap_or}
use Rattle.std.specs.FinMap.{get, insert}
use Rattle.number_maps.specs.Keys.{get_same, insert_over}
use Rattle.sizes.specs.declared.TheConstants.{PAGE_BYTES}
use Rattle.ovl_io.specs.Permissions.{executable}
use Rattle.ovl_io.specs.Memory.{Memory, Page, denied_at, first_denied}
use Rattle.ovl_io.specs.declared.process_state.ProcessState.{ProcessState}
use Rattle.ovl_io.specs.declared.process_state.ProcessState.TheVariants as state
use Rattle.ovl_io.specs.declared.turn.Turn.{Turn}
use Rattle.ovl_io.specs.declared.turn.Turn.TheVariants as turn
use Rattle.overlay_pages.specs.State.{PageState, memory_of, seen_page}
use Rattle.overlay_memory.specs.StateMemory.{memory_at}
use Rattle.translation_cache.specs.Absent.{HasNone, none_flushed}
use Rattle.space_maps.specs.Spaces.{page_in}
use Rattle.rv_execute.specs.Calls.{fetch_at}
use Rattle.rv_execute.specs.Registers.{Registers, next, register}
use Rattle.rv_execute.specs.declared.outcome.Outcome.TheVariants.{Asked}
use Rattle.process_calls.specs.declared.calls.ProcessCall.{ProcessCall}
use Rattle.process_calls.specs.Calls.{call_at, numbered}
use Rattle.machine_core.specs.Process.{Process, runs}
use Rattle.machine_core.specs.declared.process.Process as declared
use Rattle.machine_core.specs.Machine.{AreLike, Machine, Processes, Wholes, is_running, spaces_of, unit_limit, whole_in, wholes}
use Rattle.machine_core.specs.Turns.{AreLikeGuests, Guest, after_asked, after_execution, after_turn, came_to, executed, guest_after, guest_of, guest_refused, translations_executed, turn_asked, turn_in, turn_of, with_guest}
use Rattle.machine_core.specs.Laws.{like_after_asked, like_asked, like_chain, processes_at, turn_law}
use Rattle.self_speculation.specs.declared.TheConstants.{ECALL}
use Rattle.self_speculation.specs.Called.{CallRow, after_by, after_called, call_by, call_of, called_in, called_turn, guest_called, row_after, row_does, row_is_full, row_needs, row_of, row_translations, row_turn, turn_by}
use Rattle.self_speculation.specs.Taken.{AnswersRequest}
use Rattle.self_speculation.specs.CalledLaws.{like_row_after, like_row_turn}
use Rattle.self_speculation.specs.Requests.{AnswersCall, DoesCall, FindsCall, IsQuietTurn, KeepsUnseen, WereAtRequest, guest_at_request, whole_at}
use Rattle.self_speculation.specs.AskingLaws.{asks, at_request, executed_is}

-- A request that is answered, of each state in which it was made.

-- the page that an instruction was fetched from is there
fetched_page : (memory : Memory) (address : ℕ) → denied_at memory (fetch_at address) ≡ None → is_some (get memory (address / PAGE_BYTES)) ≡ true
fetched_page memory address may = by_page (get memory (address / PAGE_BYTES)) refl
  where
    by_page : (o : Option Page) → get memory (address / PAGE_BYTES) ≡ o → is_some o ≡ true
    by_page (Some page) is = refl
    by_page None is =
        let denied = ap (λ (b : Bool). cond b (first_denied memory executable (address + 1) 3) (Some address)) (ap (λ (o : Option Page). option_map_or (λ page. false) o false) is) in cc

seen_some : (o : Option PageState) → is_some (option_map seen_page o) ≡ true → IsSome o
seen_some (Some page) h = refl
seen_some None h = cc

module _ (p : ℕ) (machine : Machine) (process : declared.Process) (there : get machine.processes p ≡ Some process) where
  shown : get (wholes machine).processes p ≡ Some (whole_in (spaces_of machine) p process)
  shown = processes_at machine p ∙ ap (option_map (whole_in (spaces_of machine) p)) there

  -- in one of them
  module _ (old : Wholes) (running : is_running old p ≡ true) (came : came_to old p ≡ Asked) (like : AreLike (wholes machine) (after_execution old p)) where
    gone : get old.processes p ≡ None → ⊥
    gone absent = let stopped = sym (ap (λ (o : Option Process). option_map_or (λ (x : Process). runs x.state) o false) absent) ∙ running in cc

    module _ (was : Process) (here : get old.processes p ≡ Some was) where
      abbrev guest : Guest
      guest = guest_of old was

      -- behind the request
      abbrev left : Process
      left = record { registers = next was.registers; state = state.Running; memory = was.memory; kept = was.kept }

      executed_here : after_execution old p ≡ with_guest old p (record guest { process = left; translations = translations_executed p guest })
      executed_here =
          ap (λ (o : Option Process). option_map_or (λ g. with_guest old p (executed p g)) (option_map (guest_of old) o) old) here
          ∙ ap (with_guest old p) (executed_is old p was here came)

      like_here : AreLike (wholes machine) (with_guest old p (record guest { process = left; translations = translations_executed p guest }))
      like_here = subst (AreLike (wholes machine)) executed_here like

      whole_is : whole_in (spaces_of machine) p process ≡ left
      whole_is =
          ap (λ (o : Option Process). unwrap_or o left)
          (sym shown ∙ ap (λ (ps : Processes). get ps p) like_here.processes ∙ get_same old.processes p p left refl)

      regs_behind : process.regs ≡ next was.registers
      regs_behind = ap (λ (x : Process). x.registers) whole_is

      memory_is : memory_of (spaces_of machine) p ≡ was.memory
      memory_is = ap (λ (x : Process). x.memory) whole_is

      page_there : IsSome (page_in (spaces_of machine) p (was.registers.pc / PAGE_BYTES))
      page_there =
          seen_some (page_in (spaces_of machine) p (was.registers.pc / PAGE_BYTES))
          (ap is_some (sym (memory_at (spaces_of machine) p (was.registers.pc / PAGE_BYTES)) ∙ ap (λ (m : Memory). get m (was.registers.pc / PAGE_BYTES)) memory_is)
          ∙ fetched_page was.memory was.registers.pc (at_request old p was here came).may)

      running_state : was.state ≡ state.Running
      running_state = by_state was.state (sym (ap (λ (o : Option Process). option_map_or (λ (x : Process). runs x.state) o false) here) ∙ running)
        where
          by_state : (s : ProcessState) → runs s ≡ true → s ≡ state.Running
          by_state state.Running h = refl
          by_state (state.Exited code) h = cc
          by_state (state.Faulted kind address) h = cc

      call_is : call_of old.extension was ≡ numbered (register was.registers 17)
      unfolding call_of
      call_is = ap (λ u. call_by u was.registers) (asks old p was here came)

      turn_here : called_turn old p ≡ turn_by p (numbered (register was.registers 17)) guest
      turn_here =
          ap (λ (o : Option Process). option_map_or (called_in p) (option_map (guest_of old) o) turn.Stepped) here
          ∙ ap (λ (o : Option ProcessCall). turn_by p o guest) call_is

      after_here : after_called old p ≡ with_guest old p (after_by p (numbered (register was.registers 17)) guest)
      after_here =
          ap (λ (o : Option Process). option_map_or (λ g. with_guest old p (guest_called p g)) (option_map (guest_of old) o) old) here
          ∙ ap (λ (o : Option ProcessCall). with_guest old p (after_by p o guest)) call_is

      module _ (at : Registers) (were : WereAtRequest machine p process.regs at) where
        at_is : at ≡ was.registers
        at_is = were was.registers regs_behind page_there

        number_is : call_at at ECALL ≡ numbered (register was.registers 17)
        number_is = ap (λ (r : Registers). numbered (register r 17)) at_is

        before_is : whole_at machine p process at ≡ was
        before_is =
            let state_is = ap (λ (x : Process). x.state) whole_is ∙ sym running_state in
            let kept_is = ap (λ (x : Process). x.kept) whole_is in
            λ i. record { registers = at_is i; state = state_is i; memory = memory_is i; kept = kept_is i }

        guests_like : AreLikeGuests (guest_at_request machine p process at) (guest_refused p guest)
        guests_like = record {
          process = before_is;
          ledger = like_here.ledger;
          frames = like_here.frames;
          extension = like_here.extension;
          translations = like_here.translations;
        }

        -- of guests that are like each other, put in their places
        put_like : (a b : Guest) → AreLikeGuests a b → AreLike (with_guest (wholes machine) p a) (with_guest old p b)
        put_like a b both = record {
          processes =
              ap (λ (ps : Processes). insert ps p a.process) like_here.processes ∙ insert_over old.processes p left a.process ∙ ap (insert old.processes p) both.process;
          ledger = both.ledger;
          frames = both.frames;
          extension = both.extension;
          translations = both.translations;
        }

        called_here : (call : ProcessCall) (turn : Turn) (new : Machine) → call_at at ECALL ≡ Some call → DoesCall p call process at machine turn new
            → (turn ≡ called_turn old p) × AreLike (wholes new) (after_called old p)
        called_here call turn new is does =
            let by_number = sym number_is ∙ is in
            let mine = guest_at_request machine p process at in
            let theirs = guest_refused p guest in (
              does.turn_is ∙ like_row_turn p (row_of p call mine.process) mine theirs guests_like
                  ∙ ap (λ (x : Process). row_turn (row_of p call x) theirs) before_is
                  ∙ sym (turn_here ∙ ap (λ (o : Option ProcessCall). turn_by p o guest) by_number),
              subst (AreLike (wholes new)) (sym (after_here ∙ ap (λ (o : Option ProcessCall). with_guest old p (after_by p o guest)) by_number))
                  (like_chain (wholes new) (with_guest (wholes machine) p (row_after p (row_of p call mine.process) mine)) (with_guest old p (row_after p (row_of p call was) theirs)) does.after_is
                  (put_like (row_after p (row_of p call mine.process) mine) (row_after p (row_of p call was) theirs)
                  (subst (λ (x : Process). AreLikeGuests (row_after p (row_of p call mine.process) mine) (row_after p (row_of p call x) theirs)) before_is
                  (like_row_after p (row_of p call mine.process) mine theirs guests_like)))),
            )

        plain_here : (t : Turn) (new : Machine) → call_at at ECALL ≡ None → t ≡ turn_asked (wholes machine) p → AreLike (wholes new) (after_asked (wholes machine) p)
            → (t ≡ called_turn old p) × AreLike (wholes new) (after_called old p)
        plain_here t new is turn_is after_is =
            let by_number = sym number_is ∙ is in
            let law = turn_law Asked old p running came in
            let same_turn : called_turn old p ≡ turn_of old p =
            turn_here ∙ ap (λ (o : Option ProcessCall). turn_by p o guest) by_number
            ∙ sym (ap (λ (o : Option Process). option_map_or (turn_in p) (option_map (guest_of old) o) turn.Stepped) here) in
            let same_after : after_called old p ≡ after_turn old p =
            after_here ∙ ap (λ (o : Option ProcessCall). with_guest old p (after_by p o guest)) by_number
            ∙ sym (ap (λ (o : Option Process). option_map_or (λ g. with_guest old p (guest_after p g)) (option_map (guest_of old) o) old) here) in (
              turn_is ∙ like_asked p (wholes machine) (after_execution old p) like ∙ sym law.turn_is ∙ sym same_turn,
              subst (AreLike (wholes new)) (sym law.after_is ∙ sym same_after)
                  (like_chain (wholes new) (after_asked (wholes machine) p) (after_asked (after_execution old p) p) after_is (like_after_asked p (wholes machine) (after_execution old p) like)),
            )

    -- whatever process it has
    pub answers_call : (at : Registers) → WereAtRequest machine p process.regs at → (call : ProcessCall) (turn : Turn) (new : Machine) → call_at at ECALL ≡ Some call
        → DoesCall p call process at machine turn new → (turn ≡ called_turn old p) × AreLike (wholes new) (after_called old p)
    answers_call at were call turn new is does = by_process (get old.processes p) refl
      where
        by_process : (o : Option Process) → get old.processes p ≡ o → (turn ≡ called_turn old p) × AreLike (wholes new) (after_called old p)
        by_process (Some was) here = called_here was here at were call turn new is does
        by_process None absent = absurd (gone absent)

    pub answers_plain : (at : Registers) → WereAtRequest machine p process.regs at → (turn : Turn) (new : Machine) → call_at at ECALL ≡ None
        → turn ≡ turn_asked (wholes machine) p → AreLike (wholes new) (after_asked (wholes machine) p) → (turn ≡ called_turn old p) × AreLike (wholes new) (after_called old p)
    answers_plain at were turn new is turn_is after_is = by_process (get old.processes p) refl
      where
        by_process : (o : Option Process) → get old.processes p ≡ o → (turn ≡ called_turn old p) × AreLike (wholes new) (after_called old p)
        by_process (Some was) here = plain_here was here at were turn new is turn_is after_is
        by_process None absent = absurd (gone absent)

-- one that isn't allowed to speculate by itself
pub answers_asked : (p : ℕ) (machine : Machine) (turn : Turn) (new : Machine) → turn ≡ turn_asked (wholes machine) p → AreLike (wholes new) (after_asked (wholes machine) p)
    → AnswersRequest false p (wholes machine) turn (wholes new)
answers_asked p machine turn new turn_is after_is old running came like =
    let law = turn_law Asked old p running came in
    let left = after_execution old p in (
      turn_is ∙ like_asked p (wholes machine) left like ∙ sym law.turn_is,
      subst (AreLike (wholes new)) (sym law.after_is) (like_chain (wholes new) (after_asked (wholes machine) p) (after_asked left p) after_is (like_after_asked p (wholes machine) left like)),
    )

-- what of others was never translated still wasn't, after a request
none_after : (q p : ℕ) → (q ≡ p → ⊥) → (row : CallRow) (guest : Guest) → HasNone q guest.translations → HasNone q (row_after p row guest).translations
none_after q p other row guest none = by_full (row_is_full row guest)
  where
    by_flush : (flushes : Bool) → HasNone q (row_translations p flushes guest.translations)
    by_flush true = none_flushed q p guest.translations none
    by_flush false = none

    by_full : (b : Bool) → HasNone q (cond b guest (row_does p row guest)).translations
    by_full true = none
    by_full false = by_flush row.flushes

pub none_after_row : (p : ℕ) (call : ProcessCall) (process : declared.Process) (at : Registers) (old : Machine) (turn : Turn) (new : Machine) → DoesCall p call process at old turn new
    → KeepsUnseen p old new
none_after_row p call process at old turn new does q other none =
    let guest = guest_at_request old p process at in
    subst (HasNone q) (sym does.after_is.translations) (none_after q p other (row_of p call guest.process) guest none)

-- a request of its own is a quiet turn
quiet_row : (row : CallRow) (guest : Guest) → IsQuietTurn (row_turn row guest)
quiet_row row guest = by_full (row_is_full row guest)
  where
    by_full : (b : Bool) → IsQuietTurn (cond b (turn.Full (row_needs row guest) (unit_limit guest.frames)) turn.Stepped)
    by_full true = tt
    by_full false = tt

pub quiet_call : (p : ℕ) (call : ProcessCall) (process : declared.Process) (at : Registers) (old : Machine) (t : Turn) (new : Machine) → DoesCall p call process at old t new → IsQuietTurn t
quiet_call p call process at old t new does =
    let guest = guest_at_request old p process at in subst IsQuietTurn (sym does.turn_is) (quiet_row (row_of p call guest.process) guest)

-- A request of its own that was found, and done; and one that wasn't found.
pub finds_call : (calls : Bool) (p : ℕ) (machine : Machine) (at : Registers) (call : ProcessCall) (came : Turn) (new : Machine) → FindsCall p calls machine (Some (at, call))
    → AnswersCall p at call machine came new → AnswersRequest calls p (wholes machine) came (wholes new)
finds_call calls p machine at call came new (may, (process, there, were, is)) (again, there_again, does) =
    let same = ap (λ (o : Option declared.Process). unwrap_or o again) (sym there_again ∙ there) in
    let done = subst (λ (x : declared.Process). DoesCall p call x at machine came new) same does in
    subst (λ b. AnswersRequest b p (wholes machine) came (wholes new)) (sym may)
    (λ old running asked like. answers_call p machine process there old running asked like at were call came new is done)

pub finds_none : (calls : Bool) (p : ℕ) (machine : Machine) (t : Turn) (new : Machine) → FindsCall p calls machine None → t ≡ turn_asked (wholes machine) p
    → AreLike (wholes new) (after_asked (wholes machine) p) → AnswersRequest calls p (wholes machine) t (wholes new)
finds_none calls p machine t new (inl not) turn_is after_is =
    subst (λ b. AnswersRequest b p (wholes machine) t (wholes new)) (sym not) (answers_asked p machine t new turn_is after_is)
finds_none calls p machine t new (inr (may, (process, at, there, were, is))) turn_is after_is =
    subst (λ b. AnswersRequest b p (wholes machine) t (wholes new)) (sym may)
    (λ old running asked like. answers_plain p machine process there old running asked like at were t new is turn_is after_is)
