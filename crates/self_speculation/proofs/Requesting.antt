use Rattle.std.proofs.Common.{◌≡◌, ℕ, ◌+◌, ◌-◌, ◌/◌, ◌%◌, ◌^◌, ◌<◌, Bool, true, false, cond, sym, ap, subst, ◌∙◌, refl, arith, Option, Some, None}
use Rattle.std.specs.Prelude.{Ok}
use Rattle.std.specs.Option.{is_some, option_map_or, unwrap_or}
use Rattle.std.specs.FinMap.{get}
use Rattle.sizes.specs.declared.TheConstants.{PAGE_BYTES, PAGE_END}
use Rattle.number_maps.specs.Keys.{by_key, get_other, get_same}
use Rattle.ledger.specs.Alike.{AreAlike}
use Rattle.ledger.specs.AlikeLaws.{alike_itself}
use Rattle.ledger.specs.Events.{ledger_after}
use Rattle.ledger.specs.Events as event
use Rattle.ledger.specs.Units.{units}
use Rattle.ovl_io.specs.Memory.{Memory}
use Rattle.ovl_io.specs.declared.turn.Turn.{Turn}
use Rattle.ovl_io.specs.declared.turn.Turn.TheVariants.{Stepped, Full}
use Rattle.overlay_pages.specs.State.{SpaceState, State, base_of, books, memory_of}
use Rattle.overlay_memory.specs.View.{TranslatedView, state_of, translations_of}
use Rattle.translation_cache.specs.Translations.{flushed}
use Rattle.space_maps.specs.Spaces.{holds_space, space_in}
use Rattle.speculation.specs.Speculated.{Commits, Discards, Starts}
use Rattle.rv_execute.specs.Registers.{Registers, next, with_pc}
use Rattle.process_calls.specs.declared.calls.ProcessCall.{ProcessCall}
use Rattle.process_calls.specs.declared.calls.ProcessCall.TheVariants.{Speculate, Commit, Discard}
use Rattle.process_calls.specs.Calls.{gone_on, kept}
use Rattle.machine_core.specs.Process.{Process, Whole}
use Rattle.machine_core.specs.declared.process.Process as declared
use Rattle.machine_core.specs.declared.process.SavedRegs.{SavedRegs}
use Rattle.machine_core.specs.Machine.{AreLike, Machine, StaysBut, has_saved, is_marked, kept_in, kept_whole, lists_of, none_saved, spaces_of, unit_limit, whole_in, wholes, with_memory, with_process_at}
use Rattle.machine_core.specs.Turns.{Guest, with_guest}
use Rattle.self_speculation.specs.declared.TheConstants.{NOT_DONE}
use Rattle.self_speculation.specs.Called.{CallRow, begun, committed, discarded, is_done, not_done, row_after, row_by, row_does, row_is_full, row_needs, row_translations, row_turn}
use Rattle.self_speculation.specs.Requests.{DoesCall, DoesRow, KeepsPairs, guest_at_request, whole_at}
use Rattle.self_speculation.specs.RequestLaws.{not_over, processes_put}

-- A machine of which a process made a request.

-- what is seen of a process: whether registers and state are kept
abbrev saved_of : Option declared.Process → Bool
saved_of found = option_map_or (λ (x : declared.Process). is_some x.saved) found false

module _ (p : ℕ) (process : declared.Process) (at : Registers) (old : Machine) (there : get old.processes p ≡ Some process) where
  abbrev guest : Guest
  guest = guest_at_request old p process at

  abbrev before : Process
  before = whole_at old p process at

  -- A process put, over a memory of which its own space alone changed.
  module _ (memory : TranslatedView) (put : declared.Process) (others : (q : ℕ) → (q ≡ p → ⊥) → space_in (state_of memory) q ≡ space_in (spaces_of old) q)
      (spaces : (q : ℕ) → holds_space (state_of memory) q ≡ holds_space (spaces_of old) q)
      (awaiting : (space_in (state_of memory) p).awaiting ≡ (space_in (spaces_of old) p).awaiting)
      (frames : (state_of memory).frames ≡ (spaces_of old).frames)
      (marks : is_marked old p ≡ has_saved old p → (space_in (state_of memory) p).speculating ≡ is_some put.saved) where
    abbrev new : Machine
    new = with_process_at (with_memory old memory) p put

    stays : StaysBut p old new
    stays = record { spaces = others; there = λ q other. spaces q; processes = λ q other. get_other old.processes p q put other }

    pairs : KeepsPairs old new
    pairs = record {
      spaces = spaces;
      awaiting = λ q. by_key q p
          (λ same. ap (λ n. (space_in (state_of memory) n).awaiting) same ∙ awaiting ∙ sym (ap (λ n. (space_in (spaces_of old) n).awaiting) same))
          (λ other. ap (λ (s : SpaceState). s.awaiting) (others q other));
      processes = λ q. by_key q p
          (λ same. ap is_some (get_same old.processes p q put same) ∙ sym (ap (λ n. is_some (get old.processes n)) same ∙ ap is_some there))
          (λ other. ap is_some (get_other old.processes p q put other));
      kept = λ q agree. by_key q p
          (λ same. ap (is_marked new) same ∙ marks (subst (λ n. is_marked old n ≡ has_saved old n) same agree) ∙ sym (ap saved_of (get_same old.processes p q put same)))
          (λ other. ap (λ (s : SpaceState). s.speculating) (others q other) ∙ agree ∙ sym (ap saved_of (get_other old.processes p q put other)));
    }

    -- by what follows of a row
    pub leaves : (row : CallRow) (turn : Turn) (left : Guest) → turn ≡ row_turn row guest → row_after p row guest ≡ left
        → whole_in (state_of memory) p put ≡ left.process → AreAlike (books (state_of memory)) left.ledger → left.frames ≡ guest.frames → left.extension ≡ guest.extension
        → translations_of memory ≡ left.translations → DoesRow p row guest old turn new
    leaves row turn left turn_is left_is is ledger same_frames same_extension lists = record {
      turn_is = turn_is;
      after_is = subst (λ (g : Guest). AreLike (wholes new) (with_guest (wholes old) p g)) (sym left_is) (record {
        processes = processes_put old memory p others put left.process is;
        ledger = ledger;
        frames = frames ∙ sym same_frames;
        extension = sym same_extension;
        translations = lists;
      });
      others = stays;
      pairs = pairs;
    }

    pub does : (row : CallRow) → row_is_full row guest ≡ false → whole_in (state_of memory) p put ≡ row.process
        → AreAlike (books (state_of memory)) (ledger_after row.event (books (spaces_of old))) → translations_of memory ≡ row_translations p row.flushes (lists_of old)
        → DoesRow p row guest old Stepped new
    does row enough is ledger lists =
        leaves row Stepped (row_does p row guest) (sym (ap (λ b. cond b (Full (row_needs row guest) (unit_limit guest.frames)) Stepped) enough))
        (ap (λ b. cond b guest (row_does p row guest)) enough) is ledger refl refl lists

  -- Where its registers alone change.
  module _ (put : declared.Process) (saved : put.saved ≡ process.saved) where
    abbrev changed : Machine
    changed = with_process_at old p put

    marks_stay : is_marked old p ≡ has_saved old p → is_marked old p ≡ is_some put.saved
    marks_stay agree = agree ∙ ap saved_of there ∙ ap is_some (sym saved)

    whole_is : (registers : Registers) → put.regs ≡ registers → put.state ≡ process.state → whole_in (spaces_of old) p put ≡ record before { registers = registers }
    whole_is registers regs state = λ i. record { registers = regs i; state = state i; memory = memory_of (spaces_of old) p; kept = kept_in (spaces_of old) p (saved i) }

    pub refused : put.regs ≡ gone_on at NOT_DONE → put.state ≡ process.state → DoesRow p (not_done before) guest old Stepped changed
    refused regs state =
        does old.memory put (λ q other. refl) (λ q. refl) refl refl marks_stay (not_done before) refl (whole_is (gone_on at NOT_DONE) regs state) (alike_itself (books (spaces_of old))) refl

    pub short : put.regs ≡ at → put.state ≡ process.state → (row : CallRow) → row_is_full row guest ≡ true
        → DoesRow p row guest old (Full (row_needs row guest) (unit_limit guest.frames)) changed
    short regs state row full =
        leaves old.memory put (λ q other. refl) (λ q. refl) refl refl marks_stay row (Full (row_needs row guest) (unit_limit guest.frames)) guest
        (sym (ap (λ b. cond b (Full (row_needs row guest) (unit_limit guest.frames)) Stepped) full))
        (ap (λ b. cond b guest (row_does p row guest)) full) (whole_is at regs state) (alike_itself (books (spaces_of old))) refl refl refl

  -- what is kept of the process, by the mark of its space
  kept_at : (spaces : State) (saved : Option SavedRegs) (mark : Bool) (base : Memory) → (space_in spaces p).speculating ≡ mark → base_of spaces p ≡ base
      → kept_in spaces p saved ≡ cond mark (Some (kept_whole base (unwrap_or saved none_saved))) None
  kept_at spaces saved mark base is same =
      ap (λ b. cond b (Some (kept_whole (base_of spaces p) (unwrap_or saved none_saved))) None) is
      ∙ ap (λ m. cond mark (Some (kept_whole m (unwrap_or saved none_saved))) None) same

  abbrev whole_kept : Whole
  whole_kept = kept_whole (base_of (spaces_of old) p) (unwrap_or process.saved none_saved)

  -- a request by what is kept
  pub by_mark : (call : ProcessCall) (turn : Turn) (new : Machine) (mark : Bool) → is_marked old p ≡ mark
      → DoesRow p (row_by p before call (cond mark (Some whole_kept) None)) guest old turn new → DoesCall p call process at old turn new
  by_mark call turn new mark is done =
      subst (λ (o : Option Whole). DoesRow p (row_by p before call o) guest old turn new)
      (sym (kept_at (spaces_of old) process.saved mark (base_of (spaces_of old) p) is refl)) done

  -- A speculation begins.
  abbrev started_process : declared.Process
  started_process = record { regs = gone_on at 0; state = process.state; saved = Some (record { regs = kept at; state = process.state }) }

  pub started : (memory : TranslatedView) → Starts old.memory memory p (Ok tt) → translations_of memory ≡ flushed p (lists_of old)
      → DoesCall p Speculate process at old Stepped (with_process_at (with_memory old memory) p started_process)
  started memory (unmarked, within, has) lists =
      let s = has.settled in
      let is : whole_in (state_of memory) p started_process ≡ begun before =
      λ i. record {
        registers = gone_on at 0;
        state = process.state;
        memory = s.memory i;
        kept = kept_at (state_of memory) started_process.saved true (memory_of (spaces_of old) p) s.marked (has.base ∙ s.memory) i;
      } in
      by_mark Speculate Stepped (with_process_at (with_memory old memory) p started_process) false unmarked
      (does memory started_process s.others s.spaces s.awaiting s.frames (λ agree. s.marked) (is_done true (event.Settle p) (begun before))
      (not_over (unit_limit (spaces_of old).frames) (units (ledger_after (event.Settle p) (books (spaces_of old)))) within) is has.ledger lists)

  -- it ends
  abbrev committed_process : declared.Process
  committed_process = record { regs = gone_on at 0; state = process.state; saved = None }

  pub has_committed : (memory : TranslatedView) → Commits old.memory memory p (Ok tt) → translations_of memory ≡ flushed p (lists_of old)
      → DoesCall p Commit process at old Stepped (with_process_at (with_memory old memory) p committed_process)
  has_committed memory (marked, has) lists =
      let s = has.settled in
      let is : whole_in (state_of memory) p committed_process ≡ committed before =
      λ i. record { registers = gone_on at 0; state = process.state; memory = s.memory i; kept = kept_at (state_of memory) None false (base_of (state_of memory) p) s.marked refl i } in
      by_mark Commit Stepped (with_process_at (with_memory old memory) p committed_process) true marked
      (does memory committed_process s.others s.spaces s.awaiting s.frames (λ agree. s.marked) (is_done false (event.Commit p) (committed before)) refl is has.ledger lists)

  -- and the whole that was kept is there again
  abbrev discarded_process : SavedRegs → declared.Process
  discarded_process saved = record { regs = saved.regs; state = saved.state; saved = None }

  pub has_discarded : (memory : TranslatedView) (saved : SavedRegs) → process.saved ≡ Some saved → Discards old.memory memory p (Ok tt)
      → translations_of memory ≡ flushed p (lists_of old) → DoesCall p Discard process at old Stepped (with_process_at (with_memory old memory) p (discarded_process saved))
  has_discarded memory saved here (marked, has) lists =
      let whole = kept_whole (base_of (spaces_of old) p) saved in
      let is : whole_in (state_of memory) p (discarded_process saved) ≡ discarded whole =
      λ i. record { registers = saved.regs; state = saved.state; memory = has.memory i; kept = kept_at (state_of memory) None false (base_of (state_of memory) p) has.marked refl i } in
      let new = with_process_at (with_memory old memory) p (discarded_process saved) in
      by_mark Discard Stepped new true marked
      (subst (λ (o : Option SavedRegs). DoesRow p (row_by p before Discard (Some (kept_whole (base_of (spaces_of old) p) (unwrap_or o none_saved)))) guest old Stepped new) (sym here)
      (does memory (discarded_process saved) has.others has.spaces has.awaiting has.frames (λ agree. has.marked) (is_done false (event.Discard p) (discarded whole)) refl is
      (subst (AreAlike (books (state_of memory))) has.ledger (alike_itself (books (state_of memory)))) lists))

  -- whether its space is marked, by what is kept
  pub unmarked_by : process.saved ≡ None → is_marked old p ≡ has_saved old p → is_marked old p ≡ false
  unmarked_by none agree = agree ∙ ap saved_of there ∙ ap is_some none

  pub marked_by : (saved : SavedRegs) → process.saved ≡ Some saved → is_marked old p ≡ has_saved old p → is_marked old p ≡ true
  marked_by saved here agree = agree ∙ ap saved_of there ∙ ap is_some here

-- The registers at a request: the pc stands 4 before the one behind it.
pub back_at : (behind before : Registers) → behind ≡ next before → before.pc / PAGE_BYTES < PAGE_END → with_pc behind ((behind.pc + (2 ^ 64 - 4)) % 2 ^ 64) ≡ before
back_at behind before is low =
    let pc_is : (behind.pc + (2 ^ 64 - 4)) % 2 ^ 64 ≡ before.pc = omega (arith, ap (λ (r : Registers). r.pc) is, low) in
    let x_is = ap (λ (r : Registers). r.x) is in
    λ i. record { pc = pc_is i; x = x_is i }
