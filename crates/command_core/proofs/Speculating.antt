use Rattle.std.proofs.Common.{◌≡◌, ℕ, ◌/◌, Bool, true, false, cond, sym, ap, subst, ◌∙◌, refl, Option, Some, None}
use Rattle.std.specs.Prelude.{◌&&◌, [], ◌∷◌, not, Ok, Err}
use Rattle.std.specs.Option.{is_some, option_map, option_map_or, unwrap_or}
use Rattle.std.specs.Ordering.{nat_cmp}
use Rattle.std.specs.FinMap.{FinMap, get, insert}
use Rattle.number_maps.specs.Keys.{by_key, get_other, get_same, insert_kept}
use Rattle.sizes.specs.declared.TheConstants.{PAGE_BYTES}
use Rattle.ledger.specs.Alike.{AreAlike}
use Rattle.ledger.specs.AlikeLaws.{alike_itself}
use Rattle.ledger.specs.Events.{Event, ledger_after}
use Rattle.ledger.specs.Events as event
use Rattle.ovl_io.specs.Memory.{Memory, Page}
use Rattle.overlay_pages.specs.State.{PageState, SpaceState, State, base_of, books, memory_of, seen_page}
use Rattle.overlay_memory.specs.View.{TranslatedView, state_of, translations_of}
use Rattle.translation_cache.specs.Translations.{flushed}
use Rattle.overlay_memory.specs.StateMemory.{memory_at}
use Rattle.space_maps.specs.Spaces.{holds_space, page_in, space_in}
use Rattle.promotion.specs.Settled.{AreInFrames}
use Rattle.promotion.specs.Promoted.{Promotes, PromotesAll}
use Rattle.promotion.specs.declared.error.PromoteError.{PromoteError}
use Rattle.promotion.specs.declared.error.PromoteError.TheVariants as promote
use Rattle.speculation.specs.Speculated.{Commits, Discards, Starts}
use Rattle.speculation.specs.declared.error.SpeculationError.{SpeculationError}
use Rattle.speculation.specs.declared.error.SpeculationError.TheVariants as speculation
use Rattle.machine_core.specs.Process.{Process, Whole, is_speculating, runs}
use Rattle.machine_core.specs.declared.process.Process as declared
use Rattle.machine_core.specs.declared.process.SavedRegs.{SavedRegs}
use Rattle.machine_core.specs.Machine.{AreLike, Machine, Processes, has_saved, is_marked, kept_in, kept_whole, none_saved, processes_of, spaces_of, whole_in, wholes, with_memory, with_process_at, Wholes, lists_of}
use Rattle.machine_core.specs.Laws.{processes_at}
use Rattle.report_text.specs.declared.answer.Answer.TheVariants.{Done, Refused}
use Rattle.report_text.specs.declared.answer.Code.{Code}
use Rattle.report_text.specs.declared.answer.Code.TheVariants.{Ended, Speculating, NotSpeculating, Unmapped}
use Rattle.command_core.specs.declared.process_changes.ProcessChange.{ProcessChange}
use Rattle.command_core.specs.declared.process_changes.ProcessChange.TheVariants.{Speculate, Commit, Discard, Promote, PromoteAll}
use Rattle.command_core.specs.State.{Registry}
use Rattle.command_core.specs.Sessions.{HasNoProcess, HaveFitPages, KeepsSession}
use Rattle.delta_spaces.specs.Gathered.{HasFitPages}
use Rattle.command_core.specs.Rows.{Row, first_refusal, flushed_by, ledger_by, plain_row, refused_if, refused_row}
use Rattle.command_core.specs.Giving.{MachineGives}
use Rattle.command_core.specs.Refusals.{by_speculating}
use Rattle.command_core.specs.ProcessChanges.{ChangesProcess, after_commit, after_discard, after_speculate, leaves, process_row, promotion_answer, speculation_answer}
use Rattle.command_core.proofs.Keeping.{each}
use Rattle.machine_core.specs.PermsLaws.{base_same}
use Rattle.command_core.proofs.Fitting.{fit_but, fit_same}
use Rattle.command_core.proofs.Places.{marked_is, none_flushed_by, processes_put}
use Rattle.process_runs.specs.PlaceLaws.{none_is, not_free}
use Rattle.free_numbers.specs.Numbers.{is_number}
use Rattle.translation_cache.specs.Absent.{HasNone}
use Rattle.command_core.proofs.Rows.{fits, is_short, machine_done, machine_full, machine_refused}

-- A machine of which the overlays of one process were changed.

-- the copying machine after an event, with these processes, where the translations of a process go
abbrev pub wholes_left : Event → Option ℕ → Machine → Processes → Wholes
wholes_left e flushes old processes = record {
  processes = processes;
  ledger = ledger_by e (books (spaces_of old));
  frames = (spaces_of old).frames;
  extension = old.extension;
  translations = flushed_by flushes (lists_of old);
}

-- the pages of a space lie otherwise, and are seen as they were; nothing else changed
pub record IsSeenSame (p : ℕ) (old new : State) : Type 0 where
  pub memory : memory_of new p ≡ memory_of old p
  pub marked : (space_in new p).speculating ≡ (space_in old p).speculating
  pub awaiting : (space_in new p).awaiting ≡ (space_in old p).awaiting
  pub others : (q : ℕ) → (q ≡ p → ⊥) → space_in new q ≡ space_in old q
  pub spaces : (q : ℕ) → holds_space new q ≡ holds_space old q
  pub frames : new.frames ≡ old.frames

-- what is seen of a process: whether registers and state are kept
abbrev saved_of : Option declared.Process → Bool
saved_of found = option_map_or (λ (x : declared.Process). is_some x.saved) found false

module _ (p : ℕ) (process : declared.Process) (old : Machine) (memory : TranslatedView) (there : get old.processes p ≡ Some process) where
  abbrev before : Process
  before = whole_in (spaces_of old) p process

  abbrev mid : Machine
  mid = with_memory old memory

  -- whether registers and state are kept
  pub saved_here : has_saved old p ≡ is_some process.saved
  saved_here = ap saved_of there

  -- what is there of a process that was put, after an event
  module _ (e : Event) (put : declared.Process) (left : Process) (is : whole_in (state_of memory) p put ≡ left)
      (others : (q : ℕ) → (q ≡ p → ⊥) → space_in (state_of memory) q ≡ space_in (spaces_of old) q) where
    abbrev new : Machine
    new = with_process_at mid p put

    processes_are : processes_of new ≡ insert (processes_of old) p left
    processes_are = processes_put old memory p others put left is

    pub wholes_are : (flushes : Option ℕ) → AreAlike (books (state_of memory)) (ledger_after e (books (spaces_of old)))
        → (state_of memory).frames ≡ (spaces_of old).frames → translations_of memory ≡ flushed_by flushes (lists_of old)
        → AreLike (wholes new) (wholes_left e flushes old (insert (processes_of old) p left))
    unfolding ledger_by
    wholes_are flushes ledger frames lists = record { processes = processes_are; ledger = ledger; frames = frames; extension = refl; translations = lists }

    pub stays : (flushes : Option ℕ) → translations_of memory ≡ flushed_by flushes (lists_of old) → ((q : ℕ) → holds_space (state_of memory) q ≡ holds_space (spaces_of old) q)
        → (space_in (state_of memory) p).awaiting ≡ (space_in (spaces_of old) p).awaiting
        → (is_marked old p ≡ has_saved old p → (space_in (state_of memory) p).speculating ≡ is_some put.saved)
        → (HaveFitPages old → HasFitPages left.memory) → KeepsSession old new
    stays flushes lists spaces awaiting kept fits =
        let fit : HaveFitPages old → HaveFitPages new =
        λ h. fit_but old new p others (subst HasFitPages (sym (ap (λ (x : Process). x.memory) is)) (fits h)) h in
        let found : (q : ℕ) → is_some (get new.processes q) ≡ is_some (get old.processes q) = λ q. by_key q p
        (λ same. ap is_some (get_same old.processes p q put same) ∙ sym (ap (λ n. is_some (get old.processes n)) same ∙ ap is_some there))
        (λ other. ap is_some (get_other old.processes p q put other)) in
        let unlisted : (q : ℕ) → HasNone q (lists_of old) → HasNone q (translations_of memory) =
        λ q none. subst (HasNone q) (sym lists) (none_flushed_by flushes q (lists_of old) none) in
        record {
          session = λ free_spaces numbers session. record {
            are_free = λ q. session.are_free q ∙ ap (λ b. is_number q && not b) (sym (spaces q));
            in_range = λ q some. session.in_range q (sym (spaces q) ∙ some);
            own_space = λ q some. spaces q ∙ session.own_space q (sym (found q) ∙ some);
            owned = λ q some none. session.owned q (sym (spaces q) ∙ some) (none_is (get old.processes q) (sym (found q) ∙ ap is_some none));
            none_awaits = λ q. by_key q p
                (λ same. ap (λ n. (space_in (state_of memory) n).awaiting) same ∙ awaiting ∙ session.none_awaits p)
                (λ other. ap (λ (s : SpaceState). s.awaiting) (others q other) ∙ session.none_awaits q);
            kept = λ q. by_key q p
                (λ same. ap (is_marked new) same ∙ kept (session.kept p) ∙ sym (ap saved_of (get_same old.processes p q put same)))
                (λ other. ap (λ (s : SpaceState). s.speculating) (others q other) ∙ session.kept q ∙ sym (ap saved_of (get_other old.processes p q put other)));
            free = each (HasNoProcess old) (HasNoProcess new) free_spaces (λ q h. (spaces q ∙ h.0, none_is (get new.processes q) (found q ∙ ap is_some h.1))) session.free;
            once = session.once;
            unseen = λ q none. unlisted q (session.unseen q (none_is (get old.processes q) (sym (found q) ∙ ap is_some none)));
            fit = fit session.fit;
          };
          free = record { spaces = λ q none. others q (not_free old p q (ap is_some there) none); unseen = λ q none. unlisted q };
          stay = λ q none. none_is (get old.processes q) (sym (found q) ∙ ap is_some none);
        }

  -- the process in its place again
  pub put_again : with_process_at mid p process ≡ mid
  put_again = ap (λ (ps : FinMap nat_cmp declared.Process). record { memory = memory; processes = ps; extension = old.extension }) (insert_kept old.processes p process there)

  left_again : insert (processes_of old) p before ≡ processes_of old
  left_again = insert_kept (processes_of old) p before (processes_at old p ∙ ap (option_map (whole_in (spaces_of old) p)) there)

  -- what is kept of the process, by the mark of its space
  pub kept_by : (saved : Option SavedRegs) (mark : Bool) (base : Memory) → (space_in (state_of memory) p).speculating ≡ mark → base_of (state_of memory) p ≡ base
      → kept_in (state_of memory) p saved ≡ cond mark (Some (kept_whole base (unwrap_or saved none_saved))) None
  kept_by saved mark base is same =
      ap (λ b. cond b (Some (kept_whole (base_of (state_of memory) p) (unwrap_or saved none_saved))) None) is
      ∙ ap (λ m. cond mark (Some (kept_whole m (unwrap_or saved none_saved))) None) same

  pub kept_before : (mark : Bool) → is_marked old p ≡ mark → before.kept ≡ cond mark (Some (kept_whole (base_of (spaces_of old) p) (unwrap_or process.saved none_saved))) None
  kept_before mark is = ap (λ b. cond b (Some (kept_whole (base_of (spaces_of old) p) (unwrap_or process.saved none_saved))) None) is

  pub speculates : (mark : Bool) → is_marked old p ≡ mark → is_speculating before ≡ mark
  speculates mark is = marked_is (spaces_of old) p process mark is

  -- A speculation begins.
  abbrev begins : Registry → Row
  begins = process_row p Speculate before

  start_refusal : (mark : Bool) → runs process.state ≡ true → is_marked old p ≡ mark → (r : Registry)
      → first_refusal (begins r).refusals ≡ first_refusal (by_speculating mark ∷ [])
  start_refusal mark run is r =
      ap (λ b. first_refusal (refused_if (not b) Ended ∷ by_speculating (is_speculating before) ∷ [])) run
      ∙ ap (λ b. first_refusal (by_speculating b ∷ [])) (speculates mark is)

  abbrev saved : SavedRegs
  saved = record { regs = process.regs; state = process.state }

  abbrev begun : declared.Process
  begun = record { regs = process.regs; state = process.state; saved = Some saved }

  pub started : Starts old.memory memory p (Ok tt) → translations_of memory ≡ flushed p (lists_of old) → runs process.state ≡ true → ChangesProcess p Speculate process old Done (with_process_at mid p begun)
  started (unmarked, within, has) lists run =
      let s = has.settled in
      let kept = kept_by (Some saved) true (memory_of (spaces_of old) p) s.marked (has.base ∙ s.memory) in
      let is : whole_in (state_of memory) p begun ≡ after_speculate before =
      λ i. record { registers = process.regs; state = process.state; memory = s.memory i; kept = kept i } in
      machine_done begins old (with_process_at mid p begun) (start_refusal false run unmarked) (λ kept breaks. fits (event.Settle p) old within) (λ r. refl)
      (λ kept breaks. wholes_are (event.Settle p) begun (after_speculate before) is s.others (Some p) has.ledger s.frames lists) (λ r. refl) (λ r. refl)
      (stays (event.Settle p) begun (after_speculate before) is s.others (Some p) lists s.spaces s.awaiting (λ h. s.marked) (λ fit. fit p))

  pub not_started : (e : SpeculationError) → Starts old.memory memory p (Err e) → runs process.state ≡ true → ChangesProcess p Speculate process old (speculation_answer e) mid
  not_started speculation.Speculating had run = machine_refused begins old mid Speculating (start_refusal true run had.mark_is) (ap (with_memory old) had.kept)
  not_started speculation.NotSpeculating h run = absurd h
  not_started (speculation.Full needed limit) (unmarked, full) run =
      let f = is_short (event.Settle p) old memory needed limit full in
      machine_full begins old mid (event.Settle p) needed limit (start_refusal false run unmarked) (λ r. refl) (λ r. refl) f.needed_is f.limit_is f.full f.same

  -- It ends.
  abbrev ends : ProcessChange → Registry → Row
  ends change = process_row p change before

  end_refusal : (mark : Bool) → is_marked old p ≡ mark → first_refusal (refused_if (not (is_speculating before)) NotSpeculating ∷ []) ≡ first_refusal (refused_if (not mark) NotSpeculating ∷ [])
  end_refusal mark is = ap (λ b. first_refusal (refused_if (not b) NotSpeculating ∷ [])) (speculates mark is)

  abbrev forgotten : declared.Process
  forgotten = record { regs = process.regs; state = process.state; saved = None }

  pub has_committed : Commits old.memory memory p (Ok tt) → translations_of memory ≡ flushed p (lists_of old) → ChangesProcess p Commit process old Done (with_process_at mid p forgotten)
  has_committed (marked, has) lists =
      let s = has.settled in
      let kept = kept_by None false (base_of (state_of memory) p) s.marked refl in
      let is : whole_in (state_of memory) p forgotten ≡ after_commit before =
      λ i. record { registers = process.regs; state = process.state; memory = s.memory i; kept = kept i } in
      machine_done (ends Commit) old (with_process_at mid p forgotten) (λ r. end_refusal true marked) (λ kept breaks. refl) (λ r. refl)
      (λ kept breaks. wholes_are (event.Commit p) forgotten (after_commit before) is s.others (Some p) has.ledger s.frames lists) (λ r. refl) (λ r. refl)
      (stays (event.Commit p) forgotten (after_commit before) is s.others (Some p) lists s.spaces s.awaiting (λ h. s.marked) (λ fit. fit p))

  pub not_committed : (e : SpeculationError) → Commits old.memory memory p (Err e) → ChangesProcess p Commit process old (speculation_answer e) mid
  not_committed speculation.Speculating h = absurd h
  not_committed speculation.NotSpeculating had = machine_refused (ends Commit) old mid NotSpeculating (λ r. end_refusal false had.mark_is) (ap (with_memory old) had.kept)
  not_committed (speculation.Full needed limit) h = absurd h

  -- the row of one that ends as if it hadn't begun, by what is kept
  abbrev goes_back : Option Whole → Registry → Row
  goes_back kept r = option_map_or (λ whole. plain_row false (Some p) [] (event.Discard p) (leaves p (after_discard whole) r)) kept (refused_row NotSpeculating r)

  not_kept : is_marked old p ≡ false → (new : Machine) → new ≡ old → ChangesProcess p Discard process old (Refused NotSpeculating) new
  not_kept unmarked new same =
      subst (λ (kept : Option Whole). MachineGives (goes_back kept) old (Refused NotSpeculating) new) (sym (kept_before false unmarked))
      (machine_refused (goes_back None) old new NotSpeculating (λ r. refl) same)

  abbrev again : SavedRegs → declared.Process
  again saved = record { regs = saved.regs; state = saved.state; saved = None }

  pub has_discarded : (saved : SavedRegs) → process.saved ≡ Some saved → Discards old.memory memory p (Ok tt)
      → translations_of memory ≡ flushed p (lists_of old) → ChangesProcess p Discard process old Done (with_process_at mid p (again saved))
  has_discarded saved here (marked, has) lists =
      let kept = kept_by None false (base_of (state_of memory) p) has.marked refl in
      let whole = kept_whole (base_of (spaces_of old) p) saved in
      let was : before.kept ≡ Some whole =
      kept_before true marked ∙ ap (λ (o : Option SavedRegs). Some (kept_whole (base_of (spaces_of old) p) (unwrap_or o none_saved))) here in
      let is : whole_in (state_of memory) p (again saved) ≡ after_discard whole =
      λ i. record { registers = saved.regs; state = saved.state; memory = has.memory i; kept = kept i } in
      let ledger = subst (AreAlike (books (state_of memory))) has.ledger (alike_itself (books (state_of memory))) in
      subst (λ (o : Option Whole). MachineGives (goes_back o) old Done (with_process_at mid p (again saved))) (sym was)
      (machine_done (goes_back (Some whole)) old (with_process_at mid p (again saved)) (λ r. refl) (λ kept breaks. refl) (λ r. refl)
      (λ kept breaks. wholes_are (event.Discard p) (again saved) (after_discard whole) is has.others (Some p) ledger has.frames lists) (λ r. refl) (λ r. refl)
      (stays (event.Discard p) (again saved) (after_discard whole) is has.others (Some p) lists has.spaces has.awaiting (λ h. has.marked)
      (λ fit. fit_same (memory_of (spaces_of old) p) (base_of (spaces_of old) p) (base_same (spaces_of old) p) (fit p))))

  pub not_discarded : (e : SpeculationError) → Discards old.memory memory p (Err e) → ChangesProcess p Discard process old (speculation_answer e) mid
  not_discarded speculation.Speculating h = absurd h
  not_discarded speculation.NotSpeculating had = not_kept had.mark_is mid (ap (with_memory old) had.kept)
  not_discarded (speculation.Full needed limit) h = absurd h

  pub nothing_saved : process.saved ≡ None → is_marked old p ≡ has_saved old p → ChangesProcess p Discard process old (Refused NotSpeculating) old
  nothing_saved none kept = not_kept (kept ∙ saved_here ∙ ap is_some none) old refl

  -- Its pages lie otherwise, and are seen as they were.
  module _ (s : IsSeenSame p (spaces_of old) (state_of memory)) (unmarked : is_marked old p ≡ false) (e : Event)
      (lists : translations_of memory ≡ flushed p (lists_of old)) (ledger : AreAlike (books (state_of memory)) (ledger_after e (books (spaces_of old)))) where
    process_is : whole_in (state_of memory) p process ≡ before
    process_is =
        let kept = kept_by process.saved false (base_of (state_of memory) p) (s.marked ∙ unmarked) refl ∙ sym (kept_before false unmarked) in
        λ i. record { registers = process.regs; state = process.state; memory = s.memory i; kept = kept i }

    pub same_like : AreLike (wholes mid) (wholes_left e (Some p) old (processes_of old))
    same_like =
        subst (λ (m : Machine). AreLike (wholes m) (wholes_left e (Some p) old (processes_of old))) put_again
        (subst (λ (ps : Processes). AreLike (wholes (with_process_at mid p process)) (wholes_left e (Some p) old ps)) left_again
        (wholes_are e process before process_is s.others (Some p) ledger s.frames lists))

    pub same_stays : KeepsSession old mid
    same_stays = subst (KeepsSession old) put_again (stays e process before process_is s.others (Some p) lists s.spaces s.awaiting (λ h. s.marked ∙ h ∙ saved_here)
        (λ fit. fit p))

  -- Pages are promoted.
  settled_same : (which : ℕ → Bool) → AreInFrames which (is_marked old p) (spaces_of old) (state_of memory) p → IsSeenSame p (spaces_of old) (state_of memory)
  settled_same which s =
      record { memory = s.memory; marked = s.marked; awaiting = s.awaiting; others = s.others; spaces = s.spaces; frames = s.frames }

  all_refusal : (mark : Bool) → is_marked old p ≡ mark → (r : Registry) → first_refusal (process_row p PromoteAll before r).refusals ≡ first_refusal (by_speculating mark ∷ [])
  all_refusal mark is r = ap (λ b. first_refusal (by_speculating b ∷ [])) (speculates mark is)

  pub all_promoted : PromotesAll old.memory memory p (Ok tt) → translations_of memory ≡ flushed p (lists_of old) → ChangesProcess p PromoteAll process old Done mid
  all_promoted (unmarked, within, has) lists =
      machine_done (process_row p PromoteAll before) old mid (all_refusal false unmarked) (λ kept breaks. fits (event.Settle p) old within) (λ r. refl)
      (λ kept breaks. same_like (settled_same _ has.settled) unmarked (event.Settle p) lists has.ledger) (λ r. refl) (λ r. refl)
      (same_stays (settled_same _ has.settled) unmarked (event.Settle p) lists has.ledger)

  pub none_promoted : (e : PromoteError) (address : ℕ) → PromotesAll old.memory memory p (Err e) → ChangesProcess p PromoteAll process old (promotion_answer address e) mid
  none_promoted (promote.Unmapped at) address h = absurd h
  none_promoted promote.Speculating address had = machine_refused (process_row p PromoteAll before) old mid Speculating (all_refusal true had.marked) (ap (with_memory old) had.kept)
  none_promoted (promote.Full needed limit) address (unmarked, full) =
      let f = is_short (event.Settle p) old memory needed limit full in
      machine_full (process_row p PromoteAll before) old mid (event.Settle p) needed limit (all_refusal false unmarked) (λ r. refl) (λ r. refl) f.needed_is f.limit_is f.full f.same

  module _ (address : ℕ) where
    abbrev one : Registry → Row
    one = process_row p (Promote address) before

    abbrev found : Option PageState
    found = page_in (spaces_of old) p (address / PAGE_BYTES)

    abbrev refusal_of : Bool → Bool → Option Code
    refusal_of mark here = first_refusal (by_speculating mark ∷ refused_if (not here) (Unmapped address) ∷ [])

    page_refusal : (mark : Bool) (o : Option PageState) → is_marked old p ≡ mark → found ≡ o → (r : Registry) → first_refusal (one r).refusals ≡ refusal_of mark (is_some o)
    page_refusal mark o is there_is r =
        ap (λ b. refusal_of b (is_some (get (memory_of (spaces_of old) p) (address / PAGE_BYTES)))) (speculates mark is)
        ∙ ap (λ (x : Option Page). refusal_of mark (is_some x)) (memory_at (spaces_of old) p (address / PAGE_BYTES))
        ∙ by_page found ∙ ap (λ (x : Option PageState). refusal_of mark (is_some x)) there_is
      where
        by_page : (x : Option PageState) → refusal_of mark (is_some (option_map seen_page x)) ≡ refusal_of mark (is_some x)
        by_page None = refl
        by_page (Some x) = refl

    here_refusal : is_marked old p ≡ false → is_some found ≡ true → (r : Registry) → first_refusal (one r).refusals ≡ None
    here_refusal unmarked here r = page_refusal false found unmarked refl r ∙ ap (refusal_of false) here

    pub page_promoted : Promotes old.memory memory p (address / PAGE_BYTES) (Ok tt) → translations_of memory ≡ flushed p (lists_of old) → ChangesProcess p (Promote address) process old Done mid
    page_promoted (unmarked, has) lists =
        let e = event.SettlePage p (address / PAGE_BYTES) in
        machine_done one old mid (here_refusal unmarked has.there) (λ kept breaks. fits e old has.fits) (λ r. refl)
        (λ kept breaks. same_like (settled_same _ has.settled) unmarked e lists has.ledger) (λ r. refl) (λ r. refl)
        (same_stays (settled_same _ has.settled) unmarked e lists has.ledger)

    pub not_promoted : (e : PromoteError) → Promotes old.memory memory p (address / PAGE_BYTES) (Err e)
        → ChangesProcess p (Promote address) process old (promotion_answer address e) mid
    not_promoted (promote.Unmapped at) had = machine_refused one old mid (Unmapped address) (page_refusal false None had.unmarked had.absent) (ap (with_memory old) had.kept)
    not_promoted promote.Speculating had = machine_refused one old mid Speculating (page_refusal true found had.marked refl) (ap (with_memory old) had.kept)
    not_promoted (promote.Full needed limit) (unmarked, here, full) =
        let e = event.SettlePage p (address / PAGE_BYTES) in
        let f = is_short e old memory needed limit full in
        machine_full one old mid e needed limit (here_refusal unmarked here) (λ r. refl) (λ r. refl) f.needed_is f.limit_is f.full f.same
