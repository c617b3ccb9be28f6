use Rattle.std.proofs.Common.{◌≡◌, ℕ, ◌*◌, ◌/◌, ◌≤◌, true, false, Bool, cond, List, [], ◌∷◌, length, sym, ap, subst, ◌∙◌, refl, Option, Some, None}
use Rattle.std.specs.Prelude.{Ok, Err}
use Rattle.std.specs.Option.{is_some, option_map}
use Rattle.std.specs.FinMap.{get, insert}
use Rattle.sizes.specs.declared.TheConstants.{FRAME_UNITS, PAGE_BYTES}
use Rattle.ledger.specs.AlikeUnits.{units_alike}
use Rattle.ledger.specs.Events.{Event, ledger_after}
use Rattle.ledger.specs.Events as event
use Rattle.ledger.specs.Touched.{touched}
use Rattle.ledger.specs.Units.{units}
use Rattle.ovl_io.specs.Memory.{first_denied, with_bytes}
use Rattle.ovl_io.specs.Permissions.{writable}
use Rattle.overlay_pages.specs.State.{base_of, books, memory_of}
use Rattle.overlay_pages.specs.Changes.{Fits, limit_of}
use Rattle.overlay_memory.specs.View.{TranslatedView, state_of, translations_of}
use Rattle.overlay_memory.specs.Access.{IsStored, Stores}
use Rattle.overlay_memory.specs.Room.{FitsAfter}
use Rattle.overlay_memory.specs.declared.error.MemoryError.{MemoryError}
use Rattle.overlay_memory.specs.declared.error.MemoryError.TheVariants as access
use Rattle.machine_core.specs.Process.{Process, is_speculating}
use Rattle.machine_core.specs.declared.process.Process as declared
use Rattle.machine_core.specs.Machine.{AreLike, Machine, is_marked, kept_in, processes_of, spaces_of, whole_in, wholes, with_memory, lists_of}
use Rattle.report_text.specs.declared.answer.Answer.TheVariants.{Done}
use Rattle.report_text.specs.declared.answer.Code.{Code}
use Rattle.report_text.specs.declared.answer.Code.TheVariants.{Forbidden, Unmapped}
use Rattle.command_core.specs.State.{Registry}
use Rattle.command_core.specs.Sessions.{KeepsSession}
use Rattle.command_core.specs.Rows.{Row, first_refusal, is_event_full}
use Rattle.command_core.specs.Giving.{MachineGives}
use Rattle.command_core.specs.ProcessChanges.{with_pages}
use Rattle.command_core.specs.Debugging.{poke_answer, poke_refused, poke_row}
use Rattle.command_core.proofs.Rows.{fits, is_short, machine_done, machine_full, machine_refused}
use Rattle.command_core.proofs.Speculating.{kept_before, kept_by, put_again, saved_here, speculates, stays, wholes_are, wholes_left}
use Rattle.machine_core.specs.PermsLaws.{bytes_same}
use Rattle.command_core.proofs.Fitting.{fit_same}

-- Bytes that are stored in the memory of a process.

module _ (p : ℕ) (process : declared.Process) (old : Machine) (memory : TranslatedView) (there : get old.processes p ≡ Some process) (address : ℕ) (bytes : List ℕ) where
  abbrev before : Process
  before = whole_in (spaces_of old) p process

  abbrev mid : Machine
  mid = with_memory old memory

  abbrev poking : Registry → Row
  poking = poke_row p address bytes before

  -- the store, of a process that is speculating or isn't
  abbrev by_mark : Bool → Event
  by_mark mark = event.Store mark p (touched address (length bytes))

  abbrev stored : Event
  stored = by_mark (is_marked old p)

  event_is : stored ≡ by_mark (is_speculating before)
  event_is = ap by_mark (sym (speculates p process old memory there (is_marked old p) refl))

  -- the first refusal, by the first byte that may not be written
  refusal_is : (o : Option ℕ) → first_denied (memory_of (spaces_of old) p) writable address (length bytes) ≡ o
      → (r : Registry) → first_refusal (poking r).refusals ≡ first_refusal (option_map (poke_refused (memory_of (spaces_of old) p)) o ∷ [])
  refusal_is o is r = ap (λ (o : Option ℕ). first_refusal (option_map (poke_refused (memory_of (spaces_of old) p)) o ∷ [])) is

  refused_as : (at : ℕ) (b : Bool) (code : Code) → is_some (get (memory_of (spaces_of old) p) (at / PAGE_BYTES)) ≡ b → cond b (Forbidden at) (Unmapped at) ≡ code
      → poke_refused (memory_of (spaces_of old) p) at ≡ code
  refused_as at b code is same = ap (λ t. cond t (Forbidden at) (Unmapped at)) is ∙ same

  module _ (s : IsStored (spaces_of old) (state_of memory) p address bytes) (lists : translations_of memory ≡ lists_of old) where
    abbrev left : Process
    left = with_pages (with_bytes before.memory address bytes) before

    kept_is : (mark : Bool) → is_marked old p ≡ mark → kept_in (state_of memory) p process.saved ≡ before.kept
    kept_is true is =
        kept_by p process old memory there process.saved true (base_of (spaces_of old) p) (s.mark ∙ is) (s.base is) ∙ sym (kept_before p process old memory there true is)
    kept_is false is =
        kept_by p process old memory there process.saved false (base_of (state_of memory) p) (s.mark ∙ is) refl ∙ sym (kept_before p process old memory there false is)

    whole_is : whole_in (state_of memory) p process ≡ left
    whole_is = λ i. record { registers = process.regs; state = process.state; memory = s.memory i; kept = kept_is (is_marked old p) refl i }

    poked_like : AreLike (wholes mid)
        (wholes_left stored None old (insert (processes_of old) p left))
    poked_like =
        subst (λ (m : Machine). AreLike (wholes m)
        (wholes_left stored None old (insert (processes_of old) p left)))
        (put_again p process old memory there)
        (wholes_are p process old memory there stored process left whole_is s.others None
        s.ledger s.frames lists)

    poked_stays : KeepsSession old mid
    poked_stays =
        subst (KeepsSession old) (put_again p process old memory there)
        (stays p process old memory there stored process left whole_is s.others None lists s.spaces s.awaiting (λ h. s.mark ∙ h ∙ saved_here p process old memory there)
        (λ fit. fit_same before.memory (with_bytes before.memory address bytes) (bytes_same before.memory address bytes) (fit p)))

    -- there are units enough
    within : Fits (state_of memory) → FitsAfter stored (spaces_of old)
    within enough =
        subst (λ n. units (ledger_after stored (books (spaces_of old))) ≤ FRAME_UNITS * n) s.frames
        (subst (λ n. n ≤ limit_of (state_of memory)) (units_alike _ _ s.ledger) enough)

  pub poked : Stores old.memory.pages memory.pages p address bytes (Ok tt) → translations_of memory ≡ lists_of old → Fits (state_of memory) → MachineGives poking old Done mid
  poked (allowed, s) lists enough =
      machine_done poking old mid (refusal_is None allowed)
      (λ kept breaks. ap (λ e. is_event_full e (wholes old)) (sym event_is) ∙ fits stored old (within s lists enough)) (λ r. refl)
      (λ kept breaks. subst (λ e. AreLike (wholes mid)
      (wholes_left e None old (insert (processes_of old) p (left s lists)))) event_is (poked_like s lists))
      (λ r. refl) (λ r. refl) (poked_stays s lists)

  pub not_poked : (e : MemoryError) → Stores old.memory.pages memory.pages p address bytes (Err e) → memory ≡ old.memory → MachineGives poking old (poke_answer e) mid
  not_poked (access.Unmapped at) (is, kept) same =
      machine_refused poking old mid (Unmapped at)
      (λ r. refusal_is (Some at) is.first r ∙ ap Some (refused_as at false (Unmapped at) (ap is_some is.absent) refl)) (ap (with_memory old) same)
  not_poked (access.Forbidden at) (is, kept) same =
      machine_refused poking old mid (Forbidden at)
      (λ r. refusal_is (Some at) is.first r ∙ ap Some (refused_as at true (Forbidden at) is.there refl)) (ap (with_memory old) same)
  not_poked (access.Full needed limit) (allowed, full) same =
      let f = is_short stored old memory needed limit (record { needed_is = full.needed_is; limit_is = full.limit_is; over = full.over; kept = same }) in
      machine_full poking old mid stored needed limit (refusal_is None allowed) (λ r. refl) (λ r. sym event_is) f.needed_is f.limit_is f.full f.same
