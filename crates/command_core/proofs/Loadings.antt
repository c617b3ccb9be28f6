use Rattle.std.proofs.Common.{◌≡◌, ℕ, nat_lt, List, [], ◌∷◌, sym, ap, subst, ◌∙◌, refl, Option, Some, None}
use Rattle.breakpoints.specs.Breakpoints.{Breaks}
use Rattle.std.specs.Prelude.{Ok, Err}
use Rattle.std.specs.Option.{option_map}
use Rattle.std.specs.FinMap.{get, insert}
use Rattle.number_maps.specs.Keys.{get_same}
use Rattle.elf_loader.specs.Accepted.{file_refusal}
use Rattle.elf_loader.specs.Fields.{entry_address}
use Rattle.elf_loader.specs.declared.image.ElfError.{ElfError}
use Rattle.ledger.specs.Events as event
use Rattle.overlay_memory.specs.declared.error.SpaceError.{SpaceError}
use Rattle.overlay_memory.specs.declared.error.SpaceError.TheVariants as error
use Rattle.machine_core.specs.Machine.{AreLike, Machine, Processes, Wholes, unit_limit, wholes}
use Rattle.machine_core.specs.Load.{Loads, is_load_full, load_needs, load_pages, loaded_ledger, loaded_process, page_count, with_loaded}
use Rattle.machine_core.specs.LoadLaws.{same_wholes}
use Rattle.report_text.specs.declared.answer.Answer.TheVariants.{Loaded, Refused}
use Rattle.report_text.specs.declared.answer.Code.TheVariants.{Elf, NumbersUsed}
use Rattle.command_core.specs.State.{AreLikeStates, Checkpoint, State, next_number, registry_of}
use Rattle.command_core.specs.Sessions.{KeepsSession, session_state}
use Rattle.command_core.specs.Rows.{Row, change_by, event_needs, first_refusal, is_event_full, ledger_by}
use Rattle.command_core.specs.Giving.{ComesTo, GivesChange}
use Rattle.command_core.specs.Refusals.{by_numbers_used}
use Rattle.command_core.specs.Changes.{answer_of, load_row, load_under}
use Rattle.command_core.specs.Commands.{RunsLoaded}
use Rattle.command_core.specs.LikeLaws.{states_itself}
use Rattle.command_core.proofs.Breaks.{none_removed}
use Rattle.command_core.proofs.Rows.{row_accepted, row_full, row_refused}
use Rattle.command_core.proofs.Places.{keeps_before, keeps_same}

-- What a load comes to.

-- its units, as the machine counts them
load_needed : (p : ℕ) (file : List ℕ) (w : Wholes) → load_needs p file w ≡ event_needs (event.Load p (load_pages file)) w
unfolding ledger_by loaded_ledger
load_needed p file w = refl

load_full : (p : ℕ) (file : List ℕ) (w : Wholes) → is_load_full p file w ≡ is_event_full (event.Load p (load_pages file)) w
load_full p file w = ap (nat_lt (unit_limit w.frames)) (load_needed p file w)

like_accepted : (p : ℕ) (file : List ℕ) (a w : Wholes) → AreLike a (with_loaded p file w)
    → AreLike a (record {
      processes = insert w.processes p (loaded_process file);
      ledger = ledger_by (event.Load p (load_pages file)) w.ledger;
      frames = w.frames;
      extension = w.extension;
      translations = w.translations;
    })
unfolding ledger_by loaded_ledger
like_accepted p file a w like = like

module _ (file : List ℕ) (s : State) where
  abbrev row : Row
  row = load_row file (registry_of s)

  by_file : (o : Option ElfError) → file_refusal file ≡ o
      → first_refusal row.refusals ≡ first_refusal (option_map Elf o ∷ by_numbers_used (next_number (registry_of s)) ∷ [])
  by_file o is = ap (λ (o : Option ElfError). first_refusal (option_map Elf o ∷ by_numbers_used (next_number (registry_of s)) ∷ [])) is

  -- one that is refused
  pub comes_refused : (error : ElfError) → file_refusal file ≡ Some error → ComesTo (change_by row s) (Refused (Elf error)) s
  comes_refused error is = row_refused row s s (Elf error) (by_file (Some error) is) (states_itself s)

  pub comes_used : file_refusal file ≡ None → next_number (registry_of s) ≡ None → ComesTo (change_by row s) (Refused NumbersUsed) s
  comes_used taken none =
      row_refused row s s NumbersUsed (by_file None taken ∙ ap (λ o. first_refusal (by_numbers_used o ∷ [])) none) (states_itself s)

-- where a number is left, what the machine answers
module _ (file : List ℕ) (old new : Machine) (kept : List Checkpoint) (breaks : Breaks) (p : ℕ) (taken : file_refusal file ≡ None)
    (next : next_number (registry_of (session_state old kept breaks)) ≡ Some p) where
  abbrev before : State
  before = session_state old kept breaks

  abbrev under : Row
  under = load_under (Some p) file (registry_of before)

  none : first_refusal under.refusals ≡ None
  none = ap (λ (o : Option ElfError). first_refusal (option_map Elf o ∷ by_numbers_used (Some p) ∷ [])) taken

  pub gives_loaded : get breaks p ≡ None → (n entry : ℕ) → Loads p file old new (Ok n) → entry ≡ entry_address file
      → ComesTo (change_by (row file before) before) (Loaded p n entry) (session_state new kept breaks)
  gives_loaded unbroken n entry (count, fits, loaded) is =
      let enough = sym (load_full p file (wholes old)) ∙ fits in
      let comes = row_accepted under before (session_state new kept breaks) none enough
      (record { wholes = like_accepted p file (wholes new) (wholes old) loaded.like; checkpoints = refl; breakpoints = sym (none_removed breaks p unbroken) }) in
      subst (λ o. ComesTo (change_by (load_under o file (registry_of before)) before) (Loaded p n entry) (session_state new kept breaks)) (sym next) (record {
        answer_is = ap (λ k. Loaded p k entry) count ∙ ap (Loaded p (page_count file)) is ∙ comes.answer_is;
        after_is = comes.after_is;
      })

  pub runs_loaded : (n entry : ℕ) → Loads p file old new (Ok n) → RunsLoaded (Loaded p n entry) (session_state new kept breaks)
  runs_loaded n entry (count, fits, loaded) =
      (loaded_process file, ap (λ (ps : Processes). get ps p) loaded.like.processes ∙ get_same (wholes old).processes p p (loaded_process file) refl, refl)

  pub gives_other : (e : SpaceError) → Loads p file old new (Err e) → GivesChange (row file before) before (answer_of e) (session_state new kept breaks)
  gives_other e unmade = subst (λ o. GivesChange (load_under o file (registry_of before)) before (answer_of e) (session_state new kept breaks)) (sym next) (by_error e unmade)
    where
      by_error : (e : SpaceError) → Loads p file old new (Err e) → GivesChange under before (answer_of e) (session_state new kept breaks)
      by_error (error.Full needed limit) (needed_is, limit_is, full, same) =
          row_full under before (session_state new kept breaks) needed limit none refl (sym (load_full p file (wholes old)) ∙ full)
          (needed_is ∙ load_needed p file (wholes old)) limit_is (subst (λ (m : Machine). AreLikeStates (session_state m kept breaks) before) (sym same) (states_itself before))
      by_error error.Memory (fits, same) = (refl, ap (λ (w : Wholes). record { wholes = w; checkpoints = kept; breakpoints = breaks }) (same_wholes old new same))

  pub session_other : (e : SpaceError) → Loads p file old new (Err e) → KeepsSession old new
  session_other (error.Full needed limit) (needed_is, limit_is, full, same) = keeps_same old new same
  session_other error.Memory (fits, same) = keeps_before old new same
