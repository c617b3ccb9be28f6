use Rattle.std.proofs.Common.{◌≡◌, ℕ, Bool, true, false, cond, List, [], ◌∷◌, ap, sym, subst, refl, ◌∙◌, Option, Some, None, Result, Ok, Err}
use Rattle.std.specs.Option.{option_map, option_map_or}
use Rattle.elf_loader.specs.declared.image.ElfError.{ElfError}
use Rattle.rv_asm.specs.declared.error.AsmError.{AsmError}
use Rattle.rv_asm.specs.declared.error.AsmError.TheVariants.{BadLine, Twice, NoLabel, OutOfReach, Empty, TooMany, Memory}
use Rattle.rv_asm.specs.Assembly.{Is, IsFileOf, assembled}
use Rattle.report_text.specs.declared.answer.Answer.{Answer}
use Rattle.report_text.specs.declared.answer.Answer.TheVariants.{Done, Loaded, Forked, Saved, Imported, Shared, Refused, Full}
use Rattle.report_text.specs.declared.answer.Answer.TheVariants as told
use Rattle.report_text.specs.declared.answer.Code.{Code}
use Rattle.report_text.specs.declared.answer.Code.TheVariants.{Elf, AsmLine, AsmTwice, AsmNoLabel, AsmOutOfReach, AsmEmpty, AsmTooMany}
use Rattle.command_core.specs.State.{State, next_number, registry_of}
use Rattle.command_core.specs.Sessions.{InSession}
use Rattle.command_core.specs.Rows.{accepts, change_by, falls_short, first_refusal, may_want_memory, refuses, row_is_full, within_units}
use Rattle.command_core.specs.Giving.{ComesTo, GivesChange, WantKeeps}
use Rattle.command_core.specs.Refusals.{by_numbers_used}
use Rattle.command_core.specs.Changes.{CanBeTold, TakesText, asm_answer, asm_by, asm_code, asm_refused, asm_row, load_row, load_under}
use Rattle.command_core.specs.LikeLaws.{states_itself}
use Rattle.command_core.proofs.Rows.{row_refused}

-- What an `asm` comes to.

-- a text that is refused
module _ (text : List ℕ) (s : State) where
  refused_by : (e : AsmError) (code : Code) → assembled text ≡ Err e → asm_code e ≡ Some code → ComesTo (change_by (asm_row text (registry_of s)) s) (Refused code) s
  refused_by e code h is =
      subst (λ r. ComesTo (change_by (asm_by r (registry_of s)) s) (Refused code) s) (sym h)
      (row_refused (asm_refused e (registry_of s)) s s code (ap (λ o. first_refusal (o ∷ [])) is) (states_itself s))

  wants : (r : Result (List ℕ) AsmError) → may_want_memory (asm_by r (registry_of s)) s ≡ true
  wants (Ok file) = refl
  wants (Err e) = refl

  pub gives_refused : {V : Type 0} (view : V → List ℕ) (e : AsmError) → Is view (assembled text) (Err e) → GivesChange (asm_row text (registry_of s)) s (asm_answer e) s
  gives_refused view (BadLine k) h = refused_by (BadLine k) (AsmLine k) h refl
  gives_refused view (Twice k) h = refused_by (Twice k) (AsmTwice k) h refl
  gives_refused view (NoLabel k) h = refused_by (NoLabel k) (AsmNoLabel k) h refl
  gives_refused view (OutOfReach k) h = refused_by (OutOfReach k) (AsmOutOfReach k) h refl
  gives_refused view Empty h = refused_by Empty AsmEmpty h refl
  gives_refused view TooMany h = refused_by TooMany AsmTooMany h refl
  gives_refused view Memory h = (wants (assembled text), refl)

pub refused_keeps : (e : AsmError) (session : InSession) → WantKeeps session (asm_answer e) session
refused_keeps (BadLine k) session = tt
refused_keeps (Twice k) session = tt
refused_keeps (NoLabel k) session = tt
refused_keeps (OutOfReach k) session = tt
refused_keeps Empty session = tt
refused_keeps TooMany session = tt
refused_keeps Memory session = record { state = refl; modes = refl; bases = refl }

pub refused_told : (e : AsmError) → CanBeTold (asm_answer e)
refused_told (BadLine k) = tt
refused_told (Twice k) = tt
refused_told (NoLabel k) = tt
refused_told (OutOfReach k) = tt
refused_told Empty = tt
refused_told TooMany = tt
refused_told Memory = tt

pub refused_taken : (text : List ℕ) (e : AsmError) → TakesText text (asm_answer e)
refused_taken text (BadLine k) = tt
refused_taken text (Twice k) = tt
refused_taken text (NoLabel k) = tt
refused_taken text (OutOfReach k) = tt
refused_taken text Empty = tt
refused_taken text TooMany = tt
refused_taken text Memory = tt

-- a text whose file is loaded
pub loads_text : (text file bytes : List ℕ) → assembled text ≡ Ok file → bytes ≡ file → load_row bytes ≡ asm_row text
loads_text text file bytes is same = ap load_row same ∙ sym (ap asm_by is)

module _ (text file : List ℕ) (is : assembled text ≡ Ok file) (file_is : IsFileOf text file) (s : State) where
  refusals_are : (next : Option ℕ) → first_refusal (load_under next file (registry_of s)).refusals ≡ first_refusal (by_numbers_used next ∷ [])
  refusals_are next = ap (λ (o : Option ElfError). first_refusal (option_map Elf o ∷ by_numbers_used next ∷ [])) file_is.loaded.taken

  by_units : (p : ℕ) (full : Bool)
      → TakesText text (cond full (falls_short (load_under (Some p) file (registry_of s)) s) (accepts (load_under (Some p) file (registry_of s)) s)).answer
  by_units p true = tt
  by_units p false = record { file = file; of_text = is; is_file = file_is; entry_is = file_is.loaded.entry }

  by_next : (next : Option ℕ)
      → TakesText text (option_map_or (λ code. refuses code s) (first_refusal (by_numbers_used next ∷ [])) (within_units (load_under next file (registry_of s)) s)).answer
  by_next None = tt
  by_next (Some p) = by_units p (row_is_full (load_under (Some p) file (registry_of s)) s)

  taken_under : (next : Option ℕ) → TakesText text (change_by (load_under next file (registry_of s)) s).answer
  taken_under next =
      subst (λ o. TakesText text (option_map_or (λ code. refuses code s) o (within_units (load_under next file (registry_of s)) s)).answer) (sym (refusals_are next)) (by_next next)

  taken_row : TakesText text (change_by (load_row file (registry_of s)) s).answer
  taken_row = taken_under (next_number (registry_of s))

  pub taken_loaded : (answer : Answer) (new : State) → GivesChange (load_row file (registry_of s)) s answer new → TakesText text answer
  taken_loaded Done new gives = tt
  taken_loaded (Loaded p pages entry) new gives = subst (TakesText text) (sym gives.answer_is) taken_row
  taken_loaded (Forked p q) new gives = tt
  taken_loaded (Saved p name space) new gives = tt
  taken_loaded (Imported name space pages) new gives = tt
  taken_loaded (Shared pages) new gives = tt
  taken_loaded (Refused code) new gives = subst (TakesText text) (sym gives.answer_is) taken_row
  taken_loaded (Full units limit) new gives = tt
  taken_loaded told.Memory new gives = tt
