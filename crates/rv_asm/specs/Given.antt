use Rattle.std.specs.Prelude.{◌≡◌, ℕ, ◌+◌, ◌≤◌, ◌++◌, List, map, length, Option, Some, None, Result, Ok, Err, IfOk}
use Rattle.std.specs.Borrow.{Bor}
use Rattle.std.specs.Option.{option_map, option_or}
use Rattle.asm_lines.specs.Lines.{lines_in}
use Rattle.rv_asm.specs.declared.code.Coded.{Coded}
use Rattle.rv_asm.specs.declared.error.AsmError.{AsmError}
use Rattle.rv_asm.specs.declared.error.AsmError.TheVariants.{BadLine, Twice, NoLabel, OutOfReach, Memory}
use Rattle.rv_asm.specs.declared.outcomes.Outcome.{Outcome}
use Rattle.rv_asm.specs.File.{code_of, file_with}
use Rattle.rv_asm.specs.Outcomes.{outcomes_of, first_missing, first_far, words_in}
use Rattle.rv_asm.specs.Assembly.{first_outside, count_refusal, Is, assembled}

-- What the parts of the code answer.

-- labels as the map has them, with names as bytes
abbrev pub said_labels : List (Bor (List ℕ) × ℕ) → List (List ℕ × ℕ)
said_labels entries = map (λ (e : Bor (List ℕ) × ℕ). (e.0.now, e.1)) entries

-- why there are no labels: one stands before its line, or there is no memory
abbrev pub RefusesLabels : Result (List (List ℕ × ℕ)) ℕ → AsmError → Type 0
RefusesLabels r (Twice k) = r ≡ Err k
RefusesLabels r Memory = Unit {0}
RefusesLabels r _ = ⊥

-- labels with one more
abbrev pub Puts : List (List ℕ × ℕ) → Result (List (List ℕ × ℕ)) ℕ → Result (Unit {0}) AsmError → Type 0
Puts labels r (Ok _) = r ≡ Ok labels
Puts labels r (Err e) = RefusesLabels r e

-- all labels
abbrev pub GivesLabels : {V : Type 0} → (V → List (List ℕ × ℕ)) → Result (List (List ℕ × ℕ)) ℕ → Result V AsmError → Type 0
GivesLabels view r (Ok v) = r ≡ Ok (view v)
GivesLabels view r (Err e) = RefusesLabels r e

-- what is made of items all of whose labels are there: the bytes of their words, where they aren't too many
pub record IsCoded (os : List (ℕ × Outcome)) (c : Coded) : Type 0 where
  pub missing : first_missing os ≡ None
  pub far : c.far ≡ first_far os
  pub count : c.items ≡ length os
  pub code : c.items ≤ 65536 → c.code.items ≡ code_of (words_in os)

-- the same with further items behind those so far
pub record IsCodedBehind (os : List (ℕ × Outcome)) (old new : Coded) : Type 0 where
  pub missing : first_missing os ≡ None
  pub far : new.far ≡ option_or old.far (first_far os)
  pub count : new.items ≡ old.items + length os
  pub code : new.items ≤ 65536 → new.code.items ≡ old.code.items ++ code_of (words_in os)

-- unless there is a label among them that isn't there, or no memory
abbrev pub RefusesItems : List (ℕ × Outcome) → AsmError → Type 0
RefusesItems os (NoLabel k) = first_missing os ≡ Some k
RefusesItems os Memory = Unit {0}
RefusesItems os _ = ⊥

abbrev pub Notes : List (ℕ × Outcome) → Coded → Coded → Result (Unit {0}) AsmError → Type 0
Notes os old new (Ok _) = IsCodedBehind os old new
Notes os old new (Err e) = RefusesItems os e

-- what lines are made into, with such labels
abbrev pub Codes : List (List ℕ × ℕ) → List (List (List ℕ)) → Result Coded AsmError → Type 0
Codes labels lines (Ok c) = (first_outside lines ≡ None) × IsCoded (outcomes_of labels lines) c
Codes labels lines (Err (BadLine k)) = first_outside lines ≡ Some k
Codes labels lines (Err e) = RefusesItems (outcomes_of labels lines) e

-- what a text is made into where no line of it is outside the grammar
pub record IsWithin {V : Type 0} (view : V → List ℕ) (text : List ℕ) (r : Result V AsmError) : Type 0 where
  pub file : first_outside (lines_in text) ≡ None → Is view (assembled text) r
  pub inside : IfOk r (λ v. first_outside (lines_in text) ≡ None)

-- the file of what was coded, or what is refused of it
abbrev pub finished : Option AsmError → List ℕ → Result (List ℕ) AsmError
finished None code = Ok (file_with (length code) code)
finished (Some e) code = Err e

abbrev pub Finishes : {V : Type 0} → (V → List ℕ) → Coded → Result V AsmError → Type 0
Finishes view c r = Is view (finished (option_or (option_map OutOfReach c.far) (count_refusal c.items)) c.code.items) r

-- a refusal, unless a line is outside the grammar
abbrev pub outside_error : Option ℕ → AsmError → AsmError
outside_error None e = e
outside_error (Some k) e = BadLine k
