-- What a word means by the table of extension M, and by that of both.
use Rattle.std.proofs.Common.{◌≡◌, ℕ, Bool, Option, Some, None, refl, ap, sym, ◌∙◌, inl, inr}
use Rattle.std.specs.Prelude.{IfSome, not, if◌then◌else◌}
use Rattle.std.specs.Int.{w64, cast_unsigned}
use Rattle.std.proofs.lemmas.Bool.{cases_Bool, not-true}
use Rattle.ovl_io.specs.Memory.{Memory}
use Rattle.rv_decode.specs.declared.instruction.Instr.{Instr}
use Rattle.rv_decode.specs.Encodable.{IsEncodableBy}
use Rattle.rv_decode.specs.Meaning.{Means, meaning_by}
use Rattle.rv_decode.specs.MeaningLaws.{meaning_is, means-meaning}
use Rattle.rv_decode.specs.Table.{is_base, is_multiplication}
use Rattle.rv_decode.proofs.Decoded.{means_encodable}
use Rattle.rv_execute.specs.Execution.{Execution, decoded_by, effect, rv64i, word_effect}
use Rattle.rv_execute.specs.Registers.{Registers, register}
use Rattle.rv_execute.specs.Rows.{action_of}
use Rattle.rv_execute.specs.declared.action.Action.TheVariants.{Write}
use Rattle.rv_mul.specs.Multiplication.{multiplied}
use Rattle.rv_mul.specs.Tables.{is_any, meaning_m, rv64im}

pub meaning_m_is : (word : ℕ) (o : Option Instr) → Means is_multiplication word o → o ≡ meaning_m word
meaning_m_is = meaning_is is_multiplication

pub encodable_m : (word : ℕ) (o : Option Instr) → Means is_multiplication word o → IfSome o (IsEncodableBy is_multiplication)
encodable_m = means_encodable is_multiplication

-- a row of extension M fits
pub any_m : (word : ℕ) (i : Instr) → Means is_multiplication word (Some i) → Some i ≡ meaning_by is_any word
any_m word i m = meaning_is is_any word (Some i) (refl, m.1)

-- none does
joined : (word : ℕ) (o : Option Instr) → Means is_multiplication word None → Means is_base word o → Means is_any word o
joined word None none m = λ name listed fit.
    elim (cases_Bool (is_multiplication name)) [
      | inl is ↦ none name is fit
      | inr other ↦ m name (ap not other) fit
    ]
joined word (Some i) none m = (refl, m.1)

pub any_base : (word : ℕ) (o : Option Instr) → Means is_multiplication word None → Means is_base word o → o ≡ meaning_by is_any word
any_base word o none m = meaning_is is_any word o (joined word o none m)

-- what the word does then
module _ (word : ℕ) (regs : Registers) (memory : Memory) where
  abbrev chosen : Instr → Bool → Execution
  chosen i multiplies =
      let a = register regs i.rs1 in
      let b = register regs i.rs2 in
      effect (if multiplies then Write (multiplied i.name a b) else action_of i.name a b (cast_unsigned w64 i.imm) regs.pc) i.rd regs memory

  pub word_m : (i : Instr) → Means is_multiplication word (Some i) → (a b value : ℕ) → a ≡ register regs i.rs1 → b ≡ register regs i.rs2 → value ≡ multiplied i.name a b
      → effect (Write value) i.rd regs memory ≡ word_effect rv64im word regs memory
  word_m i m a b value a_is b_is is =
      ap (λ v. effect (Write v) i.rd regs memory) (is ∙ ap (λ x. multiplied i.name x b) a_is ∙ ap (multiplied i.name (register regs i.rs1)) b_is)
      ∙ ap (chosen i) (sym m.0) ∙ ap (λ o. decoded_by rv64im o regs memory) (any_m word i m)

  same : (o : Option Instr) → Means is_base word o → decoded_by rv64i o regs memory ≡ decoded_by rv64im o regs memory
  same None m = refl
  same (Some i) m = ap (chosen i) (sym (not-true _ m.0))

  pub word_base : Means is_multiplication word None → word_effect rv64i word regs memory ≡ word_effect rv64im word regs memory
  word_base none =
      let m = means-meaning is_base word in
      same (meaning_by is_base word) m ∙ ap (λ o. decoded_by rv64im o regs memory) (any_base word (meaning_by is_base word) none m)
