-- What a word means has a word: its fields lie in the ranges of its format.
use Rattle.std.proofs.Common.{ℕ, ◌+◌, ◌*◌, ◌<◌, ◌^◌, Option, Some, None, refl, sym, subst, arith}
use Rattle.std.specs.Prelude.{Bool, IfSome, IsTrue}
use Rattle.std.proofs.lemmas.Int.{ints}
use Rattle.rv_decode.specs.declared.instruction.Instr.{Instr}
use Rattle.rv_decode.specs.declared.names.Format.{Format}
use Rattle.rv_decode.specs.declared.names.Format.TheVariants.{R, I, S, B, U, J, H6, H5, N}
use Rattle.rv_decode.specs.declared.names.Name.{Name}
use Rattle.rv_decode.specs.Table.{row_of}
use Rattle.rv_decode.specs.Fields.{field, imm_of, instr_in, instr_of}
use Rattle.rv_decode.specs.Encodable.{HasRegisters, HasImmediate, IsEncodableBy}
use Rattle.rv_decode.specs.Meaning.{Means}
use Rattle.rv_decode.proofs.Signed.{extended-range, extended-even, extended-multiple}

register : (word low : ℕ) → field word low 5 < 32
register word low = omega arith

registers_by : (format : Format) (name : Name) (word : ℕ) → HasRegisters format (instr_in format name word)
registers_by R name word = (register word 7, register word 15, register word 20)
registers_by I name word = (register word 7, register word 15, refl)
registers_by S name word = (refl, register word 15, register word 20)
registers_by B name word = (refl, register word 15, register word 20)
registers_by U name word = (register word 7, refl, refl)
registers_by J name word = (register word 7, refl, refl)
registers_by H6 name word = (register word 7, register word 15, refl)
registers_by H5 name word = (register word 7, register word 15, refl)
registers_by N name word = (refl, refl, refl)

immediate_by : (format : Format) (word : ℕ) → HasImmediate format (imm_of format word)
immediate_by R word = refl
immediate_by I word = extended-range 2048 4096 (field word 20 12) refl (omega arith)
immediate_by S word = extended-range 2048 4096 (field word 25 7 * 2 ^ 5 + field word 7 5) refl (omega arith)
immediate_by B word =
    let n = field word 31 1 * 2 ^ 12 + field word 7 1 * 2 ^ 11 + field word 25 6 * 2 ^ 5 + field word 8 4 * 2 ^ 1 in
    (extended-range 4096 8192 n refl (omega arith), extended-even 4096 n (omega arith) (omega arith))
immediate_by U word =
    let n = field word 12 20 * 2 ^ 12 in
    (extended-range (2 ^ 31) (2 ^ 32) n refl (omega arith), extended-multiple (2 ^ 31) 1048576 n refl (omega arith) (omega arith))
immediate_by J word =
    let n = field word 31 1 * 2 ^ 20 + field word 12 8 * 2 ^ 12 + field word 20 1 * 2 ^ 11 + field word 21 10 * 2 ^ 1 in
    (extended-range 1048576 2097152 n refl (omega arith), extended-even 1048576 n (omega arith) (omega arith))
immediate_by H6 word = (omega (arith, ints), omega (arith, ints))
immediate_by H5 word = (omega (arith, ints), omega (arith, ints))
immediate_by N word = refl

encodable_by : (among : Name → Bool) (name : Name) (word : ℕ) → IsTrue (among name) → IsEncodableBy among (instr_of name word)
encodable_by among name word listed = record {
  listed = listed;
  registers = registers_by (row_of name).format name word;
  immediate = immediate_by (row_of name).format word;
}

pub means_encodable : (among : Name → Bool) (word : ℕ) (o : Option Instr) → Means among word o → IfSome o (IsEncodableBy among)
means_encodable among word None none = tt
means_encodable among word (Some i) (listed, m) =
    subst (IsEncodableBy among) (sym m.is) (encodable_by among m.name word (subst (λ (x : Instr). IsTrue (among x.name)) m.is listed))
