-- An instruction with the fields of a row's format is what a word that fits the row means.
use Rattle.std.proofs.Common.{◌≡◌, ℕ, Bool, Some, IsTrue, ap, sym, subst, ◌∙◌}
use Rattle.rv_decode.specs.declared.instruction.Instr.{Instr}
use Rattle.rv_decode.specs.declared.names.Format.{Format}
use Rattle.rv_decode.specs.declared.names.Name.{Name}
use Rattle.rv_decode.specs.Table.{row_of, is_base}
use Rattle.rv_decode.specs.Fits.{FitsRow}
use Rattle.rv_decode.specs.Fields.{HasFields, instr_in}
use Rattle.rv_decode.specs.Meaning.{Means}

pub means_row : (among : Name → Bool) {format : Format} {name : Name} {word : ℕ} {i : Instr} → HasFields format name word i → IsTrue (among name) → FitsRow (row_of name) word → (row_of name).format ≡ format → Means among word (Some i)
means_row among {format} {name} {word} {i} has listed fit same = (
  subst (λ (x : Instr). IsTrue (among x.name)) (sym has.fields) listed,
  record {
    name = name;
    fits = fit;
    is = has.fields ∙ ap (λ f. instr_in f name word) (sym same);
  },
)

-- by the table of RV64I
pub means_instr : {format : Format} {name : Name} {word : ℕ} {i : Instr} → HasFields format name word i → IsTrue (is_base name) → FitsRow (row_of name) word → (row_of name).format ≡ format → Means is_base word (Some i)
means_instr = means_row is_base
