-- That no row fits a word, by a test over the table: some bits of the word are known, and they differ from the row's in
-- bits that the row fixes, or the row is among a few that are known not to fit.
use Rattle.std.proofs.Common.{◌≡◌, ℕ, ◌==◌, Bool, true, false, List, [], ◌∷◌, bit_and, sym, ◌∙◌, ap, inl, inr, None}
use Rattle.std.specs.Prelude.{◌||◌, ◌&&◌, not}
use Rattle.std.specs.List.{list_all}
use Rattle.std.proofs.lemmas.Bool.{false≢true, eqb-true, eqb-false, not-true, and_parts, or_cases}
use Rattle.std.proofs.lemmas.Nat.{and_assoc}
use Rattle.rv_decode.specs.declared.names.Name.{Name}
use Rattle.rv_decode.specs.declared.rows.CaseRow.{CaseRow}
use Rattle.rv_decode.specs.Table.{row_of, all_names}
use Rattle.rv_decode.specs.Fits.{FitsRow}
use Rattle.rv_decode.specs.Meaning.{Means}
use Rattle.rv_decode.specs.TableLaws.{each_name, known_bits}

-- none of these pairs of a mask and a value is met by the word
abbrev pub NoneOf : ℕ → List (ℕ × ℕ) → Type 0
NoneOf word [] = Unit {0}
NoneOf word (p ∷ ps) = (bit_and word p.0 ≡ p.1 → ⊥) × NoneOf word ps

-- a word that fits the row meets the pair
abbrev pub implies : CaseRow → ℕ × ℕ → Bool
implies row p = bit_and row.mask p.0 == p.0 && bit_and row.value p.0 == p.1

implied : (word : ℕ) (row : CaseRow) (p : ℕ × ℕ) → implies row p ≡ true → FitsRow row word → bit_and word p.0 ≡ p.1
implied word row p test fit =
    let both = and_parts _ _ test in
    ap (bit_and word) (sym (eqb-true _ _ both.0)) ∙ sym (and_assoc p.0 word row.mask) ∙ ap (λ x. bit_and x p.0) fit ∙ eqb-true _ _ both.1

abbrev pub implies_some : CaseRow → List (ℕ × ℕ) → Bool
implies_some row [] = false
implies_some row (p ∷ ps) = implies row p || implies_some row ps

none_of_at : (word : ℕ) (row : CaseRow) (ps : List (ℕ × ℕ)) → NoneOf word ps → implies_some row ps ≡ true → FitsRow row word → ⊥
none_of_at word row [] none among fit = false≢true among
none_of_at word row (p ∷ ps) none among fit =
    elim (or_cases _ _ among) [
      | inl here ↦ none.0 (implied word row p here fit)
      | inr later ↦ none_of_at word row ps none.1 later fit
    ]

-- the row isn't the table's, contradicts the known bits, or implies a pair that the word does not meet
abbrev pub is_out : (Name → Bool) → ℕ → ℕ → List (ℕ × ℕ) → Name → Bool
is_out among mask key ps name =
    not (among name) || (not (bit_and (row_of name).value mask == bit_and key (row_of name).mask) || implies_some (row_of name) ps)

pub none_fits : (among : Name → Bool) (word mask key : ℕ) (ps : List (ℕ × ℕ)) → list_all (is_out among mask key ps) all_names ≡ true → bit_and word mask ≡ key → NoneOf word ps → Means among word None
none_fits among word mask key ps test known none name listed fit =
    elim (or_cases _ _ (each_name (is_out among mask key ps) test name)) [
      | inl other ↦ false≢true (sym (not-true _ other) ∙ listed)
      | inr out ↦ elim (or_cases _ _ out) [
        | inl differs ↦ eqb-false _ _ (not-true _ differs) (known_bits word mask key (row_of name) known fit)
        | inr some ↦ none_of_at word (row_of name) ps none some fit
      ]
    ]
