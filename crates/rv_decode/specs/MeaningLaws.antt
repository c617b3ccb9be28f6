-- Laws: the relation between words and meanings is the look-up.
use Rattle.std.proofs.Common.{◌≡◌, ℕ, Bool, List, [], ◌∷◌, Option, Some, None, ap, sym, ◌∙◌, inl, inr, All, subst, refl}
use Rattle.std.specs.Prelude.{◌⊎◌, ◌&&◌, IsTrue, find}
use Rattle.std.specs.Option.{option_map}
use Rattle.std.proofs.lemmas.Bool.{and_from, and_parts, cases_Bool, cond-true, cond-false, eq-eqb, eqb-true, false≢true}
use Rattle.std.proofs.lemmas.List.Elements.{All-nil, All-cons, All-contains}
use Rattle.rv_decode.specs.declared.instruction.Instr.{Instr}
use Rattle.rv_decode.specs.declared.names.Name.{Name}
use Rattle.rv_decode.specs.Table.{row_of, all_names}
use Rattle.rv_decode.specs.Fits.{FitsRow, fits}
use Rattle.rv_decode.specs.Fields.{instr_of}
use Rattle.rv_decode.specs.Meaning.{Means, meaning_by}
use Rattle.rv_decode.specs.TableLaws.{all_names-contains, one_name}

module _ (among : Name → Bool) (word : ℕ) where
  abbrev test : Name → Bool
  test name = among name && fits (row_of name) word

  -- the look-up gives a name of the table whose row fits, or there is none
  first : (names : List Name) → ((find test names ≡ None) × All (λ name. IsTrue (among name) → ¬ FitsRow (row_of name) word) names) ⊎ ((name : Name) × (find test names ≡ Some name) × IsTrue (among name) × FitsRow (row_of name) word)
  first [] = inl (refl, All-nil (λ name. IsTrue (among name) → ¬ FitsRow (row_of name) word))
  first (n ∷ ns) =
      elim (cases_Bool (test n)) [
        | inl passes ↦ let both = and_parts _ _ passes in inr (n, cond-true _ _ _ passes, both.0, eqb-true _ _ both.1)
        | inr fails ↦ elim (first ns) [
          | inl none ↦
              inl (cond-false _ _ _ fails ∙ none.0, All-cons (λ name. IsTrue (among name) → ¬ FitsRow (row_of name) word) n ns (λ listed fit. false≢true (sym fails ∙ and_from _ _ listed (eq-eqb _ _ fit))) none.1)
          | inr found ↦ inr (found.0, cond-false _ _ _ fails ∙ found.1, found.2, found.3)
        ]
      ]

  pub meaning_is : (o : Option Instr) → Means among word o → o ≡ meaning_by among word
  unfolding meaning_by
  meaning_is None none =
      elim (first all_names) [
        | inl out ↦ sym (ap (option_map (λ name. instr_of name word)) out.0)
        | inr found ↦ absurd (none found.0 found.2 found.3)
      ]
  meaning_is (Some i) (listed, m) =
      let same : i.name ≡ m.name = ap (λ x. x.name) m.is in
      elim (first all_names) [
        | inl out ↦
            absurd (All-contains (λ n. IsTrue (among n) → ¬ FitsRow (row_of n) word) all_names m.name out.1 (all_names-contains m.name)
            (subst (λ n. IsTrue (among n)) same listed) m.fits)
        | inr found ↦
            ap Some (m.is ∙ ap (λ n. instr_of n word) (one_name word m.name found.0 m.fits found.3))
            ∙ sym (ap (option_map (λ name. instr_of name word)) found.1)
      ]

  -- what the look-up gives is a meaning
  pub means-meaning : Means among word (meaning_by among word)
  unfolding meaning_by
  means-meaning =
      elim (first all_names) [
        | inl out ↦
            subst (Means among word) (sym (ap (option_map (λ name. instr_of name word)) out.0))
            (λ name listed fit. All-contains (λ n. IsTrue (among n) → ¬ FitsRow (row_of n) word) all_names name out.1 (all_names-contains name) listed fit)
        | inr found ↦
            subst (Means among word) (sym (ap (option_map (λ name. instr_of name word)) found.1))
            (found.2, record { name = found.0; fits = found.3; is = refl })
      ]
