use Rattle.std.specs.Prelude.{ℕ, List, refl}
use Rattle.std.specs.Coded.{Coded, code_by, coded×, coded_ℕ, coded_list}
use Rattle.translation_cache.specs.Translations.{Entry, Translations}

-- How the values of models are told apart: by their parts.

abbrev pub entry_code : {A : Type 0} → Coded A → Coded (Entry A)
entry_code {A} code =
    code_by (ℕ × (ℕ × A)) (coded× coded_ℕ (coded× coded_ℕ code)) (λ e. (e.space, (e.page, e.held))) (λ t. record { space = t.0; page = t.1.0; held = t.1.1 }) (λ _. refl)

abbrev pub translations_code : {A : Type 0} → Coded A → Coded (Translations A)
translations_code {A} code =
    code_by (List (List (Entry A)) × (ℕ × ℕ)) (coded× (coded_list (coded_list (entry_code code))) (coded× coded_ℕ coded_ℕ))
    (λ t. (t.sets, (t.hits, t.misses))) (λ p. record { sets = p.0; hits = p.1.0; misses = p.1.1 }) (λ _. refl)
