use Rattle.std.specs.Prelude.{ℕ, Bool, refl}
use Rattle.std.specs.Coded.{Coded, code_by, coded×, coded_bool, coded_ℕ}
use Rattle.std.specs.Ordering.{nat_cmp}
use Rattle.std.specs.FinMap.{FinMap, code}
use Rattle.page_table.specs.Table.{Pages}
use Rattle.page_table.specs.Codes.{pages_code}
use Rattle.space_maps.specs.Spaces.{SpaceOf, Spaces}

-- How they are told apart, where pages are: by their parts.

abbrev pub space_code : {P : Type 0} → Coded P → Coded (SpaceOf P)
space_code {P} page =
    code_by (FinMap nat_cmp P × (Pages × Bool)) (coded× (code coded_ℕ page) (coded× pages_code coded_bool))
    (λ s. (s.pages, (s.awaiting, s.speculating))) (λ t. record { pages = t.0; awaiting = t.1.0; speculating = t.1.1 }) (λ _. refl)

abbrev pub spaces_code : {P : Type 0} → Coded P → Coded (Spaces P)
spaces_code {P} page =
    code_by (FinMap nat_cmp (SpaceOf P) × (ℕ × ℕ)) (coded× (code coded_ℕ (space_code page)) (coded× coded_ℕ coded_ℕ))
    (λ v. (v.spaces, (v.frames, v.zero_frame))) (λ t. record { spaces = t.0; frames = t.1.0; zero_frame = t.1.1 }) (λ _. refl)
