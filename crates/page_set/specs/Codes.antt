use Rattle.std.specs.Prelude.{ℕ, refl}
use Rattle.std.specs.Coded.{Coded, code_by, coded×, coded_list, coded_ℕ}
use Rattle.std.specs.FinMap.{code}
use Rattle.page_set.specs.Sets.{Chunks, Members}

-- Sets are told apart as values by their chunks and their room.
abbrev pub chunks_code : Coded Chunks
chunks_code = code coded_ℕ (coded_list coded_ℕ)

abbrev pub members_code : Coded Members
members_code = code_by (Chunks × ℕ) (coded× chunks_code coded_ℕ) (λ s. (s.chunks, s.room)) (λ t. record { chunks = t.0; room = t.1 }) (λ _. refl)
