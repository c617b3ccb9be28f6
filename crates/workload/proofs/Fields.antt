use Rattle.std.proofs.Common.{◌≡◌, ℕ, List, [], ◌++◌, ap, ◌∙◌, sym, refl}
use Rattle.std.specs.Prelude.{flat_map}
use Rattle.std.proofs.lemmas.Grind.{flat_map-append}
use Rattle.workload.specs.declared.file.Field.{Field}
use Rattle.workload.specs.declared.file.TheConstants.{FILE_HEADER, PROGRAM}
use Rattle.workload.specs.File.{field_bytes, file_header, program_header, code_segment, data_segment, program, made_file}

-- one list of fields behind another
laid : (old new : List ℕ) (before more : List Field) → old ≡ flat_map field_bytes before → new ≡ old ++ flat_map field_bytes more
    → new ≡ flat_map field_bytes (before ++ more)
laid old new before more is added = added ∙ ap (λ front. front ++ flat_map field_bytes more) is ∙ sym (flat_map-append field_bytes before more)

header_is : FILE_HEADER ≡ file_header
unfolding file_header
header_is = refl

program_is : PROGRAM ≡ program
unfolding program
program_is = refl

-- the four parts of the file
pub all_laid : (empty first second third last : List ℕ) (code zeros : List Field) → empty ≡ []
    → code ≡ program_header code_segment → zeros ≡ program_header data_segment
    → first ≡ empty ++ flat_map field_bytes FILE_HEADER → second ≡ first ++ flat_map field_bytes code → third ≡ second ++ flat_map field_bytes zeros
    → last ≡ third ++ flat_map field_bytes PROGRAM → last ≡ made_file
unfolding made_file
all_laid empty first second third last code zeros none is_code is_zeros one two three four =
    let headed : first ≡ flat_map field_bytes file_header =
    one ∙ ap (λ front. front ++ flat_map field_bytes FILE_HEADER) none ∙ ap (flat_map field_bytes) header_is in
    laid third last (file_header ++ program_header code_segment ++ program_header data_segment) program
    (laid second third (file_header ++ program_header code_segment) (program_header data_segment)
    (laid first second file_header (program_header code_segment) headed (two ∙ ap (λ fields. first ++ flat_map field_bytes fields) is_code))
    (three ∙ ap (λ fields. second ++ flat_map field_bytes fields) is_zeros))
    (four ∙ ap (λ fields. third ++ flat_map field_bytes fields) program_is)
