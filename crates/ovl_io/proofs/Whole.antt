use Rattle.std.proofs.Common.{◌≡◌, ℕ, ◌+◌, ◌≤◌, List, [], ◌++◌, take, length, Option, None, Some, IfSome, ◌∙◌, ap, arith}
use Rattle.std.specs.Option.{option_map}
use Rattle.std.proofs.lemmas.List.{length-take, take_all}
use Rattle.sizes.specs.declared.TheConstants.{MOST_FILE_BYTES}

-- What is read up to a limit, and has fewer bytes, is all that was left.
pub within : (left : Option (List ℕ)) (limit : ℕ) (start items : List ℕ) → IfSome (option_map (take limit) left) (λ xs. items ≡ start ++ xs)
    → start ≡ [] → limit ≡ MOST_FILE_BYTES + 1 → length items ≤ MOST_FILE_BYTES
    → IfSome left (λ bytes. (items ≡ bytes) × (length bytes ≤ MOST_FILE_BYTES))
within None limit start items read empty is small = tt
within (Some bytes) limit start items read empty is small =
    let all = read ∙ ap (λ s. s ++ take limit bytes) empty in
    let few : length bytes ≤ MOST_FILE_BYTES = omega (arith, small, is, ap (λ bs. length bs) all, length-take limit bytes) in
    (all ∙ take_all limit bytes (omega (arith, few, is)), few)
