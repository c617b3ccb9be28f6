use Rattle.std.proofs.Common.{◌≡◌, ℕ, List, ◌++◌}
use Rattle.delta_image.specs.declared.delta.Delta.{Delta}
use Rattle.delta_image.specs.declared.image_error.ImageError.{ImageError}
use Rattle.delta_image.specs.declared.image_error.ImageError.TheVariants.{BadImage, Memory}
use Rattle.delta_image.specs.Fine.{IsImageOf}
use Rattle.delta_image.specs.Decoding.{IsAbsent, IsRefusal}

-- A part that isn't there.

-- where each value's part has it, no value's is there
pub absent : {V W : Type 0} (P : V → Type 0) (Q : W → Type 0) (whole : V → List ℕ) (part : W → List ℕ) (bytes rest : List ℕ) (error : ImageError)
    → ((v : V) (s : List ℕ) → P v → bytes ≡ whole v ++ s → (w : W) × (t : List ℕ) × Q w × (rest ≡ part w ++ t))
    → IsAbsent Q part rest error → IsAbsent P whole bytes error
absent P Q whole part bytes rest BadImage leads none = λ v s is same. let h = leads v s is same in none h.0 h.1 h.2 h.3
absent P Q whole part bytes rest Memory leads none = tt

-- where each image has it, the bytes are none
pub no_image : {W : Type 0} (Q : W → Type 0) (part : W → List ℕ) (bytes rest : List ℕ) (error : ImageError)
    → ((delta : Delta) → IsImageOf bytes delta → (w : W) × (t : List ℕ) × Q w × (rest ≡ part w ++ t)) → IsAbsent Q part rest error
    → IsRefusal bytes error
no_image Q part bytes rest BadImage leads none = λ delta is. let h = leads delta is in none h.0 h.1 h.2 h.3
no_image Q part bytes rest Memory leads none = tt
