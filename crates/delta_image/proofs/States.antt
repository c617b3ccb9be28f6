use Rattle.std.proofs.Common.{◌≡◌, List, ℕ, ◌++◌, drop, refl, ap, arith}
use Rattle.ovl_io.specs.declared.process_state.FaultKind.{FaultKind}
use Rattle.ovl_io.specs.declared.process_state.FaultKind.TheVariants.{Align, Fetch, Illegal, Load, Store, Break}
use Rattle.ovl_io.specs.declared.process_state.ProcessState.{ProcessState}
use Rattle.ovl_io.specs.declared.process_state.ProcessState.TheVariants.{Running, Exited, Faulted}
use Rattle.delta_image.specs.Image.{kind_code, state_part}
use Rattle.delta_image.specs.Fine.{IsState}
use Rattle.delta_image.proofs.Numbers.{one64}

-- One part is of one state.

one_kind : (a b : FaultKind) → kind_code a ≡ kind_code b → a ≡ b
one_kind Align Align e = refl
one_kind Fetch Fetch e = refl
one_kind Illegal Illegal e = refl
one_kind Load Load e = refl
one_kind Store Store e = refl
one_kind Break Break e = refl
one_kind a b e = absurd (omega (arith, e))

pub one_state : (a b : ProcessState) (r s : List ℕ) → IsState a → IsState b → state_part a ++ r ≡ state_part b ++ s → (a ≡ b) × (r ≡ s)
one_state Running Running r s one other e = (refl, ap (drop 1) e)
one_state (Exited a) (Exited b) r s one other e = let same : a ≡ b = cc in (ap Exited same, ap (drop 2) e)
one_state (Faulted kind a) (Faulted other_kind b) r s one other e =
    let kinds = one_kind kind other_kind cc in
    let address = one64 a b r s one other (ap (drop 2) e) in
    (λ i. Faulted (kinds i) (address.0 i), address.1)
one_state a b r s one other e = absurd cc
