use Rattle.std.proofs.Common.{◌≡◌, ◌≤◌, ◌<◌, ◌+◌, ◌-◌, ◌*◌, ◌/◌, ◌%◌, ◌^◌, refl, arith}
use Rattle.unit_map.specs.Laws.{by_order}
use Rattle.segment_store.specs.Pointers.{capacity_of}
use Rattle.segment_store.proofs.pointers.all_free.Goals as goal

pub overflow_sub-result : goal.overflow_sub-result
overflow_sub-result c = by_order (λ k. k < 4 → 4 * 2 ^ k % 4294967296 ≤ 32) (λ h. omega arith) (λ h. omega arith) (λ h. omega arith) (λ h. omega arith) (λ h. omega (arith, h)) c.args.order (omega (arith, c.requires)) c.requires

pub returns : goal.returns
returns c =
    by_order (λ k. k < 4 → 4294967295 / 2 ^ (32 - 4 * 2 ^ k % 4294967296) - 1 ≡ 2 ^ (capacity_of k + 1) - 2) (λ h. refl) (λ h. refl) (λ h. refl) (λ h. refl) (λ h. absurd (omega (arith, h)))
    c.args.order (omega (arith, c.requires)) c.requires
