use Rattle.std.proofs.Common.{◌≡◌, ℕ, zero, suc, ◌+◌, ◌-◌, ◌*◌, ◌/◌, ◌^◌, ◌%◌, ◌<◌, ◌≤◌, inr, sym, ap, ◌∙◌, refl, arith}
use Rattle.std.proofs.lemmas.Nat.{pow_pos}
use Rattle.std.proofs.Math.Nat.{add-mod_right, zero-mod}
use Rattle.std.proofs.Math.Pow.{mod-mod-pow}
use Rattle.unit_map.specs.Pieces.{AreTwoHalves}
pub use Rattle.std.proofs.Math.Pow.{pow_mono}
pub use Rattle.unit_map.specs.Laws.{by_order, twice}

-- Orders, which are at most 4.

pub size_is : (k : ℕ) → k ≤ 4 → 1 * 2 ^ k % 4294967296 ≡ 2 ^ k
size_is = by_order (λ k. 1 * 2 ^ k % 4294967296 ≡ 2 ^ k) refl refl refl refl refl

-- a multiple of a size is one of each smaller size
pub less_aligned : (a b u : ℕ) → a ≤ b → u % 2 ^ b ≡ 0 → u % 2 ^ a ≡ 0
less_aligned a b u le e =
    let all : b ≡ b - a + a = omega (arith, le) in
    sym (mod-mod-pow u (b - a) a) ∙ ap (λ n. n % 2 ^ a) (sym (ap (λ i. u % 2 ^ i) all) ∙ e) ∙ zero-mod (2 ^ a)

-- the next multiple
pub next_aligned : (k u : ℕ) → u % 2 ^ k ≡ 0 → (u + 2 ^ k) % 2 ^ k ≡ 0
next_aligned k u e = add-mod_right u (2 ^ k) ∙ e

Lies : ℕ → Type 0
Lies a = (x u v y : ℕ) → x % 2 ^ a ≡ 0 → u % 2 ^ a ≡ 0 → v % 2 ^ a ≡ 0 → x ≤ y → y < x + 2 ^ a → u ≤ y → y < v → (u ≤ x) × (x + 2 ^ a ≤ v)

between : (a : ℕ) → a ≤ 4 → Lies a
unfolding Lies
between =
    by_order Lies
    (λ x u v y ex eu ev h i j k. (omega (arith, h, i, j, k), omega (arith, h, i, j, k)))
    (λ x u v y ex eu ev h i j k. (omega (arith, ex, eu, h, i, j, k), omega (arith, ex, ev, h, i, j, k)))
    (λ x u v y ex eu ev h i j k. (omega (arith, ex, eu, h, i, j, k), omega (arith, ex, ev, h, i, j, k)))
    (λ x u v y ex eu ev h i j k. (omega (arith, ex, eu, h, i, j, k), omega (arith, ex, ev, h, i, j, k)))
    (λ x u v y ex eu ev h i j k. (omega (arith, ex, eu, h, i, j, k), omega (arith, ex, ev, h, i, j, k)))

-- where two aligned blocks share a unit, the smaller one lies within the larger one
pub nested : (a b x u y : ℕ) → b ≤ 4 → a ≤ b → x % 2 ^ a ≡ 0 → u % 2 ^ b ≡ 0 → x ≤ y → y < x + 2 ^ a → u ≤ y → y < u + 2 ^ b → (u ≤ x) × (x + 2 ^ a ≤ u + 2 ^ b)
unfolding Lies
nested a b x u y low le ex eu h i j k = between a (omega (arith, le, low)) x u (u + 2 ^ b) y ex (less_aligned a b u le eu) (less_aligned a b (u + 2 ^ b) le (next_aligned b u eu)) h i j k

-- a block that is no lower half is the upper one
pub upper_half : (u k : ℕ) → k < 4 → u % 2 ^ k ≡ 0 → (u % (2 * (1 * 2 ^ k % 4294967296)) ≡ 0 → ⊥) → AreTwoHalves u (u - 1 * 2 ^ k % 4294967296) k
upper_half u zero lt at h = inr (omega (arith, h), omega (arith, h))
upper_half u (suc zero) lt at h = inr (omega (arith, at, h), omega (arith, at, h))
upper_half u (suc (suc zero)) lt at h = inr (omega (arith, at, h), omega (arith, at, h))
upper_half u (suc (suc (suc zero))) lt at h = inr (omega (arith, at, h), omega (arith, at, h))
upper_half u (suc (suc (suc (suc k)))) lt at h = absurd (omega (arith, lt))

-- the upper half of a 32-bit block is a 32-bit one
pub upper_fits : (u k : ℕ) → k < 4 → u < 4294967296 → u % (2 * (1 * 2 ^ k % 4294967296)) ≡ 0 → u + 1 * 2 ^ k % 4294967296 < 4294967296
upper_fits u zero lt fits h = omega (arith, fits, h)
upper_fits u (suc zero) lt fits h = omega (arith, fits, h)
upper_fits u (suc (suc zero)) lt fits h = omega (arith, fits, h)
upper_fits u (suc (suc (suc zero))) lt fits h = omega (arith, fits, h)
upper_fits u (suc (suc (suc (suc k)))) lt fits h = absurd (omega (arith, lt))

-- the upper half of a block is no lower one
pub not_both : (v k : ℕ) → k < 4 → v % 2 ^ (k + 1) ≡ 0 → (v + 2 ^ k) % 2 ^ (k + 1) ≡ 0 → ⊥
unfolding Lies
not_both v k lt h g =
    let n = between (k + 1) (omega (arith, lt)) v (v + 2 ^ k) (v + 2 ^ (k + 1)) (v + 2 ^ k) h g (next_aligned (k + 1) v h) (omega arith) (omega (arith, twice k, pow_pos k)) (omega arith) (omega (arith, twice k, pow_pos k)) in
    omega (arith, n, pow_pos k)

-- a block lies in one frame
pub in_frame : (x k y : ℕ) → k ≤ 4 → x % 2 ^ k ≡ 0 → x ≤ y → y < x + 2 ^ k → y / 16 ≡ x / 16
in_frame x k y low e h i =
    let r = nested k 4 x (16 * (x / 16)) x (omega arith) low e (omega arith) (omega arith) (omega (arith, pow_pos k)) (omega arith) (omega arith) in
    omega (arith, r, h, i)
