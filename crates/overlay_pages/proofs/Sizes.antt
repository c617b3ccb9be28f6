use Rattle.overlay_pages.proofs.Common.{◌≡◌, ℕ, ◌+◌, ◌*◌, ◌%◌, ◌^◌, ◌<◌, ◌≤◌, false, List, length, refl, sym, ap, ◌∙◌, arith, cond}
use Rattle.overlay_pages.proofs.Stores.{by_order, AreLines, has_line, with_line, are_with, count_with, capacity_of}
use Rattle.overlay_pages.proofs.Books.{class, class_le}

-- How large a segment is for its lines.

full_class : (order : ℕ) → order ≤ 4 → class (capacity_of order) ≡ 2 ^ order
unfolding class
full_class order low = by_order (λ k. class (capacity_of k) ≡ 2 ^ k) refl refl refl refl refl order low

next_class : (order : ℕ) → order < 4 → class (capacity_of order + 1) ≡ 2 ^ (order + 1)
unfolding class
next_class order low =
    by_order (λ k. k < 4 → class (capacity_of k + 1) ≡ 2 ^ (k + 1)) (λ h. refl) (λ h. refl) (λ h. refl) (λ h. refl) (λ h. absurd (omega (arith, h))) order (omega (arith, low)) low

-- one line more has a place in a segment that isn't full
pub still_fits : (order n : ℕ) → order ≤ 4 → 2 ^ order ≡ class n → n < capacity_of order → 2 ^ order ≡ class (n + 1)
still_fits order n low size fits =
    let up = class_le n (n + 1) (omega arith) in
    let most = class_le (n + 1) (capacity_of order) (omega (arith, fits)) in
    omega (arith, up, most, full_class order low, size)

-- and needs the next size where it is full
pub next_size : (order n : ℕ) → order < 4 → capacity_of order ≡ n → 2 ^ (order + 1) ≡ class (n + 1)
next_size order n low is = sym (next_class order low) ∙ ap (λ k. class (k + 1)) is

pub first_size : 2 ^ 0 ≡ class (0 + 1)
unfolding class
first_size = refl

-- a set that lacks a line isn't whole
pub lacks_one : (bits : List ℕ) (line : ℕ) → AreLines bits → line < 64 → has_line bits line ≡ false → length bits < 64
lacks_one bits line are low absent = omega (arith, with_one, (are_with bits line are low).few)
  where
    with_one : length (with_line bits line) ≡ length bits + 1
    with_one = count_with bits line are low ∙ ap (λ b. length bits + cond b 0 1) absent

-- so a full segment that lacks one can grow
pub can_grow : (order : ℕ) (bits : List ℕ) (line : ℕ) → order ≤ 4 → AreLines bits → line < 64 → has_line bits line ≡ false → capacity_of order ≤ length bits → order < 4
can_grow order bits line low are in_page absent full =
    by_order (λ k. capacity_of k ≤ length bits → k < 4) (λ h. omega arith) (λ h. omega arith) (λ h. omega arith) (λ h. omega arith)
    (λ h. absurd (omega (arith, h, lacks_one bits line are in_page absent))) order low full

-- the next segment has place for one line more
pub next_place : (order n : ℕ) → order < 4 → n ≤ capacity_of order → n < capacity_of (order + 1)
next_place order n low fits =
    by_order (λ k. k < 4 → n ≤ capacity_of k → n < capacity_of (k + 1)) (λ h f. omega (arith, f)) (λ h f. omega (arith, f)) (λ h f. omega (arith, f)) (λ h f. omega (arith, f)) (λ h f. absurd (omega (arith, h))) order (omega (arith, low)) low fits

-- how many units a block below a frame has
pub shifted_count : (order : ℕ) → order < 4 → 1 * 2 ^ order % 4294967296 ≡ 2 ^ order
shifted_count order h = by_order (λ k. 1 * 2 ^ k % 4294967296 ≡ 2 ^ k) refl refl refl refl refl order (omega (arith, h))
