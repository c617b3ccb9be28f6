use Rattle.std.proofs.Common.{◌≡◌, ℕ, ◌+◌, ◌-◌, ◌*◌, ◌/◌, ◌%◌, ◌<◌, ◌≤◌, inl, inr, bit_and, sym, ap, ◌∙◌, arith}
use Rattle.std.specs.Prelude.{◌⊎◌}
use Rattle.std.specs.Int.{IsPowerOfTwo}
use Rattle.std.proofs.lemmas.Nat.{and_mask}
use Rattle.std.proofs.Math.Nat.{add-mod_right, add-mul-mod_self_left, div-add-mod, mod-add-mod, mod-eq_of_lt, mod-lt}
use Rattle.std.proofs.lemmas.Bool.{cases_lt}
use Rattle.overlay_mapping_table.specs.Homes.{IsWay}

-- Places that are equal but for whole rounds of n, and ways to them.

-- as many steps on
pub same_plus : (n a b c : ℕ) → a % n ≡ b % n → (a + c) % n ≡ (b + c) % n
same_plus n a b c same = sym (mod-add-mod a n c) ∙ ap (λ r. (r + c) % n) same ∙ mod-add-mod b n c

-- and as many back
pub same_minus : (n a b c : ℕ) → 0 < n → (a + c) % n ≡ (b + c) % n → a % n ≡ b % n
same_minus n a b c some same = round a ∙ same_plus n (a + c) (b + c) (n - c % n) same ∙ sym (round b)
  where
    round : (x : ℕ) → x % n ≡ (x + c + (n - c % n)) % n
    round x =
        let parts : n * (c / n) + c % n ≡ c = div-add-mod c n in
        let less : c % n < n = mod-lt c some in
        let whole : x + c + (n - c % n) ≡ x + n * (c / n) + n = omega (arith, parts, less) in
        sym (ap (λ y. y % n) whole ∙ add-mod_right (x + n * (c / n)) n ∙ add-mul-mod_self_left x n (c / n))

-- a place is another one in the same round only if it is that one
pub same_near : (n a b : ℕ) → a % n ≡ b % n → a ≤ b → b < a + n → a ≡ b
same_near n a b same le near = by (cases_lt (a % n + (b - a)) n)
  where
    there : (a % n + (b - a)) % n ≡ a % n
    there = let back : a + (b - a) ≡ b = omega arith in mod-add-mod a n (b - a) ∙ ap (λ x. x % n) back ∙ sym same

    below : a % n < n
    below = mod-lt a (omega arith)

    by : (a % n + (b - a) < n) ⊎ (n ≤ a % n + (b - a)) → a ≡ b
    by (inl less) = let is = mod-eq_of_lt less in omega (arith, is, there)
    by (inr more) =
        let split : (a % n + (b - a) - n) + n ≡ a % n + (b - a) = omega arith in
        let less : a % n + (b - a) - n < n = omega (arith, below) in
        let is = sym (ap (λ x. x % n) split) ∙ add-mod_right (a % n + (b - a) - n) n ∙ mod-eq_of_lt less in
        omega (arith, is, there, below)

-- the low bits of a place, where n is a power of two
pub masked : (n place : ℕ) → IsPowerOfTwo n → bit_and place (n - 1) ≡ place % n
masked n place power =
    ap (λ x. bit_and place (x - 1)) power.1 ∙ and_mask place power.0 ∙ ap (λ x. place % x) (sym power.1)

-- the way that is counted from the home
pub way_from : (n k m place : ℕ) → 0 < n → k % n + m ≡ place → IsWay n k (m % n) place
way_from n k m place some is =
    record {
      same =
          (let swap : k + m % n ≡ m % n + k = omega arith in ap (λ x. x % n) swap)
          ∙ mod-add-mod m n k
          ∙ (let swap : m + k ≡ k + m = omega arith in ap (λ x. x % n) swap)
          ∙ sym (mod-add-mod k n m)
          ∙ ap (λ x. x % n) is;
      near = mod-lt m some;
    }

-- places that are one slot have one way
pub way_at : (n k w p q : ℕ) → p % n ≡ q % n → IsWay n k w p → IsWay n k w q
way_at n k w p q same way = record { same = way.same ∙ same; near = way.near }

-- each place has a way
pub way_there : (n k place : ℕ) → 0 < n → IsWay n k ((place + n - k % n) % n) place
way_there n k place some =
    let less : k % n < n = mod-lt k some in
    way_at n k ((place + n - k % n) % n) (place + n) place (add-mod_right place n)
    (way_from n k (place + n - k % n) (place + n) some (omega (arith, less)))

-- and one alone
pub way_once : (n k w v p q : ℕ) → IsWay n k w p → IsWay n k v q → p % n ≡ q % n → w ≡ v
way_once n k w v p q one other same =
    let some : 0 < n = omega (arith, one.near) in
    let left : w + k ≡ k + w = omega arith in
    let right : v + k ≡ k + v = omega arith in
    sym (mod-eq_of_lt one.near)
    ∙ same_minus n w v k some (ap (λ x. x % n) left ∙ one.same ∙ same ∙ sym other.same ∙ ap (λ x. x % n) (sym right))
    ∙ mod-eq_of_lt other.near

-- the next place is a step more, and the one before a step less
pub way_next : (n k w p : ℕ) → IsWay n k w p → w + 1 < n → IsWay n k (w + 1) (p + 1)
way_next n k w p way less =
    record {
      same = (let step : k + (w + 1) ≡ k + w + 1 = omega arith in ap (λ x. x % n) step) ∙ same_plus n (k + w) p 1 way.same;
      near = less;
    }

pub way_back : (n k w p : ℕ) → IsWay n k (w + 1) (p + 1) → IsWay n k w p
way_back n k w p way =
    record {
      same =
          same_minus n (k + w) p 1 (omega (arith, way.near))
          ((let step : k + w + 1 ≡ k + (w + 1) = omega arith in ap (λ x. x % n) step) ∙ way.same);
      near = omega (arith, way.near);
    }

-- each slot has a place in the round that begins at another one
pub record Placed (n start at : ℕ) : Type 0 where
  pub place : ℕ
  pub low : start ≤ place
  pub near : place < start + n
  pub same : place % n ≡ at % n

pub placed : (n start at : ℕ) → 0 < n → Placed n start at
placed n start at some =
    let way = way_there n start at some in
    record { place = start + (at + n - start % n) % n; low = omega arith; near = omega (arith, way.near); same = way.same }
