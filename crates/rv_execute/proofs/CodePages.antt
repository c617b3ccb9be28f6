use Rattle.std.proofs.Common.{◌≡◌, ℕ, zero, suc, ◌+◌, ◌/◌, ◌%◌, ◌<◌, ◌≤◌, Bool, true, false, cond, List, ◌∷◌, length, take, drop, get_or, sym, ap, ◌∙◌, refl, arith, Some, None, slice_index}
use Rattle.std.proofs.Math.Seq.{drop-cons}
use Rattle.std.specs.Option.{option_map_or}
use Rattle.std.specs.Ordering.{nat_cmp, is_eq}
use Rattle.std.specs.declared.cmp.Ordering.{Ordering}
use Rattle.std.specs.declared.cmp.Ordering.TheVariants.{Less, Equal, Greater}
use Rattle.std.specs.Cmp.{nat_cmp_total, nat_cmp_is}
use Rattle.std.specs.FinMap.{get, insert, empty, get-empty, get-insert, nat_cmp-IsAntisymmetric}
use Rattle.ovl_io.specs.Permissions.{permits, readable}
use Rattle.rv_execute.specs.Calls.{is_count}
use Rattle.ovl_io.specs.Memory.{Memory, Page, byte_at, bytes_at, allows, first_denied}

-- A memory of one page, number 16, that may be executed and written to, as the tests have it: which accesses fail, and
-- the bytes at an address.

abbrev pub code_page : List ℕ → Page
code_page bytes = record { perms = 3; bytes = bytes }

abbrev pub code_memory : List ℕ → Memory
code_memory bytes = insert empty 16 (code_page bytes)

-- whether a page is that one
abbrev is_code : ℕ → Bool
is_code q = is_eq (nat_cmp q 16)

equal : (o : Ordering) → is_eq o ≡ true → o ≡ Equal
equal Less h = cc
equal Equal h = refl
equal Greater h = cc

code_is : (q : ℕ) → is_code q ≡ true → q ≡ 16
code_is q h = nat_cmp-IsAntisymmetric q 16 (equal (nat_cmp q 16) h)

is_code_at : (q : ℕ) → q ≡ 16 → is_code q ≡ true
is_code_at q same = ap is_eq (sym (nat_cmp_is q 16 Equal same))

is_not_code_at : (q : ℕ) → (q ≡ 16 → ⊥) → is_code q ≡ false
is_not_code_at q other = by_test (is_code q) refl
  where
    by_test : (b : Bool) → is_code q ≡ b → b ≡ false
    by_test true h = absurd (other (code_is q h))
    by_test false h = refl

get_by : (bytes : List ℕ) (q : ℕ) → get (code_memory bytes) q ≡ cond (is_code q) (Some (code_page bytes)) None
get_by bytes q = get-insert nat_cmp_total empty 16 (code_page bytes) q ∙ ap (cond (is_code q) (Some (code_page bytes))) (get-empty nat_cmp q)

allowed : (bytes : List ℕ) (need : ℕ) (b : Bool) → option_map_or (λ (p : Page). permits p.perms need) (cond b (Some (code_page bytes)) None) false ≡ cond b (permits 3 need) false
allowed bytes need true = refl
allowed bytes need false = refl

allows_by : (bytes : List ℕ) (need address : ℕ) → allows (code_memory bytes) need address ≡ cond (is_code (address / 4096)) (permits 3 need) false
allows_by bytes need address =
    ap (λ found. option_map_or (λ (p : Page). permits p.perms need) found false) (get_by bytes (address / 4096)) ∙ allowed bytes need (is_code (address / 4096))

pub allows_inside : (bytes : List ℕ) (need address : ℕ) → address / 4096 ≡ 16 → allows (code_memory bytes) need address ≡ permits 3 need
allows_inside bytes need address here =
    allows_by bytes need address ∙ ap (λ (b : Bool). cond b (permits 3 need) false) (is_code_at (address / 4096) here)

pub allows_outside : (bytes : List ℕ) (need address : ℕ) → (address / 4096 ≡ 16 → ⊥) → allows (code_memory bytes) need address ≡ false
allows_outside bytes need address other =
    allows_by bytes need address ∙ ap (λ (b : Bool). cond b (permits 3 need) false) (is_not_code_at (address / 4096) other)

never : (b : Bool) → cond b false false ≡ false
never true = refl
never false = refl

pub allows_no_load : (bytes : List ℕ) (address : ℕ) → allows (code_memory bytes) readable address ≡ false
allows_no_load bytes address = allows_by bytes readable address ∙ never (is_code (address / 4096))

-- a load or a store has some bytes
pub is_some : (n : ℕ) → is_count n ≡ true → 0 < n
is_some zero h = cc
is_some (suc n) h = omega arith

-- where an access fails
pub denied_first : (bytes : List ℕ) (need address n : ℕ) → allows (code_memory bytes) need address ≡ false → 0 < n
    → first_denied (code_memory bytes) need address n ≡ Some address
denied_first bytes need address zero mayn some = absurd (omega arith)
denied_first bytes need address (suc n) mayn some =
    ap (λ (b : Bool). cond b (first_denied (code_memory bytes) need (address + 1) n) (Some address)) mayn

denied_next : (bytes : List ℕ) (need address n : ℕ) → permits 3 need ≡ true → 65536 ≤ address → address < 69632
    → first_denied (code_memory bytes) need address (suc n) ≡ first_denied (code_memory bytes) need (address + 1) n
denied_next bytes need address n may low high =
    let here : address / 4096 ≡ 16 = omega arith in
    ap (λ (b : Bool). cond b (first_denied (code_memory bytes) need (address + 1) n) (Some address)) (allows_inside bytes need address here ∙ may)

pub denied_inside : (bytes : List ℕ) (need address n : ℕ) → permits 3 need ≡ true → 65536 ≤ address → address + n ≤ 69632
    → first_denied (code_memory bytes) need address n ≡ None
denied_inside bytes need address zero may low high = refl
denied_inside bytes need address (suc n) may low high =
    denied_next bytes need address n may low (omega arith) ∙ denied_inside bytes need (address + 1) n may (omega arith) (omega arith)

-- a step of an access that goes over the page's end
denied_over : (bytes : List ℕ) (need address n : ℕ) → permits 3 need ≡ true → 65536 ≤ address → address ≤ 69632
    → (address < 69632 → first_denied (code_memory bytes) need (address + 1) n ≡ Some 69632)
    → first_denied (code_memory bytes) need address (suc n) ≡ Some 69632
denied_over bytes need address n may low high more = by_test (is_code (address / 4096)) refl
  where
    by_test : (b : Bool) → is_code (address / 4096) ≡ b → first_denied (code_memory bytes) need address (suc n) ≡ Some 69632
    by_test true h =
        let here = code_is (address / 4096) h in
        let before : address < 69632 = omega (arith, here) in
        denied_next bytes need address n may low before ∙ more before
    by_test false h =
        let other : address / 4096 ≡ 16 → ⊥ = λ e. let tie = is_code_at (address / 4096) e in let none = sym tie ∙ h in cc in
        let end : address ≡ 69632 = omega (arith, other) in
        denied_first bytes need address (suc n) (allows_outside bytes need address other) (omega arith) ∙ ap Some end

pub denied_beyond : (bytes : List ℕ) (need address n : ℕ) → permits 3 need ≡ true → 65536 ≤ address → address ≤ 69632 → 69632 < address + n
    → first_denied (code_memory bytes) need address n ≡ Some 69632
denied_beyond bytes need address zero may low high over = absurd (omega arith)
denied_beyond bytes need address (suc n) may low high over =
    denied_over bytes need address n may low high (λ before. denied_beyond bytes need (address + 1) n may (omega arith) (omega arith) (omega arith))

-- the bytes at an address of the page
byte_inside : (bytes : List ℕ) (address : ℕ) → address / 4096 ≡ 16 → byte_at (code_memory bytes) address ≡ slice_index bytes (address % 4096)
byte_inside bytes address here =
    ap (λ found. option_map_or (λ (p : Page). slice_index p.bytes (address % 4096)) found 0)
    (get_by bytes (address / 4096) ∙ ap (λ (b : Bool). cond b (Some (code_page bytes)) None) (is_code_at (address / 4096) here))

pub bytes_inside : (bytes : List ℕ) (address at n : ℕ) → length bytes ≡ 4096 → address ≡ 65536 + at → at + n ≤ 4096
    → bytes_at (code_memory bytes) address n ≡ take n (drop at bytes)
bytes_inside bytes address at zero whole is fits = refl
bytes_inside bytes address at (suc n) whole is fits =
    let here : address / 4096 ≡ 16 = omega arith in
    let place : address % 4096 ≡ at = omega arith in
    let next : address + 1 ≡ 65536 + suc at = omega arith in
    ap (λ b. b ∷ bytes_at (code_memory bytes) (address + 1) n) (byte_inside bytes address here ∙ ap (slice_index bytes) place)
    ∙ ap (λ bs. get_or bytes at 0 ∷ bs) (bytes_inside bytes (address + 1) (suc at) n whole next (omega arith))
    ∙ sym (ap (take (suc n)) (drop-cons bytes at 0 (omega arith)))
