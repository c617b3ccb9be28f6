use Rattle.std.proofs.Common.{◌≡◌, ℕ, zero, suc, ◌+◌, ◌*◌, ◌/◌, ◌%◌, ◌<◌, ◌==◌, Bool, true, false, cond, List, [], ◌∷◌, ◌++◌, map, ap, sym, ◌∙◌, refl, arith, codes, Some, None, subst}
use Rattle.std.specs.Prelude.{Option, ℤ, pos, negsuc, neg_ℤ}
use Rattle.std.specs.List.{fold, list_all, AllByRecursion}
use Rattle.std.specs.Option.{option_map}
use Rattle.std.specs.Int.Digits.{digits_of, number_from_digits_after}
use Rattle.std.proofs.lemmas.Int.Digits.{digits_of_step, all_below_base_digits_of, number_digits_of}
use Rattle.std.proofs.lemmas.Bool.{and_parts, and_from, eqb-true, agree_below, agree_below_at}
use Rattle.std.proofs.lemmas.Bool.Decides.{nat_tests}
use Rattle.report_text.specs.Digits.{in_decimal, signed_text}
use Rattle.report_text.specs.Instructions.{register_text}
use Rattle.script_text.specs.Words.{has_bytes}
use Rattle.script_text.specs.Numbers.{is_decimal, digit, number_value}
use Rattle.asm_lines.specs.Words.{is_inner, is_word}
use Rattle.asm_lines.specs.Kinds.{natural, register_word, signed_word}

-- Numbers as they are printed are read back.

digits_are : (ds : List ℕ) → AllByRecursion (λ d. d < 10) ds → list_all is_decimal (map (λ d. 48 + d) ds) ≡ true
digits_are [] h = refl
digits_are (d ∷ ds) h = and_from (is_decimal (48 + d)) (list_all is_decimal (map (λ d. 48 + d) ds)) (digit d h.0) (digits_are ds h.1)
  where
    digit : (d : ℕ) → d < 10 → is_decimal (48 + d) ≡ true
    digit d small = grind (arith, nat_tests)

value_on : (m : ℕ) (ds : List ℕ) → AllByRecursion (λ d. d < 10) ds → fold (λ n b. 10 * n + digit b) m (map (λ d. 48 + d) ds) ≡ number_from_digits_after 10 m ds
value_on m [] h = refl
value_on m (d ∷ ds) h =
    let one = stands d h.0 in
    let same : 10 * m + digit (48 + d) ≡ m * 10 + d = omega (arith, one) in
    ap (λ n. fold (λ n b. 10 * n + digit b) n (map (λ d. 48 + d) ds)) same ∙ value_on (m * 10 + d) ds h.1
  where
    stands : (d : ℕ) → d < 10 → digit (48 + d) ≡ d
    stands d small = grind (arith, nat_tests)

some_digits : (ds : List ℕ) (d : ℕ) → has_bytes (map (λ d. 48 + d) (ds ++ d ∷ [])) ≡ true
some_digits [] d = refl
some_digits (e ∷ ds) d = refl

has_digits : (n : ℕ) → 0 < n → has_bytes (map (λ d. 48 + d) (digits_of 10 n)) ≡ true
has_digits n some = ap (λ ds. has_bytes (map (λ d. 48 + d) ds)) (digits_of_step 10 n (omega arith) some) ∙ some_digits (digits_of 10 (n / 10)) (n % 10)

-- digits, at least one, with their value
pub record IsNatural (bytes : List ℕ) (n : ℕ) : Type 0 where
  pub has : has_bytes bytes ≡ true
  pub digits : list_all is_decimal bytes ≡ true
  pub value : number_value 10 bytes ≡ n

pub decimal_natural : (n : ℕ) → IsNatural (in_decimal n) n
unfolding in_decimal
decimal_natural zero = record { has = refl; digits = refl; value = refl }
decimal_natural (suc n) =
    let some : (suc n == 0) ≡ false = grind (arith, nat_tests) in
    subst (λ bs. IsNatural bs (suc n)) (sym (ap (λ (t : Bool). cond t (codes "0") (map (λ d. 48 + d) (digits_of 10 (suc n)))) some))
    (record {
      has = has_digits (suc n) (omega arith);
      digits = digits_are (digits_of 10 (suc n)) (all_below_base_digits_of 10 (suc n) (omega arith));
      value = value_on 0 (digits_of 10 (suc n)) (all_below_base_digits_of 10 (suc n) (omega arith)) ∙ number_digits_of 10 (suc n) (omega arith);
    })

pub natural_is : (bytes : List ℕ) (n : ℕ) → IsNatural bytes n → natural bytes ≡ Some n
natural_is bytes n is =
    ap (λ (t : Bool). cond t (Some (number_value 10 bytes)) None) (and_from (has_bytes bytes) (list_all is_decimal bytes) is.has is.digits) ∙ ap Some is.value

-- digits are a word
inner_digit : (b : ℕ) → is_decimal b ≡ true → is_inner b ≡ true
inner_digit b h = grind (arith, nat_tests)

pub inner_digits : (bs : List ℕ) → list_all is_decimal bs ≡ true → list_all is_inner bs ≡ true
inner_digits [] h = refl
inner_digits (b ∷ bs) h =
    let parts = and_parts (is_decimal b) (list_all is_decimal bs) h in
    and_from (is_inner b) (list_all is_inner bs) (inner_digit b parts.0) (inner_digits bs parts.1)

pub decimal_is_word : (n : ℕ) → is_word (in_decimal n) ≡ true
decimal_is_word n =
    let is = decimal_natural n in
    and_from (has_bytes (in_decimal n)) (list_all is_inner (in_decimal n)) is.has (inner_digits (in_decimal n) is.digits)

-- a register
pub register_is_word : (n : ℕ) → is_word (register_text n) ≡ true
register_is_word n = inner_digits (in_decimal n) (decimal_natural n).digits

same_number : Option ℕ → ℕ → Bool
same_number None n = false
same_number (Some m) n = m == n

same_is : (o : Option ℕ) (n : ℕ) → same_number o n ≡ true → o ≡ Some n
unfolding same_number
same_is None n h = cc
same_is (Some m) n h = ap Some (eqb-true m n h)

-- each of the 32
each_register : agree_below (λ n. same_number (register_word (register_text n)) n) (λ n. true) 32 ≡ true
unfolding same_number register_word in_decimal
each_register = refl

pub register_read : (n : ℕ) → n < 32 → register_word (register_text n) ≡ Some n
register_read n small =
    same_is (register_word (register_text n)) n (agree_below_at (λ n. same_number (register_word (register_text n)) n) (λ n. true) 32 n each_register small)

-- a number with its sign
unsigned_read : (bytes : List ℕ) (n : ℕ) → IsNatural bytes n → signed_word bytes ≡ Some (pos n)
unfolding signed_word
unsigned_read [] n is = let has : false ≡ true = is.has in cc
unsigned_read (b ∷ bs) n is =
    let first = (and_parts (is_decimal b) (list_all is_decimal bs) is.digits).0 in
    ap (λ (t : Bool). cond t (option_map (λ n. neg_ℤ (pos n)) (natural bs)) (option_map pos (natural (b ∷ bs)))) (no_minus b first)
    ∙ ap (option_map pos) (natural_is (b ∷ bs) n is)
  where
    no_minus : (b : ℕ) → is_decimal b ≡ true → (b == 45) ≡ false
    no_minus b h = grind (arith, nat_tests)

pub signed_read : (z : ℤ) → signed_word (signed_text z) ≡ Some z
unfolding signed_word
signed_read (pos n) = unsigned_read (in_decimal n) n (decimal_natural n)
signed_read (negsuc n) =
    let next : n + 1 ≡ suc n = omega arith in
    ap (option_map (λ n. neg_ℤ (pos n))) (natural_is (in_decimal (n + 1)) (n + 1) (decimal_natural (n + 1)))
    ∙ ap (λ m. Some (neg_ℤ (pos m))) next

pub signed_is_word : (z : ℤ) → is_word (signed_text z) ≡ true
signed_is_word (pos n) = decimal_is_word n
signed_is_word (negsuc n) = inner_digits (in_decimal (n + 1)) (decimal_natural (n + 1)).digits
