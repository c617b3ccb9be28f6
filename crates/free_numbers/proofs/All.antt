use Rattle.std.proofs.Common.{◌≡◌, ℕ, ◌/◌, ◌%◌, ◌+◌, ◌<◌, ◌≤◌, ◌⊎◌, inl, inr, true, false, List, [], length, replicate, sym, ap, ◌∙◌, arith}
use Rattle.std.proofs.lemmas.Bool.{cases_lt}
use Rattle.std.proofs.lemmas.Bool.Decides.{nat_tests}
use Rattle.std.proofs.lemmas.List.{get_or-replicate, length-replicate}
use Rattle.std.proofs.Math.ListN.{get_or-eq_default}
use Rattle.number_maps.specs.Keys.{by_key}
use Rattle.sizes.specs.declared.TheConstants.{LAST_SPACE}
use Rattle.overlay_bits.specs.Lines.{has_line, lines_between}
use Rattle.overlay_bits.specs.Laws.{has_between}
use Rattle.free_numbers.specs.declared.TheConstants.{MARK_SETS, NUMBER_SETS, SET_NUMBERS}
use Rattle.free_numbers.specs.Numbers.{IsPut, has_member, is_in, is_number, set_at}
use Rattle.free_numbers.specs.Kept.{AreKept}
use Rattle.free_numbers.proofs.Members.{is_in_all, is_in_none}

-- All numbers.

abbrev all : List ℕ
all = lines_between 0 SET_NUMBERS

abbrev all_marks : List ℕ
all_marks = lines_between 0 MARK_SETS

member_all : (count at : ℕ) → at < count → has_member (set_at (replicate count all) at) ≡ true
member_all count at below = ap has_member (get_or-replicate count at all [] below)

member_none : (count at : ℕ) → count ≤ at → has_member (set_at (replicate count all) at) ≡ false
member_none count at beyond = ap has_member (get_or-eq_default (replicate count all) [] {n = at} (omega (arith, beyond, length-replicate count all)))

marked : (at : ℕ) → is_in (replicate MARK_SETS all) at ≡ has_member (set_at (replicate NUMBER_SETS all) at)
marked at = by_order (cases_lt at NUMBER_SETS)
  where
    by_order : (at < NUMBER_SETS) ⊎ (NUMBER_SETS ≤ at) → is_in (replicate MARK_SETS all) at ≡ has_member (set_at (replicate NUMBER_SETS all) at)
    by_order (inl below) = is_in_all MARK_SETS at (omega (arith, below)) ∙ sym (member_all NUMBER_SETS at below)
    by_order (inr beyond) =
        is_in_none (replicate MARK_SETS all) at (omega (arith, beyond, length-replicate MARK_SETS all)) ∙ sym (member_none NUMBER_SETS at beyond)

first_set : (at : ℕ) → at / SET_NUMBERS ≡ 0 → is_in (replicate 1 all_marks) at ≡ has_line all_marks (at % SET_NUMBERS)
first_set at first = ap (λ n. has_line (set_at (replicate 1 all_marks) n) (at % SET_NUMBERS)) first

topped : (at : ℕ) → is_in (replicate 1 all_marks) at ≡ has_member (set_at (replicate MARK_SETS all) at)
topped at = by_order (cases_lt at MARK_SETS) (cases_lt at SET_NUMBERS)
  where
    by_order : (at < MARK_SETS) ⊎ (MARK_SETS ≤ at) → (at < SET_NUMBERS) ⊎ (SET_NUMBERS ≤ at)
        → is_in (replicate 1 all_marks) at ≡ has_member (set_at (replicate MARK_SETS all) at)
    by_order (inl below) small =
        first_set at (omega (arith, below)) ∙ has_between 0 MARK_SETS (at % SET_NUMBERS) (omega arith) ∙ grind (arith, nat_tests)
        ∙ sym (member_all MARK_SETS at below)
    by_order (inr beyond) (inl small) =
        first_set at (omega (arith, small)) ∙ has_between 0 MARK_SETS (at % SET_NUMBERS) (omega arith) ∙ grind (arith, nat_tests)
        ∙ sym (member_none MARK_SETS at beyond)
    by_order (inr beyond) (inr large) =
        is_in_none (replicate 1 all_marks) at (omega (arith, large)) ∙ sym (member_none MARK_SETS at beyond)

pub all_kept : (sets marks top : List (List ℕ)) → sets ≡ replicate NUMBER_SETS all → marks ≡ replicate MARK_SETS all → top ≡ replicate 1 all_marks
    → AreKept sets marks top
all_kept sets marks top is are one = record {
  sets_count = ap length is ∙ length-replicate NUMBER_SETS all;
  marks_count = ap length are ∙ length-replicate MARK_SETS all;
  top_count = ap length one;
  marked = λ at. ap (λ s. is_in s at) are ∙ marked at ∙ ap (λ s. has_member (set_at s at)) (sym is);
  topped = λ at. ap (λ s. is_in s at) one ∙ topped at ∙ ap (λ s. has_member (set_at s at)) (sym are);
}

-- without 0
pub all_numbers : (sets new : List (List ℕ)) → sets ≡ replicate NUMBER_SETS all → IsPut sets 0 false new → (k : ℕ) → is_in new k ≡ is_number k
all_numbers sets new is put k = by_key k 0
    (λ same. ap (is_in new) same ∙ put.here ∙ ap is_number (sym same))
    (λ other. put.others k other ∙ ap (λ s. is_in s k) is ∙ by_order (cases_lt k (LAST_SPACE + 1)) (cases_lt k 1) other)
  where
    by_order : (k < LAST_SPACE + 1) ⊎ (LAST_SPACE + 1 ≤ k) → (k < 1) ⊎ (1 ≤ k) → (k ≡ 0 → ⊥) → is_in (replicate NUMBER_SETS all) k ≡ is_number k
    by_order below (inl first) other = absurd (other (omega (arith, first)))
    by_order (inl below) (inr above) other = is_in_all NUMBER_SETS k (omega (arith, below)) ∙ grind (arith, nat_tests, below, above)
    by_order (inr beyond) (inr above) other =
        is_in_none (replicate NUMBER_SETS all) k (omega (arith, beyond, length-replicate NUMBER_SETS all)) ∙ grind (arith, nat_tests, beyond)
