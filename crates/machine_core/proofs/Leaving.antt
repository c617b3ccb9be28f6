use Rattle.std.proofs.Common.{◌≡◌, ℕ, ◌+◌, ◌-◌, ◌/◌, ◌%◌, ◌<◌, ◌≤◌, ◌==◌, ◌&&◌, inl, inr, Bool, true, false, cond, not, nat_le, List, length, sym, ap, subst, ◌∙◌, refl, arith}
use Rattle.std.specs.Prelude.{Result, Ok, Err}
use Rattle.std.proofs.lemmas.Bool.Decides.{nat_tests}
use Rattle.sizes.specs.declared.TheConstants.{PAGE_BYTES}
use Rattle.ovl_io.specs.Memory.{with_bytes}
use Rattle.rv_execute.specs.declared.memory.Refused.{Refused}
use Rattle.rv_execute.specs.declared.memory.Refused.TheVariants as refused
use Rattle.overlay_memory.specs.Code.{IsCodeLine}
use Rattle.overlay_pages.specs.State.{memory_of}
use Rattle.translation_cache.specs.CountedLaws.{IsFront, front_hits}
use Rattle.translation_cache.specs.Translations.{with_hits}
use Rattle.translation_cache.specs.declared.TheConstants.{SETS}
use Rattle.machine_core.specs.Access.{Leaves, lists_after, lists_lent, spaces_lent}
use Rattle.machine_core.specs.InHand.{IsLineHeld, StaysInHand, is_apart, lost, page_in, parted, without_page}
use Rattle.machine_core.specs.declared.view.View.{View}
use Rattle.machine_core.proofs.Holding.{IsApart, code_beside, code_kept, code_off, code_same}
use Rattle.machine_core.proofs.Staying.{held_over}

-- What an access leaves in hand.

apart_of : (address page start : ℕ) → is_apart address page ≡ true → start / PAGE_BYTES ≡ page → IsApart address start
apart_of address page start test same_page = by_tests (address / PAGE_BYTES % SETS == page % SETS) (nat_le (address % PAGE_BYTES) (PAGE_BYTES - 8)) refl refl test
  where
    by_tests : (b c : Bool) → (address / PAGE_BYTES % SETS == page % SETS) ≡ b → nat_le (address % PAGE_BYTES) (PAGE_BYTES - 8) ≡ c
        → (not b && c) ≡ true → IsApart address start
    by_tests true c e f h = cc
    by_tests false false e f h = cc
    by_tests false true e f h = record {
      sets = λ same.
          let both : address / PAGE_BYTES % SETS ≡ page % SETS = same ∙ ap (λ n. n % SETS) same_page in
          grind (arith, nat_tests);
      one_page = grind (arith, nat_tests);
    }

-- One that looks its page up.
module _ (old new : View) (address count need : ℕ) (some : 0 < count) (few : count ≤ 8) (hand : new.hand ≡ parted address old.hand) (space : new.space ≡ old.space)
    (lists : lists_lent new ≡ lists_after old (record { need = need; address = address; length = count })) where
  by_lines : ((start : ℕ) (line : List ℕ) → IsApart address start → IsCodeLine old.memory.now old.space start line → IsCodeLine new.memory.now old.space start line)
      → StaysInHand old new
  by_lines goes = by_test (is_apart address (page_in old.hand)) refl
    where
      by_test : (b : Bool) → is_apart address (page_in old.hand) ≡ b → StaysInHand old new
      by_test false test = inr (hand ∙ ap (λ b. cond b old.hand (lost old.hand)) test)
      by_test true test = inl (
        hand ∙ ap (λ b. cond b old.hand (lost old.hand)) test,
        λ lines start held page.
            subst (λ p. IsLineHeld lines new.memory.now p start) (sym space)
            (held_over lines old.memory.now new.memory.now old.space old.space start held (goes start _ (apart_of address (page_in old.hand) start test page))),
      )

  pub parted_same : spaces_lent new ≡ spaces_lent old → StaysInHand old new
  parted_same same = by_lines (λ start line apart code. code_kept old.memory.now new.memory.now old.space start address need count line apart some few lists code same)

  pub parted_stored : (bytes : List ℕ) (answer : Result (Unit {0}) Refused) → length bytes ≡ count → Leaves old.space (spaces_lent old) address bytes answer (spaces_lent new)
      → StaysInHand old new
  parted_stored bytes (Ok done) long (allowed, stored, fits) =
      by_lines (λ start line apart code. code_beside old.memory.now new.memory.now old.space start address need count line apart some few lists code bytes long stored.memory)
  parted_stored bytes (Err (refused.At at)) long (denied, same) = parted_same same
  parted_stored bytes (Err (refused.Full needed limit)) long (allowed, needed_is, limit_is, over, same) = parted_same same

-- One to a page at the front of its list.
module _ (old new : View) (space : new.space ≡ old.space) (hits : lists_lent new ≡ with_hits 1 (lists_lent old)) where
  front_hit : (start : ℕ) → IsFront old.space (start / PAGE_BYTES) (lists_lent old) → IsFront old.space (start / PAGE_BYTES) (lists_lent new)
  front_hit start front = subst (IsFront old.space (start / PAGE_BYTES)) (sym hits) (front_hits old.space (start / PAGE_BYTES) 1 (lists_lent old) front)

  pub hit_same : new.hand ≡ old.hand → spaces_lent new ≡ spaces_lent old → StaysInHand old new
  hit_same hand same = inl (
    hand,
    λ lines start held page.
        subst (λ p. IsLineHeld lines new.memory.now p start) (sym space)
        (held_over lines old.memory.now new.memory.now old.space old.space start held (λ code.
        code_same old.memory.now new.memory.now old.space start _ (front_hit start code.front) code same)),
  )

  pub hit_stored : (address : ℕ) (bytes : List ℕ) → new.hand ≡ without_page (address / PAGE_BYTES) old.hand → address % PAGE_BYTES + length bytes ≤ PAGE_BYTES
      → memory_of (spaces_lent new) old.space ≡ with_bytes (memory_of (spaces_lent old) old.space) address bytes → StaysInHand old new
  hit_stored address bytes hand fits memory = by_test (address / PAGE_BYTES == page_in old.hand) refl
    where
      by_test : (b : Bool) → (address / PAGE_BYTES == page_in old.hand) ≡ b → StaysInHand old new
      by_test true test = inr (hand ∙ ap (λ b. cond b (lost old.hand) old.hand) test)
      by_test false test = inl (
        hand ∙ ap (λ b. cond b (lost old.hand) old.hand) test,
        λ lines start held page.
            subst (λ p. IsLineHeld lines new.memory.now p start) (sym space)
            (held_over lines old.memory.now new.memory.now old.space old.space start held (λ code.
            code_off old.memory.now new.memory.now old.space start _ (front_hit start code.front) code address bytes
            (λ same. let both : address / PAGE_BYTES ≡ page_in old.hand = same ∙ page in grind (arith, nat_tests)) fits memory)),
      )
