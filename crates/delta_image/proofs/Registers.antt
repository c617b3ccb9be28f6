use Rattle.std.proofs.Common.{◌≡◌, ℕ, zero, suc, ◌+◌, ◌<◌, ◌≤◌, false, cond, eqb, List, [], ◌∷◌, ◌++◌, length, take, drop, replicate, refl, sym, ap, subst, ◌∙◌, arith, append_assoc}
use Rattle.std.specs.Prelude.{slice_index, slice_set}
use Rattle.std.specs.Int.{w64, to_le_bytes}
use Rattle.std.specs.List.{AllByRecursion}
use Rattle.std.proofs.lemmas.Bool.{ne_eqb}
use Rattle.std.proofs.lemmas.List.{flat_map_more, get_or-set_other, length-drop, length-set, length-take-le, take_all, take_more_set}
use Rattle.rv_execute.specs.Registers.{Registers, first_registers, with_pc, with_register}
use Rattle.delta_image.specs.Image.{register_numbers, registers_part, words_part}
use Rattle.delta_image.specs.Fine.{AreRegisters, IsWord}
use Rattle.delta_image.specs.LengthLaws.{many_numbers}
use Rattle.delta_image.proofs.Lists.{all_set, rest_push, rest_set}
use Rattle.delta_image.proofs.Numbers.{one_words, word_behind}

-- The registers of an image.

-- all but x0, as a slice has it
rest_is : (x : List ℕ) → length x ≡ 32 → take 31 (drop 1 x) ≡ drop 1 x
rest_is x count = take_all 31 (drop 1 x) (omega (arith, length-drop 1 x, count))

pub are_registers : (regs : Registers) (x : List ℕ) → x ≡ regs.x → length x ≡ 32 → slice_index x 0 ≡ 0 → IsWord regs.pc
    → AllByRecursion IsWord (take 31 (drop 1 x)) → AreRegisters regs
are_registers regs x same count none pc rest =
    record {
      count = sym (ap length same) ∙ count;
      zero = sym (ap (λ ys. slice_index ys 0) same) ∙ none;
      words = (pc, subst (λ ys. AllByRecursion IsWord (drop 1 ys)) same (subst (AllByRecursion IsWord) (rest_is x count) rest));
    }

pub registers_put : (regs : Registers) (x out one two : List ℕ) → x ≡ regs.x → length x ≡ 32 → one ≡ out ++ to_le_bytes w64 regs.pc
    → two ≡ one ++ words_part (take 31 (drop 1 x)) → two ≡ out ++ registers_part regs
registers_put regs x out one two same count first second =
    second ∙ (λ i. first i ++ words_part ((rest_is x count ∙ ap (drop 1) same) i)) ∙ append_assoc out (to_le_bytes w64 regs.pc) (words_part (drop 1 regs.x))

-- registers with the same numbers are equal
first : (x : List ℕ) → length x ≡ 32 → slice_index x 0 ≡ 0 → x ≡ 0 ∷ drop 1 x
first [] count none = absurd (omega (arith, count))
first (y ∷ ys) count none = λ i. none i ∷ ys

pub same_registers : (a b : Registers) → AreRegisters a → AreRegisters b → register_numbers a ≡ register_numbers b → a ≡ b
same_registers a b one other same =
    let pcs : a.pc ≡ b.pc = cc in
    let rests : drop 1 a.x ≡ drop 1 b.x = cc in
    let whole : a.x ≡ b.x = first a.x one.count one.zero ∙ ap (λ (ys : List ℕ). 0 ∷ ys) rests ∙ sym (first b.x other.count other.zero) in
    λ i. record { pc = pcs i; x = whole i }

-- one part is of one list of registers
pub one_registers : (a b : Registers) (r s : List ℕ) → AreRegisters a → AreRegisters b → registers_part a ++ r ≡ registers_part b ++ s → (a ≡ b) × (r ≡ s)
one_registers a b r s one other e =
    let words = one_words (register_numbers a) (register_numbers b) r s one.words other.words (many_numbers a one.count ∙ sym (many_numbers b other.count)) e in
    (same_registers a b one other words.0, words.1)

-- none is set yet
zeros : (n : ℕ) → AllByRecursion IsWord (replicate n 0)
zeros zero = tt
zeros (suc n) = (omega arith, zeros n)

pub are_first : AreRegisters (first_registers 0 0)
unfolding first_registers
are_first = record { count = refl; zero = refl; words = (omega arith, zeros 31) }

-- the pc is set
pub pc_set : (regs : Registers) (pc : ℕ) → AreRegisters regs → IsWord pc → AreRegisters (with_pc regs pc)
pc_set regs pc are fits = record { count = are.count; zero = are.zero; words = (fits, are.words.1) }

-- a register is set
set_is : (regs : Registers) (k n : ℕ) → with_register regs (suc k) n ≡ record { pc = regs.pc; x = slice_set regs.x (suc k) n }
set_is regs k n =
    let no : eqb (suc k) 0 ≡ false = ne_eqb (suc k) 0 (λ e. omega (arith, e)) in
    λ j. record { pc = regs.pc; x = cond (no j) regs.x (slice_set regs.x (suc k) n) }

-- what was read up to a register
pub record HaveRegisters (bytes : List ℕ) (regs : Registers) (i : ℕ) (rest : List ℕ) : Type 0 where
  pub are : AreRegisters regs
  pub some : 0 < i
  pub few : i ≤ 32
  pub so_far : bytes ≡ words_part (regs.pc ∷ drop 1 (take i regs.x)) ++ rest

pub read_pc : (bytes : List ℕ) (regs : Registers) (pc : ℕ) (rest : List ℕ) → AreRegisters regs → IsWord pc → bytes ≡ to_le_bytes w64 pc ++ rest
    → HaveRegisters bytes (with_pc regs pc) 1 rest
read_pc bytes regs pc rest are fits begins =
    record { are = pc_set regs pc are fits; some = omega arith; few = omega arith; so_far = begins ∙ at regs.x }
  where
    at : (x : List ℕ) → to_le_bytes w64 pc ++ rest ≡ words_part (pc ∷ drop 1 (take 1 x)) ++ rest
    at [] = refl
    at (y ∷ ys) = refl

pub read_register : (bytes : List ℕ) (regs : Registers) (i n : ℕ) (rest after : List ℕ) → HaveRegisters bytes regs i rest → i < 32
    → IsWord n × (rest ≡ to_le_bytes w64 n ++ after) → HaveRegisters bytes (with_register regs i n) (i + 1) after
read_register bytes regs zero n rest after have lt next = absurd (omega (arith, have.some))
read_register bytes regs (suc k) n rest after have lt next =
    let x = slice_set regs.x (suc k) n in
    let inside : suc k < length regs.x = omega (arith, lt, have.are.count) in
    let taken = take_more_set regs.x (suc k) n inside in
    let long = length-take-le (suc k) regs.x (omega (arith, inside)) in
    let numbers = ap (drop 1) taken ∙ rest_push (take (suc k) regs.x) n (omega (arith, long)) in
    subst (λ r. HaveRegisters bytes r (suc k + 1) after) (sym (set_is regs k n)) (record {
      are = record {
        count = length-set regs.x (suc k) n ∙ have.are.count;
        zero = get_or-set_other regs.x (suc k) 0 n 0 (λ e. omega (arith, e)) ∙ have.are.zero;
        words = (have.are.words.0, subst (AllByRecursion IsWord) (sym (rest_set regs.x k n)) (all_set IsWord (drop 1 regs.x) k n have.are.words.1 next.0));
      };
      some = omega arith;
      few = omega (arith, lt);
      so_far = have.so_far ∙ ap (λ (t : List ℕ). words_part (regs.pc ∷ drop 1 (take (suc k) regs.x)) ++ t) next.1
          ∙ sym (append_assoc (words_part (regs.pc ∷ drop 1 (take (suc k) regs.x))) (to_le_bytes w64 n) after)
          ∙ ap (λ (t : List ℕ). t ++ after) (flat_map_more (to_le_bytes w64) [] (regs.pc ∷ drop 1 (take (suc k) regs.x)) n)
          ∙ ap (λ (ns : List ℕ). words_part (regs.pc ∷ ns) ++ after) (sym numbers);
    })

-- all were read
pub all_registers : (bytes : List ℕ) (regs : Registers) (i : ℕ) (rest : List ℕ) → 32 ≤ i → HaveRegisters bytes regs i rest
    → AreRegisters regs × (bytes ≡ registers_part regs ++ rest)
all_registers bytes regs i rest le have =
    let whole = take_all i regs.x (omega (arith, le, have.are.count)) in
    (have.are, have.so_far ∙ ap (λ (x : List ℕ). words_part (regs.pc ∷ drop 1 x) ++ rest) whole)

-- the pc stands at the front
pub pc_behind : (regs : Registers) (s : List ℕ) → AreRegisters regs
    → (word : ℕ) × (t : List ℕ) × IsWord word × (registers_part regs ++ s ≡ to_le_bytes w64 word ++ t)
pc_behind regs s are = (regs.pc, words_part (drop 1 regs.x) ++ s, are.words.0, append_assoc (to_le_bytes w64 regs.pc) (words_part (drop 1 regs.x)) s)

-- behind fewer registers than there are stands one
pub register_behind : (bytes : List ℕ) (regs : Registers) (i : ℕ) (rest : List ℕ) → i < 32 → HaveRegisters bytes regs i rest
    → (others : Registers) (s : List ℕ) → AreRegisters others → bytes ≡ registers_part others ++ s
    → (word : ℕ) × (t : List ℕ) × IsWord word × (rest ≡ to_le_bytes w64 word ++ t)
register_behind bytes regs i rest lt have others s are same =
    word_behind (regs.pc ∷ drop 1 (take i regs.x)) (register_numbers others) rest s are.words (omega (arith, few, many_numbers others are.count, lt))
    (sym have.so_far ∙ same)
  where
    at : (x : List ℕ) → length x ≡ i → 0 < i → length (regs.pc ∷ drop 1 x) ≡ i
    at [] e some = absurd (omega (arith, e, some))
    at (y ∷ ys) e some = omega (arith, e)

    few : length (regs.pc ∷ drop 1 (take i regs.x)) ≡ i
    few = at (take i regs.x) (length-take-le i regs.x (omega (arith, lt, have.are.count))) have.some
