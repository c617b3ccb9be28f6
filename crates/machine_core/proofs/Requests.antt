use Rattle.std.proofs.Common.{◌≡◌, ◌≤◌, ℕ, ◌-◌, ◌^◌, ◌==◌, ◌||◌, Bool, true, false, cond, List, [], ◌∷◌, Option, Some, None, sym, ap, subst, ◌∙◌, refl, arith, eqb-true}
use Rattle.std.specs.Option.{option_map_or}
use Rattle.std.specs.FinMap.{get}
use Rattle.sizes.specs.declared.TheConstants.{MOST_WRITTEN}
use Rattle.machine_core.specs.BareTurns.{bytes_asked}
use Rattle.machine_core.specs.Kept.{KeptProcesses, room_at}
use Rattle.machine_core.specs.declared.process.Process as declared
use Rattle.ovl_io.specs.Memory.{Access, Memory, denied_at}
use Rattle.rv_execute.specs.Registers.{Registers, register}
use Rattle.rv_execute.specs.Calls.{load_at}
use Rattle.rv_execute.specs.Step.{Request, answered, buffered, exit, request, write, write_count}
use Rattle.translation_cache.specs.Bare.{BareTranslations}
use Rattle.translation_cache.specs.Counted.{counted}
use Rattle.translation_cache.specs.CountedLaws.{access_of_none, counted_none, counted_one}

-- Requests that translate nothing.

not_equal : (m n : ℕ) → (m ≡ n → ⊥) → (m == n) ≡ false
not_equal m n other = by_test (m == n) refl
  where
    by_test : (b : Bool) → (m == n) ≡ b → b ≡ false
    by_test true is = absurd (other (eqb-true m n is))
    by_test false is = refl

module _ (p : ℕ) (regs : Registers) (memory : Memory) (t : BareTranslations) where
  abbrev buffer : Access
  buffer = load_at (register regs 11) (write_count regs)

  printed_accesses : (b : Bool) (x y : Request) (accesses : List Access) → x.accesses ≡ accesses → y.accesses ≡ accesses → (cond b x y).accesses ≡ accesses
  printed_accesses true x y accesses h k = h
  printed_accesses false x y accesses h k = k

  buffered_accesses : (o : Option ℕ) → (buffered o (write_count regs) regs memory (buffer ∷ [])).accesses ≡ buffer ∷ []
  buffered_accesses (Some at) = refl
  buffered_accesses None = printed_accesses (write_count regs == 0) _ _ (buffer ∷ []) refl refl

  -- a write to another descriptor
  pub write_beside : (d : ℕ) → d ≡ register regs 10 → (d ≡ 1 → ⊥) → (d ≡ 2 → ⊥) → t ≡ counted p memory (write regs memory).accesses t
  write_beside d is one two =
      let tests : ((register regs 10 == 1) || (register regs 10 == 2)) ≡ false =
      λ i. not_equal (register regs 10) 1 (λ h. one (is ∙ h)) i || not_equal (register regs 10) 2 (λ h. two (is ∙ h)) i in
      sym (ap (λ b. counted p memory (cond b (buffered (denied_at memory buffer) (write_count regs) regs memory (buffer ∷ [])) (answered (2 ^ 64 - 9) regs [])).accesses t) tests
      ∙ counted_none p memory t)

  -- a write of no bytes
  pub write_none : write_count regs ≡ 0 → t ≡ counted p memory (write regs memory).accesses t
  write_none none = by_test ((register regs 10 == 1) || (register regs 10 == 2))
    where
      by_test : (b : Bool) → t ≡ counted p memory (cond b (buffered (denied_at memory buffer) (write_count regs) regs memory (buffer ∷ [])) (answered (2 ^ 64 - 9) regs [])).accesses t
      by_test true =
          sym (ap (λ accesses. counted p memory accesses t) (buffered_accesses (denied_at memory buffer)) ∙ counted_one p memory buffer t
          ∙ access_of_none p memory buffer t none)
      by_test false = sym (counted_none p memory t)

  -- anything but a write
  pub no_write : (n : ℕ) → n ≡ register regs 17 → (n ≡ 64 → ⊥) → t ≡ counted p memory (request p regs memory).accesses t
  no_write n is other =
      let rest = cond ((register regs 17 == 93) || (register regs 17 == 94)) (exit regs)
      (cond (register regs 17 == 172) (answered p regs []) (answered (2 ^ 64 - 38) regs [])) in
      let silent : rest.accesses ≡ [] =
      printed_accesses ((register regs 17 == 93) || (register regs 17 == 94)) _ _ [] refl (printed_accesses (register regs 17 == 172) _ _ [] refl refl) in
      sym (ap (λ b. counted p memory (cond b (write regs memory) rest).accesses t) (not_equal (register regs 17) 64 (λ h. other (is ∙ h)))
      ∙ ap (λ accesses. counted p memory accesses t) silent ∙ counted_none p memory t)

-- How many bytes a request may write.

bytes_few : (regs : Registers) → bytes_asked regs ≤ MOST_WRITTEN
bytes_few regs = by_test (register regs 17 == 64)
  where
    by_test : (b : Bool) → cond b (write_count regs) 0 ≤ MOST_WRITTEN
    by_test true = omega arith
    by_test false = omega arith

pub room_few : (processes : KeptProcesses) (p n : ℕ) → n ≡ room_at processes p → n ≤ MOST_WRITTEN
room_few processes p n is = subst (λ k. k ≤ MOST_WRITTEN) (sym is) (by_process (get processes p))
  where
    by_process : (o : Option declared.Process) → option_map_or (λ (process : declared.Process). bytes_asked process.regs) o 0 ≤ MOST_WRITTEN
    by_process None = omega arith
    by_process (Some process) = bytes_few process.regs
