use Rattle.std.proofs.Common.{◌≡◌, ℕ, ◌<◌, ◌≤◌, Bool, true, false, sym, ap, ◌∙◌, refl, arith, nat_lt, Option, Some, None}
use Rattle.std.proofs.lemmas.Bool.Decides.{nat_tests}
use Rattle.std.specs.Option.{option_map}
use Rattle.std.specs.FinMap.{get, insert}
use Rattle.number_maps.specs.Keys.{alike, by_key, get_other, get_same}
use Rattle.space_maps.specs.Spaces.{space_in}
use Rattle.overlay_memory.specs.View.{TranslatedView, state_of}
use Rattle.machine_core.specs.Process.{Process}
use Rattle.machine_core.specs.declared.process.Process as declared
use Rattle.machine_core.specs.Machine.{KeepsPlaces, Machine, processes_of, spaces_of, whole_in, with_memory, with_process_at}
use Rattle.machine_core.specs.Laws.{processes_at, whole_by}
use Rattle.self_speculation.specs.Requests.{KeepsPairs}

-- Laws: what a machine shows where a process was put and its space alone changed; and whether units suffice.

module _ (old : Machine) (memory : TranslatedView) (p : ℕ) (others : (q : ℕ) → (q ≡ p → ⊥) → space_in (state_of memory) q ≡ space_in (spaces_of old) q) where
  pub others_by : (q : ℕ) → (q ≡ p → ⊥) → (o : Option declared.Process) → option_map (whole_in (state_of memory) q) o ≡ option_map (whole_in (spaces_of old) q) o
  others_by q other None = refl
  others_by q other (Some x) = ap Some (whole_by (state_of memory) (spaces_of old) q (others q other) x)

  pub processes_put : (put : declared.Process) (left : Process) → whole_in (state_of memory) p put ≡ left
      → processes_of (with_process_at (with_memory old memory) p put) ≡ insert (processes_of old) p left
  processes_put put left is = alike _ _ (λ q. processes_at (with_process_at (with_memory old memory) p put) q ∙ by_key q p
      (λ same. ap (λ n. option_map (whole_in (state_of memory) n) (get (insert old.processes p put) n)) same
      ∙ ap (option_map (whole_in (state_of memory) p)) (get_same old.processes p p put refl)
      ∙ ap Some is ∙ sym (get_same (processes_of old) p q left same))
      (λ other. ap (option_map (whole_in (state_of memory) q)) (get_other old.processes p q put other)
      ∙ others_by q other (get old.processes q) ∙ sym (processes_at old q) ∙ sym (get_other (processes_of old) p q left other)))

-- where the same spaces are marked and the same processes have something saved
pub places_pairs : (old new : Machine) → KeepsPlaces old new → KeepsPairs old new
places_pairs old new same = record {
  spaces = same.spaces;
  awaiting = same.awaiting;
  processes = same.processes;
  kept = λ q agree. same.marks q ∙ agree ∙ sym (same.saves q);
}

-- one after the other
pub pairs_start : (machine : Machine) → KeepsPairs machine machine
pairs_start machine = record { spaces = λ q. refl; awaiting = λ q. refl; processes = λ q. refl; kept = λ q agree. agree }

pub pairs_then : (a b c : Machine) → KeepsPairs a b → KeepsPairs b c → KeepsPairs a c
pairs_then a b c first second = record {
  spaces = λ q. second.spaces q ∙ first.spaces q;
  awaiting = λ q. second.awaiting q ∙ first.awaiting q;
  processes = λ q. second.processes q ∙ first.processes q;
  kept = λ q agree. second.kept q (first.kept q agree);
}

pub not_over : (limit needed : ℕ) → needed ≤ limit → nat_lt limit needed ≡ false
not_over limit needed h = by_test (nat_lt limit needed) refl
  where
    by_test : (b : Bool) → nat_lt limit needed ≡ b → b ≡ false
    by_test true e = absurd (grind (arith, nat_tests))
    by_test false e = refl

pub is_over : (limit needed : ℕ) → limit < needed → nat_lt limit needed ≡ true
is_over limit needed h = grind (arith, nat_tests)
