use Rattle.std.proofs.Common.{◌≡◌, ℕ, ◌+◌, ◌-◌, ◌^◌, ◌<◌, ◌≤◌, List, ◌++◌, length, take, None, sym, ap, ◌∙◌, refl, arith, append_assoc, length-append}
use Rattle.std.specs.Prelude.{Err}
use Rattle.std.proofs.Math.Seq.{take-append_seam}
use Rattle.std.proofs.lemmas.List.{length-take-le}
use Rattle.sizes.specs.declared.TheConstants.{ADDRESS_END}
use Rattle.ovl_io.specs.Memory.{Memory, bytes_at, first_denied}
use Rattle.ovl_io.specs.MemoryLaws.{access_front, back_refused, both_allowed, bytes_joined}
use Rattle.overlay_pages.specs.State.{State, memory_of}
use Rattle.overlay_memory.specs.declared.error.MemoryError.{MemoryError}
use Rattle.overlay_memory.specs.declared.error.MemoryError.TheVariants.{Unmapped, Forbidden, Full}
use Rattle.overlay_memory.specs.Access.{Reads}

-- A read that goes on piece by piece.

-- the first bytes were read, and may be
pub record IsReadSoFar (memory : Memory) (need address : ℕ) (into : List ℕ) (done : ℕ) : Type 0 where
  pub within : done ≤ length into
  pub low : address + done < 2 ^ 64
  pub allowed : first_denied memory need address done ≡ None
  pub filled : take done into ≡ bytes_at memory address done

pub read_more : (memory : Memory) (need address : ℕ) (old piece rest : List ℕ) (done n count : ℕ) → IsReadSoFar memory need address old done
    → length piece ≡ count → count ≡ n
    → first_denied memory need (address + done) count ≡ None → piece ≡ bytes_at memory (address + done) count → address + done < ADDRESS_END → n ≤ 64
    → IsReadSoFar memory need address (take done old ++ (piece ++ rest)) (done + n)
read_more memory need address old piece rest done n count so_far len is_count may is low few =
    let front = take done old in
    let whole = length-take-le done old so_far.within in
    let both = length-append front piece in
    let all : length (front ++ piece) ≡ done + n = omega (arith, whole, both, len, is_count) in
    record {
      within = omega (arith, whole, len, is_count, length-append front (piece ++ rest), length-append piece rest);
      low = omega (arith, low, few);
      allowed = both_allowed memory need address (address + done) done count (done + n) (omega (arith, is_count)) refl so_far.allowed may;
      filled =
          ap (take (done + n)) (sym (append_assoc front piece rest)) ∙ ap (λ k. take k ((front ++ piece) ++ rest)) (sym all)
          ∙ take-append_seam (front ++ piece) rest
          ∙ ap (λ f. f ++ piece) so_far.filled ∙ ap (λ p. bytes_at memory address done ++ p) is
          ∙ sym (bytes_joined memory address done count) ∙ ap (λ k. bytes_at memory address (done + k)) is_count;
    }

-- the next piece is refused
pub read_refused : (state : State) (space need address done n count : ℕ) (error : MemoryError)
    → first_denied (memory_of state space) need address done ≡ None → done + n ≤ count
    → Reads state space need (address + done) n (Err error) → Reads state space need address count (Err error)
read_refused state space need address done n count (Unmapped at) front fits h = record {
  first = access_front (memory_of state space) need address (done + n) (count - (done + n)) count at (omega (arith, fits))
      (back_refused (memory_of state space) need address (address + done) done n (done + n) at refl refl front h.first);
  absent = h.absent;
}
read_refused state space need address done n count (Forbidden at) front fits h = record {
  first = access_front (memory_of state space) need address (done + n) (count - (done + n)) count at (omega (arith, fits))
      (back_refused (memory_of state space) need address (address + done) done n (done + n) at refl refl front h.first);
  there = h.there;
}
read_refused state space need address done n count (Full needed limit) front fits h = absurd h
