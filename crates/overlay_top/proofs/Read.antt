use Rattle.std.proofs.Common.{◌≡◌, ℕ, zero, suc, ◌+◌, ◌-◌, ◌≤◌, List, ◌++◌, take, drop, length, length-take, ap, sym, ◌∙◌, refl, arith}
use Rattle.std.proofs.Math.Seq.{drop-append_seam, take-append_seam}
use Rattle.ovl_io.specs.Memory.{Memory, bytes_at}
use Rattle.ovl_io.specs.MemoryLaws.{bytes_joined}
use Rattle.overlay_top.specs.declared.printing.TheConstants.{READ_BYTES}

-- Bytes that were read from a memory, and parts of them.

pub bytes_many : (memory : Memory) (at n : ℕ) → length (bytes_at memory at n) ≡ n
bytes_many memory at zero = refl
bytes_many memory at (suc n) = ap suc (bytes_many memory (at + 1) n)

-- how many bytes are read into the front of a block
pub block_front : (n : ℕ) (block : List ℕ) → length block ≡ READ_BYTES → n ≤ READ_BYTES → length (take n block) ≡ n
block_front n block long few = let some = length-take n block in omega (arith, some, long, few)

-- the first k of n bytes, and those behind them
module _ (memory : Memory) (at k n : ℕ) (bytes : List ℕ) (within : k ≤ n) (are : bytes ≡ bytes_at memory at n) where
  parts : bytes ≡ bytes_at memory at k ++ bytes_at memory (at + k) (n - k)
  parts = let all : k + (n - k) ≡ n = omega (arith, within) in are ∙ sym (ap (bytes_at memory at) all) ∙ bytes_joined memory at k (n - k)

  pub front_bytes : take k bytes ≡ bytes_at memory at k
  front_bytes =
      ap (take k) parts ∙ ap (λ j. take j (bytes_at memory at k ++ bytes_at memory (at + k) (n - k))) (sym (bytes_many memory at k))
      ∙ take-append_seam (bytes_at memory at k) (bytes_at memory (at + k) (n - k))

  pub rest_bytes : drop k bytes ≡ bytes_at memory (at + k) (n - k)
  rest_bytes =
      ap (drop k) parts ∙ ap (λ j. drop j (bytes_at memory at k ++ bytes_at memory (at + k) (n - k))) (sym (bytes_many memory at k))
      ∙ drop-append_seam (bytes_at memory at k) (bytes_at memory (at + k) (n - k))
