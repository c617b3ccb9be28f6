-- A `&` to the memory reaches each line that is made. Assumes `Logic`.
use base.Fraction.{full_share}
use base.Fml.{froom}
use contract.BorrowLft.{⊑_static}
use denote.Array.{Array, Array-row_laws}
use denote.Param.Shared.{copy_shared}
use denote.RawPtr.{Ptr, block_ptr, null_ptr, lies_at}
use denote.Shares.{Shares-less, Shares-Array}
use denote.Struct.Field.{RawPtr-field, usize-field}
use denote.Struct.Laws.{RawPtr-copy, usize-copy}
use denote.Struct.Lending.{Lends, Lends-false, Lends-lies, Lends-first, lent_at_shr_laws, of_Lends}
use Prim.Native.Nat.{ℕ, ◌+◌, ◌-◌, ◌*◌}
use mathlib.Core.List.{List}
use seplogic.Ra.Ura.{Ura}
use types.Logic.{Logic}
use base.Fml.{Lft}
use Rattle.line_store.specs.Memory.{Line, room_of, lines_own, lines_lent}
use Rattle.line_store.proofs.Memory.{line_laws}
use Rattle.line_store.specs.contracts.lines.Lines as C
use Rattle.line_store.proofs.lines.Lines.TheLaw.Statement.{statement}

module _ {M : Type 1} {𝓤 : Ura M} (𝓛 : Logic 𝓤) (l : Lft) (made room : ℕ) (items : List (List ℕ)) where
  lends : (at : Ptr) → Lends 𝓛 (lines_own at made items room) (lines_lent at made items) l
  lends (block_ptr b o) =
      Lends-first 𝓛 (lies_at (Array Line made) full_share (block_ptr b o) items) (froom (room_of (room - made)) b (o + made * 64)) (lines_lent (block_ptr b o) made items) l
      (Lends-lies 𝓛 (Array Line made) l (block_ptr b o) items (Shares-Array 𝓛 Line tt made l (Shares-less 𝓛 Line Line.lives l (⊑_static l) (line_laws.shares 𝓛)) items))
  lends null_ptr = Lends-false 𝓛 (lines_lent null_ptr made items) l

pub shares : statement
shares =
    of_Lends C.struct C.the_codes C.the_heap C.the_lent
    (λ d p. lent_at_shr_laws (Array Line d.made) (Array-row_laws Line line_laws.shr_laws d.made) d.at d.items)
    (copy_shared RawPtr-field RawPtr-copy, (copy_shared usize-field usize-copy, tt)) (λ M 𝓤 𝓛 d p. lends 𝓛 (C.the_row).lives d.made d.room d.items d.at)
