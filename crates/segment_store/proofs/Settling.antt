use Rattle.std.proofs.Common.{◌≡◌, ℕ, ◌+◌, List, ◌++◌, Option, IfSome, option_to_list}
use Rattle.unit_map.specs.Pieces.{AreSettledBut}
use Rattle.store_compaction.specs.declared.moves.Move.{Move}
use Rattle.store_compaction.specs.Next.{Ascend}
use Rattle.segment_store.specs.Store.{Store}
use Rattle.segment_store.specs.Changes.{MakesMoves}
use Rattle.segment_store.specs.Runs.{ascend_more, made_more}

-- Below an order no two free blocks are equal in size any more, by moves of lower orders.
pub record IsSettling (old now : Store) (ms : List Move) (order : ℕ) : Type 0 where
  pub but : AreSettledBut now.blocks order
  pub made : MakesMoves old ms now
  pub ascend : Ascend 0 order ms

pub settling_more : (old mid new : Store) (ms : List Move) (o : Option Move) (order : ℕ) → IsSettling old mid ms order → AreSettledBut new.blocks (order + 1) → MakesMoves mid (option_to_list o) new → IfSome o (λ m. m.order ≡ order)
    → IsSettling old new (ms ++ option_to_list o) (order + 1)
settling_more old mid new ms o order is but made last = record {
  but = but;
  made = made_more old mid new ms (option_to_list o) is.made made;
  ascend = ascend_more 0 order ms o is.ascend last;
}
