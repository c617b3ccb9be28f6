use Rattle.std.proofs.Common.{◌≡◌, ℕ, Bool, List, ap}
use Rattle.breakpoints.specs.Breakpoints.{Breaks}
use Rattle.machine_core.specs.Laws.{like_extended, wholes_extended}
use Rattle.machine_core.specs.Machine.{Machine, Wholes, spaces_of, with_extension_at}
use Rattle.command_core.specs.declared.checkpoints.Kept.{Kept}
use Rattle.command_core.specs.declared.modes.Modes.{Modes}
use Rattle.command_core.specs.Kept.{checkpoints_in, shown_session}
use Rattle.command_core.specs.Sessions.{IsSession, bases_of, extended_session, free_blocks_of}
use Rattle.command_core.specs.State.{AreLikeStates, State, extended}

-- A session that has extension M, or has it not.

module _ (machine : Machine) (on : Bool) where
  pub shown_extended : (xs : List Kept) (breaks : Breaks) (modes : Modes)
      → shown_session (with_extension_at machine on) xs breaks (record modes { extension = on }) ≡ extended_session on (shown_session machine xs breaks modes)
  shown_extended xs breaks modes =
      ap (λ (w : Wholes). record {
        state = record { wholes = w; checkpoints = checkpoints_in (spaces_of machine) xs; breakpoints = breaks };
        modes = record modes { extension = on };
        bases = bases_of (spaces_of machine);
        free_blocks = free_blocks_of machine.memory.pages.store.blocks;
      }) (wholes_extended machine on)

  pub session_extended : (spaces : List ℕ) (numbers : List (List ℕ)) → IsSession machine spaces numbers → IsSession (with_extension_at machine on) spaces numbers
  session_extended spaces numbers is = record {
    are_free = is.are_free;
    in_range = is.in_range;
    own_space = is.own_space;
    owned = is.owned;
    none_awaits = is.none_awaits;
    kept = is.kept;
    free = is.free;
    once = is.once;
    unseen = is.unseen;
    fit = is.fit;
  }

pub states_extended : (on : Bool) (a b : State) → AreLikeStates a b → AreLikeStates (extended on a) (extended on b)
states_extended on a b like =
    record { wholes = like_extended on a.wholes b.wholes like.wholes; checkpoints = like.checkpoints; breakpoints = like.breakpoints }
