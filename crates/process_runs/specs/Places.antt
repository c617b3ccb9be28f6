use Rattle.std.specs.Prelude.{◌≡◌, ℕ, true, None}
use Rattle.std.specs.Option.{is_some}
use Rattle.std.specs.FinMap.{empty, get}
use Rattle.translation_cache.specs.Absent.{HasNone}
use Rattle.space_maps.specs.Spaces.{space_in}
use Rattle.machine_core.specs.Machine.{Machine, has_saved, has_space, is_marked, lists_of, spaces_of}
use Rattle.self_speculation.specs.Requests.{KeepsPerms}

-- Which spaces and processes are there.

-- each process has its memory
abbrev pub OwnSpaces : Machine → Type 0
OwnSpaces machine = (p : ℕ) → is_some (get machine.processes p) ≡ true → has_space machine p ≡ true

-- no page awaits being shared
abbrev pub NoPageAwaits : Machine → Type 0
NoPageAwaits machine = (p : ℕ) → (space_in (spaces_of machine) p).awaiting ≡ empty

-- registers and state are kept of exactly the processes whose spaces are marked
abbrev pub HavePairs : Machine → Type 0
HavePairs machine = (q : ℕ) → is_marked machine q ≡ has_saved machine q

-- each space without a process is as it was, and still nothing of it was translated
pub record KeepsFree (old new : Machine) : Type 0 where
  pub spaces : (q : ℕ) → get old.processes q ≡ None → space_in (spaces_of new) q ≡ space_in (spaces_of old) q
  pub unseen : (q : ℕ) → get old.processes q ≡ None → HasNone q (lists_of old) → HasNone q (lists_of new)

-- each space has the pages that it had, with the same permissions
abbrev pub KeepsAllPerms : Machine → Machine → Type 0
KeepsAllPerms old new = (q : ℕ) → KeepsPerms q old new

-- no process goes
abbrev pub NoneGoes : Machine → Machine → Type 0
NoneGoes old new = (q : ℕ) → get new.processes q ≡ None → get old.processes q ≡ None
