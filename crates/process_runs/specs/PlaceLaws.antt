use Rattle.std.specs.Prelude.{◌≡◌, ℕ, true, false, List, Option, Some, None, IfSome, refl}
use Rattle.std.proofs.Common.{sym, ap, subst, ◌∙◌}
use Rattle.std.specs.Option.{is_some, option_map, option_map_or}
use Rattle.std.specs.List.{All}
use Rattle.std.specs.FinMap.{get}
use Rattle.number_maps.specs.Keys.{by_key}
use Rattle.ovl_io.specs.Memory.{Memory, Page}
use Rattle.translation_cache.specs.Absent.{HasNone}
use Rattle.machine_core.specs.Process.{runs}
use Rattle.machine_core.specs.declared.process.Process as declared
use Rattle.machine_core.specs.Machine.{AreLike, Machine, StaysBut, Wholes, has_space, is_running, lists_of, spaces_of, wholes}
use Rattle.machine_core.specs.Laws.{runs_shown}
use Rattle.machine_core.specs.PermsLaws.{LeavesPerms, memory_same, perms_after}
use Rattle.round_robin.specs.MemberLaws.{next_has}
use Rattle.round_robin.specs.Turns.{Turns, next_number}
use Rattle.self_speculation.specs.Requests.{KeepsPairs, KeepsPerms}
use Rattle.process_runs.specs.Places.{KeepsAllPerms, KeepsFree, NoneGoes, OwnSpaces}

-- Laws: which spaces and processes are there.

pub none_is : {X : Type 0} (o : Option X) → is_some o ≡ false → o ≡ None
none_is None h = refl
none_is (Some x) h = cc

-- a process that is there has a number of its own
pub not_free : (machine : Machine) (p q : ℕ) → is_some (get machine.processes p) ≡ true → get machine.processes q ≡ None → q ≡ p → ⊥
not_free machine p q there none same = let lacks = ap is_some (sym (ap (get machine.processes) same) ∙ none) in let both : false ≡ true = sym lacks ∙ there in cc

-- free spaces, the same way
pub free_start : (machine : Machine) → KeepsFree machine machine
free_start machine = record { spaces = λ q none. refl; unseen = λ q none unlisted. unlisted }

pub free_then : (a b c : Machine) → KeepsPairs a b → KeepsFree a b → KeepsFree b c → KeepsFree a c
free_then a b c places first second = record {
  spaces = λ q none. second.spaces q (still q none) ∙ first.spaces q none;
  unseen = λ q none unlisted. second.unseen q (still q none) (first.unseen q none unlisted);
}
  where
    still : (q : ℕ) → get a.processes q ≡ None → get b.processes q ≡ None
    still q none = none_is (get b.processes q) (places.processes q ∙ ap is_some none)

-- where all but one process is as it was, free spaces are
pub free_stays : (p : ℕ) (old new : Machine) → StaysBut p old new → is_some (get old.processes p) ≡ true
    → ((q : ℕ) → (q ≡ p → ⊥) → HasNone q (lists_of old) → HasNone q (lists_of new)) → KeepsFree old new
free_stays p old new others there unlisted = record {
  spaces = λ q none. others.spaces q (not_free old p q there none);
  unseen = λ q none. unlisted q (not_free old p q there none);
}

-- pages and their permissions, the same way
pub perms_start : (machine : Machine) → KeepsAllPerms machine machine
perms_start machine q at = refl

pub perms_then : (a b c : Machine) → KeepsAllPerms a b → KeepsAllPerms b c → KeepsAllPerms a c
perms_then a b c first second q at = second q at ∙ first q at

pub perms_stay : (p : ℕ) (old new : Machine) → StaysBut p old new → KeepsPerms p old new → KeepsAllPerms old new
perms_stay p old new others here q = by_key q p
    (λ same. subst (λ n. KeepsPerms n old new) (sym same) here)
    (λ other at. ap (λ (m : Memory). option_map (λ (page : Page). page.perms) (get m at)) (memory_same (spaces_of new) (spaces_of old) q (others.spaces q other)))

-- the one whose turn is next runs
pub next_runs : (processes : Wholes) (next : Option ℕ) (turns : Turns) (running : List ℕ) → All (λ p. is_running processes p ≡ true) running
    → next ≡ next_number turns running → IfSome next (λ p. is_running processes p ≡ true)
next_runs processes None turns running all is = tt
next_runs processes (Some p) turns running all is = next_has (λ q. is_running processes q ≡ true) turns running p all (sym is)

-- a process that runs is there, and so is its space

pub process_there : (machine : Machine) (p : ℕ) → is_running (wholes machine) p ≡ true → is_some (get machine.processes p) ≡ true
process_there machine p running = by_process (get machine.processes p) (sym (runs_shown machine p) ∙ running)
  where
    by_process : (o : Option declared.Process) → option_map_or (λ (process : declared.Process). runs process.state) o false ≡ true → is_some o ≡ true
    by_process None h = cc
    by_process (Some process) h = refl

-- turns of a process that runs leave the others
pub free_turns : (p : ℕ) (old new : Machine) (left : Wholes) → StaysBut p old new → is_running (wholes old) p ≡ true → AreLike (wholes new) left
    → ((q : ℕ) → (q ≡ p → ⊥) → HasNone q (lists_of old) → HasNone q left.translations) → KeepsFree old new
free_turns p old new left others running like unlisted =
    free_stays p old new others (process_there old p running) (λ q other none. subst (HasNone q) (sym like.translations) (unlisted q other none))

-- and leave which pages there are, and their permissions
pub perms_turns : (p : ℕ) (old new : Machine) (left : Wholes) → StaysBut p old new → is_running (wholes old) p ≡ true → LeavesPerms p (wholes old) left
    → AreLike (wholes new) left → KeepsAllPerms old new
perms_turns p old new left others running leaves like = perms_stay p old new others (perms_after old new p left running leaves like)

-- no process goes where the same ones are there
pub stay_kept : (old new : Machine) → KeepsPairs old new → NoneGoes old new
stay_kept old new same q none = none_is (get old.processes q) (sym (same.processes q) ∙ ap is_some none)

pub space_there : (machine : Machine) (p : ℕ) → OwnSpaces machine → is_running (wholes machine) p ≡ true → has_space machine p ≡ true
space_there machine p own running = own p (process_there machine p running)

-- and stays so where the same ones are there
pub own_kept : (old new : Machine) → OwnSpaces old → KeepsPairs old new → OwnSpaces new
own_kept old new own same p some = same.spaces p ∙ own p (sym (same.processes p) ∙ some)
