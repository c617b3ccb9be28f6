use Rattle.std.proofs.Common.{◌≡◌, ℕ, Bool, true, false, List, sym, ap, ◌∙◌, Option, None, Ok}
use Rattle.std.specs.Option.{is_some, option_map_or}
use Rattle.std.specs.Ordering.{nat_cmp}
use Rattle.std.specs.FinMap.{FinMap, empty, get, get-empty}
use Rattle.ovl_io.specs.Keys.{by_key}
use Rattle.overlay_pages.specs.State.{SpaceState}
use Rattle.overlay_pages.specs.Calls.{IsEmptyState}
use Rattle.space_maps.specs.Spaces.{space_in}
use Rattle.machine_core.specs.declared.process.Process as declared
use Rattle.machine_core.specs.Process.{runs}
use Rattle.machine_core.specs.Laws.{runs_shown}
use Rattle.machine_core.specs.Load.{Loads}
use Rattle.machine_core.specs.Machine.{HaveSpaces, Machine, has_space, is_running, spaces_of, wholes}

-- A machine at the start, and one that loads processes.

pub no_space_yet : (frames : ℕ) (machine : Machine) (p : ℕ) → IsEmptyState frames (spaces_of machine) → has_space machine p ≡ false
no_space_yet frames machine p none = ap (λ (spaces : FinMap nat_cmp SpaceState). is_some (get spaces p)) none.spaces ∙ ap (λ (o : Option SpaceState). is_some o) (get-empty nat_cmp p)

pub no_process_yet : (machine : Machine) (p : ℕ) → machine.processes ≡ empty → get machine.processes p ≡ None
no_process_yet machine p none = ap (λ (ps : FinMap nat_cmp declared.Process). get ps p) none ∙ get-empty nat_cmp p

abbrev shown_runs : Option declared.Process → Bool
shown_runs o = option_map_or (λ (process : declared.Process). runs process.state) o false

-- no process runs
pub none_runs : (machine : Machine) → machine.processes ≡ empty → HaveSpaces machine
none_runs machine none = record { there = λ p running. absurd (rests p running); none_awaits = λ p running. absurd (rests p running) }
  where
    rests : (p : ℕ) → is_running (wholes machine) p ≡ true → ⊥
    rests p running =
        let rests : is_running (wholes machine) p ≡ false = runs_shown machine p ∙ ap shown_runs (no_process_yet machine p none) in
        let both : false ≡ true = sym rests ∙ running in cc

-- the process that was loaded has its space, and all others have theirs
pub have_loaded : (p : ℕ) (file : List ℕ) (old new : Machine) (pages : ℕ) → Loads p file old new (Ok pages) → HaveSpaces old → HaveSpaces new
have_loaded p file old new pages loaded have = record {
  there = λ q running. by_key q p
      (λ same. ap (has_space new) same ∙ loaded.2.there)
      (λ other. loaded.2.others.there q other ∙ have.there q (ran q other running));
  none_awaits = λ q running. by_key q p
      (λ same. ap (λ n. (space_in (spaces_of new) n).awaiting) same ∙ loaded.2.none_awaits)
      (λ other. ap (λ (x : SpaceState). x.awaiting) (loaded.2.others.spaces q other) ∙ have.none_awaits q (ran q other running));
}
  where
    ran : (q : ℕ) → (q ≡ p → ⊥) → is_running (wholes new) q ≡ true → is_running (wholes old) q ≡ true
    ran q other running = runs_shown old q ∙ ap shown_runs (sym (loaded.2.others.processes q other)) ∙ sym (runs_shown new q) ∙ running
