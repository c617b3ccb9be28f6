use Rattle.std.specs.Prelude.{◌≡◌, ℕ, nat_lt, List, Result, Ok, Err}
use Rattle.std.proofs.Common.{sym, ap, subst, ◌∙◌}
use Rattle.std.specs.FinMap.{FinMap, get, insert}
use Rattle.std.specs.Ordering.{nat_cmp}
use Rattle.number_maps.specs.Views.{viewed}
use Rattle.ledger.specs.Alike.{AreAlike}
use Rattle.ledger.specs.AlikeUnits.{units_alike}
use Rattle.ledger.specs.Events.{Load}
use Rattle.ledger.specs.RowLaws.{alike_after}
use Rattle.overlay_pages.specs.State.{State, books}
use Rattle.overlay_memory.specs.declared.error.SpaceError.{SpaceError}
use Rattle.overlay_memory.specs.declared.error.SpaceError.TheVariants.{Full, Memory}
use Rattle.space_maps.specs.Spaces.{holds_space, space_in}
use Rattle.machine_core.specs.declared.process.Process as declared
use Rattle.machine_core.specs.Machine.{AreLike, Machine, Processes, StaysBut, Wholes, unit_limit, processes_of, spaces_of, whole_in, wholes}
use Rattle.machine_core.specs.Load.{IsAsBefore, Loads, LoadsAs, is_load_full, load_needs, load_pages, loaded_ledger, loaded_process, with_loaded}
use Rattle.machine_core.specs.Laws.{like_chain}

-- Loads of states that are like each other, and of machines with the same spaces and processes.

like_loaded_ledger : (p : ℕ) (file : List ℕ) (a b : Wholes) → AreLike a b → AreAlike (loaded_ledger p file a.ledger) (loaded_ledger p file b.ledger)
unfolding loaded_ledger
like_loaded_ledger p file a b like = alike_after (Load p (load_pages file)) a.ledger b.ledger like.ledger

pub like_loaded : (p : ℕ) (file : List ℕ) (a b : Wholes) → AreLike a b → AreLike (with_loaded p file a) (with_loaded p file b)
like_loaded p file a b like = record {
  processes = ap (λ (ps : Processes). insert ps p (loaded_process file)) like.processes;
  ledger = like_loaded_ledger p file a b like;
  frames = like.frames;
  extension = like.extension;
  translations = like.translations;
}

pub like_needs : (p : ℕ) (file : List ℕ) (a b : Wholes) → AreLike a b → load_needs p file a ≡ load_needs p file b
like_needs p file a b like = units_alike _ _ (like_loaded_ledger p file a b like)

pub like_load_full : (p : ℕ) (file : List ℕ) (a b : Wholes) → AreLike a b → is_load_full p file a ≡ is_load_full p file b
like_load_full p file a b like =
    ap (λ n. nat_lt (unit_limit a.frames) n) (like_needs p file a b like) ∙ ap (λ n. nat_lt (unit_limit n) (load_needs p file b)) like.frames

-- the same spaces and processes make the same state
processes_by : State → FinMap nat_cmp declared.Process → Processes
processes_by spaces processes = viewed (λ p process. whole_in spaces p process) processes

pub same_wholes : (old new : Machine) → IsAsBefore old new → wholes new ≡ wholes old
unfolding processes_of processes_by
same_wholes old new (spaces, lists, processes, extension) =
    let both : processes_of new ≡ processes_of old = ap (λ s. processes_by s new.processes) spaces ∙ ap (processes_by (spaces_of old)) processes in
    λ i. record { processes = both i; ledger = books (spaces i); frames = (spaces i).frames; extension = extension i; translations = lists i }

pub same_stays : (p : ℕ) (old new : Machine) → IsAsBefore old new → StaysBut p old new
same_stays p old new (spaces, lists, processes, extension) = record {
  spaces = λ q other. ap (λ (s : State). space_in s q) spaces;
  there = λ q other. ap (λ (s : State). holds_space s q) spaces;
  processes = λ q other. ap (λ m. get m q) processes;
}

-- how a load comes out, of each state that the machine stood for
pub loads_as : (p : ℕ) (file : List ℕ) (old new : Machine) (r : Result ℕ SpaceError) → Loads p file old new r → LoadsAs p file old new r
loads_as p file old new (Ok n) (count, fits, loaded) = λ state stands.
    (sym (like_load_full p file (wholes old) state stands) ∙ fits, like_chain (wholes new) (with_loaded p file (wholes old)) (with_loaded p file state) loaded.like (like_loaded p file (wholes old) state stands))
loads_as p file old new (Err (Full needed limit)) (needed_is, limit_is, full, same) = λ state stands. (
  needed_is ∙ like_needs p file (wholes old) state stands,
  limit_is ∙ ap unit_limit stands.frames,
  sym (like_load_full p file (wholes old) state stands) ∙ full,
  subst (λ (m : Machine). AreLike (wholes m) state) (sym same) stands,
)
loads_as p file old new (Err Memory) (fits, same) = λ state stands.
    (sym (like_load_full p file (wholes old) state stands) ∙ fits, subst (λ (w : Wholes). AreLike w state) (sym (same_wholes old new same)) stands)
