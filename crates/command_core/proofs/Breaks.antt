use Rattle.std.proofs.Common.{◌≡◌, ℕ, true, List, sym, ap, ◌∙◌, refl, Option, Some, None}
use Rattle.std.specs.Option.{is_some, option_map_or}
use Rattle.std.specs.FinMap.{FinMap, get, insert, remove}
use Rattle.std.specs.FinSet.{remove as without_address}
use Rattle.std.specs.Ordering.{nat_cmp}
use Rattle.number_maps.specs.Keys.{alike, by_key, get_other, get_same, removed_other, removed_same}
use Rattle.breakpoints.specs.Breakpoints.{Addresses, Breaks, without_break}
use Rattle.machine_core.specs.Machine.{Machine, StaysBut, shown_process}
use Rattle.machine_core.specs.declared.process.Process as declared
use Rattle.machine_core.specs.Load.{IsLoaded, loaded_process}
use Rattle.command_core.specs.Sessions.{AreBreaksOf}
use Rattle.process_runs.specs.Places.{NoneGoes}
use Rattle.process_runs.specs.PlaceLaws.{not_free}

-- Breakpoints: what is left of them.

-- Where a number has no breakpoints, it has none taken away.
pub none_removed : (breaks : Breaks) (p : ℕ) → get breaks p ≡ None → remove breaks p ≡ breaks
none_removed breaks p none = alike _ _ (λ q. by_key q p
    (λ same. removed_same breaks p q same ∙ sym (ap (get breaks) same ∙ none))
    (λ other. removed_other breaks p q other))

-- What isn't the number of a process has no breakpoints: where no process goes, where one goes with those that it has, and where one that
-- is there gets others.
pub breaks_kept : (old new : Machine) (breaks : Breaks) → NoneGoes old new → AreBreaksOf old breaks → AreBreaksOf new breaks
breaks_kept old new breaks stay none q gone = none q (stay q gone)

-- where one comes, or another in its place
pub breaks_more : (old new : Machine) (breaks : Breaks) (n : ℕ) → is_some (get new.processes n) ≡ true → StaysBut n old new → AreBreaksOf old breaks → AreBreaksOf new breaks
breaks_more old new breaks n there others none q gone =
    none q (sym (others.processes q (not_free new n q there gone)) ∙ gone)

pub breaks_loaded : (old new : Machine) (breaks : Breaks) (n : ℕ) (file : List ℕ) → IsLoaded n file old new → AreBreaksOf old breaks → AreBreaksOf new breaks
breaks_loaded old new breaks n file loaded =
    breaks_more old new breaks n
    (ap is_some (ap (λ (ps : FinMap nat_cmp declared.Process). get ps n) loaded.processes ∙ get_same old.processes n n (shown_process (loaded_process file)) refl)) loaded.others

pub breaks_removed : (old new : Machine) (breaks : Breaks) (p : ℕ) → ((q : ℕ) → (q ≡ p → ⊥) → get new.processes q ≡ get old.processes q) → AreBreaksOf old breaks
    → AreBreaksOf new (remove breaks p)
breaks_removed old new breaks p left none q gone = by_key q p
    (λ same. removed_same breaks p q same)
    (λ other. removed_other breaks p q other ∙ none q (sym (left q other) ∙ gone))

pub breaks_put : (machine : Machine) (breaks : Breaks) (p : ℕ) (addresses : Addresses) → is_some (get machine.processes p) ≡ true → AreBreaksOf machine breaks
    → AreBreaksOf machine (insert breaks p addresses)
breaks_put machine breaks p addresses there none q gone =
    get_other breaks p q addresses (not_free machine p q there gone) ∙ none q gone

pub breaks_without : (machine : Machine) (breaks : Breaks) (p address : ℕ) → is_some (get machine.processes p) ≡ true → AreBreaksOf machine breaks
    → AreBreaksOf machine (without_break breaks p address)
breaks_without machine breaks p address there none = by_found (get breaks p)
  where
    by_found : (o : Option Addresses) → AreBreaksOf machine (option_map_or (λ addresses. insert breaks p (without_address addresses address)) o breaks)
    by_found None = none
    by_found (Some addresses) = breaks_put machine breaks p (without_address addresses address) there none
