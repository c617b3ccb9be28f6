use Rattle.std.proofs.Common.{◌≡◌, ◌∙◌, ℕ, zero, inl, inr, List, Option, Some, None, IsSome, ap, sym, subst, refl, arith}
use Rattle.ovl_io.specs.Outside.{FetchRefused, Rose}
use Rattle.ovl_io.specs.Forms.{no_faults, never_refused}
use Rattle.ovl_io.specs.declared.source.Source.{Ghosts as SourceOf}
use Rattle.ovl_io.specs.declared.shelf.Shelf.{Ghosts as ShelfOf}
use Rattle.ovl_io.specs.declared.sink.Sink.{Ghosts as SinkOf}
use Rattle.overlay_top.specs.declared.words.Settings.{Settings}
use Rattle.overlay_top.specs.declared.status.Status.{Status}
use Rattle.overlay_top.specs.declared.status.Status.TheVariants as ending
use Rattle.overlay_top.specs.Outcome.{Asking, OfNothing, OfOutside, RunOutcome, asking_of, chosen_files, chosen_script, outcome_set, run_asking, run_outcome, said, said_outcome}
use Rattle.overlay_top.specs.Outside.{ShelfRose, SinkRose, SourceRose}
use Rattle.overlay_top.specs.Words.{seed_in, seed_set, settings_of}
use Rattle.overlay_top.specs.Status.{code_of}
use Rattle.overlay_top.specs.Running.{AsksAs}
use Rattle.overlay_top.specs.Ends.{Ends, EndsAs, EndsMade, IsCompleteWith, IsTold, NoFault, SaysAt, TakesAs, World}
use Rattle.overlay_top.specs.Ends.Ends.{Untouched, Whole, SourceFailed, ShelfFailed, SinkFailed, OutOfMemory}
use Rattle.overlay_top.specs.Ends.EndsMade.{MadeWhole, MadeSinkFailed, MadeOutOfMemory}
use Rattle.overlay_top.proofs.Calls.{complete, no_memory, nothing}

-- A call whose source and shelf can't fail and have each file.

pub no_rise : Rose no_faults no_faults → ⊥
no_rise rose = omega (arith, rose)

pub unrefused : (name : List ℕ) (refused : FetchRefused) → never_refused ≡ Some refused → ⊥
unrefused name refused is = cc

pub ends_made : {S H K : Type 0} (s : SourceOf S) (h : ShelfOf H) (k : SinkOf K) (outcome : RunOutcome) (names : List (Option (List ℕ))) (old new : World S H K) (status : Status)
    → (SourceRose s old.script new.script → ⊥) → (ShelfRose h old.files new.files → ⊥) → (status ≡ ending.BadWords → ⊥)
    → Ends s h k outcome names old new status → EndsMade k outcome old.report new.report status
ends_made s h k outcome names old new _ calm still other (Untouched is_bad nothing same) = absurd (other refl)
ends_made s h k outcome names old new _ calm still other (Whole source shelf sink taken asked whole) = MadeWhole sink whole
ends_made s h k outcome names old new _ calm still other (SourceFailed rose files report taken) = absurd (calm rose)
ends_made s h k outcome names old new _ calm still other (ShelfFailed j name within at source rose sink taken asked refused first) = absurd (still rose)
ends_made s h k outcome names old new _ calm still other (SinkFailed j within source shelf rose taken asked cut) = MadeSinkFailed j within rose cut
ends_made s h k outcome names old new _ calm still other (OutOfMemory j begun within few source shelf sink asked first) = MadeOutOfMemory j begun within few sink first

-- what is chosen, where the seed is this
pub outcome_made : (set : Settings) (left file script made : List ℕ) → left ≡ script → file ≡ made
    → said_outcome set (said left) (λ name. Some file) ≡ said_outcome set (said script) (λ name. Some made)
outcome_made set left file script made is_left is_file =
    ap (λ l. said_outcome set (said l) (λ name. Some file)) is_left ∙ ap (λ f. said_outcome set (said script) (λ name. Some f)) is_file

-- A call that ended before anything was asked.

pub memory_made : {K : Type 0} (k : SinkOf K) (outcome : RunOutcome) (report : K) → EndsMade k outcome report report ending.NoMemory
memory_made k outcome report = MadeOutOfMemory 0 0 (omega arith) (inl (refl, refl)) refl (nothing k report)

pub memory_as : {S H K : Type 0} (s : SourceOf S) (h : ShelfOf H) (k : SinkOf K) (outcome : RunOutcome) (asking : Asking) (source : S) (files : H) (report : K)
    → EndsAs s h k outcome asking (record { script = source; files = files; report = report }) (record { script = source; files = files; report = report }) ending.NoMemory
memory_as s h k outcome (OfOutside names) source files report = no_memory s h k outcome names source source files report refl
memory_as s h k outcome OfNothing source files report = ((refl, refl), memory_made k outcome report)

pub memory_takes : {S H K : Type 0} (s : SourceOf S) (h : ShelfOf H) (asking : Asking) (world : World S H K) → TakesAs s h asking world world ending.NoMemory
memory_takes s h (OfOutside names) world = tt
memory_takes s h OfNothing world = (refl, refl)

pub words_take : {S H K : Type 0} (s : SourceOf S) (h : ShelfOf H) (asking : Asking) (world : World S H K) → TakesAs s h asking world world ending.BadWords
words_take s h (OfOutside names) world = refl
words_take s h OfNothing world = (refl, refl)

pub asks_none : {H : Type 0} (h : ShelfOf H) (asking : Asking) (files : H) → AsksAs h asking files files
asks_none h (OfOutside names) files = (zero, refl)
asks_none h OfNothing files = refl

-- What the words set.

pub told_both : {Source Shelf : Type 0} (seed : Option ℕ) → Source → Shelf → IsTold seed Source Shelf
told_both None source shelf = (source, shelf)
told_both (Some seed) source shelf = tt

pub told_made : (Source Shelf : Type 0) (seed : Option ℕ) → IsSome seed → IsTold seed Source Shelf
told_made Source Shelf None some = let no = some in cc
told_made Source Shelf (Some seed) some = tt

pub seed_is : (words : List (List ℕ)) (set : Settings) → settings_of words ≡ Some set → IsSome (seed_set words) → IsSome set.seed
seed_is words set is some = subst (λ found. IsSome (seed_in found)) is some

pub no_seed : (words : List (List ℕ)) → settings_of words ≡ None → IsSome (seed_set words) → ⊥
no_seed words is some = let none : IsSome (seed_in None) = subst (λ found. IsSome (seed_in found)) is some in cc

pub ends_refused : {S H K : Type 0} (words : List (List ℕ)) (left : List ℕ) (s : SourceOf S) (h : ShelfOf H) (k : SinkOf K) (files : List ℕ → Option (List ℕ)) (world : World S H K)
    → settings_of words ≡ None → EndsAs s h k (run_outcome words left files) (run_asking words left) world world ending.BadWords
ends_refused words left s h k files world is =
    subst (λ found. EndsAs s h k (outcome_set found left files) (asking_of (seed_in found) left) world world ending.BadWords) (sym is) (Untouched refl refl refl)

module _ (words : List (List ℕ)) (set : Settings) (left : List ℕ) (is : settings_of words ≡ Some set) where
  pub ends_set : {S H K : Type 0} (s : SourceOf S) (h : ShelfOf H) (k : SinkOf K) (files : List ℕ → Option (List ℕ)) (old new : World S H K) (status : Status)
      → EndsAs s h k (said_outcome set (said (chosen_script set.seed left)) (chosen_files set.seed files)) (asking_of set.seed left) old new status
      → EndsAs s h k (run_outcome words left files) (run_asking words left) old new status
  ends_set s h k files old new status ends =
      subst (λ found. EndsAs s h k (outcome_set found left files) (asking_of (seed_in found) left) old new status) (sym is) ends

  pub takes_set : {S H K : Type 0} (s : SourceOf S) (h : ShelfOf H) (old new : World S H K) (status : Status)
      → TakesAs s h (asking_of set.seed left) old new status → TakesAs s h (run_asking words left) old new status
  takes_set s h old new status takes = subst (λ found. TakesAs s h (asking_of (seed_in found) left) old new status) (sym is) takes

  pub says_set : {K : Type 0} (k : SinkOf K) (old new : K) (status : Status) → SaysAt k (chosen_script set.seed left) old new status
      → SaysAt k (chosen_script (seed_set words) left) old new status
  says_set k old new status says = subst (λ found. SaysAt k (chosen_script (seed_in found) left) old new status) (sym is) says

  pub asks_set : {H : Type 0} (h : ShelfOf H) (old new : H) → AsksAs h (asking_of set.seed left) old new → AsksAs h (run_asking words left) old new
  asks_set h old new asks = subst (λ found. AsksAs h (asking_of (seed_in found) left) old new) (sym is) asks

-- A call for which the outcome has status 0, and in which no fault rose.

complete_made : {K : Type 0} (k : SinkOf K) (outcome : RunOutcome) (old new : K) (status : Status) → EndsMade k outcome old new status → outcome.status ≡ ending.Done
    → (SinkRose k old new → ⊥) → IsCompleteWith k outcome old new (code_of status)
complete_made k outcome old new _ (MadeWhole sink whole) is none = inr (ap code_of is, whole)
complete_made k outcome old new _ (MadeSinkFailed j within rose cut) is none = absurd (none rose)
complete_made k outcome old new _ (MadeOutOfMemory j begun within few sink first) is none = inl refl

pub complete_as : {S H K : Type 0} (s : SourceOf S) (h : ShelfOf H) (k : SinkOf K) (outcome : RunOutcome) (asking : Asking) (old new : World S H K) (status : Status) (number : ℕ)
    → number ≡ code_of status → EndsAs s h k outcome asking old new status → outcome.status ≡ ending.Done → NoFault s h k old new
    → IsCompleteWith k outcome old.report new.report number
complete_as s h k outcome (OfOutside names) old new status number is ends done none =
    subst (IsCompleteWith k outcome old.report new.report) (sym is) (complete s h k outcome names old new status ends done none)
complete_as s h k outcome OfNothing old new status number is ends done none =
    subst (IsCompleteWith k outcome old.report new.report) (sym is) (complete_made k outcome old.report new.report status ends.1 done none.2)
