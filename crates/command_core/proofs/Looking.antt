use Rattle.std.proofs.Common.{◌≡◌, ℕ, ◌+◌, ◌<◌, ◌≤◌, suc, Bool, true, false, cond, List, [], ◌∷◌, map, sym, ap, subst, ◌∙◌, refl, arith, Option, Some, None}
use Rattle.std.specs.Prelude.{◌||◌, eqb, nat_le, slice_get, IfSome, Ok}
use Rattle.std.specs.Option.{is_some, option_map, MatchOption}
use Rattle.std.specs.List.{AllByRecursion, IsDistinct, filter, list_any}
use Rattle.std.specs.Ordering.{nat_cmp}
use Rattle.std.specs.FinMap.{find, get, len, entries, get-entries}
use Rattle.std.proofs.lemmas.Bool.{eqb-true, ne_eqb}
use Rattle.std.proofs.lemmas.List.{length-map}
use Rattle.std.proofs.lemmas.Option.{slice_get-map, slice_get_within}
use Rattle.std.proofs.lemmas.Bool.Decides.{nat_tests}
use Rattle.ovl_io.specs.Keys.{ties, differs}
use Rattle.number_maps.specs.Views.{len_viewed}
use Rattle.ovl_io.specs.declared.process_state.ProcessState.{ProcessState}
use Rattle.rv_execute.specs.Registers.{Registers}
use Rattle.ledger.specs.Units.{own_lines, units}
use Rattle.overlay_pages.specs.State.{State, books, memory_of, seen_page}
use Rattle.overlay_memory.specs.View.{TranslatedView, state_of, translations_of}
use Rattle.space_maps.specs.Spaces.{space_in}
use Rattle.machine_core.specs.declared.process.Process as declared
use Rattle.machine_core.specs.Machine.{Machine, Wholes, has_space, keys_from, unit_limit, registers_at, registers_of, registers_shown, spaces_of, whole_in, wholes}
use Rattle.machine_core.specs.Laws.{processes_at}
use Rattle.ascending_numbers.specs.Rising.{Rises}
use Rattle.machine_core.specs.NumberLaws.{entries_rise}
use Rattle.command_core.specs.declared.session.Counts.{Counts}
use Rattle.command_core.specs.declared.session.ProcessView.{ProcessView}
use Rattle.sizes.specs.declared.TheConstants.{LAST_SPACE}
use Rattle.command_core.specs.Sessions.{HasNoProcess, IsSession}
use Rattle.free_numbers.specs.Numbers.{is_number}
use Rattle.std.proofs.lemmas.Map.Steps.{length-le_from_distinct_below}
use Rattle.command_core.specs.declared.checkpoints.Kept.{Kept}
use Rattle.command_core.specs.declared.session.CheckpointView.{CheckpointView}
use Rattle.command_core.specs.Kept.{checkpoint_in, checkpoints_in, spaces_kept}
use Rattle.command_core.specs.Looks.{LooksAtCheckpoint, NextProcess, counts_of, looked_at}
use Rattle.command_core.proofs.Places.{marked_is}

-- Processes by number: the entries ascend, so those from a number on are the first of them and those behind it.

-- each number is above the one before, and the first isn't below one
abbrev Ascend : {X : Type 0} → ℕ → List (ℕ × X) → Type 0
Ascend k es = Rises k (map (λ e. e.0) es)

is_from : (k n : ℕ) → k ≤ n → nat_le k n ≡ true
is_from k n h = grind (arith, nat_tests)

not_from : (k n : ℕ) → n < k → nat_le k n ≡ false
not_from k n h = by_test (nat_le k n) refl
  where
    by_test : (b : Bool) → nat_le k n ≡ b → b ≡ false
    by_test true e = absurd (grind (arith, nat_tests))
    by_test false e = refl

-- those from a number on
abbrev passing : {X : Type 0} → ℕ → List (ℕ × X) → List (ℕ × X)
passing from es = filter (λ e. nat_le from e.0) es

all_pass : {X : Type 0} (from k : ℕ) (es : List (ℕ × X)) → from ≤ k → Ascend k es → passing from es ≡ es
all_pass from k [] le h = refl
all_pass from k (e ∷ es) le h =
    ap (λ b. cond b (e ∷ passing from es) (passing from es)) (is_from from e.0 (omega (arith, h.0)))
    ∙ ap (λ more. e ∷ more) (all_pass from (suc e.0) es (omega (arith, h.0)) h.1)

-- the first from a number on, and those behind it
abbrev FirstFrom : {X : Type 0} → ℕ → List (ℕ × X) → ℕ → Type 0
FirstFrom {X = X} from es p = (x : X) × (from ≤ p) × (find nat_cmp p es ≡ Some x) × (passing from es ≡ (p, x) ∷ passing (p + 1) es)

first_from : {X : Type 0} (from k p : ℕ) (es : List (ℕ × X)) → Ascend k es → slice_get (map (λ e. e.0) (passing from es)) 0 ≡ Some p → FirstFrom from es p
first_from from k p [] h starts = cc
first_from {X = X} from k p (e ∷ es) h starts = by_test (nat_le from e.0) refl (λ more. first_from from (suc e.0) p es h.1 more) starts
  where
    by_test : (b : Bool) → nat_le from e.0 ≡ b → (slice_get (map (λ e. e.0) (passing from es)) 0 ≡ Some p → FirstFrom from es p)
        → slice_get (map (λ e. e.0) (cond b (e ∷ passing from es) (passing from es))) 0 ≡ Some p → FirstFrom from (e ∷ es) p
    by_test true is behind same =
        let here : e.0 ≡ p = cc in
        let from_here : from ≤ e.0 = grind (arith, nat_tests) in
        subst (λ n. FirstFrom from (e ∷ es) n) here (
          e.1,
          from_here,
          ap (λ b. cond b (Some e.1) (find nat_cmp e.0 es)) (ties e.0 e.0 refl),
          ap (λ b. cond b (e ∷ passing from es) (passing from es)) is
              ∙ ap (λ more. e ∷ more) (all_pass from (suc e.0) es (omega (arith, from_here)) h.1 ∙ sym (all_pass (e.0 + 1) (suc e.0) es (omega arith) h.1))
              ∙ sym (ap (λ b. e ∷ cond b (e ∷ passing (e.0 + 1) es) (passing (e.0 + 1) es)) (not_from (e.0 + 1) e.0 (omega arith))),
        )
    by_test false is behind same =
        let (x, not_below, found, splits) = behind same in
        let below : e.0 < from = grind (arith, nat_tests) in (
          x,
          not_below,
          ap (λ b. cond b (Some e.1) (find nat_cmp p es)) (differs p e.0 (λ ties. omega (arith, ties, below, not_below))) ∙ found,
          ap (λ b. cond b (e ∷ passing from es) (passing from es)) is ∙ splits
              ∙ sym (ap (λ b. (p, x) ∷ cond b (e ∷ passing (p + 1) es) (passing (p + 1) es)) (not_from (p + 1) e.0 (omega (arith, below, not_below)))),
        )

no_key : {X : Type 0} (es : List (ℕ × X)) → map (λ e. e.0) es ≡ [] → es ≡ []
no_key [] h = refl
no_key (e ∷ es) h = cc

pub next_is : (all : Wholes) (from : ℕ) (r : Option ℕ)
    → MatchOption r (keys_from from all ≡ []) (λ p. slice_get (keys_from from all) 0 ≡ Some p) → NextProcess all.processes from r
next_is all from None none = no_key (passing from (entries all.processes)) none
next_is all from (Some p) starts =
    let (process, not_below, found, splits) = first_from from 0 p (entries all.processes) (entries_rise all.processes) starts in
    (process, get-entries all.processes p ∙ found, splits)

next_from : (all : Wholes) (from p : ℕ) → slice_get (keys_from from all) 0 ≡ Some p → (from ≤ p) × (is_some (get all.processes p) ≡ true)
next_from all from p starts =
    let (process, not_below, found, splits) = first_from from 0 p (entries all.processes) (entries_rise all.processes) starts in
    (not_below, ap is_some (get-entries all.processes p ∙ found))

-- a process has the number of a space
few : (machine : Machine) (spaces : List ℕ) (numbers : List (List ℕ)) (p : ℕ) → IsSession machine spaces numbers → is_some (get (wholes machine).processes p) ≡ true
    → p ≤ LAST_SPACE
few machine spaces numbers p is has = within (is.in_range p (is.own_space p (by_found (get machine.processes p) (sym (ap is_some (processes_at machine p)) ∙ has))))
  where
    by_found : (o : Option declared.Process) → is_some (option_map (whole_in (spaces_of machine) p) o) ≡ true → is_some o ≡ true
    by_found None h = cc
    by_found (Some process) h = refl

    within : is_number p ≡ true → p ≤ LAST_SPACE
    within number = grind (arith, nat_tests, number)

pub next_within : (machine : Machine) (spaces : List ℕ) (numbers : List (List ℕ)) (from : ℕ) (r : Option ℕ) → IsSession machine spaces numbers
    → MatchOption r (keys_from from (wholes machine) ≡ []) (λ p. slice_get (keys_from from (wholes machine)) 0 ≡ Some p)
    → IfSome r (λ p. (from ≤ p) × (p ≤ LAST_SPACE))
next_within machine spaces numbers from None is starts = tt
next_within machine spaces numbers from (Some p) is starts =
    let (not_below, has) = next_from (wholes machine) from p starts in (not_below, few machine spaces numbers p is has)

-- A process as it is shown, of its parts: its registers and its state, whether its space is marked, and how many pages that has.
abbrev pub shown : declared.Process → Bool → ℕ → ProcessView
shown process speculating pages = record { regs = process.regs; state = process.state; speculating = speculating; pages = pages }

by_parts : (spaces : State) (p : ℕ) (o : Option declared.Process) (there : declared.Process) (mark : Bool) (pages : ℕ)
    → registers_shown (Some there) ≡ option_map registers_of (option_map (whole_in spaces p) o) → mark ≡ (space_in spaces p).speculating
    → pages ≡ len (memory_of spaces p) → Ok (shown there mark pages) ≡ looked_at (option_map (whole_in spaces p) o)
by_parts spaces p None there mark pages shows is count = cc
by_parts spaces p (Some process) there mark pages shows is count =
    let marked = is ∙ sym (marked_is spaces p process (space_in spaces p).speculating refl) in
    let same : ◌≡◌ {A = Registers × ProcessState} (there.regs, there.state) (process.regs, process.state) = cc in
    λ i. Ok (record { regs = (same i).0; state = (same i).1; speculating = marked i; pages = count i })

pages_are : (spaces : State) (p : ℕ) → len (memory_of spaces p) ≡ len (space_in spaces p).pages
unfolding memory_of
pages_are spaces p = len_viewed (λ _ x. seen_page x) (space_in spaces p).pages

pub looked_is : (machine : Machine) (p : ℕ) (there : declared.Process) (mark : Bool) (pages : ℕ) → registers_shown (Some there) ≡ registers_at (wholes machine) p
    → mark ≡ (space_in (spaces_of machine) p).speculating → pages ≡ len (space_in (spaces_of machine) p).pages
    → Ok (shown there mark pages) ≡ looked_at (get (wholes machine).processes p)
looked_is machine p there mark pages shows is count =
    by_parts (spaces_of machine) p (get machine.processes p) there mark pages (shows ∙ ap (option_map registers_of) (processes_at machine p)) is (count ∙ sym (pages_are (spaces_of machine) p))
    ∙ ap looked_at (sym (processes_at machine p))

-- A checkpoint as it is shown, by its place.
module _ (spaces : State) (xs : List Kept) (index : ℕ) where
  shown_at : (o : Option Kept) → slice_get xs index ≡ o → slice_get (checkpoints_in spaces xs) index ≡ option_map (checkpoint_in spaces) o
  shown_at o is = slice_get-map (checkpoint_in spaces) xs index ∙ ap (option_map (checkpoint_in spaces)) is

  pub none_kept : slice_get xs index ≡ None → LooksAtCheckpoint (checkpoints_in spaces xs) index None
  none_kept none = shown_at None none

  pub kept_shown : (x : Kept) (view : CheckpointView) → slice_get xs index ≡ Some x → view.name.now ≡ x.name → view.space ≡ x.space → view.pages ≡ len (space_in spaces x.space).pages
      → LooksAtCheckpoint (checkpoints_in spaces xs) index (Some view)
  kept_shown x view is name space pages =
      (checkpoint_in spaces x, shown_at (Some x) is, record { name = name; space = space; pages = pages ∙ sym (pages_are spaces x.space) })

one_more : (q : ℕ) (qs : List ℕ) → AllByRecursion (λ r. eqb q r ≡ false) qs → IsDistinct eqb qs → IsDistinct eqb (q ∷ qs)
unfolding IsDistinct
one_more q qs apart once = (apart, once)

-- Its place is below the number of spaces: the spaces of checkpoints are so many numbers, each once.
numbers_within : (machine : Machine) (qs : List ℕ) → ((q : ℕ) → has_space machine q ≡ true → is_number q ≡ true) → AllByRecursion (HasNoProcess machine) qs
    → (q : ℕ) → list_any (eqb q) qs ≡ true → (1 ≤ q) × (q ≤ LAST_SPACE)
numbers_within machine [] in_range free q has = cc
numbers_within machine (x ∷ qs) in_range free q has = by_test (eqb q x) refl (numbers_within machine qs in_range free.1 q) has
  where
    here : is_number x ≡ true → q ≡ x → (1 ≤ q) × (q ≤ LAST_SPACE)
    here number same = (grind (arith, nat_tests, number, same), grind (arith, nat_tests, number, same))

    by_test : (b : Bool) → eqb q x ≡ b → (list_any (eqb q) qs ≡ true → (1 ≤ q) × (q ≤ LAST_SPACE)) → (b || list_any (eqb q) qs) ≡ true → (1 ≤ q) × (q ≤ LAST_SPACE)
    by_test true same rest h = here (in_range x free.0.0) (eqb-true q x same)
    by_test false other rest h = rest h

pub kept_within : (machine : Machine) (xs : List Kept) (numbers : List (List ℕ)) (index : ℕ) (x : Kept) → IsSession machine (spaces_kept xs) numbers
    → slice_get xs index ≡ Some x → index < LAST_SPACE
kept_within machine xs numbers index x is found =
    let inside = slice_get_within xs index x found in
    let same = length-map xs (λ (y : Kept). y.space) in
    let count = length-le_from_distinct_below (0 ∷ spaces_kept xs) (LAST_SPACE + 1) (one_more 0 (spaces_kept xs) (not_zero (spaces_kept xs) is.free) is.once) below in
    omega (arith, inside, count, same)
  where
    among : (q : ℕ) → list_any (eqb q) (spaces_kept xs) ≡ true → (1 ≤ q) × (q ≤ LAST_SPACE)
    among q has = numbers_within machine (spaces_kept xs) is.in_range is.free q has

    below : (q : ℕ) → list_any (eqb q) (0 ∷ spaces_kept xs) ≡ true → q < LAST_SPACE + 1
    below q has = by_test (eqb q 0) refl has
      where
        by_test : (b : Bool) → eqb q 0 ≡ b → (b || list_any (eqb q) (spaces_kept xs)) ≡ true → q < LAST_SPACE + 1
        by_test true same h = omega (arith, eqb-true q 0 same)
        by_test false other h = omega (arith, (among q h).1)

    not_zero : (qs : List ℕ) → AllByRecursion (HasNoProcess machine) qs → AllByRecursion (λ q. eqb 0 q ≡ false) qs
    not_zero [] free = tt
    not_zero (q ∷ qs) free = (zero_apart q (is.in_range q free.0.0), not_zero qs free.1)
      where
        zero_apart : (q : ℕ) → is_number q ≡ true → eqb 0 q ≡ false
        zero_apart q number = let low : 1 ≤ q = grind (arith, nat_tests, number) in ne_eqb 0 q (λ same. omega (arith, low, same))

-- The counts, by those of the memory.
pub counts_are : (machine : Machine) (memory : TranslatedView) (used most own hits misses : ℕ) → memory ≡ machine.memory → used ≡ units (books (state_of memory))
    → most ≡ unit_limit (state_of memory).frames → own ≡ own_lines (books (state_of memory)) → hits ≡ (translations_of memory).hits → misses ≡ (translations_of memory).misses
    → ◌≡◌ {A = Counts} (record { units = used; limit = most; lines = own; hits = hits; misses = misses }) (counts_of (wholes machine))
counts_are machine memory used most own hits misses same is_used is_most is_own is_hits is_misses =
    (λ i. record { units = is_used i; limit = is_most i; lines = is_own i; hits = is_hits i; misses = is_misses i })
    ∙ ap (λ (m : TranslatedView). counts_of (wholes (record { memory = m; processes = machine.processes; extension = machine.extension }))) same
