use Rattle.std.proofs.Common.{◌≡◌, ℕ, ◌<◌, ◌≤◌, zero, suc, Bool, true, false, cond, ◌||◌, List, [], ◌∷◌, map, length, get_or, sym, ap, subst, ◌∙◌, refl, arith, inl, inr, Option, Some, None}
use Rattle.std.specs.Prelude.{nat_le, slice_get}
use Rattle.std.specs.Option.{is_some, option_map, option_map_or, unwrap_or, MatchOption}
use Rattle.std.specs.List.Sorted.{IsStrictlyIncreasing}
use Rattle.std.specs.List.{All, filter}
use Rattle.std.specs.FinMap.{get, insert, entries, get-entries}
use Rattle.std.proofs.lemmas.Bool.{cases_lt, cases_order}
use Rattle.std.proofs.lemmas.Bool.Decides.{nat_tests}
use Rattle.space_maps.specs.Spaces.{space_in}
use Rattle.by_number.specs.Values.{IsNextNumber}
use Rattle.number_maps.specs.Keys.{alike, by_key, get_other, get_same}
use Rattle.overlay_pages.specs.State.{SpaceState, State, base_of}
use Rattle.ovl_io.specs.declared.process_state.ProcessState.TheVariants.{Running}
use Rattle.overlay_memory.specs.View.{TranslatedView, state_of}
use Rattle.machine_core.specs.Process.{Process, runs}
use Rattle.machine_core.specs.declared.process.Process as declared
use Rattle.machine_core.specs.declared.process.SavedRegs.{SavedRegs}
use Rattle.machine_core.specs.Machine.{AreLike, Machine, Processes, Wholes, has_saved, is_marked, is_running, kept_whole, keys_from, none_saved, processes_of, registers_at, registers_of, registers_shown, running_numbers, saved_of, shown_at, shown_process, spaces_of, whole_in, wholes}
use Rattle.machine_core.specs.Turns.{AreLikeGuests, Guest, guest_at, guest_of, with_guest}
use Rattle.machine_core.specs.Laws.{after_both, leads, processes_at, runs_shown, whole_by}
use Rattle.machine_core.specs.Kept.{IsBeside, IsChanged, IsRunningList, guest_in, machine_of}
use Rattle.machine_core.specs.NumberLaws.{entries_rise, in_passing, numbers_are, numbers_rise, rises_passing}
use Rattle.machine_core.proofs.Stepping.{of_running}
use Rattle.machine_core.proofs.Listed.{runs_found}
use Rattle.ascending_numbers.specs.Numbers.{Numbers, is_in}
use Rattle.ascending_numbers.specs.Rising.{Rises, found_in, none_below, rises, same_is, same_rising}

-- What a machine says of its processes.

-- a process that is there, in its place
pub guest_is : (machine : Machine) (p : ℕ) (process : declared.Process) → get machine.processes p ≡ Some process
    → guest_at (wholes machine) p ≡ Some (guest_in machine.extension p machine.memory process)
guest_is machine p process there =
    ap (option_map (guest_of (wholes machine))) (processes_at machine p ∙ ap (option_map (whole_in (spaces_of machine) p)) there)

-- one that runs is there, and in the state of running
pub none_runs : (machine : Machine) (p : ℕ) → get machine.processes p ≡ None → is_running (wholes machine) p ≡ true → ⊥
none_runs machine p none run = let no : true ≡ false = sym run ∙ runs_shown machine p ∙ ap runs_found none in cc

pub state_is : (machine : Machine) (p : ℕ) (process : declared.Process) → get machine.processes p ≡ Some process → is_running (wholes machine) p ≡ true → process.state ≡ Running
state_is machine p process there run =
    of_running process.state (sym (runs_shown machine p ∙ ap runs_found there) ∙ run)

module _ (machine : Machine) (p : ℕ) where
  abbrev spaces : State
  spaces = spaces_of machine

  registers_seen : (o : Option declared.Process) → registers_shown o ≡ option_map registers_of (option_map (whole_in spaces p) o)
  registers_seen None = refl
  registers_seen (Some process) = refl

  pub registers_are : registers_shown (get machine.processes p) ≡ registers_at (wholes machine) p
  registers_are = registers_seen (get machine.processes p) ∙ sym (ap (option_map registers_of) (processes_at machine p))

  -- what is saved, where that agrees with the mark
  saved_seen : (mark : Bool) (saved : Option SavedRegs) → mark ≡ is_some saved
      → saved ≡ option_map saved_of (cond mark (Some (kept_whole (base_of spaces p) (unwrap_or saved none_saved))) None)
  saved_seen true (Some saved) agree = refl
  saved_seen false None agree = refl
  saved_seen true None agree = cc
  saved_seen false (Some saved) agree = cc

  shown_seen : (o : Option declared.Process) → is_marked machine p ≡ option_map_or (λ (process : declared.Process). is_some process.saved) o false
      → o ≡ option_map shown_process (option_map (whole_in spaces p) o)
  shown_seen None agree = refl
  shown_seen (Some process) agree =
      let saved = saved_seen (is_marked machine p) process.saved agree in
      ap (λ (s : Option SavedRegs). Some (record { regs = process.regs; state = process.state; saved = s })) saved

  pub is_shown : is_marked machine p ≡ has_saved machine p → get machine.processes p ≡ shown_at (wholes machine) p
  is_shown agree = shown_seen (get machine.processes p) agree ∙ sym (ap (option_map shown_process) (processes_at machine p))

-- spaces that stay are beside
pub same_beside : (p : ℕ) (old new : State) → new ≡ old → IsBeside p old new
same_beside p old new same = subst (λ s. IsBeside p s new) same (record { spaces = λ q other. refl; there = λ q. refl; awaiting = refl; mark = refl })

-- A process was changed with its space, but for what is saved of it.
module _ (f : Guest → Guest) (like : (g h : Guest) → AreLikeGuests g h → AreLikeGuests (f g) (f h)) (p : ℕ) (old : Machine) (memory : TranslatedView) (process next : declared.Process) (there : get old.processes p ≡ Some process)
    (done : AreLikeGuests (guest_in old.extension p memory next) (f (guest_in old.extension p old.memory process)))
    (saved : next.saved ≡ process.saved) (beside : IsBeside p (spaces_of old) (state_of memory)) where
  abbrev new : Machine
  new = machine_of old.extension memory (insert old.processes p next)

  here : get new.processes p ≡ Some next
  here = get_same old.processes p p next refl

  elsewhere : (q : ℕ) → (q ≡ p → ⊥) → get new.processes q ≡ get old.processes q
  elsewhere q other = get_other old.processes p q next other

  others_seen : (q : ℕ) → (q ≡ p → ⊥) → (o : Option declared.Process) → option_map (whole_in (spaces_of new) q) o ≡ option_map (whole_in (spaces_of old) q) o
  others_seen q other None = refl
  others_seen q other (Some process) = ap Some (whole_by (spaces_of new) (spaces_of old) q (beside.spaces q other) process)

  abbrev guest : Guest
  guest = f (guest_in old.extension p old.memory process)

  processes_put : processes_of new ≡ insert (processes_of old) p guest.process
  processes_put = alike _ _ (λ q. processes_at new q ∙ by_key q p
      (λ same. ap (λ n. option_map (whole_in (spaces_of new) n) (get new.processes n)) same ∙ ap (option_map (whole_in (spaces_of new) p)) here
      ∙ ap Some done.process ∙ sym (get_same (processes_of old) p q guest.process same))
      (λ other. ap (option_map (whole_in (spaces_of new) q)) (elsewhere q other) ∙ others_seen q other (get old.processes q)
      ∙ sym (processes_at old q) ∙ sym (get_other (processes_of old) p q guest.process other)))

  wholes_put : AreLike (wholes new) (with_guest (wholes old) p guest)
  wholes_put = record { processes = processes_put; ledger = done.ledger; frames = done.frames; extension = done.extension; translations = done.translations }

  abbrev after : Wholes → Wholes
  after state = option_map_or (λ g. with_guest state p (f g)) (guest_at state p) state

  pub changed : IsChanged p old new after
  changed = record {
    stands = leads after old new (λ a b both. after_both p a b both f like)
        (subst (AreLike (wholes new)) (sym (ap (λ (o : Option Guest). option_map_or (λ g. with_guest (wholes old) p (f g)) o (wholes old)) (guest_is old p process there))) wholes_put);
    others = record { spaces = beside.spaces; there = λ q other. beside.there q; processes = elsewhere };
    places = record {
      spaces = beside.there;
      awaiting = λ q. by_key q p
          (λ same. subst (λ n. (space_in (spaces_of new) n).awaiting ≡ (space_in (spaces_of old) n).awaiting) (sym same) beside.awaiting)
          (λ other. ap (λ (s : SpaceState). s.awaiting) (beside.spaces q other));
      processes = λ q. by_key q p
          (λ same. subst (λ n. is_some (get new.processes n) ≡ is_some (get old.processes n)) (sym same) (ap is_some here ∙ sym (ap is_some there)))
          (λ other. ap is_some (elsewhere q other));
      marks = λ q. by_key q p
          (λ same. subst (λ n. is_marked new n ≡ is_marked old n) (sym same) beside.mark)
          (λ other. ap (λ (s : SpaceState). s.speculating) (beside.spaces q other));
      saves = λ q. by_key q p
          (λ same. subst (λ n. has_saved new n ≡ has_saved old n) (sym same) (ap saves here ∙ ap is_some saved ∙ sym (ap saves there)))
          (λ other. ap saves (elsewhere q other));
    };
  }
    where
      saves : Option declared.Process → Bool
      saves o = option_map_or (λ (process : declared.Process). is_some process.saved) o false

-- what is read off the processes alone
pub shows_both : (p : ℕ) (a b : Wholes) → AreLike a b → shown_at a p ≡ shown_at b p
shows_both p a b like = ap (λ (ps : Processes). option_map shown_process (get ps p)) like.processes

pub registers_both : (p : ℕ) (a b : Wholes) → AreLike a b → registers_at a p ≡ registers_at b p
registers_both p a b like = ap (λ (ps : Processes). option_map registers_of (get ps p)) like.processes

pub numbers_both : (a b : Wholes) → AreLike a b → running_numbers a ≡ running_numbers b
numbers_both a b like = ap (λ (ps : Processes). map (λ e. e.0) (filter (λ e. runs e.1.state) (entries ps))) like.processes

-- the list that is kept
pub running_is : (machine : Machine) (running : Numbers) → IsStrictlyIncreasing running.items → IsRunningList machine.processes running
    → running.items ≡ running_numbers (wholes machine)
running_is machine running ascending kept =
    same_rising 0 running.items (running_numbers (wholes machine)) (rises running.items ascending) (numbers_rise (wholes machine))
    (λ q. kept.listed q ∙ sym (runs_shown machine q) ∙ sym (numbers_are (wholes machine) q))

pub each_runs : (machine : Machine) (running : Numbers) → IsRunningList machine.processes running → All (λ p. is_running (wholes machine) p ≡ true) running.items
each_runs machine running kept = λ k d below.
    let p = get_or running.items k d in
    let at : get_or running.items k 0 ≡ p = same_default running.items k d below in
    runs_shown machine p ∙ sym (kept.listed p) ∙ found_in running.items k p below at
  where
    same_default : (xs : List ℕ) (k d : ℕ) → k < length xs → get_or xs k 0 ≡ get_or xs k d
    same_default [] k d below = absurd (omega arith)
    same_default (x ∷ xs) zero d below = refl
    same_default (x ∷ xs) (suc k) d below = same_default xs k d (omega arith)

-- the numbers from one on
keys_rise : (from : ℕ) (all : Wholes) → Rises 0 (keys_from from all)
keys_rise from all = rises_passing (λ e. nat_le from e.0) 0 (entries all.processes) (entries_rise all.processes)

keys_are : (machine : Machine) (from q : ℕ) → is_in (keys_from from (wholes machine)) q ≡ option_map_or (λ process. nat_le from q) (get machine.processes q) false
keys_are machine from q =
    let all = (wholes machine).processes in
    in_passing (λ e. nat_le from e.0) 0 (entries all) q (entries_rise all)
    ∙ ap (λ (o : Option Process). option_map_or (λ process. nat_le from q) o false) (sym (get-entries all q) ∙ processes_at machine q)
    ∙ by_process (get machine.processes q)
  where
    by_process : (o : Option declared.Process) → option_map_or (λ (process : Process). nat_le from q) (option_map (whole_in (spaces_of machine) q) o) false
        ≡ option_map_or (λ (process : declared.Process). nat_le from q) o false
    by_process None = refl
    by_process (Some process) = refl

first_is : (ks : List ℕ) (p : ℕ) → Rises 0 ks → is_in ks p ≡ true → ((q : ℕ) → q < p → is_in ks q ≡ false) → slice_get ks 0 ≡ Some p
first_is [] p h has least = cc
first_is (x ∷ ks) p h has least = elim (cases_order x p) [
  | inl e ↦ ap Some e
  | inr (inl below) ↦ absurd (let not_in = least x below in let here = ap (λ b. b || is_in ks x) (same_is x x refl) in cc)
  | inr (inr above) ↦ absurd (let not_in = none_below x (x ∷ ks) p (omega arith, h.1) above in cc)
]

none_are : (ks : List ℕ) → ((q : ℕ) → is_in ks q ≡ false) → ks ≡ []
none_are [] none = refl
none_are (x ∷ ks) none = absurd (let not_in = none x in let here = ap (λ b. b || is_in ks x) (same_is x x refl) in cc)

is_there : (o : Option declared.Process) → is_some o ≡ true → (from q : ℕ) → from ≤ q → option_map_or (λ process. nat_le from q) o false ≡ true
is_there None h from q le = h
is_there (Some process) h from q le = grind (arith, nat_tests)

is_lower : (o : Option declared.Process) (from q : ℕ) → q < from → option_map_or (λ process. nat_le from q) o false ≡ false
is_lower None from q below = refl
is_lower (Some process) from q below = by_test (nat_le from q) refl
  where
    by_test : (b : Bool) → nat_le from q ≡ b → b ≡ false
    by_test true e = absurd (grind (arith, nat_tests))
    by_test false e = refl

module _ (machine : Machine) (from : ℕ) where
  absent : (q : ℕ) → get machine.processes q ≡ None → is_in (keys_from from (wholes machine)) q ≡ false
  absent q none = keys_are machine from q ∙ ap (λ (o : Option declared.Process). option_map_or (λ process. nat_le from q) o false) none

  lower_key : (q : ℕ) → q < from → is_in (keys_from from (wholes machine)) q ≡ false
  lower_key q below = keys_are machine from q ∙ is_lower (get machine.processes q) from q below

  pub next_is : (r : Option ℕ) → IsNextNumber machine.processes from r
      → MatchOption r (keys_from from (wholes machine) ≡ []) (λ p. slice_get (keys_from from (wholes machine)) 0 ≡ Some p)
  next_is None none = none_are _ (λ q. elim (cases_lt q from) [ inl below ↦ lower_key q below | inr le ↦ absent q (none q le) ])
  next_is (Some p) next =
      first_is _ p (keys_rise from (wholes machine)) (keys_are machine from p ∙ is_there (get machine.processes p) next.1 from p next.0)
      (λ q below. elim (cases_lt q from) [ inl lower ↦ lower_key q lower | inr le ↦ absent q (next.2 q le below) ])
