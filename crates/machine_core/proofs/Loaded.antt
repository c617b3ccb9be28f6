use Rattle.std.proofs.Common.{◌≡◌, ℕ, ◌+◌, ◌*◌, ◌<◌, ◌≤◌, nat_lt, Bool, true, false, cond, List, [], ◌∷◌, map, sym, ap, ◌∙◌, refl, arith, Option, Some, None, Err}
use Rattle.std.specs.Option.{is_some, option_map, unwrap_or}
use Rattle.std.specs.FinMap.{FinMap, get, insert, remove}
use Rattle.std.specs.Ordering.{nat_cmp}
use Rattle.std.proofs.lemmas.Bool.Decides.{nat_tests}
use Rattle.number_maps.specs.Keys.{alike, by_key, get_other, get_same, removed_other, removed_same}
use Rattle.sizes.specs.declared.TheConstants.{STACK_POINTER}
use Rattle.ovl_io.specs.declared.process_state.ProcessState.TheVariants.{Running}
use Rattle.elf_loader.specs.Accepted.{file_refusal}
use Rattle.elf_loader.specs.Fields.{entry_address}
use Rattle.elf_loader.specs.Image.{image_pages, is_stored, listed_page}
use Rattle.elf_loader.specs.declared.image.ImagePage.{ImagePage}
use Rattle.ledger.specs.AlikeLaws.{alike_altered}
use Rattle.ledger.specs.Units.{units}
use Rattle.rv_execute.specs.Registers.{Registers, first_registers}
use Rattle.overlay_pages.specs.Changes.{limit_of, units_of}
use Rattle.overlay_memory.specs.Room.{IsShort}
use Rattle.overlay_memory.specs.declared.error.Shortage.{Shortage}
use Rattle.overlay_memory.specs.declared.error.SpaceError.TheVariants.{Full}
use Rattle.overlay_pages.specs.State.{SpaceState, State, base_of, books}
use Rattle.space_maps.specs.Spaces.{bare_space, cut_space, holds_space, space_in}
use Rattle.machine_core.specs.declared.process.Process as declared
use Rattle.machine_core.specs.Machine.{Machine, has_space, kept_whole, lists_of, none_saved, processes_of, shown_process, spaces_of, whole_in, wholes}
use Rattle.machine_core.specs.Laws.{processes_at, whole_by}
use Rattle.machine_core.specs.Load.{IsLoaded, Loads, is_load_full, load_needs, loaded_process, stored_count, stored_pages}
use Rattle.machine_core.specs.Loading.{IsSpaceOf}
use Rattle.machine_core.proofs.Marks.{units_after_load}
use Rattle.machine_core.proofs.Spaces.{absent_at, ledger_absent}

-- The machine with a process that was loaded.

space_by : (x y : State) (q : ℕ) → get x.spaces q ≡ get y.spaces q → space_in x q ≡ space_in y q
unfolding space_in
space_by x y q same = ap (λ (o : Option SpaceState). unwrap_or o bare_space) same

module _ (file : List ℕ) (p : ℕ) (old new : Machine) (extension : new.extension ≡ old.extension) (lists : lists_of new ≡ lists_of old) (has : IsSpaceOf file p (spaces_of old) (spaces_of new))
    (processes : new.processes ≡ insert old.processes p (shown_process (loaded_process file))) where
  whole_is : whole_in (spaces_of new) p (shown_process (loaded_process file)) ≡ loaded_process file
  whole_is =
      let kept = ap (λ b. cond b (Some (kept_whole (base_of (spaces_of new) p) none_saved)) None) has.mark in
      λ i. record { registers = first_registers (entry_address file) STACK_POINTER; state = Running; memory = has.memory i; kept = kept i }

  others_by : (q : ℕ) → (q ≡ p → ⊥) → (o : Option declared.Process) → option_map (whole_in (spaces_of new) q) o ≡ option_map (whole_in (spaces_of old) q) o
  others_by q other None = refl
  others_by q other (Some process) = ap Some (whole_by (spaces_of new) (spaces_of old) q (space_by (spaces_of new) (spaces_of old) q (has.others q other)) process)

  all_are : processes_of new ≡ insert (processes_of old) p (loaded_process file)
  all_are = alike _ _ (λ q. processes_at new q ∙ by_key q p
      (λ same. ap (λ n. option_map (whole_in (spaces_of new) n) (get new.processes n)) same
      ∙ ap (λ (m : FinMap nat_cmp declared.Process). option_map (whole_in (spaces_of new) p) (get m p)) processes
      ∙ ap (option_map (whole_in (spaces_of new) p)) (get_same old.processes p p (shown_process (loaded_process file)) refl)
      ∙ ap Some whole_is ∙ sym (get_same (processes_of old) p q (loaded_process file) same))
      (λ other. ap (λ (m : FinMap nat_cmp declared.Process). option_map (whole_in (spaces_of new) q) (get m q)) processes
      ∙ ap (option_map (whole_in (spaces_of new) q)) (get_other old.processes p q (shown_process (loaded_process file)) other)
      ∙ others_by q other (get old.processes q) ∙ sym (processes_at old q) ∙ sym (get_other (processes_of old) p q (loaded_process file) other)))

  pub loaded : IsLoaded p file old new
  loaded = record {
    like = record { processes = all_are; ledger = alike_altered _ _ has.ledger; frames = has.frames; extension = extension; translations = lists };
    processes = processes;
    there = has.there;
    none_awaits = has.none_awaits;
    others = record {
      spaces = λ q other. space_by (spaces_of new) (spaces_of old) q (has.others q other);
      there = λ q other. ap is_some (has.others q other);
      processes = λ q other. ap (λ (m : FinMap nat_cmp declared.Process). get m q) processes ∙ get_other old.processes p q (shown_process (loaded_process file)) other;
    };
  }

-- a space that was made, and given up again
pub taken_back : (file : List ℕ) (p : ℕ) (old now new : State) → holds_space old p ≡ false → IsSpaceOf file p old now → new ≡ cut_space now p → new ≡ old
unfolding cut_space
taken_back file p old now new absent has cut =
    let spaces : remove now.spaces p ≡ old.spaces = alike _ _ (λ q. by_key q p
    (λ same. removed_same now.spaces p q same ∙ sym (ap (get old.spaces) same ∙ absent_at old p absent))
    (λ other. removed_other now.spaces p q other ∙ has.others q other)) in
    cut ∙ (λ i. record { spaces = spaces i; frames = has.frames i; zero_frame = has.zero_frame i })

-- the process that a load makes
pub made_process : (file : List ℕ) (regs : Registers) → regs ≡ first_registers (entry_address file) STACK_POINTER
    → ◌≡◌ {A = declared.Process} (record { regs = regs; state = Running; saved = None }) (shown_process (loaded_process file))
made_process file regs is = ap (λ r. record { regs = r; state = Running; saved = None }) is

-- how many units a load needs
marks_are : (file : List ℕ) (ps : List ℕ) → map (λ (page : ImagePage). page.stored) (map (listed_page file) ps) ≡ map (is_stored file) ps
marks_are file [] = refl
marks_are file (p ∷ ps) = ap (λ (bs : List Bool). is_stored file p ∷ bs) (marks_are file ps)

pub stored_is : (file : List ℕ) (items : List ImagePage) → items ≡ map (listed_page file) (image_pages file)
    → stored_count (map (λ page. page.stored) items) ≡ stored_pages file
unfolding stored_pages
stored_is file items same = ap (λ (xs : List ImagePage). stored_count (map (λ page. page.stored) xs)) same ∙ ap stored_count (marks_are file (image_pages file))

pub needed_is : (file : List ℕ) (p : ℕ) (old : Machine) → file_refusal file ≡ None → has_space old p ≡ false
    → load_needs p file (wholes old) ≡ units_of (spaces_of old) + 16 * stored_pages file
needed_is file p old taken absent = units_after_load p file (books (spaces_of old)) taken (ledger_absent (spaces_of old) p absent)

full_by : (limit needed : ℕ) → limit < needed → nat_lt limit needed ≡ true
full_by limit needed h = grind (arith, nat_tests)

not_full_by : (limit needed : ℕ) → needed ≤ limit → nat_lt limit needed ≡ false
not_full_by limit needed h = by_test (nat_lt limit needed) refl
  where
    by_test : (b : Bool) → nat_lt limit needed ≡ b → b ≡ false
    by_test true e = absurd (grind (arith, nat_tests))
    by_test false e = refl

-- the units that are counted are those that it needs, and the limit is that of the machine
pub counted : (file : List ℕ) (p : ℕ) (old : Machine) (inside : State) (items : List ImagePage) (units stored : ℕ) → file_refusal file ≡ None → has_space old p ≡ false
    → inside ≡ spaces_of old → items ≡ map (listed_page file) (image_pages file)
    → units ≡ units_of inside → stored ≡ stored_count (map (λ page. page.stored) items) → units + 16 * stored ≡ load_needs p file (wholes old)
counted file p old inside items units stored taken absent same listed units_is stored_in =
    let all = needed_is file p old taken absent in
    let count = stored_in ∙ stored_is file items listed in
    let now = units_is ∙ ap units_of same in
    omega (arith, all, count, now)

-- where they are within it, and where they exceed it
pub not_full_at : (file : List ℕ) (p : ℕ) (old : Machine) (inside : State) (needed : ℕ) → inside ≡ spaces_of old → needed ≡ load_needs p file (wholes old)
    → needed ≤ limit_of inside → is_load_full p file (wholes old) ≡ false
not_full_at file p old inside needed same is fits =
    let limit = ap limit_of same in not_full_by (limit_of (spaces_of old)) (load_needs p file (wholes old)) (omega (arith, is, fits, limit))

pub full_at : (file : List ℕ) (p : ℕ) (old : Machine) (inside : State) (needed : ℕ) (shortage : Shortage) → inside ≡ spaces_of old
    → needed ≡ load_needs p file (wholes old) → IsShort needed (limit_of inside) shortage
    → Loads p file old old (Err (Full shortage.needed shortage.limit))
full_at file p old inside needed shortage same is short =
    let limit = ap limit_of same in
    let over = short.over in
    let one = short.needed_is in
    let two = short.limit_is in
    (one ∙ is, two ∙ limit, full_by (limit_of (spaces_of old)) (load_needs p file (wholes old)) (omega (arith, over, one, two, is, limit)), refl)
