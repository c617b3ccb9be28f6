use Rattle.std.proofs.Common.{◌≡◌, ℕ, ◌<◌, ◌≤◌, Bool, true, false, cond, sym, ap, subst, ◌∙◌, refl, arith, Option, Some, None, List, [], ◌∷◌, ◌++◌}
use Rattle.std.specs.Option.{is_some, option_map, option_map_or, unwrap_or}
use Rattle.std.specs.List.{AllByRecursion, IsDistinct, list_any}
use Rattle.std.specs.Ordering.{nat_cmp}
use Rattle.std.specs.Prelude.{◌==◌, ◌&&◌, nat_eq, not}
use Rattle.std.proofs.lemmas.Bool.Decides.{nat_tests}
use Rattle.std.specs.FinMap.{FinMap, empty, get, get-empty, insert, remove}
use Rattle.number_maps.specs.Keys.{alike, by_key, get_other, get_same, removed_other, removed_same}
use Rattle.number_maps.specs.Views.{viewed, viewed_empty}
use Rattle.sizes.specs.declared.TheConstants.{LAST_SPACE}
use Rattle.overlay_pages.specs.Calls.{IsEmptyState}
use Rattle.overlay_pages.specs.State.{SpaceState, State, base_of, books, held_page, memory_of}
use Rattle.delta_spaces.specs.Gathered.{HasFitPages}
use Rattle.elf_loader.specs.Accepted.{file_refusal}
use Rattle.translation_cache.specs.Translations.{flushed, no_translations}
use Rattle.command_core.specs.declared.modes.Modes.{Modes}
use Rattle.command_core.specs.State.{fresh}
use Rattle.overlay_memory.specs.View.{state_of as spaces_in}
use Rattle.overlay_memory.specs.View.{TranslatedView}
use Rattle.space_maps.specs.Books.{books_empty}
use Rattle.space_maps.specs.Laws.{space_absent, space_left}
use Rattle.space_maps.specs.Spaces.{cut_space, holds_space, space_in}
use Rattle.machine_core.specs.Process.{Process, is_speculating}
use Rattle.machine_core.specs.declared.process.Process as declared
use Rattle.machine_core.specs.Machine.{KeepsPlaces, Machine, Processes, StaysBut, has_saved, has_space, is_marked, kept_whole, lists_of, none_saved, processes_of, shown_process, spaces_of, whole_in, wholes, with_memory, with_process_at}
use Rattle.machine_core.specs.Laws.{processes_at, whole_by}
use Rattle.machine_core.specs.Load.{IsAsBefore, IsLoaded, loaded_process}
use Rattle.command_core.specs.Sessions.{HasNoProcess, HaveFitPages, IsSession, KeepsSession, bases_of}
use Rattle.self_speculation.specs.Requests.{KeepsPairs}
use Rattle.self_speculation.specs.RequestLaws.{places_pairs}
use Rattle.ovl_io.specs.Memory.{Page}
use Rattle.process_runs.specs.Places.{KeepsAllPerms, KeepsFree}
use Rattle.process_runs.specs.PlaceLaws.{none_is, not_free, free_start}
use Rattle.free_numbers.specs.Numbers.{IsPut, is_in, is_number}
use Rattle.overlay_bits.specs.Below.{and_false, and_true}
use Rattle.translation_cache.specs.Absent.{HasNone, none_at_first, none_flushed, none_of_own}
use Rattle.translation_cache.specs.Bare.{BareTranslations}
use Rattle.command_core.specs.Rows.{flushed_by}
use Rattle.machine_core.specs.PermsLaws.{memory_shown}
use Rattle.command_core.proofs.Fitting.{fit_absent, fit_but, fit_loaded, fit_same}
use Rattle.command_core.proofs.Keeping.{any_last, any_left, each, each_more, none_twice, once_more}

-- Which spaces and processes are there.

-- nothing is translated by entries that go
pub none_flushed_by : (flushes : Option ℕ) (q : ℕ) (t : BareTranslations) → HasNone q t → HasNone q (flushed_by flushes t)
none_flushed_by None q t none = none
none_flushed_by (Some p) q t none = none_flushed q p t none

-- whether registers and state are kept, of a process that may be there
abbrev saved_of : Option declared.Process → Bool
saved_of found = option_map_or (λ (process : declared.Process). is_some process.saved) found false

-- a process is speculating where its space is marked
pub marked_is : (spaces : State) (p : ℕ) (process : declared.Process) (mark : Bool) → (space_in spaces p).speculating ≡ mark → is_speculating (whole_in spaces p process) ≡ mark
marked_is spaces p process mark is = ap (λ b. is_some (cond b (Some (kept_whole (base_of spaces p) (unwrap_or process.saved none_saved))) None)) is ∙ by_mark mark
  where
    by_mark : (b : Bool) → is_some (cond b (Some (kept_whole (base_of spaces p) (unwrap_or process.saved none_saved))) None) ≡ b
    by_mark true = refl
    by_mark false = refl

-- of a process with its memory
pub mark_at : (machine : Machine) (p : ℕ) (whole : Process) → get (processes_of machine) p ≡ Some whole → is_marked machine p ≡ is_speculating whole
mark_at machine p whole there = by_found (get machine.processes p) (sym (processes_at machine p) ∙ there)
  where
    by_found : (o : Option declared.Process) → option_map (whole_in (spaces_of machine) p) o ≡ Some whole → is_marked machine p ≡ is_speculating whole
    by_found None shown = cc
    by_found (Some process) shown =
        sym (marked_is (spaces_of machine) p process (is_marked machine p) refl)
        ∙ ap (λ (o : Option Process). option_map_or (λ (q : Process). is_speculating q) o false) shown

-- what a session keeps stays so

pub session_kept : (old new : Machine) (spaces : List ℕ) (numbers : List (List ℕ)) → IsSession old spaces numbers → KeepsPairs old new → KeepsFree old new → KeepsAllPerms old new
    → IsSession new spaces numbers
session_kept old new spaces numbers is same free perms = record {
  are_free = λ p. is.are_free p ∙ ap (λ b. is_number p && not b) (sym (same.spaces p));
  in_range = λ p some. is.in_range p (sym (same.spaces p) ∙ some);
  own_space = λ p some. same.spaces p ∙ is.own_space p (sym (same.processes p) ∙ some);
  owned = λ p some none. is.owned p (sym (same.spaces p) ∙ some) (before p none);
  none_awaits = λ p. same.awaiting p ∙ is.none_awaits p;
  kept = λ p. same.kept p (is.kept p);
  free = each (HasNoProcess old) (HasNoProcess new) spaces
      (λ q h. (same.spaces q ∙ h.0, none_is (get new.processes q) (same.processes q ∙ ap is_some h.1))) is.free;
  once = is.once;
  unseen = λ p none. free.unseen p (before p none) (is.unseen p (before p none));
  fit = λ p. fit_same (memory_of (spaces_of old) p) (memory_of (spaces_of new) p) (perms p) (is.fit p);
}
  where
    before : (p : ℕ) → get new.processes p ≡ None → get old.processes p ≡ None
    before p none = none_is (get old.processes p) (sym (same.processes p) ∙ ap is_some none)

module _ (machine : Machine) (modes : Modes) (none : IsEmptyState modes.frames (spaces_of machine)) (no_processes : machine.processes ≡ empty) (extension : machine.extension ≡ modes.extension) where
  no_space_yet : (p : ℕ) → get (spaces_of machine).spaces p ≡ None
  no_space_yet p = ap (λ m. get m p) none.spaces ∙ get-empty nat_cmp p

  no_process_yet : (p : ℕ) → get machine.processes p ≡ None
  no_process_yet p = ap (λ m. get m p) no_processes ∙ get-empty nat_cmp p

  pub session_start : (numbers : List (List ℕ)) → ((p : ℕ) → is_in numbers p ≡ is_number p) → lists_of machine ≡ no_translations → IsSession machine [] numbers
  session_start numbers all no_lists = record {
    are_free = λ p. all p ∙ sym (ap (λ b. is_number p && not b) (ap is_some (no_space_yet p)) ∙ and_true (is_number p));
    in_range = λ p some. let both : false ≡ true = sym (ap is_some (no_space_yet p)) ∙ some in cc;
    own_space = λ p some. let lacks = ap is_some (no_process_yet p) in let both : false ≡ true = sym lacks ∙ some in cc;
    owned = λ p some none. let both : false ≡ true = sym (ap is_some (no_space_yet p)) ∙ some in cc;
    none_awaits = λ p. ap (λ (x : SpaceState). x.awaiting) (space_absent (spaces_of machine) p (no_space_yet p));
    kept = λ p. ap (λ (x : SpaceState). x.speculating) (space_absent (spaces_of machine) p (no_space_yet p)) ∙ sym (ap saved_of (no_process_yet p));
    free = tt;
    once = none_twice;
    unseen = λ p none. subst (HasNone p) (sym no_lists) (none_at_first p);
    fit = λ p. fit_absent machine p (no_space_yet p);
  }

  no_books : books (spaces_of machine) ≡ empty
  no_books = books_empty held_page (spaces_of machine) none.spaces

  no_wholes : processes_of machine ≡ empty
  no_wholes = alike _ _ (λ q. processes_at machine q ∙ ap (option_map (whole_in (spaces_of machine) q)) (no_process_yet q) ∙ sym (get-empty nat_cmp q))

  pub no_bases : bases_of (spaces_of machine) ≡ empty
  unfolding bases_of
  no_bases = ap (viewed (λ p (_ : SpaceState). base_of (spaces_of machine) p)) none.spaces ∙ viewed_empty (λ p (_ : SpaceState). base_of (spaces_of machine) p)

  pub wholes_start : lists_of machine ≡ no_translations → wholes machine ≡ (fresh modes).wholes
  wholes_start no_lists = λ i. record { processes = no_wholes i; ledger = no_books i; frames = none.count i; extension = extension i; translations = no_lists i }

-- a free space isn't one that isn't there
not_next : (machine : Machine) (n q : ℕ) → has_space machine n ≡ false → HasNoProcess machine q → q ≡ n → ⊥
not_next machine n q absent h same = let both : false ≡ true = sym absent ∙ sym (ap (has_space machine) same) ∙ h.0 in cc

-- what has no space has no process
pub none_before : (machine : Machine) (spaces : List ℕ) (numbers : List (List ℕ)) (n : ℕ) → IsSession machine spaces numbers → has_space machine n ≡ false
    → get machine.processes n ≡ None
none_before machine spaces numbers n is absent = none_is (get machine.processes n) (by_some (is_some (get machine.processes n)) refl)
  where
    by_some : (b : Bool) → is_some (get machine.processes n) ≡ b → b ≡ false
    by_some true some = let both : false ≡ true = sym absent ∙ is.own_space n some in cc
    by_some false some = refl

-- the next number has a space, and everything else is as it was
module _ (old new : Machine) (spaces : List ℕ) (numbers left : List (List ℕ)) (n : ℕ) (is : IsSession old spaces numbers) (absent : has_space old n ≡ false)
    (number : is_number n ≡ true) (taken : IsPut numbers n false left)
    (there : has_space new n ≡ true) (none_awaits : (space_in (spaces_of new) n).awaiting ≡ empty)
    (kept : is_marked new n ≡ has_saved new n) (others : StaysBut n old new) (lists : lists_of new ≡ lists_of old)
    (here : HasFitPages (memory_of (spaces_of new) n)) where
  still_free : AllByRecursion (HasNoProcess new) spaces
  still_free = each (HasNoProcess old) (HasNoProcess new) spaces
      (λ q h. let other = not_next old n q absent h in (others.there q other ∙ h.0, others.processes q other ∙ h.1)) is.free

  with_next : (more : List ℕ) → AllByRecursion (HasNoProcess new) more → IsDistinct nat_eq more → ((q : ℕ) → list_any (λ x. x == q) spaces ≡ true → list_any (λ x. x == q) more ≡ true)
      → (get new.processes n ≡ None → list_any (λ x. x == n) more ≡ true) → IsSession new more left
  with_next more free once wider mine = record {
    are_free = λ p. by_key p n
        (λ same. ap (is_in left) same ∙ taken.here ∙ sym (ap (λ q. is_number q && not (has_space new q)) same ∙ ap (λ b. is_number n && not b) there ∙ and_false (is_number n)))
        (λ other. taken.others p other ∙ is.are_free p ∙ ap (λ b. is_number p && not b) (sym (others.there p other)));
    in_range = λ p some. by_key p n (λ same. ap is_number same ∙ number) (λ other. is.in_range p (sym (others.there p other) ∙ some));
    own_space = λ p some. by_key p n
        (λ same. ap (has_space new) same ∙ there)
        (λ other. others.there p other ∙ is.own_space p (sym (ap is_some (others.processes p other)) ∙ some));
    owned = λ p some none. by_key p n
        (λ same. ap (λ q. list_any (λ x. x == q) more) same ∙ mine (ap (get new.processes) (sym same) ∙ none))
        (λ other. wider p (is.owned p (sym (others.there p other) ∙ some) (sym (others.processes p other) ∙ none)));
    none_awaits = λ p. by_key p n
        (λ same. ap (λ n. (space_in (spaces_of new) n).awaiting) same ∙ none_awaits)
        (λ other. ap (λ (x : SpaceState). x.awaiting) (others.spaces p other) ∙ is.none_awaits p);
    kept = λ p. by_key p n
        (λ same. ap (is_marked new) same ∙ kept ∙ sym (ap (has_saved new) same))
        (λ other. ap (λ (x : SpaceState). x.speculating) (others.spaces p other) ∙ is.kept p ∙ sym (ap saved_of (others.processes p other)));
    free = free;
    once = once;
    unseen = λ p none. subst (HasNone p) (sym lists) (by_key p n
        (λ same. is.unseen p (ap (get old.processes) same ∙ none_before old spaces numbers n is absent)) (λ other. is.unseen p (sym (others.processes p other) ∙ none)));
    fit = fit_but old new n others.spaces here is.fit;
  }

  -- a process's, or one without a process
  pub session_more : is_some (get new.processes n) ≡ true → IsSession new spaces left
  session_more some =
      with_next spaces still_free is.once (λ q has. has) (λ none. let both : false ≡ true = sym (ap is_some none) ∙ some in cc)

  pub session_saved : get new.processes n ≡ None → IsSession new (spaces ++ (n ∷ [])) left
  session_saved none =
      with_next (spaces ++ (n ∷ [])) (each_more (HasNoProcess new) spaces n still_free (there, none))
      (once_more spaces n (each (HasNoProcess old) (λ q. q ≡ n → ⊥) spaces (λ q h. not_next old n q absent h) is.free) is.once)
      (λ q has. any_left q spaces n has) (λ none. any_last n spaces)

pub session_load : (old new : Machine) (spaces : List ℕ) (numbers left : List (List ℕ)) (n : ℕ) (file : List ℕ) → IsSession old spaces numbers
    → has_space old n ≡ false → is_number n ≡ true → IsPut numbers n false left → file_refusal file ≡ None → IsLoaded n file old new
    → IsSession new spaces left
session_load old new spaces numbers left n file is absent number taken none loaded =
    session_more old new spaces numbers left n is absent number taken loaded.there loaded.none_awaits
    (mark_at new n (loaded_process file) shown ∙ sym (ap saved_of here))
    loaded.others loaded.like.translations (subst HasFitPages (memory_shown new n (loaded_process file) shown) (fit_loaded file none)) (ap is_some here)
  where
    shown : get (processes_of new) n ≡ Some (loaded_process file)
    shown = ap (λ (ps : Processes). get ps n) loaded.like.processes ∙ get_same (wholes old).processes n n (loaded_process file) refl

    here : get new.processes n ≡ Some (shown_process (loaded_process file))
    here = ap (λ (ps : FinMap nat_cmp declared.Process). get ps n) loaded.processes ∙ get_same old.processes n n (shown_process (loaded_process file)) refl

-- after want of memory
places_before : (old new : Machine) → IsAsBefore old new → KeepsPlaces old new
places_before old new same = record {
  spaces = λ q. ap (λ (s : State). holds_space s q) same.0;
  awaiting = λ q. ap (λ (s : State). (space_in s q).awaiting) same.0;
  processes = λ q. ap (λ (m : FinMap nat_cmp declared.Process). is_some (get m q)) same.2;
  marks = λ q. ap (λ (s : State). (space_in s q).speculating) same.0;
  saves = λ q. ap (λ (m : FinMap nat_cmp declared.Process). saved_of (get m q)) same.2;
}

pub keeps_same : (old new : Machine) → new ≡ old → KeepsSession old new
keeps_same old new same = record {
  session = λ spaces numbers is. subst (λ (m : Machine). IsSession m spaces numbers) (sym same) is;
  free = subst (KeepsFree old) (sym same) (free_start old);
  stay = λ q none. ap (λ (m : Machine). get m.processes q) (sym same) ∙ none;
}

free_before : (old new : Machine) → IsAsBefore old new → KeepsFree old new
free_before old new same = record {
  spaces = λ q none. ap (λ (s : State). space_in s q) same.0;
  unseen = λ q none unlisted. subst (HasNone q) (sym same.1) unlisted;
}

perms_before : (old new : Machine) → IsAsBefore old new → KeepsAllPerms old new
perms_before old new same q at = ap (λ (s : State). option_map (λ (page : Page). page.perms) (get (memory_of s q) at)) same.0

pub keeps_before : (old new : Machine) → IsAsBefore old new → KeepsSession old new
keeps_before old new same = record {
  session = λ spaces numbers is. session_kept old new spaces numbers is (places_pairs old new (places_before old new same)) (free_before old new same) (perms_before old new same);
  free = free_before old new same;
  stay = λ q none. ap (λ m. get m q) (sym same.2) ∙ none;
}

-- A space is given up, with its process where it has one.
module _ (old new : Machine) (p : ℕ) (spaces : spaces_of new ≡ cut_space (spaces_of old) p) (processes : new.processes ≡ remove old.processes p)
    (lists : lists_of new ≡ flushed p (lists_of old)) where
  process_gone : get new.processes p ≡ None
  process_gone = ap (λ m. get m p) processes ∙ removed_same old.processes p p refl

  pub process_left : (q : ℕ) → (q ≡ p → ⊥) → get new.processes q ≡ get old.processes q
  process_left q other = ap (λ m. get m q) processes ∙ removed_other old.processes p q other

  space_gone : get (spaces_of new).spaces p ≡ None
  unfolding cut_space
  space_gone = ap (λ (s : State). get s.spaces p) spaces ∙ removed_same (spaces_of old).spaces p p refl

  space_stays : (q : ℕ) → (q ≡ p → ⊥) → has_space new q ≡ has_space old q
  unfolding cut_space
  space_stays q other = ap (λ (s : State). holds_space s q) spaces ∙ ap is_some (removed_other (spaces_of old).spaces p q other)

  pub same_left : (q : ℕ) → (q ≡ p → ⊥) → space_in (spaces_of new) q ≡ space_in (spaces_of old) q
  same_left q other = ap (λ (s : State). space_in s q) spaces ∙ space_left (spaces_of old) p q other

  fit_left : HaveFitPages old → HaveFitPages new
  fit_left fit = fit_but old new p same_left (fit_absent new p space_gone) fit

  pub session_cut : (kept rest : List ℕ) (numbers left : List (List ℕ)) → IsSession old kept numbers → IsPut numbers p true left → is_number p ≡ true
      → AllByRecursion (λ q. HasNoProcess old q × (q ≡ p → ⊥)) rest → IsDistinct nat_eq rest
      → ((q : ℕ) → (q ≡ p → ⊥) → list_any (λ x. x == q) kept ≡ true → list_any (λ x. x == q) rest ≡ true) → IsSession new rest left
  session_cut kept rest numbers left is given number beside once others = record {
    are_free = λ q. by_key q p
        (λ same. ap (is_in left) same ∙ given.here ∙ sym (ap (λ n. is_number n && not (has_space new n)) same
        ∙ ap (λ b. b && not (has_space new p)) number ∙ ap (λ b. not b) (ap is_some space_gone)))
        (λ other. given.others q other ∙ is.are_free q ∙ ap (λ b. is_number q && not b) (sym (space_stays q other)));
    in_range = λ q some. by_key q p (λ same. ap is_number same ∙ number) (λ other. is.in_range q (sym (space_stays q other) ∙ some));
    own_space = λ q some. by_key q p
        (λ same. let lacks = ap is_some (ap (get new.processes) same ∙ process_gone) in let both : false ≡ true = sym lacks ∙ some in cc)
        (λ other. space_stays q other ∙ is.own_space q (sym (ap is_some (process_left q other)) ∙ some));
    owned = λ q some none. by_key q p
        (λ same. let both : false ≡ true = sym (ap is_some space_gone) ∙ sym (ap (has_space new) same) ∙ some in cc)
        (λ other. others q other (is.owned q (sym (space_stays q other) ∙ some) (sym (process_left q other) ∙ none)));
    none_awaits = λ q. by_key q p
        (λ same. ap (λ n. (space_in (spaces_of new) n).awaiting) same ∙ ap (λ (x : SpaceState). x.awaiting) (space_absent (spaces_of new) p space_gone))
        (λ other. ap (λ (x : SpaceState). x.awaiting) (same_left q other) ∙ is.none_awaits q);
    kept = λ q. by_key q p
        (λ same. ap (is_marked new) same ∙ ap (λ (x : SpaceState). x.speculating) (space_absent (spaces_of new) p space_gone)
        ∙ sym (ap (has_saved new) same ∙ ap saved_of process_gone))
        (λ other. ap (λ (x : SpaceState). x.speculating) (same_left q other) ∙ is.kept q ∙ sym (ap saved_of (process_left q other)));
    free = each (λ q. HasNoProcess old q × (q ≡ p → ⊥)) (HasNoProcess new) rest (λ q h. (space_stays q h.1 ∙ h.0.0, process_left q h.1 ∙ h.0.1)) beside;
    once = once;
    unseen = λ q none. subst (HasNone q) (sym lists) (by_key q p
        (λ same. subst (λ n. HasNone q (flushed n (lists_of old))) same (none_of_own q (lists_of old)))
        (λ other. none_flushed q p (lists_of old) (is.unseen q (sym (process_left q other) ∙ none))));
    fit = fit_left is.fit;
  }

  pub free_cut : is_some (get old.processes p) ≡ true → KeepsFree old new
  free_cut there = record {
    spaces = λ q none. same_left q (not_free old p q there none);
    unseen = λ q none unlisted. subst (HasNone q) (sym lists) (none_flushed q p (lists_of old) unlisted);
  }

pub others_free : (machine : Machine) (p : ℕ) (spaces : List ℕ) → is_some (get machine.processes p) ≡ true → AllByRecursion (HasNoProcess machine) spaces
    → AllByRecursion (λ q. HasNoProcess machine q × (q ≡ p → ⊥)) spaces
others_free machine p spaces there all = each (HasNoProcess machine) (λ q. HasNoProcess machine q × (q ≡ p → ⊥)) spaces (λ q h. (h, not_free machine p q there h.1)) all

-- the spaces of checkpoints, where each free space is as it was
abbrev pub AreSame : Machine → Machine → List ℕ → Type 0
AreSame old new spaces = AllByRecursion (λ q. space_in (spaces_of new) q ≡ space_in (spaces_of old) q) spaces

pub free_same : (old new : Machine) (spaces : List ℕ) → KeepsFree old new → AllByRecursion (HasNoProcess old) spaces → AreSame old new spaces
free_same old new spaces free all = each (HasNoProcess old) (λ q. space_in (spaces_of new) q ≡ space_in (spaces_of old) q) spaces (λ q h. free.spaces q h.1) all

-- where a space under the next number is made
pub next_same : (old new : Machine) (spaces : List ℕ) (n : ℕ) → AllByRecursion (HasNoProcess old) spaces → has_space old n ≡ false → StaysBut n old new → AreSame old new spaces
next_same old new spaces n free absent others =
    each (HasNoProcess old) (λ q. space_in (spaces_of new) q ≡ space_in (spaces_of old) q) spaces (λ q h. others.spaces q (not_next old n q absent h)) free

-- A process put where its space alone changed.
module _ (old : Machine) (memory : TranslatedView) (p : ℕ) (others : (q : ℕ) → (q ≡ p → ⊥) → space_in (spaces_in memory) q ≡ space_in (spaces_of old) q) where
  others_by : (q : ℕ) → (q ≡ p → ⊥) → (o : Option declared.Process) → option_map (whole_in (spaces_in memory) q) o ≡ option_map (whole_in (spaces_of old) q) o
  others_by q other None = refl
  others_by q other (Some x) = ap Some (whole_by (spaces_in memory) (spaces_of old) q (others q other) x)

  pub processes_put : (put : declared.Process) (left : Process) → whole_in (spaces_in memory) p put ≡ left
      → processes_of (with_process_at (with_memory old memory) p put) ≡ insert (processes_of old) p left
  processes_put put left is = alike _ _ (λ q. processes_at (with_process_at (with_memory old memory) p put) q ∙ by_key q p
      (λ same. ap (λ n. option_map (whole_in (spaces_in memory) n) (get (insert old.processes p put) n)) same
      ∙ ap (option_map (whole_in (spaces_in memory) p)) (get_same old.processes p p put refl)
      ∙ ap Some is ∙ sym (get_same (processes_of old) p q left same))
      (λ other. ap (option_map (whole_in (spaces_in memory) q)) (get_other old.processes p q put other)
      ∙ others_by q other (get old.processes q) ∙ sym (processes_at old q) ∙ sym (get_other (processes_of old) p q left other)))

  -- and where none has it
  pub processes_kept : get old.processes p ≡ None → processes_of (with_memory old memory) ≡ processes_of old
  processes_kept absent = alike _ _ (λ q. processes_at (with_memory old memory) q ∙ by_key q p
      (λ same. ap (option_map (whole_in (spaces_in memory) q)) (ap (get old.processes) same ∙ absent)
      ∙ sym (ap (option_map (whole_in (spaces_of old) q)) (ap (get old.processes) same ∙ absent)))
      (λ other. others_by q other (get old.processes q))
      ∙ sym (processes_at old q))

-- what a number of a space is
pub number_bounds : (n : ℕ) → is_number n ≡ true → (0 < n) × (n ≤ LAST_SPACE)
number_bounds n number = (grind (arith, nat_tests, number), grind (arith, nat_tests, number))

-- a number that is free is one of a space that isn't there
pub free_number : (machine : Machine) (spaces : List ℕ) (numbers : List (List ℕ)) (n : ℕ) → IsSession machine spaces numbers → is_in numbers n ≡ true
    → (has_space machine n ≡ false) × (is_number n ≡ true) × (0 < n) × (n ≤ LAST_SPACE)
free_number machine spaces numbers n is free = by_tests (is_number n) refl (has_space machine n) refl (sym (is.are_free n) ∙ free)
  where
    by_tests : (b : Bool) → is_number n ≡ b → (c : Bool) → has_space machine n ≡ c → (b && not c) ≡ true
        → (has_space machine n ≡ false) × (is_number n ≡ true) × (0 < n) × (n ≤ LAST_SPACE)
    by_tests true number false absent h = (absent, number, (number_bounds n number).0, (number_bounds n number).1)
    by_tests true number true absent h = cc
    by_tests false number c absent h = cc
