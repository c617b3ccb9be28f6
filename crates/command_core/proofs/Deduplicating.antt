use Rattle.std.proofs.Common.{◌≡◌, ℕ, ◌/◌, Bool, true, false, sym, ap, subst, ◌∙◌, refl, arith, nat_lt, Option, Some, None, List, [], ◌∷◌, ◌++◌}
use Rattle.std.specs.Prelude.{length, not, Ok, Err}
use Rattle.std.specs.Option.{is_some, option_map}
use Rattle.std.proofs.lemmas.Bool.Decides.{nat_tests}
use Rattle.std.specs.FinMap.{get}
use Rattle.sizes.specs.declared.TheConstants.{PAGE_BYTES}
use Rattle.breakpoints.specs.Breakpoints.{Breaks}
use Rattle.ledger.specs.Alike.{AreAlike}
use Rattle.ledger.specs.AlikeLaws.{alike_itself}
use Rattle.ledger.specs.Events.{Rebase, ledger_after}
use Rattle.ovl_io.specs.Memory.{Page}
use Rattle.overlay_pages.specs.State.{PageState, State as Spaces, books, memory_of, seen_page}
use Rattle.overlay_memory.specs.Pieces.{KeepsAllElse}
use Rattle.overlay_memory.specs.Rebased.{apart_in}
use Rattle.overlay_memory.specs.StateMemory.{memory_at}
use Rattle.overlay_memory.specs.View.{TranslatedView, state_of, translations_of}
use Rattle.page_dedup.specs.Deduplicated.{Deduplicates, HasShared, shares_in, shares_of}
use Rattle.page_dedup.specs.declared.error.DedupError.{DedupError}
use Rattle.page_dedup.specs.declared.error.DedupError.TheVariants as dedup
use Rattle.space_maps.specs.Spaces.{page_in, space_in}
use Rattle.translation_cache.specs.Translations.{flushed}
use Rattle.machine_core.specs.Process.{Process, is_speculating}
use Rattle.machine_core.specs.declared.process.Process as declared
use Rattle.machine_core.specs.Machine.{Machine, is_marked, lists_of, processes_of, spaces_of, whole_in, with_memory}
use Rattle.machine_core.specs.Laws.{processes_at}
use Rattle.report_text.specs.declared.answer.Answer.{Answer}
use Rattle.report_text.specs.declared.answer.Answer.TheVariants.{Done, Forked, Full, Imported, Loaded, Memory, Refused, Saved, Shared}
use Rattle.report_text.specs.declared.answer.Code.{Code}
use Rattle.report_text.specs.declared.answer.Code.TheVariants.{FrameHere, NoProcess, NotAlike, NotAlone, Unmapped}
use Rattle.report_text.specs.Answers.{HasAnswerLine}
use Rattle.command_core.specs.State.{Checkpoint, State, registry_of}
use Rattle.command_core.specs.declared.checkpoints.Kept.{Kept}
use Rattle.command_core.specs.Kept.{checkpoints_in, shown_state, spaces_kept}
use Rattle.command_core.specs.Sessions.{InSession, IsSession, session_state}
use Rattle.command_core.specs.Rows.{Row, change_by, first_refusal, refused_if}
use Rattle.command_core.specs.Changes.{CanBeTold}
use Rattle.command_core.specs.Giving.{ComesTo, GivesChange, WantKeeps}
use Rattle.command_core.specs.Refusals.{by_speculating, has_page}
use Rattle.command_core.specs.Deduplication.{MachineComesTo, PagePair, dedup_all_by, dedup_all_row, dedup_by, dedup_code, dedup_row, memory_found, page_refusals, pair_in, pair_refusals, share_row, speculates as speculates_found}
use Rattle.command_core.specs.LikeLaws.{states_same}
use Rattle.command_core.proofs.Keeping.{all_shown}
use Rattle.command_core.proofs.Places.{free_same, keeps_same}
use Rattle.command_core.proofs.Rows.{not_over, row_accepted, row_refused}
use Rattle.command_core.proofs.Speculating.{IsSeenSame, same_like, same_stays, speculates}

-- Pages of a process that are put on those of another one.

-- The first refusal of two lists.

first_front : {E : Type 0} (xs ys : List (Option E)) (e : E) → first_refusal xs ≡ Some e → first_refusal (xs ++ ys) ≡ Some e
first_front [] ys e is = cc
first_front (None ∷ xs) ys e is = first_front xs ys e is
first_front (Some x ∷ xs) ys e is = is

-- Whether both processes are there, and neither is speculating.

abbrev refused_by : Bool → Bool → Bool → Bool → Option Code
refused_by mine theirs marked marked_theirs =
    first_refusal
    (refused_if (not mine) NoProcess ∷ refused_if (not theirs) NoProcess ∷ by_speculating marked ∷ by_speculating marked_theirs ∷ [])

none_by : (a b c d : Bool) → refused_by a b c d ≡ None → (a ≡ true) × (b ≡ true) × (c ≡ false) × (d ≡ false)
none_by true true false false is = (refl, refl, refl, refl)
none_by true true false true is = cc
none_by true true true d is = cc
none_by true false c d is = cc
none_by false b c d is = cc

-- both are there, and neither is speculating
pub record IsPair (machine : Machine) (p q : ℕ) : Type 0 where
  pub mine : declared.Process
  pub there : get machine.processes p ≡ Some mine
  pub unmarked : is_marked machine p ≡ false
  pub theirs : declared.Process
  pub there_too : get machine.processes q ≡ Some theirs
  pub unmarked_too : is_marked machine q ≡ false

record IsThere (machine : Machine) (p : ℕ) : Type 0 where
  process : declared.Process
  there : get machine.processes p ≡ Some process
  unmarked : is_marked machine p ≡ false

module _ (machine : Machine) where
  found : (p : ℕ) (process : declared.Process) → get machine.processes p ≡ Some process
      → get (processes_of machine) p ≡ Some (whole_in (spaces_of machine) p process)
  found p process there = processes_at machine p ∙ ap (option_map (whole_in (spaces_of machine) p)) there

  pub some_found : (p : ℕ) → is_some (get (processes_of machine) p) ≡ is_some (get machine.processes p)
  some_found p = ap is_some (processes_at machine p) ∙ mapped (get machine.processes p)
    where
      mapped : (o : Option declared.Process) → is_some (option_map (whole_in (spaces_of machine) p) o) ≡ is_some o
      mapped None = refl
      mapped (Some x) = refl

  -- whether one that is there is speculating is the mark of its space
  mark_found : (p : ℕ) (process : declared.Process) → get machine.processes p ≡ Some process
      → speculates_found (get (processes_of machine) p) ≡ is_marked machine p
  mark_found p process there =
      ap speculates_found (found p process there) ∙ speculates p process machine machine.memory there (is_marked machine p) refl

  pub marked_found : (p : ℕ) → is_some (get machine.processes p) ≡ true → speculates_found (get (processes_of machine) p) ≡ is_marked machine p
  marked_found p some = by_found (get machine.processes p) refl
    where
      by_found : (o : Option declared.Process) → get machine.processes p ≡ o → speculates_found (get (processes_of machine) p) ≡ is_marked machine p
      by_found None none = let both : false ≡ true = sym (ap is_some none) ∙ some in cc
      by_found (Some process) there = mark_found p process there

  there_by : (p : ℕ) → is_some (get (processes_of machine) p) ≡ true → speculates_found (get (processes_of machine) p) ≡ false → IsThere machine p
  there_by p some free = by_found (get machine.processes p) refl
    where
      by_found : (o : Option declared.Process) → get machine.processes p ≡ o → IsThere machine p
      by_found None none = let both : false ≡ true = sym (ap is_some none) ∙ sym (some_found p) ∙ some in cc
      by_found (Some process) there = record { process = process; there = there; unmarked = sym (mark_found p process there) ∙ free }

  module _ (p q : ℕ) where
    abbrev pair_code : Option Code
    pair_code = first_refusal (pair_refusals (get (processes_of machine) p) (get (processes_of machine) q))

    pub pair_by : (a b c d : Bool) → is_some (get machine.processes p) ≡ a → is_some (get machine.processes q) ≡ b
        → speculates_found (get (processes_of machine) p) ≡ c → speculates_found (get (processes_of machine) q) ≡ d → refused_by a b c d ≡ pair_code
    pair_by a b c d mine theirs marked marked_too = λ i.
        refused_by (sym (some_found p ∙ mine) i) (sym (some_found q ∙ theirs) i) (sym marked i) (sym marked_too i)

    pub is_pair : pair_code ≡ None → IsPair machine p q
    is_pair none =
        let (mine, theirs, free, free_too) = none_by _ _ _ _ none in
        let x = there_by p mine free in
        let y = there_by q theirs free_too in
        record {
          mine = x.process;
          there = x.there;
          unmarked = x.unmarked;
          theirs = y.process;
          there_too = y.there;
          unmarked_too = y.unmarked;
        }

-- the mark of a space, and whether a page is there, as a memory that is lent tells it
module _ (machine : Machine) (p : ℕ) (memory : TranslatedView) (told b : Bool) (same : memory ≡ machine.memory) where
  pub mark_told : told ≡ (space_in (state_of memory) p).speculating → told ≡ b → is_marked machine p ≡ b
  mark_told mark is = sym (ap (λ (m : TranslatedView). (space_in (state_of m) p).speculating) same) ∙ sym mark ∙ is

  pub page_told : (page : ℕ) → told ≡ is_some (page_in (state_of memory) p page) → told ≡ b → is_some (page_in (spaces_of machine) p page) ≡ b
  page_told page here is = sym (ap (λ (m : TranslatedView). is_some (page_in (state_of m) p page)) same) ∙ sym here ∙ is

-- What a machine answers.

module _ (row : State → Row) (old new : Machine) where
  machine_refuses : (code : Code) → ((kept : List Checkpoint) (breaks : Breaks) → first_refusal (row (session_state old kept breaks)).refusals ≡ Some code)
      → new ≡ old → MachineComesTo row old (Refused code) new
  machine_refuses code is same = record {
    comes = λ kept breaks. row_refused (row (session_state old kept breaks)) (session_state old kept breaks) (session_state new kept breaks) code (is kept breaks)
        (states_same (session_state new kept breaks) (session_state old kept breaks) (ap (λ (m : Machine). session_state m kept breaks) same));
    keeps = keeps_same old new same;
  }

-- An answer that has a line is no want of memory.
pub comes_gives : (row : Row) (old new : State) (answer : Answer) → HasAnswerLine answer → ComesTo (change_by row old) answer new → GivesChange row old answer new
comes_gives row old new Done line comes = comes
comes_gives row old new (Loaded p pages entry) line comes = comes
comes_gives row old new (Forked p q) line comes = comes
comes_gives row old new (Saved p name space) line comes = comes
comes_gives row old new (Imported name space pages) line comes = comes
comes_gives row old new (Shared pages) line comes = comes
comes_gives row old new (Refused code) line comes = comes
comes_gives row old new (Full needed limit) line comes = comes
comes_gives row old new Memory line comes = absurd line

pub line_keeps : (old new : InSession) (answer : Answer) → HasAnswerLine answer → WantKeeps old answer new × CanBeTold answer
line_keeps old new Done line = (tt, line)
line_keeps old new (Loaded p pages entry) line = (tt, line)
line_keeps old new (Forked p q) line = (tt, line)
line_keeps old new (Saved p name space) line = (tt, line)
line_keeps old new (Imported name space pages) line = (tt, line)
line_keeps old new (Shared pages) line = (tt, line)
line_keeps old new (Refused code) line = (tt, line)
line_keeps old new (Full needed limit) line = (tt, line)
line_keeps old new Memory line = absurd line

-- neither can pages be put on others
module _ (old : Machine) (p q : ℕ) (code : Code) (is : pair_code old p q ≡ Some code) where
  pub pair_refused : (address other : ℕ) → MachineComesTo (dedup_row p address q other) old (Refused code) old
  pair_refused address other =
      let mine = get (processes_of old) p in
      let theirs = get (processes_of old) q in
      let pair = pair_in (books (spaces_of old)) p (address / PAGE_BYTES) (memory_found mine) q (other / PAGE_BYTES) (memory_found theirs) in
      machine_refuses (dedup_row p address q other) old old code
      (λ kept breaks. first_front (pair_refusals mine theirs) (page_refusals (memory_found mine) address (memory_found theirs) other pair) code is) refl

  pub pair_refused_all : MachineComesTo (dedup_all_row p q) old (Refused code) old
  pair_refused_all = machine_refuses (dedup_all_row p q) old old code (λ kept breaks. is) refl

-- what processes see is as it was where pages were put on others
seen_same : (p : ℕ) (old new : Spaces) → ((q : ℕ) → memory_of new q ≡ memory_of old q) → KeepsAllElse old new p → IsSeenSame p old new
seen_same p old new memories beside = record {
  memory = memories p;
  marked = beside.mark;
  awaiting = beside.awaiting;
  others = beside.others;
  spaces = beside.spaces;
  frames = beside.frames;
}

-- whether a page is there, as it is seen
pub page_seen : (spaces : Spaces) (p page : ℕ) → has_page (memory_of spaces p) page ≡ is_some (page_in spaces p page)
page_seen spaces p page = ap (λ (o : Option Page). is_some o) (memory_at spaces p page) ∙ mapped (page_in spaces p page)
  where
    mapped : (o : Option PageState) → is_some (option_map seen_page o) ≡ is_some o
    mapped None = refl
    mapped (Some x) = refl

-- how two pages stand to each other, where both are there: the first refusal
abbrev code_by : ℕ → ℕ → Bool → Bool → Bool → Bool → Bool → ℕ → Option Code
code_by address other here there alone on many lines =
    first_refusal
    (refused_if (not here) (Unmapped address) ∷ refused_if (not there) (Unmapped other) ∷ refused_if (not alone) NotAlone
    ∷ refused_if on FrameHere ∷ refused_if many (NotAlike lines) ∷ [])

module _ (old : Machine) (memory : TranslatedView) (p q : ℕ) (pair : IsPair old p q) where
  abbrev mid : Machine
  mid = with_memory old memory

  abbrev mine : Process
  mine = whole_in (spaces_of old) p pair.mine

  abbrev theirs : Process
  theirs = whole_in (spaces_of old) q pair.theirs

  found_mine : get (processes_of old) p ≡ Some mine
  found_mine = found old p pair.mine pair.there

  found_theirs : get (processes_of old) q ≡ Some theirs
  found_theirs = found old q pair.theirs pair.there_too

  free_mine : is_speculating mine ≡ false
  free_mine = speculates p pair.mine old memory pair.there false pair.unmarked

  free_theirs : is_speculating theirs ≡ false
  free_theirs = speculates q pair.theirs old memory pair.there_too false pair.unmarked_too

  -- The row of such a change, whatever checkpoints and breakpoints there are.
  module _ (row : State → Row) (refusals : List (Option Code)) (pages : List (ℕ × ℕ × List ℕ)) (is : (kept : List Checkpoint) (breaks : Breaks)
      → row (session_state old kept breaks) ≡ share_row refusals p q pages (registry_of (session_state old kept breaks))) where
    refuses_at : (code : Code) → first_refusal refusals ≡ Some code → memory ≡ old.memory → MachineComesTo row old (Refused code) mid
    refuses_at code first same =
        machine_refuses row old mid code (λ kept breaks. ap (λ (r : Row). first_refusal r.refusals) (is kept breaks) ∙ first) (ap (with_memory old) same)

    shares_at : first_refusal refusals ≡ None → IsSeenSame p (spaces_of old) (state_of memory) → translations_of memory ≡ flushed p (lists_of old)
        → books (state_of memory) ≡ ledger_after (Rebase p q pages) (books (spaces_of old)) → MachineComesTo row old (Shared (length pages)) mid
    shares_at none seen lists ledger =
        let e = Rebase p q pages in
        let alike = subst (AreAlike (books (state_of memory))) ledger (alike_itself (books (state_of memory))) in
        record {
          comes = λ kept breaks.
              let before = session_state old kept breaks in
              let at = share_row refusals p q pages (registry_of before) in
              subst (λ (r : Row). ComesTo (change_by r before) (Shared (length pages)) (session_state mid kept breaks)) (sym (is kept breaks))
              (row_accepted at before (session_state mid kept breaks) none refl (record {
                wholes = same_like p pair.mine old memory pair.there seen pair.unmarked e lists alike;
                checkpoints = refl;
                breakpoints = refl;
              }));
          keeps = same_stays p pair.mine old memory pair.there seen pair.unmarked e lists alike;
        }

  -- One page.
  module _ (address other : ℕ) where
    abbrev page : ℕ
    page = address / PAGE_BYTES

    abbrev other_page : ℕ
    other_page = other / PAGE_BYTES

    abbrev pages : PagePair
    pages = pair_in (books (spaces_of old)) p page (memory_of (spaces_of old) p) q other_page (memory_of (spaces_of old) q)

    abbrev refusals : List (Option Code)
    refusals = pair_refusals (Some mine) (Some theirs) ++ page_refusals (memory_of (spaces_of old) p) address (memory_of (spaces_of old) q) other pages

    abbrev put : List (ℕ × ℕ × List ℕ)
    put = (page, other_page, pages.apart) ∷ []

    row_is : (kept : List Checkpoint) (breaks : Breaks)
        → dedup_row p address q other (session_state old kept breaks) ≡ share_row refusals p q put (registry_of (session_state old kept breaks))
    row_is kept breaks = λ i.
        let m = memory_found (found_mine i) in
        let t = memory_found (found_theirs i) in
        dedup_by p address q other (found_mine i) (found_theirs i) (pair_in (books (spaces_of old)) p page m q other_page t)
        (registry_of (session_state old kept breaks))

    first_is : (a b alone on many : Bool) → is_some (page_in (spaces_of old) p page) ≡ a → is_some (page_in (spaces_of old) q other_page) ≡ b
        → pages.alone ≡ alone → pages.here ≡ on → nat_lt 31 (length pages.apart) ≡ many
        → first_refusal refusals ≡ code_by address other a b alone on many (length pages.apart)
    first_is a b alone on many here there is_alone is_on is_many =
        (λ i. first_refusal (by_speculating (free_mine i) ∷ by_speculating (free_theirs i) ∷ page_refusals (memory_of (spaces_of old) p) address (memory_of (spaces_of old) q) other pages))
        ∙ (λ i. code_by address other ((page_seen (spaces_of old) p page ∙ here) i) ((page_seen (spaces_of old) q other_page ∙ there) i)
        (is_alone i) (is_on i) (is_many i) (length pages.apart))

    module _ (same : memory ≡ old.memory) where
      pub lacks_page : is_some (page_in (spaces_of old) p page) ≡ false → MachineComesTo (dedup_row p address q other) old (Refused (Unmapped address)) mid
      lacks_page none =
          refuses_at (dedup_row p address q other) refusals put row_is (Unmapped address) (first_is false _ _ _ _ none refl refl refl refl) same

      pub lacks_other : is_some (page_in (spaces_of old) p page) ≡ true → is_some (page_in (spaces_of old) q other_page) ≡ false
          → MachineComesTo (dedup_row p address q other) old (Refused (Unmapped other)) mid
      lacks_other some none =
          refuses_at (dedup_row p address q other) refusals put row_is (Unmapped other) (first_is true false _ _ _ some none refl refl refl) same

    module _ (some : is_some (page_in (spaces_of old) p page) ≡ true) (some_too : is_some (page_in (spaces_of old) q other_page) ≡ true) where
      pub not_put : (e : DedupError) → Deduplicates old.memory memory p page q other_page (Err e)
          → MachineComesTo (dedup_row p address q other) old (Refused (dedup_code e)) mid
      unfolding apart_in
      not_put dedup.NotAlone (shared, same) =
          refuses_at (dedup_row p address q other) refusals put row_is NotAlone (first_is true true false _ _ some some_too shared refl refl) same
      not_put dedup.FrameHere (alone, on, same) =
          refuses_at (dedup_row p address q other) refusals put row_is FrameHere (first_is true true true true _ some some_too alone on refl) same
      not_put (dedup.NotAlike lines) (free, is, many, same) =
          let over : nat_lt 31 (length pages.apart) ≡ true = subst (λ n. nat_lt 31 n ≡ true) is (grind (arith, nat_tests)) in
          refuses_at (dedup_row p address q other) refusals put row_is (NotAlike lines)
          (first_is true true true false true some some_too free.alone free.away over ∙ ap (λ n. Some (NotAlike n)) (sym is)) same

      pub was_put : Deduplicates old.memory memory p page q other_page (Ok tt) → translations_of memory ≡ flushed p (lists_of old)
          → MachineComesTo (dedup_row p address q other) old (Shared 1) mid
      unfolding apart_in
      was_put (can, has) lists =
          let few : nat_lt 31 (length pages.apart) ≡ false = not_over 31 (length pages.apart) can.few in
          shares_at (dedup_row p address q other) refusals put row_is
          (first_is true true true false false some some_too can.alone can.away few)
          (seen_same p (spaces_of old) (state_of memory) has.memories has.beside) lists has.ledger

  -- All pages that both have.
  abbrev all_put : List (ℕ × ℕ × List ℕ)
  all_put = shares_in (spaces_of old) p q

  all_is : (kept : List Checkpoint) (breaks : Breaks)
      → dedup_all_row p q (session_state old kept breaks)
      ≡ share_row (pair_refusals (Some mine) (Some theirs)) p q all_put (registry_of (session_state old kept breaks))
  all_is kept breaks = λ i.
      dedup_all_by p q (found_mine i) (found_theirs i)
      (shares_of (memory_found (found_mine i)) (memory_found (found_theirs i)) p q (books (spaces_of old)))
      (registry_of (session_state old kept breaks))

  pub were_put : (count : ℕ) → HasShared (spaces_of old) (state_of memory) p q count → translations_of memory ≡ flushed p (lists_of old)
      → MachineComesTo (dedup_all_row p q) old (Shared count) mid
  were_put count has lists =
      subst (λ n. MachineComesTo (dedup_all_row p q) old (Shared n) mid) (sym has.count_is)
      (shares_at (dedup_all_row p q) (pair_refusals (Some mine) (Some theirs)) all_put all_is
      (λ i. first_refusal (by_speculating (free_mine i) ∷ by_speculating (free_theirs i) ∷ []))
      (seen_same p (spaces_of old) (state_of memory) has.memories has.beside) lists has.ledger)

-- What a session shows of it.
pub gives_shown : (row : State → Row) (old new : Machine) (xs : List Kept) (breaks : Breaks) (numbers : List (List ℕ)) (answer : Answer) → HasAnswerLine answer
    → IsSession old (spaces_kept xs) numbers → MachineComesTo row old answer new
    → GivesChange (row (shown_state old xs breaks)) (shown_state old xs breaks) answer (shown_state new xs breaks)
gives_shown row old new xs breaks numbers answer line is done =
    let before = shown_state old xs breaks in
    let same = free_same old new (spaces_kept xs) done.keeps.free is.free in
    comes_gives (row before) before (shown_state new xs breaks) answer line
    (subst (λ cs. ComesTo (change_by (row before) before) answer (session_state new cs breaks)) (sym (all_shown (spaces_of new) (spaces_of old) xs same))
    (done.comes (checkpoints_in (spaces_of old) xs) breaks))
