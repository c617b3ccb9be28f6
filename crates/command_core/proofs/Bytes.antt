use Rattle.std.proofs.Common.{◌≡◌, ℕ, zero, suc, ◌+◌, ◌-◌, ◌/◌, ◌<◌, ◌≤◌, Bool, true, false, cond, List, sym, ap, ◌∙◌, refl, arith, Option, Some, None}
use Rattle.std.specs.Prelude.{Result, Ok, Err, OnOk}
use Rattle.std.specs.Option.{is_some, option_map, option_map_or}
use Rattle.std.specs.FinMap.{get}
use Rattle.sizes.specs.declared.TheConstants.{ADDRESS_END, PAGE_BYTES}
use Rattle.ovl_io.specs.Memory.{Memory, Page, allows, bytes_at, first_denied}
use Rattle.ovl_io.specs.MemoryLaws.{denied_back, denied_front}
use Rattle.ovl_io.specs.Permissions.{permits}
use Rattle.overlay_pages.specs.State.{PageState, memory_of, seen_page}
use Rattle.overlay_pages.specs.View.{IsJoined}
use Rattle.overlay_memory.specs.View.{TranslatedView, state_of}
use Rattle.overlay_memory.specs.Joined.{page_low}
use Rattle.overlay_memory.specs.StateMemory.{memory_at}
use Rattle.space_maps.specs.Spaces.{page_in}
use Rattle.machine_core.specs.declared.process.Process as declared
use Rattle.machine_core.specs.Machine.{Machine, spaces_of, whole_in, wholes}
use Rattle.machine_core.specs.Laws.{processes_at}
use Rattle.report_text.specs.declared.answer.Code.{Code}
use Rattle.command_core.specs.Looks.{CanRead, ReadsBytes, bytes_in, look_denied, look_of}

-- Bytes that are looked at.

-- none is denied
pub look_ok : (o : Option ℕ) → ◌≡◌ {A = Result (Unit {0}) Code} (Ok tt) (look_denied o) → o ≡ None
look_ok None is = refl
look_ok (Some at) is = cc

-- the first that is denied, of those behind some that aren't
pub look_on : (memory : Memory) (address next done piece n : ℕ) → next ≡ address + done → done + piece ≤ n
    → first_denied memory 0 address done ≡ None → first_denied memory 0 next piece ≡ None → first_denied memory 0 address (done + piece) ≡ None
look_on memory address next done piece n at within so_far none =
    denied_back memory 0 address done piece so_far ∙ ap (λ a. first_denied memory 0 a piece) (sym at) ∙ none

look_err_at : (memory : Memory) (address next done piece n : ℕ) (code : Code) (o : Option ℕ) → next ≡ address + done → done + piece ≤ n
    → first_denied memory 0 address done ≡ None → first_denied memory 0 next piece ≡ o → Err code ≡ look_denied o → Err code ≡ look_denied (first_denied memory 0 address n)
look_err_at memory address next done piece n code None at within so_far is looks = cc
look_err_at memory address next done piece n code (Some found) at within so_far is looks =
    let here = denied_back memory 0 address done piece so_far ∙ ap (λ a. first_denied memory 0 a piece) (sym at) ∙ is in
    let all : done + piece + (n - (done + piece)) ≡ n = omega (arith, within) in
    let found_in = denied_front memory 0 address (done + piece) (n - (done + piece)) found here in
    looks ∙ sym (ap look_denied (sym (ap (first_denied memory 0 address) all) ∙ found_in))

pub look_err : (memory : Memory) (address next done piece n : ℕ) (code : Code) → next ≡ address + done → done + piece ≤ n
    → first_denied memory 0 address done ≡ None → Err code ≡ look_denied (first_denied memory 0 next piece) → Err code ≡ look_denied (first_denied memory 0 address n)
look_err memory address next done piece n code at within so_far looks =
    look_err_at memory address next done piece n code (first_denied memory 0 next piece) at within so_far refl looks

-- where none is denied, each is there
each_there : (memory : Memory) (address n i : ℕ) → first_denied memory 0 address n ≡ None → i < n → allows memory 0 (address + i) ≡ true
each_there memory address zero i none below = absurd (omega (arith, below))
each_there memory address (suc n) i none below = by_test (allows memory 0 address) refl i none below (each_there memory (address + 1) n)
  where
    by_test : (b : Bool) → allows memory 0 address ≡ b → (i : ℕ) → cond b (first_denied memory 0 (address + 1) n) (Some address) ≡ None → i < suc n
        → ((k : ℕ) → first_denied memory 0 (address + 1) n ≡ None → k < n → allows memory 0 (address + 1 + k) ≡ true) → allows memory 0 (address + i) ≡ true
    by_test true is zero none below rest = let same : address + 0 ≡ address = omega arith in ap (allows memory 0) same ∙ is
    by_test true is (suc k) none below rest =
        let same : address + suc k ≡ address + 1 + k = omega arith in ap (allows memory 0) same ∙ rest k none (omega (arith, below))
    by_test false is i none below rest = cc

is_there : (o : Option Page) → option_map_or (λ page. permits page.perms 0) o false ≡ true → is_some o ≡ true
is_there None is = cc
is_there (Some page) is = refl

seen_there : (o : Option PageState) → is_some (option_map seen_page o) ≡ true → is_some o ≡ true
seen_there None is = cc
seen_there (Some x) is = refl

-- and so they end where user addresses end
pub ends_low : (m : TranslatedView) (p address n : ℕ) → IsJoined m.pages → first_denied (memory_of (state_of m) p) 0 address n ≡ None → 0 < n → address + n ≤ ADDRESS_END
ends_low m p address n joined none some =
    let last = each_there (memory_of (state_of m) p) address n (n - 1) none (omega (arith, some)) in
    let page = (address + (n - 1)) / PAGE_BYTES in
    let here = is_there (get (memory_of (state_of m) p) page) last in
    let low = page_low m.pages joined p page (seen_there (page_in (state_of m) p page) (sym (ap is_some (memory_at (state_of m) p page)) ∙ here)) in
    omega (arith, low, some)

-- What a session answers of a process that is there.
module _ (machine : Machine) (memory : TranslatedView) (p address n : ℕ) (process : declared.Process) (same : memory ≡ machine.memory) (there : Some process ≡ get machine.processes p) where
  found_is : get (wholes machine).processes p ≡ Some (whole_in (spaces_of machine) p process)
  found_is = processes_at machine p ∙ ap (option_map (whole_in (spaces_of machine) p)) (sym there)

  pub looks_are : (result : Result (Unit {0}) Code) → result ≡ look_denied (first_denied (memory_of (state_of memory) p) 0 address n)
      → CanRead (wholes machine).processes p address n result
  looks_are result is =
      is ∙ ap (λ (m : TranslatedView). look_denied (first_denied (memory_of (state_of m) p) 0 address n)) same ∙ sym (ap (look_of address n) found_is)

  pub bytes_are : (result : Result (Unit {0}) Code) (into : List ℕ) → OnOk result (into ≡ bytes_at (memory_of (state_of memory) p) address n)
      → ReadsBytes (wholes machine).processes p address n into result
  bytes_are (Ok done) into is = is ∙ ap (λ (m : TranslatedView). bytes_at (memory_of (state_of m) p) address n) same ∙ sym (ap (bytes_in address n) found_is)
  bytes_are (Err code) into is = tt
