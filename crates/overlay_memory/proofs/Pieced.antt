use Rattle.std.proofs.Common.{◌≡◌, ℕ, ◌+◌, ◌*◌, ◌/◌, ◌%◌, ◌<◌, ◌≤◌, Bool, true, false, List, length, take, drop, Some, None, sym, ap, subst, ◌∙◌, refl, arith}
use Rattle.std.specs.Prelude.{Result, Ok, Err, is_some}
use Rattle.std.specs.Option.{option_map, option_map_or}
use Rattle.std.specs.FinMap.{get}
use Rattle.sizes.specs.declared.TheConstants.{ADDRESS_END, LINE_BYTES, PAGE_BYTES, PAGE_LINES}
use Rattle.ovl_io.specs.Memory.{Page, bytes_at, first_denied}
use Rattle.ovl_io.specs.MemoryLaws.{all_allowed, bytes_in, first_refused}
use Rattle.ovl_io.specs.PageBytes.{page_allows}
use Rattle.ovl_io.specs.declared.perms.Perms.{Perms}
use Rattle.ovl_io.specs.Permissions.{permits}
use Rattle.overlay_pages.specs.Lines.{line_in_page}
use Rattle.overlay_pages.specs.State.{PageState, State, memory_of, seen_page}
use Rattle.overlay_memory.specs.declared.error.MemoryError.{MemoryError}
use Rattle.overlay_memory.specs.declared.error.MemoryError.TheVariants.{Unmapped, Forbidden, Full}
use Rattle.overlay_pages.specs.View.{IsJoined, MemoryView, state_of}
use Rattle.overlay_pages.specs.SpotLaws.{found_page}
use Rattle.overlay_pages.specs.declared.spots.FoundLine.{FoundLine}
use Rattle.overlay_memory.specs.Access.{IsFoundIn, Reads}
use Rattle.overlay_memory.specs.Pieces.{IsLacking, IsPermitted, Permits}
use Rattle.overlay_memory.specs.StateMemory.{memory_at}
use Rattle.overlay_pages.specs.LineLaws.{byte_count}
use Rattle.overlay_memory.proofs.LineBytes.{line_part}
use Rattle.overlay_memory.proofs.Views.{page_low}
use Rattle.space_maps.specs.Spaces.{page_in}

-- What a look-up for one byte says of an access in its page, and what is read from a line.

pub seen_there : (v : State) (s p : ℕ) (x : PageState) → page_in v s p ≡ Some x → get (memory_of v s) p ≡ Some (seen_page x)
seen_there v s p x there = memory_at v s p ∙ ap (option_map seen_page) there

pub absent_there : (v : State) (s p : ℕ) → page_in v s p ≡ None → get (memory_of v s) p ≡ None
absent_there v s p absent = memory_at v s p ∙ ap (option_map seen_page) absent

allows_is : (v : State) (s need p : ℕ) (x : PageState) (b : Bool) → page_in v s p ≡ Some x → permits x.entry.perms.0 need ≡ b
    → page_allows (memory_of v s) need p ≡ b
allows_is v s need p x b there is = ap (λ found. option_map_or (λ (page : Page). permits page.perms need) found false) (seen_there v s p x there) ∙ is

pub permitted : (view : MemoryView) (s need address n : ℕ) → IsPermitted view s need address → address % PAGE_BYTES + n ≤ PAGE_BYTES
    → first_denied (memory_of (state_of view) s) need address n ≡ None
permitted view s need address n may fits =
    all_allowed (memory_of (state_of view) s) need (address / 4096) address n
    (allows_is (state_of view) s need (address / 4096) may.page true may.there may.may) (omega arith) (omega (arith, fits))

pub refused : (v : State) (s need address n at : ℕ) → at ≡ address → 0 < n → page_allows (memory_of v s) need (address / PAGE_BYTES) ≡ false
    → first_denied (memory_of v s) need address n ≡ Some at
refused v s need address n at is some mayn = first_refused (memory_of v s) need (address / 4096) address n mayn refl some ∙ ap Some (sym is)

pub reads_of : (view : MemoryView) (s need address n : ℕ) (r : Result (Unit {0}) MemoryError) → 0 < n → address % PAGE_BYTES + n ≤ PAGE_BYTES
    → Permits view s need address r → Reads (state_of view) s need address n r
reads_of view s need address n (Ok done) some fits h = permitted view s need address n h fits
reads_of view s need address n (Err (Unmapped at)) some fits h = record {
  first = refused (state_of view) s need address n at h.0 some
      (ap (λ found. option_map_or (λ (page : Page). permits page.perms need) found false) (absent_there (state_of view) s (address / 4096) h.1));
  absent = ap (λ a. get (memory_of (state_of view) s) (a / 4096)) h.0 ∙ absent_there (state_of view) s (address / 4096) h.1;
}
reads_of view s need address n (Err (Forbidden at)) some fits h = record {
  first = refused (state_of view) s need address n at h.0 some
      (allows_is (state_of view) s need (address / 4096) h.1.page false h.1.there h.1.lacks);
  there = ap is_some (ap (λ a. get (memory_of (state_of view) s) (a / 4096)) h.0 ∙ seen_there (state_of view) s (address / 4096) h.1.page h.1.there);
}
reads_of view s need address n (Err (Full needed limit)) some fits h = absurd h

-- whether it may be used, where the line with it was found
found_perms : (view : MemoryView) (space address need : ℕ) (found : FoundLine) (b : Bool) (it : IsFoundIn view space address found) → permits found.perms.0 need ≡ b
    → permits (found_page view space (address / PAGE_BYTES) (address / LINE_BYTES % PAGE_LINES) found it).0.entry.perms.0 need ≡ b
found_perms view space address need found b it is =
    ap (λ (k : Perms). permits k.0 need) (found_page view space (address / PAGE_BYTES) (address / LINE_BYTES % PAGE_LINES) found it).2 ∙ is

pub found_permits : (view : MemoryView) (space address need : ℕ) (found : FoundLine) → IsFoundIn view space address found → IsJoined view
    → permits found.perms.0 need ≡ true → IsPermitted view space need address
found_permits view space address need found it joined is =
    let x = found_page view space (address / PAGE_BYTES) (address / LINE_BYTES % PAGE_LINES) found it in
    record { page = x.0; there = x.1; may = found_perms view space address need found true it is; joined = joined }

pub found_lacks : (view : MemoryView) (space address need : ℕ) (found : FoundLine) → IsFoundIn view space address found
    → permits found.perms.0 need ≡ false → IsLacking view space need address
found_lacks view space address need found it is =
    let x = found_page view space (address / PAGE_BYTES) (address / LINE_BYTES % PAGE_LINES) found it in
    record { page = x.0; there = x.1; lacks = found_perms view space address need found false it is }

pub low_address : (view : MemoryView) (s need address : ℕ) → IsPermitted view s need address → address < ADDRESS_END
low_address view s need address may = let low = page_low view s (address / 4096) may.page may.joined may.there in omega (arith, low)

-- what stands in a part of a line is what stands there in the memory
pub read_piece : (v : State) (s q line at n address : ℕ) (x : PageState) (bytes : List ℕ) → page_in v s q ≡ Some x
    → option_map (λ (x : PageState). line_in_page x.lines line) (page_in v s q) ≡ Some bytes → length bytes ≡ LINE_BYTES → line < PAGE_LINES
    → at + n ≤ LINE_BYTES
    → address ≡ PAGE_BYTES * q + (LINE_BYTES * line + at) → take n (drop at bytes) ≡ bytes_at (memory_of v s) address n
read_piece v s q line at n address x bytes there is whole low fits place =
    let same : Some (line_in_page x.lines line) ≡ Some bytes = sym (ap (option_map (λ (x : PageState). line_in_page x.lines line)) there) ∙ is in
    let it : line_in_page x.lines line ≡ bytes = cc in
    ap (λ l. take n (drop at l)) (sym it)
    ∙ line_part x.lines line at n (ap length it ∙ whole) low fits
    ∙ sym (bytes_in (memory_of v s) q address (64 * line + at) n (seen_page x) (seen_there v s q x there) (byte_count x.lines) place (omega (arith, low, fits)))

-- the same of a line that was found
pub found_piece : (view : MemoryView) (address n : ℕ) (found : FoundLine) (bytes : List ℕ) → IsFoundIn view found.space address found
    → address % LINE_BYTES + n ≤ LINE_BYTES
    → option_map (λ (x : PageState). line_in_page x.lines found.line) (page_in (state_of view) found.space found.page) ≡ Some bytes → length bytes ≡ LINE_BYTES
    → take n (drop (address % LINE_BYTES) bytes) ≡ bytes_at (memory_of (state_of view) found.space) address n
found_piece view address n found bytes it fits is whole =
    let page = address / 4096 in
    let line = address / 64 % 64 in
    let place : address ≡ 4096 * page + (64 * line + address % 64) = omega arith in
    let x = found_page view found.space page line found it in
    let here : option_map (λ (x : PageState). line_in_page x.lines line) (page_in (state_of view) found.space page) ≡ Some bytes =
    subst (λ l. option_map (λ (x : PageState). line_in_page x.lines l) (page_in (state_of view) found.space page) ≡ Some bytes) it.line_is
    (subst (λ p. option_map (λ (x : PageState). line_in_page x.lines found.line) (page_in (state_of view) found.space p) ≡ Some bytes) it.page_is is) in
    read_piece (state_of view) found.space page line (address % 64) n address x.0 bytes x.1 here whole (omega arith) fits place
