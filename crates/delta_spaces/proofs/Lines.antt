use Rattle.std.specs.Prelude.{◌≡◌, ℕ, ◌+◌, ◌*◌, ◌/◌, ◌%◌, ◌<◌, ◌≤◌, Bool, true, false, cond, ◌||◌, if◌then◌else◌, nat_eq, List, length, take, drop, get_or, replicate, Option, Some, None, IsSome, is_some, refl}
use Rattle.std.proofs.Common.{sym, ap, ◌∙◌, arith, length-drop}
use Rattle.std.proofs.lemmas.Bool.Decides.{nat_tests}
use Rattle.std.proofs.lemmas.Grind.{same_number_lists}
use Rattle.std.proofs.lemmas.List.{get_or-drop, get_or-replicate, get_or-take, length-replicate, length-take-le}
use Rattle.std.specs.Int.Bits.{and_zero_r}
use Rattle.std.specs.Option.{option_map, option_map_or}
use Rattle.std.specs.FinMap.{get}
use Rattle.sizes.specs.declared.TheConstants.{PAGE_BYTES, PAGE_END, PAGE_LINES}
use Rattle.ovl_io.specs.Memory.{Page, bytes_at, first_denied}
use Rattle.ovl_io.specs.MemoryLaws.{all_allowed, bytes_in}
use Rattle.ovl_io.specs.PageBytes.{IsMemory}
use Rattle.ovl_io.specs.Permissions.{permits}
use Rattle.overlay_bits.specs.Lines.{AreLines, has_line, with_lines}
use Rattle.overlay_bits.specs.Laws.{has_with_lines}
use Rattle.overlay_mapping_table.specs.declared.entry.Entry.{Entry}
use Rattle.page_table.specs.declared.entry.PageEntry.{PageEntry}
use Rattle.segment_store.specs.Store.{frame_line, frame_place, place_of}
use Rattle.line_store.specs.Lines.{line_of}
use Rattle.space_ledger.specs.View.{PageView, lines_of, origin_of}
use Rattle.space_maps.specs.Options.{map_from, none_by}
use Rattle.space_maps.specs.Spaces.{page_in}
use Rattle.overlay_pages.specs.Changes.{frame_but_zero}
use Rattle.overlay_pages.specs.Lines as lines
use Rattle.overlay_pages.specs.Lines.{bytes_in_lines, line_in_page}
use Rattle.overlay_pages.specs.LineLaws.{byte_at, byte_count, line_at}
use Rattle.overlay_pages.specs.State.{PageState, State, memory_of, seen_page}
use Rattle.overlay_pages.specs.View.{IsJoined, MemoryView, line_seen, page_state, state_of}
use Rattle.overlay_pages.specs.ViewLaws.{state_page}
use Rattle.std.specs.Prelude.{Err}
use Rattle.overlay_memory.specs.Access.{Reads}
use Rattle.overlay_memory.specs.declared.error.MemoryError.{MemoryError}
use Rattle.overlay_memory.specs.declared.error.MemoryError.TheVariants.{Unmapped, Forbidden, Full}
use Rattle.overlay_memory.specs.Joined.{page_low}
use Rattle.overlay_memory.specs.PageLaws.{HasPage, has_page, some_is}
use Rattle.overlay_memory.specs.StateMemory.{memory_at}
use Rattle.delta_image.specs.Applied.{base_bytes, line_in, zero_page}
use Rattle.delta_image.specs.AppliedLaws.{line_long}
use Rattle.delta_spaces.specs.Gathered.{AreSameBeside}

-- The bytes of a page by its lines.

byte_in : (lines : List (List ℕ)) (line k : ℕ) → line < 64 → k < 64 → get_or (line_in (bytes_in_lines lines) line) k 0 ≡ get_or (line_in_page lines line) k 0
byte_in lines line k low within =
    let quotient : (64 * line + k) / 64 ≡ line = omega (arith, within) in
    let rest : (64 * line + k) % 64 ≡ k = omega (arith, within) in
    get_or-take 64 (drop (64 * line) (bytes_in_lines lines)) k 0 within ∙ get_or-drop (64 * line) (bytes_in_lines lines) k 0
    ∙ byte_at lines (64 * line + k) (omega (arith, low, within))
    ∙ ap (λ n. get_or (line_in_page lines n) ((64 * line + k) % 64) 0) quotient ∙ ap (λ n. get_or (line_in_page lines line) n 0) rest

-- pages with one line equal have its bytes equal
pub same_line : (xs ys : List (List ℕ)) (line : ℕ) → line < PAGE_LINES → line_in_page xs line ≡ line_in_page ys line
    → line_in (bytes_in_lines xs) line ≡ line_in (bytes_in_lines ys) line
same_line xs ys line low same =
    let long = line_long (bytes_in_lines xs) line (byte_count xs) low in
    let other = line_long (bytes_in_lines ys) line (byte_count ys) low in
    same_number_lists _ _ (long ∙ sym other) (λ k below.
    let within : k < 64 = omega (arith, below, long) in
    byte_in xs line k low within ∙ ap (λ bytes. get_or bytes k 0) same ∙ sym (byte_in ys line k low within))

-- The bytes of a page of a space.

pub bytes_there : (v : State) (space page : ℕ) (x : PageState) → page_in v space page ≡ Some x → base_bytes (memory_of v space) page ≡ bytes_in_lines x.lines
bytes_there v space page x there =
    ap (λ (o : Option Page). option_map_or (λ (p : Page). p.bytes) o zero_page) (memory_at v space page ∙ ap (option_map seen_page) there)

pub bytes_absent : (v : State) (space page : ℕ) → page_in v space page ≡ None → base_bytes (memory_of v space) page ≡ zero_page
bytes_absent v space page absent =
    ap (λ (o : Option Page). option_map_or (λ (p : Page). p.bytes) o zero_page) (memory_at v space page ∙ ap (option_map seen_page) absent)

-- it is a whole memory, whose pages are low
pub is_memory : (m : MemoryView) → IsJoined m → (space : ℕ) → IsMemory (memory_of (state_of m) space)
is_memory m joined space = record { low = low; whole = whole }
  where
    low : (number : ℕ) (page : Page) → get (memory_of (state_of m) space) number ≡ Some page → number < PAGE_END
    low number page there =
        map_from seen_page (page_in (state_of m) space number) page (sym (memory_at (state_of m) space number) ∙ there)
        (λ x at is. page_low m joined space number (ap is_some at))

    whole : (number : ℕ) (page : Page) → get (memory_of (state_of m) space) number ≡ Some page → length page.bytes ≡ PAGE_BYTES
    whole number page there =
        map_from seen_page (page_in (state_of m) space number) page (sym (memory_at (state_of m) space number) ∙ there)
        (λ x at is. ap (λ (p : Page). length p.bytes) (sym is) ∙ byte_count x.lines)

-- what reading a line of a page that is there answers
module _ (v : State) (space page address line : ℕ) (there : IsSome (page_in v space page)) (address_is : address ≡ 4096 * page + 64 * line) (low : line < PAGE_LINES) where
  p : HasPage v space page
  p = has_page v space page there

  in_memory : get (memory_of v space) page ≡ Some (seen_page p.x)
  in_memory = memory_at v space page ∙ ap (option_map seen_page) p.there

  pub line_allowed : first_denied (memory_of v space) 0 address 64 ≡ None
  line_allowed =
      all_allowed (memory_of v space) 0 page address 64
      (ap (λ (o : Option Page). option_map_or (λ (q : Page). permits q.perms 0) o false) in_memory ∙ ap (λ n. nat_eq n 0) (and_zero_r p.x.entry.perms.0))
      (omega (arith, address_is)) (omega (arith, address_is, low))

  pub line_read : (bytes : List ℕ) → bytes ≡ bytes_at (memory_of v space) address 64 → bytes ≡ line_in (base_bytes (memory_of v space) page) line
  line_read bytes is =
      is ∙ bytes_in (memory_of v space) page address (64 * line) 64 (seen_page p.x) in_memory (byte_count p.x.lines) address_is (omega (arith, low))
      ∙ ap (λ all. line_in all line) (sym (bytes_there v space page p.x p.there))

-- A page that isn't there has zero lines.
zeros_in : (n line : ℕ) → 64 * line + 64 ≤ n → replicate 64 0 ≡ line_in (replicate n 0) line
zeros_in n line fits =
    let zeros : List ℕ = replicate n 0 in
    let whole : length zeros ≡ n = length-replicate {A = ℕ} n 0 in
    let short : length (replicate {A = ℕ} 64 0) ≡ 64 = length-replicate {A = ℕ} 64 0 in
    let long : length (take 64 (drop (64 * line) zeros)) ≡ 64 = length-take-le 64 (drop (64 * line) zeros) (omega (arith, length-drop (64 * line) zeros, whole, fits)) in
    same_number_lists (replicate 64 0) _ (short ∙ sym long) (λ k below.
    let within : k < 64 = omega (arith, below, short) in
    get_or-replicate 64 k 0 0 within
    ∙ sym (get_or-take 64 (drop (64 * line) zeros) k 0 within ∙ get_or-drop (64 * line) zeros k 0 ∙ get_or-replicate n (64 * line + k) 0 0 (omega (arith, within, fits))))

pub zero_page_is : zero_page ≡ replicate PAGE_BYTES 0
unfolding zero_page
zero_page_is = refl

-- the bytes of a page on the zero frame
zero_line_byte : (k : ℕ) → k < 64 → get_or lines.zero_line k 0 ≡ 0
unfolding lines.zero_line lines.bytes_of_line
zero_line_byte k within = get_or-replicate 64 k 0 0 within

zero_line_at : (i : ℕ) → i < 64 → line_in_page lines.zero_page i ≡ lines.zero_line
unfolding lines.zero_page
zero_line_at i low = line_at (λ _. lines.zero_line) i low

pub zero_bytes : bytes_in_lines lines.zero_page ≡ zero_page
zero_bytes =
    same_number_lists _ _ (byte_count lines.zero_page ∙ sym (ap (λ (bytes : List ℕ). length bytes) zero_page_is ∙ length-replicate {A = ℕ} 4096 0)) (λ k below.
    let low : k < 4096 = omega (arith, below, byte_count lines.zero_page) in
    byte_at lines.zero_page k low ∙ ap (λ (bytes : List ℕ). get_or bytes (k % 64) 0) (zero_line_at (k / 64) (omega (arith, low))) ∙ zero_line_byte (k % 64) (omega arith)
    ∙ sym (ap (λ (bytes : List ℕ). get_or bytes k 0) zero_page_is ∙ get_or-replicate 4096 k 0 0 low))

pub zero_line_is : (v : State) (space page line : ℕ) → is_some (page_in v space page) ≡ false → line < PAGE_LINES
    → replicate 64 0 ≡ line_in (base_bytes (memory_of v space) page) line
zero_line_is v space page line absent low =
    zeros_in 4096 line (omega (arith, low)) ∙ ap (λ bytes. line_in bytes line) (sym (bytes_absent v space page (none_by (page_in v space page) absent) ∙ zero_page_is))

-- Two pages on one frame: the lines that neither of them has for its own are those of the frame.

record HasView (m : MemoryView) (x : PageState) : Type 0 where
  view : PageView
  is : x ≡ page_state m.store view

has_view : (m : MemoryView) (space page : ℕ) (x : PageState) → page_in (state_of m) space page ≡ Some x → HasView m x
has_view m space page x there =
    map_from (page_state m.store) (page_in m.table space page) x (sym (state_page m space page) ∙ there) (λ y at is. record { view = y; is = sym is })

beside_own : (m : MemoryView) (y : PageView) (line : ℕ) → line < PAGE_LINES → has_line (page_state m.store y).own line ≡ false
    → line_in_page (page_state m.store y).lines line ≡ frame_line m.store y.entry.frame line
unfolding page_state
beside_own m y line low none = line_at (line_seen m.store y) line low ∙ by_overlay y.entry y.overlay none
  where
    by_overlay : (e : PageEntry) (o : Option Entry) → has_line (lines_of o) line ≡ false
        → line_seen m.store (record { entry = e; overlay = o }) line ≡ frame_line m.store e.frame line
    by_overlay e None none = refl
    by_overlay e (Some o) none = ap (λ b. line_of m.store.lines (cond b (place_of m.store o.block line) (frame_place e.frame line))) none

pub same_beside : (m : MemoryView) (saved base page : ℕ) (x y : PageState) → page_in (state_of m) saved page ≡ Some x → page_in (state_of m) base page ≡ Some y
    → x.entry.frame ≡ y.entry.frame → (line : ℕ) → line < PAGE_LINES → has_line x.own line ≡ false → has_line y.own line ≡ false
    → line_in (base_bytes (memory_of (state_of m) saved) page) line ≡ line_in (base_bytes (memory_of (state_of m) base) page) line
unfolding page_state
same_beside m saved base page x y at_saved at_base frame line low none nor =
    let a = has_view m saved page x at_saved in
    let b = has_view m base page y at_base in
    let one = beside_own m a.view line low (ap (λ (z : PageState). has_line z.own line) (sym a.is) ∙ none) in
    let two = beside_own m b.view line low (ap (λ (z : PageState). has_line z.own line) (sym b.is) ∙ nor) in
    let frames : a.view.entry.frame ≡ b.view.entry.frame =
    ap (λ (z : PageState). z.entry.frame) (sym a.is) ∙ frame ∙ ap (λ (z : PageState). z.entry.frame) b.is in
    ap (λ bytes. line_in bytes line) (bytes_there (state_of m) saved page x at_saved)
    ∙ same_line x.lines y.lines line low (ap (λ (z : PageState). line_in_page z.lines line) a.is ∙ one ∙ ap (λ f. frame_line m.store f line) frames
    ∙ sym (ap (λ (z : PageState). line_in_page z.lines line) b.is ∙ two))
    ∙ ap (λ bytes. line_in bytes line) (sym (bytes_there (state_of m) base page y at_base))

-- frames that are told alike are one
one_frame : (none a b : ℕ) → frame_but_zero none a ≡ frame_but_zero none b → a ≡ b
one_frame none a b same = by_tests (nat_eq a none) (nat_eq b none) refl refl same
  where
    by_tests : (s t : Bool) → nat_eq a none ≡ s → nat_eq b none ≡ t → (if s then None else Some a) ≡ (if t then None else Some b) → a ≡ b
    by_tests true true e f h = grind (arith, nat_tests)
    by_tests true false e f h = let no = ap is_some h in cc
    by_tests false true e f h = let no = ap is_some h in cc
    by_tests false false e f h = some_is a b h

-- the lines that may differ: those of both where the frames are one, and else all of them
module _ (m : MemoryView) (saved base page : ℕ) (there : is_some (page_in (state_of m) saved page) ≡ true) (based : is_some (page_in (state_of m) base page) ≡ true) where
  of_saved : HasPage (state_of m) saved page
  of_saved = has_page (state_of m) saved page there

  of_base : HasPage (state_of m) base page
  of_base = has_page (state_of m) base page based

  own_of : {own : List ℕ} (x : PageState) (space : ℕ) → page_in (state_of m) space page ≡ Some x
      → option_map (λ (x : PageState). x.own) (page_in (state_of m) space page) ≡ Some own → x.own ≡ own
  own_of {own} x space at e = some_is x.own own (sym (ap (option_map (λ (x : PageState). x.own)) at) ∙ e)

  frame_is : (f : Option ℕ) (x : PageState) (space : ℕ) → page_in (state_of m) space page ≡ Some x
      → option_map (λ (x : PageState). frame_but_zero (state_of m).zero_frame x.entry.frame) (page_in (state_of m) space page) ≡ Some f
      → frame_but_zero (state_of m).zero_frame x.entry.frame ≡ f
  frame_is f x space at e =
      some_is (frame_but_zero (state_of m).zero_frame x.entry.frame) f
      (sym (ap (option_map (λ (x : PageState). frame_but_zero (state_of m).zero_frame x.entry.frame)) at) ∙ e)

  pub beside_both : (f g : Option ℕ) (own other : List ℕ)
      → option_map (λ (x : PageState). frame_but_zero (state_of m).zero_frame x.entry.frame) (page_in (state_of m) saved page) ≡ Some f
      → option_map (λ (x : PageState). frame_but_zero (state_of m).zero_frame x.entry.frame) (page_in (state_of m) base page) ≡ Some g
      → f ≡ g
      → option_map (λ (x : PageState). x.own) (page_in (state_of m) saved page) ≡ Some own
      → option_map (λ (x : PageState). x.own) (page_in (state_of m) base page) ≡ Some other
      → AreLines own → AreLines other → AreSameBeside (state_of m) saved base page (with_lines own other)
  beside_both f g own other f_is g_is same own_is other_is are too line low absent =
      let frames = one_frame (state_of m).zero_frame of_saved.x.entry.frame of_base.x.entry.frame (frame_is f of_saved.x saved of_saved.there f_is ∙ same ∙ sym (frame_is g of_base.x base of_base.there g_is)) in
      let parts = neither (has_line own line) (has_line other line) (sym (has_with_lines own other line are too) ∙ absent) in
      same_beside m saved base page of_saved.x of_base.x of_saved.there of_base.there frames line low
      (ap (λ lines. has_line lines line) (own_of of_saved.x saved of_saved.there own_is) ∙ parts.0)
      (ap (λ lines. has_line lines line) (own_of of_base.x base of_base.there other_is) ∙ parts.1)
    where
      neither : (a b : Bool) → (a || b) ≡ false → (a ≡ false) × (b ≡ false)
      neither false false h = (refl, refl)
      neither true b h = cc
      neither false true h = cc

pub beside_all : (v : State) (saved base page : ℕ) (lines : List ℕ) → ((line : ℕ) → line < PAGE_LINES → has_line lines line ≡ true) → AreSameBeside v saved base page lines
beside_all v saved base page lines all line low absent = let no = sym absent ∙ all line low in cc

-- what is answered at a refusal never comes
pub never_refused : (v : State) (space page address line : ℕ) → IsSome (page_in v space page) → address ≡ 4096 * page + 64 * line → line < PAGE_LINES → (error : MemoryError)
    → Reads v space 0 address 64 (Err error) → ⊥
never_refused v space page address line there is low (Unmapped at) refused = let no = sym (line_allowed v space page address line there is low) ∙ refused.first in cc
never_refused v space page address line there is low (Forbidden at) refused = let no = sym (line_allowed v space page address line there is low) ∙ refused.first in cc
never_refused v space page address line there is low (Full needed limit) refused = refused

-- frames of origin 0 are one
pub one_zero : (none a b : ℕ) → origin_of none a ≡ 0 → origin_of none b ≡ 0 → a ≡ b
one_zero none a b is too = zero_is a is ∙ sym (zero_is b too)
  where
    zero_is : (f : ℕ) → origin_of none f ≡ 0 → f ≡ none
    zero_is f e = by_same (nat_eq f none) refl e
      where
        by_same : (t : Bool) → nat_eq f none ≡ t → (if t then 0 else f + 1) ≡ 0 → f ≡ none
        by_same true h k = grind (arith, nat_tests)
        by_same false h k = absurd (omega (arith, k))
