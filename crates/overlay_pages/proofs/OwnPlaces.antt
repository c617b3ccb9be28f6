use Rattle.overlay_pages.proofs.Common.{◌≡◌, ℕ, ◌*◌, ◌<◌, ◌⊎◌, true, false, Option, Some, IsSome, refl, sym, ap, ◌∙◌, arith, inl, inr, cases_eq, none-some, same_Some, option_map, option_map_or}
use Rattle.overlay_pages.proofs.Stores.{has_line, Entry, Segment, IsSegment, frame_place, place_of, scratch_place, segment_at, LiesIn, frame_inside, inside_of, line_lies, places_differ, segment_range, order_of}
use Rattle.overlay_pages.proofs.Books.{page_in, PageView, lines_of, overlay_at}
use Rattle.overlay_pages.proofs.Views.{HasOwnPlace, IsJoined, MemoryView, ShareFrameLine, place_at, place_in_page, segment_of}
use Rattle.overlay_pages.proofs.Steps.{by_spot, names_apart, place_inside, place_outside}
use Rattle.overlay_pages.proofs.Joining.{Has, page_with}

-- Where each line of a page stands, and that no other line stands there but those of its frame.

pub record InOverlay (m : MemoryView) (q r i : ℕ) : Type 0 where
  pub x : PageView
  pub there : page_in m.table q r ≡ Some x
  pub overlay : Entry
  pub over : x.overlay ≡ Some overlay
  pub has : has_line overlay.bits i ≡ true
  pub place : place_at m q r i ≡ place_of m.store overlay.block i

pub record InFrame (m : MemoryView) (q r i : ℕ) : Type 0 where
  pub x : PageView
  pub there : page_in m.table q r ≡ Some x
  pub lacks : has_line (lines_of x.overlay) i ≡ false
  pub place : place_at m q r i ≡ frame_place x.entry.frame i

placed : (m : MemoryView) (q r i : ℕ) (o : Option Entry) (found : Has m.table q r o) → place_at m q r i ≡ place_in_page m.store found.x i
placed m q r i o found = ap (λ (f : Option PageView). option_map_or (λ (x : PageView). place_in_page m.store x i) f 0) found.there

pub stands : (m : MemoryView) (q r i : ℕ) → IsSome (page_in m.table q r) → InOverlay m q r i ⊎ InFrame m q r i
stands m q r i there =
    let found = page_with m.table q r there (overlay_at m.table q r) refl in
    let place = placed m q r i (overlay_at m.table q r) found in
    by_spot found.x i
    (λ e over has. inl (record { x = found.x; there = found.there; overlay = e; over = over; has = has; place = place ∙ place_inside m.store found.x e i over has }))
    (λ lacks. inr (record { x = found.x; there = found.there; lacks = lacks; place = place ∙ place_outside m.store found.x i lacks }))

-- the segment that a line stands in
held_segment : (m : MemoryView) → IsJoined m → (q r i : ℕ) → (o : InOverlay m q r i) → segment_at m.store o.overlay.block.unit ≡ Some (segment_of q r o.overlay)
held_segment m is q r i o = (is.held q r o.x o.there).segment o.overlay o.over

pub is_segment : (m : MemoryView) → IsJoined m → (q r i : ℕ) → (o : InOverlay m q r i) → IsSegment m.store o.overlay.block
is_segment m is q r i o = record { segment = segment_of q r o.overlay; there = held_segment m is q r i o; order = refl }

lies : (m : MemoryView) → IsJoined m → (q r i : ℕ) → (o : InOverlay m q r i) → LiesIn m.store.lines o.overlay.block.unit o.overlay.block.order i
lies m is q r i o = line_lies m.store is.store o.overlay.block.unit (segment_of q r o.overlay) i (held_segment m is q r i o) o.has

-- A line in an overlay, and one in a frame.
overlay_frame : (m : MemoryView) → IsJoined m → (q r i s p j : ℕ) → (o : InOverlay m q r i) → (f : InFrame m s p j) → j < 64 → place_at m q r i ≡ place_at m s p j → ⊥
overlay_frame m is q r i s p j o f low same =
    let taken = (is.held s p f.x f.there).frame in
    let inside = lies m is q r i o in
    let apart : 16 * f.x.entry.frame ≡ o.overlay.block.unit → ⊥ = λ e. none-some (segment_of q r o.overlay) (sym taken.alone ∙ ap (segment_at m.store) e ∙ held_segment m is q r i o) in
    elim (segment_range m.store is.store o.overlay.block (is_segment m is q r i o) (16 * f.x.entry.frame) 4 taken.taken apart) [
      | inl h ↦ omega (arith, h, inside.from, o.place, f.place, same, low)
      | inr h ↦ omega (arith, h, inside.to, o.place, f.place, same, low)
    ]

-- Two lines in overlays.
module _ (m : MemoryView) (is : IsJoined m) (q r i s p j : ℕ) (one : InOverlay m q r i) (two : InOverlay m s p j) (same : place_at m q r i ≡ place_at m s p j) where
  places : place_of m.store one.overlay.block i ≡ place_of m.store two.overlay.block j
  places = sym one.place ∙ same ∙ two.place

  one_unit : one.overlay.block.unit ≡ two.overlay.block.unit
  one_unit =
      let first = lies m is q r i one in
      let second = lies m is s p j two in
      let taken = is.store.taken two.overlay.block.unit (segment_of s p two.overlay) (held_segment m is s p j two) in
      elim (cases_eq two.overlay.block.unit one.overlay.block.unit) [
        | inl e ↦ sym e
        | inr n ↦ elim (segment_range m.store is.store one.overlay.block (is_segment m is q r i one) two.overlay.block.unit two.overlay.block.order taken n) [
          | inl h ↦ absurd (omega (arith, h, first.from, second.to, places))
          | inr h ↦ absurd (omega (arith, h, first.to, second.from, places))
        ]
      ]

  one_segment : segment_of q r one.overlay ≡ segment_of s p two.overlay
  one_segment = same_Some _ _ (sym (held_segment m is q r i one) ∙ ap (segment_at m.store) one_unit ∙ held_segment m is s p j two)

  one_block : one.overlay.block ≡ two.overlay.block
  one_block = let unit = one_unit in let order : one.overlay.block.order ≡ two.overlay.block.order = ap (λ (g : Segment). g.order) one_segment in λ k. record { unit = unit k; order = order k }

  one_line : i ≡ j
  one_line =
      places_differ m.store.lines two.overlay.block two.overlay.bits i j (order_of m.store is.store two.overlay.block.unit (segment_of s p two.overlay) (held_segment m is s p j two))
      (is.store.pointers two.overlay.block.unit (segment_of s p two.overlay) (held_segment m is s p j two))
      (ap (λ (g : Segment). has_line g.bits i) (sym one_segment) ∙ one.has) two.has
      (ap (λ b. place_of m.store b i) (sym one_block) ∙ places)

  one_place : (q ≡ s) × (r ≡ p) × (i ≡ j)
  one_place =
      let a = is.held q r one.x one.there in
      let b = is.held s p two.x two.there in
      names_apart s p q r b.number b.low a.number a.low (ap (λ (g : Segment). g.owner) one_segment) (λ qs rp. (qs, rp, one_line))

-- Two lines in frames.
frames_same : (m : MemoryView) (q r i s p j : ℕ) → (one : InFrame m q r i) → (two : InFrame m s p j) → i < 64 → j < 64 → place_at m q r i ≡ place_at m s p j → ShareFrameLine m q r i s p j
frames_same m q r i s p j one two low below same = record {
  number = omega (arith, one.place, two.place, same, low, below);
  frame = let frame : one.x.entry.frame ≡ two.x.entry.frame = omega (arith, one.place, two.place, same, low, below) in ap (option_map (λ (x : PageView). x.entry.frame)) one.there ∙ ap Some frame ∙ sym (ap (option_map (λ (x : PageView). x.entry.frame)) two.there);
  one = ap (λ (o : Option PageView). has_line (lines_of (Rattle.std.specs.Option.option_and_then (λ (x : PageView). x.overlay) o)) i) one.there ∙ one.lacks;
  two = ap (λ (o : Option PageView). has_line (lines_of (Rattle.std.specs.Option.option_and_then (λ (x : PageView). x.overlay) o)) j) two.there ∙ two.lacks;
}

-- a line outside the overlay stands in the frame
outside : (m : MemoryView) (q r i : ℕ) → IsSome (page_in m.table q r) → has_line (lines_of (overlay_at m.table q r)) i ≡ false → InFrame m q r i
outside m q r i there lacks =
    let found = page_with m.table q r there (overlay_at m.table q r) refl in
    let none = ap (λ (o : Option Entry). has_line (lines_of o) i) found.is ∙ lacks in
    record { x = found.x; there = found.there; lacks = none; place = placed m q r i (overlay_at m.table q r) found ∙ place_outside m.store found.x i none }

pub has_own_place : (m : MemoryView) → IsJoined m → (space page line : ℕ) → IsSome (page_in m.table space page) → line < 64 → HasOwnPlace m space page line
has_own_place m is space page line there low = record {
  only = λ q r i found below same. two q r i below same (stands m q r i found) (stands m space page line there);
  shared = λ q r i found so. one q r i so (outside m q r i found so.one) (outside m space page line there so.two);
  before_scratch = before (stands m space page line there);
}
  where
    two : (q r i : ℕ) → i < 64 → place_at m q r i ≡ place_at m space page line → InOverlay m q r i ⊎ InFrame m q r i → InOverlay m space page line ⊎ InFrame m space page line
        → ((q ≡ space) × (r ≡ page) × (i ≡ line)) ⊎ ShareFrameLine m q r i space page line
    two q r i below same (inl a) (inl b) = inl (one_place m is q r i space page line a b same)
    two q r i below same (inl a) (inr b) = absurd (overlay_frame m is q r i space page line a b low same)
    two q r i below same (inr a) (inl b) = absurd (overlay_frame m is space page line q r i b a below (sym same))
    two q r i below same (inr a) (inr b) = inr (frames_same m q r i space page line a b below low same)

    one : (q r i : ℕ) → ShareFrameLine m q r i space page line → InFrame m q r i → InFrame m space page line → place_at m q r i ≡ place_at m space page line
    one q r i so a b =
        let frame : a.x.entry.frame ≡ b.x.entry.frame =
        same_Some _ _ (sym (ap (option_map (λ (x : PageView). x.entry.frame)) a.there) ∙ so.frame ∙ ap (option_map (λ (x : PageView). x.entry.frame)) b.there) in
        omega (arith, a.place, b.place, so.number, frame)

    before : InOverlay m space page line ⊎ InFrame m space page line → place_at m space page line < scratch_place m.store
    before (inl o) =
        omega (arith, o.place, (lies m is space page line o).to, inside_of m.store is.store o.overlay.block.unit (segment_of space page o.overlay) (held_segment m is space page line o))
    before (inr f) = omega (arith, f.place, low, frame_inside m.store is.store f.x.entry.frame (is.held space page f.x f.there).frame)
