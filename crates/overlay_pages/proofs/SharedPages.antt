use Rattle.overlay_pages.proofs.Common.{◌≡◌, ℕ, ◌^◌, ◌<◌, not, Bool, true, false, cond, nat_eq, List, Option, Some, None, IsSome, length, refl, sym, ap, subst, ◌∙◌, arith, none-some, option_map, option_map_or, get, remove, and_right}
use Rattle.overlay_pages.proofs.Stores.{HasRoom, Block, has_line, overlay_page, Entry, Store, IsFrame, frame_line, line_in}
use Rattle.overlay_pages.proofs.Books.{keeps_page_put, Pages, PageEntry, has_origin, is_unused, class, frame_for, map_from, books_page, put_shared_as, holds_space, page_in, put_awaiting, put_page, put_shared, space_in, LedgerView, PageView, frame_at, frame_awaiting, holding_of, ledger_of, lines_of, overlay_at, with_page_shared, origin_of}
use Rattle.overlay_pages.proofs.Views.{page_lines, lines_same, PageState, HasShareRoom, shared_page, state_awaiting_put, IsHeld, IsLaid, IsJoined, MemoryView, line_seen, page_state, state_of, view_of, state_awaiting, state_page_there, with_shared}
use Rattle.overlay_pages.proofs.Steps.{seen_bare, seen_inside, seen_outside}
use Rattle.overlay_pages.proofs.Coming.{HasPlaceFor, came}
use Rattle.overlay_pages.proofs.Overlaying.{segments_some}
use Rattle.overlay_pages.proofs.Joining.{Has, overlay_order, page_with}
use Rattle.overlay_pages.proofs.Growing.{free_is, has_room}
use Rattle.overlay_pages.proofs.Tables.{awaiting_joined}

-- The page that is shared, and how it awaits.
pub record Awaits (v : LedgerView) (from to p : ℕ) (o : Option Entry) : Type 0 where
  pub x : PageView
  pub there : page_in v from p ≡ Some x
  pub is : x.overlay ≡ o
  pub entry : PageEntry
  pub waits : get (space_in v to).awaiting p ≡ Some entry
  pub frame_is : entry.frame ≡ x.entry.frame

pub awaits : (v : LedgerView) (from to p : ℕ) (o : Option Entry) → IsSome (page_in v from p) → overlay_at v from p ≡ o → frame_awaiting v to p ≡ frame_at v from p → Awaits v from to p o
awaits v from to p o there over framed =
    let found = page_with v from p there o over in
    map_from (λ (f : PageEntry). f.frame) (get (space_in v to).awaiting p) found.x.entry.frame (framed ∙ ap (option_map (λ (x : PageView). x.entry.frame)) found.there)
    (λ f e same. record { x = found.x; there = found.there; is = found.is; entry = f; waits = e; frame_is = same })

-- the page in the tables, once it is shared
pub shared_table : (v : LedgerView) (from to p : ℕ) (o : Option Entry) (block : Option Block) (w : Awaits v from to p o)
    → with_page_shared v from to p block ≡ put_awaiting (put_page v to p (record { entry = w.entry; overlay = option_map (λ (b : Block). record { bits = lines_of (overlay_at v from p); block = b }) block })) to (remove (space_in v to).awaiting p)
unfolding with_page_shared
shared_table v from to p o block w =
    ap (λ (f : Option PageEntry). option_map_or (λ (e : PageEntry). put_shared v to p (record { entry = e; overlay = option_map (λ (b : Block). record { bits = lines_of (overlay_at v from p); block = b }) block })) f v) w.waits
    ∙ put_shared_as v to p (record { entry = w.entry; overlay = option_map (λ (b : Block). record { bits = lines_of (overlay_at v from p); block = b }) block })

-- and in the state
pub shared_state : (m : MemoryView) (from to p : ℕ) (o : Option Entry) (w : Awaits m.table from to p o)
    → with_shared (state_of m) from to p ≡ put_awaiting (put_page (state_of m) to p (shared_page w.entry (page_state m.store w.x))) to (remove (space_in (state_of m) to).awaiting p)
unfolding with_shared
shared_state m from to p o w =
    ap (λ (f : Option PageEntry). option_map_or (λ (e : PageEntry). option_map_or (λ x. put_shared (state_of m) to p (shared_page e x)) (page_in (state_of m) from p) (state_of m)) f (state_of m))
    (ap (λ (t : Pages). get t p) (state_awaiting m to) ∙ w.waits)
    ∙ ap (λ (f : Option PageState). option_map_or (λ x. put_shared (state_of m) to p (shared_page w.entry x)) f (state_of m)) (state_page_there m from p w.x w.there)
    ∙ put_shared_as (state_of m) to p (shared_page w.entry (page_state m.store w.x))

module _ (m : MemoryView) (new : Store) (from to p : ℕ) (was now : Option Entry) (is : IsJoined m) (w : Awaits m.table from to p was) (there : holds_space m.table to ≡ true) (absent : page_in m.table to p ≡ None)
    (so : HasPlaceFor m new to p now) where
  abbrev page : PageView
  page = record { entry = w.entry; overlay = now }

  theirs : IsHeld m.store from p w.x
  theirs = is.held from p w.x w.there

  -- its frame is one that a page has already
  no_frame : frame_for (is_unused (ledger_of m.table) (origin_of m.table.zero_frame w.entry.frame)) ≡ 0
  unfolding frame_for is_unused
  no_frame =
      let had = ap (λ f. has_origin (ledger_of m.table) (origin_of m.table.zero_frame f)) w.frame_is
      ∙ Rattle.ledger.specs.AloneLaws.origin_of (ledger_of m.table) from p (holding_of m.table.zero_frame w.x) (books_page holding_of m.table from p ∙ ap (option_map (holding_of m.table.zero_frame)) w.there) in
      ap (λ b. cond {A = ℕ} b 16 0) (and_right (not (nat_eq (origin_of m.table.zero_frame w.entry.frame) 0)) (not (has_origin (ledger_of m.table) (origin_of m.table.zero_frame w.entry.frame))) (ap not had))

  taken : IsFrame m.store w.entry.frame
  taken = subst (IsFrame m.store) (sym w.frame_is) theirs.frame

  pub shares : page_state new page ≡ shared_page w.entry (page_state m.store w.x)
      → IsJoined (view_of new (put_awaiting (put_page m.table to p page) to (remove (space_in m.table to).awaiting p)))
      × (state_of (view_of new (put_awaiting (put_page m.table to p page) to (remove (space_in m.table to).awaiting p))) ≡ with_shared (state_of m) from to p)
  shares same =
      let one = came m new to p page is there theirs.low absent taken no_frame so in (
        awaiting_joined new (put_page m.table to p page) to (remove (space_in m.table to).awaiting p) one.0 ((keeps_page_put m.table to p page there).there to ∙ there),
        state_awaiting_put new (put_page m.table to p page) to (remove (space_in m.table to).awaiting p)
            ∙ ap (λ s. put_awaiting s to (remove (space_in m.table to).awaiting p)) (one.1 ∙ ap (put_page (state_of m) to p) same)
            ∙ ap (λ (t : Pages). put_awaiting (put_page (state_of m) to p (shared_page w.entry (page_state m.store w.x))) to (remove t p)) (sym (state_awaiting m to))
            ∙ sym (shared_state m from to p was w),
      )

-- A page without an overlay.
pub bare_shared : (store : Store) (x : PageView) (entry : PageEntry) → x.overlay ≡ None → entry.frame ≡ x.entry.frame → page_state store (record { entry = entry; overlay = None }) ≡ shared_page entry (page_state store x)
unfolding page_state
bare_shared store x entry bare frame_is =
    let base : page_lines (frame_line store entry.frame) ≡ page_lines (frame_line store x.entry.frame) = ap (λ f. page_lines (frame_line store f)) frame_is in
    let lines = base ∙ sym (seen_bare store x bare) in
    λ i. record { entry = entry; own = lines_of (sym bare i); lines = lines i; base = base i }

-- A page with an overlay: a copy of its segment.

pub shares_overlay : (m : MemoryView) (new : Store) (to p : ℕ) (block : Block) (bits : List ℕ) (given : ℕ → List ℕ) → IsJoined m → 2 ^ block.order ≡ class (length bits) → 0 < length bits
    → IsLaid m.store new (overlay_page to p) block bits given → HasPlaceFor m new to p (Some (record { bits = bits; block = block }))
shares_overlay m new to p block bits given is size some so = record {
  segments = segments_some m.store new to p None (record { bits = bits; block = block }) (λ e h. absurd (none-some e h)) (λ _. so.fresh) so.there so.elsewhere so.kept some size (so.settled is.blocks) so.whole so.store;
  frames = so.frames;
  free = omega (arith, so.free, size);
}

-- The lines of the page: those of the segment that was copied.
pub copied_page : (store new : Store) (owner : ℕ) (x : PageView) (e : Entry) (entry : PageEntry) (block : Block) → x.overlay ≡ Some e → IsFrame store x.entry.frame
    → IsLaid store new owner block e.bits (line_in store e.block) → entry.frame ≡ x.entry.frame
    → page_state new (record { entry = entry; overlay = Some (record { bits = e.bits; block = block }) }) ≡ shared_page entry (page_state store x)
unfolding page_state
copied_page store new owner x e entry block over taken so frame_is =
    let base = lines_same (frame_line new entry.frame) (frame_line store x.entry.frame) framed in
    let lines = lines_same (line_seen new page) (line_seen store x) (λ i low. each (has_line e.bits i) i refl low) in
    λ i. record { entry = entry; own = lines_of (sym over i); lines = lines i; base = base i }
  where
    page : PageView
    page = record { entry = entry; overlay = Some (record { bits = e.bits; block = block }) }

    framed : (i : ℕ) → i < 64 → frame_line new entry.frame i ≡ frame_line store x.entry.frame i
    framed i low = ap (λ f. frame_line new f i) frame_is ∙ (so.frames x.entry.frame taken).lines i low

    each : (b : Bool) (i : ℕ) → has_line e.bits i ≡ b → i < 64 → line_seen new page i ≡ line_seen store x i
    each true i has low = seen_inside new page (record { bits = e.bits; block = block }) i refl has ∙ so.lines i low has ∙ sym (seen_inside store x e i over has)
    each false i lacks low = seen_outside new page i lacks ∙ framed i low ∙ sym (seen_outside store x i (ap (λ (o : Option Entry). has_line (lines_of o) i) over ∙ lacks))

-- The overlay that is shared.
module _ (a : MemoryView) (from p : ℕ) (e : Entry) (is : IsJoined a) (there : IsSome (page_in a.table from p)) (over : overlay_at a.table from p ≡ Some e) where
  abbrev first : Has a.table from p (Some e)
  first = page_with a.table from p there (Some e) over

  first_held : IsHeld a.store from p first.x
  first_held = is.held from p first.x first.there

  pub share_size : 2 ^ e.block.order ≡ class (length e.bits)
  share_size = first_held.size e first.is

  pub share_some : 0 < length e.bits
  share_some = first_held.lined e first.is

  pub share_room : HasShareRoom (state_of a) from p → HasRoom a.store.blocks e.block.order
  unfolding page_state
  share_room room =
      let enough = room (page_state a.store first.x) (state_page_there a from p first.x first.there) in
      has_room a is e.block.order (overlay_order a.store a.table from p e is there over) (omega (arith, free_is a is, enough, share_size, ap (λ (o : Option Entry). class (length (lines_of o))) first.is))

-- The page with its overlay, once it is shared.
module _ (a : MemoryView) (new : Store) (from to p : ℕ) (e : Entry) (block : Block) (is : IsJoined a) (there : IsSome (page_in a.table from p)) (over : overlay_at a.table from p ≡ Some e)
    (framed : frame_awaiting a.table to p ≡ frame_at a.table from p) (space : holds_space a.table to ≡ true) (absent : page_in a.table to p ≡ None) (order_is : block.order ≡ e.block.order)
    (so : IsLaid a.store new (overlay_page to p) block e.bits (line_in a.store e.block)) where
  abbrev waits : Awaits a.table from to p (Some e)
  waits = awaits a.table from to p (Some e) there over framed

  abbrev now_shares : HasPlaceFor a new to p (Some (record { bits = e.bits; block = block }))
  now_shares = shares_overlay a new to p block e.bits (line_in a.store e.block) is (ap (λ k. 2 ^ k) order_is ∙ share_size a from p e is there over) (share_some a from p e is there over) so

  overlaid_table : with_page_shared a.table from to p (Some block)
      ≡ put_awaiting (put_page a.table to p (record { entry = waits.entry; overlay = Some (record { bits = e.bits; block = block }) })) to (remove (space_in a.table to).awaiting p)
  overlaid_table =
      shared_table a.table from to p (Some e) (Some block) waits
      ∙ ap (λ bits. put_awaiting (put_page a.table to p (record { entry = waits.entry; overlay = Some (record { bits = bits; block = block }) })) to (remove (space_in a.table to).awaiting p)) (ap lines_of over)

  pub overlaid : (table : LedgerView) → table ≡ with_page_shared a.table from to p (Some block)
      → IsJoined (view_of new table) × (state_of (view_of new table) ≡ with_shared (state_of a) from to p)
  overlaid table is_table =
      let page = copied_page a.store new (overlay_page to p) waits.x e waits.entry block waits.is (is.held from p waits.x waits.there).frame so waits.frame_is in
      let all = shares a new from to p (Some e) (Some (record { bits = e.bits; block = block })) is waits space absent now_shares page in (
        subst (λ t. IsJoined (view_of new t)) (sym (is_table ∙ overlaid_table)) all.0,
        ap (λ t. state_of (view_of new t)) (is_table ∙ overlaid_table) ∙ all.1,
      )
