use Rattle.std.specs.Prelude.{◌≡◌, ℕ, true, false, cond, not, ◌&&◌, Option, Some, None, is_some, IsSome, refl}
use Rattle.std.proofs.Common.{sym, ap, ◌∙◌}
use Rattle.std.specs.Option.{option_map, option_map_or}
use Rattle.std.specs.Ordering.{nat_cmp}
use Rattle.std.specs.FinMap.{FinMap, get, insert}
use Rattle.number_maps.specs.Keys.{by_key, get_other, get_same, insert_kept}
use Rattle.number_maps.specs.Views.{get_viewed, viewed, viewed_put}
use Rattle.overlay_bits.specs.Lines.{has_line}
use Rattle.ledger.specs.Ledger.{is_alone, with_page}
use Rattle.ledger.specs.AloneLaws.{alone_same}
use Rattle.ledger.specs.PlaceLaws.{put_again}
use Rattle.overlay_pages.specs.State.{PageState, SpaceState, State, base_of, base_page, books, held_page, memory_of, seen_page}
use Rattle.overlay_pages.specs.Changes.{is_writable, writes_frame}
use Rattle.overlay_pages.specs.Calls.{entries_in}
use Rattle.overlay_memory.specs.Access.{permissions_in}
use Rattle.overlay_memory.specs.Pieces.{KeepsAllElse}
use Rattle.space_maps.specs.Books.{books_page, books_put_page}
use Rattle.space_maps.specs.Laws.{page_of, space_beside, space_put, there_space}
use Rattle.space_maps.specs.Spaces.{holds_space, of_pages, page_in, put_page, put_space, space_in}

-- What a page that is put makes of the memory of its space, of its base, of the entries of its pages, and of the ledger.

pages_put : (v : State) (s p : ℕ) (x : PageState) → (space_in (put_page v s p x) s).pages ≡ insert (space_in v s).pages p x
unfolding put_page
pages_put v s p x = ap (λ (y : SpaceState). y.pages) (space_put v s (of_pages (space_in v s) (insert (space_in v s).pages p x)) s refl)

module _ {Y : Type 0} (f : PageState → Y) where
  -- the pages of a space, each seen in a way
  abbrev pub pages_seen : State → ℕ → FinMap nat_cmp Y
  pages_seen v s = viewed (λ _ x. f x) (space_in v s).pages

  pub seen_at : (v : State) (s p : ℕ) → get (pages_seen v s) p ≡ option_map f (page_in v s p)
  seen_at v s p = get_viewed (λ _ x. f x) (space_in v s).pages p ∙ ap (option_map f) (sym (page_of v s p))

  pub seen_put : (v : State) (s p : ℕ) (x : PageState) → pages_seen (put_page v s p x) s ≡ insert (pages_seen v s) p (f x)
  seen_put v s p x = ap (viewed (λ _ x. f x)) (pages_put v s p x) ∙ viewed_put (λ _ x. f x) (space_in v s).pages p x

  pub seen_kept : (v : State) (s p : ℕ) (x y : PageState) → page_in v s p ≡ Some y → f x ≡ f y → pages_seen (put_page v s p x) s ≡ pages_seen v s
  seen_kept v s p x y there same =
      seen_put v s p x ∙ insert_kept (pages_seen v s) p (f x) (seen_at v s p ∙ ap (option_map f) there ∙ ap Some (sym same))

pub memory_at : (v : State) (s p : ℕ) → get (memory_of v s) p ≡ option_map seen_page (page_in v s p)
unfolding memory_of
memory_at v s p = seen_at seen_page v s p

pub memory_put : (v : State) (s p : ℕ) (x : PageState) → memory_of (put_page v s p x) s ≡ insert (memory_of v s) p (seen_page x)
unfolding memory_of
memory_put v s p x = seen_put seen_page v s p x

pub memory_kept : (v : State) (s p : ℕ) (x y : PageState) → page_in v s p ≡ Some y → seen_page x ≡ seen_page y → memory_of (put_page v s p x) s ≡ memory_of v s
unfolding memory_of
memory_kept v s p x y there same = seen_kept seen_page v s p x y there same

pub base_kept : (v : State) (s p : ℕ) (x y : PageState) → page_in v s p ≡ Some y → base_page x ≡ base_page y → base_of (put_page v s p x) s ≡ base_of v s
unfolding base_of
base_kept v s p x y there same = seen_kept base_page v s p x y there same

-- the base of another page stays
pub base_beside : (v : State) (s p : ℕ) (x : PageState) (q : ℕ) → (q ≡ p → ⊥) → get (base_of (put_page v s p x) s) q ≡ get (base_of v s) q
unfolding base_of
base_beside v s p x q other = ap (λ m. get m q) (seen_put base_page v s p x) ∙ get_other (pages_seen base_page v s) p q (base_page x) other

pub entries_at : (v : State) (s p : ℕ) → get (entries_in v s) p ≡ option_map (λ (x : PageState). x.entry) (page_in v s p)
unfolding entries_in
entries_at v s p = seen_at (λ x. x.entry) v s p

pub entries_kept : (v : State) (s p : ℕ) (x y : PageState) → page_in v s p ≡ Some y → x.entry ≡ y.entry → entries_in (put_page v s p x) s ≡ entries_in v s
unfolding entries_in
entries_kept v s p x y there same = seen_kept (λ x. x.entry) v s p x y there same

pub permissions_at : (v : State) (s p : ℕ) → get (permissions_in v s) p ≡ option_map (λ (x : PageState). x.entry.perms) (page_in v s p)
unfolding permissions_in
permissions_at v s p = seen_at (λ x. x.entry.perms) v s p

permissions_kept : (v : State) (s p : ℕ) (x y : PageState) → page_in v s p ≡ Some y → x.entry.perms ≡ y.entry.perms
    → permissions_in (put_page v s p x) s ≡ permissions_in v s
unfolding permissions_in
permissions_kept v s p x y there same = seen_kept (λ x. x.entry.perms) v s p x y there same

-- a page with the same entry and the same own lines changes no ledger
pub books_kept : (v : State) (s p : ℕ) (x y : PageState) → page_in v s p ≡ Some y → x.entry ≡ y.entry → x.own ≡ y.own → books (put_page v s p x) ≡ books v
books_kept v s p x y there entry own =
    books_put_page held_page v s p x
    ∙ ap (λ e. with_page (books v) s p (held_page v.zero_frame (record { entry = e; own = x.own; lines = x.lines; base = x.base }))) entry
    ∙ ap (λ o. with_page (books v) s p (held_page v.zero_frame (record { entry = y.entry; own = o; lines = x.lines; base = x.base }))) own
    ∙ put_again (books v) s p (held_page v.zero_frame y) (books_page held_page v s p ∙ ap (option_map (held_page v.zero_frame)) there)

-- and one with the same entry leaves the same pages alone
pub alone_kept : (v : State) (s p : ℕ) (x y : PageState) → page_in v s p ≡ Some y → x.entry ≡ y.entry → (q r : ℕ)
    → is_alone (books (put_page v s p x)) q r ≡ is_alone (books v) q r
alone_kept v s p x y there entry q r =
    ap (λ l. is_alone l q r) (books_put_page held_page v s p x)
    ∙ alone_same (books v) s p (held_page v.zero_frame y) (held_page v.zero_frame x)
    (books_page held_page v s p ∙ ap (option_map (held_page v.zero_frame)) there)
    (ap (λ e. (held_page v.zero_frame (record { entry = e; own = x.own; lines = x.lines; base = x.base })).origin) entry) q r

-- Beside a page that is put.

pub mark_put : (v : State) (s p : ℕ) (x : PageState) → (space_in (put_page v s p x) s).speculating ≡ (space_in v s).speculating
unfolding put_page
mark_put v s p x = ap (λ (y : SpaceState). y.speculating) (space_put v s (of_pages (space_in v s) (insert (space_in v s).pages p x)) s refl)

awaiting_put : (v : State) (s p : ℕ) (x : PageState) → (space_in (put_page v s p x) s).awaiting ≡ (space_in v s).awaiting
unfolding put_page
awaiting_put v s p x = ap (λ (y : SpaceState). y.awaiting) (space_put v s (of_pages (space_in v s) (insert (space_in v s).pages p x)) s refl)

others_put : (v : State) (s p : ℕ) (x : PageState) (q : ℕ) → (q ≡ s → ⊥) → space_in (put_page v s p x) q ≡ space_in v q
unfolding put_page
others_put v s p x q other = space_beside v s _ q other

spaces_put : (v : State) (s p : ℕ) (x : PageState) → holds_space v s ≡ true → (q : ℕ) → holds_space (put_page v s p x) q ≡ holds_space v q
unfolding put_page put_space
spaces_put v s p x here q = by_key q s
    (λ same. ap is_some (get_same v.spaces s q _ same) ∙ sym here ∙ ap (holds_space v) (sym same))
    (λ other. ap is_some (get_other v.spaces s q _ other))

frames_put : (v : State) (s p : ℕ) (x : PageState) → (put_page v s p x).frames ≡ v.frames
unfolding put_page put_space
frames_put v s p x = refl

zero_put : (v : State) (s p : ℕ) (x : PageState) → (put_page v s p x).zero_frame ≡ v.zero_frame
unfolding put_page put_space
zero_put v s p x = refl

pub beside_put : (v : State) (s p : ℕ) (x y : PageState) → page_in v s p ≡ Some y → x.entry.perms ≡ y.entry.perms → KeepsAllElse v (put_page v s p x) s
beside_put v s p x y there same = record {
  permissions = permissions_kept v s p x y there same;
  awaiting = awaiting_put v s p x;
  mark = mark_put v s p x;
  others = others_put v s p x;
  spaces = spaces_put v s p x (there_space v s p y there);
  frames = frames_put v s p x;
  zero_frame = zero_put v s p x;
}

pub beside_same : (v : State) (s : ℕ) → KeepsAllElse v v s
beside_same v s = record { permissions = refl; awaiting = refl; mark = refl; others = λ q other. refl; spaces = λ q. refl; frames = refl; zero_frame = refl }

pub beside_both : (a b c : State) (s : ℕ) → KeepsAllElse a b s → KeepsAllElse b c s → KeepsAllElse a c s
beside_both a b c s one two = record {
  permissions = two.permissions ∙ one.permissions;
  awaiting = two.awaiting ∙ one.awaiting;
  mark = two.mark ∙ one.mark;
  others = λ q other. two.others q other ∙ one.others q other;
  spaces = λ q. two.spaces q ∙ one.spaces q;
  frames = two.frames ∙ one.frames;
  zero_frame = two.zero_frame ∙ one.zero_frame;
}

-- where the permissions are as before, the same pages are there
pub same_pages : (a b : State) (s p : ℕ) → permissions_in b s ≡ permissions_in a s → is_some (page_in b s p) ≡ is_some (page_in a s p)
same_pages a b s p same =
    sym (mapped (page_in b s p)) ∙ ap is_some (sym (permissions_at b s p) ∙ ap (λ m. get m p) same ∙ permissions_at a s p) ∙ mapped (page_in a s p)
  where
    mapped : (o : Option PageState) → is_some (option_map (λ (x : PageState). x.entry.perms) o) ≡ is_some o
    mapped None = refl
    mapped (Some x) = refl

-- a page that is there still is
pub still_there : (a b : State) (s p : ℕ) → KeepsAllElse a b s → IsSome (page_in a s p) → IsSome (page_in b s p)
still_there a b s p beside there =
    same_pages a b s p beside.permissions ∙ there

-- Which lines can be written.

pub writes_same : (a b : State) (s p : ℕ) → (space_in b s).speculating ≡ (space_in a s).speculating → is_alone (books b) s p ≡ is_alone (books a) s p
    → writes_frame b s p ≡ writes_frame a s p
writes_same a b s p mark alone = ap (λ m. not m && is_alone (books b) s p) mark ∙ ap (λ t. not (space_in a s).speculating && t) alone

pub writable_at : (v : State) (s p line : ℕ) (x : PageState) → page_in v s p ≡ Some x
    → is_writable v s p line ≡ cond (has_line x.own line) true (writes_frame v s p)
writable_at v s p line x there = ap (λ (o : Option PageState). option_map_or (λ x. cond (has_line x.own line) true (writes_frame v s p)) o false) there

pub writable_same : (a b : State) (s p line : ℕ) → page_in b s p ≡ page_in a s p → writes_frame b s p ≡ writes_frame a s p
    → is_writable b s p line ≡ is_writable a s p line
writable_same a b s p line page frame =
    ap (λ (o : Option PageState). option_map_or (λ x. cond (has_line x.own line) true (writes_frame b s p)) o false) page
    ∙ ap (λ w. option_map_or (λ (x : PageState). cond (has_line x.own line) true w) (page_in a s p) false) frame
