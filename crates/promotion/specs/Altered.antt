use Rattle.std.specs.Prelude.{◌≡◌, ℕ, ◌+◌, Bool, true, false, cond, nat_eq, nat_lt, ◌||◌, List, [], length, Option, Some, None, is_some, refl}
use Rattle.std.proofs.Common.{sym, ap, subst, ◌∙◌}
use Rattle.std.specs.Option.{option_map}
use Rattle.std.specs.FinMap.{get, insert}
use Rattle.number_maps.specs.Keys.{alike, by_key, get_other, get_same}
use Rattle.number_maps.specs.Views.{get_viewed, viewed}
use Rattle.ovl_io.specs.Memory.{Memory, Page}
use Rattle.ledger.specs.Ledger.{Holding, Ledger, is_alone, is_unused, without_page}
use Rattle.ledger.specs.Changes.{has_own}
use Rattle.overlay_memory.specs.StateMemory.{memory_at}
use Rattle.space_maps.specs.Books.{books_marked, books_page, books_put_page}
use Rattle.space_maps.specs.Laws.{page_of, page_put_beside, page_put_here, space_beside, space_put, there_space}
use Rattle.space_maps.specs.Spaces.{holds_space, of_pages, page_in, put_mark, put_page, put_space, space_in}
use Rattle.space_ledger.specs.View.{origin_of}
use Rattle.overlay_pages.specs.Lines.{bytes_in_lines}
use Rattle.overlay_pages.specs.State.{PageState, SpaceState, State, base_of, base_page, books, held_page, memory_of, seen_page}
use Rattle.overlay_memory.specs.ApartLaws.{ArePagesApart, origins_apart}
use Rattle.overlay_memory.specs.Joined.{IsBare}
use Rattle.overlay_memory.specs.PageLaws.{held_there, own_absent, own_is, some_is, there_of}
use Rattle.promotion.specs.Settled.{AreInFrames, mark_of}
use Rattle.promotion.specs.Fates.{AreTurned, IsFate, none_altered, one_altered}
use Rattle.promotion.specs.FateLaws.{alone_stays}
use Rattle.promotion.specs.FateFolds.{arent_same, are_same, or_page, retold}

-- States in which pages of a space lost their own lines, one after the other.

-- What a page is now: what it was, where it wasn't altered; else its lines, and those of its frame, are what `to` made of it.
abbrev pub IsAlteration : (PageState → Page) → Bool → PageState → PageState → Type 0
IsAlteration to false was is = is ≡ was
IsAlteration to true was is = (seen_page is ≡ to was) × (base_page is ≡ to was)

pub record HasTurn (to : PageState → Page) (altered : Bool) (now : State) (space page : ℕ) (was : PageState) : Type 0 where
  pub is : PageState
  pub there : page_in now space page ≡ Some is
  pub turn : IsAlteration to altered was is

pub record HaveAltered (to : PageState → Page) (altered alone : ℕ → Bool) (before now : State) (space : ℕ) : Type 0 where
  pub absent : (r : ℕ) → page_in before space r ≡ None → page_in now space r ≡ None
  pub pages : (r : ℕ) (x : PageState) → page_in before space r ≡ Some x → HasTurn to (altered r) now space r x
  pub awaiting : (space_in now space).awaiting ≡ (space_in before space).awaiting
  pub mark : (space_in now space).speculating ≡ (space_in before space).speculating
  pub others : (q : ℕ) → (q ≡ space → ⊥) → space_in now q ≡ space_in before q
  pub spaces : (q : ℕ) → holds_space now q ≡ holds_space before q
  pub frames : now.frames ≡ before.frames
  pub zero_frame : now.zero_frame ≡ before.zero_frame
  pub ledger : AreTurned altered alone (books before) (books now) space

-- none was altered yet
pub none_yet : (to : PageState → Page) (a : ℕ → Bool) (v : State) (space : ℕ) → HaveAltered to (λ r. false) a v v space
none_yet to a v space = record {
  absent = λ r e. e;
  pages = λ r x at. record { is = x; there = at; turn = refl };
  awaiting = refl;
  mark = refl;
  others = λ q d. refl;
  spaces = λ q. refl;
  frames = refl;
  zero_frame = refl;
  ledger = none_altered a (books v) space;
}

turn_same : (to : PageState → Page) (t u : Bool) (was is : PageState) → u ≡ t → IsAlteration to t was is → IsAlteration to u was is
turn_same to t u was is e turn = subst (λ b. IsAlteration to b was is) (sym e) turn

-- the same, said with another test of which pages were altered
pub said_again : (to : PageState → Page) (t u a : ℕ → Bool) (before now : State) (space : ℕ) → HaveAltered to t a before now space
    → ((r : ℕ) (x : PageState) → page_in before space r ≡ Some x → u r ≡ t r) → HaveAltered to u a before now space
said_again to t u a before now space h same = record {
  absent = h.absent;
  pages = λ r x at. let p = h.pages r x at in record { is = p.is; there = p.there; turn = turn_same to (t r) (u r) x p.is (same r x at) p.turn };
  awaiting = h.awaiting;
  mark = h.mark;
  others = h.others;
  spaces = h.spaces;
  frames = h.frames;
  zero_frame = h.zero_frame;
  ledger = retold t u a (books before) (books now) space h.ledger (λ r x at. let p = there_of before space r x at in same r p.page p.there);
}

-- which spaces there are with a page put
put_page_spaces : (v : State) (s p : ℕ) (z : PageState) → holds_space v s ≡ true → (q : ℕ) → holds_space (put_page v s p z) q ≡ holds_space v q
unfolding put_page put_space
put_page_spaces v s p z there q = by_key q s
    (λ same. ap is_some (get_same v.spaces s q _ same) ∙ sym there ∙ ap (holds_space v) (sym same))
    (λ other. ap is_some (get_other v.spaces s q _ other))

put_page_space : (v : State) (s p : ℕ) (z : PageState) → space_in (put_page v s p z) s ≡ of_pages (space_in v s) (insert (space_in v s).pages p z)
unfolding put_page
put_page_space v s p z = space_put v s _ s refl

put_page_beside : (v : State) (s p : ℕ) (z : PageState) (q : ℕ) → (q ≡ s → ⊥) → space_in (put_page v s p z) q ≡ space_in v q
unfolding put_page
put_page_beside v s p z q d = space_beside v s _ q d

pub put_page_frames : (v : State) (s p : ℕ) (z : PageState) → ((put_page v s p z).frames ≡ v.frames) × ((put_page v s p z).zero_frame ≡ v.zero_frame)
unfolding put_page put_space
put_page_frames v s p z = (refl, refl)

-- a page that wasn't altered is what it was
pub still : (to : PageState → Page) (t a : ℕ → Bool) (before now : State) (space page : ℕ) (x : PageState) → HaveAltered to t a before now space
    → page_in before space page ≡ Some x → t page ≡ false → page_in now space page ≡ Some x
still to t a before now space page x h was unaltered =
    let p = h.pages page x was in p.there ∙ ap Some (turn_same to (t page) false x p.is (sym unaltered) p.turn)

-- One page more is altered.
module _ (to : PageState → Page) (t a : ℕ → Bool) (before now : State) (space page : ℕ) (x z : PageState)
    (h : HaveAltered to t a before now space) (was : page_in before space page ≡ Some x) (unaltered : t page ≡ false)
    (own : z.own ≡ []) (seen : seen_page z ≡ to x) (based : base_page z ≡ to x)
    (kept : a page ≡ true → z.entry.frame ≡ x.entry.frame)
    (fresh : a page ≡ false → is_unused (without_page (books now) space page) (origin_of now.zero_frame z.entry.frame) ≡ true) where
  at_page : page_in now space page ≡ Some x
  at_page = still to t a before now space page x h was unaltered

  altered_ledger : AreTurned (or_page t page) a (books before) (books (put_page now space page z)) space
  altered_ledger =
      subst (λ (l : Ledger). AreTurned (or_page t page) a (books before) l space) (sym (books_put_page held_page now space page z))
      (one_altered t (or_page t page) a (books before) (books now) space page (held_page before.zero_frame x) (held_page now.zero_frame x) (held_page now.zero_frame z)
      h.ledger (held_there before space page x was) (held_there now space page x at_page)
      (ap (λ b. t page || b) (are_same page page refl) ∙ or_true (t page))
      (λ r other. ap (λ b. t r || b) (arent_same r page other) ∙ or_false (t r))
      own (λ e. (λ i. origin_of (h.zero_frame i) (kept e i))) fresh)
    where
      or_true : (b : Bool) → (b || true) ≡ true
      or_true true = refl
      or_true false = refl

      or_false : (b : Bool) → (b || false) ≡ b
      or_false true = refl
      or_false false = refl

  has_page : (r : ℕ) (w : PageState) → page_in before space r ≡ Some w → HasTurn to (or_page t page r) (put_page now space page z) space r w
  has_page r w at = by_key r page here there
    where
      or_one : (b c : Bool) → c ≡ true → (b || c) ≡ true
      or_one true c e = refl
      or_one false c e = e

      or_none : (b c : Bool) → c ≡ false → (b || c) ≡ b
      or_none true c e = refl
      or_none false c e = e

      here : r ≡ page → HasTurn to (or_page t page r) (put_page now space page z) space r w
      here same =
          let is : x ≡ w = some_is x w (sym was ∙ ap (page_in before space) (sym same) ∙ at) in record {
            is = z;
            there = page_put_here now space page z space r refl same;
            turn = turn_same to true (or_page t page r) w z (or_one (t r) (nat_eq r page) (are_same r page same)) (seen ∙ ap to is, based ∙ ap to is);
          }

      there : (r ≡ page → ⊥) → HasTurn to (or_page t page r) (put_page now space page z) space r w
      there other =
          let p = h.pages r w at in record {
            is = p.is;
            there = page_put_beside now space page z space r (λ _ e. other e) ∙ p.there;
            turn = turn_same to (t r) (or_page t page r) w p.is (or_none (t r) (nat_eq r page) (arent_same r page other)) p.turn;
          }

  pub one_more : HaveAltered to (or_page t page) a before (put_page now space page z) space
  one_more =
      let there = there_space now space page x at_page in record {
        absent = λ r none. page_put_beside now space page z space r
            (λ _ e. let no = sym (ap is_some was) ∙ ap (λ n. is_some (page_in before space n)) (sym e) ∙ ap is_some none in cc) ∙ h.absent r none;
        pages = has_page;
        awaiting = ap (λ (y : SpaceState). y.awaiting) (put_page_space now space page z) ∙ h.awaiting;
        mark = ap (λ (y : SpaceState). y.speculating) (put_page_space now space page z) ∙ h.mark;
        others = λ q d. put_page_beside now space page z q d ∙ h.others q d;
        spaces = λ q. put_page_spaces now space page z there q ∙ h.spaces q;
        frames = (put_page_frames now space page z).0 ∙ h.frames;
        zero_frame = (put_page_frames now space page z).1 ∙ h.zero_frame;
        ledger = altered_ledger;
      }

-- What a memory is when pages were altered.

pub base_at : (v : State) (s r : ℕ) → get (base_of v s) r ≡ option_map base_page (page_in v s r)
unfolding base_of
base_at v s r = get_viewed (λ _ x. base_page x) (space_in v s).pages r ∙ ap (option_map base_page) (sym (page_of v s r))

-- a page's lines, in a state in which it was altered to its own lines
seen_turn : (t : Bool) (was is : PageState) → IsAlteration seen_page t was is → seen_page is ≡ seen_page was
seen_turn false was is turn = ap seen_page turn
seen_turn true was is turn = turn.0

module _ (t a which : ℕ → Bool) (old new : State) (space : ℕ) (h : HaveAltered seen_page t a old new space) (plain : IsBare old space)
    (names : (r : ℕ) → t r ≡ true → which r ≡ true)
    (bare : (r : ℕ) (x : PageState) → page_in old space r ≡ Some x → t r ≡ false → which r ≡ true → x.own ≡ []) where
  same_seen : (r : ℕ) (o : Option PageState) → page_in old space r ≡ o → option_map seen_page (page_in new space r) ≡ option_map seen_page (page_in old space r)
  same_seen r None had = ap (option_map seen_page) (h.absent r had ∙ sym had)
  same_seen r (Some x) had =
      let p = h.pages r x had in ap (option_map seen_page) p.there ∙ ap Some (seen_turn (t r) x p.is p.turn) ∙ sym (ap (option_map seen_page) had)

  same_base : (r : ℕ) (o : Option PageState) → page_in old space r ≡ o
      → option_map base_page (page_in new space r) ≡ cond (which r) (option_map seen_page (page_in old space r)) (option_map base_page (page_in old space r))
  same_base r None had = ap (option_map base_page) (h.absent r had) ∙ none (which r) ∙ sym (ap (λ o. cond (which r) (option_map seen_page o) (option_map base_page o)) had)
    where
      none : (b : Bool) → None ≡ cond b (option_map seen_page None) (option_map base_page None)
      none true = refl
      none false = refl
  same_base r (Some x) had =
      let p = h.pages r x had in
      ap (option_map base_page) p.there ∙ by_turn (t r) (which r) refl refl p.is p.turn ∙ sym (ap (λ o. cond (which r) (option_map seen_page o) (option_map base_page o)) had)
    where
      by_turn : (b c : Bool) → t r ≡ b → which r ≡ c → (is : PageState) → IsAlteration seen_page b x is → Some (base_page is) ≡ cond c (Some (seen_page x)) (Some (base_page x))
      by_turn true true e g is turn = ap Some turn.1
      by_turn true false e g is turn = let no = sym (names r e) ∙ g in cc
      by_turn false false e g is turn = ap (λ y. Some (base_page y)) turn
      by_turn false true e g is turn =
          ap (λ y. Some (base_page y)) turn
          ∙ ap (λ lines. Some (record { perms = x.entry.perms.0; bytes = bytes_in_lines lines })) (sym (plain r x had (bare r x had e g)))

  none_owned : (r : ℕ) → which r ≡ true → has_own (books new) space r ≡ false
  none_owned r named = by_page (page_in old space r) refl
    where
      by_page : (o : Option PageState) → page_in old space r ≡ o → has_own (books new) space r ≡ false
      by_page None had = own_absent (books new) space r (h.ledger.absent r (books_page held_page old space r ∙ ap (option_map (held_page old.zero_frame)) had))
      by_page (Some x) had =
          let f = h.ledger.pages r (held_page old.zero_frame x) (held_there old space r x had) in
          own_is (books new) space r f.is f.there ∙ ap (λ (l : List ℕ). nat_lt 0 (length l)) (by_turn (t r) (a r) refl f.is f.fate)
        where
          by_turn : (b c : Bool) → t r ≡ b → (w : Holding) → IsFate b c (books new) space r (held_page old.zero_frame x) w → w.own ≡ []
          by_turn false c e w fate = ap (λ (v : Holding). v.own) fate ∙ bare r x had e named
          by_turn true true e w fate = ap (λ (v : Holding). v.own) fate
          by_turn true false e w fate = fate.0

  pub are_settled : AreInFrames which (mark_of old space) old new space
  are_settled = record {
    memory = alike _ _ (λ r. memory_at new space r ∙ same_seen r (page_in old space r) refl ∙ sym (memory_at old space r));
    base = λ r. base_at new space r ∙ same_base r (page_in old space r) refl ∙ sym (λ i. cond (which r) (memory_at old space r i) (base_at old space r i));
    own = none_owned;
    awaiting = h.awaiting;
    marked = h.mark;
    others = h.others;
    spaces = h.spaces;
    frames = h.frames;
    zero_frame = h.zero_frame;
  }

-- a frame that no page names
pub new_origin_of : (first frame : ℕ) → (frame ≡ first → ⊥) → origin_of first frame ≡ frame + 1
new_origin_of first frame other = ap (λ d. cond d 0 (frame + 1)) (arent_same frame first other)

-- a page that is there now was there
pub record WasThere (old : State) (space page : ℕ) : Type 0 where
  pub x : PageState
  pub had : page_in old space page ≡ Some x

pub was_there : (to : PageState → Page) (t a : ℕ → Bool) (old now : State) (space page : ℕ) → HaveAltered to t a old now space → is_some (page_in now space page) ≡ true → WasThere old space page
was_there to t a old now space page h there = by_page (page_in old space page) refl
  where
    by_page : (o : Option PageState) → page_in old space page ≡ o → WasThere old space page
    by_page None is = let no = sym there ∙ ap is_some (h.absent page is) in cc
    by_page (Some x) is = record { x = x; had = is }

-- whether a page that wasn't altered has own lines, and is alone
pub own_now : (old now : State) (space page : ℕ) (x : PageState) → page_in old space page ≡ Some x → page_in now space page ≡ Some x
    → has_own (books now) space page ≡ has_own (books old) space page
own_now old now space page x had at = own_is (books now) space page _ (held_there now space page x at) ∙ sym (own_is (books old) space page _ (held_there old space page x had))

pub alone_now : (to : PageState → Page) (t : ℕ → Bool) (old now : State) (space page : ℕ) (x : PageState) → ArePagesApart old space
    → HaveAltered to t (is_alone (books old) space) old now space → t page ≡ false → page_in old space page ≡ Some x → is_alone (books now) space page ≡ is_alone (books old) space page
alone_now to t old now space page x apart h unaltered had =
    alone_stays t (books old) (books now) space page (held_page old.zero_frame x) (origins_apart old space apart) h.ledger unaltered (held_there old space page x had)

-- A space that was marked afterwards.
marked_space : (v : State) (s : ℕ) (on : Bool) → space_in (put_mark v s on) s ≡ record { pages = (space_in v s).pages; awaiting = (space_in v s).awaiting; speculating = on }
unfolding put_mark
marked_space v s on = space_put v s _ s refl

marked_beside : (v : State) (s : ℕ) (on : Bool) (q : ℕ) → (q ≡ s → ⊥) → space_in (put_mark v s on) q ≡ space_in v q
unfolding put_mark
marked_beside v s on q d = space_beside v s _ q d

marked_spaces : (v : State) (s : ℕ) (on : Bool) → holds_space v s ≡ true → (q : ℕ) → holds_space (put_mark v s on) q ≡ holds_space v q
unfolding put_mark put_space
marked_spaces v s on there q = by_key q s
    (λ same. ap is_some (get_same v.spaces s q _ same) ∙ sym there ∙ ap (holds_space v) (sym same))
    (λ other. ap is_some (get_other v.spaces s q _ other))

marked_frames : (v : State) (s : ℕ) (on : Bool) → ((put_mark v s on).frames ≡ v.frames) × ((put_mark v s on).zero_frame ≡ v.zero_frame)
unfolding put_mark put_space
marked_frames v s on = (refl, refl)

pub marked_memory : (v : State) (s : ℕ) (on : Bool) → memory_of (put_mark v s on) s ≡ memory_of v s
unfolding memory_of
marked_memory v s on = ap (λ (x : SpaceState). viewed (λ _ (y : PageState). seen_page y) x.pages) (marked_space v s on)

pub marked_base : (v : State) (s : ℕ) (on : Bool) → base_of (put_mark v s on) s ≡ base_of v s
unfolding base_of
marked_base v s on = ap (λ (x : SpaceState). viewed (λ _ (y : PageState). base_page y) x.pages) (marked_space v s on)

-- what a mark keeps
pub record IsMarked (v w : State) (s : ℕ) (on : Bool) : Type 0 where
  pub memory : memory_of w s ≡ memory_of v s
  pub base : base_of w s ≡ base_of v s
  pub ledger : books w ≡ books v
  pub awaiting : (space_in w s).awaiting ≡ (space_in v s).awaiting
  pub marked : (space_in w s).speculating ≡ on
  pub others : (q : ℕ) → (q ≡ s → ⊥) → space_in w q ≡ space_in v q
  pub spaces : (q : ℕ) → holds_space w q ≡ holds_space v q
  pub frames : w.frames ≡ v.frames
  pub zero_frame : w.zero_frame ≡ v.zero_frame

pub marked_so : (v w : State) (s : ℕ) (on : Bool) → holds_space v s ≡ true → w ≡ put_mark v s on → IsMarked v w s on
marked_so v w s on there is = subst (λ (u : State). IsMarked v u s on) (sym is) (record {
  memory = marked_memory v s on;
  base = marked_base v s on;
  ledger = books_marked held_page v s on there;
  awaiting = ap (λ (x : SpaceState). x.awaiting) (marked_space v s on);
  marked = ap (λ (x : SpaceState). x.speculating) (marked_space v s on);
  others = marked_beside v s on;
  spaces = marked_spaces v s on there;
  frames = (marked_frames v s on).0;
  zero_frame = (marked_frames v s on).1;
})

pub settled_marked : (which : ℕ → Bool) (mark on : Bool) (old mid new : State) (space : ℕ) → AreInFrames which mark old mid space → IsMarked mid new space on
    → AreInFrames which on old new space
settled_marked which mark on old mid new space h m = record {
  memory = m.memory ∙ h.memory;
  base = λ r. ap (λ (l : Memory). get l r) m.base ∙ h.base r;
  own = λ r e. ap (λ (l : Ledger). has_own l space r) m.ledger ∙ h.own r e;
  awaiting = m.awaiting ∙ h.awaiting;
  marked = m.marked;
  others = λ q d. m.others q d ∙ h.others q d;
  spaces = λ q. m.spaces q ∙ h.spaces q;
  frames = m.frames ∙ h.frames;
  zero_frame = m.zero_frame ∙ h.zero_frame;
}
