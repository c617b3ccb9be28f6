use Rattle.std.proofs.Common.{◌≡◌, ℕ, ◌<◌, Bool, true, false, List, [], ◌∷◌, ◌++◌, Option, Some, None, is_some, sym, ap, subst, ◌∙◌, refl, append_assoc, append-nil, eq-eqb, nat_eq, ◌||◌}
use Rattle.std.specs.Prelude.{cond}
use Rattle.std.specs.List.{fold}
use Rattle.std.specs.Option.{option_map}
use Rattle.sizes.specs.declared.TheConstants.{PAGE_LINES}
use Rattle.overlay_bits.specs.Lines.{AreLines, has_line, with_line}
use Rattle.overlay_bits.specs.Laws.{are_none, are_with, next_inside}
use Rattle.ledger.specs.Changes as ledger
use Rattle.ovl_io.specs.declared.perms.Perms.{Perms}
use Rattle.overlay_pages.specs.Changes.{brought, is_writable, with_brought, writes_frame}
use Rattle.overlay_pages.specs.State.{PageState, State}
use Rattle.overlay_pages.specs.View.{IsJoined, MemoryView, state_of}
use Rattle.overlay_memory.specs.PageLaws.{has_page, some_is}
use Rattle.overlay_memory.specs.StateMemory.{writable_at}
use Rattle.overlay_memory.specs.View.{AreTrue, cached_in, cached_page}
use Rattle.overlay_memory.proofs.Views.{own_set}
use Rattle.space_ledger.specs.Joined.{put_same}
use Rattle.space_maps.specs.Laws.{changed_there, page_put_beside, page_put_here}
use Rattle.space_maps.specs.Spaces.{page_in, put_page, altered_page}
use Rattle.translation_cache.specs.Bare.{bare, bare_updated}
use Rattle.translation_cache.specs.Finding.{by_page, found_beside, found_updated}
use Rattle.translation_cache.specs.Formed.{IsFormed}
use Rattle.translation_cache.specs.Laws.{formed_updated}
use Rattle.translation_cache.specs.Translations.{Translations, cached_with, found, with_bit}
use Rattle.translation_cache.specs.declared.cached.Cached.{Cached}

-- Lines are added to what the entry of a page holds.

abbrev pub noted : ℕ → ℕ → Translations Cached → List ℕ → Translations Cached
noted s p t lines = fold (λ u line. with_bit s p line u) t lines

noted_more : (s p : ℕ) (t : Translations Cached) (front rest : List ℕ) → noted s p t (front ++ rest) ≡ noted s p (noted s p t front) rest
noted_more s p t [] rest = refl
noted_more s p t (line ∷ front) rest = noted_more s p (with_bit s p line t) front rest

-- so far: the first of them were
pub record IsNoted (s p : ℕ) (lines front rest : List ℕ) (start now : Translations Cached) : Type 0 where
  pub whole : lines ≡ front ++ rest
  pub are : AreLines lines
  pub now_is : now ≡ noted s p start front

pub noted_none : (s p : ℕ) (lines rest : List ℕ) (t : Translations Cached) → AreLines lines → rest ≡ lines → IsNoted s p lines [] rest t t
noted_none s p lines rest t are same = record { whole = sym same; are = are; now_is = refl }

module _ (s p : ℕ) (lines front rest : List ℕ) (start now : Translations Cached) (line : ℕ) (more : List ℕ) (cut : rest ≡ line ∷ more)
    (so : IsNoted s p lines front rest start now) where
  pub next_low : line < PAGE_LINES
  next_low = next_inside front line more (subst AreLines (so.whole ∙ ap (λ l. front ++ l) cut) so.are)

  pub noted_one : (after : Translations Cached) → after ≡ with_bit s p line now → IsNoted s p lines (front ++ line ∷ []) more start after
  noted_one after is = record {
    whole = so.whole ∙ ap (λ l. front ++ l) cut ∙ sym (append_assoc front (line ∷ []) more);
    are = so.are;
    now_is = is ∙ ap (with_bit s p line) so.now_is ∙ sym (noted_more s p start front (line ∷ []));
  }

pub noted_all : (s p : ℕ) (lines front rest : List ℕ) (start now : Translations Cached) → IsNoted s p lines front rest start now → rest ≡ [] → now ≡ noted s p start lines
noted_all s p lines front rest start now so none =
    so.now_is ∙ ap (noted s p start) (sym (so.whole ∙ ap (λ l. front ++ l) none ∙ append-nil front))

-- What they leave.

pub bare_noted : (s p : ℕ) (t : Translations Cached) (lines : List ℕ) → bare (noted s p t lines) ≡ bare t
bare_noted s p t [] = refl
bare_noted s p t (line ∷ lines) = bare_noted s p (with_bit s p line t) lines ∙ bare_updated (cached_with line) s p t

-- what an entry holds with lines more
abbrev pub cached_with_all : Cached → List ℕ → Cached
cached_with_all c lines = fold (λ (d : Cached) line. cached_with line d) c lines

found_noted : (s p : ℕ) (t : Translations Cached) (lines : List ℕ) → IsFormed t → found s p (noted s p t lines) ≡ option_map (λ c. cached_with_all c lines) (found s p t)
found_noted s p t [] formed = same (found s p t)
  where
    same : (o : Option Cached) → o ≡ option_map (λ (c : Cached). c) o
    same None = refl
    same (Some c) = refl
found_noted s p t (line ∷ lines) formed =
    found_noted s p (with_bit s p line t) lines (formed_updated (cached_with line) s p t formed)
    ∙ ap (option_map (λ c. cached_with_all c lines)) (found_updated (cached_with line) s p t formed) ∙ both (found s p t)
  where
    both : (o : Option Cached) → option_map (λ c. cached_with_all c lines) (option_map (cached_with line) o) ≡ option_map (λ c. cached_with_all (cached_with line c) lines) o
    both None = refl
    both (Some c) = refl

beside_noted : (s p q r : ℕ) (t : Translations Cached) (lines : List ℕ) → IsFormed t → ((q ≡ s) × (r ≡ p) → ⊥) → found q r (noted s p t lines) ≡ found q r t
beside_noted s p q r t [] formed other = refl
beside_noted s p q r t (line ∷ lines) formed other =
    beside_noted s p q r (with_bit s p line t) lines (formed_updated (cached_with line) s p t formed) other
    ∙ found_beside (cached_with line) s p q r t formed other

-- The lines of a page with others are those that the ledger has.

abbrev pub AreLow : List ℕ → Type 0
AreLow [] = Unit {0}
AreLow (line ∷ lines) = (line < PAGE_LINES) × AreLow lines

low_lines : (lines : List ℕ) → ((line : ℕ) → has_line lines line ≡ true → line < PAGE_LINES) → AreLow lines
low_lines [] low = tt
low_lines (line ∷ lines) low = (
  low line (ap (λ b. b || has_line lines line) (eq-eqb line line refl)),
  low_lines lines (λ q has. low q (ap (λ b. nat_eq line q || b) has ∙ or_true (nat_eq line q))),
)
  where
    or_true : (b : Bool) → (b || true) ≡ true
    or_true true = refl
    or_true false = refl

joined_all : (perms : Perms) (frame : ℕ) (lines own : List ℕ) → AreLines own → AreLow lines
    → ◌≡◌ {A = Cached} (record { perms = perms; frame = frame; bits = ledger.with_lines own lines }) (cached_with_all (record { perms = perms; frame = frame; bits = own }) lines)
unfolding ledger.with_lines
joined_all perms frame [] own are low = refl
joined_all perms frame (line ∷ lines) own are low =
    ap (λ (bits : List ℕ). record { perms = perms; frame = frame; bits = ledger.with_lines bits lines }) (sym (put_same own line are low.0))
    ∙ joined_all perms frame lines (with_line own line) (are_with own line are low.0) low.1

-- Lines were brought to a page, and noted.

module _ (m : MemoryView) (s p : ℕ) (lines : List ℕ) (new : State) (t u : Translations Cached) (x : PageState) (joined : IsJoined m)
    (there : page_in (state_of m) s p ≡ Some x) (are : AreLines lines) (is : new ≡ put_page (state_of m) s p (brought lines x)) (formed : IsFormed t)
    (now : u ≡ noted s p t lines) (entries : AreTrue (state_of m) t) where
  noted_here : (held : Cached) → found s p u ≡ Some held → cached_in new s p ≡ Some held
  noted_here held found_now =
      ap (λ v. cached_in v s p) is ∙ ap (option_map cached_page) (page_put_here (state_of m) s p (brought lines x) s p refl refl)
      ∙ ap Some (joined_all x.entry.perms x.entry.frame lines x.own (own_set m s p x joined there) (low_lines lines are.inside))
      ∙ by_entry (found s p t) refl (sym (ap (found s p) now ∙ found_noted s p t lines formed) ∙ found_now)
    where
      by_entry : (o : Option Cached) → found s p t ≡ o → option_map (λ c. cached_with_all c lines) (found s p t) ≡ Some held
          → Some (cached_with_all (cached_page x) lines) ≡ Some held
      by_entry None none after = let no_entry = ap is_some (sym (ap (option_map (λ c. cached_with_all c lines)) none) ∙ after) in cc
      by_entry (Some c) before after =
          let same = some_is (cached_page x) c (sym (ap (option_map cached_page) there) ∙ entries s p c before) in
          ap (λ d. Some (cached_with_all d lines)) same ∙ sym (ap (option_map (λ d. cached_with_all d lines)) before) ∙ after

  pub noted_true : AreTrue new u
  noted_true q r held found_now = by_page s p q r
      (λ same.
      ap (λ n. cached_in new n r) same.0 ∙ ap (cached_in new s) same.1
      ∙ noted_here held (sym (ap (λ n. found n r u) same.0 ∙ ap (λ n. found s n u) same.1) ∙ found_now))
      (λ other.
      ap (λ v. cached_in v q r) is ∙ ap (option_map cached_page) (page_put_beside (state_of m) s p (brought lines x) q r (λ one two. other (one, two)))
      ∙ entries q r held (sym (ap (found q r) now ∙ beside_noted s p q r t lines formed other) ∙ found_now))

pub brought_true : (m : MemoryView) (s p : ℕ) (lines : List ℕ) (new : State) (t u : Translations Cached) → IsJoined m → is_some (page_in (state_of m) s p) ≡ true
    → writes_frame (state_of m) s p ≡ false → AreLines lines → new ≡ with_brought (state_of m) s p lines → IsFormed t → u ≡ noted s p t lines → AreTrue (state_of m) t
    → AreTrue new u
unfolding with_brought
brought_true m s p lines new t u joined there brings are is formed now entries =
    let at = has_page (state_of m) s p there in
    noted_true m s p lines new t u at.x joined at.there are
    (is ∙ ap (λ (b : Bool). cond b (state_of m) (altered_page (brought lines) (state_of m) s p)) brings ∙ changed_there (brought lines) (state_of m) s p at.x at.there)
    formed now entries

-- A line was brought that couldn't be written where it stands.
second_false : (a b : Bool) → cond a true b ≡ false → b ≡ false
second_false true b h = cc
second_false false b h = h

pub line_true : (m : MemoryView) (s p line : ℕ) (new : State) (t u : Translations Cached) → IsJoined m → is_some (page_in (state_of m) s p) ≡ true → line < PAGE_LINES
    → is_writable (state_of m) s p line ≡ false → new ≡ with_brought (state_of m) s p (line ∷ []) → IsFormed t → u ≡ with_bit s p line t → AreTrue (state_of m) t → AreTrue new u
line_true m s p line new t u joined there low apart is formed now entries =
    let at = has_page (state_of m) s p there in
    brought_true m s p (line ∷ []) new t u joined there (second_false (has_line at.x.own line) (writes_frame (state_of m) s p) (sym (writable_at (state_of m) s p line at.x at.there) ∙ apart))
    (are_with [] line are_none low) is formed now entries

-- Nothing was brought, since the frame is written.
pub unbrought_true : (v new : State) (s p : ℕ) (lines : List ℕ) (t : Translations Cached) → writes_frame v s p ≡ true → new ≡ with_brought v s p lines → AreTrue v t → AreTrue new t
unfolding with_brought
unbrought_true v new s p lines t written is entries =
    subst (λ w. AreTrue w t) (sym (is ∙ ap (λ (b : Bool). cond b v (altered_page (brought lines) v s p)) written)) entries
