use Rattle.std.proofs.Common.{◌≡◌, ℕ, ◌+◌, ◌*◌, ◌/◌, ◌<◌, ◌≤◌, Bool, true, false, cond, List, ◌++◌, length, take, drop, slice_set, Option, Some, None, sym, ap, subst, ◌∙◌, refl, arith, length-append}
use Rattle.std.specs.Prelude.{not, ◌&&◌}
use Rattle.std.proofs.Math.Seq.{take-add}
use Rattle.std.proofs.lemmas.List.{drop-drop, length-take-le}
use Rattle.std.specs.Option.{option_map}
use Rattle.std.specs.FinMap.{get, insert}
use Rattle.sizes.specs.declared.TheConstants.{LINE_BYTES, PAGE_BYTES, PAGE_LINES}
use Rattle.number_maps.specs.Keys.{by_key}
use Rattle.ovl_io.specs.Memory.{with_bytes}
use Rattle.ovl_io.specs.MemoryLaws.{stored_in, stored_joined}
use Rattle.ovl_io.specs.PageBytes.{overwritten}
use Rattle.overlay_bits.specs.Lines.{has_line}
use Rattle.ledger.specs.Ledger.{is_alone}
use Rattle.overlay_pages.specs.Lines.{bytes_in_lines, line_in_page}
use Rattle.overlay_pages.specs.State.{PageState, State, base_of, base_page, books, memory_of, seen_page}
use Rattle.overlay_pages.specs.Changes.{is_writable, with_written, writes_frame, written}
use Rattle.overlay_pages.specs.View.{MemoryView, state_of}
use Rattle.overlay_memory.specs.Access.{IsUntouched}
use Rattle.overlay_memory.specs.Pieces.{IsFilled}
use Rattle.overlay_memory.specs.StateMemory.{base_beside, base_kept, beside_both, beside_put, books_kept, entries_kept, mark_put, memory_put, writable_at, writable_same, writes_same}
use Rattle.overlay_pages.specs.LineLaws.{byte_count}
use Rattle.overlay_memory.proofs.LineBytes.{line_written}
use Rattle.overlay_memory.proofs.Pieced.{seen_there}
use Rattle.overlay_memory.proofs.Views.{lines_count}
use Rattle.space_maps.specs.Laws.{changed_there, page_put_beside, page_put_here}
use Rattle.space_maps.specs.Spaces.{page_in, put_page, space_in}

-- Bytes that are put in lines that can be written.

-- a line is in the overlay where it can be written and the space is speculating
own_line : (v : State) (s p line : ℕ) (x : PageState) → page_in v s p ≡ Some x → is_writable v s p line ≡ true → (space_in v s).speculating ≡ true
    → has_line x.own line ≡ true
own_line v s p line x there can on = at (has_line x.own line) (space_in v s).speculating on (sym (writable_at v s p line x there) ∙ can)
  where
    at : (own mark : Bool) → mark ≡ true → cond own true (not mark && is_alone (books v) s p) ≡ true → own ≡ true
    at true mark h is = refl
    at false true h is = cc
    at false false h is = cc

-- a page of which a line was written changes no ledger, and no line can be written less
module _ (v : State) (s p line : ℕ) (new : List ℕ) (x : PageState) (there : page_in v s p ≡ Some x) where
  abbrev after : State
  after = put_page v s p (written line new x)

  frames_kept : (r : ℕ) → writes_frame after s r ≡ writes_frame v s r
  frames_kept r =
      writes_same v after s r (mark_put v s p (written line new x)) (ap (λ l. is_alone l s r) (books_kept v s p (written line new x) x there refl refl))

  writable_kept : (r l : ℕ) → is_writable after s r l ≡ is_writable v s r l
  writable_kept r l = by_key r p
      (λ same.
      ap (λ q. is_writable after s q l) same
      ∙ writable_at after s p l (written line new x) (page_put_here v s p (written line new x) s p refl refl)
      ∙ ap (cond (has_line x.own l) true) (frames_kept p)
      ∙ sym (ap (λ q. is_writable v s q l) same ∙ writable_at v s p l x there))
      (λ other. writable_same v after s r l (page_put_beside v s p (written line new x) s r (λ ss pp. other pp)) (frames_kept r))

  -- a page in which no byte lies is another one
  bases_stay : (at count page : ℕ) → line < PAGE_LINES → 0 < count → at + count ≤ LINE_BYTES
      → IsUntouched (PAGE_BYTES * p + (LINE_BYTES * line + at)) count page → get (base_of after s) page ≡ get (base_of v s) page
  bases_stay at count page low some fits far =
      base_beside v s p (written line new x) page (λ same. far 0 some (omega (arith, low, some, fits, same)))

  base_stays : is_writable v s p line ≡ true → (space_in v s).speculating ≡ true → base_of after s ≡ base_of v s
  base_stays can on =
      base_kept v s p (written line new x) x there
      (ap (λ (b : Bool). base_page (record { entry = x.entry; own = x.own; lines = x.lines; base = cond b x.base (slice_set x.base line new) }))
      (own_line v s p line x there can on))

pub written_filled : (v : State) (s p line at : ℕ) (bytes old : List ℕ) (x : PageState) → page_in v s p ≡ Some x
    → option_map (λ (x : PageState). line_in_page x.lines line) (page_in v s p) ≡ Some old
    → length x.lines ≡ PAGE_LINES → line < PAGE_LINES → length old ≡ LINE_BYTES → 0 < length bytes → at + length bytes ≤ LINE_BYTES
    → is_writable v s p line ≡ true
    → IsFilled v (with_written v s p line (overwritten old at bytes)) s (PAGE_BYTES * p + (LINE_BYTES * line + at)) bytes
unfolding with_written
written_filled v s p line at bytes old x there is all low whole some fits can =
    subst (λ new. IsFilled v new s (4096 * p + (64 * line + at)) bytes) (sym (changed_there (written line (overwritten old at bytes)) v s p x there)) (record {
      memory =
          memory_put v s p (written line (overwritten old at bytes) x)
          ∙ ap (λ bs. insert (memory_of v s) p (record { perms = x.entry.perms.0; bytes = bs })) bytes_are
          ∙ sym (stored_in (memory_of v s) p (4096 * p + (64 * line + at)) (64 * line + at) bytes (seen_page x) (seen_there v s p x there) (byte_count x.lines) refl
          (omega (arith, low, fits)));
      ledger = books_kept v s p (written line (overwritten old at bytes) x) x there refl refl;
      base = base_stays v s p line (overwritten old at bytes) x there can;
      bases = λ page far. bases_stay v s p line (overwritten old at bytes) x there at (length bytes) page low some fits far;
      writable = writable_kept v s p line (overwritten old at bytes) x there;
      entries = entries_kept v s p (written line (overwritten old at bytes) x) x there refl;
      beside = beside_put v s p (written line (overwritten old at bytes) x) x there refl;
    })
  where
    it : line_in_page x.lines line ≡ old
    it = let same : Some (line_in_page x.lines line) ≡ Some old = sym (ap (option_map (λ (x : PageState). line_in_page x.lines line)) there) ∙ is in cc

    bytes_are : bytes_in_lines (slice_set x.lines line (overwritten old at bytes)) ≡ overwritten (bytes_in_lines x.lines) (64 * line + at) bytes
    bytes_are =
        ap (λ l. bytes_in_lines (slice_set x.lines line (overwritten l at bytes))) (sym it)
        ∙ line_written x.lines line at bytes all low (ap length it ∙ whole) fits

-- bytes were copied into a line that was lent
pub line_put : (view : MemoryView) (s p line at k : ℕ) (bytes old new : List ℕ) (after : State)
    → option_map (λ (x : PageState). line_in_page x.lines line) (page_in (state_of view) s p) ≡ Some old
    → after ≡ with_written (state_of view) s p line (take at old ++ (new ++ drop k (drop at old))) → new ≡ bytes → k ≡ length bytes → length old ≡ LINE_BYTES
    → line < PAGE_LINES → 0 < length bytes → at + length bytes ≤ LINE_BYTES → is_writable (state_of view) s p line ≡ true
    → IsFilled (state_of view) after s (PAGE_BYTES * p + (LINE_BYTES * line + at)) bytes
line_put view s p line at k bytes old new after is put same count whole low nonempty fits can = by_page (page_in (state_of view) s p) refl is
  where
    lists : take at old ++ (new ++ drop k (drop at old)) ≡ overwritten old at bytes
    lists =
        ap (λ n. take at old ++ (n ++ drop k (drop at old))) same ∙ ap (λ d. take at old ++ (bytes ++ d)) (drop-drop k at old)
        ∙ ap (λ n. take at old ++ (bytes ++ drop (at + n) old)) count

    by_page : (o : Option PageState) → page_in (state_of view) s p ≡ o → option_map (λ (x : PageState). line_in_page x.lines line) o ≡ Some old
        → IsFilled (state_of view) after s (4096 * p + (64 * line + at)) bytes
    by_page None absent none = cc
    by_page (Some x) at_page some =
        subst (λ new. IsFilled (state_of view) new s (4096 * p + (64 * line + at)) bytes)
        (sym (put ∙ ap (with_written (state_of view) s p line) lists))
        (written_filled (state_of view) s p line at bytes old x at_page is (lines_count view s p x at_page) low whole nonempty fits can)

-- one piece after another: a page in which no byte of both lies has none of either

both_count : (front rest : List ℕ) → length (front ++ rest) ≡ length front + length rest
both_count front rest = length-append front rest

pub front_untouched : (address : ℕ) (front rest : List ℕ) (page : ℕ) → IsUntouched address (length (front ++ rest)) page → IsUntouched address (length front) page
front_untouched address front rest page far k low same = far k (let both = both_count front rest in omega (arith, both, low)) same

pub behind_untouched : (address next : ℕ) (front rest : List ℕ) (page : ℕ) → next ≡ address + length front → IsUntouched address (length (front ++ rest)) page
    → IsUntouched next (length rest) page
behind_untouched address next front rest page is far k low same =
    let further : address + (length front + k) ≡ next + k = omega (arith, is) in
    far (length front + k) (let both = both_count front rest in omega (arith, both, low)) (ap (λ a. a / 4096) further ∙ same)

pub filled_more : (a b c : State) (s address next : ℕ) (front rest : List ℕ) → next ≡ address + length front → IsFilled a b s address front
    → IsFilled b c s next rest
    → IsFilled a c s address (front ++ rest)
filled_more a b c s address next front rest is one two = record {
  memory =
      two.memory ∙ ap (λ m. with_bytes m next rest) one.memory ∙ ap (λ n. with_bytes (with_bytes (memory_of a s) address front) n rest) is
      ∙ sym (stored_joined (memory_of a s) address front rest);
  ledger = two.ledger ∙ one.ledger;
  base = λ on. two.base (one.beside.mark ∙ on) ∙ one.base on;
  bases = λ page far. two.bases page (behind_untouched address next front rest page is far) ∙ one.bases page (front_untouched address front rest page far);
  entries = two.entries ∙ one.entries;
  writable = λ page line. two.writable page line ∙ one.writable page line;
  beside = beside_both a b c s one.beside two.beside;
}

pub fill_more : (a b c : State) (s address next done n k : ℕ) (bytes : List ℕ) → done ≤ length bytes → next ≡ address + done → k ≡ n
    → IsFilled a b s address (take done bytes) → IsFilled b c s next (take k (drop done bytes)) → IsFilled a c s address (take (done + n) bytes)
fill_more a b c s address next done n k bytes within is same one two =
    subst (IsFilled a c s address) (ap (λ m. take done bytes ++ take m (drop done bytes)) same ∙ sym (take-add done n bytes))
    (filled_more a b c s address next (take done bytes) (take k (drop done bytes)) (omega (arith, is, length-take-le done bytes within)) one two)
