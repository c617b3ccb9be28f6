use Rattle.std.proofs.Common.{◌≡◌, ℕ, ◌+◌, ◌-◌, ◌*◌, ◌/◌, ◌%◌, ◌^◌, ◌<◌, ◌≤◌, ◌⊎◌, inl, inr, Bool, true, false, ◌||◌, nat_eq, List, [], ◌∷◌, length, get_or, Option, Some, None, sym, ap, subst, ◌∙◌, refl, arith}
use Rattle.std.specs.Option.{option_map_or}
use Rattle.std.specs.FinMap.{get, insert}
use Rattle.std.proofs.lemmas.Bool.{cases_eq, cases_order}
use Rattle.std.proofs.lemmas.Bool.Decides.{nat_tests}
use Rattle.number_maps.specs.Keys.{by_key, get_other, get_same}
use Rattle.sizes.specs.declared.TheConstants.{LINE_BYTES, PAGE_BYTES, PAGE_LINES}
use Rattle.overlay_bits.specs.Lines.{has_line, with_line}
use Rattle.overlay_bits.specs.Laws.{has_with}
use Rattle.ledger.specs.AloneLaws.{are}
use Rattle.byteorder.specs.Endian.{little_number}
use Rattle.decoded_lines.specs.Decoded.{IsOfWordBy, line_word}
use Rattle.decoded_lines.specs.declared.TheConstants.{KEPT_LINES, LINE_WORDS}
use Rattle.ovl_io.specs.Memory.{Memory, Page, bytes_at, with_byte, with_bytes, with_page_byte}
use Rattle.ovl_io.specs.MemoryLaws.{all_allowed}
use Rattle.ovl_io.specs.PageBytes.{page_allows}
use Rattle.ovl_io.specs.Permissions.{executable, permits}
use Rattle.rv_decode.specs.Meaning.{meaning_by}
use Rattle.rv_mul.specs.Tables.{table_of}
use Rattle.rv_decode.specs.declared.instruction.Instr.{Instr}
use Rattle.rv_execute.specs.Calls.{fetch_at}
use Rattle.overlay_memory.specs.Code.{IsCodeLine}
use Rattle.overlay_memory.specs.View.{TranslatedView, state_of, translations_of}
use Rattle.overlay_memory.specs.Translated.{after_access}
use Rattle.overlay_pages.specs.State.{State, memory_of}
use Rattle.translation_cache.specs.Bare.{BareTranslations}
use Rattle.translation_cache.specs.Counted.{counted}
use Rattle.translation_cache.specs.CountedLaws.{IsFront, access_in_page, counted_one, front_beside, translated_front}
use Rattle.translation_cache.specs.Translations.{with_hits}
use Rattle.translation_cache.specs.declared.TheConstants.{SETS}
use Rattle.machine_core.specs.Held.{IsInHand, IsReached, IsTurned, IsWordAt}
use Rattle.machine_core.specs.InHand.{IsLineHeld}
use Rattle.machine_core.specs.Access.{lists_lent, spaces_lent}
use Rattle.machine_core.specs.declared.hand.Hand.{Hand}
use Rattle.machine_core.specs.declared.view.View.{View}
use Rattle.machine_core.proofs.Bytes.{bytes_beside, some_bytes}

-- The lines in hand: what a fetch from one is, and what leaves them.

-- A fetch from a page at the front of its list is a hit.
pub fetched_front : (space pc : ℕ) (m : Memory) (t : BareTranslations) → pc % 4 ≡ 0 → IsFront space (pc / PAGE_BYTES) t
    → counted space m (fetch_at pc ∷ []) t ≡ with_hits 1 t
fetched_front space pc m t aligned front =
    counted_one space m (fetch_at pc) t ∙ access_in_page space m (fetch_at pc) t (omega arith) (omega (arith, aligned))
    ∙ translated_front space (pc / PAGE_BYTES) m t front

-- another address of a line leaves it
pub code_moved : (view : TranslatedView) (space a b : ℕ) (line : List ℕ) → b / LINE_BYTES ≡ a / LINE_BYTES → IsCodeLine view space a line → IsCodeLine view space b line
code_moved view space a b line same code =
    let page : b / PAGE_BYTES ≡ a / PAGE_BYTES = omega (arith, same) in
    record {
      may = ap (page_allows (memory_of (state_of view) space) executable) page ∙ code.may;
      front = subst (λ n. IsFront space n (translations_of view)) (sym page) code.front;
      bytes = code.bytes ∙ sym (ap (λ n. bytes_at (memory_of (state_of view) space) (LINE_BYTES * n) LINE_BYTES) same);
      long = code.long;
    }

-- An address of it may be fetched, and its word stands decoded there.
module _ (extension : Bool) (lines : List (List ℕ)) (view : View) (start pc at : ℕ) (held : IsLineHeld lines view.memory.now view.space start)
    (here : pc ≡ start + 4 * at) (inside : at < LINE_WORDS) where
  pub page_is : pc / PAGE_BYTES ≡ start / PAGE_BYTES
  page_is = let whole = held.whole in omega (arith, here, inside, whole)

  pub word_is : (word : Instr) → IsOfWordBy (table_of extension).has (Some word) (line_word (get_or lines (start / LINE_BYTES % KEPT_LINES) []) at) → IsWordAt extension view pc word
  word_is word is =
      let whole = held.whole in
      let low = held.low in
      let line : LINE_BYTES * (start / LINE_BYTES) + 4 * at ≡ pc = omega (arith, whole, here) in
      record {
        low = omega (arith, whole, low, here, inside);
        aligned = omega (arith, whole, here);
        may = all_allowed (memory_of (spaces_lent view) view.space) executable (pc / PAGE_BYTES) pc 4
            (ap (page_allows (memory_of (spaces_lent view) view.space) executable) page_is ∙ held.code.may) (omega arith) (omega (arith, whole, here));
        front = subst (λ n. IsFront view.space n (lists_lent view)) (sym page_is) held.code.front;
        means = is.means
            ∙ ap (meaning_by (table_of extension).has)
            (ap (λ l. line_word l at) held.code.bytes
            ∙ ap (little_number 4)
            (some_bytes (memory_of (spaces_lent view) view.space) (LINE_BYTES * (start / LINE_BYTES)) (4 * at) 4 LINE_BYTES (omega (arith, inside))
            ∙ ap (λ n. bytes_at (memory_of (spaces_lent view) view.space) n 4) line));
        encodable = is.encodable;
      }

-- A line that is taken comes to those in hand.
module _ (old new : List (List ℕ)) (memory : TranslatedView) (space : ℕ) (hand altered : Hand) (pc : ℕ) (line : List ℕ) (low : pc < 2 ^ 64) (aligned : pc % 4 ≡ 0)
    (code : IsCodeLine memory space pc line) (there : get_or new (pc / LINE_BYTES % KEPT_LINES) [] ≡ line)
    (others : (slot : ℕ) → (slot ≡ pc / LINE_BYTES % KEPT_LINES → ⊥) → get_or new slot [] ≡ get_or old slot [])
    (was : IsInHand old memory space hand) (turn : IsTurned (PAGE_BYTES * (pc / PAGE_BYTES)) hand altered) where
  abbrev own : ℕ
  own = pc / LINE_BYTES % PAGE_LINES

  abbrev start_of : ℕ → ℕ
  start_of k = PAGE_BYTES * (pc / PAGE_BYTES) + LINE_BYTES * k

  held_own : IsLineHeld new memory space (start_of own)
  held_own =
      let number : pc / LINE_BYTES ≡ start_of own / LINE_BYTES = omega arith in
      record {
        whole = omega arith;
        low = omega (arith, low);
        code = code_moved memory space pc (start_of own) _ (sym number)
            (subst (IsCodeLine memory space pc) (sym there ∙ ap (λ n. get_or new (n % KEPT_LINES) []) number) code);
      }

  -- another one, that was there
  held_still : (k : ℕ) → k < PAGE_LINES → (k ≡ own → ⊥) → IsLineHeld old memory space (start_of k) → IsLineHeld new memory space (start_of k)
  held_still k below other held = record {
    whole = held.whole;
    low = held.low;
    code = subst (IsCodeLine memory space (start_of k))
        (sym (others (start_of k / LINE_BYTES % KEPT_LINES) (λ same. other (omega (arith, below, same))))) held.code;
  }

  was_held : (k : ℕ) → k < PAGE_LINES → has_line altered.known k ≡ true → IsLineHeld old memory space (start_of k)
  was_held k below has = by_turn turn.1
    where
      by_turn : (altered ≡ hand) ⊎ (altered ≡ record { start = PAGE_BYTES * (pc / PAGE_BYTES); known = []; owed = hand.owed }) → IsLineHeld old memory space (start_of k)
      by_turn (inl same) =
          subst (λ n. IsLineHeld old memory space (n + LINE_BYTES * k)) (sym (ap (λ (h : Hand). h.start) same) ∙ turn.0)
          (was k below (sym (ap (λ (h : Hand). has_line h.known k) same) ∙ has)).1
      by_turn (inr none) = absurd (let lacks = ap (λ (h : Hand). has_line h.known k) none in let both = sym lacks ∙ has in cc)

  pub taken : (known : List ℕ) → known ≡ with_line altered.known own → IsReached new memory space (record { start = altered.start; known = known; owed = altered.owed }) pc
  taken known known_is = record {
    hand_is = λ k below has. (
      let is = turn.0 in omega (arith, is),
      subst (λ n. IsLineHeld new memory space (n + LINE_BYTES * k)) (sym turn.0)
          (by_own k below (sym (has_with altered.known own k) ∙ sym (ap (λ l. has_line l k) known_is) ∙ has) (cases_eq k own)),
    );
    has = record {
      start = let is = turn.0 in omega (arith, is, aligned);
      known = ap (λ l. has_line l own) known_is ∙ has_with altered.known own own ∙ ap (λ b. b || has_line altered.known own) (are own own refl);
    };
  }
    where
      or_right : (a b : Bool) → (a ≡ true → ⊥) → (a || b) ≡ true → b ≡ true
      or_right true b out h = absurd (out refl)
      or_right false b out h = h

      by_own : (k : ℕ) → k < PAGE_LINES → (nat_eq own k || has_line altered.known k) ≡ true → (k ≡ own) ⊎ (k ≡ own → ⊥) → IsLineHeld new memory space (start_of k)
      by_own k below has (inl same) = subst (λ n. IsLineHeld new memory space (start_of n)) (sym same) held_own
      by_own k below has (inr other) =
          held_still k below other (was_held k below (or_right (nat_eq own k) (has_line altered.known k) (λ is. other (let same : own ≡ k = grind (arith, nat_tests) in sym same)) has))

-- What a store does beside a page.

-- permissions stay
byte_allows : (m : Memory) (a value need q : ℕ) → page_allows (with_byte m a value) need q ≡ page_allows m need q
byte_allows m a value need q = by_page (get m (a / PAGE_BYTES)) refl
  where
    by_page : (o : Option Page) → get m (a / PAGE_BYTES) ≡ o → page_allows (with_byte m a value) need q ≡ page_allows m need q
    by_page None none =
        ap (λ (n : Memory). page_allows n need q)
        (ap (λ (o : Option Page). option_map_or (λ (y : Page). insert m (a / PAGE_BYTES) (with_page_byte (a % PAGE_BYTES) value y)) o m) none)
    by_page (Some page) there =
        let changed : Memory = insert m (a / PAGE_BYTES) (with_page_byte (a % PAGE_BYTES) value page) in
        ap (λ (n : Memory). page_allows n need q)
        (ap (λ (o : Option Page). option_map_or (λ (y : Page). insert m (a / PAGE_BYTES) (with_page_byte (a % PAGE_BYTES) value y)) o m) there)
        ∙ by_key q (a / PAGE_BYTES)
        (λ same.
        ap (λ (o : Option Page). option_map_or (λ (y : Page). permits y.perms need) o false) (get_same m (a / PAGE_BYTES) q (with_page_byte (a % PAGE_BYTES) value page) same)
        ∙ sym (ap (λ (o : Option Page). option_map_or (λ (y : Page). permits y.perms need) o false) (ap (get m) same ∙ there)))
        (λ apart. ap (λ (o : Option Page). option_map_or (λ (y : Page). permits y.perms need) o false) (get_other m (a / PAGE_BYTES) q (with_page_byte (a % PAGE_BYTES) value page) apart))

bytes_allow : (m : Memory) (a : ℕ) (bytes : List ℕ) (need q : ℕ) → page_allows (with_bytes m a bytes) need q ≡ page_allows m need q
bytes_allow m a [] need q = refl
bytes_allow m a (b ∷ bytes) need q = bytes_allow (with_byte m a b) (a + 1) bytes need q ∙ byte_allows m a b need q

-- Where its page is still at the front of its list, a line stays what it was, where nothing was stored in it.
module _ (old new : TranslatedView) (space start : ℕ) (line : List ℕ) (front : IsFront space (start / PAGE_BYTES) (translations_of new)) (code : IsCodeLine old space start line) where
  pub code_same : state_of new ≡ state_of old → IsCodeLine new space start line
  code_same same = record {
    may = ap (λ (s : State). page_allows (memory_of s space) executable (start / PAGE_BYTES)) same ∙ code.may;
    front = front;
    bytes = code.bytes ∙ sym (ap (λ (s : State). bytes_at (memory_of s space) (LINE_BYTES * (start / LINE_BYTES)) LINE_BYTES) same);
    long = code.long;
  }

  pub code_off : (address : ℕ) (bytes : List ℕ) → (address / PAGE_BYTES ≡ start / PAGE_BYTES → ⊥) → address % PAGE_BYTES + length bytes ≤ PAGE_BYTES
      → memory_of (state_of new) space ≡ with_bytes (memory_of (state_of old) space) address bytes → IsCodeLine new space start line
  code_off address bytes other fits memory = record {
    may = ap (λ m. page_allows m executable (start / PAGE_BYTES)) memory ∙ bytes_allow (memory_of (state_of old) space) address bytes executable (start / PAGE_BYTES) ∙ code.may;
    front = front;
    bytes = code.bytes
        ∙ sym (ap (λ m. bytes_at m (LINE_BYTES * (start / LINE_BYTES)) LINE_BYTES) memory
        ∙ bytes_beside (memory_of (state_of old) space) address bytes (LINE_BYTES * (start / LINE_BYTES)) LINE_BYTES (out (cases_order (address / PAGE_BYTES) (start / PAGE_BYTES))));
    long = code.long;
  }
    where
      out : (address / PAGE_BYTES ≡ start / PAGE_BYTES) ⊎ ((address / PAGE_BYTES < start / PAGE_BYTES) ⊎ (start / PAGE_BYTES < address / PAGE_BYTES))
          → (LINE_BYTES * (start / LINE_BYTES) + LINE_BYTES ≤ address) ⊎ (address + length bytes ≤ LINE_BYTES * (start / LINE_BYTES))
      out (inl same) = absurd (other same)
      out (inr (inl less)) = inr (omega (arith, less, fits))
      out (inr (inr more)) = inl (omega (arith, more))

-- An access in one page of another list leaves the line.

pub record IsApart (address start : ℕ) : Type 0 where
  pub sets : address / PAGE_BYTES % SETS ≡ start / PAGE_BYTES % SETS → ⊥
  pub one_page : address % PAGE_BYTES ≤ PAGE_BYTES - 8

module _ (old new : TranslatedView) (space start address need count : ℕ) (line : List ℕ) (apart : IsApart address start) (some : 0 < count) (few : count ≤ 8)
    (lists : translations_of new ≡ after_access old space (record { need = need; address = address; length = count }))
    (code : IsCodeLine old space start line) where
  front_left : IsFront space (start / PAGE_BYTES) (translations_of new)
  front_left =
      let fits = apart.one_page in
      subst (IsFront space (start / PAGE_BYTES))
      (sym (lists ∙ counted_one space (memory_of (state_of old) space) (record { need = need; address = address; length = count }) (translations_of old)
      ∙ access_in_page space (memory_of (state_of old) space) (record { need = need; address = address; length = count }) (translations_of old) some (omega (arith, fits, few))))
      (front_beside space space (start / PAGE_BYTES) (address / PAGE_BYTES) (memory_of (state_of old) space) (translations_of old) (λ same. apart.sets (sym same)) code.front)

  pub code_kept : state_of new ≡ state_of old → IsCodeLine new space start line
  code_kept same = code_same old new space start line front_left code same

  pub code_beside : (bytes : List ℕ) → length bytes ≡ count → memory_of (state_of new) space ≡ with_bytes (memory_of (state_of old) space) address bytes
      → IsCodeLine new space start line
  code_beside bytes length_is memory =
      let fits = apart.one_page in
      code_off old new space start line front_left code address bytes (λ same. apart.sets (ap (λ n. n % SETS) same)) (omega (arith, fits, few, length_is)) memory
