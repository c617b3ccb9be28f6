use Rattle.std.proofs.Common.{◌≡◌, ℕ, zero, suc, ◌+◌, ◌-◌, ◌*◌, ◌/◌, ◌%◌, ◌<◌, ◌≤◌, Bool, true, false, cond, List, [], ◌∷◌, ◌++◌, length, take, drop, get_or, sym, ap, subst, ◌∙◌, refl, arith, Option, Some, None, slice_index, append_assoc, length-append, length-drop, append-nil}
use Rattle.std.proofs.Math.ListN.{set}
use Rattle.std.proofs.Math.Seq.{drop-cons, take-append_seam, drop-append_seam}
use Rattle.std.proofs.lemmas.List.{take_more_set, drop-set-lt, length-set, take-append-drop, drop_all, take_all}
use Rattle.std.specs.Option.{option_map_or}
use Rattle.std.specs.FinMap.{get, insert}
use Rattle.sizes.specs.declared.TheConstants.{PAGE_BYTES, PAGE_END}
use Rattle.ovl_io.specs.Memory.{Memory, Page, byte_at, bytes_at, allows, first_denied, with_page_byte, with_byte, with_bytes}
use Rattle.ovl_io.specs.PageBytes.{IsMemory, page_allows, overwritten}
use Rattle.ovl_io.specs.Keys.{by_key, get_same, get_other, insert_kept, insert_over}

-- Bytes are read and stored one by one; these laws say what that comes to page by page.

-- an access that lies in one page
pub all_allowed : (memory : Memory) (need q address n : ℕ) → page_allows memory need q ≡ true → PAGE_BYTES * q ≤ address → address + n ≤ PAGE_BYTES * q + PAGE_BYTES
    → first_denied memory need address n ≡ None
all_allowed memory need q address zero may low high = refl
all_allowed memory need q address (suc n) may low high =
    let here : address / PAGE_BYTES ≡ q = omega arith in
    ap (λ (b : Bool). cond b (first_denied memory need (address + 1) n) (Some address)) (ap (page_allows memory need) here ∙ may)
    ∙ all_allowed memory need q (address + 1) n may (omega arith) (omega arith)

pub first_refused : (memory : Memory) (need q address n : ℕ) → page_allows memory need q ≡ false → address / PAGE_BYTES ≡ q → 0 < n
    → first_denied memory need address n ≡ Some address
first_refused memory need q address zero mayn here some = absurd (omega arith)
first_refused memory need q address (suc n) mayn here some =
    ap (λ (b : Bool). cond b (first_denied memory need (address + 1) n) (Some address)) (ap (page_allows memory need) here ∙ mayn)

-- an access of j bytes and then k more
keeps_front : (b : Bool) (A B : Option ℕ) (a x : ℕ) → (A ≡ Some x → B ≡ Some x) → cond b A (Some a) ≡ Some x → cond b B (Some a) ≡ Some x
keeps_front true A B a x go h = go h
keeps_front false A B a x go h = h

pub denied_front : (memory : Memory) (need address j k x : ℕ) → first_denied memory need address j ≡ Some x → first_denied memory need address (j + k) ≡ Some x
denied_front memory need address zero k x h = cc
denied_front memory need address (suc j) k x h =
    let same : suc j + k ≡ suc (j + k) = omega arith in
    ap (first_denied memory need address) same
    ∙ keeps_front (allows memory need address) _ _ address x (denied_front memory need (address + 1) j k x) h

goes_back : (b : Bool) (A B C : Option ℕ) (a : ℕ) → (A ≡ None → B ≡ C) → cond b A (Some a) ≡ None → cond b B (Some a) ≡ C
goes_back true A B C a go h = go h
goes_back false A B C a go h = cc

pub denied_back : (memory : Memory) (need address j k : ℕ) → first_denied memory need address j ≡ None
    → first_denied memory need address (j + k) ≡ first_denied memory need (address + j) k
denied_back memory need address zero k h =
    let same : zero + k ≡ k = omega arith in
    let at : address + zero ≡ address = omega arith in
    ap (first_denied memory need address) same ∙ ap (λ a. first_denied memory need a k) (sym at)
denied_back memory need address (suc j) k h =
    let same : suc j + k ≡ suc (j + k) = omega arith in
    let at : address + 1 + j ≡ address + suc j = omega arith in
    ap (first_denied memory need address) same
    ∙ goes_back (allows memory need address) _ _ _ address (denied_back memory need (address + 1) j k) h
    ∙ ap (λ a. first_denied memory need a k) at

pub bytes_joined : (memory : Memory) (address j k : ℕ) → bytes_at memory address (j + k) ≡ bytes_at memory address j ++ bytes_at memory (address + j) k
bytes_joined memory address zero k =
    let same : zero + k ≡ k = omega arith in
    let at : address + zero ≡ address = omega arith in
    ap (bytes_at memory address) same ∙ ap (λ a. bytes_at memory a k) (sym at)
bytes_joined memory address (suc j) k =
    let same : suc j + k ≡ suc (j + k) = omega arith in
    let at : address + 1 + j ≡ address + suc j = omega arith in
    ap (bytes_at memory address) same
    ∙ ap (λ bs. byte_at memory address ∷ bs) (bytes_joined memory (address + 1) j k ∙ ap (λ a. bytes_at memory (address + 1) j ++ bytes_at memory a k) at)

-- bytes of one page that is there
byte_in : (memory : Memory) (q address : ℕ) (page : Page) → get memory q ≡ Some page → address / PAGE_BYTES ≡ q → byte_at memory address ≡ slice_index page.bytes (address % PAGE_BYTES)
byte_in memory q address page there here =
    ap (λ found. option_map_or (λ (p : Page). slice_index p.bytes (address % PAGE_BYTES)) found 0) (ap (get memory) here ∙ there)

pub bytes_in : (memory : Memory) (q address at n : ℕ) (page : Page) → get memory q ≡ Some page → length page.bytes ≡ PAGE_BYTES → address ≡ PAGE_BYTES * q + at → at + n ≤ PAGE_BYTES
    → bytes_at memory address n ≡ take n (drop at page.bytes)
bytes_in memory q address at zero page there whole is fits = refl
bytes_in memory q address at (suc n) page there whole is fits =
    let here : address / PAGE_BYTES ≡ q = omega arith in
    let place : address % PAGE_BYTES ≡ at = omega arith in
    let next : address + 1 ≡ PAGE_BYTES * q + suc at = omega arith in
    ap (λ b. b ∷ bytes_at memory (address + 1) n) (byte_in memory q address page there here ∙ ap (slice_index page.bytes) place)
    ∙ ap (λ bs. get_or page.bytes at 0 ∷ bs) (bytes_in memory q (address + 1) (suc at) n page there whole next (omega arith))
    ∙ sym (ap (take (suc n)) (drop-cons page.bytes at 0 (omega arith)))

-- bytes stored in one page that is there
overwritten_none : (xs : List ℕ) (at : ℕ) → overwritten xs at [] ≡ xs
overwritten_none xs at =
    let same : at + zero ≡ at = omega arith in
    ap (λ n. take at xs ++ drop n xs) same ∙ take-append-drop at xs

overwritten_more : (xs bytes : List ℕ) (at b : ℕ) → at < length xs → overwritten (set xs at b) (at + 1) bytes ≡ overwritten xs at (b ∷ bytes)
overwritten_more xs bytes at b within =
    let n : at + 1 + length bytes ≡ at + suc (length bytes) = omega arith in
    ap (λ front. front ++ (bytes ++ drop (at + 1 + length bytes) (set xs at b))) (take_more_set xs at b within)
    ∙ ap (λ rest. (take at xs ++ b ∷ []) ++ (bytes ++ rest)) (drop-set-lt (at + 1 + length bytes) xs at b (omega arith))
    ∙ append_assoc (take at xs) (b ∷ []) (bytes ++ drop (at + 1 + length bytes) xs)
    ∙ ap (λ m. take at xs ++ (b ∷ (bytes ++ drop m xs))) n

stored_byte : (memory : Memory) (q address at b : ℕ) (page : Page) → get memory q ≡ Some page → address / PAGE_BYTES ≡ q → address % PAGE_BYTES ≡ at
    → with_byte memory address b ≡ insert memory q (with_page_byte at b page)
stored_byte memory q address at b page there here place =
    ap (λ found. option_map_or (λ (p : Page). insert memory (address / PAGE_BYTES) (with_page_byte (address % PAGE_BYTES) b p)) found memory) (ap (get memory) here ∙ there)
    ∙ ap (λ n. insert memory n (with_page_byte (address % PAGE_BYTES) b page)) here
    ∙ ap (λ n. insert memory q (with_page_byte n b page)) place

pub stored_in : (memory : Memory) (q address at : ℕ) (bytes : List ℕ) (page : Page) → get memory q ≡ Some page → length page.bytes ≡ PAGE_BYTES
    → address ≡ PAGE_BYTES * q + at → at + length bytes ≤ PAGE_BYTES
    → with_bytes memory address bytes ≡ insert memory q (record { perms = page.perms; bytes = overwritten page.bytes at bytes })
stored_in memory q address at [] page there whole is fits =
    sym (ap (λ bs. insert memory q (record { perms = page.perms; bytes = bs })) (overwritten_none page.bytes at) ∙ insert_kept memory q page there)
stored_in memory q address at (b ∷ bytes) page there whole is fits =
    let here : address / PAGE_BYTES ≡ q = omega arith in
    let place : address % PAGE_BYTES ≡ at = omega arith in
    let next : address + 1 ≡ PAGE_BYTES * q + (at + 1) = omega arith in
    let within : at < length page.bytes = omega arith in
    let one = with_page_byte at b page in
    let kept : length one.bytes ≡ PAGE_BYTES = length-set page.bytes at b ∙ whole in
    ap (λ m. with_bytes m (address + 1) bytes) (stored_byte memory q address at b page there here place)
    ∙ stored_in (insert memory q one) q (address + 1) (at + 1) bytes one (get_same memory q q one refl) kept next (omega arith)
    ∙ insert_over memory q one _
    ∙ ap (λ bs. insert memory q (record { perms = page.perms; bytes = bs })) (overwritten_more page.bytes bytes at b within)

pub stored_joined : (memory : Memory) (address : ℕ) (front rest : List ℕ)
    → with_bytes memory address (front ++ rest) ≡ with_bytes (with_bytes memory address front) (address + length front) rest
stored_joined memory address [] rest =
    let at : address + zero ≡ address = omega arith in
    ap (λ a. with_bytes memory a rest) (sym at)
stored_joined memory address (b ∷ front) rest =
    let at : address + 1 + length front ≡ address + suc (length front) = omega arith in
    stored_joined (with_byte memory address b) (address + 1) front rest
    ∙ ap (λ a. with_bytes (with_bytes (with_byte memory address b) (address + 1) front) a rest) at

-- an access of two parts
pub access_front : (memory : Memory) (need address j k n : ℕ) (at : ℕ) → n ≡ j + k → first_denied memory need address j ≡ Some at
    → first_denied memory need address n ≡ Some at
access_front memory need address j k n at is h = ap (first_denied memory need address) is ∙ denied_front memory need address j k at h

pub both_allowed : (memory : Memory) (need address next j k n : ℕ) → n ≡ j + k → next ≡ address + j
    → first_denied memory need address j ≡ None → first_denied memory need next k ≡ None → first_denied memory need address n ≡ None
both_allowed memory need address next j k n is at front h =
    ap (first_denied memory need address) is ∙ denied_back memory need address j k front ∙ ap (λ a. first_denied memory need a k) (sym at) ∙ h

pub back_refused : (memory : Memory) (need address next j k n at : ℕ) → n ≡ j + k → next ≡ address + j
    → first_denied memory need address j ≡ None → first_denied memory need next k ≡ Some at → first_denied memory need address n ≡ Some at
back_refused memory need address next j k n at is place front h =
    ap (first_denied memory need address) is ∙ denied_back memory need address j k front ∙ ap (λ a. first_denied memory need a k) (sym place) ∙ h

-- two parts of a list were filled, the front first
put_both : (front back old : List ℕ) (f : ℕ) → length front ≡ f
    → take f (front ++ drop f old) ++ (back ++ drop (length (front ++ drop f old) - f) (drop f (front ++ drop f old))) ≡ front ++ back
put_both front back old f is =
    let whole = front ++ drop f old in
    let first = ap (λ n. take n whole) (sym is) ∙ take-append_seam front (drop f old) in
    let rest = ap (λ n. drop n whole) (sym is) ∙ drop-append_seam front (drop f old) in
    let none = ap (drop (length whole - f)) rest ∙ drop_all (length whole - f) (drop f old) (omega (arith, length-append front (drop f old))) in
    ap (λ xs. xs ++ (back ++ drop (length whole - f) (drop f whole))) first ∙ ap (λ xs. front ++ (back ++ xs)) none ∙ ap (λ xs. front ++ xs) (append-nil back)

-- what is behind f elements
pub rest_is : (xs : List ℕ) (f : ℕ) → take (length xs - f) (drop f xs) ≡ drop f xs
rest_is xs f = take_all (length xs - f) (drop f xs) (omega (arith, length-drop f xs))

-- what a memory is stays so where a byte of it is stored
byte_kept : (memory : Memory) (q at value : ℕ) (old : Page) → IsMemory memory → get memory q ≡ Some old → IsMemory (insert memory q (with_page_byte at value old))
byte_kept memory q at value old is there =
    let new = with_page_byte at value old in
    record {
      low = λ number page found. by_key number q
          (λ same. subst (λ n. n < PAGE_END) (sym same) (is.low q old there))
          (λ other. is.low number page (sym (get_other memory q number new other) ∙ found));
      whole = λ number page found. by_key number q
          (λ same.
          let it : Some new ≡ Some page = sym (get_same memory q number new same) ∙ found in
          ap (λ (o : Option Page). option_map_or (λ (p : Page). length p.bytes) o 0) (sym it) ∙ length-set old.bytes at value ∙ is.whole q old there)
          (λ other. is.whole number page (sym (get_other memory q number new other) ∙ found));
    }

byte_stored_is : (memory : Memory) (address value : ℕ) → IsMemory memory → IsMemory (with_byte memory address value)
byte_stored_is memory address value is = by_page (get memory (address / PAGE_BYTES)) refl
  where
    by_page : (found : Option Page) → get memory (address / PAGE_BYTES) ≡ found
        → IsMemory (option_map_or (λ page. insert memory (address / PAGE_BYTES) (with_page_byte (address % PAGE_BYTES) value page)) found memory)
    by_page None absent = is
    by_page (Some page) there = byte_kept memory (address / PAGE_BYTES) (address % PAGE_BYTES) value page is there

pub stored_is_memory : (memory : Memory) (address : ℕ) (bytes : List ℕ) → IsMemory memory → IsMemory (with_bytes memory address bytes)
stored_is_memory memory address [] is = is
stored_is_memory memory address (b ∷ bytes) is = stored_is_memory (with_byte memory address b) (address + 1) bytes (byte_stored_is memory address b is)
