use Rattle.std.proofs.Common.{◌≡◌, ℕ, ◌+◌, ◌*◌, ◌/◌, ◌%◌, ◌<◌, ◌≤◌, true, List, [], ◌∷◌, length, take, drop, None, sym, ap, subst, ◌∙◌, refl, arith}
use Rattle.std.specs.Prelude.{Result, Ok, Err}
use Rattle.std.proofs.lemmas.Bool.Decides.{nat_tests}
use Rattle.sizes.specs.declared.TheConstants.{LINE_BYTES, PAGE_BYTES}
use Rattle.ovl_io.specs.Memory.{Access, Memory, bytes_at, denied_at}
use Rattle.ovl_io.specs.MemoryLaws.{all_allowed}
use Rattle.ovl_io.specs.Permissions.{readable, writable}
use Rattle.rv_execute.specs.Calls.{is_count, load_at, store_at}
use Rattle.rv_execute.specs.declared.memory.Refused.{Refused}
use Rattle.overlay_memory.specs.Access.{Stores}
use Rattle.overlay_memory.specs.Code.{IsFrontLine}
use Rattle.overlay_memory.specs.View.{TranslatedView, state_of}
use Rattle.overlay_memory.specs.declared.error.MemoryError.{MemoryError}
use Rattle.overlay_memory.specs.declared.error.MemoryError.TheVariants.{Unmapped, Forbidden, Full}
use Rattle.overlay_pages.specs.Changes.{Fits}
use Rattle.overlay_pages.specs.State.{memory_of}
use Rattle.overlay_pages.specs.View as seen
use Rattle.translation_cache.specs.Bare.{BareTranslations}
use Rattle.translation_cache.specs.Counted.{counted}
use Rattle.translation_cache.specs.CountedLaws.{IsFront, access_in_page, counted_one, translated_front}
use Rattle.translation_cache.specs.Translations.{with_hits}
use Rattle.machine_core.specs.Access.{IsStoredBy, IsUnchanged, Leaves, lists_after, lists_lent, refusal_of, spaces_lent}
use Rattle.machine_core.specs.InHand.{parted, without_page}
use Rattle.machine_core.specs.declared.view.View.{View}
use Rattle.machine_core.proofs.Bytes.{some_bytes}
use Rattle.machine_core.proofs.Leaving.{hit_same, hit_stored, parted_same, parted_stored}

-- a load and a store have some bytes, and few
few_counted : (n : ℕ) → is_count n ≡ true → (0 < n) × (n ≤ 8)
few_counted n counts = (grind (arith, nat_tests), grind (arith, nat_tests))

-- An access in one line of a page at the front of its list.

-- a hit is what it is
pub counted_front : (space : ℕ) (m : Memory) (access : Access) (t : BareTranslations) → 0 < access.length → access.address % LINE_BYTES + access.length ≤ LINE_BYTES
    → IsFront space (access.address / PAGE_BYTES) t → with_hits 1 t ≡ counted space m (access ∷ []) t
counted_front space m access t some fits front =
    sym (counted_one space m access t ∙ access_in_page space m access t some (omega (arith, fits)) ∙ translated_front space (access.address / PAGE_BYTES) m t front)

-- a load reads these bytes of the line
module _ (view : View) (address n : ℕ) (line : List ℕ) (fits : address % LINE_BYTES + n ≤ LINE_BYTES) (front : IsFrontLine view.memory.now view.space readable address line) where
  abbrev memory : Memory
  memory = memory_of (spaces_lent view) view.space

  pub may_load : denied_at memory (load_at address n) ≡ None
  may_load = all_allowed memory readable (address / PAGE_BYTES) address n front.may (omega arith) (omega (arith, fits))

  pub bytes_loaded : take n (drop (address % LINE_BYTES) line) ≡ bytes_at memory address n
  bytes_loaded =
      let here : LINE_BYTES * (address / LINE_BYTES) + address % LINE_BYTES ≡ address = omega arith in
      ap (λ l. take n (drop (address % LINE_BYTES) l)) front.bytes ∙ some_bytes memory (LINE_BYTES * (address / LINE_BYTES)) (address % LINE_BYTES) n LINE_BYTES fits
      ∙ ap (λ a. bytes_at memory a n) here

module _ (old new : View) (loan : new.memory.ghost_name ≡ old.memory.ghost_name) (space : new.space ≡ old.space) where
  -- so a load leaves all but one hit more
  pub unchanged_front : (access : Access) → 0 < access.length → access.address % LINE_BYTES + access.length ≤ LINE_BYTES → IsFront old.space (access.address / PAGE_BYTES) (lists_lent old)
      → new.hand ≡ old.hand → new.memory.now.pages ≡ old.memory.now.pages → lists_lent new ≡ with_hits 1 (lists_lent old) → IsUnchanged access old new
  unchanged_front access some fits front hand same hits = (
    record { loan = loan; space = space; hand = hit_same old new space hits hand (ap seen.state_of same) },
    ap seen.state_of same,
    hits ∙ counted_front old.space (memory_of (spaces_lent old) old.space) access (lists_lent old) some fits front,
  )

  -- and a store the bytes
  pub stored_front : (address : ℕ) (bytes : List ℕ) → 0 < length bytes → address % LINE_BYTES + length bytes ≤ LINE_BYTES → IsFront old.space (address / PAGE_BYTES) (lists_lent old)
      → new.hand ≡ without_page (address / PAGE_BYTES) old.hand → Stores old.memory.now.pages new.memory.now.pages old.space address bytes (Ok tt) → Fits (spaces_lent new)
      → lists_lent new ≡ with_hits 1 (lists_lent old) → IsStoredBy old address bytes (Ok tt) new
  stored_front address bytes some fits front hand stores enough hits = (
    record { loan = loan; space = space; hand = hit_stored old new space hits address bytes hand (omega (arith, fits)) stores.1.memory },
    (stores.0, stores.1, enough),
    hits ∙ counted_front old.space (memory_of (spaces_lent old) old.space) (store_at address (length bytes)) (lists_lent old) some fits front,
  )

  -- An access that looks its page up.
  pub unchanged_parted : (address count need : ℕ) → is_count count ≡ true → new.hand ≡ parted address old.hand → new.memory.now.pages ≡ old.memory.now.pages
      → lists_lent new ≡ lists_after old (record { need = need; address = address; length = count })
      → IsUnchanged (record { need = need; address = address; length = count }) old new
  unchanged_parted address count need counts hand same lists = (
    record { loan = loan; space = space; hand = parted_same old new address count need (few_counted count counts).0 (few_counted count counts).1 hand space lists (ap seen.state_of same) },
    ap seen.state_of same,
    lists,
  )

  pub stored_parted : (address : ℕ) (bytes : List ℕ) (answer : Result (Unit {0}) Refused) → is_count (length bytes) ≡ true → new.hand ≡ parted address old.hand
      → Leaves old.space (spaces_lent old) address bytes answer (spaces_lent new) → lists_lent new ≡ lists_after old (store_at address (length bytes))
      → IsStoredBy old address bytes answer new
  stored_parted address bytes answer counts hand leaves lists = (
    record {
      loan = loan;
      space = space;
      hand = parted_stored old new address (length bytes) writable (few_counted (length bytes) counts).0 (few_counted (length bytes) counts).1 hand space lists bytes answer refl leaves;
    },
    leaves,
    lists,
  )

-- why bytes aren't stored, as an instruction sees it
refusals : (old new : TranslatedView) (space address : ℕ) (bytes : List ℕ) (error : MemoryError) → Stores old.pages new.pages space address bytes (Err error)
    → Leaves space (state_of old) address bytes (Err (refusal_of error)) (state_of new)
refusals old new space address bytes (Unmapped at) stores = (stores.0.first, ap seen.state_of stores.1)
refusals old new space address bytes (Forbidden at) stores = (stores.0.first, ap seen.state_of stores.1)
refusals old new space address bytes (Full needed limit) stores =
    (stores.0, stores.1.needed_is, stores.1.limit_is, stores.1.over, ap seen.state_of stores.1.kept)

pub leaves_refused : (old new : TranslatedView) (space address : ℕ) (bytes : List ℕ) (error : MemoryError) (why : Refused) → why ≡ refusal_of error
    → Stores old.pages new.pages space address bytes (Err error) → Leaves space (state_of old) address bytes (Err why) (state_of new)
leaves_refused old new space address bytes error why is stores =
    subst (λ (r : Refused). Leaves space (state_of old) address bytes (Err r) (state_of new)) (sym is) (refusals old new space address bytes error stores)
