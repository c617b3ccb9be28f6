use Rattle.std.specs.Prelude.{◌≡◌, ℕ, ◌/◌, ◌%◌, Bool, true, false, cond, not, ◌&&◌, ◌||◌, nat_eq, List, [], ◌∷◌, Option, Some, None, is_some, refl}
use Rattle.std.proofs.Common.{subst, sym, ap, ◌∙◌, arith}
use Rattle.std.proofs.lemmas.Bool.{eq-eqb, ne_eqb}
use Rattle.std.proofs.lemmas.Bool.Decides.{nat_tests}
use Rattle.std.specs.FinMap.{get, insert, remove}
use Rattle.number_maps.specs.Keys.{by_key, get_other, get_same, removed_other, removed_same}
use Rattle.overlay_bits.specs.Lines.{IsLeastFrom, has_line, with_line, without_line}
use Rattle.overlay_bits.specs.Laws.{has_with, has_without}
use Rattle.page_set.specs.declared.TheConstants.{CHUNK_PAGES}
use Rattle.page_set.specs.Sets.{AreChunks, Chunks, IsChunk, IsPut, holds, places_in}

-- A page put in or taken out is a change of the bits of its chunk.

same_test : (page q : ℕ) → q / CHUNK_PAGES ≡ page / CHUNK_PAGES → nat_eq page q ≡ nat_eq (page % CHUNK_PAGES) (q % CHUNK_PAGES)
same_test page q same = grind (arith, nat_tests)

module _ (old new : Chunks) (page : ℕ) (on : Bool) (o : Option (List ℕ)) where
  -- whether a place of the chunk is a member's then
  abbrev PutsPlace : Type 0
  PutsPlace = (i : ℕ) → has_line (places_in o) i ≡ cond (nat_eq (page % CHUNK_PAGES) i) on (has_line (places_in (get old (page / CHUNK_PAGES))) i)

  pub put_by : ((j : ℕ) → (j ≡ page / CHUNK_PAGES → ⊥) → get new j ≡ get old j) → get new (page / CHUNK_PAGES) ≡ o → PutsPlace → IsPut old page on new
  put_by others mine puts q = by_key (q / CHUNK_PAGES) (page / CHUNK_PAGES)
      (λ same.
      ap (λ k. has_line (places_in (get new k)) (q % CHUNK_PAGES)) same ∙ ap (λ c. has_line (places_in c) (q % CHUNK_PAGES)) mine ∙ puts (q % CHUNK_PAGES)
      ∙ ap (λ b. cond b on (has_line (places_in (get old (page / CHUNK_PAGES))) (q % CHUNK_PAGES))) (sym (same_test page q same))
      ∙ ap (λ k. cond (nat_eq page q) on (has_line (places_in (get old k)) (q % CHUNK_PAGES))) (sym same))
      (λ other.
      ap (λ c. has_line (places_in c) (q % CHUNK_PAGES)) (others (q / CHUNK_PAGES) other)
      ∙ ap (λ b. cond b on (holds old q)) (sym (ne_eqb page q (λ is. other (ap (λ n. n / CHUNK_PAGES) (sym is))))))

or_is : (b x : Bool) → (b || x) ≡ cond b true x
or_is true x = refl
or_is false x = refl

and_is : (b x : Bool) → (x && not b) ≡ cond b false x
and_is true true = refl
and_is true false = refl
and_is false true = refl
and_is false false = refl

none_is : (b : Bool) → ◌≡◌ {A = Bool} false (cond b false false)
none_is true = refl
none_is false = refl

-- the bits with a place, and without it
pub put_with : (old new : Chunks) (page : ℕ) (places : List ℕ) → places_in (get old (page / CHUNK_PAGES)) ≡ places
    → new ≡ insert old (page / CHUNK_PAGES) (with_line places (page % CHUNK_PAGES)) → IsPut old page true new
put_with old new page places had is =
    let k = page / CHUNK_PAGES in
    let bits = with_line places (page % CHUNK_PAGES) in
    put_by old new page true (Some bits) (λ j other. ap (λ (m : Chunks). get m j) is ∙ get_other old k j bits other)
    (ap (λ (m : Chunks). get m k) is ∙ get_same old k k bits refl)
    (λ i. has_with places (page % CHUNK_PAGES) i ∙ or_is (nat_eq (page % CHUNK_PAGES) i) (has_line places i)
    ∙ ap (λ l. cond (nat_eq (page % CHUNK_PAGES) i) true (has_line l i)) (sym had))

puts_without : (old : Chunks) (page : ℕ) (places : List ℕ) → places_in (get old (page / CHUNK_PAGES)) ≡ places → (i : ℕ)
    → has_line (without_line places (page % CHUNK_PAGES)) i ≡ cond (nat_eq (page % CHUNK_PAGES) i) false (has_line (places_in (get old (page / CHUNK_PAGES))) i)
puts_without old page places had i =
    has_without places (page % CHUNK_PAGES) i ∙ and_is (nat_eq (page % CHUNK_PAGES) i) (has_line places i)
    ∙ ap (λ l. cond (nat_eq (page % CHUNK_PAGES) i) false (has_line l i)) (sym had)

pub put_without : (old new : Chunks) (page : ℕ) (places : List ℕ) → places_in (get old (page / CHUNK_PAGES)) ≡ places
    → new ≡ insert old (page / CHUNK_PAGES) (without_line places (page % CHUNK_PAGES)) → IsPut old page false new
put_without old new page places had is =
    let k = page / CHUNK_PAGES in
    let bits = without_line places (page % CHUNK_PAGES) in
    put_by old new page false (Some bits) (λ j other. ap (λ (m : Chunks). get m j) is ∙ get_other old k j bits other)
    (ap (λ (m : Chunks). get m k) is ∙ get_same old k k bits refl) (puts_without old page places had)

-- a chunk whose last member goes
pub put_last : (old new : Chunks) (page : ℕ) (places : List ℕ) → places_in (get old (page / CHUNK_PAGES)) ≡ places
    → without_line places (page % CHUNK_PAGES) ≡ [] → new ≡ remove old (page / CHUNK_PAGES) → IsPut old page false new
put_last old new page places had none is =
    let k = page / CHUNK_PAGES in
    put_by old new page false None (λ j other. ap (λ (m : Chunks). get m j) is ∙ removed_other old k j other)
    (ap (λ (m : Chunks). get m k) is ∙ removed_same old k k refl)
    (λ i. ap (λ l. has_line l i) (sym none) ∙ puts_without old page places had i)

-- one that has none
pub put_nowhere : (old : Chunks) (page : ℕ) → get old (page / CHUNK_PAGES) ≡ None → IsPut old page false old
put_nowhere old page none =
    put_by old old page false None (λ j other. refl) none
    (λ i. none_is (nat_eq (page % CHUNK_PAGES) i) ∙ ap (λ o. cond (nat_eq (page % CHUNK_PAGES) i) false (has_line (places_in o) i)) (sym none))

-- What is true of each chunk stays so.

pub are_put : (old new : Chunks) (k : ℕ) (places : List ℕ) → AreChunks old → new ≡ insert old k places → IsChunk k places → AreChunks new
are_put old new k places are is own j those there = by_key j k
    (λ same.
    let mine : those ≡ places = ap places_in (sym there ∙ ap (λ (m : Chunks). get m j) is ∙ get_same old k j places same) in
    subst (λ n. IsChunk n those) (sym same) (subst (λ l. IsChunk k l) (sym mine) own))
    (λ other. are j those (sym (ap (λ (m : Chunks). get m j) is ∙ get_other old k j places other) ∙ there))

pub are_gone : (old new : Chunks) (k : ℕ) → AreChunks old → new ≡ remove old k → AreChunks new
are_gone old new k are is j those there = by_key j k
    (λ same. let no = ap is_some (sym there ∙ ap (λ (m : Chunks). get m j) is ∙ removed_same old k j same) in cc)
    (λ other. are j those (sym (ap (λ (m : Chunks). get m j) is ∙ removed_other old k j other) ∙ there))

-- a chunk has a least member
pub some_least : (chunks : Chunks) (k : ℕ) (places : List ℕ) → AreChunks chunks → get chunks k ≡ Some places → IsLeastFrom places 0 None → ⊥
some_least chunks k [] are there none = absurd (omega (arith, (are k [] there).some))
some_least chunks k (i ∷ is) are there none =
    let has : has_line (i ∷ is) i ≡ true = ap (λ (b : Bool). b || has_line is i) (eq-eqb i i refl) in
    let no = sym has ∙ none i (omega arith) in cc
