use Rattle.std.specs.Prelude.{◌≡◌, ℕ, zero, suc, ◌+◌, ◌*◌, ◌/◌, ◌%◌, ◌<◌, ◌≤◌, ◌⊎◌, Bool, true, false, cond, ◌||◌, nat_lt, List, [], ◌∷◌, Option, Some, None, is_some, IsSome, refl}
use Rattle.std.proofs.Common.{inl, inr, sym, ap, ◌∙◌, arith}
use Rattle.std.proofs.lemmas.Bool.{eq-eqb}
use Rattle.std.proofs.lemmas.Bool.Decides.{nat_tests}
use Rattle.std.specs.Ordering.{nat_cmp}
use Rattle.std.specs.Cmp.{nat_cmp_total}
use Rattle.std.specs.FinMap.{FinMap, empty, get, get-empty, insert, len, len-empty, len-insert, remove}
use Rattle.number_maps.specs.Cuts.{by_entries, insert_removed}
use Rattle.number_maps.specs.Values.{remove_absent}
use Rattle.number_maps.specs.Keys.{by_key, get_other, get_same, insert_kept, removed_other, removed_same}
use Rattle.overlay_bits.specs.Lines.{has_line}
use Rattle.page_set.specs.declared.TheConstants.{CHUNK_PAGES}
use Rattle.page_set.specs.Sets.{AreChunks, Chunks, CanInsert, IsChunk, IsChunkOf, LieInFew, Members, chunks_in, holds, places_in}

-- Laws of sets of pages, for the crates above.

-- The empty set.

pub holds_none : (chunks : Chunks) → chunks ≡ empty → (q : ℕ) → holds chunks q ≡ false
holds_none chunks none q =
    ap (λ (m : Chunks). holds m q) none ∙ ap (λ o. has_line (places_in o) (q % CHUNK_PAGES)) (get-empty {X = List ℕ} nat_cmp (q / CHUNK_PAGES))

pub are_none : (chunks : Chunks) → chunks ≡ empty → AreChunks chunks
are_none chunks none k places is =
    let no = ap is_some (sym is ∙ ap (λ (m : Chunks). get m k) none ∙ get-empty {X = List ℕ} nat_cmp k) in cc

-- A member by its place in its chunk.

pub holds_at : (chunks : Chunks) (k i : ℕ) → i < CHUNK_PAGES → holds chunks (CHUNK_PAGES * k + i) ≡ has_line (places_in (get chunks k)) i
holds_at chunks k i low =
    let same : (CHUNK_PAGES * k + i) / CHUNK_PAGES ≡ k = omega (arith, low) in
    let place : (CHUNK_PAGES * k + i) % CHUNK_PAGES ≡ i = omega (arith, low) in
    ap (λ n. has_line (places_in (get chunks n)) ((CHUNK_PAGES * k + i) % CHUNK_PAGES)) same ∙ ap (has_line (places_in (get chunks k))) place

-- There are at most as many chunks as pages.

len_without : {X : Type 0} (m : FinMap nat_cmp X) (k : ℕ) → IsSome (get m k) → len m ≡ len (remove m k) + 1
len_without {X = X} m k = by (get m k) refl
  where
    by : (o : Option X) → get m k ≡ o → IsSome o → len m ≡ len (remove m k) + 1
    by None is some = cc
    by (Some x) is some =
        ap len (sym (insert_removed m k x ∙ insert_kept m k x is))
        ∙ len-insert nat_cmp_total (remove m k) k x
        ∙ ap (λ (o : Option X). cond (is_some o) (len (remove m k)) (len (remove m k) + 1)) (removed_same m k k refl)

fewer : {X Y : Type 0} (m : FinMap nat_cmp X) (pages : FinMap nat_cmp Y) → ((k : ℕ) → IsSome (get m k) → IsChunkOf pages k) → len m ≤ len pages
fewer {X = X} {Y = Y} = by_entries (λ m. (pages : FinMap nat_cmp Y) → ((k : ℕ) → IsSome (get m k) → IsChunkOf pages k) → len m ≤ len pages) none more
  where
    none : (pages : FinMap nat_cmp Y) → ((k : ℕ) → IsSome (get (empty {X = X} {R = nat_cmp}) k) → IsChunkOf pages k)
        → len (empty {X = X} {R = nat_cmp}) ≤ len pages
    none pages each = let is = len-empty nat_cmp X in omega (arith, is)

    more : (m : FinMap nat_cmp X) (k : ℕ) (x : X) → get m k ≡ None
        → ((pages : FinMap nat_cmp Y) → ((j : ℕ) → IsSome (get m j) → IsChunkOf pages j) → len m ≤ len pages)
        → (pages : FinMap nat_cmp Y) → ((j : ℕ) → IsSome (get (insert m k x) j) → IsChunkOf pages j) → len (insert m k x) ≤ len pages
    more m k x absent rest pages each =
        let mine = each k (ap is_some (get_same m k k x refl)) in
        let longer = len-insert nat_cmp_total m k x ∙ ap (λ (o : Option X). cond (is_some o) (len m) (len m + 1)) absent in
        let shorter = len_without pages mine.page mine.there in
        let others = rest (remove pages mine.page) (λ j there. by_key j k
        (λ same. let no = sym there ∙ ap (λ i. is_some (get m i)) same ∙ ap is_some absent in cc)
        (λ other.
        let from = each j (ap is_some (get_other m k j x other) ∙ there) in record {
          page = from.page;
          there = ap is_some (removed_other pages mine.page from.page (λ same. other (sym from.is ∙ ap (λ q. q / CHUNK_PAGES) same ∙ mine.is))) ∙ from.there;
          is = from.is;
        })) in
        omega (arith, longer, shorter, others)

pub few_counted : {X : Type 0} (pages : FinMap nat_cmp X) (most : ℕ) → len pages ≤ most → LieInFew pages most
few_counted pages most le chunks each = let few = fewer chunks pages each in omega (arith, few, le)

-- Pages that lie in few chunks: fewer pages, and more of them.

pub few_within : {X Y : Type 0} (old : FinMap nat_cmp X) (new : FinMap nat_cmp Y) (most more : ℕ) → ((q : ℕ) → IsSome (get new q) → IsSome (get old q))
    → most ≤ more → LieInFew old most → LieInFew new more
few_within old new most more inside le few chunks each =
    let own = few chunks (λ k there. let from = each k there in record { page = from.page; there = inside from.page from.there; is = from.is }) in
    omega (arith, own, le)

-- the chunks but for the n ones from one on
others : Chunks → ℕ → ℕ → Chunks
others chunks from zero = chunks
others chunks from (suc n) = remove (others chunks from n) (from + n)

others_few : (chunks : Chunks) (from n : ℕ) → len chunks ≤ n + len (others chunks from n)
unfolding others
others_few chunks from zero = let same : len (others chunks from 0) ≡ len chunks = refl in omega (arith, same)
others_few chunks from (suc n) =
    let rest = others_few chunks from n in
    let one = by (get (others chunks from n) (from + n)) refl in
    omega (arith, rest, one)
  where
    by : (o : Option (List ℕ)) → get (others chunks from n) (from + n) ≡ o → len (others chunks from n) ≤ 1 + len (remove (others chunks from n) (from + n))
    by None is = let same = ap len (remove_absent (others chunks from n) (from + n) is) in omega (arith, same)
    by (Some places) is = let less = len_without (others chunks from n) (from + n) (ap is_some is) in omega (arith, less)

record IsOther (chunks : Chunks) (from n k : ℕ) : Type 0 where
  there : IsSome (get chunks k)
  beside : (k < from) ⊎ (from + n ≤ k)

other_of : (chunks : Chunks) (from n k : ℕ) → IsSome (get (others chunks from n) k) → IsOther chunks from n k
unfolding others
other_of chunks from zero k there = record { there = there; beside = by (nat_lt k from) refl }
  where
    by : (b : Bool) → nat_lt k from ≡ b → (k < from) ⊎ (from + 0 ≤ k)
    by true is = inl (grind (arith, nat_tests))
    by false is = inr (grind (arith, nat_tests))
other_of chunks from (suc n) k there =
    by_key k (from + n)
    (λ same. let no = sym there ∙ ap is_some (removed_same (others chunks from n) (from + n) k same) in cc)
    (λ other.
    let rest = other_of chunks from n k (sym (ap is_some (removed_other (others chunks from n) (from + n) k other)) ∙ there) in
    record { there = rest.there; beside = farther rest.beside other })
  where
    farther : (k < from) ⊎ (from + n ≤ k) → (k ≡ from + n → ⊥) → (k < from) ⊎ (from + suc n ≤ k)
    farther (inl below) other = inl below
    farther (inr above) other = inr (omega (arith, above, other))

-- the pages of a run beside those that there were
pub few_more : {X Y : Type 0} (old : FinMap nat_cmp X) (new : FinMap nat_cmp Y) (from n most : ℕ)
    → ((q : ℕ) → IsSome (get new q) → IsSome (get old q) ⊎ ((from ≤ q) × (q < from + n)))
    → LieInFew old most → LieInFew new (most + chunks_in from n)
few_more old new from n most inside few chunks each =
    let own = few (others chunks (from / CHUNK_PAGES) (chunks_in from n)) led in
    let rest = others_few chunks (from / CHUNK_PAGES) (chunks_in from n) in
    omega (arith, own, rest)
  where
    led : (k : ℕ) → IsSome (get (others chunks (from / CHUNK_PAGES) (chunks_in from n)) k) → IsChunkOf old k
    led k there = by (inside mine.page mine.there)
      where
        other : IsOther chunks (from / CHUNK_PAGES) (chunks_in from n) k
        other = other_of chunks (from / CHUNK_PAGES) (chunks_in from n) k there

        mine : IsChunkOf new k
        mine = each k other.there

        beyond : (from ≤ mine.page) × (mine.page < from + n) → (k < from / CHUNK_PAGES) ⊎ (from / CHUNK_PAGES + chunks_in from n ≤ k) → ⊥
        beyond within (inl below) = omega (arith, within.0, mine.is, below)
        beyond within (inr above) = omega (arith, within.1, mine.is, above)

        by : IsSome (get old mine.page) ⊎ ((from ≤ mine.page) × (mine.page < from + n)) → IsChunkOf old k
        by (inl had) = record { page = mine.page; there = had; is = mine.is }
        by (inr within) = absurd (beyond within other.beside)

-- a chunk has a member
member_in : (chunks : Chunks) (k : ℕ) (places : List ℕ) → get chunks k ≡ Some places → IsChunk k places
    → (q : ℕ) × (holds chunks q ≡ true) × (q / CHUNK_PAGES ≡ k)
member_in chunks k [] is chunk = absurd (omega (arith, chunk.some))
member_in chunks k (i ∷ is) there chunk =
    let has : has_line (i ∷ is) i ≡ true = ap (λ (b : Bool). b || has_line is i) (eq-eqb i i refl) in
    let low = chunk.are.inside i has in (
      CHUNK_PAGES * k + i,
      holds_at chunks k i low ∙ ap (λ o. has_line (places_in o) i) there ∙ has,
      omega (arith, low),
    )

-- there is room for a page among those of a map that has all members, where there is room for as many chunks as its pages lie in
pub room_for : {X : Type 0} (set : Members) (pages : FinMap nat_cmp X) (page : ℕ) → AreChunks set.chunks
    → ((q : ℕ) → holds set.chunks q ≡ true → IsSome (get pages q)) → IsSome (get pages page) → LieInFew pages set.room → CanInsert set page
room_for {X = X} set pages page are inside there few = by (get set.chunks k) refl
  where
    k : ℕ
    k = page / CHUNK_PAGES

    by : (o : Option (List ℕ)) → get set.chunks k ≡ o → CanInsert set page
    by (Some places) is = inl (ap is_some is)
    by None is =
        let longer = len-insert nat_cmp_total set.chunks k [] ∙ ap (λ (o : Option (List ℕ)). cond (is_some o) (len set.chunks) (len set.chunks + 1)) is in
        let own = few (insert set.chunks k []) (λ j some. by_key j k
        (λ same. record { page = page; there = there; is = sym same })
        (λ other. from j (get set.chunks j) refl (sym (ap is_some (get_other set.chunks k j [] other)) ∙ some))) in
        inr (omega (arith, longer, own))
      where
        from : (j : ℕ) (o : Option (List ℕ)) → get set.chunks j ≡ o → IsSome (get set.chunks j) → IsChunkOf pages j
        from j None is some = let no = sym some ∙ ap is_some is in cc
        from j (Some places) is some =
            let member = member_in set.chunks j places is (are j places is) in record { page = member.0; there = inside member.0 member.1; is = member.2 }
