use Rattle.std.proofs.Common.{◌≡◌, ℕ, ◌+◌, ◌<◌, Bool, true, false, cond, ◌||◌, ◌==◌, List, [], ◌∷◌, ◌++◌, map, sym, ap, ◌∙◌, arith, append-nil}
use Rattle.std.specs.List.{range_with_len, filter, list_any}
use Rattle.std.proofs.lemmas.List.FromFn.{map-range_with_len_more, filter_of_map_range_with_len_more, length-map-range_with_len, get_or-map-range_with_len}
use Rattle.std.proofs.lemmas.List.Folds.{list_any-append, list_any_at}
use Rattle.elf_loader.specs.declared.header.ProgramHeader.{ProgramHeader}

-- One header more of a table: f gives the header at each place.

-- it is one to load
pub loaded : (f : ℕ → ProgramHeader) (j : ℕ) (loads : List ProgramHeader) → (f j).kind == 1 ≡ true
    → loads ≡ filter (λ header. header.kind == 1) (map f (range_with_len 0 j))
    → loads ++ f j ∷ [] ≡ filter (λ header. header.kind == 1) (map f (range_with_len 0 (j + 1)))
loaded f j loads is so_far =
    ap (λ hs. hs ++ f j ∷ []) so_far
    ∙ ap (λ b. filter (λ header. header.kind == 1) (map f (range_with_len 0 j)) ++ cond b (f j ∷ []) []) (sym is)
    ∙ sym (filter_of_map_range_with_len_more (λ header. header.kind == 1) f 0 j j (omega arith))

-- it is passed over
pub passed : (f : ℕ → ProgramHeader) (j : ℕ) (loads : List ProgramHeader) → (f j).kind == 1 ≡ false
    → loads ≡ filter (λ header. header.kind == 1) (map f (range_with_len 0 j))
    → loads ≡ filter (λ header. header.kind == 1) (map f (range_with_len 0 (j + 1)))
passed f j loads is so_far =
    so_far ∙ sym (append-nil _)
    ∙ ap (λ b. filter (λ header. header.kind == 1) (map f (range_with_len 0 j)) ++ cond b (f j ∷ []) []) (sym is)
    ∙ sym (filter_of_map_range_with_len_more (λ header. header.kind == 1) f 0 j j (omega arith))

either : (a b : Bool) → a ≡ false → b ≡ false → (a || (b || false)) ≡ false
either a b h k = cc

-- none so far passes the test, nor does it
pub none_more : (test : ProgramHeader → Bool) (f : ℕ → ProgramHeader) (j : ℕ) → list_any test (map f (range_with_len 0 j)) ≡ false
    → test (f j) ≡ false → list_any test (map f (range_with_len 0 (j + 1))) ≡ false
none_more test f j none it =
    ap (list_any test) (map-range_with_len_more f 0 j j (omega arith))
    ∙ list_any-append test (map f (range_with_len 0 j)) (f j ∷ [])
    ∙ either _ _ none it

-- it passes the test
pub one_is : (test : ProgramHeader → Bool) (f : ℕ → ProgramHeader) (j n : ℕ) → j < n → test (f j) ≡ true
    → list_any test (map f (range_with_len 0 n)) ≡ true
one_is test f j n within it =
    list_any_at test (map f (range_with_len 0 n)) j (f j) (omega (arith, length-map-range_with_len f 0 n))
    (ap test (get_or-map-range_with_len f 0 n j j (f j) within (omega arith)) ∙ it)
