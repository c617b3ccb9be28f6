use Rattle.std.proofs.Common.{◌≡◌, ℕ, ◌+◌, ◌<◌, ◌≤◌, List, [], ◌∷◌, ◌++◌, length, take, get_or, map, sym, ap, subst, ◌∙◌, refl, Option, Some, None}
use Rattle.std.proofs.lemmas.List.{take_more, take_all}
use Rattle.std.proofs.lemmas.Option.{get_or_from_slice_get, slice_get-get_or, slice_get-map}
use Rattle.std.specs.Prelude.{slice_get}
use Rattle.std.specs.Option.{option_map}
use Rattle.ovl_io.specs.Outside.{AsksFor}
use Rattle.overlay_top.specs.Outcome.{named}

-- Which files are asked for.

named_append : (xs ys : List (Option (List ℕ))) → named (xs ++ ys) ≡ named xs ++ named ys
named_append [] ys = refl
named_append (None ∷ xs) ys = named_append xs ys
named_append (Some name ∷ xs) ys = ap (λ names. name ∷ names) (named_append xs ys)

fetches_append : {H : Type 0} (fetched : H → List ℕ → H → Type 0) (xs ys : List (List ℕ)) (a b c : H)
    → AsksFor fetched xs a b → AsksFor fetched ys b c → AsksFor fetched (xs ++ ys) a c
fetches_append fetched [] ys a b c first second = subst (λ s. AsksFor fetched ys s c) first second
fetches_append fetched (x ∷ xs) ys a b c first second = (first.0, first.1, fetches_append fetched xs ys first.0 b c first.2 second)

-- what the command at an index asks for, in the names of all
pub asked_at : {C : Type 0} (asks : C → Option (List ℕ)) (all : List C) (index : ℕ) (command : C) → index < length all → command ≡ get_or all index command
    → slice_get (map asks all) index ≡ Some (asks command)
asked_at asks all index command below is =
    slice_get-map asks all index ∙ ap (option_map asks) (slice_get-get_or all index command below) ∙ ap (λ c. Some (asks c)) (sym is)

names_more : (names : List (Option (List ℕ))) (index : ℕ) (name : Option (List ℕ)) → index < length names → slice_get names index ≡ Some name
    → named (take (index + 1) names) ≡ named (take index names) ++ named (name ∷ [])
names_more names index name below is =
    ap named (take_more names index name below)
    ∙ named_append (take index names) (get_or names index name ∷ [])
    ∙ ap (λ n. named (take index names) ++ named (n ∷ [])) (get_or_from_slice_get names index name name is)

-- the next command's name was asked for too
pub fetches_next : {H : Type 0} (fetched : H → List ℕ → H → Type 0) (names : List (Option (List ℕ))) (index : ℕ) (name : Option (List ℕ)) (a b c : H)
    → index < length names → slice_get names index ≡ Some name → AsksFor fetched (named (take index names)) a b
    → AsksFor fetched (named (name ∷ [])) b c → AsksFor fetched (named (take (index + 1) names)) a c
fetches_next fetched names index name a b c below is so_far next =
    subst (λ ns. AsksFor fetched ns a c) (sym (names_more names index name below is))
    (fetches_append fetched (named (take index names)) (named (name ∷ [])) a b c so_far next)

-- all names, whatever number of them is taken beyond the last
pub fetches_all : {H : Type 0} (fetched : H → List ℕ → H → Type 0) (names : List (Option (List ℕ))) (index many : ℕ) (a b : H)
    → length names ≤ index → length names ≤ many → AsksFor fetched (named (take index names)) a b → AsksFor fetched (named (take many names)) a b
fetches_all fetched names index many a b all enough so_far =
    subst (λ ns. AsksFor fetched (named ns) a b) (take_all index names all ∙ sym (take_all many names enough)) so_far
