use Rattle.std.proofs.Common.{◌≡◌, ℕ, ◌<◌, ◌≤◌, ◌==◌, ◌||◌, Bool, true, false, cond, List, [], ◌∷◌, min, nat_lt, sym, ap, subst, refl, arith, Option, Some, None, ◌⊎◌, inl, inr, eqb-true}
use Rattle.std.specs.List.{All, filter, list_any}
use Rattle.std.specs.Option.{option_or}
use Rattle.std.proofs.lemmas.Bool.{and_parts}
use Rattle.std.proofs.lemmas.Bool.Decides.{nat_tests}
use Rattle.std.proofs.lemmas.List.Elements.{All-head, All-tail}
use Rattle.round_robin.specs.Turns.{Last, Turns, goes_on, least, least_above, lesser, next_after, next_number}

-- The number whose turn is next is one of those that are running: what holds of all of them holds of it.

IsIn : ℕ → List ℕ → Type 0
IsIn p [] = ⊥
IsIn p (n ∷ ns) = (p ≡ n) ⊎ IsIn p ns

some_is : (n p : ℕ) → Some n ≡ Some p → p ≡ n
some_is n p is = cc

is_less : (n m : ℕ) → nat_lt n m ≡ true → n < m
is_less n m less = grind (arith, nat_tests)

not_less : (n m : ℕ) → nat_lt n m ≡ false → m ≤ n
not_less n m more = grind (arith, nat_tests)

first_least : (n p : ℕ) (ns : List ℕ) (m : Option ℕ) → ((q : ℕ) → m ≡ Some q → IsIn q ns) → Some (lesser n m) ≡ Some p → IsIn p (n ∷ ns)
unfolding IsIn
first_least n p ns None rest is = inl (some_is n p is)
first_least n p ns (Some m) rest is = by_order (nat_lt n m) refl
  where
    by_order : (b : Bool) → nat_lt n m ≡ b → (p ≡ n) ⊎ IsIn p ns
    by_order true less = inl (omega (arith, some_is (min n m) p is, is_less n m less))
    by_order false more = inr (rest p (ap Some (omega (arith, some_is (min n m) p is, not_less n m more))))

least_in : (ns : List ℕ) (p : ℕ) → least ns ≡ Some p → IsIn p ns
unfolding IsIn
least_in [] p is = cc
least_in (n ∷ ns) p is = first_least n p ns (least ns) (λ q h. least_in ns q h) is

kept_in : (b : Bool) (n p : ℕ) (ns kept : List ℕ) → (IsIn p kept → IsIn p ns) → IsIn p (cond b (n ∷ kept) kept) → IsIn p (n ∷ ns)
unfolding IsIn
kept_in true n p ns kept rest (inl is) = inl is
kept_in true n p ns kept rest (inr more) = inr (rest more)
kept_in false n p ns kept rest more = inr (rest more)

filter_in : (f : ℕ → Bool) (ns : List ℕ) (p : ℕ) → IsIn p (filter f ns) → IsIn p ns
unfolding IsIn
filter_in f [] p is = is
filter_in f (n ∷ ns) p is = kept_in (f n) n p ns (filter f ns) (filter_in f ns p) is

here_or : (b : Bool) (n p : ℕ) (ns : List ℕ) → (n == p) ≡ b → (b || list_any (λ m. m == p) ns) ≡ true → (list_any (λ m. m == p) ns ≡ true → IsIn p ns)
    → IsIn p (n ∷ ns)
unfolding IsIn
here_or true n p ns here is rest = inl (sym (eqb-true n p here))
here_or false n p ns here is rest = inr (rest is)

any_in : (ns : List ℕ) (p : ℕ) → list_any (λ n. n == p) ns ≡ true → IsIn p ns
unfolding IsIn
any_in [] p is = cc
any_in (n ∷ ns) p is = here_or (n == p) n p ns refl is (any_in ns p)

either_in : (a b : Option ℕ) (ns : List ℕ) (p : ℕ) → ((q : ℕ) → a ≡ Some q → IsIn q ns) → ((q : ℕ) → b ≡ Some q → IsIn q ns) → option_or a b ≡ Some p → IsIn p ns
either_in None b ns p in_a in_b is = in_b p is
either_in (Some a) b ns p in_a in_b is = in_a p is

still_in : (quantum : ℕ) (last : Last) (running : List ℕ) → goes_on quantum last running ≡ true → list_any (λ n. n == last.number) running ≡ true
still_in quantum last running goes = (and_parts (nat_lt last.had quantum) (list_any (λ n. n == last.number) running) goes).1

next_in : (quantum : ℕ) (last : Option Last) (running : List ℕ) (p : ℕ) → next_after quantum last running ≡ Some p → IsIn p running
next_in quantum None running p is = least_in running p is
next_in quantum (Some last) running p is = by_test (goes_on quantum last running) refl is
  where
    by_test : (b : Bool) → goes_on quantum last running ≡ b
        → cond b (Some last.number) (option_or (least_above last.number running) (least running)) ≡ Some p → IsIn p running
    by_test true goes same = subst (λ q. IsIn q running) (sym (some_is last.number p same)) (any_in running last.number (still_in quantum last running goes))
    by_test false rests other =
        either_in (least_above last.number running) (least running) running p
        (λ q h. filter_in (λ n. nat_lt last.number n) running q (least_in (filter (λ n. nat_lt last.number n) running) q h))
        (λ q h. least_in running q h) other

all_in : (P : ℕ → Type 0) (ns : List ℕ) (p : ℕ) → All P ns → IsIn p ns → P p
unfolding IsIn
all_in P [] p all is = absurd is
all_in P (n ∷ ns) p all (inl same) = subst P (sym same) (All-head P n ns all)
all_in P (n ∷ ns) p all (inr more) = all_in P ns p (All-tail P n ns all) more

pub next_has : (P : ℕ → Type 0) (turns : Turns) (running : List ℕ) (p : ℕ) → All P running → next_number turns running ≡ Some p → P p
next_has P turns running p all next = all_in P running p all (next_in turns.quantum turns.last running p next)
