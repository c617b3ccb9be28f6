use Rattle.std.specs.Prelude.{◌≡◌, ℕ, ◌<◌, ◌≤◌, suc, Bool, true, false, cond, ◌||◌, ◌&&◌, List, [], ◌∷◌, map, get_or, refl, Option, Some, T}
use Rattle.std.proofs.Common.{sym, ap, subst, ◌∙◌, arith}
use Rattle.std.specs.Option.{option_map_or}
use Rattle.std.specs.List.{filter}
use Rattle.std.specs.Ordering.{nat_cmp, is_lt, MatchOrdering}
use Rattle.std.specs.declared.cmp.Ordering.{Ordering}
use Rattle.std.specs.declared.cmp.Ordering.TheVariants.{Less, Equal, Greater}
use Rattle.std.specs.Cmp.{ranks}
use Rattle.std.specs.FinMap.{find, entries, get-entries, entries_sorted}
use Rattle.std.specs.FinMap.Entries.{is_sorted}
use Rattle.ovl_io.specs.Keys.{by_key, ties, differs}
use Rattle.machine_core.specs.Process.{Process, runs}
use Rattle.machine_core.specs.Machine.{Processes, Wholes, is_running, running_numbers}
use Rattle.ascending_numbers.specs.Numbers.{is_in}
use Rattle.ascending_numbers.specs.Rising.{Rises, lower, none_below, other_is, same_is}

-- The numbers of entries that pass a test.

less : (x y : ℕ) (r : Ordering) → nat_cmp x y ≡ r → T (is_lt r) → x < y
less x y Less e h = subst (λ r. MatchOrdering r (x < y) (x ≡ y) (y < x)) e (ranks x y)
less x y Equal e h = absurd h
less x y Greater e h = absurd h

first : (a b : Bool) → T (a && b) → T a
first true b h = tt
first false b h = h

second : (a b : Bool) → T (a && b) → T b
second true b h = h
second false b h = absurd h

rises_sorted : {X : Type 0} (k : ℕ) (es : List (ℕ × X)) → T (is_sorted nat_cmp es) → k ≤ get_or (map (λ e. e.0) es) 0 k → Rises k (map (λ e. e.0) es)
rises_sorted k [] h low = tt
rises_sorted k (e ∷ []) h low = (low, tt)
rises_sorted k (e ∷ f ∷ es) h low =
    (low, rises_sorted (suc e.0) (f ∷ es) (second _ _ h) (less e.0 f.0 (nat_cmp e.0 f.0) refl (first _ _ (first _ _ h))))

pub rises_passing : {X : Type 0} (test : ℕ × X → Bool) (k : ℕ) (es : List (ℕ × X)) → Rises k (map (λ e. e.0) es) → Rises k (map (λ e. e.0) (filter test es))
rises_passing test k [] h = tt
rises_passing {X = X} test k (e ∷ es) h = by_test (test e) (rises_passing test (suc e.0) es h.1)
  where
    by_test : (b : Bool) → Rises (suc e.0) (map (λ e. e.0) (filter test es)) → Rises k (map (λ e. e.0) (cond b (e ∷ filter test es) (filter test es)))
    by_test true rest = (h.0, rest)
    by_test false rest = lower k (suc e.0) _ (omega (arith, h.0)) rest

pub in_passing : {X : Type 0} (test : ℕ × X → Bool) (k : ℕ) (es : List (ℕ × X)) (q : ℕ) → Rises k (map (λ e. e.0) es)
    → is_in (map (λ e. e.0) (filter test es)) q ≡ option_map_or (λ x. test (q, x)) (find nat_cmp q es) false
in_passing test k [] q h = refl
in_passing {X = X} test k (e ∷ es) q h = by_key q e.0
    (λ same. here (test e) refl same ∙ sym (ap (λ b. option_map_or (λ x. test (q, x)) (cond b (Some e.1) (find nat_cmp q es)) false) (ties q e.0 same)))
    (λ other. there (test e) other ∙ in_passing test (suc e.0) es q h.1
    ∙ sym (ap (λ b. option_map_or (λ x. test (q, x)) (cond b (Some e.1) (find nat_cmp q es)) false) (differs q e.0 other)))
  where
    here : (b : Bool) → test e ≡ b → q ≡ e.0 → is_in (map (λ e. e.0) (cond b (e ∷ filter test es) (filter test es))) q ≡ test (q, e.1)
    here true is same = ap (λ b. b || is_in (map (λ e. e.0) (filter test es)) q) (same_is e.0 q (sym same)) ∙ sym is ∙ ap (λ n. test (n, e.1)) (sym same)
    here false is same = none_below (suc e.0) _ q (rises_passing test (suc e.0) es h.1) (omega (arith, same)) ∙ sym is ∙ ap (λ n. test (n, e.1)) (sym same)

    there : (b : Bool) → (q ≡ e.0 → ⊥) → is_in (map (λ e. e.0) (cond b (e ∷ filter test es) (filter test es))) q ≡ is_in (map (λ e. e.0) (filter test es)) q
    there true other = ap (λ b. b || is_in (map (λ e. e.0) (filter test es)) q) (other_is e.0 q (λ same. other (sym same)))
    there false other = refl

pub entries_rise : (processes : Processes) → Rises 0 (map (λ e. e.0) (entries processes))
entries_rise processes = rises_sorted 0 (entries processes) (entries_sorted processes) (omega arith)

pub numbers_rise : (all : Wholes) → Rises 0 (running_numbers all)
numbers_rise all = rises_passing (λ e. runs e.1.state) 0 (entries all.processes) (entries_rise all.processes)

pub numbers_are : (all : Wholes) (q : ℕ) → is_in (running_numbers all) q ≡ is_running all q
numbers_are all q =
    in_passing (λ e. runs e.1.state) 0 (entries all.processes) q (entries_rise all.processes)
    ∙ ap (λ (o : Option Process). option_map_or (λ (process : Process). runs process.state) o false) (sym (get-entries all.processes q))
