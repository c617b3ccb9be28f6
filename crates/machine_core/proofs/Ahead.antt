use Rattle.std.proofs.Common.{◌≡◌, ℕ, zero, suc, ◌+◌, ◌-◌, ◌<◌, Bool, true, false, cond, List, [], ◌∷◌, Option, Some, None, is_some, sym, ap, subst, ◌∙◌, refl, arith}
use Rattle.std.specs.FinMap.{get}
use Rattle.ovl_io.specs.Memory.{Access, Memory, denied_at}
use Rattle.ovl_io.specs.PageBytes.{page_allows}
use Rattle.rv_execute.specs.Calls.{Call, access_of}
use Rattle.translation_cache.specs.Bare.{BareTranslations}
use Rattle.translation_cache.specs.Counted.{access_translated, counted, pages_under, translated, translated_pages}
use Rattle.translation_cache.specs.CountedLaws.{IsFront, front_hits, more_hits}
use Rattle.translation_cache.specs.Finding.{found_hits}
use Rattle.translation_cache.specs.Translations.{entered, found, looked, looked_by, with_hits, with_misses}
use Rattle.breakpoints.specs.Breakpoints.{Addresses}
use Rattle.machine_core.specs.Ahead.{ahead, guest_ahead}
use Rattle.machine_core.specs.Executions.{AreLikeExecutions, after_steps, executions}
use Rattle.machine_core.specs.Turns.{Guest}
use Rattle.machine_core.specs.Tried.{each_counted}
use Rattle.machine_core.proofs.Stepping.{from_first}

-- A hit more before accesses is one behind them.

module _ (s : ℕ) (m : Memory) where
  hits_looked : (q : ℕ) (t : BareTranslations) → looked s q (with_hits 1 t) ≡ with_hits 1 (looked s q t)
  unfolding looked with_hits with_misses
  hits_looked q t = ap (looked_by s q (with_hits 1 t)) (found_hits s q 1 t) ∙ by_found (found s q t)
    where
      by_found : (o : Option (Unit {0})) → looked_by s q (with_hits 1 t) o ≡ with_hits 1 (looked_by s q t o)
      by_found None = refl
      by_found (Some held) = refl

  hits_entered : (q : ℕ) (t : BareTranslations) → entered s q tt (with_hits 1 t) ≡ with_hits 1 (entered s q tt t)
  unfolding entered with_hits
  hits_entered q t = refl

  hits_translated : (q : ℕ) (t : BareTranslations) → translated s m q (with_hits 1 t) ≡ with_hits 1 (translated s m q t)
  unfolding translated
  hits_translated q t =
      ap (λ (o : Option (Unit {0})). cond (is_some o) (looked s q (with_hits 1 t))
      (cond (is_some (get m q)) (entered s q tt (looked s q (with_hits 1 t))) (looked s q (with_hits 1 t)))) (found_hits s q 1 t)
      ∙ by_tests (is_some (found s q t)) (is_some (get m q))
    where
      by_tests : (b c : Bool)
          → cond b (looked s q (with_hits 1 t)) (cond c (entered s q tt (looked s q (with_hits 1 t))) (looked s q (with_hits 1 t)))
          ≡ with_hits 1 (cond b (looked s q t) (cond c (entered s q tt (looked s q t)) (looked s q t)))
      by_tests true c = hits_looked q t
      by_tests false true = ap (entered s q tt) (hits_looked q t) ∙ hits_entered q (looked s q t)
      by_tests false false = hits_looked q t

  hits_pages : (need : ℕ) (pages : List ℕ) (t : BareTranslations) → translated_pages s m need pages (with_hits 1 t) ≡ with_hits 1 (translated_pages s m need pages t)
  unfolding translated_pages
  hits_pages need [] t = refl
  hits_pages need (q ∷ pages) t = by_test (hits_pages need pages (translated s m q t)) (page_allows m need q)
    where
      by_test : translated_pages s m need pages (with_hits 1 (translated s m q t)) ≡ with_hits 1 (translated_pages s m need pages (translated s m q t))
          → (b : Bool) → cond b (translated_pages s m need pages (translated s m q (with_hits 1 t))) (translated s m q (with_hits 1 t))
          ≡ with_hits 1 (cond b (translated_pages s m need pages (translated s m q t)) (translated s m q t))
      by_test rest true = ap (translated_pages s m need pages) (hits_translated q t) ∙ rest
      by_test rest false = hits_translated q t

  hits_access : (access : Access) (t : BareTranslations) → access_translated s m access (with_hits 1 t) ≡ with_hits 1 (access_translated s m access t)
  unfolding access_translated
  hits_access access t = hits_pages access.need (pages_under access.address access.length) t

  hits_counted : (accesses : List Access) (t : BareTranslations) → counted s m accesses (with_hits 1 t) ≡ with_hits 1 (counted s m accesses t)
  unfolding counted
  hits_counted [] t = refl
  hits_counted (access ∷ accesses) t = by_test (hits_counted accesses (access_translated s m access t)) (is_some (denied_at m access))
    where
      by_test : counted s m accesses (with_hits 1 (access_translated s m access t)) ≡ with_hits 1 (counted s m accesses (access_translated s m access t))
          → (b : Bool) → cond b (access_translated s m access (with_hits 1 t)) (counted s m accesses (access_translated s m access (with_hits 1 t)))
          ≡ with_hits 1 (cond b (access_translated s m access t) (counted s m accesses (access_translated s m access t)))
      by_test rest true = hits_access access t
      by_test rest false = ap (counted s m accesses) (hits_access access t) ∙ rest

  hits_each : (calls : List Call) (t : BareTranslations) → each_counted s m calls (with_hits 1 t) ≡ with_hits 1 (each_counted s m calls t)
  unfolding each_counted
  hits_each [] t = refl
  hits_each (c ∷ calls) t =
      ap (each_counted s m calls) (hits_counted (access_of c ∷ []) t) ∙ hits_each calls (counted s m (access_of c ∷ []) t)

  -- so many more
  pub ahead_each : (n : ℕ) (calls : List Call) (t : BareTranslations) → each_counted s m calls (ahead n t) ≡ ahead n (each_counted s m calls t)
  unfolding ahead
  ahead_each zero calls t = refl
  ahead_each (suc n) calls t = hits_each calls (ahead n t) ∙ ap (with_hits 1) (ahead_each n calls t)

pub ahead_more : (n k : ℕ) (t : BareTranslations) → n ≡ k + 1 → ahead n t ≡ with_hits 1 (ahead k t)
unfolding ahead
ahead_more n k t is = let next : n ≡ suc k = omega (arith, is) in ap (λ i. ahead i t) next

pub ahead_none : (t : BareTranslations) → ahead 0 t ≡ t
unfolding ahead
ahead_none t = refl

pub front_ahead : (space page n : ℕ) (t : BareTranslations) → IsFront space page t → IsFront space page (ahead n t)
unfolding ahead
front_ahead space page zero t front = front
front_ahead space page (suc n) t front = front_hits space page 1 (ahead n t) (front_ahead space page n t front)

-- all at once
pub ahead_paid : (n : ℕ) (t : BareTranslations) → 0 < n → with_hits n t ≡ ahead n t
unfolding ahead
ahead_paid zero t some = absurd (omega (arith, some))
ahead_paid (suc zero) t some = refl
ahead_paid (suc (suc n)) t some =
    let next : suc n + 1 ≡ suc (suc n) = omega arith in
    sym (more_hits (suc n) 1 t ∙ ap (λ k. with_hits k t) next) ∙ ap (with_hits 1) (ahead_paid (suc n) t (omega arith))

-- executions begin with nothing that is owed
pub begun : (stops : Addresses) (p most k : ℕ) (guest : Guest) → k ≡ 0
    → AreLikeExecutions (after_steps 0 (executions stops p (most - 0) (guest_ahead k guest))) (executions stops p most guest)
unfolding ahead
begun stops p most k guest none =
    subst (λ n. AreLikeExecutions (after_steps 0 (executions stops p (most - 0) (guest_ahead n guest))) (executions stops p most guest)) (sym none)
    (from_first stops p most guest)
