use Rattle.space_ledger.proofs.Common.{◌≡◌, ℕ, zero, suc, ◌+◌, ◌*◌, ◌≤◌, ◌<◌, ◌^◌, Bool, false, cond, List, length, refl, sym, ap, subst, ◌∙◌, arith, PAGE_END}
use Rattle.space_ledger.proofs.Pages.{entry_at, PageEntry, PageRun}
use Rattle.space_ledger.proofs.Views.{counted_run, counted_units, frame_units, held_by, released_by}
use Rattle.space_ledger.proofs.Booking.{few_units, held_zero, length_held, length_released, no_units, released_zero}

-- The counts of a run, page by page, whether its pages come or go.

-- the units of a page that comes, and of one that goes
abbrev pub units_held : ℕ → List ℕ → List ℕ → ℕ → ℕ
units_held zero_frame before after frame = frame_units zero_frame before frame

abbrev pub units_released : ℕ → List ℕ → List ℕ → ℕ → ℕ
units_released zero_frame before after frame = frame_units zero_frame after frame

-- what a page does to the counts and to the units
pub record Counts (z : ℕ) (step : List ℕ → ℕ → List ℕ) (cost : List ℕ → List ℕ → ℕ → ℕ) : Type 0 where
  pub still : (counts : List ℕ) (f : ℕ) → f ≡ z → step counts f ≡ counts
  pub free : (before after : List ℕ) (f : ℕ) → f ≡ z → cost before after f ≡ 0
  pub size : (counts : List ℕ) (f : ℕ) → length (step counts f) ≡ length counts
  pub few : (before after : List ℕ) (f : ℕ) → cost before after f ≤ 16

pub coming : (z : ℕ) → Counts z (held_by z) (units_held z)
coming z = record { still = held_zero z; free = λ a b f. no_units z f a; size = length_held z; few = λ a b f. few_units z f a }

pub going : (z : ℕ) → Counts z (released_by z) (units_released z)
going z = record { still = released_zero z; free = λ a b f. no_units z f b; size = length_released z; few = λ a b f. few_units z f b }

-- What holds while the pages of a run are counted.
pub record HasCounted (step : List ℕ → ℕ → List ℕ) (cost : List ℕ → List ℕ → ℕ → ℕ) (old now : List ℕ) (units : ℕ) (run : PageRun) (k : ℕ) : Type 0 where
  pub counts : now ≡ counted_run step old run k
  pub units_are : units ≡ counted_units step cost old run k

module _ {z : ℕ} {step : List ℕ → ℕ → List ℕ} {cost : List ℕ → List ℕ → ℕ → ℕ} (is : Counts z step cost) where
  -- a run on the zero frame counts nothing
  module _ (counts : List ℕ) (run : PageRun) (level : run.rising ≡ false) (on : run.entry.frame ≡ z) where
    frame_is : (k : ℕ) → (entry_at run k).frame ≡ z
    frame_is k = ap (λ (b : Bool). cond b (run.entry.frame + k) run.entry.frame) level ∙ on

    pub zero_counted : (k : ℕ) → counted_run step counts run k ≡ counts
    unfolding counted_run
    zero_counted zero = refl
    zero_counted (suc k) = is.still (counted_run step counts run k) (entry_at run k).frame (frame_is k) ∙ zero_counted k

    pub zero_units : (k : ℕ) → counted_units step cost counts run k ≡ 0
    unfolding counted_units
    zero_units zero = refl
    zero_units (suc k) =
        let rest = zero_units k in
        let here = is.free (counted_run step counts run k) (counted_run step counts run (suc k)) (entry_at run k).frame (frame_is k) in
        omega (arith, rest, here)

  pub units_most : (counts : List ℕ) (run : PageRun) (k : ℕ) → counted_units step cost counts run k ≤ 16 * k
  unfolding counted_units
  units_most counts run zero = omega arith
  units_most counts run (suc k) =
      let rest = units_most counts run k in
      let here = is.few (counted_run step counts run k) (counted_run step counts run (suc k)) (entry_at run k).frame in
      omega (arith, rest, here)

  length_run : (counts : List ℕ) (run : PageRun) (k : ℕ) → length (counted_run step counts run k) ≡ length counts
  unfolding counted_run
  length_run counts run zero = refl
  length_run counts run (suc k) = is.size (counted_run step counts run k) (entry_at run k).frame ∙ length_run counts run k

  pub none_counted : (counts : List ℕ) (run : PageRun) → HasCounted step cost counts counts 0 run 0
  unfolding counted_run counted_units
  none_counted counts run = record { counts = refl; units_are = refl }

  module _ (old now : List ℕ) (units : ℕ) (run : PageRun) (k : ℕ) (entry : PageEntry) (h : HasCounted step cost old now units run k) (entry_is : entry ≡ entry_at run k) where
    -- its frame is one of the frames
    pub frame_there : (entry_at run k).frame < length old → entry.frame < length now
    frame_there low = subst (λ n. entry.frame < n) (sym (ap length h.counts ∙ length_run old run k)) (subst (λ (e : PageEntry). e.frame < length old) (sym entry_is) low)

    -- one more page
    pub one_counted : (new : List ℕ) (more : ℕ) → new ≡ step now entry.frame → more ≡ cost now new entry.frame → HasCounted step cost old new (units + more) run (k + 1)
    unfolding counted_run counted_units
    one_counted new more new_is more_is =
        let next : suc k ≡ k + 1 = omega arith in
        let counted : new ≡ counted_run step old run (suc k) = new_is ∙ (λ i. step (h.counts i) (entry_is i).frame) in
        subst (HasCounted step cost old new (units + more) run) next (record {
          counts = counted;
          units_are = (λ i. h.units_are i + more_is i) ∙ (λ i. counted_units step cost old run k + cost (h.counts i) (counted i) (entry_is i).frame);
        })

    -- and the units fit
    pub units_small : (new : List ℕ) (more f : ℕ) → more ≡ cost now new f → k < PAGE_END → units + more < 2 ^ 32
    units_small new more f more_is low =
        let so_far = h.units_are in
        let most = units_most old run k in
        let few = is.few now new f in
        omega (arith, so_far, most, more_is, few, low)
