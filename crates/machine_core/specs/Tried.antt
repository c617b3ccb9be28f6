use Rattle.std.specs.Prelude.{◌≡◌, ℕ, List, [], ◌∷◌, map, refl}
use Rattle.std.proofs.Common.{ap, sym, ◌∙◌}
use Rattle.ovl_io.specs.Memory.{Memory}
use Rattle.rv_execute.specs.Calls.{Call, access_of}
use Rattle.rv_execute.specs.CallLaws.{AreTried}
use Rattle.rv_execute.specs.CallLaws.AreTried.{NoneTried, OneTried, TwoTried}
use Rattle.translation_cache.specs.Bare.{BareTranslations}
use Rattle.translation_cache.specs.Counted.{counted}
use Rattle.translation_cache.specs.CountedLaws.{counted_next, counted_none, counted_one}

-- Laws: the accesses of an execution, translated one by one.

-- one access after the other
unfoldable pub each_counted : ℕ → Memory → List Call → BareTranslations → BareTranslations
each_counted p memory [] t = t
each_counted p memory (c ∷ calls) t = each_counted p memory calls (counted p memory (access_of c ∷ []) t)

pub tried_counted : (p : ℕ) (memory : Memory) (calls : List Call) (t : BareTranslations) → AreTried memory calls
    → each_counted p memory calls t ≡ counted p memory (map access_of calls) t
unfolding each_counted
tried_counted p memory [] t NoneTried = sym (counted_none p memory t)
tried_counted p memory (c ∷ []) t (OneTried d) = refl
tried_counted p memory (c ∷ d ∷ []) t (TwoTried x y may) =
    ap (counted p memory (access_of d ∷ [])) (counted_one p memory (access_of c) t)
    ∙ sym (counted_next p memory (access_of c) (access_of d ∷ []) t may)
tried_counted p memory (c ∷ (d ∷ (x ∷ xs))) t tried = elim tried [ ]
