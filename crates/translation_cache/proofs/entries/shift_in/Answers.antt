use Rattle.std.proofs.Common.{◌≡◌, zero, suc, ◌+◌, ◌-◌, ◌∷◌, ◌++◌, take, drop, set, get_or, ap, ◌∙◌, arith}
use Rattle.translation_cache.proofs.Lists.{lifted, lifted_all, lifted_more, lifted_none}
use Rattle.translation_cache.proofs.entries.shift_in.Goals as goal

pub shifting-init : goal.shifting-init
shifting-init c = (lifted_none c.args.at c.args.list.now, omega arith)

pub shifting-preserved : goal.shifting-preserved
shifting-preserved c =
    let next : c.shifting.k ≡ suc (c.shifting.k - 1) = omega (arith, c.shifting-test.true) in
    let is = c.shifting.invariant.0 ∙ ap (λ k. lifted k c.args.at c.args.list.now) next in
    let value = c.index-list-k.is ∙ ap (λ es. get_or es (c.shifting.k - 1) c.index-list-k.result) is in (
      (λ i. set (is i) (next i) (value i))
          ∙ lifted_more (c.shifting.k - 1) c.args.at c.args.list.now c.index-list-k.result (omega (arith, c.shifting-test.true, c.shifting.invariant.1)) c.requires,
      omega (arith, c.shifting.invariant.1),
    )

pub returns : goal.returns
returns c =
    let end : c.shifting.k ≡ zero = omega (arith, c.shifting-test.false) in
    let next : suc c.args.at ≡ c.args.at + 1 = omega arith in
    ap (λ es. set es 0 c.args.entry) (c.shifting.invariant.0 ∙ ap (λ k. lifted k c.args.at c.args.list.now) end)
    ∙ lifted_all c.args.at c.args.entry c.args.list.now c.requires
    ∙ ap (λ n. c.args.entry ∷ (take c.args.at c.args.list.now ++ drop n c.args.list.now)) next
