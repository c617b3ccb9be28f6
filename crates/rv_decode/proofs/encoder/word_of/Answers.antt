use Rattle.std.proofs.Common.{ap, sym, subst, rules, arith, ◌∙◌, w64, FitsSigned}
use Rattle.std.proofs.lemmas.Int.{to_z-of_z}
use Rattle.rv_decode.specs.Encoding.{immediate_of}
use Rattle.rv_decode.specs.Meaning.{MeansInstr}
use Rattle.rv_decode.proofs.Encodes.{sum_below, means-sum, sum-means, sum-parts}
use Rattle.rv_decode.proofs.encoder.word_of.Goals as goal

pub overflow_add-result : goal.overflow_add-result
overflow_add-result c =
    let value = ap (λ x. x.value) c.row-row.ensures in
    omega (arith, sum_below c.args.i.now c.requires.registers c.requires.immediate, value, c.registers.ensures)

pub overflow_add-result-2 : goal.overflow_add-result-2
overflow_add-result-2 c =
    let i = c.args.i.now in
    let fits : FitsSigned w64 i.imm = search rules in
    let placed = c.immediate.ensures ∙ ap (immediate_of c.row-row.result.format) (to_z-of_z w64 i.imm fits) in
    let sum = sum-parts i _ _ _ c.row-row.ensures c.registers.ensures placed in
    omega (arith, sum_below i c.requires.registers c.requires.immediate, sum)

pub returns-clause-meaning : goal.returns-clause-meaning
returns-clause-meaning c =
    let i = c.args.i.now in
    let fits : FitsSigned w64 i.imm = search rules in
    let placed = c.immediate.ensures ∙ ap (immediate_of c.row-row.result.format) (to_z-of_z w64 i.imm fits) in
    let sum = sum-parts i _ _ _ c.row-row.ensures c.registers.ensures placed in
    subst (λ word. MeansInstr word i) (sym sum) (means-sum i c.requires.registers c.requires.immediate)

pub returns-clause-only : goal.returns-clause-only
returns-clause-only c = λ word below means.
    let i = c.args.i.now in
    let fits : FitsSigned w64 i.imm = search rules in
    let placed = c.immediate.ensures ∙ ap (immediate_of c.row-row.result.format) (to_z-of_z w64 i.imm fits) in
    sum-parts i _ _ _ c.row-row.ensures c.registers.ensures placed ∙ sum-means i word below means

pub returns-clause-bits : goal.returns-clause-bits
returns-clause-bits c =
    let i = c.args.i.now in
    let fits : FitsSigned w64 i.imm = search rules in
    let placed = c.immediate.ensures ∙ ap (immediate_of c.row-row.result.format) (to_z-of_z w64 i.imm fits) in
    sum-parts i _ _ _ c.row-row.ensures c.registers.ensures placed
