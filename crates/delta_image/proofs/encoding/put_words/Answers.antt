use Rattle.std.proofs.Common.{arith}
use Rattle.delta_image.specs.Fine.{IsWord}
use Rattle.delta_image.proofs.Lists.{all_from}
use Rattle.delta_image.proofs.encoding.put_words.Goals as goal

pub returns-clause-words : goal.returns-clause-words
returns-clause-words c = all_from IsWord c.args.words.now (λ i. omega (arith, c.type_inv.words i))
