use Rattle.std.proofs.Common.{subst}
use Rattle.rv_decode.specs.Meaning.{Means}
use Rattle.rv_decode.specs.Table.{is_multiplication}
use Rattle.rv_mul.proofs.Meanings.{any_base, any_m}
use Rattle.rv_mul.proofs.words.Rv64imDecoder.decode.Goals as goal

pub returns-in-Some-clause-looked_up : goal.returns-in-Some-clause-looked_up
returns-in-Some-clause-looked_up c =
    any_m c.args.word c.in-Some.i (subst (Means is_multiplication c.args.word) c.in-Some.is c.decode_m.ensures.exact)

pub returns-in-None-clause-looked_up : goal.returns-in-None-clause-looked_up
returns-in-None-clause-looked_up c =
    any_base c.args.word c.decode.result (subst (Means is_multiplication c.args.word) c.in-None.is c.decode_m.ensures.exact) c.decode.ensures.exact
