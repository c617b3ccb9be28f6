use Rattle.std.proofs.Common.{Some, sym}
use Rattle.rv_decode.specs.MeaningLaws.{meaning_is}
use Rattle.rv_decode.specs.Table.{is_base}
use Rattle.rv_decode.proofs.encoder.encode.Goals as goal

pub returns-clause-decoded : goal.returns-clause-decoded
returns-clause-decoded c = sym (meaning_is is_base c.word_of.result (Some c.args.i.now) (c.requires.listed, c.word_of.ensures.meaning))

pub returns-clause-only : goal.returns-clause-only
returns-clause-only c = λ word below means. c.word_of.ensures.only word below means.1
