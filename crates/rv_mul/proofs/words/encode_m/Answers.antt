use Rattle.std.proofs.Common.{Some, sym}
use Rattle.rv_mul.proofs.Meanings.{meaning_m_is}
use Rattle.rv_mul.proofs.words.encode_m.Goals as goal

pub returns-clause-decoded : goal.returns-clause-decoded
returns-clause-decoded c = sym (meaning_m_is c.word_of.result (Some c.args.i.now) (c.requires.listed, c.word_of.ensures.meaning))
