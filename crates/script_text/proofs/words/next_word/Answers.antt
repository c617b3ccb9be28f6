use Rattle.std.proofs.Common.{arith, sym, length, ◌==◌, false, ◌≡◌}
use Rattle.std.proofs.lemmas.Bool.Decides.{nat_tests}
use Rattle.script_text.proofs.Spaces.{next_is}
use Rattle.script_text.proofs.words.next_word.Goals as goal

pub returns : goal.returns
returns c =
    let left : (length c.behind_blanks-text.result.now == 0) ≡ false = sym c.if-is_empty.ensures in
    next_is c.args.text.now c.behind_blanks-text.result.now c.up_to_blank.result.0.now c.up_to_blank.result.1.now
    c.behind_blanks-text.ensures.words c.behind_blanks-text.ensures.starts (grind (arith, nat_tests)) c.up_to_blank.ensures.whole c.up_to_blank.ensures.word
    c.up_to_blank.ensures.ends
