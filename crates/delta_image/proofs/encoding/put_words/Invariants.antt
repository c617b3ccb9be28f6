use Rattle.std.proofs.Common.{◌≡◌, ◌++◌, take}
use Rattle.delta_image.specs.Image.{words_part}
use Rattle.delta_image.proofs.encoding.put_words.Given as goal

abbrev pub invariant-words : goal.invariant-words
invariant-words l = l.out.items ≡ l.fn.out.items ++ words_part (take l.word-index l.words)
