use Rattle.std.proofs.Common.{◌≡◌, ℕ, Bool, cond, List, [], ◌∷◌, ap, sym, ◌∙◌, Option}
use Rattle.std.specs.Option.{option_map_or}
use Rattle.script_text.specs.declared.command.Command.{Command}
use Rattle.script_text.specs.declared.command.Meaning.TheVariants.{Does, Nothing, Outside}
use Rattle.script_text.specs.Lines.{without_return}
use Rattle.script_text.specs.Words.{words_of}
use Rattle.script_text.specs.Forms.{command_of}
use Rattle.script_text.specs.Script.{is_comment, meaning_of_words, meaning_of}

-- What a line is, by its words.

pub no_word_said : (line text : List ℕ) → text ≡ without_return line → words_of text ≡ [] → Nothing ≡ meaning_of line
unfolding meaning_of meaning_of_words
no_word_said line text is none = sym (ap (λ bs. meaning_of_words (words_of bs)) (sym is) ∙ ap meaning_of_words none)

-- where it has a first word
pub words_said : (line text first behind : List ℕ) (comment : Bool) (command : Option Command) → text ≡ without_return line
    → words_of text ≡ first ∷ words_of behind → comment ≡ is_comment first → command ≡ command_of first (words_of behind)
    → cond comment Nothing (option_map_or Does command Outside) ≡ meaning_of line
unfolding meaning_of meaning_of_words
words_said line text first behind comment command is words starts makes =
    ap (λ (t : Bool). cond t Nothing (option_map_or Does command Outside)) starts
    ∙ ap (λ (o : Option Command). cond (is_comment first) Nothing (option_map_or Does o Outside)) makes
    ∙ sym (ap (λ bs. meaning_of_words (words_of bs)) (sym is) ∙ ap meaning_of_words words)
