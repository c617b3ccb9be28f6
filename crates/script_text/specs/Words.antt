use Rattle.std.specs.Prelude.{ℕ, ◌==◌, ◌||◌, Bool, true, false, List, [], ◌∷◌, if◌then◌else◌}
use Rattle.std.specs.List.{filter}
use Rattle.script_text.specs.Lines.{onto_first}

-- The words of a line.

-- the bytes 20 and 09
abbrev pub is_blank : ℕ → Bool
is_blank b = b == 32 || b == 9

-- what stands before, between and behind blanks, empty where blanks stand side by side
abbrev pub between_blanks : List ℕ → List (List ℕ)
between_blanks [] = [] ∷ []
between_blanks (b ∷ bs) = if is_blank b then [] ∷ between_blanks bs else onto_first b (between_blanks bs)

abbrev pub has_bytes : List ℕ → Bool
has_bytes [] = false
has_bytes (b ∷ bs) = true

-- the words: what of it isn't empty
abbrev pub words_of : List ℕ → List (List ℕ)
words_of line = filter has_bytes (between_blanks line)

-- whether a text begins with a blank
abbrev pub begins_blank : List ℕ → Bool
begins_blank [] = false
begins_blank (b ∷ bs) = is_blank b

-- whether a word ends where a text goes on so: it is at its end, or a blank comes
abbrev pub ends_word : List ℕ → Bool
ends_word [] = true
ends_word (b ∷ bs) = is_blank b
