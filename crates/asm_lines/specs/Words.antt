use Rattle.std.specs.Prelude.{ℕ, ◌==◌, ◌||◌, ◌&&◌, not, Bool, true, false, List, [], ◌∷◌, if◌then◌else◌}
use Rattle.std.specs.List.{filter, list_all}
use Rattle.script_text.specs.Lines.{onto_first}
use Rattle.script_text.specs.Words.{is_blank, has_bytes}

-- The words of a line.

-- a comma or a colon, which is a word by itself
abbrev pub is_mark : ℕ → Bool
is_mark b = b == 44 || b == 58

-- `#`, from which on a line is passed over
abbrev pub begins_comment : ℕ → Bool
begins_comment b = b == 35

-- the marks, and what stands before, between and behind blanks and marks; some of it is empty
abbrev pub pieces : List ℕ → List (List ℕ)
pieces [] = [] ∷ []
pieces (b ∷ bs) =
    if begins_comment b then [] ∷ []
    else if is_blank b then [] ∷ pieces bs
    else if is_mark b then [] ∷ (b ∷ []) ∷ pieces bs
    else onto_first b (pieces bs)

-- the words: what of it isn't empty
unfoldable pub words : List ℕ → List (List ℕ)
words line = filter has_bytes (pieces line)

-- a byte that stands within words
abbrev pub is_inner : ℕ → Bool
is_inner b = not (begins_comment b || is_blank b || is_mark b)

-- whether bytes are one word and no mark
abbrev pub is_word : List ℕ → Bool
is_word bytes = has_bytes bytes && list_all is_inner bytes

-- whether a word ends where a text goes on so
abbrev pub ends_word : List ℕ → Bool
ends_word [] = true
ends_word (b ∷ bs) = not (is_inner b)

-- whether a text begins with a word
abbrev pub begins_word : List ℕ → Bool
begins_word [] = false
begins_word (b ∷ bs) = not (begins_comment b || is_blank b)
