use Rattle.std.specs.Prelude.{ℕ, Bool, true, List, [], ◌∷◌, map, Option, Some, None, codes, if◌then◌else◌}
use Rattle.std.specs.Option.{option_map}
use Rattle.script_text.specs.Lines.{script_lines, without_return}
use Rattle.asm_lines.specs.Words.{words}
use Rattle.asm_lines.specs.Kinds.{is_text, is_label}
use Rattle.asm_lines.specs.Items.{Item, item_in}

-- The lines of a text.

abbrev pub is_colon : List ℕ → Bool
is_colon word = is_text word (codes ":")

-- the word before the colon that is a line's second word, and the words of its item
pub record Front : Type 0 where
  pub label : Option (List ℕ)
  pub item : List (List ℕ)

abbrev pub front : Option (List ℕ) → List (List ℕ) → Front
front label item = record { label = label; item = item }

unfoldable pub front_of : List (List ℕ) → Front
front_of [] = front None []
front_of (w ∷ []) = front None (w ∷ [])
front_of (w ∷ c ∷ ws) = if is_colon c then front (Some w) ws else front None (w ∷ c ∷ ws)

abbrev pub may_stand : Option (List ℕ) → Bool
may_stand None = true
may_stand (Some word) = is_label word

-- the item that words are, or none where there is no word
abbrev pub item_at : List (List ℕ) → Option (Option Item)
item_at [] = Some None
item_at (w ∷ ws) = option_map Some (item_in w ws)

-- the item of a line, if it has one; nothing where the line is outside the grammar
abbrev pub item_behind : Front → Option (Option Item)
item_behind f = if may_stand f.label then item_at f.item else None

unfoldable pub item_on : List (List ℕ) → Option (Option Item)
item_on line = item_behind (front_of line)

-- the lines of a text, each as its words
unfoldable pub lines_in : List ℕ → List (List (List ℕ))
lines_in text = map (λ line. words (without_return line)) (script_lines text)
