use Rattle.std.specs.Prelude.{ℕ, ◌+◌, ◌==◌, List, [], ◌∷◌, ◌++◌, length, Option, Some, None, Result, Ok, Err, if◌then◌else◌}
use Rattle.asm_lines.specs.Kinds.{is_text}
use Rattle.asm_lines.specs.Lines.{Front, front_of}

-- The labels of a text. Lines are lists of words, and are counted from 1; items from 0.

-- the number of the item behind a label, among labels with such numbers
abbrev pub place_of : List (List ℕ × ℕ) → List ℕ → Option ℕ
place_of [] name = None
place_of (l ∷ ls) name = if is_text name l.0 then Some l.1 else place_of ls name

-- how many items a line has
abbrev pub item_count : Front → ℕ
item_count f = if length f.item == 0 then 0 else 1

-- labels with one more, unless it is among them
abbrev pub put_label : ℕ → ℕ → List (List ℕ × ℕ) → List ℕ → Option ℕ → Result (List (List ℕ × ℕ)) ℕ
put_label k n labels name None = Ok (labels ++ (name, n) ∷ [])
put_label k n labels name (Some place) = Err k

-- labels with that of line k, if it has one, before item n
abbrev pub with_label : ℕ → ℕ → List (List ℕ × ℕ) → Option (List ℕ) → Result (List (List ℕ × ℕ)) ℕ
with_label k n labels None = Ok labels
with_label k n labels (Some name) = put_label k n labels name (place_of labels name)

-- The labels of lines, of which the first is line k and its item item n, behind those before them; or the first line whose
-- label stands before it.
abbrev pub and_then_labels : Result (List (List ℕ × ℕ)) ℕ → (List (List ℕ × ℕ) → Result (List (List ℕ × ℕ)) ℕ) → Result (List (List ℕ × ℕ)) ℕ
and_then_labels (Ok labels) more = more labels
and_then_labels (Err k) more = Err k

abbrev pub labels_from : ℕ → ℕ → List (List ℕ × ℕ) → List (List (List ℕ)) → Result (List (List ℕ × ℕ)) ℕ
labels_from k n labels [] = Ok labels
labels_from k n labels (line ∷ lines) =
    and_then_labels (with_label k n labels (front_of line).label)
    (λ more. labels_from (k + 1) (n + item_count (front_of line)) more lines)

unfoldable pub labels_of : List (List (List ℕ)) → Result (List (List ℕ × ℕ)) ℕ
labels_of lines = labels_from 1 0 [] lines
