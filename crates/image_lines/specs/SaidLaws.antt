use Rattle.std.proofs.Common.{◌≡◌, ℕ, zero, suc, ◌+◌, ◌/◌, ◌%◌, ◌-◌, ◌<◌, ◌≤◌, ◌⊎◌, inl, inr, Bool, true, false, cond, List, [], ◌∷◌, ◌++◌, length, refl, sym, ap, subst, ◌∙◌, arith, append_assoc, length-append}
use Rattle.std.specs.Prelude.{Result, Ok, Err, codes, nat_eq, nat_le, nat_lt, slice_index}
use Rattle.std.specs.Bool.{Decides}
use Rattle.std.specs.List.{AllByRecursion, list_all}
use Rattle.std.specs.Result.{result_unwrap_or}
use Rattle.std.proofs.lemmas.Bool.{cond-true, cond_both, eqb-true, le-leb, leb-true, ne_eqb}
use Rattle.std.proofs.lemmas.Bool.Decides.{Decides-and, Decides-eqb, Decides-like, Decides-ltb, not_from_Decides}
use Rattle.std.proofs.lemmas.List.{append-nil, take_at}
use Rattle.std.proofs.lemmas.Slice.Eq.{bytes_eq-Decides}
use Rattle.sizes.specs.declared.TheConstants.{LINE_BYTES}
use Rattle.hex.specs.Hex.{decode_of, encode_lower}
use Rattle.hex.proofs.HexLemmas.{decode_of-encode_lower}
use Rattle.image_lines.specs.Digits.{bytes_digits}
use Rattle.image_lines.specs.DigitLaws.{digit_ends}
use Rattle.image_lines.specs.Lines.{ArePieces, IsByte, IsPiece, IsWhole, bytes_of, image_line, lines_of, pieces_of, printed}
use Rattle.image_lines.specs.PrintedLaws.{line_long, line_splits, more_pieces, pieces_are, pieces_joined}
use Rattle.image_lines.specs.Reading.{IsFirstBad}
use Rattle.image_lines.specs.Said.{behind, in_front, is_line, is_piece, is_whole, lines_in, piece_of, said_by, said_in}

-- What a file says, in the words of its lines.

-- the bytes of the pieces that it is the lines of; or its first line that isn't well formed
abbrev pub Says : List ℕ → Result (List ℕ) ℕ → Type 0
Says file (Ok bytes) = (pieces : List (List ℕ)) × ArePieces pieces × (file ≡ lines_of pieces) × (bytes ≡ bytes_of pieces)
Says file (Err k) = IsFirstBad k file

-- The line of a piece is cut off as it is, and its bytes are read back.

abbrev IsInside : ℕ → Type 0
IsInside c = c ≡ 10 → ⊥

cut_at : (front rest : List ℕ) → AllByRecursion IsInside front → lines_in (front ++ 10 ∷ rest) ≡ (front ++ 10 ∷ []) ∷ lines_in rest
unfolding lines_in
cut_at [] rest all = refl
cut_at (c ∷ cs) rest all =
    let others = lines_in (cs ++ 10 ∷ rest) in
    (λ i. cond (ne_eqb c 10 all.0 i) ((10 ∷ []) ∷ others) (in_front c others)) ∙ ap (in_front c) (cut_at cs rest all.1)

all_inside : (bytes : List ℕ) → AllByRecursion IsByte bytes → AllByRecursion IsInside (bytes_digits bytes)
all_inside [] all = tt
all_inside (b ∷ bytes) all =
    let high = digit_ends (b / 16) (omega (arith, all.0)) in
    let low = digit_ends (b % 16) (omega arith) in
    (λ e. omega (arith, e, high.0), (λ e. omega (arith, e, low.0), all_inside bytes all.1))

cut_line : (piece rest : List ℕ) → IsPiece piece → lines_in (image_line piece ++ rest) ≡ image_line piece ∷ lines_in rest
cut_line piece rest is =
    let front = codes "image " ++ bytes_digits piece in
    let inside : AllByRecursion IsInside front =
    (λ e. omega (arith, e), (λ e. omega (arith, e), (λ e. omega (arith, e), (λ e. omega (arith, e), (λ e. omega (arith, e), (λ e. omega (arith, e), all_inside piece is.each)))))) in
    ap lines_in (line_splits piece rest) ∙ cut_at front rest inside
    ∙ ap (λ line. line ∷ lines_in rest) (sym (line_splits piece []) ∙ append-nil (image_line piece))

each_byte : (bytes : List ℕ) → AllByRecursion IsByte bytes → (i : ℕ) → slice_index bytes i < 256
each_byte [] all i = omega arith
each_byte (b ∷ bytes) all zero = all.0
each_byte (b ∷ bytes) all (suc i) = each_byte bytes all.1 i

piece_back : (piece : List ℕ) → IsPiece piece → piece_of (image_line piece) ≡ piece
unfolding piece_of image_line
piece_back piece is =
    let digits = encode_lower piece in
    ap (λ text. result_unwrap_or (decode_of text) [])
    (take_at digits (10 ∷ []) (length (image_line piece) - 7) (omega (arith, length-append digits (10 ∷ []))))
    ∙ ap (λ r. result_unwrap_or r []) (decode_of-encode_lower piece (each_byte piece is.each))

-- What the tests tell.

each_tells : (bytes : List ℕ) → Decides (list_all (λ b. nat_lt b 256) bytes) (AllByRecursion IsByte bytes)
each_tells [] = (λ _. tt, λ _. refl)
each_tells (b ∷ bytes) = Decides-and _ _ (Decides-ltb b 256) (each_tells bytes)

le_tells : (m n : ℕ) → Decides (nat_le m n) (m ≤ n)
le_tells m n = (leb-true m n, le-leb m n)

piece_tells : (bytes : List ℕ) → Decides (is_piece bytes) (IsPiece bytes)
piece_tells bytes =
    Decides-like (is_piece bytes) (λ is. record { some = is.0.0; few = is.0.1; each = is.1 }) (λ is. ((is.some, is.few), is.each))
    (Decides-and _ _ (Decides-and _ _ (Decides-ltb 0 (length bytes)) (le_tells (length bytes) LINE_BYTES)) (each_tells bytes))

abbrev IsLine : List ℕ → Type 0
IsLine line = IsPiece (piece_of line) × (image_line (piece_of line) ≡ line)

line_tells : (line : List ℕ) → Decides (is_line line) (IsLine line)
unfolding is_line
line_tells line = Decides-and _ _ (piece_tells (piece_of line)) (bytes_eq-Decides (image_line (piece_of line)) line)

whole_tells : (line : List ℕ) → Decides (is_whole line) (IsLine line × (length (piece_of line) ≡ LINE_BYTES))
unfolding is_whole
whole_tells line = Decides-and _ _ (line_tells line) (Decides-eqb (length (piece_of line)) LINE_BYTES)

-- the line of a piece passes
line_passes : (line piece : List ℕ) → IsPiece piece → line ≡ image_line piece → IsLine line
line_passes line piece is e =
    let same : piece_of line ≡ piece = ap piece_of e ∙ piece_back piece is in
    (subst IsPiece (sym same) is, ap image_line same ∙ sym e)

whole_passes : (piece : List ℕ) → IsWhole piece → is_whole (image_line piece) ≡ true
whole_passes piece is =
    (whole_tells (image_line piece)).1 (line_passes (image_line piece) piece is.0 refl, ap length (piece_back piece is.0) ∙ is.1)

-- A text and its first line.

record IsFirstLine (text line : List ℕ) (lines : List (List ℕ)) : Type 0 where
  rest : List ℕ
  text_is : text ≡ line ++ rest
  rest_is : lines_in rest ≡ lines

in_front_some : (c : ℕ) (lines : List (List ℕ)) → in_front c lines ≡ [] → ⊥
in_front_some c [] e = cc
in_front_some c (l ∷ ls) e = cc

no_lines : (text : List ℕ) → lines_in text ≡ [] → text ≡ []
unfolding lines_in
no_lines [] e = refl
no_lines (c ∷ text) e = at (nat_eq c 10) e
  where
    at : (b : Bool) → cond b ((10 ∷ []) ∷ lines_in text) (in_front c (lines_in text)) ≡ [] → c ∷ text ≡ []
    at true same = absurd cc
    at false same = absurd (in_front_some c (lines_in text) same)

first_line : (text line : List ℕ) (lines : List (List ℕ)) → lines_in text ≡ line ∷ lines → IsFirstLine text line lines
unfolding lines_in
first_line [] line lines e = absurd cc
first_line (c ∷ text) line lines e = at (nat_eq c 10) refl (λ l ls is. first_line text l ls is) e
  where
    Lines : Type 0
    Lines = (l : List ℕ) (ls : List (List ℕ)) → lines_in text ≡ l ∷ ls → IsFirstLine text l ls

    front : (ls : List (List ℕ)) → lines_in text ≡ ls → Lines → in_front c ls ≡ line ∷ lines → IsFirstLine (c ∷ text) line lines
    front [] none others same =
        let here : c ∷ [] ≡ line = cc in
        let ended : [] ≡ lines = cc in
        record { rest = []; text_is = ap (λ (t : List ℕ). c ∷ t) (no_lines text none) ∙ here ∙ sym (append-nil line); rest_is = ended }
    front (l ∷ ls) is others same =
        let more = others l ls is in
        let here : c ∷ l ≡ line = cc in
        let behind : ls ≡ lines = cc in
        record {
          rest = more.rest;
          text_is = ap (λ (t : List ℕ). c ∷ t) more.text_is ∙ ap (λ (t : List ℕ). t ++ more.rest) here;
          rest_is = more.rest_is ∙ behind;
        }

    at : (b : Bool) → nat_eq c 10 ≡ b → Lines → cond b ((10 ∷ []) ∷ lines_in text) (in_front c (lines_in text)) ≡ line ∷ lines
        → IsFirstLine (c ∷ text) line lines
    at true is others same =
        let here : 10 ∷ [] ≡ line = cc in
        let behind : lines_in text ≡ lines = cc in
        record { rest = text; text_is = (λ i. eqb-true c 10 is i ∷ text) ∙ ap (λ (t : List ℕ). t ++ text) here; rest_is = behind }
    at false is others same = front (lines_in text) refl others same

-- What a file says is so.

bad_here : (text : List ℕ)
    → ((piece more : List ℕ) → IsPiece piece → text ≡ image_line piece ++ more → (length piece ≡ LINE_BYTES) ⊎ (more ≡ []) → ⊥) → IsFirstBad 1 text
bad_here text bad = record { front = []; rest = text; number = refl; whole = tt; text = refl; there = inl refl; bad = bad }

-- the line at the front is that of a piece which stands there
same_first : (text line : List ℕ) (lines : List (List ℕ)) (piece more : List ℕ) → lines_in text ≡ line ∷ lines → IsPiece piece → text ≡ image_line piece ++ more
    → (line ≡ image_line piece) × (lines ≡ lines_in more)
same_first text line lines piece more e is same =
    let both : line ∷ lines ≡ image_line piece ∷ lines_in more = sym e ∙ ap lines_in same ∙ cut_line piece more is in
    (cc, cc)

says_behind : (piece text rest : List ℕ) (r : Result (List ℕ) ℕ) → IsWhole piece → text ≡ image_line piece ++ rest → 0 < length rest → Says rest r
    → Says text (behind piece r)
says_behind piece text rest (Ok bytes) whole e some is =
    (piece ∷ is.0, more_pieces piece is.0 whole is.1, e ∙ ap (λ (t : List ℕ). image_line piece ++ t) is.2, ap (λ (t : List ℕ). piece ++ t) is.3)
says_behind piece text rest (Err k) whole e some is = record {
  front = piece ∷ is.front;
  rest = is.rest;
  number = omega (arith, is.number);
  whole = (whole, is.whole);
  text = e ∙ ap (λ (t : List ℕ). image_line piece ++ t) is.text ∙ sym (append_assoc (image_line piece) (lines_of is.front) is.rest);
  there = inr (elim is.there [
    | inl none ↦ omega (arith, some, ap length (is.text ∙ ap (λ front. lines_of front ++ is.rest) none))
    | inr more ↦ more
  ]);
  bad = is.bad;
}

says_in : (lines : List (List ℕ)) (text : List ℕ) → lines_in text ≡ lines → Says text (said_in lines)
unfolding said_in lines_in
says_in [] text e =
    bad_here text (λ piece more is same which. let none : [] ≡ image_line piece ∷ lines_in more = sym e ∙ ap lines_in same ∙ cut_line piece more is in cc)
says_in (line ∷ []) text e =
    cond_both (is_line line) (Ok (piece_of line)) (Err 1) (Says text)
    (λ passes. let is = (line_tells line).0 passes in
    let first = first_line text line [] e in (
      piece_of line ∷ [],
      is.0,
      first.text_is ∙ (λ i. sym is.1 i ++ no_lines first.rest first.rest_is i),
      sym (append-nil (piece_of line)),
    ))
    (λ fails. bad_here text (λ piece more is same which.
    not_from_Decides (is_line line) (line_tells line) fails (line_passes line piece is (same_first text line [] piece more e is same).0)))
says_in (line ∷ next ∷ others) text e =
    cond_both (is_whole line) (behind (piece_of line) (said_in (next ∷ others))) (Err 1) (Says text)
    (λ passes. let is = (whole_tells line).0 passes in
    let first = first_line text line (next ∷ others) e in
    says_behind (piece_of line) text first.rest (said_in (next ∷ others)) (is.0.0, is.1) (first.text_is ∙ ap (λ (t : List ℕ). t ++ first.rest) (sym is.0.1))
    (some first.rest first.rest_is) (says_in (next ∷ others) first.rest first.rest_is))
    (λ fails. bad_here text (λ piece more is same which.
    let found = same_first text line (next ∷ others) piece more e is same in
    elim which [
      | inl long ↦ not_from_Decides (is_whole line) (whole_tells line) fails
          (line_passes line piece is found.0, ap length (ap piece_of found.0 ∙ piece_back piece is) ∙ long)
      | inr ended ↦ no_next (found.1 ∙ ap lines_in ended)
    ]))
  where
    no_next : next ∷ others ≡ lines_in [] → ⊥
    no_next same = cc

    some : (rest : List ℕ) → lines_in rest ≡ next ∷ others → 0 < length rest
    some [] is = absurd (no_next (sym is))
    some (c ∷ cs) is = omega arith

pub says : (file : List ℕ) → Says file (said_by file)
unfolding said_by
says file = says_in (lines_in file) file refl

-- And it says nothing else.

said_last : (piece : List ℕ) → IsPiece piece → said_by (image_line piece ++ []) ≡ Ok piece
unfolding said_by said_in lines_in
said_last piece is =
    let line = image_line piece in
    ap said_in (cut_line piece [] is) ∙ cond-true (is_line line) (Ok (piece_of line)) (Err 1) ((line_tells line).1 (line_passes line piece is refl))
    ∙ ap Ok (piece_back piece is)

said_more : (piece rest : List ℕ) → IsWhole piece → 0 < length rest → said_by (image_line piece ++ rest) ≡ behind piece (said_by rest)
unfolding said_by said_in
said_more piece rest is some = ap said_in (cut_line piece rest is.0) ∙ at (lines_in rest) refl
  where
    line : List ℕ
    line = image_line piece

    at : (lines : List (List ℕ)) → lines_in rest ≡ lines → said_in (line ∷ lines) ≡ behind piece (said_in lines)
    at [] none = absurd (omega (arith, some, ap length (no_lines rest none)))
    at (next ∷ more) same =
        cond-true (is_whole line) (behind (piece_of line) (said_in (next ∷ more))) (Err 1) (whole_passes piece is)
        ∙ ap (λ bytes. behind bytes (said_in (next ∷ more))) (piece_back piece is.0)

said_pieces : (pieces : List (List ℕ)) → ArePieces pieces → said_by (lines_of pieces) ≡ Ok (bytes_of pieces)
said_pieces [] are = absurd are
said_pieces (piece ∷ []) are = said_last piece are ∙ ap Ok (sym (append-nil piece))
said_pieces (piece ∷ next ∷ more) are =
    said_more piece (lines_of (next ∷ more)) (are.0, are.1) (omega (arith, line_long next (lines_of more)))
    ∙ ap (behind piece) (said_pieces (next ∷ more) are.2)

-- where neither a whole line nor a last one stands
abbrev IsBad : List ℕ → Type 0
IsBad rest = (piece more : List ℕ) → IsPiece piece → rest ≡ image_line piece ++ more → (length piece ≡ LINE_BYTES) ⊎ (more ≡ []) → ⊥

first_good : (pieces : List (List ℕ)) (rest : List ℕ) → ArePieces pieces → rest ≡ lines_of pieces → IsBad rest → ⊥
first_good [] rest are e bad = are
first_good (p ∷ []) rest are e bad = bad p [] are e (inr refl)
first_good (p ∷ next ∷ more) rest are e bad = bad p (lines_of (next ∷ more)) are.0 e (inl are.1)

first_bad : (front : List (List ℕ)) (text rest : List ℕ) → AllByRecursion IsWhole front → text ≡ lines_of front ++ rest → IsBad text → length front ≡ 0
first_bad [] text rest whole e bad = refl
first_bad (f ∷ fs) text rest whole e bad =
    absurd (bad f (lines_of fs ++ rest) whole.0.0 (e ∙ append_assoc (image_line f) (lines_of fs) rest) (inl whole.0.1))

said_bad : (front : List (List ℕ)) (rest : List ℕ) → AllByRecursion IsWhole front → (front ≡ []) ⊎ (0 < length rest) → IsBad rest
    → said_by (lines_of front ++ rest) ≡ Err (length front + 1)
said_bad [] rest whole there bad = at (said_by rest) (says rest)
  where
    at : (r : Result (List ℕ) ℕ) → Says rest r → r ≡ Err 1
    at (Ok bytes) is = absurd (first_good is.0 rest is.1 is.2 bad)
    at (Err k) is = ap Err (omega (arith, is.number, first_bad is.front rest is.rest is.whole is.text bad))
said_bad (f ∷ fs) rest whole there bad =
    let some : 0 < length rest = elim there [
      | inl none ↦ absurd cc
      | inr more ↦ more
    ] in
    ap said_by (append_assoc (image_line f) (lines_of fs) rest)
    ∙ said_more f (lines_of fs ++ rest) whole.0 (omega (arith, some, length-append (lines_of fs) rest))
    ∙ ap (behind f) (said_bad fs rest whole.1 (inr some) bad) ∙ ap Err (omega arith)

pub says_only : (file : List ℕ) (r : Result (List ℕ) ℕ) → Says file r → said_by file ≡ r
says_only file (Ok bytes) is = ap said_by is.2 ∙ said_pieces is.0 is.1 ∙ ap Ok (sym is.3)
says_only file (Err k) is = ap said_by is.text ∙ said_bad is.front is.rest is.whole is.there is.bad ∙ ap Err (sym is.number)

-- What is printed of bytes says those bytes.
pub said_printed : (bytes : List ℕ) → 0 < length bytes → AllByRecursion IsByte bytes → said_by (printed bytes) ≡ Ok bytes
said_printed bytes some each =
    says_only (printed bytes) (Ok bytes)
    (pieces_of bytes, pieces_are (length bytes) bytes some (omega arith) each, refl, sym (pieces_joined (length bytes) bytes))
