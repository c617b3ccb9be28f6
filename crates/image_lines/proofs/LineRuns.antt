use Rattle.std.proofs.Common.{◌≡◌, ℕ, ◌+◌, ◌/◌, ◌<◌, ◌≤◌, List, [], ◌∷◌, ◌++◌, length, drop, refl, sym, ap, ◌∙◌, inl, inr, ◌⊎◌, arith, append_assoc, length-append}
use Rattle.std.specs.List.{AllByRecursion}
use Rattle.std.proofs.lemmas.List.{append-nil, flat_map_more, length_push}
use Rattle.image_lines.specs.Digits.{digit}
use Rattle.image_lines.specs.Lines.{ArePieces, IsPiece, IsWhole, bytes_of, image_line, lines_of}
use Rattle.image_lines.specs.Reading.{HasNoByte, IsFirstBad}
use Rattle.image_lines.specs.DigitLaws.{digit_ends}
use Rattle.image_lines.specs.PrintedLaws.{line_long, line_splits}
use Rattle.image_lines.proofs.DigitPairs.{one_run}

-- Lines, one behind the other.

end_is_no_byte : (more : List ℕ) → HasNoByte (10 ∷ more)
end_is_no_byte more = λ b others lt e.
    let ends = digit_ends (b / 16) (omega (arith, lt)) in
    let same : 10 ≡ digit (b / 16) = cc in
    omega (arith, same, ends.0)

-- one text is of one line
pub one_line : (p q r s : List ℕ) → IsPiece p → IsPiece q → image_line p ++ r ≡ image_line q ++ s → (p ≡ q) × (r ≡ s)
one_line p q r s one other e =
    let behind = ap (drop 6) (sym (line_splits p r) ∙ e ∙ line_splits q s) in
    let parts = one_run p q (10 ∷ r) s one.each other.each (end_is_no_byte r) behind in
    (parts.0, ap (drop 1) parts.1)

pub gets_shorter : (text piece rest : List ℕ) → text ≡ image_line piece ++ rest → length rest < length text
gets_shorter text piece rest e = omega (arith, ap length e, line_long piece rest)

-- no more lines than bytes
lines_few : (pieces : List (List ℕ)) → length pieces ≤ length (lines_of pieces)
lines_few [] = omega arith
lines_few (p ∷ ps) = omega (arith, lines_few ps, line_long p (lines_of ps))

-- the lines that were read so far
pub record HaveLines (file bytes rest : List ℕ) (k : ℕ) : Type 0 where
  pub front : List (List ℕ)
  pub number : k ≡ length front + 1
  pub whole : AllByRecursion IsWhole front
  pub text : file ≡ lines_of front ++ rest
  pub said : bytes ≡ bytes_of front
  pub there : (front ≡ []) ⊎ (0 < length rest)

are_pieces : (front : List (List ℕ)) (piece : List ℕ) → AllByRecursion IsWhole front → IsPiece piece → ArePieces (front ++ piece ∷ [])
are_pieces [] piece whole is = is
are_pieces (p ∷ []) piece whole is = (whole.0.0, whole.0.1, is)
are_pieces (p ∷ q ∷ ps) piece whole is = (whole.0.0, whole.0.1, are_pieces (q ∷ ps) piece whole.1 is)

all_push : (front : List (List ℕ)) (piece : List ℕ) → AllByRecursion IsWhole front → IsWhole piece → AllByRecursion IsWhole (front ++ piece ∷ [])
all_push [] piece whole is = (is, tt)
all_push (p ∷ ps) piece whole is = (whole.0, all_push ps piece whole.1 is)

pub no_lines : (file bytes : List ℕ) → bytes ≡ [] → HaveLines file bytes file 1
no_lines file bytes none = record { front = []; number = refl; whole = tt; text = refl; said = none; there = inl refl }

-- a line was read behind whole ones
record IsBehind (file new rest after : List ℕ) (front : List (List ℕ)) (piece : List ℕ) : Type 0 where
  text : file ≡ lines_of (front ++ piece ∷ []) ++ after
  said : new ≡ bytes_of (front ++ piece ∷ [])

behind : (file old new rest after : List ℕ) (k : ℕ) (have : HaveLines file old rest k) (piece : List ℕ) → new ≡ old ++ piece → rest ≡ image_line piece ++ after
    → IsBehind file new rest after have.front piece
behind file old new rest after k have piece added next = record {
  text = have.text ∙ ap (λ (t : List ℕ). lines_of have.front ++ t) next ∙ sym (append_assoc (lines_of have.front) (image_line piece) after)
      ∙ ap (λ (t : List ℕ). t ++ after) (flat_map_more image_line [] have.front piece);
  said = added ∙ ap (λ (t : List ℕ). t ++ piece) have.said ∙ flat_map_more (λ (p : List ℕ). p) [] have.front piece;
}

pub all_lines : (file old new rest after : List ℕ) (k : ℕ) (have : HaveLines file old rest k) (piece : List ℕ) → IsPiece piece → new ≡ old ++ piece
    → rest ≡ image_line piece ++ after → after ≡ []
    → (pieces : List (List ℕ)) × ArePieces pieces × (file ≡ lines_of pieces) × (new ≡ bytes_of pieces)
all_lines file old new rest after k have piece is added next ended =
    let b = behind file old new rest after k have piece added next in
    let whole = lines_of (have.front ++ piece ∷ []) in
    (have.front ++ piece ∷ [], are_pieces have.front piece have.whole is, b.text ∙ ap (λ (t : List ℕ). whole ++ t) ended ∙ append-nil whole, b.said)

pub more_lines : (file old new rest after : List ℕ) (k : ℕ) (have : HaveLines file old rest k) (piece : List ℕ) → IsPiece piece → new ≡ old ++ piece
    → rest ≡ image_line piece ++ after → 0 < length after → length piece ≡ 64 → HaveLines file new after (k + 1)
more_lines file old new rest after k have piece is added next some long =
    let b = behind file old new rest after k have piece added next in
    record {
      front = have.front ++ piece ∷ [];
      number = omega (arith, have.number, length_push have.front piece);
      whole = all_push have.front piece have.whole (is, long);
      text = b.text;
      said = b.said;
      there = inr some;
    }

pub bad_none : (file old rest : List ℕ) (k : ℕ) (have : HaveLines file old rest k) → ((piece more : List ℕ) → IsPiece piece → rest ≡ image_line piece ++ more → ⊥)
    → IsFirstBad k file
bad_none file old rest k have none = record {
  front = have.front;
  rest = rest;
  number = have.number;
  whole = have.whole;
  text = have.text;
  there = have.there;
  bad = λ piece more is e which. none piece more is e;
}

pub bad_short : (file old rest after : List ℕ) (k : ℕ) (have : HaveLines file old rest k) (piece : List ℕ) → IsPiece piece → rest ≡ image_line piece ++ after
    → 0 < length after → length piece < 64 → IsFirstBad k file
bad_short file old rest after k have piece is next some short = record {
  front = have.front;
  rest = rest;
  number = have.number;
  whole = have.whole;
  text = have.text;
  there = have.there;
  bad = λ other more fits e which.
      let same = one_line piece other after more is fits (sym next ∙ e) in
      elim which [
        | inl long ↦ omega (arith, long, ap length same.0, short)
        | inr ended ↦ omega (arith, ap length ended, ap length same.1, some)
      ];
}

pub number_fits : (file old rest : List ℕ) (k : ℕ) → HaveLines file old rest k → k ≤ length file + 1
number_fits file old rest k have = omega (arith, have.number, lines_few have.front, ap length have.text, length-append (lines_of have.front) rest)
