use Rattle.std.proofs.Common.{◌≡◌, ℕ, ◌+◌, ◌*◌, ◌/◌, ◌^◌, ◌≤◌, true, false, inl, inr, List, ◌∷◌, ◌++◌, length, get_or, sym, ap, ◌∙◌, refl, arith}
use Rattle.std.proofs.lemmas.Bool.{cases_eq}
use Rattle.std.proofs.lemmas.Nat.{pow_pos}
use Rattle.std.specs.Int.{bit_at}
use Rattle.mark_levels.specs.Levels.{LackBits}
use Rattle.unit_map.specs.Pieces.{Piece, IsPiece, IsApartFromTaken, free_at, free_units, taken_at, units_in}
use Rattle.unit_map.specs.Changes.{Gives, KeepsOthers, KeepsTaken, OnlyGives, OnlyTakes, TakesBlock, TakesFrom}
use Rattle.unit_map.specs.Cells.{code, pieces_in, pieces_of, behind, IsCleared, IsBlockOrHalf, IsSplit, IsTable}
use Rattle.unit_map.specs.Laws.{equal_or_apart}
use Rattle.unit_map.proofs.Codes.{code_same}
use Rattle.unit_map.proofs.Counts.{free_gives, free_takes, least_some}
use Rattle.unit_map.proofs.Numbers.{pow_mono}
use Rattle.unit_map.proofs.Reading.{in_three, in_three_new, one_piece, piece_here}
use Rattle.unit_map.proofs.Tables.{IsThere, bit_there, block_there, frame_start, frame_tiled, none_taken, piece_block, piece_there, table_fills, table_next, table_pieces, there_fits}
use Rattle.unit_map.proofs.Tiles.{replaced}
use Rattle.unit_map.proofs.Writes.{same_side, same_wider}

-- What becomes of the pieces where a block is taken or given.

-- as many units are covered
pub same_units : (cells new : List ℕ) → IsTable cells → IsTable new → length new ≡ length cells → units_in (pieces_of new) ≡ units_in (pieces_of cells)
same_units cells new is now e = (table_fills new now).1 ∙ e ∙ sym (table_fills cells is).1

pub record IsTaken (cells : List ℕ) (order from unit : ℕ) (new : List ℕ) : Type 0 where
  pub table : IsTable new
  pub takes : TakesFrom (pieces_of cells) order from unit (pieces_of new)
  pub block : TakesBlock (pieces_of cells) order unit (pieces_of new)
  pub taken : IsPiece (pieces_of new) (taken_at unit order)
  pub others : KeepsTaken (pieces_of cells) (pieces_of new)
  pub only : OnlyTakes (pieces_of cells) unit order (pieces_of new)
  pub units : units_in (pieces_of new) ≡ units_in (pieces_of cells)
  pub free : free_units (pieces_of new) + 2 ^ order ≡ free_units (pieces_of cells)
  pub within : unit + 2 ^ order ≤ units_in (pieces_of cells)
  pub apart : IsApartFromTaken (pieces_of cells) unit order

pub taking : (cells new : List ℕ) (order from unit : ℕ) → IsTable cells → order ≤ from → from ≤ 4 → bit_at (get_or cells unit 0) from ≡ 1 → LackBits cells order from → IsSplit cells new unit from order from
    → IsTaken cells order from unit new
taking cells new order from unit is le low bit lack split = record {
  table = table;
  takes = takes;
  block = block;
  taken = piece_here new unit order false small split.taken;
  others = λ v k h.
      let byte = piece_there cells (taken_at v k) is h in
      piece_here new v k false byte.0 (elim (same_side unit (2 ^ from) cells new v split.same) [ inl within ↦ absurd (none_taken cells unit from at low free v k byte.0 byte.1 within) | inr same ↦ same.1 ∙ byte.1 ]);
  only = λ v k h.
      let byte = piece_there new (taken_at v k) table h in
      elim (same_side unit (2 ^ from) cells new v split.same) [
        | inl within ↦ elim (cases_eq v unit) [
          | inl e ↦ inl (e, (code_same false false k order byte.0 small (sym byte.1 ∙ ap (λ x. get_or new x 0) e ∙ split.taken)).1)
          | inr differs ↦ absurd (omega (arith, byte.1, split.free v (omega (arith, within.0, differs)) within.1))
        ]
        | inr same ↦ inr (piece_here cells v k false byte.0 (sym same.1 ∙ byte.1))
      ];
  units = same_units cells new is table split.same.units;
  free = free_takes (pieces_of cells) (pieces_of new) order from unit takes le;
  within = omega (arith, there_fits cells unit from is at, less, (table_fills cells is).1);
  apart = λ v k h. elim (equal_or_apart (pieces_of cells) (table_pieces cells is) (free_at unit from) (taken_at v k) (piece_here cells unit from true low free) h) [
    | inl e ↦ let b : true ≡ false = ap (λ (p : Piece). p.free) e in absurd (cc)
    | inr apart ↦ elim apart [ inl end ↦ inl (omega (arith, end, less)) | inr end ↦ inr end ]
  ];
}
  where
    small : order ≤ 4
    small = omega (arith, le, low)

    less : 2 ^ order ≤ 2 ^ from
    less = pow_mono le

    free : get_or cells unit 0 ≡ code true from
    free = bit_there cells unit from is low bit

    at : IsThere cells unit from
    at = block_there cells unit from true is low free

    table : IsTable new
    table =
        table_next cells new (unit / 16) is (same_wider unit (2 ^ from) (16 * (unit / 16)) (2 ^ 4) cells new (omega arith) at.fits split.same)
        (replaced 4 cells new (16 * (unit / 16)) unit from true (omega arith) low (frame_start unit) (frame_tiled cells unit is at.there) (omega arith) (omega arith) free split.same split.tiled
        (λ e. let b : false ≡ true = (code_same false true order from small low (sym split.taken ∙ e)).0 in cc))

    takes : TakesFrom (pieces_of cells) order from unit (pieces_of new)
    takes = record {
      front = pieces_in cells 0 unit;
      back = behind cells unit (2 ^ from);
      was = in_three cells unit (2 ^ from) (there_fits cells unit from is at) ∙ ap (λ ps. pieces_in cells 0 unit ++ (ps ++ behind cells unit (2 ^ from))) (one_piece cells unit from true low free at.inside);
      now = in_three_new cells new unit (2 ^ from) (there_fits cells unit from is at) split.same ∙ ap (λ ps. pieces_in cells 0 unit ++ (ps ++ behind cells unit (2 ^ from))) split.pieces;
    }

    block : TakesBlock (pieces_of cells) order unit (pieces_of new)
    block = record {
      from = from;
      takes = takes;
      enough = le;
      least = least_some cells order from is lack;
    }

pub taken_held : (cells : List ℕ) (order unit : ℕ) → IsTable cells → IsPiece (pieces_of cells) (taken_at unit order) → IsBlockOrHalf cells unit order
taken_held cells order unit is there =
    let byte = piece_there cells (taken_at unit order) is there in
    let at = piece_block cells (taken_at unit order) is there in
    record { low = byte.0; there = at.there; aligned = at.aligned; at = unit; free = false; is = byte.1; place = inl refl }

pub record IsGiven (cells : List ℕ) (order unit : ℕ) (new : List ℕ) : Type 0 where
  pub low : order ≤ 4
  pub gives : Gives (pieces_of cells) unit order (pieces_of new)
  pub others : KeepsOthers (pieces_of cells) unit (pieces_of new)
  pub only : OnlyGives (pieces_of cells) unit (pieces_of new)
  pub units : units_in (pieces_of new) ≡ units_in (pieces_of cells)
  pub free : free_units (pieces_of new) ≡ free_units (pieces_of cells) + 2 ^ order

-- a taken block in its place
pub taken_was : (cells : List ℕ) (order unit : ℕ) → IsTable cells → IsPiece (pieces_of cells) (taken_at unit order) → pieces_of cells ≡ pieces_in cells 0 unit ++ taken_at unit order ∷ behind cells unit (2 ^ order)
taken_was cells order unit is there =
    let at = piece_block cells (taken_at unit order) is there in
    let byte = piece_there cells (taken_at unit order) is there in
    in_three cells unit (2 ^ order) (there_fits cells unit order is at)
    ∙ ap (λ ps. pieces_in cells 0 unit ++ (ps ++ behind cells unit (2 ^ order))) (one_piece cells unit order false byte.0 byte.1 at.inside)

pub giving : (cells new : List ℕ) (order unit : ℕ) → IsTable cells → IsPiece (pieces_of cells) (taken_at unit order) → IsTable new → IsCleared cells unit order (16 * (unit / 16)) 4 new → IsGiven cells order unit new
giving cells new order unit is there table gone = record {
  low = byte.0;
  gives = gives;
  others = λ v k h differs.
      let byte = piece_there cells (taken_at v k) is h in
      piece_here new v k false byte.0 (elim (gone.kept v) [
        | inl within ↦ absurd (omega (arith, byte.1, at.inside v (omega (arith, within.0, differs)) within.0.1))
        | inr (out, kept) ↦ elim kept [ inl same ↦ same ∙ byte.1 | inr merged ↦ absurd (omega (arith, byte.1, merged.0)) ]
      ]);
  only = λ v k h.
      let byte = piece_there new (taken_at v k) table h in
      elim (gone.kept v) [
        | inl within ↦ absurd (omega (arith, byte.1, within.1))
        | inr (out, kept) ↦ elim kept [
          | inl same ↦ (
            λ e. elim out [ inl lt ↦ omega (arith, lt, e) | inr le ↦ omega (arith, le, e, pow_pos order) ],
            piece_here cells v k false byte.0 (sym same ∙ byte.1),
          )
          | inr merged ↦ absurd (omega (arith, byte.1, merged.1))
        ]
      ];
  units = same_units cells new is table gone.same.units;
  free = free_gives (pieces_of cells) (pieces_of new) unit order gives;
}
  where
    at : IsThere cells unit order
    at = piece_block cells (taken_at unit order) is there

    byte : (order ≤ 4) × (get_or cells unit 0 ≡ code false order)
    byte = piece_there cells (taken_at unit order) is there

    gives : Gives (pieces_of cells) unit order (pieces_of new)
    gives = record {
      front = pieces_in cells 0 unit;
      back = behind cells unit (2 ^ order);
      was = taken_was cells order unit is there;
      merges = gone.merges;
    }
