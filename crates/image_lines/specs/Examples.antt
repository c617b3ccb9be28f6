use Rattle.std.specs.Prelude.{◌≡◌, [], ◌∷◌, codes, Ok, Err, refl}
use Rattle.hex.specs.Hex.{decode_pairs, encode_with}
use Rattle.image_lines.specs.Lines.{image_line}
use Rattle.image_lines.specs.Said.{is_line, is_whole, lines_in, piece_of, said_by, said_in}

-- Lines, as the checker computes them.

pub two_bytes_are : image_line (0x4F ∷ 0xAB ∷ []) ≡ codes "image 4fab\n"
unfolding image_line encode_with
two_bytes_are = refl

-- What files say: two bytes; or that a line is bad: of an empty file, of one with a capital letter, and of one whose first line of two is short.

pub two_bytes_said : said_by (codes "image 4fab\n") ≡ Ok (0x4F ∷ 0xAB ∷ [])
unfolding said_by said_in lines_in is_line piece_of image_line encode_with decode_pairs
two_bytes_said = refl

pub empty_said : said_by [] ≡ Err 1
unfolding said_by said_in lines_in
empty_said = refl

pub capital_said : said_by (codes "image 4fAb\n") ≡ Err 1
unfolding said_by said_in lines_in is_line piece_of image_line encode_with decode_pairs
capital_said = refl

pub short_said : said_by (codes "image 4f\nimage ab\n") ≡ Err 1
unfolding said_by said_in lines_in is_whole is_line piece_of image_line encode_with decode_pairs
short_said = refl
