use Rattle.std.specs.Prelude.{◌≡◌, refl}
use Rattle.report_text.specs.declared.TheConstants.{LINE_ROOM, MOST_NAME, ROW_BYTES}

-- The sizes of the report's lines as numbers.

pub line_room_is : LINE_ROOM ≡ 16384
line_room_is = refl

pub row_bytes_is : ROW_BYTES ≡ 16
row_bytes_is = refl

pub most_name_is : MOST_NAME ≡ 32
most_name_is = refl
