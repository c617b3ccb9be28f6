use Rattle.image_lines.proofs.DigitPairs.{bytes_behind}
use Rattle.image_lines.proofs.digits.read_full_line.Goals as goal

pub returns-in_ok-extend_from_slice-in-Some-full_line : goal.returns-in_ok-extend_from_slice-in-Some-full_line
returns-in_ok-extend_from_slice-in-Some-full_line c =
    bytes_behind c.args.out.now.items c.extend_from_slice.new.self.items c.in-Some-full_line.bytes c.args.text.now c.in-Some.digits.now c.in-Some.rest.now 128
    c.in-Some-full_line.ensures c.in_ok-extend_from_slice-in-Some-full_line.ensures.items c.in-Some.ensures.cases.0 c.in-Some.ensures.cases.1
