use Rattle.std.specs.Prelude.{ℕ, ◌^◌, ◌<◌, IsTrue, List, Option, Some, None}
use Rattle.std.specs.Borrow.{Bor}
use Rattle.rv_decode.specs.declared.instruction.Instr.{Instr}
use Rattle.rv_decode.specs.declared.names.Format.{Format}
use Rattle.rv_decode.specs.Table.{row_of, is_base}
use Rattle.rv_decode.specs.Encodable.{HasRegisters, HasImmediate, IsEncodable}
use Rattle.asm_lines.specs.declared.items.Item.{Item as GivenItem}
use Rattle.asm_lines.specs.declared.items.Item.TheVariants as given
use Rattle.asm_lines.specs.declared.items.Target.{Target as GivenTarget}
use Rattle.asm_lines.specs.declared.items.Target.TheVariants as given_target
use Rattle.asm_lines.specs.declared.lines.Front.{Front as GivenFront}
use Rattle.asm_lines.specs.Words.{words}
use Rattle.asm_lines.specs.Kinds.{Target}
use Rattle.asm_lines.specs.Kinds.Target.{By, To}
use Rattle.asm_lines.specs.Items.{Item}
use Rattle.asm_lines.specs.Items.Item.{Plain, Reaching, Raw}
use Rattle.asm_lines.specs.Lines.{Front, front}

-- What the code's values say, with names and texts as bytes.

abbrev pub said_target : GivenTarget → Target
said_target (given_target.By n) = By n
said_target (given_target.To name) = To name.now

-- registers and where a branch or a jump goes
abbrev pub said_branch : ℕ × ℕ × GivenTarget → ℕ × ℕ × Target
said_branch p = (p.0, p.1, said_target p.2)

abbrev pub said_jump : ℕ × GivenTarget → ℕ × Target
said_jump p = (p.0, said_target p.1)

abbrev pub said : GivenItem → Item
said (given.Plain i) = Plain i
said (given.Reaching i name) = Reaching i name.now
said (given.Raw word) = Raw word

abbrev pub said_label : Option (Bor (List ℕ)) → Option (List ℕ)
said_label None = None
said_label (Some name) = Some name.now

abbrev pub said_front : GivenFront → Front
said_front f = front (said_label f.label) (words f.item.now)

-- an instruction of a row of RV64I whose immediate may come yet
pub record IsReaching (i : Instr) : Type 0 where
  pub listed : IsTrue (is_base i.name)
  pub registers : HasRegisters (row_of i.name).format i

abbrev pub GoesTo : Format → Target → Type 0
GoesTo f (By n) = HasImmediate f n
GoesTo f (To name) = Unit {0}

-- An item has a word: an instruction's fields are in their ranges, also where a label stands in place of the immediate.
abbrev pub IsSound : Item → Type 0
IsSound (Plain i) = IsEncodable i
IsSound (Reaching i name) = IsReaching i
IsSound (Raw word) = word < 2 ^ 32
