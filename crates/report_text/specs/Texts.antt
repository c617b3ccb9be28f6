use Rattle.std.specs.Prelude.{ℕ, ◌/◌, ◌%◌, ◌==◌, ◌&&◌, not, nat_le, Bool, List, [], ◌∷◌, ◌++◌, codes, if◌then◌else◌}
use Rattle.ovl_io.specs.declared.process_state.ProcessState.{ProcessState}
use Rattle.ovl_io.specs.declared.process_state.ProcessState.TheVariants as state
use Rattle.report_text.specs.Digits.{hex_digit, in_decimal, address_text}
use Rattle.report_text.specs.Names.{kind_text}

-- Parts of lines.

-- whether a byte stands for itself: from 20 to 7E, but for the backslash
abbrev pub is_plain : ℕ → Bool
is_plain b = nat_le 32 b && nat_le b 126 && not (b == 92)

-- a byte that a process wrote: itself, or a backslash and two hexadecimal digits
abbrev pub byte_text : ℕ → List ℕ
byte_text b = if is_plain b then b ∷ [] else 92 ∷ hex_digit (b / 16) ∷ hex_digit (b % 16) ∷ []

-- a process's state by itself
abbrev pub bare_state_text : ProcessState → List ℕ
bare_state_text state.Running = codes "running"
bare_state_text (state.Exited exit) = codes "exited " ++ in_decimal exit
bare_state_text (state.Faulted kind at) = codes "faulted " ++ kind_text kind ++ codes " " ++ address_text at

-- a process's state, and whether it is speculating
abbrev pub state_text : ProcessState → Bool → List ℕ
state_text state speculating = bare_state_text state ++ (if speculating then codes " speculating" else [])

abbrev pub pages_text : ℕ → List ℕ
pages_text pages = codes " pages " ++ in_decimal pages
