use Rattle.std.proofs.Common.{◌≡◌, ℕ, ◌+◌, ◌||◌, Bool, false, subst, List, [], ◌∷◌, ◌++◌, map, ap, sym, ◌∙◌, refl, arith, append_assoc, Result, Ok, Err}
use Rattle.std.specs.List.{filter_map, list_any}
use Rattle.script_text.specs.declared.command.Command.{Command}
use Rattle.script_text.specs.declared.command.ScriptError.{ScriptError}
use Rattle.script_text.specs.declared.command.ScriptError.TheVariants.{Line, Memory}
use Rattle.script_text.specs.declared.command.Meaning.{Meaning}
use Rattle.script_text.specs.declared.command.Meaning.TheVariants.{Does, Nothing, Outside}
use Rattle.script_text.specs.Lines.{script_lines}
use Rattle.script_text.specs.Script.{meaning_of, meanings, and_then, said_by, commands_from, commands_of, Parses, TellsCommands, is_outside, command_in, IsFirstOutside}

-- What a script says, by what its first lines say.

-- commands, and then what is told
abbrev pub behind : List Command → Result (List Command) ℕ → Result (List Command) ℕ
behind commands (Ok more) = Ok (commands ++ more)
behind commands (Err k) = Err k

behind_none : (r : Result (List Command) ℕ) → r ≡ behind [] r
behind_none (Ok more) = refl
behind_none (Err k) = refl

behind_one : (commands : List Command) (command : Command) (r : Result (List Command) ℕ)
    → behind commands (and_then command r) ≡ behind (commands ++ command ∷ []) r
behind_one commands command (Ok more) = ap Ok (sym (append_assoc commands (command ∷ []) more))
behind_one commands command (Err k) = refl

-- no line yet
pub none_said : (script : List ℕ) (commands : List Command) → commands ≡ [] → commands_of script ≡ behind commands (commands_from 1 (meanings script))
unfolding commands_of
none_said script commands none =
    behind_none (commands_from 1 (meanings script)) ∙ ap (λ cs. behind cs (commands_from 1 (meanings script))) (sym none)

next_said : (k : ℕ) (rest line left : List ℕ) (meaning : Meaning) → script_lines rest ≡ line ∷ script_lines left → meaning ≡ meaning_of line
    → commands_from k (meanings rest) ≡ said_by k meaning (commands_from (k + 1) (meanings left))
next_said k rest line left meaning lines is =
    ap (λ ls. commands_from k (map meaning_of ls)) lines ∙ ap (λ (m : Meaning). said_by k m (commands_from (k + 1) (meanings left))) (sym is)

-- a line that is a command, one that is none, and one that is outside
pub command_said : (script rest line left : List ℕ) (k : ℕ) (commands new : List Command) (command : Command)
    → commands_of script ≡ behind commands (commands_from k (meanings rest)) → script_lines rest ≡ line ∷ script_lines left
    → Does command ≡ meaning_of line → new ≡ commands ++ command ∷ [] → commands_of script ≡ behind new (commands_from (k + 1) (meanings left))
command_said script rest line left k commands new command said lines is pushed =
    said ∙ ap (behind commands) (next_said k rest line left (Does command) lines is)
    ∙ behind_one commands command (commands_from (k + 1) (meanings left))
    ∙ ap (λ cs. behind cs (commands_from (k + 1) (meanings left))) (sym pushed)

pub nothing_said : (script rest line left : List ℕ) (k : ℕ) (commands : List Command)
    → commands_of script ≡ behind commands (commands_from k (meanings rest)) → script_lines rest ≡ line ∷ script_lines left
    → Nothing ≡ meaning_of line → commands_of script ≡ behind commands (commands_from (k + 1) (meanings left))
nothing_said script rest line left k commands said lines is =
    said ∙ ap (behind commands) (next_said k rest line left Nothing lines is)

-- What is told of lines, of which the first is line k, as far as their value goes.
abbrev Told : ℕ → List Meaning → Result (List Command) ℕ → Type 0
Told k lines (Ok commands) = (list_any is_outside lines ≡ false) × (commands ≡ filter_map command_in lines)
Told k lines (Err j) = (first : ℕ) × (j ≡ k + first) × IsFirstOutside lines (first + 1)

one_later : (meaning : Meaning) (more : List Meaning) (n : ℕ) → is_outside meaning ≡ false → IsFirstOutside more (n + 1) → IsFirstOutside (meaning ∷ more) (n + 1 + 1)
one_later meaning more n inside first = record {
  before = meaning ∷ first.before;
  behind = first.behind;
  are = ap (λ ms. meaning ∷ ms) first.are;
  place = omega (arith, first.place);
  none_before = ap (λ (t : Bool). t || list_any is_outside first.before) inside ∙ first.none_before;
}

told_behind : (k : ℕ) (meaning : Meaning) (more : List Meaning) (r : Result (List Command) ℕ) → Told (k + 1) more r → Told k (meaning ∷ more) (said_by k meaning r)
told_behind k (Does command) more (Ok commands) told = (told.0, ap (λ cs. command ∷ cs) told.1)
told_behind k (Does command) more (Err j) told = (told.0 + 1, omega (arith, told.1), one_later (Does command) more told.0 refl told.2)
told_behind k Nothing more (Ok commands) told = told
told_behind k Nothing more (Err j) told = (told.0 + 1, omega (arith, told.1), one_later Nothing more told.0 refl told.2)
told_behind k Outside more r told = (0, omega arith, record { before = []; behind = more; are = refl; place = refl; none_before = refl })

told_from : (k : ℕ) (lines : List Meaning) → Told k lines (commands_from k lines)
told_from k [] = (refl, refl)
told_from k (meaning ∷ more) = told_behind k meaning more (commands_from (k + 1) more) (told_from (k + 1) more)

-- The value of a script, line by line.
pub tells : {Commands : Type 0} (view : Commands → List Command) (script : List ℕ) (r : Result Commands ScriptError) → Parses view script r → TellsCommands view (meanings script) r
unfolding commands_of
tells view script (Ok commands) is = subst (Told 1 (meanings script)) is (told_from 1 (meanings script))
tells view script (Err (Line k)) is =
    let told = subst (Told 1 (meanings script)) is (told_from 1 (meanings script)) in
    let same : told.0 + 1 ≡ k = omega (arith, told.1) in
    subst (IsFirstOutside (meanings script)) same told.2
tells view script (Err Memory) is = tt
