use Rattle.std.specs.Prelude.{◌≡◌, ℕ, ◌-◌, ◌^◌, ◌≤◌, Bool, true, false, List, [], Option, Some, None, option_map, Result, Ok, Err, codes, if◌then◌else◌}
use Rattle.sizes.specs.declared.TheConstants.{MOST_FRAMES}
use Rattle.std.specs.Str.{bytes_eq}
use Rattle.std.specs.Str.Parse.{digits_value, without_leading_plus}
use Rattle.clap.specs.Words.{App, Row, Rule, Text, fault_of, first_of, found_of, matches_of, new_app, new_rule, rows_of, with_rule}
use Rattle.clap.specs.Simple.{on_top}
use Rattle.clap.specs.Walk.{is_empty}
use Rattle.clap.specs.declared.error.kind.ErrorKind.{ErrorKind}
use Rattle.clap.specs.declared.error.kind.ErrorKind.TheVariants.{OutOfMemory}
use Rattle.clap.specs.declared.parser.matches.ArgMatches.{ArgMatches}
use Rattle.clap.specs.ValueTests.{is_unsigned_in}
use Rattle.clap.specs.declared.builder.action.ArgAction.TheVariants.{Set, SetTrue}
use Rattle.overlay_top.specs.declared.words.Settings.{Settings}
use Rattle.overlay_top.specs.declared.words.TheConstants.{FRAMES, QUANTUM, MOST_QUANTUM}
use Rattle.overlay_top.specs.declared.words.WordsError.{WordsError}
use Rattle.overlay_top.specs.declared.words.WordsError.TheVariants.{Refused, Memory}

-- The command, as `clap` describes it: three options with a value each, two flags without one, and nothing else; its name isn't among
-- the words.
abbrev pub option_of : Text → Rule
option_of name = record (new_rule name) { long = Some name; action = Some Set }

abbrev pub flag_of : Text → Rule
flag_of name = record (new_rule name) { long = Some name; action = Some SetTrue }

unfoldable pub command_line : App
command_line =
    with_rule (with_rule (with_rule (with_rule (with_rule (on_top (λ shape. record shape { no_binary_name = true; disable_help_flag = true }) (new_app (codes "overlay-run")))
    (option_of (codes "frames"))) (option_of (codes "quantum"))) (option_of (codes "make"))) (flag_of (codes "m")))
    (flag_of (codes "calls"))

-- The number of a text within a range, as Rust's `parse` reads one.
abbrev pub parsed_in : ℕ → ℕ → Text → Option ℕ
parsed_in least most text = if is_unsigned_in least most text then Some (digits_value 10 (without_leading_plus text)) else None

-- the number of an option, from 1 on: the default where it isn't given
abbrev pub option_number : ℕ → ℕ → Option Text → Option ℕ
option_number default most None = Some default
option_number default most (Some text) = parsed_in 1 most text

-- the seed of an option, of 64 bits: none is set where it isn't given
abbrev pub seed_of : Option Text → Option (Option ℕ)
seed_of None = Some None
seed_of (Some text) = option_map Some (parsed_in 0 (2 ^ 64 - 1) text)

-- whether a flag is given: its value is a text, which is `false` where it isn't
abbrev pub is_set : Option Text → Bool
is_set None = false
is_set (Some text) = bytes_eq text (codes "true")

abbrev pub settings_from : Option ℕ → Option ℕ → Option (Option ℕ) → Bool → Bool → Option Settings
settings_from (Some frames) (Some quantum) (Some seed) extension calls =
    Some (record { frames = frames; quantum = quantum; seed = seed; extension = extension; calls = calls })
settings_from (Some frames) (Some quantum) None extension calls = None
settings_from (Some frames) None seed extension calls = None
settings_from None quantum seed extension calls = None

-- What the options set, by the values that `clap` found.
abbrev pub settings_in : List Row → Option Settings
settings_in rows =
    settings_from (option_number FRAMES MOST_FRAMES (first_of (codes "frames") rows)) (option_number QUANTUM MOST_QUANTUM (first_of (codes "quantum") rows))
    (seed_of (first_of (codes "make") rows)) (is_set (first_of (codes "m") rows)) (is_set (first_of (codes "calls") rows))

-- What words set, where they are the command's.
unfoldable pub settings_of : List Text → Option Settings
settings_of words = if is_empty (fault_of command_line words) then settings_in (matches_of command_line words) else None

-- the seed that they set, if any
abbrev pub seed_in : Option Settings → Option ℕ
seed_in None = None
seed_in (Some settings) = settings.seed

abbrev pub seed_set : List Text → Option ℕ
seed_set words = seed_in (settings_of words)

-- the range of what is set
abbrev pub IsFromOne : ℕ → ℕ → Type 0
IsFromOne most number = (1 ≤ number) × (number ≤ most)

abbrev pub AreInRange : Settings → Type 0
AreInRange settings = IsFromOne MOST_FRAMES settings.frames × IsFromOne MOST_QUANTUM settings.quantum

-- what `clap` finds in them, and what reading them gives; for want of memory neither says anything
abbrev pub words_refusal : ErrorKind → WordsError
words_refusal OutOfMemory = Memory
words_refusal kind = Refused

abbrev pub MatchesWords : List Text → Result ArgMatches WordsError → Type 0
MatchesWords words (Ok matches) = (fault_of command_line words ≡ []) × (rows_of (found_of matches) ≡ matches_of command_line words)
MatchesWords words (Err Refused) = is_empty (fault_of command_line words) ≡ false
MatchesWords words (Err Memory) = Unit {0}

abbrev pub ReadsWords : List Text → Result Settings WordsError → Type 0
ReadsWords words (Ok settings) = settings_of words ≡ Some settings
ReadsWords words (Err Refused) = settings_of words ≡ None
ReadsWords words (Err Memory) = Unit {0}
