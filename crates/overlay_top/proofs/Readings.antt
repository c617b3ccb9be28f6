use Rattle.std.proofs.Common.{◌≡◌, ◌∙◌, ◌⊎◌, inl, inr, ℕ, Bool, true, false, List, [], ◌∷◌, Option, Ok, Err, ap, codes, refl, rules, sym, subst}
use Rattle.sizes.specs.declared.TheConstants.{MOST_FRAMES}
use Rattle.clap.specs.Kinds.{IsAmong, Kinds}
use Rattle.clap.specs.Walk.{Text, is_empty}
use Rattle.clap.specs.Words.{fault_of, first_of, first_value, found_of, is_simple, is_simple_and_free, rows_of}
use Rattle.clap.specs.declared.error.kind.ErrorKind.{ErrorKind}
use Rattle.clap.specs.declared.error.kind.ErrorKind.TheVariants.{OutOfMemory}
use Rattle.clap.specs.declared.parser.matches.ArgMatches.{ArgMatches}
use Rattle.clap.proofs.WalkLemmas.{first_value-rows}
use Rattle.clap.proofs.OnLiterals.{clap_on_literals}
use Rattle.overlay_top.specs.declared.words.TheConstants.{FRAMES, QUANTUM, MOST_QUANTUM}
use Rattle.overlay_top.specs.declared.words.WordsError.{WordsError}
use Rattle.overlay_top.specs.declared.words.WordsError.TheVariants.{Refused, Memory}
use Rattle.overlay_top.specs.Words.{MatchesWords, ReadsWords, command_line, is_set, option_number, words_refusal, seed_of, settings_from, settings_in, settings_of}

-- The command is one of which `clap` says everything.

pub is_simple_line : is_simple command_line ≡ true
unfolding clap_on_literals command_line
is_simple_line = refl

pub is_free_line : is_simple_and_free command_line ≡ true
unfolding clap_on_literals command_line
is_free_line = refl

-- Words that it refuses.

is_some_kind : (kind : ErrorKind) (kinds : Kinds) → IsAmong kind kinds → is_empty kinds ≡ false
is_some_kind kind [] among = absurd among
is_some_kind kind (other ∷ kinds) among = search rules

unmatched : (words : List Text) (error : WordsError) → is_empty (fault_of command_line words) ≡ false → MatchesWords words (Err error)
unmatched words Refused fails = fails
unmatched words Memory fails = tt

pub refused : (words : List Text) (kind : ErrorKind) → (kind ≡ OutOfMemory) ⊎ IsAmong kind (fault_of command_line words)
    → MatchesWords words (Err (words_refusal kind))
refused words kind has = elim has [
  | inl memory ↦ subst (λ k. MatchesWords words (Err (words_refusal k))) (sym memory) tt
  | inr among ↦ unmatched words (words_refusal kind) (is_some_kind kind (fault_of command_line words) among)
]

-- What reading them gives, by what it finds.

pub unread : (words : List Text) (error : WordsError) → MatchesWords words (Err error) → ReadsWords words (Err error)
unfolding settings_of
unread words Refused fails = rw fails refl
unread words Memory fails = tt

pub set_by : (words : List Text) (matches : ArgMatches) → MatchesWords words (Ok matches)
    → settings_of words ≡ settings_in (rows_of (found_of matches))
unfolding settings_of
set_by words matches found = rw found.0 (ap settings_in (sym found.1))

-- What the options set, by the values that were looked up.

pub values_set : (matches : ArgMatches) (first second third fourth fifth : Option Text) (frames quantum : Option ℕ) (seed : Option (Option ℕ)) (extension calls : Bool)
    → first ≡ first_value (found_of matches) (codes "frames") → second ≡ first_value (found_of matches) (codes "quantum")
    → third ≡ first_value (found_of matches) (codes "make") → fourth ≡ first_value (found_of matches) (codes "m")
    → fifth ≡ first_value (found_of matches) (codes "calls")
    → frames ≡ option_number FRAMES MOST_FRAMES first → quantum ≡ option_number QUANTUM MOST_QUANTUM second → seed ≡ seed_of third
    → extension ≡ is_set fourth → calls ≡ is_set fifth → settings_from frames quantum seed extension calls ≡ settings_in (rows_of (found_of matches))
values_set matches first second third fourth fifth frames quantum seed extension calls is_first is_second is_third is_fourth is_fifth is_frames is_quantum is_seed is_extension is_calls =
    let row = first_value-rows (found_of matches) in
    let wide : Option ℕ = option_number FRAMES MOST_FRAMES (first_of (codes "frames") (rows_of (found_of matches))) in
    let long : Option ℕ = option_number QUANTUM MOST_QUANTUM (first_of (codes "quantum") (rows_of (found_of matches))) in
    let seeds : Option (Option ℕ) = seed_of (first_of (codes "make") (rows_of (found_of matches))) in
    let has_m : Bool = is_set (first_of (codes "m") (rows_of (found_of matches))) in
    ap (λ f. settings_from f quantum seed extension calls) (is_frames ∙ ap (option_number FRAMES MOST_FRAMES) (is_first ∙ row (codes "frames")))
    ∙ ap (λ q. settings_from wide q seed extension calls) (is_quantum ∙ ap (option_number QUANTUM MOST_QUANTUM) (is_second ∙ row (codes "quantum")))
    ∙ ap (λ s. settings_from wide long s extension calls) (is_seed ∙ ap seed_of (is_third ∙ row (codes "make")))
    ∙ ap (λ m. settings_from wide long seeds m calls) (is_extension ∙ ap is_set (is_fourth ∙ row (codes "m")))
    ∙ ap (settings_from wide long seeds has_m) (is_calls ∙ ap is_set (is_fifth ∙ row (codes "calls")))

pub set_by_parts : (extension calls : Bool) {frames frames_is quantum quantum_is : Option ℕ} {seed seed_is : Option (Option ℕ)} → frames ≡ frames_is → quantum ≡ quantum_is → seed ≡ seed_is
    → settings_from frames quantum seed extension calls ≡ settings_from frames_is quantum_is seed_is extension calls
set_by_parts extension calls {frames_is = frames_is} {quantum = quantum} {quantum_is = quantum_is} {seed = seed} frames_are quantum_are seed_are =
    ap (λ f. settings_from f quantum seed extension calls) frames_are ∙ ap (λ q. settings_from frames_is q seed extension calls) quantum_are
    ∙ ap (λ s. settings_from frames_is quantum_is s extension calls) seed_are
