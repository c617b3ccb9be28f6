use Rattle.std.specs.Prelude.{◌≡◌, ℕ, ◌≤◌, List, [], ◌++◌, ◌+◌, length, Result, Ok, Err}
use Rattle.sizes.specs.declared.TheConstants.{MOST_SCRIPT_BYTES}
use Rattle.overlay_top.specs.declared.reading.ReadError.{ReadError}
use Rattle.overlay_top.specs.declared.reading.ReadError.TheVariants.{Failed, TooLong, Memory}

-- What reading a script takes of a source.

-- so many bytes, or at most so many, were taken from the front
abbrev pub Took : ℕ → List ℕ → List ℕ → Type 0
Took n before after = (taken : List ℕ) × (before ≡ taken ++ after) × (length taken ≡ n)

abbrev pub TookAtMost : ℕ → List ℕ → List ℕ → Type 0
TookAtMost n before after = (taken : List ℕ) × (before ≡ taken ++ after) × (length taken ≤ n)

-- all of what was left, and nothing is left of it
abbrev pub IsRead : List ℕ → List ℕ → List ℕ → Type 0
IsRead before script after = (script ≡ before) × (after ≡ [])

-- Where it isn't read: a failure comes after at most as many bytes as a script may have; what is too long
-- was read one byte further; and want of memory comes after some of it.
abbrev pub IsUnread : {Script : Type 0} → List ℕ → List ℕ → Result Script ReadError → Type 0
IsUnread before after (Ok script) = Unit {0}
IsUnread before after (Err Failed) = TookAtMost MOST_SCRIPT_BYTES before after
IsUnread before after (Err TooLong) = Took (MOST_SCRIPT_BYTES + 1) before after
IsUnread before after (Err Memory) = Unit {0}
