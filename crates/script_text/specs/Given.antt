use Rattle.std.specs.Prelude.{◌≡◌, ℕ, ◌≤◌, ◌<◌, ◌^◌, nat_eq, true, List, [], ◌∷◌, length, Option, Some, None}
use Rattle.std.specs.List.{list_any, All}
use Rattle.ovl_io.specs.declared.perms.Perms.{Perms}
use Rattle.ovl_io.specs.Outside.{HasName}
use Rattle.sizes.specs.declared.TheConstants.{LAST_SPACE}
use Rattle.script_text.specs.declared.TheConstants.{MOST_CHECKPOINT_NAME, MOST_DUMPED, MOST_PAGES, MOST_POKED, MOST_TURNS, MOST_WORDS, PC_NUMBER}
use Rattle.script_text.specs.declared.command.Command.{Command}
use Rattle.script_text.specs.declared.command.Command.TheVariants.{Exec, Load, Asm, Fork, Run, Step, Checkpoint, Restore, Forget, Export, Import, Speculate, Commit, Discard, Promote, PromoteAll, Drop}
use Rattle.script_text.specs.declared.command.Command.TheVariants as command

-- What a command that a script gives asks for, and what holds of it.

-- the name of the file that a command asks for
abbrev pub asks : Command → Option (List ℕ)
asks (Exec name turns) = Some name
asks (Load name) = Some name
asks (Asm name) = Some name
asks (Import name base file) = Some file
asks (command.Fork p) = None
asks (command.Checkpoint p name) = None
asks (command.Restore p name) = None
asks (command.Forget name) = None
asks (command.Export name base) = None
asks (command.Speculate p) = None
asks (command.Commit p) = None
asks (command.Discard p) = None
asks (command.Promote p address) = None
asks (command.PromoteAll p) = None
asks (command.Dedup p address q other) = None
asks (command.DedupAll p q) = None
asks command.Compact = None
asks (command.Map p address n perms) = None
asks (command.Unmap p address n) = None
asks (command.Drop p) = None
asks (command.Poke p address bytes) = None
asks (command.Set p register value) = None
asks (command.Break p address) = None
asks (command.Unbreak p address) = None
asks (Run turns) = None
asks (Step p turns) = None
asks command.List = None
asks command.Stats = None
asks (command.Regs p) = None
asks (command.Dump p address count) = None
asks (command.Disasm p address words) = None

abbrev pub IsTurns : ℕ → Type 0
IsTurns n = (1 ≤ n) × (n ≤ MOST_TURNS)

abbrev pub IsProcess : ℕ → Type 0
IsProcess p = (1 ≤ p) × (p ≤ LAST_SPACE)

abbrev pub IsAddress : ℕ → Type 0
IsAddress address = address < 2 ^ 64

-- a register by its number, or the pc
abbrev pub IsRegister : ℕ → Type 0
IsRegister register = register ≤ PC_NUMBER

abbrev pub IsPages : ℕ → Type 0
IsPages n = (1 ≤ n) × (n ≤ MOST_PAGES)

-- reading, reading and writing, or executing alone; or executing with one of the former
abbrev pub IsPerms : Perms → Type 0
IsPerms perms = list_any (nat_eq perms.0) (4 ∷ 6 ∷ 1 ∷ 5 ∷ 7 ∷ []) ≡ true

-- a checkpoint's name has 1 to 32 bytes
abbrev pub IsCheckpoint : List ℕ → Type 0
IsCheckpoint name = (1 ≤ length name) × (length name ≤ MOST_CHECKPOINT_NAME)

-- bytes to store: 1 to 4096
abbrev pub IsPoked : List ℕ → Type 0
IsPoked bytes = (1 ≤ length bytes) × (length bytes ≤ MOST_POKED) × All (λ b. b < 256) bytes

-- a number of bytes to print, and one of words
abbrev pub IsDumped : ℕ → Type 0
IsDumped count = (1 ≤ count) × (count ≤ MOST_DUMPED)

abbrev pub IsWords : ℕ → Type 0
IsWords words = (1 ≤ words) × (words ≤ MOST_WORDS)

-- Each value lies in the range of its kind.
abbrev pub IsGiven : Command → Type 0
IsGiven (Exec name turns) = HasName name × IsTurns turns
IsGiven (Load name) = HasName name
IsGiven (Asm name) = HasName name
IsGiven (Fork p) = IsProcess p
IsGiven (Run turns) = IsTurns turns
IsGiven (Step p turns) = IsProcess p × IsTurns turns
IsGiven (Checkpoint p name) = IsProcess p × IsCheckpoint name
IsGiven (Restore p name) = IsProcess p × IsCheckpoint name
IsGiven (Forget name) = IsCheckpoint name
IsGiven (Export name base) = IsCheckpoint name × IsCheckpoint base
IsGiven (Import name base file) = IsCheckpoint name × IsCheckpoint base × HasName file
IsGiven (Speculate p) = IsProcess p
IsGiven (Commit p) = IsProcess p
IsGiven (Discard p) = IsProcess p
IsGiven (Promote p address) = IsProcess p × IsAddress address
IsGiven (PromoteAll p) = IsProcess p
IsGiven (command.Dedup p address q other) = IsProcess p × IsAddress address × IsProcess q × IsAddress other
IsGiven (command.DedupAll p q) = IsProcess p × IsProcess q
IsGiven command.Compact = Unit {0}
IsGiven (command.Map p address pages perms) = IsProcess p × IsAddress address × IsPages pages × IsPerms perms
IsGiven (command.Unmap p address pages) = IsProcess p × IsAddress address × IsPages pages
IsGiven (Drop p) = IsProcess p
IsGiven command.List = Unit {0}
IsGiven (command.Regs p) = IsProcess p
IsGiven (command.Dump p address count) = IsProcess p × IsAddress address × IsDumped count
IsGiven (command.Poke p address bytes) = IsProcess p × IsAddress address × IsPoked bytes
IsGiven (command.Set p register value) = IsProcess p × IsRegister register × IsAddress value
IsGiven (command.Break p address) = IsProcess p × IsAddress address
IsGiven (command.Unbreak p address) = IsProcess p × IsAddress address
IsGiven (command.Disasm p address words) = IsProcess p × IsAddress address × IsWords words
IsGiven command.Stats = Unit {0}
