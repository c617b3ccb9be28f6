use Rattle.std.specs.Prelude.{ℕ, ◌+◌, ◌-◌, ◌*◌, ◌%◌, ◌==◌, List, ◌++◌, codes, decimal, if◌then◌else◌}
use Rattle.std.specs.List.{flat_map, range_with_len}
use Rattle.workload.specs.declared.script.TheConstants.{ROUNDS}
use Rattle.workload.specs.Draws.{draw}

-- The script of a seed, as text. Its numbers are decimal.

-- the lines in front of the rounds: the program is loaded, its process gets a number of its own, and runs
abbrev pub first_text : ℕ → List ℕ
first_text drawn = codes "load gen.elf\nset 1 x5 " ++ decimal (drawn + 1) ++ codes "\nrun 100000\n"

-- the command of a round: its first draw says which it is, the second of which process, the third the name or the number
abbrev pub round_command : ℕ → List ℕ → List ℕ → List ℕ → List ℕ
round_command kind process name number =
    if kind == 0 then codes "fork " ++ process
    else if kind == 1 then codes "speculate " ++ process
    else if kind == 2 then codes "commit " ++ process
    else if kind == 3 then codes "discard " ++ process
    else if kind == 4 then codes "promote " ++ process ++ codes " all"
    else if kind == 5 then codes "checkpoint " ++ process ++ codes " " ++ name
    else if kind == 6 then codes "restore " ++ process ++ codes " " ++ name
    else codes "set " ++ process ++ codes " x5 " ++ number

abbrev pub command_text : ℕ → ℕ → ℕ → List ℕ
command_text a b c = round_command (a % 8) (decimal (1 + b % 6)) (codes "c" ++ decimal (c % 4)) (decimal (c + 1)) ++ codes "\n"

-- the lines of round r, from 1
abbrev pub round_text : ℕ → ℕ → List ℕ
round_text seed r = command_text (draw seed (3 * r - 1)) (draw seed (3 * r)) (draw seed (3 * r + 1)) ++ codes "run 20000\n"

unfoldable pub rounds : List ℕ
rounds = range_with_len 1 ROUNDS

unfoldable pub made_script : ℕ → List ℕ
made_script seed = first_text (draw seed 1) ++ flat_map (round_text seed) rounds ++ codes "compact\nlist\nstats\n"
