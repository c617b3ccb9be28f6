use Rattle.std.proofs.Common.{◌≡◌, ℕ, ◌-◌, ◌^◌, ◌==◌, Bool, true, false, cond, List, [], ◌∷◌, Option, Some, None, inl, inr, refl}
use Rattle.std.specs.Prelude.{◌||◌}
use Rattle.std.proofs.Common.{subst, sym}
use Rattle.std.specs.Option.{option_map, option_map_or}
use Rattle.std.specs.FinMap.{get}
use Rattle.ovl_io.specs.Memory.{Access, Memory, bytes_at, denied_at}
use Rattle.ovl_io.specs.declared.turn.Turn.{Turn}
use Rattle.ovl_io.specs.declared.turn.Turn.TheVariants as turn
use Rattle.rv_execute.specs.Calls.{load_at}
use Rattle.rv_execute.specs.Registers.{Registers, register}
use Rattle.rv_execute.specs.Step.{answered, buffered, exit, printed, request, write, write_count}
use Rattle.machine_core.specs.Process.{Process}
use Rattle.machine_core.specs.Machine.{Machine, Wholes, wholes}
use Rattle.machine_core.specs.Turns.{guest_of, request_of, turn_asked}
use Rattle.report_text.specs.Answers.{HasPort}
use Rattle.self_speculation.specs.Requests.{IsAnswer, IsQuietTurn}

-- What a process writes goes to a port that has a line.

module _ (p : ℕ) (regs : Registers) (memory : Memory) where
  abbrev is_port : Bool
  is_port = (register regs 10 == 1) || (register regs 10 == 2)

  printed_port : (n : ℕ) (accesses : List Access) → is_port ≡ true → HasPort (printed n regs memory accesses).turn
  printed_port n accesses port = by_none (n == 0)
    where
      by_none : (b : Bool) → HasPort (cond b (answered 0 regs accesses) (record (answered n regs accesses) { turn = turn.Wrote (register regs 10, bytes_at memory (register regs 11) n) })).turn
      by_none true = tt
      by_none false = port

  write_port : HasPort (write regs memory).turn
  write_port = by_port is_port refl
    where
      by_denied : (o : Option ℕ) (accesses : List Access) → is_port ≡ true → HasPort (buffered o (write_count regs) regs memory accesses).turn
      by_denied None accesses port = printed_port (write_count regs) accesses port
      by_denied (Some at) accesses port = tt

      by_port : (b : Bool) → is_port ≡ b
          → HasPort (cond b (buffered (denied_at memory (load_at (register regs 11) (write_count regs))) (write_count regs) regs memory (load_at (register regs 11) (write_count regs) ∷ [])) (answered (2 ^ 64 - 9) regs [])).turn
      by_port true port = by_denied (denied_at memory (load_at (register regs 11) (write_count regs))) (load_at (register regs 11) (write_count regs) ∷ []) port
      by_port false port = tt

  request_port : HasPort (request p regs memory).turn
  request_port = by_tests (register regs 17 == 64) ((register regs 17 == 93) || (register regs 17 == 94)) (register regs 17 == 172)
    where
      by_tests : (a b c : Bool) → HasPort (cond a (write regs memory) (cond b (exit regs) (cond c (answered p regs []) (answered (2 ^ 64 - 38) regs [])))).turn
      by_tests true b c = write_port
      by_tests false true c = tt
      by_tests false false true = tt
      by_tests false false false = tt

asked_port : (state : Wholes) (p : ℕ) → HasPort (turn_asked state p)
asked_port state p = by_found (get state.processes p)
  where
    by_found : (o : Option Process) → HasPort (option_map_or (λ guest. (request_of p guest.process).turn) (option_map (guest_of state) o) turn.Stepped)
    by_found None = tt
    by_found (Some process) = request_port p process.registers process.memory

quiet_port : (t : Turn) → IsQuietTurn t → HasPort t
quiet_port turn.Stepped quiet = tt
quiet_port (turn.Full units limit) quiet = tt
quiet_port (turn.Wrote written) quiet = absurd quiet
quiet_port (turn.Exited code) quiet = tt
quiet_port (turn.Faulted kind address) quiet = tt

pub answer_port : (machine : Machine) (p : ℕ) (t : Turn) → IsAnswer p machine t → HasPort t
answer_port machine p t (inl is) = subst HasPort (sym is) (asked_port (wholes machine) p)
answer_port machine p t (inr quiet) = quiet_port t quiet
