use Rattle.std.specs.Prelude.{ℕ, Bool, List, Option, refl}
use Rattle.std.specs.Coded.{Coded, code_by, coded×, coded_bool, coded_ℕ, coded_list, coded_option}
use Rattle.std.specs.FinMap.{code}
use Rattle.std.specs.FinSet.{code as set_code}
use Rattle.breakpoints.specs.Breakpoints.{Breaks}
use Rattle.ovl_io.specs.Memory.{Memory}
use Rattle.ovl_io.specs.declared.process_state.ProcessState.{ProcessState}
use Rattle.ovl_io.specs.contracts.process_state.ProcessState as state
use Rattle.rv_execute.specs.Registers.{Registers}
use Rattle.machine_core.specs.Process.{Process, Whole}
use Rattle.ledger.specs.Ledger.{Holding, Ledger}
use Rattle.machine_core.specs.Machine.{Processes, Wholes}
use Rattle.machine_core.specs.Codes.{bytes_code}
use Rattle.translation_cache.specs.Bare.{BareTranslations}
use Rattle.translation_cache.specs.Codes.{translations_code}
use base.Stored.{coded_unit}
use Rattle.command_core.specs.declared.modes.Modes.{Modes}
use Rattle.command_core.specs.State.{Checkpoint, State}
use Rattle.command_core.specs.Sessions.{Bases, InSession}

-- How sessions are told apart as values: by their parts.

abbrev pub registers_code : Coded Registers
registers_code = code_by (ℕ × List ℕ) (coded× coded_ℕ (coded_list coded_ℕ)) (λ r. (r.pc, r.x)) (λ t. record { pc = t.0; x = t.1 }) (λ _. refl)

abbrev pub whole_code : Coded Whole
whole_code =
    code_by (Registers × (ProcessState × Memory)) (coded× registers_code (coded× state.the_row.coded bytes_code)) (λ w. (w.registers, (w.state, w.memory)))
    (λ t. record { registers = t.0; state = t.1.0; memory = t.1.1 }) (λ _. refl)

abbrev pub process_code : Coded Process
process_code =
    code_by (Registers × (ProcessState × (Memory × Option Whole)))
    (coded× registers_code (coded× state.the_row.coded (coded× bytes_code (coded_option whole_code))))
    (λ p. (p.registers, (p.state, (p.memory, p.kept))))
    (λ t. record { registers = t.0; state = t.1.0; memory = t.1.1.0; kept = t.1.1.1 }) (λ _. refl)

abbrev pub processes_code : Coded Processes
processes_code = code coded_ℕ process_code

abbrev pub holding_code : Coded Holding
holding_code = code_by (ℕ × List ℕ) (coded× coded_ℕ (coded_list coded_ℕ)) (λ h. (h.origin, h.own)) (λ t. record { origin = t.0; own = t.1 }) (λ _. refl)

abbrev pub ledger_code : Coded Ledger
ledger_code = code coded_ℕ (code coded_ℕ holding_code)

abbrev pub wholes_code : Coded Wholes
wholes_code =
    code_by (Processes × (Ledger × (ℕ × (Bool × BareTranslations))))
    (coded× processes_code (coded× ledger_code (coded× coded_ℕ (coded× coded_bool (translations_code coded_unit)))))
    (λ w. (w.processes, (w.ledger, (w.frames, (w.extension, w.translations)))))
    (λ t. record { processes = t.0; ledger = t.1.0; frames = t.1.1.0; extension = t.1.1.1.0; translations = t.1.1.1.1 }) (λ _. refl)

abbrev pub checkpoint_code : Coded Checkpoint
checkpoint_code =
    code_by (List ℕ × (ℕ × Whole)) (coded× (coded_list coded_ℕ) (coded× coded_ℕ whole_code)) (λ c. (c.name, (c.space, c.whole)))
    (λ t. record { name = t.0; space = t.1.0; whole = t.1.1 }) (λ _. refl)

abbrev pub breaks_code : Coded Breaks
breaks_code = code coded_ℕ (set_code coded_ℕ)

abbrev pub state_code : Coded State
state_code =
    code_by (Wholes × (List Checkpoint × Breaks)) (coded× wholes_code (coded× (coded_list checkpoint_code) breaks_code))
    (λ s. (s.wholes, (s.checkpoints, s.breakpoints)))
    (λ t. record { wholes = t.0; checkpoints = t.1.0; breakpoints = t.1.1 }) (λ _. refl)

abbrev pub bases_code : Coded Bases
bases_code = code coded_ℕ bytes_code

abbrev pub modes_code : Coded Modes
modes_code =
    code_by (ℕ × (ℕ × (Bool × Bool))) (coded× coded_ℕ (coded× coded_ℕ (coded× coded_bool coded_bool))) (λ m. (m.frames, (m.quantum, (m.extension, m.calls))))
    (λ t. record { frames = t.0; quantum = t.1.0; extension = t.1.1.0; calls = t.1.1.1 }) (λ _. refl)

abbrev pub session_code : Coded InSession
session_code =
    code_by (State × (Modes × (Bases × List ℕ))) (coded× state_code (coded× modes_code (coded× bases_code (coded_list coded_ℕ))))
    (λ s. (s.state, (s.modes, (s.bases, s.free_blocks))))
    (λ t. record { state = t.0; modes = t.1.0; bases = t.1.1.0; free_blocks = t.1.1.1 }) (λ _. refl)
