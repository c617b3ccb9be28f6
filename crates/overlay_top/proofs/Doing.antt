use Rattle.std.proofs.Common.{◌≡◌, ℕ, List, sym, refl, Option, Some, None, Result, Ok, Err}
use Rattle.ovl_io.specs.Memory.{Memory}
use Rattle.ovl_io.specs.declared.sink.Sink.{Ghosts as SinkOf}
use Rattle.machine_core.specs.Process.{Process}
use Rattle.command_core.specs.State.{State}
use Rattle.command_core.specs.Sessions.{InSession}
use Rattle.command_core.specs.Commands.{Performed, prints_of, prints_read, regs_of}
use Rattle.command_core.specs.LikeLaws.{states_same}
use Rattle.overlay_top.specs.Sending.{SendsText}
use Rattle.overlay_top.specs.Running.{DoesCommand, TakesOn}

-- What a command without a file comes to, where its text was sent whole.

pub turns_done : {K E : Type 0} (k : SinkOf K) (start now : K) (done : Performed State) (old new : InSession) (sent : Result (Unit {0}) E) (x : Unit {0}) → sent ≡ Ok x
    → TakesOn k start now done old new sent → DoesCommand k start now done old new (Ok tt)
turns_done k start now done old new (Ok unit) x is takes = record { ends = (takes.sends.0, takes.sends.1, takes.after); modes = takes.modes }
turns_done k start now done old new (Err e) x is takes = cc

pub text_done : {K E : Type 0} (k : SinkOf K) (start now : K) (done : Performed State) (session : InSession) (sent : Result (Unit {0}) E) (x : Unit {0}) → sent ≡ Ok x
    → done.after ≡ session.state → SendsText k start done.text now sent → DoesCommand k start now done session session (Ok tt)
text_done k start now done session (Ok unit) x is same sends =
    record { ends = (sends.0, sends.1, states_same session.state done.after (sym same)); modes = refl }
text_done k start now done session (Err e) x is same sends = cc

-- what is printed of a process leaves the state as it is
pub regs_keep : (p : ℕ) (o : Option Process) (state : State) → (regs_of p o state).after ≡ state
regs_keep p None state = refl
regs_keep p (Some process) state = refl

read_keep : (text : Memory → List ℕ) (memory : Memory) (o : Option ℕ) (state : State) → (prints_read text memory o state).after ≡ state
read_keep text memory None state = refl
read_keep text memory (Some at) state = refl

pub prints_keep : (address n : ℕ) (text : Memory → List ℕ) (o : Option Process) (state : State) → (prints_of address n text o state).after ≡ state
prints_keep address n text None state = refl
prints_keep address n text (Some process) state = read_keep text process.memory _ state
