use Rattle.std.proofs.Common.{◌≡◌, ℕ, ◌%◌, ◌==◌, Bool, true, false, cond, [], refl}
use Rattle.ovl_io.specs.Memory.{Memory}
use Rattle.rv_execute.specs.declared.action.Action.TheVariants.{Link, Goto}
use Rattle.rv_execute.specs.Registers.{Registers}
use Rattle.rv_execute.specs.Execution.{Execution, effect}

-- Jumps call no memory.

either : (b : Bool) (x y : Execution) → x.calls ≡ [] → y.calls ≡ [] → (cond b x y).calls ≡ []
either true x y h k = h
either false x y h k = k

pub link_calls : (target rd : ℕ) (regs : Registers) (memory : Memory) → (effect (Link target) rd regs memory).calls ≡ []
link_calls target rd regs memory = either (target % 4 == 0) _ _ refl refl

pub go_to_calls : (target rd : ℕ) (regs : Registers) (memory : Memory) → (effect (Goto target) rd regs memory).calls ≡ []
go_to_calls target rd regs memory = either (target % 4 == 0) _ _ refl refl
