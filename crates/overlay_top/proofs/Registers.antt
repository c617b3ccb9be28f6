use Rattle.std.proofs.Common.{◌≡◌, ℕ, suc, ◌+◌, ◌-◌, ◌<◌, ◌≤◌, List, [], ◌++◌, ap, sym, subst, ◌∙◌, arith, Option, Some, None, Result, Ok, Err}
use Rattle.rv_execute.specs.Registers.{Registers}
use Rattle.report_text.specs.Lines.{register_line}
use Rattle.report_text.specs.declared.answer.Answer.TheVariants.{Refused}
use Rattle.report_text.specs.declared.answer.Code.{Code}
use Rattle.report_text.specs.declared.answer.Code.TheVariants.{NoProcess}
use Rattle.report_text.specs.Answers.{HasCodeLine, answer_text}
use Rattle.machine_core.specs.Process.{Process}
use Rattle.command_core.specs.declared.session.ProcessView.{ProcessView}
use Rattle.command_core.specs.State.{State}
use Rattle.command_core.specs.Commands.{registers_from, regs_head, regs_of, register_value}
use Rattle.command_core.specs.Looks.{looked_at, process_view}
use Rattle.overlay_top.specs.Printing.{view_text}

-- The lines of registers from one on: its line, and those from the next on.

one_more : (registers : Registers) (i n m : ℕ) → n ≡ suc m
    → registers_from registers i n ≡ register_line i (register_value registers i) ++ registers_from registers (i + 1) m
unfolding registers_from
one_more registers i n m same = ap (registers_from registers i) same

pub next_register : (registers : Registers) (i value : ℕ) (line : List ℕ) → i < 32 → value ≡ register_value registers i → line ≡ register_line i value
    → registers_from registers i (32 - i) ≡ line ++ registers_from registers (i + 1) (32 - (i + 1))
next_register registers i value line small same is =
    one_more registers i (32 - i) (32 - (i + 1)) (omega (arith, small))
    ∙ ap (λ bs. bs ++ registers_from registers (i + 1) (32 - (i + 1))) (sym (is ∙ ap (register_line i) same))

none_from : (registers : Registers) (i n : ℕ) → n ≡ 0 → registers_from registers i n ≡ []
unfolding registers_from
none_from registers i n is = ap (registers_from registers i) is

pub none_left : (registers : Registers) (i : ℕ) → 32 ≤ i → registers_from registers i (32 - i) ≡ []
none_left registers i all = none_from registers i (32 - i) (omega (arith, all))

-- What is printed of a process, by whether it is there.
pub view_is : (p : ℕ) (state : State) (o : Option Process) (view : ProcessView) → ◌≡◌ {A = Result ProcessView Code} (Ok view) (looked_at o)
    → view_text p view ≡ (regs_of p o state).text
unfolding regs_head
view_is p state None view looks = cc
view_is p state (Some process) view looks = let same : view ≡ process_view process = cc in ap (view_text p) same

pub told_of : (o : Option Process) (code : Code) → ◌≡◌ {A = Result ProcessView Code} (Err code) (looked_at o) → HasCodeLine code
told_of None code looks = let same : NoProcess ≡ code = cc in subst HasCodeLine same tt
told_of (Some process) code looks = cc

pub refused_is : (p : ℕ) (state : State) (o : Option Process) (code : Code) → ◌≡◌ {A = Result ProcessView Code} (Err code) (looked_at o)
    → answer_text (Refused code) ≡ (regs_of p o state).text
refused_is p state None code looks = let same : code ≡ NoProcess = cc in ap (λ c. answer_text (Refused c)) same
refused_is p state (Some process) code looks = cc
