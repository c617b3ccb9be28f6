use Rattle.std.proofs.Common.{◌≡◌, ℕ, ◌&&◌, Bool, true, false, cond, sym, ap, ◌∙◌, refl, Option, Some, None}
use Rattle.std.specs.Borrow.{Bor}
use Rattle.std.specs.Option.{option_and_then, option_copied, unwrap_or}
use Rattle.std.specs.FinMap.{get}
use Rattle.std.specs.FinSet.{contains, contains-empty, empty}
use Rattle.std.specs.Ordering.{nat_cmp}
use Rattle.number_maps.specs.Keys.{get_same}
use Rattle.breakpoints.specs.Breakpoints.{Addresses, Breaks, addresses_of}
use Rattle.machine_core.specs.Process.{Process, runs}
use Rattle.machine_core.specs.Machine.{Wholes}
use Rattle.machine_core.specs.Turns.{Guest, with_guest}
use Rattle.machine_core.specs.Executions.{is_at_stop, stops_in}
use Rattle.report_text.specs.declared.answer.Stop.{Stop}
use Rattle.report_text.specs.declared.answer.Stop.TheVariants.{Break}
use Rattle.process_runs.specs.Turns.{Progress, break_at, break_of, last_break, run_after}

-- Breakpoints: where turns stop.

-- the addresses that are handed over are those of the process
pub stops_are : (breaks : Breaks) (p : ℕ) (found : Option (Bor Addresses)) → option_copied found ≡ get breaks p → stops_in found ≡ addresses_of breaks p
stops_are breaks p found is = ap (λ (o : Option Addresses). unwrap_or o empty) is

no_stop : (running at : Bool) (p pc : ℕ) → at ≡ false → ◌≡◌ {A = Option Stop} (cond (running && at) (Some (Break p pc)) None) None
no_stop true true p pc is = cc
no_stop true false p pc is = refl
no_stop false at p pc is = refl

-- a turn that leaves the pc at no breakpoint of its process
pub unbroken_after : (breaks : Breaks) (ps : Wholes) (p : ℕ) (guest : Guest) (run : Progress) → is_at_stop (addresses_of breaks p) guest ≡ false
    → last_break breaks (with_guest ps p guest) (run_after p run) ≡ None
unbroken_after breaks ps p guest run goes =
    ap (λ (o : Option Process). option_and_then (break_at breaks p) o) (get_same ps.processes p p guest.process refl)
    ∙ no_stop (runs guest.process.state) (is_at_stop (addresses_of breaks p) guest) p guest.process.registers.pc goes

-- where a process never had a breakpoint, none is reached
none_by : (breaks : Breaks) (p : ℕ) (process : Process) → None ≡ get breaks p → None ≡ break_at breaks p process
none_by breaks p process none =
    sym (no_stop (runs process.state) (contains (addresses_of breaks p) process.registers.pc) p process.registers.pc
    (ap (λ (o : Option Addresses). contains (unwrap_or o empty) process.registers.pc) (sym none) ∙ contains-empty nat_cmp process.registers.pc))

pub no_break : (breaks : Breaks) (ps : Wholes) (p : ℕ) → None ≡ get breaks p → None ≡ break_of breaks ps p
no_break breaks ps p none = by_found (get ps.processes p)
  where
    by_found : (o : Option Process) → ◌≡◌ {A = Option Stop} None (option_and_then (break_at breaks p) o)
    by_found None = refl
    by_found (Some process) = none_by breaks p process none
