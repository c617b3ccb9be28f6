use Rattle.std.proofs.Common.{ℕ, Vec, Global, subst, sym}
use Rattle.command_core.specs.State.{Registry, registry_of}
use Rattle.command_core.specs.Rows.{Row, registered}
use Rattle.command_core.specs.Giving.{GivesChange, WantKeeps}
use Rattle.command_core.specs.Changes.{CanBeTold, TakesText, asm_row, load_row}
use Rattle.command_core.specs.Ample.{amply_assembled}
use Rattle.command_core.specs.LikeLaws.{gives_as, registered_same}
use Rattle.command_core.proofs.Assemblings.{gives_refused, loads_text, refused_keeps, refused_taken, refused_told, taken_loaded}
use Rattle.command_core.proofs.session.Session.assemble.Goals as goal

pub returns-in-Ok-clause-gives : goal.returns-in-Ok-clause-gives
returns-in-Ok-clause-gives c =
    subst (λ (row : Registry → Row). GivesChange (row (registry_of c.args.self.now.state)) c.args.self.now.state c.load.result c.load.new.self.state)
    (loads_text c.args.text.now c.in-Ok.file.items c.as_slice.result.now c.in-Ok.ensures.file c.as_slice.ensures.value) c.load.ensures.gives

pub returns-in-Ok-clause-stands : goal.returns-in-Ok-clause-stands
returns-in-Ok-clause-stands c = gives_as (registered (asm_row c.args.text.now)) (registered_same (asm_row c.args.text.now)) c.args.self.now c.load.new.self c.load.result (returns-in-Ok-clause-gives c)

pub returns-in-Ok-clause-taken : goal.returns-in-Ok-clause-taken
returns-in-Ok-clause-taken c =
    let state = c.args.self.now.state in
    taken_loaded c.args.text.now c.in-Ok.file.items c.in-Ok.ensures.file c.in-Ok.ensures.loaded state c.load.result c.load.new.self.state
    (subst (λ bytes. GivesChange (load_row bytes (registry_of state)) state c.load.result c.load.new.self.state) c.as_slice.ensures.value c.load.ensures.gives)

pub returns-in-Ok-clause-ample : goal.returns-in-Ok-clause-ample
returns-in-Ok-clause-ample c = amply_assembled c.args.text.now c.args.self.now c.load.new.self c.load.result (returns-in-Ok-clause-stands c)

pub returns-in-Err-clause-gives : goal.returns-in-Err-clause-gives
returns-in-Err-clause-gives c =
    let state = c.args.self.now.state in
    subst (λ answer. GivesChange (asm_row c.args.text.now (registry_of state)) state answer state) (sym c.not_assembled.ensures)
    (gives_refused c.args.text.now state (λ (v : Vec ℕ Global). v.items) c.in-Err.error c.in-Err.ensures.file)

pub returns-in-Err-clause-stands : goal.returns-in-Err-clause-stands
returns-in-Err-clause-stands c = gives_as (registered (asm_row c.args.text.now)) (registered_same (asm_row c.args.text.now)) c.args.self.now c.args.self.now c.not_assembled.result (returns-in-Err-clause-gives c)

pub returns-in-Err-clause-taken : goal.returns-in-Err-clause-taken
returns-in-Err-clause-taken c = subst (TakesText c.args.text.now) (sym c.not_assembled.ensures) (refused_taken c.args.text.now c.in-Err.error)

pub returns-in-Err-clause-ample : goal.returns-in-Err-clause-ample
returns-in-Err-clause-ample c = amply_assembled c.args.text.now c.args.self.now c.args.self.now c.not_assembled.result (returns-in-Err-clause-stands c)

pub returns-in-Err-clause-want : goal.returns-in-Err-clause-want
returns-in-Err-clause-want c = subst (λ answer. WantKeeps c.args.self.now answer c.args.self.now) (sym c.not_assembled.ensures) (refused_keeps c.in-Err.error c.args.self.now)

pub returns-in-Err-clause-told : goal.returns-in-Err-clause-told
returns-in-Err-clause-told c = subst CanBeTold (sym c.not_assembled.ensures) (refused_told c.in-Err.error)
