use Rattle.std.proofs.Common.{ap, subst, sym, ◌∙◌}
use Rattle.std.specs.Prelude.{Ok, Some}
use Rattle.overlay_memory.specs.View.{TranslatedView, translations_of}
use Rattle.translation_cache.specs.Translations.{flushed}
use Rattle.speculation.specs.Speculated.{Starts}
use Rattle.ovl_io.specs.declared.turn.Turn.TheVariants.{Stepped}
use Rattle.process_calls.specs.declared.calls.ProcessCall.TheVariants.{Speculate}
use Rattle.machine_core.specs.Machine.{with_memory, with_process_at}
use Rattle.self_speculation.specs.Requests.{DoesCall}
use Rattle.self_speculation.proofs.Requesting.{started}
use Rattle.self_speculation.proofs.requests.begin.Goals as goal

pub returns-in-Ok : goal.returns-in-Ok
returns-in-Ok c =
    let old = c.args.machine.now in
    let mid = with_memory old c.start.new.mem in
    let process = c.args.process in
    let put = c.set_process.ensures
    ∙ (λ i. with_process_at mid c.args.p (record { regs = c.gone_on.ensures i; state = process.state; saved = Some (record { regs = c.kept.ensures i; state = process.state }) })) in
    record {
      does = subst (DoesCall c.args.p Speculate process c.args.at old Stepped) (sym put)
          (started c.args.p process c.args.at old c.requires.there c.start.new.mem
          (subst (λ (m : TranslatedView). Starts m c.start.new.mem c.args.p (Ok tt)) c.memory_mut.ensures.value c.in-Ok.ensures.starts)
          (c.in-Ok.ensures.translations ∙ ap (λ (m : TranslatedView). flushed c.args.p (translations_of m)) c.memory_mut.ensures.value));
    }
