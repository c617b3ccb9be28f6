use Rattle.std.proofs.Common.{ap, subst, sym, ◌∙◌}
use Rattle.std.specs.Prelude.{Ok}
use Rattle.overlay_memory.specs.View.{TranslatedView, translations_of}
use Rattle.translation_cache.specs.Translations.{flushed}
use Rattle.speculation.specs.Speculated.{Discards}
use Rattle.ovl_io.specs.declared.turn.Turn.TheVariants.{Stepped}
use Rattle.process_calls.specs.declared.calls.ProcessCall.TheVariants.{Discard}
use Rattle.machine_core.specs.Machine.{with_memory, with_process_at}
use Rattle.self_speculation.specs.Requests.{DoesCall}
use Rattle.self_speculation.proofs.Requesting.{has_discarded}
use Rattle.self_speculation.proofs.requests.go_back.Goals as goal

pub returns-in-Ok : goal.returns-in-Ok
returns-in-Ok c =
    let old = c.args.machine.now in
    let process = c.args.process in
    record {
      does = subst (DoesCall c.args.p Discard process c.args.at old Stepped) (sym (c.set_process.ensures ∙ ap (with_process_at (with_memory old c.discard.new.mem) c.args.p) c.process.ensures))
          (has_discarded c.args.p process c.args.at old c.requires.there c.discard.new.mem c.args.saved c.requires.saved
          (subst (λ (m : TranslatedView). Discards m c.discard.new.mem c.args.p (Ok tt)) c.memory_mut.ensures.value c.in-Ok.ensures.discards)
          (c.in-Ok.ensures.translations ∙ ap (λ (m : TranslatedView). flushed c.args.p (translations_of m)) c.memory_mut.ensures.value));
    }
