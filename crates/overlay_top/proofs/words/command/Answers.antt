use Rattle.std.proofs.Common.{◌≡◌, ◌∙◌, ap, ap₂, true, codes}
use Rattle.std.proofs.lemmas.Result.{IfOk-weaker}
use Rattle.clap.specs.Simple.{Shape, app_of, app_of_fields, new_app, on_top, with_rule}
use Rattle.clap.specs.declared.builder.command.Command.{Command}
use Rattle.clap.specs.declared.builder.command.Command.TheOpen.{Command-F}
use Rattle.overlay_top.specs.Words.{command_line}
use Rattle.overlay_top.proofs.words.command.Goals as goal

abbrev bare : Shape → Shape
bare shape = record shape { no_binary_name = true; disable_help_flag = true }

abbrev without_help : Command-F Command → Command-F Command
without_help fields = record fields { disable_help_flag = true }

pub returns : goal.returns
unfolding command_line
returns c =
    let start : app_of c.disable_help_flag.result ≡ on_top bare (new_app (codes "overlay-run")) =
    ap app_of_fields (c.disable_help_flag.ensures ∙ ap without_help c.no_binary_name.ensures) ∙ ap (on_top bare) c.new.ensures.app in
    IfOk-weaker c.arg-5.result _ _ (λ command added. added.shape c.flag-2.ensures.local
    ∙ ap₂ with_rule (c.in_ok-arg-4.ensures.shape c.flag.ensures.local
    ∙ ap₂ with_rule (c.in_ok-arg-3.ensures.shape c.option-3.ensures.local
    ∙ ap₂ with_rule (c.in_ok-arg-2.ensures.shape c.option-2.ensures.local
    ∙ ap₂ with_rule (c.in_ok-arg.ensures.shape c.option.ensures.local ∙ ap₂ with_rule start c.option.ensures.rule) c.option-2.ensures.rule) c.option-3.ensures.rule)
    c.flag.ensures.rule) c.flag-2.ensures.rule) c.arg-5.ensures
