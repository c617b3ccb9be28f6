use Rattle.std.proofs.Common.{◌∙◌, ap, ap₂, option_map, sym}
use Rattle.overlay_top.specs.Words.{settings_from}
use Rattle.overlay_top.proofs.Readings.{set_by_parts, values_set}
use Rattle.overlay_top.proofs.words.settings_in.Goals as goal

pub returns-in_err-frames-clause-value : goal.returns-in_err-frames-clause-value
returns-in_err-frames-clause-value c =
    c.from_residual.ensures ∙ ap (λ frames. settings_from frames c.number-quantum.result c.seed_from-seed.result c.is_set-extension.result c.is_set-calls.result) (sym c.in_err-frames.was)
    ∙ values_set c.args.matches.now (option_map (λ text. text.now) c.get_str.result) (option_map (λ text. text.now) c.get_str-2.result)
    (option_map (λ text. text.now) c.get_str-3.result) (option_map (λ text. text.now) c.get_str-4.result) (option_map (λ text. text.now) c.get_str-5.result) c.number-frames.result c.number-quantum.result c.seed_from-seed.result c.is_set-extension.result c.is_set-calls.result
    c.get_str.ensures c.get_str-2.ensures c.get_str-3.ensures c.get_str-4.ensures c.get_str-5.ensures c.number-frames.ensures.value c.number-quantum.ensures.value c.seed_from-seed.ensures c.is_set-extension.ensures c.is_set-calls.ensures

pub returns-in_err-quantum-clause-value : goal.returns-in_err-quantum-clause-value
returns-in_err-quantum-clause-value c =
    c.from_residual-in_err-quantum.ensures
    ∙ ap₂ (λ frames quantum. settings_from frames quantum c.seed_from-seed.result c.is_set-extension.result c.is_set-calls.result) (sym c.in_ok-frames.was) (sym c.in_err-quantum.was)
    ∙ values_set c.args.matches.now (option_map (λ text. text.now) c.get_str.result) (option_map (λ text. text.now) c.get_str-2.result)
    (option_map (λ text. text.now) c.get_str-3.result) (option_map (λ text. text.now) c.get_str-4.result) (option_map (λ text. text.now) c.get_str-5.result) c.number-frames.result c.number-quantum.result c.seed_from-seed.result c.is_set-extension.result c.is_set-calls.result
    c.get_str.ensures c.get_str-2.ensures c.get_str-3.ensures c.get_str-4.ensures c.get_str-5.ensures c.number-frames.ensures.value c.number-quantum.ensures.value c.seed_from-seed.ensures c.is_set-extension.ensures c.is_set-calls.ensures

pub returns-in_err-seed-clause-value : goal.returns-in_err-seed-clause-value
returns-in_err-seed-clause-value c =
    c.from_residual-in_err-seed.ensures ∙ set_by_parts c.is_set-extension.result c.is_set-calls.result (sym c.in_ok-frames.was) (sym c.in_ok-quantum.was) (sym c.in_err-seed.was)
    ∙ values_set c.args.matches.now (option_map (λ text. text.now) c.get_str.result) (option_map (λ text. text.now) c.get_str-2.result)
    (option_map (λ text. text.now) c.get_str-3.result) (option_map (λ text. text.now) c.get_str-4.result) (option_map (λ text. text.now) c.get_str-5.result) c.number-frames.result c.number-quantum.result c.seed_from-seed.result c.is_set-extension.result c.is_set-calls.result
    c.get_str.ensures c.get_str-2.ensures c.get_str-3.ensures c.get_str-4.ensures c.get_str-5.ensures c.number-frames.ensures.value c.number-quantum.ensures.value c.seed_from-seed.ensures c.is_set-extension.ensures c.is_set-calls.ensures

pub returns-clause-value : goal.returns-clause-value
returns-clause-value c =
    set_by_parts c.is_set-extension.result c.is_set-calls.result (sym c.in_ok-frames.was) (sym c.in_ok-quantum.was) (sym c.in_ok-seed.was)
    ∙ values_set c.args.matches.now (option_map (λ text. text.now) c.get_str.result) (option_map (λ text. text.now) c.get_str-2.result)
    (option_map (λ text. text.now) c.get_str-3.result) (option_map (λ text. text.now) c.get_str-4.result) (option_map (λ text. text.now) c.get_str-5.result) c.number-frames.result c.number-quantum.result c.seed_from-seed.result c.is_set-extension.result c.is_set-calls.result
    c.get_str.ensures c.get_str-2.ensures c.get_str-3.ensures c.get_str-4.ensures c.get_str-5.ensures c.number-frames.ensures.value c.number-quantum.ensures.value c.seed_from-seed.ensures c.is_set-extension.ensures c.is_set-calls.ensures
