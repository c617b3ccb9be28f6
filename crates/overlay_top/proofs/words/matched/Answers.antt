use Rattle.std.proofs.Common.{◌∙◌, ap, map, string_bytes, subst, sym}
use Rattle.std.proofs.Common.{Err}
use Rattle.clap.specs.Words.{fault_of, kind_of, is_simple, is_simple_and_free, matches_of}
use Rattle.clap.specs.Kinds.{HasKind}
use Rattle.overlay_top.specs.Words.{MatchesWords}
use Rattle.overlay_top.proofs.Readings.{is_free_line, is_simple_line, refused}
use Rattle.overlay_top.proofs.words.matched.Goals as goal

pub returns-in-Ok : goal.returns-in-Ok
returns-in-Ok c =
    let words = map string_bytes c.args.words.now in
    let is = c.in_ok-command.ensures in (
      ap (λ app. fault_of app words) (sym is) ∙ c.in-Ok.ensures.kinds (ap is_simple_and_free is ∙ is_free_line),
      (c.in-Ok.ensures.matches (ap is_simple is ∙ is_simple_line)).0 ∙ ap (λ app. matches_of app words) is,
    )

pub returns-in-Err : goal.returns-in-Err
returns-in-Err c =
    let words = map string_bytes c.args.words.now in
    let is = c.in_ok-command.ensures in
    let has = c.in-Err.ensures.kinds (ap is_simple_and_free is ∙ is_free_line) in
    subst (λ error. MatchesWords words (Err error)) (sym c.refusal.ensures)
    (refused words (kind_of c.in-Err.error) (subst (λ app. HasKind (fault_of app words) c.in-Err.error) is has))
