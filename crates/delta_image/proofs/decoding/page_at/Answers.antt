use Rattle.std.proofs.Common.{◌<◌, ◌^◌, ◌++◌, ◌∷◌, [], drop, sym, ap, ◌∙◌, arith}
use Rattle.std.specs.Int.{w32, w64, to_le_bytes}
use Rattle.std.proofs.lemmas.Bool.{both_ways}
use Rattle.std.proofs.lemmas.Result.{err_from_is_err_and}
use Rattle.delta_image.specs.Image.{lines_part, page_part}
use Rattle.delta_image.specs.Fine.{IsWord, are_perms}
use Rattle.delta_image.specs.Decoding.{AreLinesOf, IsPageFrom, is_number}
use Rattle.delta_image.proofs.Pages.{behind_number, lines_given, number_fails, page_begins, read_page, to_lines, to_perms, vector_fits, vector_of}
use Rattle.delta_image.proofs.Reading.{absent}
use Rattle.delta_image.proofs.decoding.page_at.Goals as goal

pub returns-in_err-number : goal.returns-in_err-number
returns-in_err-number c =
    let p = err_from_is_err_and c.from_residual.result c.from_residual.ensures.1 in
    rw (p.1, p.2) (absent (IsPageFrom c.args.from) (λ n. n < 2 ^ 32) page_part (to_le_bytes w32) c.args.bytes.now c.args.bytes.now c.in_err-number.field-0.0
    (λ v s is e. (v.page, behind_number v s, omega (arith, is.1.0.low), e ∙ page_begins v s)) c.in_err-number.ensures)

pub returns-in_err-perms : goal.returns-in_err-perms
returns-in_err-perms c =
    let p = err_from_is_err_and c.from_residual-in_err-perms.result c.from_residual-in_err-perms.ensures.1 in
    let r = c.in_ok-number.rest.now in
    rw (p.1, p.2) (absent (IsPageFrom c.args.from) (λ _. Unit {0}) page_part (λ byte. byte ∷ []) c.args.bytes.now r c.in_err-perms.field-0.0
    (λ v s is e. (v.perms.0, _, tt, (to_perms c.args.bytes.now c.in_ok-number.number r v s c.in_ok-number.ensures is.1 e).1)) c.in_err-perms.ensures)

pub returns-in_err-given : goal.returns-in_err-given
returns-in_err-given c =
    let p = err_from_is_err_and c.from_residual-in_err-given.result c.from_residual-in_err-given.ensures.1 in
    let r = c.in_ok-number.rest.now in
    rw (p.1, p.2) (absent (IsPageFrom c.args.from) IsWord page_part (to_le_bytes w64) c.args.bytes.now c.in_ok-perms.rest.now c.in_err-given.field-0.0
    (λ v s is e. let next = to_perms c.args.bytes.now c.in_ok-number.number r v s c.in_ok-number.ensures is.1 e in
    (vector_of v, lines_part v.lines ++ s, vector_fits v is.1, ap (drop 1) (sym c.in_ok-perms.ensures.1 ∙ next.1))) c.in_err-given.ensures)

pub returns-then-not-is_number : goal.returns-then-not-is_number
returns-then-not-is_number c = λ v s is e.
    let head = to_lines c.args.bytes.now c.in_ok-number.number c.in_ok-perms.perms c.in_ok-given.given c.in_ok-number.rest.now c.in_ok-perms.rest.now c.in_ok-given.rest.now
    v s c.in_ok-number.ensures c.in_ok-perms.ensures.1 c.in_ok-given.ensures is.1 e in
    let page = sym (c.from-page.ensures ∙ head.number_is) in
    number_fails c.args.from v.page (ap (is_number c.args.from) page ∙ sym c.is_number.ensures ∙ c.if-not-is_number.true) is.0 is.1.0.low

pub returns-then-not-are_perms : goal.returns-then-not-are_perms
returns-then-not-are_perms c = λ v s is e.
    let head = to_lines c.args.bytes.now c.in_ok-number.number c.in_ok-perms.perms c.in_ok-given.given c.in_ok-number.rest.now c.in_ok-perms.rest.now c.in_ok-given.rest.now
    v s c.in_ok-number.ensures c.in_ok-perms.ensures.1 c.in_ok-given.ensures is.1 e in
    both_ways _ (ap are_perms (sym head.perms_is) ∙ sym c.are_perms.ensures ∙ c.if-not-are_perms.true) is.1.0.perms

pub returns-in_err-lines : goal.returns-in_err-lines
returns-in_err-lines c =
    let p = err_from_is_err_and c.from_residual-in_err-lines.result c.from_residual-in_err-lines.ensures.1 in
    rw (p.1, p.2) (absent (IsPageFrom c.args.from) (AreLinesOf c.in_ok-given.given) page_part lines_part c.args.bytes.now c.in_ok-given.rest.now c.in_err-lines.field-0.0
    (λ v s is e. let head = to_lines c.args.bytes.now c.in_ok-number.number c.in_ok-perms.perms c.in_ok-given.given c.in_ok-number.rest.now c.in_ok-perms.rest.now
    c.in_ok-given.rest.now v s c.in_ok-number.ensures c.in_ok-perms.ensures.1 c.in_ok-given.ensures is.1 e in
    (v.lines, s, lines_given c.in_ok-given.given v c.in_ok-given.ensures.0 is.1 head.given_is, head.rest_is)) c.in_err-lines.ensures)

pub returns : goal.returns
returns c =
    read_page c.args.from c.in_ok-number.number c.in_ok-perms.perms c.in_ok-given.given
    (record { page = c.from-page.result; perms = c.from_bits_retain-perms.result; lines = c.in_ok-lines.lines })
    c.args.bytes.now c.in_ok-number.rest.now c.in_ok-perms.rest.now c.in_ok-given.rest.now c.in_ok-lines.rest.now
    (ap (is_number c.args.from) (sym c.from-page.ensures) ∙ sym c.is_number.ensures ∙ c.if-not-is_number.false)
    (sym c.are_perms.ensures ∙ c.if-not-are_perms.false)
    c.in_ok-given.ensures.0 c.in_ok-lines.ensures.0 c.from-page.ensures (c.from_bits_retain-perms.ensures tt)
    c.in_ok-number.ensures.1 c.in_ok-perms.ensures.1 c.in_ok-given.ensures.1 c.in_ok-lines.ensures.1
