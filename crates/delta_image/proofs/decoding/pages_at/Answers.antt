use Rattle.std.proofs.Common.{refl, sym, subst, ◌∙◌, arith}
use Rattle.std.proofs.lemmas.List.{length_push}
use Rattle.std.proofs.lemmas.Result.{err_from_is_err_and}
use Rattle.delta_image.specs.Image.{page_part, pages_part}
use Rattle.delta_image.specs.Decoding.{AreManyPages, IsPageFrom}
use Rattle.delta_image.proofs.Pages.{page_behind, pages_more, pages_push}
use Rattle.delta_image.proofs.Reading.{absent}
use Rattle.delta_image.proofs.decoding.pages_at.Goals as goal

pub pages-init : goal.pages-init
pages-init c = rw c.in_ok-pages.ensures.items (record { count = refl; are = tt; next = refl; so_far = refl })

pub returns-in_err-page : goal.returns-in_err-page
returns-in_err-page c =
    let p = err_from_is_err_and c.from_residual-in_err-page.result c.from_residual-in_err-page.ensures.1 in
    let have = c.pages.invariant in
    rw (p.1, p.2) (absent (AreManyPages c.args.count) (IsPageFrom c.pages.from) pages_part page_part c.args.bytes.now c.pages.rest.now c.in_err-page.field-0.0
    (λ v s are e. let next = page_behind 0 c.pages.pages.items v c.pages.rest.now s have.are are.1 (omega (arith, are.0, have.count, c.pages-test.true)) (sym have.so_far ∙ e) in
    (next.0, next.1, subst (λ n. IsPageFrom n next.0) (sym have.next) next.2, next.3)) c.in_err-page.ensures)

pub pages-preserved : goal.pages-preserved
pages-preserved c =
    let have = c.pages.invariant in
    let is = c.in_ok-page.ensures.0 in
    let more = pages_push 0 c.pages.pages.items c.in_ok-page.page have.are (omega (arith, is.0, have.next)) is.1 in
    rw c.in_ok-push.ensures.items (record {
      count = length_push c.pages.pages.items c.in_ok-page.page ∙ omega (arith, have.count);
      are = more.0;
      next = sym more.1;
      so_far = pages_more c.args.bytes.now c.pages.pages.items c.in_ok-page.page c.pages.rest.now c.in_ok-page.after.now have.so_far c.in_ok-page.ensures.1;
    })
