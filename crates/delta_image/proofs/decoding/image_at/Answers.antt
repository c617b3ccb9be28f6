use Rattle.std.proofs.Common.{◌<◌, ◌^◌, ◌++◌, [], length, sym, ap, subst, ◌∙◌, arith}
use Rattle.std.specs.Int.{w32, to_le_bytes}
use Rattle.std.proofs.lemmas.Bool.{eqb-false, eqb-true}
use Rattle.std.proofs.lemmas.List.{append-nil, nil_from_length}
use Rattle.std.proofs.lemmas.Result.{err_from_is_err_and}
use Rattle.delta_image.specs.declared.encoding.TheConstants.{MAGIC}
use Rattle.delta_image.specs.Image.{pages_part, registers_part, state_part}
use Rattle.delta_image.specs.Fine.{AreRegisters, IsState}
use Rattle.delta_image.specs.Decoding.{AreManyPages}
use Rattle.delta_image.proofs.Images.{behind_registers, behind_state, image_split, read_image, to_count, to_pages, to_registers, to_state}
use Rattle.delta_image.proofs.Pages.{one_pages}
use Rattle.delta_image.proofs.Reading.{no_image}
use Rattle.delta_image.proofs.Registers.{are_first}
use Rattle.delta_image.proofs.decoding.image_at.Goals as goal

pub registers_at-requires : goal.registers_at-requires
registers_at-requires c = subst AreRegisters (sym c.new-regs.ensures) are_first

pub returns-in_err-rest : goal.returns-in_err-rest
returns-in_err-rest c =
    let p = err_from_is_err_and c.from_residual.result c.from_residual.ensures.1 in
    rw (p.1, p.2) (no_image {W = Unit {0}} (λ _. Unit {0}) (λ _. MAGIC) c.args.bytes.now c.args.bytes.now c.in_err-rest.field-0.0
    (λ d is. (tt, state_part d.state ++ behind_state d, tt, is.1 ∙ image_split d)) c.in_err-rest.ensures)

pub returns-in_err-state : goal.returns-in_err-state
returns-in_err-state c =
    let p = err_from_is_err_and c.from_residual-in_err-state.result c.from_residual-in_err-state.ensures.1 in
    rw (p.1, p.2) (no_image IsState state_part c.args.bytes.now c.in_ok-rest.rest.now c.in_err-state.field-0.0
    (λ d is. (d.state, behind_state d, is.0.state, to_state c.args.bytes.now c.in_ok-rest.rest.now d c.in_ok-rest.ensures.1 is)) c.in_err-state.ensures)

pub returns-in_err-rest-2 : goal.returns-in_err-rest-2
returns-in_err-rest-2 c =
    let p = err_from_is_err_and c.from_residual-in_err-rest-2.result c.from_residual-in_err-rest-2.ensures.1 in
    rw (p.1, p.2) (no_image AreRegisters registers_part c.args.bytes.now c.in_ok-state.rest.now c.in_err-rest-2.field-0.0
    (λ d is. (
      d.regs,
      behind_registers d,
      is.0.regs,
      (to_registers c.args.bytes.now c.in_ok-rest.rest.now c.in_ok-state.rest.now c.in_ok-state.state d c.in_ok-rest.ensures.1 c.in_ok-state.ensures is).1,
    )) c.in_err-rest-2.ensures)

pub returns-in_err-count : goal.returns-in_err-count
returns-in_err-count c =
    let p = err_from_is_err_and c.from_residual-in_err-count.result c.from_residual-in_err-count.ensures.1 in
    rw (p.1, p.2) (no_image (λ n. n < 2 ^ 32) (to_le_bytes w32) c.args.bytes.now c.in_ok-rest-2.rest.now c.in_err-count.field-0.0
    (λ d is. (
      length d.pages,
      pages_part d.pages,
      omega (arith, is.0.few),
      to_count c.args.bytes.now c.in_ok-rest.rest.now c.in_ok-state.rest.now c.in_ok-rest-2.rest.now c.in_ok-state.state c.registers_at.new.regs d
          c.in_ok-rest.ensures.1 c.in_ok-state.ensures c.in_ok-rest-2.ensures is,
    )) c.in_err-count.ensures)

pub returns-then-count-gt-MOST_SPACE_PAGES : goal.returns-then-count-gt-MOST_SPACE_PAGES
returns-then-count-gt-MOST_SPACE_PAGES c = λ d is.
    let h = to_pages c.args.bytes.now c.in_ok-rest.rest.now c.in_ok-state.rest.now c.in_ok-rest-2.rest.now c.in_ok-count.rest.now c.in_ok-state.state c.registers_at.new.regs
    c.in_ok-count.count d c.in_ok-rest.ensures.1 c.in_ok-state.ensures c.in_ok-rest-2.ensures c.in_ok-count.ensures is in
    omega (arith, h.0, is.0.few, c.if-count-gt-MOST_SPACE_PAGES.true)

pub returns-in_err-pages : goal.returns-in_err-pages
returns-in_err-pages c =
    let p = err_from_is_err_and c.from_residual-in_err-pages.result c.from_residual-in_err-pages.ensures.1 in
    rw (p.1, p.2) (no_image (AreManyPages c.in_ok-count.count) pages_part c.args.bytes.now c.in_ok-count.rest.now c.in_err-pages.field-0.0
    (λ d is. let h = to_pages c.args.bytes.now c.in_ok-rest.rest.now c.in_ok-state.rest.now c.in_ok-rest-2.rest.now c.in_ok-count.rest.now c.in_ok-state.state
    c.registers_at.new.regs c.in_ok-count.count d c.in_ok-rest.ensures.1 c.in_ok-state.ensures c.in_ok-rest-2.ensures c.in_ok-count.ensures is in
    (d.pages, [], (sym h.0, is.0.pages), h.1 ∙ sym (append-nil (pages_part d.pages)))) c.in_err-pages.ensures)

pub returns-then-not-is_empty : goal.returns-then-not-is_empty
returns-then-not-is_empty c = λ d is.
    let h = to_pages c.args.bytes.now c.in_ok-rest.rest.now c.in_ok-state.rest.now c.in_ok-rest-2.rest.now c.in_ok-count.rest.now c.in_ok-state.state c.registers_at.new.regs
    c.in_ok-count.count d c.in_ok-rest.ensures.1 c.in_ok-state.ensures c.in_ok-rest-2.ensures c.in_ok-count.ensures is in
    let found = c.in_ok-pages.ensures in
    let none = (one_pages 0 c.in_ok-pages.pages.items d.pages c.in_ok-pages.rest.now [] found.0.1 is.0.pages (found.0.0 ∙ h.0)
    (sym found.1 ∙ h.1 ∙ sym (append-nil (pages_part d.pages)))).1 in
    eqb-false (length c.in_ok-pages.rest.now) 0 (sym c.is_empty.ensures ∙ c.if-not-is_empty.true) (ap length none)

pub returns : goal.returns
returns c =
    rw c.new-pages.ensures (read_image c.args.bytes.now c.in_ok-rest.rest.now c.in_ok-state.rest.now c.in_ok-rest-2.rest.now c.in_ok-count.rest.now c.in_ok-pages.rest.now
    (record { state = c.in_ok-state.state; regs = c.registers_at.new.regs; pages = c.in_ok-pages.pages.items }) c.in_ok-count.count
    c.in_ok-rest.ensures.1 c.in_ok-state.ensures c.in_ok-rest-2.ensures c.in_ok-count.ensures c.if-count-gt-MOST_SPACE_PAGES.false c.in_ok-pages.ensures
    (nil_from_length c.in_ok-pages.rest.now (eqb-true (length c.in_ok-pages.rest.now) 0 (sym c.is_empty.ensures ∙ c.if-not-is_empty.false))))
