use Rattle.std.proofs.Common.{[], length, ap, sym, refl, ◌∙◌, ◌≡◌, get_or, arith}
use Rattle.delta_image.specs.Line.{Line}
use Rattle.overlay_memory.specs.View.{state_of}
use Rattle.delta_spaces.proofs.Put.{line_fits, line_page, low_line, putting_all, putting_more}
use Rattle.delta_spaces.proofs.filling.put_lines.Goals as goal

pub put_given-requires-clause-there : goal.put_given-requires-clause-there
put_given-requires-clause-there c =
    line_page (state_of c.args.mem.now) (state_of c.putting.mem) c.args.to c.args.page.now c.putting.line-index c.putting.invariant.so c.requires.ready _ _ (0, [])
    (omega (arith, c.putting-test.true, ap (λ (ls : Rattle.std.proofs.Common.List Line). length ls) c.as_slice-lines.ensures))
    (ap (λ (ls : Rattle.std.proofs.Common.List Line). get_or ls c.putting.line-index (0, [])) c.as_slice-lines.ensures)

pub put_given-requires-clause-line : goal.put_given-requires-clause-line
put_given-requires-clause-line c =
    low_line (state_of c.args.mem.now) (state_of c.putting.mem) c.args.to c.args.page.now c.putting.line-index c.putting.invariant.so c.requires.ready _ _ (0, [])
    (omega (arith, c.putting-test.true, ap (λ (ls : Rattle.std.proofs.Common.List Line). length ls) c.as_slice-lines.ensures))
    (ap (λ (ls : Rattle.std.proofs.Common.List Line). get_or ls c.putting.line-index (0, [])) c.as_slice-lines.ensures)

pub put_given-requires-clause-fits : goal.put_given-requires-clause-fits
put_given-requires-clause-fits c =
    line_fits (state_of c.args.mem.now) (state_of c.putting.mem) c.args.to c.args.page.now c.putting.line-index c.putting.invariant.so c.requires.ready _ _ (0, [])
    (omega (arith, c.putting-test.true, ap (λ (ls : Rattle.std.proofs.Common.List Line). length ls) c.as_slice-lines.ensures))
    (ap (λ (ls : Rattle.std.proofs.Common.List Line). get_or ls c.putting.line-index (0, [])) c.as_slice-lines.ensures)

pub putting-preserved : goal.putting-preserved
putting-preserved c = record {
  so = putting_more (state_of c.args.mem.now) (state_of c.putting.mem) (state_of c.put_given.new.mem) c.args.to c.args.page.now c.putting.line-index _ _ (0, []) c.putting.invariant.so
      (omega (arith, c.putting-test.true, ap (λ (ls : Rattle.std.proofs.Common.List Line). length ls) c.as_slice-lines.ensures))
      (ap (λ (ls : Rattle.std.proofs.Common.List Line). get_or ls c.putting.line-index (0, [])) c.as_slice-lines.ensures) c.put_given.ensures.stored c.put_given.ensures.whole;
  lists = c.put_given.ensures.translations ∙ c.putting.invariant.lists;
}

pub returns-clause-put : goal.returns-clause-put
returns-clause-put c =
    putting_all (state_of c.args.mem.now) (state_of c.putting.mem) c.args.to c.args.page.now c.putting.line-index c.putting.invariant.so
    (omega (arith, c.putting-test.false, ap (λ (ls : Rattle.std.proofs.Common.List Line). length ls) c.as_slice-lines.ensures))
