use Rattle.std.proofs.Common.{ap, ◌∙◌, length, arith}
use Rattle.std.specs.Prelude.{Err, is_some}
use Rattle.ledger.specs.Units.{units}
use Rattle.ovl_io.specs.Permissions.{writable}
use Rattle.overlay_memory.proofs.InOne.{in_one, row_is}
use Rattle.overlay_memory.proofs.Pieced.{permitted, reads_of}
use Rattle.overlay_memory.proofs.Stored.{full_store, refused_store}
use Rattle.overlay_memory.proofs.storing.write_in_page.Goals as goal

pub returns-in-Err-clause-stores : goal.returns-in-Err-clause-stores
returns-in-Err-clause-stores c =
    refused_store c.args.pages.now c.args.space c.args.address c.args.bytes.now c.in-Err.error
    (reads_of c.args.pages.now c.args.space writable c.args.address (length c.args.bytes.now) (Err c.in-Err.error)
    c.requires.some c.requires.one_page c.in-Err.ensures)

pub returns-in-Some-clause-stores : goal.returns-in-Some-clause-stores
returns-in-Some-clause-stores c =
    full_store c.args.pages.now c.args.space c.args.address _ c.args.bytes.now c.in-Some.shortage
    (permitted c.args.pages.now c.args.space writable c.args.address (length c.args.bytes.now) c.in-Ok.ensures c.requires.one_page)
    (ap units (row_is (in_one (ap is_some c.in-Ok.ensures.there) c.requires.some c.requires.one_page c.lines_at-touched.ensures)) ∙ c.store_units-rise.ensures.rise.one) c.in-Some.ensures

pub put_in_page-requires-clause-there : goal.put_in_page-requires-clause-there
put_in_page-requires-clause-there c = ap is_some c.in-Ok.ensures.there

pub put_in_page-requires-clause-fits : goal.put_in_page-requires-clause-fits
put_in_page-requires-clause-fits c =
    let needed = ap units (row_is (in_one (ap is_some c.in-Ok.ensures.there) c.requires.some c.requires.one_page c.lines_at-touched.ensures)) ∙ c.store_units-rise.ensures.rise.one in
    omega (arith, needed, c.in_default.ensures)

pub returns-clause-stores : goal.returns-clause-stores
returns-clause-stores c =
    (permitted c.args.pages.now c.args.space writable c.args.address (length c.args.bytes.now) c.in-Ok.ensures c.requires.one_page, c.put_in_page.ensures.stored)
