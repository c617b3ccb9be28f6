use Rattle.std.proofs.Common.{◌≡◌, ◌+◌, ◌-◌, ◌%◌, length, take, drop, sym, ap, ◌∙◌, arith}
use Rattle.std.specs.Prelude.{Err, is_some}
use Rattle.ovl_io.specs.Permissions.{writable}
use Rattle.overlay_pages.specs.View.{state_of}
use Rattle.overlay_memory.specs.Pieces.{lines_under}
use Rattle.overlay_memory.proofs.InTwo.{first_count, first_fits, in_two, rest_count, second_fits, second_there, two_full, two_stored}
use Rattle.overlay_memory.proofs.Pieced.{low_address, permitted, reads_of}
use Rattle.overlay_memory.proofs.ReadSoFar.{read_refused}
use Rattle.overlay_memory.proofs.Stored.{front_refused, refused_store}
use Rattle.overlay_memory.proofs.storing.write_in_two.Goals as goal

pub returns-in-Err-clause-stores : goal.returns-in-Err-clause-stores
returns-in-Err-clause-stores c =
    refused_store c.args.pages.now c.args.space c.args.address c.args.bytes.now c.in-Err.error
    (front_refused (state_of c.args.pages.now) c.args.space writable c.args.address c.args.front (length c.args.bytes.now) c.in-Err.error (omega (arith, c.requires.over))
    (reads_of c.args.pages.now c.args.space writable c.args.address c.args.front (Err c.in-Err.error) (omega (arith, c.requires.front))
    (omega (arith, c.requires.front)) c.in-Err.ensures))

pub overflow_add-next : goal.overflow_add-next
overflow_add-next c =
    let low = low_address c.args.pages.now c.args.space writable c.args.address c.in-Ok.ensures in omega (arith, low, c.requires.front)

pub returns-in-Err-permit_store-clause-stores : goal.returns-in-Err-permit_store-clause-stores
returns-in-Err-permit_store-clause-stores c =
    let n = length c.args.bytes.now - c.args.front in
    refused_store c.args.pages.now c.args.space c.args.address c.args.bytes.now c.in-Err-permit_store.error
    (read_refused (state_of c.args.pages.now) c.args.space writable c.args.address c.args.front n (length c.args.bytes.now) c.in-Err-permit_store.error
    (permitted c.args.pages.now c.args.space writable c.args.address c.args.front c.in-Ok.ensures (omega (arith, c.requires.front)))
    (omega (arith, c.requires.over))
    (reads_of c.args.pages.now c.args.space writable (c.args.address + c.args.front) n (Err c.in-Err-permit_store.error) (omega (arith, c.requires.over))
    (omega (arith, c.requires.front, c.requires.two_pages)) c.in-Err-permit_store.ensures))

pub returns-in-Some-clause-stores : goal.returns-in-Some-clause-stores
returns-in-Some-clause-stores c =
    two_full (in_two c.in-Ok.ensures c.in-Ok-permit_store.ensures c.requires.front c.requires.over c.requires.two_pages
    c.lines_at-lines.ensures c.lines_at-more.ensures)
    c.store_units-one.result c.store_units-two.result c.in-Some.shortage c.store_units-one.ensures.rise c.store_units-two.ensures.rise c.in-Some.ensures

pub put_in_page-requires-clause-there : goal.put_in_page-requires-clause-there
put_in_page-requires-clause-there c = ap is_some c.in-Ok.ensures.there

pub put_in_page-requires-clause-some : goal.put_in_page-requires-clause-some
put_in_page-requires-clause-some c =
    let count = first_count (in_two c.in-Ok.ensures c.in-Ok-permit_store.ensures c.requires.front c.requires.over c.requires.two_pages
    c.lines_at-lines.ensures c.lines_at-more.ensures) in omega (arith, count, c.requires.front)

pub put_in_page-requires-clause-one_page : goal.put_in_page-requires-clause-one_page
put_in_page-requires-clause-one_page c =
    let count = first_count (in_two c.in-Ok.ensures c.in-Ok-permit_store.ensures c.requires.front c.requires.over c.requires.two_pages
    c.lines_at-lines.ensures c.lines_at-more.ensures) in omega (arith, count, c.requires.front)

pub put_in_page-requires-clause-under : goal.put_in_page-requires-clause-under
put_in_page-requires-clause-under c =
    c.lines_at-lines.ensures ∙ sym (ap (lines_under (c.args.address % 4096)) (first_count (in_two c.in-Ok.ensures c.in-Ok-permit_store.ensures c.requires.front c.requires.over c.requires.two_pages
    c.lines_at-lines.ensures c.lines_at-more.ensures)))

pub put_in_page-requires-clause-fits : goal.put_in_page-requires-clause-fits
put_in_page-requires-clause-fits c =
    first_fits (in_two c.in-Ok.ensures c.in-Ok-permit_store.ensures c.requires.front c.requires.over c.requires.two_pages
    c.lines_at-lines.ensures c.lines_at-more.ensures)
    c.store_units-one.result c.store_units-two.result c.store_units-one.ensures.rise c.in_default.ensures

pub put_in_page-requires-2-clause-there : goal.put_in_page-requires-2-clause-there
put_in_page-requires-2-clause-there c =
    second_there (in_two c.in-Ok.ensures c.in-Ok-permit_store.ensures c.requires.front c.requires.over c.requires.two_pages
    c.lines_at-lines.ensures c.lines_at-more.ensures)
    (state_of c.put_in_page.new.pages) c.pages-pages.ensures.once c.put_in_page.ensures.stored

pub put_in_page-requires-2-clause-none_awaits : goal.put_in_page-requires-2-clause-none_awaits
put_in_page-requires-2-clause-none_awaits c = c.put_in_page.ensures.stored.awaiting ∙ c.requires.none_awaits

pub put_in_page-requires-2-clause-some : goal.put_in_page-requires-2-clause-some
put_in_page-requires-2-clause-some c =
    let count = rest_count (in_two c.in-Ok.ensures c.in-Ok-permit_store.ensures c.requires.front c.requires.over c.requires.two_pages
    c.lines_at-lines.ensures c.lines_at-more.ensures) in omega (arith, count, c.requires.over)

pub put_in_page-requires-2-clause-one_page : goal.put_in_page-requires-2-clause-one_page
put_in_page-requires-2-clause-one_page c =
    let count = rest_count (in_two c.in-Ok.ensures c.in-Ok-permit_store.ensures c.requires.front c.requires.over c.requires.two_pages
    c.lines_at-lines.ensures c.lines_at-more.ensures) in omega (arith, count, c.requires.over, c.requires.front, c.requires.two_pages)

pub put_in_page-requires-2-clause-under : goal.put_in_page-requires-2-clause-under
put_in_page-requires-2-clause-under c =
    let begins : 0 ≡ (c.args.address + c.args.front) % 4096 = omega (arith, c.requires.front) in
    c.lines_at-more.ensures ∙ sym (ap (lines_under 0) (rest_count (in_two c.in-Ok.ensures c.in-Ok-permit_store.ensures c.requires.front c.requires.over c.requires.two_pages
    c.lines_at-lines.ensures c.lines_at-more.ensures)))
    ∙ ap (λ at. lines_under at (length (take (length c.args.bytes.now - c.args.front) (drop c.args.front c.args.bytes.now)))) begins

pub put_in_page-requires-2-clause-fits : goal.put_in_page-requires-2-clause-fits
put_in_page-requires-2-clause-fits c =
    second_fits (in_two c.in-Ok.ensures c.in-Ok-permit_store.ensures c.requires.front c.requires.over c.requires.two_pages
    c.lines_at-lines.ensures c.lines_at-more.ensures)
    (state_of c.put_in_page.new.pages) c.pages-pages.ensures.once c.put_in_page.ensures.stored c.store_units-one.result c.store_units-two.result
    c.store_units-one.ensures.rise c.store_units-two.ensures.rise c.in_default.ensures

pub returns-clause-stores : goal.returns-clause-stores
returns-clause-stores c =
    two_stored (in_two c.in-Ok.ensures c.in-Ok-permit_store.ensures c.requires.front c.requires.over c.requires.two_pages
    c.lines_at-lines.ensures c.lines_at-more.ensures)
    (state_of c.put_in_page.new.pages) c.pages-pages.ensures.once c.put_in_page.ensures.stored (state_of c.put_in_page-2.new.pages) c.put_in_page-2.ensures.stored
