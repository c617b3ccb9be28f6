use Rattle.std.proofs.Common.{sym, ◌∙◌}
use Rattle.ovl_io.specs.Permissions.{writable}
use Rattle.overlay_memory.proofs.Fronting.{filled_fronts, may_be_used}
use Rattle.overlay_memory.proofs.InOne.{done_in_line}
use Rattle.overlay_memory.proofs.storing.store_found.Goals as goal
use Rattle.overlay_pages.specs.View.{state_of}
use Rattle.translation_cache.specs.Bare.{bare}

pub returns-then-put_where_it_stands-clause-fronts : goal.returns-then-put_where_it_stands-clause-fronts
returns-then-put_where_it_stands-clause-fronts c =
    filled_fronts c.args.pages.now c.put_where_it_stands.new.pages (bare c.args.cache.now) c.args.fronts.now c.put_where_it_stands.ensures.table c.put_where_it_stands.ensures.places c.requires.fronts

pub returns-then-put_where_it_stands-clause-stores : goal.returns-then-put_where_it_stands-clause-stores
returns-then-put_where_it_stands-clause-stores c =
    let view = c.args.pages.now in
    done_in_line view (state_of c.put_where_it_stands.new.pages) c.args.space c.args.address c.args.bytes.now
    (may_be_used view c.args.space c.args.address c.args.page c.requires.found writable (c.put_where_it_stands.ensures.joined c.if-put_where_it_stands.true)
    (sym (c.contains.ensures tt) ∙ c.if-contains.true))
    c.requires.one_line (c.put_where_it_stands.ensures.stored c.if-put_where_it_stands.true)
