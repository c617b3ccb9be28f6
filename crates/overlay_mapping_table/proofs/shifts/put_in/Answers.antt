use Rattle.std.proofs.Common.{◌%◌, ap, ◌∙◌}
use Rattle.overlay_mapping_table.proofs.Ends.{full_put, put_now}
use Rattle.overlay_mapping_table.proofs.shifts.put_in.Goals as goal

pub returns-clause-now : goal.returns-clause-now
returns-clause-now c =
    put_now c.args.slots.now c.raise.new.slots c.args.p c.args.place c.end_from-end.result c.wrap-at.result c.args.e c.requires.sound c.end_from-end.ensures
    c.raise.ensures (c.wrap-at.ensures.same ∙ ap (λ n. c.args.place % n) (c.len.ensures ∙ c.raise.ensures.same.size)) c.put.new.self c.requires.gap c.put.ensures

pub returns-clause-full : goal.returns-clause-full
returns-clause-full c =
    full_put c.args.slots.now c.raise.new.slots c.args.p c.args.place c.end_from-end.result c.wrap-at.result c.args.e c.requires.sound c.end_from-end.ensures
    c.raise.ensures (c.wrap-at.ensures.same ∙ ap (λ n. c.args.place % n) (c.len.ensures ∙ c.raise.ensures.same.size)) c.put.new.self c.put.ensures
