use Rattle.std.proofs.Common.{◌*◌, set, ap, subst, sym, ◌∙◌, arith}
use Rattle.mark_levels.specs.Levels.{AreMarks, or_of}
use Rattle.mark_levels.proofs.Marks.{group_marked}
use Rattle.mark_levels.proofs.levels.Level.mark.Goals as goal

pub returns : goal.returns
returns c =
    let group = c.args.group in
    let but = c.requires.but in
    let union = c.union.ensures ∙ ap (λ bs. or_of bs (16 * group) 16) (c.deref.ensures.value ∙ c.bytes.view_is) in
    subst (AreMarks c.args.bytes.now) (sym (c.set.ensures ∙ ap (set c.args.self.now group) union))
    (group_marked c.args.bytes.now c.args.self.now group (omega (arith, but.marks_was.enough, but.size, c.requires.there)) but)
