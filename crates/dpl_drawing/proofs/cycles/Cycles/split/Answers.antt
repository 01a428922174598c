use Rattle.std.proofs.Common.{◌<◌, length, ap, ◌∙◌, rules}
use Rattle.dpl_drawing.proofs.CycleLemmas.{named_split, named_at, first_of}
use Rattle.dpl_drawing.proofs.cycles.Cycles.split.Goals as goal
use Rattle.dpl_list.proofs.Lists.{refilled}

pub invariant_of-self : goal.invariant_of-self
invariant_of-self c =
    let whole = refilled c.self.inside.names.len c.mark.new.labels c.self.inside.names.items c.self.inside.names.ok.0
    (c.mark.ensures.lengths ∙ ap length c.deref_mut.ensures.value) in
    let hi : c.args.i < length c.self.inside.ring = search rules in
    let hj : c.args.j < length c.self.inside.ring = search rules in
    let together = rw (← c.self.view_is) at c.requires.together in
    let marks = rw c.deref_mut.ensures.value at c.mark.ensures in
    named_at _ _ _ _ whole (named_split c.self.inside.ring _ _ _ c.args.i c.args.j _ _ c.next-after.ensures.ring
    c.self.invariant hi hj c.requires.apart together c.splice.ensures.value
    (first_of _ _ _ _ c.shorter_first-part.ensures.either) marks)
