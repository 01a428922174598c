use Rattle.std.proofs.Common.{◌≡◌, ◌<◌, length, ap, ◌∙◌, rules, arith, get_or}
use Rattle.std.proofs.lemmas.List.{get_or_read}
use Rattle.dpl_drawing.proofs.CycleLemmas.{named_merge, named_at, mark_at, pair_below}
use Rattle.dpl_drawing.proofs.cycles.Cycles.join.Goals as goal
use Rattle.dpl_list.proofs.Lists.{refilled}

pub invariant_of-self : goal.invariant_of-self
invariant_of-self c =
    let whole = refilled c.self.inside.names.len c.mark.new.labels c.self.inside.names.items c.self.inside.names.ok.0
    (c.mark.ensures.lengths ∙ ap length c.deref_mut.ensures.value) in
    let hi : c.args.i < length c.self.inside.ring = search rules in
    let hj : c.args.j < length c.self.inside.ring = search rules in
    let both = pair_below (length c.self.inside.ring) _ _ _ _ c.shorter_first-from.ensures.either hi hj in
    let apart = rw (← c.self.view_is) at c.requires.apart in
    let marks = rw c.deref_mut.ensures.value at c.mark.ensures in
    let inside : c.shorter_first-from.result.1 < length c.self.inside.names.items = omega (arith, both.1, c.self.invariant.lengths) in
    let read : c.index-name.result.now ≡ get_or c.self.inside.names.items c.shorter_first-from.result.1 0 = get_or_read _ _ _ inside c.index-name.ensures 0 in
    named_at _ _ _ _ whole (named_merge c.self.inside.ring _ _ _ c.args.i c.args.j _ c.shorter_first-from.result.1 _
    c.shorter_first-from.ensures.ring c.self.invariant hi hj both.0 both.1 apart c.splice.ensures.value
    c.shorter_first-from.ensures.either (mark_at _ _ _ _ _ _ read marks))
