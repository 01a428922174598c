use Rattle.std.proofs.Common.{◌<◌, length}
use Rattle.std.proofs.lemmas.List.{length-map}
use Rattle.dpl_near.proofs.AroundLemmas.{may_be_around}
use Rattle.dpl_near.proofs.surroundings.Surroundings.few_in_index.Goals as goal

pub close_among-requires-clause-found : goal.close_among-requires-clause-found
close_among-requires-clause-found c =
    let rects = c.self.inside.rects.now in
    let within : c.args.i < length rects = rw length-map at (rw (← c.self.view_is) at c.requires) in
    rw c.as_slice-found.ensures.value (may_be_around rects c.self.inside.shape.now c.self.inside.reach c.args.i c.index-self-i.result _ _ _
    c.self.invariant.bounds within c.index-self-i.is c.ask_around-ask.ensures.kind
    (rw (← c.index-self-i.is) at c.ask_around-ask.ensures.near) (rw (← c.index-self-i.is) at c.ask_around-ask.ensures.far)
    (rw c.in-Some.is at c.in_ok-few_asked.ensures))
