use Rattle.std.proofs.Common.{arith}
use Rattle.std.proofs.lemmas.List.{length-map}
use Rattle.dpl_cell.specs.Places.{corners_of}
use Rattle.dpl_near.proofs.AroundLemmas.{has_others}
use Rattle.dpl_near.proofs.surroundings.Surroundings.others_beside.Goals as goal

pub ask_around-ask-requires : goal.ask_around-ask-requires
ask_around-ask-requires c = let h = rw (← c.self.view_is) at c.requires in let n = c.self.invariant.near in omega arith

pub narrow-requires : goal.narrow-requires
narrow-requires c =
    let rects = c.self.inside.rects.now in
    let has = has_others rects c.self.inside.shape.now c.self.inside.reach c.args.reach c.args.rect.now c.args.shape _ _ _
    c.self.invariant.bounds c.ask_around-ask.ensures.kind c.ask_around-ask.ensures.far c.in_ok-found.ensures in
    rw c.as_slice.ensures.value (λ k d l. let few = c.self.invariant.few in let h = has.each k d l in
    let e = length-map rects corners_of in omega arith)

pub returns : goal.returns
returns c =
    rw (← c.self.view_is, c.in_ok-others.ensures, c.as_slice.ensures.value)
    (has_others c.self.inside.rects.now c.self.inside.shape.now c.self.inside.reach c.args.reach c.args.rect.now c.args.shape _ _ _
    c.self.invariant.bounds c.ask_around-ask.ensures.kind c.ask_around-ask.ensures.far c.in_ok-found.ensures)
