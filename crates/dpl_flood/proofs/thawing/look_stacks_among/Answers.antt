use Rattle.std.proofs.Common.{arith, ◌≡◌, ◌∙◌, ◌+◌, true, ap, sym, subst, inl, inr}
use Rattle.std.specs.Prelude.{reverse}
use Rattle.std.proofs.lemmas.Bool.{true≢false}
use Rattle.dpl_laminar.specs.Families.{has}
use Rattle.dpl_flood.specs.Holdings.{stack_of}
use Rattle.dpl_flood.specs.States.{AreKeyedFor, StacksAmong, sea_of}
use Rattle.dpl_flood.proofs.TopLemmas.{for_more, for_fewer, one_stack_among, faces_inside}
use Rattle.dpl_flood.proofs.thawing.look_stacks_among.Goals as goal
use Rattle.dpl_flood.proofs.thawing.look_stacks_among.Goals.{then-is_stack_among, else-is_stack_among}

pub look_at-requires-clause-faces : goal.look_at-requires-clause-faces
look_at-requires-clause-faces c =
    faces_inside c.args.dual.now c.args.state.now c.loop-i.i c.faces.result.now c.requires.state
    (omega (arith, c.loop-i-test.true, c.requires.tops)) c.faces.ensures

pub loop-i-preserved : goal.loop-i-preserved
loop-i-preserved c =
    let d = c.args.dual.now in
    let s = sea_of c.args.state.now in
    let stack = stack_of c.args.state.now.held in
    let tops = c.args.tops.now in
    let i = c.loop-i.i in
    let less = StacksAmong s stack tops i in
    let more = StacksAmong s stack tops (i + 1) in
    elim c.if-is_stack_among.branch [
      | then-is_stack_among w ↦ subst (AreKeyedFor d s more c.args.queue.now) (sym w.queue-is)
          (for_more d s less (λ g. has (reverse w.faces.result.now) g ≡ true) more c.args.queue.now c.loop-i.queue w.look_at.new.queue c.loop-i.invariant
          w.look_at.ensures (λ g m. elim (one_stack_among s stack tops i g m) [
            | inl l ↦ inl l
            | inr e ↦ inr (ap (λ z. has z g) w.faces.ensures ∙ e.0)
          ]))
      | else-is_stack_among w ↦ subst (AreKeyedFor d s more c.args.queue.now) (sym w.queue-is)
          (for_fewer d s less more c.args.queue.now c.loop-i.queue c.loop-i.invariant (λ g m. elim (one_stack_among s stack tops i g m) [
            | inl l ↦ l
            | inr e ↦ absurd (true≢false (sym e.1 ∙ sym (c.is_stack_among.ensures g e.0) ∙ w.if-is_stack_among.false))
          ]))
    ]
