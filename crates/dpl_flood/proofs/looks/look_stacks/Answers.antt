use Rattle.std.proofs.Common.{arith, ◌≡◌, ◌+◌, inl, inr, subst, get_or, ◌⊎◌}
use Rattle.dpl_laminar.specs.Storing.{sets_of}
use Rattle.dpl_flood.specs.Holdings.{stack_of}
use Rattle.dpl_flood.specs.States.{AreKeyedFor, IsStackedOn, StacksOf, sea_of}
use Rattle.dpl_flood.proofs.TopLemmas.{for_more, one_stack_more}
use Rattle.dpl_flood.proofs.looks.look_stacks.Goals as goal

pub loop-i-preserved : goal.loop-i-preserved
loop-i-preserved c =
    let d = c.args.dual.now in
    let s = sea_of c.args.state.now in
    let stack = stack_of c.args.state.now.held in
    let top = c.args.top in
    let members = c.args.members.now in
    let i = c.loop-i.i in
    let name = get_or members i 0 in
    let less = StacksOf s stack top members i in
    let single = IsStackedOn s stack top name in
    let size : c.len-size.result ≡ (sets_of c.args.state.now.family).size = omega (arith, c.len-size.ensures, c.requires.state.sized.inners) in
    let greater = IsStackedOn s stack top (s.sets.size + name) in
    let one = for_more d s less single (λ g. less g ⊎ single g) c.args.queue.now c.loop-i.queue c.look_stack.new.queue
    c.loop-i.invariant c.look_stack.ensures (λ g m. m) in
    for_more d s (λ g. less g ⊎ single g) greater (StacksOf s stack top members (i + 1)) c.args.queue.now c.look_stack.new.queue
    c.look_stack-in-loop-i.new.queue one
    (subst (λ z. AreKeyedFor d s (IsStackedOn s stack top (z + name)) c.look_stack.new.queue c.look_stack-in-loop-i.new.queue) size
    c.look_stack-in-loop-i.ensures) (λ g m. elim (one_stack_more s stack top members i g m) [
      | inl l ↦ inl (inl l)
      | inr e ↦ elim e [
        | inl l ↦ inl (inr l)
        | inr h ↦ inr h
      ]
    ])
