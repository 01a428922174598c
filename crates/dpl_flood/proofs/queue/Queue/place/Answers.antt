use Rattle.std.proofs.Common.{arith, ◌+◌, ◌++◌, ◌≤◌, subst, sym}
use Rattle.std.specs.Prelude.{All, slice_index}
use Rattle.dpl_flood.specs.Queues.{IsFirst}
use Rattle.dpl_flood.proofs.KeyLemmas.{first_behind, no_less}
use Rattle.dpl_flood.proofs.queue.Queue.place.Goals as goal
use Rattle.dpl_flood.proofs.queue.Queue.place.Goals.{else-ways-gt0-via-then-ways-gt0+else-least, else-ways-gt0-via-else-ways-gt0}

pub returns-clause-first : goal.returns-clause-first
returns-clause-first c =
    let xs = c.self.inside.ways in
    let ys = c.self.inside.sets in
    let p = c.place-2.result in
    let late : All (λ x. slice_index ys p ≤ x) xs = elim c.else-ways-gt0.branch [
      | else-ways-gt0-via-then-ways-gt0+else-least w ↦
          no_less xs ys p w.least.result w.least-then-ways-gt0.result c.place-2.ensures.inside c.place-2.ensures.first
          w.least.ensures.all w.least-then-ways-gt0.ensures.one (omega (arith, w.if-least.false))
      | else-ways-gt0-via-else-ways-gt0 w ↦ λ i d h. absurd (omega (arith, h, w.if-ways-gt0.false, c.len-ways.ensures.count))
    ] in
    subst (λ z. IsFirst z (slice_index z (c.len-ways.result + p))) c.self.view_is
    (subst (λ n. IsFirst (xs ++ ys) (slice_index (xs ++ ys) (n + p))) (sym c.len-ways.ensures.count)
    (first_behind xs ys p c.place-2.ensures.first late))
