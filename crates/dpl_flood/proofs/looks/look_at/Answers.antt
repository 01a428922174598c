use Rattle.std.proofs.Common.{arith, ◌≡◌, ◌<◌, ◌+◌, ℕ, true, get_or}
use Rattle.std.specs.Prelude.{reverse, slice_index}
use Rattle.dpl_laminar.specs.Families.{has}
use Rattle.dpl_flood.specs.States.{sea_of}
use Rattle.dpl_flood.proofs.TopLemmas.{for_around, for_fewer, one_face_more, find_reversed}
use Rattle.dpl_flood.proofs.looks.look_at.Goals as goal

pub loop-i-preserved : goal.loop-i-preserved
loop-i-preserved c =
    for_around c.args.dual.now (sea_of c.args.state.now) (λ g. (j : ℕ) × ((j < c.loop-i.i) × (slice_index c.args.faces.now j ≡ g)))
    (λ g. (j : ℕ) × ((j < c.loop-i.i + 1) × (slice_index c.args.faces.now j ≡ g))) (get_or c.args.faces.now c.loop-i.i 0)
    c.args.queue.now c.loop-i.queue c.look_around.new.queue c.loop-i.invariant c.look_around.ensures.keys
    (one_face_more c.args.faces.now c.loop-i.i)

pub returns : goal.returns
returns c =
    for_fewer c.args.dual.now (sea_of c.args.state.now) (λ g. (j : ℕ) × ((j < c.loop-i.i) × (slice_index c.args.faces.now j ≡ g)))
    (λ g. has (reverse c.args.faces.now) g ≡ true) c.args.queue.now c.loop-i.queue c.loop-i.invariant
    (λ g y. let r = find_reversed c.args.faces.now g y in (r.0, (omega (arith, r.1.0, c.loop-i-test.false), r.1.1)))
