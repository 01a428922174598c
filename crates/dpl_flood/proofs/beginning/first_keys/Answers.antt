use Rattle.std.proofs.Common.{arith, ℕ, ◌+◌, ◌*◌, ap, subst, List, length}
use Rattle.std.proofs.lemmas.List.{length-replicate}
use Rattle.dpl_flood.specs.Queues.{never}
use Rattle.dpl_flood.specs.Starts.{AreFirst}
use Rattle.dpl_flood.specs.States.{sea_of}
use Rattle.dpl_flood.proofs.BeginLemmas.{first_due}
use Rattle.dpl_flood.proofs.beginning.first_keys.Goals as goal

pub returns : goal.returns
returns c =
    first_due c.args.dual.now c.args.state.now c.in_ok-queue.queue c.look_at_all.new.queue c.requires.begun
    (subst (λ (z : List ℕ). AreFirst c.args.dual.now (sea_of c.args.state.now) z (length z) c.in_ok-queue.queue c.look_at_all.new.queue)
    c.as_slice-faces.ensures c.look_at_all.ensures)
    (omega (
      arith,
      ap (λ (z : List ℕ). length z) c.in_ok-queue.ensures,
      length-replicate {A = ℕ} (length c.as_slice-ways.result.now + 2 * length c.as_slice-faces.result.now) never,
      ap length c.as_slice-ways.ensures,
      ap length c.as_slice-faces.ensures,
    ))
