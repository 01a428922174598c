use Rattle.std.proofs.Common.{arith, ◌+◌, ◌*◌, ◌≢◌}
use Rattle.dpl_drawing.proofs.InsertLemmas.{attached_back}
use Rattle.dpl_drawing.proofs.planes.insert.Goals as goal

pub attach-requires-2-clause-back : goal.attach-requires-2-clause-back
attach-requires-2-clause-back c =
    let apart : 2 * c.args.edge ≢ 2 * c.args.edge + 1 = λ k. omega (arith, k) in
    attached_back c.args.faces.now.nexts _ _ (2 * c.args.edge) (2 * c.args.edge + 1) _ (omega (arith, c.requires.edge))
    c.requires.edge apart c.requires.alone c.requires.alone_twin c.requires.apart c.splice.ensures.nexts
    c.attach.ensures.value
