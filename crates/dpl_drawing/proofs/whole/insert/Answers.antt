use Rattle.std.proofs.Common.{arith, ◌+◌, ◌*◌, ◌≢◌, ◌∙◌, ap, length}
use Rattle.std.proofs.lemmas.List.Edits.{length-swap}
use Rattle.dpl_drawing.proofs.InsertLemmas.{attached_back, swapped_second}
use Rattle.dpl_drawing.proofs.whole.insert.Goals as goal

pub attach-requires-clause-next : goal.attach-requires-clause-next
attach-requires-clause-next c = omega (
  arith,
  ap length c.splice.ensures.value ∙
      length-swap c.args.faces.now (2 * c.args.edge) (2 * c.args.edge + 1),
  c.requires.next,
)

pub attach-requires-clause-back : goal.attach-requires-clause-back
attach-requires-clause-back c =
    let apart : 2 * c.args.edge ≢ 2 * c.args.edge + 1 = λ k. omega (arith, k) in
    swapped_second c.args.faces.now _ (2 * c.args.edge) (2 * c.args.edge + 1) (omega (arith, c.requires.edge))
    c.requires.edge apart c.requires.alone c.splice.ensures.value

pub attach-requires-2-clause-next : goal.attach-requires-2-clause-next
attach-requires-2-clause-next c = omega (
  arith,
  c.attach.ensures.length,
  ap length c.splice.ensures.value ∙
      length-swap c.args.faces.now (2 * c.args.edge) (2 * c.args.edge + 1),
  c.requires.next_twin,
)

pub attach-requires-2-clause-back : goal.attach-requires-2-clause-back
attach-requires-2-clause-back c =
    let apart : 2 * c.args.edge ≢ 2 * c.args.edge + 1 = λ k. omega (arith, k) in
    attached_back c.args.faces.now _ _ (2 * c.args.edge) (2 * c.args.edge + 1) _ (omega (arith, c.requires.edge))
    c.requires.edge apart c.requires.alone c.requires.alone_twin c.requires.apart c.splice.ensures.value
    c.attach.ensures.value

pub returns-clause-length : goal.returns-clause-length
returns-clause-length c = omega (
  arith,
  c.attach-2.ensures.length,
  c.attach.ensures.length,
  ap length c.splice.ensures.value ∙ length-swap c.args.faces.now (2 * c.args.edge) (2 * c.args.edge + 1),
)
