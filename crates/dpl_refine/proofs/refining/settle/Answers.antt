use Rattle.std.proofs.Common.{◌==◌, inr, refl}
use Rattle.dpl_refine.proofs.PieceLemmas.{settled_by, turned_less, colouring_turned, cheaper_on}
use Rattle.dpl_refine.proofs.AroundLemmas.{none_around, both_around, turned_around}
use Rattle.dpl_refine.proofs.refining.settle.Goals as goal

pub returns-in-None : goal.returns-in-None
returns-in-None c =
    let none = rw (c.as_slice.ensures, c.as_slice-in-turns.ensures.value) at c.in_ok-winner.ensures.none in
    record {
      colouring = c.turns.invariant.0;
      cheaper = c.turns.invariant.1.0;
      around = c.turns.invariant.1.1;
      settled = settled_by c.args.graph.now c.args.piece.now c.args.count c.requires.pieces c.turns.best.items (none c.in-None.is);
    }

pub turns-smaller : goal.turns-smaller
turns-smaller c = turned_less c.args.graph.now c.args.piece.now c.args.count c.requires.pieces c.in-Some.p c.turns.best.items
    c.in_ok-best-in-Some.best.items c.turns.invariant.0
    (rw c.as_slice-in-Some.ensures.value at c.in_ok-best-in-Some.ensures.each)
    (rw (c.as_slice.ensures, c.as_slice-in-turns.ensures.value, c.in-Some.is) at c.in_ok-winner.ensures.wins)

pub turns-preserved : goal.turns-preserved
turns-preserved c =
    let each = rw c.as_slice-in-Some.ensures.value at c.in_ok-best-in-Some.ensures.each in
    let long = rw c.as_slice-in-Some.ensures.value at c.in_ok-best-in-Some.ensures.long in
    let wins = rw (c.as_slice.ensures, c.as_slice-in-turns.ensures.value, c.in-Some.is) at c.in_ok-winner.ensures.wins in
    let less = turned_less c.args.graph.now c.args.piece.now c.args.count c.requires.pieces c.in-Some.p c.turns.best.items
    c.in_ok-best-in-Some.best.items c.turns.invariant.0 each wins in (
      colouring_turned c.args.graph.now c.args.piece.now c.args.count c.requires.pieces (λ q. q == c.in-Some.p) c.turns.best.items
          c.in_ok-best-in-Some.best.items c.turns.invariant.0 long each,
      (
        cheaper_on c.args.graph.now c.args.colours.items c.turns.best.items c.in_ok-best-in-Some.best.items c.turns.invariant.1.0 less,
        both_around c.args.graph.now c.args.colours.items c.turns.best.items c.in_ok-best-in-Some.best.items c.turns.invariant.1.1
            (turned_around c.args.graph.now c.args.piece.now c.args.count c.requires.pieces c.in-Some.p c.turns.best.items
            c.in_ok-best-in-Some.best.items c.turns.invariant.0 each wins),
      ),
    )

pub turns-init : goal.turns-init
turns-init c = (c.requires.colouring, (inr refl, none_around c.args.graph.now c.args.colours.items))
