use Rattle.std.proofs.Common.{arith, ◌≡◌, ◌∙◌, true, ap, map}
use Rattle.std.proofs.lemmas.List.Elements.{All-weaker}
use Rattle.dpl_sign.specs.declared.edges.Kind.TheVariants.{Clash}
use Rattle.dpl_sign.specs.declared.graphs.Signed.{Signed}
use Rattle.dpl_sign.specs.Walks.{edge_at}
use Rattle.dpl_sign.specs.Colourings.{breaks}
use Rattle.dpl_boxes.specs.Drawings.{is_in_boxes}
use Rattle.dpl_report.specs.declared.marks.Broken.{Broken}
use Rattle.dpl_good.specs.MaskCells.{NamesBroken}
use Rattle.dpl_good.proofs.goodness.lists_leave_nothing_out.Goals as goal

pub returns-clause-spacing : goal.returns-clause-spacing
returns-clause-spacing c = λ cells tiles r m none x y x' y' first second other near one.
    let told = rw none at (m.told x y x' y' (record { first = first; second = second; other = other; near = near }) one).told in
    omega (arith, told.2)

pub returns-clause-overlap : goal.returns-clause-overlap
returns-clause-overlap c = λ cells tiles r m none x y.
    m.overlap x y ∙ ap (λ l. is_in_boxes (map (λ z. z.corners) l) x y) none

pub returns-clause-stitches : goal.returns-clause-stitches
returns-clause-stitches c = λ cells tiles r m e within is broken.
    m.stitches.all e (record { within = within; is = is; broken = broken })

pub returns-clause-clashes : goal.returns-clause-clashes
returns-clause-clashes c = λ cells tiles r m e within is broken.
    m.clashes.all e (record { within = within; is = is; broken = broken })

pub returns-clause-lines : goal.returns-clause-lines
returns-clause-lines c = λ cells tiles r m.
    let g : Signed = c.args.net.now.graph in
    All-weaker (NamesBroken g r.head.colours Clash)
    (λ (b : Broken). ((edge_at g b.edge).kind ≡ Clash) × (breaks r.head.colours (edge_at g b.edge) ≡ true)
    × (b.a ≡ (edge_at g b.edge).a) × (b.b ≡ (edge_at g b.edge).b))
    (λ b n. (n.edge.is, n.edge.broken, n.first, n.second)) r.lists.clashes m.clashes.each

pub returns-clause-told : goal.returns-clause-told
returns-clause-told c = λ cells tiles r m x y x' y' close one.
    let t = m.told x y x' y' close one in (t.i, t.j, t.first.holds, t.second.holds, t.told)
