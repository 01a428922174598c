use Rattle.std.proofs.Common.{◌+◌, sym, subst}
use Rattle.dpl_flood.specs.Starts.{AreSeated}
use Rattle.dpl_flood.proofs.BeginLemmas.{seated_none, seated_more}
use Rattle.dpl_flood.proofs.beginning.seat_all.Goals as goal

pub loop-i-init : goal.loop-i-init
loop-i-init c = seated_none c.args.faces.now c.args.arena.now c.args.held.now c.requires.blank c.requires.open

pub loop-i-preserved : goal.loop-i-preserved
loop-i-preserved c =
    subst (AreSeated c.args.faces.now (c.loop-i.i + 1) c.args.held.now c.seat.new.self) (sym c.seat-in-loop-i.ensures)
    (seated_more c.args.faces.now c.loop-i.i c.args.held.now c.loop-i.arena c.seat.new.self c.loop-i.held c.in_ok-node.node c.requires.once
    c.loop-i-test.true (c.requires.places c.loop-i.i 0 c.loop-i-test.true) c.loop-i.invariant c.in_ok-node.ensures.number c.in_ok-node.ensures.one
    c.in_ok-node.ensures.node c.in_ok-node.ensures.longer c.in_ok-node.ensures.kept)
