use Rattle.std.proofs.Common.{arith, rules, add-one, ◌≡◌, length}
use Rattle.std.specs.Prelude.{slice_index}
use Rattle.dpl_sign.specs.Drawings.{is_in, dart_count}
use Rattle.dpl_plain.proofs.PartLemmas.{names_cross, parts_named}
use Rattle.dpl_plain.proofs.parts.cross_all.Goals as goal

pub loop-edge-preserved : goal.loop-edge-preserved
loop-edge-preserved c =
    let size : length c.cross.new.names ≡ dart_count c.args.net.now = search rules in
    let all : length c.as_slice.result.now ≡ length c.args.net.now.graph.edges = search rules in (
      size,
      rw add-one (names_cross c.args.net.now (is_in c.args.set.now) (slice_index c.loop-edge.names)
          (slice_index c.cross.new.names) c.loop-edge.edge c.loop-edge.invariant.1 (omega (arith, all))
          (λ v l. c.in_ok-cross.ensures v (omega (arith, size, l)))),
    )

pub returns : goal.returns
returns c =
    let all : length c.as_slice.result.now ≡ length c.args.net.now.graph.edges = search rules in
    parts_named c.args.net.now (is_in c.args.set.now) (slice_index c.loop-edge.names) c.loop-edge.edge c.loop-edge.invariant.1 (omega (arith, all))
