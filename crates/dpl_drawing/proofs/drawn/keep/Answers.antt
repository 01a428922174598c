use Rattle.std.proofs.Common.{arith, rules, ◌≡◌, ◌<◌, sym, ap, ◌∙◌, length, List, Bool, add-one, ◌++◌, ◌∷◌, []}
use Rattle.dpl_sign.specs.Excess.{kept_before}
use Rattle.dpl_drawing.proofs.KeptLemmas.{kept_step, drawn_at, kept_size}
use Rattle.dpl_drawing.proofs.LastLemmas.{lasts_list}
use Rattle.dpl_drawing.proofs.drawn.keep.Goals as goal

pub add_next-drawn-requires-clause-edge : goal.add_next-drawn-requires-clause-edge
add_next-drawn-requires-clause-edge c =
    let size : length c.deref.result.now ≡ c.loop-edge._edge =
    kept_size c.args.net.now _ _ c.loop-edge._edge c.deref.ensures.value c.loop-edge.invariant.same in
    let all : c.loop-edge._edge < length c.args.net.now.graph.edges = search rules in
    omega (arith, size, all)

pub loop-edge-preserved : goal.loop-edge-preserved
loop-edge-preserved c =
    let items : c.push.new.self.items ≡ c.loop-edge.edges.items ++ c.add_next-drawn.result ∷ [] = search rules in
    record {
      same = rw add-one (kept_step c.args.net.now _ _ _ c.loop-edge._edge _ c.loop-edge.invariant.same
          c.deref.ensures.value c.add_next-drawn.ensures.kept items);
      drawn = drawn_at c.args.net.now _ _ _ _ _ (items ∙
          ap (λ (xs : List Bool). xs ++ c.add_next-drawn.result ∷ []) (sym c.deref.ensures.value))
          c.add_next-drawn.ensures.drawn;
      lasts = lasts_list c.args.net.now _ _ _ (items ∙
          ap (λ (xs : List Bool). xs ++ c.add_next-drawn.result ∷ []) (sym c.deref.ensures.value))
          c.add_next-drawn.ensures.lasts;
      room = omega (arith, c.loop-edge.invariant.room, c.add_next-drawn.ensures.room);
      part_room = omega (arith, c.loop-edge.invariant.part_room, c.add_next-drawn.ensures.part_room);
    }

pub returns-clause-drawn : goal.returns-clause-drawn
returns-clause-drawn c =
    let all : c.loop-edge._edge ≡ length c.args.net.now.graph.edges = search rules in
    drawn_at c.args.net.now _ _ _ _ _ (sym (c.loop-edge.invariant.same ∙ ap (kept_before c.args.net.now) all)) c.loop-edge.invariant.drawn
