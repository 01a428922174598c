use Rattle.std.proofs.Common.{rules, SFits, w64}
use Rattle.std.proofs.lemmas.Int.{to_z-of_z}
use Rattle.dpl_tiles.proofs.IndexLemmas.{bounded_more, bounded_all}
use Rattle.dpl_tiles.proofs.bounds.bounds_of_points.Goals as goal

pub loop-p-preserved : goal.loop-p-preserved
loop-p-preserved c =
    let f : SFits w64 c.p-item.result.y = search rules in
    let f' : SFits w64 c.p-item.result.x = search rules in
    let g1 : SFits w64 c.lesser-low.result = search rules in
    let g2 : SFits w64 c.greater-high.result = search rules in
    let g3 : SFits w64 c.lesser-left.result = search rules in
    let g4 : SFits w64 c.greater-right.result = search rules in
    simp to_z-of_z (record {
      rows = bounded_more (λ p. p.y) _ c.loop-p.p-index _ _ _ _ _ c.loop-p-test.true c.p-item.is
          c.lesser-low.ensures.first (simp to_z-of_z at c.lesser-low.ensures.second)
          c.greater-high.ensures.first (simp to_z-of_z at c.greater-high.ensures.second) c.loop-p.invariant.rows;
      columns = bounded_more (λ p. p.x) _ c.loop-p.p-index _ _ _ _ _ c.loop-p-test.true c.p-item.is
          c.lesser-left.ensures.first (simp to_z-of_z at c.lesser-left.ensures.second)
          c.greater-right.ensures.first (simp to_z-of_z at c.greater-right.ensures.second) c.loop-p.invariant.columns;
    })

pub returns-clause-lies : goal.returns-clause-lies
returns-clause-lies c = bounded_all (λ p. p.y) _ c.loop-p.p-index _ _ c.loop-p-test.false c.loop-p.invariant.rows

pub returns-clause-spans : goal.returns-clause-spans
returns-clause-spans c = bounded_all (λ p. p.x) _ c.loop-p.p-index _ _ c.loop-p-test.false c.loop-p.invariant.columns
