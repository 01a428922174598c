use Rattle.std.proofs.Common.{rules, ◌≡◌, ◌∙◌, ◌++◌, ◌∷◌, [], sym, SFits, w64}
use Rattle.std.proofs.lemmas.Int.{to_z-of_z}
use Rattle.dpl_cell.specs.Layers.{is_within}
use Rattle.dpl_tiles.proofs.CrossingLemmas.{ColumnsSoFar, columns_yes, columns_no, columns_all}
use Rattle.dpl_tiles.proofs.sides.columns_among.Goals as goal
use Rattle.dpl_tiles.proofs.sides.columns_among.Goals.{then-spans+in_ok-push, else-spans}

pub loop-i-preserved : goal.loop-i-preserved
loop-i-preserved c =
    let f : SFits w64 c.args.y = c.ranges.y in
    let g : SFits w64 c.index-sides-i.result.column = search rules in
    let so : ColumnsSoFar c.args.sides.now c.args.found.now c.args.y c.loop-i.i-index c.loop-i.columns.items = simp to_z-of_z at c.loop-i.invariant in
    let e : c.spans.result ≡ is_within c.index-sides-i.result.low c.index-sides-i.result.high c.args.y = simp to_z-of_z at c.spans.ensures in
    let inside = c.requires c.loop-i.i-index 0 c.loop-i-test.true in
    elim c.if-spans.branch [
      | then-spans+in_ok-push w ↦
          let h : w.push.new.self.items ≡ c.loop-i.columns.items ++ c.index-sides-i.result.column ∷ [] = simp to_z-of_z at w.in_ok-push.ensures.items in
          rw w.columns-is (simp to_z-of_z (columns_yes _ _ c.args.y _ c.index-sides-i.result _ _ so c.loop-i-test.true
          inside c.index-sides-i.is (sym e ∙ w.if-spans.true) h))
      | else-spans w ↦ rw w.columns-is (simp to_z-of_z
          (columns_no _ _ c.args.y _ c.index-sides-i.result _ so c.loop-i-test.true inside c.index-sides-i.is
          (sym e ∙ w.if-spans.false)))
    ]

pub returns : goal.returns
returns c =
    let f : SFits w64 c.args.y = c.ranges.y in
    columns_all _ _ c.args.y c.loop-i.i-index _ c.loop-i-test.false (simp to_z-of_z at c.loop-i.invariant)
