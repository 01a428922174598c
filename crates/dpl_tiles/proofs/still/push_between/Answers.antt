use Rattle.std.proofs.Common.{rules, arith, ◌≡◌, ◌≤ℤ◌, SFits, w64}
use Rattle.std.proofs.lemmas.Int.{ints, to_z-of_z}
use Rattle.dpl_tiles.proofs.PartLemmas.{shared_pushed, none_shared}
use Rattle.dpl_tiles.proofs.still.push_between.Goals as goal

pub returns-in_ok-push : goal.returns-in_ok-push
returns-in_ok-push c = λ x.
    let f1 : SFits w64 c.args.stack.now.from = search rules in
    let f2 : SFits w64 c.args.stack.now.to = search rules in
    let f3 : SFits w64 c.args.from = c.ranges.from in
    let f4 : SFits w64 c.args.to = c.ranges.to in
    let f5 : SFits w64 c.greater-from.result = search rules in
    let f6 : SFits w64 c.lesser-to.result = search rules in
    let from : c.new.result.from ≡ c.greater-from.result = simp to_z-of_z at c.new.ensures.from in
    let to : c.new.result.to ≡ c.lesser-to.result = simp to_z-of_z at c.new.ensures.to in
    shared_pushed _ _ c.args.stack.now c.new.result c.args.from c.args.to x
    (rw from (simp to_z-of_z at c.greater-from.ensures.first)) (rw from (simp to_z-of_z at c.greater-from.ensures.second))
    (rw from (simp to_z-of_z at c.greater-from.ensures.one)) (rw to (simp to_z-of_z at c.lesser-to.ensures.first))
    (rw to (simp to_z-of_z at c.lesser-to.ensures.second)) (rw to (simp to_z-of_z at c.lesser-to.ensures.one)) c.in_ok-push.ensures.items

pub returns-else-from-to : goal.returns-else-from-to
returns-else-from-to c = λ x.
    let f1 : SFits w64 c.args.stack.now.from = search rules in
    let f2 : SFits w64 c.args.stack.now.to = search rules in
    let f3 : SFits w64 c.args.from = c.ranges.from in
    let f4 : SFits w64 c.args.to = c.ranges.to in
    let f5 : SFits w64 c.greater-from.result = search rules in
    let f6 : SFits w64 c.lesser-to.result = search rules in
    let past : c.lesser-to.result ≤ℤ c.greater-from.result = let h = c.if-from-to.false in grind (arith, ints) in
    none_shared _ c.args.stack.now c.args.from c.args.to c.greater-from.result c.lesser-to.result x
    (simp to_z-of_z at c.greater-from.ensures.first) (simp to_z-of_z at c.greater-from.ensures.second)
    (simp to_z-of_z at c.greater-from.ensures.one) (simp to_z-of_z at c.lesser-to.ensures.first)
    (simp to_z-of_z at c.lesser-to.ensures.second) (simp to_z-of_z at c.lesser-to.ensures.one) past
