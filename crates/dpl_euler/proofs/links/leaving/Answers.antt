use Rattle.std.proofs.Common.{rules, ◌≡◌, true, false, SFits, w64}
use Rattle.std.specs.Prelude.{int_lt, int_le}
use Rattle.std.specs.Int.{int_max, int_min}
use Rattle.std.proofs.lemmas.Int.{to_z-of_z}
use Rattle.dpl_euler.proofs.SegmentLemmas.{leaving_shared, leaving_behind, leaving_before}
use Rattle.dpl_euler.proofs.links.leaving.Goals as goal

pub returns-then-from-to-clause-value : goal.returns-then-from-to-clause-value
returns-then-from-to-clause-value c =
    let from : c.max-from.result ≡ int_max c.args.a1 c.args.b1 = search rules in
    let to : c.min-to.result ≡ int_min c.args.a2 c.args.b2 = search rules in
    let f : SFits w64 c.max-from.result = search rules in
    let g : SFits w64 c.min-to.result = search rules in
    let less : int_lt c.max-from.result c.min-to.result ≡ true = simp to_z-of_z at c.if-from-to.true in
    leaving_shared c.args.a1 c.args.a2 c.args.b1 c.args.b2 _ _ from to less c.requires.low_a1 c.requires.high_a1
    c.requires.low_a2 c.requires.high_a2 c.requires.low_b1 c.requires.high_b1 c.requires.low_b2 c.requires.high_b2

pub returns-then-a2-b1-clause-value : goal.returns-then-a2-b1-clause-value
returns-then-a2-b1-clause-value c =
    let from : c.max-from.result ≡ int_max c.args.a1 c.args.b1 = search rules in
    let to : c.min-to.result ≡ int_min c.args.a2 c.args.b2 = search rules in
    let f : SFits w64 c.max-from.result = search rules in
    let g : SFits w64 c.min-to.result = search rules in
    let h : SFits w64 c.args.a2 = c.ranges.a2 in
    let k : SFits w64 c.args.b1 = c.ranges.b1 in
    let less : int_lt c.max-from.result c.min-to.result ≡ false = simp to_z-of_z at c.if-from-to.false in
    let behind : int_le c.args.a2 c.args.b1 ≡ true = simp to_z-of_z at c.if-a2-b1.true in
    leaving_behind c.args.a1 c.args.a2 c.args.b1 c.args.b2 _ _ from to less behind c.requires.low_a2 c.requires.high_a2

pub returns-clause-value : goal.returns-clause-value
returns-clause-value c =
    let from : c.max-from.result ≡ int_max c.args.a1 c.args.b1 = search rules in
    let to : c.min-to.result ≡ int_min c.args.a2 c.args.b2 = search rules in
    let f : SFits w64 c.max-from.result = search rules in
    let g : SFits w64 c.min-to.result = search rules in
    let h : SFits w64 c.args.a2 = c.ranges.a2 in
    let k : SFits w64 c.args.b1 = c.ranges.b1 in
    let less : int_lt c.max-from.result c.min-to.result ≡ false = simp to_z-of_z at c.if-from-to.false in
    let behind : int_le c.args.a2 c.args.b1 ≡ false = simp to_z-of_z at c.if-a2-b1.false in
    leaving_before c.args.a1 c.args.a2 c.args.b1 c.args.b2 _ _ from to less behind c.requires.low_a1 c.requires.high_a1
