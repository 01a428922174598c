use Rattle.std.proofs.Common.{arith, ap, sym, subst, ◌≡◌, Bool, List, length, map}
use Rattle.std.proofs.lemmas.List.{with_items_is}
use Rattle.dpl_parts.specs.Shares.{AgreeWith}
use Rattle.dpl_sum.specs.Laying.{solved_part}
use Rattle.dpl_sum.proofs.combining.colours_of.Goals as goal

pub lay_all-requires : goal.lay_all-requires
lay_all-requires c =
    let n : c.in_ok-colours.colours.len ≡ c.args.net.now.graph.nodes = c.in_ok-colours.ensures.len in
    let v = ap (λ (xs : List Bool). length xs) c.deref_mut.ensures.value in
    let o = c.in_ok-colours.colours.ok.0 in
    record { share = c.requires.share; nodes = omega (arith, n, v, o) }

pub returns-clause-long : goal.returns-clause-long
returns-clause-long c =
    let n : c.in_ok-colours.colours.len ≡ c.args.net.now.graph.nodes = c.in_ok-colours.ensures.len in
    let v = ap (λ (xs : List Bool). length xs) c.deref_mut.ensures.value in
    let o = c.in_ok-colours.colours.ok.0 in
    let a = c.lay_all.auto.colours in
    let same = with_items_is c.in_ok-colours.colours c.lay_all.new.colours (omega (arith, a, v, o)) in
    let size = ap (λ (xs : List Bool). length xs) same in
    omega (arith, size, a, v, o, n)

pub returns-clause-agree : goal.returns-clause-agree
returns-clause-agree c =
    let v = ap (λ (xs : List Bool). length xs) c.deref_mut.ensures.value in
    let o = c.in_ok-colours.colours.ok.0 in
    let a = c.lay_all.auto.colours in
    let same = with_items_is c.in_ok-colours.colours c.lay_all.new.colours (omega (arith, a, v, o)) in
    subst (λ xs. AgreeWith xs (map solved_part c.args.parts.now)) (sym same) c.lay_all.ensures
