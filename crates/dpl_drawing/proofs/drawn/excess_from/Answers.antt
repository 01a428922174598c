use Rattle.std.proofs.Common.{arith, rules, ◌≡◌, length, ap}
use Rattle.dpl_drawing.proofs.ExcessTotal.{excess_total}
use Rattle.dpl_drawing.proofs.KeptLemmas.{aside_few}
use Rattle.dpl_drawing.proofs.drawn.excess_from.Goals as goal

pub overflow_sub-kept : goal.overflow_sub-kept
overflow_sub-kept c =
    let all : length c.as_slice.result.now ≡ length c.args.net.now.graph.edges = search rules in
    omega (arith, all, aside_few c.args.net.now, ap length c.requires.aside)

pub overflow_sub-result-2 : goal.overflow_sub-result-2
overflow_sub-result-2 c =
    let all : length c.as_slice.result.now ≡ length c.args.net.now.graph.edges = search rules in
    let a : c.from.result ≡ c.args.drawn = search rules in
    let b : c.from-2.result ≡ c.args.whole = search rules in
    omega (arith, all, a, b, aside_few c.args.net.now, ap length c.requires.aside, excess_total c.args.net.now, c.requires.drawn, c.requires.whole)

pub returns : goal.returns
returns c =
    let all : length c.as_slice.result.now ≡ length c.args.net.now.graph.edges = search rules in
    let a : c.from.result ≡ c.args.drawn = search rules in
    let b : c.from-2.result ≡ c.args.whole = search rules in
    omega (arith, all, a, b, aside_few c.args.net.now, ap length c.requires.aside, excess_total c.args.net.now, c.requires.drawn, c.requires.whole)
