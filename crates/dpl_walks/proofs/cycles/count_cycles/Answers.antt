use Rattle.std.proofs.Common.{◌≡◌, length, arith, sym, ap, ◌∙◌}
use Rattle.dpl_sign.specs.declared.walks.Cycle.{Cycle}
use Rattle.dpl_walks.specs.Cycles.{cycles_in}
use Rattle.std.proofs.Common.{ℕ, List}
use Rattle.dpl_walks.proofs.CycleLemmas.{cycle_shortens, one_line, no_line}
use Rattle.dpl_walks.proofs.cycles.count_cycles.Goals as goal

pub lines-smaller : goal.lines-smaller
lines-smaller c = cycle_shortens c.in-Some.others.now c.lines.rest.now c.in-Some.ensures

pub lines-preserved : goal.lines-preserved
lines-preserved c =
    let o = one_line c.in-Some.others.now c.lines.rest.now c.in-Some.ensures in
    record {
      count = omega (arith, o.count, c.lines.invariant.count);
      rest = sym o.rest ∙ c.lines.invariant.rest;
      few = omega (arith, cycle_shortens c.in-Some.others.now c.lines.rest.now c.in-Some.ensures, c.lines.invariant.few);
    }

pub returns-clause-count : goal.returns-clause-count
returns-clause-count c =
    let n = no_line c.lines.rest.now c.in_default.ensures in
    let z : length (cycles_in c.lines.rest.now) ≡ 0 = ap (λ (p : List Cycle × List (List ℕ)). length p.0) n in
    omega (arith, c.lines.invariant.count)

pub returns-clause-rest : goal.returns-clause-rest
returns-clause-rest c =
    let n = no_line c.lines.rest.now c.in_default.ensures in
    sym (ap (λ (p : List Cycle × List (List ℕ)). p.1) n) ∙ c.lines.invariant.rest
