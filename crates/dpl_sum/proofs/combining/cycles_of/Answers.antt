use Rattle.std.proofs.Common.{◌++◌, ap, sym, map, ◌∙◌, List}
use Rattle.dpl_sign.specs.declared.walks.Cycle.{Cycle}
use Rattle.dpl_parts.specs.Shares.{renumbered}
use Rattle.dpl_sum.specs.Laying.{solved_part}
use Rattle.dpl_sum.proofs.LayLemmas.{cycles_more}
use Rattle.dpl_sum.proofs.combining.cycles_of.Goals as goal

pub loop-part-preserved : goal.loop-part-preserved
loop-part-preserved c =
    let s = c.part-item.result in
    c.in_ok-add_cycles.ensures
    ∙ ap (λ (zs : List Cycle). c.loop-part.found.items ++ map (renumbered (solved_part s)) zs) c.as_slice.ensures
    ∙ ap (λ (zs : List Cycle). zs ++ map (renumbered (solved_part s)) s.solution.cycles) c.loop-part.invariant
    ∙ sym (cycles_more c.args.parts.now c.loop-part.part-index s c.loop-part-test.true c.part-item.is)
