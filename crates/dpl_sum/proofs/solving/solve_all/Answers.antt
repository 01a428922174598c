use Rattle.std.proofs.Common.{arith, ◌≤◌, ◌++◌, List, [], length, sym, ap, subst, ◌∙◌}
use Rattle.std.specs.Prelude.{All}
use Rattle.dpl_limits.specs.declared.TheConstants.{MOST_EDGES}
use Rattle.dpl_parts.specs.declared.gathering.Gathered.{Gathered}
use Rattle.dpl_sum.specs.declared.combining.SolvedPart.{SolvedPart}
use Rattle.dpl_sum.specs.Solving.{AreSolvedTo}
use Rattle.dpl_sum.proofs.SolveLemmas.{none_yet, one_solved, middle, ended, one_on}
use Rattle.dpl_sum.proofs.solving.solve_all.Goals as goal

pub loop-part-init : goal.loop-part-init
loop-part-init c = (
  c.into_iter-part-iterator.ensures.into_iter_gives.0,
  subst (λ (z : List SolvedPart). AreSolvedTo [] z) (sym c.new-solved.ensures.items) none_yet,
)

pub reuse_or_solve-requires : goal.reuse_or_solve-requires
reuse_or_solve-requires c =
    let all = ap (λ (zs : List Gathered). c.loop-part.yielded ++ zs) (sym c.in-Some.ensures.steps.0) ∙ c.loop-part.invariant.0 in
    let P : List Gathered → Type 0 = λ zs. All (λ p. length p.net.graph.edges ≤ MOST_EDGES) zs in
    record {
      edges = middle (λ (p : Gathered). length p.net.graph.edges ≤ MOST_EDGES) c.loop-part.yielded c.in-Some.part
          c.next.new.self.rest.items (subst P (sym all) c.requires.edges);
      known = c.requires.known;
    }

pub loop-part-preserved : goal.loop-part-preserved
loop-part-preserved c = (
  one_on c.loop-part.yielded c.loop-part.part-iterator.rest.items c.next.new.self.rest.items c.args.parts.items
      c.in-Some.part c.loop-part.invariant.0 c.in-Some.ensures.steps.0,
  one_solved c.loop-part.yielded c.loop-part.solved.items c.push.new.self.items c.in-Some.part
      c.in_ok-one.one c.loop-part.invariant.1 c.in_ok-one.ensures.part c.in_ok-one.ensures.solved c.in_ok-push.ensures.items,
)

pub returns-clause-parts : goal.returns-clause-parts
returns-clause-parts c =
    let o = c.loop-part.part-iterator.rest.ok.0 in
    let z = c.in-None.ensures.steps.0 in
    let end = ended c.loop-part.yielded c.loop-part.part-iterator.rest.items c.args.parts.items c.loop-part.invariant.0 (omega (arith, o, z)) in
    c.loop-part.invariant.1.all ∙ end

pub returns-clause-solved : goal.returns-clause-solved
returns-clause-solved c = c.loop-part.invariant.1.each
