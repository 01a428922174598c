use Rattle.std.proofs.Common.{arith, ℕ, sym, ◌∙◌}
use Rattle.std.proofs.lemmas.Bool.{cond-false}
use Rattle.dpl_laminar.specs.Storing.{sets_of}
use Rattle.dpl_flood.specs.Forested.{trees_of}
use Rattle.dpl_flood.specs.Runs.{is_root}
use Rattle.dpl_flood.proofs.RunLemmas.{root_counts, roots_more}
use Rattle.dpl_flood.proofs.running.has_trees.Goals as goal

pub returns-then-names_tree-clause-some : goal.returns-then-names_tree-clause-some
returns-then-names_tree-clause-some c _ =
    let x = c.args.state.now in
    root_counts (sets_of x.family).size (sets_of x.family) (trees_of x) c.loop-member.member
    (omega (arith, c.loop-member-test.true, c.len-member-end.ensures, c.requires.1.mates)) (sym c.names_tree.ensures ∙ c.if-names_tree.true)

pub loop-member-preserved : goal.loop-member-preserved
loop-member-preserved c =
    let x = c.args.state.now in
    let m = c.loop-member.member in
    omega (
      arith,
      c.loop-member.invariant,
      roots_more m (sets_of x.family) (trees_of x),
      cond-false {A = ℕ} (is_root (sets_of x.family) (trees_of x) m) 1 0 (sym c.names_tree.ensures ∙ c.if-names_tree.false),
    )
