use Rattle.std.proofs.Common.{arith, rules, ◌≡◌, ◌∙◌, List, Bool, length, sym, ap, subst}
use Rattle.dpl_sign.specs.Packings.{bound_of}
use Rattle.dpl_refine.specs.Refined.{IsRefined}
use Rattle.dpl_report.specs.Plain.{plain_report}
use Rattle.dpl_core.proofs.RefineLemmas.{no_items, plane_of_net}
use Rattle.dpl_core.proofs.TouchLemmas.{untouched_of}
use Rattle.dpl_core.proofs.refining.refined.Goals as goal

pub returns-then-is_empty-clause-report : goal.returns-then-is_empty-clause-report
returns-then-is_empty-clause-report c =
    let none : length c.args.report.aside ≡ 0 = search rules in
    plane_of_net c.args.options.now c.args.layer.now.fragments c.args.layer.now.net (plain_report c.args.report)
    c.requires.report (no_items c.args.report.aside none)

pub true_report_is_of_the_layer-requires-2-clause-truth :
    goal.true_report_is_of_the_layer-requires-2-clause-truth
true_report_is_of_the_layer-requires-2-clause-truth c =
    c.in_ok-found.ensures.truth c.args.options.now c.args.layer.now.fragments
    (c.in_ok-coloured.ensures.truth c.args.options.now c.requires.report.truth)

pub returns-clause-report : goal.returns-clause-report
returns-clause-report c =
    let R : List Bool → Type 0 = IsRefined c.args.layer.now.net.graph c.args.report.colours in
    let some : length c.args.report.aside ≡ 0 → ⊥ = search rules in
    let more = c.in_ok-found.ensures.bound in
    let same = ap bound_of c.in_ok-coloured.ensures.cycles in
    let told = c.requires.report.truth.bound in
    let refined : R c.in_ok-found.found.colours =
    subst R (sym (c.in_ok-found.ensures.colours ∙ c.in_ok-coloured.ensures.colours)) (rw c.as_slice-2.ensures at c.in_ok-colours.ensures) in
    record {
      truth = c.in_ok-found.ensures.truth c.args.options.now c.args.layer.now.fragments
          (c.in_ok-coloured.ensures.truth c.args.options.now c.requires.report.truth);
      valid = c.true_report_is_of_the_layer-2.ensures.valid;
      good = c.true_report_is_of_the_layer-2.ensures.good;
      tight = plain_report c.args.report;
      of = c.requires.report;
      refined = refined;
      untouched = λ u l none. untouched_of c.args.layer.now.net u c.args.report.colours c.in_ok-found.found.colours
          c.requires.report.truth.colouring refined.colouring c.requires.report.least.kept refined.around l none;
      bound = omega (arith, more, same, told);
      plane = λ p. absurd (some (ap length (c.requires.report.least.plane.1 p)));
    }
