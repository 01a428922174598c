use Rattle.std.proofs.Common.{arith, sym, subst, ◌<◌}
use Rattle.std.proofs.lemmas.List.{get_or_default}
use Rattle.dpl_dual.specs.Chains.{no_cross}
use Rattle.dpl_flood.proofs.StepLemmas.{two_added}
use Rattle.dpl_flood.proofs.ways.list.Goals as goal

pub returns : goal.returns
returns c = λ faces hf hg p.
    let same = get_or_default c.args.ways.now c.args.number _ no_cross c.requires.inside in
    two_added faces c.args.number c.args.ways.now c.args.keys.now.items c.push.new.self.items c.push-3.new.self.items
    c.args.steps.now.items c.push-2.new.self.items c.push-4.new.self.items _ same
    (λ q. omega (arith, c.if-f-g.false, q)) (subst (λ x. x.f < faces) (sym same) hf) (subst (λ x. x.g < faces) (sym same) hg) p
    c.in_ok-push.ensures.items c.in_ok-push-2.ensures.items c.in_ok-push-3.ensures.items c.in_ok-push-4.ensures.items
