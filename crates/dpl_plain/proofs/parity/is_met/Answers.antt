use Rattle.std.proofs.Common.{List, Bool, ◌≡◌, ◌==◌, ◌%◌, ◌∙◌, ap}
use Rattle.dpl_sign.specs.Drawings.{is_in}
use Rattle.dpl_sign.specs.Parity.{is_clash_edge, passages_on_face}
use Rattle.dpl_plain.proofs.PlainLemmas.{passages_same}
use Rattle.dpl_plain.proofs.parity.is_met.Goals as goal

pub returns : goal.returns
returns c =
    let clashed : c.in_ok-clashed.clashed ≡ passages_on_face c.args.net.now (is_in c.args.set.now) (is_clash_edge c.args.net.now) c.args.face =
    c.in_ok-clashed.ensures ∙ passages_same c.args.net.now (is_in c.args.set.now) (is_in c.deref.result.now) (is_clash_edge c.args.net.now) c.args.face
    (λ e h. ap (λ (xs : List Bool). is_in xs e) c.deref.ensures.value ∙ c.in_ok-test.ensures e h) in
    ap (λ n. n % 2 == c.in_ok-clashed.clashed % 2) c.in_ok-passed.ensures ∙
    ap (λ n. passages_on_face c.args.net.now (is_in c.args.set.now) (is_in c.args.chosen.now) c.args.face % 2 ==
    n % 2) clashed
