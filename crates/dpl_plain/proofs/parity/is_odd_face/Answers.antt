use Rattle.std.proofs.Common.{List, Bool, ◌==◌, ◌%◌, ◌∙◌, ap}
use Rattle.dpl_sign.specs.Drawings.{is_in}
use Rattle.dpl_sign.specs.Parity.{is_clash_edge}
use Rattle.dpl_plain.proofs.PlainLemmas.{passages_same}
use Rattle.dpl_plain.proofs.parity.is_odd_face.Goals as goal

pub returns : goal.returns
returns c = ap (λ n. n % 2 == 1) (c.in_ok-passages.ensures ∙
    passages_same c.args.net.now (is_in c.args.set.now) (is_in c.deref.result.now) (is_clash_edge c.args.net.now)
    c.args.face
    (λ e h. ap (λ (xs : List Bool). is_in xs e) c.deref.ensures.value ∙ c.in_ok-test.ensures e h))
