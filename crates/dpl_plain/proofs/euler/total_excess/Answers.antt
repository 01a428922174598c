use Rattle.std.proofs.Common.{rules, ◌≡◌, ◌∙◌, ◌<◌, ap, List, Bool, length}
use Rattle.dpl_sign.specs.Drawings.{is_in}
use Rattle.dpl_sign.specs.Excess.{excess, all_edges}
use Rattle.dpl_sign.proofs.Same.{excess_same}
use Rattle.dpl_plain.proofs.euler.total_excess.Goals as goal

pub returns : goal.returns
returns c =
    let e : excess c.args.net.now (is_in c.deref.result.now) ≡ excess c.args.net.now all_edges =
    excess_same c.args.net.now (is_in c.deref.result.now) all_edges (λ k h.
    let k' : k < length c.as_slice.result.now = search rules in
    ap (λ (xs : List Bool). is_in xs k) c.deref.ensures.value ∙ c.in_ok-set.ensures.each k k') in
    rw (← e) c.excess.ensures
