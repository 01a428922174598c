use Rattle.std.proofs.Common.{false, true, ap, sym, ◌∙◌}
use Rattle.dpl_good.specs.MaskRects.{mask_of}
use Rattle.dpl_balance.specs.Balance.{AreTurned}
use Rattle.dpl_balance.proofs.StayLemmas.{break_the_same, still_true}
use Rattle.dpl_balance.proofs.balancing.balance.Goals as goal

pub returns-clause-broken : goal.returns-clause-broken
returns-clause-broken c = rw c.new.ensures (break_the_same c.args.net.now c.args.report.colours
    c.in_ok-colours.colours.items (rw c.as_slice.ensures at c.in_ok-colours.ensures.turned))

pub returns-clause-truth : goal.returns-clause-truth
returns-clause-truth c = λ options s.
    let t : AreTurned c.args.net.now c.args.report.colours c.new.result = rw (c.new.ensures) (rw c.as_slice.ensures at c.in_ok-colours.ensures.turned) in
    still_true options c.args.fragments.now c.args.net.now c.args.report c.new.result c.new-2.result c.new-3.result t
    (c.new-2.ensures ∙ c.in_ok-masks.ensures.on_a ∙ ap (mask_of false c.args.fragments.now) (c.as_slice-2.ensures.value ∙ sym c.new.ensures))
    (c.new-3.ensures ∙ c.in_ok-masks.ensures.on_b ∙ ap (mask_of true c.args.fragments.now) (c.as_slice-2.ensures.value ∙ sym c.new.ensures)) s

pub returns-clause-even : goal.returns-clause-even
returns-clause-even c = rw c.new.ensures c.in_ok-colours.ensures.even
