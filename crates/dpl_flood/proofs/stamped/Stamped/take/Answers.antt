use Rattle.std.proofs.Common.{arith, ◌∙◌, ap, None}
use Rattle.std.specs.Prelude.{slice_set}
use Rattle.dpl_flood.proofs.StampedLemmas.{entry_written, under_other}
use Rattle.dpl_flood.proofs.stamped.Stamped.take.Goals as goal

pub returns : goal.returns
returns c =
    let stamp = c.self.inside.stamp in
    entry_written stamp c.args.place c.self.inside.entries.items (record { stamp = 0; number = 0 }) None
    (under_other stamp (record { stamp = 0; number = 0 }) (λ e. omega (arith, e, c.self.invariant.1)))
    ∙ ap (λ z. slice_set z c.args.place None) c.self.view_is
