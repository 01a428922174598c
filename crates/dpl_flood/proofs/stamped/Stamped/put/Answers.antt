use Rattle.std.proofs.Common.{◌∙◌, ap, Some}
use Rattle.std.specs.Prelude.{slice_set}
use Rattle.dpl_flood.proofs.StampedLemmas.{entry_written, under_own}
use Rattle.dpl_flood.proofs.stamped.Stamped.put.Goals as goal

pub returns : goal.returns
returns c =
    let stamp = c.self.inside.stamp in
    let number = c.args.number in
    entry_written stamp c.args.place c.self.inside.entries.items (record { stamp = stamp; number = number }) (Some number) (under_own stamp number)
    ∙ ap (λ z. slice_set z c.args.place (Some number)) c.self.view_is
