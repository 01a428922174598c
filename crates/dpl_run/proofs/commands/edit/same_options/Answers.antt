use Rattle.std.proofs.Common.{◌∙◌}
use Rattle.dpl_run.proofs.EditLemmas.{same_plain}
use Rattle.dpl_run.proofs.commands.edit.same_options.Goals as goal

pub returns : goal.returns
returns c =
    c.new.ensures ∙ same_plain c.args.options.now c.same_name.result c.space.result c.overlap.result c.weights.result.now
    c.same_keep.result (c.same_name.ensures ∙ c.layer.ensures.value) c.space.ensures.value c.overlap.ensures.value
    c.weights.ensures (c.same_keep.ensures ∙ c.keep.ensures.value)
