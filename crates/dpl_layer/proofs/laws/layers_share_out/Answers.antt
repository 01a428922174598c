use Rattle.dpl_layer.proofs.ShareLemmas.{text_shares_out}
use Rattle.dpl_layer.proofs.laws.layers_share_out.Goals as goal

pub returns : goal.returns
returns c = λ h. (h.0, text_shares_out c.args.options.now c.args.text.now h.0)
