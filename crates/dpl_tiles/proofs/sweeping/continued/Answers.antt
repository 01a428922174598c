use Rattle.std.proofs.Common.{inl, refl, sym, ◌≡◌, ◌∙◌, get_or}
use Rattle.std.proofs.lemmas.List.{get_or_default}
use Rattle.dpl_tiles.specs.Bands.{HasColumns}
use Rattle.dpl_tiles.proofs.sweeping.continued.Goals as goal

pub returns-in-Some : goal.returns-in-Some
returns-in-Some c =
    let h = c.in-Some.ensures in
    let is : get_or c.args.near.now c.in-Some.k c.args.run.now ≡ c.index-near-k.result =
    get_or_default c.args.near.now c.in-Some.k c.args.run.now c.index-near-k.result (h.0) ∙ sym c.index-near-k.is in
    let k : HasColumns c.args.run.now.x1 c.args.run.now.x2 c.index-near-k.result = rw is at (h.1) in
    record { columns = k; bottom = inl (c.in-Some.k, c.index-near-k.result, h.0, sym c.index-near-k.is, (k, refl)) }
