use Rattle.std.proofs.Common.{rules, w64, SFits, ◌≡◌}
use Rattle.std.specs.Int.{int_max}
use Rattle.std.proofs.lemmas.Int.{to_z-of_z}
use Rattle.dpl_cover.proofs.MergeLemmas.{joined_places}
use Rattle.dpl_cover.proofs.merging.joined.Goals as goal

pub returns-clause-same : goal.returns-clause-same
returns-clause-same c = λ x.
    let f : SFits w64 c.args.a.now.from = search rules in
    let g : SFits w64 c.max.result = search rules in
    let h : SFits w64 c.args.a.now.to = search rules in
    let i : SFits w64 c.args.b.now.to = search rules in
    let e : c.max.result ≡ int_max c.args.a.now.to c.args.b.now.to = simp to_z-of_z at c.max.ensures.value in
    simp to_z-of_z (rw e (joined_places _ _ _ _ x c.requires.above c.requires.touching))
