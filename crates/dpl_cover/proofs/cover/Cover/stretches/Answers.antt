use Rattle.std.proofs.Common.{arith, ◌^◌, SFits, w64}
use Rattle.std.proofs.lemmas.Int.{to_z-of_z}
use Rattle.dpl_cover.proofs.CountLemmas.{small_wider}
use Rattle.dpl_cover.proofs.CoverLemmas.{few_counted}
use Rattle.dpl_cover.proofs.RowLemmas.{counted_covers, covered_counts, last_uncounted}
use Rattle.dpl_cover.proofs.cover.Cover.stretches.Goals as goal

pub parts_in-requires-clause-small : goal.parts_in-requires-clause-small
parts_in-requires-clause-small c =
    let n = few_counted c.args.self.now c.requires in
    rw (c.as_slice-2.ensures.value, c.as_slice-3.ensures.value) (small_wider _ (2 ^ 60) _ _ (omega (arith, n)) c.requires.counted.small)

pub parts_in-requires-clause-last : goal.parts_in-requires-clause-last
parts_in-requires-clause-last c = rw (c.as_slice.ensures.value, c.as_slice-2.ensures.value, c.as_slice-3.ensures.value)
    (last_uncounted c.args.self.now c.requires)

pub returns-clause-sound : goal.returns-clause-sound
returns-clause-sound c = λ x h. counted_covers c.args.self.now c.requires x
    ((rw (c.as_slice.ensures.value, c.as_slice-2.ensures.value, c.as_slice-3.ensures.value) at c.in_ok-parts.ensures.sound) x h)

pub returns-clause-full : goal.returns-clause-full
returns-clause-full c = λ x l h t.
    let f : SFits w64 c.args.from = c.ranges.from in
    let g : SFits w64 c.args.to = c.ranges.to in
    let p = covered_counts c.args.self.now c.requires x t in
    (rw (c.as_slice.ensures.value, c.as_slice-2.ensures.value, c.as_slice-3.ensures.value) at (simp to_z-of_z at c.in_ok-parts.ensures.full))
    x p.place l h p.is_at p.counted
