use Rattle.std.proofs.Common.{rules, arith, inl, inr, refl, true, ◌≡◌, ℕ, ◌∙◌, ◌<◌, ◌≤◌, ◌≤ℤ◌, length, SFits, w64}
use Rattle.std.proofs.lemmas.Int.{to_z-of_z}
use Rattle.std.proofs.lemmas.Bool.{cases_lt}
use Rattle.dpl_cover.specs.Columns.{column_at}
use Rattle.dpl_cover.specs.Counts.{is_counted}
use Rattle.dpl_cover.proofs.PartLemmas.{none_before, sound_more, full_more, full_past, ends_before, all_looked_at, no_parts}
use Rattle.dpl_cover.proofs.parts.parts_in.Goals as goal
use Rattle.dpl_cover.proofs.parts.parts_in.Goals.{then-loop-at-test+else-columns-at, else-loop-at-test}
use Rattle.dpl_list.proofs.Integers.{not_less}

pub loop-at-init : goal.loop-at-init
loop-at-init c =
    let f : SFits w64 c.args.from = c.ranges.from in
    record {
      sound = λ x h. absurd (no_parts _ x c.in_ok-parts.ensures.items h);
      full = λ x k l h i t. absurd (none_before c.args.columns.now c.args.from c.last_place-at.result c.requires.columns
          (simp to_z-of_z at c.last_place-at.ensures) x k (simp to_z-of_z at l) h i);
    }

-- places of one block and the blocks behind it
both : (P : ℕ → Type 0) (at m to : ℕ) → ((k : ℕ) → at ≤ k → k < m → P k) → ((k : ℕ) → m ≤ k → k < to → P k) → (k : ℕ) → at ≤ k → k < to → P k
both P at m to first second k l h = elim (cases_lt k m) [
  | inl g ↦ first k l g
  | inr g ↦ second k g h
]

pub push_part-requires-clause-within : goal.push_part-requires-clause-within
push_part-requires-clause-within c =
    let counted = both (λ k. is_counted c.args.each.now c.args.blocks.now k ≡ true) c.loop-at.at c.alike_from-alike.result.to c.full_from-end.result
    (λ k l h. c.alike_from-alike.ensures.same k l h ∙ c.if-alike.true) c.full_from-end.ensures.same in
    ends_before c.args.each.now c.args.blocks.now (length c.args.columns.now) c.loop-at.at c.full_from-end.result true
    refl (omega (arith, c.alike_from-alike.ensures.further, c.full_from-end.ensures.order)) (rw c.requires.long at c.full_from-end.ensures.within)
    counted c.requires.last

pub loop-at-preserved-then-alike : goal.loop-at-preserved-then-alike
loop-at-preserved-then-alike c =
    let f : SFits w64 c.args.from = c.ranges.from in
    let counted = both (λ k. is_counted c.args.each.now c.args.blocks.now k ≡ true) c.loop-at.at c.alike_from-alike.result.to c.full_from-end.result
    (λ k l h. c.alike_from-alike.ensures.same k l h ∙ c.if-alike.true) c.full_from-end.ensures.same in
    let further : c.loop-at.at < c.full_from-end.result = omega (arith, c.alike_from-alike.ensures.further, c.full_from-end.ensures.order) in
    let within : c.full_from-end.result < length c.args.columns.now =
    ends_before c.args.each.now c.args.blocks.now (length c.args.columns.now) c.loop-at.at c.full_from-end.result true
    refl further (rw c.requires.long at c.full_from-end.ensures.within) counted c.requires.last in
    record {
      sound = sound_more c.args.columns.now c.args.each.now c.args.blocks.now c.loop-at.parts.items _ c.loop-at.at
          c.full_from-end.result further within counted c.in_ok-push_part.ensures c.loop-at.invariant.sound;
      full = simp to_z-of_z (full_more c.args.columns.now c.args.each.now c.args.blocks.now c.loop-at.parts.items _ c.args.from
          c.loop-at.at c.full_from-end.result c.requires.columns within c.in_ok-push_part.ensures
          (simp to_z-of_z at c.loop-at.invariant.full));
    }

pub loop-at-preserved : goal.loop-at-preserved
loop-at-preserved c =
    let f : SFits w64 c.args.from = c.ranges.from in
    record {
      sound = c.loop-at.invariant.sound;
      full = simp to_z-of_z (full_past c.args.columns.now c.args.each.now c.args.blocks.now c.loop-at.parts.items c.args.from
          c.loop-at.at c.alike_from-alike.result.to _ c.if-alike.false c.alike_from-alike.ensures.same
          (simp to_z-of_z at c.loop-at.invariant.full));
    }

pub returns-clause-full : goal.returns-clause-full
returns-clause-full c = λ x k l h i t.
    let f : SFits w64 c.args.from = c.ranges.from in
    let g : SFits w64 c.args.to = c.ranges.to in
    let stop : c.loop-at.at < length c.args.columns.now → c.args.to ≤ℤ column_at c.args.columns.now c.loop-at.at =
    elim c.loop-at-test.branch [
      | then-loop-at-test+else-columns-at w ↦ λ n. not_less _ _ (search rules)
      | else-loop-at-test w ↦ λ n. absurd (search rules)
    ] in
    (simp to_z-of_z at c.loop-at.invariant.full) x k l (all_looked_at c.args.columns.now c.args.to c.loop-at.at c.requires.columns stop x k h i) i t
