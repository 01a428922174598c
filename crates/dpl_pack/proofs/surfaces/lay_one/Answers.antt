use Rattle.std.proofs.Common.{ap, arith, sym, subst, ◌≡◌, ◌∙◌, ◌≤◌, ◌<◌, ◌^◌, ℕ, List, length, map}
use Rattle.std.specs.Prelude.{All}
use Rattle.std.proofs.lemmas.List.{length-map}
use Rattle.dpl_pack.specs.declared.moat.Moat.{Moat}
use Rattle.dpl_pack.specs.declared.laid.Near.{Near}
use Rattle.dpl_pack.specs.Nests.{layers_of}
use Rattle.dpl_pack.specs.Laid.{near_with, near_at, moats_of}
use Rattle.dpl_pack.specs.Points.{fars}
use Rattle.dpl_pack.specs.Stacks.{AreDepths, AreStacked}
use Rattle.dpl_pack.proofs.SurroundLemmas.{skipped_set}
use Rattle.dpl_pack.proofs.SurfaceLemmas.{laid_set}
use Rattle.dpl_pack.proofs.LaidLemmas.{set_laid, old_moats, new_near}
use Rattle.dpl_pack.proofs.surfaces.lay_one.Goals as goal

pub returns-then-value-eq0-clause-moats : goal.returns-then-value-eq0-clause-moats
returns-then-value-eq0-clause-moats c = λ f point faces t p w.
    skipped_set f _ _ (fars f point) faces _ _ t c.requires.set c.if-value-eq0.true w

pub near_held-requires-clause-members : goal.near_held-requires-clause-members
near_held-requires-clause-members c =
    let P : List (ℕ × ℕ) → Type 0 = λ z. All (λ e. e.0 < length c.args.surface.now.spots.now) z in
    subst P (sym c.row.ensures) (c.requires.surface.members c.args.set)

pub near_held-requires-clause-inner : goal.near_held-requires-clause-inner
near_held-requires-clause-inner c =
    let P : List (ℕ × ℕ) → Type 0 = λ z. All (λ e. e.1 ≤ 2 ^ 72) z in
    subst P (sym c.row.ensures) (c.requires.surface.inner c.args.set)

pub near_held-requires-clause-small : goal.near_held-requires-clause-small
near_held-requires-clause-small c = c.requires.surface.small c.args.set

pub returns-clause-laid : goal.returns-clause-laid
returns-clause-laid c =
    let near : Near = near_with c.new.result c.new-2.result in
    set_laid c.args.sets.now.items c.push.new.self.items near c.args.levels.now.items c.stack.new.levels.items c.requires.laid
    c.in_ok-push.ensures.items
    (omega (
      arith,
      ap length c.new.ensures,
      ap length c.new-2.ensures,
      ap length c.in_ok-faces.ensures,
      ap length c.in_ok-depths.ensures,
      ap length c.deref.ensures.value,
      ap length c.deref-2.ensures.value,
      length-map c.deref.result.now (λ (p : ℕ × ℕ). p.0),
      length-map c.deref-2.result.now (λ (p : ℕ × ℕ). p.1),
    ))
    (λ m h old. c.in_ok-stack.ensures.places m (omega (arith, h, c.len.ensures)) old)

pub returns-clause-moats : goal.returns-clause-moats
returns-clause-moats c = λ f point faces t p w.
    let sets = c.args.sets.now.items in
    let new = c.push.new.self.items in
    let old = c.args.levels.now.items in
    let near : List (ℕ × ℕ) = c.in_ok-near.near.items in
    let firsts : List ℕ = map (λ (p : ℕ × ℕ). p.0) near in
    let seconds : List ℕ = map (λ (p : ℕ × ℕ). p.1) near in
    let depths : List ℕ = c.deref-3.result.now in
    let last : Near = near_with c.new.result c.new-2.result in
    let faces_are : c.new.result ≡ firsts = c.new.ensures ∙ c.in_ok-faces.ensures ∙ ap (map (λ (p : ℕ × ℕ). p.0)) c.deref.ensures.value in
    let depths_are : depths ≡ seconds = c.deref-3.ensures.value ∙ c.in_ok-depths.ensures ∙ ap (map (λ (p : ℕ × ℕ). p.1)) c.deref-2.ensures.value in
    let is : last ≡ near_with firsts depths = λ i. near_with (faces_are i) ((c.new-2.ensures ∙ sym c.deref-3.ensures.value) i) in
    let place : c.len.result ≡ length sets = omega (arith, c.len.ensures) in
    let at : near_at new c.len.result ≡ near_with firsts depths =
    ap (near_at new) place ∙ new_near sets new last c.in_ok-push.ensures.items ∙ is in
    let P : List Moat → Type 0 = λ z. AreStacked (layers_of f) (fars f point) faces c.args.set 0 z in
    laid_set f c.args.surface.now.ends.now c.args.surface.now.values.now point faces c.args.surface.now.spots.now c.args.set
    c.row.result.now near (moats_of new old) (moats_of new c.stack.new.levels.items) t p c.requires.set
    (omega (arith, c.if-value-eq0.false)) c.row.ensures c.in_ok-near.ensures
    (λ s q g x are u v.
    let Q : List ℕ → Type 0 = λ z. AreDepths s q g firsts x z in
    c.in_ok-stack.ensures.moats s q g firsts x new at (subst Q (sym depths_are) are) u v)
    (subst P (sym (old_moats sets new last old c.in_ok-push.ensures.items c.requires.laid)) w)
