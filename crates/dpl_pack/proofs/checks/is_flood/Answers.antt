use Rattle.std.proofs.Common.{arith, sym, ap, ◌∙◌, ◌≡◌, ◌<◌, subst, replicate, None, Option, List, length, ℕ}
use Rattle.std.specs.Prelude.{All}
use Rattle.std.proofs.lemmas.List.{with_items_is, length-replicate}
use Rattle.dpl_laminar.specs.Storing.{sets_of}
use Rattle.dpl_dual.specs.declared.crosses.Cross.{Cross}
use Rattle.dpl_dual.proofs.ChainLemmas.{crosses_inside}
use Rattle.dpl_pack.specs.declared.held.Held.{Held}
use Rattle.dpl_pack.specs.Notes.{note_at, noted, AreSeatedTo, AreShortTo}
use Rattle.dpl_pack.proofs.MoatLemmas.{terminals_below}
use Rattle.dpl_pack.proofs.CheckLemmas.{nothing_noted, replicate_none, noted_member, flood_checked}
use Rattle.dpl_pack.proofs.checks.is_flood.Goals as goal

pub note_all-requires-clause-start : goal.note_all-requires-clause-start
note_all-requires-clause-start c = terminals_below _ _ c.requires.dual c.requires.terminals 0 0 c.requires.terminals.some

pub note_all-requires-clause-blank : goal.note_all-requires-clause-blank
note_all-requires-clause-blank c =
    let e : c.deref_mut.result.now ≡ replicate c.args.dual.now.faces None = c.deref_mut.ensures.value ∙ c.in_ok-notes.ensures in
    nothing_noted c.args.dual.now _ _ _ c.deref_mut.result.now (ap length e ∙ length-replicate c.args.dual.now.faces None)
    (λ g. ap (λ z. note_at z g) e ∙ replicate_none c.args.dual.now.faces g)

pub are_seated-requires-clause-faces : goal.are_seated-requires-clause-faces
are_seated-requires-clause-faces c = λ k x l.
    let w = c.note_all.ensures c.if-not-note_all.false in
    let long : length c.note_all.new.notes ≡ c.in_ok-notes.notes.len =
    omega (arith, c.note_all.auto.notes, c.deref_mut.ensures.len, c.in_ok-notes.notes.ok) in
    let e : c.deref-2.result.now ≡ c.note_all.new.notes = c.deref-2.ensures.value ∙ with_items_is c.in_ok-notes.notes c.note_all.new.notes long in
    omega (arith, terminals_below _ _ c.requires.dual c.requires.terminals k x l, w.sizes, ap length e)

pub are_seated-requires-clause-notes : goal.are_seated-requires-clause-notes
are_seated-requires-clause-notes c = λ g s q.
    let nobody : Held = record { face = 0; member = 0; far = 0 } in
    let w = c.note_all.ensures c.if-not-note_all.false in
    let long : length c.note_all.new.notes ≡ c.in_ok-notes.notes.len =
    omega (arith, c.note_all.auto.notes, c.deref_mut.ensures.len, c.in_ok-notes.notes.ok) in
    let e : c.deref-2.result.now ≡ c.note_all.new.notes = c.deref-2.ensures.value ∙ with_items_is c.in_ok-notes.notes c.note_all.new.notes long in
    omega (arith, noted_member _ _ _ _ _ _ nobody w g s (ap (λ z. note_at z g) (sym e) ∙ q), c.requires.members)

pub are_short-is_short-requires-clause-faces : goal.are_short-is_short-requires-clause-faces
are_short-is_short-requires-clause-faces c =
    let w = c.note_all.ensures c.if-not-note_all.false in
    let long : length c.note_all.new.notes ≡ c.in_ok-notes.notes.len =
    omega (arith, c.note_all.auto.notes, c.deref_mut.ensures.len, c.in_ok-notes.notes.ok) in
    let e : c.deref-3.result.now ≡ c.note_all.new.notes = c.deref-3.ensures.value ∙ with_items_is c.in_ok-notes.notes c.note_all.new.notes long in
    let P : List Cross → Type 0 = λ z. All (λ x. (x.f < length c.deref-3.result.now) × (x.g < length c.deref-3.result.now)) z in
    subst P (sym c.as_slice.ensures) (λ k x l.
    let b = crosses_inside c.args.dual.now c.requires.dual k x l in
    (omega (arith, b.0, w.sizes, ap length e), omega (arith, b.1, w.sizes, ap length e)))

pub are_short-is_short-requires-clause-notes : goal.are_short-is_short-requires-clause-notes
are_short-is_short-requires-clause-notes c = λ g s q.
    let nobody : Held = record { face = 0; member = 0; far = 0 } in
    let w = c.note_all.ensures c.if-not-note_all.false in
    let long : length c.note_all.new.notes ≡ c.in_ok-notes.notes.len =
    omega (arith, c.note_all.auto.notes, c.deref_mut.ensures.len, c.in_ok-notes.notes.ok) in
    let e : c.deref-3.result.now ≡ c.note_all.new.notes = c.deref-3.ensures.value ∙ with_items_is c.in_ok-notes.notes c.note_all.new.notes long in
    omega (arith, noted_member _ _ _ _ _ _ nobody w g s (ap (λ z. note_at z g) (sym e) ∙ q), c.requires.members)

pub returns : goal.returns
returns c = record {
  flood = λ short.
      let nobody : Held = record { face = 0; member = 0; far = 0 } in
      let f = sets_of c.args.family.now in
      let w = c.note_all.ensures c.if-not-note_all.false in
      let long : length c.note_all.new.notes ≡ c.in_ok-notes.notes.len =
      omega (arith, c.note_all.auto.notes, c.deref_mut.ensures.len, c.in_ok-notes.notes.ok) in
      let same = with_items_is c.in_ok-notes.notes c.note_all.new.notes long in
      let e2 : c.deref-2.result.now ≡ c.note_all.new.notes = c.deref-2.ensures.value ∙ same in
      let e3 : c.deref-3.result.now ≡ c.note_all.new.notes = c.deref-3.ensures.value ∙ same in
      let P : List (Option (ℕ × ℕ)) → Type 0 = λ z. AreSeatedTo f (noted z) c.args.terminals.now (length c.args.terminals.now) in
      let Q : List (Option (ℕ × ℕ)) → List Cross → Type 0 = λ z ways. AreShortTo f (noted z) ways (length ways) in
      flood_checked c.args.dual.now c.args.terminals.now f (length c.args.terminals.now) c.args.held.now c.note_all.new.notes nobody
      (sym c.requires.members) c.requires.members w (subst P e2 (c.are_seated.ensures c.if-not-are_seated.false))
      (subst (λ z. Q z c.args.dual.now.crosses) e3 (subst (Q c.deref-3.result.now) c.as_slice.ensures (c.are_short-is_short.ensures short)));
}
