use Rattle.std.proofs.Common.{arith, ◌≤◌, ◌++◌, ap, ◌∙◌, length, take, drop, get_or, false, None}
use Rattle.std.proofs.lemmas.List.{take_at}
use Rattle.dpl_laminar.specs.Changes.{IsExpanded}
use Rattle.dpl_laminar.specs.Storing.{Stored, sets_of, IsKept}
use Rattle.dpl_laminar.proofs.Keeping.{live_below, first_read, count_read, stored}
use Rattle.dpl_laminar.proofs.Expanding.{AreCleared, without_set, kids_some, kids_circle, expand_answer}
use Rattle.dpl_laminar.proofs.family.Family.expand.Given as given
use Rattle.dpl_laminar.proofs.family.Family.expand.Goals as goal

pub lift_all-requires-clause-below : goal.lift_all-requires-clause-below
lift_all-requires-clause-below g c =
    let live = ap (λ (z : Stored). get_or z.live c.args.set false) c.self.view_is ∙ c.requires.live in
    let first = first_read _ c.args.set _ c.self.invariant live c.index-first.ensures in
    let count = count_read _ c.args.set _ c.self.invariant live c.index-count.ensures in
    rw (first, count) (λ i h. omega (
      arith,
      (kids_circle _ c.args.set c.self.invariant live).below i h,
      c.self.invariant.ring_length,
      c.self.invariant.rows_length,
      ap length c.deref.ensures.value,
    ))

pub lift_all-requires-clause-apart : goal.lift_all-requires-clause-apart
lift_all-requires-clause-apart g c =
    let live = ap (λ (z : Stored). get_or z.live c.args.set false) c.self.view_is ∙ c.requires.live in
    let below = live_below _ c.args.set c.self.invariant live in
    let first = first_read _ c.args.set _ c.self.invariant live c.index-first.ensures in
    let count = count_read _ c.args.set _ c.self.invariant live c.index-count.ensures in
    rw (first, count) (λ a b m h ka kb ta tb. c.self.invariant.family.laminar.children.apart c.args.set a b m below
    (omega (arith, h, c.deref_mut.ensures.len, c.self.invariant.tops_length)) ka kb (rw c.deref.ensures.value at ta)
    (rw c.deref.ensures.value at tb))

pub lift_all-requires-clause-rows : goal.lift_all-requires-clause-rows
lift_all-requires-clause-rows g c = rw (c.deref.ensures.value, c.deref_mut.ensures.value, c.self.invariant.tops_length) c.self.invariant.rows_are

pub orphan-requires-clause-below : goal.orphan-requires-clause-below
orphan-requires-clause-below g c =
    let live = ap (λ (z : Stored). get_or z.live c.args.set false) c.self.view_is ∙ c.requires.live in
    let first = first_read _ c.args.set _ c.self.invariant live c.index-first.ensures in
    let count = count_read _ c.args.set _ c.self.invariant live c.index-count.ensures in
    rw (first, count) (λ i h. omega (
      arith,
      (kids_circle _ c.args.set c.self.invariant live).below i h,
      c.self.invariant.ring_length,
      c.self.invariant.parents_length,
      c.deref_mut-2.ensures.len,
    ))

pub untie-requires-clause-some : goal.untie-requires-clause-some
untie-requires-clause-some g c =
    let live = ap (λ (z : Stored). get_or z.live c.args.set false) c.self.view_is ∙ c.requires.live in
    let first = first_read _ c.args.set _ c.self.invariant live c.index-first.ensures in
    let count = count_read _ c.args.set _ c.self.invariant live c.index-count.ensures in
    let least : c.self.inside.size ≤ c.args.set = omega (arith, ap (λ (z : Stored). z.size) c.self.view_is, c.requires.above) in
    omega (arith, count, kids_some _ c.args.set c.self.invariant least live)

pub untie-requires-clause-circle : goal.untie-requires-clause-circle
untie-requires-clause-circle g c =
    let live = ap (λ (z : Stored). get_or z.live c.args.set false) c.self.view_is ∙ c.requires.live in
    let first = first_read _ c.args.set _ c.self.invariant live c.index-first.ensures in
    let count = count_read _ c.args.set _ c.self.invariant live c.index-count.ensures in
    rw (first, count) (kids_circle _ c.args.set c.self.invariant live)

-- the lists as they were when the call began
abbrev before : (g : given.Over) → goal.After-self-5-1 g → Stored
before g c = stored c.self.inside.size c.self.inside.live.items c.self.inside.rows.items c.self.inside.values.items
    c.self.inside.parents.items c.self.inside.firsts.items c.self.inside.counts.items c.self.inside.ring
    c.self.inside.joins.items c.self.inside.tops.items

-- the lists as they are when it ends
abbrev after : (g : given.Over) → goal.After-self-5-1 g → Stored
after g c = without_set (before g c) c.args.set
    (take c.self.inside.parents.len (c.orphan.new.parents ++ drop (length c.orphan.new.parents) c.self.inside.parents.items)) c.untie.new.ring
    (take c.self.inside.tops.len (c.lift_all.new.tops ++ drop (length c.lift_all.new.tops) c.self.inside.tops.items))

answer : (g : given.Over) (c : goal.After-self-5-1 g) → IsKept (after g c) × IsExpanded (sets_of (before g c)) c.args.set (sets_of (after g c))
answer g c =
    let live = ap (λ (z : Stored). get_or z.live c.args.set false) c.self.view_is ∙ c.requires.live in
    let first = first_read _ c.args.set _ c.self.invariant live c.index-first.ensures in
    let count = count_read _ c.args.set _ c.self.invariant live c.index-count.ensures in
    let least : c.self.inside.size ≤ c.args.set = omega (arith, ap (λ (z : Stored). z.size) c.self.view_is, c.requires.above) in
    let top = ap (λ (z : Stored). get_or z.parents c.args.set None) c.self.view_is ∙ c.requires.top in
    let none = ap (λ (z : Stored). get_or z.values c.args.set 0) c.self.view_is ∙ c.requires.value in
    let written : AreCleared (before g c) c.args.set c.orphan.new.parents c.untie.new.ring c.lift_all.new.tops = record {
      parents_length = c.orphan.auto.parents ∙ ap length c.deref_mut-2.ensures.value;
      parents = rw (first, count, c.deref_mut-2.ensures.value) at c.orphan.ensures;
      ring_length = c.untie.ensures.length;
      alone = rw (first, count) at c.untie.ensures.alone;
      ring_others = rw (first, count) at c.untie.ensures.others;
      tops_length = c.lift_all.auto.tops ∙ ap length c.deref_mut.ensures.value;
      tops = record {
        inside = rw (first, count, c.deref.ensures.value, c.deref_mut.ensures.value) at c.lift_all.ensures.inside;
        outside = rw (first, count, c.deref.ensures.value, c.deref_mut.ensures.value) at c.lift_all.ensures.outside;
      };
    } in
    expand_answer _ c.args.set _ _ _ _ _ c.self.invariant least live top none written
    (take_at c.orphan.new.parents _ c.self.inside.parents.len (omega (arith, c.self.inside.parents.ok, written.parents_length)))
    (take_at c.lift_all.new.tops _ c.self.inside.tops.len (omega (arith, c.self.inside.tops.ok, written.tops_length)))

pub invariant_of-self : goal.invariant_of-self
invariant_of-self g c = rw c.clear.ensures (answer g c).0

pub returns-clause-value : goal.returns-clause-value
returns-clause-value g c = rw (← c.self.view_is, c.clear.ensures) (answer g c).1

pub returns-clause-family : goal.returns-clause-family
returns-clause-family g c = rw c.clear.ensures (answer g c).0.family
