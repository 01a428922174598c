use Rattle.std.proofs.Common.{arith, ◌≡◌, ℕ, ◌+◌, ◌<◌, sym, ap, ◌∙◌, subst, cond, length, get_or, ◌++◌, take, drop}
use Rattle.std.proofs.lemmas.List.{take_at}
use Rattle.dpl_laminar.specs.Changes.{AreJoined, IsShrunk}
use Rattle.dpl_laminar.specs.Storing.{Stored, sets_of, IsKept}
use Rattle.dpl_laminar.specs.Families.{has}
use Rattle.dpl_laminar.proofs.Numbers.{has_at}
use Rattle.dpl_laminar.proofs.Keeping.{stored}
use Rattle.dpl_laminar.proofs.Rows.{union_row}
use Rattle.dpl_laminar.proofs.Shrinking.{AreWritten, with_set, tops_apart, members_united, row_fits, shrink_answer}
use Rattle.dpl_laminar.proofs.family.Family.shrink.Given as given
use Rattle.dpl_laminar.proofs.family.Family.shrink.Goals as goal

pub union-requires : goal.union-requires
union-requires g c = λ i h.
    let j = subst (λ (z : Stored). AreJoined (sets_of z) c.args.children.now c.args.joins.now) (sym c.self.view_is) c.requires in
    omega (arith, row_fits _ c.args.children.now c.args.joins.now i j h, ap length c.deref.ensures.value, c.self.invariant.rows_length)

pub name_of-name-requires-clause-rows : goal.name_of-name-requires-clause-rows
name_of-name-requires-clause-rows g c = rw c.deref-2.ensures.value c.self.invariant.rows_are

pub name_of-name-requires-clause-apart : goal.name_of-name-requires-clause-apart
name_of-name-requires-clause-apart g c = λ m hm h.
    let j = subst (λ (z : Stored). AreJoined (sets_of z) c.args.children.now c.args.joins.now) (sym c.self.view_is) c.requires in
    let h0 = has_at c.args.children.now 0 (omega (arith, j.tops.several)) in
    let h1 = has_at c.args.children.now 1 (omega (arith, j.tops.several)) in
    rw c.deref-2.ensures.value (tops_apart _ _ _ m c.self.invariant (j.tops.below _ h0) (j.tops.below _ h1)
    (j.tops.parentless _ h0) (j.tops.parentless _ h1)
    (j.tops.distinct 0 1 (omega arith) (omega (arith, j.tops.several))) hm (rw c.deref-2.ensures.value at h))

pub lift-requires : goal.lift-requires
lift-requires g c =
    let held = rw c.deref.ensures.value at c.in_ok-members.ensures.held in
    let row = union_row c.self.inside.size c.self.inside.rows.items c.args.children.now c.in_ok-members.members
    c.self.invariant.rows_are c.in_ok-members.ensures.rising held in
    rw (c.as_slice.ensures, c.deref_mut.ensures.value, c.self.invariant.tops_length) row.below

pub adopt-requires : goal.adopt-requires
adopt-requires g c = λ i h.
    let j = subst (λ (z : Stored). AreJoined (sets_of z) c.args.children.now c.args.joins.now) (sym c.self.view_is) c.requires in
    omega (arith, row_fits _ c.args.children.now c.args.joins.now i j h, c.deref_mut-2.ensures.len, c.self.invariant.parents_length)

pub join-requires-clause-below : goal.join-requires-clause-below
join-requires-clause-below g c = λ i h.
    let j = subst (λ (z : Stored). AreJoined (sets_of z) c.args.children.now c.args.joins.now) (sym c.self.view_is) c.requires in
    omega (arith, row_fits _ c.args.children.now c.args.joins.now i j h, c.deref_mut-3.ensures.len, c.self.invariant.joins_length)

pub tie-requires-clause-below : goal.tie-requires-clause-below
tie-requires-clause-below g c = λ i h.
    let j = subst (λ (z : Stored). AreJoined (sets_of z) c.args.children.now c.args.joins.now) (sym c.self.view_is) c.requires in
    omega (arith, row_fits _ c.args.children.now c.args.joins.now i j h, c.self.invariant.ring_length)

pub tie-requires-clause-alone : goal.tie-requires-clause-alone
tie-requires-clause-alone g c = λ i h.
    let j = subst (λ (z : Stored). AreJoined (sets_of z) c.args.children.now c.args.joins.now) (sym c.self.view_is) c.requires in
    c.self.invariant.family.alone _ (row_fits _ c.args.children.now c.args.joins.now i j h) (j.tops.parentless _ (has_at c.args.children.now i h))

-- the lists as they were when the call began
abbrev before : (g : given.Over) → goal.After-self-7-1 g → Stored
before g c = stored c.self.inside.size c.self.inside.live.items c.self.inside.rows.items c.self.inside.values.items
    c.self.inside.parents.items c.self.inside.firsts.items c.self.inside.counts.items c.self.inside.ring
    c.self.inside.joins.items c.self.inside.tops.items

-- the lists as they are when it ends
abbrev after : (g : given.Over) → goal.After-self-7-1 g → Stored
after g c = with_set (before g c) c.args.children.now (c.self.inside.size + c.name_of-name.result) c.in_ok-members.members
    (take c.self.inside.parents.len (c.adopt.new.parents ++ drop (length c.adopt.new.parents) c.self.inside.parents.items)) c.tie.new.ring
    (take c.self.inside.joins.len (c.join.new.all ++ drop (length c.join.new.all) c.self.inside.joins.items))
    (take c.self.inside.tops.len (c.lift.new.tops ++ drop (length c.lift.new.tops) c.self.inside.tops.items))

answer : (g : given.Over) (c : goal.After-self-7-1 g) → IsKept (after g c) ×
    IsShrunk (sets_of (before g c)) c.args.children.now c.args.joins.now (c.self.inside.size + c.name_of-name.result)
    (sets_of (after g c))
answer g c =
    let j = subst (λ (z : Stored). AreJoined (sets_of z) c.args.children.now c.args.joins.now) (sym c.self.view_is) c.requires in
    let held = rw c.deref.ensures.value at c.in_ok-members.ensures.held in
    let members : (m : ℕ) → m < c.self.inside.size → has c.in_ok-members.members m ≡
    has c.args.children.now (get_or c.self.inside.tops.items m 0) =
    λ m h. held m ∙
    members_united (before g c) c.args.children.now c.args.joins.now m c.self.invariant j h in
    let lifted = rw (c.deref_mut.ensures.value, c.as_slice.ensures) at c.lift.ensures in
    let written : AreWritten (before g c) c.args.children.now c.args.joins.now
    (c.self.inside.size + c.name_of-name.result) c.in_ok-members.members c.adopt.new.parents c.tie.new.ring
    c.join.new.all c.lift.new.tops = record {
      row_is = union_row _ _ _ _ c.self.invariant.rows_are c.in_ok-members.ensures.rising held;
      members = members;
      parents_length = c.adopt.auto.parents ∙ ap length c.deref_mut-2.ensures.value;
      parents = rw c.deref_mut-2.ensures.value at c.adopt.ensures;
      ring_length = c.tie.ensures.length;
      circle = c.tie.ensures.circle;
      ring_others = c.tie.ensures.others;
      joins_length = c.join.auto.all ∙ ap length c.deref_mut-3.ensures.value;
      joins = c.join.ensures.each;
      joins_others = rw c.deref_mut-3.ensures.value at c.join.ensures.others;
      tops_length = c.lift.auto.tops ∙ ap length c.deref_mut.ensures.value;
      tops = λ m h. lifted m ∙ ap (λ z. cond z (c.self.inside.size + c.name_of-name.result) (get_or c.self.inside.tops.items m 0))
          (members m (omega (arith, h, c.self.invariant.tops_length)));
    } in
    shrink_answer _ c.args.children.now c.args.joins.now c.name_of-name.result _ _ _ _ _ _ _ _ c.self.invariant j
    c.name_of-name.ensures.below (rw c.deref-2.ensures.value at c.name_of-name.ensures.name) written
    (take_at c.adopt.new.parents _ c.self.inside.parents.len (omega (arith, c.self.inside.parents.ok, written.parents_length)))
    (take_at c.join.new.all _ c.self.inside.joins.len (omega (arith, c.self.inside.joins.ok, written.joins_length)))
    (take_at c.lift.new.tops _ c.self.inside.tops.len (omega (arith, c.self.inside.tops.ok, written.tops_length)))

pub invariant_of-self : goal.invariant_of-self
invariant_of-self g c = (answer g c).0

pub returns-clause-ok : goal.returns-clause-ok
returns-clause-ok g c = rw (← c.self.view_is) (answer g c).1

pub returns-clause-family : goal.returns-clause-family
returns-clause-family g c = (answer g c).0.family
