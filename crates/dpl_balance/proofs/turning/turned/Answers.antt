use Rattle.std.proofs.Common.{rules, ◌≡◌, ◌<◌, List, Bool, length, sym, ap, subst, ◌∙◌}
use Rattle.dpl_balance.specs.Parts.{AreEven, IsWithinRoom}
use Rattle.dpl_balance.specs.declared.turning.Part.{Part}
use Rattle.dpl_balance.proofs.PartLemmas.{moved_distinct, moved_long, moved_all, even_in_order}
use Rattle.dpl_balance.proofs.turning.turned.Goals as goal
use Rattle.dpl_list.proofs.Lists.{refilled}

pub settle-requires-clause-few : goal.settle-requires-clause-few
settle-requires-clause-few c = rw (
  c.as_slice.ensures.value,
  moved_long c.args.on_a.now c.args.on_b.now (length c.args.on_a.now) c.in_ok-parts.parts.items c.in_ok-parts.ensures,
)
    c.requires.few

pub settle-requires-clause-distinct : goal.settle-requires-clause-distinct
settle-requires-clause-distinct c = rw c.as_slice.ensures.value
    (moved_distinct c.args.on_a.now c.args.on_b.now (length c.args.on_a.now) c.in_ok-parts.parts.items
    c.in_ok-parts.ensures)

pub settle-requires-clause-within : goal.settle-requires-clause-within
settle-requires-clause-within c =
    let n : length c.as_mut_slice.result.now ≡ length c.args.on_a.now = search rules in
    rw (c.as_slice.ensures.value, n) (moved_all c.args.on_a.now c.args.on_b.now (length c.args.on_a.now)
    c.in_ok-parts.parts.items (λ (p : Part). p.number < length c.args.on_a.now) c.in_ok-parts.ensures (λ k l. l))

pub settle-requires-clause-room : goal.settle-requires-clause-room
settle-requires-clause-room c = rw c.as_slice.ensures.value
    (moved_all c.args.on_a.now c.args.on_b.now (length c.args.on_a.now) c.in_ok-parts.parts.items IsWithinRoom
    c.in_ok-parts.ensures (λ k l. record { a = c.requires.room_a k l; b = c.requires.room_b k l }))

pub returns-clause-even : goal.returns-clause-even
returns-clause-even c =
    let e = rw c.as_slice.ensures.value at c.settle.ensures.even in
    let P : List Bool → Type 0 = AreEven c.args.on_a.now c.args.on_b.now in
    let n : c.in_ok-turned.turned.len ≡ length c.in_ok-turned.turned.items = c.in_ok-turned.turned.ok.0 in
    subst P (sym (refilled c.in_ok-turned.turned.len c.settle.new.turned c.in_ok-turned.turned.items n
    (c.settle.ensures.long ∙ ap length c.as_mut_slice.ensures.value)))
    (even_in_order c.args.on_a.now c.args.on_b.now c.in_ok-parts.parts.items c.settle.new.turned
    c.in_ok-parts.ensures e)
