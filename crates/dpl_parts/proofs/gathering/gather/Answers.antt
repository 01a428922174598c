use Rattle.std.proofs.Common.{arith, ◌≡◌, ℕ, true, length, slice_index_or, List, sym, ap, subst, ◌∙◌}
use Rattle.dpl_parts.specs.Picks.{is_taken, is_edge_taken, picked_below, place_in}
use Rattle.dpl_parts.proofs.PickLemmas.{picked_is, picked_at}
use Rattle.dpl_parts.proofs.GatherLemmas.{taken_inside}
use Rattle.dpl_parts.proofs.gathering.gather.Goals as goal

pub gather_picked-requires : goal.gather_picked-requires
gather_picked-requires c = record {
  taken = c.args.taken.now;
  long = c.requires.long;
  closed = c.requires.closed;
  nodes_are = c.in_ok-nodes.ensures;
  place_long = rw c.as_slice-2.ensures.value c.in_ok-place.ensures.long;
  place_each = rw c.as_slice-2.ensures.value (λ v l t. c.in_ok-place.ensures.each v l);
  picks_are = c.in_ok-picks.ensures ∙ ap (λ es. picked_below (is_edge_taken c.args.taken.now es) (length es)) c.as_slice.ensures;
}

pub returns-in-Ok-clause-taken : goal.returns-in-Ok-clause-taken
returns-in-Ok-clause-taken c = λ v l.
    let e = c.in-Ok.ensures.nodes ∙ c.in_ok-nodes.ensures in
    let n = c.in-Ok.ensures.count ∙ ap length c.in_ok-nodes.ensures in
    let P : List ℕ → Type 0 = λ xs. is_taken c.args.taken.now (slice_index_or xs v 0) ≡ true in
    subst P (sym e) (picked_is (is_taken c.args.taken.now) (length c.args.taken.now) v (omega (arith, l, n))).1

pub returns-in-Ok-clause-all : goal.returns-in-Ok-clause-all
returns-in-Ok-clause-all c = λ w t.
    let e = c.in-Ok.ensures.nodes ∙ c.in_ok-nodes.ensures in
    let n = c.in-Ok.ensures.count ∙ ap length c.in_ok-nodes.ensures in
    let (low, is) = picked_at (is_taken c.args.taken.now) (length c.args.taken.now) w (taken_inside c.args.taken.now w t) t in
    let P : List ℕ → Type 0 = λ xs. slice_index_or xs (place_in (is_taken c.args.taken.now) w) 0 ≡ w in
    (place_in (is_taken c.args.taken.now) w, omega (arith, low, n), subst P (sym e) is)
