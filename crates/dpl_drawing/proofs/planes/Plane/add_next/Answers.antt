use Rattle.std.proofs.Common.{rules, ◌≡◌, ◌<◌, sym, ◌∙◌, true, false, length}
use Rattle.std.proofs.lemmas.Bool.{both_ways}
use Rattle.dpl_sign.proofs.ExcessLemmas.{kept_more}
use Rattle.dpl_drawing.proofs.DrawnLemmas.{next_apart, some_component, ends_joined, edge_read, looked, aside_next, split_next, join_next, swap_read}
use Rattle.std.proofs.Common.{get_or, refl}
use Rattle.std.proofs.lemmas.List.{get_or_read}
use Rattle.dpl_drawing.proofs.DrawnLemmas.{kept_false}
use Rattle.dpl_drawing.proofs.LastLemmas.{ends_in, last_first, last_second, lasts_drawn, lasts_aside}
use Rattle.dpl_drawing.proofs.planes.Plane.add_next.Goals as goal

pub insert-requires-clause-apart : goal.insert-requires-clause-apart
insert-requires-clause-apart c = λ e. next_apart c.args.net.now _ _ (length c.args.kept.now)
    (kept_more c.args.net.now c.args.kept.now c.requires.edge) (sym c.next_from-next.ensures.value ∙ e)

pub insert-requires-2-clause-apart : goal.insert-requires-2-clause-apart
insert-requires-2-clause-apart c = λ e. next_apart c.args.net.now _ _ (length c.args.kept.now)
    (kept_more c.args.net.now c.args.kept.now c.requires.edge) (sym c.next_from-next.ensures.value ∙ e)

pub overflow_sub-self : goal.overflow_sub-self
overflow_sub-self c =
    let far : c.are_together.result ≡ false = search rules in
    let inside : length c.args.kept.now < length c.as_slice.result.now = search rules in
    let edge = edge_read c.args.net.now.graph _ _ _ c.as_slice.ensures inside c.index-as_slice-edge.is in
    let ends = ends_joined c.args.net.now _ _ (length c.args.kept.now) _ c.requires.drawn.are_parts c.requires.edge edge in
    some_component c.args.net.now c.args.kept.now _ c.requires.edge (λ j. both_ways _ far (c.are_together.ensures.value.1 (ends.1 j))) c.requires.drawn.counted

pub returns-then-not-are_together-clause-kept : goal.returns-then-not-are_together-clause-kept
returns-then-not-are_together-clause-kept c =
    let far : c.are_together.result ≡ false = search rules in
    let inside : length c.args.kept.now < length c.as_slice.result.now = search rules in
    let edge = edge_read c.args.net.now.graph _ _ _ c.as_slice.ensures inside c.index-as_slice-edge.is in
    let ends = ends_joined c.args.net.now _ _ (length c.args.kept.now) _ c.requires.drawn.are_parts c.requires.edge edge in
    let look = looked _ _ _ _ _ _ _ c.requires.edge c.requires.drawn c.next_from-next.ensures.value c.next_from-next_twin.ensures.value in
    (join_next c.args.net.now c.args.kept.now _ _ _ _ _ _ _ look
    (λ j. both_ways _ far (c.are_together.ensures.value.1 (ends.1 j))) c.are_together.ensures.ring
    c.insert.ensures.value (swap_read c.args.net.now.graph (length c.args.kept.now) _ _ _ edge
    c.splice.ensures.nexts)).0

pub returns-then-not-are_together-clause-drawn : goal.returns-then-not-are_together-clause-drawn
returns-then-not-are_together-clause-drawn c =
    let far : c.are_together.result ≡ false = search rules in
    let inside : length c.args.kept.now < length c.as_slice.result.now = search rules in
    let edge = edge_read c.args.net.now.graph _ _ _ c.as_slice.ensures inside c.index-as_slice-edge.is in
    let ends = ends_joined c.args.net.now _ _ (length c.args.kept.now) _ c.requires.drawn.are_parts c.requires.edge edge in
    let look = looked _ _ _ _ _ _ _ c.requires.edge c.requires.drawn c.next_from-next.ensures.value c.next_from-next_twin.ensures.value in
    (join_next c.args.net.now c.args.kept.now _ _ _ _ _ _ _ look
    (λ j. both_ways _ far (c.are_together.ensures.value.1 (ends.1 j))) c.are_together.ensures.ring
    c.insert.ensures.value (swap_read c.args.net.now.graph (length c.args.kept.now) _ _ _ edge
    c.splice.ensures.nexts)).1

pub returns-then-not-are_together-2-clause-kept : goal.returns-then-not-are_together-2-clause-kept
returns-then-not-are_together-2-clause-kept c =
    let near : c.are_together.result ≡ true = search rules in
    let far : c.are_together-2.result ≡ false = search rules in
    let inside : length c.args.kept.now < length c.as_slice.result.now = search rules in
    let edge = edge_read c.args.net.now.graph _ _ _ c.as_slice.ensures inside c.index-as_slice-edge.is in
    let ends = ends_joined c.args.net.now _ _ (length c.args.kept.now) _ c.requires.drawn.are_parts c.requires.edge edge in
    let look = looked _ _ _ _ _ _ _ c.requires.edge c.requires.drawn c.next_from-next.ensures.value c.next_from-next_twin.ensures.value in
    (aside_next c.args.net.now c.args.kept.now _ _ _ _ _ look (ends.0 (c.are_together.ensures.value.0 near))
    (λ e. both_ways _ far (c.are_together-2.ensures.value.1 e))).0

pub returns-then-not-are_together-2-clause-drawn : goal.returns-then-not-are_together-2-clause-drawn
returns-then-not-are_together-2-clause-drawn c =
    let near : c.are_together.result ≡ true = search rules in
    let far : c.are_together-2.result ≡ false = search rules in
    let inside : length c.args.kept.now < length c.as_slice.result.now = search rules in
    let edge = edge_read c.args.net.now.graph _ _ _ c.as_slice.ensures inside c.index-as_slice-edge.is in
    let ends = ends_joined c.args.net.now _ _ (length c.args.kept.now) _ c.requires.drawn.are_parts c.requires.edge edge in
    let look = looked _ _ _ _ _ _ _ c.requires.edge c.requires.drawn c.next_from-next.ensures.value c.next_from-next_twin.ensures.value in
    (aside_next c.args.net.now c.args.kept.now _ _ _ _ _ look (ends.0 (c.are_together.ensures.value.0 near))
    (λ e. both_ways _ far (c.are_together-2.ensures.value.1 e))).1

pub returns-clause-kept : goal.returns-clause-kept
returns-clause-kept c =
    let near : c.are_together.result ≡ true = search rules in
    let one : c.are_together-2.result ≡ true = search rules in
    let inside : length c.args.kept.now < length c.as_slice.result.now = search rules in
    let edge = edge_read c.args.net.now.graph _ _ _ c.as_slice.ensures inside c.index-as_slice-edge.is in
    let ends = ends_joined c.args.net.now _ _ (length c.args.kept.now) _ c.requires.drawn.are_parts c.requires.edge edge in
    let look = looked _ _ _ _ _ _ _ c.requires.edge c.requires.drawn c.next_from-next.ensures.value c.next_from-next_twin.ensures.value in
    (split_next c.args.net.now c.args.kept.now _ _ _ _ _ _ look (ends.0 (c.are_together.ensures.value.0 near))
    (c.are_together-2.ensures.value.0 one) c.insert-2.ensures.value).0

pub returns-clause-drawn : goal.returns-clause-drawn
returns-clause-drawn c =
    let near : c.are_together.result ≡ true = search rules in
    let one : c.are_together-2.result ≡ true = search rules in
    let inside : length c.args.kept.now < length c.as_slice.result.now = search rules in
    let edge = edge_read c.args.net.now.graph _ _ _ c.as_slice.ensures inside c.index-as_slice-edge.is in
    let ends = ends_joined c.args.net.now _ _ (length c.args.kept.now) _ c.requires.drawn.are_parts c.requires.edge edge in
    let look = looked _ _ _ _ _ _ _ c.requires.edge c.requires.drawn c.next_from-next.ensures.value c.next_from-next_twin.ensures.value in
    (split_next c.args.net.now c.args.kept.now _ _ _ _ _ _ look (ends.0 (c.are_together.ensures.value.0 near))
    (c.are_together-2.ensures.value.0 one) c.insert-2.ensures.value).1

pub next_from-next-requires-clause-last : goal.next_from-next-requires-clause-last
next_from-next-requires-clause-last c =
    let inside : length c.args.kept.now < length c.as_slice.result.now = search rules in
    let edge = edge_read c.args.net.now.graph _ _ _ c.as_slice.ensures inside c.index-as_slice-edge.is in
    let both = ends_in c.args.net.now _ _ (length c.args.kept.now) _ c.requires.lasts c.requires.edge edge in
    let read : c.index-last.result.now ≡ get_or c.args.self.now.lasts.items c.index-as_slice-edge.result.a 0 =
    get_or_read _ _ _ both.0 c.index-last.ensures 0 in
    last_first c.args.net.now _ _ (length c.args.kept.now) _ _ c.requires.lasts c.requires.edge edge read

pub next_from-next_twin-requires-clause-last : goal.next_from-next_twin-requires-clause-last
next_from-next_twin-requires-clause-last c =
    let inside : length c.args.kept.now < length c.as_slice.result.now = search rules in
    let edge = edge_read c.args.net.now.graph _ _ _ c.as_slice.ensures inside c.index-as_slice-edge.is in
    let both = ends_in c.args.net.now _ _ (length c.args.kept.now) _ c.requires.lasts c.requires.edge edge in
    let read : c.index-last_twin.result.now ≡ get_or c.args.self.now.lasts.items c.index-as_slice-edge.result.b 0 =
    get_or_read _ _ _ both.1 c.index-last_twin.ensures 0 in
    last_second c.args.net.now _ _ (length c.args.kept.now) _ _ c.requires.lasts c.requires.edge edge read

pub returns-then-not-are_together-clause-lasts : goal.returns-then-not-are_together-clause-lasts
returns-then-not-are_together-clause-lasts c =
    let inside : length c.args.kept.now < length c.as_slice.result.now = search rules in
    let edge = edge_read c.args.net.now.graph _ _ _ c.as_slice.ensures inside c.index-as_slice-edge.is in
    lasts_drawn c.args.net.now c.args.kept.now _ _ _ c.requires.edge edge c.requires.lasts refl

pub returns-then-not-are_together-2-clause-lasts : goal.returns-then-not-are_together-2-clause-lasts
returns-then-not-are_together-2-clause-lasts c = lasts_aside c.args.net.now c.args.kept.now _ (kept_false c.args.kept.now) c.requires.lasts

pub returns-clause-lasts : goal.returns-clause-lasts
returns-clause-lasts c =
    let inside : length c.args.kept.now < length c.as_slice.result.now = search rules in
    let edge = edge_read c.args.net.now.graph _ _ _ c.as_slice.ensures inside c.index-as_slice-edge.is in
    lasts_drawn c.args.net.now c.args.kept.now _ _ _ c.requires.edge edge c.requires.lasts refl
