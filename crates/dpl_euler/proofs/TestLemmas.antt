-- The tests of the code tell exactly what crosses.
use Rattle.std.proofs.Common.{arith, ◌≡◌, ℕ, ◌<◌, ℤ, pos, ◌≤ℤ◌, ◌*ℤ◌, refl, sym, ap, ◌∙◌, true, false, not, ◌&&◌, ◌||◌}
use Rattle.std.proofs.Common.{◌==◌, inl, inr, ◌⊎◌, length, map, eq-eqb, List, [], ◌∷◌, zero, suc}
use Rattle.std.specs.Prelude.{int_le}
use Rattle.std.specs.Int.{int_max, int_min}
use Rattle.std.specs.Ordering.{int_eq}
use Rattle.std.proofs.lemmas.Bool.{and_parts, and_from, or_parts, or_left, or_right, or_from, or_cases, not-true}
use Rattle.std.proofs.lemmas.Bool.{not_from_false, true≢false, false_from_ne_true, cases_Bool, cond-true, cond-false}
use Rattle.std.proofs.lemmas.Bool.{eqb-true}
use Rattle.std.proofs.lemmas.Bool.Decides.{Decides-int_eq}
use Rattle.std.proofs.lemmas.Int.{ints}
use Rattle.dpl_list.proofs.Integers.{less_test, is_less, is_at_most, at_most_test}
use Rattle.dpl_cell.specs.declared.rect.Rect.{Rect}
use Rattle.dpl_cell.specs.Places.{Corners, corners_of}
use Rattle.dpl_cuts.specs.declared.types.Fragments.{Fragments}
use Rattle.dpl_cuts.specs.Positions.{rect_at}
use Rattle.dpl_sign.specs.declared.edges.Edge.{Edge}
use Rattle.dpl_sign.specs.declared.nets.Net.{Net}
use Rattle.dpl_sign.specs.Walks.{edge_at}
use Rattle.dpl_euler.specs.declared.types.With.{With}
use Rattle.dpl_euler.specs.declared.types.With.TheVariants.{Link, Fragment}
use Rattle.dpl_euler.specs.Points.{Ends, Point, IsAt}
use Rattle.dpl_euler.specs.Segments.{is_left, is_right, are_left, are_right, is_beside, is_along, spans_meet}
use Rattle.dpl_euler.specs.Segments.{spans_overlap, bounds_meet, segments_meet, segments_overlap}
use Rattle.dpl_euler.specs.Crossings.{link_at, EndsAt, AreCrossing, MeetsRect, IsWith}
use Rattle.dpl_euler.specs.Tests.{is_at, ends_at, share_end, cross, diagonal, other_diagonal, passes_by, meets_rect, joins, IsFound}
use Rattle.dpl_euler.proofs.ProductLemmas.{same_from_mul}
use Rattle.dpl_euler.proofs.PointLemmas.{over_positive, left_is, left_from, right_is, right_from, on_is, on_from}
use Rattle.dpl_euler.proofs.MeetingLemmas.{DoSpansMeet, IsAcross, DoMeet, common_from, meet_from}
use Rattle.dpl_euler.proofs.OverlapLemmas.{DoOverlap, IsEndOf, inner_from, overlap_from}
use Rattle.dpl_euler.proofs.RectangleLemmas.{rect_from, rect_to}

-- ---- segments that meet

spans_is : (a1 a2 b1 b2 : ℤ) → spans_meet a1 a2 b1 b2 ≡ true → DoSpansMeet a1 a2 b1 b2
spans_is a1 a2 b1 b2 h =
    let parts = and_parts (int_le (int_min a1 a2) (int_max b1 b2)) (int_le (int_min b1 b2) (int_max a1 a2)) h in
    record { first = is_at_most _ _ parts.0; second = is_at_most _ _ parts.1 }

spans_test : (a1 a2 b1 b2 : ℤ) → DoSpansMeet a1 a2 b1 b2 → spans_meet a1 a2 b1 b2 ≡ true
spans_test a1 a2 b1 b2 m = and_from (int_le (int_min a1 a2) (int_max b1 b2)) (int_le (int_min b1 b2) (int_max a1 a2))
    (at_most_test _ _ m.first) (at_most_test _ _ m.second)

across_is : (s t : Ends) → is_beside s t ≡ false → IsAcross s t
across_is s t h =
    let parts = or_parts (are_left s t) (are_right s t) h in
    record {
      left = λ f g. true≢false (sym (and_from (is_left s t.x1 t.y1) (is_left s t.x2 t.y2) (left_from s t.x1 t.y1 f) (left_from s t.x2 t.y2 g)) ∙ parts.0);
      right = λ f g. true≢false (sym (and_from (is_right s t.x1 t.y1) (is_right s t.x2 t.y2) (right_from s t.x1 t.y1 f) (right_from s t.x2 t.y2 g)) ∙ parts.1);
    }

across_test : (s t : Ends) → IsAcross s t → is_beside s t ≡ false
across_test s t a = or_from (are_left s t) (are_right s t)
    (false_from_ne_true _ (λ h. let parts = and_parts (is_left s t.x1 t.y1) (is_left s t.x2 t.y2) h in
    a.left (left_is s t.x1 t.y1 parts.0) (left_is s t.x2 t.y2 parts.1)))
    (false_from_ne_true _ (λ h. let parts = and_parts (is_right s t.x1 t.y1) (is_right s t.x2 t.y2) h in
    a.right (right_is s t.x1 t.y1 parts.0) (right_is s t.x2 t.y2 parts.1)))

meet_is : (s t : Ends) → segments_meet s t ≡ true → DoMeet s t
meet_is s t h =
    let parts = and_parts (bounds_meet s t) (not (is_beside s t || is_beside t s)) h in
    let bounds = and_parts (spans_meet s.x1 s.x2 t.x1 t.x2) (spans_meet s.y1 s.y2 t.y1 t.y2) parts.0 in
    let sides = or_parts (is_beside s t) (is_beside t s) (not-true _ parts.1) in
    record {
      columns = spans_is _ _ _ _ bounds.0;
      rows = spans_is _ _ _ _ bounds.1;
      across = across_is s t sides.0;
      also = across_is t s sides.1;
    }

meet_test : (s t : Ends) → DoMeet s t → segments_meet s t ≡ true
meet_test s t m = and_from (bounds_meet s t) (not (is_beside s t || is_beside t s))
    (and_from (spans_meet s.x1 s.x2 t.x1 t.x2) (spans_meet s.y1 s.y2 t.y1 t.y2) (spans_test _ _ _ _ m.columns) (spans_test _ _ _ _ m.rows))
    (not_from_false _ (or_from (is_beside s t) (is_beside t s) (across_test s t m.across) (across_test t s m.also)))

-- ---- segments that overlap

overlap_is : (s t : Ends) → segments_overlap s t ≡ true → DoOverlap s t
overlap_is s t h =
    let spans = spans_overlap s.x1 s.x2 t.x1 t.x2 || spans_overlap s.y1 s.y2 t.y1 t.y2 in
    let parts = and_parts (segments_meet s t && is_along s t) spans h in
    let line = and_parts (segments_meet s t) (is_along s t) parts.0 in
    let ends = and_parts _ _ line.1 in
    record {
      meet = meet_is s t line.0;
      first = on_is s t.x1 t.y1 ends.0;
      second = on_is s t.x2 t.y2 ends.1;
      spans = elim (or_cases (spans_overlap s.x1 s.x2 t.x1 t.x2) (spans_overlap s.y1 s.y2 t.y1 t.y2) parts.1)
          [ inl q ↦ inl (is_less _ _ q) | inr q ↦ inr (is_less _ _ q) ];
    }

overlap_test : (s t : Ends) → DoOverlap s t → segments_overlap s t ≡ true
overlap_test s t d =
    let columns = spans_overlap s.x1 s.x2 t.x1 t.x2 in
    let rows = spans_overlap s.y1 s.y2 t.y1 t.y2 in
    and_from (segments_meet s t && is_along s t) (columns || rows)
    (and_from (segments_meet s t) (is_along s t) (meet_test s t d.meet) (and_from _ _ (on_from s t.x1 t.y1 d.first) (on_from s t.x2 t.y2 d.second)))
    (elim d.spans [ inl q ↦ or_left columns rows (less_test _ _ q) | inr q ↦ or_right columns rows (less_test _ _ q) ])

-- ---- ends of links

-- the link ends on this fragment at these whole numbers
EndsThere : Edge → Ends → ℕ → ℤ → ℤ → Type 0
EndsThere e s v x y = ((e.a ≡ v) × (s.x1 ≡ x) × (s.y1 ≡ y)) ⊎ ((e.b ≡ v) × (s.x2 ≡ x) × (s.y2 ≡ y))

at_is : (a b x y : ℤ) → is_at a b x y ≡ true → (a ≡ x) × (b ≡ y)
at_is a b x y h =
    let parts = and_parts (int_eq a x) (int_eq b y) h in
    ((Decides-int_eq a x).0 parts.0, (Decides-int_eq b y).0 parts.1)

at_test : (a b x y : ℤ) → a ≡ x → b ≡ y → is_at a b x y ≡ true
at_test a b x y f g = and_from (int_eq a x) (int_eq b y) ((Decides-int_eq a x).1 f) ((Decides-int_eq b y).1 g)

ends_is : (e : Edge) (s : Ends) (v : ℕ) (x y : ℤ) → ends_at e s v x y ≡ true → EndsThere e s v x y
unfolding EndsThere
ends_is e s v x y h = elim (or_cases ((e.a == v) && is_at s.x1 s.y1 x y) ((e.b == v) && is_at s.x2 s.y2 x y) h) [
  | inl q ↦ let parts = and_parts (e.a == v) (is_at s.x1 s.y1 x y) q in let at = at_is s.x1 s.y1 x y parts.1 in inl (eqb-true e.a v parts.0, at.0, at.1)
  | inr q ↦ let parts = and_parts (e.b == v) (is_at s.x2 s.y2 x y) q in let at = at_is s.x2 s.y2 x y parts.1 in inr (eqb-true e.b v parts.0, at.0, at.1)
]

ends_test : (e : Edge) (s : Ends) (v : ℕ) (x y : ℤ) → EndsThere e s v x y → ends_at e s v x y ≡ true
unfolding EndsThere
ends_test e s v x y h = elim h [
  | inl q ↦ or_left _ _ (and_from (e.a == v) (is_at s.x1 s.y1 x y) (eq-eqb e.a v q.0) (at_test _ _ _ _ q.1 q.2))
  | inr q ↦ or_right _ _ (and_from (e.b == v) (is_at s.x2 s.y2 x y) (eq-eqb e.b v q.0) (at_test _ _ _ _ q.1 q.2))
]

-- an end that the links of two edges have in common, on a fragment that both join
record IsShared (d : Edge) (s : Ends) (e : Edge) (t : Ends) : Type 0 where
  pub node : ℕ
  pub x : ℤ
  pub y : ℤ
  pub here : EndsThere d s node x y
  pub there : EndsThere e t node x y

shared_is : (d : Edge) (s : Ends) (e : Edge) (t : Ends) → share_end d s e t ≡ true → IsShared d s e t
unfolding EndsThere
shared_is d s e t h = elim (or_cases (ends_at e t d.a s.x1 s.y1) (ends_at e t d.b s.x2 s.y2) h) [
  | inl q ↦ record { node = d.a; x = s.x1; y = s.y1; here = inl (refl, refl, refl); there = ends_is e t d.a s.x1 s.y1 q }
  | inr q ↦ record { node = d.b; x = s.x2; y = s.y2; here = inr (refl, refl, refl); there = ends_is e t d.b s.x2 s.y2 q }
]

-- two ends at one point are at the same whole numbers
one_end : (p : Point) (a b x y : ℤ) → IsAt p a b → IsAt p x y → (x ≡ a) × (y ≡ b)
one_end p a b x y f g = (same_from_mul (pos p.over) x a (over_positive p) (sym g.x ∙ f.x), same_from_mul (pos p.over) y b (over_positive p) (sym g.y ∙ f.y))

-- a point at which both links end on one fragment is such an end
share_test : (d : Edge) (s : Ends) (e : Edge) (t : Ends) (v : ℕ) (p : Point) → EndsAt d s v p → EndsAt e t v p → share_end d s e t ≡ true
unfolding EndsThere
share_test d s e t v p f g = elim f [
  | inl q ↦ or_left _ _ (ends_test e t d.a s.x1 s.y1 (at q.0 q.1))
  | inr q ↦ or_right _ _ (ends_test e t d.b s.x2 s.y2 (at q.0 q.1))
]
  where
    at : {u : ℕ} {a b : ℤ} → u ≡ v → IsAt p a b → EndsThere e t u a b
    at eu ea = elim g [
      | inl r ↦ let o = one_end p _ _ _ _ ea r.1 in inl (r.0 ∙ sym eu, o.0, o.1)
      | inr r ↦ let o = one_end p _ _ _ _ ea r.1 in inr (r.0 ∙ sym eu, o.0, o.1)
    ]

-- ---- links that cross

end_of : (e : Edge) (s : Ends) (v : ℕ) (x y : ℤ) → EndsThere e s v x y → IsEndOf s x y
unfolding EndsThere
end_of e s v x y h = elim h [ inl q ↦ inl (q.1, q.2) | inr q ↦ inr (q.1, q.2) ]

ends_there : (e : Edge) (s : Ends) (v : ℕ) (x y : ℤ) (p : Point) → EndsThere e s v x y → IsAt p x y → EndsAt e s v p
unfolding EndsThere
ends_there e s v x y p h at = elim h [
  | inl q ↦ inl (q.0, record { x = at.x ∙ ap (λ z. pos p.over *ℤ z) (sym q.1); y = at.y ∙ ap (λ z. pos p.over *ℤ z) (sym q.2) })
  | inr q ↦ inr (q.0, record { x = at.x ∙ ap (λ z. pos p.over *ℤ z) (sym q.1); y = at.y ∙ ap (λ z. pos p.over *ℤ z) (sym q.2) })
]

pub cross_is : (d : Edge) (s : Ends) (e : Edge) (t : Ends) → cross d s e t ≡ true → AreCrossing d s e t
cross_is d s e t h = elim (cases_Bool (share_end d s e t)) [
  | inl q ↦
      let i = inner_from s t (overlap_is s t (sym (cond-true (share_end d s e t) (segments_overlap s t) (segments_meet s t) q) ∙ h)) in
      record {
        point = i.point;
        first = i.first;
        second = i.second;
        apart = λ v f _. elim f [ inl r ↦ i.not_first r.1 | inr r ↦ i.not_second r.1 ];
      }
  | inr q ↦
      let c = common_from s t (meet_is s t (sym (cond-false (share_end d s e t) (segments_overlap s t) (segments_meet s t) q) ∙ h)) in
      record {
        point = c.point;
        first = c.first;
        second = c.second;
        apart = λ v f g. true≢false (sym (share_test d s e t v c.point f g) ∙ q);
      }
]

pub cross_test : (d : Edge) (s : Ends) (e : Edge) (t : Ends) → AreCrossing d s e t → cross d s e t ≡ true
cross_test d s e t c =
    let m = meet_from s t (record { point = c.point; first = c.first; second = c.second }) in
    elim (cases_Bool (share_end d s e t)) [
      | inl q ↦
          let shared = shared_is d s e t q in
          let apart : ¬ IsAt c.point shared.x shared.y =
          λ at. c.apart shared.node (ends_there d s shared.node shared.x shared.y c.point shared.here at)
          (ends_there e t shared.node shared.x shared.y c.point shared.there at) in
          cond-true (share_end d s e t) (segments_overlap s t) (segments_meet s t) q ∙
          overlap_test s t (overlap_from s t c.point shared.x shared.y m c.first c.second
          (end_of d s shared.node shared.x shared.y shared.here)
          (end_of e t shared.node shared.x shared.y shared.there) apart)
      | inr q ↦ cond-false (share_end d s e t) (segments_overlap s t) (segments_meet s t) q ∙ meet_test s t m
    ]

-- ---- links and rectangles

pub meets_is : (s : Ends) (r : Corners) → r.x1 ≤ℤ r.x2 → r.y1 ≤ℤ r.y2 → meets_rect s r ≡ true → MeetsRect s r
meets_is s r wide high h =
    let parts = and_parts (bounds_meet s (diagonal r)) (not (passes_by s r)) h in
    let bounds = and_parts (spans_meet s.x1 s.x2 (pos 2 *ℤ r.x1) (pos 2 *ℤ r.x2)) (spans_meet s.y1 s.y2 (pos 2 *ℤ r.y1) (pos 2 *ℤ r.y2)) parts.0 in
    let sides = or_parts (are_left s (diagonal r) && are_left s (other_diagonal r))
    (are_right s (diagonal r) && are_right s (other_diagonal r)) (not-true _ parts.1) in
    let c = rect_to s (pos 2 *ℤ r.x1) (pos 2 *ℤ r.y1) (pos 2 *ℤ r.x2) (pos 2 *ℤ r.y2) (omega (arith, ints, wide)) (omega (arith, ints, high)) (record {
      columns = spans_is _ _ _ _ bounds.0;
      rows = spans_is _ _ _ _ bounds.1;
      left = λ f g k l. true≢false (sym (and_from (are_left s (diagonal r)) (are_left s (other_diagonal r))
          (and_from _ _ (left_from s _ _ f) (left_from s _ _ g)) (and_from _ _ (left_from s _ _ k) (left_from s _ _ l)))
          ∙ sides.0);
      right = λ f g k l. true≢false (sym (and_from (are_right s (diagonal r)) (are_right s (other_diagonal r))
          (and_from _ _ (right_from s _ _ f) (right_from s _ _ g))
          (and_from _ _ (right_from s _ _ k) (right_from s _ _ l))) ∙ sides.1);
    }) in
    record { point = c.point; on = c.on; inside = record { left = c.inside.left; right = c.inside.right; low = c.inside.low; high = c.inside.high } }

pub meets_test : (s : Ends) (r : Corners) → r.x1 ≤ℤ r.x2 → r.y1 ≤ℤ r.y2 → MeetsRect s r → meets_rect s r ≡ true
meets_test s r wide high c =
    let m = rect_from s (pos 2 *ℤ r.x1) (pos 2 *ℤ r.y1) (pos 2 *ℤ r.x2) (pos 2 *ℤ r.y2) (omega (arith, ints, wide))
    (omega (arith, ints, high)) (record {
      point = c.point;
      on = c.on;
      inside =
          record { left = c.inside.left; right = c.inside.right; low = c.inside.low; high = c.inside.high };
    }) in
    and_from (bounds_meet s (diagonal r)) (not (passes_by s r))
    (and_from (spans_meet s.x1 s.x2 (pos 2 *ℤ r.x1) (pos 2 *ℤ r.x2))
    (spans_meet s.y1 s.y2 (pos 2 *ℤ r.y1) (pos 2 *ℤ r.y2)) (spans_test _ _ _ _ m.columns)
    (spans_test _ _ _ _ m.rows))
    (not_from_false _ (or_from (are_left s (diagonal r) && are_left s (other_diagonal r)) (are_right s (diagonal r) && are_right s (other_diagonal r))
    (false_from_ne_true _ (λ h.
    let both = and_parts (are_left s (diagonal r)) (are_left s (other_diagonal r)) h in
    let one = and_parts _ _ both.0 in
    let two = and_parts _ _ both.1 in
    m.left (left_is s _ _ one.0) (left_is s _ _ one.1) (left_is s _ _ two.0) (left_is s _ _ two.1)))
    (false_from_ne_true _ (λ h.
    let both = and_parts (are_right s (diagonal r)) (are_right s (other_diagonal r)) h in
    let one = and_parts _ _ both.0 in
    let two = and_parts _ _ both.1 in
    m.right (right_is s _ _ one.0) (right_is s _ _ one.1) (right_is s _ _ two.0) (right_is s _ _ two.1)))))

-- ---- what the search finds

-- the rectangle of a fragment is not empty
sized : (rects : List Rect) (v : ℕ) → v < length rects →
    ((rect_at (map corners_of rects) v).x1 ≤ℤ (rect_at (map corners_of rects) v).x2) ×
    ((rect_at (map corners_of rects) v).y1 ≤ℤ (rect_at (map corners_of rects) v).y2)
sized [] v h = absurd (omega (arith, h))
sized (r ∷ rs) zero h = (omega (arith, ints, r.wide), omega (arith, ints, r.high))
sized (r ∷ rs) (suc v) h = sized rs v (omega (arith, h))

pub found_is : (f : Fragments) (net : Net) (e : ℕ) (w : With) → IsFound f net e w → IsWith f net e w
found_is f net e (Link d) i = (i.0, i.1, cross_is (edge_at net.graph e) (link_at f net e) (edge_at net.graph d) (link_at f net d) i.2)
found_is f net e (Fragment v) i =
    let size = sized f.rects v i.0 in
    let parts = and_parts (not (joins (edge_at net.graph e) v)) (meets_rect (link_at f net e) (rect_at (map corners_of f.rects) v)) i.1 in
    let third = or_parts ((edge_at net.graph e).a == v) ((edge_at net.graph e).b == v) (not-true _ parts.0) in (
      i.0,
      (λ q. true≢false (sym (eq-eqb _ v q) ∙ third.0)),
      (λ q. true≢false (sym (eq-eqb _ v q) ∙ third.1)),
      meets_is (link_at f net e) (rect_at (map corners_of f.rects) v) size.0 size.1 parts.1,
    )

pub found_from : (f : Fragments) (net : Net) (e : ℕ) (w : With) → IsWith f net e w → IsFound f net e w
found_from f net e (Link d) i = (i.0, i.1, cross_test (edge_at net.graph e) (link_at f net e) (edge_at net.graph d) (link_at f net d) i.2)
found_from f net e (Fragment v) i =
    let size = sized f.rects v i.0 in
    let own = or_from ((edge_at net.graph e).a == v) ((edge_at net.graph e).b == v)
    (false_from_ne_true _ (λ q. i.1 (eqb-true _ v q))) (false_from_ne_true _ (λ q. i.2 (eqb-true _ v q))) in (
      i.0,
      and_from (not (joins (edge_at net.graph e) v))
          (meets_rect (link_at f net e) (rect_at (map corners_of f.rects) v)) (not_from_false _ own)
          (meets_test (link_at f net e) (rect_at (map corners_of f.rects) v) size.0 size.1 i.3),
    )
