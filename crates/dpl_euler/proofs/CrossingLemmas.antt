-- What the search for a crossing may leave out: links and fragments whose bounds do not meet.
use Rattle.std.proofs.Common.{arith, ◌≡◌, ℕ, ◌+◌, ◌<◌, sym, ap, ◌∙◌, subst, true, false, not, ◌&&◌, inl, inr, List, []}
use Rattle.std.proofs.Common.{◌∷◌, ◌++◌, zero, suc, refl, length, length-append, get_or, map}
use Rattle.std.proofs.lemmas.Bool.{cases_eq, cases_Bool, cond-true, cond-false, and_parts, true≢false}
use Rattle.std.proofs.lemmas.List.{get_or_append_left, get_or-append-add, get_or_default, get_or-map, length-map}
use Rattle.dpl_index.specs.declared.bounds.Bounds.{Bounds}
use Rattle.dpl_index.specs.Meetings.{Meets, IsMeeting, AreMeeting}
use Rattle.dpl_cell.specs.declared.rect.Rect.{Rect}
use Rattle.dpl_cell.specs.Places.{corners_of}
use Rattle.dpl_cuts.specs.declared.types.Fragments.{Fragments}
use Rattle.dpl_cuts.specs.Positions.{rect_at}
use Rattle.dpl_sign.specs.declared.edges.Edge.{Edge}
use Rattle.dpl_sign.specs.declared.nets.Net.{Net}
use Rattle.dpl_sign.specs.Walks.{edge_at}
use Rattle.dpl_list.proofs.Integers.{is_at_most}
use Rattle.dpl_euler.specs.declared.segment.Segment.{Segment}
use Rattle.dpl_euler.specs.declared.types.With.{With}
use Rattle.dpl_euler.specs.declared.types.With.TheVariants.{Link, Fragment}
use Rattle.dpl_euler.specs.Points.{Ends}
use Rattle.dpl_euler.specs.Segments.{ends_of, spans_meet, bounds_meet, is_along, segments_meet, segments_overlap}
use Rattle.dpl_euler.specs.Crossings.{link_at}
use Rattle.dpl_euler.specs.Tests.{bounds_around, diagonal, share_end, cross, links_cross, meets_rect, joins, crosses_fragment, IsFound}
use Rattle.dpl_euler.specs.Links.{AreLinks}

-- ---- the links in a list

pub links_more : (f : Fragments) (net : Net) (links : List Segment) (k : ℕ) (x : Segment)
    → AreLinks f net links k → ends_of x ≡ link_at f net k → AreLinks f net (links ++ x ∷ []) (k + 1)
links_more f net links k x l at = record {
  sizes = omega (arith, length-append links (x ∷ []), l.sizes);
  each = λ e d h. elim (cases_eq e k) [
    | inl t ↦ ap (λ z. ends_of (get_or (links ++ x ∷ []) z d)) (omega (arith, t, l.sizes)) ∙
        ap ends_of (get_or-append-add links (x ∷ []) 0 d) ∙ at ∙ ap (link_at f net) (sym t)
    | inr t ↦ ap ends_of (get_or_append_left links (x ∷ []) d e (omega (arith, h, t, l.sizes))) ∙ l.each e d (omega (arith, h, t))
  ];
}

-- ---- what crosses has bounds that meet

pub bounds_from : (s t : Ends) → bounds_meet s t ≡ true → Meets (bounds_around t) (bounds_around s)
bounds_from s t h =
    let parts = and_parts (spans_meet s.x1 s.x2 t.x1 t.x2) (spans_meet s.y1 s.y2 t.y1 t.y2) h in
    let columns = and_parts _ _ parts.0 in
    let rows = and_parts _ _ parts.1 in
    record {
      left = is_at_most _ _ columns.1;
      right = is_at_most _ _ columns.0;
      low = is_at_most _ _ rows.1;
      high = is_at_most _ _ rows.0;
    }

cross_meets : (a : Edge) (s : Ends) (b : Edge) (t : Ends) → cross a s b t ≡ true → Meets (bounds_around t) (bounds_around s)
cross_meets a s b t h =
    let meet : segments_meet s t ≡ true → Meets (bounds_around t) (bounds_around s) = λ m. bounds_from s t (and_parts (bounds_meet s t) _ m).0 in
    elim (cases_Bool (share_end a s b t)) [
      | inl e ↦
          let both : segments_overlap s t ≡ true = sym (cond-true (share_end a s b t) (segments_overlap s t) (segments_meet s t) e) ∙ h in
          meet (and_parts (segments_meet s t) (is_along s t) (and_parts (segments_meet s t && is_along s t) _ both).0).0
      | inr e ↦ meet (sym (cond-false (share_end a s b t) (segments_overlap s t) (segments_meet s t) e) ∙ h)
    ]

-- ---- where nothing was found there is nothing

meets_at : (a b c d : Bounds) → a ≡ b → c ≡ d → Meets b d → Meets a c
meets_at a b c d e f m =
    let P : Bounds → Bounds → Type 0 = λ x y. Meets x y in
    subst (λ x. P x c) (sym e) (subst (P b) (sym f) m)

found_at : (found : List ℕ) (k x : ℕ) → k < length found → get_or found k x ≡ x → get_or found k 0 ≡ x
found_at found k x h e = get_or_default found k 0 x h ∙ e

link_apart : (f : Fragments) (net : Net) (links : List Segment) (by_link : List Bounds) (window : Bounds) (found : List ℕ) (e : ℕ) (s : Segment)
    → AreLinks f net links (length net.graph.edges) → by_link ≡ map (λ x. bounds_around (ends_of x)) links
    → window ≡ bounds_around (link_at f net e) → AreMeeting by_link window found
    → ((i : ℕ) → i < length found → e < get_or found i 0 → links_cross f net e (get_or found i 0) ≡ false)
    → (d : ℕ) → e < d → d < length net.graph.edges → links_cross f net e d ≡ true → ⊥
link_apart f net links by_link window found e s l eb ew m none d le hd crosses =
    let size : length by_link ≡ length links = ap length eb ∙ length-map links (λ x. bounds_around (ends_of x)) in
    let bounds : (z : Bounds) → get_or by_link d z ≡ bounds_around (link_at f net d) =
    λ z. ap (λ (xs : List Bounds). get_or xs d z) eb ∙
    get_or-map (λ x. bounds_around (ends_of x)) links d s z (omega (arith, hd, l.sizes)) ∙
    ap bounds_around (l.each d s hd) in
    let meeting : IsMeeting by_link window d = record {
      within = omega (arith, size, hd, l.sizes);
      meets = λ z. meets_at _ _ _ _ (bounds z) ew (cross_meets (edge_at net.graph e) (link_at f net e) (edge_at net.graph d) (link_at f net d) crosses);
    } in
    let has = m.all d meeting in
    let at : get_or found has.0 0 ≡ d = found_at found has.0 d has.1 has.2 in
    true≢false (sym crosses ∙ ap (links_cross f net e) (sym at) ∙ none has.0 has.1 (omega (arith, le, at)))

fragment_apart : (f : Fragments) (net : Net) (by_rect : List Bounds) (window : Bounds) (also : List ℕ) (e : ℕ)
    → by_rect ≡ map (λ r. bounds_around (diagonal (corners_of r))) f.rects
    → window ≡ bounds_around (link_at f net e) → AreMeeting by_rect window also
    → ((i : ℕ) → i < length also → crosses_fragment f net e (get_or also i 0) ≡ false) → (v : ℕ)
    → v < length f.rects → crosses_fragment f net e v ≡ true → ⊥
fragment_apart f net by_rect window also e eb ew m none v hv crosses =
    let size : length by_rect ≡ length f.rects = ap length eb ∙ length-map f.rects (λ r. bounds_around (diagonal (corners_of r))) in
    let rect = rect_at (map corners_of f.rects) v in
    let bounds : (z : Bounds) → get_or by_rect v z ≡ bounds_around (diagonal rect) =
    λ z. ap (λ (xs : List Bounds). get_or xs v z) eb ∙ rect_bounds f.rects v z hv in
    let parts = and_parts (not (joins (edge_at net.graph e) v)) (meets_rect (link_at f net e) rect) crosses in
    let meet = bounds_from (link_at f net e) (diagonal rect) (and_parts (bounds_meet (link_at f net e) (diagonal rect)) _ parts.1).0 in
    let meeting : IsMeeting by_rect window v = record {
      within = omega (arith, size, hv);
      meets = λ z. meets_at _ _ _ _ (bounds z) ew meet;
    } in
    let has = m.all v meeting in
    let at : get_or also has.0 0 ≡ v = found_at also has.0 v has.1 has.2 in
    true≢false (sym crosses ∙ ap (crosses_fragment f net e) (sym at) ∙ none has.0 has.1)
  where
    rect_bounds : (rects : List Rect) (v : ℕ) (z : Bounds) → v < length rects →
        get_or (map (λ r. bounds_around (diagonal (corners_of r))) rects) v z ≡ bounds_around
        (diagonal (rect_at (map corners_of rects) v))
    rect_bounds [] v z h = absurd (omega (arith, h))
    rect_bounds (r ∷ rs) zero z h = refl
    rect_bounds (r ∷ rs) (suc v) z h = rect_bounds rs v z (omega (arith, h))

pub nothing_crossed : (f : Fragments) (net : Net) (links : List Segment) (by_link by_rect : List Bounds)
    → (window : Bounds) (found also : List ℕ) (e : ℕ) (s : Segment)
    → AreLinks f net links (length net.graph.edges) → by_link ≡ map (λ x. bounds_around (ends_of x)) links
    → by_rect ≡ map (λ r. bounds_around (diagonal (corners_of r))) f.rects → e < length net.graph.edges
    → s ≡ get_or links e s → window ≡ bounds_around (ends_of s) → AreMeeting by_link window found
    → AreMeeting by_rect window also
    → ((i : ℕ) → i < length found → e < get_or found i 0 → links_cross f net e (get_or found i 0) ≡ false)
    → ((i : ℕ) → i < length also → crosses_fragment f net e (get_or also i 0) ≡ false) → (w : With)
    → ¬ IsFound f net e w
nothing_crossed f net links by_link by_rect window found also e s l el er he es ew m n none never (Link d) is =
    link_apart f net links by_link window found e s l el (ew ∙ ap bounds_around (ap ends_of es ∙ l.each e s he)) m none d is.0 is.1 is.2
nothing_crossed f net links by_link by_rect window found also e s l el er he es ew m n none never (Fragment v) is =
    fragment_apart f net by_rect window also e er (ew ∙ ap bounds_around (ap ends_of es ∙ l.each e s he)) n never v is.0 is.1
