-- The walk over stops around a crowded fragment, and what it may leave out.
use Rattle.std.proofs.Common.{arith, ◌≡◌, ◌≢◌, ◌⊎◌, ℤ, All, Any, Bool, false, true, inl, inr, ℕ, ◌+◌, ◌*◌, ◌<◌, ◌≤◌, List, length}
use Rattle.std.proofs.Common.{get_or, set, map, ◌∙◌, min, max, Contains}
use Rattle.std.proofs.Common.{refl, sym, ap, subst, ◌∷◌, [], ◌++◌, Option, Some, None, IfSome, Greater}
use Rattle.std.proofs.Common.{replicate, length-set, get_or-set_same, get_or-set_other}
use Rattle.std.specs.Ordering.{nat_cmp, is_lt, ordering_then}
use Rattle.std.specs.Cmp.{nat_cmp_is}
use Rattle.std.proofs.lemmas.Bool.{cases_lt, cases_eq}
use Rattle.std.proofs.lemmas.List.{get_or_default, length-map}
use Rattle.std.specs.List.Sorted.{IsPermutation}
use Rattle.std.proofs.lemmas.List.Elements.{All-push}
use Rattle.std.proofs.lemmas.List.Sorted.{All-permutation}
use Rattle.dpl_cell.specs.Places.{Corners, corners_of}
use Rattle.dpl_cell.specs.Cells.{IsIn}
use Rattle.dpl_cell.specs.Gaps.{AreClose}
use Rattle.dpl_index.specs.declared.bounds.Bounds.{Bounds}
use Rattle.dpl_index.specs.declared.stops.Stop.{Stop}
use Rattle.dpl_index.specs.Holds.{Holds}
use Rattle.dpl_near.specs.Bounds.{bounds_of}
use Rattle.dpl_near.proofs.BoundsLemmas.{bounds_at}
use Rattle.dpl_cuts.specs.Positions.{nowhere, rect_at}
use Rattle.dpl_links.specs.declared.linking.Link.{Link}
use Rattle.dpl_links.specs.declared.crowded.Crowd.{Crowd}
use Rattle.dpl_links.specs.declared.turning.Turn.{Turn}
use Rattle.dpl_links.specs.Pairs.{Scene, stretch_gap, rect_gap2}
use Rattle.dpl_links.specs.Links.{IsUpTo, piece_of, IsLink}
use Rattle.dpl_links.specs.Gathering.{StandsFor, TakesPlace, AreGathered, AreHeads, scene_in}
use Rattle.dpl_links.specs.Crowds.{IsCovered, AreGatheredBut, AreKept, AreKnown, AddsLinks, AddsTurns, HasNearer, HasStanding}
use Rattle.dpl_links.specs.Crowds.{IsCrowd, IsBehind, IsLeftOut, HasEnds, IsFrom, LooksAt, AreTurns, AreOfOneShape, is_crowded}
use Rattle.dpl_links.proofs.GatherLemmas.{gap_least, stands_chain, covered_heads, links_heads, place_each, place_grows, place_stands}
use Rattle.dpl_links.proofs.NetLemmas.{min_turned, max_turned}
use Rattle.dpl_links.proofs.ReachLemmas.{squares}
use Rattle.dpl_list.proofs.Lists.{any_left, any_right, any_permutation, some_of, repeated}
use Rattle.dpl_list.proofs.Integers.{signed}

-- ---- gaps

pub close_gap : (a b : Corners) (reach : ℕ) → AreClose (IsIn a) (IsIn b) reach → rect_gap2 a b < reach * reach
close_gap a b reach c = below _ _ _ (squares _ _ _ _
    (gap_least a.x1 a.x2 b.x1 b.x2 c.x c.x' c.cells.first.column c.cells.second.column)
    (gap_least a.y1 a.y2 b.y1 b.y2 c.y c.y' c.cells.first.row c.cells.second.row)) c.near where
      below : (k m n : ℕ) → k ≤ m → m < n → k < n
      below k m n h l = omega arith

nearer_first : (l m : Link) → l.gap < m.gap → IsUpTo l m
nearer_first l m h = ap (λ o. is_lt (ordering_then o (ordering_then (nat_cmp m.corner l.corner)
    (ordering_then (nat_cmp m.a l.a) (nat_cmp m.b l.b))))) (sym (nat_cmp_is m.gap l.gap Greater h))

-- ---- links that are kept

pub nearer_stands : (s : Scene) (pieces : List ℕ) (links : List Link) (nearest : List (Option Link)) (l : Link) (p q gap : ℕ)
    → AreKept nearest links → HasNearer nearest p q gap → p ≡ l.p → q ≡ l.q → gap ≤ l.gap → IsCovered links l
nearer_stands s pieces links nearest l p q gap kept h low high less =
    let m = h.link in let g = h.less in
    covered (kept_one h.kept) ((h.low ∙ low, h.high ∙ high), nearer_first m l (omega arith)) where
      kept_one : Contains nearest (Some h.link) → IsCovered links h.link
      kept_one (k, i, e) = let P : Option Link → Type 0 = λ o. IfSome o (IsCovered links) in subst P e (kept k (Some h.link) i)

      covered : IsCovered links h.link → StandsFor h.link l → IsCovered links l
      covered (k, m, i, e, t) f = (k, m, i, e, stands_chain m h.link l t f)

pub standing_stands : (links : List Link) (nearest : List (Option Link)) (l : Link) → AreKept nearest links → HasStanding nearest l → IsCovered links l
standing_stands links nearest l kept h = covered (kept_one h.kept) h.stands where
  kept_one : Contains nearest (Some h.link) → IsCovered links h.link
  kept_one (k, i, e) = let P : Option Link → Type 0 = λ o. IfSome o (IsCovered links) in subst P e (kept k (Some h.link) i)

  covered : IsCovered links h.link → StandsFor h.link l → IsCovered links l
  covered (k, m, i, e, t) f = (k, m, i, e, stands_chain m h.link l t f)

pub kept_on : (nearest : List (Option Link)) (links new : List Link) → ((l : Link) → IsCovered links l → IsCovered new l)
    → AreKept nearest links → AreKept nearest new
kept_on nearest links new grows kept k d l = on (get_or nearest k d) (kept k d l) where
  on : (o : Option Link) → IfSome o (IsCovered links) → IfSome o (IsCovered new)
  on None f = f
  on (Some m) f = grows m f

kept_none : (n : ℕ) (links : List Link) → AreKept (replicate n None) links
kept_none n links k d l = let P : Option Link → Type 0 = λ o. IfSome o (IsCovered links) in
    subst P (sym (repeated n k None) ∙ get_or_default (replicate n None) k None d l) tt

pub kept_set : (nearest : List (Option Link)) (piece : ℕ) (link : Link) (links : List Link) → AreKept nearest links
    → IsCovered links link → AreKept (set nearest piece (Some link)) links
kept_set nearest piece link links kept c k d l = elim (cases_eq k piece) [
  | inl e ↦ subst Q (sym e) (subst P (sym (get_or-set_same nearest piece (Some link) d (rw e at within))) c)
  | inr n ↦ subst P (sym (get_or-set_other nearest piece k (Some link) d n)) (kept k d within)
] where
  P : Option Link → Type 0
  P o = IfSome o (IsCovered links)

  Q : ℕ → Type 0
  Q j = P (get_or (set nearest piece (Some link)) j d)

  within : k < length nearest
  within = let e = length-set nearest piece (Some link) in omega arith

-- ---- one other fragment

-- no link is added
pub adds_nothing : (s : Scene) (pieces : List ℕ) (i : ℕ) (IsDone : ℕ → Type 0) (links : List Link) (nearest : List (Option Link))
    → AreKnown s pieces links nearest → ((l : Link) (j : ℕ) → IsLink s pieces l → HasEnds l i j → IsDone j → IsCovered links l)
    → AddsLinks s pieces i IsDone links links nearest
adds_nothing s pieces i IsDone links nearest known all = record { known = known; grows = λ l c. c; all = all }

-- the two fragments have no link
pub adds_none : (s : Scene) (pieces : List ℕ) (i j : ℕ) (links : List Link) (nearest : List (Option Link))
    → AreKnown s pieces links nearest → ((l : Link) → IsLink s pieces l → HasEnds l i j → None ≡ Some l) → AddsLinks s pieces i (λ k. k ≡ j) links links nearest
adds_none s pieces i j links nearest known none = adds_nothing s pieces i (λ k. k ≡ j) links nearest known
    (λ l k f h e. let P : ℕ → Type 0 = HasEnds l i in absurd (none_some l (none l f (subst P e h)))) where
      none_some : (l : Link) → None ≡ Some l → ⊥
      none_some l e = cc

-- one that is kept stands for the one link
pub adds_known : (s : Scene) (pieces : List ℕ) (i j : ℕ) (link : Link) (links : List Link) (nearest : List (Option Link))
    → AreKnown s pieces links nearest → HasStanding nearest link
    → ((l : Link) → IsLink s pieces l → HasEnds l i j → link ≡ l) → AddsLinks s pieces i (λ k. k ≡ j) links links nearest
adds_known s pieces i j link links nearest known stands one = adds_nothing s pieces i (λ k. k ≡ j) links nearest known
    (λ l k f h e. let P : Link → Type 0 = IsCovered links in let Q : ℕ → Type 0 = HasEnds l i in
    subst P (one l f (subst Q e h)) (standing_stands links nearest link known.kept stands))

-- the one link is added and kept
pub adds_one : (s : Scene) (pieces : List ℕ) (i j : ℕ) (link : Link) (links new : List Link) (nearest after : List (Option Link))
    → AreKnown s pieces links nearest → TakesPlace link links new → IsLink s pieces link
    → ((l : Link) → IsLink s pieces l → HasEnds l i j → link ≡ l)
    → ((links : List Link) → AreKept nearest links → IsCovered links link → AreKept after links)
    → AddsLinks s pieces i (λ k. k ≡ j) links new after
adds_one s pieces i j link links new nearest after known t is one keep = record {
  known = record {
    each = place_each (IsLink s pieces) link links new known.each is t;
    kept = keep new (kept_on nearest links new (place_grows link links new t) known.kept) (place_stands link links new t);
  };
  grows = place_grows link links new t;
  all = λ l k f h e. let P : Link → Type 0 = IsCovered new in let Q : ℕ → Type 0 = HasEnds l i in
      subst P (one l f (subst Q e h)) (place_stands link links new t);
}

-- ---- the walk

-- the item of a stop from one on before a place
pub record IsPassed (stops : List Stop) (from at j : ℕ) : Type 0 where
  pub stop : ℕ
  pub later : from ≤ stop
  pub before : stop < at
  pub within : stop < length stops
  pub number : (d : Stop) → (get_or stops stop d).number ≡ j

pub walk_begins : (s : Scene) (pieces : List ℕ) (i : ℕ) (stops : List Stop) (from : ℕ) (links : List Link) (nearest : List (Option Link))
    → AreKnown s pieces links nearest → AddsLinks s pieces i (IsPassed stops from from) links links nearest
walk_begins s pieces i stops from links nearest known = adds_nothing s pieces i (IsPassed stops from from) links nearest known
    (λ l j f e p. let h = p.before in let g = p.later in absurd (omega arith))

-- a stop is looked at
pub walk_on : (s : Scene) (pieces : List ℕ) (i : ℕ) (stops : List Stop) (from at : ℕ) (stop : Stop) (links mid new : List Link)
    (nearest after : List (Option Link)) → ((d : Stop) → get_or stops at d ≡ stop)
    → AddsLinks s pieces i (λ k. k ≡ stop.number) mid new after
    → AddsLinks s pieces i (IsPassed stops from at) links mid nearest → AddsLinks s pieces i (IsPassed stops from (at + 1)) links new after
walk_on s pieces i stops from at stop links mid new nearest after is on w = record {
  known = on.known;
  grows = λ l c. on.grows l (w.grows l c);
  all = λ l j f e p. let h = p.before in elim (cases_lt p.stop at) [
    | inl g ↦ on.grows l (w.all l j f e (record { stop = p.stop; later = p.later; before = g; within = p.within; number = p.number }))
    | inr g ↦ let q : p.stop ≡ at = omega arith in
        on.all l j f e (sym (p.number stop) ∙ ap (λ k. (get_or stops k stop).number) q ∙ ap (λ (t : Stop). t.number) (is stop))
  ];
}

stretch_turned : (a1 a2 b1 b2 : ℤ) → stretch_gap a1 a2 b1 b2 ≡ stretch_gap b1 b2 a1 a2
stretch_turned a1 a2 b1 b2 = omega signed

gap_turned : (a b : Corners) → rect_gap2 a b ≡ rect_gap2 b a
gap_turned a b = rw (stretch_turned a.x1 a.x2 b.x1 b.x2, stretch_turned a.y1 a.y2 b.y1 b.y2) refl

-- what is known of the link of two fragments, whichever is the smaller
record IsLinkOf (s : Scene) (pieces : List ℕ) (l : Link) (i j : ℕ) : Type 0 where
  low : min (piece_of pieces i) (piece_of pieces j) ≡ l.p
  high : max (piece_of pieces i) (piece_of pieces j) ≡ l.q
  gap : rect_gap2 (rect_at s.rects i) (rect_at s.rects j) ≡ l.gap
  close : l.gap < s.space * s.space
  other : get_or s.shape i 0 ≢ get_or s.shape j 0

link_of_two : (s : Scene) (pieces : List ℕ) (l : Link) (i j : ℕ) → IsLink s pieces l → l.a ≡ i → l.b ≡ j → IsLinkOf s pieces l i j
link_of_two s pieces l i j f a b = record {
  low = ap (λ k. min (piece_of pieces k) (piece_of pieces j)) (sym a) ∙ ap (λ k. min (piece_of pieces l.a) (piece_of pieces k)) (sym b) ∙ sym f.low;
  high = ap (λ k. max (piece_of pieces k) (piece_of pieces j)) (sym a) ∙ ap (λ k. max (piece_of pieces l.a) (piece_of pieces k)) (sym b) ∙ sym f.high;
  gap = ap (λ k. rect_gap2 (rect_at s.rects k) (rect_at s.rects j)) (sym a) ∙ ap (λ k. rect_gap2 (rect_at s.rects l.a) (rect_at s.rects k)) (sym b) ∙ sym f.gap;
  close = let c = close_gap (rect_at s.rects l.a) (rect_at s.rects l.b) s.space f.conflict.close in let g = f.gap in omega arith;
  other = λ e. f.conflict.other (ap (λ k. get_or s.shape k 0) a ∙ e ∙ ap (λ k. get_or s.shape k 0) (sym b));
}

link_of_ends : (s : Scene) (pieces : List ℕ) (l : Link) (i j : ℕ) → IsLink s pieces l → HasEnds l i j → IsLinkOf s pieces l i j
link_of_ends s pieces l i j f (inl (a, b)) = link_of_two s pieces l i j f a b
link_of_ends s pieces l i j f (inr (a, b)) = let t = link_of_two s pieces l j i f a b in record {
  low = min_turned _ _ ∙ t.low;
  high = max_turned _ _ ∙ t.high;
  gap = gap_turned (rect_at s.rects i) (rect_at s.rects j) ∙ t.gap;
  close = t.close;
  other = λ e. t.other (sym e);
}

-- what a stop that is left out holds needs no link
left_out : (x : Crowd) (i j : ℕ) (stop : Stop) (nearest : List (Option Link)) (links : List Link)
    → IsCrowd x → AreKnown (scene_in x.pieces) x.pieces.piece.now links nearest
    → IsLeftOut x nearest stop i → stop.number < length x.pieces.rects.now → j < length x.pieces.rects.now
    → Holds stop.bounds (bounds_of (rect_at (map corners_of x.pieces.rects.now) j))
    → ((kind : ℕ) → stop.kind ≡ Some kind → get_or x.kinds.now stop.number 0 ≡ kind)
    → ((kind : ℕ) → stop.kind ≡ Some kind → get_or x.kinds.now j 0 ≡ kind)
    → (l : Link) → IsLink (scene_in x.pieces) x.pieces.piece.now l → HasEnds l i j → IsCovered links l
left_out x i j stop nearest links crowd known out inside number holds own kind l f e =
    elim out.why [
      | inl far ↦ let c = t.close in let g = t.gap in let h = least in absurd (omega arith)
      | inr behind ↦ elim behind.why [
        | inl shapes ↦ absurd (t.other (shapes ∙ crowd.shapes behind.told stop.number j (rw crowd.long inside) (rw crowd.long number) (alike behind)))
        | inr nearer ↦ nearer_stands s piece links nearest l _ _ out.gap known.kept nearer
            (ap (λ k. min (piece_of piece i) k) (pieces behind) ∙ t.low) (ap (λ k. max (piece_of piece i) k) (pieces behind) ∙ t.high)
            (let g = least in let q = t.gap in omega arith)
      ]
    ] where
      s : Scene
      s = scene_in x.pieces

      piece : List ℕ
      piece = x.pieces.piece.now

      t : IsLinkOf s piece l i j
      t = link_of_ends s piece l i j f e

      alike : IsBehind x nearest stop i out.gap → get_or x.kinds.now stop.number 0 ≡ get_or x.kinds.now j 0
      alike b = own b.kind b.is ∙ sym (kind b.kind b.is)

      pieces : IsBehind x nearest stop i out.gap → piece_of piece stop.number ≡ piece_of piece j
      pieces b = crowd.told b.told stop.number j (rw crowd.long inside) (rw crowd.long number) (alike b)

      least : out.gap ≤ rect_gap2 (rect_at s.rects i) (rect_at s.rects j)
      least = out.least (rect_at s.rects j) holds

pub walk_past : (x : Crowd) (i from at : ℕ) (stop : Stop) (links mid : List Link) (nearest : List (Option Link))
    → IsCrowd x → ((d : Stop) → get_or x.stops.now at d ≡ stop) → at < length x.stops.now
    → IsLeftOut x nearest stop i
    → AddsLinks (scene_in x.pieces) x.pieces.piece.now i (IsPassed x.stops.now from at) links mid nearest
    → AddsLinks (scene_in x.pieces) x.pieces.piece.now i (IsPassed x.stops.now from (at + stop.rest + 1)) links mid nearest
walk_past x i from at stop links mid nearest crowd is within out w = record {
  known = w.known;
  grows = w.grows;
  all = λ l j f e p. elim (cases_lt p.stop at) [
    | inl g ↦ w.all l j f e (record { stop = p.stop; later = p.later; before = g; within = p.within; number = p.number })
    | inr g ↦ let h = p.before in let P : ℕ → Type 0 = HasEnds l i in
        left_out x i (get_or stops p.stop stop).number stop nearest mid crowd w.known out
        (rw (is stop) at (number at within)) (number p.stop p.within) (holds p.stop g (omega arith) p.within)
        (λ kind q. ap (λ (t : Stop). get_or x.kinds.now t.number 0) (sym (is stop)) ∙ kinds at (omega arith) (omega arith) kind q)
        (kinds p.stop g (omega arith)) l f (subst P (sym (p.number stop)) e)
  ];
} where
  stops : List Stop
  stops = x.stops.now

  rest : (get_or stops at stop).rest ≡ stop.rest
  rest = ap (λ (t : Stop). t.rest) (is stop)

  number : (m : ℕ) → m < length stops → (get_or stops m stop).number < length x.pieces.rects.now
  number m l = rw (length-map x.pieces.rects.now (λ r. bounds_of (corners_of r))) at (crowd.index.inside m stop l)

  holds : (m : ℕ) → at ≤ m → m < at + stop.rest + 1 → m < length stops
      → Holds stop.bounds (bounds_of (rect_at (map corners_of x.pieces.rects.now) (get_or stops m stop).number))
  holds m low high l = let r = rest in let n = number m l in
      let h : Holds stop.bounds (get_or (map (λ r. bounds_of (corners_of r)) x.pieces.rects.now) (get_or stops m stop).number stop.bounds) =
      rw (is stop) at (crowd.index.covers at m stop stop.bounds within low (omega arith)) in
      let P : Bounds → Type 0 = λ b. Holds stop.bounds b in
      subst P (bounds_at x.pieces.rects.now (get_or stops m stop).number (some_of x.pieces.rects.now (get_or stops m stop).number n) stop.bounds nowhere n) h

  kinds : (m : ℕ) → at ≤ m → m < at + stop.rest + 1 → (kind : ℕ) → stop.kind ≡ Some kind → get_or x.kinds.now (get_or stops m stop).number 0 ≡ kind
  kinds m low high kind e = let r = rest in
      crowd.kinds.one at m stop kind within low (omega arith) (ap (λ (t : Stop). t.kind) (is stop) ∙ e)

pub walk_ends : (s : Scene) (pieces : List ℕ) (i : ℕ) (stops : List Stop) (from at : ℕ) (links mid : List Link) (nearest : List (Option Link))
    → length stops ≤ at → AddsLinks s pieces i (IsPassed stops from at) links mid nearest → AddsLinks s pieces i (IsFrom stops from) links mid nearest
walk_ends s pieces i stops from at links mid nearest whole w = record {
  known = w.known;
  grows = w.grows;
  all = λ l j f e p. let h = p.within in
      w.all l j f e (record { stop = p.place; later = p.later; before = omega arith; within = p.within; number = p.number });
}

-- ---- turns

-- the turns of the crowded ones at stops from k on
pub record HasTurns (x : Crowd) (crowded : List Bool) (k from : ℕ) (turns : List Turn) : Type 0 where
  pub each : All (λ t. t.number < length x.pieces.rects.now) turns
  pub one : AreOfOneShape x k from
  pub all : (p q : ℕ) (d : Stop) → k ≤ p → p < q → q < length x.stops.now → is_crowded crowded (get_or x.stops.now p d).number ≡ true
      → get_or x.pieces.shape.now (get_or x.stops.now p d).number 0 ≢ get_or x.pieces.shape.now (get_or x.stops.now q d).number 0
      → Any (λ t. (t.number ≡ (get_or x.stops.now p d).number) × (t.from ≤ q)) turns

pub turns_begin : (x : Crowd) (crowded : List Bool) → HasTurns x crowded (length x.stops.now) (length x.stops.now) []
turns_begin x crowded = record {
  each = λ k d l. absurd (omega arith);
  one = record { some = omega arith; within = omega arith; same = λ m d h l. absurd (omega arith) };
  all = λ p q d h l g. absurd (omega arith);
}

-- the stop behind one is of another shape, or there is none
pub shape_ends : (x : Crowd) (k : ℕ) → k < length x.stops.now → AreOfOneShape x k (k + 1)
shape_ends x k within = record {
  some = omega arith;
  within = omega arith;
  same = λ m d h l. let e : m ≡ k = omega arith in ap (λ n. get_or x.pieces.shape.now (get_or x.stops.now n d).number 0) e;
}

-- it is of the same
pub shape_goes_on : (x : Crowd) (k from : ℕ)
    → ((d : Stop) → k + 1 < length x.stops.now → get_or x.pieces.shape.now (get_or x.stops.now k d).number 0
    ≡ get_or x.pieces.shape.now (get_or x.stops.now (k + 1) d).number 0) → AreOfOneShape x (k + 1) from → AreOfOneShape x k from
shape_goes_on x k from alike o = let some = o.some in let within = o.within in record {
  some = omega arith;
  within = o.within;
  same = λ m d h l. elim (cases_lt k m) [
    | inl g ↦ o.same m d (omega arith) l ∙ sym (alike d (omega arith))
    | inr g ↦ let e : m ≡ k = omega arith in ap (λ n. get_or x.pieces.shape.now (get_or x.stops.now n d).number 0) e
  ];
}

-- a stop of a fragment that is not crowded
pub turns_skip : (x : Crowd) (crowded : List Bool) (k from next : ℕ) (stop : Stop) (turns : List Turn) → ((d : Stop) → get_or x.stops.now k d ≡ stop)
    → is_crowded crowded stop.number ≡ false → AreOfOneShape x k next → HasTurns x crowded (k + 1) from turns → HasTurns x crowded k next turns
turns_skip x crowded k from next stop turns is none one g = record {
  each = g.each;
  one = one;
  all = λ p q d h l w c o. elim (cases_lt k p) [
    | inl b ↦ g.all p q d (omega arith) l w c o
    | inr b ↦ absurd (let e : p ≡ k = omega arith in
        let n : is_crowded crowded (get_or x.stops.now p d).number ≡ false =
        ap (λ m. is_crowded crowded (get_or x.stops.now m d).number) e ∙ ap (λ (t : Stop). is_crowded crowded t.number) (is d) ∙ none in cc)
  ];
}

-- the turn of a crowded one
pub turns_more : (x : Crowd) (crowded : List Bool) (k from next : ℕ) (stop : Stop) (turn : Turn) (turns new : List Turn)
    → ((d : Stop) → get_or x.stops.now k d ≡ stop) → turn.number ≡ stop.number → turn.from ≡ next → stop.number < length x.pieces.rects.now
    → new ≡ turns ++ turn ∷ [] → AreOfOneShape x k next → HasTurns x crowded (k + 1) from turns → HasTurns x crowded k next new
turns_more x crowded k from next stop turn turns new is number at within e one g = rw e (record {
  each = All-push (λ (t : Turn). t.number < length x.pieces.rects.now) turns turn g.each (omega arith);
  one = one;
  all = λ p q d h l w c o. elim (cases_lt k p) [
    | inl b ↦ any_left (λ (t : Turn). (t.number ≡ (get_or x.stops.now p d).number) × (t.from ≤ q)) turns (turn ∷ []) (g.all p q d (omega arith) l w c o)
    | inr b ↦ let f : p ≡ k = omega arith in
        any_right (λ (t : Turn). (t.number ≡ (get_or x.stops.now p d).number) × (t.from ≤ q)) turns (turn ∷ []) (
          0,
          turn,
          omega arith,
          refl,
          (
            number ∙ ap (λ (t : Stop). t.number) (sym (is d)) ∙ ap (λ m. (get_or x.stops.now m d).number) (sym f),
            elim (cases_lt q next) [
              | inl before ↦ absurd (o (ap (λ m. get_or x.pieces.shape.now (get_or x.stops.now m d).number 0) f ∙ sym (one.same q d (omega arith) before)))
              | inr behind ↦ (let a = at in omega arith)
            ],
          ),
        )
  ];
})

pub turns_all : (x : Crowd) (crowded : List Bool) (k from : ℕ) (turns : List Turn) → IsCrowd x → k ≡ 0 → HasTurns x crowded k from turns
    → AreTurns x crowded turns
turns_all x crowded k from turns crowd none g = record {
  each = g.each;
  all = λ i j h l c c' other. of_places i j (place i h) (place j l) c c' other;
} where
  IsAt : ℕ → Type 0
  IsAt i = (p : ℕ) × (p < length x.stops.now) × ((d : Stop) → (get_or x.stops.now p d).number ≡ i)

  place : (i : ℕ) → i < length x.pieces.rects.now → IsAt i
  place i h = crowd.index.all i (rw (length-map x.pieces.rects.now (λ r. bounds_of (corners_of r))) h)

  looks : (i j p q : ℕ) (d : Stop) → p < q → q < length x.stops.now → ((d : Stop) → (get_or x.stops.now p d).number ≡ i)
      → ((d : Stop) → (get_or x.stops.now q d).number ≡ j) → is_crowded crowded i ≡ true
      → get_or x.pieces.shape.now i 0 ≢ get_or x.pieces.shape.now j 0 → Any (λ t. LooksAt x.stops.now t i j) turns
  looks i j p q d h l a b c other =
      let (m, t, n, e, (f, s)) = g.all p q d (omega arith) h l (ap (λ z. is_crowded crowded z) (a d) ∙ c)
      (λ z. other (ap (λ v. get_or x.pieces.shape.now v 0) (sym (a d)) ∙ z ∙ ap (λ v. get_or x.pieces.shape.now v 0) (b d))) in
      (m, t, n, e, (f ∙ a d, record { place = q; later = s; within = l; number = b }))

  of_places : (i j : ℕ) → IsAt i → IsAt j → is_crowded crowded i ≡ true → is_crowded crowded j ≡ true
      → get_or x.pieces.shape.now i 0 ≢ get_or x.pieces.shape.now j 0 → Any (λ t. LooksAt x.stops.now t i j ⊎ LooksAt x.stops.now t j i) turns
  of_places i j (p, l, a) (q, n, b) c c' other = let d = some_of x.stops.now p l in elim (cases_lt p q) [
    | inl h ↦ let (m, t, n', e, s) = looks i j p q d h n a b c other in (m, t, n', e, inl s)
    | inr h ↦ elim (cases_lt q p) [
      | inl g' ↦ let (m, t, n', e, s) = looks j i q p d g' l b a c' (λ z. other (sym z)) in (m, t, n', e, inr s)
      | inr g' ↦ absurd (other (let f : p ≡ q = omega arith in
          ap (λ v. get_or x.pieces.shape.now v 0) (sym (a d) ∙ ap (λ v. (get_or x.stops.now v d).number) f ∙ b d)))
    ]
  ]

pub turns_moved : (x : Crowd) (crowded : List Bool) (turns new : List Turn) → IsPermutation turns new → AreTurns x crowded turns → AreTurns x crowded new
turns_moved x crowded turns new p g = record {
  each = All-permutation (λ (t : Turn). t.number < length x.pieces.rects.now) turns new p g.each;
  all = λ i j h l c c' other. any_permutation (λ t. LooksAt x.stops.now t i j ⊎ LooksAt x.stops.now t j i) turns new p (g.all i j h l c c' other);
}

-- ---- all crowded fragments

pub but_none : (s : Scene) (pieces : List ℕ) (n : ℕ) (crowded : List Bool) (links : List Link) → ((i : ℕ) → is_crowded crowded i ≡ false)
    → AreGatheredBut s pieces n crowded links → AreGathered s pieces n links
but_none s pieces n crowded links none g = record {
  each = g.each;
  all = λ l f h. elim (g.first l f h) [ inl c ↦ c | inr m ↦ absurd (let e = none l.a in cc) ];
}

abbrev pub no_turn : Turn
no_turn = record { number = 0; from = 0 }

-- links of the first turns, and those that are kept
pub record UnderWay (s : Scene) (pieces : List ℕ) (stops : List Stop) (turns : List Turn) (k : ℕ) (links new : List Link)
    (nearest : List (Option Link)) : Type 0 where
  pub adds : AddsTurns s pieces stops turns k links new
  pub kept : AreKept nearest new

pub under_way : (s : Scene) (pieces : List ℕ) (stops : List Stop) (turns : List Turn) (links : List Link) (n : ℕ) → All (IsLink s pieces) links
    → UnderWay s pieces stops turns 0 links links (replicate n None)
under_way s pieces stops turns links n each = record {
  adds = record { each = each; grows = λ l c. c; all = λ m j d l h. absurd (omega arith) };
  kept = kept_none n links;
}

pub under_known : (s : Scene) (pieces : List ℕ) (stops : List Stop) (turns : List Turn) (k : ℕ) (links new : List Link) (nearest : List (Option Link))
    → UnderWay s pieces stops turns k links new nearest → AreKnown s pieces new nearest
under_known s pieces stops turns k links new nearest u = record { each = u.adds.each; kept = u.kept }

pub under_more : (s : Scene) (pieces : List ℕ) (stops : List Stop) (turns : List Turn) (k : ℕ) (turn : Turn) (links mid new : List Link)
    (nearest after : List (Option Link)) → ((d : Turn) → get_or turns k d ≡ turn)
    → AddsLinks s pieces turn.number (IsFrom stops turn.from) mid new after
    → UnderWay s pieces stops turns k links mid nearest → UnderWay s pieces stops turns (k + 1) links new after
under_more s pieces stops turns k turn links mid new nearest after is a u = record {
  adds = record {
    each = a.known.each;
    grows = λ l c. a.grows l (u.adds.grows l c);
    all = λ m j d l h w f e p. elim (cases_lt m k) [
      | inl g ↦ a.grows l (u.adds.all m j d l g w f e p)
      | inr g ↦ let q : m ≡ k = omega arith in let t : get_or turns m d ≡ turn = ap (λ n. get_or turns n d) q ∙ is d in
          let P : Turn → Type 0 = λ t. HasEnds l t.number j in let Q : Turn → Type 0 = λ t. IsFrom stops t.from j in
          a.all l j f (subst P t e) (subst Q t p)
    ];
  };
  kept = a.known.kept;
}

pub under_heads : (s : Scene) (pieces : List ℕ) (stops : List Stop) (turns : List Turn) (k : ℕ) (links new heads : List Link)
    (nearest : List (Option Link)) → AreHeads new heads → UnderWay s pieces stops turns k links new nearest
    → UnderWay s pieces stops turns k links heads nearest
under_heads s pieces stops turns k links new heads nearest h u = record {
  adds = record {
    each = links_heads s pieces new heads u.adds.each h;
    grows = λ l c. covered_heads new heads h l (u.adds.grows l c);
    all = λ m j d l g w f e p. covered_heads new heads h l (u.adds.all m j d l g w f e p);
  };
  kept = kept_on nearest new heads (covered_heads new heads h) u.kept;
}

-- each link has one that stands for it: with a fragment that is not crowded as before, with two crowded ones by a turn
pub crowded_all : (x : Crowd) (crowded : List Bool) (turns : List Turn) (links new : List Link) → AreTurns x crowded turns
    → AreGatheredBut (scene_in x.pieces) x.pieces.piece.now (length x.pieces.rects.now) crowded links
    → AddsTurns (scene_in x.pieces) x.pieces.piece.now x.stops.now turns (length turns) links new
    → AreGathered (scene_in x.pieces) x.pieces.piece.now (length x.pieces.rects.now) new
crowded_all x crowded turns links new are but adds = record {
  each = adds.each;
  all = λ l f h. let r = f.conflict.rising in
      let w : l.b < length x.pieces.rects.now = rw (length-map x.pieces.rects.now corners_of) at f.conflict.within in
      elim (but.first l f h) [
        | inl c ↦ adds.grows l c
        | inr first ↦ elim (but.second l f w) [
          | inl c ↦ adds.grows l c
          | inr second ↦ by_turn l f (are.all l.a l.b h w first second f.conflict.other)
        ]
      ];
} where
  by_turn : (l : Link) → IsLink (scene_in x.pieces) x.pieces.piece.now l
      → Any (λ t. LooksAt x.stops.now t l.a l.b ⊎ LooksAt x.stops.now t l.b l.a) turns → IsCovered new l
  by_turn l f (m, t, w, e, inl (n, from)) = adds.all m l.b t l w w f (inl (sym n ∙ ap (λ (u : Turn). u.number) (sym e), refl))
      (let P : Turn → Type 0 = λ u. IsFrom x.stops.now u.from l.b in subst P (sym e) from)
  by_turn l f (m, t, w, e, inr (n, from)) = adds.all m l.a t l w w f (inr (refl, sym n ∙ ap (λ (u : Turn). u.number) (sym e)))
      (let P : Turn → Type 0 = λ u. IsFrom x.stops.now u.from l.a in subst P (sym e) from)
