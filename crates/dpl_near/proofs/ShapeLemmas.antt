-- Classes of rectangles and classes of their cells.
use Rattle.std.proofs.Common.{arith, ◌≡◌, ℕ, ◌<◌, ℤ, ◌<ℤ◌, ◌≤ℤ◌, List, length, get_or, AllPairs, Contains, inl, inr, ◌∷◌, [], Bool, map}
use Rattle.std.proofs.lemmas.Int.{by_lt_z}
use Rattle.std.proofs.lemmas.Bool.{cases_lt, cases_eq}
use Rattle.std.proofs.lemmas.List.{get_or_default}
use Rattle.dpl_cell.specs.Places.{Corners}
use Rattle.dpl_cell.specs.Cells.{IsWithin, IsIn, AreApart}
use Rattle.dpl_cell.specs.Outlines.{Box}
use Rattle.dpl_cell.specs.Layers.{is_cell}
use Rattle.dpl_cell.specs.Edges.{AreNeighbours, SharesEdge}
use Rattle.dpl_cell.specs.Shapes.{IsWalk, AreOneShape}
use Rattle.dpl_cell.proofs.BoxLemmas.{held, holder}
use Rattle.dpl_near.specs.Joins.{IsJoin, AreJoins}
use Rattle.dpl_near.specs.Shapes.{AreShapes}
use Rattle.dpl_classes.specs.Chains.{IsChain, AreLinked}
use Rattle.dpl_classes.specs.Classes.{AreClasses}
use Rattle.dpl_classes.proofs.ChainLemmas.{link_here, link_on, link_pair, link_back}
use Rattle.dpl_list.proofs.Integers.{signed}
use Rattle.dpl_near.proofs.WalkLemmas.{walk_start, joined_on, joined_step, joined_back, neighbours_back, along_row, along_column, steps}

-- ---- walks within rectangles

row_ordered : (rects : List Corners) (i : ℕ) (d : Corners) (x x' y : ℤ) → i < length rects → x ≤ℤ x'
    → IsIn (get_or rects i d) x y → IsIn (get_or rects i d) x' y
    → AreOneShape (is_cell (map Box rects)) x y x' y
row_ordered rects i d x x' y l h p q = let (n, e) = steps x x' h in
    rw e (along_row (is_cell (map Box rects)) n x y (λ k f t. held rects i d k y l
    (between_in (get_or rects i d) x x' y k p q f (rw e t)))) where
      between_in : (r : Corners) (x x' y k : ℤ) → IsIn r x y → IsIn r x' y → x ≤ℤ k → k ≤ℤ x' → IsIn r k y
      between_in r x x' y k p q f t = record { column = mid r.x1 r.x2 x x' k p.column q.column f t; row = p.row } where
        mid : (a b x x' k : ℤ) → IsWithin a b x → IsWithin a b x' → x ≤ℤ k → k ≤ℤ x' → IsWithin a b k
        mid a b x x' k p q f t = record { from = omega signed; to = omega signed }

column_ordered : (rects : List Corners) (i : ℕ) (d : Corners) (x y y' : ℤ) → i < length rects → y ≤ℤ y'
    → IsIn (get_or rects i d) x y → IsIn (get_or rects i d) x y'
    → AreOneShape (is_cell (map Box rects)) x y x y'
column_ordered rects i d x y y' l h p q = let (n, e) = steps y y' h in
    rw e (along_column (is_cell (map Box rects)) n x y
    (λ k f t. held rects i d x k l (between_in (get_or rects i d) x y y' k p q f (rw e t)))) where
      between_in : (r : Corners) (x y y' k : ℤ) → IsIn r x y → IsIn r x y' → y ≤ℤ k → k ≤ℤ y' → IsIn r x k
      between_in r x y y' k p q f t = record { column = p.column; row = mid r.y1 r.y2 y y' k p.row q.row f t } where
        mid : (a b x x' k : ℤ) → IsWithin a b x → IsWithin a b x' → x ≤ℤ k → k ≤ℤ x' → IsWithin a b k
        mid a b x x' k p q f t = record { from = omega signed; to = omega signed }

pub le_of_lt : (a b : ℤ) → a <ℤ b → a ≤ℤ b
le_of_lt a b h = omega signed

-- two cells of one rectangle
pub joined_within : (rects : List Corners) (i : ℕ) (d : Corners) (x y x' y' : ℤ) → i < length rects
    → IsIn (get_or rects i d) x y → IsIn (get_or rects i d) x' y'
    → AreOneShape (is_cell (map Box rects)) x y x' y'
joined_within rects i d x y x' y' l p q =
    let m : IsIn (get_or rects i d) x' y = record { column = q.column; row = p.row } in
    joined_on (is_cell (map Box rects)) x y x' y x' y'
    (by_lt_z x x' (λ h. row_ordered rects i d x x' y l (le_of_lt _ _ h) p m)
    (λ h. joined_back (is_cell (map Box rects)) x' y x y (row_ordered rects i d x' x y l h m p)))
    (by_lt_z y y' (λ h. column_ordered rects i d x' y y' l (le_of_lt _ _ h) m q)
    (λ h. joined_back (is_cell (map Box rects)) x' y' x' y (column_ordered rects i d x' y' y l h q m)))

-- two cells of rectangles that share an edge
pub joined_across : (rects : List Corners) (i j : ℕ) (d : Corners) (x y x' y' : ℤ) → i < length rects
    → j < length rects → SharesEdge (IsIn (get_or rects i d)) (IsIn (get_or rects j d))
    → IsIn (get_or rects i d) x y → IsIn (get_or rects j d) x' y'
    → AreOneShape (is_cell (map Box rects)) x y x' y'
joined_across rects i j d x y x' y' l m t p q =
    let cells : ℤ → ℤ → Bool = is_cell (map Box rects) in
    joined_on cells x y t.x t.y x' y' (joined_within rects i d x y t.x t.y l p t.cells.first)
    (joined_on cells t.x t.y t.x' t.y' x' y' (joined_step cells t.x t.y t.x' t.y'
    (held rects i d t.x t.y l t.cells.first) (held rects j d t.x' t.y' m t.cells.second) t.neighbours)
    (joined_within rects j d t.x' t.y' x' y' m t.cells.second q))

-- ---- from links to walks

join_of : (rects : List Corners) (joins : List (ℕ × ℕ)) (i j : ℕ) → AreJoins rects joins → Contains joins (i, j) → IsJoin rects i j
join_of rects joins i j a (k, l, e) = let d : ℕ × ℕ = (i, j) in let h = a.each k d l in rw e at h

joined_along : (rects : List Corners) (joins : List (ℕ × ℕ)) → AreJoins rects joins
    → (i : ℕ) (js : List ℕ) (k : ℕ) (d : Corners) (x y x' y' : ℤ) → IsChain joins i js k → i < length rects
    → IsIn (get_or rects i d) x y → IsIn (get_or rects k d) x' y'
    → AreOneShape (is_cell (map Box rects)) x y x' y'
joined_along rects joins a i [] k d x y x' y' e l p q = joined_within rects i d x y x' y' l p (rw e q)
joined_along rects joins a i (m ∷ js) k d x y x' y' (h, s) l p q =
    let cells : ℤ → ℤ → Bool = is_cell (map Box rects) in
    elim h [
      | inl c ↦ let j = join_of rects joins i m a c in let t = j.edge d in
          joined_on cells x y t.x' t.y' x' y' (joined_across rects i m d x y t.x' t.y' l j.within t p t.cells.second)
          (joined_along rects joins a m js k d t.x' t.y' x' y' s j.within t.cells.second q)
      | inr c ↦ let j = join_of rects joins m i a c in let t = j.edge d in
          let w : m < length rects = let f = j.rising in omega arith in
          joined_on cells x y t.x t.y x' y' (joined_back cells t.x t.y x y (joined_across rects m i d t.x t.y x y w l t t.cells.first p))
          (joined_along rects joins a m js k d t.x t.y x' y' s w t.cells.first q)
    ]

-- ---- from walks to links

same_holder : (rects : List Corners) (i j : ℕ) (d : Corners) (x y : ℤ) → AllPairs AreApart rects
    → i < length rects → j < length rects → IsIn (get_or rects i d) x y → IsIn (get_or rects j d) x y → i ≡ j
same_holder rects i j d x y apart l m p q = elim (cases_lt i j) [
  | inl h ↦ absurd (apart i j d h m (record { x = x; y = y; first = p; second = q }))
  | inr h ↦ elim (cases_eq i j) [ inl e ↦ e | inr n ↦ absurd (apart j i d (omega (arith, n)) l (record { x = x; y = y; first = q; second = p })) ]
]

edge_at : (rects : List Corners) (i j : ℕ) (d : Corners) (x y x' y' : ℤ) → i < length rects → j < length rects
    → IsIn (get_or rects i d) x y → IsIn (get_or rects j d) x' y' → AreNeighbours x y x' y' → (e : Corners)
    → SharesEdge (IsIn (get_or rects i e)) (IsIn (get_or rects j e))
edge_at rects i j d x y x' y' l m p q n e = record {
  x = x;
  y = y;
  x' = x';
  y' = y';
  cells =
      record { first = rw (get_or_default rects i e d l) p; second = rw (get_or_default rects j e d m) q };
  neighbours =
      n;
}

step_link : (rects : List Corners) (joins : List (ℕ × ℕ)) (i j : ℕ) (d : Corners) (x y x' y' : ℤ)
    → AreJoins rects joins → i < length rects → j < length rects → IsIn (get_or rects i d) x y
    → IsIn (get_or rects j d) x' y' → AreNeighbours x y x' y' → AreLinked joins i j
step_link rects joins i j d x y x' y' a l m p q n = elim (cases_lt i j) [
  | inl h ↦ link_pair joins i j (a.all i j (record { rising = h; within = m; edge = edge_at rects i j d x y x' y' l m p q n }))
  | inr h ↦ elim (cases_eq i j) [
    | inl e ↦ link_here joins i j e
    | inr f ↦ link_back joins j i (link_pair joins j i
        (a.all j i (record {
          rising = omega (arith, f);
          within = l;
          edge =
              edge_at rects j i d x' y' x y m l q p (neighbours_back x y x' y' n);
        })))
  ]
]

linked_along : (rects : List Corners) (joins : List (ℕ × ℕ)) → AllPairs AreApart rects → AreJoins rects joins
    → (i j : ℕ) (d : Corners) (x y : ℤ) (cs : List (ℤ × ℤ)) (x' y' : ℤ) → i < length rects → j < length rects
    → IsIn (get_or rects i d) x y → IsIn (get_or rects j d) x' y'
    → IsWalk (is_cell (map Box rects)) x y cs x' y' → AreLinked joins i j
linked_along rects joins apart a i j d x y [] x' y' l m p q (h, e, f) = link_here joins i j (same_holder rects i j d x y apart l m p (rw (e, f) q))
linked_along rects joins apart a i j d x y (c ∷ cs) x' y' l m p q (h, n, w) =
    let (k, r, g, e, s) = holder rects c.0 c.1 (walk_start (is_cell (map Box rects)) c.0 c.1 cs x' y' w) in
    let s' : IsIn (get_or rects k d) c.0 c.1 = rw (get_or_default rects k d r g, e) s in
    link_on joins i k j (step_link rects joins i k d x y c.0 c.1 a l g p s' n) (linked_along rects joins apart a k j d c.0 c.1 cs x' y' g m s' q w)

-- ---- the shapes

pub are_shapes : (rects : List Corners) (joins : List (ℕ × ℕ)) (label : List ℕ) (count' : ℕ)
    → AllPairs AreApart rects → AreJoins rects joins → AreClasses joins (length rects) label count'
    → AreShapes rects label count'
are_shapes rects joins label count' apart a r = record {
  long = r.long;
  same = λ i j d x y x' y' l m p q.
      let f = r.same i j l m in (
        (λ e. let t = f.0 e in joined_along rects joins a i t.chain j d x y x' y' t.is l p q),
        (λ (cs, w). f.1 (linked_along rects joins apart a i j d x y cs x' y' l m p q w)),
      );
  numbered = r.numbered;
}
