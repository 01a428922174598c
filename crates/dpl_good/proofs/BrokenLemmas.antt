-- The cut lines and the clash lines of a colouring name exactly what it breaks.
use Rattle.std.proofs.Common.{arith, ◌≡◌, ◌≤◌, ◌<◌, ℕ, ◌+◌, zero, suc, Bool, true, false, not, List, [], ◌∷◌, ◌++◌}
use Rattle.std.proofs.Common.{length, map, refl, sym, ap, subst, ◌∙◌, All, Any, AllPairs, get_or, append_assoc}
use Rattle.std.specs.Prelude.{◌&&◌, ◌||◌, if◌then◌else◌}
use Rattle.std.proofs.lemmas.List.Elements.{All-nil, All-cons, All-head, All-tail, All-weaker}
use Rattle.std.proofs.lemmas.List.Kept.{AllPairs-cons}
use Rattle.dpl_cell.specs.Places.{Corners, corners_of}
use Rattle.dpl_cell.specs.declared.rect.Rect.{Rect}
use Rattle.dpl_sign.specs.declared.edges.Kind.{Kind}
use Rattle.dpl_sign.specs.declared.edges.Kind.TheVariants.{Bond, Stitch, Clash}
use Rattle.dpl_sign.specs.declared.edges.Edge.{Edge}
use Rattle.dpl_sign.specs.declared.graphs.Signed.{Signed}
use Rattle.dpl_sign.specs.Kinds.{is_bond, is_clash}
use Rattle.dpl_sign.specs.Walks.{edge_at, no_edge}
use Rattle.dpl_sign.specs.Colourings.{breaks}
use Rattle.dpl_cuts.specs.declared.types.Cut.{Cut}
use Rattle.dpl_options.specs.Options.{PlainWeights}
use Rattle.dpl_links.specs.declared.linking.Link.{Link}
use Rattle.dpl_links.specs.Nets.{Tie, tie_of, bond_tie, stitch_tie, clash_tie, ties_of}
use Rattle.dpl_form.specs.Readers.{FitFrom}
use Rattle.dpl_report.specs.declared.marks.Broken.{Broken}
use Rattle.dpl_report.specs.Plain.{PlainZone}
use Rattle.dpl_good.specs.Conditions.{is_stitch, is_broken_stitch, is_broken_clash, where_zone, cuts_after, cuts_from, clashes_from}
use Rattle.dpl_good.specs.MaskRects.{where_same, is_zone, zones_of}
use Rattle.dpl_good.specs.MaskCells.{NamesBroken, NameAllBroken}
use Rattle.std.proofs.lemmas.Bool.{and_parts, and_from}
use Rattle.dpl_list.proofs.Lists.{any_tail, any_head}

-- ---- lists

all_where : {X : Type 0} (P : X → Type 0) (t : Bool) (x : X) (xs : List X) → (t ≡ true → P x) → All P xs → All P (if t then x ∷ xs else xs)
all_where P true x xs p a = All-cons P x xs (p refl) a
all_where P false x xs p a = a

any_where : {X : Type 0} (P : X → Type 0) (t : Bool) (x : X) (xs : List X) → Any P xs → Any P (if t then x ∷ xs else xs)
any_where P true x xs a = any_tail P x xs a
any_where P false x xs a = a

any_first : {X : Type 0} (P : X → Type 0) (t : Bool) (x : X) (xs : List X) → t ≡ true → P x → Any P (if t then x ∷ xs else xs)
any_first P t x xs e p = rw e (any_head P x xs p)

-- items that fit one after another rise
fit_above : {X : Type 0} (Fits : ℕ → X → Type 0) (number : X → ℕ)
    → ((s : ℕ) (x : X) → Fits s x → s ≤ number x) → (s : ℕ) (xs : List X)
    → FitFrom Fits (λ x. number x + 1) s xs → All (λ x. s ≤ number x) xs
fit_above Fits number least s [] f = All-nil (λ x. s ≤ number x)
fit_above Fits number least s (x ∷ xs) f =
    let own = least s x f.0 in
    All-cons (λ y. s ≤ number y) x xs own (All-weaker (λ y. number x + 1 ≤ number y) (λ y. s ≤ number y)
    (λ y h. omega (arith, own, h)) xs (fit_above Fits number least (number x + 1) xs f.1))

-- lines that fit one after another have rising numbers
pub fit_rises : {X : Type 0} (Fits : ℕ → X → Type 0) (number : X → ℕ)
    → ((s : ℕ) (x : X) → Fits s x → s ≤ number x) → (s : ℕ) (xs : List X)
    → FitFrom Fits (λ x. number x + 1) s xs → AllPairs (λ x y. number x < number y) xs
fit_rises Fits number least s [] f = λ i j d h l. absurd (omega (arith, l))
fit_rises Fits number least s (x ∷ xs) f =
    AllPairs-cons (λ y z. number y < number z) x xs (All-weaker (λ y. number x + 1 ≤ number y)
    (λ y. number x < number y) (λ y h. omega (arith, h)) xs (fit_above Fits number least (number x + 1) xs f.1))
    (fit_rises Fits number least (number x + 1) xs f.1)

-- ---- kinds

clash_kind : (kind : Kind) → is_clash kind ≡ true → kind ≡ Clash
clash_kind Bond e = absurd (cc)
clash_kind Stitch e = absurd (cc)
clash_kind Clash e = refl

stitch_kind : (kind : Kind) → not (is_bond kind || is_clash kind) ≡ true → kind ≡ Stitch
stitch_kind Bond e = absurd (cc)
stitch_kind Stitch e = refl
stitch_kind Clash e = absurd (cc)

-- ---- clashes

-- the line names an edge of the list whose first one has the number e
record NamesHere (colours : List Bool) (kind : Kind) (e : ℕ) (edges : List Edge) (b : Broken) : Type 0 where
  k : ℕ
  within : k < length edges
  number : b.edge ≡ e + k
  is : (get_or edges k no_edge).kind ≡ kind
  broken : breaks colours (get_or edges k no_edge) ≡ true
  first : b.a ≡ (get_or edges k no_edge).a
  second : b.b ≡ (get_or edges k no_edge).b

one_before : (colours : List Bool) (kind : Kind) (e : ℕ) (edge : Edge) (edges : List Edge) (b : Broken)
    → NamesHere colours kind (e + 1) edges b → NamesHere colours kind e (edge ∷ edges) b
one_before colours kind e edge edges b n =
    let l = n.within in let m = n.number in
    record { k = suc n.k; within = omega arith; number = omega arith; is = n.is; broken = n.broken; first = n.first; second = n.second }

clash_here : (colours : List Bool) (e : ℕ) (edge : Edge) (edges : List Edge)
    → is_broken_clash colours edge ≡ true
    → NamesHere colours Clash e (edge ∷ edges) (record { edge = e; a = edge.a; b = edge.b })
clash_here colours e edge edges t =
    let d = and_parts (is_clash edge.kind) (breaks colours edge) t in
    record { k = 0; within = omega arith; number = omega arith; is = clash_kind edge.kind d.0; broken = d.1; first = refl; second = refl }

clashes_name : (colours : List Bool) (e : ℕ) (edges : List Edge) → All (NamesHere colours Clash e edges) (clashes_from colours e edges)
clashes_name colours e [] = All-nil (NamesHere colours Clash e [])
clashes_name colours e (edge ∷ edges) =
    all_where (NamesHere colours Clash e (edge ∷ edges)) (is_broken_clash colours edge)
    (record { edge = e; a = edge.a; b = edge.b }) (clashes_from colours (e + 1) edges)
    (clash_here colours e edge edges)
    (All-weaker (NamesHere colours Clash (e + 1) edges) (NamesHere colours Clash e (edge ∷ edges))
    (one_before colours Clash e edge edges) (clashes_from colours (e + 1) edges)
    (clashes_name colours (e + 1) edges))

moved : (e k : ℕ) (bs : List Broken) → Any (λ b. b.edge ≡ e + 1 + k) bs → Any (λ b. b.edge ≡ e + suc k) bs
moved e k bs (i, b, l, m, p) = (i, b, l, m, omega (arith, p))

clashes_all : (colours : List Bool) (e : ℕ) (edges : List Edge) (k : ℕ) → k < length edges
    → (get_or edges k no_edge).kind ≡ Clash → breaks colours (get_or edges k no_edge) ≡ true
    → Any (λ b. b.edge ≡ e + k) (clashes_from colours e edges)
clashes_all colours e [] k l f g = absurd (omega (arith, l))
clashes_all colours e (edge ∷ edges) zero l f g =
    let t : is_broken_clash colours edge ≡ true = and_from (is_clash edge.kind) (breaks colours edge) (ap is_clash f) g in
    any_first (λ b. b.edge ≡ e + 0) (is_broken_clash colours edge) (record { edge = e; a = edge.a; b = edge.b })
    (clashes_from colours (e + 1) edges) t (omega arith)
clashes_all colours e (edge ∷ edges) (suc k) l f g =
    any_where (λ b. b.edge ≡ e + suc k) (is_broken_clash colours edge) (record { edge = e; a = edge.a; b = edge.b })
    (clashes_from colours (e + 1) edges) (moved e k (clashes_from colours (e + 1) edges)
    (clashes_all colours (e + 1) edges k (omega (arith, l)) f g))

rises_where : {X : Type 0} (number : X → ℕ) (t : Bool) (x : X) (xs : List X)
    → All (λ y. number x + 1 ≤ number y) xs → AllPairs (λ y z. number y < number z) xs
    → AllPairs (λ y z. number y < number z) (if t then x ∷ xs else xs)
rises_where number true x xs a o = AllPairs-cons (λ y z. number y < number z) x xs
    (All-weaker (λ y. number x + 1 ≤ number y) (λ y. number x < number y) (λ y h. omega (arith, h)) xs a) o
rises_where number false x xs a o = o

from_number : (colours : List Bool) (kind : Kind) (e : ℕ) (edges : List Edge) (b : Broken) → NamesHere colours kind e edges b → e ≤ b.edge
from_number colours kind e edges b n = let m = n.number in omega (arith, m)

-- the broken clashes have rising edges
pub clashes_rise : (colours : List Bool) (e : ℕ) (edges : List Edge) → AllPairs (λ (b c : Broken). b.edge < c.edge) (clashes_from colours e edges)
clashes_rise colours e [] = λ i j d h l. absurd (omega (arith, l))
clashes_rise colours e (edge ∷ edges) =
    rises_where (λ (b : Broken). b.edge) (is_broken_clash colours edge) (record { edge = e; a = edge.a; b = edge.b }) (clashes_from colours (e + 1) edges)
    (All-weaker (NamesHere colours Clash (e + 1) edges) (λ (b : Broken). e + 1 ≤ b.edge)
    (from_number colours Clash (e + 1) edges) (clashes_from colours (e + 1) edges)
    (clashes_name colours (e + 1) edges)) (clashes_rise colours (e + 1) edges)

names_broken : (g : Signed) (colours : List Bool) (kind : Kind) (b : Broken) → NamesHere colours kind 0 g.edges b → NamesBroken g colours kind b
names_broken g colours kind b n =
    let m = n.number in
    let same : n.k ≡ b.edge = omega arith in
    record {
      edge = record {
        within = subst (λ j. j < length g.edges) same n.within;
        is = subst (λ j. (edge_at g j).kind ≡ kind) same n.is;
        broken = subst (λ j. breaks colours (edge_at g j) ≡ true) same n.broken;
      };
      first = subst (λ j. b.a ≡ (edge_at g j).a) same n.first;
      second = subst (λ j. b.b ≡ (edge_at g j).b) same n.second;
    }

from_zero : {X : Type 0} (number : X → ℕ) (k : ℕ) (xs : List X) → Any (λ x. number x ≡ 0 + k) xs → Any (λ x. number x ≡ k) xs
from_zero number k xs (i, x, l, m, p) = (i, x, l, m, omega (arith, p))

-- the lines of the broken clashes name exactly these, each with its ends
pub clashes_are_named : (g : Signed) (colours : List Bool) (lines : List Broken)
    → lines ≡ clashes_from colours 0 g.edges → AllPairs (λ b c. b.edge < c.edge) lines
    → NameAllBroken g colours Clash (λ b. b) lines
clashes_are_named g colours lines e o = subst (NameAllBroken g colours Clash (λ b. b)) (sym e) (record {
  each = All-weaker (NamesHere colours Clash 0 g.edges) (NamesBroken g colours Clash) (names_broken g colours Clash)
      (clashes_from colours 0 g.edges) (clashes_name colours 0 g.edges);
  all = λ k h. from_zero (λ b. b.edge) k (clashes_from colours 0 g.edges) (clashes_all colours 0 g.edges k h.within h.is h.broken);
  ordered = subst (AllPairs (λ b c. b.edge < c.edge)) e o;
})

-- ---- stitches and their cuts

stitch_is : (edge : Edge) → edge.kind ≡ Stitch → is_stitch edge ≡ true
stitch_is edge f = rw f refl

-- a stitch has a cut before it, and its ends are those of the cut
abbrev TakesCut : Edge → List Cut → Type 0
TakesCut edge [] = is_stitch edge ≡ false
TakesCut edge (c ∷ cs) = is_stitch edge ≡ true → (edge.a ≡ c.a) × (edge.b ≡ c.b)

-- each stitch takes the next cut, and no cut is left
abbrev pub TakeCuts : List Edge → List Cut → Type 0
TakeCuts [] cuts = cuts ≡ []
TakeCuts (edge ∷ edges) cuts = TakesCut edge cuts × TakeCuts edges (cuts_after edge cuts)

no_stitch : (edge : Edge) (kind : Kind) → edge.kind ≡ kind → not (is_bond kind || is_clash kind) ≡ false → is_stitch edge ≡ false
no_stitch edge kind e f = rw e f

-- the first edge makes the first tie, and the others make the others
pub first_tie : (edge : Edge) (edges : List Edge) (t : Tie) (ts : List Tie) → map tie_of (edge ∷ edges) ≡ t ∷ ts → (tie_of edge ≡ t) × (map tie_of edges ≡ ts)
first_tie edge edges t ts e = (cc, cc)

clashes_take : (weights : PlainWeights) (edges : List Edge) (links : List Link) → map tie_of edges ≡ map (clash_tie weights) links → TakeCuts edges []
clashes_take weights [] links e = refl
clashes_take weights (edge ∷ edges) [] e = absurd (cc)
clashes_take weights (edge ∷ edges) (l ∷ links) e =
    let d = first_tie edge edges (clash_tie weights l) (map (clash_tie weights) links) e in
    (no_stitch edge Clash (ap (λ (t : Tie). t.kind) d.0) refl, clashes_take weights edges links d.1)

stitches_take : (stitch : ℕ) (clash : PlainWeights) (edges : List Edge) (cuts : List Cut) (links : List Link)
    → map tie_of edges ≡ map (stitch_tie stitch) cuts ++ map (clash_tie clash) links → TakeCuts edges cuts
stitches_take stitch clash edges [] links e = clashes_take clash edges links e
stitches_take stitch clash [] (c ∷ cuts) links e = absurd (cc)
stitches_take stitch clash (edge ∷ edges) (c ∷ cuts) links e =
    let d = first_tie edge edges (stitch_tie stitch c) (map (stitch_tie stitch) cuts ++ map (clash_tie clash) links) e in
    let kind : edge.kind ≡ Stitch = ap (λ (t : Tie). t.kind) d.0 in
    let is = stitch_is edge kind in
    ((λ t. (ap (λ (t : Tie). t.a) d.0, ap (λ (t : Tie). t.b) d.0)), rw is (stitches_take stitch clash edges cuts links d.1))

bonds_take : (stitch : ℕ) (clash : PlainWeights) (edges : List Edge) (bonds : List (ℕ × ℕ)) (cuts : List Cut) (links : List Link)
    → map tie_of edges ≡ map bond_tie bonds ++ (map (stitch_tie stitch) cuts ++ map (clash_tie clash) links)
    → TakeCuts edges cuts
bonds_take stitch clash edges [] cuts links e = stitches_take stitch clash edges cuts links e
bonds_take stitch clash [] (p ∷ bonds) cuts links e = absurd (cc)
bonds_take stitch clash (edge ∷ edges) (p ∷ bonds) cuts links e =
    let d = first_tie edge edges (bond_tie p) (map bond_tie bonds ++ (map (stitch_tie stitch) cuts ++ map (clash_tie clash) links)) e in
    let none : is_stitch edge ≡ false = no_stitch edge Bond (ap (λ (t : Tie). t.kind) d.0) refl in
    let rest = bonds_take stitch clash edges bonds cuts links d.1 in
    no_cut edge edges cuts none rest where
      no_cut : (edge : Edge) (edges : List Edge) (cuts : List Cut) → is_stitch edge ≡ false → TakeCuts edges cuts → TakeCuts (edge ∷ edges) cuts
      no_cut edge edges [] n r = (n, r)
      no_cut edge edges (c ∷ cs) n r = ((λ t. let bad = sym n ∙ t in absurd (cc)), rw n r)

-- the edges of a net take up the cuts in their order
pub net_takes : (weights : PlainWeights) (bonds : List (ℕ × ℕ)) (cuts : List Cut) (links : List Link) (edges : List Edge)
    → map tie_of edges ≡ ties_of weights bonds cuts links → TakeCuts edges cuts
net_takes weights bonds cuts links edges e =
    bonds_take weights.stitch weights edges bonds cuts links
    (e ∙ append_assoc (map bond_tie bonds) (map (stitch_tie weights.stitch) cuts) (map (clash_tie weights) links))

-- a stitch that is broken and the cut that it takes
stitch_breaks : (colours : List Bool) (edge : Edge) (c : Cut) → is_stitch edge ≡ true
    → (edge.a ≡ c.a) × (edge.b ≡ c.b) → is_broken_stitch colours edge ≡ is_zone colours c
stitch_breaks colours edge c t ends = rw (t, stitch_kind edge.kind t, ends.0, ends.1) refl

-- the zones of the lines are those of the broken cuts
pub zones_are : (colours : List Bool) (e : ℕ) (edges : List Edge) (cuts : List Cut) → TakeCuts edges cuts
    → map (λ (z : PlainZone). z.corners) (cuts_from colours e edges cuts) ≡ map corners_of (zones_of colours cuts)
zones_are colours e [] cuts t = rw t refl
zones_are colours e (edge ∷ edges) [] t = zones_are colours (e + 1) edges [] t.1
zones_are colours e (edge ∷ edges) (c ∷ cs) t = by_kind (is_stitch edge) refl t.1 (zones_are colours (e + 1) edges cs)
    (zones_are colours (e + 1) edges (c ∷ cs)) where
      one_more : (a b : Bool) (z : PlainZone) (zs : List PlainZone) (r : Rect) (rs : List Rect) → a ≡ b →
          z.corners ≡ corners_of r → map (λ (z : PlainZone). z.corners) zs ≡ map corners_of rs →
          map (λ (z : PlainZone). z.corners) (where_zone a z zs) ≡ map corners_of (where_same b r rs)
      one_more true true z zs r rs f g h = rw (g, h) refl
      one_more false false z zs r rs f g h = h
      one_more true false z zs r rs f g h = absurd (cc)
      one_more false true z zs r rs f g h = absurd (cc)

      by_kind : (k : Bool) → is_stitch edge ≡ k → TakeCuts edges (cuts_after edge (c ∷ cs))
          → (TakeCuts edges cs → map (λ (z : PlainZone). z.corners) (cuts_from colours (e + 1) edges cs) ≡ map corners_of (zones_of colours cs))
          → (TakeCuts edges (c ∷ cs) → map (λ (z : PlainZone). z.corners) (cuts_from colours (e + 1) edges (c ∷ cs))
          ≡ map corners_of (zones_of colours (c ∷ cs)))
          → map (λ (z : PlainZone). z.corners) (cuts_from colours e (edge ∷ edges) (c ∷ cs)) ≡ map corners_of (zones_of colours (c ∷ cs))
      by_kind true f r taken left =
          let r' : TakeCuts edges cs = rw f at r in
          let same = stitch_breaks colours edge c f (t.0 f) in
          rw f (one_more (true && breaks colours edge) (is_zone colours c)
          (record { at = record { edge = e; a = edge.a; b = edge.b }; corners = corners_of c.zone })
          (cuts_from colours (e + 1) edges cs) c.zone (zones_of colours cs) (let s = same in rw f at s) refl (taken r'))
      by_kind false f r taken left =
          let r' : TakeCuts edges (c ∷ cs) = rw f at r in
          rw f (left r')

-- what holds of all cuts holds of the lines
pub zones_hold : (P : ℕ → ℕ → Corners → Type 0) (colours : List Bool) (e : ℕ) (edges : List Edge) (cuts : List Cut)
    → TakeCuts edges cuts → All (λ (c : Cut). P c.a c.b (corners_of c.zone)) cuts
    → All (λ (z : PlainZone). P z.at.a z.at.b z.corners) (cuts_from colours e edges cuts)
zones_hold P colours e [] cuts t a = All-nil (λ (z : PlainZone). P z.at.a z.at.b z.corners)
zones_hold P colours e (edge ∷ edges) [] t a = zones_hold P colours (e + 1) edges [] t.1 a
zones_hold P colours e (edge ∷ edges) (c ∷ cs) t a = by_kind (is_stitch edge) refl t.1
    (λ r. zones_hold P colours (e + 1) edges cs r (All-tail (λ (d : Cut). P d.a d.b (corners_of d.zone)) c cs a))
    (λ r. zones_hold P colours (e + 1) edges (c ∷ cs) r a) where
      by_kind : (k : Bool) → is_stitch edge ≡ k → TakeCuts edges (cuts_after edge (c ∷ cs))
          → (TakeCuts edges cs → All (λ (z : PlainZone). P z.at.a z.at.b z.corners) (cuts_from colours (e + 1) edges cs))
          → (TakeCuts edges (c ∷ cs) → All (λ (z : PlainZone). P z.at.a z.at.b z.corners) (cuts_from colours (e + 1) edges (c ∷ cs)))
          → All (λ (z : PlainZone). P z.at.a z.at.b z.corners) (cuts_from colours e (edge ∷ edges) (c ∷ cs))
      by_kind true f r taken left =
          let r' : TakeCuts edges cs = rw f at r in
          let ends = t.0 f in
          let own : P edge.a edge.b (corners_of c.zone) = rw (ends.0, ends.1) (All-head (λ (d : Cut). P d.a d.b (corners_of d.zone)) c cs a) in
          rw f (all_where (λ (z : PlainZone). P z.at.a z.at.b z.corners) (true && breaks colours edge)
          (record { at = record { edge = e; a = edge.a; b = edge.b }; corners = corners_of c.zone })
          (cuts_from colours (e + 1) edges cs) (λ b. own)
          (taken r'))
      by_kind false f r taken left =
          let r' : TakeCuts edges (c ∷ cs) = rw f at r in
          rw f (left r')

stitch_here : (colours : List Bool) (e : ℕ) (edge : Edge) (edges : List Edge)
    → is_broken_stitch colours edge ≡ true
    → NamesHere colours Stitch e (edge ∷ edges) (record { edge = e; a = edge.a; b = edge.b })
stitch_here colours e edge edges t =
    let d = and_parts (is_stitch edge) (breaks colours edge) t in
    record { k = 0; within = omega arith; number = omega arith; is = stitch_kind edge.kind d.0; broken = d.1; first = refl; second = refl }

stitches_name : (colours : List Bool) (e : ℕ) (edges : List Edge) (cuts : List Cut)
    → All (λ (z : PlainZone). NamesHere colours Stitch e edges z.at) (cuts_from colours e edges cuts)
stitches_name colours e [] cuts = All-nil (λ (z : PlainZone). NamesHere colours Stitch e [] z.at)
stitches_name colours e (edge ∷ edges) [] =
    All-weaker (λ (z : PlainZone). NamesHere colours Stitch (e + 1) edges z.at)
    (λ (z : PlainZone). NamesHere colours Stitch e (edge ∷ edges) z.at)
    (λ z. one_before colours Stitch e edge edges z.at) (cuts_from colours (e + 1) edges [])
    (stitches_name colours (e + 1) edges [])
stitches_name colours e (edge ∷ edges) (c ∷ cs) =
    let left = cuts_after edge (c ∷ cs) in
    all_where (λ (z : PlainZone). NamesHere colours Stitch e (edge ∷ edges) z.at) (is_broken_stitch colours edge)
    (record { at = record { edge = e; a = edge.a; b = edge.b }; corners = corners_of c.zone })
    (cuts_from colours (e + 1) edges left) (stitch_here colours e edge edges)
    (All-weaker (λ (z : PlainZone). NamesHere colours Stitch (e + 1) edges z.at)
    (λ (z : PlainZone). NamesHere colours Stitch e (edge ∷ edges) z.at)
    (λ z. one_before colours Stitch e edge edges z.at) (cuts_from colours (e + 1) edges left)
    (stitches_name colours (e + 1) edges left))

-- the broken stitches have rising edges
pub stitches_rise : (colours : List Bool) (e : ℕ) (edges : List Edge) (cuts : List Cut)
    → AllPairs (λ (y z : PlainZone). y.at.edge < z.at.edge) (cuts_from colours e edges cuts)
stitches_rise colours e [] cuts = λ i j d h l. absurd (omega (arith, l))
stitches_rise colours e (edge ∷ edges) [] = stitches_rise colours (e + 1) edges []
stitches_rise colours e (edge ∷ edges) (c ∷ cs) =
    let left = cuts_after edge (c ∷ cs) in
    rises_where (λ (z : PlainZone). z.at.edge) (is_broken_stitch colours edge)
    (record { at = record { edge = e; a = edge.a; b = edge.b }; corners = corners_of c.zone })
    (cuts_from colours (e + 1) edges left)
    (All-weaker (λ (z : PlainZone). NamesHere colours Stitch (e + 1) edges z.at) (λ (z : PlainZone). e + 1 ≤ z.at.edge)
    (λ z. from_number colours Stitch (e + 1) edges z.at) (cuts_from colours (e + 1) edges left)
    (stitches_name colours (e + 1) edges left)) (stitches_rise colours (e + 1) edges left)

moved_zones : (e k : ℕ) (zs : List PlainZone) → Any (λ z. z.at.edge ≡ e + 1 + k) zs → Any (λ z. z.at.edge ≡ e + suc k) zs
moved_zones e k zs (i, z, l, m, p) = (i, z, l, m, omega (arith, p))

stitches_all : (colours : List Bool) (e : ℕ) (edges : List Edge) (cuts : List Cut) (k : ℕ)
    → TakeCuts edges cuts → k < length edges → (get_or edges k no_edge).kind ≡ Stitch
    → breaks colours (get_or edges k no_edge) ≡ true
    → Any (λ (z : PlainZone). z.at.edge ≡ e + k) (cuts_from colours e edges cuts)
stitches_all colours e [] cuts k t l f g = absurd (omega (arith, l))
stitches_all colours e (edge ∷ edges) [] zero t l f g = let bad : is_stitch edge ≡ true = stitch_is edge f in let worse = sym t.0 ∙ bad in absurd (cc)
stitches_all colours e (edge ∷ edges) [] (suc k) t l f g =
    moved_zones e k (cuts_from colours (e + 1) edges [])
    (stitches_all colours (e + 1) edges [] k t.1 (omega (arith, l)) f g)
stitches_all colours e (edge ∷ edges) (c ∷ cs) zero t l f g =
    let b : is_broken_stitch colours edge ≡ true = and_from (is_stitch edge) (breaks colours edge) (stitch_is edge f) g in
    any_first (λ (z : PlainZone). z.at.edge ≡ e + 0) (is_broken_stitch colours edge)
    (record { at = record { edge = e; a = edge.a; b = edge.b }; corners = corners_of c.zone })
    (cuts_from colours (e + 1) edges (cuts_after edge (c ∷ cs))) b (omega arith)
stitches_all colours e (edge ∷ edges) (c ∷ cs) (suc k) t l f g =
    let left = cuts_after edge (c ∷ cs) in
    any_where (λ (z : PlainZone). z.at.edge ≡ e + suc k) (is_broken_stitch colours edge)
    (record { at = record { edge = e; a = edge.a; b = edge.b }; corners = corners_of c.zone })
    (cuts_from colours (e + 1) edges left) (moved_zones e k (cuts_from colours (e + 1) edges left)
    (stitches_all colours (e + 1) edges left k t.1 (omega (arith, l)) f g))

-- the lines of the broken stitches name exactly these, each with its ends
pub stitches_are_named : (g : Signed) (colours : List Bool) (cuts : List Cut) (lines : List PlainZone)
    → TakeCuts g.edges cuts → lines ≡ cuts_from colours 0 g.edges cuts
    → AllPairs (λ y z. y.at.edge < z.at.edge) lines → NameAllBroken g colours Stitch (λ z. z.at) lines
stitches_are_named g colours cuts lines t e o = subst (NameAllBroken g colours Stitch (λ z. z.at)) (sym e) (record {
  each = All-weaker (λ (z : PlainZone). NamesHere colours Stitch 0 g.edges z.at)
      (λ (z : PlainZone). NamesBroken g colours Stitch z.at) (λ z. names_broken g colours Stitch z.at)
      (cuts_from colours 0 g.edges cuts) (stitches_name colours 0 g.edges cuts);
  all = λ k h. from_zero (λ (z : PlainZone). z.at.edge) k (cuts_from colours 0 g.edges cuts) (stitches_all colours 0 g.edges cuts k t h.within h.is h.broken);
  ordered = subst (AllPairs (λ y z. y.at.edge < z.at.edge)) e o;
})
