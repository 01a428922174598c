-- What turning a piece over does to the cost: what was broken and leads out is won, what was not is lost.
use Rattle.std.proofs.Common.{arith, rules, ◌≡◌, ◌+◌, ◌==◌, ℕ, Bool, true, false, cond, List, [], ◌∷◌, refl, ap, ◌∙◌, All}
use Rattle.std.specs.Prelude.{◌&&◌, not, sum_by}
use Rattle.std.proofs.lemmas.List.Sums.{sum_by-cons}
use Rattle.std.proofs.lemmas.List.Elements.{All-head, All-tail}
use Rattle.dpl_sign.specs.declared.edges.Kind.{Kind}
use Rattle.dpl_sign.specs.declared.edges.Kind.TheVariants.{Bond, Stitch, Clash}
use Rattle.dpl_sign.specs.declared.edges.Edge.{Edge}
use Rattle.dpl_sign.specs.Kinds.{is_bond}
use Rattle.dpl_sign.specs.Colourings.{agree, is_broken, colour_of, broken_weight}
use Rattle.dpl_refine.specs.Gains.{piece_at, weighed_at, won_of, lost_of, turn}

-- one edge: what it costs after both ends turned or not
pub edge_law : (kind : Kind) (s t a b : Bool) (w : ℕ) → (is_bond kind ≡ true → s ≡ t) →
    cond {A = ℕ} (is_broken kind (turn s a) (turn t b)) w 0 + cond {A = ℕ} (not (agree s t) && is_broken kind a b) w 0
    ≡ cond {A = ℕ} (is_broken kind a b) w 0 + cond {A = ℕ} (not (agree s t) && not (is_broken kind a b)) w 0
edge_law Bond true true a b w h = refl
edge_law Bond true false a b w h = search (rules, h refl)
edge_law Bond false true a b w h = search (rules, h refl)
edge_law Bond false false a b w h = refl
edge_law Stitch true true true true w h = refl
edge_law Stitch true true true false w h = refl
edge_law Stitch true true false true w h = refl
edge_law Stitch true true false false w h = refl
edge_law Stitch true false true true w h = omega arith
edge_law Stitch true false true false w h = omega arith
edge_law Stitch true false false true w h = omega arith
edge_law Stitch true false false false w h = omega arith
edge_law Stitch false true true true w h = omega arith
edge_law Stitch false true true false w h = omega arith
edge_law Stitch false true false true w h = omega arith
edge_law Stitch false true false false w h = omega arith
edge_law Stitch false false true true w h = refl
edge_law Stitch false false true false w h = refl
edge_law Stitch false false false true w h = refl
edge_law Stitch false false false false w h = refl
edge_law Clash true true true true w h = refl
edge_law Clash true true true false w h = refl
edge_law Clash true true false true w h = refl
edge_law Clash true true false false w h = refl
edge_law Clash true false true true w h = omega arith
edge_law Clash true false true false w h = omega arith
edge_law Clash true false false true w h = omega arith
edge_law Clash true false false false w h = omega arith
edge_law Clash false true true true w h = omega arith
edge_law Clash false true true false w h = omega arith
edge_law Clash false true false true w h = omega arith
edge_law Clash false true false false w h = omega arith
edge_law Clash false false true true w h = refl
edge_law Clash false false true false w h = refl
edge_law Clash false false false true w h = refl
edge_law Clash false false false false w h = refl

-- the ends of an edge have the colours that they had, turned over where they are of the piece, and a bond lies in one piece
pub record TurnsEnds (piece : List ℕ) (p : ℕ) (old new : List Bool) (e : Edge) : Type 0 where
  pub first : colour_of new e.a ≡ turn (piece_at piece e.a == p) (colour_of old e.a)
  pub second : colour_of new e.b ≡ turn (piece_at piece e.b == p) (colour_of old e.b)
  pub bond : is_bond e.kind ≡ true → piece_at piece e.a ≡ piece_at piece e.b

pub one_edge : (piece : List ℕ) (p : ℕ) (old new : List Bool) (e : Edge) → TurnsEnds piece p old new e →
    broken_weight new e + weighed_at true piece old p e ≡ broken_weight old e + weighed_at false piece old p e
one_edge piece p old new e t =
    let s : Bool = piece_at piece e.a == p in
    let r : Bool = piece_at piece e.b == p in
    let law = edge_law e.kind s r (colour_of old e.a) (colour_of old e.b) e.weight (λ b. ap (λ q. q == p) (t.bond b)) in
    let same : broken_weight new e ≡ cond {A = ℕ} (is_broken e.kind (turn s (colour_of old e.a)) (turn r (colour_of old e.b))) e.weight 0 =
    ap (λ x. cond {A = ℕ} (is_broken e.kind x (colour_of new e.b)) e.weight 0) t.first
    ∙ ap (λ y. cond {A = ℕ} (is_broken e.kind (turn s (colour_of old e.a)) y) e.weight 0) t.second in
    omega (arith, law, same)

-- the cost of a turned piece, by sums over the edges
pub turned_cost : (piece : List ℕ) (p : ℕ) (old new : List Bool) (edges : List Edge) → All (TurnsEnds piece p old new) edges →
    sum_by (broken_weight new) edges + won_of edges piece old p ≡ sum_by (broken_weight old) edges + lost_of edges piece old p
turned_cost piece p old new [] a = refl
turned_cost piece p old new (e ∷ edges) a =
    let here = one_edge piece p old new e (All-head (TurnsEnds piece p old new) e edges a) in
    let rest = turned_cost piece p old new edges (All-tail (TurnsEnds piece p old new) e edges a) in
    let one = sum_by-cons (broken_weight new) e edges in
    let two = sum_by-cons (broken_weight old) e edges in
    let three = sum_by-cons (weighed_at true piece old p) e edges in
    let four = sum_by-cons (weighed_at false piece old p) e edges in
    omega (arith, here, rest, one, two, three, four)
