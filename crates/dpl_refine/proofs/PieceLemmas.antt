-- The classes of the bonds as pieces, and colourings of which a piece is turned over.
use Rattle.std.proofs.Common.{arith, ◌≡◌, ◌+◌, ◌<◌, ◌≤◌, ◌==◌, ℕ, zero, suc, Bool, true, false, List, [], ◌∷◌, ◌++◌, length, refl, sym, ap, subst, ◌∙◌, All, Contains, get_or, take, inl, inr}
use Rattle.std.proofs.lemmas.Bool.{cases_Bool, cond-true, cond-false, eq-eqb, eqb-true, both_ways}
use Rattle.std.proofs.lemmas.List.Elements.{All-nil, All-cons, All-head, All-tail, Contains-append_right}
use Rattle.std.proofs.lemmas.List.{take_more}
use Rattle.dpl_classes.proofs.ChainLemmas.{link_pair}
use Rattle.dpl_classes.proofs.NumberLemmas.{labels_below}
use Rattle.dpl_sign.specs.declared.edges.Edge.{Edge}
use Rattle.dpl_sign.specs.declared.graphs.Signed.{Signed}
use Rattle.dpl_sign.specs.Kinds.{is_bond}
use Rattle.dpl_sign.specs.Colourings.{IsColouring, colour_of, cost_of}
use Rattle.dpl_refine.specs.Pieces.{bonds_of, ArePieces}
use Rattle.dpl_refine.specs.Refined.{IsTurnedAt, IsSettled, IsCheaperOrSame}
use Rattle.dpl_refine.specs.Gains.{piece_at, won_of, lost_of, turn}
use Rattle.dpl_refine.proofs.TurnLemmas.{TurnsEnds, turned_cost}

abbrev pub ends_of : Edge → ℕ × ℕ
ends_of e = (e.a, e.b)

pub bonds_in : (e : Edge) (edges : List Edge) → is_bond e.kind ≡ true → bonds_of (e ∷ edges) ≡ ends_of e ∷ bonds_of edges
bonds_in e edges t = cond-true (is_bond e.kind) (ends_of e ∷ bonds_of edges) (bonds_of edges) t

pub bonds_out : (e : Edge) (edges : List Edge) → is_bond e.kind ≡ false → bonds_of (e ∷ edges) ≡ bonds_of edges
bonds_out e edges t = cond-false (is_bond e.kind) (ends_of e ∷ bonds_of edges) (bonds_of edges) t

-- one edge more
pub push_in : (edges : List Edge) (e : Edge) → is_bond e.kind ≡ true → bonds_of (edges ++ e ∷ []) ≡ bonds_of edges ++ ends_of e ∷ []
push_in [] e t = bonds_in e [] t
push_in (d ∷ edges) e t = elim (cases_Bool (is_bond d.kind)) [
  | inl b ↦ bonds_in d (edges ++ e ∷ []) b ∙ ap (λ z. ends_of d ∷ z) (push_in edges e t) ∙ sym (ap (λ z. z ++ ends_of e ∷ []) (bonds_in d edges b))
  | inr b ↦ bonds_out d (edges ++ e ∷ []) b ∙ push_in edges e t ∙ sym (ap (λ z. z ++ ends_of e ∷ []) (bonds_out d edges b))
]

pub push_out : (edges : List Edge) (e : Edge) → is_bond e.kind ≡ false → bonds_of (edges ++ e ∷ []) ≡ bonds_of edges
push_out [] e t = bonds_out e [] t
push_out (d ∷ edges) e t = elim (cases_Bool (is_bond d.kind)) [
  | inl b ↦ bonds_in d (edges ++ e ∷ []) b ∙ ap (λ z. ends_of d ∷ z) (push_out edges e t) ∙ sym (bonds_in d edges b)
  | inr b ↦ bonds_out d (edges ++ e ∷ []) b ∙ push_out edges e t ∙ sym (bonds_out d edges b)
]

-- the edges up to the next one
pub grown : (edges : List Edge) (i : ℕ) (e : Edge) → i < length edges → e ≡ get_or edges i e → take i edges ++ e ∷ [] ≡ take (i + 1) edges
grown edges i e l is = ap (λ z. take i edges ++ z ∷ []) is ∙ sym (take_more edges i e l)

abbrev pub AreBelow : ℕ → ℕ × ℕ → Type 0
AreBelow n p = (p.0 < n) × (p.1 < n)

pub bonds_within : (n : ℕ) (edges : List Edge) → All (λ (e : Edge). e.b < n) edges → All (AreBelow n) (bonds_of edges)
bonds_within n [] h = All-nil (AreBelow n)
bonds_within n (e ∷ edges) h =
    let rest = bonds_within n edges (All-tail (λ (e : Edge). e.b < n) e edges h) in
    let b : e.b < n = All-head (λ (e : Edge). e.b < n) e edges h in
    let o = e.ordered in
    elim (cases_Bool (is_bond e.kind)) [
      | inl t ↦ subst (All (AreBelow n)) (sym (bonds_in e edges t)) (All-cons (AreBelow n) (ends_of e) (bonds_of edges) (omega arith, b) rest)
      | inr t ↦ subst (All (AreBelow n)) (sym (bonds_out e edges t)) rest
    ]

-- each bond is among them
pub bond_there : (edges : List Edge) (k : ℕ) (d : Edge) → k < length edges → is_bond (get_or edges k d).kind ≡ true
    → Contains (bonds_of edges) (ends_of (get_or edges k d))
bond_there [] k d l t = absurd (omega arith)
bond_there (e ∷ edges) zero d l t =
    subst (λ z. Contains z (ends_of e)) (sym (bonds_in e edges t)) (0, omega arith, refl)
bond_there (e ∷ edges) (suc k) d l t =
    let x = ends_of (get_or edges k d) in
    let there = bond_there edges k d (omega arith) t in
    elim (cases_Bool (is_bond e.kind)) [
      | inl b ↦ subst (λ z. Contains z x) (sym (bonds_in e edges b)) (Contains-append_right (ends_of e ∷ []) (bonds_of edges) x there)
      | inr b ↦ subst (λ z. Contains z x) (sym (bonds_out e edges b)) there
    ]

-- ---- pieces

module _ (g : Signed) (piece : List ℕ) (count' : ℕ) (a : ArePieces g piece count') where
  first_below : (k : ℕ) (d : Edge) → k < length g.edges → (get_or g.edges k d).a < g.nodes
  first_below k d l = let b = g.inside k d l in let o = (get_or g.edges k d).ordered in omega arith

  -- a bond lies in one piece
  pub bond_piece : (k : ℕ) (d : Edge) → k < length g.edges → is_bond (get_or g.edges k d).kind ≡ true
      → piece_at piece (get_or g.edges k d).a ≡ piece_at piece (get_or g.edges k d).b
  bond_piece k d l t =
      let e = get_or g.edges k d in
      (a.same e.a e.b (first_below k d l) (g.inside k d l)).1 (link_pair (bonds_of g.edges) e.a e.b (bond_there g.edges k d l t))

  -- a node's piece is turned over
  pub turned_node : (u v : ℕ) (old new : List Bool) → u < g.nodes → v < g.nodes → IsTurnedAt g u old new
      → colour_of new v ≡ turn (piece_at piece v == piece_at piece u) (colour_of old v)
  turned_node u v old new l m t = elim (cases_Bool (piece_at piece v == piece_at piece u)) [
    | inl y ↦ t.inside v m ((a.same u v l m).0 (sym (eqb-true _ _ y))) ∙ sym (ap (λ s. turn s (colour_of old v)) y)
    | inr f ↦ t.others v m (λ joined. both_ways _ f (eq-eqb _ _ (sym ((a.same u v l m).1 joined)))) ∙ sym (ap (λ s. turn s (colour_of old v)) f)
  ]

  pub turned_ends : (u : ℕ) (old new : List Bool) → u < g.nodes → IsTurnedAt g u old new → All (TurnsEnds piece (piece_at piece u) old new) g.edges
  turned_ends u old new l t k d m = let e = get_or g.edges k d in record {
    first = turned_node u e.a old new l (first_below k d m) t;
    second = turned_node u e.b old new l (g.inside k d m) t;
    bond = bond_piece k d m;
  }

  -- where no piece wins more than it loses, no turn is cheaper
  pub settled_by : (colours : List Bool) → ((p : ℕ) → p < count' → won_of g.edges piece colours p ≤ lost_of g.edges piece colours p)
      → IsSettled g colours
  settled_by colours h u others l t =
      let p = piece_at piece u in
      let n = a.long in
      let below : p < count' = labels_below (bonds_of g.edges) g.nodes piece count' a u 0 (omega arith) in
      let law = turned_cost piece p colours others g.edges (turned_ends u colours others l t) in
      omega (arith, h p below, law)

  -- all nodes of one piece turned over
  abbrev pub AreTurned : ℕ → List Bool → List Bool → Type 0
  AreTurned p old new = (v : ℕ) → v < length old → get_or new v false ≡ turn (get_or piece v 0 == p) (get_or old v false)

  pub piece_ends : (p : ℕ) (old new : List Bool) → length old ≡ g.nodes → AreTurned p old new → All (TurnsEnds piece p old new) g.edges
  piece_ends p old new n t k d m =
      let e = get_or g.edges k d in
      let f = first_below k d m in
      let b = g.inside k d m in record {
        first = t e.a (omega arith);
        second = t e.b (omega arith);
        bond = bond_piece k d m;
      }

  -- the colours of whole pieces turned over, as the test says
  pub colouring_turned : (test : ℕ → Bool) (old new : List Bool) → IsColouring g old → length new ≡ length old
      → ((v : ℕ) → v < length old → get_or new v false ≡ turn (test (get_or piece v 0)) (get_or old v false)) → IsColouring g new
  colouring_turned test old new c n t = record {
    length = n ∙ c.length;
    bonds = λ k d l b.
        let e = get_or g.edges k d in
        let f = first_below k d l in
        let s = g.inside k d l in
        let m = c.length in
        t e.a (omega arith) ∙ ap (turn (test (get_or piece e.a 0))) (c.bonds k d l b)
        ∙ ap (λ p. turn (test p) (colour_of old e.b)) (bond_piece k d l b) ∙ sym (t e.b (omega arith));
  }

  -- a piece that wins more than it loses lowers the cost
  pub turned_less : (p : ℕ) (old new : List Bool) → IsColouring g old → AreTurned p old new
      → lost_of g.edges piece old p < won_of g.edges piece old p → cost_of g new < cost_of g old
  turned_less p old new c t w =
      let law = turned_cost piece p old new g.edges (piece_ends p old new c.length t) in omega (arith, law, w)

-- ---- what is cheaper than what is cheaper

pub cheaper_on : (g : Signed) (a b c : List Bool) → IsCheaperOrSame g a b → cost_of g c < cost_of g b → IsCheaperOrSame g a c
cheaper_on g a b c (inl l) m = inl (omega (arith, l, m))
cheaper_on g a b c (inr e) m = inl (let s = ap (cost_of g) e in omega (arith, s, m))

pub both_cheaper : (g : Signed) (a b c : List Bool) → IsCheaperOrSame g a b → IsCheaperOrSame g b c → IsCheaperOrSame g a c
both_cheaper g a b c h (inl m) = cheaper_on g a b c h m
both_cheaper g a b c h (inr e) = subst (IsCheaperOrSame g a) (sym e) h
