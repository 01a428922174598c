-- Colours that cost least of all are refined.
use Rattle.std.proofs.Common.{arith, ◌≡◌, ◌∙◌, ◌<◌, ◌≤◌, ℕ, Bool, true, false, not, List, refl, sym, ap, get_or, inr}
use Rattle.dpl_classes.proofs.ChainLemmas.{link_pair, link_on, link_back}
use Rattle.dpl_sign.specs.declared.graphs.Signed.{Signed}
use Rattle.dpl_sign.specs.Colourings.{IsColouring, colour_of, cost_of}
use Rattle.dpl_refine.specs.Pieces.{bonds_of, AreOnePiece}
use Rattle.dpl_refine.specs.Refined.{IsTurnedAt, IsRefined}
use Rattle.dpl_refine.proofs.PieceLemmas.{bond_there}
use Rattle.dpl_refine.proofs.AroundLemmas.{none_around}

-- two colours that cannot differ are one
not_differ : (a b : Bool) → ((a ≡ b → ⊥) → ⊥) → a ≡ b
not_differ true true h = refl
not_differ false false h = refl
not_differ true false h = absurd (h (λ e. cc))
not_differ false true h = absurd (h (λ e. cc))

-- two nodes of one piece that agree still do after the piece of a node is turned over
still_agree : (g : Signed) (u a b : ℕ) (old new : List Bool) → a < g.nodes → b < g.nodes → AreOnePiece g a b
    → IsTurnedAt g u old new → colour_of old a ≡ colour_of old b → colour_of new a ≡ colour_of new b
still_agree g u a b old new l m joined t e = not_differ (colour_of new a) (colour_of new b) (λ differ.
    let apart_a : AreOnePiece g u a → ⊥ = λ j. differ
    (t.inside a l j ∙ ap not e ∙ sym (t.inside b m (link_on (bonds_of g.edges) u a b j joined))) in
    let apart_b : AreOnePiece g u b → ⊥ = λ j.
    apart_a (link_on (bonds_of g.edges) u b a j (link_back (bonds_of g.edges) a b joined)) in
    differ (t.others a l apart_a ∙ e ∙ sym (t.others b m apart_b)))

-- a colouring of which a piece is turned over is one
pub turned_colouring : (g : Signed) (u : ℕ) (old new : List Bool) → IsColouring g old → IsTurnedAt g u old new → IsColouring g new
turned_colouring g u old new c t = record {
  length = t.long ∙ c.length;
  bonds = λ k d l b.
      let e = get_or g.edges k d in
      let m = g.inside k d l in
      let o = e.ordered in
      still_agree g u e.a e.b old new (omega (arith, m, o)) m (link_pair (bonds_of g.edges) e.a e.b (bond_there g.edges k d l b))
      t (c.bonds k d l b);
}

-- no turn makes colours cheaper that cost least of all
pub least_refined : (g : Signed) (colours : List Bool) → IsColouring g colours
    → ((others : List Bool) → IsColouring g others → cost_of g colours ≤ cost_of g others) → IsRefined g colours colours
least_refined g colours c least = record {
  colouring = c;
  cheaper = inr refl;
  around = none_around g colours;
  settled = λ u others l t. least others (turned_colouring g u colours others c t);
}
