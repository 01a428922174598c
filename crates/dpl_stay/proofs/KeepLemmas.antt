-- Old colours laid over new ones on the components that are taken.
use Rattle.std.proofs.Common.{arith, ◌≡◌, ℕ, zero, suc, ◌<◌, inl, inr, Bool, true, false, List}
use Rattle.std.proofs.Common.{length, map, refl, sym, ap, ◌∙◌, slice_index_or, replicate}
use Rattle.std.specs.Prelude.{Option, Some, None, All, is_none}
use Rattle.std.proofs.lemmas.Bool.{cases_Bool, eq-eqb, eqb-true}
use Rattle.std.proofs.lemmas.List.{length-map, length-set, get_or-replicate}
use Rattle.dpl_cell.specs.declared.rect.Rect.{Rect}
use Rattle.dpl_sign.specs.declared.edges.Edge.{Edge}
use Rattle.dpl_sign.specs.declared.nets.Net.{Net}
use Rattle.dpl_sign.specs.Colourings.{colour_of}
use Rattle.dpl_sign.specs.Walks.{edge_at}
use Rattle.dpl_sign.proofs.ComponentLemmas.{start_below, end_below}
use Rattle.dpl_parts.specs.Components.{AreComponents, are_one_component}
use Rattle.dpl_parts.specs.Parts.{IsPartOf, IsMixed}
use Rattle.dpl_parts.specs.Picks.{is_taken, AreClosed}
use Rattle.dpl_parts.proofs.JoinedLemmas.{one_number, edge_joins}
use Rattle.dpl_stay.specs.Same.{corners_at, AreSame}
use Rattle.dpl_stay.specs.Pairs.{at}
use Rattle.dpl_stay.specs.Marks.{has_partner, edge_in, without_ends, unset, without_partners, without_spoiled}
use Rattle.dpl_stay.specs.Laying.{chosen}
use Rattle.dpl_stay.specs.Staying.{AreStaying, number_or_zero}
use Rattle.dpl_stay.proofs.MarkLemmas.{spoiled_keep, spoiled_stay}
use Rattle.dpl_stay.proofs.StayLemmas.{AreMatched, IsFine, fine_of, left_fine, fine_left, old_part, same_fine, partner_found}

-- ---- lengths

unset_long : (fine : List Bool) (o : Option ℕ) → length (unset fine o) ≡ length fine
unset_long fine None = refl
unset_long fine (Some v) = length-set fine v false

pub ends_long : (edges : List Edge) (twins : List (Option ℕ)) (fine : List Bool) (k : ℕ) → length (without_ends edges twins fine k) ≡ length fine
ends_long edges twins fine zero = refl
ends_long edges twins fine (suc k) = elim (cases_Bool (is_none (at twins k))) [
  | inl t ↦ rw t (length-set _ _ false ∙ length-set _ _ false ∙ ends_long edges twins fine k)
  | inr t ↦ rw t (ends_long edges twins fine k)
]

pub partners_long : (edges : List Edge) (twins partners : List (Option ℕ)) (fine : List Bool) (k : ℕ)
    → length (without_partners edges twins partners fine k) ≡ length fine
partners_long edges twins partners fine zero = refl
partners_long edges twins partners fine (suc k) = elim (cases_Bool (is_none (at twins k))) [
  | inl t ↦
      let one = without_partners edges twins partners fine k in
      let two = unset one (at partners (edge_in edges k).a) in
      rw t (unset_long two (at partners (edge_in edges k).b) ∙ unset_long one (at partners (edge_in edges k).a) ∙ partners_long edges twins partners fine k)
  | inr t ↦ rw t (partners_long edges twins partners fine k)
]

pub fine_long : (n m : Net) (ps qs ts us : List (Option ℕ)) → length (fine_of n m ps qs ts us) ≡ length ps
fine_long n m ps qs ts us = partners_long m.graph.edges us qs _ (length m.graph.edges) ∙
    ends_long n.graph.edges ts (map has_partner ps) (length n.graph.edges) ∙ length-map ps has_partner

-- ---- which nodes are taken

-- the taken nodes are those of components all of whose nodes are fine
pub record AreTaken (f g : List Rect) (n m : Net) (ps qs ts us : List (Option ℕ)) (fine : List Bool) (number : List ℕ)
    (count' : ℕ) (taken : List Bool) : Type 0 where
  pub matched : AreMatched f g n m ps qs ts us
  pub components : AreComponents n number
  pub within : All (λ c. c < count') number
  pub long : length taken ≡ n.graph.nodes
  pub fine_is : fine ≡ fine_of n m ps qs ts us
  pub fine_size : length fine ≡ n.graph.nodes
  pub each : (u : ℕ) → u < length fine → is_taken taken u
      ≡ slice_index_or (without_spoiled fine number (replicate count' true) (length fine)) (slice_index_or number u 0) false

module _ (f g : List Rect) (n m : Net) (ps qs ts us : List (Option ℕ)) (fine : List Bool) (number : List ℕ) (count' : ℕ)
    (taken : List Bool) (h : AreTaken f g n m ps qs ts us fine number count' taken) where
  -- a taken node is fine
  pub taken_fine : (v : ℕ) → v < n.graph.nodes → is_taken taken v ≡ true → IsFine f g n m ps qs ts us v
  taken_fine v l t =
      let k : v < length fine = let e = h.fine_size in omega (arith, l, e) in
      left_fine f g n m ps qs ts us v (ap (λ xs. slice_index_or xs v false) (sym h.fine_is)
      ∙ spoiled_keep fine number (replicate count' true) (length fine) (slice_index_or number v 0) (sym (h.each v k) ∙ t) v k refl)

  -- nodes of one component are taken together
  pub taken_together : (u v : ℕ) → u < n.graph.nodes → v < n.graph.nodes → are_one_component n u v ≡ true → is_taken taken u ≡ is_taken taken v
  taken_together u v l k one =
      let e : slice_index_or number v 0 ≡ slice_index_or number u 0 = eqb-true _ _ (one_number n number h.components u v l k ∙ one) in
      let i : u < length fine = let e = h.fine_size in omega (arith, l, e) in
      let j : v < length fine = let e = h.fine_size in omega (arith, k, e) in
      h.each u i ∙ ap (λ c. slice_index_or (without_spoiled fine number (replicate count' true) (length fine)) c false) (sym e) ∙ sym (h.each v j)

  pub taken_closed : AreClosed taken n.graph.edges
  taken_closed e l = taken_together (edge_at n.graph e).a (edge_at n.graph e).b (start_below n.graph e l) (end_below n.graph e l) (edge_joins n e l)

  -- a component that is the same is taken
  pub same_taken : (v w : ℕ) → v < n.graph.nodes → AreSame f g n m v w → is_taken taken v ≡ true
  same_taken v w l s =
      let c : slice_index_or number v 0 < count' = h.within v 0 (let k = h.components.long in omega (arith, l, k)) in
      let i : v < length fine = let e = h.fine_size in omega (arith, l, e) in
      h.each v i ∙ spoiled_stay fine number (replicate count' true) (length fine) (slice_index_or number v 0)
      (get_or-replicate count' (slice_index_or number v 0) true false c)
      (λ u k e.
      let low : u < n.graph.nodes = let z = h.fine_size in omega (arith, k, z) in
      ap (λ xs. slice_index_or xs u false) h.fine_is
      ∙ fine_left f g n m ps qs ts us u (same_fine f g n m ps qs ts us h.matched v w s u
      (low, sym (one_number n number h.components v u l low) ∙ eq-eqb _ _ e)))

  -- what is taken stays
  pub are_staying : AreStaying f g n m ps taken
  are_staying = record {
    long = h.long;
    partners_long = h.matched.partners.long ∙ sym h.matched.nets.new_nodes;
    closed = taken_closed;
    partner = λ v l t. let k = taken_fine v l t in (k.partner, k.is);
    part = λ part node edge p own. (
      (λ j. number_or_zero (at ts (edge j))),
      old_part f g n m ps qs ts us h.matched part node edge p (λ i l. taken_fine (node i) (p.nodes i l) (own i l)),
    );
    same = λ v w l k s e. (
      same_taken v w l s,
      partner_found f g ps h.matched.partners h.matched.nets.old_order v w
          (let a = h.matched.nets.new_nodes in omega (arith, l, a)) (let b = h.matched.nets.old_nodes in omega (arith, k, b)) (sym e),
    );
  }

-- ---- the colours

module _ (f g : List Rect) (n m : Net) (ps : List (Option ℕ)) (taken before after mixed : List Bool) (h : AreStaying f g n m ps taken)
    (each : (v : ℕ) → v < n.graph.nodes → colour_of mixed v ≡ chosen (is_taken taken v) (at ps v) before (colour_of after v)) where
  pub kept_colour : (v w : ℕ) → v < n.graph.nodes → w < m.graph.nodes → AreSame f g n m v w →
      corners_at f v ≡ corners_at g w → colour_of mixed v ≡ colour_of before w
  kept_colour v w l k s e =
      let (t, p) = h.same v w l k s e in
      each v l ∙ ap (λ t. chosen t (at ps v) before (colour_of after v)) t ∙ ap (λ o. chosen true o before (colour_of after v)) p

  not_taken : (o : Option ℕ) (own : Bool) → chosen false o before own ≡ own
  not_taken None own = refl
  not_taken (Some w) own = refl

  pub are_mixed : (part : Net) (node edge : ℕ → ℕ) → IsPartOf part n node edge → ((i : ℕ) → i < part.graph.nodes → is_taken taken (node i) ≡ true)
      → ((w : ℕ) → is_taken taken w ≡ true → (i : ℕ) × (i < part.graph.nodes) × (node i ≡ w))
      → IsMixed part n node after (λ i. colour_of before (number_or_zero (at ps (node i)))) mixed
  are_mixed part node edge p own all = record {
    inside = λ i l.
        let b = p.nodes i l in
        let k = h.partner (node i) b (own i l) in
        each (node i) b ∙ ap (λ t. chosen t (at ps (node i)) before (colour_of after (node i))) (own i l)
        ∙ ap (λ o. chosen true o before (colour_of after (node i))) k.1
        ∙ ap (λ o. colour_of before (number_or_zero o)) (sym k.1);
    others = λ w l none. elim (cases_Bool (is_taken taken w)) [
      | inl t ↦ let (i, k, e) = all w t in absurd (none i k e)
      | inr t ↦ each w l ∙ ap (λ b. chosen b (at ps w) before (colour_of after w)) t ∙ not_taken (at ps w) (colour_of after w)
    ];
  }
