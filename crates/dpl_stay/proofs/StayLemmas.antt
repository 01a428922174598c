-- The components that are taken are a part of both nets, and each component that is the same is taken.
use Rattle.std.proofs.Common.{arith, ◌≡◌, ◌⊎◌, ℕ, zero, suc, ◌<◌, inl, inr, Bool, true, false, List}
use Rattle.std.proofs.Common.{length, map, refl, sym, ap, subst, ◌∙◌, slice_index_or, [], ◌∷◌}
use Rattle.std.specs.Prelude.{Option, Some, None, is_none, is_some}
use Rattle.std.proofs.lemmas.Bool.{cases_lt, both_ways, eq-eqb, eqb-true}
use Rattle.std.proofs.lemmas.Option.{same_Some}
use Rattle.dpl_cell.specs.declared.rect.Rect.{Rect}
use Rattle.dpl_sign.specs.declared.nets.Net.{Net}
use Rattle.dpl_sign.specs.Walks.{no_edge, edge_at}
use Rattle.dpl_sign.proofs.ComponentLemmas.{start_below, end_below}
use Rattle.dpl_parts.specs.Components.{are_one_component}
use Rattle.dpl_parts.specs.Parts.{IsPartOf}
use Rattle.dpl_parts.proofs.JoinedLemmas.{edge_joins}
use Rattle.dpl_stay.specs.Same.{corners_at, ports_at, IsNodeOf, IsEdgeOf, AreSame}
use Rattle.dpl_stay.specs.Order.{rank_of, key_of, key_before, AreRectsInOrder, AreEdgesInOrder}
use Rattle.dpl_stay.specs.Pairs.{at, IsNodeAt, ArePartners, IsAlikeBy, IsTwinBy, AreTwinsBy}
use Rattle.dpl_stay.specs.Marks.{has_partner, without_ends, without_partners}
use Rattle.dpl_stay.specs.Staying.{number_or_zero}
use Rattle.dpl_stay.proofs.OrderLemmas.{one_node, same_order, KeyBefore, key_from, key_to, key_down, key_self}
use Rattle.dpl_stay.proofs.PairLemmas.{one_edge}
use Rattle.dpl_stay.proofs.MarkLemmas.{ends_keep, ends_stay, partners_keep, partners_stay}

-- two nets, f and n the new one, g and m the old one
pub record AreNets (f g : List Rect) (n m : Net) : Type 0 where
  pub new_order : AreRectsInOrder f
  pub old_order : AreRectsInOrder g
  pub new_edges : AreEdgesInOrder n.graph.edges
  pub old_edges : AreEdgesInOrder m.graph.edges
  pub new_nodes : n.graph.nodes ≡ length f
  pub old_nodes : m.graph.nodes ≡ length g

-- what stands for the nodes and edges of each in the other
pub record AreMatched (f g : List Rect) (n m : Net) (ps qs ts us : List (Option ℕ)) : Type 0 where
  pub nets : AreNets f g n m
  pub partners : ArePartners f g ps
  pub back : ArePartners g f qs
  pub twins : AreTwinsBy ps n m ts
  pub twins_back : AreTwinsBy qs m n us

-- a node has a partner, each edge at it has a twin, and so has each edge at the partner
pub record IsFine (f g : List Rect) (n m : Net) (ps qs ts us : List (Option ℕ)) (v : ℕ) : Type 0 where
  pub partner : ℕ
  pub is : at ps v ≡ Some partner
  pub edges : (e : ℕ) → e < length n.graph.edges → ((edge_at n.graph e).a ≡ v) ⊎ ((edge_at n.graph e).b ≡ v) → (d : ℕ) × (at ts e ≡ Some d)
  pub edges_back : (d : ℕ) → d < length m.graph.edges → (at qs (edge_at m.graph d).a ≡ Some v) ⊎
      (at qs (edge_at m.graph d).b ≡ Some v) → (e : ℕ) × (at us d ≡ Some e)

-- the nodes that are left
abbrev pub fine_of : Net → Net → List (Option ℕ) → List (Option ℕ) → List (Option ℕ) → List (Option ℕ) → List Bool
fine_of n m ps qs ts us = without_partners m.graph.edges us qs
    (without_ends n.graph.edges ts (map has_partner ps) (length n.graph.edges)) (length m.graph.edges)

some_or_none : (o : Option ℕ) → ((v : ℕ) × (o ≡ Some v)) ⊎ (is_none o ≡ true)
some_or_none None = inr refl
some_or_none (Some v) = inl (v, refl)

none_some : (o : Option ℕ) (v : ℕ) → is_none o ≡ true → o ≡ Some v → ⊥
none_some None v e s = absurd (cc)
none_some (Some w) v e s = absurd (cc)

partner_at : (ps : List (Option ℕ)) (v : ℕ) → slice_index_or (map has_partner ps) v false ≡ true → (w : ℕ) × (at ps v ≡ Some w)
partner_at [] v t = absurd (cc)
partner_at (None ∷ ps) zero t = absurd (cc)
partner_at (Some v ∷ ps) zero t = (v, refl)
partner_at (p ∷ ps) (suc v) t = partner_at ps v t

partner_there : (ps : List (Option ℕ)) (v w : ℕ) → at ps v ≡ Some w → slice_index_or (map has_partner ps) v false ≡ true
partner_there [] v w e = absurd (cc)
partner_there (p ∷ ps) zero w e = ap is_some e
partner_there (p ∷ ps) (suc v) w e = partner_there ps v w e

module _ (f g : List Rect) (n m : Net) (ps qs ts us : List (Option ℕ)) where
  -- what is left is fine
  pub left_fine : (v : ℕ) → slice_index_or (fine_of n m ps qs ts us) v false ≡ true → IsFine f g n m ps qs ts us v
  left_fine v t =
      let (u, old) = partners_keep m.graph.edges us qs (without_ends n.graph.edges ts (map has_partner ps) (length n.graph.edges)) (length m.graph.edges) v t in
      let (w, own) = ends_keep n.graph.edges ts (map has_partner ps) (length n.graph.edges) v u in
      let p = partner_at ps v w in record {
        partner = p.0;
        is = p.1;
        edges = λ e l near. elim (some_or_none (at ts e)) [
          | inl s ↦ s
          | inr none ↦ let (a, b) = own e l none in absurd (elim near [ inl x ↦ a x | inr x ↦ b x ])
        ];
        edges_back = λ d l near. elim (some_or_none (at us d)) [
          | inl s ↦ s
          | inr none ↦ let (a, b) = old d l none in absurd (elim near [ inl x ↦ a x | inr x ↦ b x ])
        ];
      }

  pub fine_left : (v : ℕ) → IsFine f g n m ps qs ts us v → slice_index_or (fine_of n m ps qs ts us) v false ≡ true
  fine_left v k = partners_stay m.graph.edges us qs _ (length m.graph.edges) v
      (ends_stay n.graph.edges ts (map has_partner ps) (length n.graph.edges) v (partner_there ps v k.partner k.is)
      (λ e l none. (
        λ x. let s = k.edges e l (inl x) in none_some (at ts e) s.0 none s.1,
        λ x. let s =
            k.edges e l (inr x) in none_some (at ts e) s.0 none s.1,
      )))
      (λ d l none. (
        λ x. let s = k.edges_back d l (inl x) in none_some (at us d) s.0 none s.1,
        λ x. let s =
            k.edges_back d l (inr x) in none_some (at us d) s.0 none s.1,
      ))

-- ---- what partners and twins are

module _ (f g : List Rect) (ps : List (Option ℕ)) (h : ArePartners f g ps) where
  -- a partner has the same rectangle
  pub partner_is : (v w : ℕ) → v < length f → at ps v ≡ Some w → (w < length g) × (corners_at g w ≡ corners_at f v)
  partner_is v w l e = subst (IsNodeAt g (corners_at f v)) e (h.each v l)

  -- a node with the same rectangle is the partner
  pub partner_found : AreRectsInOrder g → (v w : ℕ) → v < length f → w < length g → corners_at g w ≡ corners_at f v → at ps v ≡ Some w
  partner_found up v w l k e = elim (cases (at ps v)) [
    | inl (x, is) ↦
        let (low, same) = partner_is v x l is in
        is ∙ ap Some (one_node g up x w low k (same ∙ sym e))
    | inr is ↦ absurd (subst (IsNodeAt g (corners_at f v)) is (h.each v l) w k e)
  ] where
    cases : (o : Option ℕ) → ((x : ℕ) × (o ≡ Some x)) ⊎ (o ≡ None)
    cases None = inr refl
    cases (Some x) = inl (x, refl)

module _ (n m : Net) (ps ts : List (Option ℕ)) (h : AreTwinsBy ps n m ts) where
  pub twin_is : (e d : ℕ) → e < length n.graph.edges → at ts e ≡ Some d → (d < length m.graph.edges) × IsAlikeBy ps m (edge_at n.graph e) (ports_at n e) d
  twin_is e d l is = subst (IsTwinBy ps m (edge_at n.graph e) (ports_at n e)) is (h.each e l)

  -- an edge has a twin where another is alike
  pub twin_found : (e d : ℕ) → e < length n.graph.edges → d < length m.graph.edges →
      IsAlikeBy ps m (edge_at n.graph e) (ports_at n e) d → (x : ℕ) × (at ts e ≡ Some x)
  twin_found e d l k a = elim (cases (at ts e)) [
    | inl s ↦ s
    | inr is ↦ absurd (subst (IsTwinBy ps m (edge_at n.graph e) (ports_at n e)) is (h.each e l) d k a)
  ] where
    cases : (o : Option ℕ) → ((x : ℕ) × (o ≡ Some x)) ⊎ (o ≡ None)
    cases None = inr refl
    cases (Some x) = inl (x, refl)

module _ (f g : List Rect) (n m : Net) (ps qs ts us : List (Option ℕ)) (h : AreMatched f g n m ps qs ts us) where
  -- the partner of a node's partner is the node
  pub partner_back : (v w : ℕ) → v < length f → at ps v ≡ Some w → at qs w ≡ Some v
  partner_back v w l e =
      let (low, same) = partner_is f g ps h.partners v w l e in
      partner_found g f qs h.back h.nets.new_order w v low l (sym same)

  one_partner : (v v' w : ℕ) → v < length f → v' < length f → at ps v ≡ Some w → at ps v' ≡ Some w → v ≡ v'
  one_partner v v' w l l' e e' = same_Some _ _ (sym (partner_back v w l e) ∙ partner_back v' w l' e')

  -- partners stand in the same order
  partners_rise : (v v' w w' : ℕ) → v < length f → v' < length f → at ps v ≡ Some w → at ps v' ≡ Some w' → v < v' → w < w'
  partners_rise v v' w w' l l' e e' low =
      let (a, s) = partner_is f g ps h.partners v w l e in
      let (b, t) = partner_is f g ps h.partners v' w' l' e' in
      same_order f g h.nets.new_order h.nets.old_order v v' w w' l l' a b s t low

  partners_fall : (v v' w w' : ℕ) → v < length f → v' < length f → at ps v ≡ Some w → at ps v' ≡ Some w' → w < w' → v < v'
  partners_fall v v' w w' l l' e e' low = elim (cases_lt v v') [
    | inl less ↦ less
    | inr a ↦ elim (cases_lt v' v) [
      | inl more ↦ let r = partners_rise v' v w' w l' l e' e more in absurd (omega (arith, r, low))
      | inr b ↦
          let same : v ≡ v' = omega (arith, a, b) in
          let s : w ≡ w' = same_Some _ _ (sym e ∙ ap (at ps) same ∙ e') in
          absurd (omega (arith, s, low))
    ]
  ]

  start_in : (e : ℕ) → e < length n.graph.edges → (edge_at n.graph e).a < length f
  start_in e l = let b = start_below n.graph e l in let k = h.nets.new_nodes in omega (arith, b, k)

  end_in : (e : ℕ) → e < length n.graph.edges → (edge_at n.graph e).b < length f
  end_in e l = let b = end_below n.graph e l in let k = h.nets.new_nodes in omega (arith, b, k)

  -- twins stand in the same order
  pub twins_rise : (e e' d d' : ℕ) → e < length n.graph.edges → e' < length n.graph.edges → at ts e ≡ Some d → at ts e' ≡ Some d' → e < e' → d < d'
  twins_rise e e' d d' l l' is is' low =
      let (b, a) = twin_is n m ps ts h.twins e d l is in
      let (b', a') = twin_is n m ps ts h.twins e' d' l' is' in
      let up : key_before (key_of (edge_at n.graph e)) (key_of (edge_at n.graph e')) ≡ true = h.nets.new_edges e e' no_edge low l' in
      elim (cases_lt d d') [
        | inl less ↦ less
        | inr x ↦ elim (cases_lt d' d) [
          | inl more ↦
              let old : KeyBefore (key_of (edge_at m.graph d')) (key_of (edge_at m.graph d)) =
              key_from (key_of (edge_at m.graph d')) (key_of (edge_at m.graph d))
              (h.nets.old_edges d' d no_edge more b) in
              absurd (both_ways _ (key_self (key_of (edge_at n.graph e)))
              (key_down (key_of (edge_at n.graph e)) (key_of (edge_at n.graph e')) (key_of (edge_at n.graph e)) up
              (key_to (key_of (edge_at n.graph e')) (key_of (edge_at n.graph e)) (down a a' old))))
          | inr y ↦
              let same : d ≡ d' = omega (arith, x, y) in
              let first : (edge_at n.graph e).a ≡ (edge_at n.graph e').a =
              one_partner _ _ (edge_at m.graph d).a (start_in e l) (start_in e' l') a.first
              (a'.first ∙ ap (λ z. Some (edge_at m.graph z).a) (sym same)) in
              let second : (edge_at n.graph e).b ≡ (edge_at n.graph e').b =
              one_partner _ _ (edge_at m.graph d).b (end_in e l) (end_in e' l') a.second
              (a'.second ∙ ap (λ z. Some (edge_at m.graph z).b) (sym same)) in
              let rank : rank_of (edge_at n.graph e).kind ≡ rank_of (edge_at n.graph e').kind =
              ap rank_of (sym a.kind ∙ ap (λ z. (edge_at m.graph z).kind) same ∙ a'.kind) in
              let one : key_of (edge_at n.graph e) ≡ key_of (edge_at n.graph e') = rw (first, second, rank) refl in
              let z = one_edge n.graph.edges h.nets.new_edges e e' l l' one in
              absurd (omega (arith, z, low))
        ]
      ] where
        down : IsAlikeBy ps m (edge_at n.graph e) (ports_at n e) d → IsAlikeBy ps m (edge_at n.graph e') (ports_at n e') d'
            → KeyBefore (key_of (edge_at m.graph d')) (key_of (edge_at m.graph d)) → KeyBefore (key_of (edge_at n.graph e')) (key_of (edge_at n.graph e))
        down a a' old =
            let r = ap rank_of a.kind in
            let r' = ap rank_of a'.kind in
            elim old [
              | inl rank ↦ inl (omega (arith, rank, r, r'))
              | inr (rank, rest) ↦ inr (
                omega (arith, rank, r, r'),
                elim rest [
                  | inl first ↦ inl (partners_fall _ _ _ _ (start_in e' l') (start_in e l) a'.first a.first first)
                  | inr (first, second) ↦ inr (
                    one_partner _ _ (edge_at m.graph d).a (start_in e' l') (start_in e l) (a'.first ∙ ap Some first) a.first,
                    partners_fall _ _ _ _ (end_in e' l') (end_in e l) a'.second a.second second,
                  )
                ],
              )
            ]

-- ---- the taken components are a part of the old net too

module _ (f g : List Rect) (n m : Net) (ps qs ts us : List (Option ℕ)) (h : AreMatched f g n m ps qs ts us) where
  -- the partner of a partner, the other way
  partner_forth : (w v : ℕ) → w < length g → at qs w ≡ Some v → at ps v ≡ Some w
  partner_forth w v l e =
      let (low, same) = partner_is g f qs h.back w v l e in
      partner_found f g ps h.partners h.nets.old_order v w low l (sym same)

  -- the twin of what is alike the other way
  twin_forth : (d e x : ℕ) → d < length m.graph.edges → e < length n.graph.edges → at us d ≡ Some e → at ts e ≡ Some x → x ≡ d
  twin_forth d e x ld le ud te =
      let back = (twin_is m n qs us h.twins_back d e ld ud).1 in
      let (lx, own) = twin_is n m ps ts h.twins e x le te in
      let a_in : (edge_at m.graph d).a < length g = let b = start_below m.graph d ld in let k = h.nets.old_nodes in omega (arith, b, k) in
      let b_in : (edge_at m.graph d).b < length g = let b = end_below m.graph d ld in let k = h.nets.old_nodes in omega (arith, b, k) in
      let first : (edge_at m.graph x).a ≡ (edge_at m.graph d).a = same_Some _ _ (sym own.first ∙ partner_forth _ _ a_in back.first) in
      let second : (edge_at m.graph x).b ≡ (edge_at m.graph d).b = same_Some _ _ (sym own.second ∙ partner_forth _ _ b_in back.second) in
      let rank : rank_of (edge_at m.graph x).kind ≡ rank_of (edge_at m.graph d).kind = ap rank_of (own.kind ∙ back.kind) in
      let one : key_of (edge_at m.graph x) ≡ key_of (edge_at m.graph d) = rw (first, second, rank) refl in
      one_edge m.graph.edges h.nets.old_edges x d lx ld one

  module _ (part : Net) (node edge : ℕ → ℕ) (p : IsPartOf part n node edge) (fine : (i : ℕ) → i < part.graph.nodes → IsFine f g n m ps qs ts us (node i)) where
    partner_of : ℕ → ℕ
    partner_of i = number_or_zero (at ps (node i))

    twin_of : ℕ → ℕ
    twin_of j = number_or_zero (at ts (edge j))

    node_in : (i : ℕ) → i < part.graph.nodes → node i < length f
    node_in i l = let b = p.nodes i l in let k = h.nets.new_nodes in omega (arith, b, k)

    at_partner : (i : ℕ) → i < part.graph.nodes → at ps (node i) ≡ Some (number_or_zero (at ps (node i)))
    at_partner i l = let e = (fine i l).is in e ∙ ap (λ o. Some (number_or_zero o)) (sym e)

    at_twin : (j : ℕ) → j < length part.graph.edges → at ts (edge j) ≡ Some (number_or_zero (at ts (edge j)))
    at_twin j l = let s = (fine (edge_at part.graph j).a (start_below part.graph j l)).edges (edge j) (p.edges j l)
        (inl (p.first j l)) in s.1 ∙ ap (λ o. Some (number_or_zero o)) (sym s.1)

    alike : (j : ℕ) → j < length part.graph.edges → (number_or_zero (at ts (edge j)) < length m.graph.edges) ×
        IsAlikeBy ps m (edge_at n.graph (edge j)) (ports_at n (edge j)) (number_or_zero (at ts (edge j)))
    alike j l = twin_is n m ps ts h.twins (edge j) (number_or_zero (at ts (edge j))) (p.edges j l) (at_twin j l)

    pub old_part : IsPartOf part m (λ i. number_or_zero (at ps (node i))) (λ j. number_or_zero (at ts (edge j)))
    old_part = record {
      nodes = λ i l. let (b, same) = partner_is f g ps h.partners (node i) _ (node_in i l) (at_partner i l) in let k = h.nets.old_nodes in omega (arith, b, k);
      apart = λ u v l k e. p.apart u v l k (one_partner f g n m ps qs ts us h (node u) (node v)
          (number_or_zero (at ps (node u))) (node_in u l) (node_in v k) (at_partner u l)
          (at_partner v k ∙ ap Some (sym e)));
      edges = λ j l. (alike j l).0;
      order = λ i j low l. let k : i < length part.graph.edges = omega (arith, low, l) in
          twins_rise f g n m ps qs ts us h (edge i) (edge j) _ _ (p.edges i k) (p.edges j l) (at_twin i k) (at_twin j l) (p.order i j low l);
      first = λ j l. same_Some _ _ (sym (alike j l).1.first ∙ ap (at ps) (p.first j l) ∙ at_partner _ (start_below part.graph j l));
      second = λ j l. same_Some _ _ (sym (alike j l).1.second ∙ ap (at ps) (p.second j l) ∙ at_partner _ (end_below part.graph j l));
      kind = λ j l. (alike j l).1.kind ∙ p.kind j l;
      weight = λ j l. (alike j l).1.weight ∙ p.weight j l;
      ports = λ j l. sym (alike j l).1.ports ∙ p.ports j l;
      closed = closed;
    } where
      closed : (d v : ℕ) → d < length m.graph.edges → v < part.graph.nodes
          → ((edge_at m.graph d).a ≡ number_or_zero (at ps (node v))) ⊎ ((edge_at m.graph d).b ≡ number_or_zero (at ps (node v)))
          → (j : ℕ) × (j < length part.graph.edges) × (number_or_zero (at ts (edge j)) ≡ d)
      closed d v l k near =
          let back : at qs (number_or_zero (at ps (node v))) ≡ Some (node v) = partner_back f g n m ps qs ts us h (node v) _ (node_in v k) (at_partner v k) in
          let s = (fine v k).edges_back d l (elim near [ inl e ↦ inl (ap (at qs) e ∙ back) | inr e ↦ inr (ap (at qs) e ∙ back) ]) in
          let (le, a) = twin_is m n qs us h.twins_back d s.0 l s.1 in
          let c = p.closed s.0 v le k (elim near [
            | inl e ↦ inl (same_Some _ _ (sym a.first ∙ ap (at qs) e ∙ back))
            | inr e ↦ inr (same_Some _ _ (sym a.second ∙ ap (at qs) e ∙ back))
          ]) in
          let te : at ts s.0 ≡ Some (number_or_zero (at ts (edge c.0))) = ap (at ts) (sym c.2) ∙ at_twin c.0 c.1 in
          (c.0, c.1, twin_forth d s.0 _ l le s.1 te)

-- ---- each component that is the same is taken

one_chain : (n : Net) (u v w : ℕ) → are_one_component n u v ≡ true → are_one_component n v w ≡ true → are_one_component n u w ≡ true
one_chain n u v w s t = eq-eqb _ _ (eqb-true _ _ t ∙ eqb-true _ _ s)

one_back : (n : Net) (u v : ℕ) → are_one_component n u v ≡ true → are_one_component n v u ≡ true
one_back n u v s = eq-eqb _ _ (sym (eqb-true _ _ s))

module _ (f g : List Rect) (n m : Net) (ps qs ts us : List (Option ℕ)) (h : AreMatched f g n m ps qs ts us) (v w : ℕ) (s : AreSame f g n m v w) where
  of_component : (n : Net) (v x e : ℕ) → e < length n.graph.edges → are_one_component n v x ≡ true →
      ((edge_at n.graph e).a ≡ x) ⊎ ((edge_at n.graph e).b ≡ x) → IsEdgeOf n v e
  of_component n v x e l c (inl is) = (l, subst (λ z. are_one_component n v z ≡ true) (sym is) c)
  of_component n v x e l c (inr is) = (
    l,
    one_chain n v (edge_at n.graph e).b (edge_at n.graph e).a
        (subst (λ z. are_one_component n v z ≡ true) (sym is) c)
        (one_back n (edge_at n.graph e).a (edge_at n.graph e).b (edge_joins n e l)),
  )

  below_f : (x : ℕ) → x < n.graph.nodes → x < length f
  below_f x l = let k = h.nets.new_nodes in omega (arith, l, k)

  below_g : (y : ℕ) → y < m.graph.nodes → y < length g
  below_g y l = let k = h.nets.old_nodes in omega (arith, l, k)

  pub same_fine : (x : ℕ) → IsNodeOf n v x → IsFine f g n m ps qs ts us x
  same_fine x (lx, cx) =
      let (y, (ly, cy), ey) = s.nodes x (lx, cx) in record {
        partner = y;
        is = partner_found f g ps h.partners h.nets.old_order x y (below_f x lx) (below_g y ly) (sym ey);
        edges = λ e l near.
            let (d, (ld, cd), a) = s.edges e (of_component n v x e l cx near) in
            twin_found n m ps ts h.twins e d l ld (record {
              first = partner_found f g ps h.partners h.nets.old_order _ _ (below_f _ (start_below n.graph e l))
                  (below_g _ (start_below m.graph d ld)) (sym a.first);
              second = partner_found f g ps h.partners h.nets.old_order _ _ (below_f _ (end_below n.graph e l))
                  (below_g _ (end_below m.graph d ld)) (sym a.second);
              kind = sym a.kind;
              weight = sym a.weight;
              ports = a.ports;
            });
        edges_back = λ d l near.
            let at_y : (z : ℕ) → z < m.graph.nodes → at qs z ≡ Some x → z ≡ y = λ z lz e.
            let (b, same) = partner_is g f qs h.back z x (below_g z lz) e in
            one_node g h.nets.old_order z y (below_g z lz) (below_g y ly) (sym same ∙ ey) in
            let (e, (le, ce), a) = s.edges_back d (of_component m w y d l cy (elim near [
              | inl k ↦ inl (at_y _ (start_below m.graph d l) k)
              | inr k ↦ inr (at_y _ (end_below m.graph d l) k)
            ])) in
            twin_found m n qs us h.twins_back d e l le (record {
              first = partner_found g f qs h.back h.nets.new_order _ _ (below_g _ (start_below m.graph d l)) (below_f _ (start_below n.graph e le)) a.first;
              second = partner_found g f qs h.back h.nets.new_order _ _ (below_g _ (end_below m.graph d l)) (below_f _ (end_below n.graph e le)) a.second;
              kind = a.kind;
              weight = a.weight;
              ports = sym a.ports;
            });
      }
