-- A call is looped exactly where both its definitions are in one group.
use Rattle.std.proofs.Common.{◌≡◌, ◌⊎◌, inl, inr, ℕ, ◌≤◌, ◌<◌, Bool, true, false, ◌==◌, List, length, Option, None}
use Rattle.std.proofs.Common.{Some, MatchOption, refl, sym, ◌∙◌, ap, subst, arith, get_or}
use Rattle.std.proofs.lemmas.List.{length-map}
use Rattle.indexmap.specs.IndexMap.{keys}
use Rattle.dpl_groups.specs.Graph.{IsEdge, Leads}
use Rattle.dpl_groups.specs.Graph.Leads.{once as edge, more as edge_and}
use Rattle.dpl_groups.specs.Groups.{AreGroups}
use Rattle.dpl_calls.specs.declared.table.CallSite.{CallSite}
use Rattle.dpl_calls.specs.declared.table.Table.{Table}
use Rattle.dpl_calls.specs.Loops.{calls, is_looped, LeadsBack, Path}
use Rattle.dpl_calls.specs.Table.{bodies_of}
use Rattle.dpl_calls.specs.Places.{place_among, graph_of}
use Rattle.dpl_calls.specs.Found.{IsSite}
use Rattle.dpl_calls.proofs.Cases.{of_eq, to_eq}
use Rattle.dpl_calls.proofs.LoopPaths.{placed_key, looped_back, back_looped}
use Rattle.dpl_calls.proofs.Edges.{body_absent, graph_size, call_edge, leads_path, path_leads, HasPlace, caller_place, path_place}
use Rattle.std.specs.Cmp.{both_ways}

module _ (t : Table) (labels heads : List ℕ) (G : AreGroups (graph_of t) labels heads) where
  abbrev numbers : List ℕ
  numbers = keys t.definitions

  within : (n x : ℕ) → place_among n numbers ≡ Some x → x < length (graph_of t)
  within n x h =
      let at = placed_key n x numbers h in
      let s : length (graph_of t) ≡ length t.definitions.entries = graph_size t in
      let q : length numbers ≡ length t.definitions.entries = length-map t.definitions.entries (λ e. e.0) in
      omega (arith, at.0)

  edge_low : (x y : ℕ) → IsEdge (graph_of t) x y → x < length (graph_of t) → get_or labels y 0 ≤ get_or labels x 0
  edge_low x y e h = G.downward x y h e

module _ (t : Table) (labels heads : List ℕ) (G : AreGroups (graph_of t) labels heads)
    (inside : (x y : ℕ) → IsEdge (graph_of t) x y → y < length (graph_of t)) where
  pub leads_low : (x y : ℕ) → x < length (graph_of t) → Leads (graph_of t) x y → get_or labels y 0 ≤ get_or labels x 0
  leads_low _ _ h (edge x y e) = G.downward x y h e
  leads_low _ _ h (edge_and x y z e p) =
      let first : get_or labels y 0 ≤ get_or labels x 0 = G.downward x y h e in
      let rest : get_or labels z 0 ≤ get_or labels y 0 = leads_low y z (inside x y e) p in omega arith

  module _ (s : CallSite) (d x y : ℕ) (ed : s.definition ≡ Some d) (hx : place_among d (keys t.definitions) ≡ Some x)
      (hy : place_among s.called (keys t.definitions) ≡ Some y) (site : calls (bodies_of t) d s.called ≡ true) where
    forth : get_or labels x 0 ≡ get_or labels y 0 → LeadsBack (bodies_of t) s
    forth e = subst (λ (o : Option ℕ). MatchOption o ⊥ (λ d. (s.called ≡ d) ⊎ Path (bodies_of t) s.called d)) (sym ed)
        (elim (G.joined y x (within t labels heads G s.called y hy) (within t labels heads G d x hx) (sym e)) [
          | inl q ↦ inl (sym (placed_key s.called y (keys t.definitions) hy).1 ∙
              (ap (λ (n : ℕ). get_or (keys t.definitions) n 0) q ∙ (placed_key d x (keys t.definitions) hx).1))
          | inr l ↦ inr (leads_path t s.called d y x hy hx l)
        ])

    back : LeadsBack (bodies_of t) s → get_or labels x 0 ≡ get_or labels y 0
    back h =
        let here : (s.called ≡ d) ⊎ Path (bodies_of t) s.called d =
        subst (λ (o : Option ℕ). MatchOption o ⊥ (λ d. (s.called ≡ d) ⊎ Path (bodies_of t) s.called d)) ed h in
        elim here [
          | inl q ↦ let same : Some y ≡ Some x = (sym hy ∙ ap (λ (n : ℕ). place_among n (keys t.definitions)) q) ∙ hx in
              let e : y ≡ x = cc in ap (λ (n : ℕ). get_or labels n 0) (sym e)
          | inr p ↦
              let low : get_or labels x 0 ≤ get_or labels y 0 = leads_low y x (within t labels heads G s.called y hy) (path_leads t s.called d y x hy hx p) in
              let down : get_or labels y 0 ≤ get_or labels x 0 =
              G.downward x y (within t labels heads G d x hx) (call_edge t d s.called x y hx hy site) in omega arith
        ]

    pub same_group : (get_or labels x 0 == get_or labels y 0) ≡ is_looped (length (keys t.definitions)) (bodies_of t) s
    same_group = both_ways (get_or labels x 0 == get_or labels y 0) (is_looped (length (keys t.definitions)) (bodies_of t) s)
        (λ e. back_looped (bodies_of t) (keys t.definitions) (body_absent t) s (forth (of_eq (get_or labels x 0) (get_or labels y 0) e)))
        (λ e. to_eq (get_or labels x 0) (get_or labels y 0) (back (looped_back (bodies_of t) (keys t.definitions) (body_absent t) s e)))

pub not_true : (b : Bool) → (b ≡ true → ⊥) → false ≡ b
not_true true h = absurd (h refl)
not_true false h = refl

-- outside definitions no call is looped
pub outside : (t : Table) (s : CallSite) → s.definition ≡ None → false ≡ is_looped (length (keys t.definitions)) (bodies_of t) s
outside t s e = not_true (is_looped (length (keys t.definitions)) (bodies_of t) s) (λ h.
    subst (λ (o : Option ℕ). MatchOption o ⊥ (λ d. (s.called ≡ d) ⊎ Path (bodies_of t) s.called d)) e
    (looped_back (bodies_of t) (keys t.definitions) (body_absent t) s h))

pub nowhere : (t : Table) (s : CallSite) (d : ℕ) → s.definition ≡ Some d → IsSite (bodies_of t) s → place_among d (keys t.definitions) ≡ None → ⊥
nowhere t s d e site h =
    let p : HasPlace t d = caller_place t d s.called (site d e) in
    let bad : None ≡ Some p.place = sym h ∙ p.there in cc

-- a call of what is not there leads nowhere
pub called_nowhere : (t : Table) (s : CallSite) (d x : ℕ) → s.definition ≡ Some d
    → place_among d (keys t.definitions) ≡ Some x → place_among s.called (keys t.definitions) ≡ None
    → false ≡ is_looped (length (keys t.definitions)) (bodies_of t) s
called_nowhere t s d x e hx hn = not_true (is_looped (length (keys t.definitions)) (bodies_of t) s) (λ h.
    let here : (s.called ≡ d) ⊎ Path (bodies_of t) s.called d =
    subst (λ (o : Option ℕ). MatchOption o ⊥ (λ d. (s.called ≡ d) ⊎ Path (bodies_of t) s.called d)) e
    (looped_back (bodies_of t) (keys t.definitions) (body_absent t) s h) in
    elim here [
      | inl q ↦ let bad : None ≡ Some x = (sym hn ∙ ap (λ (n : ℕ). place_among n (keys t.definitions)) q) ∙ hx in cc
      | inr p ↦ let at : HasPlace t s.called = path_place t s.called d p in let bad : None ≡ Some at.place = sym hn ∙ at.there in cc
    ])
