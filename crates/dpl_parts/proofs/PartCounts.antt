-- Bare nodes and components of a part are those of the whole.
use Rattle.std.proofs.Common.{arith, ◌≡◌, ℕ, zero, suc, ◌-◌, ◌<◌, ◌==◌, refl, sym, ap, ◌∙◌, Bool, not, inl, inr, length, eq-eqb}
use Rattle.std.specs.Prelude.{if◌then◌else◌}
use Rattle.std.proofs.lemmas.Bool.{cases_eq, cases_Bool, ne_eqb, cond-true, cond-false, both_ways}
use Rattle.dpl_cycle.specs.Names.{AreNames, name_count}
use Rattle.dpl_cycle.proofs.NameLemmas.{count_in, count_out}
use Rattle.dpl_cycle.proofs.NameCounts.{count_alike}
use Rattle.dpl_sign.specs.declared.nets.Net.{Net}
use Rattle.dpl_sign.specs.Walks.{edge_at}
use Rattle.dpl_sign.specs.Drawings.{is_met_below, is_bare}
use Rattle.dpl_sign.specs.Components.{component_of, component_count}
use Rattle.dpl_sign.proofs.BareLemmas.{EndsAt, met_from, met_is}
use Rattle.dpl_sign.proofs.ComponentLemmas.{components_are, component_label, start_below, end_below}
use Rattle.dpl_sign.proofs.Loads.{sum_to_same, sum_to}
use Rattle.dpl_parts.specs.Parts.{IsPartOf}
use Rattle.dpl_parts.proofs.Faces.{found, seek, seek_hit, seek_miss, one_label, joined_there, joined_here}

-- the numbers that name themselves
pub names_counted : (names : ℕ → ℕ) (n : ℕ) → name_count names n ≡ sum_to (λ v. if names v == v then 1 else 0) n
names_counted names zero = refl
names_counted names (suc n) = elim (cases_eq (names n) n) [
  | inl e ↦ let c = count_in names n e in let r = names_counted names n in let w : (if names n == n then 1 else 0) ≡ 1 =
      cond-true {A = ℕ} (names n == n) 1 0 (eq-eqb _ _ e) in omega (arith, c, r, w)
  | inr e ↦ let c = count_out names n e in let r = names_counted names n in
      let w : (if names n == n then 1 else 0) ≡ 0 = cond-false {A = ℕ} (names n == n) 1 0 (ne_eqb _ _ e) in
      omega (arith, c, r, w)
]

module _ (part whole : Net) (node edge : ℕ → ℕ) (h : IsPartOf part whole node edge) (p q : ℕ → Bool)
    (alike : (e : ℕ) → e < length part.graph.edges → q (edge e) ≡ p e) where
  -- ---- bare nodes

  ends_there : (e v : ℕ) → e < length part.graph.edges → EndsAt part.graph e v → EndsAt whole.graph (edge e) (node v)
  ends_there e v l (inl a) = inl (h.first e l ∙ ap node a)
  ends_there e v l (inr b) = inr (h.second e l ∙ ap node b)

  ends_here : (e v : ℕ) → e < length part.graph.edges → v < part.graph.nodes → EndsAt whole.graph (edge e) (node v) → EndsAt part.graph e v
  ends_here e v l m (inl a) = inl (h.apart _ _ (start_below part.graph e l) m (sym (h.first e l) ∙ a))
  ends_here e v l m (inr b) = inr (h.apart _ _ (end_below part.graph e l) m (sym (h.second e l) ∙ b))

  pub bare_alike : (v : ℕ) → v < part.graph.nodes → is_bare whole.graph q (node v) ≡ is_bare part.graph p v
  bare_alike v l =
      let m = length part.graph.edges in
      let n = length whole.graph.edges in
      elim (cases_Bool (is_met_below part.graph p m v)) [
        | inl t ↦
            let i = met_is part.graph p m v t in
            let there = met_from whole.graph q n (edge i.edge) (node v) (h.edges i.edge i.inside)
            (alike i.edge i.inside ∙ i.chosen) (ends_there i.edge v i.inside i.ends) in
            ap not (there ∙ sym t)
        | inr t ↦ elim (cases_Bool (is_met_below whole.graph q n (node v))) [
          | inl s ↦
              let i = met_is whole.graph q n (node v) s in
              let (e, le, re) = h.closed i.edge v i.inside l i.ends in
              let chosen = sym (alike e le) ∙ ap q re ∙ i.chosen in
              let ends : EndsAt whole.graph (edge e) (node v) = elim i.ends [
                | inl a ↦ inl (ap (λ z. (edge_at whole.graph z).a) re ∙ a)
                | inr b ↦ inr (ap (λ z. (edge_at whole.graph z).b) re ∙ b)
              ] in
              absurd (both_ways _ t (met_from part.graph p m e v le chosen (ends_here e v le l ends)))
          | inr s ↦ ap not (s ∙ sym t)
        ]
      ]

  -- ---- components

  -- the component of a node of the part has its name there
  name_inside : (v : ℕ) → v < part.graph.nodes → (x : ℕ) × (x < part.graph.nodes) × (node x ≡ component_of whole.graph q (node v))
  name_inside v l =
      let n = part.graph.nodes in
      let own = component_of part.graph p in
      let label : ℕ → ℕ = seek node own n in
      let there = component_of whole.graph q (node v) in
      let all = component_label whole.graph q label (one_label part whole node edge h p q alike) (node v) in
      let hit = seek_hit node own n v h.apart l in
      elim (found node n there) [
        | inl k ↦ k
        | inr none ↦ let miss = seek_miss node own n there none in absurd (omega (arith, all, hit, miss))
      ]

  -- the same name in the numbers of the part
  name_in : ℕ → ℕ
  name_in v = seek node (λ x. x) part.graph.nodes (component_of whole.graph q (node v)) - 1

  name_in_is : (v : ℕ) → v < part.graph.nodes → (name_in v < part.graph.nodes) × (node (name_in v) ≡ component_of whole.graph q (node v))
  unfolding name_in
  name_in_is v l =
      let (x, lx, rx) = name_inside v l in
      let s = seek_hit node (λ x. x) part.graph.nodes x h.apart lx in
      let t : seek node (λ x. x) part.graph.nodes (component_of whole.graph q (node v)) ≡ suc x = ap (seek node (λ x. x) part.graph.nodes) (sym rx) ∙ s in
      let e : name_in v ≡ x = omega (arith, t) in
      (omega (arith, e, lx), ap node e ∙ rx)

  name_of_one : (u v : ℕ) → u < part.graph.nodes → v < part.graph.nodes →
      component_of whole.graph q (node u) ≡ component_of whole.graph q (node v) → name_in u ≡ name_in v
  name_of_one u v l m e =
      let (a, ra) = name_in_is u l in
      let (b, rb) = name_in_is v m in
      h.apart _ _ a b (ra ∙ e ∙ sym rb)

  are_names : AreNames part.graph.nodes name_in
  are_names = record {
    inside = λ v l. (name_in_is v l).0;
    twice = λ v l.
        let (a, ra) = name_in_is v l in
        let whole_names = components_are whole.graph q in
        name_of_one (name_in v) v a l (ap (component_of whole.graph q) ra ∙ whole_names.twice (node v) (h.nodes v l));
  }

  pub components_alike : component_count part.graph p ≡ sum_to (λ v. if component_of whole.graph q (node v) == node v then 1 else 0) part.graph.nodes
  components_alike =
      let n = part.graph.nodes in
      let own = component_of part.graph p in
      let own_names = components_are part.graph p in
      let alike_names = count_alike n own name_in (record {
        first = own_names;
        second = are_names;
        here = λ v l.
            let (a, ra) = name_in_is v l in
            let whole_names = components_are whole.graph q in
            joined_here part whole node edge h p q alike (name_in v) v a l (ap (component_of whole.graph q) ra ∙ whole_names.twice (node v) (h.nodes v l));
        there = λ v l. name_of_one (own v) v (own_names.inside v l) l (joined_there part whole node edge h p q alike (own v) v (own_names.twice v l));
      }) in
      let c = names_counted name_in n in
      let s = sum_to_same (λ v. if name_in v == v then 1 else 0) (λ v. if component_of whole.graph q (node v) == node v then 1 else 0) n (λ v l.
      let (a, ra) = name_in_is v l in
      ap (λ b. if b then 1 else 0) (elim (cases_eq (name_in v) v) [
        | inl e ↦ eq-eqb _ _ e ∙ sym (eq-eqb _ _ (sym ra ∙ ap node e))
        | inr e ↦ ne_eqb _ _ e ∙ sym (ne_eqb _ _ (λ r. e (h.apart _ _ a l (ra ∙ r))))
      ])) in
      alike_names ∙ c ∙ s
