-- An optimum of one net, laid over an optimum of another on a part that both have, is an optimum.
use Rattle.std.proofs.Common.{arith, ◌≡◌, ◌≢◌, ◌⊎◌, ℕ, zero, suc, ◌<◌, refl, sym, ap, ◌∙◌, Bool, true, inl, inr, List}
use Rattle.std.proofs.Common.{[], ◌∷◌, ◌++◌, length, length-append, subst}
use Rattle.std.specs.Prelude.{All}
use Rattle.std.proofs.lemmas.Bool.{cases_eq}
use Rattle.std.proofs.lemmas.List.{get_or_default}
use Rattle.dpl_sign.specs.declared.edges.Edge.{Edge}
use Rattle.dpl_sign.specs.declared.nets.Net.{Net}
use Rattle.dpl_sign.specs.Kinds.{is_bond}
use Rattle.dpl_sign.specs.Colourings.{IsColouring, colour_of}
use Rattle.dpl_sign.specs.Walks.{edge_at, no_edge}
use Rattle.dpl_sign.proofs.ComponentLemmas.{start_below, end_below}
use Rattle.dpl_sign.proofs.ExcessLemmas.{in_front, at_end}
use Rattle.dpl_parts.specs.Parts.{IsPartOf, broken_on, IsMixed, IsBest}
use Rattle.dpl_parts.proofs.Faces.{found}
use Rattle.dpl_parts.proofs.Mixed.{mixed_cost}

-- ---- a list of given colours

abbrev list_of : (ℕ → Bool) → ℕ → List Bool
list_of f zero = []
list_of f (suc n) = list_of f n ++ f n ∷ []

list_long : (f : ℕ → Bool) (n : ℕ) → length (list_of f n) ≡ n
list_long f zero = refl
list_long f (suc n) = omega (arith, length-append (list_of f n) (f n ∷ []), list_long f n)

list_at : (f : ℕ → Bool) (n v : ℕ) → v < n → colour_of (list_of f n) v ≡ f v
list_at f zero v l = absurd (omega arith)
list_at f (suc n) v l =
    let size = list_long f n in
    elim (cases_eq v n) [
      | inl e ↦ ap (colour_of (list_of f (suc n))) (e ∙ sym size) ∙ at_end (list_of f n) (f n) ∙ ap f (sym e)
      | inr e ↦ in_front (list_of f n) (f n) v (λ q. e (q ∙ size)) ∙ list_at f n v (omega arith)
    ]

-- ---- bonds

pub bond_at : (net : Net) (colours : List Bool) → IsColouring net.graph colours → (e : ℕ)
    → e < length net.graph.edges → is_bond (edge_at net.graph e).kind ≡ true
    → colour_of colours (edge_at net.graph e).a ≡ colour_of colours (edge_at net.graph e).b
bond_at net colours k e l b = k.bonds e no_edge l b

pub bonds_from : (net : Net) (colours : List Bool) → ((e : ℕ) → e < length net.graph.edges →
    is_bond (edge_at net.graph e).kind ≡ true → colour_of colours (edge_at net.graph e).a ≡ colour_of colours
    (edge_at net.graph e).b) → All (λ x. is_bond x.kind ≡ true → colour_of colours x.a ≡ colour_of colours x.b)
    net.graph.edges
bonds_from net colours h e d l =
    subst (λ (x : Edge). is_bond x.kind ≡ true → colour_of colours x.a ≡ colour_of colours x.b) (get_or_default net.graph.edges e no_edge d l) (h e l)

module _ (part whole : Net) (node edge : ℕ → ℕ) (h : IsPartOf part whole node edge) where
  -- the colours of the whole on the part
  pub own_bonds : (colours : List Bool) → IsColouring whole.graph colours → (e : ℕ) → e < length part.graph.edges →
      is_bond (edge_at part.graph e).kind ≡ true → colour_of colours (node (edge_at part.graph e).a) ≡ colour_of colours
      (node (edge_at part.graph e).b)
  own_bonds colours k e l b = ap (colour_of colours) (sym (h.first e l)) ∙
      bond_at whole colours k (edge e) (h.edges e l) (ap is_bond (h.kind e l) ∙ b) ∙
      ap (colour_of colours) (h.second e l)

  -- mixed colours are one for each bond
  pub mixed_colouring : (colours mixed : List Bool) (tint : ℕ → Bool) → IsColouring whole.graph colours →
      length mixed ≡ whole.graph.nodes → IsMixed part whole node colours tint mixed
      → ((e : ℕ) → e < length part.graph.edges → is_bond (edge_at part.graph e).kind ≡ true → tint (edge_at part.graph e).a ≡ tint (edge_at part.graph e).b)
      → IsColouring whole.graph mixed
  mixed_colouring colours mixed tint k size m bonds = record { length = size; bonds = bonds_from whole mixed one } where
    inside : (f e : ℕ) → e < length part.graph.edges → edge e ≡ f → is_bond (edge_at whole.graph f).kind ≡ true →
        colour_of mixed (edge_at whole.graph f).a ≡ colour_of mixed (edge_at whole.graph f).b
    inside f e l r b =
        let x : (edge_at whole.graph f).a ≡ node (edge_at part.graph e).a = ap (λ z. (edge_at whole.graph z).a) (sym r) ∙ h.first e l in
        let y : (edge_at whole.graph f).b ≡ node (edge_at part.graph e).b = ap (λ z. (edge_at whole.graph z).b) (sym r) ∙ h.second e l in
        let t : is_bond (edge_at part.graph e).kind ≡ true = ap is_bond (sym (h.kind e l)) ∙ ap (λ z. is_bond (edge_at whole.graph z).kind) r ∙ b in
        ap (colour_of mixed) x ∙ m.inside _ (start_below part.graph e l) ∙ bonds e l t ∙
        sym (m.inside _ (end_below part.graph e l)) ∙ ap (colour_of mixed) (sym y)

    one : (f : ℕ) → f < length whole.graph.edges → is_bond (edge_at whole.graph f).kind ≡ true →
        colour_of mixed (edge_at whole.graph f).a ≡ colour_of mixed (edge_at whole.graph f).b
    one f l b = elim (found node part.graph.nodes (edge_at whole.graph f).a) [
      | inl (v, low, e) ↦ let c = h.closed f v l low (inl (sym e)) in inside f c.0 c.1 c.2 b
      | inr none ↦ elim (found node part.graph.nodes (edge_at whole.graph f).b) [
        | inl (v, low, e) ↦ let c = h.closed f v l low (inr (sym e)) in inside f c.0 c.1 c.2 b
        | inr no_end ↦ m.others _ (start_below whole.graph f l) none ∙ bond_at whole colours k f l b ∙ sym (m.others _ (end_below whole.graph f l) no_end)
      ]
    ]

-- some list has the mixed colours
abbrev picked : (n : ℕ) (node : ℕ → ℕ) (colours : List Bool) (tint : ℕ → Bool) (w : ℕ)
    → ((x : ℕ) × (x < n) × (node x ≡ w)) ⊎ ((x : ℕ) → x < n → node x ≢ w) → Bool
picked n node colours tint w (inl k) = tint k.0
picked n node colours tint w (inr none) = colour_of colours w

pick_in : (n : ℕ) (node : ℕ → ℕ) (colours : List Bool) (tint : ℕ → Bool) (v : ℕ) → ((a b : ℕ) → a < n → b < n → node a ≡ node b → a ≡ b) → v < n
    → (c : ((x : ℕ) × (x < n) × (node x ≡ node v)) ⊎ ((x : ℕ) → x < n → node x ≢ node v)) → picked n node colours tint (node v) c ≡ tint v
pick_in n node colours tint v apart l (inl k) = ap tint (apart k.0 v k.1 l k.2)
pick_in n node colours tint v apart l (inr none) = absurd (none v l refl)

pick_out : (n : ℕ) (node : ℕ → ℕ) (colours : List Bool) (tint : ℕ → Bool) (w : ℕ) → ((v : ℕ) → v < n → node v ≢ w)
    → (c : ((x : ℕ) × (x < n) × (node x ≡ w)) ⊎ ((x : ℕ) → x < n → node x ≢ w)) → picked n node colours tint w c ≡ colour_of colours w
pick_out n node colours tint w none (inl k) = absurd (none k.0 k.1 k.2)
pick_out n node colours tint w none (inr all) = refl

pub some_mixed : (part whole : Net) (node edge : ℕ → ℕ) → IsPartOf part whole node edge
    → (colours : List Bool) (tint : ℕ → Bool)
    → (mixed : List Bool) × (length mixed ≡ whole.graph.nodes) × IsMixed part whole node colours tint mixed
some_mixed part whole node edge h colours tint =
    let n = part.graph.nodes in
    let f : ℕ → Bool = λ w. picked n node colours tint w (found node n w) in (
      list_of f whole.graph.nodes,
      list_long f whole.graph.nodes,
      record {
        inside = λ v l. list_at f whole.graph.nodes (node v) (h.nodes v l) ∙ pick_in n node colours tint v h.apart l (found node n (node v));
        others = λ w l none. list_at f whole.graph.nodes w l ∙ pick_out n node colours tint w none (found node n w);
      },
    )

-- ---- the exchange

pub optimum_stays : (part old new : Net) (node edge node' edge' : ℕ → ℕ) → IsPartOf part old node edge → IsPartOf part new node' edge'
    → (before after mixed : List Bool) → IsColouring old.graph before → IsColouring new.graph after → IsBest old before → IsBest new after
    → length mixed ≡ new.graph.nodes → IsMixed part new node' after (λ v. colour_of before (node v)) mixed
    → IsColouring new.graph mixed × (broken_on new mixed ≡ broken_on new after)
optimum_stays part old new node edge node' edge' h g before after mixed kb ka best_before best_after size m =
    let tint : ℕ → Bool = λ v. colour_of before (node v) in
    let other : ℕ → Bool = λ v. colour_of after (node' v) in
    let colouring = mixed_colouring part new node' edge' g after mixed tint ka size m (own_bonds part old node edge h before kb) in
    let back = some_mixed part old node edge h before other in
    let back_colouring = mixed_colouring part old node edge h before back.0 other kb back.1 back.2 (own_bonds part new node' edge' g after ka) in
    let one = mixed_cost part old node edge h before back.0 other back.2 in
    let two = mixed_cost part new node' edge' g after mixed tint m in
    let low = best_before back.0 back_colouring in
    let high = best_after mixed colouring in
    (colouring, omega (arith, one, two, low, high))
