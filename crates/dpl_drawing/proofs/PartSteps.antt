-- Components of a drawing with one edge more.
use Rattle.std.proofs.Common.{arith, ◌≡◌, ◌≢◌, ℕ, ◌<◌, sym, ap, ◌∙◌, Bool, inl, inr, List, length}
use Rattle.std.specs.Prelude.{◌↔◌, swap, slice_index}
use Rattle.dpl_cycle.specs.Names.{join}
use Rattle.dpl_cycle.proofs.JoinLemmas.{OnEither, AreMerged, joined_merged}
use Rattle.dpl_cycle.proofs.Classes.{merge_keeps, merged_together}
use Rattle.dpl_ring.specs.Rings.{IsRing, least_of}
use Rattle.dpl_ring.proofs.RingLemmas.{length_swap}
use Rattle.dpl_sign.specs.declared.nets.Net.{Net}
use Rattle.dpl_sign.specs.Walks.{edge_at}
use Rattle.dpl_sign.specs.Components.{component_of}
use Rattle.dpl_sign.specs.Excess.{AreEndsJoined}
use Rattle.dpl_sign.proofs.Insert.{IsOneMore}
use Rattle.dpl_sign.proofs.ComponentLemmas.{start_below, end_below, more_alike}
use Rattle.dpl_drawing.specs.Drawn.{AreParts}
use Rattle.dpl_drawing.proofs.ExchangeNames.{merge_cases}
use Rattle.dpl_drawing.proofs.CycleLemmas.{least_swap}

-- the components with one edge more
pub component_merged : (net : Net) (p q : ℕ → Bool) (e : ℕ) → IsOneMore net p q e → (u v : ℕ)
    → u < net.graph.nodes → v < net.graph.nodes
    → (component_of net.graph q u ≡ component_of net.graph q v ↔ AreMerged (component_of net.graph p) (edge_at net.graph e).a (edge_at net.graph e).b u v)
component_merged net p q e k u v hu hv =
    let s = component_of net.graph q in
    let t = join (component_of net.graph p) (edge_at net.graph e).a (edge_at net.graph e).b in
    let alike = more_alike net p q e k in
    let both = joined_merged (component_of net.graph p) (edge_at net.graph e).a (edge_at net.graph e).b u v in
    (λ h. both.0 (sym (alike.there u hu) ∙ ap t h ∙ alike.there v hv), λ h. sym (alike.here u hu) ∙ ap s (both.1 h) ∙ alike.here v hv)

merged_same : (label : ℕ → ℕ) (a b u v : ℕ) → label a ≡ label b → AreMerged label a b u v → label u ≡ label v
merged_same label a b u v e h =
    let one : (z : ℕ) → OnEither label a b z → label z ≡ label b = λ z o. elim o [ inl k ↦ k ∙ e | inr k ↦ k ] in
    elim h [ inl k ↦ k | inr k ↦ one u k.0 ∙ sym (one v k.1) ]

-- an edge whose ends are joined leaves the components as they were
pub parts_stay : (net : Net) (p q : ℕ → Bool) (e : ℕ) (xs : List ℕ) → IsOneMore net p q e → AreParts net p xs → AreEndsJoined net p e → AreParts net q xs
parts_stay net p q e xs k parts joined = record {
  nodes = parts.nodes;
  joined = λ u v hu hv.
      let old = parts.joined u v hu hv in
      let new = component_merged net p q e k u v hu hv in
      (λ h. new.1 (inl (old.0 h)), λ h. old.1 (merged_same (component_of net.graph p) _ _ u v joined (new.0 h)));
}

-- what is merged by one label is merged by another that tells the same apart
merged_map : (n : ℕ) (s t : ℕ → ℕ) (a b u v : ℕ) → a < n → b < n → u < n → v < n
    → ((x y : ℕ) → x < n → y < n → s x ≡ s y → t x ≡ t y) → AreMerged s a b u v → AreMerged t a b u v
merged_map n s t a b u v ha hb hu hv same h =
    let one : (z : ℕ) → z < n → OnEither s a b z → OnEither t a b z = λ z hz o. elim o [ inl k ↦ inl (same z a hz ha k) | inr k ↦ inr (same z b hz hb k) ] in
    elim h [ inl k ↦ inl (same u v hu hv k) | inr k ↦ inr (one u hu k.0, one v hv k.1) ]

merged_least : (xs : List ℕ) (a b u v : ℕ) → IsRing xs → a < length xs → b < length xs → u < length xs
    → v < length xs → least_of xs a ≢ least_of xs b
    → (least_of (swap xs a b) u ≡ least_of (swap xs a b) v ↔ AreMerged (least_of xs) a b u v)
merged_least xs a b u v ring ha hb hu hv apart =
    let n = length xs in
    let f = slice_index xs in
    let p = ring.2 in
    let ne : a ≢ b = λ q. apart (ap (least_of xs) q) in
    let at = λ (z : ℕ). least_swap xs a b z ha hb ne in
    let keeps = λ (x y : ℕ) (hx : x < n) (hy : y < n) (e : least_of xs x ≡ least_of xs y). merge_keeps n f _ p a b ha hb ne apart x y hx hy e in
    let ab = merged_together n f _ p a b ha hb ne apart in (
      λ e. merge_cases n f _ p a b ha hb ne u v hu hv (sym (at u) ∙ e ∙ at v),
      λ h. at u ∙ (elim h [
        | inl k ↦ keeps u v hu hv k
        | inr k ↦ elim k.0 [
          | inl s ↦ elim k.1 [ inl t ↦ keeps u v hu hv (s ∙ sym t) | inr t ↦ keeps u a hu ha s ∙ ab ∙ sym (keeps v b hv hb t) ]
          | inr s ↦ elim k.1 [ inl t ↦ keeps u b hu hb s ∙ sym ab ∙ sym (keeps v a hv ha t) | inr t ↦ keeps u v hu hv (s ∙ sym t) ]
        ]
      ]) ∙ sym (at v),
    )

-- an edge whose ends are not joined makes one component of two
pub parts_join : (net : Net) (p q : ℕ → Bool) (e : ℕ) (xs ys : List ℕ) → IsOneMore net p q e → IsRing xs
    → AreParts net p xs → (AreEndsJoined net p e → ⊥)
    → ys ≡ swap xs (edge_at net.graph e).a (edge_at net.graph e).b → AreParts net q ys
parts_join net p q e xs ys k ring parts apart eq =
    let a = (edge_at net.graph e).a in
    let b = (edge_at net.graph e).b in
    let g = net.graph in
    let ha : a < g.nodes = start_below g e k.inside in
    let hb : b < g.nodes = end_below g e k.inside in
    let la : a < length xs = omega (arith, parts.nodes) in
    let lb : b < length xs = omega (arith, parts.nodes) in
    let far : least_of xs a ≢ least_of xs b = λ r. apart ((parts.joined a b ha hb).0 r) in
    record {
      nodes = ap length eq ∙ length_swap xs a b la lb ∙ parts.nodes;
      joined = λ u v hu hv.
          let at = λ (z : ℕ). ap (λ (zs : List ℕ). least_of zs z) eq in
          let one = merged_least xs a b u v ring la lb (omega (arith, parts.nodes)) (omega (arith, parts.nodes)) far in
          let new = component_merged net p q e k u v hu hv in (
            λ h. new.1 (merged_map g.nodes (least_of xs) (component_of g p) a b u v ha hb hu hv
                (λ x y hx hy r. (parts.joined x y hx hy).0 r) (one.0 (sym (at u) ∙ h ∙ at v))),
            λ h. at u ∙ one.1 (merged_map g.nodes (component_of g p) (least_of xs) a b u v ha hb hu hv
                (λ x y hx hy r. (parts.joined x y hx hy).1 r) (new.0 h)) ∙ sym (at v),
          );
    }
