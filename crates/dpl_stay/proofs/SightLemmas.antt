-- Components are the same exactly where nothing can be seen by which they differ.
use Rattle.std.proofs.Common.{◌≡◌, ◌↔◌, ℕ, List, refl, sym, ap, ◌∙◌}
use Rattle.dpl_cell.specs.declared.rect.Rect.{Rect}
use Rattle.dpl_cell.specs.Places.{Corners}
use Rattle.dpl_sign.specs.declared.edges.Kind.{Kind}
use Rattle.dpl_sign.specs.declared.nets.Net.{Net}
use Rattle.dpl_sign.specs.declared.ports.Port.{Port}
use Rattle.dpl_stay.specs.Same.{corners_at, AreEdgesAlike, AreSame}
use Rattle.dpl_stay.specs.Laws.{Sight, sight_of, LookTheSame}

same_sight : (s t : Sight) → s.first ≡ t.first → s.second ≡ t.second → s.kind ≡ t.kind → s.weight ≡ t.weight → s.ports ≡ t.ports → s ≡ t
same_sight s t a b k w p =
    let made : Corners → Corners → Kind → ℕ → Port × Port → Sight = λ c d e n q.
    record { first = c; second = d; kind = e; weight = n; ports = q } in
    ap (λ z. made z s.second s.kind s.weight s.ports) a ∙ ap (λ z. made t.first z s.kind s.weight s.ports) b ∙
    ap (λ z. made t.first t.second z s.weight s.ports) k ∙ ap (λ z. made t.first t.second t.kind z s.ports) w ∙
    ap (λ z. made t.first t.second t.kind t.weight z) p

module _ (f g : List Rect) (n m : Net) where
  seen_alike : (e d : ℕ) → AreEdgesAlike f g n m e d → sight_of f n e ≡ sight_of g m d
  seen_alike e d h = same_sight (sight_of f n e) (sight_of g m d) h.first h.second h.kind h.weight h.ports

  alike_seen : (e d : ℕ) → sight_of f n e ≡ sight_of g m d → AreEdgesAlike f g n m e d
  alike_seen e d q = record {
    first = ap (λ (s : Sight). s.first) q;
    second = ap (λ (s : Sight). s.second) q;
    kind = ap (λ (s : Sight). s.kind) q;
    weight = ap (λ (s : Sight). s.weight) q;
    ports = ap (λ (s : Sight). s.ports) q;
  }

  pub same_by_sight : (v w : ℕ) → AreSame f g n m v w ↔ LookTheSame f g n m v w
  same_by_sight v w = (
    λ s. record {
      rects = λ r. (
        λ (x, i, e). let (y, j, q) = s.nodes x i in (y, j, sym q ∙ e),
        λ (y, j, e). let (x, i, q) = s.nodes_back y j in (x, i, q ∙ e),
      );
      edges = λ t. (
        λ (x, i, e). let (y, j, q) = s.edges x i in (y, j, sym (seen_alike x y q) ∙ e),
        λ (y, j, e). let (x, i, q) = s.edges_back y j in (x, i, seen_alike x y q ∙ e),
      );
    },
    λ l. record {
      nodes = λ x i. let (y, j, q) = (l.rects (corners_at f x)).0 (x, i, refl) in (y, j, sym q);
      nodes_back = λ y j. let (x, i, q) = (l.rects (corners_at g y)).1 (y, j, refl) in (x, i, q);
      edges = λ x i. let (y, j, q) = (l.edges (sight_of f n x)).0 (x, i, refl) in (y, j, alike_seen x y (sym q));
      edges_back = λ y j. let (x, i, q) = (l.edges (sight_of g m y)).1 (y, j, refl) in (x, i, alike_seen x y q);
    },
  )
