-- What letters break, and the one list of it.
use Rattle.std.proofs.Common.{◌≡◌, ◌≢◌, ◌↔◌, ◌<◌, ℕ, Bool, true, false, List, length, map, refl, sym, ap, ◌∙◌, Any}
use Rattle.std.proofs.lemmas.List.Elements.{All-map}
use Rattle.std.proofs.lemmas.List.{get_or-map, length-map}
use Rattle.dpl_list.proofs.Lists.{all_pairs_map}
use Rattle.dpl_sign.specs.declared.edges.Kind.{Kind}
use Rattle.dpl_sign.specs.declared.edges.Kind.TheVariants.{Stitch, Clash}
use Rattle.dpl_sign.specs.declared.graphs.Signed.{Signed}
use Rattle.dpl_sign.specs.declared.nets.Net.{Net}
use Rattle.dpl_sign.specs.Walks.{edge_at}
use Rattle.dpl_sign.specs.Colourings.{colour_of, is_broken}
use Rattle.dpl_sign.specs.Excess.{aside_edges}
use Rattle.dpl_report.specs.declared.marks.Broken.{Broken}
use Rattle.dpl_good.specs.MaskCells.{IsBrokenEdge, NamesBroken, NameAllBroken}
use Rattle.dpl_good.specs.Facts.{NameAllAside}
use Rattle.dpl_good.proofs.FactLemmas.{own_aside, same_aside, same_lines}

stitch_differs : (a b : Bool) → (is_broken Stitch a b ≡ true) ↔ (a ≢ b)
stitch_differs true true = ((λ e. absurd (cc)), λ d. absurd (d refl))
stitch_differs true false = ((λ e d. absurd (cc)), λ d. refl)
stitch_differs false true = ((λ e d. absurd (cc)), λ d. refl)
stitch_differs false false = ((λ e. absurd (cc)), λ d. absurd (d refl))

clash_agrees : (a b : Bool) → (is_broken Clash a b ≡ true) ↔ (a ≡ b)
clash_agrees true true = ((λ e. refl), λ d. refl)
clash_agrees true false = ((λ e. absurd (cc)), λ d. absurd (cc))
clash_agrees false true = ((λ e. absurd (cc)), λ d. absurd (cc))
clash_agrees false false = ((λ e. refl), λ d. refl)

-- broken edges of a kind, where letters break an edge of that kind as P says
broken_where : (kind : Kind) (P : Bool → Bool → Type 0) → ((a b : Bool) → (is_broken kind a b ≡ true) ↔ P a b)
    → (g : Signed) (colours : List Bool) (e : ℕ) → IsBrokenEdge g colours kind e
    ↔ ((e < length g.edges) × ((edge_at g e).kind ≡ kind)
    × P (colour_of colours (edge_at g e).a) (colour_of colours (edge_at g e).b))
broken_where kind P by g colours e =
    let a = colour_of colours (edge_at g e).a in
    let b = colour_of colours (edge_at g e).b in (
      (λ h. (h.within, h.is, (by a b).0 (ap (λ k. is_broken k a b) (sym h.is) ∙ h.broken))),
      λ (l, k, p). record { within = l; is = k; broken = ap (λ z. is_broken z a b) k ∙ (by a b).1 p },
    )

pub broken_stitches : (g : Signed) (colours : List Bool) (e : ℕ) → IsBrokenEdge g colours Stitch e
    ↔ ((e < length g.edges) × ((edge_at g e).kind ≡ Stitch)
    × (colour_of colours (edge_at g e).a ≢ colour_of colours (edge_at g e).b))
broken_stitches g colours e = broken_where Stitch (λ a b. a ≢ b) stitch_differs g colours e

pub broken_clashes : (g : Signed) (colours : List Bool) (e : ℕ) → IsBrokenEdge g colours Clash e
    ↔ ((e < length g.edges) × ((edge_at g e).kind ≡ Clash)
    × (colour_of colours (edge_at g e).a ≡ colour_of colours (edge_at g e).b))
broken_clashes g colours e = broken_where Clash (λ a b. a ≡ b) clash_agrees g colours e

-- ---- one list

any_map : {X Y : Type 0} (f : X → Y) (P : Y → Type 0) (xs : List X) → Any (λ x. P (f x)) xs → Any P (map f xs)
any_map f P xs (k, x, l, e, p) = (k, f x, rw (length-map xs f) l, get_or-map f xs k x (f x) l ∙ ap f e, p)

-- what lines are at names what they name
names_at : {X : Type 0} (g : Signed) (colours : List Bool) (kind : Kind) (at : X → Broken) (xs : List X)
    → NameAllBroken g colours kind at xs → NameAllBroken g colours kind (λ b. b) (map at xs)
names_at g colours kind at xs n = record {
  each = All-map (NamesBroken g colours kind) at xs n.each;
  all = λ e h. any_map at (λ (b : Broken). b.edge ≡ e) xs (n.all e h);
  ordered = all_pairs_map at (λ (b c : Broken). b.edge < c.edge) xs n.ordered;
}

pub one_list : {X : Type 0} (g : Signed) (colours : List Bool) (kind : Kind) (at : X → Broken) (xs ys : List X)
    → NameAllBroken g colours kind at xs → NameAllBroken g colours kind at ys → map at xs ≡ map at ys
one_list g colours kind at xs ys a b = same_lines g colours kind (map at xs) (map at ys) (names_at g colours kind at xs a) (names_at g colours kind at ys b)

pub all_aside : (net : Net) (xs : List ℕ) → NameAllAside net xs ↔ (xs ≡ aside_edges net)
all_aside net xs = ((λ a. same_aside net xs (aside_edges net) a (own_aside net)), λ e. rw e (own_aside net))
