-- Turning whole components over breaks the same edges, so a report that says the truth still says it.
use Rattle.std.proofs.Common.{arith, ◌≡◌, ◌+◌, ◌<◌, ℕ, Bool, true, false, cond, List, [], ◌∷◌, length, map, refl, sym, ap, subst, ◌∙◌, All, get_or}
use Rattle.std.specs.Prelude.{◌&&◌, not, sum_by}
use Rattle.std.proofs.lemmas.Bool.{true≢false, false≢true}
use Rattle.std.proofs.lemmas.List.{get_or_default}
use Rattle.std.proofs.lemmas.List.Sums.{sum_by-cons}
use Rattle.std.proofs.lemmas.List.Elements.{All-head, All-tail}
use Rattle.dpl_cell.specs.declared.rect.Rect.{Rect}
use Rattle.dpl_cell.specs.Places.{corners_of}
use Rattle.dpl_sign.specs.declared.edges.Kind.{Kind}
use Rattle.dpl_sign.specs.declared.edges.Kind.TheVariants.{Bond, Stitch, Clash}
use Rattle.dpl_sign.specs.declared.edges.Edge.{Edge}
use Rattle.dpl_sign.specs.declared.nets.Net.{Net}
use Rattle.dpl_sign.specs.Kinds.{is_clash}
use Rattle.dpl_sign.specs.Walks.{edge_at, no_edge}
use Rattle.dpl_sign.specs.Colourings.{agree, is_broken, colour_of, breaks, broken_weight, IsColouring}
use Rattle.dpl_cuts.specs.declared.types.Cut.{Cut}
use Rattle.dpl_cuts.specs.declared.types.Fragments.{Fragments}
use Rattle.dpl_report.specs.declared.marks.Broken.{Broken}
use Rattle.dpl_options.specs.Options.{PlainOptions}
use Rattle.dpl_report.specs.declared.reports.Report.{Report}
use Rattle.dpl_report.specs.Plain.{PlainZone, plain_report}
use Rattle.dpl_good.specs.MaskRects.{mask_of}
use Rattle.dpl_good.specs.Conditions.{is_stitch, where_zone, cuts_after, zone_here, cuts_from, where_broken, clashes_from}
use Rattle.dpl_good.specs.Truths.{SaysTrue}
use Rattle.dpl_good.proofs.TrueLemmas.{agree_none}
use Rattle.dpl_good.proofs.GoodLemmas.{agree_same}
use Rattle.dpl_parts.specs.Components.{are_one_component}
use Rattle.dpl_balance.specs.Balance.{AreTurned, BreakTheSame}
use Rattle.dpl_parts.proofs.JoinedLemmas.{edge_joins}

-- two colours that both stay or both turn over agree where they did
agree_turned : (a b a' b' : Bool) → agree a a' ≡ agree b b' → agree a' b' ≡ agree a b
agree_turned true true true true e = refl
agree_turned true true true false e = absurd (true≢false e)
agree_turned true true false true e = absurd (false≢true e)
agree_turned true true false false e = refl
agree_turned true false true true e = absurd (true≢false e)
agree_turned true false true false e = refl
agree_turned true false false true e = refl
agree_turned true false false false e = absurd (false≢true e)
agree_turned false true true true e = absurd (false≢true e)
agree_turned false true true false e = refl
agree_turned false true false true e = refl
agree_turned false true false false e = absurd (true≢false e)
agree_turned false false true true e = refl
agree_turned false false true false e = absurd (false≢true e)
agree_turned false false false true e = absurd (true≢false e)
agree_turned false false false false e = refl

same_broken : (kind : Kind) (a b a' b' : Bool) → agree a' b' ≡ agree a b → is_broken kind a' b' ≡ is_broken kind a b
same_broken Bond a b a' b' e = refl
same_broken Stitch a b a' b' e = ap not e
same_broken Clash a b a' b' e = e

-- the two ends of an edge agree as they did
ends_agree : (net : Net) (old new : List Bool) → AreTurned net old new → (e : Edge) (k : ℕ)
    → k < length net.graph.edges → edge_at net.graph k ≡ e
    → agree (colour_of new e.a) (colour_of new e.b) ≡ agree (colour_of old e.a) (colour_of old e.b)
ends_agree net old new t e k l is =
    let g = net.graph in
    let b : e.b < g.nodes = let P : Edge → Type 0 = λ e. e.b < g.nodes in subst P is (g.inside k no_edge l) in
    let o = e.ordered in
    let joined : are_one_component net e.a e.b ≡ true = let P : Edge → Type 0 = λ e. are_one_component net e.a e.b ≡ true in subst P is (edge_joins net k l) in
    agree_turned (colour_of old e.a) (colour_of old e.b) (colour_of new e.a) (colour_of new e.b) (t.whole e.a e.b (omega arith) b joined)

pub break_the_same : (net : Net) (old new : List Bool) → AreTurned net old new → BreakTheSame net old new
break_the_same net old new t k d l =
    let e = get_or net.graph.edges k d in
    same_broken e.kind (colour_of old e.a) (colour_of old e.b) (colour_of new e.a) (colour_of new e.b)
    (ends_agree net old new t e k l (get_or_default net.graph.edges k no_edge d l))

-- ---- what a report lists

abbrev AreAlike : List Bool → List Bool → Edge → Type 0
AreAlike old new e = breaks new e ≡ breaks old e

zone_same : (old new : List Bool) (n : ℕ) (e : Edge) (cuts : List Cut) (others : List PlainZone)
    → AreAlike old new e → zone_here old n e cuts others ≡ zone_here new n e cuts others
zone_same old new n e [] others same = refl
zone_same old new n e (cut ∷ cuts) others same = ap (λ b. where_zone (is_stitch e && b)
    (record { at = record { edge = n; a = e.a; b = e.b }; corners = corners_of cut.zone }) others) (sym same)

cuts_same : (old new : List Bool) (n : ℕ) (edges : List Edge) (cuts : List Cut) → All (AreAlike old new) edges
    → cuts_from old n edges cuts ≡ cuts_from new n edges cuts
cuts_same old new n [] cuts a = refl
cuts_same old new n (e ∷ edges) cuts a =
    zone_same old new n e cuts (cuts_from old (n + 1) edges (cuts_after e cuts)) (All-head (AreAlike old new) e edges a)
    ∙ ap (zone_here new n e cuts) (cuts_same old new (n + 1) edges (cuts_after e cuts) (All-tail (AreAlike old new) e edges a))

clashes_same : (old new : List Bool) (n : ℕ) (edges : List Edge) → All (AreAlike old new) edges → clashes_from old n edges ≡ clashes_from new n edges
clashes_same old new n [] a = refl
clashes_same old new n (e ∷ edges) a =
    let here : AreAlike old new e = All-head (AreAlike old new) e edges a in
    let b : Broken = record { edge = n; a = e.a; b = e.b } in
    ap (λ t. where_broken (is_clash e.kind && t) b (clashes_from old (n + 1) edges)) (sym here)
    ∙ ap (where_broken (is_clash e.kind && breaks new e) b) (clashes_same old new (n + 1) edges (All-tail (AreAlike old new) e edges a))

cost_same : (old new : List Bool) (edges : List Edge) → All (AreAlike old new) edges → sum_by (broken_weight old) edges ≡ sum_by (broken_weight new) edges
cost_same old new [] a = refl
cost_same old new (e ∷ edges) a =
    let here : broken_weight old e ≡ broken_weight new e = ap (λ t. cond {A = ℕ} t e.weight 0) (sym (All-head (AreAlike old new) e edges a)) in
    sum_by-cons (broken_weight old) e edges ∙ omega (
      arith,
      here,
      cost_same old new edges (All-tail (AreAlike old new) e edges a),
    ) ∙ sym (sum_by-cons (broken_weight new) e edges)

colouring_stays : (net : Net) (old new : List Bool) → AreTurned net old new → IsColouring net.graph old → IsColouring net.graph new
colouring_stays net old new t c = record {
  length = t.long ∙ c.length;
  bonds = λ k d l bond.
      let e = get_or net.graph.edges k d in
      let was : colour_of old e.a ≡ colour_of old e.b = c.bonds k d l bond in
      agree_none (colour_of new e.a) (colour_of new e.b)
      (ends_agree net old new t e k l (get_or_default net.graph.edges k no_edge d l) ∙
      ap (agree (colour_of old e.a)) (sym was) ∙ agree_same (colour_of old e.a));
}

-- a report with other colours and masks
abbrev pub with_masks : Report → List Bool → List Rect → List Rect → Report
with_masks r colours on_a on_b = record {
  params = r.params;
  counts = r.counts;
  cost = r.cost;
  bound = r.bound;
  colours = colours;
  cuts = r.cuts;
  clashes = r.clashes;
  aside = r.aside;
  cycles = r.cycles;
  on_a = on_a;
  on_b = on_b;
}

pub still_true : (o : PlainOptions) (f : Fragments) (net : Net) (r : Report) (new : List Bool) (on_a on_b : List Rect)
    → AreTurned net r.colours new → on_a ≡ mask_of false f new → on_b ≡ mask_of true f new
    → SaysTrue o f net (plain_report r) → SaysTrue o f net (plain_report (with_masks r new on_a on_b))
still_true o f net r new on_a on_b t a b s =
    let alike : All (AreAlike r.colours new) net.graph.edges = break_the_same net r.colours new t in
    record {
      params = s.params;
      counts = s.counts;
      colouring = colouring_stays net r.colours new t s.colouring;
      cuts = s.cuts ∙ cuts_same r.colours new 0 net.graph.edges f.cuts alike;
      clashes = s.clashes ∙ clashes_same r.colours new 0 net.graph.edges alike;
      cost = s.cost ∙ cost_same r.colours new net.graph.edges alike;
      aside = s.aside;
      packing = s.packing;
      bound = s.bound;
      on_a = ap (map corners_of) a;
      on_b = ap (map corners_of) b;
    }
