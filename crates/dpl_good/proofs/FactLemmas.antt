-- A text is good exactly where the nine facts hold of its report.
use Rattle.std.proofs.Common.{arith, ◌≡◌, ◌≤◌, ◌<◌, ◌*◌, ◌↔◌, inl, inr, ℕ, zero, suc, Bool, true, false, List, [], ◌∷◌}
use Rattle.std.proofs.Common.{◌++◌, length, refl, sym, ap, subst, ◌∙◌, All, Any, AllPairs, Contains, get_or}
use Rattle.std.specs.Prelude.{if◌then◌else◌}
use Rattle.std.proofs.lemmas.Bool.{cases_lt}
use Rattle.std.proofs.lemmas.List.{get_or_default}
use Rattle.std.proofs.lemmas.List.Elements.{All-nil, All-head, All-tail, All-weaker, All-push, Contains-push}
use Rattle.dpl_cell.specs.Places.{Corners, corners_of}
use Rattle.dpl_sign.specs.declared.edges.Kind.{Kind}
use Rattle.dpl_sign.specs.declared.edges.Kind.TheVariants.{Stitch, Clash}
use Rattle.dpl_sign.specs.declared.edges.Edge.{Edge}
use Rattle.dpl_sign.specs.declared.graphs.Signed.{Signed}
use Rattle.dpl_sign.specs.declared.nets.Net.{Net}
use Rattle.dpl_sign.specs.Walks.{edge_at}
use Rattle.dpl_sign.specs.Excess.{is_aside, aside_before, aside_edges}
use Rattle.dpl_cuts.specs.declared.types.Cut.{Cut}
use Rattle.dpl_cuts.specs.declared.types.Fragments.{Fragments}
use Rattle.dpl_cuts.specs.Fragments.{AreFragments}
use Rattle.dpl_links.specs.Nets.{IsNet}
use Rattle.dpl_links.proofs.NetLemmas.{net_ties}
use Rattle.dpl_report.specs.declared.marks.Broken.{Broken}
use Rattle.dpl_options.specs.Options.{PlainOptions, AreOptions}
use Rattle.dpl_report.specs.declared.params.Counts.{Counts}
use Rattle.dpl_report.specs.Plain.{PlainZone, PlainReport}
use Rattle.dpl_report.specs.ReportLines.{report_text}
use Rattle.dpl_report.specs.Valid.{IsReport, AsideFits}
use Rattle.dpl_good.specs.Conditions.{cuts_from, clashes_from}
use Rattle.dpl_good.specs.Verdicts.{IsGood}
use Rattle.dpl_good.specs.Truths.{SaysTrue}
use Rattle.dpl_good.specs.MaskCells.{IsBrokenEdge, NamesBroken, NameAllBroken}
use Rattle.dpl_good.specs.Facts.{ShowsCut, NameAllAside, AreNineFacts}
use Rattle.dpl_good.proofs.ListLaws.{same_broken, same_zone}
use Rattle.dpl_good.proofs.ValidLemmas.{aside_rises}
use Rattle.dpl_good.proofs.GoodLemmas.{true_is_good}
use Rattle.dpl_good.proofs.TrueLemmas.{good_is_true, halves_some}
use Rattle.dpl_good.proofs.BrokenLemmas.{TakeCuts, net_takes, zones_hold, clashes_rise, stitches_rise, fit_rises, clashes_are_named, stitches_are_named}
use Rattle.dpl_list.proofs.Lists.{any_tail, pairs_tail, any_head}

-- ---- lists by the numbers of their elements

no_smaller : {X : Type 0} (number : X → ℕ) (x : X) (xs : List X) (n : ℕ)
    → AllPairs (λ y z. number y < number z) (x ∷ xs) → Any (λ y. number y ≡ n) (x ∷ xs) → number x ≤ n
no_smaller number x xs n a (zero, y, l, e, p) = let f = ap number e in omega (arith, f, p)
no_smaller number x xs n a (suc k, y, l, e, p) = let f = ap number e in let h = a 0 (suc k) y (omega arith) l in omega (arith, f, p, h)

above : {X : Type 0} (number : X → ℕ) (x : X) (xs : List X) (n : ℕ) → AllPairs (λ y z. number y < number z) (x ∷ xs) → Any (λ y. number y ≡ n) xs → number x < n
above number x xs n a (k, y, l, e, p) = let f = ap number e in let h = a 0 (suc k) y (omega arith) (omega (arith, l)) in omega (arith, f, p, h)

in_rest : {X : Type 0} (number : X → ℕ) (x : X) (xs : List X) (n : ℕ) → number x < n → Any (λ y. number y ≡ n) (x ∷ xs) → Any (λ y. number y ≡ n) xs
in_rest number x xs n m (zero, y, l, e, p) = let f = ap number e in absurd (omega (arith, f, p, m))
in_rest number x xs n m (suc k, y, l, e, p) = (k, y, omega (arith, l), e, p)

-- rising lists with the same numbers are the same, where elements of one number are
same_list : {X : Type 0} (number : X → ℕ) (P Q : X → Type 0) → ((x y : X) → P x → Q y → number x ≡ number y → x ≡ y) → (xs ys : List X) → All P xs → All Q ys
    → AllPairs (λ y z. number y < number z) xs → AllPairs (λ y z. number y < number z) ys
    → ((n : ℕ) → Any (λ x. number x ≡ n) xs → Any (λ x. number x ≡ n) ys) → ((n : ℕ) → Any (λ x. number x ≡ n) ys → Any (λ x. number x ≡ n) xs) → xs ≡ ys
same_list number P Q same [] [] p q a b there back = refl
same_list number P Q same [] (y ∷ ys) p q a b there back = let h =
    back (number y) (any_head (λ x. number x ≡ number y) y ys refl) in absurd (omega (arith, h.2))
same_list number P Q same (x ∷ xs) [] p q a b there back = let h =
    there (number x) (any_head (λ y. number y ≡ number x) x xs refl) in absurd (omega (arith, h.2))
same_list number P Q same (x ∷ xs) (y ∷ ys) p q a b there back =
    let low = no_smaller number y ys (number x) b (there (number x) (any_head (λ z. number z ≡ number x) x xs refl)) in
    let high = no_smaller number x xs (number y) a (back (number y) (any_head (λ z. number z ≡ number y) y ys refl)) in
    let one : number x ≡ number y = omega (arith, low, high) in
    let first : x ≡ y = same x y (All-head P x xs p) (All-head Q y ys q) one in
    let others : xs ≡ ys = same_list number P Q same xs ys (All-tail P x xs p) (All-tail Q y ys q)
    (pairs_tail (λ y z. number y < number z) x xs a) (pairs_tail (λ y z. number y < number z) y ys b)
    (λ n h. in_rest number y ys n (let m = above number x xs n a h in omega (arith, m, one)) (there n (any_tail (λ z. number z ≡ n) x xs h)))
    (λ n h. in_rest number x xs n (let m = above number y ys n b h in omega (arith, m, one)) (back n (any_tail (λ z. number z ≡ n) y ys h))) in
    ap (λ z. z ∷ xs) first ∙ ap (λ zs. y ∷ zs) others

-- ---- broken edges

named_in : {X : Type 0} (g : Signed) (colours : List Bool) (kind : Kind) (at : X → Broken) (xs ys : List X)
    → NameAllBroken g colours kind at xs → NameAllBroken g colours kind at ys → (n : ℕ)
    → Any (λ x. (at x).edge ≡ n) xs → Any (λ x. (at x).edge ≡ n) ys
named_in g colours kind at xs ys a b n (k, x, l, e, p) =
    let names : NamesBroken g colours kind (at x) = subst (λ z. NamesBroken g colours kind (at z)) e (a.each k x l) in
    b.all n (subst (IsBrokenEdge g colours kind) p names.edge)

pub same_names : (g : Signed) (colours : List Bool) (kind : Kind) (b c : Broken) → NamesBroken g colours kind b
    → NamesBroken g colours kind c → b.edge ≡ c.edge → b ≡ c
same_names g colours kind b c m n e =
    same_broken b c e (m.first ∙ ap (λ k. (edge_at g k).a) e ∙ sym n.first) (m.second ∙ ap (λ k. (edge_at g k).b) e ∙ sym n.second)

-- two lists of the broken edges of a kind are the same
pub same_lines : (g : Signed) (colours : List Bool) (kind : Kind) (xs ys : List Broken)
    → NameAllBroken g colours kind (λ b. b) xs → NameAllBroken g colours kind (λ b. b) ys → xs ≡ ys
same_lines g colours kind xs ys a b =
    same_list (λ (c : Broken). c.edge) (NamesBroken g colours kind) (NamesBroken g colours kind)
    (same_names g colours kind) xs ys a.each b.each a.ordered b.ordered
    (named_in g colours kind (λ c. c) xs ys a b) (named_in g colours kind (λ c. c) ys xs b a)

-- no two cuts have one first fragment
one_cut : (cuts : List Cut) (k m : ℕ) (c d : Cut) → AllPairs (λ (c d : Cut). c.a < d.a) cuts → k < length cuts
    → m < length cuts → get_or cuts k c ≡ c → get_or cuts m d ≡ d → c.a ≡ d.a → c ≡ d
one_cut cuts k m c d o l h e f same =
    let f' : get_or cuts m c ≡ d = get_or_default cuts m c d h ∙ f in
    elim (cases_lt k m) [
      | inl t ↦ let r = o k m c t h in absurd (omega (arith, r, ap (λ (z : Cut). z.a) e, ap (λ (z : Cut). z.a) f', same))
      | inr t ↦ elim (cases_lt m k) [
        | inl u ↦ let r = o m k c u l in absurd (omega (arith, r, ap (λ (z : Cut). z.a) e, ap (λ (z : Cut). z.a) f', same))
        | inr u ↦ let at : k ≡ m = omega arith in sym e ∙ ap (λ n. get_or cuts n c) at ∙ f'
      ]
    ]

abbrev IsLine : Signed → List Bool → Fragments → PlainZone → Type 0
IsLine g colours f z = NamesBroken g colours Stitch z.at × ShowsCut f z

same_line : (g : Signed) (colours : List Bool) (f : Fragments) → AllPairs (λ (c d : Cut). c.a < d.a) f.cuts
    → (y z : PlainZone) → IsLine g colours f y → IsLine g colours f z → y.at.edge ≡ z.at.edge → y ≡ z
same_line g colours f o y z (m, (k, c, l, e, p)) (n, (i, d, h, w, q)) same =
    let at : y.at ≡ z.at = same_names g colours Stitch y.at z.at m n same in
    let cut : c ≡ d = one_cut f.cuts k i c d o l h e w (p.0 ∙ ap (λ (b : Broken). b.a) at ∙ sym q.0) in
    same_zone y z at (sym p.2 ∙ ap (λ (u : Cut). corners_of u.zone) cut ∙ q.2)

all_both : {X : Type 0} (P Q : X → Type 0) (xs : List X) → All P xs → All Q xs → All (λ x. P x × Q x) xs
all_both P Q xs a b k d l = (a k d l, b k d l)

same_cuts : (g : Signed) (colours : List Bool) (f : Fragments) (xs ys : List PlainZone)
    → AllPairs (λ (c d : Cut). c.a < d.a) f.cuts → NameAllBroken g colours Stitch (λ z. z.at) xs
    → NameAllBroken g colours Stitch (λ z. z.at) ys → All (ShowsCut f) xs → All (ShowsCut f) ys → xs ≡ ys
same_cuts g colours f xs ys o a b p q =
    same_list (λ (z : PlainZone). z.at.edge) (IsLine g colours f) (IsLine g colours f) (same_line g colours f o) xs ys
    (all_both (λ z. NamesBroken g colours Stitch z.at) (ShowsCut f) xs a.each p)
    (all_both (λ z. NamesBroken g colours Stitch z.at) (ShowsCut f) ys b.each q) a.ordered b.ordered
    (named_in g colours Stitch (λ z. z.at) xs ys a b) (named_in g colours Stitch (λ z. z.at) ys xs b a)

own_zones : (colours : List Bool) (edges : List Edge) (f : Fragments) → TakeCuts edges f.cuts → All (ShowsCut f) (cuts_from colours 0 edges f.cuts)
own_zones colours edges f t =
    let P : ℕ → ℕ → Corners → Type 0 = λ a b z. Any (λ (c : Cut). (c.a ≡ a) × (c.b ≡ b) × (corners_of c.zone ≡ z)) f.cuts in
    zones_hold P colours 0 edges f.cuts t (λ k d l. (k, get_or f.cuts k d, l, get_or_default f.cuts k (get_or f.cuts k d) d l, (refl, refl, refl)))

-- ---- edges set aside

contains_more : (xs : List ℕ) (n e : ℕ) → Contains xs e → Contains (xs ++ n ∷ []) e
contains_more [] n e (k, l, f) = absurd (omega (arith, l))
contains_more (x ∷ xs) n e (zero, l, f) = (0, omega arith, f)
contains_more (x ∷ xs) n e (suc k, l, f) = let h = contains_more xs n e (k, omega (arith, l), f) in (suc h.0, omega (arith, h.1), h.2)

contains_if : (t : Bool) (xs : List ℕ) (n e : ℕ) → Contains xs e → Contains (if t then xs ++ n ∷ [] else xs) e
contains_if true xs n e c = contains_more xs n e c
contains_if false xs n e c = c

last_if : (t : Bool) (xs : List ℕ) (n : ℕ) → t ≡ true → Contains (if t then xs ++ n ∷ [] else xs) n
last_if true xs n e = Contains-push xs n
last_if false xs n e = absurd (cc)

abbrev IsAsideBelow : Net → ℕ → ℕ → Type 0
IsAsideBelow net n e = (e < n) × (is_aside net e ≡ true)

each_if : (net : Net) (n : ℕ) (t : Bool) (xs : List ℕ) → is_aside net n ≡ t → All (IsAsideBelow net n) xs
    → All (IsAsideBelow net (suc n)) (if t then xs ++ n ∷ [] else xs)
each_if net n true xs e a = All-push (IsAsideBelow net (suc n)) xs n
    (All-weaker (IsAsideBelow net n) (IsAsideBelow net (suc n)) (λ k h. (omega (arith, h.0), h.1)) xs a)
    (omega arith, e)
each_if net n false xs e a = All-weaker (IsAsideBelow net n) (IsAsideBelow net (suc n)) (λ k h. (omega (arith, h.0), h.1)) xs a

aside_each : (net : Net) (n : ℕ) → All (IsAsideBelow net n) (aside_before net n)
aside_each net zero = All-nil (IsAsideBelow net 0)
aside_each net (suc n) = each_if net n (is_aside net n) (aside_before net n) refl (aside_each net n)

aside_all : (net : Net) (n e : ℕ) → e < n → is_aside net e ≡ true → Contains (aside_before net n) e
aside_all net zero e l t = absurd (omega (arith, l))
aside_all net (suc n) e l t = elim (cases_lt e n) [
  | inl h ↦ contains_if (is_aside net n) (aside_before net n) n e (aside_all net n e h t)
  | inr h ↦
      let same : n ≡ e = omega (arith, l, h) in
      let t' : is_aside net n ≡ true = ap (is_aside net) same ∙ t in
      let c = last_if (is_aside net n) (aside_before net n) n t' in
      subst (Contains (aside_before net (suc n))) same c
]

pub own_aside : (net : Net) → NameAllAside net (aside_edges net)
own_aside net = record {
  each = aside_each net (length net.graph.edges);
  all = aside_all net (length net.graph.edges);
  ordered = fit_rises AsideFits (λ (e : ℕ). e) (λ s e h. h.0) 0 (aside_edges net)
      (aside_rises net (length net.graph.edges) (let few = net.graph.few_edges in omega (arith, few)));
}

aside_in : (net : Net) (xs ys : List ℕ) → NameAllAside net xs → NameAllAside net ys → (n : ℕ) → Any (λ e. e ≡ n) xs → Any (λ e. e ≡ n) ys
aside_in net xs ys a b n (k, e, l, f, p) =
    let own = a.each k e l in
    let same : get_or xs k e ≡ n = f ∙ p in
    let (i, h, g) = b.all n (subst (λ m. m < length net.graph.edges) same own.0) (subst (λ m. is_aside net m ≡ true) same own.1) in
    (i, n, h, g, refl)

pub same_aside : (net : Net) (xs ys : List ℕ) → NameAllAside net xs → NameAllAside net ys → xs ≡ ys
same_aside net xs ys a b =
    same_list (λ (e : ℕ). e) (IsAsideBelow net (length net.graph.edges)) (IsAsideBelow net (length net.graph.edges))
    (λ x y p q e. e) xs ys a.each b.each a.ordered b.ordered (aside_in net xs ys a b) (aside_in net ys xs b a)

-- ---- all nine

pub facts_of_truth : (o : PlainOptions) (f : Fragments) (net : Net) (text : List ℕ) (r : PlainReport)
    → TakeCuts net.graph.edges f.cuts → IsReport r → text ≡ report_text r → SaysTrue o f net r
    → AreNineFacts o f net text r
facts_of_truth o f net text r take v e t = record {
  valid = v;
  text_is = e;
  options = t.params;
  counts = t.counts;
  bonds = t.colouring.bonds;
  stitches = subst (NameAllBroken net.graph r.head.colours Stitch (λ z. z.at)) (sym t.cuts)
      (stitches_are_named net.graph r.head.colours f.cuts (cuts_from r.head.colours 0 net.graph.edges f.cuts) take refl
      (stitches_rise r.head.colours 0 net.graph.edges f.cuts));
  zones = subst (All (ShowsCut f)) (sym t.cuts) (own_zones r.head.colours net.graph.edges f take);
  clashes = clashes_are_named net.graph r.head.colours r.lists.clashes t.clashes
      (subst (AllPairs (λ (b c : Broken). b.edge < c.edge)) (sym t.clashes)
      (clashes_rise r.head.colours 0 net.graph.edges));
  cost = t.cost;
  aside = subst (NameAllAside net) (sym t.aside) (own_aside net);
  walks = t.packing.odd;
  loads = t.packing.within;
  bound = t.bound;
  on_a = t.on_a;
  on_b = t.on_b;
}

pub truth_of_facts : (o : PlainOptions) (f : Fragments) (net : Net) (text : List ℕ) (r : PlainReport)
    → TakeCuts net.graph.edges f.cuts → AllPairs (λ (c d : Cut). c.a < d.a) f.cuts
    → AreNineFacts o f net text r → SaysTrue o f net r
truth_of_facts o f net text r take order n = record {
  params = n.options;
  counts = n.counts;
  colouring = record { length = n.valid.head.colours ∙ ap (λ (k : Counts). k.fragments) n.counts; bonds = n.bonds };
  cuts = same_cuts net.graph r.head.colours f r.lists.cuts (cuts_from r.head.colours 0 net.graph.edges f.cuts) order
      n.stitches (stitches_are_named net.graph r.head.colours f.cuts (cuts_from r.head.colours 0 net.graph.edges f.cuts)
      take refl (stitches_rise r.head.colours 0 net.graph.edges f.cuts)) n.zones
      (own_zones r.head.colours net.graph.edges f take);
  clashes = same_lines net.graph r.head.colours Clash r.lists.clashes (clashes_from r.head.colours 0 net.graph.edges)
      n.clashes (clashes_are_named net.graph r.head.colours (clashes_from r.head.colours 0 net.graph.edges) refl
      (clashes_rise r.head.colours 0 net.graph.edges));
  cost = n.cost;
  aside = same_aside net r.lists.aside (aside_edges net) n.aside (own_aside net);
  packing = record { halves = halves_some r.lists.cycles n.valid.lists.cycles; odd = n.walks; within = n.loads };
  bound = n.bound;
  on_a = n.on_a;
  on_b = n.on_b;
}

-- of the report of a good text the nine facts hold
pub good_has_facts : (o : PlainOptions) (f : Fragments) (net : Net) (text : List ℕ) → AreOptions o
    → TakeCuts net.graph.edges f.cuts → IsGood o f net text → (r : PlainReport) × AreNineFacts o f net text r
good_has_facts o f net text ranges take g = (
  g.report,
  facts_of_truth o f net text g.report take g.valid g.written
      (good_is_true o f net g.report ranges g.valid g.good),
)

-- a text of a report of which the nine facts hold is good
pub facts_are_good : (o : PlainOptions) (f : Fragments) (net : Net) (text : List ℕ) (r : PlainReport)
    → TakeCuts net.graph.edges f.cuts → AllPairs (λ (c d : Cut). c.a < d.a) f.cuts
    → AreNineFacts o f net text r → IsGood o f net text
facts_are_good o f net text r take order n = record {
  report = r;
  valid = n.valid;
  written = n.text_is;
  good = true_is_good o f net r (truth_of_facts o f net text r take order n);
}

-- over the net of fragments a text is good exactly where they hold of its report
pub good_exactly : (o : PlainOptions) (f : Fragments) (net : Net) (keep tiles : List Corners) (label text : List ℕ)
    → AreOptions o → IsNet f o.weights (2 * o.space) net
    → AreFragments keep (2 * o.space) (2 * o.overlap) tiles label f
    → IsGood o f net text ↔ ((r : PlainReport) × AreNineFacts o f net text r)
good_exactly o f net keep tiles label text ranges n a =
    let take = net_takes o.weights n.bonds f.cuts n.links net.graph.edges
    (net_ties f o.weights (2 * o.space) net n) in
    (good_has_facts o f net text ranges take, λ h. facts_are_good o f net text h.0 take a.cuts.ordered h.1)
