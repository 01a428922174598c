-- A good report says the truth: each condition that does not fail is a fact.
use Rattle.std.proofs.Common.{arith, ◌≡◌, ◌≤◌, ◌==◌, ℕ, ◌+◌, ◌*◌, inl, inr, Bool, true, false, not, List, [], ◌∷◌, ◌++◌}
use Rattle.std.proofs.Common.{length, map, refl, sym, ap, subst, ◌∙◌, Option, None, Some, IfSome, All, append_assoc}
use Rattle.std.proofs.Common.{append-nil}
use Rattle.std.specs.Prelude.{pos, nat_lt, ◌&&◌, if◌then◌else◌}
use Rattle.std.specs.List.{AllByRecursion, list_all}
use Rattle.std.proofs.lemmas.Bool.{cases_Bool, cases_eq, eqb-true, and_parts}
use Rattle.std.proofs.lemmas.Bool.Decides.{nat_tests}
use Rattle.std.proofs.lemmas.List.Elements.{All-nil, All-cons, All-weaker, All-from_recursion}
use Rattle.dpl_cell.specs.Places.{Corners, corners_of}
use Rattle.dpl_lex.specs.Classes.{is_name_byte}
use Rattle.dpl_lex.specs.Name.{is_name}
use Rattle.dpl_boxes.proofs.ReadingLemmas.{name_bytes}
use Rattle.dpl_rules.specs.Readers.{or_else}
use Rattle.dpl_sign.specs.declared.edges.Edge.{Edge}
use Rattle.dpl_sign.specs.declared.graphs.Signed.{Signed}
use Rattle.dpl_sign.specs.declared.nets.Net.{Net}
use Rattle.dpl_sign.specs.declared.walks.Cycle.{Cycle}
use Rattle.dpl_sign.specs.Kinds.{is_bond}
use Rattle.dpl_sign.specs.Walks.{edge_at, IsOddWalk}
use Rattle.dpl_sign.specs.Colourings.{agree, colour_of, cost_of}
use Rattle.dpl_sign.specs.Packings.{load, OverloadsNoEdge, passages, bound_of}
use Rattle.dpl_sign.specs.Excess.{aside_edges}
use Rattle.dpl_sign.proofs.Loads.{load_push, at_same, at_other}
use Rattle.dpl_cuts.specs.declared.types.Fragments.{Fragments}
use Rattle.dpl_options.specs.Options.{PlainOptions, name_or_nothing, AreOptions, IsSplitLayer}
use Rattle.dpl_report.specs.declared.params.Params.{Params}
use Rattle.dpl_report.specs.declared.params.Counts.{Counts}
use Rattle.dpl_good.specs.declared.refusals.Miss.{Miss}
use Rattle.dpl_good.specs.declared.refusals.Refusal.{Refusal}
use Rattle.dpl_report.specs.Plain.{PlainReport}
use Rattle.dpl_good.specs.Misses.{miss, number_miss, name_miss, pair_miss, numbers_miss}
use Rattle.dpl_good.specs.Conditions.{params_miss, AreAsked, corner_weight, counts_miss, bond_miss, bonds_miss}
use Rattle.dpl_good.specs.Conditions.{aside_miss, walks_miss, loads_miss, boxes_miss, drawing_miss}
use Rattle.dpl_good.specs.Conditions.{corner_numbers, cuts_from, clashes_from, cut_lines_miss, clash_lines_miss}
use Rattle.dpl_good.specs.Conditions.{cost_miss, broken_miss, packing_miss}
use Rattle.dpl_good.specs.MaskRects.{mask_of}
use Rattle.dpl_good.specs.Verdicts.{refused, refusal_of, rects_of, counts_of_net, rects_refusal, packing_refusal}
use Rattle.dpl_good.specs.Verdicts.{walks_refusal, aside_refusal, broken_refusal, bonds_refusal, counts_refusal}
use Rattle.dpl_good.specs.Truths.{SaysTrue}
use Rattle.dpl_report.specs.Valid.{AreNames, AreMore, IsParams, IsReport, IsCycle}
use Rattle.dpl_good.proofs.ListLaws.{or_none, pair_none, numbers_none, same_corners, lists_none, clash_lines_are, cut_lines_are}
use Rattle.dpl_good.proofs.GoodLemmas.{edges_told}
use Rattle.dpl_good.proofs.WalkLaws.{walk_is_odd}

-- the first of two refusals and what comes behind it
pub either_none : (a b : Option Refusal) → or_else a b ≡ None → (a ≡ None) × (b ≡ None)
either_none None b e = (refl, e)
either_none (Some x) b e = absurd (cc)

-- where no refusal comes, nothing fails
pub not_refused : (reason : ℕ) (m : Option Miss) → refused reason m ≡ None → m ≡ None
not_refused reason None e = refl
not_refused reason (Some m) e = absurd (cc)

-- numbers that do not fail are equal
pub number_none : (place m n : ℕ) → number_miss place m n ≡ None → m ≡ n
number_none place m n e = elim (cases_Bool (m == n)) [
  | inl t ↦ eqb-true m n t
  | inr t ↦ let bad = rw t at e in absurd (cc)
]

-- a digit or an upper-case letter
abbrev pub IsNameByte : ℕ → Type 0
IsNameByte b = is_name_byte b ≡ true

no_byte : (b : ℕ) → pos 256 ≡ pos b → is_name_byte b ≡ true → ⊥
no_byte b e h =
    let same : ◌≡◌ {A = ℕ} 256 b = cc in
    let bad : is_name_byte 256 ≡ true = ap is_name_byte same ∙ h in
    absurd (cc)

name_none : (place : ℕ) (xs ys : List ℕ) → AllByRecursion IsNameByte xs → AllByRecursion IsNameByte ys → name_miss place xs ys ≡ None → xs ≡ ys
name_none place [] [] a b e = refl
name_none place [] (y ∷ ys) a b e = absurd (no_byte y (pair_none place (pos 256) (pos y) e) b.0)
name_none place (x ∷ xs) [] a b e = absurd (no_byte x (sym (pair_none place (pos x) (pos 256) e)) a.0)
name_none place (x ∷ xs) (y ∷ ys) a b e =
    let d = or_none (pair_miss place (pos x) (pos y)) (name_miss place xs ys) e in
    let f : pos x ≡ pos y = pair_none place (pos x) (pos y) d.0 in
    let g = name_none place xs ys a.1 b.1 d.1 in
    cc

name_bytes_each : (name : List ℕ) → list_all is_name_byte name ≡ true → AllByRecursion IsNameByte name
name_bytes_each [] e = tt
name_bytes_each (x ∷ xs) e = let d = and_parts (is_name_byte x) (list_all is_name_byte xs) e in (d.0, name_bytes_each xs d.1)

layer_none : (place : ℕ) (a b : List ℕ) → is_name a ≡ true → is_name b ≡ true → name_miss place a b ≡ None → a ≡ b
layer_none place a b m n e = name_none place a b (name_bytes_each a (name_bytes a m)) (name_bytes_each b (name_bytes b n)) e

-- no name is empty
keep_none : (place : ℕ) (a b : Option (List ℕ)) → IfSome a (λ n. is_name n ≡ true)
    → IfSome b (λ n. is_name n ≡ true) → name_miss place (name_or_nothing a) (name_or_nothing b) ≡ None
    → a ≡ b
keep_none place None None m n e = refl
keep_none place None (Some b) m n e =
    let same : [] ≡ b = name_none place [] b tt (name_bytes_each b (name_bytes b n)) e in
    let bad : is_name [] ≡ true = ap is_name same ∙ n in
    absurd (cc)
keep_none place (Some a) None m n e =
    let same : a ≡ [] = name_none place a [] (name_bytes_each a (name_bytes a m)) tt e in
    let bad : is_name [] ≡ true = ap is_name (sym same) ∙ m in
    absurd (cc)
keep_none place (Some a) (Some b) m n e = ap Some (layer_none place a b m n e)

-- where the first condition does not fail, the report was made with the options
pub params_true : (p : Params) (o : PlainOptions) → AreNames p.layer p.keep → AreNames o.layer o.keep → params_miss p o ≡ None → AreAsked p o
params_true p o m n e =
    let a = or_none (name_miss 2 p.layer o.layer) _ e in
    let b = or_none (number_miss 3 p.space o.space) _ a.1 in
    let c = or_none (number_miss 4 p.overlap o.overlap) _ b.1 in
    let d = or_none (number_miss 5 p.stitch o.weights.stitch) _ c.1 in
    let f = or_none (number_miss 6 p.conflict o.weights.conflict) _ d.1 in
    let g = or_none (number_miss 16 (corner_weight p.corner p.conflict) o.weights.corner) _ f.1 in
    record {
      layer = layer_none 2 p.layer o.layer m.layer_is n.layer_is a.0;
      space = number_none 3 _ _ b.0;
      overlap = number_none 4 _ _ c.0;
      stitch = number_none 5 _ _ d.0;
      conflict = number_none 6 _ _ f.0;
      corner = number_none 16 _ _ g.0;
      keep = keep_none 17 p.keep o.keep m.keep_is n.keep_is g.1;
    }

-- the names of a report are names
more_names : (c : Option ℕ) (k : Option (List ℕ)) → AreMore c k → IfSome k (λ n. is_name n ≡ true)
more_names None k m = rw m tt
more_names (Some n) None m = tt
more_names (Some n) (Some name) m = m.1.0

params_names : (p : Params) → IsParams p → AreNames p.layer p.keep
params_names p v = record { layer_is = v.layer.0; keep_is = more_names p.corner p.keep v.more }

counts_with : ℕ → ℕ → ℕ → ℕ → ℕ → ℕ → Counts
counts_with p f b s c x = record { pieces = p; fragments = f; bonds = b; stitches = s; clashes = c; excess = x }

-- counts that do not fail are equal
pub counts_true : (k w : Counts) → counts_miss k w ≡ None → k ≡ w
unfolding counts_with
counts_true k w e =
    let a = or_none (number_miss 7 k.pieces w.pieces) _ e in
    let b = or_none (number_miss 8 k.fragments w.fragments) _ a.1 in
    let c = or_none (number_miss 9 k.bonds w.bonds) _ b.1 in
    let d = or_none (number_miss 10 k.stitches w.stitches) _ c.1 in
    let f = or_none (number_miss 11 k.clashes w.clashes) _ d.1 in
    let h : counts_with k.pieces k.fragments k.bonds k.stitches k.clashes k.excess ≡ counts_with w.pieces w.fragments w.bonds w.stitches w.clashes w.excess =
    rw (number_none 7 _ _ a.0, number_none 8 _ _ b.0, number_none 9 _ _ c.0, number_none 10 _ _ d.0, number_none 11 _ _ f.0, number_none 12 _ _ f.1) refl in
    h

-- colours that agree are equal
pub agree_none : (a b : Bool) → agree a b ≡ true → a ≡ b
agree_none true true e = refl
agree_none true false e = absurd (cc)
agree_none false true e = absurd (cc)
agree_none false false e = refl

-- a bond whose ends agree
abbrev pub AgreesAt : List Bool → Edge → Type 0
AgreesAt colours d = is_bond d.kind ≡ true → colour_of colours d.a ≡ colour_of colours d.b

bond_true : (colours : List Bool) (e : ℕ) (edge : Edge) → bond_miss colours e edge ≡ None → AgreesAt colours edge
bond_true colours e edge n f = elim (cases_Bool (agree (colour_of colours edge.a) (colour_of colours edge.b))) [
  | inl t ↦ agree_none _ _ t
  | inr t ↦ let bad = rw (f, t) at n in absurd (cc)
]

-- where no bond fails, the ends of each have one colour
pub bonds_true : (colours : List Bool) (e : ℕ) (edges : List Edge) → bonds_miss colours e edges ≡ None → All (AgreesAt colours) edges
bonds_true colours e [] n = All-nil (AgreesAt colours)
bonds_true colours e (edge ∷ edges) n =
    let d = or_none (bond_miss colours e edge) (bonds_miss colours (e + 1) edges) n in
    All-cons (AgreesAt colours) edge edges (bond_true colours e edge d.0) (bonds_true colours (e + 1) edges d.1)

-- a cycle is an odd walk of the graph
abbrev pub IsOddIn : Signed → Cycle → Type 0
IsOddIn g c = IsOddWalk g c.walk

-- where no walk fails, all are odd
pub walks_true : (g : Signed) (cycle : ℕ) (cs : List Cycle) → walks_miss g cycle cs ≡ None → All (IsOddIn g) cs
walks_true g cycle [] n = All-nil (IsOddIn g)
walks_true g cycle (c ∷ cs) n =
    let d = or_none _ (walks_miss g (cycle + 1) cs) n in
    All-cons (IsOddIn g) c cs ((walk_is_odd g cycle c.walk).0 d.0) (walks_true g (cycle + 1) cs d.1)

-- ---- loads

-- what one passage says
pub here : Bool → ℕ → ℕ → ℕ → Option Miss
here bond e limit carried = if not bond && nat_lt limit carried then Some (miss e (pos carried) (pos limit)) else None

fits : (bond : Bool) (e limit carried : ℕ) → here bond e limit carried ≡ None → bond ≡ false → carried ≤ limit
unfolding here
fits bond e limit carried n f = by_test (nat_lt limit carried) refl where
  high : (a b : ℕ) → nat_lt b a ≡ false → a ≤ b
  high a b l = grind (arith, nat_tests)

  by_test : (t : Bool) → nat_lt limit carried ≡ t → carried ≤ limit
  by_test true g = let bad = rw (f, g) at n in absurd (cc)
  by_test false g = high carried limit g

-- where no passage fails, no edge is overloaded
pub loads_true : (g : Signed) (before ps : List (ℕ × ℕ)) → OverloadsNoEdge g before → loads_miss g before ps ≡ None → OverloadsNoEdge g (before ++ ps)
unfolding here
loads_true g before [] w n = subst (OverloadsNoEdge g) (sym (append-nil before)) w
loads_true g before (p ∷ ps) w n =
    let limit = 2 * (edge_at g p.0).weight in
    let d = or_none (here (is_bond (edge_at g p.0).kind) p.0 limit (load before p.0 + p.1)) (loads_miss g (before ++ p ∷ []) ps) n in
    let fit = fits (is_bond (edge_at g p.0).kind) p.0 limit (load before p.0 + p.1) d.0 in
    let one : OverloadsNoEdge g (before ++ p ∷ []) = λ x l b. elim (cases_eq p.0 x) [
      | inl t ↦ omega (
        arith,
        load_push before p.0 p.1 x,
        at_same p.0 p.1 x t,
        fit (ap (λ z. is_bond (edge_at g z).kind) t ∙ b),
        ap (load before) t,
        ap (λ z. (edge_at g z).weight) t,
      )
      | inr t ↦ omega (arith, load_push before p.0 p.1 x, at_other p.0 p.1 x t, w x l b)
    ] in
    subst (OverloadsNoEdge g) (append_assoc before (p ∷ []) ps) (loads_true g (before ++ p ∷ []) ps one d.1)

-- without a passage no edge is overloaded
pub nothing_within : (g : Signed) → OverloadsNoEdge g []
nothing_within g e l b = omega arith

-- ---- boxes

boxes_true : (place : ℕ) (xs ws : List Corners) → length xs ≡ length ws → boxes_miss place xs ws ≡ None → xs ≡ ws
boxes_true place [] [] l n = refl
boxes_true place [] (w ∷ ws) l n = absurd (omega arith)
boxes_true place (x ∷ xs) [] l n = absurd (omega arith)
boxes_true place (x ∷ xs) (w ∷ ws) l n =
    let d = or_none (numbers_miss place (corner_numbers x) (corner_numbers w)) (boxes_miss (place + 1) xs ws) n in
    let a = same_corners x w (numbers_none place (corner_numbers x) (corner_numbers w) refl d.0) in
    let b = boxes_true (place + 1) xs ws (omega arith) d.1 in
    cc

-- masks that do not fail are equal
pub drawing_true : (on_a on_b on_c on_d : List Corners) → drawing_miss on_a on_b on_c on_d ≡ None → (on_a ≡ on_c) × (on_b ≡ on_d)
drawing_true on_a on_b on_c on_d n =
    let a = or_none (number_miss 4294967296 (length on_a) (length on_c)) _ n in
    let b = or_none (number_miss 4294967297 (length on_b) (length on_d)) _ a.1 in
    let c = or_none (boxes_miss 0 on_a on_c) (boxes_miss (length on_a) on_b on_d) b.1 in
    (boxes_true 0 on_a on_c (number_none 4294967296 _ _ a.0) c.0, boxes_true (length on_a) on_b on_d (number_none 4294967297 _ _ b.0) c.1)

-- each half weight of a report is at least 1
pub halves_some : (cs : List Cycle) → AllByRecursion IsCycle cs → All (λ (c : Cycle). 1 ≤ c.half) cs
halves_some cs h = All-weaker IsCycle (λ (c : Cycle). 1 ≤ c.half) (λ c i. i.some) cs (All-from_recursion IsCycle cs h)

kept_name : (k : Option (List ℕ)) → IfSome k IsSplitLayer → IfSome k (λ n. is_name n ≡ true)
kept_name None h = tt
kept_name (Some n) h = h.0

-- the names of options are names
option_names : (o : PlainOptions) → AreOptions o → AreNames o.layer o.keep
option_names o a = record { layer_is = a.layer.0; keep_is = kept_name o.keep a.keep }

-- a report that fails by no condition says the truth
pub good_is_true : (o : PlainOptions) (f : Fragments) (net : Net) (r : PlainReport) → AreOptions o
    → IsReport r → refusal_of o f net r ≡ None → SaysTrue o f net r
good_is_true o f net r ranges v n =
    let g = net.graph in
    let c2 = either_none (refused 2 (params_miss r.head.params o)) (counts_refusal f net r) n in
    let c3 = either_none (refused 3 (counts_miss r.head.counts (counts_of_net net))) (bonds_refusal f net r) c2.1 in
    let c4 = either_none (refused 4 (bonds_miss r.head.colours 0 g.edges)) (broken_refusal f net r) c3.1 in
    let c5 = either_none (refused 5 (broken_miss f net r)) (aside_refusal f net r) c4.1 in
    let c6 = either_none (refused 6 (aside_miss r.lists.aside (aside_edges net))) (walks_refusal f net r) c5.1 in
    let c7 = either_none (refused 7 (walks_miss g 0 r.lists.cycles)) (packing_refusal f net r) c6.1 in
    let c8 = either_none (refused 8 (packing_miss g r.head.bound r.lists.cycles)) (rects_refusal f r) c7.1 in
    let params = params_true r.head.params o (params_names r.head.params v.head.params) (option_names o ranges) (not_refused 2 _ c2.0) in
    let counts = counts_true r.head.counts (counts_of_net net) (not_refused 3 _ c3.0) in
    let bonds = bonds_true r.head.colours 0 g.edges (not_refused 4 _ c4.0) in
    let broken = or_none (cut_lines_miss r.lists.cuts (cuts_from r.head.colours 0 g.edges f.cuts)) _ (not_refused 5 (broken_miss f net r) c5.0) in
    let others = or_none (clash_lines_miss r.lists.clashes (clashes_from r.head.colours 0 g.edges)) (cost_miss net r.head.cost r.head.colours) broken.1 in
    let packing = or_none (loads_miss g [] (passages r.lists.cycles))
    (number_miss (length g.edges) (bound_of r.lists.cycles) r.head.bound) (not_refused 8 _ c8.0) in
    let drawing = drawing_true r.on_a r.on_b (map corners_of (mask_of false f r.head.colours))
    (map corners_of (mask_of true f r.head.colours)) (not_refused 9 (rects_of f r) c8.1) in
    record {
      params = params;
      counts = counts;
      colouring = record { length = v.head.colours ∙ ap (λ (k : Counts). k.fragments) counts; bonds = bonds };
      cuts = (cut_lines_are _ _).0 broken.0;
      clashes = (clash_lines_are _ _).0 others.0;
      cost = number_none (length g.edges) r.head.cost (cost_of g r.head.colours) others.1;
      aside = lists_none (λ e. e) (λ e w. None) edges_told r.lists.aside (aside_edges net) (not_refused 6 _ c6.0);
      packing = record {
        halves = halves_some r.lists.cycles v.lists.cycles;
        odd =
            walks_true g 0 r.lists.cycles (not_refused 7 _ c7.0);
        within =
            loads_true g [] (passages r.lists.cycles) (nothing_within g) packing.0;
      };
      bound = sym (number_none (length g.edges) (bound_of r.lists.cycles) r.head.bound packing.1);
      on_a = drawing.0;
      on_b = drawing.1;
    }
