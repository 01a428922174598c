-- A report that says the truth is good: none of the conditions fails.
use Rattle.std.proofs.Common.{arith, ◌≡◌, ◌≤◌, ◌<◌, ◌==◌, ℕ, ◌+◌, ◌*◌, ◌⊎◌, inl, inr, suc, cond, Bool, true, false, not}
use Rattle.std.proofs.Common.{List, [], ◌∷◌, ◌++◌, length, refl, sym, Option, None, Some, All, append_assoc}
use Rattle.std.specs.Prelude.{pos, nat_lt, ◌&&◌, if◌then◌else◌}
use Rattle.std.proofs.lemmas.Bool.Decides.{nat_tests, Decides-eqb}
use Rattle.std.proofs.lemmas.Bool.{cases_lt, cond-true}
use Rattle.std.proofs.lemmas.List.{get_or_past}
use Rattle.std.proofs.lemmas.List.Sums.{sum_by-cons}
use Rattle.dpl_cell.specs.Places.{Corners}
use Rattle.dpl_rules.specs.Readers.{or_else}
use Rattle.dpl_sign.specs.declared.edges.Edge.{Edge}
use Rattle.dpl_sign.specs.declared.graphs.Signed.{Signed}
use Rattle.dpl_sign.specs.declared.nets.Net.{Net}
use Rattle.dpl_sign.specs.declared.walks.Cycle.{Cycle}
use Rattle.dpl_sign.specs.Kinds.{is_bond}
use Rattle.dpl_sign.specs.Walks.{edge_at, no_edge, IsOddWalk}
use Rattle.dpl_sign.specs.Colourings.{agree, colour_of}
use Rattle.dpl_sign.specs.Packings.{load, OverloadsNoEdge, passages}
use Rattle.dpl_sign.specs.Excess.{aside_edges}
use Rattle.dpl_cuts.specs.declared.types.Fragments.{Fragments}
use Rattle.dpl_options.specs.Options.{PlainOptions, name_or_nothing}
use Rattle.dpl_report.specs.declared.params.Params.{Params}
use Rattle.dpl_report.specs.declared.params.Counts.{Counts}
use Rattle.dpl_report.specs.Plain.{PlainReport}
use Rattle.dpl_good.specs.declared.refusals.Miss.{Miss}
use Rattle.dpl_good.specs.Misses.{miss, number_miss, name_miss}
use Rattle.dpl_good.specs.Conditions.{params_miss, AreAsked, counts_miss, bond_miss, bonds_miss, broken_miss}
use Rattle.dpl_good.specs.Conditions.{aside_miss, walks_miss, loads_miss, packing_miss, boxes_miss}
use Rattle.dpl_good.specs.Conditions.{drawing_miss, corner_numbers}
use Rattle.dpl_good.specs.Verdicts.{refused, refusal_of, rects_of}
use Rattle.dpl_good.specs.Truths.{SaysTrue}
use Rattle.dpl_sign.proofs.Loads.{load_append}
use Rattle.dpl_good.proofs.ListLaws.{pair_same, numbers_same, AreTold, lists_same, clash_lines_are, cut_lines_are}
use Rattle.dpl_good.proofs.WalkLaws.{walk_is_odd}

-- where neither fails, none fails
pub both_none : {X : Type 0} (a b : Option X) → a ≡ None → b ≡ None → or_else a b ≡ None
both_none a b e f = rw (e, f) refl

number_same : (place n : ℕ) → number_miss place n n ≡ None
number_same place n = rw ((Decides-eqb n n).1 refl) refl

-- equal numbers do not fail
pub numbers_are : (place m n : ℕ) → m ≡ n → number_miss place m n ≡ None
numbers_are place m n e = rw e (number_same place n)

name_same : (place : ℕ) (xs : List ℕ) → name_miss place xs xs ≡ None
name_same place [] = refl
name_same place (x ∷ xs) = rw (pair_same place (pos x)) (name_same place xs)

names_are : (place : ℕ) (xs ys : List ℕ) → xs ≡ ys → name_miss place xs ys ≡ None
names_are place xs ys e = rw e (name_same place ys)

kept_are : (place : ℕ) (a b : Option (List ℕ)) → a ≡ b → name_miss place (name_or_nothing a) (name_or_nothing b) ≡ None
kept_are place a b e = rw e (name_same place (name_or_nothing b))

-- a report made with the options does not fail by them
pub params_none : (p : Params) (o : PlainOptions) → AreAsked p o → params_miss p o ≡ None
params_none p o a =
    both_none _ _ (names_are 2 p.layer o.layer a.layer)
    (both_none _ _ (numbers_are 3 _ _ a.space) (both_none _ _ (numbers_are 4 _ _ a.overlap)
    (both_none _ _ (numbers_are 5 _ _ a.stitch)
    (both_none _ _ (numbers_are 6 _ _ a.conflict) (both_none _ _ (numbers_are 16 _ _ a.corner) (kept_are 17 p.keep o.keep a.keep))))))

-- equal counts do not fail
pub counts_none : (k w : Counts) → k ≡ w → counts_miss k w ≡ None
counts_none k w e = rw e (both_none _ _ (number_same 7 w.pieces)
    (both_none _ _ (number_same 8 w.fragments) (both_none _ _ (number_same 9 w.bonds)
    (both_none _ _ (number_same 10 w.stitches) (both_none _ _ (number_same 11 w.clashes) (number_same 12 w.excess))))))

-- a colour agrees with itself
pub agree_same : (b : Bool) → agree b b ≡ true
agree_same true = refl
agree_same false = refl

bond_none : (colours : List Bool) (e : ℕ) (edge : Edge)
    → (is_bond edge.kind ≡ true → colour_of colours edge.a ≡ colour_of colours edge.b)
    → bond_miss colours e edge ≡ None
bond_none colours e edge h = by_kind (is_bond edge.kind) refl where
  by_kind : (t : Bool) → is_bond edge.kind ≡ t → bond_miss colours e edge ≡ None
  by_kind true f = rw (f, h f, agree_same (colour_of colours edge.b)) refl
  by_kind false f = rw f refl

-- where the ends of each bond have one colour, no bond fails
pub bonds_none : (colours : List Bool) (e : ℕ) (edges : List Edge)
    → All (λ (d : Edge). is_bond d.kind ≡ true → colour_of colours d.a ≡ colour_of colours d.b) edges
    → bonds_miss colours e edges ≡ None
bonds_none colours e [] a = refl
bonds_none colours e (edge ∷ edges) a = both_none _ _ (bond_none colours e edge (a 0 edge (omega arith)))
    (bonds_none colours (e + 1) edges (λ k d l. a (suc k) d (omega arith)))

-- lines of one edge that is set aside are equal
pub edges_told : AreTold {X = ℕ} (λ e. e) (λ e w. None)
edges_told = record { told = λ x w e f. e; same = λ x. refl }

-- where all walks are odd, none fails
pub walks_none : (g : Signed) (cycle : ℕ) (cs : List Cycle) → All (λ (c : Cycle). IsOddWalk g c.walk) cs → walks_miss g cycle cs ≡ None
walks_none g cycle [] a = refl
walks_none g cycle (c ∷ cs) a = both_none _ _ ((walk_is_odd g cycle c.walk).1 (a 0 c (omega arith)))
    (walks_none g (cycle + 1) cs (λ k d l. a (suc k) d (omega arith)))

load_more : (before ps : List (ℕ × ℕ)) (e h : ℕ) → load before e + h ≤ load (before ++ (e, h) ∷ ps) e
load_more before ps e h =
    let own : cond (e == e) h 0 ≡ h = cond-true {A = ℕ} (e == e) h 0 ((Decides-eqb e e).1 refl) in
    let all = load_append before ((e, h) ∷ ps) e in
    let first = sum_by-cons (λ (q : ℕ × ℕ). cond (q.0 == e) q.1 0) (e, h) ps in
    omega (arith, own, all, first)

-- an edge that is no bond is one of the graph
no_bond_inside : (g : Signed) (e : ℕ) → is_bond (edge_at g e).kind ≡ false → e < length g.edges
no_bond_inside g e f = by_place (cases_lt e (length g.edges)) where
  by_place : (e < length g.edges) ⊎ (length g.edges ≤ e) → e < length g.edges
  by_place (inl l) = l
  by_place (inr l) = let same : edge_at g e ≡ no_edge = get_or_past g.edges e no_edge l in let bad = rw same at f in absurd (cc)

one_load_none : (g : Signed) (before ps : List (ℕ × ℕ)) (p : ℕ × ℕ) → OverloadsNoEdge g (before ++ p ∷ ps) →
    (if not (is_bond (edge_at g p.0).kind) && nat_lt (2 * (edge_at g p.0).weight) (load before p.0 + p.1) then Some
    (miss p.0 (pos (load before p.0 + p.1)) (pos (2 * (edge_at g p.0).weight))) else None) ≡ None
one_load_none g before ps p w = by_kind (is_bond (edge_at g p.0).kind) refl where
  low : (a b : ℕ) → a ≤ b → nat_lt b a ≡ false
  low a b l = grind (arith, nat_tests)

  by_kind : (t : Bool) → is_bond (edge_at g p.0).kind ≡ t →
      (if not (is_bond (edge_at g p.0).kind) && nat_lt (2 * (edge_at g p.0).weight) (load before p.0 + p.1) then Some
      (miss p.0 (pos (load before p.0 + p.1)) (pos (2 * (edge_at g p.0).weight))) else None) ≡ None
  by_kind true f = rw f refl
  by_kind false f =
      let most = w p.0 (no_bond_inside g p.0 f) f in
      let more = load_more before ps p.0 p.1 in
      let small : nat_lt (2 * (edge_at g p.0).weight) (load before p.0 + p.1) ≡ false =
      low (load before p.0 + p.1) (2 * (edge_at g p.0).weight) (omega (arith, more, most)) in
      rw (f, small) refl

-- where no edge is overloaded, no passage fails
pub loads_none : (g : Signed) (before ps : List (ℕ × ℕ)) → OverloadsNoEdge g (before ++ ps) → loads_miss g before ps ≡ None
loads_none g before [] w = refl
loads_none g before (p ∷ ps) w = both_none _ _ (one_load_none g before ps p w) (loads_none g (before ++ p ∷ []) ps (rw (append_assoc before (p ∷ []) ps) w))

boxes_none : (place : ℕ) (xs : List Corners) → boxes_miss place xs xs ≡ None
boxes_none place [] = refl
boxes_none place (x ∷ xs) = both_none _ _ (numbers_same place (corner_numbers x)) (boxes_none (place + 1) xs)

-- equal masks do not fail
pub drawing_none : (on_a on_b on_c on_d : List Corners) → on_a ≡ on_c → on_b ≡ on_d → drawing_miss on_a on_b on_c on_d ≡ None
drawing_none on_a on_b on_c on_d e f = rw (e, f) (both_none _ _ (number_same 4294967296 (length on_c))
    (both_none _ _ (number_same 4294967297 (length on_d))
    (both_none _ _ (boxes_none 0 on_c) (boxes_none (length on_c) on_d))))

none_refused : (reason : ℕ) (m : Option Miss) → m ≡ None → refused reason m ≡ None
none_refused reason m e = rw e refl

-- a report that says the truth fails by no condition
pub true_is_good : (o : PlainOptions) (f : Fragments) (net : Net) (r : PlainReport) → SaysTrue o f net r → refusal_of o f net r ≡ None
true_is_good o f net r t =
    let g = net.graph in
    let broken : broken_miss f net r ≡ None = both_none _ _ ((cut_lines_are _ _).1 t.cuts)
    (both_none _ _ ((clash_lines_are _ _).1 t.clashes) (numbers_are (length g.edges) _ _ t.cost)) in
    let aside : aside_miss r.lists.aside (aside_edges net) ≡ None = rw t.aside (lists_same (λ e. e) (λ e w. None) edges_told (aside_edges net)) in
    let packing : packing_miss g r.head.bound r.lists.cycles ≡ None =
    both_none _ _ (loads_none g [] (passages r.lists.cycles) t.packing.within)
    (numbers_are (length g.edges) _ _ (sym t.bound)) in
    let drawing : rects_of f r ≡ None = drawing_none r.on_a r.on_b _ _ t.on_a t.on_b in
    both_none _ _ (none_refused 2 _ (params_none _ o t.params))
    (both_none _ _ (none_refused 3 _ (counts_none _ _ t.counts))
    (both_none _ _ (none_refused 4 _ (bonds_none r.head.colours 0 g.edges t.colouring.bonds))
    (both_none _ _ (none_refused 5 _ broken)
    (both_none _ _ (none_refused 6 _ aside)
    (both_none _ _ (none_refused 7 _ (walks_none g 0 r.lists.cycles t.packing.odd))
    (both_none _ _ (none_refused 8 _ packing)
    (none_refused 9 _ drawing)))))))
