-- A search breadth first.
use Rattle.std.proofs.Common.{arith, ◌≡◌, ◌≢◌, ℕ, ◌+◌, ◌<◌, ◌≤◌, refl, sym, ap, ◌∙◌, subst, Bool, true, false, inl}
use Rattle.std.proofs.Common.{inr, List, [], ◌∷◌, ◌++◌, length, length-append, get_or, set, map, length-set}
use Rattle.std.proofs.Common.{get_or-set_same, get_or-set_other, eq-eqb, ◌==◌, Option, Some, None}
use Rattle.std.specs.Prelude.{All, AllPairs, Contains, is_some, nat_lt, ◌||◌}
use Rattle.std.specs.List.{AllByRecursion}
use Rattle.std.proofs.lemmas.Bool.{cases_eq, cases_lt, true≢false, false≢true, and_parts, and_from, or_left, or_right}
use Rattle.std.proofs.lemmas.Bool.{or_cases, cond-true, cond-false, ne_eqb, eqb-true}
use Rattle.std.proofs.lemmas.List.{get_or_append_left, get_or-append-add, get_or_default, get_or-map, length-map}
use Rattle.std.proofs.lemmas.List.Elements.{All-push, recursion_from_All}
use Rattle.std.proofs.lemmas.Option.{same_Some}
use Rattle.dpl_sign.specs.declared.graphs.Signed.{Signed}
use Rattle.dpl_sign.specs.Walks.{edge_at, across, leaves, IsPath}
use Rattle.dpl_sign.specs.Components.{AreJoined}
use Rattle.dpl_sign.specs.Drawings.{is_in}
use Rattle.dpl_euler.specs.declared.searching.Step.{Step}
use Rattle.dpl_euler.specs.Searches.{IsAt, no_step, step_at, place_of, is_reached, LeadsBack, AreSteps, IsClosed, AreFollowed, GoesOn}
use Rattle.dpl_sign.proofs.PathLemmas.{path_more}
use Rattle.dpl_euler.proofs.CircleLemmas.{few_distinct}

-- ---- options

no_some : (a : ℕ) → Some a ≡ None → ⊥
no_some a e = true≢false (ap is_some e)

some_of : (o : Option ℕ) → is_some o ≡ true → (p : ℕ) × (o ≡ Some p)
some_of None h = absurd (false≢true h)
some_of (Some p) h = (p, refl)

-- ---- no more steps than nodes

pub few_steps : (g : Signed) (chosen : List Bool) (goal : ℕ) (steps : List Step) (places : List (Option ℕ))
    → AreSteps g chosen goal steps places → length steps ≤ g.nodes
few_steps g chosen goal steps places s =
    let node : Step → ℕ = λ x. x.node in
    let nodes = map node steps in
    let size : length nodes ≡ length steps = length-map steps node in
    let at : (i d : ℕ) → i < length steps → get_or nodes i d ≡ (step_at steps i).node = λ i d h. get_or-map node steps i no_step d h in
    let once : AllPairs (λ c d. c ≢ d) nodes = λ i j d l h e.
    let hj : j < length steps = omega (arith, h, size) in
    let hi : i < length steps = omega (arith, hj, l) in
    let same : (step_at steps i).node ≡ (step_at steps j).node = sym (at i d hi) ∙ e ∙ at j d hj in
    omega (arith, l, same_Some i j (sym (s.noted i hi) ∙ ap (place_of places) same ∙ s.noted j hj)) in
    omega (arith, size, few_distinct nodes g.nodes once (λ i h. omega (arith, at i 0 (omega (arith, h, size)), s.nodes i (omega (arith, h, size)))))

-- ---- one step more

still_back : (g : Signed) (chosen : List Bool) (steps new : List Step) (p n : ℕ) (x y : Step) → x ≡ y → p ≤ n
    → ((q : ℕ) → q < n → step_at new q ≡ step_at steps q) → LeadsBack g chosen steps p x
    → LeadsBack g chosen new p y
still_back g chosen steps new p n x y e h same b =
    let P : Step → Type 0 = λ z. LeadsBack g chosen new p z in
    subst P e (record { earlier = b.earlier; at = b.at; there = b.there ∙ ap (λ (z : Step). z.node) (sym (same x.from (omega (arith, b.earlier, h)))) })

pub taken : (g : Signed) (chosen : List Bool) (goal : ℕ) (steps : List Step) (places : List (Option ℕ)) (step : Step)
    → step.node < g.nodes → place_of places step.node ≡ None → LeadsBack g chosen steps (length steps) step
    → AreSteps g chosen goal steps places
    → AreSteps g chosen goal (steps ++ step ∷ []) (set places step.node (Some (length steps)))
taken g chosen goal steps places step low none back s =
    let new = steps ++ step ∷ [] in
    let n = length steps in
    let later = set places step.node (Some n) in
    let size : length new ≡ n + 1 = length-append steps (step ∷ []) in
    let old : (p : ℕ) → p < n → step_at new p ≡ step_at steps p = λ p h. get_or_append_left steps (step ∷ []) no_step p h in
    let end : step_at new n ≡ step = ap (λ z. step_at new z) (omega arith) ∙ get_or-append-add steps (step ∷ []) 0 no_step in
    let node : Step → ℕ = λ x. x.node in
    let last : (p : ℕ) → p < length new → (p < n → ⊥) → p ≡ n = λ p h l. elim (cases_lt p n) [ inl k ↦ absurd (l k) | inr k ↦ omega (arith, h, k, size) ] in
    record {
      sizes = length-set places step.node (Some n) ∙ s.sizes;
      some = omega (arith, size);
      first = ap node (old 0 s.some) ∙ s.first;
      nodes = λ p h. elim (cases_lt p n) [
        | inl l ↦ omega (arith, ap node (old p l), s.nodes p l)
        | inr l ↦ omega (arith, ap (λ z. (step_at new z).node) (last p h (λ k. omega (arith, k, l))), ap node end, low)
      ];
      back = λ p some h. elim (cases_lt p n) [
        | inl l ↦ still_back g chosen steps new p n _ _ (sym (old p l)) (omega (arith, l)) old (s.back p some l)
        | inr l ↦
            let e : p ≡ n = last p h (λ k. omega (arith, k, l)) in
            let P : ℕ → Type 0 = λ z. LeadsBack g chosen new z (step_at new z) in
            subst P (sym e) (still_back g chosen steps new n n _ _ (sym end) (omega arith) old back)
      ];
      found = λ v p e. elim (cases_eq v step.node) [
        | inl t ↦
            let q : n ≡ p = same_Some n p (sym (get_or-set_same places step.node (Some n) None
            (omega (arith, s.sizes, low))) ∙ ap (place_of later) (sym t) ∙ e) in
            (omega (arith, q, size), ap (λ z. (step_at new z).node) (sym q) ∙ ap node end ∙ sym t)
        | inr t ↦
            let f = s.found v p (sym (get_or-set_other places step.node v (Some n) None t) ∙ e) in
            (omega (arith, f.0, size), ap node (old p f.0) ∙ f.1)
      ];
      noted = λ p h. elim (cases_lt p n) [
        | inl l ↦
            let apart : (step_at steps p).node ≢ step.node = λ q. no_some p (sym (s.noted p l) ∙ ap (place_of places) q ∙ none) in
            ap (λ (z : Step). place_of later z.node) (old p l) ∙ get_or-set_other places step.node (step_at steps p).node (Some n) None apart ∙ s.noted p l
        | inr l ↦
            let e : p ≡ n = last p h (λ k. omega (arith, k, l)) in
            ap (λ z. place_of later (step_at new z).node) e ∙ ap (λ (z : Step). place_of later z.node) end ∙
            get_or-set_same places step.node (Some n) None (omega (arith, s.sizes, low)) ∙ ap Some (sym e)
      ];
    }

pub goes_nowhere : (steps : List Step) (places : List (Option ℕ)) → GoesOn steps steps places places
goes_nowhere steps places = record { longer = omega arith; same = λ p h. refl; reached = λ v h. h }

pub now_reached : (places : List (Option ℕ)) (v n : ℕ) → v < length places → is_reached (set places v (Some n)) v ≡ true
now_reached places v n h = ap is_some (get_or-set_same places v (Some n) None h)

pub taken_goes : (steps : List Step) (places : List (Option ℕ)) (step : Step) (v n : ℕ) → v < length places
    → GoesOn steps (steps ++ step ∷ []) places (set places v (Some n))
taken_goes steps places step v n h = record {
  longer = omega (arith, length-append steps (step ∷ []));
  same = λ p l. get_or_append_left steps (step ∷ []) no_step p l;
  reached = λ u r. elim (cases_eq u v) [
    | inl t ↦ ap (is_reached (set places v (Some n))) t ∙ now_reached places v n h
    | inr t ↦ ap is_some (get_or-set_other places v u (Some n) None t) ∙ r
  ];
}

pub goes_further : (a b c : List Step) (x y z : List (Option ℕ)) → GoesOn a b x y → GoesOn b c y z → GoesOn a c x z
goes_further a b c x y z g h = record {
  longer = omega (arith, g.longer, h.longer);
  same = λ p l. h.same p (omega (arith, l, g.longer)) ∙ g.same p l;
  reached = λ v r. h.reached v (g.reached v r);
}

-- ---- the steps that were followed

pub followed_more : (g : Signed) (chosen : List Bool) (steps new : List Step) (places later : List (Option ℕ)) (row : List ℕ) (k : ℕ)
    → k < length steps → GoesOn steps new places later → AreFollowed g chosen steps places k
    → ((e : ℕ) → IsAt g chosen (step_at steps k).node e → Contains row e)
    → ((i : ℕ) → i < length row → is_reached later (across (edge_at g (get_or row i 0)) (step_at steps k).node) ≡ true)
    → AreFollowed g chosen new later (k + 1)
followed_more g chosen steps new places later row k inside goes old all reached p h = elim (cases_eq p k) [
  | inl t ↦ λ e at.
      let P : ℕ → Type 0 = λ z. IsAt g chosen z e in
      let node : (step_at new p).node ≡ (step_at steps k).node = ap (λ z. (step_at new z).node) t ∙ ap (λ (z : Step). z.node) (goes.same k inside) in
      let has = all e (subst P node at) in
      let edge : get_or row has.0 0 ≡ e = get_or_default row has.0 0 e has.1 ∙ has.2 in
      ap (λ z. is_reached later (across (edge_at g e) z)) node ∙
      ap (λ z. is_reached later (across (edge_at g z) (step_at steps k).node)) (sym edge) ∙ reached has.0 has.1
  | inr t ↦ λ e at.
      let l : p < k = omega (arith, h, t) in
      let P : ℕ → Type 0 = λ z. IsAt g chosen z e in
      let node : (step_at new p).node ≡ (step_at steps p).node = ap (λ (z : Step). z.node) (goes.same p (omega (arith, l, inside))) in
      ap (λ z. is_reached later (across (edge_at g e) z)) node ∙ goes.reached _ (old p l e (subst P node at))
]

-- each node that edges of the set join with a node that was reached is reached
along : (g : Signed) (chosen : List Bool) (goal : ℕ) (steps : List Step) (places : List (Option ℕ))
    → AreSteps g chosen goal steps places → AreFollowed g chosen steps places (length steps)
    → (es : List ℕ) (v w : ℕ) → is_reached places v ≡ true → IsPath g v es w
    → AllByRecursion (λ e. is_in chosen e ≡ true) es → is_reached places w ≡ true
along g chosen goal steps places s f [] v w r p all = ap (is_reached places) (sym p) ∙ r
along g chosen goal steps places s f (e ∷ es) v w r p all =
    let at = some_of (place_of places v) r in
    let found = s.found v at.0 at.1 in
    let P : ℕ → Type 0 = λ z. IsClosed g chosen places z in
    let closed : IsClosed g chosen places v = subst P found.1 (f at.0 found.0) in
    along g chosen goal steps places s f es (across (edge_at g e) v) w (closed e (p.0, all.0)) p.1 all.1

pub all_reached : (g : Signed) (chosen : List Bool) (goal v : ℕ) (steps : List Step) (places : List (Option ℕ))
    → AreSteps g chosen goal steps places → AreFollowed g chosen steps places (length steps)
    → AreJoined g (is_in chosen) goal v → place_of places v ≡ None → ⊥
all_reached g chosen goal v steps places s f j none =
    let begun : is_reached places goal ≡ true = ap (is_reached places) (sym s.first) ∙ ap is_some (s.noted 0 s.some) in
    true≢false (sym (along g chosen goal steps places s f j.0 goal v begun j.1 (recursion_from_All _ _ j.2)) ∙ ap is_some none)

-- ---- what the functions do

none_of : (o : Option ℕ) → is_some o ≡ false → o ≡ None
none_of None h = refl
none_of (Some p) h = absurd (true≢false h)

pub take_step : (g : Signed) (chosen : List Bool) (goal : ℕ) (steps : List Step) (places : List (Option ℕ)) (place edge node : ℕ)
    → AreSteps g chosen goal steps places → place < length steps
    → IsAt g chosen (step_at steps place).node edge
    → node ≡ across (edge_at g edge) (step_at steps place).node → node < g.nodes
    → is_reached places node ≡ false
    → AreSteps g chosen goal (steps ++ record { node = node; edge = edge; from = place } ∷ []) (set places node (Some (length steps)))
take_step g chosen goal steps places place edge node s inside at there low new =
    let back = over_back g chosen steps (step_at steps place).node edge at in
    taken g chosen goal steps places (record { node = node; edge = edge; from = place }) low (none_of _ new)
    (record {
      earlier = inside;
      at = (ap (leaves g edge) there ∙ back.0, at.1);
      there =
          ap (across (edge_at g edge)) there ∙ back.1;
    }) s
  where
    -- the other end of an edge leads back over it
    over_back : (g : Signed) (chosen : List Bool) (steps : List Step) (v e : ℕ) → IsAt g chosen v e →
        (leaves g e (across (edge_at g e) v) ≡ true) × (across (edge_at g e) (across (edge_at g e) v) ≡ v)
    over_back g chosen steps v e at =
        let a = (edge_at g e).a in
        let b = (edge_at g e).b in
        let parts = and_parts (nat_lt e (length g.edges)) ((a == v) || (b == v)) at.0 in
        let apart : b ≢ a = λ q. omega (arith, (edge_at g e).ordered, q) in
        elim (cases_eq a v) [
          | inl t ↦
              let there : across (edge_at g e) v ≡ b = cond-true (a == v) b a (eq-eqb a v t) in (
                and_from _ _ parts.0 (or_right _ _ (eq-eqb b _ (sym there))),
                ap (across (edge_at g e)) there ∙
                    cond-false (a == b) b a (ne_eqb a b (λ q. apart (sym q))) ∙ t,
              )
          | inr t ↦
              let there : across (edge_at g e) v ≡ a = cond-false (a == v) b a (ne_eqb a v t) in
              let end : b ≡ v = elim (or_cases _ _ parts.1) [ inl q ↦ absurd (t (eqb-true a v q)) | inr q ↦ eqb-true b v q ] in
              (and_from _ _ parts.0 (or_left _ _ (eq-eqb a _ (sym there))), ap (across (edge_at g e)) there ∙ cond-true (a == a) b a (eq-eqb a a refl) ∙ end)
        ]

pub path_back : (g : Signed) (chosen : List Bool) (steps : List Step) (v : ℕ) (edges : List ℕ) (p : ℕ)
    → LeadsBack g chosen steps p (step_at steps p) → IsPath g v edges (step_at steps p).node
    → IsPath g v (edges ++ (step_at steps p).edge ∷ []) (step_at steps (step_at steps p).from).node
path_back g chosen steps v edges p back path =
    let P : ℕ → Type 0 = λ z. IsPath g v (edges ++ (step_at steps p).edge ∷ []) z in
    subst P back.there (path_more g v edges (step_at steps p).node (step_at steps p).edge path back.at.0)

pub edges_back : (g : Signed) (chosen : List Bool) (steps : List Step) (edges : List ℕ) (p : ℕ)
    → LeadsBack g chosen steps p (step_at steps p) → All (λ e. is_in chosen e ≡ true) edges
    → All (λ e. is_in chosen e ≡ true) (edges ++ (step_at steps p).edge ∷ [])
edges_back g chosen steps edges p back all = All-push (λ e. is_in chosen e ≡ true) edges (step_at steps p).edge all back.at.1
