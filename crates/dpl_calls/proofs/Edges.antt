-- Calls are edges between the places of definitions.
use Rattle.std.proofs.Common.{◌≡◌, inl, inr, ℕ, zero, suc, ◌+◌, ◌<◌, Bool, true, false, cond, ◌==◌, nat_eq, List, []}
use Rattle.std.proofs.Common.{◌∷◌, map, length, Option, None, Some, refl, sym, ◌∙◌, ap, subst, arith, get_or}
use Rattle.std.specs.List.{list_any, position}
use Rattle.std.specs.Map.{lookup, keys_of, values_of}
use Rattle.std.proofs.lemmas.List.{length-map}
use Rattle.std.proofs.lemmas.Grind.{common_steps}
use Rattle.indexmap.specs.IndexMap.{keys, values}
use Rattle.dpl_groups.specs.Graph.{next_of, IsEdge, Leads, IsGraph}
use Rattle.dpl_groups.specs.Graph.Leads.{once as edge, more as edge_and}
use Rattle.dpl_calls.specs.declared.entry.Entry.{Entry}
use Rattle.dpl_calls.specs.declared.table.Table.{Table}
use Rattle.dpl_calls.specs.Parts.{Part}
use Rattle.dpl_calls.specs.Parts.Part.{Drawn, Called}
use Rattle.dpl_calls.specs.Loops.{names, calls, Path}
use Rattle.dpl_calls.specs.Loops.Path.{once, more}
use Rattle.dpl_calls.specs.Table.{entry_part, or_nothing, bodies_of}
use Rattle.dpl_calls.specs.Places.{place_among, one_further, with_place, called_places, body_at, graph_of}
use Rattle.dpl_calls.proofs.Cases.{of_eq, to_eq, get_map}
use Rattle.dpl_calls.proofs.LoopPaths.{placed_key}
use Rattle.std.proofs.lemmas.Bool.{or_left, or_right, or_cases}

-- what a place gives
pub placed_value : (n i : ℕ) (es : List (ℕ × List Entry)) → place_among n (keys_of es) ≡ Some i → or_nothing (lookup (nat_eq n) es) ≡ get_or (values_of es) i []
placed_value n i [] h = cc
placed_value n i (e ∷ es) h = by (nat_eq n e.0) h (place_among n (keys_of es)) refl (λ j q. placed_value n j es q)
  where
    by : (b : Bool) → cond b (Some 0) (one_further (place_among n (keys_of es))) ≡ Some i → (o : Option ℕ) →
        place_among n (keys_of es) ≡ o → ((j : ℕ) → place_among n (keys_of es) ≡ Some j →
        or_nothing (lookup (nat_eq n) es) ≡ get_or (values_of es) j []) →
        or_nothing (cond b (Some e.1) (lookup (nat_eq n) es)) ≡ get_or (e.1 ∷ values_of es) i []
    by true f o q ih = let z : 0 ≡ i = cc in subst (λ (k : ℕ). e.1 ≡ get_or (e.1 ∷ values_of es) k []) z refl
    by false f None q ih = let bad : one_further None ≡ Some i = subst (λ (p : Option ℕ). one_further p ≡ Some i) q f in cc
    by false f (Some j) q ih =
        let same : Some (j + 1) ≡ Some i = subst (λ (p : Option ℕ). one_further p ≡ Some i) q f in
        let k : suc j ≡ i = (let t : j + 1 ≡ i = cc in omega arith) in
        subst (λ (m : ℕ). or_nothing (lookup (nat_eq n) es) ≡ get_or (e.1 ∷ values_of es) m []) k (ih j q)

pub absent_value : (n : ℕ) (es : List (ℕ × List Entry)) → place_among n (keys_of es) ≡ None → or_nothing (lookup (nat_eq n) es) ≡ []
absent_value n [] h = refl
absent_value n (e ∷ es) h = by (nat_eq n e.0) h (place_among n (keys_of es)) refl (λ q. absent_value n es q)
  where
    by : (b : Bool) → cond b (Some 0) (one_further (place_among n (keys_of es))) ≡ None → (o : Option ℕ) →
        place_among n (keys_of es) ≡ o → (place_among n (keys_of es) ≡ None → or_nothing (lookup (nat_eq n) es) ≡ []) →
        or_nothing (cond b (Some e.1) (lookup (nat_eq n) es)) ≡ []
    by true f o q ih = cc
    by false f None q ih = ih q
    by false f (Some j) q ih = let bad : one_further (Some j) ≡ None = subst (λ (p : Option ℕ). one_further p ≡ None) q f in cc

module _ (t : Table) where
  abbrev numbers : List ℕ
  numbers = keys t.definitions

  pub body_placed : (n i : ℕ) → place_among n numbers ≡ Some i → bodies_of t (Some n) ≡ body_at t i
  body_placed n i h = ap (λ (es : List Entry). map entry_part es) (placed_value n i t.definitions.entries h)

  pub body_absent : (n : ℕ) → place_among n numbers ≡ None → bodies_of t (Some n) ≡ []
  body_absent n h = ap (λ (es : List Entry). map entry_part es) (absent_value n t.definitions.entries h)

  pub next_is : (x : ℕ) → next_of (graph_of t) x ≡ called_places numbers (body_at t x)
  next_is x = get_map (λ es. called_places numbers (map entry_part es)) (values t.definitions) x []

  pub graph_size : length (graph_of t) ≡ length t.definitions.entries
  graph_size = length-map (values t.definitions) (λ es. called_places numbers (map entry_part es)) ∙ length-map t.definitions.entries (λ e. e.1)

  numbers_size : length numbers ≡ length t.definitions.entries
  numbers_size = length-map t.definitions.entries (λ e. e.0)

  pub record At (y : ℕ) (places : List ℕ) : Type 0 where
    pub k : ℕ
    pub within : k < length places
    pub there : get_or places k 0 ≡ y

  at_later : (y : ℕ) (o : Option ℕ) (places : List ℕ) → At y places → At y (with_place o places)
  at_later y None places a = a
  at_later y (Some i) places a = record { k = suc a.k; within = omega (arith, a.within); there = a.there }

  pub edge_in : (m y : ℕ) → place_among m numbers ≡ Some y → (parts : List Part) → list_any (names m) parts ≡ true → At y (called_places numbers parts)
  edge_in m y h [] c = cc
  edge_in m y h (Drawn f ∷ ps) c = edge_in m y h ps c
  edge_in m y h (Called n moves ∷ ps) c = elim (or_cases (n == m) (list_any (names m) ps) c) [
    | inl e ↦ subst (λ (o : Option ℕ). At y (with_place o (called_places numbers ps)))
        (sym (ap (λ (k : ℕ). place_among k numbers) (of_eq n m e) ∙ h))
        (record { k = 0; within = omega arith; there = refl })
    | inr later ↦ at_later y (place_among n numbers) (called_places numbers ps) (edge_in m y h ps later)
  ]

  pub record Named (y : ℕ) (parts : List Part) : Type 0 where
    pub m : ℕ
    pub named : list_any (names m) parts ≡ true
    pub place : place_among m numbers ≡ Some y

  named_later : (y : ℕ) (p : Part) (parts : List Part) → Named y parts → Named y (p ∷ parts)
  named_later y p parts d = record { m = d.m; named = or_right (names d.m p) (list_any (names d.m) parts) d.named; place = d.place }

  pub edge_out : (parts : List Part) (k : ℕ) → k < length (called_places numbers parts) → Named (get_or (called_places numbers parts) k 0) parts
  edge_out [] k h = absurd (omega arith)
  edge_out (Drawn f ∷ ps) k h = named_later (get_or (called_places numbers ps) k 0) (Drawn f) ps (edge_out ps k h)
  edge_out (Called n moves ∷ ps) k h = by (place_among n numbers) refl k h (λ j l. edge_out ps j l)
    where
      by : (o : Option ℕ) → place_among n numbers ≡ o → (k : ℕ) → k < length (with_place o (called_places numbers ps)) →
          ((j : ℕ) → j < length (called_places numbers ps) → Named (get_or (called_places numbers ps) j 0) ps) →
          Named (get_or (with_place o (called_places numbers ps)) k 0) (Called n moves ∷ ps)
      by None e k h ih = named_later (get_or (called_places numbers ps) k 0) (Called n moves) ps (ih k h)
      by (Some i) e zero h ih = record { m = n; named = or_left (n == n) (list_any (names n) ps) (to_eq n n refl); place = e }
      by (Some i) e (suc k) h ih = named_later (get_or (called_places numbers ps) k 0) (Called n moves) ps (ih k (omega arith))

  pub edge_names : (x y : ℕ) → IsEdge (graph_of t) x y → Named y (body_at t x)
  edge_names x y e =
      let within : e.k < length (called_places numbers (body_at t x)) = subst (λ (ps : List ℕ). e.k < length ps) (next_is x) e.within in
      let there : get_or (called_places numbers (body_at t x)) e.k 0 ≡ y = subst (λ (ps : List ℕ). get_or ps e.k 0 ≡ y) (next_is x) e.there in
      subst (λ (z : ℕ). Named z (body_at t x)) there (edge_out (body_at t x) e.k within)

  pub call_edge : (n m x y : ℕ) → place_among n numbers ≡ Some x → place_among m numbers ≡ Some y → calls (bodies_of t) n m ≡ true → IsEdge (graph_of t) x y
  call_edge n m x y hx hy c =
      let a : At y (called_places numbers (body_at t x)) =
      edge_in m y hy (body_at t x) (subst (λ (ps : List Part). list_any (names m) ps ≡ true) (body_placed n x hx) c)
      in record {
        k = a.k;
        within = subst (λ (ps : List ℕ). a.k < length ps) (sym (next_is x)) a.within;
        there = subst (λ (ps : List ℕ). get_or ps a.k 0 ≡ y) (sym (next_is x)) a.there;
      }

  edge_call : (n x y : ℕ) → place_among n numbers ≡ Some x → (d : Named y (body_at t x)) → calls (bodies_of t) n d.m ≡ true
  edge_call n x y hx d = subst (λ (ps : List Part). list_any (names d.m) ps ≡ true) (sym (body_placed n x hx)) d.named

  same_number : (n m y : ℕ) → place_among n numbers ≡ Some y → place_among m numbers ≡ Some y → n ≡ m
  same_number n m y hn hm = sym (placed_key n y numbers hn).1 ∙ (placed_key m y numbers hm).1

  pub leads_path : (n m x y : ℕ) → place_among n numbers ≡ Some x → place_among m numbers ≡ Some y → Leads (graph_of t) x y → Path (bodies_of t) n m
  leads_path n m _ _ hn hm (edge x y e) =
      let d : Named y (body_at t x) = edge_names x y e in
      once n m (subst (λ (k : ℕ). calls (bodies_of t) n k ≡ true) (same_number d.m m y d.place hm) (edge_call n x y hn d))
  leads_path n m _ _ hn hm (edge_and x y z e p) =
      let d : Named y (body_at t x) = edge_names x y e in
      more n d.m m (edge_call n x y hn d) (leads_path d.m m y z d.place hm p)

  -- what calls something has a place
  pub record HasPlace (n : ℕ) : Type 0 where
    pub place : ℕ
    pub there : place_among n numbers ≡ Some place

  pub caller_place : (n m : ℕ) → calls (bodies_of t) n m ≡ true → HasPlace n
  caller_place n m c = by (place_among n numbers) refl
    where
      by : (o : Option ℕ) → place_among n numbers ≡ o → HasPlace n
      by None h = let bad : list_any (names m) [] ≡ true = subst (λ (ps : List Part). list_any (names m) ps ≡ true) (body_absent n h) c in cc
      by (Some i) h = record { place = i; there = h }

  pub path_place : (n m : ℕ) → Path (bodies_of t) n m → HasPlace n
  path_place _ _ (once n m c) = caller_place n m c
  path_place _ _ (more n k m c p) = caller_place n k c

  pub path_leads : (n m x y : ℕ) → place_among n numbers ≡ Some x → place_among m numbers ≡ Some y → Path (bodies_of t) n m → Leads (graph_of t) x y
  path_leads _ _ x y hn hm (once n m c) = edge x y (call_edge n m x y hn hm c)
  path_leads _ _ x y hn hm (more n k m c p) =
      let at : HasPlace k = path_place k m p in
      edge_and x at.place y (call_edge n k x at.place hn at.there c) (path_leads k m at.place y at.there hm p)

  pub is_graph : IsGraph (graph_of t)
  is_graph x y e =
      let d : Named y (body_at t x) = edge_names x y e in
      let at = placed_key d.m y numbers d.place in
      let s : length (graph_of t) ≡ length t.definitions.entries = graph_size in
      let q : length numbers ≡ length t.definitions.entries = numbers_size in
      omega (arith, at.0)

-- the library's place of a number
pub position_is : (n : ℕ) (ks : List ℕ) → position (nat_eq n) ks ≡ place_among n ks
position_is n [] = refl
position_is n (k ∷ ks) = grind (arith, common_steps, position_is n ks)
