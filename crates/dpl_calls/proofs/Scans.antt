-- What a scanned layout gives.
use Rattle.std.proofs.Common.{◌≡◌, inl, inr, ℕ, zero, suc, ◌+◌, ◌<◌, Bool, true, false, cond, ◌==◌, nat_eq, List, []}
use Rattle.std.proofs.Common.{◌∷◌, length, Option, None, Some, Result, refl, sym, ◌∙◌, ap, subst, arith, get_or}
use Rattle.std.specs.List.{list_any, IsDistinct, AllByRecursion}
use Rattle.std.proofs.Math.Nat.{eq-or-lt_of_le}
use Rattle.std.proofs.lemmas.List.{length-map, get_or_past}
use mathlib.Core.Path.{fun_ext}
use Rattle.indexmap.specs.IndexMap.{keys}
use Rattle.dpl_lex.specs.declared.types.Ending.{Ending}
use Rattle.dpl_rules.specs.declared.command.Command.{Command}
use Rattle.dpl_rules.specs.declared.what.What.{What}
use Rattle.dpl_rules.specs.declared.what.What.TheVariants.{Loop}
use Rattle.dpl_rules.specs.Rules.{fault, at_first}
use Rattle.dpl_groups.specs.Graph.{next_of}
use Rattle.dpl_groups.specs.Groups.{AreGroups}
use Rattle.dpl_calls.specs.declared.table.CallSite.{CallSite}
use Rattle.dpl_calls.specs.declared.table.Table.{Table}
use Rattle.dpl_calls.specs.Parts.{Part, is_same, parts_from}
use Rattle.dpl_calls.specs.Loops.{names, calls, sites_from, first_site, is_looped}
use Rattle.dpl_calls.specs.Table.{bodies_of}
use Rattle.dpl_calls.specs.Places.{place_among, one_further, body_at, graph_of}
use Rattle.dpl_calls.specs.Counted.{HasNoLoop}
use Rattle.dpl_calls.specs.Scanned.{IsScanned}
use Rattle.dpl_calls.proofs.Cases.{of_eq, to_eq}
use Rattle.dpl_calls.proofs.Edges.{is_graph, edge_names, Named, graph_size, body_placed}
use Rattle.dpl_calls.proofs.Sites.{is_from, calls_are_sites}
use Rattle.dpl_calls.proofs.Groups.{same_group}
use Rattle.std.proofs.lemmas.Bool.{and_parts, or_cases, cases_Bool}
use Rattle.dpl_groups.proofs.Reach.{cases_le}

some_same : (d : ℕ) (o : Option ℕ) → is_same (Some d) o ≡ true → o ≡ Some d
some_same d None h = cc
some_same d (Some n) h = ap (λ (k : ℕ). Some k) (sym (of_eq d n h))

pub record FromSites (d e : ℕ) (sites : List CallSite) (test : CallSite → Bool) : Type 0 where
  pub site : CallSite
  pub stands : site.definition ≡ Some d
  pub named : site.called ≡ e
  pub passes : test site ≡ false

-- a call among those of which none passes a test
none_first : (test : CallSite → Bool) (what : What) (d e : ℕ) (sites : List CallSite)
    → first_site test what sites ≡ None → list_any (is_from d e) sites ≡ true → FromSites d e sites test
none_first test what d e [] h f = cc
none_first test what d e (s ∷ ss) h f = by (test s) refl h (λ q g. none_first test what d e ss q g)
  where
    by : (b : Bool) → test s ≡ b → cond b (Some (fault s.at what)) (first_site test what ss) ≡ None →
        (first_site test what ss ≡ None → list_any (is_from d e) ss ≡ true → FromSites d e ss test) →
        FromSites d e (s ∷ ss) test
    by true t g ih = cc
    by false t g ih = elim (or_cases (is_from d e s) (list_any (is_from d e) ss) f) [
      | inl here ↦ let p = and_parts (is_same (Some d) s.definition) (s.called == e) here in
          record { site = s; stands = some_same d s.definition p.0; named = of_eq s.called e p.1; passes = t }
      | inr later ↦ let r : FromSites d e ss test = ih g later in record { site = r.site; stands = r.stands; named = r.named; passes = r.passes }
    ]

-- among different numbers each is found at its place
place_of_key : (ks : List ℕ) (x : ℕ) → IsDistinct nat_eq ks → x < length ks → place_among (get_or ks x 0) ks ≡ Some x
unfolding IsDistinct
place_of_key [] x d h = absurd (omega arith)
place_of_key (k ∷ ks) zero d h = rw (to_eq k k refl) refl
place_of_key (k ∷ ks) (suc x) d h =
    let n : ℕ = get_or ks x 0 in
    let apart : (k == n) ≡ false = differs (λ y. nat_eq k y ≡ false) ks x d.0 (omega arith) in
    let other : (n == k) ≡ false = flip n k apart in
    let one : suc x ≡ x + 1 = omega arith in
    (ap (λ (b : Bool). cond b (Some 0) (one_further (place_among n ks))) other ∙
    ap one_further (place_of_key ks x d.1 (omega arith))) ∙ ap (λ (m : ℕ). Some m) (sym one)
  where
    differs : (P : ℕ → Type 0) (ks : List ℕ) (x : ℕ) → AllByRecursion P ks → x < length ks → P (get_or ks x 0)
    differs P [] x a h = absurd (omega arith)
    differs P (k ∷ ks) zero a h = a.0
    differs P (k ∷ ks) (suc x) a h = differs P ks x a.1 (omega arith)

    flip : (n k : ℕ) → (k == n) ≡ false → (n == k) ≡ false
    flip n k h = elim (cases_Bool (n == k)) [ inl e ↦ let bad : true ≡ false = sym (to_eq k n (sym (of_eq n k e))) ∙ h in cc | inr e ↦ e ]

module _ (chosen : List ℕ) (all : List (Result Command What)) (ending : Ending) (t : Table) (s : IsScanned chosen all ending t) where
  pub bodies_same : bodies_of t ≡ parts_from chosen at_first all
  bodies_same = fun_ext s.bodies

  abbrev sites : List CallSite
  sites = sites_from chosen at_first 1 all

  calls_sites : (d e : ℕ) → calls (bodies_of t) d e ≡ list_any (is_from d e) sites
  calls_sites d e = ap (λ (ps : List Part). list_any (names e) ps) (s.bodies (Some d)) ∙ calls_are_sites chosen d e at_first 1 all

  -- where no call leads back, no edge stays in its group
  pub no_loop : (labels heads : List ℕ) → IsDistinct nat_eq (keys t.definitions) → AreGroups (graph_of t) labels heads →
      first_site (is_looped (length (keys t.definitions)) (bodies_of t)) Loop sites ≡ None →
      HasNoLoop (graph_of t) labels
  no_loop labels heads distinct G none x y e = elim (eq-or-lt_of_le (G.downward x y inside e)) [ inl same ↦ absurd (looped same) | inr less ↦ less ]
    where
      inside : x < length (graph_of t)
      inside = elim (cases_le (length (graph_of t)) x) [
        | inl le ↦ let z : next_of (graph_of t) x ≡ [] = get_or_past (graph_of t) x [] le in
            let w : e.k < length (next_of (graph_of t) x) = e.within in let bad : e.k < 0 =
            subst (λ (ps : List ℕ). e.k < length ps) z w in absurd (omega arith)
        | inr lt ↦ lt
      ]

      looped : get_or labels y 0 ≡ get_or labels x 0 → ⊥
      looped same =
          let size : length (graph_of t) ≡ length t.definitions.entries = graph_size t in
          let count : length (keys t.definitions) ≡ length t.definitions.entries = length-map t.definitions.entries (λ e. e.0) in
          let n : ℕ = get_or (keys t.definitions) x 0 in
          let hx : place_among n (keys t.definitions) ≡ Some x = place_of_key (keys t.definitions) x distinct (omega (arith, size, count, inside)) in
          let d : Named t y (body_at t x) = edge_names t x y e in
          let call : calls (bodies_of t) n d.m ≡ true = subst (λ (ps : List Part). list_any (names d.m) ps ≡ true) (sym (body_placed t n x hx)) d.named in
          let f : FromSites n d.m sites (is_looped (length (keys t.definitions)) (bodies_of t)) =
          none_first (is_looped (length (keys t.definitions)) (bodies_of t)) Loop n d.m sites none
          (sym (calls_sites n d.m) ∙ call) in
          let hy : place_among f.site.called (keys t.definitions) ≡ Some y = ap (λ (k : ℕ). place_among k (keys t.definitions)) f.named ∙ d.place in
          let site : calls (bodies_of t) n f.site.called ≡ true = subst (λ (k : ℕ). calls (bodies_of t) n k ≡ true) (sym f.named) call in
          let group : (get_or labels x 0 == get_or labels y 0) ≡ is_looped (length (keys t.definitions)) (bodies_of t)
          f.site = same_group t labels heads G (is_graph t) f.site n x y f.stands hx hy site in
          let yes : true ≡ is_looped (length (keys t.definitions)) (bodies_of t) f.site =
          sym (to_eq (get_or labels x 0) (get_or labels y 0) (sym same)) ∙ group in
          let no : true ≡ false = yes ∙ f.passes in cc
