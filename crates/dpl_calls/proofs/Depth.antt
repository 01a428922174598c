-- Where no call leads back, deeper calls give the same figures.
use Rattle.std.proofs.Common.{◌≡◌, ℕ, zero, suc, ◌+◌, ◌≤◌, ◌<◌, true, ◌==◌, List, [], ◌∷◌, ◌++◌, length, Option, None, Some, refl, sym, ◌∙◌, ap, arith, get_or}
use Rattle.std.specs.List.{list_any, flat_map}
use Rattle.std.proofs.lemmas.Bool.{or_left, or_right}
use Rattle.std.proofs.lemmas.List.{length-map}
use Rattle.indexmap.specs.IndexMap.{keys}
use Rattle.dpl_groups.specs.Groups.{AreGroups}
use Rattle.dpl_calls.specs.declared.figure.Corner.{Corner}
use Rattle.dpl_calls.specs.declared.figure.Figure.{Figure}
use Rattle.dpl_calls.specs.declared.table.Table.{Table}
use Rattle.dpl_calls.specs.Parts.{Part, Bodies}
use Rattle.dpl_calls.specs.Parts.Part.{Drawn, Called}
use Rattle.dpl_calls.specs.Loops.{names}
use Rattle.dpl_calls.specs.Totals.{own_calls}
use Rattle.dpl_calls.specs.Table.{bodies_of}
use Rattle.dpl_calls.specs.Places.{place_among, body_at, graph_of}
use Rattle.dpl_calls.specs.Counted.{HasNoLoop}
use Rattle.dpl_calls.specs.Unfolding.{placed, part_figures, figures_of}
use Rattle.dpl_calls.proofs.Cases.{to_eq}
use Rattle.dpl_calls.proofs.LoopPaths.{placed_key}
use Rattle.dpl_calls.proofs.Edges.{body_placed, body_absent}
use Rattle.dpl_calls.proofs.Stable.{callee_low, label_few}

-- figures are the same where they are the same of what is called
figures_same : (b : Bodies) (inner other : (Corner → Corner) → List Part → List Figure) (place : Corner → Corner) (parts : List Part)
    → ((m : ℕ) → list_any (names m) parts ≡ true → (f : Corner → Corner) → inner f (b (Some m)) ≡ other f (b (Some m)))
    → flat_map (part_figures b inner place) parts ≡ flat_map (part_figures b other place) parts
figures_same b inner other place [] same = refl
figures_same b inner other place (Drawn x ∷ ps) same =
    ap (λ (fs : List Figure). (placed place x ∷ []) ++ fs)
    (figures_same b inner other place ps (λ m c. same m (or_right (names m (Drawn x)) (list_any (names m) ps) c)))
figures_same b inner other place (Called n moves ∷ ps) same =
    let here : inner (λ c. place (moves c)) (b (Some n)) ≡ other (λ c. place (moves c)) (b (Some n)) =
    same n (or_left (n == n) (list_any (names n) ps) (to_eq n n refl)) (λ c. place (moves c)) in
    let rest : flat_map (part_figures b inner place) ps ≡ flat_map (part_figures b other place) ps =
    figures_same b inner other place ps (λ m c. same m (or_right (n == m) (list_any (names m) ps) c)) in
    ap (λ (fs : List Figure). fs ++ flat_map (part_figures b inner place) ps) here ∙
    ap (λ (fs : List Figure). other (λ c. place (moves c)) (b (Some n)) ++ fs) rest

figures_nil : (b : Bodies) (k : ℕ) (place : Corner → Corner) → figures_of k b place [] ≡ []
figures_nil b zero place = refl
figures_nil b (suc k) place = refl

module _ (t : Table) (labels heads : List ℕ) (G : AreGroups (graph_of t) labels heads) (none : HasNoLoop (graph_of t) labels) where
  abbrev b : Bodies
  b = bodies_of t

  abbrev count : ℕ
  count = length t.definitions.entries

  -- a definition is as deep as its label
  settled : (j x : ℕ) (place : Corner → Corner) → get_or labels x 0 < j → figures_of j b place (body_at t x) ≡ figures_of (suc j) b place (body_at t x)
  settled zero x place h = absurd (omega arith)
  settled (suc j) x place h = figures_same b (figures_of j b) (figures_of (suc j) b) place (body_at t x)
      (λ m c f. by m c f (place_among m (keys t.definitions)) refl (λ y l. settled j y f l))
    where
      by : (m : ℕ) → list_any (names m) (body_at t x) ≡ true → (f : Corner → Corner) → (o : Option ℕ) →
          place_among m (keys t.definitions) ≡ o → ((y : ℕ) → get_or labels y 0 < j →
          figures_of j b f (body_at t y) ≡ figures_of (suc j) b f (body_at t y)) →
          figures_of j b f (b (Some m)) ≡ figures_of (suc j) b f (b (Some m))
      by m c f None e ih = rw (body_absent t m e) (figures_nil b j f ∙ sym (figures_nil b (suc j) f))
      by m c f (Some y) e ih =
          let low : get_or labels y 0 < get_or labels x 0 = callee_low own_calls t labels heads G none x m y c e in
          rw (body_placed t m y e) (ih y (omega arith))

  -- and what stands outside definitions is no deeper than there are definitions
  one_deeper : (k : ℕ) (place : Corner → Corner) (parts : List Part) → count ≤ k → figures_of (suc k) b place parts ≡ figures_of (suc (suc k)) b place parts
  one_deeper k place parts h = figures_same b (figures_of k b) (figures_of (suc k) b) place parts (λ m c f. by m f (place_among m (keys t.definitions)) refl)
    where
      by : (m : ℕ) (f : Corner → Corner) → (o : Option ℕ) → place_among m (keys t.definitions) ≡ o →
          figures_of k b f (b (Some m)) ≡ figures_of (suc k) b f (b (Some m))
      by m f None q = rw (body_absent t m q) (figures_nil b k f ∙ sym (figures_nil b (suc k) f))
      by m f (Some y) q =
          let at = placed_key m y (keys t.definitions) q in
          let size : length (keys t.definitions) ≡ count = length-map t.definitions.entries (λ e. e.0) in
          let inside : y < count = omega (arith, at.0) in
          let few : get_or labels y 0 < count = label_few own_calls t labels heads G none y inside in
          rw (body_placed t m y q) (settled k y f (omega arith))

  deeper_from : (d : ℕ) (place : Corner → Corner) (parts : List Part) → figures_of (suc (count + d)) b place parts ≡ figures_of (suc count) b place parts
  deeper_from zero place parts = let e : count + 0 ≡ count = omega arith in rw e refl
  deeper_from (suc d) place parts =
      let e : count + suc d ≡ suc (count + d) = omega arith in
      rw e (sym (one_deeper (count + d) place parts (omega arith)) ∙ deeper_from d place parts)

  pub deeper : (d : ℕ) (place : Corner → Corner) (parts : List Part) → figures_of (count + 1 + d) b place parts ≡ figures_of (count + 1) b place parts
  deeper d place parts =
      let e : count + 1 + d ≡ suc (count + d) = omega arith in
      let f : count + 1 ≡ suc count = omega arith in
      rw (e, f) (deeper_from d place parts)
