-- The list of the kept edges while it grows.
use Rattle.std.proofs.Common.{arith, ◌≡◌, ◌≢◌, ◌⊎◌, true, ℕ, zero, suc, ◌+◌, ◌<◌, ◌≤◌, refl, sym, ap, ◌∙◌}
use Rattle.std.proofs.Common.{Bool, not, inl, inr, List, [], ◌∷◌, ◌++◌, length, subst, length-append}
use Rattle.std.proofs.lemmas.Bool.{cases_Bool, cond-true, cond-false}
use Rattle.dpl_cycle.specs.Sums.{count_on}
use Rattle.dpl_sign.specs.declared.nets.Net.{Net}
use Rattle.dpl_sign.specs.Drawings.{is_in}
use Rattle.dpl_sign.specs.Excess.{kept_before, kept_edges, raises_excess, aside_before, aside_edges, is_aside}
use Rattle.dpl_sign.proofs.ExcessLemmas.{kept_length}
use Rattle.dpl_drawing.specs.Drawn.{IsDrawn}

-- the entry of the next edge tells whether it is kept
pub kept_step : (net : Net) (kept slice new : List Bool) (n : ℕ) (drawn : Bool) → kept ≡ kept_before net n
    → slice ≡ kept → drawn ≡ not (raises_excess net slice) → new ≡ kept ++ drawn ∷ []
    → new ≡ kept_before net (suc n)
kept_step net kept slice new n drawn same es h e =
    e ∙ ap (λ (xs : List Bool). xs ++ drawn ∷ []) same ∙
    ap (λ b. kept_before net n ++ b ∷ []) (h ∙ ap (λ (xs : List Bool). not (raises_excess net xs)) (es ∙ same))

-- a drawing of an equal list of kept edges is the same
pub drawn_at : (net : Net) (xs ys : List Bool) (faces parts : List ℕ) (components : ℕ) → xs ≡ ys
    → IsDrawn net (is_in ys) faces parts components → IsDrawn net (is_in xs) faces parts components
drawn_at net xs ys faces parts components e k = let P : List Bool → Type 0 = λ zs. IsDrawn net (is_in zs) faces parts components in subst P (sym e) k

-- after n edges the list has n entries
pub kept_size : (net : Net) (xs ys : List Bool) (n : ℕ) → xs ≡ ys → ys ≡ kept_before net n → length xs ≡ n
kept_size net xs ys n e k = ap length (e ∙ k) ∙ kept_length net n

-- the edges set aside and those that are kept are all edges
pub aside_count : (net : Net) (n : ℕ) → length (aside_before net n) + count_on (is_in (kept_edges net)) n ≡ n
aside_count net zero = refl
aside_count net (suc n) =
    let rest = aside_count net n in
    let p = is_in (kept_edges net) in
    elim (cases_Bool (p n)) [
      | inl t ↦
          let same : aside_before net (suc n) ≡ aside_before net n = cond-false (is_aside net n) _ _ (ap not t) in
          omega (arith, rest, ap length same, cond-true {A = ℕ} (p n) 1 0 t)
      | inr t ↦
          let more : aside_before net (suc n) ≡ aside_before net n ++ n ∷ [] = cond-true (is_aside net n) _ _ (ap not t) in
          omega (arith, rest, ap length more, length-append (aside_before net n) (n ∷ []), cond-false {A = ℕ} (p n) 1 0 t)
    ]

-- no more edges are set aside than there are
pub aside_few : (net : Net) → length (aside_edges net) ≤ length net.graph.edges
aside_few net = omega (arith, aside_count net (length net.graph.edges))

same_or_not : (i j : ℕ) → (i ≡ j) ⊎ (i ≢ j)
same_or_not i j = search arith

-- where none of the first edges is set aside, each of them is kept
none_aside : (net : Net) (n e : ℕ) → aside_before net n ≡ [] → e < n → is_in (kept_edges net) e ≡ true
none_aside net zero e h l = absurd (omega (arith, l))
none_aside net (suc n) e h l =
    let p = is_in (kept_edges net) in
    elim (cases_Bool (p n)) [
      | inl t ↦
          let same : aside_before net (suc n) ≡ aside_before net n = cond-false (is_aside net n) _ _ (ap not t) in
          elim (same_or_not e n) [
            | inl r ↦ ap p r ∙ t
            | inr r ↦ none_aside net n e (sym same ∙ h) (omega (arith, l, r))
          ]
      | inr t ↦
          let more : aside_before net (suc n) ≡ aside_before net n ++ n ∷ [] = cond-true (is_aside net n) _ _ (ap not t) in
          absurd (omega (arith, ap length h, ap length more, length-append (aside_before net n) (n ∷ [])))
    ]

-- where no edge is set aside, each is kept
pub all_kept : (net : Net) (aside : List ℕ) → aside ≡ aside_edges net → length aside ≡ 0
    → (e : ℕ) → e < length net.graph.edges → is_in (kept_edges net) e ≡ true
all_kept net [] h n e l = none_aside net (length net.graph.edges) e (sym h) l
all_kept net (a ∷ aside) h n e l = absurd (omega (arith, n))
