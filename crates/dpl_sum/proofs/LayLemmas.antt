-- Colours of parts, laid at their nodes one part after another.
use Rattle.std.proofs.Common.{arith, ◌≡◌, ◌≢◌, ℕ, zero, suc, ◌+◌, ◌<◌, ◌≤◌, Bool, false, inl, inr, List, [], ◌∷◌, ◌++◌}
use Rattle.std.proofs.Common.{length, map, refl, sym, ap, subst, ◌∙◌, take, length-set, get_or-set_same}
use Rattle.std.proofs.Common.{get_or-set_other}
use Rattle.std.specs.Prelude.{slice_index_or}
use Rattle.std.proofs.lemmas.Bool.{cases_eq}
use Rattle.std.proofs.lemmas.List.{append-nil, append_assoc, map-append, take_more, length-map, get_or-map, get_or_default}
use Rattle.dpl_sign.specs.declared.nets.Net.{Net}
use Rattle.dpl_sign.specs.Colourings.{colour_of}
use Rattle.dpl_parts.specs.Parts.{IsPartOf}
use Rattle.dpl_parts.specs.Shares.{Part, ShareOut, AgreeWith, renumbered, all_cycles}
use Rattle.dpl_sum.specs.declared.combining.SolvedPart.{SolvedPart}
use Rattle.dpl_sum.specs.Laying.{solved_part, laid, with_part, AgreeBelow}

pub laid_long : (place : ℕ → ℕ) (own : ℕ → Bool) (colours : List Bool) (n : ℕ) → length (laid place own colours n) ≡ length colours
laid_long place own colours zero = refl
laid_long place own colours (suc n) = length-set (laid place own colours n) (place n) (own n) ∙ laid_long place own colours n

laid_other : (place : ℕ → ℕ) (own : ℕ → Bool) (colours : List Bool) (n w : ℕ)
    → ((v : ℕ) → v < n → place v ≢ w) → colour_of (laid place own colours n) w ≡ colour_of colours w
laid_other place own colours zero w none = refl
laid_other place own colours (suc n) w none = get_or-set_other (laid place own colours n) (place n) w (own n) false
    (λ e. none n (omega arith) (sym e)) ∙ laid_other place own colours n w (λ v l. none v (omega arith))

laid_at : (place : ℕ → ℕ) (own : ℕ → Bool) (colours : List Bool) (n : ℕ)
    → ((v : ℕ) → v < n → place v < length colours) → ((u v : ℕ) → u < n → v < n → place u ≡ place v → u ≡ v)
    → (v : ℕ) → v < n → colour_of (laid place own colours n) (place v) ≡ own v
laid_at place own colours zero inside one v l = absurd (omega arith)
laid_at place own colours (suc n) inside one v l = elim (cases_eq v n) [
  | inl e ↦
      let size = laid_long place own colours n in
      let low = inside n (omega arith) in
      ap (λ z. colour_of (laid place own colours (suc n)) (place z)) e ∙
      get_or-set_same (laid place own colours n) (place n) (own n) false (omega (arith, size, low)) ∙ ap own (sym e)
  | inr k ↦
      get_or-set_other (laid place own colours n) (place n) (place v) (own n) false (λ e. k (one v n (omega arith) (omega arith) e))
      ∙ laid_at place own colours n (λ u m. inside u (omega arith)) (λ u w a b. one u w (omega arith) (omega arith)) v (omega (arith, l, k))
]

pub with_part_long : (p : Part) (colours : List Bool) → length (with_part p colours) ≡ length colours
with_part_long p colours = laid_long p.node (colour_of p.colours) colours p.net.graph.nodes

-- one part more
pub agree_more : (whole : Net) (parts : List Part) → ShareOut whole parts → (colours new : List Bool) (n : ℕ)
    → length colours ≡ whole.graph.nodes → n < length parts → AgreeBelow colours parts n → (p : Part)
    → p ≡ slice_index_or parts n p → new ≡ with_part p colours → AgreeBelow new parts (n + 1)
agree_more whole parts h colours new n size inside before p is new_is k d l v m =
    let q = slice_index_or parts k d in
    let at : p ≡ slice_index_or parts n d = is ∙ get_or_default parts n p d inside in
    let own : IsPartOf (slice_index_or parts n d).net whole (slice_index_or parts n d).node (slice_index_or parts n d).edge = h.are n d inside in
    let new_at : new ≡ with_part (slice_index_or parts n d) colours = new_is ∙ ap (λ z. with_part z colours) at in
    elim (cases_eq k n) [
      | inl e ↦
          let P : ℕ → Type 0 = λ z. (v : ℕ) → v < (slice_index_or parts z d).net.graph.nodes →
          colour_of new ((slice_index_or parts z d).node v) ≡ colour_of (slice_index_or parts z d).colours v in
          subst P (sym e) (λ u b. ap (λ (xs : List Bool). colour_of xs ((slice_index_or parts n d).node u)) new_at ∙
          laid_at (slice_index_or parts n d).node (colour_of (slice_index_or parts n d).colours) colours
          (slice_index_or parts n d).net.graph.nodes (λ z c. let i = own.nodes z c in omega (arith, i, size))
          own.apart u b) v m
      | inr e ↦
          let low : k < n = omega (arith, l, e) in
          let away : (u : ℕ) → u < (slice_index_or parts n d).net.graph.nodes →
          (slice_index_or parts n d).node u ≢ q.node v = λ u b r. h.apart k n d low inside v u m b (sym r) in
          ap (λ (xs : List Bool). colour_of xs (q.node v)) new_at ∙
          laid_other (slice_index_or parts n d).node (colour_of (slice_index_or parts n d).colours) colours
          (slice_index_or parts n d).net.graph.nodes (q.node v) away ∙ before k d low v m
    ]

pub agree_all : (parts : List Part) (colours : List Bool) (n : ℕ) → length parts ≤ n → AgreeBelow colours parts n → AgreeWith colours parts
agree_all parts colours n far h k d l = h k d (omega (arith, l, far))

-- ---- the list of the parts

pub solved_at : (parts : List SolvedPart) (i : ℕ) (s : SolvedPart) → i < length parts
    → s ≡ slice_index_or parts i s → solved_part s ≡ slice_index_or (map solved_part parts) i (solved_part s)
solved_at parts i s l e = ap solved_part e ∙ sym (get_or-map solved_part parts i s (solved_part s) l)

pub part_inside : (whole : Net) (parts : List SolvedPart) → ShareOut whole (map solved_part parts)
    → (i : ℕ) (s : SolvedPart) → i < length parts → s ≡ slice_index_or parts i s → (v : ℕ)
    → v < (solved_part s).net.graph.nodes → (solved_part s).node v < whole.graph.nodes
part_inside whole parts h i s l e =
    let size = length-map parts solved_part in
    let own = h.are i (solved_part s) (omega (arith, l, size)) in
    let P : Part → Type 0 = λ p. (v : ℕ) → v < p.net.graph.nodes → p.node v < whole.graph.nodes in
    subst P (sym (solved_at parts i s l e)) own.nodes

cycles_push : (parts : List Part) (p : Part) → all_cycles (parts ++ p ∷ []) ≡ all_cycles parts ++ map (renumbered p) p.cycles
cycles_push [] p = append-nil (map (renumbered p) p.cycles)
cycles_push (q ∷ parts) p = ap (λ zs. map (renumbered q) q.cycles ++ zs) (cycles_push parts p) ∙
    sym (append_assoc (map (renumbered q) q.cycles) (all_cycles parts) (map (renumbered p) p.cycles))

pub cycles_more : (parts : List SolvedPart) (i : ℕ) (s : SolvedPart) → i < length parts → s ≡ slice_index_or parts i s
    → all_cycles (map solved_part (take (i + 1) parts)) ≡ all_cycles (map solved_part (take i parts)) ++ map (renumbered (solved_part s)) s.solution.cycles
cycles_more parts i s l e =
    let more : take (i + 1) parts ≡ take i parts ++ s ∷ [] = take_more parts i s l ∙ ap (λ z. take i parts ++ z ∷ []) (sym e) in
    ap (λ zs. all_cycles (map solved_part zs)) more
    ∙ ap all_cycles (map-append solved_part (take i parts) (s ∷ []))
    ∙ cycles_push (map solved_part (take i parts)) (solved_part s)
