-- A walk along a cycle that labels what it passes.
use Rattle.std.proofs.Common.{arith, ◌≡◌, ◌≢◌, ℕ, ◌<◌, ◌==◌, refl, sym, ap, ◌∙◌, true, false, inl, inr, ◌⊎◌, List}
use Rattle.std.proofs.Common.{length, get_or, set, length-set, get_or-set_same, get_or-set_other, eq-eqb}
use Rattle.std.proofs.lemmas.Bool.{cases_eq, ne_eqb}
use Rattle.std.specs.Prelude.{slice_index}
use Rattle.dpl_cycle.specs.Cycles.{Permutes}
use Rattle.dpl_ring.specs.Rings.{least_of}
use Rattle.dpl_cycle.proofs.Least.{least_step, label_least}
use Rattle.dpl_drawing.specs.Marks.{MarksCycle}

-- on the cycle of start
abbrev pub On : List ℕ → ℕ → ℕ → Type 0
On ring start z = least_of ring z ≡ least_of ring start

-- what holds while a walk from start labels what it passes, at a place that has no label yet
pub record Walking (ring : List ℕ) (start label : ℕ) (old labels : List ℕ) (place : ℕ) : Type 0 where
  pub lengths : length labels ≡ length old
  pub sizes : length labels ≡ length ring
  pub inside : place < length ring
  pub start_inside : start < length ring
  pub here : get_or labels place 0 ≢ label
  pub here_on : On ring start place
  pub others : (z : ℕ) → z < length ring → (On ring start z → ⊥) → get_or labels z 0 ≡ get_or old z 0
  pub on : (z : ℕ) → z < length ring → On ring start z → get_or labels z 0 ≡ label → (get_or labels (get_or ring z 0) 0 ≡ label) ⊎ (get_or ring z 0 ≡ place)
  pub back : (z : ℕ) → z < length ring → get_or ring z 0 < length ring → On ring start (get_or ring z 0) →
      get_or labels (get_or ring z 0) 0 ≡ label → get_or ring z 0 ≢ start → get_or labels z 0 ≡ label
  pub before : (z : ℕ) → z < length ring → get_or ring z 0 ≡ place → place ≢ start → get_or labels z 0 ≡ label
  pub begun : (place ≡ start) ⊎ (get_or labels start 0 ≡ label)

-- a walk begins where nothing of the cycle is labelled yet
pub begins : (ring : List ℕ) (start label : ℕ) (old : List ℕ) → length old ≡ length ring → start < length ring
    → ((z : ℕ) → z < length old → On ring start z → get_or old z 0 ≢ label)
    → Walking ring start label old old start
begins ring start label old e h fresh = record {
  lengths = refl;
  sizes = e;
  inside = h;
  start_inside = h;
  here = fresh start (omega (arith, e)) refl;
  here_on = refl;
  others = λ z k q. refl;
  on = λ z k o q. absurd (fresh z (omega (arith, e)) o q);
  back = λ z k i o q r. absurd (fresh (get_or ring z 0) (omega (arith, e)) o q);
  before = λ z k q r. absurd (r refl);
  begun = inl refl;
}

-- after the label at the place
marked : (ls : List ℕ) (place label z : ℕ) → place < length ls → (get_or ls z 0 ≡ label) ⊎ (z ≡ place) → get_or (set ls place label) z 0 ≡ label
marked ls place label z h c = elim (cases_eq z place) [
  | inl t ↦ ap (λ y. get_or (set ls place label) y 0) t ∙ get_or-set_same ls place label 0 h
  | inr t ↦ elim c [ inl a ↦ get_or-set_other ls place z label 0 t ∙ a | inr b ↦ absurd (t b) ]
]

unmarked : (ls : List ℕ) (place label z : ℕ) → get_or (set ls place label) z 0 ≡ label → (get_or ls z 0 ≡ label) ⊎ (z ≡ place)
unmarked ls place label z e = elim (cases_eq z place) [ inl t ↦ inr t | inr t ↦ inl (sym (get_or-set_other ls place z label 0 t) ∙ e) ]

-- a step of the walk labels a number and goes on to the next
pub goes_on : (ring : List ℕ) (g : ℕ → ℕ) (start label : ℕ) (old ls : List ℕ) (place : ℕ)
    → Permutes (length ring) (slice_index ring) g → Walking ring start label old ls place
    → get_or ring place 0 ≢ start → Walking ring start label old (set ls place label) (get_or ring place 0)
goes_on ring g start label old ls place p w ne =
    let inside : place < length ls = omega (arith, w.sizes, w.inside) in
    let next = get_or ring place 0 in
    let m = λ (z : ℕ) (c : (get_or ls z 0 ≡ label) ⊎ (z ≡ place)). marked ls place label z inside c in
    record {
      lengths = length-set ls place label ∙ w.lengths;
      sizes = length-set ls place label ∙ w.sizes;
      inside = p.to place w.inside;
      start_inside = w.start_inside;
      here = λ e. elim (unmarked ls place label next e) [
        | inl a ↦ w.here (w.back place w.inside (p.to place w.inside) (least_step (length ring) _ _ p place w.inside ∙ w.here_on) a ne)
        | inr b ↦ w.here (w.before place w.inside b (λ q. ne (b ∙ q)))
      ];
      here_on = least_step (length ring) _ _ p place w.inside ∙ w.here_on;
      others = λ z k off. elim (cases_eq z place) [
        | inl t ↦ absurd (off (ap (least_of ring) t ∙ w.here_on))
        | inr t ↦ get_or-set_other ls place z label 0 t ∙ w.others z k off
      ];
      on = λ z k o e. elim (unmarked ls place label z e) [
        | inl a ↦ elim (w.on z k o a) [ inl b ↦ inl (m (get_or ring z 0) (inl b)) | inr b ↦ inl (m (get_or ring z 0) (inr b)) ]
        | inr b ↦ inr (ap (λ y. get_or ring y 0) b)
      ];
      back = λ z k i o e r. elim (unmarked ls place label (get_or ring z 0) e) [
        | inl a ↦ m z (inl (w.back z k i o a r))
        | inr b ↦ m z (inl (w.before z k b (λ q. r (b ∙ q))))
      ];
      before = λ z k e r. m z (inr (sym (p.back z k) ∙ ap g e ∙ p.back place w.inside));
      begun = elim w.begun [ inl a ↦ inr (m start (inr (sym a))) | inr b ↦ inr (m start (inl b)) ];
    }

-- 0 at a place of the cycle that has no label
lacks : List ℕ → ℕ → ℕ → List ℕ → ℕ → ℕ
lacks ring start label ls z = elim (least_of ring z == least_of ring start) [ true ↦ elim (get_or ls z 0 == label) [ true ↦ 1 | false ↦ 0 ] | false ↦ 2 ]

lacks_no : (ring : List ℕ) (start label : ℕ) (ls : List ℕ) (z : ℕ) → On ring start z → get_or ls z 0 ≡ label → lacks ring start label ls z ≡ 1
unfolding lacks
lacks_no ring start label ls z o e = rw (eq-eqb (least_of ring z) (least_of ring start) o, eq-eqb (get_or ls z 0) label e, lacks)

lacks_yes : (ring : List ℕ) (start label : ℕ) (ls : List ℕ) (z : ℕ) → On ring start z → get_or ls z 0 ≢ label → lacks ring start label ls z ≡ 0
unfolding lacks
lacks_yes ring start label ls z o e = rw (eq-eqb (least_of ring z) (least_of ring start) o, ne_eqb (get_or ls z 0) label e, lacks)

lacks_off : (ring : List ℕ) (start label : ℕ) (ls : List ℕ) (z : ℕ) → (On ring start z → ⊥) → lacks ring start label ls z ≡ 2
unfolding lacks
lacks_off ring start label ls z o = rw (ne_eqb (least_of ring z) (least_of ring start) o, lacks)

-- a walk that comes back to its start has labelled the whole cycle
pub ends : (ring : List ℕ) (g : ℕ → ℕ) (start label : ℕ) (old ls : List ℕ) (place : ℕ)
    → Permutes (length ring) (slice_index ring) g → Walking ring start label old ls place
    → get_or ring place 0 ≡ start → MarksCycle ring start label old (set ls place label)
ends ring g start label old ls place p w back_at =
    let inside : place < length ls = omega (arith, w.sizes, w.inside) in
    let new = set ls place label in
    let m = λ (z : ℕ) (c : (get_or ls z 0 ≡ label) ⊎ (z ≡ place)). marked ls place label z inside c in
    let first : get_or new start 0 ≡ label = elim w.begun [ inl a ↦ m start (inr (sym a)) | inr b ↦ m start (inl b) ] in
    let last : (z : ℕ) → z < length ring → get_or ring z 0 ≡ start → get_or new z 0 ≡ label = λ z k e.
    m z (inr (sym (p.back z k) ∙ ap g (e ∙ sym back_at) ∙ p.back place w.inside)) in
    let to : (z : ℕ) → z < length ring → On ring start z → get_or new z 0 ≡ label →
    get_or new (get_or ring z 0) 0 ≡ label = λ z k o e. elim (unmarked ls place label z e) [
      | inl a ↦ elim (w.on z k o a) [ inl b ↦ m (get_or ring z 0) (inl b) | inr b ↦ m (get_or ring z 0) (inr b) ]
      | inr b ↦ ap (λ y. get_or new y 0) (ap (λ y. get_or ring y 0) b ∙ back_at) ∙ first
    ] in
    let from : (z : ℕ) → z < length ring → On ring start z → get_or new (get_or ring z 0) 0 ≡ label →
    get_or new z 0 ≡ label = λ z k o e. elim (cases_eq (get_or ring z 0) start) [
      | inl t ↦ last z k t
      | inr t ↦ elim (unmarked ls place label (get_or ring z 0) e) [
        | inl a ↦ m z (inl (w.back z k (p.to z k) (least_step (length ring) _ _ p z k ∙ o) a t))
        | inr b ↦ m z (inl (w.before z k b (λ q. t (b ∙ q))))
      ]
    ] in
    let label_of = lacks ring start label new in
    let along : (z : ℕ) → z < length ring → label_of (get_or ring z 0) ≡ label_of z = λ z k.
    let step : least_of ring (get_or ring z 0) ≡ least_of ring z = least_step (length ring) _ _ p z k in
    elim (cases_eq (least_of ring z) (least_of ring start)) [
      | inl o ↦ elim (cases_eq (get_or new z 0) label) [
        | inl t ↦ lacks_no ring start label new (get_or ring z 0) (step ∙ o) (to z k o t) ∙ sym (lacks_no ring start label new z o t)
        | inr t ↦ lacks_yes ring start label new (get_or ring z 0) (step ∙ o) (λ e. t (from z k o e)) ∙ sym (lacks_yes ring start label new z o t)
      ]
      | inr o ↦ lacks_off ring start label new (get_or ring z 0) (λ e. o (sym step ∙ e)) ∙ sym (lacks_off ring start label new z o)
    ] in
    let constant = λ (z : ℕ) (k : z < length ring). label_least (length ring) _ _ p label_of along z k in
    record {
      lengths = length-set ls place label ∙ w.lengths;
      marked = λ z k e. elim (cases_eq (get_or new z 0) label) [
        | inl t ↦ t
        | inr t ↦ absurd (omega (
          arith,
          lacks_yes ring start label new z e t,
          lacks_no ring start label new start refl first,
          sym (constant z k) ∙ ap label_of e ∙
              constant start w.start_inside,
        ))
      ];
      others = λ z k off. elim (cases_eq z place) [
        | inl t ↦ absurd (off (ap (least_of ring) t ∙ w.here_on))
        | inr t ↦ get_or-set_other ls place z label 0 t ∙ w.others z k off
      ];
    }
