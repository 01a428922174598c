-- Keys while they are set anew.
use Rattle.std.proofs.Common.{arith, ◌≡◌, ◌≢◌, ℕ, ◌+◌, ◌<◌, ◌≤◌, ◌==◌, ◌⊎◌, refl, sym, ap, ◌∙◌, subst, inl, inr, true, eq-eqb, List, length, get_or}
use Rattle.std.specs.Prelude.{All, Contains, slice_set}
use Rattle.std.proofs.lemmas.Bool.{cases_eq, cases_lt, cond-true, ne_eqb, true≢false}
use Rattle.std.proofs.lemmas.List.{get_or-set_other, length-set, get_or_default}
use Rattle.std.proofs.lemmas.Grind.{get_or-set_at}
use Rattle.dpl_dual.specs.declared.crosses.Dual.{Dual}
use Rattle.dpl_dual.specs.declared.crosses.Cross.{Cross}
use Rattle.dpl_dual.specs.Chains.{IsAt, beyond}
use Rattle.dpl_dual.specs.Duals.{way_at}
use Rattle.dpl_pack.specs.Tides.{place_of}
use Rattle.dpl_flood.specs.declared.ways.Step.{Step}
use Rattle.dpl_flood.specs.Dues.{IsDueAt, AreLooked}
use Rattle.dpl_flood.specs.Queues.{never}
use Rattle.dpl_flood.specs.Seas.{Sea, AreMoving, IsDueTime, sides_of, tide_of, due_of}
use Rattle.dpl_flood.specs.States.{way_in, IsWayFrom, AreKeyed, AreKeyedAround}
use Rattle.dpl_flood.specs.Steps.{steps_of, step_over}
use Rattle.dpl_flood.proofs.MeetLemmas.{due_at}
use Rattle.dpl_flood.proofs.StepLemmas.{each_below, only_below}
use Rattle.dpl_flood.proofs.ToldLemmas.{told_is}

-- before the first
pub keyed_none : (d : Dual) (s : Sea) (steps : List Step) (old : List ℕ) → AreKeyed d s steps 0 old old
keyed_none d s steps old = record {
  sizes = refl;
  done = λ j h. absurd (omega (arith, h));
  others = λ p _. refl;
}

-- one key more
pub keyed_more : (d : Dual) (s : Sea) (steps : List Step) (i : ℕ) (old new : List ℕ) → AreKeyed d s steps i old new
    → way_in steps i < length old
    → AreKeyed d s steps (i + 1) old (slice_set new (way_in steps i) (due_of d s never (way_in steps i)))
keyed_more d s steps i old new k h =
    let w = way_in steps i in
    let here : w < length new = omega (arith, h, k.sizes) in
    record {
      sizes = length-set new w (due_of d s never w) ∙ k.sizes;
      done = λ j hj. elim (cases_eq (way_in steps j) w) [
        | inl e ↦ get_or-set_at new w (way_in steps j) (due_of d s never w) 0 e here ∙ ap (due_of d s never) (sym e)
        | inr ne ↦ get_or-set_other new w (way_in steps j) (due_of d s never w) 0 ne ∙ k.done j (earlier j hj ne)
      ];
      others = λ p no. get_or-set_other new w p (due_of d s never w) 0 (λ e. no i (omega arith) (sym e)) ∙ k.others p (λ j hj. no j (omega (arith, hj)));
    }
  where
    earlier : (j : ℕ) → j < i + 1 → way_in steps j ≢ way_in steps i → j < i
    earlier j hj ne = elim (cases_eq j i) [
      | inl e ↦ absurd (ne (ap (way_in steps) e))
      | inr n ↦ omega (arith, hj, n)
    ]

-- the ways of the steps of a face
pub steps_inside : (d : Dual) (f : ℕ) → All (λ y. y.way < length d.crosses) (steps_of d.crosses f)
steps_inside d f = λ j e h.
    let y : Step = get_or (steps_of d.crosses f) j e in
    let there : Contains (steps_of d.crosses f) y = (j, h, get_or_default (steps_of d.crosses f) j y e h) in
    (only_below d.crosses f y (length d.crosses) (omega arith) there).inside

-- all steps of a face
pub keyed_around : (d : Dual) (s : Sea) (f : ℕ) (old new : List ℕ)
    → AreKeyed d s (steps_of d.crosses f) (length (steps_of d.crosses f)) old new → AreKeyedAround d s f old new
keyed_around d s f old new k =
    let steps = steps_of d.crosses f in
    record {
      sizes = k.sizes;
      at = λ w from.
          let c = each_below d.crosses f w (length d.crosses) from.inside from.at from.differ in
          let e : way_in steps c.0 ≡ w = ap (λ y. y.way) (get_or_default steps c.0 (record { to = 0; way = 0 }) (step_over d.crosses f w) c.1 ∙ c.2) in
          sym (ap (λ z. get_or new z 0) e) ∙ k.done c.0 c.1 ∙ ap (due_of d s never) e;
      others = λ p no. k.others p (λ j hj e.
          let y : Step = get_or steps j (record { to = 0; way = 0 }) in
          let there : Contains steps y = (j, hj, get_or_default steps j y (record { to = 0; way = 0 }) hj) in
          let is = only_below d.crosses f y (length d.crosses) (omega arith) there in
          no (subst (IsWayFrom d f) e (record { inside = is.inside; at = is.at; differ = way_differs (way_at d.crosses y.way) f is.at (λ q. is.other (is.to ∙ q)) })));
    }
  where
    way_differs : (x : Cross) (f : ℕ) → IsAt x f → beyond x f ≢ f → x.f ≢ x.g
    way_differs x f at ne e = elim (cases_eq x.f f) [
      | inl a ↦ ne (cond-true {A = ℕ} (x.f == f) x.g x.f (eq-eqb x.f f a) ∙ sym e ∙ a)
      | inr a ↦ elim at [ inl b ↦ a b | inr b ↦ a (e ∙ b) ]
    ]

-- a key stayed, or is that of a way from the face and what is due there
pub around_either : (d : Dual) (s : Sea) (f : ℕ) (old new : List ℕ) → AreKeyedAround d s f old new → (p : ℕ)
    → (get_or new p 0 ≡ get_or old p 0) ⊎ (IsWayFrom d f p × (get_or new p 0 ≡ due_of d s never p))
around_either d s f old new k p = elim (cases_lt p (length d.crosses)) [
  | inr out ↦ inl (k.others p (λ w. absurd (omega (arith, w.inside, out))))
  | inl hp ↦ elim (cases_eq (way_at d.crosses p).f (way_at d.crosses p).g) [
    | inl e ↦ inl (k.others p (λ w. w.differ e))
    | inr ne ↦ elim (cases_eq (way_at d.crosses p).f f) [
      | inl a ↦ let w : IsWayFrom d f p = record { inside = hp; at = inl a; differ = ne } in inr (w, k.at p w)
      | inr na ↦ elim (cases_eq (way_at d.crosses p).g f) [
        | inl b ↦ let w : IsWayFrom d f p = record { inside = hp; at = inr b; differ = ne } in inr (w, k.at p w)
        | inr nb ↦ inl (k.others p (λ w. elim w.at [ inl a ↦ na a | inr b ↦ nb b ]))
      ]
    ]
  ]
]

-- What was set anew around a face is looked at.
pub around_looked : (d : Dual) (s : Sea) (f : ℕ) (old new : List ℕ) → AreMoving s → s.time ≤ never → AreKeyedAround d s f old new
    → AreLooked (length d.crosses) (sides_of d) (tide_of d s) s.time (λ g. g == f) (λ w. get_or old w 0) (λ w. get_or new w 0)
around_looked d s f old new m h k =
    let key : ℕ → ℕ = λ w. get_or new w 0 in
    let looked : (w : ℕ) → w < length d.crosses → IsAt (way_at d.crosses w) f → IsDueAt (sides_of d) (tide_of d s) s.time key w =
    λ w hw at. elim (cases_eq (way_at d.crosses w).f (way_at d.crosses w).g) [
      | inl e ↦ inl (ap (λ z. place_of s.sets (s.point z)) e)
      | inr ne ↦
          let from : IsWayFrom d f w = record { inside = hw; at = at; differ = ne } in
          due_at d s w key (subst (IsDueTime d s w) (sym (k.at w from)) (told_is d s never w m h))
    ] in
    record {
      one = λ w hw y. looked w hw (inl (is_true (way_at d.crosses w).f y));
      two = λ w hw y. looked w hw (inr (is_true (way_at d.crosses w).g y));
      others = λ w hw a b. inl (k.others w (λ from. elim from.at [
        | inl e ↦ true≢false (sym (eq-eqb (way_at d.crosses w).f f e) ∙ a)
        | inr e ↦ true≢false (sym (eq-eqb (way_at d.crosses w).g f e) ∙ b)
      ]));
    }
  where
    is_true : (g : ℕ) → (g == f) ≡ true → g ≡ f
    is_true g y = elim (cases_eq g f) [
      | inl e ↦ e
      | inr ne ↦ absurd (true≢false (sym y ∙ ne_eqb g f ne))
    ]
