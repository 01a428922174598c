-- The faces that sets hold, on stacks.
use Rattle.std.proofs.Common.{arith, ◌≡◌, ◌≢◌, ℕ, ◌+◌, ◌-◌, ◌*◌, ◌<◌, ◌≤◌, ◌⊎◌, ◌==◌, refl, sym, ap, ◌∙◌, subst}
use Rattle.std.proofs.Common.{Bool, true, inl, inr, eq-eqb, None, List, [], ◌∷◌, get_or}
use Rattle.std.proofs.lemmas.Bool.{cases_eq, cases_Bool, cond-true, cond-false, ne_eqb, true≢false}
use Rattle.dpl_laminar.specs.Families.{Sets, IsFamily, has, load_of}
use Rattle.dpl_laminar.proofs.Numbers.{has_head, has_tail}
use Rattle.dpl_dual.specs.declared.crosses.Dual.{Dual}
use Rattle.dpl_pack.specs.Nests.{inner_of}
use Rattle.dpl_pack.specs.Points.{Point, water, on, total_at}
use Rattle.dpl_pack.specs.Tides.{with_values, AreBut}
use Rattle.dpl_flood.specs.Seas.{Sea, IsSea, IsTopDue, IsSeaDue, ArePassed, advanced, AreLate, changed, noted_at, Takes, Leaves, IsOnSet, depth_above, IsPile, AreHeldBy, stack_with, IsTopTime}
use Rattle.dpl_pack.proofs.NestLemmas.{before_either, is_inside, value_in}
use Rattle.dpl_flood.proofs.ShoreLemmas.{top_total, tops_load}
use Rattle.dpl_pack.proofs.FoldLemmas.{inner_same}
use Rattle.dpl_pack.proofs.TideLemmas.{top_last, inner_rests}
use Rattle.dpl_flood.proofs.SeaLemmas.{are_turned, gains_of}
use Rattle.dpl_flood.proofs.EventLemmas.{new_here, new_other}
use Rattle.dpl_pack.proofs.PointLemmas.{member_at, far_at, is_water}

-- what the sets inside a top have for a member
pub inside_top : (f : Sets) → IsFamily f → (t k : ℕ) → t < f.size → k < 2 * f.size → f.holds k t ≡ true → k ≢ f.top t
    → inner_of f k t + f.value k ≤ inner_of f (f.top t) t
inside_top f fam t k ht hk y ne =
    let range = fam.laminar.tops.top_range t ht in
    elim (before_either f k (f.top t) ne) [
      | inr b ↦ absurd (top_last f fam t k ht hk y ne b)
      | inl b ↦
          let i = is_inside f fam k (f.top t) t hk range ht y (fam.laminar.tops.top_holds t ht) b t ht y in
          omega (arith, i.1, value_in f k hk)
    ]

-- a stack has no face, or a last one
pub cases_stack : (xs : List ℕ) → (xs ≡ []) ⊎ ((h : ℕ) × ((rest : List ℕ) × (xs ≡ h ∷ rest)))
cases_stack [] = inl refl
cases_stack (h ∷ rest) = inr (h, (rest, refl))

cases_has : (h g : ℕ) (rest : List ℕ) → has (h ∷ rest) g ≡ true → (h ≡ g) ⊎ (has rest g ≡ true)
cases_has h g rest y = elim (cases_eq h g) [
  | inl e ↦ inl e
  | inr ne ↦ inr (sym (has_tail h g rest ne) ∙ y)
]

-- What the last face of a top, or its value, tells is due, is due.
pub top_due : (d : Dual) (terminals : List ℕ) (s : Sea) (stack : ℕ → List ℕ) (k : ℕ) (key : ℕ → ℕ) → IsSea d terminals s
    → AreHeldBy terminals s stack → k < 2 * s.sets.size → s.sets.parent k ≡ None → IsTopTime s stack k (key k) → IsTopDue s key k
top_due d terminals s stack k key sea held hk top t =
    let f = s.sets in
    let fam = sea.family in
    let span = key k - s.time in
    let other : (g u far : ℕ) → s.point g ≡ on u far → f.top u ≡ k → span ≤ f.value k
    → (far ≡ 0) ⊎ ((j : ℕ) × ((j ≢ k) × ((j < 2 * f.size) × ((f.holds j u ≡ true) × (has (stack j) g ≡ true)))))
    → far + span ≤ total_at f u =
    λ g u far e q most c.
    let hu = sea.flood.members g u far e in
    let whole = top_total f fam u hu in
    elim c [
      | inl z ↦ omega (arith, z, whole, ap f.value q, most)
      | inr j ↦
          let on_set = held.each j.0 g j.1.1.0 j.1.1.1.1 in
          let same : on_set.member ≡ u = ap member_at (sym on_set.at ∙ e) in
          let long : on_set.far ≡ far = ap far_at (sym on_set.at ∙ e) in
          omega (
            arith,
            inside_top f fam u j.0 hu j.1.1.0 j.1.1.1.0 (λ z. j.1.0 (z ∙ q)),
            on_set.within,
            ap (inner_of f j.0) same,
            long,
            whole,
            ap f.value q,
            most,
          )
    ] in
    elim (cases_stack (stack k)) [
      | inl none ↦ record {
        value = t.none none;
        faces = λ g u far e q. other g u far e q (t.none none) (elim (held.all g u far e) [
          | inl z ↦ inl z.0
          | inr j ↦ inr (j.0, ((λ z. true≢false (sym j.1.1.1 ∙ ap (λ i. has (stack i) g) z ∙ ap (λ xs. has xs g) none)), (j.1.0, (j.1.1.0, j.1.1.1))))
        ]);
      }
      | inr head ↦
          let h = head.0 in
          let rest = head.1.0 in
          let is : stack k ≡ h ∷ rest = head.1.1 in
          let first = held.each k h hk (ap (λ xs. has xs h) is ∙ here h rest) in
          let u0 = first.member in
          let hu0 = sea.flood.members h u0 first.far first.at in
          let top0 : f.top u0 ≡ k = fam.laminar.tops.top_alone k u0 hk hu0 top first.holds in
          let whole0 = top_total f fam u0 hu0 in
          let in0 : inner_of f (f.top u0) u0 ≡ inner_of f k u0 = ap (λ z. inner_of f z u0) top0 in
          let v0 : f.value (f.top u0) ≡ f.value k = ap f.value top0 in
          let less = t.some h u0 first.far rest is first.at in
          let most : span ≤ f.value k = omega (arith, less, whole0, in0, v0, first.inside) in
          record {
            value = most;
            faces = λ g u far e q.
                let hu = sea.flood.members g u far e in
                let whole = top_total f fam u hu in
                let inn : inner_of f (f.top u) u ≡ inner_of f k u = ap (λ z. inner_of f z u) q in
                let vv : f.value (f.top u) ≡ f.value k = ap f.value q in
                elim (held.all g u far e) [
                  | inl z ↦ other g u far e q most (inl z.0)
                  | inr j ↦ elim (cases_eq j.0 k) [
                    | inr ne ↦ other g u far e q most (inr (j.0, (ne, (j.1.0, (j.1.1.0, j.1.1.1)))))
                    | inl same ↦ elim (cases_has h g rest (sym (ap (λ xs. has xs g) is) ∙ ap (λ i. has (stack i) g) (sym same) ∙ j.1.1.1)) [
                      | inl one ↦
                          let at : on u0 first.far ≡ on u far = sym first.at ∙ ap s.point one ∙ e in
                          let mm : u0 ≡ u = ap member_at at in
                          let ff : first.far ≡ far = ap far_at at in
                          omega (arith, less, ff, ap (total_at f) mm, whole0, in0, v0, first.within)
                      | inr later ↦
                          let deep = (subst (IsPile (λ i. depth_above f k (s.point i))) is (held.order k hk)).0 g later in
                          let dg : depth_above f k (s.point g) ≡ far - inner_of f k u = ap (depth_above f k) e in
                          let dh : depth_above f k (s.point h) ≡ first.far - inner_of f k u0 = ap (depth_above f k) first.at in
                          omega (arith, deep, dg, dh, less, whole, inn, vv, whole0, in0, v0, first.inside, first.within)
                    ]
                  ]
                ];
          }
    ]
  where
    here : (h : ℕ) (rest : List ℕ) → has (h ∷ rest) h ≡ true
    here h rest = has_head h h rest refl

-- ---- the stacks after an event

has_more : (h g : ℕ) (rest : List ℕ) → has rest g ≡ true → has (h ∷ rest) g ≡ true
has_more h g rest y = elim (cases_eq h g) [
  | inl e ↦ has_head h g rest e
  | inr ne ↦ has_tail h g rest ne ∙ y
]

pile_same : (a b : ℕ → ℕ) (xs : List ℕ) → ((g : ℕ) → has xs g ≡ true → b g ≡ a g) → IsPile a xs → IsPile b xs
pile_same a b [] e p = tt
pile_same a b (h ∷ rest) e p = (
  (λ g y. omega (arith, p.0 g y, e g (has_more h g rest y), e h (has_head h h rest refl))),
  (p.1.0, pile_same a b rest (λ g y. e g (has_more h g rest y)) p.1.1),
)

none_there : (stack : ℕ → List ℕ) (k g : ℕ) → stack k ≡ [] → has (stack k) g ≡ true → ⊥
none_there stack k g e y = true≢false (sym y ∙ ap (λ xs. has xs g) e)

-- a fold and a set that gives way leave the stacks as they are, if the set has none
pub held_changed : (d : Dual) (terminals : List ℕ) (set : ℕ) (x : Sea) (new : Sets) (gain loss : ℕ → ℕ) (rests : ℕ → Bool) (stack : ℕ → List ℕ)
    → IsSea d terminals x → AreBut set x.sets new → stack set ≡ [] → AreHeldBy terminals x stack → AreHeldBy terminals (changed x new gain loss rests) stack
held_changed d terminals set x new gain loss rests stack s b none held =
    let size : (k : ℕ) → k < 2 * new.size → k < 2 * x.sets.size = λ k h. omega (arith, h, b.size) in
    let others : (k g : ℕ) → has (stack k) g ≡ true → k ≢ set = λ k g y e. none_there stack k g (ap stack e ∙ none) y in
    record {
      each = λ k g hk y.
          let o = held.each k g (size k hk) y in
          let hm = s.flood.members g o.member o.far o.at in
          let inn = inner_same set x.sets new b k o.member (size k hk) (others k g y) hm in
          record {
            member = o.member;
            far = o.far;
            at = o.at;
            holds = b.holds k o.member (size k hk) (others k g y) hm ∙ o.holds;
            inside = omega (arith, o.inside, inn);
            within = omega (arith, o.within, inn, b.value k);
          };
      order = λ k hk.
          pile_same (λ g. depth_above x.sets k (x.point g)) (λ g. depth_above new k (x.point g)) (stack k) (λ g y.
          let o = held.each k g (size k hk) y in
          let hm = s.flood.members g o.member o.far o.at in
          let inn = inner_same set x.sets new b k o.member (size k hk) (others k g y) hm in
          ap (depth_above new k) o.at ∙ ap (λ z. o.far - z) inn ∙ sym (ap (depth_above x.sets k) o.at)) (held.order k (size k hk));
      no_seat = λ k t hk ht. held.no_seat k t (size k hk) (omega (arith, ht, b.size));
      once = λ k j g hk hj. held.once k j g (size k hk) (size j hj);
      all = λ g t far e. elim (held.all g t far e) [
        | inl z ↦ inl z
        | inr j ↦ inr (
          j.0,
          (
            omega (arith, j.1.0, b.size),
            (b.holds j.0 t j.1.0 (others j.0 g j.1.1.1) (s.flood.members g t far e) ∙ j.1.1.0, j.1.1.1),
          ),
        )
      ];
    }

-- time leaves them as they are
pub held_passed : (d : Dual) (terminals : List ℕ) (x : Sea) (t : ℕ) (v way_key top_key : ℕ → ℕ) (stack : ℕ → List ℕ) → IsSea d terminals x
    → IsSeaDue d x way_key top_key → AreLate d x t way_key top_key → ArePassed x t v → AreHeldBy terminals x stack → AreHeldBy terminals (advanced x t v) stack
held_passed d terminals x t v way_key top_key stack s due late p held =
    let f = x.sets in
    let span = t - x.time in
    let w = are_turned x t v s.moving p in
    let same : (k g : ℕ) → (hk : k < 2 * f.size) → (y : has (stack k) g ≡ true)
    → inner_of (with_values f v) k (held.each k g hk y).member ≡ inner_of f k (held.each k g hk y).member =
    λ k g hk y.
    let o = held.each k g hk y in
    inner_rests f (λ i. x.gain i * span) (λ i. x.loss i * span) v s.family w o.member k (s.flood.members g o.member o.far o.at) hk o.holds in
    record {
      each = λ k g hk y.
          let o = held.each k g hk y in
          let hm = s.flood.members g o.member o.far o.at in
          let inn = same k g hk y in
          let ev = p.each k hk in
          record {
            member = o.member;
            far = o.far;
            at = o.at;
            holds = o.holds;
            inside = omega (arith, o.inside, inn);
            within = elim (gains_of (x.gain k) (x.loss k) span (s.moving.once k)).is [
              | inl z ↦ omega (arith, o.within, inn, ev, z.0, z.1)
              | inr q ↦ elim q [
                | inl z ↦ omega (arith, o.within, inn, ev, z.0, z.1)
                | inr z ↦
                    let top = s.family.laminar.tops.top_alone k o.member hk hm (s.moving.tops k (omega (arith, z.1.1))).1.1 o.holds in
                    omega (
                      arith,
                      inn,
                      ev,
                      z.0,
                      z.1.0,
                      (due.tops k z.1.1).faces g o.member o.far o.at top,
                      late.tops k z.1.1,
                      top_total f s.family o.member hm,
                      ap (λ i. inner_of f i o.member) top,
                      ap f.value top,
                    )
              ]
            ];
          };
      order = λ k hk.
          pile_same (λ g. depth_above f k (x.point g)) (λ g. depth_above (with_values f v) k (x.point g)) (stack k) (λ g y.
          let o = held.each k g hk y in
          ap (depth_above (with_values f v) k) o.at ∙ ap (λ z. o.far - z) (same k g hk y) ∙ sym (ap (depth_above f k) o.at)) (held.order k hk);
      no_seat = held.no_seat;
      once = held.once;
      all = held.all;
    }

stack_at : (stack : ℕ → List ℕ) (at : ℕ) (xs : List ℕ) (k : ℕ) → k ≡ at → stack_with stack at xs k ≡ xs
stack_at stack at xs k e = cond-true {A = List ℕ} (k == at) xs (stack k) (eq-eqb k at e)

stack_other : (stack : ℕ → List ℕ) (at : ℕ) (xs : List ℕ) (k : ℕ) → k ≢ at → stack_with stack at xs k ≡ stack k
stack_other stack at xs k e = cond-false {A = List ℕ} (k == at) xs (stack k) (ne_eqb k at e)

-- what stands on a stack is not in open water
not_water : (s : Sea) (k g : ℕ) → IsOnSet s k g → s.point g ≡ water → ⊥
not_water s k g o e = true≢false (ap is_water (sym e ∙ o.at))

-- with another point for another face a face stands on its set as before
on_set_kept : (s : Sea) (h : ℕ) (p : Point) (k g : ℕ) → g ≢ h → IsOnSet s k g → IsOnSet (noted_at s h p) k g
on_set_kept s h p k g ne o = record {
  member = o.member;
  far = o.far;
  at = new_other s h p g ne ∙ o.at;
  holds = o.holds;
  inside = o.inside;
  within = o.within;
}

-- a face that is taken comes on the stack of its top
pub held_taken : (d : Dual) (terminals : List ℕ) (s : Sea) (h t far : ℕ) (stack : ℕ → List ℕ) → IsSea d terminals s
    → Takes d terminals s h t far → AreHeldBy terminals s stack
    → AreHeldBy terminals (noted_at s h (on t far)) (stack_with stack (s.sets.top t) (h ∷ stack (s.sets.top t)))
held_taken d terminals s h t far stack sea w held =
    let f = s.sets in
    let p = on t far in
    let top = f.top t in
    let xs = h ∷ stack top in
    let range = sea.family.laminar.tops.top_range t w.member in
    let whole = top_total f sea.family t w.member in
    let away : (k g : ℕ) → k < 2 * f.size → has (stack k) g ≡ true → g ≢ h =
    λ k g hk y e. not_water s k g (held.each k g hk y) (ap s.point e ∙ w.open_water) in
    let parts : (k g : ℕ) → has (stack_with stack top xs k) g ≡ true → ((k ≡ top) × (g ≡ h)) ⊎ (has (stack k) g ≡ true) =
    λ k g y. elim (cases_eq k top) [
      | inl e ↦ elim (cases_has h g (stack top) (sym (ap (λ z. has z g) (stack_at stack top xs k e)) ∙ y)) [
        | inl one ↦ inl (e, sym one)
        | inr more ↦ inr (ap (λ z. has (stack z) g) e ∙ more)
      ]
      | inr ne ↦ inr (sym (ap (λ z. has z g) (stack_other stack top xs k ne)) ∙ y)
    ] in
    let stays_on : (k g : ℕ) → has (stack k) g ≡ true → has (stack_with stack top xs k) g ≡ true =
    λ k g y. elim (cases_eq k top) [
      | inl e ↦ ap (λ z. has z g) (stack_at stack top xs k e) ∙ has_more h g (stack top) (ap (λ z. has (stack z) g) (sym e) ∙ y)
      | inr ne ↦ ap (λ z. has z g) (stack_other stack top xs k ne) ∙ y
    ] in
    let old_depth : (k g : ℕ) → k < 2 * f.size → has (stack k) g ≡ true
    → depth_above f k ((noted_at s h p).point g) ≡ depth_above f k (s.point g) =
    λ k g hk y. ap (depth_above f k) (new_other s h p g (away k g hk y)) in
    record {
      each = λ k g hk y. elim (parts k g y) [
        | inl e ↦ record {
          member = t;
          far = far;
          at = new_here s h p g e.1;
          holds = ap (λ z. f.holds z t) e.0 ∙ sea.family.laminar.tops.top_holds t w.member;
          inside = omega (arith, w.shore, whole, ap (λ z. inner_of f z t) e.0, ap f.value e.0);
          within = omega (arith, w.shore, whole, ap (λ z. inner_of f z t) e.0, ap f.value e.0);
        }
        | inr o ↦ on_set_kept s h p k g (away k g hk o) (held.each k g hk o)
      ];
      order = λ k hk.
          let old = pile_same (λ g. depth_above f k (s.point g)) (λ g. depth_above f k ((noted_at s h p).point g)) (stack k)
          (λ g y. old_depth k g hk y) (held.order k hk) in
          elim (cases_eq k top) [
            | inr ne ↦ subst (IsPile (λ g. depth_above f k ((noted_at s h p).point g))) (sym (stack_other stack top xs k ne)) old
            | inl e ↦
                let whole_pile : IsPile (λ g. depth_above f k ((noted_at s h p).point g)) (h ∷ stack k) = (
                  (λ g y.
                      let o = held.each k g hk y in
                      omega (
                        arith,
                        old_depth k g hk y,
                        ap (depth_above f k) o.at,
                        ap (depth_above f k) (new_here s h p h refl),
                        o.within,
                        w.shore,
                        whole,
                        ap (λ z. inner_of f z t) e,
                        ap f.value e,
                      )),
                  (
                    elim (cases_Bool (has (stack k) h)) [
                      | inr y ↦ y
                      | inl y ↦ absurd (away k h hk y refl)
                    ],
                    old,
                  ),
                ) in
                subst (IsPile (λ g. depth_above f k ((noted_at s h p).point g))) (ap (λ z. h ∷ stack z) e ∙ sym (stack_at stack top xs k e)) whole_pile
          ];
      no_seat = λ k m hk hm. elim (cases_Bool (has (stack_with stack top xs k) (get_or terminals m 0))) [
        | inr y ↦ y
        | inl y ↦ elim (parts k (get_or terminals m 0) y) [
          | inl e ↦ absurd (true≢false (sym (ap is_water (sym (sea.seated m hm) ∙ ap s.point e.1 ∙ w.open_water))))
          | inr o ↦ absurd (true≢false (sym o ∙ held.no_seat k m hk hm))
        ]
      ];
      once = λ k j g hk hj y z. elim (parts k g y) [
        | inl e ↦ elim (parts j g z) [
          | inl q ↦ e.0 ∙ sym q.0
          | inr o ↦ absurd (away j g hj o e.1)
        ]
        | inr o ↦ elim (parts j g z) [
          | inl q ↦ absurd (away k g hk o q.1)
          | inr q ↦ held.once k j g hk hj o q
        ]
      ];
      all = λ g u a e. elim (cases_eq g h) [
        | inl one ↦
            let at : on t far ≡ on u a = sym (new_here s h p g one) ∙ e in
            let same : t ≡ u = ap member_at at in
            inr (
              top,
              (
                range,
                (
                  ap (f.holds top) (sym same) ∙ sea.family.laminar.tops.top_holds t w.member,
                  ap (λ z. has z g) (stack_at stack top xs top refl) ∙ has_head h g (stack top) (sym one),
                ),
              ),
            )
        | inr ne ↦ elim (held.all g u a (sym (new_other s h p g ne) ∙ e)) [
          | inl z ↦ inl z
          | inr j ↦ inr (j.0, (j.1.0, (j.1.1.0, stays_on j.0 g j.1.1.1)))
        ]
      ];
    }

-- and one that is left goes off its stack
pub held_left : (d : Dual) (terminals : List ℕ) (s : Sea) (k0 h : ℕ) (rest : List ℕ) (stack : ℕ → List ℕ) → k0 < 2 * s.sets.size
    → stack k0 ≡ h ∷ rest → AreHeldBy terminals s stack → AreHeldBy terminals (noted_at s h water) (stack_with stack k0 rest)
held_left d terminals s k0 h rest stack range is held =
    let f = s.sets in
    let pile : IsPile (λ g. depth_above f k0 (s.point g)) (h ∷ rest) = subst (IsPile (λ g. depth_above f k0 (s.point g))) is (held.order k0 range) in
    let first : has (stack k0) h ≡ true = ap (λ z. has z h) is ∙ has_head h h rest refl in
    let parts : (k g : ℕ) → k < 2 * f.size → has (stack_with stack k0 rest k) g ≡ true → (has (stack k) g ≡ true) × (g ≢ h) =
    λ k g hk y. elim (cases_eq k k0) [
      | inl e ↦
          let inside : has rest g ≡ true = sym (ap (λ z. has z g) (stack_at stack k0 rest k e)) ∙ y in (
            ap (λ z. has (stack z) g) e ∙ ap (λ z. has z g) is ∙ has_more h g rest inside,
            (λ q. true≢false (sym inside ∙ ap (has rest) q ∙ pile.1.0)),
          )
      | inr ne ↦
          let there : has (stack k) g ≡ true = sym (ap (λ z. has z g) (stack_other stack k0 rest k ne)) ∙ y in
          (there, (λ q. ne (held.once k k0 h hk range (ap (has (stack k)) (sym q) ∙ there) first)))
    ] in
    record {
      each = λ k g hk y. let a = parts k g hk y in on_set_kept s h water k g a.1 (held.each k g hk a.0);
      order = λ k hk. elim (cases_eq k k0) [
        | inl e ↦
            let here = stack_at stack k0 rest k e in
            let old : IsPile (λ g. depth_above f k (s.point g)) (stack_with stack k0 rest k) =
            subst (IsPile (λ g. depth_above f k (s.point g))) (sym here) (subst (λ z. IsPile (λ g. depth_above f z (s.point g)) rest) (sym e) pile.1.1) in
            pile_same (λ g. depth_above f k (s.point g)) (λ g. depth_above f k ((noted_at s h water).point g)) (stack_with stack k0 rest k)
            (λ g y. ap (depth_above f k) (new_other s h water g (parts k g hk y).1)) old
        | inr ne ↦
            let here = stack_other stack k0 rest k ne in
            let old : IsPile (λ g. depth_above f k (s.point g)) (stack_with stack k0 rest k) =
            subst (IsPile (λ g. depth_above f k (s.point g))) (sym here) (held.order k hk) in
            pile_same (λ g. depth_above f k (s.point g)) (λ g. depth_above f k ((noted_at s h water).point g)) (stack_with stack k0 rest k)
            (λ g y. ap (depth_above f k) (new_other s h water g (parts k g hk y).1)) old
      ];
      no_seat = λ k m hk hm. elim (cases_Bool (has (stack_with stack k0 rest k) (get_or terminals m 0))) [
        | inr y ↦ y
        | inl y ↦ absurd (true≢false (sym (parts k (get_or terminals m 0) hk y).0 ∙ held.no_seat k m hk hm))
      ];
      once = λ k j g hk hj y z. held.once k j g hk hj (parts k g hk y).0 (parts j g hj z).0;
      all = λ g u a e. elim (cases_eq g h) [
        | inl one ↦ absurd (true≢false (ap is_water (sym (new_here s h water g one) ∙ e)))
        | inr ne ↦ elim (held.all g u a (sym (new_other s h water g ne) ∙ e)) [
          | inl z ↦ inl z
          | inr j ↦ inr (
            j.0,
            (
              j.1.0,
              (
                j.1.1.0,
                elim (cases_eq j.0 k0) [
                  | inr nk ↦ ap (λ z. has z g) (stack_other stack k0 rest j.0 nk) ∙ j.1.1.1
                  | inl q ↦
                      ap (λ z. has z g) (stack_at stack k0 rest j.0 q) ∙
                      (elim (cases_has h g rest (sym (ap (λ z. has z g) is) ∙ ap (λ z. has (stack z) g) (sym q) ∙ j.1.1.1)) [
                        | inl w ↦ absurd (ne (sym w))
                        | inr w ↦ w
                      ])
                ],
              ),
            ),
          )
        ]
      ];
    }

-- ---- what a top that falls does when its time has come

-- with a last face just at its shore it leaves this
pub last_leaves : (d : Dual) (terminals : List ℕ) (s : Sea) (stack : ℕ → List ℕ) (k h t far : ℕ) (rest : List ℕ) → IsSea d terminals s
    → AreHeldBy terminals s stack → k < 2 * s.sets.size → stack k ≡ h ∷ rest → s.point h ≡ on t far → total_at s.sets t - far ≡ 0
    → Leaves terminals s h t far
last_leaves d terminals s stack k h t far rest sea held hk is at e = record {
  held = at;
  shore = omega (arith, e, sea.reached h t far at);
  no_seat = λ m hm q.
      true≢false (sym (ap (λ z. has z h) is ∙ has_head h h rest refl) ∙ ap (has (stack k)) (sym q) ∙ held.no_seat k m hk hm);
}

-- and an inner single without a value is no way between the tops on its sides
pub close_tight : (f : Sets) → IsFamily f → (a i m : ℕ) → a < f.size → i < f.size → m < f.size → f.top a ≢ f.top i → f.top i ≢ f.top m
    → f.top a ≢ f.top m → total_at f i ≡ 0 → load_of f a i + load_of f i m ≡ load_of f a m
close_tight f fam a i m ha hi hm ai im am none =
    omega (arith, none, tops_load f fam a i ha hi ai, tops_load f fam i m hi hm im, tops_load f fam a m ha hm am)
