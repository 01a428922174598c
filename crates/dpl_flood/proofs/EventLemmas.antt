-- Each event keeps the state, and what is due.
use Rattle.std.proofs.Common.{arith, ◌≡◌, ◌≢◌, ℕ, ◌+◌, ◌*◌, ◌%◌, ◌<◌, ◌≤◌, ◌==◌, refl, sym, ap, ◌∙◌, subst}
use Rattle.std.proofs.Common.{Bool, true, false, cond, inl, inr, eq-eqb, None, Some, List, length, get_or}
use Rattle.std.proofs.lemmas.Bool.{cases_eq, cases_Bool, cond-true, cond-false, ne_eqb, true≢false}
use Rattle.dpl_laminar.specs.Loads.{sum_below}
use Rattle.dpl_laminar.specs.Families.{Sets, IsFamily, has}
use Rattle.dpl_laminar.proofs.Sums.{sum_same}
use Rattle.dpl_dual.specs.declared.crosses.Cross.{Cross}
use Rattle.dpl_dual.specs.declared.crosses.Dual.{Dual}
use Rattle.dpl_pack.specs.Points.{Point, water, on, apart, total_at}
use Rattle.dpl_pack.specs.Tides.{place_of, AreBut}
use Rattle.dpl_flood.specs.Dues.{IsDue}
use Rattle.dpl_dual.specs.Duals.{way_at}
use Rattle.dpl_flood.specs.Seas.{Sea, sides_of, room_of, tide_of, AreMoving, IsSea, IsSeaDue, changed, noted_at, AreRenewed, IsEvent, Grows, Ceases, Folds, GivesWay, Shifts, Takes, Leaves}
use Rattle.dpl_pack.proofs.PointLemmas.{apart_self, apart_back, apart_over, member_at, far_at, is_water}
use Rattle.dpl_laminar.proofs.Numbers.{some_none}
use Rattle.dpl_flood.proofs.ShoreLemmas.{water_apart}
use Rattle.dpl_pack.proofs.FoldLemmas.{apart_same, flood_same, shrunk_but, expanded_but}
use Rattle.dpl_flood.proofs.DueLemmas.{kept, freed, thawed, moved, folded, opened}
use Rattle.dpl_flood.proofs.SeaLemmas.{rates_of}

-- ---- what is due stays due

-- An event keeps what is due.
pub event_kept : (d : Dual) (x y : Sea) (looked seen : ℕ → Bool) (old_way old_top way_key top_key : ℕ → ℕ)
    → IsSeaDue d x old_way old_top → IsEvent d x y looked seen → AreRenewed d y looked seen old_way old_top way_key top_key
    → IsSeaDue d y way_key top_key
event_kept d x y looked seen old_way old_top way_key top_key due e r = record {
  ways = kept (length d.crosses) (sides_of d) (tide_of d x) (tide_of d y) y.time looked old_way way_key
      (subst (λ z. IsDue (length d.crosses) (sides_of d) (tide_of d x) z old_way) (sym e.time) due.ways) e.turns r.looks;
  tops = λ k l. elim (cases_Bool (seen k)) [
    | inl s ↦ r.seen_due k s l
    | inr s ↦
        let o = due.tops k (e.fell k s l) in
        elim (r.unseen k s l) [
          | inr again ↦ again
          | inl same ↦ record {
            value = omega (arith, o.value, same, e.time, e.value k s l);
            faces = λ g t far p q.
                let a = e.faces k g t far s l p q in
                omega (arith, o.faces g t far a.0 a.1.0, same, e.time, a.1.1);
          }
        ]
  ];
}

-- ---- other rates: grow, augment, thaw

-- over the same sets the state stands with other rates, if these are of tops whose totals have the parity of the time
pub sea_rated : (d : Dual) (terminals : List ℕ) (x : Sea) (gain loss : ℕ → ℕ) (rests : ℕ → Bool) → IsSea d terminals x
    → AreMoving (changed x x.sets gain loss rests)
    → ((t : ℕ) → t < x.sets.size → gain (x.sets.top t) + loss (x.sets.top t) ≡ 1 → total_at x.sets t % 2 ≡ x.time % 2)
    → IsSea d terminals (changed x x.sets gain loss rests)
sea_rated d terminals x gain loss rests s m pace = record {
  family = s.family;
  flood = s.flood;
  moving = m;
  reached = s.reached;
  clock = s.clock;
  pace = pace;
  even = s.even;
  seated = s.seated;
}

-- grow: the state stands
pub grow_stands : (d : Dual) (terminals : List ℕ) (x : Sea) (inner outer : ℕ) (gain loss : ℕ → ℕ) (rests : ℕ → Bool)
    → IsSea d terminals x → Grows x inner outer gain loss rests → IsSea d terminals (changed x x.sets gain loss rests)
grow_stands d terminals x inner outer gain loss rests s g = sea_rated d terminals x gain loss rests s (record {
  once = λ k. elim (cases_eq k inner) [
    | inl e ↦ omega (arith, g.falls.0, g.falls.1, ap gain e, ap loss e)
    | inr ni ↦ elim (cases_eq k outer) [
      | inl e ↦ omega (arith, g.rises.0, g.rises.1, ap gain e, ap loss e)
      | inr nu ↦ let o = g.others k ni nu in omega (arith, o.0, o.1, s.moving.once k)
    ]
  ];
  tops = λ k h. elim (cases_eq k inner) [
    | inl e ↦ g.tops k (inl e)
    | inr ni ↦ elim (cases_eq k outer) [
      | inl e ↦ g.tops k (inr e)
      | inr nu ↦ let o = g.others k ni nu in s.moving.tops k (omega (arith, o.0, o.1, h))
    ]
  ];
  still = λ k r. elim (cases_eq k outer) [
    | inl e ↦ absurd (true≢false (sym r ∙ ap rests e ∙ g.awake.1))
    | inr nu ↦
        let was : x.rests k ≡ true = sym (g.rest k nu) ∙ r in
        elim (cases_eq k inner) [
          | inl e ↦ absurd (true≢false (sym was ∙ ap x.rests e ∙ g.awake.0))
          | inr ni ↦ let o = g.others k ni nu in let a = s.moving.still k was in (a.0, omega (arith, o.0, o.1, a.1))
        ]
  ];
}) (λ t ht h. elim (cases_eq (x.sets.top t) inner) [
  | inl e ↦ g.pace t ht (inl e)
  | inr ni ↦ elim (cases_eq (x.sets.top t) outer) [
    | inl e ↦ g.pace t ht (inr e)
    | inr nu ↦ let o = g.others (x.sets.top t) ni nu in s.pace t ht (omega (arith, o.0, o.1, h))
  ]
])

-- and what is due, if the faces of the top that grows are looked at, and the one that falls is seen
pub grow_due : (d : Dual) (terminals : List ℕ) (x : Sea) (inner outer : ℕ) (gain loss : ℕ → ℕ) (rests looked seen : ℕ → Bool)
    → IsSea d terminals x → Grows x inner outer gain loss rests
    → ((g : ℕ) → looked g ≡ false → place_of x.sets (x.point g) ≢ outer) → seen inner ≡ true
    → IsEvent d x (changed x x.sets gain loss rests) looked seen
grow_due d terminals x inner outer gain loss rests looked seen s g at sees = record {
  time = refl;
  turns = record {
    room = λ w _. refl;
    calm = λ f u.
        let k = place_of x.sets (x.point f) in
        let nu = at f u in
        elim (cases_Bool (x.rests k)) [
          | inl r ↦ record { is = inl (g.rest k nu ∙ r) }
          | inr r ↦ elim (cases_eq k inner) [
            | inl e ↦ record {
              is = inr (
                omega (arith, ap gain e, g.falls.0),
                (omega (arith, ap x.loss e, g.free.1), r),
              );
            }
            | inr ni ↦ let o = g.others k ni nu in record { is = inr (omega (arith, o.0), (omega (arith, o.1), r)) }
          ]
        ];
    within = λ w _ _ _ i. inl i;
  };
  fell = λ k u l. elim (cases_eq k inner) [
    | inl e ↦ absurd (true≢false (sym sees ∙ ap seen (sym e) ∙ u))
    | inr ni ↦ elim (cases_eq k outer) [
      | inl e ↦ absurd (omega (arith, ap loss e, g.rises.1, l))
      | inr nu ↦ let o = g.others k ni nu in omega (arith, o.1, l)
    ]
  ];
  value = λ k _ _. refl;
  faces = λ k f t far _ _ p q. (p, (q, refl));
}

-- augment: the state stands
pub cease_stands : (d : Dual) (terminals : List ℕ) (x : Sea) (gain loss : ℕ → ℕ) (rests : ℕ → Bool)
    → IsSea d terminals x → Ceases x gain loss rests → IsSea d terminals (changed x x.sets gain loss rests)
cease_stands d terminals x gain loss rests s c = sea_rated d terminals x gain loss rests s (record {
  once = λ k. elim (c.each k) [
    | inl o ↦ omega (arith, o.0, o.1.0, s.moving.once k)
    | inr o ↦ omega (arith, o.0, o.1.0)
  ];
  tops = λ k h. elim (c.each k) [
    | inl o ↦ s.moving.tops k (omega (arith, o.0, o.1.0, h))
    | inr o ↦ absurd (omega (arith, o.0, o.1.0, h))
  ];
  still = λ k r. elim (c.each k) [
    | inl o ↦ let a = s.moving.still k (sym o.1.1 ∙ r) in (a.0, omega (arith, o.0, o.1.0, a.1))
    | inr o ↦ (c.range k r, omega (arith, o.0, o.1.0))
  ];
}) (λ t ht h. elim (c.each (x.sets.top t)) [
  | inl o ↦ s.pace t ht (omega (arith, o.0, o.1.0, h))
  | inr o ↦ absurd (omega (arith, o.0, o.1.0, h))
])

-- and what is due, and nothing is looked at
pub cease_due : (d : Dual) (terminals : List ℕ) (x : Sea) (gain loss : ℕ → ℕ) (rests looked seen : ℕ → Bool)
    → IsSea d terminals x → Ceases x gain loss rests → IsEvent d x (changed x x.sets gain loss rests) looked seen
cease_due d terminals x gain loss rests looked seen s c = record {
  time = refl;
  turns = freed (length d.crosses) (sides_of d) (tide_of d x) (tide_of d (changed x x.sets gain loss rests)) looked (λ g. refl) (λ w. refl)
      (λ k r. elim (c.each k) [ inl o ↦ o.1.1 ∙ r | inr o ↦ o.1.1 ])
      (λ k. elim (c.each k) [ inl o ↦ omega (arith, o.0) | inr o ↦ omega (arith, o.0) ])
      (λ k. elim (c.each k) [ inl o ↦ inl (omega (arith, o.1.0)) | inr o ↦ inr o.1.1 ]);
  fell = λ k _ l. elim (c.each k) [ inl o ↦ omega (arith, o.1.0, l) | inr o ↦ absurd (omega (arith, o.1.0, l)) ];
  value = λ k _ _. refl;
  faces = λ k f t far _ _ p q. (p, (q, refl));
}

-- thaw: the state stands
pub thaw_stands : (d : Dual) (terminals : List ℕ) (x : Sea) → IsSea d terminals x
    → IsSea d terminals (changed x x.sets x.gain x.loss (λ _. false))
thaw_stands d terminals x s = sea_rated d terminals x x.gain x.loss (λ _. false) s (record {
  once = s.moving.once;
  tops = s.moving.tops;
  still = λ k r. absurd (true≢false (sym r));
}) s.pace

-- and what is due, if all faces of what rested are looked at
pub thaw_due : (d : Dual) (terminals : List ℕ) (x : Sea) (looked seen : ℕ → Bool) → IsSea d terminals x
    → ((g : ℕ) → looked g ≡ false → x.rests (place_of x.sets (x.point g)) ≡ false)
    → IsEvent d x (changed x x.sets x.gain x.loss (λ _. false)) looked seen
thaw_due d terminals x looked seen s at = record {
  time = refl;
  turns = thawed (length d.crosses) (sides_of d) (tide_of d x) (tide_of d (changed x x.sets x.gain x.loss (λ _. false))) looked
      (λ g. refl) (λ w. refl) (λ k. refl) (λ k. refl) at;
  fell = λ k _ l. l;
  value = λ k _ _. refl;
  faces = λ k f t far _ _ p q. (p, (q, refl));
}

-- ---- other sets: fold, give way

-- totals do not change with a set that has no value
pub total_same : (set : ℕ) (f g : Sets) → AreBut set f g → (t : ℕ) → t < f.size → total_at g t ≡ total_at f t
total_same set f g w t ht =
    ap (λ z. sum_below (2 * z) (λ k. cond (g.holds k t) (g.value k) 0)) w.size ∙
    sum_same (2 * f.size) (λ k. cond (g.holds k t) (g.value k) 0) (λ k. cond (f.holds k t) (f.value k) 0) (λ k hk. elim (cases_eq k set) [
      | inl e ↦
          let z : f.value k ≡ 0 = ap f.value e ∙ w.none in
          none (g.holds k t) (g.value k) (w.value k ∙ z) ∙ sym (none (f.holds k t) (f.value k) z)
      | inr ne ↦
          let b = w.holds k t hk ne ht in
          λ i. cond (b i) (w.value k i) 0
    ])
  where
    none : (b : Bool) (x : ℕ) → x ≡ 0 → cond b x 0 ≡ 0
    none true x e = e
    none false x e = refl

-- nor does the room of a way
pub room_same : (d : Dual) (terminals : List ℕ) (set : ℕ) (x : Sea) (new : Sets) (gain loss : ℕ → ℕ) (rests : ℕ → Bool)
    → IsSea d terminals x → AreBut set x.sets new → (w : ℕ) → room_of d (changed x new gain loss rests) w ≡ room_of d x w
room_same d terminals set x new gain loss rests s b w =
    omega (
      arith,
      apart_same set x.sets new b (x.point (way_at d.crosses w).f) (x.point (way_at d.crosses w).g) (s.flood.members (way_at d.crosses w).f)
          (s.flood.members (way_at d.crosses w).g),
    )

-- over sets that are the same but for one without a value the state stands
pub sea_changed : (d : Dual) (terminals : List ℕ) (set : ℕ) (x : Sea) (new : Sets) (gain loss : ℕ → ℕ) (rests : ℕ → Bool)
    → IsSea d terminals x → AreBut set x.sets new → IsFamily new → AreMoving (changed x new gain loss rests)
    → ((t : ℕ) → t < x.sets.size → gain (new.top t) + loss (new.top t) ≡ 1 → x.gain (x.sets.top t) + x.loss (x.sets.top t) ≡ 1)
    → IsSea d terminals (changed x new gain loss rests)
sea_changed d terminals set x new gain loss rests s b fam m moves =
    let size : (t : ℕ) → t < new.size → t < x.sets.size = λ t h. omega (arith, h, b.size) in
    record {
      family = fam;
      flood = flood_same set d terminals x.sets new x.point b s.flood;
      moving = m;
      reached = λ g t far e. omega (arith, s.reached g t far e, total_same set x.sets new b t (s.flood.members g t far e));
      clock = λ t ht. omega (arith, s.clock t (size t ht), total_same set x.sets new b t (size t ht));
      pace = λ t ht h. omega (arith, s.pace t (size t ht) (moves t (size t ht) h), total_same set x.sets new b t (size t ht));
      even = s.even;
      seated = λ t ht. s.seated t (size t ht);
    }

-- ---- fold

live_child : (x : Sea) → AreMoving x → (children : List ℕ) → ((c : ℕ) → has children c ≡ true → x.gain c + x.loss c ≡ 1) → (c : ℕ)
    → has children c ≡ true → (c < 2 * x.sets.size) × ((x.sets.live c ≡ true) × (x.sets.parent c ≡ None))
live_child x m children moved c h = m.tops c (omega (arith, moved c h))

fresh : (x : Sea) (children : List ℕ) (joins : List (ℕ × ℕ)) (set : ℕ) (new : Sets) (gain loss : ℕ → ℕ) (rests : ℕ → Bool)
    → AreMoving x → Folds x children joins set new gain loss rests → has children set ≡ false
fresh x children joins set new gain loss rests m f = elim (cases_Bool (has children set)) [
  | inr y ↦ y
  | inl y ↦ absurd (true≢false (sym (live_child x m children f.moved set y).1.0 ∙ f.shrunk.sets.was_free))
]

-- fold: the state stands
pub fold_stands : (d : Dual) (terminals : List ℕ) (x : Sea) (children : List ℕ) (joins : List (ℕ × ℕ)) (set : ℕ) (new : Sets) (gain loss : ℕ → ℕ)
    (rests : ℕ → Bool) → IsSea d terminals x → Folds x children joins set new gain loss rests
    → IsSea d terminals (changed x new gain loss rests)
fold_stands d terminals x children joins set new gain loss rests s f =
    let sets = f.shrunk.sets in
    let not_child = fresh x children joins set new gain loss rests s.moving f in
    let here : set < 2 * x.sets.size = sets.below in
    sea_changed d terminals set x new gain loss rests s (shrunk_but x.sets children joins set new f.shrunk) f.family (record {
      once = λ k. elim (cases_eq k set) [
        | inl e ↦ omega (arith, ap gain e, ap loss e, f.rises.0, f.rises.1.0)
        | inr ne ↦ elim (cases_Bool (has children k)) [
          | inl y ↦ let z = f.still k y in omega (arith, z.0, z.1.0)
          | inr y ↦ let o = f.others k ne y in omega (arith, o.0, o.1.0, s.moving.once k)
        ]
      ];
      tops = λ k h. elim (cases_eq k set) [
        | inl e ↦ (
          omega (arith, e, here, f.shrunk.size),
          (
            ap new.live e ∙ sets.live_set,
            ap new.parent e ∙ sets.parent_others set not_child ∙ s.family.laminar.children.dead_parent set here sets.was_free,
          ),
        )
        | inr ne ↦ elim (cases_Bool (has children k)) [
          | inl y ↦ let z = f.still k y in absurd (omega (arith, z.0, z.1.0, h))
          | inr y ↦
              let o = f.others k ne y in
              let was = s.moving.tops k (omega (arith, o.0, o.1.0, h)) in
              (omega (arith, was.0, f.shrunk.size), (sets.live_others k ne ∙ was.1.0, sets.parent_others k y ∙ was.1.1))
        ]
      ];
      still = λ k r. elim (cases_eq k set) [
        | inl e ↦ absurd (true≢false (sym r ∙ ap rests e ∙ f.rises.1.1))
        | inr ne ↦ elim (cases_Bool (has children k)) [
          | inl y ↦ absurd (true≢false (sym r ∙ (f.still k y).1.1))
          | inr y ↦
              let o = f.others k ne y in
              let was = s.moving.still k (sym o.1.1 ∙ r) in
              (omega (arith, was.0, f.shrunk.size), omega (arith, o.0, o.1.0, was.1))
        ]
      ];
    }) (λ t ht h. elim (cases_Bool (has children (x.sets.top t))) [
      | inl y ↦ f.moved (x.sets.top t) y
      | inr y ↦
          let same = sets.top_others t ht y in
          let ne : x.sets.top t ≢ set = λ e. true≢false (sym (s.family.laminar.tops.top_live t ht) ∙ ap x.sets.live e ∙ sets.was_free) in
          let o = f.others (x.sets.top t) ne y in
          omega (arith, o.0, o.1.0, ap gain same, ap loss same, h)
    ])

-- the place of a point after a fold
pub folded_in : (x : Sea) (children : List ℕ) (joins : List (ℕ × ℕ)) (set : ℕ) (new : Sets) (gain loss : ℕ → ℕ) (rests : ℕ → Bool)
    → AreMoving x → Folds x children joins set new gain loss rests → (p : Point) → ((t far : ℕ) → p ≡ on t far → t < x.sets.size)
    → has children (place_of x.sets p) ≡ true → place_of new p ≡ set
folded_in x children joins set new gain loss rests m f water h y = absurd (omega (arith, (live_child x m children f.moved (2 * x.sets.size) y).0))
folded_in x children joins set new gain loss rests m f (on t far) h y = f.shrunk.sets.top_inside t (h t far refl) y

folded_out : (x : Sea) (children : List ℕ) (joins : List (ℕ × ℕ)) (set : ℕ) (new : Sets) (gain loss : ℕ → ℕ) (rests : ℕ → Bool)
    → Folds x children joins set new gain loss rests → (p : Point) → ((t far : ℕ) → p ≡ on t far → t < x.sets.size)
    → has children (place_of x.sets p) ≡ false → place_of new p ≡ place_of x.sets p
folded_out x children joins set new gain loss rests f water h y = ap (λ z. 2 * z) f.shrunk.size
folded_out x children joins set new gain loss rests f (on t far) h y = f.shrunk.sets.top_others t (h t far refl) y

not_set : (x : Sea) (set : ℕ) → IsFamily x.sets → set < 2 * x.sets.size → x.sets.live set ≡ false → (p : Point)
    → ((t far : ℕ) → p ≡ on t far → t < x.sets.size) → place_of x.sets p ≢ set
not_set x set fam l dead water h e = omega (arith, e, l)
not_set x set fam l dead (on t far) h e = true≢false (sym (fam.laminar.tops.top_live t (h t far refl)) ∙ ap x.sets.live e ∙ dead)

-- and what is due, if the faces of the children that fell are looked at
pub fold_due : (d : Dual) (terminals : List ℕ) (x : Sea) (children : List ℕ) (joins : List (ℕ × ℕ)) (set : ℕ) (new : Sets) (gain loss : ℕ → ℕ)
    (rests looked seen : ℕ → Bool) → IsSea d terminals x → Folds x children joins set new gain loss rests
    → ((g : ℕ) → looked g ≡ false → has children (place_of x.sets (x.point g)) ≡ true → x.loss (place_of x.sets (x.point g)) ≡ 0)
    → IsEvent d x (changed x new gain loss rests) looked seen
fold_due d terminals x children joins set new gain loss rests looked seen s f at =
    let sets = f.shrunk.sets in
    let y = changed x new gain loss rests in
    record {
      time = refl;
      turns = folded (length d.crosses) (sides_of d) (tide_of d x) (tide_of d y) looked (has children) set
          (λ g c. folded_in x children joins set new gain loss rests s.moving f (x.point g) (s.flood.members g) c)
          (λ g c. folded_out x children joins set new gain loss rests f (x.point g) (s.flood.members g) c)
          (room_same d terminals set x new gain loss rests s (shrunk_but x.sets children joins set new f.shrunk))
          (rates_of d y (fold_stands d terminals x children joins set new gain loss rests s f).moving)
          (λ k ne c. f.others k ne c)
          (λ g c. not_set x set s.family sets.below sets.was_free (x.point g) (s.flood.members g))
          (λ g u c.
          let k = place_of x.sets (x.point g) in
          let l = at g u c in (
            omega (arith, l, f.moved k c),
            (
              l,
              elim (cases_Bool (x.rests k)) [
                | inr r ↦ r
                | inl r ↦ absurd (omega (arith, (s.moving.still k r).1, f.moved k c))
              ],
            ),
          ));
      fell = λ k _ l. elim (cases_eq k set) [
        | inl e ↦ absurd (omega (arith, ap loss e, f.rises.1.0, l))
        | inr ne ↦ elim (cases_Bool (has children k)) [
          | inl c ↦ absurd (omega (arith, (f.still k c).1.0, l))
          | inr c ↦ omega (arith, (f.others k ne c).1.0, l)
        ]
      ];
      value = λ k _ _. f.shrunk.value k;
      faces = λ k g t far _ l p q.
          let ht = s.flood.members g t far p in
          elim (cases_Bool (has children (x.sets.top t))) [
            | inl c ↦
                let e : k ≡ set = sym q ∙ sets.top_inside t ht c in
                absurd (omega (arith, ap loss e, f.rises.1.0, l))
            | inr c ↦ (
              p,
              (sym (sets.top_others t ht c) ∙ q, total_same set x.sets new (shrunk_but x.sets children joins set new f.shrunk) t ht),
            )
          ];
    }

-- ---- give way

child_is : (x : Sea) → IsFamily x.sets → (set : ℕ) → set < 2 * x.sets.size → (c : ℕ) → has (x.sets.children set) c ≡ true
    → (c < 2 * x.sets.size) × ((x.sets.live c ≡ true) × (x.sets.parent c ≡ Some set))
child_is x fam set l c h = let r = fam.laminar.children.child set c l h in (r.0, (r.1, r.2))

-- what has no parent is no child
pub no_child : (x : Sea) → IsFamily x.sets → (set : ℕ) → set < 2 * x.sets.size → (k : ℕ) → x.sets.parent k ≡ None
    → has (x.sets.children set) k ≡ false
no_child x fam set l k e = elim (cases_Bool (has (x.sets.children set) k)) [
  | inr y ↦ y
  | inl y ↦ some_none (x.sets.parent k) set (child_is x fam set l k y).1.1 e
]

set_top : (d : Dual) (terminals : List ℕ) (x : Sea) (set : ℕ) (new : Sets) (gain loss : ℕ → ℕ) (rests : ℕ → Bool) → IsSea d terminals x
    → GivesWay x set new gain loss rests → (x.sets.live set ≡ true) × (x.sets.parent set ≡ None)
set_top d terminals x set new gain loss rests s g = (s.moving.tops set (omega (arith, g.fell))).1

-- give way: the state stands
pub give_stands : (d : Dual) (terminals : List ℕ) (x : Sea) (set : ℕ) (new : Sets) (gain loss : ℕ → ℕ) (rests : ℕ → Bool)
    → IsSea d terminals x → GivesWay x set new gain loss rests → IsSea d terminals (changed x new gain loss rests)
give_stands d terminals x set new gain loss rests s g =
    let sets = g.expanded.sets in
    let top = set_top d terminals x set new gain loss rests s g in
    sea_changed d terminals set x new gain loss rests s (expanded_but x.sets set new g.expanded g.empty) g.family (record {
      once = λ k. elim (cases_eq k set) [
        | inl e ↦ omega (arith, ap gain e, ap loss e, g.still.0, g.still.1.0)
        | inr ne ↦ elim (cases_Bool (has (x.sets.children set) k)) [
          | inl y ↦ g.once k y
          | inr y ↦ let o = g.others k ne y in omega (arith, o.0, o.1.0, s.moving.once k)
        ]
      ];
      tops = λ k h. elim (cases_eq k set) [
        | inl e ↦ absurd (omega (arith, ap gain e, ap loss e, g.still.0, g.still.1.0, h))
        | inr ne ↦ elim (cases_Bool (has (x.sets.children set) k)) [
          | inl y ↦
              let c = child_is x s.family set g.below k y in
              (omega (arith, c.0, g.expanded.size), (sets.live_others k ne ∙ c.1.0, sets.parent_child k y))
          | inr y ↦
              let o = g.others k ne y in
              let was = s.moving.tops k (omega (arith, o.0, o.1.0, h)) in
              (omega (arith, was.0, g.expanded.size), (sets.live_others k ne ∙ was.1.0, sets.parent_others k y ∙ was.1.1))
        ]
      ];
      still = λ k r. elim (cases_eq k set) [
        | inl e ↦ absurd (true≢false (sym r ∙ ap rests e ∙ g.still.1.1))
        | inr ne ↦ elim (cases_Bool (has (x.sets.children set) k)) [
          | inl y ↦ absurd (true≢false (sym r ∙ g.awake k y))
          | inr y ↦
              let o = g.others k ne y in
              let was = s.moving.still k (sym o.1.1 ∙ r) in
              (omega (arith, was.0, g.expanded.size), omega (arith, o.0, o.1.0, was.1))
        ]
      ];
    }) (λ t ht h. elim (cases_eq (x.sets.top t) set) [
      | inl e ↦ omega (arith, ap x.gain e, ap x.loss e, g.fell, s.moving.once set)
      | inr ne ↦
          let same = sets.top_others t ht ne in
          let o = g.others (x.sets.top t) ne (no_child x s.family set g.below (x.sets.top t) (s.family.laminar.tops.top_parent t ht)) in
          omega (arith, o.0, o.1.0, ap gain same, ap loss same, h)
    ])

-- a point on another top stays on it
opened_out : (x : Sea) (set : ℕ) (new : Sets) (gain loss : ℕ → ℕ) (rests : ℕ → Bool) → IsFamily x.sets
    → GivesWay x set new gain loss rests → (p : Point) → ((t far : ℕ) → p ≡ on t far → t < x.sets.size)
    → place_of x.sets p ≢ set → (place_of new p ≡ place_of x.sets p) × (has (x.sets.children set) (place_of x.sets p) ≡ false)
opened_out x set new gain loss rests fam g water h ne = (
  ap (λ z. 2 * z) g.expanded.size,
  elim (cases_Bool (has (x.sets.children set) (2 * x.sets.size))) [
    | inr y ↦ y
    | inl y ↦ absurd (omega (arith, (child_is x fam set g.below (2 * x.sets.size) y).0))
  ],
)
opened_out x set new gain loss rests fam g (on t far) h ne = (
  g.expanded.sets.top_others t (h t far refl) ne,
  no_child x fam set g.below (x.sets.top t) (fam.laminar.tops.top_parent t (h t far refl)),
)

-- and what is due, if the faces of the children that do not fall are looked at, and the others seen
pub give_due : (d : Dual) (terminals : List ℕ) (x : Sea) (set : ℕ) (new : Sets) (gain loss : ℕ → ℕ) (rests looked seen : ℕ → Bool)
    → IsSea d terminals x → GivesWay x set new gain loss rests
    → ((g : ℕ) → looked g ≡ false → place_of x.sets (x.point g) ≡ set → loss (place_of new (x.point g)) ≡ 1)
    → ((c : ℕ) → has (x.sets.children set) c ≡ true → loss c ≡ 1 → seen c ≡ true)
    → IsEvent d x (changed x new gain loss rests) looked seen
give_due d terminals x set new gain loss rests looked seen s g at sees =
    let sets = g.expanded.sets in
    let y = changed x new gain loss rests in
    let but = expanded_but x.sets set new g.expanded g.empty in
    let after = give_stands d terminals x set new gain loss rests s g in
    record {
      time = refl;
      turns = opened (length d.crosses) (sides_of d) (tide_of d x) (tide_of d y) looked set
          (λ f ne.
          let a = opened_out x set new gain loss rests s.family g (x.point f) (s.flood.members f) ne in
          let o = g.others (place_of x.sets (x.point f)) ne a.1 in
          (a.0, (o.0, (o.1.0, o.1.1))))
          (room_same d terminals set x new gain loss rests s but)
          (rates_of d x s.moving)
          (elim (cases_Bool (x.rests set)) [
            | inr r ↦ r
            | inl r ↦ absurd (omega (arith, (s.moving.still set r).1, g.fell))
          ])
          (λ f u e.
          let l = at f u e in
          (omega (arith, l, after.moving.once (place_of new (x.point f))), l));
      fell = λ k u l. elim (cases_eq k set) [
        | inl e ↦ absurd (omega (arith, ap loss e, g.still.1.0, l))
        | inr ne ↦ elim (cases_Bool (has (x.sets.children set) k)) [
          | inl c ↦ absurd (true≢false (sym (sees k c l) ∙ u))
          | inr c ↦ omega (arith, (g.others k ne c).1.0, l)
        ]
      ];
      value = λ k _ _. g.expanded.value k;
      faces = λ k f t far u l p q.
          let ht = s.flood.members f t far p in
          elim (cases_eq (x.sets.top t) set) [
            | inl e ↦
                let held : x.sets.holds set t ≡ true = ap (λ z. x.sets.holds z t) (sym e) ∙ s.family.laminar.tops.top_holds t ht in
                let c = s.family.laminar.children.covered set t g.above g.below ht held in
                let same : k ≡ c.0 = sym q ∙ sets.top_inside c.0 t ht c.1 c.2 in
                absurd (true≢false (sym (sees c.0 c.1 (ap loss (sym same) ∙ l)) ∙ ap seen (sym same) ∙ u))
            | inr ne ↦ (p, (sym (sets.top_others t ht ne) ∙ q, total_same set x.sets new but t ht))
          ];
    }

-- ---- take and leave

-- what is no distance away from two points is as far apart as these
near_same : (f : Sets) (p p' q q' : Point) → apart f p p' ≡ 0 → apart f q q' ≡ 0 → apart f p' q' ≡ apart f p q
near_same f p p' q q' a b =
    omega (
      arith,
      a,
      b,
      apart_back f p p',
      apart_back f q q',
      apart_over f p' p q',
      apart_over f p q q',
      apart_over f p p' q,
      apart_over f p' q' q,
    )

-- the face that is noted anew has its new point
pub new_here : (x : Sea) (h : ℕ) (p : Point) (g : ℕ) → g ≡ h → (noted_at x h p).point g ≡ p
new_here x h p g e = cond-true {A = Point} (g == h) p (x.point g) (eq-eqb g h e)

-- and each other face the point that it had
pub new_other : (x : Sea) (h : ℕ) (p : Point) (g : ℕ) → g ≢ h → (noted_at x h p).point g ≡ x.point g
new_other x h p g e = cond-false {A = Point} (g == h) p (x.point g) (ne_eqb g h e)

near_point : (x : Sea) (h : ℕ) (p : Point) → apart x.sets (x.point h) p ≡ 0 → (g : ℕ) → apart x.sets (x.point g) ((noted_at x h p).point g) ≡ 0
near_point x h p near g = elim (cases_eq g h) [
  | inl e ↦ ap (apart x.sets (x.point g)) (new_here x h p g e) ∙ ap (λ z. apart x.sets (x.point z) p) e ∙ near
  | inr ne ↦ ap (apart x.sets (x.point g)) (new_other x h p g ne) ∙ apart_self x.sets (x.point g)
]

-- a face that gets another point where it lies: the state stands
pub shift_stands : (d : Dual) (terminals : List ℕ) (x : Sea) (h : ℕ) (p : Point) → IsSea d terminals x → Shifts d terminals x h p
    → IsSea d terminals (noted_at x h p)
shift_stands d terminals x h p s w =
    let y = noted_at x h p in
    let near = near_point x h p w.near in
    let each : (g t far : ℕ) → y.point g ≡ on t far → (t < x.sets.size) × ((far ≤ total_at x.sets t) × (far % 2 ≡ 0)) =
    λ g t far e. elim (cases_eq g h) [
      | inl q ↦ w.member t far (sym (new_here x h p g q) ∙ e)
      | inr ne ↦
          let was = sym (new_other x h p g ne) ∙ e in
          (s.flood.members g t far was, (s.reached g t far was, s.even g t far was))
    ] in
    record {
      family = s.family;
      flood = record {
        members = λ g t far e. (each g t far e).0;
        seats = λ t ht.
            ap (λ z. apart x.sets z (on t 0)) (new_other x h p (get_or terminals t 0) (w.no_seat t ht)) ∙ s.flood.seats t ht;
        ways = λ k e l.
            let c : Cross = get_or d.crosses k e in
            omega (arith, s.flood.ways k e l, near_same x.sets (x.point c.f) (y.point c.f) (x.point c.g) (y.point c.g) (near c.f) (near c.g));
        home = λ g ne. elim (cases_eq g h) [
          | inl q ↦
              let r = w.home (λ z. ne (new_here x h p g q ∙ z)) in
              (omega (arith, q, r.0), ap (λ z. get_or d.part z 0) q ∙ r.1)
          | inr nq ↦ s.flood.home g (λ z. ne (new_other x h p g nq ∙ z))
        ];
      };
      moving = record { once = s.moving.once; tops = s.moving.tops; still = s.moving.still };
      reached = λ g t far e. (each g t far e).1.0;
      clock = s.clock;
      pace = s.pace;
      even = λ g t far e. (each g t far e).1.1;
      seated = λ t ht. new_other x h p (get_or terminals t 0) (w.no_seat t ht) ∙ s.seated t ht;
    }

-- and what is due, if the face is looked at
pub shift_due : (d : Dual) (terminals : List ℕ) (x : Sea) (h : ℕ) (p : Point) (looked seen : ℕ → Bool) → IsSea d terminals x
    → Shifts d terminals x h p → ((g : ℕ) → looked g ≡ false → g ≢ h) → IsEvent d x (noted_at x h p) looked seen
shift_due d terminals x h p looked seen s w at =
    let y = noted_at x h p in
    let near = near_point x h p w.near in
    record {
      time = refl;
      turns = moved (length d.crosses) (sides_of d) (tide_of d x) (tide_of d y) looked h
          (λ g ne. ap (place_of x.sets) (new_other x h p g ne))
          (λ k.
          let c = way_at d.crosses k in
          omega (arith, near_same x.sets (x.point c.f) (y.point c.f) (x.point c.g) (y.point c.g) (near c.f) (near c.g)))
          (λ k. refl) (λ k. refl) (λ k. refl) at;
      fell = λ k _ l. l;
      value = λ k _ _. refl;
      faces = λ k g t far _ l e q. elim (cases_eq g h) [
        | inl z ↦ absurd (omega (arith, w.grows t far (sym (new_here x h p g z) ∙ e), ap x.loss q, l))
        | inr ne ↦ (sym (new_other x h p g ne) ∙ e, (q, refl))
      ];
    }

-- take and leave are such changes
pub take_shifts : (d : Dual) (terminals : List ℕ) (x : Sea) (h t far : ℕ) → IsSea d terminals x → Takes d terminals x h t far
    → Shifts d terminals x h (on t far)
take_shifts d terminals x h t far s w = record {
  near =
      ap (λ z. apart x.sets z (on t far)) w.open_water ∙ apart_back x.sets water (on t far) ∙
      omega (arith, water_apart x.sets s.family t far w.member, w.shore);
  member = λ u a e.
      let same : t ≡ u = ap member_at e in
      let long : far ≡ a = ap far_at e in
      (omega (arith, same, w.member), (omega (arith, sym long ∙ w.shore ∙ ap (total_at x.sets) same), omega (arith, long, w.even)));
  grows = λ u a e.
      let same : t ≡ u = ap member_at e in
      omega (arith, s.moving.once (x.sets.top u), ap (λ z. x.gain (x.sets.top z)) same, w.grows);
  home = λ _. w.home;
  no_seat = λ m hm e. true≢false (sym (ap is_water (sym (s.seated m hm) ∙ ap x.point e ∙ w.open_water)));
}

-- a face that is left at the shore of its top gets another name of its point
pub leave_shifts : (d : Dual) (terminals : List ℕ) (x : Sea) (h t far : ℕ) → IsSea d terminals x → Leaves terminals x h t far
    → Shifts d terminals x h water
leave_shifts d terminals x h t far s w = record {
  near =
      ap (λ z. apart x.sets z water) w.held ∙
      omega (arith, water_apart x.sets s.family t far (s.flood.members h t far w.held), w.shore);
  member = λ u a e. absurd (true≢false (ap is_water e));
  grows = λ u a e. absurd (true≢false (ap is_water e));
  home = λ ne. absurd (ne refl);
  no_seat = w.no_seat;
}
