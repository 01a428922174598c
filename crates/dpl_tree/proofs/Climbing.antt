use Rattle.std.proofs.Common.{arith, ◌≡◌, ◌≢◌, ℕ, ◌<◌, ◌≤◌, ◌⊎◌, refl, sym, ap, ◌∙◌, subst, inl, inr, Option, Some, None}
use Rattle.std.proofs.lemmas.Bool.{cases_eq}
use Rattle.std.proofs.lemmas.Option.{same_Some}
use Rattle.dpl_laminar.proofs.Numbers.{some_none}
use Rattle.dpl_laminar.specs.Families.{Sets}
use Rattle.dpl_tree.specs.steps.Climbs.{IsClimbing, IsClimbed}
use Rattle.dpl_tree.specs.steps.Forests.{free, Forest, IsForest, IsExposed, IsClimb, IsBeside}
use Rattle.dpl_tree.specs.Mates.{IsExit, ArePairs, Joins, loads}
use Rattle.dpl_tree.proofs.Growing.{outer_in, inner_in, outer_inner_no}

-- s and t, whose sets have no pair else, become mates
pub joined_pairs : (n : ℕ) (f : Sets) (load dist : ℕ → ℕ → ℕ) (mate new : ℕ → Option ℕ) (s t : ℕ)
    → ArePairs n f load dist mate → s < n → t < n → f.top s ≢ f.top t → load s t ≡ dist s t
    → load t s ≡ dist t s → ((m u : ℕ) → IsExit n f mate (f.top s) m u → ⊥)
    → ((m u : ℕ) → IsExit n f mate (f.top t) m u → ⊥) → Joins mate s t new → ArePairs n f load dist new
joined_pairs n f load dist mate new s t p hs ht apart tight tight' sfree tfree j =
    -- a member with an old mate is neither of the two, nor is its mate
    let ns = λ (m u : ℕ) (hm : m < n) (k : mate m ≡ Some u) (e : m ≡ s). sfree m u (record { below = hm; top = ap f.top e; paired = k }) in
    let nt = λ (m u : ℕ) (hm : m < n) (k : mate m ≡ Some u) (e : m ≡ t). tfree m u (record { below = hm; top = ap f.top e; paired = k }) in
    let cases = λ (m u : ℕ) (k : new m ≡ Some u). (elim (cases_eq m s) as
    (λ _. ((m ≡ s) × (u ≡ t)) ⊎ (((m ≡ t) × (u ≡ s)) ⊎ ((m ≢ s) × (m ≢ t) × (mate m ≡ Some u)))) [
      | inl e ↦ inl (e, same_Some _ _ (sym k ∙ ap new e ∙ j.first))
      | inr a ↦ elim (cases_eq m t) [
        | inl e ↦ inr (inl (e, same_Some _ _ (sym k ∙ ap new e ∙ j.second)))
        | inr b ↦ inr (inr (a, b, sym (j.others m a b) ∙ k))
      ]
    ]) in
    let keep = λ (m u : ℕ) (hm : m < n) (k : mate m ≡ Some u). j.others m (ns m u hm k) (nt m u hm k) ∙ k in
    record {
      range = λ m u hm k. elim (cases m u k) [
        | inl w ↦ omega (arith, w.1, ht)
        | inr (inl w) ↦ omega (arith, w.1, hs)
        | inr (inr w) ↦ p.range m u hm w.2
      ];
      back = λ m u hm k. elim (cases m u k) [
        | inl w ↦ ap new w.1 ∙ j.second ∙ ap Some (sym w.0)
        | inr (inl w) ↦ ap new w.1 ∙ j.first ∙ ap Some (sym w.0)
        | inr (inr w) ↦ keep u m (p.range m u hm w.2) (p.back m u hm w.2)
      ];
      leaves = λ m u hm k. elim (cases m u k) [
        | inl w ↦ λ e. apart (ap f.top (sym w.0) ∙ e ∙ ap f.top w.1)
        | inr (inl w) ↦ λ e. apart (sym (ap f.top (sym w.0) ∙ e ∙ ap f.top w.1))
        | inr (inr w) ↦ p.leaves m u hm w.2
      ];
      tight = λ m u hm k. elim (cases m u k) [
        | inl w ↦ ap (λ z. load z u) w.0 ∙ ap (load s) w.1 ∙ tight ∙ sym (ap (λ z. dist z u) w.0 ∙ ap (dist s) w.1)
        | inr (inl w) ↦ ap (λ z. load z u) w.0 ∙ ap (load t) w.1 ∙ tight' ∙ sym (ap (λ z. dist z u) w.0 ∙ ap (dist t) w.1)
        | inr (inr w) ↦ p.tight m u hm w.2
      ];
      alone = λ m a u c hm ha e k l. elim (cases m u k) [
        | inl w ↦ elim (cases a c l) [
          | inl v ↦ w.0 ∙ sym v.0
          | inr (inl v) ↦ absurd (apart (ap f.top (sym w.0) ∙ e ∙ ap f.top v.0))
          | inr (inr v) ↦ absurd (sfree a c (record { below = ha; top = sym e ∙ ap f.top w.0; paired = v.2 }))
        ]
        | inr (inl w) ↦ elim (cases a c l) [
          | inl v ↦ absurd (apart (ap f.top (sym v.0) ∙ sym e ∙ ap f.top w.0))
          | inr (inl v) ↦ w.0 ∙ sym v.0
          | inr (inr v) ↦ absurd (tfree a c (record { below = ha; top = sym e ∙ ap f.top w.0; paired = v.2 }))
        ]
        | inr (inr w) ↦ elim (cases a c l) [
          | inl v ↦ absurd (sfree m u (record { below = hm; top = e ∙ ap f.top v.0; paired = w.2 }))
          | inr (inl v) ↦ absurd (tfree m u (record { below = hm; top = e ∙ ap f.top v.0; paired = w.2 }))
          | inr (inr v) ↦ p.alone m a u c hm ha e w.2 v.2
        ]
      ];
    }

-- a pair is given up
pub record Drops (mate : ℕ → Option ℕ) (ex b : ℕ) (new : ℕ → Option ℕ) : Type 0 where
  pub first : new ex ≡ None
  pub second : new b ≡ None
  pub others : (i : ℕ) → i ≢ ex → i ≢ b → new i ≡ mate i

-- the pairs without one of them
pub dropped_pairs : (n : ℕ) (f : Sets) (load dist : ℕ → ℕ → ℕ) (mate new : ℕ → Option ℕ) (ex b : ℕ)
    → ArePairs n f load dist mate → ex < n → mate ex ≡ Some b → Drops mate ex b new
    → ArePairs n f load dist new
dropped_pairs n f load dist mate new ex b p hx xb d =
    let old = λ (m u : ℕ) (k : new m ≡ Some u). (elim (cases_eq m ex) as (λ _. (m ≢ ex) × (m ≢ b) × (mate m ≡ Some u)) [
      | inl e ↦ some_none (new m) u k (ap new e ∙ d.first)
      | inr a ↦ elim (cases_eq m b) [
        | inl e ↦ some_none (new m) u k (ap new e ∙ d.second)
        | inr c ↦ (a, c, sym (d.others m a c) ∙ k)
      ]
    ]) in
    record {
      range = λ m u hm k. p.range m u hm (old m u k).2;
      back = λ m u hm k.
          let w = old m u k in
          let q = p.back m u hm w.2 in
          d.others u (λ e. w.1 (same_Some _ _ (sym q ∙ ap mate e ∙ xb))) (λ e. w.0 (same_Some _ _ (sym q ∙ ap mate e ∙ p.back ex b hx xb))) ∙ q;
      leaves = λ m u hm k. p.leaves m u hm (old m u k).2;
      tight = λ m u hm k. p.tight m u hm (old m u k).2;
      alone = λ m a u c hm ha e k l. p.alone m a u c hm ha e (old m u k).2 (old a c l).2;
    }

-- a set on the way is not beside it
pub not_beside : {P : Type 0} (x : Forest) (i j : ℕ) → IsBeside x i j → x.place j ≢ free → x.tree j ≡ x.tree i
    → x.rank j ≤ x.rank i → P
not_beside x i j (inl e) p t r = absurd (p e)
not_beside x i j (inr (inl ne)) p t r = absurd (ne t)
not_beside x i j (inr (inr h)) p t r = absurd (omega (arith, h, r))

-- one step of the climb
pub climbed : (n : ℕ) (f : Sets) (dist : ℕ → ℕ → ℕ) (x : Forest) (begin mate less new : ℕ → Option ℕ) (start : ℕ × ℕ) (s t ex b : ℕ)
    → IsForest n f (loads n f) dist x
    → ((s t : ℕ) → (loads n f) s t ≡ (loads n f) t s) → ((s t : ℕ) → s < n → t < n → dist s t ≡ dist t s)
    → IsClimbing n f dist x begin start mate (s, t) → IsExit n f mate (f.top s) ex b → Drops mate ex b less
    → Joins less s t new → IsClimbing n f dist x begin start new (x.above (f.top b), x.entry (f.top b))
climbed n f dist x begin mate less new start s t ex b tree ls ds g w d j =
    let i : ℕ = f.top b in
    let c = g.climb in
    let ps = outer_in c.s_outer in
    let xb : x.mate ex ≡ Some b = sym (c.kept ex w.below (λ z. ps (ap x.place (sym w.top) ∙ z)) (ap x.tree w.top) (omega (arith, ap x.rank w.top))) ∙ w.paired in
    let up = tree.outer_mate (f.top s) ex b c.s_outer (record { below = w.below; top = w.top; paired = xb }) in
    let hb : b < n = c.pairs.range ex b w.below w.paired in
    let bx : mate b ≡ Some ex = c.pairs.back ex b w.below w.paired in
    let link = tree.link_range i up.0 in
    let entry = tree.link_entry i up.0 in
    let over = tree.link_outer i up.0 in
    let above_rank = tree.link_rank i up.0 in
    let above_tree : x.tree (f.top (x.above i)) ≡ x.tree (f.top s) = over.1 ∙ up.2 in
    let not_t : f.top t ≢ i = λ e. c.t_free b ex (record { below = hb; top = sym e; paired = bx }) in
    let not_s : f.top s ≢ i = λ e. outer_inner_no c.s_outer (ap x.place e ∙ up.0) in
    let lp = dropped_pairs n f (loads n f) dist mate less ex b c.pairs w.below w.paired d in
    let under = λ (m u : ℕ) (k : less m ≡ Some u). (elim (cases_eq m ex) as (λ _. mate m ≡ Some u) [
      | inl e ↦ some_none (less m) u k (ap less e ∙ d.first)
      | inr a ↦ elim (cases_eq m b) [
        | inl e ↦ some_none (less m) u k (ap less e ∙ d.second)
        | inr q ↦ sym (d.others m a q) ∙ k
      ]
    ]) in
    let s_free = λ (m u : ℕ) (k : IsExit n f less (f.top s) m u). (
    let e : m ≡ ex = c.pairs.alone m ex u b k.below w.below (k.top ∙ sym w.top) (under m u k.paired) w.paired in
    let r : ⊥ = some_none (less m) u k.paired (ap less e ∙ d.first) in r) in
    let t_free = λ (m u : ℕ) (k : IsExit n f less (f.top t) m u). c.t_free m u (record { below = k.below; top = k.top; paired = under m u k.paired }) in
    let np = joined_pairs n f (loads n f) dist less new s t lp c.s_range c.t_range c.apart c.tight c.tight_back s_free t_free j in
    -- what a member outside of the four has
    let same = λ (m : ℕ) (a : m ≢ s) (q : m ≢ t) (h : m ≢ ex) (k : m ≢ b). j.others m a q ∙ d.others m h k in
    let off = λ (m : ℕ) (os : f.top m ≢ f.top s) (ot : f.top m ≢ f.top t) (oi : f.top m ≢ i).
    same m (λ e. os (ap f.top e)) (λ e. ot (ap f.top e)) (λ e. os (ap f.top e ∙ w.top)) (λ e. oi (ap f.top e)) in
    -- a set that had a pair has one
    let stays = λ (o : ℕ) (ne : o ≢ f.top (x.entry i)) (v : o ≢ f.top t → (a : ℕ) × (z : ℕ) × IsExit n f mate o a z). (
    elim (cases_eq o (f.top t)) as (λ _. (a : ℕ) × (z : ℕ) × IsExit n f new o a z) [
      | inl e ↦ (t, s, record { below = c.t_range; top = sym e; paired = j.second })
      | inr ot ↦ elim (cases_eq o (f.top s)) [
        | inl e ↦ (s, t, record { below = c.s_range; top = sym e; paired = j.first })
        | inr os ↦
            let k = v ot in
            let at = k.2.top in (
              k.0,
              k.1,
              record {
                below = k.2.below;
                top = at;
                paired = off k.0 (λ e. os (sym at ∙ e)) (λ e. ot (sym at ∙ e)) (λ e. ne (sym at ∙ e ∙ sym entry)) ∙ k.2.paired;
              },
            )
      ]
    ]) in
    let tight : (loads n f) (x.above i) (x.entry i) ≡ dist (x.above i) (x.entry i) = tree.link_tight i up.0 in
    record {
      climb = record {
        s_range = link.0;
        t_range = link.1;
        s_outer = over.0;
        apart = λ e. outer_inner_no over.0 (ap x.place (e ∙ entry) ∙ up.0);
        tight = tight;
        tight_back = ls _ _ ∙ tight ∙ ds _ _ link.0 link.1;
        pairs = np;
        t_free = λ m u k.
            let tm : f.top m ≡ i = k.top ∙ entry in
            let a : m ≢ s = λ e. not_s (ap f.top (sym e) ∙ tm) in
            let q : m ≢ t = λ e. not_t (ap f.top (sym e) ∙ tm) in
            let l : less m ≡ Some u = sym (j.others m a q) ∙ k.paired in
            let e : m ≡ b = c.pairs.alone m b u ex k.below hb tm (under m u l) bx in
            some_none (less m) u l (ap less e ∙ d.second);
        t_rank = λ z y. omega (arith, above_rank, ap x.rank entry);
        kept = λ m hm z e le.
            let lo : x.rank (f.top m) < x.rank i = omega (arith, le, above_rank) in
            let es : x.tree (f.top m) ≡ x.tree (f.top s) = e ∙ above_tree in
            let a : f.top m ≢ f.top s = λ y. omega (arith, lo, ap x.rank y, up.1) in
            let h : f.top m ≢ i = λ y. omega (arith, lo, ap x.rank y) in
            let q : f.top m ≢ f.top t = λ y. omega (
              arith,
              lo,
              up.1,
              c.t_rank (λ y'. z (ap x.place y ∙ y')) (ap x.tree (sym y) ∙ es),
              ap x.rank y,
            ) in
            off m a q h ∙ c.kept m hm z es (omega (arith, lo, up.1));
      };
      same = above_tree ∙ g.same;
      low = omega (arith, above_rank, up.1, g.low);
      kept = λ o m u ne k. stays o ne (λ ot. g.kept o m u ot k);
      second = λ ne. stays (f.top start.1) ne g.second;
      others = λ m hm out ne.
          let os : f.top m ≢ f.top s = λ e. not_beside x (f.top start.0) (f.top m) out (λ z. ps (ap x.place (sym e) ∙ z)) (ap x.tree e ∙ g.same)
          (omega (arith, ap x.rank e, g.low)) in
          let ot : f.top m ≢ f.top t = λ e. ne (e ∙ g.far (subst (λ (z : ℕ). IsBeside x (f.top start.0) z) e out)) in
          let oi : f.top m ≢ i = λ e. not_beside x (f.top start.0) (f.top m) out (λ z. inner_in up.0 (ap x.place (sym e) ∙ z))
          (ap x.tree e ∙ up.2 ∙ g.same) (omega (arith, ap x.rank e, up.1, g.low)) in
          off m os ot oi ∙ g.others m hm out ne;
      far = λ out. not_beside x (f.top start.0) (f.top (x.entry i)) out (λ z. inner_in up.0 (ap x.place (sym entry) ∙ z))
          (ap x.tree entry ∙ up.2 ∙ g.same) (omega (arith, ap x.rank entry, up.1, g.low));
    }

-- the end of the climb, at the root
pub climb_ended : (n : ℕ) (f : Sets) (dist : ℕ → ℕ → ℕ) (x : Forest) (begin mate new : ℕ → Option ℕ) (start : ℕ × ℕ) (s t : ℕ)
    → IsForest n f (loads n f) dist x → IsClimbing n f dist x begin start mate (s, t) → IsExposed n f mate (f.top s)
    → Joins mate s t new → IsClimbed n f dist x begin start new
climb_ended n f dist x begin mate new start s t tree g none j =
    let c = g.climb in
    let ps = outer_in c.s_outer in
    let stays = λ (o : ℕ) (v : o ≢ f.top t → (a : ℕ) × (z : ℕ) × IsExit n f mate o a z). (
    elim (cases_eq o (f.top t)) as (λ _. (a : ℕ) × (z : ℕ) × IsExit n f new o a z) [
      | inl e ↦ (t, s, record { below = c.t_range; top = sym e; paired = j.second })
      | inr ot ↦ elim (cases_eq o (f.top s)) [
        | inl e ↦ (s, t, record { below = c.s_range; top = sym e; paired = j.first })
        | inr os ↦
            let k = v ot in
            let at = k.2.top in (
              k.0,
              k.1,
              record {
                below = k.2.below;
                top = at;
                paired = j.others k.0 (λ e. os (sym at ∙ ap f.top e)) (λ e. ot (sym at ∙ ap f.top e)) ∙ k.2.paired;
              },
            )
      ]
    ]) in
    record {
      pairs = joined_pairs n f (loads n f) dist mate new s t c.pairs c.s_range c.t_range c.apart c.tight c.tight_back none c.t_free j;
      kept = λ i m u k. stays i (λ ot. g.kept i m u ot k);
      second = stays (f.top start.1) g.second;
      root = λ i pi e bare.
          let bare_s : IsExposed n f x.mate (f.top s) = λ m u k. none m u (record {
            below = k.below;
            top = k.top;
            paired = c.kept m k.below (λ z. ps (ap x.place (sym k.top) ∙ z)) (ap x.tree k.top) (omega (arith, ap x.rank k.top)) ∙ k.paired;
          }) in
          let at : i ≡ f.top s = tree.root_alone i (f.top s) pi c.s_outer bare bare_s (e ∙ sym g.same) in
          (s, t, record { below = c.s_range; top = sym at; paired = j.first });
      others = λ m hm out ne.
          let os : f.top m ≢ f.top s = λ e. not_beside x (f.top start.0) (f.top m) out (λ z. ps (ap x.place (sym e) ∙ z)) (ap x.tree e ∙ g.same)
          (omega (arith, ap x.rank e, g.low)) in
          let ot : f.top m ≢ f.top t = λ e. ne (e ∙ g.far (subst (λ (z : ℕ). IsBeside x (f.top start.0) z) e out)) in
          j.others m (λ e. os (ap f.top e)) (λ e. ot (ap f.top e)) ∙ g.others m hm out ne;
    }

-- the climb begins
pub climbing_begun : (n : ℕ) (f : Sets) (dist : ℕ → ℕ → ℕ) (x : Forest) (mate : ℕ → Option ℕ) (join : ℕ × ℕ)
    → IsClimb n f dist x mate join → IsClimbing n f dist x mate join mate join
climbing_begun n f dist x mate join c = record {
  climb = c;
  same = refl;
  low = omega arith;
  kept = λ i m u ne k. (m, u, k);
  second = λ ne. absurd (ne refl);
  others = λ m hm out ne. refl;
  far = λ out. refl;
}
