-- The members that name trees have the time as totals.
use Rattle.std.proofs.Common.{arith, ◌≡◌, ◌≢◌, ℕ, ◌-◌, ◌<◌, sym, ap, ◌∙◌, Bool, true, false, inl, inr, List}
use Rattle.std.proofs.lemmas.Bool.{cases_eq, cases_Bool, true≢false}
use Rattle.dpl_laminar.specs.Families.{Sets, has}
use Rattle.dpl_dual.specs.declared.crosses.Dual.{Dual}
use Rattle.dpl_pack.specs.Points.{Point}
use Rattle.dpl_pack.proofs.FoldLemmas.{shrunk_but, expanded_but}
use Rattle.dpl_flood.specs.Seas.{Sea, IsSea, ArePassed, advanced, changed, noted_at, Grows, Folds, GivesWay, IsNamed}
use Rattle.dpl_flood.proofs.SeaLemmas.{total_passed, times_none}
use Rattle.dpl_flood.proofs.EventLemmas.{total_same, no_child}
use Rattle.dpl_pack.proofs.TightLemmas.{times_one}

-- time
pub named_passed : (d : Dual) (terminals : List ℕ) (x : Sea) (t : ℕ) (v : ℕ → ℕ) (a : ℕ) → IsSea d terminals x → ArePassed x t v
    → IsNamed x a → IsNamed (advanced x t v) a
named_passed d terminals x t v a s p n = record {
  member = n.member;
  grows = n.grows;
  whole =
      let k = x.sets.top a in
      let none : x.loss k ≡ 0 = omega (arith, s.moving.once k, n.grows) in
      omega (
        arith,
        total_passed x t v s.family s.moving p a n.member,
        times_one (x.gain k) (t - x.time) n.grows,
        times_none (x.loss k) (t - x.time) none,
        n.whole,
        p.later,
      );
}

-- other rates, as long as the top of the name grows: so in a thaw, and where other trees end
pub named_rated : (x : Sea) (gain loss : ℕ → ℕ) (rests : ℕ → Bool) (a : ℕ) → gain (x.sets.top a) ≡ 1 → IsNamed x a
    → IsNamed (changed x x.sets gain loss rests) a
named_rated x gain loss rests a g n = record { member = n.member; grows = g; whole = n.whole }

-- a member that names a tree does so where a tree grows by two tops
pub named_grown : (x : Sea) (inner outer : ℕ) (gain loss : ℕ → ℕ) (rests : ℕ → Bool) (a : ℕ) → Grows x inner outer gain loss rests
    → IsNamed x a → IsNamed (changed x x.sets gain loss rests) a
named_grown x inner outer gain loss rests a g n = named_rated x gain loss rests a (elim (cases_eq (x.sets.top a) inner) [
  | inl e ↦ absurd (omega (arith, n.grows, ap x.gain e, g.free.0))
  | inr ni ↦ elim (cases_eq (x.sets.top a) outer) [
    | inl e ↦ ap gain e ∙ g.rises.0
    | inr nu ↦ (g.others (x.sets.top a) ni nu).0 ∙ n.grows
  ]
]) n

-- a fold: two names stay in two tops if not both are in the ring
pub named_folded : (d : Dual) (terminals : List ℕ) (x : Sea) (children : List ℕ) (joins : List (ℕ × ℕ)) (set : ℕ) (new : Sets)
    (gain loss : ℕ → ℕ) (rests : ℕ → Bool) (a : ℕ) → IsSea d terminals x → Folds x children joins set new gain loss rests
    → IsNamed x a → IsNamed (changed x new gain loss rests) a
named_folded d terminals x children joins set new gain loss rests a s f n =
    let sets = f.shrunk.sets in
    record {
      member = omega (arith, n.member, f.shrunk.size);
      grows = elim (cases_Bool (has children (x.sets.top a))) [
        | inl y ↦ ap gain (sets.top_inside a n.member y) ∙ f.rises.0
        | inr y ↦
            let ne : x.sets.top a ≢ set =
            λ e. true≢false (sym (s.family.laminar.tops.top_live a n.member) ∙ ap x.sets.live e ∙ sets.was_free) in
            ap gain (sets.top_others a n.member y) ∙ (f.others (x.sets.top a) ne y).0 ∙ n.grows
      ];
      whole = total_same set x.sets new (shrunk_but x.sets children joins set new f.shrunk) a n.member ∙ n.whole;
    }

-- two names stay in two tops where not both are in the ring
pub folded_two : (d : Dual) (terminals : List ℕ) (x : Sea) (children : List ℕ) (joins : List (ℕ × ℕ)) (set : ℕ) (new : Sets)
    (gain loss : ℕ → ℕ) (rests : ℕ → Bool) (a b : ℕ) → IsSea d terminals x → Folds x children joins set new gain loss rests
    → IsNamed x a → IsNamed x b → x.sets.top a ≢ x.sets.top b
    → (has children (x.sets.top a) ≡ true → has children (x.sets.top b) ≡ true → ⊥) → new.top a ≢ new.top b
folded_two d terminals x children joins set new gain loss rests a b s f n m ne once e =
    let sets = f.shrunk.sets in
    let live : (c : ℕ) → c < x.sets.size → x.sets.top c ≢ set =
    λ c h q. true≢false (sym (s.family.laminar.tops.top_live c h) ∙ ap x.sets.live q ∙ sets.was_free) in
    elim (cases_Bool (has children (x.sets.top a))) [
      | inl y ↦ elim (cases_Bool (has children (x.sets.top b))) [
        | inl z ↦ once y z
        | inr z ↦ live b m.member (sym (sets.top_others b m.member z) ∙ sym e ∙ sets.top_inside a n.member y)
      ]
      | inr y ↦ elim (cases_Bool (has children (x.sets.top b))) [
        | inl z ↦ live a n.member (sym (sets.top_others a n.member y) ∙ e ∙ sets.top_inside b m.member z)
        | inr z ↦ ne (sym (sets.top_others a n.member y) ∙ e ∙ sets.top_others b m.member z)
      ]
    ]

-- a set that gives way has no name in it
pub named_opened : (d : Dual) (terminals : List ℕ) (x : Sea) (set : ℕ) (new : Sets) (gain loss : ℕ → ℕ) (rests : ℕ → Bool) (a : ℕ)
    → IsSea d terminals x → GivesWay x set new gain loss rests → IsNamed x a
    → IsNamed (changed x new gain loss rests) a × (new.top a ≡ x.sets.top a)
named_opened d terminals x set new gain loss rests a s g n =
    let ne : x.sets.top a ≢ set = λ e. omega (arith, s.moving.once set, g.fell, ap x.gain e, n.grows) in
    let same = g.expanded.sets.top_others a n.member ne in
    let child : has (x.sets.children set) (x.sets.top a) ≡ false =
    no_child x s.family set g.below (x.sets.top a) (s.family.laminar.tops.top_parent a n.member) in (
      record {
        member = omega (arith, n.member, g.expanded.size);
        grows = ap gain same ∙ (g.others (x.sets.top a) ne child).0 ∙ n.grows;
        whole = total_same set x.sets new (expanded_but x.sets set new g.expanded g.empty) a n.member ∙ n.whole;
      },
      same,
    )

-- a face that is taken or left
pub named_shifted : (x : Sea) (h : ℕ) (p : Point) (a : ℕ) → IsNamed x a → IsNamed (noted_at x h p) a
named_shifted x h p a n = record { member = n.member; grows = n.grows; whole = n.whole }
