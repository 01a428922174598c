use Rattle.std.proofs.Common.{arith, ◌≡◌, ◌≢◌, ℕ, zero, suc, ◌+◌, ◌%◌, ◌<◌, refl, ap, ◌∙◌, true, false, get_or, List, [], ◌∷◌, None, inl, inr, eq-eqb}
use Rattle.std.proofs.lemmas.Bool.{cases_Bool, lt-ltb}
use Rattle.dpl_laminar.specs.Families.{Sets, IsTie, has}
use Rattle.dpl_laminar.specs.Changes.{IsSingles, AreJoined, IsShrunk}
use Rattle.dpl_laminar.specs.Storing.{Stored}
use Rattle.dpl_laminar.proofs.Numbers.{place_in, some_none}
use Rattle.dpl_matching_tests.proofs.laminar.made_and_taken_apart.Goals as goal

abbrev three : List ℕ
three = 0 ∷ 1 ∷ 2 ∷ []

abbrev pairs : List (ℕ × ℕ)
pairs = (0, 1) ∷ (1, 2) ∷ (2, 0) ∷ []

-- what three tops keep after a value is changed
record AreSingle (f : Sets) : Type 0 where
  size : f.size ≡ 3
  live : (i : ℕ) → i < 3 → f.live i ≡ true
  holds : (i : ℕ) → i < 3 → f.holds i i ≡ true
  parent : (i : ℕ) → f.parent i ≡ None

singles : (f g : Sets) → IsSingles 3 f → g ≡ record f { value = g.value } → AreSingle g
singles f g s e = record {
  size = ap (λ (z : Sets). z.size) e ∙ s.size;
  live = λ i h. ap (λ (z : Sets). z.live i) e ∙ s.live i (omega arith) ∙ lt-ltb i 3 h;
  holds = λ i h. ap (λ (z : Sets). z.holds i i) e ∙ s.holds i i (omega arith) h ∙ eq-eqb i i refl;
  parent = λ i. ap (λ (z : Sets). z.parent i) e ∙ s.parent i;
}

number_at : (i : ℕ) → i < 3 → get_or three i 0 ≡ i
number_at zero h = refl
number_at (suc zero) h = refl
number_at (suc (suc zero)) h = refl
number_at (suc (suc (suc i))) h = absurd (omega arith)

is_below : (c : ℕ) → has three c ≡ true → c < 3
is_below c h = let r = place_in three c h in omega (arith, r.1, r.2, number_at r.0 r.1)

tie_of : (f : Sets) → AreSingle f → (c d : ℕ) → c < 3 → d < 3 → IsTie f c d (c, d)
tie_of f s c d hc hd = record { from_range = omega (arith, s.size, hc); from = s.holds c hc; to_range = omega (arith, s.size, hd); to = s.holds d hd }

tie_at : (f : Sets) → AreSingle f → (i : ℕ) → i < 3 → IsTie f (get_or three i 0) (get_or three ((i + 1) % 3) 0) (get_or pairs i (0, 0))
tie_at f s zero h = tie_of f s 0 1 (omega arith) (omega arith)
tie_at f s (suc zero) h = tie_of f s 1 2 (omega arith) (omega arith)
tie_at f s (suc (suc zero)) h = tie_of f s 2 0 (omega arith) (omega arith)
tie_at f s (suc (suc (suc i))) h = absurd (omega arith)

joined : (f : Sets) → AreSingle f → AreJoined f three pairs
joined f s = record {
  tops = record {
    count_odd = refl;
    several = omega arith;
    below = λ c h. omega (arith, s.size, is_below c h);
    are_live = λ c h. s.live c (is_below c h);
    parentless = λ c h. s.parent c;
    distinct = λ i j h l e. omega (arith, h, l, e, number_at i (omega arith), number_at j l);
  };
  count = refl;
  tied = tie_at f s;
}

-- a member that was single is live, and has the new set as its parent
live_still : (f g : Sets) (set : ℕ) → AreSingle f → IsShrunk f three pairs set g → (i : ℕ) → i < 3 → g.live i ≡ true
live_still f g set s p i h = p.sets.live_others i (λ e. omega (arith, e, s.size, p.sets.at_least)) ∙ s.live i h

inner : (f g : Sets) (set : ℕ) → IsShrunk f three pairs set g → (i : ℕ) → has three i ≡ true → g.parent i ≢ None
inner f g set p i h e = some_none (g.parent i) set (p.sets.parent_child i h) e

-- the new set is a top: it is none of its own children, and its number had no set before
no_parent : (f g : Sets) (set : ℕ) → AreSingle f → IsShrunk f three pairs set g → g.parent set ≡ None
no_parent f g set s p = elim (cases_Bool (has three set)) [
  | inl k ↦ absurd (omega (arith, is_below set k, s.size, p.sets.at_least))
  | inr k ↦ p.sets.parent_others set k ∙ s.parent set
]

pub shrink-requires : goal.shrink-requires
shrink-requires g c = joined _ (singles _ _ c.in_ok-family.ensures.singles c.raise.ensures.rest)

pub child_after-requires : goal.child_after-requires
child_after-requires g c = inner _ _ c.in-Ok.set c.in-Ok.ensures.ok 0 refl

pub child_after-requires-in-Ok : goal.child_after-requires-in-Ok
child_after-requires-in-Ok g c = inner _ _ c.in-Ok.set c.in-Ok.ensures.ok 1 refl

pub child_after-requires-in-Ok-2 : goal.child_after-requires-in-Ok-2
child_after-requires-in-Ok-2 g c = inner _ _ c.in-Ok.set c.in-Ok.ensures.ok 2 refl

pub parent-requires : goal.parent-requires
parent-requires g c = live_still _ _ c.in-Ok.set (singles _ _ c.in_ok-family.ensures.singles c.raise.ensures.rest) c.in-Ok.ensures.ok 1 (omega arith)

pub expand-requires-clause-top : goal.expand-requires-clause-top
expand-requires-clause-top g c = no_parent _ _ c.in-Ok.set (singles _ _ c.in_ok-family.ensures.singles c.raise.ensures.rest) c.in-Ok.ensures.ok

pub value-requires-in-Err : goal.value-requires-in-Err
value-requires-in-Err g c = ap (λ (z : Stored). get_or z.live 0 false) c.in-Err.ensures.err ∙
    (singles _ _ c.in_ok-family.ensures.singles c.raise.ensures.rest).live 0 (omega arith)

pub value-requires-in-Err-2 : goal.value-requires-in-Err-2
value-requires-in-Err-2 g c = ap (λ (z : Stored). get_or z.live 1 false) c.in-Err.ensures.err ∙
    (singles _ _ c.in_ok-family.ensures.singles c.raise.ensures.rest).live 1 (omega arith)

pub value-requires-in-Err-3 : goal.value-requires-in-Err-3
value-requires-in-Err-3 g c = ap (λ (z : Stored). get_or z.live 2 false) c.in-Err.ensures.err ∙
    (singles _ _ c.in_ok-family.ensures.singles c.raise.ensures.rest).live 2 (omega arith)
