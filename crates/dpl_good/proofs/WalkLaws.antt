-- A cycle line has no miss exactly where it is an odd walk.
use Rattle.std.proofs.Common.{arith, ◌≡◌, ◌≢◌, ◌==◌, ℕ, ◌+◌, ◌%◌, ◌<◌, Bool, true, false, not, cond, List, [], ◌∷◌, length, refl, sym, ap, ◌∙◌, None}
use Rattle.std.proofs.lemmas.Bool.{eqb-true}
use Rattle.std.proofs.lemmas.Bool.Decides.{nat_tests, Decides-eqb, not_from_Decides}
use Rattle.std.proofs.lemmas.List.Sums.{sum_by-cons}
use Rattle.dpl_sign.specs.declared.graphs.Signed.{Signed}
use Rattle.dpl_sign.specs.declared.walks.Walk.{Walk}
use Rattle.dpl_sign.specs.Colourings.{agree}
use Rattle.dpl_sign.specs.Kinds.{is_clash}
use Rattle.dpl_sign.specs.Walks.{edge_at, across, leaves, IsPath, clashes, IsOddWalk}
use Rattle.dpl_good.specs.Conditions.{miss_at_end, end_miss, walk_miss, parity_after}

bit : Bool → ℕ
bit true = 1
bit false = 0

-- the parity at the end of a walk
odd_after : Signed → Bool → List ℕ → Bool
odd_after g odd [] = odd
odd_after g odd (e ∷ es) = odd_after g (parity_after (edge_at g e).kind odd) es

one_parity : (clash odd : Bool) (n : ℕ) → (bit odd + (cond clash 1 0 + n)) % 2 ≡ (bit (not (agree clash odd)) + n) % 2
unfolding bit
one_parity true true n = omega arith
one_parity true false n = omega arith
one_parity false true n = omega arith
one_parity false false n = omega arith

bit_parity : (odd : Bool) → bit odd % 2 ≡ bit odd
unfolding bit
bit_parity true = refl
bit_parity false = refl

parity : (g : Signed) (odd : Bool) (es : List ℕ) → (bit odd + clashes g es) % 2 ≡ bit (odd_after g odd es)
unfolding odd_after
parity g odd [] = let e : bit odd + 0 ≡ bit odd = omega arith in rw e (bit_parity odd)
parity g odd (e ∷ es) =
    let k : clashes g (e ∷ es) ≡ cond (is_clash (edge_at g e).kind) 1 0 + clashes g es = sum_by-cons (λ x. cond (is_clash (edge_at g x).kind) 1 0) e es in
    ap (λ n. (bit odd + n) % 2) k ∙ one_parity (is_clash (edge_at g e).kind) odd (clashes g es) ∙ parity g (parity_after (edge_at g e).kind odd) es

-- how a walk goes on from v
record Goes (g : Signed) (start : ℕ) (es : List ℕ) (place v : ℕ) (before : Bool) : Type 0 where
  path : IsPath g v es start
  odd : odd_after g before es ≡ true

end_goes : (g : Signed) (cycle start place v : ℕ) (before : Bool) → end_miss cycle start place v before ≡ None → (place ≢ 1) × (v ≡ start) × (before ≡ true)
end_goes g cycle start place v before e = ends (place == 1) (v == start) before refl refl e where
  ends : (p q o : Bool) → (place == 1) ≡ p → (v == start) ≡ q → miss_at_end p q o cycle place ≡ None → (place ≢ 1) × (v ≡ start) × (o ≡ true)
  ends true q o a b e = absurd (cc)
  ends false false o a b e = absurd (cc)
  ends false true false a b e = absurd (cc)
  ends false true true a b e = (not_from_Decides (place == 1) (Decides-eqb place 1) a, eqb-true v start b, refl)

one_goes : (g : Signed) (cycle start e : ℕ) (es : List ℕ) (place v : ℕ) (before : Bool)
    → (walk_miss g cycle start es (place + 1) (across (edge_at g e) v) (parity_after (edge_at g e).kind before) ≡ None →
    Goes g start es (place + 1) (across (edge_at g e) v) (parity_after (edge_at g e).kind before) ×
    (place + 1 + length es ≢ 1))
    → (t : Bool) → leaves g e v ≡ t → walk_miss g cycle start (e ∷ es) place v before ≡ None →
    Goes g start (e ∷ es) place v before × (place + length (e ∷ es) ≢ 1)
unfolding odd_after
one_goes g cycle start e es place v before ih true f k =
    let d = ih (rw (f, walk_miss) at k) in
    (record { path = (f, d.0.path); odd = d.0.odd }, omega (arith, d.1))
one_goes g cycle start e es place v before ih false f k = let bad = rw (f, walk_miss) at k in absurd (cc)

walk_goes : (g : Signed) (cycle start : ℕ) (es : List ℕ) (place v : ℕ) (before : Bool)
    → walk_miss g cycle start es place v before ≡ None
    → Goes g start es place v before × (place + length es ≢ 1)
unfolding odd_after
walk_goes g cycle start [] place v before e =
    let d = end_goes g cycle start place v before e in
    (record { path = d.1; odd = d.2 }, omega (arith, d.0))
walk_goes g cycle start (e ∷ es) place v before h = one_goes g cycle start e es place v before
    (walk_goes g cycle start es (place + 1) (across (edge_at g e) v) (parity_after (edge_at g e).kind before))
    (leaves g e v) refl h

not_equal : (place : ℕ) → place ≢ 1 → (place == 1) ≡ false
not_equal place n = grind (arith, nat_tests)

walk_again : (g : Signed) (cycle start : ℕ) (es : List ℕ) (place v : ℕ) (before : Bool) → IsPath g v es start
    → odd_after g before es ≡ true → place + length es ≢ 1 → walk_miss g cycle start es place v before ≡ None
unfolding odd_after
walk_again g cycle start [] place v before p o n =
    let m : place ≢ 1 = omega (arith, n) in
    rw (not_equal place m, p, (Decides-eqb start start).1 refl, o) refl
walk_again g cycle start (e ∷ es) place v before p o n =
    rw (p.0, walk_miss) (walk_again g cycle start es (place + 1) (across (edge_at g e) v)
    (parity_after (edge_at g e).kind before) p.1 o (omega (arith, n)))

odd_bit : (b : Bool) → bit b ≡ 1 → b ≡ true
unfolding bit
odd_bit true e = refl
odd_bit false e = absurd (omega arith)

-- no miss exactly at an odd walk
pub walk_is_odd : (g : Signed) (cycle : ℕ) (w : Walk)
    → (walk_miss g cycle w.start w.edges 1 w.start false ≡ None → IsOddWalk g w) × (IsOddWalk g w → walk_miss g cycle w.start w.edges 1 w.start false ≡ None)
unfolding bit
walk_is_odd g cycle w = (
  λ e.
      let d = walk_goes g cycle w.start w.edges 1 w.start false e in
      let some : 0 < length w.edges = omega (arith, d.1) in
      let o : (0 + clashes g w.edges) % 2 ≡ 1 = parity g false w.edges ∙ ap bit d.0.odd in
      record { closed = (some, d.0.path); odd = omega (arith, o) },
  λ o.
      let c = o.closed in
      let b : bit (odd_after g false w.edges) ≡ 1 = sym (parity g false w.edges) ∙
      (let k : 0 + clashes g w.edges ≡ clashes g w.edges = omega arith in ap (λ n. n % 2) k ∙ o.odd) in
      walk_again g cycle w.start w.edges 1 w.start false c.1 (odd_bit (odd_after g false w.edges) b) (omega (arith, c.0)),
)
