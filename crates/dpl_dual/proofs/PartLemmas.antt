-- Chains of ways are those of the pairs of faces on both sides of a way.
use Rattle.std.proofs.Common.{arith, ◌≡◌, ℕ, ◌<◌, ◌==◌, ◌⊎◌, sym, ap, ◌∙◌, subst, inl, inr, List, [], ◌∷◌, length, map, get_or, eq-eqb}
use Rattle.std.specs.Prelude.{Contains, All}
use Rattle.std.proofs.lemmas.Bool.{ne_eqb, cases_eq, cond-true, cond-false}
use Rattle.std.proofs.lemmas.List.{length-map, get_or-map, get_or_default}
use Rattle.std.proofs.lemmas.List.Elements.{All-map}
use Rattle.dpl_list.proofs.Lists.{contains_map}
use Rattle.dpl_classes.specs.Chains.{IsChain, AreLinked as ArePaired}
use Rattle.dpl_classes.specs.Classes.{AreClasses}
use Rattle.dpl_dual.specs.declared.crosses.Cross.{Cross}
use Rattle.dpl_dual.specs.Chains.{no_cross, IsAt, Leads, AreLinked, beyond}
use Rattle.dpl_dual.specs.Duals.{AreWays, AreParts}
use Rattle.dpl_dual.proofs.ChainLemmas.{beyond_first, beyond_second}

-- the two faces of a way
abbrev pub sides_of : Cross → ℕ × ℕ
sides_of x = (x.f, x.g)

pub sides_within : (faces : ℕ) (ways : List Cross) → AreWays faces ways
    → All (λ (p : ℕ × ℕ). (p.0 < faces) × (p.1 < faces)) (map sides_of ways)
sides_within faces ways w = All-map (λ (p : ℕ × ℕ). (p.0 < faces) × (p.1 < faces)) sides_of ways w

-- ---- from ways to pairs

way_pair : (ways : List Cross) (x : Cross) (f : ℕ) → Contains ways x → IsAt x f
    → Contains (map sides_of ways) (f, beyond x f) ⊎ Contains (map sides_of ways) (beyond x f, f)
way_pair ways x f c a = elim (cases_eq x.f f) [
  | inl here ↦
      let far : x.g ≡ beyond x f = sym (cond-true (x.f == f) x.g x.f (eq-eqb x.f f here)) in
      inl (contains_map sides_of ways x (f, beyond x f) c (pair here far))
  | inr away ↦
      let far : x.f ≡ beyond x f = sym (cond-false (x.f == f) x.g x.f (ne_eqb x.f f away)) in
      let there : x.g ≡ f = elim a [ inl e ↦ absurd (away e) | inr e ↦ e ] in
      inr (contains_map sides_of ways x (beyond x f, f) c (pair far there))
]
  where
    pair : {a b c d : ℕ} → a ≡ c → b ≡ d → ◌≡◌ {A = ℕ × ℕ} (a, b) (c, d)
    pair p q = cc

leads_paired : (ways : List Cross) (f : ℕ) (xs : List Cross) (h : ℕ) → Leads ways f xs h → ArePaired (map sides_of ways) f h
leads_paired ways f [] h l = record { chain = []; is = l }
leads_paired ways f (x ∷ xs) h l =
    let rest = leads_paired ways (beyond x f) xs h l.2 in
    record { chain = beyond x f ∷ rest.chain; is = (way_pair ways x f l.0 l.1, rest.is) }

-- ---- from pairs to ways

-- a way with these faces on its sides
record HasSides (ways : List Cross) (f g : ℕ) : Type 0 where
  way : Cross
  is_way : Contains ways way
  first : way.f ≡ f
  second : way.g ≡ g

has_sides : (ways : List Cross) (f g : ℕ) → Contains (map sides_of ways) (f, g) → HasSides ways f g
has_sides ways f g (k, l, e) =
    let m : k < length ways = omega (arith, l, length-map ways sides_of) in
    let x = get_or ways k no_cross in
    let both : sides_of x ≡ (f, g) = sym (get_or-map sides_of ways k no_cross (f, g) m) ∙ e in
    record {
      way = x;
      is_way = (k, m, get_or_default ways k x no_cross m);
      first = ap (λ (p : ℕ × ℕ). p.0) both;
      second = ap (λ (p : ℕ × ℕ). p.1) both;
    }

-- a way leads over from one face to the other
record IsOver (ways : List Cross) (f g : ℕ) : Type 0 where
  way : Cross
  is_way : Contains ways way
  at : IsAt way f
  to : beyond way f ≡ g

pair_way : (ways : List Cross) (f g : ℕ) → Contains (map sides_of ways) (f, g) ⊎ Contains (map sides_of ways) (g, f) → IsOver ways f g
pair_way ways f g (inl c) =
    let s = has_sides ways f g c in
    record { way = s.way; is_way = s.is_way; at = inl s.first; to = ap (beyond s.way) (sym s.first) ∙ beyond_first s.way ∙ s.second }
pair_way ways f g (inr c) =
    let s = has_sides ways g f c in
    record { way = s.way; is_way = s.is_way; at = inr s.second; to = ap (beyond s.way) (sym s.second) ∙ beyond_second s.way ∙ s.first }

chain_linked : (ways : List Cross) (f : ℕ) (js : List ℕ) (h : ℕ) → IsChain (map sides_of ways) f js h → AreLinked ways f h
chain_linked ways f [] h e = ([], e)
chain_linked ways f (j ∷ js) h (c, more) =
    let o = pair_way ways f j c in
    let rest = chain_linked ways j js h more in
    let P : ℕ → Type 0 = λ z. Leads ways z rest.0 h in
    (o.way ∷ rest.0, (o.is_way, o.at, subst P (sym o.to) rest.1))

-- ---- the classes of the pairs are the parts

pub parts_are : (faces : ℕ) (ways : List Cross) (part : List ℕ) (count' : ℕ)
    → AreClasses (map sides_of ways) faces part count' → AreParts faces ways part
parts_are faces ways part count' a = λ f h hf hh. (
  λ e. let p = (a.same f h hf hh).0 e in chain_linked ways f p.chain h p.is,
  λ l. (a.same f h hf hh).1 (leads_paired ways f l.0 h l.1),
)
