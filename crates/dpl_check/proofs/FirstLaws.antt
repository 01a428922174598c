-- A miss is the first difference.
use Rattle.std.proofs.Common.{◌≡◌, ◌<◌, ◌⊎◌, inl, inr, ℕ, Bool, true, false, nat_lt, List, [], ◌∷◌, refl, sym, ap, ◌∙◌, Option, None, Some}
use Rattle.std.specs.Prelude.{pos}
use Rattle.std.proofs.lemmas.Bool.{ltb-true}
use Rattle.dpl_rules.specs.Readers.{or_else}
use Rattle.dpl_good.specs.declared.refusals.Miss.{Miss}
use Rattle.dpl_good.specs.Misses.{miss}
use Rattle.dpl_good.specs.Conditions.{edge_miss, lists_miss}
use Rattle.dpl_good.specs.FirstDifferences.{FirstDifference}
use Rattle.dpl_good.proofs.ListLaws.{AreTold, edge_none}

abbrev some_miss : Miss → Option Miss
some_miss m = Some m

some_is : (a b : Miss) → some_miss a ≡ some_miss b → a ≡ b
some_is a b e = cc

edge_some : (x w : ℕ) (m : Miss) → edge_miss x w ≡ Some m → ((x < w) × (m ≡ miss x (pos 1) (pos 0))) ⊎ ((w < x) × (m ≡ miss w (pos 0) (pos 1)))
edge_some x w m e = by_tests (nat_lt x w) (nat_lt w x) refl refl where
  by_tests : (s t : Bool) → nat_lt x w ≡ s → nat_lt w x ≡ t → ((x < w) × (m ≡ miss x (pos 1) (pos 0))) ⊎ ((w < x) × (m ≡ miss w (pos 0) (pos 1)))
  by_tests true t f g = inl (ltb-true x w f, sym (some_is (miss x (pos 1) (pos 0)) m (rw f at e)))
  by_tests false true f g = inr (ltb-true w x g, sym (some_is (miss w (pos 0) (pos 1)) m (rw (f, g) at e)))
  by_tests false false f g = let bad = rw (f, g) at e in absurd (cc)

both_first : {X : Type 0} (edge : X → ℕ) (line_miss : X → X → Option Miss) → AreTold edge line_miss
    → (x w : X) (xs ws : List X) (m : Miss)
    → (lists_miss edge line_miss xs ws ≡ Some m → FirstDifference edge line_miss xs ws m)
    → (a b : Option Miss) → edge_miss (edge x) (edge w) ≡ a → line_miss x w ≡ b
    → or_else a (or_else b (lists_miss edge line_miss xs ws)) ≡ Some m
    → FirstDifference edge line_miss (x ∷ xs) (w ∷ ws) m
both_first edge line_miss t x w xs ws m k (Some n) b f g e =
    let n-is : n ≡ m = some_is n m e in
    let d = edge_some (edge x) (edge w) m (f ∙ e) in
    record {
      same = [];
      listed_behind = x ∷ xs;
      wanted_behind = w ∷ ws;
      listed_split = refl;
      wanted_split = refl;
      differ = elim d [ inl p ↦ inl p | inr p ↦ inr (inl p) ];
    }
both_first edge line_miss t x w xs ws m k None (Some n) f g e =
    record {
      same = [];
      listed_behind = x ∷ xs;
      wanted_behind = w ∷ ws;
      listed_split = refl;
      wanted_split = refl;
      differ = inr (inr (edge_none (edge x) (edge w) f, g ∙ e));
    }
both_first edge line_miss t x w xs ws m k None None f g e =
    let others = k e in
    let same = t.told x w (edge_none (edge x) (edge w) f) g in
    record {
      same = x ∷ others.same;
      listed_behind = others.listed_behind;
      wanted_behind = others.wanted_behind;
      listed_split = ap (λ l. x ∷ l) others.listed_split;
      wanted_split = rw same (ap (λ l. w ∷ l) others.wanted_split);
      differ = others.differ;
    }

-- where lists of lines differ, what is told is the first difference
pub lists_first : {X : Type 0} (edge : X → ℕ) (line_miss : X → X → Option Miss) → AreTold edge line_miss
    → (xs ws : List X) (m : Miss) → lists_miss edge line_miss xs ws ≡ Some m
    → FirstDifference edge line_miss xs ws m
lists_first edge line_miss t [] [] m e = absurd (cc)
lists_first edge line_miss t [] (w ∷ ws) m e = record {
  same = [];
  listed_behind = [];
  wanted_behind = w ∷ ws;
  listed_split = refl;
  wanted_split = refl;
  differ = sym (some_is (miss (edge w) (pos 0) (pos 1)) m e);
}
lists_first edge line_miss t (x ∷ xs) [] m e = record {
  same = [];
  listed_behind = x ∷ xs;
  wanted_behind = [];
  listed_split = refl;
  wanted_split = refl;
  differ = sym (some_is (miss (edge x) (pos 1) (pos 0)) m e);
}
lists_first edge line_miss t (x ∷ xs) (w ∷ ws) m e = both_first edge line_miss t x w xs ws m
    (lists_first edge line_miss t xs ws m) (edge_miss (edge x) (edge w)) (line_miss x w) refl refl e
