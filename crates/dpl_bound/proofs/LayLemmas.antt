-- Loads while walks are laid, and packings with one walk more.
use Rattle.std.proofs.Common.{arith, ◌≡◌, ◌≢◌, ℕ, ◌+◌, ◌*◌, ◌<◌, ◌≤◌, ◌^◌, true, false, inl, inr, sym, ap, subst, ◌∙◌, List, [], ◌∷◌, ◌++◌, map, length, take}
use Rattle.std.proofs.Common.{get_or, set, length-set, get_or-set_same, get_or-set_other}
use Rattle.std.proofs.lemmas.Bool.{cases_eq, true≢false}
use Rattle.std.proofs.lemmas.List.{take_more, map_push}
use Rattle.std.proofs.lemmas.List.Elements.{All-append, All-cons, All-nil}
use Rattle.dpl_sign.specs.declared.graphs.Signed.{Signed}
use Rattle.dpl_sign.specs.declared.walks.Cycle.{Cycle}
use Rattle.dpl_sign.specs.Kinds.{is_bond}
use Rattle.dpl_sign.specs.Walks.{edge_at, IsOddWalk}
use Rattle.dpl_sign.specs.Packings.{load, passages, passages_of, IsPacking, bound_of}
use Rattle.dpl_sign.proofs.WalkLemmas.{bound_small}
use Rattle.dpl_sign.proofs.Loads.{at_same, at_other, load_push, load_append}
use Rattle.dpl_bound.specs.Packed.{AreWithin, HaveRisen, AreLaid}

-- nothing is laid
pub risen_same : (g : Signed) (a : List ℕ) → HaveRisen g a [] a
risen_same g a e k f = omega arith

-- loads that have risen still have when they rise on
pub risen_less : (g : Signed) (a b c : List ℕ) (ps : List (ℕ × ℕ)) → HaveRisen g a ps b → HaveRisen g b [] c → HaveRisen g a [] c
risen_less g a b c ps h i e k f = omega (arith, h e k f, i e k f)

-- what is laid adds up
pub risen_on : (g : Signed) (a b c : List ℕ) (ps qs : List (ℕ × ℕ)) → HaveRisen g a ps b → HaveRisen g b qs c → HaveRisen g a (ps ++ qs) c
risen_on g a b c ps qs h i e k f = omega (arith, h e k f, i e k f, load_append ps qs e)

-- the edges of a walk with its half weight
abbrev pub laid_of : ℕ → List ℕ → List (ℕ × ℕ)
laid_of half es = map (λ e. (e, half)) es

-- one passage more
pub risen_next : (g : Signed) (a b c : List ℕ) (half : ℕ) (es : List ℕ) (k x : ℕ) → k < length es → x ≡ get_or es k x
    → HaveRisen g a (laid_of half (take k es)) b → HaveRisen g b ((x, half) ∷ []) c → HaveRisen g a (laid_of half (take (k + 1) es)) c
risen_next g a b c half es k x l is h i =
    let more : take (k + 1) es ≡ take k es ++ x ∷ [] = take_more es k x l ∙ ap (λ z. take k es ++ z ∷ []) (sym is) in
    let P : List (ℕ × ℕ) → Type 0 = λ z. HaveRisen g a z c in
    subst P (sym (ap (laid_of half) more ∙ map_push (λ e. (e, half)) (take k es) x))
    (risen_on g a b c (laid_of half (take k es)) ((x, half) ∷ []) h i)

-- a stitch or a clash takes a half weight
pub risen_one : (g : Signed) (ls : List ℕ) (x half sum : ℕ) → x < length ls → sum ≡ get_or ls x 0 + half
    → HaveRisen g ls ((x, half) ∷ []) (set ls x sum)
risen_one g ls x half sum l s e k f = elim (cases_eq x e) [
  | inl t ↦ omega (arith, load_push [] x half e, at_same x half e t, ap (λ z. get_or (set ls x sum) z 0) (sym t), get_or-set_same ls x sum 0 l, ap (λ z. get_or ls z 0) t, s)
  | inr t ↦ omega (arith, load_push [] x half e, at_other x half e t, get_or-set_other ls x e sum 0 (λ q. t (sym q)))
]

-- and stays within its limit
pub within_one : (g : Signed) (ls : List ℕ) (x sum : ℕ) → AreWithin g ls → x < length ls → sum ≤ 2 * (edge_at g x).weight
    → AreWithin g (set ls x sum)
within_one g ls x sum w l s = record {
  places = length-set ls x sum ∙ w.places;
  within = λ e k f. elim (cases_eq x e) [
    | inl t ↦ omega (arith, ap (λ z. get_or (set ls x sum) z 0) (sym t), get_or-set_same ls x sum 0 l, ap (λ z. (edge_at g z).weight) t, s)
    | inr t ↦ omega (arith, get_or-set_other ls x e sum 0 (λ q. t (sym q)), w.within e k f)
  ];
}

-- a bond carries nothing
pub risen_bond : (g : Signed) (ls : List ℕ) (x half : ℕ) → is_bond (edge_at g x).kind ≡ true → HaveRisen g ls ((x, half) ∷ []) ls
risen_bond g ls x half b e k f =
    let other : x ≢ e = λ t. true≢false (sym b ∙ ap (λ z. is_bond (edge_at g z).kind) t ∙ f) in
    omega (arith, load_push [] x half e, at_other x half e other)

-- the load of a packing with one walk more
load_pass : (cs : List Cycle) (c : Cycle) (e : ℕ) → load (passages (cs ++ c ∷ [])) e ≡ load (passages cs) e + load (passages_of c) e
load_pass [] c e = load_append (passages_of c) [] e ∙ omega arith
load_pass (d ∷ cs) c e =
    omega (arith, load_append (passages_of d) (passages (cs ++ c ∷ [])) e, load_append (passages_of d) (passages cs) e, load_pass cs c e)

-- no walk is laid
pub laid_none : (g : Signed) (ls : List ℕ) → AreWithin g ls → AreLaid g [] ls
laid_none g ls w = record {
  packing = record {
    halves = All-nil (λ c. 1 ≤ c.half);
    odd = All-nil (λ c. IsOddWalk g c.walk);
    within = λ e k f. omega arith;
  };
  within = w;
  covers = λ e k f. omega arith;
}

-- the walks stay where loads rise on
pub laid_still : (g : Signed) (cs : List Cycle) (a b : List ℕ) → AreLaid g cs a → AreWithin g b → HaveRisen g a [] b → AreLaid g cs b
laid_still g cs a b h w i = record {
  packing = h.packing;
  within = w;
  covers = λ e k f. omega (arith, h.covers e k f, i e k f);
}

-- an odd walk is put behind the others
pub laid_more : (g : Signed) (cs : List Cycle) (c : Cycle) (a b : List ℕ) → AreLaid g cs a → AreWithin g b
    → HaveRisen g a (laid_of c.half c.walk.edges) b → 1 ≤ c.half → IsOddWalk g c.walk → AreLaid g (cs ++ c ∷ []) b
laid_more g cs c a b h w i half odd =
    let covers : (e : ℕ) → e < length g.edges → is_bond (edge_at g e).kind ≡ false → load (passages (cs ++ c ∷ [])) e ≤ get_or b e 0 =
    λ e k f. omega (arith, load_pass cs c e, h.covers e k f, i e k f) in
    record {
      packing = record {
        halves = All-append (λ d. 1 ≤ d.half) cs (c ∷ []) h.packing.halves (All-cons (λ d. 1 ≤ d.half) c [] half (All-nil (λ d. 1 ≤ d.half)));
        odd = All-append (λ d. IsOddWalk g d.walk) cs (c ∷ []) h.packing.odd
            (All-cons (λ d. IsOddWalk g d.walk) c [] odd (All-nil (λ d. IsOddWalk g d.walk)));
        within = λ e k f. omega (arith, covers e k f, w.within e k f);
      };
      within = w;
      covers = covers;
    }

-- the bound of a packing fits in 64 bits
pub bound_fits : (g : Signed) (cs ds : List Cycle) → IsPacking g cs → ds ≡ cs → bound_of ds < 2 ^ 64
bound_fits g cs ds p is = omega (arith, bound_small g cs p.odd p.within, ap bound_of is)
