-- Two ways have become a set.
use Rattle.std.proofs.Common.{arith, ◌≡◌, ◌≢◌, ℕ, ◌<◌, sym, ap, ◌∙◌, subst, true, false, inl, inr, Some, List, length, reverse, ◌++◌, ◌∷◌, get_or}
use Rattle.std.proofs.lemmas.List.{length-map}
use Rattle.std.proofs.lemmas.Bool.{cases_eq, cases_Bool}
use Rattle.dpl_laminar.specs.Families.{Sets, IsFamily, has}
use Rattle.dpl_laminar.specs.Changes.{AreTops, AreJoined, IsShrunk, Gathers}
use Rattle.dpl_laminar.proofs.Numbers.{true_false}
use Rattle.dpl_tree.specs.steps.Forests.{Forest, Folds}
use Rattle.dpl_tree.specs.Mates.{DropsInside, loads}
use Rattle.dpl_tree.specs.Stages.{IsStage, Advances, AreRanked}
use Rattle.dpl_tree.specs.steps.Growth.{HasFolded}
use Rattle.dpl_tree.specs.steps.Joins.{tops_from, is_end, AreClimbing, ways}
use Rattle.dpl_tree.proofs.Alike.{totals_alike, shrunk_alike}
use Rattle.dpl_tree.proofs.Events.{IsEvent, folded_stage, folded_ready}
use Rattle.dpl_tree.proofs.Folding.{tops_of}
use Rattle.dpl_tree.proofs.Numbering.{folded_trees}
use Rattle.dpl_tree.proofs.Widening.{folded_widens}
use Rattle.dpl_tree.proofs.Meetings.{IsFolding, IsStep, climbing_whole, folding_tops, folding_joined, way_step}

-- what a new set asks of the family
pub folding_asked : {n : ℕ} {f : Sets} {dist : ℕ → ℕ → ℕ} {x : Forest} {joins : List (ℕ × ℕ)} {meet : ℕ}
    → IsStage n f dist x → IsFolding n f dist x joins meet → AreJoined f (tops_from f joins) joins
folding_asked {n} {f} {dist} {x} {joins} {meet} st w =
    let len : length (tops_from f joins) ≡ length joins = length-map joins (λ j. f.top j.0) in
    record {
      tops = subst (λ (z : ℕ). AreTops z f (tops_from f joins)) (sym st.rest.size) (folding_tops n f dist x joins meet st w);
      count = sym len;
      tied = λ i h. folding_joined n f dist x joins meet i st w (omega (arith, h, len));
    }

-- a new set comes nearer to the end
pub folded_all : (n : ℕ) (f g : Sets) (dist : ℕ → ℕ → ℕ) (x y : Forest) (joins : List (ℕ × ℕ)) (meet set : ℕ)
    → IsStage n f dist x → IsFolding n f dist x joins meet → IsShrunk f (tops_from f joins) joins set g
    → IsFamily g → DropsInside n g x.mate y.mate → Folds x (tops_from f joins) meet set y
    → Advances n dist f x g y
folded_all n f g dist x y joins meet set st w sh fam d o =
    let cs : List ℕ = tops_from f joins in
    let len : length cs ≡ length joins = length-map joins (λ j. f.top j.0) in
    let q : Gathers n f cs set g = subst (λ (z : ℕ). Gathers z f cs set g) st.rest.size sh.sets in
    let r = folded_stage n f g dist x y cs joins set meet w.some_inner.0 st (folding_tops n f dist x joins meet st w) sh fam w.cycle d o
    (λ i h. subst (λ (z : ℕ × ℕ). loads n f z.0 z.1 ≡ dist z.0 z.1) (sym (sh.join_child i h))
    (way_step n f dist meet meet i joins w.way (omega (arith, h, len))).tight)
    w.some_inner.1 w.some_inner.2 in
    record {
      stage = r.0;
      falls = r.1;
      ready = λ k hk e. folded_ready n f g dist x y cs set meet k st r.0.tree q w.cycle d o hk e;
    }

-- a new set raises no rank
pub folded_ranked : (x y : Forest) (cs : List ℕ) (meet set bound : ℕ) → Folds x cs meet set y → AreRanked x bound → AreRanked y bound
folded_ranked x y cs meet set bound o r = λ i. elim (cases_eq i set) [
  | inl e ↦ omega (arith, ap y.rank e, o.rank_set, r meet)
  | inr ne ↦ omega (arith, o.rank_others i ne, r i)
]

-- a set that was free is none of the tree's
pub free_outside : (n : ℕ) (f g : Sets) (dist : ℕ → ℕ → ℕ) (x : Forest) (joins : List (ℕ × ℕ)) (meet set : ℕ)
    → IsStage n f dist x → IsFolding n f dist x joins meet → IsShrunk f (tops_from f joins) joins set g
    → has (tops_from f joins) set ≡ false
free_outside n f g dist x joins meet set st w sh = elim (cases_Bool (has (tops_from f joins) set)) [
  | inr k ↦ k
  | inl k ↦ true_false (f.live set) (st.tree.tops set (w.cycle.in_tree set k)).1 sh.sets.was_free
]

-- the joins as they were put together, and read
pub folding_of : {n : ℕ} {f : Sets} {dist : ℕ → ℕ → ℕ} {x : Forest} {s t meet : ℕ} {left right joins js : List (ℕ × ℕ)}
    → IsStage n f dist x → s < n → t < n → loads n f s t ≡ dist s t → f.top s ≢ f.top t
    → AreClimbing n f dist x (s, t) (ways left right meet meet) → joins ≡ reverse left ++ (s, t) ∷ right
    → js ≡ joins → IsFolding n f dist x js meet
folding_of {n} {f} {dist} {x} {s} {t} {meet} {left} {right} st hs ht tight apart c e seen =
    subst (λ (z : List (ℕ × ℕ)). IsFolding n f dist x z meet) (sym (seen ∙ e)) (climbing_whole n f dist x s t meet left right st hs ht tight apart c)

-- each join leads from a member
pub folding_from : {n : ℕ} {f : Sets} {dist : ℕ → ℕ → ℕ} {x : Forest} {js : List (ℕ × ℕ)} {meet : ℕ}
    → IsStage n f dist x → IsFolding n f dist x js meet → (i : ℕ) → i < length js
    → (get_or js i (0, 0)).0 < f.size
folding_from {n} {f} {dist} {js = js} {meet = meet} st w i h = omega (arith, (way_step n f dist meet meet i js w.way h).from, st.rest.size)

-- the tops that the joins lead from, where the joins were read twice
pub tops_seen : {n : ℕ} {f : Sets} {dist : ℕ → ℕ → ℕ} {x : Forest} {joins js ks : List (ℕ × ℕ)} {tops : List ℕ} {meet : ℕ}
    → IsFolding n f dist x ks meet → tops ≡ tops_from f js → js ≡ joins → ks ≡ joins → tops ≡ tops_from f ks
tops_seen {f = f} _ e ej ek = e ∙ ap (tops_from f) (ej ∙ sym ek)

-- the same, by the tops as they were read
pub free_outside_of : {n : ℕ} {f g : Sets} {dist : ℕ → ℕ → ℕ} {x : Forest} {joins : List (ℕ × ℕ)} {cs ds : List ℕ} {meet set : ℕ}
    → IsStage n f dist x → IsFolding n f dist x joins meet → cs ≡ tops_from f joins → ds ≡ tops_from f joins
    → IsShrunk f cs joins set g → has ds set ≡ false
free_outside_of {n} {f} {g} {dist} {x} {joins} {meet = meet} {set = set} st w e e' sh =
    ap (λ z. has z set) e' ∙ free_outside n f g dist x joins meet set st w (subst (λ (z : List ℕ). IsShrunk f z joins set g) e sh)

-- each join leads from a member to a member
pub folding_step : {n : ℕ} {f : Sets} {dist : ℕ → ℕ → ℕ} {x : Forest} {js : List (ℕ × ℕ)} {meet : ℕ}
    → IsFolding n f dist x js meet → (i : ℕ) → i < length js → IsStep n (loads n f) dist (get_or js i (0, 0))
folding_step {n} {f} {dist} {js = js} {meet = meet} w i h = way_step n f dist meet meet i js w.way h

-- of two mates that came into one top both are ends of the joins
pub folding_ends : {n : ℕ} {f g : Sets} {dist : ℕ → ℕ → ℕ} {x : Forest} {joins js : List (ℕ × ℕ)} {cs : List ℕ} {meet set : ℕ}
    → IsStage n f dist x → IsFolding n f dist x joins meet → cs ≡ tops_from f joins → IsShrunk f cs js set g
    → (m t : ℕ) → m < n → x.mate m ≡ Some t → g.top m ≡ g.top t → is_end joins m ≡ true
folding_ends {n} {f} {g} {dist} {x} {joins} {js} {cs} {meet} {set} st w e sh m t hm paired same =
    let ds : List ℕ = tops_from f joins in
    let sh' : IsShrunk f ds js set g = subst (λ (z : List ℕ). IsShrunk f z js set g) e sh in
    let q : Gathers n f ds set g = subst (λ (z : ℕ). Gathers z f ds set g) st.rest.size sh'.sets in
    let lam = st.rest.laminar in
    let ht : t < n = st.rest.pairs.range m t hm paired in
    let tops = tops_of n f g ds set lam q in
    elim (cases_Bool (has ds (f.top m))) [
      | inl k ↦
          let kt : has ds (f.top t) ≡ true = tops.inside t ht (sym same ∙ q.top_inside m hm k) in
          w.ends m t hm paired k (λ z.
          let o = st.tree.outer_mate meet m t w.cycle.meet_outer (record { below = hm; top = z; paired = paired }) in
          omega (arith, o.1, w.cycle.ranks (f.top t) kt))
      | inr k ↦
          let old : g.top m ≡ f.top m = q.top_others m hm k in
          let ne : f.top m ≢ set = λ z. true_false (f.live set) (ap f.live (sym z) ∙ lam.tops.top_live m hm) q.was_free in
          absurd (st.rest.pairs.leaves m t hm paired (sym (tops.outside t (f.top m) ht (sym same ∙ old) ne).0))
    ]

-- two ways became a set, by the tops as each step read them: cs by the family, ds by the tree
pub folded_up : {n k : ℕ} {f g : Sets} {dist : ℕ → ℕ → ℕ} {x y : Forest} {joins : List (ℕ × ℕ)} {cs ds : List ℕ} {meet set : ℕ}
    → IsStage n f dist x → IsFolding n f dist x joins meet → cs ≡ tops_from f joins → ds ≡ tops_from f joins
    → IsShrunk f cs joins set g → IsFamily g → k ≡ n → DropsInside k g x.mate y.mate → Folds x ds meet set y
    → IsEvent n dist (λ bound. bound) f x g y
folded_up {n} {k} {f} {g} {dist} {x} {y} {joins} {cs} {ds} {meet} {set} st w e e' sh fam size drops o =
    let sh' : IsShrunk f (tops_from f joins) joins set g = subst (λ (z : List ℕ). IsShrunk f z joins set g) e sh in
    let d : DropsInside n g x.mate y.mate = subst (λ (z : ℕ). DropsInside z g x.mate y.mate) size drops in
    record {
      advances = folded_all n f g dist x y joins meet set st w sh' fam d (subst (λ (z : List ℕ). Folds x z meet set y) e' o);
      ranks = λ bound. folded_ranked x y ds meet set bound o;
      sums = totals_alike n f g (shrunk_alike n f g cs joins set st.rest.size sh);
      widens = folded_widens n f g dist x y joins cs ds meet set st (e ∙ sym e') sh o;
      trees = folded_trees x y ds meet set w.cycle.meet_outer o;
    }

-- and what they became
pub folded_so : {k : ℕ} {f g : Sets} {dist : ℕ → ℕ → ℕ} {x y : Forest} {joins : List (ℕ × ℕ)} {cs ds : List ℕ} {meet set : ℕ}
    → IsFolding f.size f dist x joins meet → cs ≡ tops_from f joins → ds ≡ tops_from f joins
    → IsShrunk f cs joins set g → IsFamily g → k ≡ f.size → DropsInside k g x.mate y.mate → Folds x ds meet set y
    → HasFolded f x set g y
folded_so {k} {f} {g} {dist} {x} {y} {joins} {cs} {ds} {meet} {set} w e e' sh fam size drops o = record {
  children = tops_from f joins;
  joins = joins;
  meet = meet;
  shrunk = subst (λ (z : List ℕ). IsShrunk f z joins set g) e sh;
  family = fam;
  cycle = w.cycle;
  folds = subst (λ (z : List ℕ). Folds x z meet set y) e' o;
  drops = subst (λ (z : ℕ). DropsInside z g x.mate y.mate) size drops;
}
