-- Walks put round one moat after another.
use Rattle.std.proofs.Common.{arith, ◌≡◌, ℕ, ◌+◌, ◌<◌, ◌≤◌, sym, ap, ◌∙◌, subst, inl, inr, List, [], ◌∷◌, ◌++◌, append_assoc, length, get_or, take}
use Rattle.std.proofs.lemmas.Bool.{cases_eq}
use Rattle.std.proofs.lemmas.List.{take_more}
use Rattle.dpl_sign.specs.declared.graphs.Signed.{Signed}
use Rattle.dpl_sign.specs.declared.walks.Cycle.{Cycle}
use Rattle.dpl_map.specs.Views.{MapView}
use Rattle.dpl_pack.specs.declared.moat.Moat.{Moat}
use Rattle.dpl_pack.specs.declared.laid.Level.{Level}
use Rattle.dpl_pack.specs.Traces.{IsAround}
use Rattle.dpl_pack.specs.Rounds.{IsRoundMoat, AreRound, AreGoing, IsRun, level_at}

-- ---- one walk more

round_push : (g : Signed) (m : MapView) (ms : List Moat) (cs : List Cycle) (moat : Moat) (c : Cycle)
    → AreRound g m ms cs → IsRoundMoat g m moat c → AreRound g m (ms ++ moat ∷ []) (cs ++ c ∷ [])
round_push g m [] [] moat c r o = (o, tt)
round_push g m (x ∷ ms) (y ∷ cs) moat c r o = (r.0, round_push g m ms cs moat c r.1 o)
round_push g m [] (y ∷ cs) moat c r o = absurd r
round_push g m (x ∷ ms) [] moat c r o = absurd r

pub goes_round : (g : Signed) (m : MapView) (moats : List Moat) (i : ℕ) (old now new : List Cycle) (moat : Moat) (c : Cycle)
    → i < length moats → moat ≡ get_or moats i moat → AreGoing g m (take i moats) old now → IsRoundMoat g m moat c
    → new ≡ now ++ c ∷ [] → AreGoing g m (take (i + 1) moats) old new
goes_round g m moats i old now new moat c h e w r n =
    let more : take (i + 1) moats ≡ take i moats ++ moat ∷ [] = take_more moats i moat h ∙ ap (λ z. take i moats ++ z ∷ []) (sym e) in
    record {
      done = w.done ++ c ∷ [];
      cycles = n ∙ ap (λ z. z ++ c ∷ []) w.cycles ∙ append_assoc old w.done (c ∷ []);
      round = subst (λ z. AreRound g m z (w.done ++ c ∷ [])) (sym more) (round_push g m (take i moats) w.done moat c w.round r);
    }

pub round_of : (g : Signed) (m : MapView) (moat : Moat) (c : Cycle) → c.half ≡ moat.half → IsAround g m moat.faces c.walk → IsRoundMoat g m moat c
round_of g m moat c half r = record { half = half; odd = r.odd; leaves = r.leaves; once = r.once }

-- ---- levels of one set

pub run_begins : (levels : List Level) (from : ℕ) → from < length levels → IsRun levels from (from + 1)
run_begins levels from h = record {
  more = omega arith;
  within = omega (arith, h);
  place = λ i l r. let e : i ≡ from = omega (arith, l, r) in ap (λ z. (level_at levels z).place) e;
  ascending = λ i j l r k. let e : i ≡ j = omega (arith, l, r, k) in omega (arith, ap (λ z. (level_at levels z).most) e);
}

pub run_more : (levels : List Level) (from to last : ℕ) → to < length levels → last + 1 ≡ to
    → (level_at levels to).place ≡ (level_at levels last).place → (level_at levels last).most ≤ (level_at levels to).most
    → IsRun levels from to → IsRun levels from (to + 1)
run_more levels from to last h e place most r = record {
  more = omega (arith, r.more);
  within = omega (arith, h);
  place = λ i l k. elim (cases_eq i to) [
    | inl q ↦ ap (λ z. (level_at levels z).place) q ∙ place ∙ r.place last (omega (arith, r.more, e)) (omega (arith, e))
    | inr ne ↦ r.place i l (omega (arith, k, ne))
  ];
  ascending = λ i j l q k. elim (cases_eq j to) [
    | inr ne ↦ r.ascending i j l q (omega (arith, k, ne))
    | inl t ↦ elim (cases_eq i to) [
      | inl s ↦ omega (arith, ap (λ z. (level_at levels z).most) (s ∙ sym t))
      | inr s ↦ omega (
        arith,
        r.ascending i last l (omega (arith, q, t, s, e)) (omega (arith, e)),
        most,
        ap (λ z. (level_at levels z).most) t,
      )
    ]
  ];
}
