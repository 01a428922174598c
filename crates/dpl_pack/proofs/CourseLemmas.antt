-- The moats of one set, as they are laid on a map.
use Rattle.std.proofs.Common.{arith, ◌≡◌, ℕ, zero, suc, ◌+◌, ◌%◌, ◌<◌, ◌≤◌, refl, sym, ap, ◌∙◌, subst, List, [], ◌∷◌, ◌++◌, length, get_or}
use Rattle.std.specs.Prelude.{All, count_by}
use Rattle.std.proofs.lemmas.List.{length-map, get_or_default}
use Rattle.dpl_sign.specs.declared.walks.Cycle.{Cycle}
use Rattle.dpl_map.specs.Views.{MapView, view_of}
use Rattle.dpl_laminar.specs.Families.{has}
use Rattle.dpl_laminar.proofs.Numbers.{place_in}
use Rattle.dpl_pack.specs.declared.moat.Moat.{Moat}
use Rattle.dpl_pack.specs.declared.laid.Near.{Near}
use Rattle.dpl_pack.specs.declared.laid.Level.{Level}
use Rattle.dpl_pack.specs.declared.rounds.Course.{Course}
use Rattle.dpl_pack.specs.Laid.{up_to, near_with, near_at, moat_of, moats_of}
use Rattle.dpl_pack.specs.Ranks.{AreRanked}
use Rattle.dpl_pack.specs.Traces.{odd_list, IsAround}
use Rattle.dpl_pack.specs.Rounds.{no_level, level_at, moats_on, IsCourse, IsGoneTo, IsRun}
use Rattle.dpl_pack.proofs.LaidLemmas.{up_to_chosen}
use Rattle.dpl_pack.proofs.RoundLemmas.{goes_round, round_of}

-- stands where there is no moat
abbrev pub no_moat : Moat
no_moat = record { faces = []; half = 0 }

abbrev pub moat_at : List Moat → ℕ → Moat
moat_at moats i = get_or moats i no_moat

-- the moat of a level, by what is near its set
pub record IsHere (s : Course) (i : ℕ) (faces depths : List ℕ) : Type 0 where
  pub inside : i < length (moats_on s)
  pub sizes : length depths ≡ length faces
  pub faces_are : up_to (level_at s.levels.now i).most faces depths ≡ (moat_at (moats_on s) i).faces
  pub half : (level_at s.levels.now i).half ≡ (moat_at (moats_on s) i).half

moat_is : (sets : List Near) (levels : List Level) (i : ℕ) → i < length levels → moat_at (moats_of sets levels) i ≡ moat_of sets (level_at levels i)
moat_is sets [] i h = absurd (omega (arith, h))
moat_is sets (l ∷ levels) zero h = refl
moat_is sets (l ∷ levels) (suc i) h = moat_is sets levels i (omega (arith, h))

pub here_of : (s : Course) → IsCourse s → (from to i : ℕ) (near : Near) (faces depths : List ℕ) → IsRun s.levels.now from to
    → from ≤ i → i < to → faces ≡ (get_or s.sets.now (level_at s.levels.now from).place near).faces
    → depths ≡ (get_or s.sets.now (level_at s.levels.now from).place near).depths → IsHere s i faces depths
here_of s k from to i near faces depths r l h fe de =
    let inside : i < length s.levels.now = omega (arith, h, r.within) in
    let at = moat_is s.sets.now s.levels.now i inside in
    let level : Level = level_at s.levels.now i in
    let first : ℕ = (level_at s.levels.now from).place in
    let read = get_or_default s.sets.now first near (near_with [] []) (k.laid.places from no_level (omega (arith, l, inside))) in
    let same : near_at s.sets.now level.place ≡ get_or s.sets.now first near = ap (near_at s.sets.now) (r.place i l h) ∙ sym read in
    let sizes = subst (λ (z : Near). length z.depths ≡ length z.faces) same
    (k.laid.sizes level.place (near_with [] []) (k.laid.places i no_level inside)) in
    record {
      inside = omega (arith, inside, length-map s.levels.now (moat_of s.sets.now));
      sizes = ap length de ∙ sizes ∙ sym (ap length fe);
      faces_are = (λ j. up_to level.most (fe j) (de j)) ∙ sym (ap (λ (m : Moat). m.faces) at ∙ ap (λ (z : Near). up_to level.most z.faces z.depths) same);
      half = sym (ap (λ (m : Moat). m.half) at);
    }

pub here_below : (s : Course) → IsCourse s → (i : ℕ) (faces depths : List ℕ) → IsHere s i faces depths
    → All (λ f. f < (view_of s.map.now).faces) (up_to (level_at s.levels.now i).most faces depths)
here_below s k i faces depths h =
    let P : List ℕ → Type 0 = λ z. All (λ f. f < (view_of s.map.now).faces) z in
    subst P (sym h.faces_are) (k.below i no_moat h.inside)

pub here_odd : (s : Course) → IsCourse s → (i : ℕ) (faces depths : List ℕ) → IsHere s i faces depths
    → count_by (has (up_to (level_at s.levels.now i).most faces depths)) (odd_list s.graph.now (view_of s.map.now)) % 2 ≡ 1
here_odd s k i faces depths h =
    let P : List ℕ → Type 0 = λ z. count_by (has z) (odd_list s.graph.now (view_of s.map.now)) % 2 ≡ 1 in
    subst P (sym h.faces_are) (k.odd i no_moat h.inside)

-- what is ranked up to its level is on the map
pub ranked_below : (s : Course) → IsCourse s → (i : ℕ) (faces depths : List ℕ) (order : List (ℕ × ℕ)) (n : ℕ)
    → IsHere s i faces depths → AreRanked faces depths order → n ≡ (view_of s.map.now).faces
    → All (λ e. e.0 ≤ (level_at s.levels.now i).most → e.1 < n) order
ranked_below s k i faces depths order n h r size j d l low =
    let level : ℕ = (level_at s.levels.now i).most in
    let same = get_or_default order j d (0, 0) l in
    let o = r.only j l in
    let is : get_or order j d ≡ (get_or depths o.0 0, get_or faces o.0 0) = same ∙ o.2 in
    let c = up_to_chosen level faces depths h.sizes in
    let p = place_in (up_to level faces depths) (get_or faces o.0 0) (c.inside o.0 o.1 (omega (arith, low, ap (λ e. e.0) is))) in
    omega (arith, here_below s k i faces depths h p.0 0 p.1, p.2, size, ap (λ e. e.1) is)

-- one moat more
pub gone_on : (s : Course) (i : ℕ) (faces depths : List ℕ) (old now new : List Cycle) (c : Cycle) → IsHere s i faces depths
    → c.half ≡ (level_at s.levels.now i).half
    → IsAround s.graph.now (view_of s.map.now) (up_to (level_at s.levels.now i).most faces depths) c.walk
    → new ≡ now ++ c ∷ [] → IsGoneTo s i old now
    → IsGoneTo s (i + 1) old new
gone_on s i faces depths old now new c h half w e g =
    let m : MapView = view_of s.map.now in
    let moat : Moat = moat_at (moats_on s) i in
    let P : List ℕ → Type 0 = λ z. IsAround s.graph.now m z c.walk in
    goes_round s.graph.now m (moats_on s) i old now new moat c h.inside (get_or_default (moats_on s) i no_moat moat h.inside) g
    (round_of s.graph.now m moat c (half ∙ h.half) (subst P h.faces_are w)) e
