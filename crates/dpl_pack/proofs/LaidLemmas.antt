-- Moats as they are laid: the faces of a level, one level more, and one set more.
use Rattle.std.proofs.Common.{arith, ◌≡◌, ℕ, zero, suc, ◌+◌, ◌-◌, ◌<◌, ◌≤◌, refl, sym, ap, ◌∙◌, subst, inl, inr}
use Rattle.std.proofs.Common.{List, [], ◌∷◌, ◌++◌, length, get_or, take, length-append, add-one}
use Rattle.std.specs.Prelude.{All, nat_le}
use Rattle.std.proofs.lemmas.Bool.{cases_Bool, cases_lt, cond-true, cond-false, leb-true, le-leb, false_from_ne_true}
use Rattle.std.proofs.lemmas.List.{append-nil, map_push, take_all, take_more, length-take-le, get_or_append_left, get_or_push}
use Rattle.std.proofs.lemmas.List.Elements.{All-head, All-tail, All-push}
use Rattle.dpl_pack.specs.declared.moat.Moat.{Moat}
use Rattle.dpl_pack.specs.declared.laid.Near.{Near}
use Rattle.dpl_pack.specs.declared.laid.Level.{Level}
use Rattle.dpl_pack.specs.Levels.{Layers}
use Rattle.dpl_pack.specs.Laid.{up_to, near_with, near_at, moat_of, moats_of, AreLaid}
use Rattle.dpl_pack.specs.Stacks.{AreDepths, AreStacked, IsStacking}
use Rattle.dpl_pack.proofs.CodeLemmas.{chosen_none, chosen_in, chosen_out, stack_step}
use Rattle.dpl_pack.proofs.StackLemmas.{IsChosen, IsNextLevel}

-- ---- the faces of a level

up_to_push : (level : ℕ) (fs ds : List ℕ) (f d : ℕ) → length ds ≡ length fs
    → up_to level (fs ++ f ∷ []) (ds ++ d ∷ []) ≡ up_to level fs ds ++ up_to level (f ∷ []) (d ∷ [])
up_to_push level [] [] f d e = refl
up_to_push level (x ∷ fs) (y ∷ ds) f d e = elim (cases_Bool (nat_le y level)) [
  | inl t ↦ rw t (ap (λ z. x ∷ z) (up_to_push level fs ds f d (omega (arith, e))))
  | inr t ↦ rw t (up_to_push level fs ds f d (omega (arith, e)))
]
up_to_push level [] (y ∷ ds) f d e = absurd (omega (arith, e))
up_to_push level (x ∷ fs) [] f d e = absurd (omega (arith, e))

pub up_to_more : (level : ℕ) (faces depths : List ℕ) (i : ℕ) → length depths ≡ length faces → i < length faces
    → up_to level (take (i + 1) faces) (take (i + 1) depths)
    ≡ up_to level (take i faces) (take i depths) ++ up_to level (get_or faces i 0 ∷ []) (get_or depths i 0 ∷ [])
up_to_more level faces depths i e h =
    (λ k. up_to level (take_more faces i 0 h k) (take_more depths i 0 (omega (arith, e, h)) k)) ∙
    up_to_push level (take i faces) (take i depths) (get_or faces i 0) (get_or depths i 0)
    (length-take-le i depths (omega (arith, e, h)) ∙ sym (length-take-le i faces (omega (arith, h))))

pub up_to_in : (level : ℕ) (faces depths : List ℕ) (i : ℕ) → length depths ≡ length faces → i < length faces
    → get_or depths i 0 ≤ level
    → up_to level (take (i + 1) faces) (take (i + 1) depths) ≡ up_to level (take i faces) (take i depths) ++ get_or faces i 0 ∷ []
up_to_in level faces depths i e h l = up_to_more level faces depths i e h ∙
    ap (λ z. up_to level (take i faces) (take i depths) ++ z)
    (cond-true {A = List ℕ} (nat_le (get_or depths i 0) level) (get_or faces i 0 ∷ []) [] (le-leb (get_or depths i 0) level l))

pub up_to_out : (level : ℕ) (faces depths : List ℕ) (i : ℕ) → length depths ≡ length faces → i < length faces
    → level < get_or depths i 0 → up_to level (take (i + 1) faces) (take (i + 1) depths) ≡ up_to level (take i faces) (take i depths)
up_to_out level faces depths i e h l = up_to_more level faces depths i e h ∙
    ap (λ z. up_to level (take i faces) (take i depths) ++ z)
    (cond-false {A = List ℕ} (nat_le (get_or depths i 0) level) (get_or faces i 0 ∷ []) []
    (false_from_ne_true (nat_le (get_or depths i 0) level) (λ q. omega (arith, l, leb-true (get_or depths i 0) level q)))) ∙
    append-nil (up_to level (take i faces) (take i depths))

pub up_to_all : (level : ℕ) (faces depths : List ℕ) (i : ℕ) → length depths ≡ length faces → length faces ≤ i
    → up_to level (take i faces) (take i depths) ≡ up_to level faces depths
up_to_all level faces depths i e h = λ k. up_to level (take_all i faces h k) (take_all i depths (omega (arith, e, h)) k)

-- they are those that lie no deeper
chosen_up : (level : ℕ) (faces depths : List ℕ) (i : ℕ) → length depths ≡ length faces → i ≤ length faces
    → IsChosen faces depths level i (up_to level (take i faces) (take i depths))
chosen_up level faces depths zero e h = chosen_none faces depths level
chosen_up level faces depths (suc i) e h =
    let old = chosen_up level faces depths i e (omega (arith, h)) in
    let P : ℕ → Type 0 = λ z. IsChosen faces depths level z (up_to level (take z faces) (take z depths)) in
    let Q : List ℕ → Type 0 = λ z. IsChosen faces depths level (i + 1) z in
    subst P (add-one i) (elim (cases_lt level (get_or depths i 0)) [
      | inl l ↦ subst Q (sym (up_to_out level faces depths i e (omega (arith, h)) l)) (chosen_out faces depths level i _ old l)
      | inr l ↦ subst Q (sym (up_to_in level faces depths i e (omega (arith, h)) (omega (arith, l))))
          (chosen_in faces depths level i _ (get_or faces i 0) old (omega (arith, l)) refl)
    ])

pub up_to_chosen : (level : ℕ) (faces depths : List ℕ) → length depths ≡ length faces
    → IsChosen faces depths level (length faces) (up_to level faces depths)
up_to_chosen level faces depths e =
    subst (λ (z : List ℕ). IsChosen faces depths level (length faces) z)
    (up_to_all level faces depths (length faces) e (omega arith))
    (chosen_up level faces depths (length faces) e (omega arith))

-- ---- one level more

pub level_step : (s : Layers) (points : ℕ → ℕ → ℕ) (faces near depths : List ℕ) (k v value next : ℕ)
    → (sets : List Near) (l : Level) (old new : List Level) → near_at sets l.place ≡ near_with near depths
    → AreDepths s points faces near k depths → s.value k ≡ value
    → IsStacking s points faces k v (moats_of sets old) → IsNextLevel depths v value (length depths) next
    → l.most ≡ v → l.half ≡ next - v → new ≡ old ++ l ∷ [] → IsStacking s points faces k next (moats_of sets new)
level_step s points faces near depths k v value next sets l old new at d e w n most half en =
    let is : up_to l.most (near_at sets l.place).faces (near_at sets l.place).depths ≡ up_to v near depths =
    λ i. up_to (most i) (at i).faces (at i).depths in
    stack_step s points faces near depths k v value next (moats_of sets old) (moat_of sets l) (up_to v near depths)
    (moats_of sets new) d e d.sizes w n (up_to_chosen v near depths d.sizes) is half
    (ap (moats_of sets) en ∙ map_push (moat_of sets) old l)

pub stack_ends : (s : Layers) (points : ℕ → ℕ → ℕ) (faces : List ℕ) (k v value : ℕ) (moats : List Moat)
    → value ≤ v → v ≤ value → AreStacked s points faces k v moats → AreStacked s points faces k value moats
stack_ends s points faces k v value moats a b w =
    let P : ℕ → Type 0 = λ z. AreStacked s points faces k z moats in
    let e : v ≡ value = omega (arith, a, b) in
    subst P e w

pub places_step : (n : ℕ) (old new : List Level) (l : Level) → new ≡ old ++ l ∷ [] → l.place < n
    → All (λ (x : Level). x.place < n) old → All (λ (x : Level). x.place < n) new
places_step n old new l e h a =
    let P : List Level → Type 0 = λ z. All (λ (x : Level). x.place < n) z in
    subst P (sym e) (All-push (λ (x : Level). x.place < n) old l a h)

-- ---- one set more

moats_same : (sets : List Near) (n : Near) (levels : List Level) → All (λ l. l.place < length sets) levels
    → moats_of (sets ++ n ∷ []) levels ≡ moats_of sets levels
moats_same sets n [] h = refl
moats_same sets n (l ∷ levels) h =
    let here : near_at (sets ++ n ∷ []) l.place ≡ near_at sets l.place =
    get_or_append_left sets (n ∷ []) (near_with [] []) l.place (All-head (λ (l : Level). l.place < length sets) l levels h) in
    let moat : List ℕ → List ℕ → Moat = λ faces depths. record { faces = up_to l.most faces depths; half = l.half } in
    let same = moats_same sets n levels (All-tail (λ (l : Level). l.place < length sets) l levels h) in
    λ i. moat (here i).faces (here i).depths ∷ same i

pub old_moats : (sets new : List Near) (n : Near) (levels : List Level) → new ≡ sets ++ n ∷ [] → AreLaid sets levels
    → moats_of new levels ≡ moats_of sets levels
old_moats sets new n levels e a = ap (λ (z : List Near). moats_of z levels) e ∙ moats_same sets n levels a.places

pub new_near : (sets new : List Near) (n : Near) → new ≡ sets ++ n ∷ [] → near_at new (length sets) ≡ n
new_near sets new n e = ap (λ (z : List Near). near_at z (length sets)) e ∙ get_or_push sets n (near_with [] []) (length sets) refl

pub set_laid : (sets new : List Near) (n : Near) (old levels : List Level) → AreLaid sets old → new ≡ sets ++ n ∷ []
    → length n.depths ≡ length n.faces
    → ((m : ℕ) → length sets < m → All (λ (l : Level). l.place < m) old → All (λ (l : Level). l.place < m) levels)
    → AreLaid new levels
set_laid sets new n old levels a e size places =
    let P : List Near → Type 0 = λ z. All (λ (x : Near). length x.depths ≡ length x.faces) z in
    let more : length new ≡ length sets + 1 = ap length e ∙ length-append sets (n ∷ []) in
    record {
      sizes = subst P (sym e) (All-push (λ (x : Near). length x.depths ≡ length x.faces) sets n a.sizes size);
      places = places (length new) (omega (arith, more)) (λ i d l. omega (arith, more, a.places i d l));
    }

pub nothing_laid : AreLaid [] []
nothing_laid = record { sizes = λ i d l. absurd (omega arith); places = λ i d l. absurd (omega arith) }
