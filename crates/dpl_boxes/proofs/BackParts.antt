-- What is read as parts of a command that may stand many times, or be left out, is written so.
use Rattle.std.proofs.Common.{◌≡◌, ◌⊎◌, inl, inr, ℕ, zero, suc, true, false, List, [], ◌∷◌, refl, subst, Option, None, Some}
use Rattle.std.specs.Prelude.{flat_map, codes, Bool}
use Rattle.std.specs.List.{list_all}
use Rattle.std.proofs.lemmas.Bool.{and_parts}
use Rattle.dpl_rules.specs.declared.command.Spot.{Spot}
use Rattle.dpl_rules.specs.declared.command.Scale.{Scale}
use Rattle.dpl_rules.specs.declared.command.Transformation.{Transformation}
use Rattle.dpl_rules.specs.declared.command.Transformation.TheVariants.{Shift, MirrorX, MirrorY, Rotate}
use Rattle.dpl_rules.specs.Readers.{or_else, letter, unsigned_of, spot_of, repeated, and_repeated}
use Rattle.dpl_rules.specs.Forms.{shift_of, mirror_x_of, mirror_y_of, rotate_of, transformation_of, direction_of, ratio_of, scale_of}
use Rattle.dpl_boxes.specs.Written.{Word, spot_words, direction_words, scale_words, transformation_words, is_moderate, AreBlanks, is_apart, AreBehind}
use Rattle.dpl_boxes.specs.Written.Word.{Letters, Number}
use Rattle.dpl_boxes.proofs.PartLemmas.{both_moderate}
use Rattle.dpl_boxes.proofs.BackNumbers.{from_some}
use Rattle.dpl_boxes.proofs.BackWords.{bound, Back, then_back, letter_back, unsigned_back, spot_back}

-- transformations

abbrev TransformationBack : List ℕ → Transformation × List ℕ → Type 0
TransformationBack text q = list_all is_moderate (transformation_words q.0) ≡ true → Back (transformation_words q.0) text q.1

shift_back : (text : List ℕ) (q : Transformation × List ℕ) → shift_of text ≡ Some q → TransformationBack text q
shift_back text q h =
    let l = bound (letter 84 text) _ q h in
    let s = bound (spot_of l.value) _ q l.next in
    let e : ◌≡◌ {A = Transformation × List ℕ} (Shift s.value.0, s.value.1) q = from_some (Shift s.value.0, s.value.1) q s.next in
    subst (TransformationBack text) e (λ m. then_back (Letters (codes "T") ∷ []) (spot_words s.value.0) text l.value s.value.1
    (letter_back 84 text l.value l.is) (spot_back l.value s.value.0 s.value.1 m s.is))

mirror_x_back : (text : List ℕ) (q : Transformation × List ℕ) → mirror_x_of text ≡ Some q → TransformationBack text q
mirror_x_back text q h =
    let l = bound (letter 77 text) _ q h in
    let x = bound (letter 88 l.value) _ q l.next in
    let e : ◌≡◌ {A = Transformation × List ℕ} (MirrorX, x.value) q = from_some (MirrorX, x.value) q x.next in
    subst (TransformationBack text) e (λ m. then_back (Letters (codes "M") ∷ []) (Letters (codes "X") ∷ []) text l.value x.value
    (letter_back 77 text l.value l.is) (letter_back 88 l.value x.value x.is))

mirror_y_back : (text : List ℕ) (q : Transformation × List ℕ) → mirror_y_of text ≡ Some q → TransformationBack text q
mirror_y_back text q h =
    let l = bound (letter 77 text) _ q h in
    let y = bound (letter 89 l.value) _ q l.next in
    let e : ◌≡◌ {A = Transformation × List ℕ} (MirrorY, y.value) q = from_some (MirrorY, y.value) q y.next in
    subst (TransformationBack text) e (λ m. then_back (Letters (codes "M") ∷ []) (Letters (codes "Y") ∷ []) text l.value y.value
    (letter_back 77 text l.value l.is) (letter_back 89 l.value y.value y.is))

rotate_back : (text : List ℕ) (q : Transformation × List ℕ) → rotate_of text ≡ Some q → TransformationBack text q
rotate_back text q h =
    let l = bound (letter 82 text) _ q h in
    let s = bound (spot_of l.value) _ q l.next in
    let e : ◌≡◌ {A = Transformation × List ℕ} (Rotate s.value.0, s.value.1) q = from_some (Rotate s.value.0, s.value.1) q s.next in
    subst (TransformationBack text) e (λ m. then_back (Letters (codes "R") ∷ []) (spot_words s.value.0) text l.value s.value.1
    (letter_back 82 text l.value l.is) (spot_back l.value s.value.0 s.value.1 m s.is))

one_of_two : {A : Type 0} (a b : Option A) (x : A) → or_else a b ≡ Some x → (a ≡ Some x) ⊎ (b ≡ Some x)
one_of_two None b x h = inr h
one_of_two (Some a) b x h = inl h

pub transformation_back : (text : List ℕ) (q : Transformation × List ℕ) → transformation_of text ≡ Some q → TransformationBack text q
transformation_back text q h =
    elim (one_of_two (shift_of text) (or_else (mirror_x_of text) (or_else (mirror_y_of text) (rotate_of text))) q h) as (λ s. TransformationBack text q) [
      | inl a ↦ shift_back text q a
      | inr a ↦ elim (one_of_two (mirror_x_of text) (or_else (mirror_y_of text) (rotate_of text)) q a) as (λ s. TransformationBack text q) [
        | inl b ↦ mirror_x_back text q b
        | inr b ↦ elim (one_of_two (mirror_y_of text) (rotate_of text) q b) as (λ s. TransformationBack text q) [
          | inl c ↦ mirror_y_back text q c
          | inr c ↦ rotate_back text q c
        ]
      ]
    ]

-- parts one after another

-- what is read as a part is written as its words
abbrev pub PartBack : {X : Type 0} → (List ℕ → Option (X × List ℕ)) → (X → List Word) → Type 0
PartBack {X = X} read words = (text : List ℕ) (q : X × List ℕ) → read text ≡ Some q → list_all is_moderate (words q.0) ≡ true → Back (words q.0) text q.1

pub spots_back : PartBack spot_of spot_words
spots_back text q h m = spot_back text q.0 q.1 m h

pub transformations_back : PartBack transformation_of transformation_words
transformations_back text q h m = transformation_back text q h m

-- what was found was written, where blanks are behind it
abbrev pub PartsBack : {X : Type 0} → (X → List Word) → List ℕ → List X × List ℕ → Type 0
PartsBack words text found = list_all is_moderate (flat_map words found.0) ≡ true → AreBlanks found.1 → (v : Word) → is_apart v text ≡ true →
    AreBehind v (flat_map words found.0) text

repeated_step : {X : Type 0} → (read : List ℕ → Option (X × List ℕ)) (words : X → List Word)
    → PartBack read words → (text : List ℕ) (more : List ℕ → List X × List ℕ)
    → ((rest : List ℕ) → PartsBack words rest (more rest)) → (o : Option (X × List ℕ)) → read text ≡ o
    → PartsBack words text (and_repeated o text more)
repeated_step read words back text more others None e m b v a = b
repeated_step read words back text more others (Some q) e m b v a =
    let p = both_moderate (words q.0) (flat_map words (more q.1).0) m in
    let f = back text q e p.0 in
    f.behind v (flat_map words (more q.1).0) a (others q.1 p.1 b f.last f.apart)

pub repeated_back : {X : Type 0} → (read : List ℕ → Option (X × List ℕ)) (words : X → List Word)
    → PartBack read words → (n : ℕ) (text : List ℕ) → PartsBack words text (repeated read n text)
repeated_back read words back zero text = λ m b v a. b
repeated_back read words back (suc n) text =
    repeated_step read words back text (repeated read n) (λ rest. repeated_back read words back n rest) (read text) refl

-- a direction and a scale, which may be left out

pub record DirectionBack (text : List ℕ) (found : Spot × List ℕ) : Type 0 where
  pub short : Bool
  pub behind : (v : Word) → is_apart v text ≡ true → AreBlanks found.1 → AreBehind v (direction_words short found.0) text

pub direction_back : (text : List ℕ) (o : Option (Spot × List ℕ)) → spot_of text ≡ o
    → list_all is_moderate (spot_words (direction_of o text).0) ≡ true
    → DirectionBack text (direction_of o text)
direction_back text None e m = record { short = true; behind = λ v a b. b }
direction_back text (Some q) e m =
    let f = spot_back text q.0 q.1 m e in
    record { short = false; behind = λ v a b. f.behind v [] a b }

ratio_back : (text : List ℕ) (q : Scale × List ℕ) → ratio_of text ≡ Some q
    → list_all is_moderate (scale_words false q.0) ≡ true → Back (scale_words false q.0) text q.1
ratio_back text q h =
    let times = bound (unsigned_of text) _ q h in
    let over = bound (unsigned_of times.value.1) _ q times.next in
    let s : Scale = record { times = times.value.0; over = over.value.0 } in
    let e : ◌≡◌ {A = Scale × List ℕ} (s, over.value.1) q = from_some (s, over.value.1) q over.next in
    subst (λ (r : Scale × List ℕ). list_all is_moderate (scale_words false r.0) ≡ true → Back (scale_words false r.0) text r.1) e
    (λ m. let p = and_parts (is_moderate (Number times.value.0)) (list_all is_moderate (Number over.value.0 ∷ [])) m in
    let t = and_parts (is_moderate (Number over.value.0)) true p.1 in
    then_back (Number times.value.0 ∷ []) (Number over.value.0 ∷ []) text times.value.1 over.value.1
    (unsigned_back text times.value.0 times.value.1 p.0 times.is) (unsigned_back times.value.1 over.value.0 over.value.1 t.0 over.is))

pub record ScaleBack (text : List ℕ) (found : Scale × List ℕ) : Type 0 where
  pub short : Bool
  pub behind : (v : Word) → is_apart v text ≡ true → AreBlanks found.1 → AreBehind v (scale_words short found.0) text

pub scale_back : (text : List ℕ) (o : Option (Scale × List ℕ)) → ratio_of text ≡ o
    → list_all is_moderate (scale_words false (scale_of o text).0) ≡ true → ScaleBack text (scale_of o text)
scale_back text None e m = record { short = true; behind = λ v a b. b }
scale_back text (Some q) e m =
    let f = ratio_back text q e m in
    record { short = false; behind = λ v a b. f.behind v [] a b }
