-- Parts of a command that may stand many times, or be left out.
use Rattle.std.proofs.Common.{arith, ◌≡◌, ◌==◌, ℕ, zero, suc, ◌≤◌, Bool, true, false, ◌&&◌, List, [], ◌∷◌, ◌++◌, length, refl, sym, Option, None, if◌then◌else◌}
use Rattle.std.specs.Prelude.{pos, flat_map}
use Rattle.std.specs.Ordering.{int_eq}
use Rattle.std.specs.List.{list_all}
use Rattle.std.proofs.lemmas.Bool.{and_parts}
use Rattle.std.proofs.lemmas.Bool.Decides.{nat_tests}
use Rattle.std.proofs.lemmas.List.Folds.{list_all-append}
use Rattle.std.proofs.lemmas.Bool.Decides.{Decides-int_eq}
use Rattle.dpl_rules.specs.declared.command.Spot.{Spot}
use Rattle.dpl_rules.specs.declared.command.Scale.{Scale}
use Rattle.dpl_rules.specs.Readers.{spot, spot_of, repeated}
use Rattle.dpl_rules.specs.Forms.{transformation_of, direction_of, ratio_of, scale_of}
use Rattle.dpl_boxes.specs.Written.{Word, spot_words, transformation_words, direction_words, scale_words, is_moderate, AreBlanks, AreBehind}
use Rattle.dpl_boxes.specs.Written.Word.{Number}
use Rattle.dpl_boxes.proofs.BlankLemmas.{no_count_in_blanks, no_spot_in_blanks}
use Rattle.dpl_boxes.proofs.WordLemmas.{Took, unsigned_taken, spot_taken, transformation_taken, no_transformation_in_blanks}

-- what reads a part from its words, and nothing from blanks
pub record TakesParts {X : Type 0} (read : List ℕ → Option (X × List ℕ)) (words : X → List Word) : Type 0 where
  pub part : (v : Word) (x : X) (ws : List Word) (text : List ℕ) → list_all is_moderate (words x) ≡ true →
      AreBehind v (words x ++ ws) text → Took text (read text) x ws
  pub stop : (text : List ℕ) → AreBlanks text → read text ≡ None

pub takes_spots : TakesParts spot_of spot_words
takes_spots = record { part = spot_taken; stop = no_spot_in_blanks }

pub takes_transformations : TakesParts transformation_of transformation_words
takes_transformations = record { part = transformation_taken; stop = no_transformation_in_blanks }

repeated_none : {X : Type 0} → (read : List ℕ → Option (X × List ℕ)) (n : ℕ) (text : List ℕ) → read text ≡ None → repeated read n text ≡ ([], text)
repeated_none read zero text r = refl
repeated_none read (suc n) text r = rw r refl

-- all parts were read, and nothing but blanks is behind them
pub record TookAll {X : Type 0} (found : List X × List ℕ) (xs : List X) : Type 0 where
  pub rest : List ℕ
  pub is : found ≡ (xs, rest)
  pub blanks : AreBlanks rest

pub both_moderate : (us ws : List Word) → list_all is_moderate (us ++ ws) ≡ true → (list_all is_moderate us ≡ true) × (list_all is_moderate ws ≡ true)
both_moderate us ws m =
    let both : list_all is_moderate us && list_all is_moderate ws ≡ true = rw list_all-append at m in
    and_parts (list_all is_moderate us) (list_all is_moderate ws) both

first_taken : {X : Type 0} → (read : List ℕ → Option (X × List ℕ)) (words : X → List Word)
    → TakesParts read words → (v : Word) (x : X) (xs : List X) (text : List ℕ)
    → list_all is_moderate (flat_map words (x ∷ xs)) ≡ true → AreBehind v (flat_map words (x ∷ xs)) text
    → Took text (read text) x (flat_map words xs)
first_taken read words r v x xs text m h =
    r.part v x (flat_map words xs) text (both_moderate (words x) (flat_map words xs) m).0 h

pub repeated_taken : {X : Type 0} → (read : List ℕ → Option (X × List ℕ)) (words : X → List Word)
    → TakesParts read words → (v : Word) (xs : List X) (n : ℕ) (text : List ℕ) → length text ≤ n
    → list_all is_moderate (flat_map words xs) ≡ true → AreBehind v (flat_map words xs) text
    → TookAll (repeated read n text) xs
repeated_taken read words r v [] n text l m h = record { rest = text; is = repeated_none read n text (r.stop text h); blanks = h }
repeated_taken read words r v (x ∷ xs) zero text l m h =
    let first = first_taken read words r v x xs text m h in
    absurd (omega (arith, first.less))
repeated_taken read words r v (x ∷ xs) (suc n) text l m h =
    let first = first_taken read words r v x xs text m h in
    let p = both_moderate (words x) (flat_map words xs) m in
    let others = repeated_taken read words r first.last xs n first.rest (omega (arith, first.less)) p.1 first.behind in
    record { rest = others.rest; is = rw (first.is, others.is) refl; blanks = others.blanks }

-- what was read, or what stands for it where nothing was
pub record TookLast {X : Type 0} (found : X × List ℕ) (x : X) : Type 0 where
  pub rest : List ℕ
  pub is : found ≡ (x, rest)
  pub blanks : AreBlanks rest

-- what is left out or not
pub shortened : (p : List Word → Bool) (b : Bool) (ws : List Word) → p [] ≡ true → p ws ≡ true → p (if b then [] else ws) ≡ true
shortened p true ws none h = none
shortened p false ws none h = h

pub shorter_direction : (p : List Word → Bool) (short : Bool) (d : Spot) → p [] ≡ true → p (spot_words d) ≡ true → p (direction_words short d) ≡ true
shorter_direction p short d none h = shortened p (short && int_eq d.x (pos 1) && int_eq d.y (pos 0)) (spot_words d) none h

pub shorter_scale : (p : List Word → Bool) (short : Bool) (s : Scale) → p [] ≡ true → p (scale_words false s) ≡ true → p (scale_words short s) ≡ true
shorter_scale p short s none h = shortened p (short && s.times == 1 && s.over == 1) (Number s.times ∷ Number s.over ∷ []) none h

-- a direction

along_x : (d : Spot) → int_eq d.x (pos 1) && int_eq d.y (pos 0) ≡ true → spot (pos 1) (pos 0) ≡ d
along_x d e =
    let p = and_parts (int_eq d.x (pos 1)) (int_eq d.y (pos 0)) e in
    let x : d.x ≡ pos 1 = (Decides-int_eq d.x (pos 1)).0 p.0 in
    let y : d.y ≡ pos 0 = (Decides-int_eq d.y (pos 0)).0 p.1 in
    λ i. spot (sym x i) (sym y i)

told_direction : (v : Word) (d : Spot) (text : List ℕ) → list_all is_moderate (spot_words d) ≡ true
    → AreBehind v (spot_words d) text → TookLast (direction_of (spot_of text) text) d
told_direction v d text m h =
    let s = spot_taken v d [] text m h in
    record { rest = s.rest; is = rw (s.is) refl; blanks = s.behind }

no_direction : (d : Spot) (text : List ℕ) → spot (pos 1) (pos 0) ≡ d → AreBlanks text
    → TookLast (direction_of (spot_of text) text) d
no_direction d text e h = record { rest = text; is = rw (no_spot_in_blanks text h, e) refl; blanks = h }

-- it is there, or is left out
pub direction_taken : (short : Bool) (v : Word) (d : Spot) (text : List ℕ)
    → list_all is_moderate (spot_words d) ≡ true → AreBehind v (direction_words short d) text
    → TookLast (direction_of (spot_of text) text) d
direction_taken false v d text m h = told_direction v d text m h
direction_taken true v d text m h = (elim (int_eq d.x (pos 1) && int_eq d.y (pos 0)) as
    (λ b. int_eq d.x (pos 1) && int_eq d.y (pos 0) ≡ b → AreBehind v (if b then [] else spot_words d) text
    → TookLast (direction_of (spot_of text) text) d)
    [ true ↦ λ e g. no_direction d text (along_x d e) g | false ↦ λ e g. told_direction v d text m g ]) refl h

-- a scale

is_one : (n : ℕ) → (n == 1) ≡ true → 1 ≡ n
is_one n e = grind (arith, nat_tests)

abbrev scale : ℕ → ℕ → Scale
scale times over = record { times = times; over = over }

unscaled : (s : Scale) → (s.times == 1) && (s.over == 1) ≡ true → scale 1 1 ≡ s
unscaled s e =
    let p = and_parts (s.times == 1) (s.over == 1) e in
    let t = is_one s.times p.0 in
    let o = is_one s.over p.1 in
    λ i. scale (t i) (o i)

no_scale : (s : Scale) (text : List ℕ) → scale 1 1 ≡ s → AreBlanks text → TookLast (scale_of (ratio_of text) text) s
no_scale s text e h = record { rest = text; is = rw (no_count_in_blanks text h, e) refl; blanks = h }

told_scale : (v : Word) (s : Scale) (text : List ℕ) → list_all is_moderate (scale_words false s) ≡ true
    → AreBehind v (scale_words false s) text → TookLast (scale_of (ratio_of text) text) s
told_scale v s text m h =
    let p = and_parts (is_moderate (Number s.times)) (list_all is_moderate (Number s.over ∷ [])) m in
    let q = and_parts (is_moderate (Number s.over)) true p.1 in
    let times = unsigned_taken v s.times (Number s.over ∷ []) text p.0 h in
    let over = unsigned_taken times.last s.over [] times.rest q.0 times.behind in
    record { rest = over.rest; is = rw (times.is, over.is) refl; blanks = over.behind }

pub scale_taken : (short : Bool) (v : Word) (s : Scale) (text : List ℕ)
    → list_all is_moderate (scale_words false s) ≡ true → AreBehind v (scale_words short s) text
    → TookLast (scale_of (ratio_of text) text) s
scale_taken false v s text m h = told_scale v s text m h
scale_taken true v s text m h = (elim ((s.times == 1) && (s.over == 1)) as
    (λ b. (s.times == 1) && (s.over == 1) ≡ b → AreBehind v (if b then [] else (Number s.times ∷ Number s.over ∷ [])) text
    → TookLast (scale_of (ratio_of text) text) s)
    [ true ↦ λ e g. no_scale s text (unscaled s e) g | false ↦ λ e g. told_scale v s text m g ]) refl h
