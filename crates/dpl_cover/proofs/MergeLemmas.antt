-- Stretches that are merged in the order of their first places.
use Rattle.std.proofs.Common.{arith, ◌≡◌, ℕ, ◌+◌, ◌<◌, ◌≤◌, ℤ, ◌<ℤ◌, ◌≤ℤ◌, List, length, get_or, take, ◌∙◌, All, sym, ap, ◌∷◌, [], ◌++◌, ◌||◌}
use Rattle.std.specs.Int.{int_max}
use Rattle.std.proofs.lemmas.Int.{ints, clamps}
use Rattle.std.proofs.lemmas.List.{get_or_default, take_all}
use Rattle.std.proofs.lemmas.List.Elements.{All-push, All-weaker}
use Rattle.std.proofs.lemmas.List.Folds.{list_any_more}
use Rattle.std.proofs.lemmas.List.Quantifiers.{all_pairs_push}
use Rattle.std.proofs.Math.Bool.{or-false, or_assoc}
use Rattle.dpl_list.specs.Order.{Ascends}
use Rattle.dpl_list.proofs.Integers.{signed}
use Rattle.dpl_cell.specs.Layers.{is_within}
use Rattle.dpl_cell.specs.declared.stretch.Stretch.{Stretch}
use Rattle.dpl_cell.specs.Stretches.{is_in_stretches, AreSeparate}
use Rattle.dpl_cell.proofs.StretchLemmas.{in_pushed}

pub joined_places : (a b c d x : ℤ) → a ≤ℤ c → c ≤ℤ b → is_within a (int_max b d) x ≡ (is_within a b x || is_within c d x)
joined_places a b c d x h g = grind (arith, ints, clamps)

-- the places of the first i stretches behind the first: what is finished, and what is open
pub record Merging (first : Stretch) (rest : List Stretch) (i : ℕ) (merged : List Stretch) (last : Stretch) : Type 0 where
  pub ahead : (k : ℕ) (d : Stretch) → i ≤ k → k < length rest → last.from ≤ℤ (get_or rest k d).from
  pub separate : AreSeparate merged
  pub behind : All (λ t. t.to <ℤ last.from) merged
  pub same : (x : ℤ) → (is_in_stretches merged x || is_within last.from last.to x) ≡ (is_within first.from first.to x || is_in_stretches (take i rest) x)

pub merging_none : (first : Stretch) (rest : List Stretch) → All (λ s. first.from ≤ℤ s.from) rest → Merging first rest 0 [] first
merging_none first rest h = record {
  ahead = λ k d l m. h k d m;
  separate = λ i j d l m. absurd (omega arith);
  behind = λ k d l. absurd (omega arith);
  same = λ x. sym (or-false _);
}

pub merging_join : (first : Stretch) (rest : List Stretch) (i : ℕ) (merged : List Stretch) (last part next : Stretch)
    → Merging first rest i merged last → i < length rest → part ≡ get_or rest i part → next.from ≡ last.from
    → ((x : ℤ) → is_within next.from next.to x ≡ (is_within last.from last.to x || is_within part.from part.to x))
    → Merging first rest (i + 1) merged next
merging_join first rest i merged last part next m within is e same = record {
  ahead = λ k d l n. rw e (m.ahead k d (omega arith) n);
  separate = m.separate;
  behind = All-weaker (λ t. t.to <ℤ last.from) (λ t. t.to <ℤ next.from) (λ t h. rw e h) merged m.behind;
  same = λ x. ap (λ b. is_in_stretches merged x || b) (same x) ∙ sym (or_assoc (is_in_stretches merged x) _ _) ∙
      ap (λ b. b || is_within part.from part.to x) (m.same x)
      ∙ or_assoc (is_within first.from first.to x) _ _ ∙ ap (λ b. is_within first.from first.to x || b) (sym (more_places rest i part x within is));
} where
  more_places : (rest : List Stretch) (i : ℕ) (part : Stretch) (x : ℤ) → i < length rest → part ≡ get_or rest i part →
      is_in_stretches (take (i + 1) rest) x ≡ (is_in_stretches (take i rest) x || is_within part.from part.to x)
  more_places rest i part x within is = list_any_more (λ s. is_within s.from s.to x) rest i part within ∙
      ap (λ (s : Stretch). is_in_stretches (take i rest) x || is_within s.from s.to x) (sym is)

pub merging_push : (first : Stretch) (rest : List Stretch) (i : ℕ) (merged : List Stretch) (last part : Stretch)
    → Ascends (λ s. s.from) rest → Merging first rest i merged last → i < length rest
    → part ≡ get_or rest i part → last.to <ℤ part.from → Merging first rest (i + 1) (merged ++ last ∷ []) part
merging_push first rest i merged last part sorted m within is h = record {
  ahead = λ k d l n. let s : (get_or rest i d).from ≤ℤ (get_or rest k d).from = sorted i k d (omega arith) n in rw (is ∙ get_or_default rest i part d within) s;
  separate = all_pairs_push (λ s t. s.to <ℤ t.from) merged last m.separate m.behind;
  behind = All-push (λ t. t.to <ℤ part.from) merged last
      (All-weaker (λ t. t.to <ℤ last.from) (λ t. t.to <ℤ part.from) (λ t g. let w = last.wide in omega signed) merged
      m.behind) h;
  same = λ x. ap (λ b. b || is_within part.from part.to x) (in_pushed merged last x ∙ m.same x)
      ∙ or_assoc (is_within first.from first.to x) _ _ ∙
      ap (λ b. is_within first.from first.to x || b)
      (sym (list_any_more (λ s. is_within s.from s.to x) rest i part within ∙
      ap (λ (s : Stretch). is_in_stretches (take i rest) x || is_within s.from s.to x) (sym is)));
}

pub merging_end : (first : Stretch) (rest : List Stretch) (i : ℕ) (merged new : List Stretch) (last : Stretch)
    → length rest ≤ i → Merging first rest i merged last → new ≡ merged ++ last ∷ [] → (x : ℤ)
    → is_in_stretches new x ≡ (is_within first.from first.to x || is_in_stretches rest x)
merging_end first rest i merged new last whole m e x =
    rw (e, in_pushed merged last x) (m.same x ∙ ap (λ (l : List Stretch). is_within first.from first.to x ||
    is_in_stretches l x) (take_all i rest whole))

pub merging_separate : (first : Stretch) (rest : List Stretch) (i : ℕ) (merged new : List Stretch) (last : Stretch)
    → Merging first rest i merged last → new ≡ merged ++ last ∷ [] → AreSeparate new
merging_separate first rest i merged new last m e = rw e (all_pairs_push (λ s t. s.to <ℤ t.from) merged last m.separate m.behind)
