-- Borders in order, line by line.
use Rattle.std.proofs.Common.{arith, ◌≡◌, ◌≢◌, ◌∙◌, ℕ, ◌+◌, ◌-◌, ◌<◌, ◌≤◌, ℤ, ◌<ℤ◌, ◌≤ℤ◌, List, length, get_or, take, drop}
use Rattle.std.proofs.Common.{All, AllPairs, Any, Contains, inl, inr, refl, sym, ap, subst, [], ◌∷◌, ◌++◌, map, pos}
use Rattle.std.specs.List.{drop-map, take-map}
use Rattle.std.proofs.lemmas.Bool.{cases_lt}
use Rattle.std.proofs.lemmas.Int.{by_lt_z}
use Rattle.std.proofs.lemmas.List.{get_or-take, get_or-drop, get_or-map, length-map, length-take, length-drop}
use Rattle.std.proofs.lemmas.List.Elements.{All-push}
use Rattle.std.proofs.lemmas.List.Quantifiers.{all_pairs_push}
use Rattle.dpl_list.proofs.Integers.{signed}
use Rattle.dpl_list.proofs.Lists.{any_left, any_right}
use Rattle.dpl_near.specs.declared.borders.Border.{Border}
use Rattle.dpl_near.specs.declared.lines.Line.{Line}
use Rattle.dpl_near.specs.Borders.{AddsAlong, AreInOrder}
use Rattle.dpl_near.specs.Lines.{AreLines, AreOnLine, IsLine, IsLower}
use Rattle.dpl_near.specs.Seeking.{AreRising, IsPlacePast}
use Rattle.dpl_near.proofs.BorderLemmas.{StandsBefore, blank, stands_before}

-- ---- the lines of borders in order rise

not_lower : (a b : Border) → StandsBefore a b → a.line ≤ℤ b.line
not_lower a b (inl h) = omega signed
not_lower a b (inr (e, h)) = omega signed

rise : (borders : List Border) → AreInOrder borders → (i j : ℕ) (d : Border) → i ≤ j → j < length borders
    → (get_or borders i d).line ≤ℤ (get_or borders j d).line
rise borders o i j d h l = elim (cases_lt i j) [
  | inl g ↦ let a = get_or borders i d in let b = get_or borders j d in not_lower a b (stands_before a b (o.order i j d g l))
  | inr g ↦ let e : i ≡ j = omega arith in rw e (itself _)
] where
  itself : (x : ℤ) → x ≤ℤ x
  itself x = omega signed

-- ---- where one line begins and ends

-- the borders from one place to another are those of a line if those before and the next one are on others
pub line_between : (borders : List Border) (at : ℤ) (start end : ℕ) → AreInOrder borders → start < end → end ≤ length borders
    → ((k : ℕ) (d : Border) → k < start → (get_or borders k d).line <ℤ (get_or borders start d).line)
    → ((k : ℕ) (d : Border) → start ≤ k → k < end → (get_or borders k d).line ≡ at)
    → ((d : Border) → end < length borders → (get_or borders end d).line ≢ at)
    → IsLine borders (record { at = at; start = start; end = end })
line_between borders at start end o some within first on next = record {
  order = omega arith;
  within = within;
  below = λ k d h. subst (λ x. (get_or borders k d).line <ℤ x) (on start d (omega arith) some) (first k d h);
  on = on;
  above = λ k d h l. higher _ _ (on start d (omega arith) some) (rise borders o start end d (omega arith) (omega arith))
      (next d (omega arith)) (rise borders o end k d h l);
} where
  higher : {x : ℤ} (y z : ℤ) → x ≡ at → x ≤ℤ y → y ≢ at → y ≤ℤ z → at <ℤ z
  higher y z e h n g = by_lt_z at y (λ l. omega signed) (λ l. absurd (n (omega signed)))

-- ---- the borders of a line

module _ (borders : List Border) (l : Line) (o : AreInOrder borders) (s : IsLine borders l) where
  part : List Border
  part = take (l.end - l.start) (drop l.start borders)

  part_length : length part ≡ l.end - l.start
  unfolding part
  part_length = let n = length-take (l.end - l.start) (drop l.start borders) in let m = length-drop l.start borders in
      let g = s.order in let h = s.within in omega arith

  part_at : (k : ℕ) (d : Border) → k < length part → get_or part k d ≡ get_or borders (l.start + k) d
  unfolding part
  part_at k d h = get_or-take (l.end - l.start) (drop l.start borders) k d (let n = part_length in omega arith) ∙ get_or-drop l.start borders k d

  inside : (k : ℕ) → k < length part → (l.start + k < l.end) × (l.start + k < length borders)
  inside k h = let n = part_length in let g = s.order in let m = s.within in (omega arith, omega arith)

  pub on_line : AreOnLine borders l.at (take (l.end - l.start) (drop l.start borders))
  unfolding part
  on_line = record {
    order = record {
      long = λ k d h. rw (part_at k d h) (o.long (l.start + k) d ((inside k h).1));
      order = λ i j d h g. rw (part_at i d (omega arith), part_at j d g) (o.order (l.start + i) (l.start + j) d (omega arith) ((inside j g).1));
    };
    line = λ k d h. rw (part_at k d h) (s.on (l.start + k) d (omega arith) ((inside k h).0));
    each = λ b (k, h, e). (l.start + k, (inside k h).1, sym (part_at k b h) ∙ e);
    all = λ b (k, h, e) is. found b k h e is;
  } where
    found : (b : Border) (k : ℕ) → k < length borders → get_or borders k b ≡ b → b.line ≡ l.at → Contains part b
    found b k h e is = elim (cases_lt k l.start) [
      | inl g ↦ let f : b.line <ℤ l.at = rw e at (s.below k b g) in absurd (omega signed)
      | inr g ↦ elim (cases_lt k l.end) [
        | inr m ↦ let f : l.at <ℤ b.line = rw e at (s.above k b m h) in absurd (omega signed)
        | inl m ↦
            let same : l.start + (k - l.start) ≡ k = omega arith in
            let short : k - l.start < length part = let n = part_length in omega arith in
            (k - l.start, short, part_at (k - l.start) b short ∙ ap (λ n. get_or borders n b) same ∙ e)
      ]
    ]

-- the ends of a part of the borders are a part of their ends
pub ends_of_part : (borders : List Border) (ends : List ℤ) (start end : ℕ) → ends ≡ map (λ b. b.to) borders
    → take (end - start) (drop start ends) ≡ map (λ b. b.to) (take (end - start) (drop start borders))
ends_of_part borders ends start end e = rw e
    (rw (drop-map (λ (b : Border). b.to) start borders) (take-map (λ (b : Border). b.to) (end - start) (drop start borders)))

-- ---- the lines of the borders below a place

pub record LinesUpTo (borders : List Border) (n : ℕ) (lines : List Line) : Type 0 where
  pub each : All (IsLine borders) lines
  pub ended : All (λ l. l.end ≤ n) lines
  pub all : (k : ℕ) (d : Border) → k < n → Any (λ l. l.at ≡ (get_or borders k d).line) lines
  pub rising : AllPairs IsLower lines

pub lines_none : (borders : List Border) → LinesUpTo borders 0 []
lines_none borders = record {
  each = λ k d l. absurd (omega arith);
  ended = λ k d l. absurd (omega arith);
  all = λ k d l. absurd (omega arith);
  rising = λ i j d h l. absurd (omega arith);
}

-- the border at the place is the first of its line
pub first_on_line : (borders : List Border) (n : ℕ) (lines : List Line) → n < length borders → LinesUpTo borders n lines
    → (k : ℕ) (d : Border) → k < n → (get_or borders k d).line <ℤ (get_or borders n d).line
first_on_line borders n lines within so k d h =
    let (m, l, g, e, on) = so.all k d h in
    let line : IsLine borders l = rw e at (so.each m l g) in
    let ended : l.end ≤ n = rw e at (so.ended m l g) in
    let above = line.above n d ended within in
    subst (λ x. x <ℤ (get_or borders n d).line) on above

pub lines_more : (borders : List Border) (n : ℕ) (lines new : List Line) (l : Line) → n < length borders
    → IsLine borders l → l.start ≡ n → n < l.end → new ≡ lines ++ l ∷ [] → LinesUpTo borders n lines
    → LinesUpTo borders l.end new
lines_more borders n lines new l within line start some e so = rw e (record {
  each = All-push (IsLine borders) lines l so.each line;
  ended = All-push (λ m. m.end ≤ l.end) lines l (λ k d h. let g = so.ended k d h in omega arith) (omega arith);
  all = λ k d h. elim (cases_lt k n) [
    | inl g ↦ any_left _ lines (l ∷ []) (so.all k d g)
    | inr g ↦ any_right _ lines (l ∷ []) (0, l, omega arith, refl, sym (line.on k d (omega arith) h))
  ];
  rising = all_pairs_push IsLower lines l so.rising (λ k d h.
      subst (λ x. (get_or lines k d).at <ℤ x) (line.on n blank (omega arith) some) ((so.each k d h).above n blank (so.ended k d h) within));
})

pub lines_all : (borders : List Border) (n : ℕ) (lines : List Line) → length borders ≤ n → LinesUpTo borders n lines
    → AreLines borders lines
lines_all borders n lines whole so = record {
  each = so.each;
  all = λ k d l. so.all k d (omega arith);
  rising = so.rising;
}

-- ---- a line is looked up

-- a line, where one is read past the end of a list
abbrev pub no_line : Line
no_line = record { at = pos 0; start = 0; end = 0 }

pub levels_rise : (lines : List Line) (levels : List ℤ) → AllPairs IsLower lines → levels ≡ map (λ l. l.at) lines → AreRising levels
levels_rise lines levels up e = rw e (λ i j d h l.
    let n = length-map lines (λ (m : Line). m.at) in
    rw (get_or-map (λ (m : Line). m.at) lines i no_line d (omega arith), get_or-map (λ (m : Line). m.at) lines j no_line d (omega arith))
    (up i j no_line h (omega arith)))

level_at : (lines : List Line) (levels : List ℤ) (k : ℕ) (d : Line) → levels ≡ map (λ l. l.at) lines → k < length lines
    → get_or levels k d.at ≡ (get_or lines k d).at
level_at lines levels k d e l = rw e (get_or-map (λ (m : Line). m.at) lines k d d.at l)

many_levels : (lines : List Line) (levels : List ℤ) → levels ≡ map (λ l. l.at) lines → length levels ≡ length lines
many_levels lines levels e = rw e (length-map lines (λ (m : Line). m.at))

-- what lies behind the place where a line would end is higher
higher_behind : (lines : List Line) (levels : List ℤ) (at : ℤ) (past : ℕ) → levels ≡ map (λ l. l.at) lines → IsPlacePast levels at past
    → (k : ℕ) (d : Line) → past ≤ k → k < length lines → at <ℤ (get_or lines k d).at
higher_behind lines levels at past e p k d h l = let n = many_levels lines levels e in
    subst (λ z. at <ℤ z) (level_at lines levels k d e l) (p.high k d.at h (omega arith))

pub past_within : (lines : List Line) (levels : List ℤ) (at : ℤ) (past : ℕ) → levels ≡ map (λ l. l.at) lines → IsPlacePast levels at past
    → past ≤ length lines
past_within lines levels at past e p = let n = many_levels lines levels e in let w = p.within in omega arith

-- all lines are higher
pub no_line_before : (lines : List Line) (levels : List ℤ) (at : ℤ) (past : ℕ) → levels ≡ map (λ l. l.at) lines → IsPlacePast levels at past
    → past ≡ 0 → ¬ Any (λ l. l.at ≡ at) lines
no_line_before lines levels at past e p none (k, l, within, is, on) =
    let h : at <ℤ l.at = rw is at (higher_behind lines levels at past e p k l (omega arith) within) in omega signed

-- the last line that is not higher is lower
pub no_line_there : (lines : List Line) (levels : List ℤ) (at : ℤ) (past : ℕ) (m : Line) → AllPairs IsLower lines → levels ≡ map (λ l. l.at) lines
    → IsPlacePast levels at past → past ≢ 0 → ((d : Line) → get_or lines (past - 1) d ≡ m) → m.at <ℤ at → ¬ Any (λ l. l.at ≡ at) lines
no_line_there lines levels at past m up e p some is low (k, l, within, f, on) =
    let n = past_within lines levels at past e p in
    elim (cases_lt k (past - 1)) [
      | inl h ↦ let g : l.at <ℤ m.at = rw (f, is l) at (up k (past - 1) l h (omega (arith, some, n))) in omega signed
      | inr h ↦ elim (cases_lt k past) [
        | inl g ↦ let same : k ≡ past - 1 = omega (arith, g, h) in
            let b : l ≡ m = sym f ∙ ap (λ i. get_or lines i l) same ∙ is l in
            let c : l.at ≡ m.at = ap (λ (x : Line). x.at) b in omega signed
        | inr g ↦ let b : at <ℤ l.at = rw f at (higher_behind lines levels at past e p k l g within) in omega signed
      ]
    ]

-- and if it is not lower, it is the line
pub line_there : (lines : List Line) (levels : List ℤ) (at : ℤ) (past : ℕ) (m : Line) → levels ≡ map (λ l. l.at) lines
    → IsPlacePast levels at past → past ≢ 0 → ((d : Line) → get_or lines (past - 1) d ≡ m) → at ≤ℤ m.at
    → Contains lines m × (m.at ≡ at)
line_there lines levels at past m e p some is high =
    let n = past_within lines levels at past e p in
    let low : m.at ≤ℤ at = subst (λ z. z ≤ℤ at) (level_at lines levels (past - 1) m e (omega (arith, some, n)) ∙ ap (λ (x : Line). x.at) (is m))
    (p.low (past - 1) m.at (omega (arith, some))) in
    ((past - 1, omega (arith, some, n), is m), omega signed)

-- ---- the borders of a line that lie along another

pub line_in : (borders : List Border) (lines : List Line) (l : Line) → AreLines borders lines → Contains lines l → IsLine borders l
line_in borders lines l a (k, h, e) = subst (IsLine borders) e (a.each k l h)

pub along_on_line : (border : Border) (borders found : List Border) (pairs new : List (ℕ × ℕ)) → AreOnLine borders border.line found
    → AddsAlong border found pairs new → AddsAlong border borders pairs new
along_on_line border borders found pairs new o a = record {
  kept = a.kept;
  all = λ b c w. a.all b (o.all b c (sym w.line)) w;
  each = λ p c. elim (a.each p c) [ inl h ↦ inl h | inr (b, h, w, e) ↦ inr (b, o.each b h, w, e) ];
}

pub none_along : (border : Border) (borders : List Border) (lines : List Line) (pairs : List (ℕ × ℕ)) → AreLines borders lines
    → ¬ Any (λ l. l.at ≡ border.line) lines → AddsAlong border borders pairs pairs
none_along border borders lines pairs a none = record {
  kept = λ p c. c;
  all = λ b (k, h, e) w. let (m, l, g, f, on) = a.all k b h in
      absurd (none (m, l, g, f, on ∙ ap (λ (x : Border). x.line) e ∙ sym w.line));
  each = λ p c. inl c;
}
