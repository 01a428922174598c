-- What a change does to the counts of places.
use Rattle.std.proofs.Common.{arith, refl, sym, ap, subst, inl, inr, ◌∙◌, ◌≡◌, ◌≢◌, ◌⊎◌, ℕ, ◌≤◌, ◌<◌, ◌+◌, ◌*◌, ◌/◌, ℤ, pos, negsuc, ◌+ℤ◌, ◌≤ℤ◌}
use Rattle.std.proofs.Common.{List, Bool, length, set, ◌^◌, ◌-◌, SFits, w64, int_lt}
use Rattle.std.specs.Int.{saturate_signed}
use Rattle.std.proofs.lemmas.List.{get_or-set_same, get_or-set_other, length-set}
use Rattle.std.proofs.lemmas.Int.{ints}
use Rattle.std.proofs.lemmas.Bool.{cases_eq, cases_lt}
use Rattle.dpl_list.proofs.Integers.{signed}
use Rattle.dpl_cover.specs.declared.blocks.TheConstants.{BLOCK, WIDE}
use Rattle.dpl_cover.specs.declared.blocks.Block.{Block}
use Rattle.dpl_cover.specs.Counts.{AreCounts, AreParts, AreSmall, AreUpTo, HasWithin, IsAdded, IsAlike, IsBeside, IsBetween, IsChange, IsFit}
use Rattle.dpl_cover.specs.Counts.{IsKept, IsNear, IsPartChange, IsRenewed, IsWholeGrown, IsUpTo, IsUnit, IsWider, block_at, block_of, count_at}
use Rattle.dpl_cover.specs.Counts.{no_block, own_at, part_at, wide_of}

place_or_beside : (a b k : ℕ) → ((a ≤ k) × (k < b)) ⊎ IsBeside a b k
place_or_beside a b k = search arith

pub wider : (m n : ℕ) (z : ℤ) → m ≤ n → IsUpTo m z → IsUpTo n z
wider m n z h s = (omega (signed, h, s.0), omega (signed, h, s.1))

-- ---- numbers of places that are changed

-- one more own count was added to
pub added_more : (from k : ℕ) (by : ℤ) (old now : List ℤ) (x : ℤ) → from ≤ k → k < length old → length now ≡ length old
    → x ≡ own_at now k +ℤ by → IsAdded (length old) from k by (own_at old) (own_at now)
    → IsAdded (length old) from (k + 1) by (own_at old) (own_at (set now k x))
added_more from k by old now x order within long is g = record {
  inside = λ j a b. elim (cases_eq j k) [
    | inl e ↦ subst (λ z. own_at (set now k x) z ≡ own_at old z +ℤ by) (sym e)
        (get_or-set_same now k x (pos 0) (rw long within) ∙ is ∙ ap (λ z. z +ℤ by) (g.beside k within (inr (omega arith))))
    | inr n ↦ get_or-set_other now k j x (pos 0) n ∙ g.inside j a (omega (arith, n, b))
  ];
  beside = λ j l s. elim s [
    | inl h ↦ get_or-set_other now k j x (pos 0) (λ e. omega (arith, h, e, order)) ∙ g.beside j l (inl h)
    | inr r ↦ get_or-set_other now k j x (pos 0) (λ e. omega (arith, r, e)) ∙ g.beside j l (inr (omega (arith, r)))
  ];
}

-- a number that grew by one or minus one, or not at all
up_by_unit : (n : ℕ) (z y by : ℤ) → IsUnit by → y ≡ z +ℤ by → IsUpTo n z → IsUpTo (n + 1) y
up_by_unit n z y by (inl u) e s = (omega (signed, u, e, s.0), omega (signed, u, e, s.1))
up_by_unit n z y by (inr u) e s = (omega (signed, u, e, s.0), omega (signed, u, e, s.1))

up_as_before : (n : ℕ) (z y : ℤ) → y ≡ z → IsUpTo n z → IsUpTo (n + 1) y
up_as_before n z y e s = (omega (signed, e, s.0), omega (signed, e, s.1))

-- what one or minus one was added to
pub near_added : (n a b : ℕ) (by : ℤ) (old new : ℕ → ℤ) → IsUnit by → IsAdded n a b by old new → IsNear n a b old new
near_added n a b by old new u g = record {
  beside = g.beside;
  grown = λ k m l s. elim (place_or_beside a b k) [
    | inl i ↦ up_by_unit m _ _ by u (g.inside k i.0 i.1) s
    | inr o ↦ up_as_before m _ _ (g.beside k l o) s
  ];
}

-- nothing was changed
pub near_same : (n a b : ℕ) (old new : ℕ → ℤ) → ((k : ℕ) → k < n → new k ≡ old k) → IsNear n a b old new
near_same n a b old new same = record {
  beside = λ k l o. same k l;
  grown = λ k m l s. up_as_before m _ _ (same k l) s;
}

-- two changes side by side
beside_second : (a m c k : ℕ) → a ≤ m → IsBeside a c k → IsBeside m c k
beside_second a m c k low (inl h) = inl (omega (arith, h, low))
beside_second a m c k low (inr h) = inr h

beside_first : (a m c k : ℕ) → m ≤ c → IsBeside a c k → IsBeside a m k
beside_first a m c k high (inl h) = inl h
beside_first a m c k high (inr h) = inr (omega (arith, h, high))

joined_added : (n a m c : ℕ) (by : ℤ) (f g h : ℕ → ℤ) → a ≤ m → m ≤ c → c ≤ n → IsAdded n a m by f g
    → IsAdded n m c by g h → IsAdded n a c by f h
joined_added n a m c by f g h low high top first second = record {
  inside = λ k l u. elim (cases_lt k m) [
    | inl s ↦ second.beside k (omega (arith, u, top)) (inl s) ∙ first.inside k l s
    | inr s ↦ second.inside k s u ∙ ap (λ z. z +ℤ by) (first.beside k (omega (arith, u, top)) (inr s))
  ];
  beside = λ k l o. second.beside k l (beside_second a m c k low o) ∙ first.beside k l (beside_first a m c k high o);
}

joined_near : (n a m c : ℕ) (f g h : ℕ → ℤ) → a ≤ m → m ≤ c → IsNear n a m f g → IsNear n m c g h → IsNear n a c f h
joined_near n a m c f g h low high first second = record {
  beside = λ k l o. second.beside k l (beside_second a m c k low o) ∙ first.beside k l (beside_first a m c k high o);
  grown = λ k i l s. elim (cases_lt k m) [
    | inl t ↦ subst (IsUpTo (i + 1)) (sym (second.beside k l (inl t))) (first.grown k i l s)
    | inr t ↦ second.grown k i l (subst (IsUpTo i) (sym (first.beside k l (inr t))) s)
  ];
}

-- ---- where blocks stand

pub block_from : (k : ℕ) → k / BLOCK * BLOCK ≤ k
block_from k = omega arith

pub wide_from : (k : ℕ) → k / WIDE * WIDE ≤ k
wide_from k = omega arith

pub same_block : (a k : ℕ) → a / BLOCK * BLOCK ≤ k → k < a / BLOCK * BLOCK + BLOCK → block_of k ≡ block_of a
same_block a k l h = omega arith

wide_of_block : (a k : ℕ) → a / BLOCK * BLOCK ≤ k → k < a / BLOCK * BLOCK + BLOCK → wide_of k ≡ wide_of a
wide_of_block a k l h = omega arith

pub other_block : (a k : ℕ) → IsBeside (a / BLOCK * BLOCK) (a / BLOCK * BLOCK + BLOCK) k → block_of k ≢ block_of a
other_block a k (inl h) e = omega (arith, h, e)
other_block a k (inr h) e = omega (arith, h, e)

pub same_wide : (a k : ℕ) → a / WIDE * WIDE ≤ k → k < a / WIDE * WIDE + WIDE → wide_of k ≡ wide_of a
same_wide a k l h = omega arith

pub other_wide : (a k : ℕ) → IsBeside (a / WIDE * WIDE) (a / WIDE * WIDE + WIDE) k → wide_of k ≢ wide_of a
other_wide a k (inl h) e = omega (arith, h, e)
other_wide a k (inr h) e = omega (arith, h, e)

-- no wide block is a block of places
pub block_or_wide : (a k : ℕ) → block_of a ≢ wide_of k
block_or_wide a k e = omega (arith, e)

-- the blocks of a wide block stand behind it
pub behind_wide : (k : ℕ) → wide_of k < block_of k
behind_wide k = omega arith

pub near_wide : (k : ℕ) → block_of k ≤ wide_of k + BLOCK
near_wide k = omega arith

-- ---- blocks of places

grouped : (x y z : ℤ) → x +ℤ y +ℤ z ≡ x +ℤ (y +ℤ z)
grouped x y z = omega signed

-- other numbers of a block change no count
kept_parts : (b : ℕ) (each : List ℤ) (blocks blocks' : List Block) (k : ℕ) → IsKept b blocks blocks'
    → part_at each blocks' k ≡ part_at each blocks k
kept_parts b each blocks blocks' k t = ap (λ z. own_at each k +ℤ z) (kept_whole b blocks blocks' (block_of k) t)
  where
    kept_whole : (b : ℕ) (blocks blocks' : List Block) (j : ℕ) → IsKept b blocks blocks' → (block_at blocks' j).whole ≡ (block_at blocks j).whole
    kept_whole b blocks blocks' j t = elim (cases_eq j b) [
      | inl e ↦ rw e t.whole
      | inr n ↦ ap (λ (z : Block). z.whole) (t.others j n)
    ]

-- a block with its count and its numbers added to
pub whole_grown : (b : ℕ) (by : ℤ) (blocks : List Block) (new : Block) → b < length blocks → new.whole ≡ (block_at blocks b).whole +ℤ by
    → HasWithin by (block_at blocks b) new → IsWholeGrown b by blocks (set blocks b new)
whole_grown b by blocks new within whole between = record {
  long = length-set blocks b new;
  whole = rw (get_or-set_same blocks b new no_block within) whole;
  between = rw (get_or-set_same blocks b new no_block within) between;
  others = λ j n. get_or-set_other blocks b j new no_block n;
}

-- what lay between the numbers of a block, where its count was added to
raised_between : (x y by : ℤ) (old new : Block) → IsUnit by → IsUpTo (2 ^ 60) (x +ℤ y) → HasWithin by old new
    → IsBetween old (x +ℤ y) → IsBetween new (x +ℤ (y +ℤ by))
raised_between x y by old new u s g t = subst (IsBetween new) (grouped x y by)
    (g (x +ℤ y) (wider (2 ^ 60 + 1) (2 ^ 62) _ (omega arith) (up_by_unit (2 ^ 60) (x +ℤ y) _ by u refl s)) t)

-- a whole block was counted once more or less
pub block_changed : (a c : ℕ) (by : ℤ) (each : List ℤ) (blocks blocks' : List Block) → IsUnit by → a ≡ a / BLOCK * BLOCK
    → c ≤ a / BLOCK * BLOCK + BLOCK → (c ≡ a / BLOCK * BLOCK + BLOCK) ⊎ (c ≡ length each) → AreParts each blocks
    → AreUpTo (2 ^ 60) (length each) (part_at each blocks) → IsWholeGrown (block_of a) by blocks blocks'
    → IsPartChange a c by each blocks each blocks'
block_changed a c by each blocks blocks' u start end full parts small g = record {
  parts = record {
    enough = λ k l. rw g.long (parts.enough k l);
    part = λ k l. elim (cases_eq (block_of k) (block_of a)) [
      | inl e ↦ rw (e, g.whole) (raised_between (own_at each k) _ by (block_at blocks (block_of a)) (block_at blocks' (block_of a)) u
          (rw e at (small k l)) g.between (rw e at (parts.part k l)))
      | inr n ↦ rw (g.others (block_of k) n) (parts.part k l)
    ];
  };
  long = refl;
  part = record {
    inside = λ k l h.
        let e = same_block a k (omega (arith, l, start)) (omega (arith, h, end)) in
        rw (e, g.whole) (omega signed);
    beside = λ k l o. ap (λ (z : Block). own_at each k +ℤ z.whole) (g.others (block_of k) (other_block a k (elim o [
      | inl h ↦ inl (omega (arith, h, start))
      | inr h ↦ elim full [
        | inl f ↦ inr (omega (arith, h, f))
        | inr f ↦ absurd (omega (arith, h, f, l))
      ]
    ])));
  };
  own = near_same _ a c _ _ (λ k l. refl);
  wide = λ k. g.others (wide_of k) (λ e. block_or_wide a k (sym e));
}

-- the own counts of some places of a block were changed, and its numbers looked up again
pub places_changed : (a c d : ℕ) (by : ℤ) (each each' : List ℤ) (blocks blocks' : List Block) → IsUnit by
    → c ≤ d → d ≤ a / BLOCK * BLOCK + BLOCK → (d ≡ a / BLOCK * BLOCK + BLOCK) ⊎ (d ≡ length each)
    → AreParts each blocks → AreUpTo (2 ^ 60) (length each) (part_at each blocks) → length each' ≡ length each
    → IsAdded (length each) a c by (own_at each) (own_at each')
    → IsRenewed (block_of a) (a / BLOCK * BLOCK) d each' blocks blocks' → IsPartChange a c by each blocks each' blocks'
places_changed a c d by each each' blocks blocks' u to up full parts small long g r = record {
  parts = record {
    enough = λ k l. rw r.kept.long (parts.enough k (rw long at l));
    part = λ k l. elim (place_or_beside (a / BLOCK * BLOCK) (a / BLOCK * BLOCK + BLOCK) k) [
      | inl i ↦ let e = same_block a k i.0 i.1 in
          rw (e, r.kept.whole) (r.between k i.0 (elim full [ inl f ↦ rw f i.1 | inr f ↦ rw f (rw long at l) ]) (rw e at (small_now k (rw long at l))))
      | inr o ↦ rw (r.kept.others (block_of k) (other_block a k o), g.beside k (rw long at l) (elsewhere k o)) (parts.part k (rw long at l))
    ];
  };
  long = long;
  part = record {
    inside = λ k l h. let e = kept_parts (block_of a) each' blocks blocks' k r.kept in omega (signed, e, g.inside k l h);
    beside = λ k l o. let e = kept_parts (block_of a) each' blocks blocks' k r.kept in omega (signed, e, g.beside k l o);
  };
  own = near_added _ a c by _ _ u g;
  wide = λ k. r.kept.others (wide_of k) (λ e. block_or_wide a k (sym e));
}
  where
    added : IsAdded (length each) a c by (part_at each blocks) (part_at each' blocks)
    added = record {
      inside = λ k l h. omega (signed, g.inside k l h);
      beside = λ k l o. omega (signed, g.beside k l o);
    }

    small_now : (k : ℕ) → k < length each → IsUpTo (2 ^ 62) (part_at each' blocks k)
    small_now k l = wider (2 ^ 60 + 1) (2 ^ 62) _ (omega arith) ((near_added _ a c by _ _ u added).grown k (2 ^ 60) l (small k l))

    elsewhere : (k : ℕ) → IsBeside (a / BLOCK * BLOCK) (a / BLOCK * BLOCK + BLOCK) k → IsBeside a c k
    elsewhere k (inl h) = inl (omega (arith, h, block_from a))
    elsewhere k (inr h) = inr (omega (arith, h, to, up))

-- numbers that were widened by what was added to some places of a block
widened : (a c d : ℕ) (by : ℤ) (each each' : List ℤ) (blocks blocks' : List Block) → d ≤ a / BLOCK * BLOCK + BLOCK → d ≤ length each
    → AreParts each blocks → IsAdded (length each) a c by (own_at each) (own_at each') → IsKept (block_of a) blocks blocks'
    → IsWider (block_at blocks (block_of a)) (block_at blocks' (block_of a))
    → HasWithin by (block_at blocks (block_of a)) (block_at blocks' (block_of a))
    → IsRenewed (block_of a) (a / BLOCK * BLOCK) d each' blocks blocks'
widened a c d by each each' blocks blocks' up within parts g kept wide more = record {
  kept = kept;
  between = λ k l h s. let old = before k l h in elim (place_or_beside a c k) [
    | inl i ↦
        let e : own_at each' k +ℤ (block_at blocks (block_of a)).whole ≡ own_at each k +ℤ (block_at blocks (block_of a)).whole +ℤ by =
        omega (signed, g.inside k i.0 i.1) in
        rw e (more _ (rw e at s) old)
    | inr o ↦ rw (g.beside k (omega (arith, h, within)) o) (record { low = omega (signed, wide.low, old.low); high = omega (signed, wide.high, old.high) })
  ];
}
  where
    before : (k : ℕ) → a / BLOCK * BLOCK ≤ k → k < d → IsBetween (block_at blocks (block_of a)) (own_at each k +ℤ (block_at blocks (block_of a)).whole)
    before k l h = rw (same_block a k l (omega (arith, h, up))) at (parts.part k (omega (arith, h, within)))

-- so places were changed by which its numbers were widened
pub widely_changed : (a c : ℕ) (by : ℤ) (each each' : List ℤ) (blocks blocks' : List Block) → IsUnit by
    → c ≤ length each → c ≤ a / BLOCK * BLOCK + BLOCK → AreParts each blocks → AreUpTo (2 ^ 60) (length each) (part_at each blocks)
    → length each' ≡ length each → IsAdded (length each) a c by (own_at each) (own_at each') → IsKept (block_of a) blocks blocks'
    → IsWider (block_at blocks (block_of a)) (block_at blocks' (block_of a))
    → HasWithin by (block_at blocks (block_of a)) (block_at blocks' (block_of a)) → IsPartChange a c by each blocks each' blocks'
widely_changed a c by each each' blocks blocks' u within up parts small long g kept wide more =
    elim (cases_lt (length each) (a / BLOCK * BLOCK + BLOCK)) [
      | inl h ↦ changed (length each) within (omega (arith, h)) (inr refl) (omega arith)
      | inr h ↦ changed (a / BLOCK * BLOCK + BLOCK) up (omega arith) (inl refl) h
    ]
  where
    changed : (d : ℕ) → c ≤ d → d ≤ a / BLOCK * BLOCK + BLOCK → (d ≡ a / BLOCK * BLOCK + BLOCK) ⊎ (d ≡ length each) → d ≤ length each
        → IsPartChange a c by each blocks each' blocks'
    changed d to below full top = places_changed a c d by each each' blocks blocks' u to below full parts small long g
        (widened a c d by each each' blocks blocks' below top parts g kept wide more)

-- two changes side by side
pub joined_parts : (a m c : ℕ) (by : ℤ) (e0 : List ℤ) (b0 : List Block) (e1 : List ℤ) (b1 : List Block) (e2 : List ℤ) (b2 : List Block)
    → a ≤ m → m ≤ c → c ≤ length e0 → IsPartChange a m by e0 b0 e1 b1 → IsPartChange m c by e1 b1 e2 b2
    → IsPartChange a c by e0 b0 e2 b2
joined_parts a m c by e0 b0 e1 b1 e2 b2 low high top first second = record {
  parts = second.parts;
  long = second.long ∙ first.long;
  part = joined_added _ a m c by _ _ _ low high top first.part (rw first.long at second.part);
  own = joined_near _ a m c _ _ _ low high first.own (rw first.long at second.own);
  wide = λ k. second.wide k ∙ first.wide k;
}

-- ---- wide blocks

-- a whole wide block was counted once more or less
pub wide_changed : (a c : ℕ) (by : ℤ) (each : List ℤ) (blocks blocks' : List Block) → IsUnit by → a ≡ a / WIDE * WIDE
    → c ≤ a / WIDE * WIDE + WIDE → (c ≡ a / WIDE * WIDE + WIDE) ⊎ (c ≡ length each)
    → AreCounts each blocks → AreUpTo (2 ^ 60) (length each) (count_at each blocks) → IsWholeGrown (wide_of a) by blocks blocks'
    → IsChange a c by each blocks each blocks'
wide_changed a c by each blocks blocks' u start end full counts small g = record {
  counts = record {
    parts = record {
      enough = λ k l. rw g.long (counts.parts.enough k l);
      part = λ k l. rw (same k) (counts.parts.part k l);
    };
    wide = λ k l. rw (same k) (elim (cases_eq (wide_of k) (wide_of a)) [
      | inl e ↦ rw (e, g.whole) (raised_between (part_at each blocks k) _ by (block_at blocks (wide_of a)) (block_at blocks' (wide_of a)) u
          (rw e at (small k l)) g.between (rw e at (counts.wide k l)))
      | inr n ↦ rw (g.others (wide_of k) n) (counts.wide k l)
    ]);
  };
  long = refl;
  count = record {
    inside = λ k l h.
        let e = same_wide a k (omega (arith, l, start)) (omega (arith, h, end)) in
        rw (e, same k, g.whole) (omega signed);
    beside = λ k l o. rw (
      same k,
      g.others (wide_of k) (other_wide a k (elim o [
        | inl h ↦ inl (omega (arith, h, start))
        | inr h ↦ elim full [
          | inl f ↦ inr (omega (arith, h, f))
          | inr f ↦ absurd (omega (arith, h, f, l))
        ]
      ])),
    ) refl;
  };
  part = near_same _ a c _ _ (λ k l. ap (λ (z : Block). own_at each k +ℤ z.whole) (same k));
  own = near_same _ a c _ _ (λ k l. refl);
}
  where
    same : (k : ℕ) → block_at blocks' (block_of k) ≡ block_at blocks (block_of k)
    same k = g.others (block_of k) (block_or_wide k a)

-- what was added in blocks was added to the counts
pub parts_counted : (a c : ℕ) (by : ℤ) (e0 : List ℤ) (b0 : List Block) (e1 : List ℤ) (b1 : List Block) → IsPartChange a c by e0 b0 e1 b1
    → IsAdded (length e0) a c by (count_at e0 b0) (count_at e1 b1)
parts_counted a c by e0 b0 e1 b1 g = record {
  inside = λ k l h. rw (g.wide k) (omega (signed, g.part.inside k l h));
  beside = λ k l o. rw (g.wide k) (omega (signed, g.part.beside k l o));
}

-- the counts of some places of a wide block were changed, and its numbers fitted
pub parts_changed : (a c d : ℕ) (by : ℤ) (e0 : List ℤ) (b0 : List Block) (e1 : List ℤ) (b1 b2 : List Block) → IsUnit by
    → a < c → c ≤ a / WIDE * WIDE + WIDE → d ≡ c - 1 → AreCounts e0 b0 → AreUpTo (2 ^ 62) (length e1) (count_at e1 b1)
    → IsPartChange a c by e0 b0 e1 b1 → (now : Block) → IsFit (wide_of a) (block_of a) (block_of d + 1) b1 now
    → IsKept (wide_of a) b1 b2 → (block_at b2 (wide_of a)).low ≡ now.low → (block_at b2 (wide_of a)).high ≡ now.high
    → IsChange a c by e0 b0 e1 b2
parts_changed a c d by e0 b0 e1 b1 b2 u order up last counts small g now fit kept low high = record {
  counts = record {
    parts = record {
      enough = λ k l. rw kept.long (g.parts.enough k l);
      part = λ k l. rw (same k) (g.parts.part k l);
    };
    wide = λ k l. rw (same k) (elim (cases_eq (wide_of k) (wide_of a)) [
      | inl e ↦ rw (e, kept.whole) (fitted _ (elim (fit (block_of k) (rw e at (behind_wide k)) (rw e at (near_wide k)) (g.parts.enough k l)) [
        | inl s ↦ s (part_at e1 b1 k) (rw e at (small k l)) (g.parts.part k l)
        | inr o ↦ let s = rw e at (counts.wide k (rw g.long at l)) in
            let w : IsWider (block_at b0 (wide_of a)) now = rw (g.wide a) at o.1 in
            let p = g.part.beside k (rw g.long at l) (elsewhere k o.0) in let v = ap (λ (z : Block). z.whole) (g.wide a) in
            record { low = omega (signed, p, v, s.low, w.low); high = omega (signed, p, v, s.high, w.high) }
      ]))
      | inr n ↦ rw (kept.others (wide_of k) n, g.wide k, g.part.beside k (rw g.long at l) (outside k n)) (counts.wide k (rw g.long at l))
    ]);
  };
  long = g.long;
  count = record {
    inside = λ k l h. let p = g.part.inside k l h in let w = whole k in rw (same k) (omega (signed, p, w));
    beside = λ k l o. let p = g.part.beside k l o in let w = whole k in rw (same k) (omega (signed, p, w));
  };
  part = near_added _ a c by _ _ u (record {
    inside = λ k l h. rw (same k) (g.part.inside k l h);
    beside = λ k l o. rw (same k) (g.part.beside k l o);
  });
  own = g.own;
}
  where
    fitted : (z : ℤ) → IsBetween now z → IsBetween (block_at b2 (wide_of a)) z
    fitted z s = record { low = omega (signed, low, s.low); high = omega (signed, high, s.high) }

    same : (k : ℕ) → block_at b2 (block_of k) ≡ block_at b1 (block_of k)
    same k = kept.others (block_of k) (block_or_wide k a)

    whole : (k : ℕ) → (block_at b2 (wide_of k)).whole ≡ (block_at b0 (wide_of k)).whole
    whole k = elim (cases_eq (wide_of k) (wide_of a)) [
      | inl e ↦ rw e (kept.whole ∙ ap (λ (z : Block). z.whole) (g.wide a))
      | inr n ↦ ap (λ (z : Block). z.whole) (kept.others (wide_of k) n ∙ g.wide k)
    ]

    elsewhere : (k : ℕ) → IsBeside (block_of a) (block_of d + 1) (block_of k) → IsBeside a c k
    elsewhere k (inl h) = inl (omega (arith, h))
    elsewhere k (inr h) = inr (omega (arith, h, last))

    outside : (k : ℕ) → wide_of k ≢ wide_of a → IsBeside a c k
    outside k n = elim (place_or_beside a c k) [
      | inl i ↦ absurd (n (same_wide a k (omega (arith, i.0, wide_from a)) (omega (arith, i.1, up))))
      | inr o ↦ o
    ]

-- two changes side by side
pub joined_changes : (a m c : ℕ) (by : ℤ) (e0 : List ℤ) (b0 : List Block) (e1 : List ℤ) (b1 : List Block) (e2 : List ℤ) (b2 : List Block)
    → a ≤ m → m ≤ c → c ≤ length e0 → IsChange a m by e0 b0 e1 b1 → IsChange m c by e1 b1 e2 b2
    → IsChange a c by e0 b0 e2 b2
joined_changes a m c by e0 b0 e1 b1 e2 b2 low high top first second = record {
  counts = second.counts;
  long = second.long ∙ first.long;
  count = joined_added _ a m c by _ _ _ low high top first.count (rw first.long at second.count);
  part = joined_near _ a m c _ _ _ low high first.part (rw first.long at second.part);
  own = joined_near _ a m c _ _ _ low high first.own (rw first.long at second.own);
}

-- ---- bounds

-- one change leaves all numbers small
pub near_up : (n m a b : ℕ) (f g : ℕ → ℤ) → IsNear n a b f g → AreUpTo m n f → AreUpTo (m + 1) n g
near_up n m a b f g t s k l = t.grown k m l (s k l)

pub small_after : (n a b : ℕ) (by : ℤ) (e0 : List ℤ) (b0 : List Block) (e1 : List ℤ) (b1 : List Block) → IsUnit by
    → IsChange a b by e0 b0 e1 b1 → AreSmall n e0 b0 → AreSmall (n + 1) e1 b1
small_after n a b by e0 b0 e1 b1 u g s = record {
  own = rw g.long (near_up _ n a b _ _ g.own s.own);
  part = rw g.long (near_up _ n a b _ _ g.part s.part);
  count = rw g.long (near_up _ n a b _ _ (near_added _ a b by _ _ u g.count) s.count);
}

pub wider_all : (m n l : ℕ) (f : ℕ → ℤ) → m ≤ n → AreUpTo m l f → AreUpTo n l f
wider_all m n l f h s k i = wider m n (f k) h (s k i)

pub small_wider : (m n : ℕ) (each : List ℤ) (blocks : List Block) → m ≤ n → AreSmall m each blocks → AreSmall n each blocks
small_wider m n each blocks h s = record {
  own = wider_all m n _ _ h s.own;
  part = wider_all m n _ _ h s.part;
  count = wider_all m n _ _ h s.count;
}

-- what was added is small where it was small before and after
pub addend_up : (n : ℕ) (z y : ℤ) → IsUpTo n z → IsUpTo n (z +ℤ y) → IsUpTo (n + n) y
addend_up n z y s t = (omega (signed, s.0, t.1, s.1, t.0), omega (signed, s.0, t.1, s.1, t.0))

-- ---- numbers of several blocks

pub wider_still : (a b c : Block) → IsWider a b → IsWider b c → IsWider a c
wider_still a b c s t = record { low = omega (signed, s.low, t.low); high = omega (signed, s.high, t.high) }

pub wider_itself : (a : Block) → IsWider a a
wider_itself a = record { low = omega signed; high = omega signed }

-- numbers that are joined block by block
pub joined_first : (blocks : List Block) (from i : ℕ) → from ≤ i → i < from + 1 → IsWider (block_at blocks i) (block_at blocks from)
joined_first blocks from i l h = let e : i ≡ from = omega (arith, l, h) in rw e (wider_itself (block_at blocks from))

pub joined_more : (blocks : List Block) (from j : ℕ) (all new : Block) → IsWider all new → IsWider (block_at blocks j) new
    → ((i : ℕ) → from ≤ i → i < j → IsWider (block_at blocks i) all) → (i : ℕ) → from ≤ i → i < j + 1
    → IsWider (block_at blocks i) new
joined_more blocks from j all new w v before i l h = elim (cases_lt i j) [
  | inl m ↦ wider_still (block_at blocks i) all new (before i l m) w
  | inr m ↦ let e : i ≡ j = omega (arith, h, m) in rw e v
]

-- a count added to the numbers of more, or to fewer numbers
pub raised_wider : (count : ℤ) (block all now : Block) → IsWider block all → HasWithin count all now → HasWithin count block now
raised_wider count block all now w g z t s = g z t (record { low = omega (signed, w.low, s.low); high = omega (signed, w.high, s.high) })

pub within_wider : (count : ℤ) (block now new : Block) → HasWithin count block now → IsWider now new → HasWithin count block new
within_wider count block now new g w z t s = let r = g z t s in
    record { low = omega (signed, w.low, r.low); high = omega (signed, w.high, r.high) }

-- all blocks of a wide block were looked up
pub all_fit : (w a c end : ℕ) (blocks : List Block) (all now : Block) → (end ≡ length blocks) ⊎ (end ≡ w + 1 + BLOCK)
    → ((j : ℕ) → w + 1 ≤ j → j < end → IsWider (block_at blocks j) all) → HasWithin (block_at blocks w).whole all now
    → IsFit w a c blocks now
all_fit w a c end blocks all now e each g j l h n = inl (raised_wider _ (block_at blocks j) all now
    (each j (omega (arith, l)) (elim e [ inl f ↦ omega (arith, f, n) | inr f ↦ omega (arith, f, h) ])) g)

-- those beside the changed ones lie where they did, and the changed ones between the numbers that were looked up
pub loosely_fit : (w a c : ℕ) (blocks : List Block) (all changed now : Block) → IsWider (block_at blocks w) now → IsWider changed now
    → HasWithin (block_at blocks w).whole all changed → ((j : ℕ) → a ≤ j → j < c → IsWider (block_at blocks j) all)
    → IsFit w a c blocks now
loosely_fit w a c blocks all changed now old more g each j l h n = elim (place_or_beside a c j) [
  | inl i ↦ inl (within_wider _ (block_at blocks j) changed now (raised_wider _ (block_at blocks j) all changed (each j i.0 i.1) g) more)
  | inr o ↦ inr (o, old)
]

-- numbers that are those of another block
pub same_numbers : (old new : Block) → new.low ≡ old.low → new.high ≡ old.high → IsWider old new
same_numbers old new low high = record { low = omega (signed, low); high = omega (signed, high) }

-- a sum that is cut to 64 bits is no nearer to a small number
cut_below : (z y : ℤ) → z ≤ℤ y → IsUpTo (2 ^ 62) y → saturate_signed w64 z ≤ℤ y
cut_below (pos n) y h s = omega (signed, h, s.0, s.1)
cut_below (negsuc n) y h s = omega (signed, h, s.0, s.1)

cut_above : (z y : ℤ) → y ≤ℤ z → IsUpTo (2 ^ 62) y → y ≤ℤ saturate_signed w64 z
cut_above (pos n) y h s = omega (signed, h, s.0, s.1)
cut_above (negsuc n) y h s = omega (signed, h, s.0, s.1)

-- numbers of a block with a count added
pub cut_within : (count : ℤ) (block now : Block) → now.low ≡ saturate_signed w64 (block.low +ℤ count)
    → now.high ≡ saturate_signed w64 (block.high +ℤ count) → HasWithin count block now
cut_within count block now low high z t s = record {
  low = rw low (cut_below _ _ (omega (signed, s.low)) t);
  high = rw high (cut_above _ _ (omega (signed, s.high)) t);
}

-- ---- places that are alike

not_more : (z : ℤ) → z ≡ z +ℤ pos 0
not_more z = omega signed

-- those of a wide block, or of a block
pub wide_alike : (each : List ℤ) (blocks : List Block) (at to : ℕ) (counted : Bool) → AreCounts each blocks → at < to
    → to ≤ length each → to ≤ at / WIDE * WIDE + WIDE
    → ((z : ℤ) → IsBetween (block_at blocks (wide_of at)) z → int_lt (pos 0) (z +ℤ pos 0) ≡ counted)
    → IsAlike each blocks at (record { to = to; counted = counted })
wide_alike each blocks at to counted counts further within up sign = record {
  further = further;
  within = within;
  same = λ k l h.
      let e = same_wide at k (omega (arith, l, wide_from at)) (omega (arith, h, up)) in
      ap (λ z. int_lt (pos 0) z) (not_more (count_at each blocks k)) ∙ sign (count_at each blocks k)
      (subst (λ w. IsBetween (block_at blocks w) (count_at each blocks k)) e (counts.wide k (omega (arith, h, within))));
}

pub block_alike : (each : List ℤ) (blocks : List Block) (at to : ℕ) (counted : Bool) → AreCounts each blocks → at < to
    → to ≤ length each → to ≤ at / BLOCK * BLOCK + BLOCK
    → ((z : ℤ) → IsBetween (block_at blocks (block_of at)) z → int_lt (pos 0) (z +ℤ (block_at blocks (wide_of at)).whole) ≡ counted)
    → IsAlike each blocks at (record { to = to; counted = counted })
block_alike each blocks at to counted counts further within up sign = record {
  further = further;
  within = within;
  same = λ k l h.
      let from : at / BLOCK * BLOCK ≤ k = omega (arith, l, block_from at) in let below : k < at / BLOCK * BLOCK + BLOCK = omega (arith, h, up) in
      let b = same_block at k from below in let w : wide_of k ≡ wide_of at = wide_of_block at k from below in
      rw w (sign (part_at each blocks k) (subst (λ j. IsBetween (block_at blocks j) (part_at each blocks k)) b
      (counts.parts.part k (omega (arith, h, within)))));
}

-- those of a block up to another, as they were looked at one by one
pub places_alike : (each : List ℤ) (blocks : List Block) (at to end : ℕ) (whole : ℤ) (counted : Bool) → at + 1 ≤ to → to ≤ end
    → end ≤ length each → end ≤ at / BLOCK * BLOCK + BLOCK
    → whole ≡ (block_at blocks (block_of at)).whole +ℤ (block_at blocks (wide_of at)).whole
    → int_lt (pos 0) (own_at each at +ℤ whole) ≡ counted
    → ((k : ℕ) → at + 1 ≤ k → k < to → int_lt (pos 0) (own_at each k +ℤ whole) ≡ counted)
    → IsAlike each blocks at (record { to = to; counted = counted })
places_alike each blocks at to end whole counted further order within up is one others = record {
  further = omega (arith, further);
  within = omega (arith, order, within);
  same = λ k l h.
      let from : at / BLOCK * BLOCK ≤ k = omega (arith, l, block_from at) in
      let below : k < at / BLOCK * BLOCK + BLOCK = omega (arith, h, order, up) in
      let b = same_block at k from below in let w = wide_of_block at k from below in
      rw (b, w) (ap (λ z. int_lt (pos 0) z) (grouped (own_at each k) _ _ ∙ ap (λ z. own_at each k +ℤ z) (sym is)) ∙ looked_at k l h);
}
  where
    looked_at : (k : ℕ) → at ≤ k → k < to → int_lt (pos 0) (own_at each k +ℤ whole) ≡ counted
    looked_at k l h = elim (cases_lt k (at + 1)) [
      | inl m ↦ let e : at ≡ k = omega (arith, l, m) in subst (λ z. int_lt (pos 0) (own_at each z +ℤ whole) ≡ counted) e one
      | inr r ↦ others k r h
    ]

-- so is what was counted at once for a wide block
pub wide_small : (each : List ℤ) (blocks : List Block) (k : ℕ) → k < length each → AreSmall (2 ^ 60) each blocks
    → IsUpTo (2 ^ 62) (block_at blocks (wide_of k)).whole
wide_small each blocks k l s = wider (2 ^ 60 + 2 ^ 60) (2 ^ 62) _ (omega arith) (addend_up (2 ^ 60) (part_at each blocks k) _ (s.part k l) (s.count k l))

-- the counts of the two blocks of a place are small together
pub wholes_small : (each : List ℤ) (blocks : List Block) (k : ℕ) → k < length each → AreSmall (2 ^ 60) each blocks
    → IsUpTo (2 ^ 61) ((block_at blocks (block_of k)).whole +ℤ (block_at blocks (wide_of k)).whole)
wholes_small each blocks k l s = wider (2 ^ 60 + 2 ^ 60) (2 ^ 61) _ (omega arith) (addend_up (2 ^ 60) (own_at each k) _ (s.own k l)
    (subst (IsUpTo (2 ^ 60)) (grouped (own_at each k) (block_at blocks (block_of k)).whole _) (s.count k l)))

-- a small count with one added is a number of 64 bits
pub whole_fits : (z by : ℤ) → IsUnit by → IsUpTo (2 ^ 62) z → SFits w64 (z +ℤ by)
whole_fits z by (inl u) s = rw u (search (arith, ints))
whole_fits z by (inr u) s = rw u (search (arith, ints))

-- counts are still small after a change in blocks alone
pub small_now : (a c : ℕ) (by : ℤ) (e0 : List ℤ) (b0 : List Block) (e1 : List ℤ) (b1 : List Block) → IsUnit by
    → IsPartChange a c by e0 b0 e1 b1 → AreSmall (2 ^ 59) e0 b0 → AreUpTo (2 ^ 62) (length e1) (count_at e1 b1)
small_now a c by e0 b0 e1 b1 u g s = wider_all (2 ^ 59 + 1) (2 ^ 62) _ _ (omega arith)
    (rw g.long (near_up _ (2 ^ 59) _ _ _ _ (near_added _ _ _ by _ _ u (parts_counted _ _ _ _ _ _ _ g)) s.count))

-- the counts of some places of a wide block were changed whose numbers are loose
pub loosely_changed : (a c : ℕ) (by : ℤ) (e0 : List ℤ) (b0 : List Block) (e1 : List ℤ) (b1 : List Block) → IsUnit by
    → a < c → c ≤ a / WIDE * WIDE + WIDE → AreCounts e0 b0 → AreUpTo (2 ^ 62) (length e1) (count_at e1 b1)
    → IsPartChange a c by e0 b0 e1 b1 → ((z : ℤ) → IsUpTo (2 ^ 62) z → IsBetween (block_at b0 (wide_of a)) z) → IsChange a c by e0 b0 e1 b1
loosely_changed a c by e0 b0 e1 b1 u order up counts small g loose =
    parts_changed a c (c - 1) by e0 b0 e1 b1 b1 u order up refl counts small g (block_at b1 (wide_of a))
    (λ j l h n. inl (λ z t s. rw (g.wide a) (loose _ (rw (g.wide a) at t))))
    (record { long = refl; whole = refl; others = λ j n. refl }) refl refl
