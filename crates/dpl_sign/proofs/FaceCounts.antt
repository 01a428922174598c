-- How one edge more changes the cycles of the face rule.
use Rattle.std.proofs.Common.{arith, ◌≡◌, ◌≢◌, ℕ, ◌+◌, sym, ap, ◌∙◌, Bool}
use Rattle.dpl_cycle.specs.Cycles.{cycles, least, exchange, Permutes}
use Rattle.dpl_cycle.proofs.Shorter.{cycles_same}
use Rattle.dpl_cycle.proofs.Least.{least_step}
use Rattle.dpl_cycle.proofs.Exchange.{exchange_law}
use Rattle.dpl_cycle.proofs.Classes.{exchange_back, exchange_permutes, merge_keeps, merge_only, joined_miss}
use Rattle.dpl_cycle.proofs.Added.{pair_apart, edge_added, added}
use Rattle.dpl_cycle.proofs.Fixed.{fixed_apart}
use Rattle.dpl_sign.specs.declared.nets.Net.{Net}
use Rattle.dpl_sign.specs.Drawings.{dart_count, next_in_face, face_of, corner_face}
use Rattle.dpl_sign.proofs.Rotation.{face_back, face_permutes}
use Rattle.dpl_sign.proofs.Insert.{IsBetween}
use Rattle.dpl_sign.proofs.FaceSteps.{NoneAt, AreNew, fixed, paired, apart, paired_first, paired_second, into, Corner}
use Rattle.dpl_sign.proofs.FaceSteps.{corner, not_new, lone_is, hung_is, new_at, added_is}

abbrev paired_back : Net → (ℕ → Bool) → ℕ → ℕ → ℕ → ℕ
paired_back net p c d = exchange_back (next_in_face net p) (face_back net p) c d

paired_permutes : (net : Net) (p q : ℕ → Bool) (e c d : ℕ) → AreNew net p q e c d → Permutes (dart_count net) (paired net p c d) (paired_back net p c d)
paired_permutes net p q e c d n = exchange_permutes (dart_count net) _ _ (face_permutes net p) c d n.first.inside n.second.inside (apart net p q e c d n)

paired_count : (net : Net) (p q : ℕ → Bool) (e c d : ℕ) → AreNew net p q e c d
    → cycles (paired net p c d) (dart_count net) + 1 ≡ cycles (next_in_face net p) (dart_count net)
paired_count net p q e c d n =
    let ne = apart net p q e c d n in
    (exchange_law (dart_count net) _ _ (face_permutes net p) c d n.first.inside n.second.inside ne).merges
    (fixed_apart (dart_count net) _ _ (face_permutes net p) d c n.second.inside n.first.inside (fixed net p q e d n.second) ne)

-- both nodes were bare
pub both_bare : (net : Net) (p q : ℕ → Bool) (e c d : ℕ) → AreNew net p q e c d → NoneAt net p c
    → NoneAt net p d
    → cycles (next_in_face net q) (dart_count net) + 1 ≡ cycles (next_in_face net p) (dart_count net)
both_bare net p q e c d n none_c none_d =
    let same : cycles (next_in_face net q) (dart_count net) ≡ cycles (paired net p c d) (dart_count net) =
    cycles_same (dart_count net) _ _ (lone_is net p q e c d n none_c none_d) in
    omega (arith, same, paired_count net p q e c d n)

-- one node was bare: that of d
pub one_bare : (net : Net) (p q : ℕ → Bool) (e c d : ℕ) → AreNew net p q e c d → IsBetween net p q c
    → NoneAt net p d
    → cycles (next_in_face net q) (dart_count net) + 2 ≡ cycles (next_in_face net p) (dart_count net)
one_bare net p q e c d n b none =
    let m = dart_count net in
    let i = into net p c in
    let k = corner net p q e c n.first b in
    let f0 = paired net p c d in
    let p0 = paired_permutes net p q e c d n in
    let ic : i ≢ c = not_new net p q e c i n.first k.set in
    let id : i ≢ d = not_new net p q e d i n.second k.set in
    let same : cycles (next_in_face net q) m ≡ cycles (exchange f0 i d) m = cycles_same m _ _ (hung_is net p q e c d n b none) in
    let merged = (exchange_law m f0 _ p0 i d k.set.inside n.second.inside id).merges
    (pair_apart m f0 _ p0 c d n.first.inside n.second.inside (paired_first net p q e c d n) (paired_second net p q e c d n) i k.set.inside ic id) in
    omega (arith, same, merged, paired_count net p q e c d n)

-- the face at a corner is that of the dart that led there
pub corner_least : (net : Net) (p q : ℕ → Bool) (c i : ℕ) → Corner net p q c i → corner_face net p c ≡ least (next_in_face net p) (dart_count net) i
corner_least net p q c i k = ap (face_of net p) k.face ∙ least_step (dart_count net) _ _ (face_permutes net p) i k.set.inside

-- neither was bare
pub record Meets (net : Net) (p q : ℕ → Bool) (c d : ℕ) : Type 0 where
  pub splits : corner_face net p c ≡ corner_face net p d → cycles (next_in_face net q) (dart_count net) + 1 ≡ cycles (next_in_face net p) (dart_count net)
  pub merges : corner_face net p c ≢ corner_face net p d → cycles (next_in_face net q) (dart_count net) + 3 ≡ cycles (next_in_face net p) (dart_count net)

-- how the cycles change where neither end of the new edge was bare
pub none_bare : (net : Net) (p q : ℕ → Bool) (e c d : ℕ) → AreNew net p q e c d → IsBetween net p q c → IsBetween net p q d → Meets net p q c d
none_bare net p q e c d n bc bd =
    let m = dart_count net in
    let f = next_in_face net p in
    let pf = face_permutes net p in
    let i = into net p c in
    let j = into net p d in
    let k = corner net p q e c n.first bc in
    let l = corner net p q e d n.second bd in
    let f0 = paired net p c d in
    let p0 = paired_permutes net p q e c d n in
    let new = new_at net p q e c d n bc bd in
    let same : cycles (next_in_face net q) m ≡ cycles (added f0 i j c d) m = cycles_same m _ _ (added_is net p q e c d n bc bd) in
    let both = edge_added m f0 _ p0 i j c d k.set.inside l.set.inside n.first.inside n.second.inside
    (paired_first net p q e c d n) (paired_second net p q e c d n) new.cd new.ic new.id new.jc new.jd in
    let count = paired_count net p q e c d n in
    let fd : f d ≡ d = fixed net p q e d n.second in
    let far = fixed_apart m f _ pf d c n.second.inside n.first.inside fd new.cd in
    let fi : corner_face net p c ≡ least f m i = corner_least net p q c i k in
    let fj : corner_face net p d ≡ least f m j = corner_least net p q d j l in
    let i_far = fixed_apart m f _ pf d i n.second.inside k.set.inside fd new.id in
    let j_far = fixed_apart m f _ pf d j n.second.inside l.set.inside fd new.jd in
    record {
      splits = λ r.
          let one : least f0 m i ≡ least f0 m j = merge_keeps m f _ pf c d n.first.inside n.second.inside new.cd far i j
          k.set.inside l.set.inside (sym fi ∙ r ∙ fj) in
          omega (arith, same, count, both.0 one);
      merges = λ r.
          let two : least f0 m i ≢ least f0 m j = λ s.
          r (fi ∙ sym (joined_miss f m c d i i_far) ∙ merge_only m f _ pf c d n.first.inside n.second.inside new.cd i j
          k.set.inside l.set.inside s ∙ joined_miss f m c d j j_far ∙ sym fj) in
          omega (arith, same, count, both.1 two);
    }
