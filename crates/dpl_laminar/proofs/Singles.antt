-- The family of single members.
use Rattle.std.proofs.Common.{arith, ◌≡◌, ℕ, ◌+◌, ◌*◌, ◌%◌, ◌<◌, ◌≤◌, refl, sym, ap, ◌∙◌, Bool, true, cond, eqb, eq-eqb, length}
use Rattle.std.proofs.lemmas.Bool.{eqb-true, ne_eqb, lt-ltb, ltb-true, ltb-false}
use Rattle.dpl_laminar.specs.declared.TheConstants.{MOST_MEMBERS}
use Rattle.dpl_laminar.specs.Loads.{size_of}
use Rattle.dpl_laminar.specs.Families.{Sets, IsFamily, IsLaminar, has}
use Rattle.dpl_laminar.specs.Changes.{IsSingles}
use Rattle.dpl_laminar.proofs.Sums.{sum_same, sum_at}
use Rattle.dpl_laminar.proofs.Numbers.{true_false, some_none}

singles_laminar : (n : ℕ) (f : Sets) → IsSingles n f → IsLaminar n f
singles_laminar n f s =
    let one = λ (i m : ℕ) (hi : i < 2 * n) (hm : m < n) (k : f.holds i m ≡ true). eqb-true i m (sym (s.holds i m hi hm) ∙ k) in
    let low = λ (i : ℕ) (hi : i < 2 * n) (k : f.live i ≡ true). ltb-true i n (sym (s.live i hi) ∙ k) in
    let empty = λ (p c : ℕ) (k : has (f.children p) c ≡ true). true_false {P = ⊥} (has (f.children p) c) k (ap (λ z. has z c) (s.children p)) in
    record {
      sets = record {
        single_live = λ i h. s.live i (omega arith) ∙ lt-ltb i n h;
        single = λ i m h k. s.holds i m (omega arith) k;
        dead = λ i m h k l. s.holds i m h k ∙ ne_eqb i m (λ z. omega (arith, ltb-false i n (sym (s.live i h) ∙ l)));
        odd = λ i h l.
            let bit : Bool → ℕ = λ z. cond z 1 0 in
            let size : size_of n (f.holds i) ≡ 1 = sum_same n _ (λ m. cond (eqb i m) 1 0) (λ m k. ap bit (s.holds i m h k)) ∙ sum_at n i (λ _. 1) (low i h l) in
            ap (λ z. z % 2) size;
        nested = λ i j m a b hi hj hm ha hb im jm ia ja jb.
            true_false (f.holds j a) (ap (λ z. f.holds z a) (one j m hj hm jm ∙ sym (one i m hi hm im)) ∙ ia) ja;
        named = λ i h l. absurd (omega (arith, low (n + i) (omega arith) l));
      };
      tops = record {
        top_range = λ m h. omega (arith, s.top m h);
        top_live = λ m h. ap f.live (s.top m h) ∙ s.live m (omega arith) ∙ lt-ltb m n h;
        top_holds = λ m h. ap (λ z. f.holds z m) (s.top m h) ∙ s.holds m m (omega arith) h ∙ eq-eqb m m refl;
        top_parent = λ m h. s.parent _;
        top_alone = λ i m hi hm _ k. s.top m hm ∙ sym (one i m hi hm k);
        top_shared = λ i m a hi hm ha k l. s.top m hm ∙ sym (one i m hi hm k) ∙ one i a hi ha l ∙ sym (s.top a ha);
      };
      children = record {
        dead_parent = λ i h l. s.parent i;
        parent_range = λ i p hi l e. some_none _ p e (s.parent i);
        child = λ p c hp k. absurd (empty p c k);
        child_holds = λ p c m hp hm k. absurd (empty p c k);
        covered = λ p m np hp hm k. absurd (omega (arith, one p m hp hm k));
        apart = λ p c d m hp hm k. absurd (empty p c k);
        distinct = λ p i j hp ij jl. absurd (omega (arith, jl, ap length (s.children p)));
        between = λ p c i m a b hp hi hm ha hb k. absurd (empty p c k);
        childless = λ i h. ap length (s.children i);
        children_odd = λ i h l. absurd (omega (arith, low (n + i) (omega arith) l));
        children_dead = λ i h l. ap length (s.children (n + i));
      };
    }

pub singles_family : (f : Sets) → IsSingles f.size f → f.size ≤ MOST_MEMBERS → IsFamily f
singles_family f s small = record {
  small = small;
  laminar = singles_laminar f.size f s;
  around = λ p i h. absurd (omega (arith, h, ap length (s.children p)));
  alone = λ i h _. s.after i h;
  tied = λ c p e. some_none _ p e (s.parent c);
  value_small = λ i. omega (arith, s.value i);
  value_dead = λ i _. s.value i;
}
