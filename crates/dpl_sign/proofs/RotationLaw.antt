-- Around a node each dart leads to the one whose port comes next.
use Rattle.std.proofs.Common.{◌≡◌, ℕ, ◌≤◌, sym, ap, ◌∙◌, Bool, true, false, ◌||◌, refl, arith}
use Rattle.std.proofs.lemmas.Bool.{le-ltb, true≢false, or_parts}
use Rattle.dpl_cycle.proofs.Turns.{turn, Mem}
use Rattle.dpl_cycle.proofs.TurnLemmas.{next_least}
use Rattle.dpl_sign.specs.declared.nets.Net.{Net}
use Rattle.dpl_sign.specs.Drawings.{next_around, is_met_before}
use Rattle.dpl_sign.specs.Rotations.{Leaves, ComesNext}
use Rattle.dpl_sign.proofs.Turning.{rank_of, rank_end, ranked, met_turn}
use Rattle.dpl_sign.proofs.Rotation.{InSet, around, around_from, around_set, around_tail, next_is, next_member}

first_case : (b x y : Bool) → b ≡ true → elim b [ true ↦ x | false ↦ y ] ≡ false → x ≡ false
first_case true x y h k = k
first_case false x y h k = absurd (true≢false (sym h))

second_case : (b x y : Bool) → b ≡ false → elim b [ true ↦ x | false ↦ y ] ≡ false → y ≡ false
second_case true x y h k = absurd (true≢false h)
second_case false x y h k = k

-- nothing is met before the next one
none_before : (net : Net) (set : ℕ → Bool) (v d x : ℕ) → Leaves net set v d → Leaves net set v x → is_met_before net d x (next_around net set d) ≡ false
none_before net set v d x k l =
    let m = rank_end net v in
    let r = rank_of net v in
    let cs = around net set v in
    let c = next_around net set d in
    let here : InSet net set d = record { inside = k.inside; chosen = k.chosen } in
    let hx : Mem x cs = around_from net set v x (record { inside = l.inside; chosen = l.chosen }) l.tail in
    let hc : Mem c cs = next_member net set v d here k.tail in
    let near : turn m r d c ≤ turn m r d x = omega (arith, ap (turn m r d) (next_is net set v d k.inside k.tail), next_least m r d cs x hx) in
    met_turn net v m r (ranked net v) d x c (record { inside = k.inside; tail = k.tail })
    (record { inside = l.inside; tail = l.tail }) (record
    { inside = (around_set net set v c hc).inside; tail = around_tail net set v c hc }) ∙ le-ltb _ _ near

-- around a node each dart of a set leads to the one whose port comes next
pub comes_next : (net : Net) (set : ℕ → Bool) (v d : ℕ) → Leaves net set v d → ComesNext net set v d (next_around net set d)
comes_next net set v d k =
    let c = next_around net set d in
    let hc : Mem c (around net set v) = next_member net set v d (record { inside = k.inside; chosen = k.chosen }) k.tail in
    let s = around_set net set v c hc in
    record {
      there = record { inside = s.inside; chosen = s.chosen; tail = around_tail net set v c hc };
      between = λ h x l. first_case _ _ _ h (none_before net set v d x k l);
      around = λ h x l. or_parts _ _ (second_case _ _ _ h (none_before net set v d x k l));
    }
