-- The trees of a stage by other distances, and while values change.
use Rattle.std.proofs.Common.{◌≡◌, ℕ, ◌*◌, ◌<◌, ◌∙◌}
use Rattle.dpl_laminar.specs.Loads.{load_in}
use Rattle.dpl_laminar.specs.Families.{Sets, IsFamily}
use Rattle.dpl_laminar.specs.Pairings.{AreWithin}
use Rattle.dpl_tree.specs.steps.Forests.{Forest, Shifts}
use Rattle.dpl_tree.specs.Mates.{IsExit, loads}
use Rattle.dpl_tree.specs.Stages.{IsStage}
use Rattle.dpl_tree.proofs.Loads.{shift_inside, shift_parity}
use Rattle.dpl_tree.proofs.Stages.{join_inside, laminar_sized, stage_parity}
use Rattle.dpl_tree.proofs.Turning.{shifted_pairs, shifted_tree}

-- What is tight stays tight.
pub stage_with : (n : ℕ) (f : Sets) (dist new : ℕ → ℕ → ℕ) (x : Forest) → IsStage n f dist x → AreWithin n (2 * n) f.value f.holds new
    → ((s t : ℕ) → s < n → t < n → loads n f s t ≡ dist s t → loads n f s t ≡ new s t) → IsStage n f new x
stage_with n f dist new x st within keep =
    let r = st.rest in
    let t = st.tree in
    record {
      rest = record {
        size = r.size;
        family = r.family;
        laminar = r.laminar;
        within = within;
        pairs = record {
          range = r.pairs.range;
          back = r.pairs.back;
          leaves = r.pairs.leaves;
          tight = λ m o hm k. keep m o hm (r.pairs.range m o hm k) (r.pairs.tight m o hm k);
          alone = r.pairs.alone;
        };
        joins = λ c p hc e.
            let k = join_inside n f r.size r.family r.laminar c p hc e in
            keep (f.join c).0 (f.join c).1 k.from k.to (r.joins c p hc e);
        parity = r.parity;
      };
      tree = record {
        tops = t.tops;
        root_alone = t.root_alone;
        outer_mate = t.outer_mate;
        inner_pair = t.inner_pair;
        inner_mate = t.inner_mate;
        link_range = t.link_range;
        link_entry = t.link_entry;
        link_outer = t.link_outer;
        link_rank = t.link_rank;
        link_tight = λ i e. keep (x.above i) (x.entry i) (t.link_range i e).0 (t.link_range i e).1 (t.link_tight i e);
      };
      even = st.even;
    }

exit_old : (n : ℕ) (f : Sets) (x : Forest) (v : ℕ → ℕ) (i m t : ℕ) → IsExit n (record f { value = v }) x.mate i m t → IsExit n f x.mate i m t
exit_old n f x v i m t e = record { below = e.below; top = e.top; paired = e.paired }

exit_new : (n : ℕ) (f : Sets) (x : Forest) (v : ℕ → ℕ) (i m t : ℕ) → IsExit n f x.mate i m t → IsExit n (record f { value = v }) x.mate i m t
exit_new n f x v i m t e = record { below = e.below; top = e.top; paired = e.paired }

-- Outer tops gain as much as inner ones lose. So the loads of what is tight stay.
pub stage_turned : (n : ℕ) (f : Sets) (dist new : ℕ → ℕ → ℕ) (x : Forest) (by : ℕ) (v : ℕ → ℕ) → IsStage n f dist x
    → Shifts (2 * n) f x.place by f.value v → IsFamily (record f { value = v }) → AreWithin n (2 * n) v f.holds new
    → ((s t : ℕ) → s < n → t < n → loads n f s t ≡ dist s t → load_in (2 * n) v f.holds s t ≡ dist s t
    → load_in (2 * n) v f.holds s t ≡ new s t)
    → IsStage n (record f { value = v }) new x
stage_turned n f dist new x by v st sh fam within keep =
    let r = st.rest in
    let lam = r.laminar in
    let par = shift_parity n f lam x.place by f.value v sh (stage_parity n f dist x st) in
    let pairs = shifted_pairs n f dist by f.value v x lam sh r.pairs st.tree in
    let t = shifted_tree n f dist by f.value v x lam sh st.tree in
    record {
      rest = record {
        size = r.size;
        family = fam;
        laminar = laminar_sized n (record f { value = v }) r.size fam;
        within = within;
        pairs = record {
          range = r.pairs.range;
          back = r.pairs.back;
          leaves = r.pairs.leaves;
          tight = λ m o hm k. keep m o hm (r.pairs.range m o hm k) (r.pairs.tight m o hm k) (pairs.tight m o hm k);
          alone = r.pairs.alone;
        };
        joins = λ c p hc e.
            let k = join_inside n f r.size r.family lam c p hc e in
            keep (f.join c).0 (f.join c).1 k.from k.to (r.joins c p hc e)
            (shift_inside n f lam x.place by f.value v sh (f.join c).0 (f.join c).1 k.from k.to k.same ∙ r.joins c p hc e);
        parity = par.in_top;
      };
      tree = record {
        tops = t.tops;
        root_alone = λ i j ei ej ni nj e.
            t.root_alone i j ei ej (λ m u w. ni m u (exit_new n f x v i m u w)) (λ m u w. nj m u (exit_new n f x v j m u w)) e;
        outer_mate = λ i m u e w. t.outer_mate i m u e (exit_old n f x v i m u w);
        inner_pair = λ i e. let w = t.inner_pair i e in (w.0, w.1, exit_new n f x v i w.0 w.1 w.2);
        inner_mate = λ i m u e w. t.inner_mate i m u e (exit_old n f x v i m u w);
        link_range = t.link_range;
        link_entry = t.link_entry;
        link_outer = t.link_outer;
        link_rank = t.link_rank;
        link_tight = λ i e.
            keep (x.above i) (x.entry i) (t.link_range i e).0 (t.link_range i e).1 (st.tree.link_tight i e) (t.link_tight i e);
      };
      even = par.in_tree;
    }
