-- A single that has come to nothing and the members on its two sides.
use Rattle.std.proofs.Common.{arith, ◌≡◌, ◌≢◌, ℕ, ◌+◌, ◌^◌, ◌<◌, refl, sym, ap, ◌∙◌, subst, inl, inr, true, Option, Some, None, List, length, get_or}
use Rattle.std.proofs.lemmas.Bool.{eqb-true}
use Rattle.std.proofs.lemmas.List.{get_or_default}
use Rattle.std.proofs.lemmas.Option.{none-some}
use Rattle.dpl_laminar.specs.Families.{Sets, IsFamily, load_of}
use Rattle.dpl_laminar.specs.Storing.{sets_of}
use Rattle.dpl_dual.specs.declared.crosses.Dual.{Dual}
use Rattle.dpl_pack.specs.Points.{total_at}
use Rattle.dpl_pack.specs.Nests.{inner_of}
use Rattle.dpl_pack.proofs.ClimbLemmas.{single_by}
use Rattle.dpl_tree.specs.Mates.{IsExit}
use Rattle.dpl_tree.specs.steps.Forests.{Place, inner, drop_of}
use Rattle.dpl_tree.specs.Views.{mate_in}
use Rattle.dpl_tree.proofs.Growing.{place_cases}
use Rattle.dpl_tree.proofs.Loads.{load_totals}
use Rattle.dpl_flood.specs.declared.nodes.Node.{Node}
use Rattle.dpl_flood.specs.declared.nodes.Join.{Join}
use Rattle.dpl_flood.specs.declared.state.State.{State}
use Rattle.dpl_flood.specs.Arenas.{AreNodes, IsLonger, IsJoin, IsThrough, start_of, end_of, join_length}
use Rattle.dpl_flood.specs.Closed.{AreSides, HasTiedThrough}
use Rattle.dpl_flood.specs.Events.{IsSpent}
use Rattle.dpl_flood.specs.Forested.{IsForested, IsNearer, dist_of, trees_of}
use Rattle.dpl_flood.specs.Joins.{Entries, IsNoted, join_at}
use Rattle.dpl_flood.proofs.ShiftLemmas.{longer_sea, longer_stands}
use Rattle.dpl_flood.proofs.ShoreLemmas.{top_total}
use Rattle.dpl_flood.proofs.StackedLemmas.{close_tight}
use Rattle.dpl_flood.proofs.StateLemmas.{total_small}
use Rattle.dpl_flood.proofs.TiedLemmas.{far_there, forest_noted}
use Rattle.dpl_flood.proofs.TreedLemmas.{forest_unmoved}

-- a place that loses is inner
falls_inner : (p : Place) → drop_of p ≡ 1 → p ≡ inner
falls_inner p l = elim (place_cases p) [
  | inl e ↦ absurd (omega (arith, ap drop_of e, l))
  | inr (inl e) ↦ absurd (omega (arith, ap drop_of e, l))
  | inr (inr e) ↦ e
]

-- a single holds no other member
only_member : (f : Sets) → IsFamily f → (i m : ℕ) → i < f.size → m < f.size → f.top m ≡ i → m ≡ i
only_member f fam i m hi hm e =
    let holds : f.holds i m ≡ true = subst (λ z. f.holds z m ≡ true) e (fam.laminar.tops.top_holds m hm) in
    sym (eqb-true i m (sym (fam.laminar.sets.single i m hi hm) ∙ holds))

-- a single that is a top without a value has no total
none_left : (f : Sets) → IsFamily f → (i : ℕ) → i < f.size → f.top i ≡ i → f.value i ≡ 0 → total_at f i ≡ 0
none_left f fam i h top none = omega (
  arith,
  top_total f fam i h,
  ap (λ z. inner_of f z i) top,
  ap f.value top,
  single_by f fam f.value i h,
  none,
)

-- the member that leads to a single in its tree, and the mate of the single, are on its two sides
pub are_sides : (d : Dual) (x : State) (i from to : ℕ) → IsForested d x → IsSpent x i → i < (sets_of x.family).size
    → from ≡ (trees_of x).above i → mate_in x.mates.items i ≡ Some to → AreSides d x i (from, to)
are_sides d x i from to fx spent hi from_is paired =
    let f = sets_of x.family in
    let n = f.size in
    let old = trees_of x in
    let fam = fx.state.sea.family in
    let st = fx.trees.stage in
    let t = st.tree in
    let pairs = st.rest.pairs in
    let falls : old.place i ≡ inner = falls_inner (old.place i) spent.falls in
    let range = t.link_range i falls in
    let top : f.top i ≡ i = ap f.top (sym (only_member f fam i (old.entry i) hi range.1 (t.link_entry i falls))) ∙ t.link_entry i falls in
    let entry : old.entry i ≡ i = only_member f fam i (old.entry i) hi range.1 (t.link_entry i falls) in
    let exit : IsExit n f old.mate i i to = record { below = hi; top = top; paired = paired } in
    let mate = t.inner_mate i i to falls exit in
    let hto : to < n = pairs.range i to hi paired in
    let up = t.outer_mate (f.top to) to i mate.0 (record { below = hto; top = refl; paired = pairs.back i to hi paired }) in
    let above = t.link_outer i falls in
    let low : old.rank (f.top (old.above i)) < old.rank i = t.link_rank i falls in
    let left : f.top (old.above i) ≢ f.top i = λ q. omega (arith, low, ap old.rank q, ap old.rank top) in
    let right : f.top i ≢ f.top to = λ q. omega (arith, up.1, ap old.rank q) in
    let apart : f.top (old.above i) ≢ f.top to = λ q. omega (arith, low, up.1, ap old.rank top, ap old.rank q) in
    let sides : AreSides d x i (old.above i, to) = record {
      pair = record { from = range.0; to = hto; apart = apart; from_outer = above.0; to_place = mate.0 };
      same = above.1 ∙ sym mate.1;
      first = ap (load_of f (old.above i)) (sym entry) ∙ t.link_tight i falls ∙ ap (dist_of d x (old.above i)) entry;
      second = pairs.tight i to hi paired;
      between = close_tight f fam (old.above i) i to range.0 hi hto left right apart (none_left f fam i hi top spent.empty);
    } in
    subst (λ z. AreSides d x i (z, to)) (sym from_is) sides

-- a single that falls has a mate
pub side_paired : (d : Dual) (x : State) (i : ℕ) → IsForested d x → IsSpent x i → i < (sets_of x.family).size → mate_in x.mates.items i ≡ None → ⊥
side_paired d x i fx spent hi none =
    let f = sets_of x.family in
    let w = fx.trees.stage.tree.inner_pair i (falls_inner ((trees_of x).place i) spent.falls) in
    let is : w.0 ≡ i = only_member f fx.state.sea.family i w.0 hi w.2.below w.2.top in
    none-some w.1 (sym none ∙ ap (mate_in x.mates.items) (sym is) ∙ w.2.paired)

-- a mate that was read
pub mate_read : (mates : List (Option ℕ)) (i : ℕ) (o : Option ℕ) → i < length mates → o ≡ get_or mates i o → mate_in mates i ≡ o
mate_read mates i o h is = get_or_default mates i None o h ∙ sym is

-- ---- what they have through its seat is noted

-- two tight joins over a single, one after another
pub record AreJoinedAt (d : Dual) (x : State) (i : ℕ) (p : ℕ × ℕ) (first second : Join) : Type 0 where
  pub one : IsJoin d.crosses x.arena first
  pub two : IsJoin d.crosses x.arena second
  pub start : start_of x.arena first ≡ p.0
  pub end : end_of x.arena second ≡ p.1
  pub between : end_of x.arena first ≡ start_of x.arena second
  pub first_long : join_length d.crosses x.arena first ≡ load_of (sets_of x.family) p.0 i
  pub second_long : join_length d.crosses x.arena second ≡ load_of (sets_of x.family) i p.1

pub joined_at : (d : Dual) (x : State) (i : ℕ) (p : ℕ × ℕ) (first second : Join) → IsForested d x → AreSides d x i p
    → join_at x.joins p.0 i ≡ Some first → join_at x.joins i p.1 ≡ Some second → AreJoinedAt d x i p first second
joined_at d x i p first second f s one two =
    let a = f.joins p.0 i first one in
    let b = f.joins i p.1 second two in
    record {
      one = a.join;
      two = b.join;
      start = a.start;
      end = b.end;
      between = a.end ∙ sym b.start;
      first_long = sym (s.first ∙ far_there d.crosses x.arena x.joins (sets_of x.family) p.0 i first one);
      second_long = sym (s.second ∙ far_there d.crosses x.arena x.joins (sets_of x.family) i p.1 second two);
    }

-- together they are short
pub joined_short : (d : Dual) (x : State) (i : ℕ) (p : ℕ × ℕ) (first second : Join) → IsForested d x → AreSides d x i p
    → AreJoinedAt d x i p first second → join_length d.crosses x.arena first + join_length d.crosses x.arena second < 2 ^ 64
joined_short d x i p first second f s j =
    let sets = sets_of x.family in
    omega (
      arith,
      j.first_long,
      j.second_long,
      s.between,
      load_totals sets.size sets sets.value f.state.sea.family.laminar p.0 p.1 s.pair.from s.pair.to s.pair.apart,
      total_small d x f.state p.0 s.pair.from,
      total_small d x f.state p.1 s.pair.to,
    )

-- the same state with more chains
forest_longer : (d : Dual) (x : State) (nodes : List Node) → IsForested d x → IsLonger x.arena nodes → AreNodes d.crosses nodes
    → IsForested d (record x { arena = nodes })
forest_longer d x nodes f more chains = forest_unmoved d x (record x { arena = nodes }) f (longer_stands d x nodes f.state more chains)
    (record { seats = refl; tree = refl; mates = refl; joins = refl; arena = more }) (longer_sea d x nodes f.state more)

pub tied_through : (d : Dual) (x : State) (i : ℕ) (p : ℕ × ℕ) (first second j : Join) (nodes : List Node) (joins : Entries)
    → IsForested d x → AreSides d x i p → AreJoinedAt d x i p first second → IsLonger x.arena nodes → AreNodes d.crosses nodes
    → IsThrough d.crosses x.arena nodes first second j → IsNoted x.joins joins (start_of nodes j) (end_of nodes j) j
    → HasTiedThrough d x (record x { arena = nodes; joins = joins }) p
tied_through d x i p first second j nodes joins f s a more chains w noted =
    let sets = sets_of x.family in
    let y : State = record x { arena = nodes } in
    let fy : IsForested d y = forest_longer d x nodes f more chains in
    let from : start_of nodes j ≡ p.0 = w.start ∙ a.start in
    let to : end_of nodes j ≡ p.1 = w.end ∙ a.end in
    let load : load_of sets (start_of nodes j) (end_of nodes j) ≡ load_of sets p.0 p.1 =
    ap (λ z. load_of sets z (end_of nodes j)) from ∙ ap (load_of sets p.0) to in
    let long : join_length d.crosses nodes j ≡ load_of sets (start_of nodes j) (end_of nodes j) =
    omega (arith, w.long, a.first_long, a.second_long, s.between, load) in
    let there : join_at joins p.0 p.1 ≡ Some j = ap (λ z. join_at joins z p.1) (sym from) ∙ ap (join_at joins (start_of nodes j)) (sym to) ∙ noted.there in
    record {
      tied = record {
        forest = forest_noted d y joins j fy noted w.join long;
        pair = s.pair;
        tight = sym load ∙ sym long ∙ sym (far_there d.crosses nodes joins sets p.0 p.1 j there);
      };
      rest = refl;
      sea = longer_sea d x nodes f.state more;
    }

-- their tops stand in one tree still
pub through_same : (d : Dual) (x y : State) (i : ℕ) (p : ℕ × ℕ) → AreSides d x i p → HasTiedThrough d x y p
    → (trees_of y).tree ((sets_of y.family).top p.0) ≡ (trees_of y).tree ((sets_of y.family).top p.1)
through_same d x y i p s t =
    ap (λ (z : State). (trees_of z).tree ((sets_of z.family).top p.0)) t.rest ∙ s.same
    ∙ sym (ap (λ (z : State). (trees_of z).tree ((sets_of z.family).top p.1)) t.rest)

-- nearer than where they were tied is nearer than before
pub through_nearer : (d : Dual) (x y z : State) (p : ℕ × ℕ) → HasTiedThrough d x y p → IsNearer y z → IsNearer x z
through_nearer d x y z p t n =
    let b = subst (λ q. IsNearer q z) t.rest n in
    record { time = b.time; seats = b.seats; falls = b.falls; trees = b.trees; stay = b.stay; ranks = b.ranks }
