-- Points and stacks after a face is taken or left.
use Rattle.std.proofs.Common.{◌≡◌, ℕ, ◌<◌, ◌==◌, ◌⊎◌, refl, sym, ap, ◌∙◌, cond, inl, inr, eq-eqb, Option, Some, None, List, [], ◌∷◌, length, get_or}
use Rattle.std.specs.Prelude.{slice_set}
use Rattle.std.proofs.lemmas.Bool.{cases_eq, cond-true, cond-false, ne_eqb}
use Rattle.std.proofs.lemmas.List.{get_or-set_other}
use Rattle.std.proofs.lemmas.Grind.{get_or-set_at}
use Rattle.std.proofs.lemmas.Option.{same_Some, none-some}
use Rattle.dpl_pack.specs.Points.{Point, water, on}
use Rattle.dpl_flood.specs.declared.nodes.Node.{Node}
use Rattle.dpl_flood.specs.Arenas.{node_at, IsLonger}
use Rattle.dpl_flood.specs.Holdings.{Holding, node_of, stack_of, pushed, popped, point_at, point_of}
use Rattle.dpl_flood.specs.Seas.{stack_with}
use Rattle.dpl_flood.proofs.ArenaLemmas.{same_node}

-- a list at any place after it was written at one
pub written : {X : Type 0} → (xs : List X) (h g : ℕ) (v e : X) → h < length xs → get_or (slice_set xs h v) g e ≡ cond (g == h) v (get_or xs g e)
written xs h g v e i = elim (cases_eq g h) [
  | inl same ↦ get_or-set_at xs h g v e same i ∙ sym (cond-true (g == h) v (get_or xs g e) (eq-eqb g h same))
  | inr ne ↦ get_or-set_other xs h g v e ne ∙ sym (cond-false (g == h) v (get_or xs g e) (ne_eqb g h ne))
]

-- each node that holds a face is one of these
abbrev pub AreAmong : List Node → Holding → Type 0
AreAmong nodes x = (g a : ℕ) → node_of x g ≡ Some a → a < length nodes

-- where nodes are added a face stands as it did
pub point_longer : (old new : List Node) → IsLonger old new → (o : Option ℕ) → ((a : ℕ) → o ≡ Some a → a < length old)
    → point_at new o ≡ point_at old o
point_longer old new p None h = refl
point_longer old new p (Some a) h =
    let e = same_node old new a p (h a refl) in
    (λ z. on (e z).member (e z).far)

pub points_longer : (old new : List Node) (x : Holding) → IsLonger old new → AreAmong old x → point_of new x ≡ point_of old x
points_longer old new x p among = λ z g. point_longer old new p (node_of x g) (λ a e. among g a e) z

-- a face that is taken stands where its chain ends, and all others as they did
pub points_pushed : (old new : List Node) (x : Holding) (set h a : ℕ) → IsLonger old new → AreAmong old x → h < length x.nodes
    → point_of new (pushed x set h a) ≡ (λ g. cond (g == h) (on (node_at new a).member (node_at new a).far) (point_of old x g))
points_pushed old new x set h a p among i = λ z g. each g z where
  each : (g : ℕ) → point_of new (pushed x set h a) g ≡ cond (g == h) (on (node_at new a).member (node_at new a).far) (point_of old x g)
  each g = elim (cases_eq g h) [
    | inl e ↦ ap (point_at new) (get_or-set_at x.nodes h g (Some a) None e i)
        ∙ sym (cond-true {A = Point} (g == h) (on (node_at new a).member (node_at new a).far) (point_of old x g) (eq-eqb g h e))
    | inr ne ↦ ap (point_at new) (get_or-set_other x.nodes h g (Some a) None ne)
        ∙ point_longer old new p (node_of x g) (λ b q. among g b q)
        ∙ sym (cond-false {A = Point} (g == h) (on (node_at new a).member (node_at new a).far) (point_of old x g) (ne_eqb g h ne))
  ]

-- one that is left is in open water
pub points_popped : (nodes : List Node) (x : Holding) (set h : ℕ) (rest : List ℕ) → h < length x.nodes
    → point_of nodes (popped x set h rest) ≡ (λ g. cond (g == h) water (point_of nodes x g))
points_popped nodes x set h rest i = λ z g. each g z where
  each : (g : ℕ) → point_of nodes (popped x set h rest) g ≡ cond (g == h) water (point_of nodes x g)
  each g = elim (cases_eq g h) [
    | inl e ↦ ap (point_at nodes) (get_or-set_at x.nodes h g None None e i)
        ∙ sym (cond-true {A = Point} (g == h) water (point_of nodes x g) (eq-eqb g h e))
    | inr ne ↦ ap (point_at nodes) (get_or-set_other x.nodes h g None None ne)
        ∙ sym (cond-false {A = Point} (g == h) water (point_of nodes x g) (ne_eqb g h ne))
  ]

-- the stacks after both
pub stacks_pushed : (x : Holding) (set h a : ℕ) → set < length x.stacks
    → stack_of (pushed x set h a) ≡ stack_with (stack_of x) set (h ∷ stack_of x set)
stacks_pushed x set h a i = λ z k. written x.stacks set k (h ∷ stack_of x set) [] i z

pub stacks_popped : (x : Holding) (set h : ℕ) (rest : List ℕ) → set < length x.stacks
    → stack_of (popped x set h rest) ≡ stack_with (stack_of x) set rest
stacks_popped x set h rest i = λ z k. written x.stacks set k rest [] i z

-- which node holds a face then
pub node_pushed : (x : Holding) (set h a g b : ℕ) → h < length x.nodes → node_of (pushed x set h a) g ≡ Some b
    → ((g ≡ h) × (a ≡ b)) ⊎ (node_of x g ≡ Some b)
node_pushed x set h a g b i e = elim (cases_eq g h) [
  | inl same ↦ inl (same, same_Some a b (sym (get_or-set_at x.nodes h g (Some a) None same i) ∙ e))
  | inr ne ↦ inr (sym (get_or-set_other x.nodes h g (Some a) None ne) ∙ e)
]

pub node_popped : (x : Holding) (set h g b : ℕ) (rest : List ℕ) → h < length x.nodes → node_of (popped x set h rest) g ≡ Some b
    → node_of x g ≡ Some b
node_popped x set h g b rest i e = elim (cases_eq g h) [
  | inl same ↦ absurd (none-some b (sym (get_or-set_at x.nodes h g None None same i) ∙ e))
  | inr ne ↦ sym (get_or-set_other x.nodes h g None None ne) ∙ e
]
