-- What time and events keep of moats that grow, and what their keys tell.
use Rattle.std.specs.Prelude.{◌≡◌, ◌≢◌, ℕ, ◌+◌, ◌-◌, ◌*◌, ◌%◌, ◌^◌, ◌<◌, ◌≤◌, ◌⊎◌, Bool, true, false, None, List, [], ◌∷◌, length, slice_index}
use Rattle.dpl_laminar.specs.Families.{Sets, IsFamily, has, load_of}
use Rattle.dpl_dual.specs.declared.crosses.Cross.{Cross}
use Rattle.dpl_dual.specs.declared.crosses.Dual.{Dual}
use Rattle.dpl_dual.specs.Chains.{Leads, length_of}
use Rattle.dpl_pack.specs.Points.{Point, water, on, apart, total_at}
use Rattle.dpl_pack.specs.Tides.{place_of, AreBut}
use Rattle.dpl_flood.specs.Dues.{NoneRests, IsDueAt}
use Rattle.dpl_dual.specs.Duals.{way_at}
use Rattle.dpl_flood.specs.Seas.{Sea, sides_of, room_of, tide_of, IsSea, IsTopDue, IsSeaDue, ArePassed, advanced, AreLate, AreNow, changed, noted_at, AreRenewed, IsEvent, Grows, Ceases, Folds, GivesWay, Takes, Leaves, IsComing, IsDueTime, AreHeldBy, stack_with, IsTopTime, IsStart, faces_left, AreMoving, IsNamed, due_of, early_keys, key_with, HaveMet, HasReached, span_of, Drops}

abbrev pub StartsAreSeas : Type 0
StartsAreSeas = (d : Dual) (terminals : List ℕ) (s : Sea) → IsStart d terminals s → IsSea d terminals s

-- Before the first key nothing comes.
abbrev pub TimeKeepsSeas : Type 0
TimeKeepsSeas = (d : Dual) (terminals : List ℕ) (x : Sea) (t : ℕ) (v way_key top_key : ℕ → ℕ) → IsSea d terminals x →
    IsSeaDue d x way_key top_key → AreLate d x t way_key top_key → NoneRests (tide_of d x) →
    ArePassed x t v → t ≤ 2 ^ 50 → ((k : ℕ) → 2 * x.sets.size ≤ k → v k ≤ 2 ^ 50) →
    IsSea d terminals (advanced x t v) × IsSeaDue d (advanced x t v) way_key top_key

-- The values that the rates give are those after that time.
abbrev pub RatesGiveValues : Type 0
RatesGiveValues = (d : Dual) (x : Sea) (t : ℕ) (way_key top_key v : ℕ → ℕ) → IsFamily x.sets → AreMoving x →
    IsSeaDue d x way_key top_key → AreLate d x t way_key top_key → x.time ≤ t →
    ((k : ℕ) → v k ≡ x.sets.value k + x.gain k * (t - x.time) - x.loss k * (t - x.time)) → ArePassed x t v

-- Where time goes no farther than the first key, no key is before now,
abbrev pub TimeKeepsNow : Type 0
TimeKeepsNow = (d : Dual) (x : Sea) (t : ℕ) (v way_key top_key : ℕ → ℕ) → AreLate d x t way_key top_key →
    AreNow d (advanced x t v) way_key top_key

-- and after an event neither, where those that are set anew are not.
abbrev pub EventsKeepNow : Type 0
EventsKeepNow = (d : Dual) (x y : Sea) (old_way old_top way_key top_key : ℕ → ℕ) → y.time ≡ x.time →
    AreNow d x old_way old_top →
    ((w : ℕ) → w < length d.crosses → (way_key w ≡ old_way w) ⊎ (y.time ≤ way_key w)) →
    ((k : ℕ) → y.loss k ≡ 1 → ((x.loss k ≡ 1) × (top_key k ≡ old_top k)) ⊎ (y.time ≤ top_key k)) →
    AreNow d y way_key top_key

-- Two trees whose members have the time as totals are at least twice the time apart.
abbrev pub TimeIsSmall : Type 0
TimeIsSmall = (d : Dual) (terminals : List ℕ) (x : Sea) (t : ℕ) (v way_key top_key : ℕ → ℕ) → IsSea d terminals x →
    IsSeaDue d x way_key top_key → AreLate d x t way_key top_key → NoneRests (tide_of d x) →
    ArePassed x t v → (a b : ℕ) → a < x.sets.size → b < x.sets.size → x.sets.top a ≢ x.sets.top b →
    x.gain (x.sets.top a) ≡ 1 → x.gain (x.sets.top b) ≡ 1 → total_at x.sets a ≡ x.time →
    total_at x.sets b ≡ x.time → (xs : List Cross) →
    Leads d.crosses (slice_index terminals a) xs (slice_index terminals b) → 2 * t ≤ length_of xs

-- An event keeps what is due, if what it must is looked at.
abbrev pub EventsKeepDue : Type 0
EventsKeepDue = (d : Dual) (x y : Sea) (looked seen : ℕ → Bool) (old_way old_top way_key top_key : ℕ → ℕ) →
    IsSeaDue d x old_way old_top → IsEvent d x y looked seen →
    AreRenewed d y looked seen old_way old_top way_key top_key → IsSeaDue d y way_key top_key

-- The faces of the top that grows are looked at, and the one that falls is seen.
abbrev pub GrowsKeepSeas : Type 0
GrowsKeepSeas = (d : Dual) (terminals : List ℕ) (x : Sea) (inner outer : ℕ) (gain loss : ℕ → ℕ) (rests looked seen : ℕ →
    Bool) → IsSea d terminals x → Grows x inner outer gain loss rests →
    ((g : ℕ) → looked g ≡ false → place_of x.sets (x.point g) ≢ outer) → seen inner ≡ true →
    IsSea d terminals (changed x x.sets gain loss rests) ×
    IsEvent d x (changed x x.sets gain loss rests) looked seen

-- Nothing is looked at.
abbrev pub CeasesKeepSeas : Type 0
CeasesKeepSeas = (d : Dual) (terminals : List ℕ) (x : Sea) (gain loss : ℕ → ℕ) (rests looked seen : ℕ → Bool) →
    IsSea d terminals x → Ceases x gain loss rests →
    IsSea d terminals (changed x x.sets gain loss rests) ×
    IsEvent d x (changed x x.sets gain loss rests) looked seen

-- All faces of what rested are looked at.
abbrev pub ThawsKeepSeas : Type 0
ThawsKeepSeas = (d : Dual) (terminals : List ℕ) (x : Sea) (looked seen : ℕ → Bool) → IsSea d terminals x →
    ((g : ℕ) → looked g ≡ false → x.rests (place_of x.sets (x.point g)) ≡ false) →
    IsSea d terminals (changed x x.sets x.gain x.loss (λ _. false)) ×
    IsEvent d x (changed x x.sets x.gain x.loss (λ _. false)) looked seen

-- The faces of the children that fell are looked at.
abbrev pub FoldsKeepSeas : Type 0
FoldsKeepSeas = (d : Dual) (terminals : List ℕ) (x : Sea) (children : List ℕ) (joins : List (ℕ × ℕ)) (set : ℕ) (new : Sets)
    (gain loss : ℕ → ℕ) (rests looked seen : ℕ → Bool) → IsSea d terminals x →
    Folds x children joins set new gain loss rests →
    ((g : ℕ) → looked g ≡ false → has children (place_of x.sets (x.point g)) ≡ true →
    x.loss (place_of x.sets (x.point g)) ≡ 0) →
    IsSea d terminals (changed x new gain loss rests) ×
    IsEvent d x (changed x new gain loss rests) looked seen

-- The faces of the children that do not fall are looked at, and those that do are seen.
abbrev pub GivingWayKeepsSeas : Type 0
GivingWayKeepsSeas = (d : Dual) (terminals : List ℕ) (x : Sea) (set : ℕ) (new : Sets) (gain loss : ℕ → ℕ) (rests looked seen : ℕ →
    Bool) → IsSea d terminals x → GivesWay x set new gain loss rests →
    ((g : ℕ) → looked g ≡ false → place_of x.sets (x.point g) ≡ set →
    loss (place_of new (x.point g)) ≡ 1) →
    ((c : ℕ) → has (x.sets.children set) c ≡ true → loss c ≡ 1 → seen c ≡ true) →
    IsSea d terminals (changed x new gain loss rests) ×
    IsEvent d x (changed x new gain loss rests) looked seen

-- The face is looked at.
abbrev pub TakesKeepSeas : Type 0
TakesKeepSeas = (d : Dual) (terminals : List ℕ) (x : Sea) (h t far : ℕ) (looked seen : ℕ → Bool) → IsSea d terminals x →
    Takes d terminals x h t far → ((g : ℕ) → looked g ≡ false → g ≢ h) →
    IsSea d terminals (noted_at x h (on t far)) × IsEvent d x (noted_at x h (on t far)) looked seen

abbrev pub LeavesKeepSeas : Type 0
LeavesKeepSeas = (d : Dual) (terminals : List ℕ) (x : Sea) (h t far : ℕ) (looked seen : ℕ → Bool) → IsSea d terminals x →
    Leaves terminals x h t far → ((g : ℕ) → looked g ≡ false → g ≢ h) →
    IsSea d terminals (noted_at x h water) × IsEvent d x (noted_at x h water) looked seen

-- What is told of a way is due,
abbrev pub KeysAreDue : Type 0
KeysAreDue = (d : Dual) (s : Sea) (w : ℕ) (key : ℕ → ℕ) → IsDueTime d s w (key w) →
    IsDueAt (sides_of d) (tide_of d s) s.time key w

-- nothing later is,
abbrev pub KeysAreLast : Type 0
KeysAreLast = (d : Dual) (s : Sea) (w time : ℕ) (key : ℕ → ℕ) → IsComing d s w → IsDueTime d s w time →
    IsDueAt (sides_of d) (tide_of d s) s.time key w → key w ≤ time

-- and where it is now, the way has no room left.
abbrev pub KeysHaveCome : Type 0
KeysHaveCome = (d : Dual) (terminals : List ℕ) (s : Sea) (w : ℕ) → IsSea d terminals s → w < length d.crosses →
    (way_at d.crosses w).length % 2 ≡ 0 → IsComing d s w → IsDueTime d s w s.time →
    apart s.sets (s.point (way_at d.crosses w).f) (s.point (way_at d.crosses w).g) ≡ (way_at d.crosses w).length

-- Then two tops meet over a tight way whose members' totals have one parity,
abbrev pub TopsMeet : Type 0
TopsMeet = (d : Dual) (terminals : List ℕ) (s : Sea) (f g long t far u far' : ℕ) → IsSea d terminals s → long % 2 ≡ 0 →
    s.point f ≡ on t far → s.point g ≡ on u far' → s.sets.top t ≢ s.sets.top u →
    apart s.sets (s.point f) (s.point g) ≡ long →
    (far + long + far' ≡ load_of s.sets t u) × (total_at s.sets t % 2 ≡ total_at s.sets u % 2)

-- or a top takes a face in open water.
abbrev pub TopsTake : Type 0
TopsTake = (d : Dual) (terminals : List ℕ) (s : Sea) (f g long t far : ℕ) → IsSea d terminals s → long % 2 ≡ 0 →
    s.point f ≡ on t far → s.point g ≡ water → s.gain (s.sets.top t) ≡ 1 →
    (g < d.faces) × (slice_index d.part g ≡ slice_index d.part (slice_index terminals 0)) →
    apart s.sets (s.point f) (s.point g) ≡ long → Takes d terminals s g t (far + long)

-- While two trees stand and nothing rests some key is set.
abbrev pub SomethingComes : Type 0
SomethingComes = (d : Dual) (terminals : List ℕ) (s : Sea) (way_key top_key : ℕ → ℕ) (a b : ℕ) (xs : List Cross) → IsSea d terminals s →
    IsSeaDue d s way_key top_key → NoneRests (tide_of d s) → a < s.sets.size → b < s.sets.size →
    s.sets.top a ≢ s.sets.top b → s.gain (s.sets.top a) ≡ 1 →
    Leads d.crosses (slice_index terminals a) xs (slice_index terminals b) →
    ((w : ℕ) × ((w < length d.crosses) × (way_key w ≤ s.time + room_of d s w)))
    ⊎ ((k : ℕ) × ((s.loss k ≡ 1) × (top_key k ≤ s.time + s.sets.value k)))

-- What is told of a top by its last face, or by its value, is due.
abbrev pub StacksTellTops : Type 0
StacksTellTops = (d : Dual) (terminals : List ℕ) (s : Sea) (stack : ℕ → List ℕ) (k : ℕ) (key : ℕ → ℕ) → IsSea d terminals s →
    AreHeldBy terminals s stack → k < 2 * s.sets.size → s.sets.parent k ≡ None →
    IsTopTime s stack k (key k) → IsTopDue s key k

abbrev pub TimeKeepsStacks : Type 0
TimeKeepsStacks = (d : Dual) (terminals : List ℕ) (x : Sea) (t : ℕ) (v way_key top_key : ℕ → ℕ) (stack : ℕ → List ℕ) → IsSea d terminals x →
    IsSeaDue d x way_key top_key → AreLate d x t way_key top_key → ArePassed x t v →
    AreHeldBy terminals x stack → AreHeldBy terminals (advanced x t v) stack

abbrev pub TakesKeepStacks : Type 0
TakesKeepStacks = (d : Dual) (terminals : List ℕ) (s : Sea) (h t far : ℕ) (stack : ℕ → List ℕ) → IsSea d terminals s →
    Takes d terminals s h t far → AreHeldBy terminals s stack →
    AreHeldBy terminals (noted_at s h (on t far)) (stack_with stack (s.sets.top t) (h ∷ stack (s.sets.top t)))

abbrev pub LeavesKeepStacks : Type 0
LeavesKeepStacks = (d : Dual) (terminals : List ℕ) (s : Sea) (k h t far : ℕ) (rest : List ℕ) (stack : ℕ → List ℕ) → IsSea d terminals s →
    k < 2 * s.sets.size → stack k ≡ h ∷ rest → s.point h ≡ on t far → total_at s.sets t - far ≡ 0 →
    AreHeldBy terminals s stack →
    Leaves terminals s h t far × AreHeldBy terminals (noted_at s h water) (stack_with stack k rest)

-- a fold, and a set that gives way, if the set has no faces of its own
abbrev pub SetsKeepStacks : Type 0
SetsKeepStacks = (d : Dual) (terminals : List ℕ) (set : ℕ) (x : Sea) (new : Sets) (gain loss : ℕ → ℕ) (rests : ℕ → Bool) (stack : ℕ →
    List ℕ) → IsSea d terminals x → AreBut set x.sets new → stack set ≡ [] →
    AreHeldBy terminals x stack → AreHeldBy terminals (changed x new gain loss rests) stack

-- What is told of the ways at seats is all that is due at the beginning.
abbrev pub StartsAreDue : Type 0
StartsAreDue = (d : Dual) (terminals : List ℕ) (s : Sea) (way_key top_key : ℕ → ℕ) → IsStart d terminals s →
    ((w : ℕ) → w < length d.crosses → (s.point (way_at d.crosses w).f ≢ water) ⊎ (s.point (way_at d.crosses w).g ≢ water) →
    IsDueAt (sides_of d) (tide_of d s) s.time way_key w) → IsSeaDue d s way_key top_key

-- When something comes does not change while time passes.
abbrev pub TimeKeepsTold : Type 0
TimeKeepsTold = (d : Dual) (terminals : List ℕ) (x : Sea) (t : ℕ) (v way_key top_key : ℕ → ℕ) → IsSea d terminals x →
    IsSeaDue d x way_key top_key → AreLate d x t way_key top_key → NoneRests (tide_of d x) →
    ArePassed x t v → (w time : ℕ) → w < length d.crosses → t ≤ time → IsDueTime d x w time →
    IsDueTime d (advanced x t v) w time

-- While rates stand each face is left once and taken once.
abbrev pub TakesFall : Type 0
TakesFall = (d : Dual) (terminals : List ℕ) (x : Sea) (h t far : ℕ) → IsSea d terminals x → Takes d terminals x h t far →
    faces_left d (noted_at x h (on t far)) < faces_left d x

abbrev pub LeavesFall : Type 0
LeavesFall = (d : Dual) (terminals : List ℕ) (x : Sea) (h t far : ℕ) → IsSea d terminals x → Leaves terminals x h t far →
    x.loss (x.sets.top t) ≡ 1 → faces_left d (noted_at x h water) < faces_left d x

-- What is computed of a way is when something comes on it.
abbrev pub KeysAreComputed : Type 0
KeysAreComputed = (d : Dual) (s : Sea) (never w : ℕ) → AreMoving s → s.time ≤ never →
    IsDueTime d s w (due_of d s never w)

-- An early key that is set to what is due is early no more, be it that of a way or of a set.
abbrev pub EarlyKeysFall : Type 0
EarlyKeysFall = (places : ℕ) (due key : ℕ → ℕ) (p : ℕ) → p < places → key p < due p →
    early_keys places due (key_with key p (due p)) < early_keys places due key

-- The room of a way between two tops, and between a top and open water.
abbrev pub RoomsAreComputed : Type 0
RoomsAreComputed = (d : Dual) (terminals : List ℕ) (s : Sea) (w t far : ℕ) → IsSea d terminals s →
    s.point (way_at d.crosses w).f ≡ on t far →
    ((u far' : ℕ) → s.point (way_at d.crosses w).g ≡ on u far' → s.sets.top t ≢ s.sets.top u →
    room_of d s w ≡ (way_at d.crosses w).length - ((total_at s.sets t - far) + (total_at s.sets u - far'))) ×
    (s.point (way_at d.crosses w).g ≡ water →
    room_of d s w ≡ (way_at d.crosses w).length - (total_at s.sets t - far))

-- A single that has shrunk to nothing lies on a tight way between the tops on its two sides.
abbrev pub SinglesClose : Type 0
SinglesClose = (f : Sets) (a i m : ℕ) → IsFamily f → a < f.size → i < f.size → m < f.size → f.top a ≢ f.top i →
    f.top i ≢ f.top m → f.top a ≢ f.top m → total_at f i ≡ 0 → load_of f a i + load_of f i m ≡ load_of f a m

-- A member that names a tree keeps the time as its total,
abbrev pub TimeKeepsNames : Type 0
TimeKeepsNames = (d : Dual) (terminals : List ℕ) (x : Sea) (t : ℕ) (v : ℕ → ℕ) (a : ℕ) → IsSea d terminals x → ArePassed x t v →
    IsNamed x a → IsNamed (advanced x t v) a

abbrev pub GrowsKeepNames : Type 0
GrowsKeepNames = (x : Sea) (inner outer : ℕ) (gain loss : ℕ → ℕ) (rests : ℕ → Bool) (a : ℕ) → Grows x inner outer gain loss rests →
    IsNamed x a → IsNamed (changed x x.sets gain loss rests) a

-- also where other trees end and in a thaw,
abbrev pub RatesKeepNames : Type 0
RatesKeepNames = (x : Sea) (gain loss : ℕ → ℕ) (rests : ℕ → Bool) (a : ℕ) → gain (x.sets.top a) ≡ 1 → IsNamed x a →
    IsNamed (changed x x.sets gain loss rests) a

-- and two of them stay in two tops, unless both are in one ring.
abbrev pub FoldsKeepNames : Type 0
FoldsKeepNames = (d : Dual) (terminals : List ℕ) (x : Sea) (children : List ℕ) (joins : List (ℕ × ℕ)) (set : ℕ) (new : Sets)
    (gain loss : ℕ → ℕ) (rests : ℕ → Bool) → IsSea d terminals x →
    Folds x children joins set new gain loss rests →
    ((a : ℕ) → IsNamed x a → IsNamed (changed x new gain loss rests) a) ×
    ((a b : ℕ) → IsNamed x a → IsNamed x b → x.sets.top a ≢ x.sets.top b →
    (has children (x.sets.top a) ≡ true → has children (x.sets.top b) ≡ true → ⊥) →
    new.top a ≢ new.top b)

abbrev pub GivingWayKeepsNames : Type 0
GivingWayKeepsNames = (d : Dual) (terminals : List ℕ) (x : Sea) (set : ℕ) (new : Sets) (gain loss : ℕ → ℕ) (rests : ℕ → Bool) (a : ℕ) →
    IsSea d terminals x → GivesWay x set new gain loss rests → IsNamed x a →
    IsNamed (changed x new gain loss rests) a × (new.top a ≡ x.sets.top a)

abbrev pub ShiftsKeepNames : Type 0
ShiftsKeepNames = (x : Sea) (h : ℕ) (p : Point) (a : ℕ) → IsNamed x a → IsNamed (noted_at x h p) a

-- A way that comes up at this time is not due yet, or two tops have met over it, or one has come to open water.
abbrev pub KeysComeUp : Type 0
KeysComeUp = (d : Dual) (terminals : List ℕ) (s : Sea) (never w : ℕ) → IsSea d terminals s → s.time < never →
    w < length d.crosses → (way_at d.crosses w).length % 2 ≡ 0 → (way_at d.crosses w).f < d.faces →
    (way_at d.crosses w).g < d.faces → slice_index d.part (way_at d.crosses w).f ≡ slice_index d.part (way_at d.crosses w).g →
    (s.time < due_of d s never w) ⊎ (HaveMet s (way_at d.crosses w).f (way_at d.crosses w).g (way_at d.crosses w).length
    ⊎ (HasReached d terminals s (way_at d.crosses w).f (way_at d.crosses w).g (way_at d.crosses w).length
    ⊎ HasReached d terminals s (way_at d.crosses w).g (way_at d.crosses w).f (way_at d.crosses w).length))

-- The time that is told of a top is no later than its next leave or its end,
abbrev pub TopsAreTold : Type 0
TopsAreTold = (s : Sea) (stack : ℕ → List ℕ) (k : ℕ) → IsTopTime s stack k (s.time + span_of s stack k)

-- and one that comes up at this time is not due yet, or has no value and no face of its own, or leaves its last face.
abbrev pub TopsComeUp : Type 0
TopsComeUp = (d : Dual) (terminals : List ℕ) (s : Sea) (stack : ℕ → List ℕ) (k : ℕ) → IsSea d terminals s →
    AreHeldBy terminals s stack → k < 2 * s.sets.size →
    (0 < span_of s stack k) ⊎ (((stack k ≡ []) × (s.sets.value k ≡ 0)) ⊎ Drops terminals s stack k)
