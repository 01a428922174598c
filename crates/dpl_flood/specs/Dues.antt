-- When something comes next while tops grow and fall: on each way between two faces there is room, and its key tells a time before
-- which nothing comes on it.
use Rattle.std.specs.Prelude.{◌≡◌, ◌≢◌, ℕ, ◌+◌, ◌-◌, ◌*◌, ◌<◌, ◌≤◌, ◌⊎◌, Bool, true, false}

-- the top that holds each face, or a number that no top has where it is open water; what a top gains and what it loses in a unit of
-- time; which tops rest; and for each way how much longer it is than its faces are apart
pub record Tide : Type 0 where
  pub place : ℕ → ℕ
  pub gain : ℕ → ℕ
  pub loss : ℕ → ℕ
  pub rests : ℕ → Bool
  pub room : ℕ → ℕ

-- the faces on the two sides of each way
pub record Sides : Type 0 where
  pub one : ℕ → ℕ
  pub two : ℕ → ℕ

abbrev pub gains : Sides → Tide → ℕ → ℕ
gains e x w = x.gain (x.place (e.one w)) + x.gain (x.place (e.two w))

abbrev pub losses : Sides → Tide → ℕ → ℕ
losses e x w = x.loss (x.place (e.one w)) + x.loss (x.place (e.two w))

-- after so long a time the way is not overloaded
abbrev pub HasRoom : Sides → Tide → ℕ → ℕ → Type 0
HasRoom e x w span = gains e x w * span ≤ x.room w + losses e x w * span

-- one top holds both sides
abbrev pub IsWithin : Sides → Tide → ℕ → Type 0
IsWithin e x w = x.place (e.one w) ≡ x.place (e.two w)

-- a top on one of its sides rests
abbrev pub IsAtRest : Sides → Tide → ℕ → Type 0
IsAtRest e x w = (x.rests (x.place (e.one w)) ≡ true) ⊎ (x.rests (x.place (e.two w)) ≡ true)

-- nothing comes on the way before the time of its key
abbrev pub IsDueAt : Sides → Tide → ℕ → (ℕ → ℕ) → ℕ → Type 0
IsDueAt e x now key w = IsWithin e x w ⊎ (IsAtRest e x w ⊎ HasRoom e x w (key w - now))

abbrev pub IsDue : ℕ → Sides → Tide → ℕ → (ℕ → ℕ) → Type 0
IsDue n e x now key = (w : ℕ) → w < n → IsDueAt e x now key w

-- no top rests
abbrev pub NoneRests : Tide → Type 0
NoneRests x = (k : ℕ) → x.rests k ≡ false

-- rates are 0 or 1
pub record AreRates (x : Tide) : Type 0 where
  pub gain : (k : ℕ) → x.gain k ≤ 1
  pub loss : (k : ℕ) → x.loss k ≤ 1

-- time passes: room goes as both sides gain and comes as they lose, and stays within one top
pub record Passes (n : ℕ) (e : Sides) (x y : Tide) (span : ℕ) : Type 0 where
  pub place : (g : ℕ) → y.place g ≡ x.place g
  pub gain : (k : ℕ) → y.gain k ≡ x.gain k
  pub loss : (k : ℕ) → y.loss k ≡ x.loss k
  pub rests : (k : ℕ) → y.rests k ≡ x.rests k
  pub apart : (w : ℕ) → w < n → x.place (e.one w) ≢ x.place (e.two w) →
      y.room w + gains e x w * span ≡ x.room w + losses e x w * span

-- a face whose top rests now, or gains no more and loses no less than before, and did not cease to rest
pub record IsCalm (x y : Tide) (g : ℕ) : Type 0 where
  pub is : (y.rests (y.place g) ≡ true) ⊎ ((y.gain (y.place g) ≤ x.gain (x.place g)) ×
      ((x.loss (x.place g) ≤ y.loss (y.place g)) × (x.rests (x.place g) ≡ false)))

-- An event, between which and the one before no time passes: the room stays; the ways at these faces are looked at, the others have
-- calm faces, and where one top held both sides before, it still does or they do not come nearer.
pub record Turns (n : ℕ) (e : Sides) (x y : Tide) (looked : ℕ → Bool) : Type 0 where
  pub room : (w : ℕ) → w < n → y.room w ≡ x.room w
  pub calm : (g : ℕ) → looked g ≡ false → IsCalm x y g
  pub within : (w : ℕ) → w < n → looked (e.one w) ≡ false → looked (e.two w) ≡ false → IsWithin e x w →
      IsWithin e y w ⊎ (gains e y w ≤ losses e y w)

-- the keys of the ways at these faces are set anew, and the others stay or are set anew too
pub record AreLooked (n : ℕ) (e : Sides) (y : Tide) (now : ℕ) (looked : ℕ → Bool) (old new : ℕ → ℕ) : Type 0 where
  pub one : (w : ℕ) → w < n → looked (e.one w) ≡ true → IsDueAt e y now new w
  pub two : (w : ℕ) → w < n → looked (e.two w) ≡ true → IsDueAt e y now new w
  pub others : (w : ℕ) → w < n → looked (e.one w) ≡ false → looked (e.two w) ≡ false →
      (new w ≡ old w) ⊎ IsDueAt e y now new w
