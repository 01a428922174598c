-- What a call of a source or a sink may do to what is known of it.
use Rattle.std.specs.Prelude.{◌≡◌, ℕ, ◌+◌, ◌-◌, ◌^◌, ◌≤◌, min, List, [], ◌∷◌, ◌++◌, length, take, find, option_map, Some, MatchResult, OnErr, OnOk, IfSome}
use Rattle.std.specs.declared.result.Result.{Result}
use Rattle.std.specs.declared.option.Option.{Option}
use Rattle.std.specs.Io.KnownBytes.{Consumes, Appends}
use Rattle.std.specs.Str.{bytes_eq}
use Rattle.dpl_ext.specs.declared.opening.OpenEnd.{OpenEnd}
use Rattle.dpl_ext.specs.declared.opening.OpenEnd.TheVariants.{Failed, NoMemory}

-- the greatest value of a counter, where it stays
abbrev pub last_count : ℕ
last_count = 2 ^ 64 - 1

-- what is known of a source: the bytes that are left, where it tells them, how many calls failed,
-- how many bytes its reads gave, and the names that it was asked for
pub record Seen : Type 0 where
  pub left : Option (List ℕ)
  pub faults : ℕ
  pub given : ℕ
  pub asked : List (List ℕ)

-- a count rose in a call, or stands at its end after it
abbrev pub Rose : ℕ → ℕ → Type 0
Rose before now = min (before + 1) last_count ≤ now

-- a count rose by n, and by less only where it stands at its end
abbrev pub RoseBy : ℕ → ℕ → ℕ → Type 0
RoseBy n before now = (now ≤ before + n) × (min (before + n) last_count ≤ now)

-- a count of faults never falls, an error comes only where it rose, and Ok only where it stayed
pub record HasCause {T E : Type 0} (before now : ℕ) (result : Result T E) : Type 0 where
  pub later : before ≤ now
  pub failed : OnErr result (Rose before now)
  pub steady : OnOk result (now ≡ before)

-- a read raises the count of given bytes by those that it gave
abbrev pub CountsGiven : {E : Type 0} → ℕ → ℕ → Result ℕ E → Type 0
CountsGiven before now result =
    MatchResult result (λ n. now ≡ min (before + n) last_count) (λ _. now ≡ before)

-- a call raises the count of faults by one where it fails, and leaves it otherwise
abbrev pub CountsFaults : {T E : Type 0} → ℕ → ℕ → Result T E → Type 0
CountsFaults before now result =
    MatchResult result (λ _. now ≡ before) (λ _. now ≡ min (before + 1) last_count)

-- reads gave these bytes: they were the front of what was left, and the count of given bytes rose by them
pub record Gave (before now : Seen) (bytes : List ℕ) : Type 0 where
  pub front : Consumes before.left now.left bytes
  pub counted : RoseBy (length bytes) before.given now.given
  pub later : before.faults ≤ now.faults
  pub same : now.asked ≡ before.asked

-- a front of these bytes was taken
abbrev pub AppendsFront : Option (List ℕ) → Option (List ℕ) → List ℕ → Type 0
AppendsFront before now bytes = (count : ℕ) × Appends before now (take count bytes)

-- texts with their names
abbrev pub Texts : Type 0
Texts = List (List ℕ × List ℕ)

-- the first text of a name
abbrev pub first_text : List ℕ → Texts → Option (List ℕ)
first_text name texts = option_map (λ t. t.1) (find (λ t. bytes_eq t.0 name) texts)

-- the text of this name is open, from its front
pub record OpensText (now : Seen) (name : List ℕ) (texts : Texts) : Type 0 where
  pub text : List ℕ
  pub first : first_text name texts ≡ Some text
  pub left : now.left ≡ Some text

-- what each refusal of an open means; nothing is open after it
abbrev pub MeansClosed : Seen → Seen → List ℕ → OpenEnd → Type 0
MeansClosed before now name Failed =
    (now.asked ≡ before.asked ++ name ∷ []) × (Rose before.faults now.faults) × (now.left ≡ Some [])
MeansClosed before now name NoMemory =
    (now.asked ≡ before.asked) × (now.faults ≡ before.faults) × (now.left ≡ Some [])

-- the name was asked for and nothing failed, and where the texts are told its first text is what is left
pub record MeansOpened (before now : Seen) (texts : Option Texts) (name : List ℕ) : Type 0 where
  pub asked : now.asked ≡ before.asked ++ name ∷ []
  pub steady : now.faults ≡ before.faults
  pub text : IfSome texts (OpensText now name)

-- what an open answers
pub record AnswersOpen (before now : Seen) (texts : Option Texts) (name : List ℕ)
    (result : Result (Unit {0}) OpenEnd) : Type 0 where
  pub same : now.given ≡ before.given
  pub later : before.faults ≤ now.faults
  pub means : MatchResult result (λ _.
      MeansOpened before now texts name) (MeansClosed before now name)
