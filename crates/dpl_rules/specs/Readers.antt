-- Parts of a command (Mead and Conway 1980, section 4.5). A part is read from the front of the bytes; what follows it is given too.
use Rattle.std.specs.Prelude.{ℕ, zero, suc, ℤ, pos, ◌+◌, ◌^◌, ◌≡◌, Bool, true, false, ◌==◌, unsigned_abs, List, [], ◌∷◌, ◌++◌, Option, None, Some, if◌then◌else◌}
use Rattle.std.specs.List.{list_all}
use Rattle.dpl_lex.specs.Classes.{is_blank, drop_while}
use Rattle.dpl_lex.specs.Number.{unsigned_at, signed_at}
use Rattle.dpl_lex.specs.declared.number.Num.{Num}
use Rattle.dpl_lex.specs.declared.number.Num.TheVariants.{Value, Big, Nothing}
use Rattle.dpl_rules.specs.declared.command.Spot.{Spot}

-- one part after another
infixl 10 ◌>>=◌
abbrev pub ◌>>=◌ : {A B : Type 0} → Option A → (A → Option B) → Option B
None >>= f = None
(Some x) >>= f = f x

-- the first that is there
abbrev pub or_else : {A : Type 0} → Option A → Option A → Option A
or_else None b = b
or_else (Some a) b = Some a

-- what a function returned, seen by view, is what the definition reads
abbrev pub Reads : {X Y : Type 0} → (X → Y) → Option X → Option Y → Type 0
Reads view (Some x) read = read ≡ Some (view x)
Reads view None read = read ≡ None

-- stands for each number beyond the greatest magnitude
abbrev pub beyond : ℕ
beyond = 10 ^ 12 + 1

abbrev pub number_at_front : Num → List ℕ → Option (ℤ × List ℕ)
number_at_front (Value z) rest = Some (z, rest)
number_at_front Big rest = Some (pos beyond, rest)
number_at_front Nothing rest = None

-- an integer with a sign or without
abbrev pub signed_of : List ℕ → Option (ℤ × List ℕ)
signed_of bytes = number_at_front (signed_at bytes).0 (signed_at bytes).1

-- an integer without a sign
abbrev pub unsigned_of : List ℕ → Option (ℕ × List ℕ)
unsigned_of bytes = number_at_front (unsigned_at bytes).0 (unsigned_at bytes).1 >>= λ n.
    Some (unsigned_abs n.0, n.1)

abbrev pub spot : ℤ → ℤ → Spot
spot x y = record { x = x; y = y }

-- a point
abbrev pub spot_of : List ℕ → Option (Spot × List ℕ)
spot_of bytes = do
  x ← signed_of bytes
  y ← signed_of x.1
  Some (spot x.0 y.0, y.1)

abbrev pub and_repeated : {X : Type 0} → Option (X × List ℕ) → List ℕ → (List ℕ → List X × List ℕ) →
    List X × List ℕ
and_repeated None bytes more = ([], bytes)
and_repeated (Some x) bytes more = (x.0 ∷ (more x.1).0, (more x.1).1)

-- as many parts as stand one after another, at most so many
abbrev pub repeated : {X : Type 0} → (List ℕ → Option (X × List ℕ)) → ℕ → List ℕ → List X × List ℕ
repeated read zero bytes = ([], bytes)
repeated read (suc n) bytes = and_repeated (read bytes) bytes (repeated read n)

-- the same behind parts that were read before
abbrev pub after_parts : {X : Type 0} → List X → List X × List ℕ → List X × List ℕ
after_parts front found = (front ++ found.0, found.1)

abbrev pub not_empty : {X : Type 0} → List X → Bool
not_empty [] = false
not_empty (x ∷ xs) = true

abbrev pub at_front : ℕ → List ℕ → Option (List ℕ)
at_front b [] = None
at_front b (c ∷ rest) = if c == b then Some rest else None

-- what follows this letter, which may stand behind blanks
abbrev pub letter : ℕ → List ℕ → Option (List ℕ)
letter b bytes = at_front b (drop_while is_blank bytes)

-- after the last part of a form only blanks may follow
abbrev pub complete : {A : Type 0} → A → List ℕ → Option A
complete a rest = if list_all is_blank rest then Some a else None
