-- The classes of the bytes of a CIF text (Mead and Conway 1980, section 4.5).
use Rattle.std.specs.Prelude.{ℕ, Bool, not, ◌&&◌, ◌||◌, ◌==◌, nat_lt, nat_le, List, [], ◌∷◌, if◌then◌else◌}

-- `0` to `9`
abbrev pub is_digit : ℕ → Bool
is_digit b = nat_le 48 b && nat_le b 57

-- `A` to `Z`
abbrev pub is_upper : ℕ → Bool
is_upper b = nat_le 65 b && nat_le b 90

-- what a name is made of
abbrev pub is_name_byte : ℕ → Bool
is_name_byte b = is_digit b || is_upper b

-- `-`, `(`, `)` and `;`
abbrev pub is_mark : ℕ → Bool
is_mark b = b == 45 || b == 40 || b == 41 || b == 59

-- any other ASCII byte: lower-case letters, commas and line ends are blanks
abbrev pub is_blank : ℕ → Bool
is_blank b = nat_lt b 128 && not (is_name_byte b || is_mark b)

-- what may stand before an integer
abbrev pub is_separator : ℕ → Bool
is_separator b = is_upper b || is_blank b

-- the bytes from the first one on that fails the test
abbrev pub drop_while : (ℕ → Bool) → List ℕ → List ℕ
drop_while p [] = []
drop_while p (b ∷ bs) = if p b then drop_while p bs else b ∷ bs
