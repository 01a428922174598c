-- The names of layers. Mead and Conway have 1 to 4 bytes; the longer ones are this profile's.
use Rattle.std.specs.Prelude.{ℕ, Bool, ◌&&◌, nat_le, List, length}
use Rattle.std.specs.List.{list_all}
use Rattle.dpl_lex.specs.Classes.{is_name_byte}

-- 1 to 32 digits and upper-case letters
abbrev pub is_name : List ℕ → Bool
is_name bytes = nat_le 1 (length bytes) && nat_le (length bytes) 32 && list_all is_name_byte bytes
