-- The ports of fragments that are moved.
use Rattle.std.specs.Prelude.{ℕ, ◌%◌, ◌==◌, if◌then◌else◌, ℤ, pos}
use Rattle.dpl_sign.specs.Sides.{is_corner}
use Rattle.dpl_links.specs.Ports.{side_key}

-- By what the keys of a side grow: both ends of the common stretch move to the right at south and
-- north, and up at east and west. At a corner there is no key.
abbrev pub key_shift : ℤ → ℤ → ℕ → ℤ
key_shift right up port = if is_corner port then pos 0
    else (if port % 4 == 1 then side_key port right right else side_key port up up)
