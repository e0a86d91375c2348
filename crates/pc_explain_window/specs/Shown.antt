-- Bytes as they are shown.
use Rattle.std.specs.Prelude.{ℕ, Bool, not, ◌==◌, ◌&&◌, ◌||◌, nat_lt, nat_le, if◌then◌else◌}

-- A terminal would obey the byte: it is below 32 and not a tab, or it is 127.
abbrev pub is_obeyed : ℕ → Bool
is_obeyed b = (nat_lt b 32 && not (b == 9)) || b == 127

-- The byte as it is shown: as a dot if a terminal would obey it.
abbrev pub shown : ℕ → ℕ
shown b = if is_obeyed b then 46 else b

-- The byte does not begin a UTF-8 character.
abbrev pub goes_on : ℕ → Bool
goes_on b = nat_le 128 b && nat_lt b 192
