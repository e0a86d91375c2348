-- The order on forms, and what stands on it, as they are computed.
use Rattle.std.specs.Prelude.{Bool, true, false, ◌&&◌}
use Rattle.pc_caps.specs.{declared.capability.Form.Form, declared.capability.Form.TheVariants.{IsoE, TrnE, Iso, Trn, Ref, Val, Box, Tag}, declared.capability.Cap.Cap, Tables.{unalias, enters}}

-- The order as a table that computes.
abbrev pub is_below : Form → Form → Bool
is_below IsoE b = true
is_below TrnE IsoE = false
is_below TrnE Iso = false
is_below TrnE b = true
is_below a Tag = true
is_below Trn Box = true
is_below Ref Box = true
is_below Val Box = true
is_below Iso Iso = true
is_below Trn Trn = true
is_below Ref Ref = true
is_below Val Val = true
is_below Box Box = true
is_below a b = false

-- A value of this form may be stored at this capability.
abbrev pub fits : Form → Cap → Bool
fits f k = is_below f (unalias k)

-- A value of this form may be written into a field of this capability of the origin.
abbrev pub may_write : Form → Form → Cap → Bool
may_write origin value field = fits value field && enters origin value field
