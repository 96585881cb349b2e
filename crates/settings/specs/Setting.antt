-- "A setting is kernel, centre and shears; changing one hands back a new setting with the others kept." It gains a border. Assumes nothing.
use Rattle.std.specs.Prelude.{ℕ, ℤ}
use Rattle.settings.specs.declared.Border.{Border}
use Rattle.settings.specs.declared.Setting.{Setting}

-- another kernel
abbrev pub with_kernel : Setting → ℕ → Setting
with_kernel s k = record { kernel = k; cx = s.cx; cy = s.cy; a = s.a; b = s.b; border = s.border }

-- another centre, column x and row y
abbrev pub with_centre : Setting → ℕ → ℕ → Setting
with_centre s x y = record { kernel = s.kernel; cx = x; cy = y; a = s.a; b = s.b; border = s.border }

-- other shears A and B
abbrev pub with_shears : Setting → ℤ → ℤ → Setting
with_shears s p q = record { kernel = s.kernel; cx = s.cx; cy = s.cy; a = p; b = q; border = s.border }

-- another border
abbrev pub with_border : Setting → Border → Setting
with_border s e = record { kernel = s.kernel; cx = s.cx; cy = s.cy; a = s.a; b = s.b; border = e }
