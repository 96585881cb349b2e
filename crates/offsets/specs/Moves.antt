-- How far the lines of a pass move: line y by a·(y - c), or all of them alike. Assumes nothing.
use Rattle.std.specs.Prelude.{ℕ, ◌≤◌, ℤ, nat_abs}
use Rattle.passes.specs.Picture.{shear}
use Rattle.offsets.specs.declared.Moves.{Moves}
use Rattle.offsets.specs.declared.Moves.TheVariants.{Sheared, Alike}

-- the move of line y, in 4,096ths of a sample
abbrev pub move_of : Moves → ℕ → ℤ
move_of (Sheared a c) y = shear a c y
move_of (Alike d) y = d

-- the moves that a pass makes: a shear within ±4,096 about a centre inside the picture, or one move that such a shear can come to
abbrev pub Slight : Moves → Type 0
Slight (Sheared a c) = (nat_abs a ≤ 4096) × (c ≤ 1024)
Slight (Alike d) = nat_abs d ≤ 4194304
