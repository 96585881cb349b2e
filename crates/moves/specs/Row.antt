-- The row that a line is moved in under a border: its own N places, or 3N between background samples, of which only the part that the outputs are
-- weighed from has to be set in and weighed. `kept_in_place` in proofs/ says that what is read from it is the line moved under its border.
-- Assumes nothing.
use Rattle.std.specs.Prelude.{◌≡◌, cond, List, ◌++◌, ◌⊎◌, ℕ, ◌+◌, ◌*◌, ◌-◌, ◌%◌, ◌≤◌, ◌<◌, min, max, ℤ, pos, nat_abs, length, take, drop}
use Rattle.arith.specs.Move.{D}
use Rattle.lists.specs.Tab.{tab}
use Rattle.lists.specs.Line.{line}
use Rattle.settings.specs.declared.Border.{Border}
use Rattle.settings.specs.declared.Border.TheVariants.{Wrapped, Background}
use Rattle.kernels.specs.declared.Kernel.{Kernel}
use Rattle.kernels.specs.declared.Kernel.TheVariants.{Linear, Keys, Spline}
use Rattle.moves.specs.declared.Part.{Part}
use Rattle.moves.specs.Border.{framed, far}
use Rattle.moves.specs.InPlace.{weighed, turn}

-- how many places a line of N samples takes while it is moved, how many of them stand before its own, and what they hold
abbrev pub places : Border → ℕ → ℕ
places Wrapped N = N
places (Background b) N = 3 * N

abbrev pub margin : Border → ℕ → ℕ
margin Wrapped N = 0
margin (Background b) N = N

unfoldable pub set_in : Border → List ℤ → List ℤ
set_in Wrapped s = s
set_in (Background b) s = tab (framed (length s) b (line s)) (3 * length s)

-- the place that output 0 is read from
unfoldable pub start_at : Border → ℕ → ℤ → ℕ
start_at β N d = (turn (places β N) d + margin β N) % places β N

-- the move that is made: no farther than N samples under background, which leaves nothing of the line and has an f of 0 (`held_in_place`)
unfoldable pub held : Border → ℕ → ℤ → ℤ
held Wrapped N d = d
held (Background b) N d = cond (far N d) (pos (D * N)) d

-- ---- of a row only the part that its outputs are weighed from, places lo to hi - 1 (`kept_in_place`)
-- the part weighed where it stands, as a line of its own
unfoldable pub weighed_part : Kernel → ℤ → Part → List ℤ → List ℤ
weighed_part κ f part s = take part.lo s ++ (weighed κ f (take (part.hi - part.lo) (drop part.lo s)) ++ drop (part.hi - part.lo) (drop part.lo s))

-- place p of a row of m is weighed from the part alone: the part is the whole row, or it has the place before p and the two after it
abbrev pub Inner : Part → ℕ → ℕ → Type 0
Inner part m p = ((part.lo ≡ 0) × (part.hi ≡ m)) ⊎ ((part.lo < p) × (p + 2 < part.hi))

-- a part of the row of N samples that holds them
abbrev pub Holds : Border → ℕ → Part → Type 0
Holds β N part = (part.lo ≤ margin β N) × (margin β N + N ≤ part.hi) × (part.hi ≤ places β N)

-- such a part that each output from place `start` on is weighed from alone
pub record Covers (β : Border) (N start : ℕ) (part : Part) : Type 0 where
  pub low : part.lo ≤ margin β N
  pub high : margin β N + N ≤ part.hi
  pub end : part.hi ≤ places β N
  pub inner : (k : ℕ) → k < N → Inner part (places β N) ((k + start) % places β N)

-- the least part that has both of two
abbrev pub joined_of : Part → Part → Part
joined_of a b = record { lo = min a.lo b.lo; hi = max a.hi b.hi }

-- the part that has to be set in: kernel 2 computes its coefficients from the whole row of m places
abbrev pub loaded_of : Kernel → ℕ → Part → Part
loaded_of Linear m part = part
loaded_of Keys m part = part
loaded_of Spline m part = record { lo = 0; hi = m }

-- two rows are alike in a part
abbrev pub Alike : Part → List ℤ → List ℤ → Type 0
Alike part s t = (p : ℕ) → part.lo ≤ p → p < part.hi → line s p ≡ line t p

-- a row is within ±M in a part
abbrev pub PartWithin : ℕ → Part → List ℤ → Type 0
PartWithin M part s = (p : ℕ) → part.lo ≤ p → p < part.hi → nat_abs (line s p) ≤ M

-- a row of 3N places holds b on both sides of its middle N, in a part
pub record Framed (N : ℕ) (b : ℤ) (part : Part) (s : List ℤ) : Type 0 where
  pub before : (p : ℕ) → part.lo ≤ p → p < N → line s p ≡ b
  pub after : (p : ℕ) → 2 * N ≤ p → p < part.hi → line s p ≡ b
