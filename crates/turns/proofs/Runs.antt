-- Runs of a row: that one lies inside the picture, what a copy of it holds, and what is read from a loaded block. Assumes nothing.
use Prim.Native.Nat.{ℕ, ◌+◌, ◌*◌, ◌-◌, ◌≤◌, ◌<◌}
use mathlib.Core.Path.{◌≡◌, refl, ap, ◌∙◌}
use mathlib.Core.Bool.{Bool, true, false, cond}
use mathlib.Core.List.{List}
use native.Mathlib.Omega.{arith}
use lib.IntN.{ℤ, pos}
use lib.ListN.{length, take, drop, length-take, length-drop}
use Rattle.std.specs.Prelude.{reverse}
use Rattle.std.proofs.lemmas.List.{length-reverse, get_or-reverse}
use Rattle.lists.specs.Line.{line}
use Rattle.lists.specs.Picture.{picture}
use Rattle.lists.specs.Grid.{line_of}
use Rattle.lists.proofs.Rows.{row_in, part_at}
use Rattle.lists.proofs.Grid.{line_of_at, line_of-length}
use Rattle.arrangements.specs.Moves.{screen}
use Rattle.arrangements.specs.Views.{facing, viewed}
use Rattle.arrangements.specs.Patches.{Patch}
use Rattle.arrangements.proofs.Facing.{facing_below, facing-run}
use Rattle.turns.specs.declared.View.{View}
use Rattle.turns.specs.Block.{seen, loaded}

-- columns x to x + n - 1 of row y
pub run_in : (W H y x n places : ℕ) → y < H → x + n ≤ W → W * H ≤ places → y * W + x + n ≤ places
run_in W H y x n places l fits room = omega (arith, row_in W H y l)

-- a part of a list has as many places as it is told
pub part_length : (a n : ℕ) (s : List ℤ) → a + n ≤ length s → length (take (a + n - a) (drop a s)) ≡ n
part_length a n s room = simp (length-take, length-drop) (omega arith)

-- n places from place a on, as they are or in reverse
module _ (a n : ℕ) (s : List ℤ) (room : a + n ≤ length s) where
  abbrev part : List ℤ
  part = take (a + n - a) (drop a s)

  pub faced_length : (back : Bool) (new : List ℤ) → new ≡ cond back (reverse part) part → length new ≡ n
  faced_length true new e = ap length e ∙ length-reverse part ∙ part_length a n s room
  faced_length false new e = ap length e ∙ part_length a n s room

  pub faced_at : (back : Bool) (new : List ℤ) → new ≡ cond back (reverse part) part → (k : ℕ) → k < n → line new k ≡ line s (a + facing back n k)
  faced_at true new e k l =
      ap (λ (t : List ℤ). line t k) e
      ∙ get_or-reverse part k (pos 0) (omega (arith, part_length a n s room))
      ∙ ap (λ (i : ℕ). line part (i - 1 - k)) (part_length a n s room)
      ∙ part_at a (a + n) s (n - 1 - k) (pos 0) (omega arith)
  faced_at false new e k l = ap (λ (t : List ℤ). line t k) e ∙ part_at a (a + n) s k (pos 0) (omega arith)

-- n places of a strided line
module _ (at along n m : ℕ) (s new : List ℤ) (places : m ≡ n) (read : new ≡ line_of at along m s) where
  pub read_length : length new ≡ n
  read_length = ap length read ∙ line_of-length at along m s ∙ places

  pub read_at : (k : ℕ) → k < n → line new k ≡ line s (at + k * along)
  read_at k l = ap (λ (t : List ℤ). line t k) read ∙ line_of_at at along m s k (omega arith)

-- and so it is a row of the picture so seen
pub faced_row : (W H : ℕ) (r b : Bool) (y f k : ℕ) (s : List ℤ) → f ≡ facing b H y → line s (f * W + facing r W k) ≡ (viewed false r b (screen W H s)).at y k
unfolding picture
faced_row W H r b y f k s e = rw e refl

-- a run that is loaded into the block
pub loaded_at : (v : View) (x first j f k : ℕ) (s : List ℤ) → f ≡ facing v.below v.height (x + j) → line s (f * v.width + first + k) ≡ loaded v x first s j k
unfolding picture
loaded_at v x first j f k s e = rw e (ap (line s) (omega arith))

-- what is read from a loaded block, from either end of its rows, is the picture so seen
module _ (v : View) (x columns first y rows : ℕ) (s before block : List ℤ) (fits : y + rows ≤ v.width) (least : first ≡ facing v.right (v.width - rows + 1) y)
    (held : Patch 68 0 rows 0 columns (loaded v x first s) before block) where
  pub block_seen : (i k : ℕ) → i < rows → k < columns → line block (facing v.right rows i + k * 68) ≡ seen v s (y + i) (x + k)
  block_seen i k li lk =
      ap (line block) (place (facing v.right rows i))
      ∙ held.inside k (facing v.right rows i) lk (facing_below v.right rows i li)
      ∙ ap (picture v.width s (facing v.below v.height (x + k))) (rw least (facing-run v.right v.width rows y i fits li))
    where
      place : (f : ℕ) → f + k * 68 ≡ (0 + k) * 68 + (0 + f)
      place f = omega arith

-- the picture's columns that a band of rows is read from lie inside it
pub band_in : (back : Bool) (n y rows : ℕ) → 1 ≤ rows → y + rows ≤ n → facing back (n - rows + 1) y + rows ≤ n
band_in back n y rows some fits = within (facing_below back (n - rows + 1) y (omega arith))
  where
    within : {f : ℕ} → f < n - rows + 1 → f + rows ≤ n
    within h = omega arith
