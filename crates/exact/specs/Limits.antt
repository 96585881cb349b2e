-- Demand 3. Assumes nothing.
use Rattle.std.specs.Prelude.{◌≡◌, List, ℕ, ◌*◌, ◌≤◌, ◌<◌, ℤ, pos, nat_abs, ◌-ℤ◌, ◌*ℤ◌}
use Rattle.arith.specs.Move.{D}
use Rattle.lists.specs.Line.{line}
use Rattle.settings.specs.declared.Border.{Border}
use Rattle.settings.specs.declared.Border.TheVariants.{Wrapped, Background}
use Rattle.kernels.specs.declared.Kernel.{Kernel}
use Rattle.kernels.specs.declared.Kernel.TheVariants.{Linear, Keys, Spline}
use Rattle.exact.specs.ExactPicture.{ExactList}

-- twice the limit in units: 3/2 for linear, 2 for Keys, 10 for the cubic spline
abbrev pub limit : Kernel → ℕ
limit Linear = 3
limit Keys = 4
limit Spline = 20

-- a picture of one grey: all of its samples are equal, and the background has that grey too
abbrev pub OneGrey : Border → ℕ → ℕ → List ℤ → Type 0
OneGrey Wrapped W H s = (i j : ℕ) → i < W * H → j < W * H → line s i ≡ line s j
OneGrey (Background b) W H s = (i : ℕ) → i < W * H → line s i ≡ b

-- every line moves by whole samples: the d of every row and of every column is a multiple of 4,096
abbrev pub Multiple : ℤ → Type 0
Multiple d = (m : ℤ) × (d ≡ pos D *ℤ m)

abbrev pub WholeMoves : ℕ → ℕ → (ℕ → ℤ) → (ℕ → ℤ) → Type 0
WholeMoves W H rows columns = ((y : ℕ) → y < H → Multiple (rows y)) × ((x : ℕ) → x < W → Multiple (columns x))

-- v·Q = E at every place
abbrev pub Equals : ℕ → ℕ → List ℤ → List ℤ → ℤ → Type 0
Equals W H v E Q = (i : ℕ) → i < W * H → line v i *ℤ Q ≡ line E i

-- Demand 3 of the result v of straightening the samples s. There is an exact picture E over Q (`exact`), worked out from s and the moves
-- alone; any two are the same fractions (`one`); from every one v keeps its limit at each place, 2·|v·Q - E| ≤ 3·Q, 4·Q or 20·Q (`near`);
-- v·Q = E at each place for a picture of one grey, its background too (`grey`), and for whole moves (`whole`).
-- Ruled out, as `RuledOut` in proofs/ shows: a picture handed back unturned, one sheared in pass 1 and copied in passes 2 and 3, a flat
-- grey, coefficients computed once for all passes, samples held to 0 to 255 greys between passes.
pub record Demand3 (β : Border) (κ : Kernel) (W H : ℕ) (rows columns : ℕ → ℤ) (s v : List ℤ) : Type 0 where
  pub E : List ℤ
  pub Q : ℤ
  pub exact : ExactList β κ W H rows columns s E Q
  pub one : {E E' : List ℤ} {Q Q' : ℤ}
      → ExactList β κ W H rows columns s E Q
      → ExactList β κ W H rows columns s E' Q'
      → (i : ℕ) → i < W * H → line E i *ℤ Q' ≡ line E' i *ℤ Q
  pub near : {E : List ℤ} {Q : ℤ}
      → ExactList β κ W H rows columns s E Q
      → (i : ℕ) → i < W * H → 2 * nat_abs (line v i *ℤ Q -ℤ line E i) ≤ limit κ * nat_abs Q
  pub grey : OneGrey β W H s → {E : List ℤ} {Q : ℤ} → ExactList β κ W H rows columns s E Q → Equals W H v E Q
  pub whole : WholeMoves W H rows columns → {E : List ℤ} {Q : ℤ} → ExactList β κ W H rows columns s E Q → Equals W H v E Q
