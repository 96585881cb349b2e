-- A line of fractions moved exactly, under a border. A line of fractions is whole numbers S over one positive whole number q. Assumes nothing.
use Rattle.std.specs.Prelude.{◌≡◌, Bool, true, false, ℕ, ◌+◌, ◌*◌, ◌<◌, ℤ, pos, ◌*ℤ◌}
use Rattle.lists.specs.Line.{Line, wrap}
use Rattle.settings.specs.declared.Border.{Border}
use Rattle.settings.specs.declared.Border.TheVariants.{Wrapped, Background}
use Rattle.kernels.specs.declared.Kernel.{Kernel}
use Rattle.kernels.specs.declared.Kernel.TheVariants.{Linear, Keys, Spline}
use Rattle.kernels.specs.Kernel.{norm, D³}
use Rattle.spline.specs.Exact.{Solution}
use Rattle.moves.specs.Move.{mixed}
use Rattle.moves.specs.Border.{framed, far}

-- what is weighed, Y over R, of the line S over q: kernels 0 and 1 weigh its fractions, kernel 2 its exact coefficients
abbrev pub Weighed : Kernel → ℕ → Line → ℤ → Line → ℤ → Type 0
Weighed Linear N S q Y R = (Y ≡ wrap N S) × (R ≡ q)
Weighed Keys N S q Y R = (Y ≡ wrap N S) × (R ≡ q)
Weighed Spline N S q Y R = Solution N (wrap N S) q Y R

-- S over q, of N places, moved by d is E over Z: at each place the weighed sum, with the same f, q and weights, over n·D³
pub record ExactLine (κ : Kernel) (N : ℕ) (d : ℤ) (S : Line) (q : ℤ) (E : Line) (Z : ℤ) : Type 0 where
  pub weighed : Line
  pub over : ℤ
  pub is : Weighed κ N S q weighed over
  pub sums : (k : ℕ) → k < N → E k *ℤ (pos (norm κ * D³) *ℤ over) ≡ mixed κ N d weighed k *ℤ Z

-- S over q set between N background samples on each side, b over 1 and so b·q over q; that line of 3N places moved; and its middle N kept
pub record Kept (κ : Kernel) (N : ℕ) (d b : ℤ) (S : Line) (q : ℤ) (E : Line) (Z : ℤ) : Type 0 where
  pub long : Line
  pub moves : ExactLine κ (3 * N) d (framed N (b *ℤ q) S) q long Z
  pub kept : (k : ℕ) → k < N → E k ≡ long (N + k)

-- under background b, by whether the line moves by N samples or more: then it is all background
abbrev pub OnBackground : Bool → Kernel → ℕ → ℤ → ℤ → Line → ℤ → Line → ℤ → Type 0
OnBackground true κ N d b S q E Z = (k : ℕ) → k < N → E k ≡ b *ℤ Z
OnBackground false κ N d b S q E Z = Kept κ N d b S q E Z

abbrev pub Bordered : Border → Kernel → ℕ → ℤ → Line → ℤ → Line → ℤ → Type 0
Bordered Wrapped κ N d S q E Z = ExactLine κ N d S q E Z
Bordered (Background b) κ N d S q E Z = OnBackground (far N d) κ N d b S q E Z

-- S over q, of N places, moved by d under a border is E over Z
pub record ExactMove (β : Border) (κ : Kernel) (N : ℕ) (d : ℤ) (S : Line) (q : ℤ) (E : Line) (Z : ℤ) : Type 0 where
  pub is : Bordered β κ N d S q E Z
