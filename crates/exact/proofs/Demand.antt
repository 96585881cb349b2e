-- The straightened picture keeps demand 3, for every kernel, size and list of moves. Assumes nothing.
use mathlib.Core.Path.{◌≡◌, refl}
use mathlib.Core.List.{List}
use Prim.Native.Nat.{ℕ, ◌*◌, ◌≤◌, ◌<◌}
use native.Mathlib.Nat.{mul-pos}
use lib.IntN.{ℤ, nat_abs}
use Rattle.arith.proofs.Move.{multiple_whole}
use Rattle.lists.specs.Line.{line}
use Rattle.settings.specs.declared.Border.{Border}
use Rattle.settings.specs.declared.Border.TheVariants.{Wrapped, Background}
use Rattle.kernels.specs.declared.Kernel.{Kernel}
use Rattle.moves.specs.Border.{grey}
use Rattle.lists.specs.Picture.{picture, pictured}
use Rattle.passes.specs.Picture.{straighten}
use Rattle.exact.specs.Limits.{OneGrey, Demand3}
use Rattle.exact.proofs.Border.{Agrees}
use Rattle.exact.proofs.Passes.{exact_numbers, exact_denominator}
use Rattle.exact.proofs.Straighten.{exact_list, exact_list_only, straighten-near, straighten-grey, straighten-whole}

pub straighten-demand3 : (β : Border) (κ : Kernel) (W H : ℕ) (rows columns : ℕ → ℤ) (s : List ℤ)
    → 0 < W
    → 0 < H
    → nat_abs (grey β) ≤ 32767
    → ((i : ℕ) → i < W * H → nat_abs (line s i) ≤ 32767)
    → Demand3 β κ W H rows columns s (straighten β κ W H rows columns s)
straighten-demand3 β κ W H rows columns s hW hH plain range = record {
  E = pictured W H (exact_numbers β κ W H rows columns (picture W s));
  Q = exact_denominator β κ W H rows columns;
  exact = exact_list β κ rows columns s hW hH;
  one = exact_list_only β κ rows columns s hW hH;
  near = λ e. straighten-near β κ rows columns s hW hH plain range e;
  grey = λ g e. straighten-grey β κ rows columns s hW hH plain range e (one_of β) (agreeing β) (every β g);
  whole = λ m e.
      straighten-whole β κ rows columns s hW hH plain range e
      (λ y l. multiple_whole (rows y) (m.0 y l).0 (m.0 y l).1)
      (λ x l. multiple_whole (columns x) (m.1 x l).0 (m.1 x l).1);
}
  where
    -- the one grey: that of the background, where there is one
    one_of : Border → ℤ
    one_of Wrapped = line s 0
    one_of (Background b) = b

    agreeing : (β : Border) → Agrees β (one_of β)
    agreeing Wrapped = tt
    agreeing (Background b) = refl

    every : (β : Border) → OneGrey β W H s → (i : ℕ) → i < W * H → line s i ≡ one_of β
    every Wrapped g i l = g i 0 l (mul-pos hW hH)
    every (Background b) g i l = g i l
