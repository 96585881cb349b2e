-- `explanations::parts_in` meets its contract: the line read, prepared, and taken apart. Assumes nothing.
use mathlib.Core.Path.{◌≡◌, sym, ◌∙◌, subst}
use mathlib.Core.List.{List}
use Prim.Native.Nat.{ℕ, ◌≤◌, ◌<◌}
use native.Mathlib.Omega.{arith}
use lib.IntN.{ℤ, pos, nat_abs}
use lib.ListN.{length, take}
use lib.Seq.{length-take-le, get_or-take}
use mir.Facts.{to_z-of_z}
use Rattle.lists.specs.Line.{line}
use Rattle.kernels.specs.declared.Kernel.{Kernel}
use Rattle.kernels.specs.declared.Kernel.TheVariants.{Linear, Keys, Spline}
use Rattle.kernels.specs.Four.{largest}
use Rattle.moves.specs.Move.{source}
use Rattle.moves.specs.InPlace.{weighed_size, prepared}
use Rattle.moves.proofs.InPlace.{prepared-length, prepared_size}
use Rattle.explanations.specs.Made.{parts_of, Weighed}
use Rattle.explanations.proofs.Made.{prepared_parts}
use Rattle.explanations.proofs.parts_in.Goals as goal
use Rattle.explanations.proofs.parts_in.Goals.{Start}

-- kernels weigh nothing larger than the spline's coefficients
largest_weighed : (κ : Kernel) → weighed_size κ ≤ largest
largest_weighed Linear = omega arith
largest_weighed Keys = omega arith
largest_weighed Spline = omega arith

module _ (s : Start) where
  abbrev n : ℕ
  n = length s.args.row.now

  abbrev κ : Kernel
  κ = s.args.kernel

  -- the n samples that are lent
  abbrev own : List ℤ
  own = take n s.args.line.now

  own_length : length own ≡ n
  own_length = length-take-le n s.args.line.now s.requires.passed.held_room

  own_small : (j : ℕ) → j < length own → nat_abs (line own j) ≤ 294912
  own_small j l = let inside : j < n = omega (arith, own_length) in rw (get_or-take n s.args.line.now j (pos 0) inside) (s.requires.passed.samples j inside)

  some : 1 ≤ length own
  some = omega (arith, own_length, s.requires.passed.some)

  weighed : Weighed s.args.d s.args.k (prepared κ own)
  weighed =
      record {
        few = omega (arith, prepared-length κ own, own_length, s.requires.passed.few);
        inside = omega (arith, prepared-length κ own, own_length, s.requires.inside);
        near = s.requires.passed.near;
        small = λ j l. omega (arith, largest_weighed κ, prepared_size own some own_small κ j l);
      }

  -- the parts of the line that was prepared in place
  ready : parts_of κ (length (prepared κ own)) s.args.d s.args.k (line (prepared κ own)) ≡ parts_of κ n s.args.d s.args.k (source κ n (line own))
  ready =
      subst (λ (N : ℕ). parts_of κ N s.args.d s.args.k (line (prepared κ own)) ≡ parts_of κ n s.args.d s.args.k (source κ n (line own))) (sym (prepared-length κ own))
      (subst (λ (N : ℕ). parts_of κ (length own) s.args.d s.args.k (line (prepared κ own)) ≡ parts_of κ N s.args.d s.args.k (source κ N (line own))) own_length
      (prepared_parts κ s.args.d s.args.k own some))

pub parts_of-requires : goal.parts_of-requires
parts_of-requires c = rw (c.prepare.ensures, c.copy.ensures, to_z-of_z c.ranges.d) (weighed (goal.at.parts_of-requires c).Start)

pub returns : goal.returns
returns c =
    let e = rw (c.prepare.ensures, c.copy.ensures, to_z-of_z c.ranges.d) at c.parts_of.ensures in
    e ∙ ready (goal.at.returns c).Start
