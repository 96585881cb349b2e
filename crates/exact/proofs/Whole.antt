-- Where the exact line of samples is whole, the moved samples are that line: of one grey, and moved by whole places. Assumes nothing.
use mathlib.Core.Path.{◌≡◌, refl, sym, ap, ◌∙◌, fun_ext}
use Prim.Native.Nat.{ℕ, suc, ◌+◌, ◌*◌, ◌<◌}
use native.Mathlib.Omega.{arith}
use lib.IntN.{ℤ, pos, ◌+ℤ◌, ◌-ℤ◌, ◌*ℤ◌}
use lib.Signed.{◌<ℤ◌, le_z_yes, lt_z_yes}
use Rattle.arith.proofs.Bridge.{bridge, all1, all2}
use Rattle.arith.proofs.Ring.{nlit, ring, reify, vars2, vars5}
use Rattle.arith.proofs.Cert.{equal, ◌⊙◌}
use Rattle.lists.specs.Line.{Line, wrap}
use Rattle.lists.proofs.Cyclic.{wrap_every}
use Rattle.arith.proofs.Within.{Within}
use Rattle.kernels.specs.declared.Kernel.{Kernel}
use Rattle.kernels.specs.declared.Kernel.TheVariants.{Linear, Keys, Spline}
use Rattle.kernels.specs.Kernel.{norm, D³, weigh}
use Rattle.arith.specs.Move.{fraction}
use Rattle.moves.specs.Move.{first, mixed, moved}
use Rattle.moves.proofs.Mixed.{mixed-grey}
use Rattle.moves.proofs.Whole.{at_zero, weigh_at_zero}
use Rattle.spline.proofs.Exact.{shifted}
use Rattle.exact.specs.ExactLine.{ExactLine, Weighed}
use Rattle.exact.proofs.ExactLine.{weighed-line, weighed_over, is_weighed, Same, exact_line_only}
use Rattle.exact.proofs.Step.{Near, itself, base, growth, line-near}

-- ---- a line that weighs as one grey
pub grey-line : (κ : Kernel) (N : ℕ) (d g : ℤ) (x : Line) → 0 < N → ((k : ℕ) → k < N → x k ≡ g) → ExactLine κ N d x (pos 1) (λ k. g) (pos 1)
grey-line κ N d g x h grey =
    record { weighed = λ i. g; over = pos 1; is = is κ; sums = λ k l. turn g (pos (norm κ * D³)) ∙ ap (λ t. t *ℤ pos 1) (sym (mixed-grey κ N d g k)) }
  where
    wrapped : (i : ℕ) → wrap N x i ≡ g
    wrapped = wrap_every (λ t. t ≡ g) h grey

    turn : (g n : ℤ) → g *ℤ (n *ℤ pos 1) ≡ g *ℤ n *ℤ pos 1
    turn = vars2 _ (simp reify (λ ρ. ring tt))

    smooth : (g : ℤ) → (g +ℤ pos 4 *ℤ g +ℤ g) *ℤ pos 1 ≡ pos 6 *ℤ g *ℤ pos 1
    smooth = all1 _ (simp bridge (omega arith))

    is : (κ : Kernel) → Weighed κ N x (pos 1) (λ i. g) (pos 1)
    is Linear = (sym (fun_ext wrapped), refl)
    is Keys = (sym (fun_ext wrapped), refl)
    is Spline =
        record {
          positive = lt_z_yes tt;
          periodic = record { again = λ k. refl };
          coefficients = record {
            solves = λ k. smooth g ∙ ap
                (λ t. pos 6 *ℤ t *ℤ pos 1) (sym (wrapped (suc k)));
          };
        }

-- ---- a line that moves by whole places: each place takes the one that lies q places on
taken : (κ : Kernel) (N : ℕ) (S : Line) (q : ℤ) (Y : Line) (R : ℤ) → Weighed κ N S q Y R → (o : ℕ)
    → at_zero κ (λ i. Y (o + i)) *ℤ q ≡ pos (norm κ) *ℤ wrap N S (o + 1) *ℤ R
unfolding at_zero
taken Linear N S q Y R is o = (λ j. is.0 j (o + 1) *ℤ q) ∙ once (wrap N S (o + 1)) q ∙ sym (λ j. pos 1 *ℤ wrap N S (o + 1) *ℤ is.1 j)
  where
    once : (s q : ℤ) → s *ℤ q ≡ pos 1 *ℤ s *ℤ q
    once = vars2 _ (simp reify (λ ρ. ring tt))
taken Keys N S q Y R is o = λ j. pos 2 *ℤ is.0 j (o + 1) *ℤ sym is.1 j
taken Spline N S q Y R is o = (shifted o is.coefficients).solves 0

pub shift_line : (κ : Kernel) (N : ℕ) (d : ℤ) (S : Line) (q : ℤ) → 0 < N → pos 0 <ℤ q → fraction d ≡ 0
    → ExactLine κ N d S q (λ k. wrap N S (first N d + k + 1)) q
unfolding mixed
shift_line κ N d S q h hq whole =
    record {
      weighed = Y;
      over = R;
      is = is_weighed κ N S q h hq;
      sums = λ k l. sum (wrap N S (first N d + k + 1)) (pos (norm κ)) R (at_zero κ
          (λ i. Y (first N d + k + i))) q (taken κ N S q Y R (is_weighed κ N S q h hq) (first N d + k)) ∙ ap (λ t. t *ℤ q) (sym
          (weigh_at_zero κ (λ i. Y (first N d + k + i))) ∙ ap (λ f. weigh κ (pos f) (λ i. Y (first N d + k + i))) (sym whole));
    }
  where
    Y : Line
    Y = weighed-line κ N S

    R : ℤ
    R = weighed_over κ N q

    sum : (s n R a q : ℤ) → a *ℤ q ≡ n *ℤ s *ℤ R → s *ℤ (n *ℤ pos D³ *ℤ R) ≡ pos D³ *ℤ a *ℤ q
    sum = vars5 _ (simp reify (λ ρ e. equal (nlit 68719476735 ⊙ e) tt))

-- ---- the samples x are the fractions S/q themselves, and their exact line is whole: then the moved samples are the moved fractions
pub whole-moved : {κ : Kernel} {N : ℕ} {d : ℤ} {x S W E : Line} {q Z : ℤ} → 0 < N → ((k : ℕ) → k < N → Within (pos 294912) (x k))
    → pos 0 <ℤ q → ExactLine κ N d x (pos 1) W (pos 1) → Same N x (pos 1) S q → ExactLine κ N d S q E Z → Same N (moved κ N d x) (pos 1) E Z
whole-moved {κ} {N} {d} {x} {S} {W} {E} {q} {Z} h small hq whole same a =
    record {
      place = λ k l. ap (λ t. t *ℤ Z) (only κ (moved κ N d x k) (W k) (near.place k l)) ∙ (exact_line_only h
          (lt_z_yes tt) hq same whole a).place k l;
    }
  where
    near : Near N (pos 4 *ℤ pos 1) (pos (base κ) *ℤ pos 1 +ℤ pos (growth κ) *ℤ pos 0) (moved κ N d x) W (pos 1)
    near = line-near (pos 1) (pos 0) h small (lt_z_yes tt) (le_z_yes tt) (itself N x) κ d (lt_z_yes tt) whole

    only : (κ : Kernel) (o w : ℤ)
        → Within ((pos (base κ) *ℤ pos 1 +ℤ pos (growth κ) *ℤ pos 0) *ℤ pos 1) (pos 4 *ℤ pos 1 *ℤ (o *ℤ pos 1 -ℤ w)) → o ≡ w
    only Linear = all2 _ (simp bridge (omega arith))
    only Keys = all2 _ (simp bridge (omega arith))
    only Spline = all2 _ (simp bridge (omega arith))
