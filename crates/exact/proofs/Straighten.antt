-- The straightened picture and the exact picture as lists of W·H numbers, row by row: what a contract cites. Assumes nothing.
use mathlib.Core.Path.{◌≡◌, sym, ◌∙◌, subst₂}
use mathlib.Core.Bool.{Bool, true, false}
use mathlib.Core.List.{List}
use Prim.Native.Nat.{ℕ, ◌+◌, ◌*◌, ◌≤◌, ◌<◌}
use native.Mathlib.Omega.{arith}
use lib.IntN.{ℤ, pos, nat_abs, ◌-ℤ◌, ◌*ℤ◌}
use lib.Signed.{◌<ℤ◌}
use Rattle.arith.proofs.Bridge.{bridge, all1, all2}
use Rattle.lists.specs.Line.{Line, line}
use Rattle.lists.proofs.Picture.{inside, length-pictured, pictured_at, picture-pictured, picture_at, at_index}
use Rattle.passes.proofs.Reach.{sample_range}
use Rattle.arith.proofs.Within.{Within, size_within}
use Rattle.settings.specs.declared.Border.{Border}
use Rattle.settings.specs.declared.Border.TheVariants.{Wrapped, Background}
use Rattle.kernels.specs.declared.Kernel.{Kernel}
use Rattle.kernels.specs.declared.Kernel.TheVariants.{Linear, Keys, Spline}
use Rattle.kernels.specs.Kernel.{norm, D³}
use Rattle.moves.specs.Border.{grey, far}
use Rattle.arith.specs.Move.{fraction}
use Rattle.exact.specs.ExactLine.{ExactLine, OnBackground, ExactMove}
use Rattle.exact.proofs.Border.{Agrees}
use Rattle.lists.specs.Picture.{Picture, picture, pictured, Places}
use Rattle.passes.specs.Picture.{straighten, straightened}
use Rattle.exact.specs.ExactPicture.{ExactList, ExactPicture}
use Rattle.exact.proofs.Passes.{exact_numbers, exact_denominator, exact_picture, exact_picture_only, Equal, straightened-near, exact_whole, exact_grey, sharp, straightened_sharp}
use Rattle.exact.specs.Limits.{limit}

-- an exact line may be written otherwise past its N places
respelt_on : (p : Bool) (κ : Kernel) (N : ℕ) (d b : ℤ) (S E : Line) (q Z : ℤ) (E' : Line) → ((k : ℕ) → k < N → E' k ≡ E k) → OnBackground p κ N d b S q E Z
    → OnBackground p κ N d b S q E' Z
respelt_on true κ N d b S E q Z E' same a = λ k l. same k l ∙ a k l
respelt_on false κ N d b S E q Z E' same a = record { long = a.long; moves = a.moves; kept = λ k l. same k l ∙ a.kept k l }

respelt_line : {κ : Kernel} {N : ℕ} {d : ℤ} {S E : Line} {q Z : ℤ} (E' : Line) → ((k : ℕ) → k < N → E' k ≡ E k) → ExactLine κ N d S q E Z
    → ExactLine κ N d S q E' Z
respelt_line {κ} E' same a = record { weighed = a.weighed; over = a.over; is = a.is; sums = λ k l. (λ i. same k l i *ℤ (pos (norm κ * D³) *ℤ a.over)) ∙ a.sums k l }

respelt : {β : Border} {κ : Kernel} {N : ℕ} {d : ℤ} {S E : Line} {q Z : ℤ} (E' : Line) → ((k : ℕ) → k < N → E' k ≡ E k) → ExactMove β κ N d S q E Z
    → ExactMove β κ N d S q E' Z
respelt {β = Wrapped} E' same a = record { is = respelt_line E' same a.is }
respelt {β = Background b} {κ} {N} {d} {S} {E} {q} {Z} E' same a = record { is = respelt_on (far N d) κ N d b S E q Z E' same a.is }

module _ (β : Border) (κ : Kernel) {W H : ℕ} (rows columns : ℕ → ℤ) (s : List ℤ) (hW : 0 < W) (hH : 0 < H) where
  -- every picture has one
  pub exact_list : ExactList β κ W H rows columns s (pictured W H (exact_numbers β κ W H rows columns (picture W s))) (exact_denominator β κ W H rows columns)
  exact_list =
      record {
        places = length-pictured W H numbers;
        exact = record {
          E₁ = a.E₁;
          Q₁ = a.Q₁;
          E₂ = a.E₂;
          Q₂ = a.Q₂;
          first = a.first;
          second = a.second;
          third = record
              { positive = a.third.positive; row = λ y l. respelt (picture W (pictured W H numbers) y) (λ x k. picture-pictured W H numbers y x l k) (a.third.row y l) };
        };
      }
    where
      numbers : Picture
      numbers = exact_numbers β κ W H rows columns (picture W s)

      a : ExactPicture β κ W H rows columns (picture W s) numbers (exact_denominator β κ W H rows columns)
      a = exact_picture β κ W H rows columns (picture W s) hW hH

  -- and all are the same fractions
  pub exact_list_only : {E E' : List ℤ} {Q Q' : ℤ} → ExactList β κ W H rows columns s E Q → ExactList β κ W H rows columns s E' Q' → (i : ℕ)
      → i < W * H → line E i *ℤ Q' ≡ line E' i *ℤ Q
  exact_list_only {E} {E'} {Q} {Q'} a a' i l =
      subst₂ (λ x x'. x *ℤ Q' ≡ x' *ℤ Q) (picture_at W E i) (picture_at W E' i) (at_index (λ y x. picture W E y x *ℤ Q' ≡ picture W E' y x *ℤ Q) hW
      (exact_picture_only hW hH a.exact a'.exact).place i l)

  module _ {E : List ℤ} {Q : ℤ} (plain : nat_abs (grey β) ≤ 32767) (range : (i : ℕ) → i < W * H → nat_abs (line s i) ≤ 32767) (a : ExactList β κ W H rows columns s E Q) where
    outer : Within (pos 32767) (grey β)
    outer = size_within (grey β) 32767 plain

    in_range : Places W H (λ y x. Within (pos 32767) (picture W s y x))
    in_range = sample_range s range

    -- a statement about a place of the straightened picture and of the exact one, at an index
    carried : (A : ℤ → ℤ → Type 0) → Places W H (λ y x. A (straightened β κ W H rows columns (picture W s) y x) (picture W E y x)) → (i : ℕ)
        → i < W * H → A (line (straighten β κ W H rows columns s) i) (line E i)
    unfolding straighten
    carried A each i l =
        subst₂ A (sym (pictured_at W H (straightened β κ W H rows columns (picture W s)) i l)) (picture_at W E i) (at_index (λ y x. A
        (straightened β κ W H rows columns (picture W s) y x) (picture W E y x)) hW each i l)

    -- 2·|v·Q - E| ≤ 3·Q, 4·Q or 20·Q
    pub straighten-near : (i : ℕ) → i < W * H → 2 * nat_abs (line (straighten β κ W H rows columns s) i *ℤ Q -ℤ line E i) ≤ limit κ * nat_abs Q
    straighten-near i l =
        size κ (line (straighten β κ W H rows columns s) i *ℤ Q -ℤ line E i) Q a.exact.third.positive (carried (λ v e. Within (pos (limit κ) *ℤ Q)
        (pos 2 *ℤ (v *ℤ Q -ℤ e))) (straightened-near hW hH outer in_range a.exact) i l)
      where
        size : (κ : Kernel) (x Q : ℤ) → pos 0 <ℤ Q → Within (pos (limit κ) *ℤ Q) (pos 2 *ℤ x) → 2 * nat_abs x ≤ limit κ * nat_abs Q
        size Linear = all2 _ (simp bridge (omega arith))
        size Keys = all2 _ (simp bridge (omega arith))
        size Spline = all2 _ (simp bridge (omega arith))

    -- 64·|v·Q - E| ≤ 96·Q, 122·Q or 624·Q, that is 3/2, 61/32 and 39/4 units
    pub straighten_sharp : (i : ℕ) → i < W * H
        → 64 * nat_abs (line (straighten β κ W H rows columns s) i *ℤ Q -ℤ line E i) ≤ sharp κ * nat_abs Q
    straighten_sharp i l =
        size κ (line (straighten β κ W H rows columns s) i *ℤ Q -ℤ line E i) Q a.exact.third.positive
        (carried (λ v e. Within (pos (sharp κ) *ℤ Q) (pos 64 *ℤ (v *ℤ Q -ℤ e))) (straightened_sharp hW hH outer in_range a.exact) i l)
      where
        size : (κ : Kernel) (x Q : ℤ) → pos 0 <ℤ Q → Within (pos (sharp κ) *ℤ Q) (pos 64 *ℤ x) → 64 * nat_abs x ≤ sharp κ * nat_abs Q
        size Linear = all2 _ (simp bridge (omega arith))
        size Keys = all2 _ (simp bridge (omega arith))
        size Spline = all2 _ (simp bridge (omega arith))

    -- v·Q = E where every line moves by whole places, and for one grey
    equal_at : Equal W H (straightened β κ W H rows columns (picture W s)) (pos 1) (picture W E) Q → (i : ℕ) → i < W * H
        → line (straighten β κ W H rows columns s) i *ℤ Q ≡ line E i
    equal_at e i l = carried (λ v e. v *ℤ Q ≡ e *ℤ pos 1) e.place i l ∙ once (line E i)
      where
        once : (x : ℤ) → x *ℤ pos 1 ≡ x
        once = all1 _ (simp bridge (omega arith))

    pub straighten-whole : ((y : ℕ) → y < H → fraction (rows y) ≡ 0) → ((x : ℕ) → x < W → fraction (columns x) ≡ 0) → (i : ℕ) → i < W * H
        → line (straighten β κ W H rows columns s) i *ℤ Q ≡ line E i
    straighten-whole hr hc = equal_at (exact_whole hW hH outer in_range a.exact hr hc)

    pub straighten-grey : (g : ℤ) → Agrees β g → ((i : ℕ) → i < W * H → line s i ≡ g) → (i : ℕ) → i < W * H
        → line (straighten β κ W H rows columns s) i *ℤ Q ≡ line E i
    unfolding picture
    straighten-grey g agrees grey =
        equal_at (exact_grey hW hH outer in_range a.exact g agrees (λ y x hy hx. grey (y * W + x) (inside W H y x hy hx)))
