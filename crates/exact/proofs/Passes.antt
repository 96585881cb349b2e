-- The three passes against the exact picture: there is one, its fractions are determined, and the straightened picture is within
-- 3/2, 2 or 10 of it by kernel; it is exact for a picture of one grey, and where every line moves by whole places.
-- Assumes nothing.
use mathlib.Core.Path.{◌≡◌, refl, subst}
use Prim.Native.Nat.{ℕ, ◌≤◌, ◌<◌}
use native.Mathlib.Omega.{arith}
use lib.IntN.{ℤ, pos, ◌+ℤ◌, ◌-ℤ◌, ◌*ℤ◌}
use lib.Signed.{◌≤ℤ◌, ◌<ℤ◌, le_z_yes, lt_z_yes}
use Rattle.arith.proofs.Bridge.{bridge, all3}
use Rattle.arith.proofs.Within.{Within}
use Rattle.settings.specs.declared.Border.{Border}
use Rattle.kernels.specs.declared.Kernel.{Kernel}
use Rattle.kernels.specs.declared.Kernel.TheVariants.{Linear, Keys, Spline}
use Rattle.arith.specs.Move.{fraction}
use Rattle.moves.specs.Border.{grey}
use Rattle.moves.proofs.Reach.{reach}
use Rattle.exact.specs.ExactLine.{ExactMove}
use Rattle.exact.proofs.Step.{itself, base, growth}
use Rattle.exact.proofs.Border.{over_in, numbers_in, exact_move, over_in_positive, exact_move_only, move-near, whole-move, Agrees, grey-move, bordered-grey, shift_move}
use Rattle.exact.specs.Limits.{limit}
use Rattle.lists.specs.Picture.{Picture, Places}
use Rattle.passes.specs.Picture.{turned, rows_moved, after_one, after_two, straightened}
use Rattle.passes.proofs.Reach.{Ranged, turn_ranged, row_small, grey_small, reach_fits, outer₁, outer₂, range₁, range₂}
use Rattle.exact.specs.ExactPicture.{ExactRows, ExactPicture}

-- ---- existence
exact_rows : (β : Border) (κ : Kernel) (W H : ℕ) (move : ℕ → ℤ) (S : Picture) (q : ℤ) → 0 < W → pos 0 <ℤ q
    → ExactRows β κ W H move S q (λ y. numbers_in β κ W (move y) (S y) q) (over_in β κ W q)
exact_rows β κ W H move S q h hq = record { positive = over_in_positive β κ W q h hq; row = λ y l. exact_move β κ W (move y) (S y) q h hq }

module _ (β : Border) (κ : Kernel) (W H : ℕ) (rows columns : ℕ → ℤ) where
  -- after each pass
  unfoldable pub E_one : Picture → Picture
  E_one X y = numbers_in β κ W (rows y) (X y) (pos 1)

  unfoldable pub E_two : Picture → Picture
  E_two X y x = numbers_in β κ H (columns x) (turned (E_one X) x) (over_in β κ W (pos 1)) y

  unfoldable pub exact_numbers : Picture → Picture
  exact_numbers X y = numbers_in β κ W (rows y) (E_two X y) (over_in β κ H (over_in β κ W (pos 1)))

  unfoldable pub exact_denominator : ℤ
  exact_denominator = over_in β κ W (over_in β κ H (over_in β κ W (pos 1)))

  pub exact_picture : (X : Picture) → 0 < W → 0 < H → ExactPicture β κ W H rows columns X (exact_numbers X) exact_denominator
  unfolding E_one E_two exact_numbers exact_denominator
  exact_picture X hW hH =
      record {
        E₁ = E_one X;
        Q₁ = over_in β κ W (pos 1);
        E₂ = E_two X;
        Q₂ = over_in β κ H (over_in β κ W
            (pos 1));
        first = one;
        second = two;
        third = exact_rows β κ W H rows (E_two X) (over_in β κ H (over_in β κ W (pos 1))) hW two.positive;
      }
    where
      one : ExactRows β κ W H rows X (pos 1) (E_one X) (over_in β κ W (pos 1))
      one = exact_rows β κ W H rows X (pos 1) hW (lt_z_yes tt)

      two : ExactRows β κ H W columns (turned (E_one X)) (over_in β κ W (pos 1)) (turned (E_two X)) (over_in β κ H (over_in β κ W (pos 1)))
      two = exact_rows β κ H W columns (turned (E_one X)) (over_in β κ W (pos 1)) hH one.positive

-- ---- what is said of all places of a picture: nearness to fractions, equality of fractions. Each may be turned
record Close (W H : ℕ) (m e : ℤ) (X S : Picture) (q : ℤ) : Type 0 where
  place : Places W H (λ y x. Within (e *ℤ q) (m *ℤ (X y x *ℤ q -ℤ S y x)))

pub record Equal (W H : ℕ) (S : Picture) (q : ℤ) (S' : Picture) (q' : ℤ) : Type 0 where
  pub place : Places W H (λ y x. S y x *ℤ q' ≡ S' y x *ℤ q)

turn-close : {W H : ℕ} {m e q : ℤ} {X S : Picture} → Close W H m e X S q → Close H W m e (turned X) (turned S) q
turn-close c = record { place = λ x y hx hy. c.place y x hy hx }

turn_equal : {W H : ℕ} {q q' : ℤ} {S S' : Picture} → Equal W H S q S' q' → Equal H W (turned S) q (turned S') q'
turn_equal e = record { place = λ x y hx hy. e.place y x hy hx }

-- ---- one pass over rows, of samples in a line's range
rows-grey : (β : Border) (κ : Kernel) {W H : ℕ} (move : ℕ → ℤ) {X : Picture} (M : ℕ) (g : ℤ) → 0 < W → M ≤ 294912 → Within (pos M) (grey β) → Ranged W H M X → Agrees β g
    → Places W H (λ y x. X y x ≡ g) → Places W H (λ y x. rows_moved β κ W move X y x ≡ g)
unfolding rows_moved
rows-grey β κ move M g h fits outer range agrees grey y x hy hx = bordered-grey β h (grey_small β fits outer) (row_small fits range y hy) κ (move y) g agrees (λ k l. grey y k hy l) x hx

module _ {β : Border} {κ : Kernel} {W H : ℕ} {move : ℕ → ℤ} (h : 0 < W) where
  rows_same : {S S' E E' : Picture} {q q' Z Z' : ℤ} → pos 0 <ℤ q → pos 0 <ℤ q' → Equal W H S q S' q' → ExactRows β κ W H move S q E Z
      → ExactRows β κ W H move S' q' E' Z' → Equal W H E Z E' Z'
  rows_same hq hq' same a a' =
      record {
        place = λ y x hy hx. (exact_move_only h hq hq' (record { place = λ k l. same.place y k hy l }) (a.row y hy)
            (a'.row y hy)).place x hx;
      }

  rows-close : {S E X : Picture} {q Z : ℤ} (M : ℕ) (m e : ℤ) → M ≤ 294912 → Within (pos M) (grey β) → pos 0 ≤ℤ m → pos 0 <ℤ q → Ranged W H M X → Close W H m e X S q
      → ExactRows β κ W H move S q E Z → Close W H (pos 4 *ℤ m) (pos (base κ) *ℤ m +ℤ pos (growth κ) *ℤ e) (rows_moved β κ W move X) E Z
  unfolding rows_moved
  rows-close M m e fits outer hm hq range near a =
      record {
        place = λ y x hy hx. (move-near m e h (row_small fits range y hy) hq hm (record { place = λ k l. near.place y k hy l }) β (grey_small β fits outer) κ (move y)
            a.positive (a.row y hy)).place x hx;
      }

  -- where each row's exact line is whole
  rows_whole : {X S E G : Picture} {q Z : ℤ} (M : ℕ) → M ≤ 294912 → Within (pos M) (grey β) → pos 0 <ℤ q → Ranged W H M X
      → ((y : ℕ) → y < H → ExactMove β κ W (move y) (X y) (pos 1) (G y) (pos 1)) → Equal W H X (pos 1) S q → ExactRows β κ W H move S q E Z
      → Equal W H (rows_moved β κ W move X) (pos 1) E Z
  unfolding rows_moved
  rows_whole M fits outer hq range whole same a =
      record {
        place = λ y x hy hx. (whole-move h (grey_small β fits outer) (row_small fits range y hy) hq (whole y hy) (record { place = λ k l. same.place y k hy l })
            (a.row y hy)).place x hx;
      }

-- ---- three passes
-- 64 times the limit that three steps of `line-near` give: 3/2, 61/32 and 39/4
abbrev pub sharp : Kernel → ℕ
sharp Linear = 96
sharp Keys = 122
sharp Spline = 624

sharp_is : (κ : Kernel)
    → pos (base κ) *ℤ pos 16 +ℤ pos (growth κ) *ℤ (pos (base κ) *ℤ pos 4 +ℤ pos (growth κ) *ℤ (pos (base κ) *ℤ pos 1 +ℤ pos (growth κ) *ℤ pos 0))
    ≡ pos (sharp κ)
sharp_is Linear = refl
sharp_is Keys = refl
sharp_is Spline = refl

module _ {β : Border} {κ : Kernel} {W H : ℕ} {rows columns : ℕ → ℤ} (hW : 0 < W) (hH : 0 < H) where
  -- the fractions are determined
  pub exact_picture_only : {X E E' : Picture} {Q Q' : ℤ} → ExactPicture β κ W H rows columns X E Q → ExactPicture β κ W H rows columns X E' Q'
      → Equal W H E Q E' Q'
  exact_picture_only a b =
      rows_same hW a.second.positive b.second.positive (turn_equal (rows_same hH a.first.positive b.first.positive
      (turn_equal (rows_same hW (lt_z_yes tt) (lt_z_yes tt) (record { place = λ y x hy hx. refl }) a.first b.first)) a.second b.second))
      a.third b.third

  -- ---- the limits
  module _ {X E : Picture} {Q : ℤ} (outer : Within (pos 32767) (grey β)) (range : Places W H (λ y x. Within (pos 32767) (X y x))) (a : ExactPicture β κ W H rows columns X E Q) where
    fits : (reach κ 32767 ≤ 294912) × (reach κ (reach κ 32767) ≤ 294912) × (reach κ (reach κ (reach κ 32767)) ≤ 1048576)
    fits = reach_fits κ 32767 (omega arith)

    once : Ranged W H (reach κ 32767) (after_one β κ W rows X)
    once = range₁ β κ rows columns hW hH 32767 (omega arith) outer range

    twice : Ranged W H (reach κ (reach κ 32767)) (after_two β κ W H rows columns X)
    twice = range₂ β κ rows columns hW hH 32767 (omega arith) outer range

    -- at every place |v·Q - E| ≤ 3/2·Q, 61/32·Q or 39/4·Q
    pub straightened_sharp : Places W H (λ y x. Within (pos (sharp κ) *ℤ Q) (pos 64 *ℤ (straightened β κ W H rows columns X y x *ℤ Q -ℤ E y x)))
    straightened_sharp y x hy hx =
        subst (λ b. Within (b *ℤ Q) (pos 64 *ℤ (straightened β κ W H rows columns X y x *ℤ Q -ℤ E y x))) (sharp_is κ) (close₃.place y x hy hx)
      where
        e₁ : ℤ
        e₁ = pos (base κ) *ℤ pos 1 +ℤ pos (growth κ) *ℤ pos 0

        e₂ : ℤ
        e₂ = pos (base κ) *ℤ pos 4 +ℤ pos (growth κ) *ℤ e₁

        close₁ : Close W H (pos 4) e₁ (after_one β κ W rows X) a.E₁ a.Q₁
        close₁ =
            rows-close hW 32767 (pos 1) (pos 0) (omega arith) outer (le_z_yes tt) (lt_z_yes tt) (record { place = range }) (record
            { place = λ y x hy hx. (itself W (X y)).place x hx }) a.first

        close₂ : Close W H (pos 16) e₂ (after_two β κ W H rows columns X) a.E₂ a.Q₂
        close₂ =
            turn-close (rows-close hH (reach κ 32767) (pos 4) e₁ fits.0 (outer₁ β κ 32767 outer) (le_z_yes tt) a.first.positive (turn_ranged once)
            (turn-close close₁) a.second)

        close₃ : Close W H (pos 64) (pos (base κ) *ℤ pos 16 +ℤ pos (growth κ) *ℤ e₂) (straightened β κ W H rows columns X) E Q
        close₃ = rows-close hW (reach κ (reach κ 32767)) (pos 16) e₂ fits.1 (outer₂ β κ 32767 outer) (le_z_yes tt) a.second.positive twice close₂ a.third

    -- so |v·Q - E| ≤ 3/2·Q, 2·Q or 10·Q
    pub straightened-near : Places W H (λ y x. Within (pos (limit κ) *ℤ Q) (pos 2 *ℤ (straightened β κ W H rows columns X y x *ℤ Q -ℤ E y x)))
    straightened-near y x hy hx = last κ (straightened β κ W H rows columns X y x) (E y x) Q a.third.positive (straightened_sharp y x hy hx)
      where
        last : (κ : Kernel) (v E Q : ℤ) → pos 0 <ℤ Q → Within (pos (sharp κ) *ℤ Q) (pos 64 *ℤ (v *ℤ Q -ℤ E))
            → Within (pos (limit κ) *ℤ Q) (pos 2 *ℤ (v *ℤ Q -ℤ E))
        last Linear = all3 _ (simp bridge (omega arith))
        last Keys = all3 _ (simp bridge (omega arith))
        last Spline = all3 _ (simp bridge (omega arith))

    -- ---- v·Q = E at every place, where the exact line of each row and column that is moved is whole
    exact_where_whole : {G₁ G₂ G₃ : Picture} → ((y : ℕ) → y < H → ExactMove β κ W (rows y) (X y) (pos 1) (G₁ y) (pos 1))
        → ((x : ℕ) → x < W → ExactMove β κ H (columns x) (turned (after_one β κ W rows X) x) (pos 1) (G₂ x) (pos 1))
        → ((y : ℕ) → y < H → ExactMove β κ W (rows y) (after_two β κ W H rows columns X y) (pos 1) (G₃ y) (pos 1))
        → Equal W H (straightened β κ W H rows columns X) (pos 1) E Q
    exact_where_whole w₁ w₂ w₃ =
        rows_whole hW (reach κ (reach κ 32767)) fits.1 (outer₂ β κ 32767 outer) a.second.positive twice w₃ (turn_equal (rows_whole hH (reach κ 32767)
        fits.0 (outer₁ β κ 32767 outer) a.first.positive (turn_ranged once) w₂
        (turn_equal (rows_whole hW 32767 (omega arith) outer (lt_z_yes tt) (record { place = range }) w₁ (record { place = λ y x hy hx. refl }) a.first))
        a.second)) a.third

    -- every line moves by whole places
    pub exact_whole : ((y : ℕ) → y < H → fraction (rows y) ≡ 0) → ((x : ℕ) → x < W → fraction (columns x) ≡ 0)
        → Equal W H (straightened β κ W H rows columns X) (pos 1) E Q
    exact_whole hr hc =
        exact_where_whole (λ y l. shift_move β κ W (rows y) _ (pos 1) hW (lt_z_yes tt) (hr y l)) (λ x l. shift_move β κ H (columns x) _ (pos 1) hH
        (lt_z_yes tt) (hc x l)) (λ y l. shift_move β κ W (rows y) _ (pos 1) hW (lt_z_yes tt) (hr y l))

    -- a picture of one grey, its background too
    pub exact_grey : (g : ℤ) → Agrees β g → Places W H (λ y x. X y x ≡ g) → Equal W H (straightened β κ W H rows columns X) (pos 1) E Q
    exact_grey g agrees grey =
        exact_where_whole (λ y l. grey-move β κ W (rows y) g _ hW agrees (λ x k. grey y x l k)) (λ x l. grey-move β κ H (columns x) g _ hH agrees
        (λ y k. grey₁ y x k l)) (λ y l. grey-move β κ W (rows y) g _ hW agrees (λ x k. grey₂ y x l k))
      where
        grey₁ : Places W H (λ y x. after_one β κ W rows X y x ≡ g)
        grey₁ = rows-grey β κ rows 32767 g hW (omega arith) outer (record { place = range }) agrees grey

        grey₂ : Places W H (λ y x. after_two β κ W H rows columns X y x ≡ g)
        grey₂ y x hy hx = rows-grey β κ columns (reach κ 32767) g hH fits.0 (outer₁ β κ 32767 outer) (turn_ranged once) agrees (λ x y hx hy. grey₁ y x hy hx) x y hx hy
