-- u and c in the places of a line's samples: what the code's loops keep (`Rising`, `Falling`), that the two runs give the coefficients
-- (`coefficients_in_place`), and how large those come. Assumes nothing.
use mathlib.Core.Path.{◌≡◌, refl, sym, ap, ap₂, ◌∙◌, subst}
use mathlib.Core.List.{List}
use Prim.Native.Nat.{ℕ, suc, ◌+◌, ◌*◌, ◌-◌, ◌%◌, ◌^◌, ◌≤◌, ◌<◌}
use native.Mathlib.Nat.{le_refl, mod-add-mod, add-mod_right}
use native.Mathlib.Numerals.{add-one}
use native.Mathlib.Omega.{arith}
use lib.Dec.{lit<, lit≤}
use lib.IntN.{ℤ, pos, nat_abs, ◌-ℤ◌, ◌*ℤ◌}
use lib.ListN.{length, get_or, set}
use lib.Signed.{mag}
use mir.Syntax.{w32, w64}
use mir.Val.{SFits, hbits, to_z, of_z}
use mir.Facts.{to_z-of_z}
use Rattle.arith.specs.Whole.{round}
use Rattle.arith.proofs.Machine.{read_back, sfits-nat_abs}
use Rattle.arith.proofs.Within.{Within, within_size, size_within}
use Rattle.lists.specs.Tab.{tab}
use Rattle.lists.specs.Line.{Line, wrap, line}
use Rattle.lists.proofs.Tab.{tab-length, tab_at, Filled, fill_start, fill_step, fill_end, fill_ahead, FilledDown, fill_down_start, fill_down_step, fill_down_end, fill_down_ahead}
use Rattle.lists.proofs.Cyclic.{wrap_own}
use Rattle.spline.specs.Coefficients.{P, T, run_in, run, u, down, back, v, scaled, coefficient, coefficients}
use Rattle.spline.proofs.Rules.{run_next, u-place, down_next, back_next, back_local}
use Rattle.spline.proofs.Sizes.{run_size, u_size, down_size, coefficient_size}
use Rattle.prefilter.specs.InPlace.{LineWithin, run_in_up, risen, run_in_down, fallen}

-- a list of samples within ±B
abbrev pub Bounded : ℕ → List ℤ → Type 0
Bounded B s = (k : ℕ) → k < length s → nat_abs (get_or s k (pos 0)) ≤ B

within : {B : ℕ} (s : List ℤ) → Bounded B s → (k : ℕ) → k < length s → Within (pos B) (line s k)
within {B} s bounded k l = size_within (line s k) B (bounded k l)

-- ---- the lists
pub risen-length : (s : List ℤ) → length (risen s) ≡ length s
unfolding risen
risen-length s = tab-length (u (length s) (line s)) (length s)

risen_at : (s : List ℤ) (k : ℕ) → k < length s → get_or (risen s) k (pos 0) ≡ u (length s) (line s) k
unfolding risen
risen_at s k l = tab_at (u (length s) (line s)) (length s) k (pos 0) l

pub risen_within : {s : List ℤ} → LineWithin 294912 s → LineWithin 6488065 (risen s)
risen_within {s} h = record {
  some = omega (arith, risen-length s, h.some);
  few = omega (arith, risen-length s, h.few);
  bounded = λ k l. let m : k < length s = omega (arith, risen-length s) in rw (risen_at s k m) (within_size (u (length s) (line s) k) 6488065 (u_size h.some (within s h.bounded) k));
}

pub coefficients-length : (s : List ℤ) → length (coefficients s) ≡ length s
unfolding coefficients
coefficients-length s = tab-length (coefficient (length s) (line s)) (length s)

-- 48·294,912 + 3
pub coefficients_size : (s : List ℤ) → 0 < length s → Bounded 294912 s → Bounded 14155779 (coefficients s)
unfolding coefficients
coefficients_size s h bounded k l =
    let m : k < length s = omega (arith, coefficients-length s) in
    rw (tab_at (coefficient (length s) (line s)) (length s) k (pos 0) m)
    (within_size (coefficient (length s) (line s) k) 14155779 (coefficient_size h (within s bounded) k m))

-- u in the places of the samples, and c in the places of u
pub coefficients_in_place : (s : List ℤ) → 0 < length s → fallen (risen s) ≡ coefficients s
unfolding fallen coefficients coefficient v
coefficients_in_place s h =
    rw (risen-length s) (ap (λ (b : Line). tab (λ k. scaled (b k)) (length s)) (back_local h (λ k l. risen_at s k l)))

-- ---- the run-ins: the places that they read, and their values
pub place_after : (n k j : ℕ) → j ≡ (run_in * (n - 1) + k) % n → (j + 1) % n ≡ (run_in * (n - 1) + (k + 1)) % n
place_after n k j e = rw e (mod-add-mod (run_in * (n - 1) + k) n 1 ∙ ap (λ (i : ℕ). i % n) (next (run_in * (n - 1)) k))
  where
    next : (r k : ℕ) → r + k + 1 ≡ r + (k + 1)
    next r k = omega arith

pub place_prior : (n k j : ℕ) → 0 < n → k < run_in → j ≡ (n + run_in - suc k) % n → (j + (n - 1)) % n ≡ (n + run_in - suc (k + 1)) % n
place_prior n k j h l e =
    rw e (mod-add-mod (n + run_in - suc k) n (n - 1) ∙ ap (λ (i : ℕ). i % n) (next n k h l) ∙ add-mod_right (n + run_in - suc (k + 1)) n)
  where
    next : (n k : ℕ) → 0 < n → k < run_in → n + run_in - suc k + (n - 1) ≡ n + run_in - suc (k + 1) + n
    next n k h l = omega arith

pub run-turn : (s : List ℤ) (k j : ℕ) (x y : ℤ) → j ≡ (run_in * (length s - 1) + k) % length s → x ≡ run (length s) (line s) k
    → y ≡ pos 16 *ℤ get_or s j (pos 0) -ℤ round (pos P *ℤ x) T → y ≡ run (length s) (line s) (k + 1)
unfolding wrap
run-turn s k j x y ej ex ey = ey ∙ rw (ej, ex, add-one k) (sym (run_next (length s) (line s) k))

pub down_turn : (f : List ℤ) (k j : ℕ) (x y : ℤ) → j ≡ (length f + run_in - suc k) % length f → x ≡ down (length f) (line f) k
    → y ≡ get_or f j (pos 0) -ℤ round (pos P *ℤ x) T → y ≡ down (length f) (line f) (k + 1)
unfolding wrap
down_turn f k j x y ej ex ey = ey ∙ rw (ej, ex, add-one k) (sym (down_next (length f) (line f) k))

pub run_small : (s : List ℤ) → 0 < length s → Bounded 294912 s → (j : ℕ) → nat_abs (run (length s) (line s) j) ≤ 6488065
run_small s h bounded j = within_size (run (length s) (line s) j) 6488065 (run_size h (within s bounded) j)

pub down_small : (f : List ℤ) → 0 < length f → Bounded 6488065 f → (j : ℕ) → nat_abs (down (length f) (line f) j) ≤ 9142272
down_small f h bounded j = within_size (down (length f) (line f) j) 9142272 (down_size h (within f bounded) j)

-- ---- what the code's run-ins ask of a turn, and what it leaves; a place is read as a number of 32 bits, and a value computed as one of 64
place_read : {B : ℕ} {s : List ℤ} → B ≤ 6488065 → LineWithin B s → (j : ℕ) → j < length s → to_z w32 (of_z w32 (get_or s j (pos 0))) ≡ get_or s j (pos 0)
place_read {s = s} b h j l = to_z-of_z {w = w32} (sfits-nat_abs (get_or s j (pos 0)) {n = 6488065} (omega (arith, h.bounded j l)) (lit< tt))

module _ {s : List ℤ} (h : LineWithin 294912 s) (k j : ℕ) (x : ℤ) (l : j < length s) (ex : x ≡ run (length s) (line s) k) where
  pub run_asks : (nat_abs (to_z w32 (of_z w32 (get_or s j (pos 0)))) ≤ 294912) × (nat_abs x ≤ 6488065)
  run_asks = (rw (place_read (lit≤ tt) h j l) (h.bounded j l), rw ex (run_small s h.some h.bounded k))

  pub run_leaves : j ≡ (run_in * (length s - 1) + k) % length s → (y : ℤ) → mag y < 2 ^ hbits w64
      → y ≡ pos 16 *ℤ to_z w32 (of_z w32 (get_or s j (pos 0))) -ℤ round (pos P *ℤ x) T → to_z w64 (of_z w64 y) ≡ run (length s) (line s) (k + 1)
  run_leaves ej y f e = read_back w64 y f ∙ run-turn s k j x y ej ex (rw (place_read (lit≤ tt) h j l) at e)

module _ {u : List ℤ} (h : LineWithin 6488065 u) (k j : ℕ) (x : ℤ) (l : j < length u) (ex : x ≡ down (length u) (line u) k) where
  pub down_asks : (nat_abs (to_z w32 (of_z w32 (get_or u j (pos 0)))) ≤ 6488065) × (nat_abs x ≤ 9142272)
  down_asks = (rw (place_read (lit≤ tt) h j l) (h.bounded j l), rw ex (down_small u h.some h.bounded k))

  pub down_leaves : j ≡ (length u + run_in - suc k) % length u → (y : ℤ) → mag y < 2 ^ hbits w64
      → y ≡ to_z w32 (of_z w32 (get_or u j (pos 0))) -ℤ round (pos P *ℤ x) T → to_z w64 (of_z w64 y) ≡ down (length u) (line u) (k + 1)
  down_leaves ej y f e = read_back w64 y f ∙ down_turn u k j x y ej ex (rw (place_read (lit≤ tt) h j l) at e)

-- ---- upward over the samples s: x is u(k - 1), and t has u in its first k places
pub record Rising (s : List ℤ) (k : ℕ) (x : ℤ) (t : List ℤ) : Type 0 where
  pub carried : x ≡ run (length s) (line s) (run_in + k)
  pub filled : Filled (u (length s) (line s)) s k t

u-run : (N : ℕ) (f : Line) (k : ℕ) → u N f k ≡ run N f (run_in + (k + 1))
unfolding u
u-run N f k = ap (run N f) (omega arith)

pub rising_start : (s : List ℤ) (x : ℤ) → mag x < 2 ^ hbits w64 → x ≡ run_in_up s → Rising s 0 (to_z w64 (of_z w64 x)) s
unfolding run_in_up
rising_start s x f e = record { carried = read_back w64 x f ∙ e; filled = fill_start (u (length s) (line s)) s }

pub rising_end : {s : List ℤ} {k : ℕ} {x : ℤ} {t : List ℤ} → Rising s k x t → k ≡ length s → t ≡ risen s
unfolding risen
rising_end {s} {k} {x} {t} r e = fill_end (u (length s) (line s)) s k t r.filled (omega arith) ∙ ap (tab (u (length s) (line s))) e

rising_small : {s : List ℤ} {k : ℕ} {x : ℤ} {t : List ℤ} → LineWithin 294912 s → Rising s k x t → nat_abs x ≤ 6488065
rising_small {s} {k} h r = rw r.carried (run_small s h.some h.bounded (run_in + k))

-- a turn at place k
module _ {s : List ℤ} (h : LineWithin 294912 s) {k : ℕ} {x : ℤ} {t : List ℤ} (l : k < length s) (r : Rising s k x t) where
  -- what is read is a sample
  rising_read : get_or t k (pos 0) ≡ get_or s k (pos 0)
  rising_read = fill_ahead (u (length s) (line s)) s k t k (pos 0) r.filled (le_refl k)

  rising_sample : to_z w32 (of_z w32 (get_or t k (pos 0))) ≡ get_or s k (pos 0)
  rising_sample = rw rising_read (place_read (lit≤ tt) h k l)

  pub rising_asks : (nat_abs (to_z w32 (of_z w32 (get_or t k (pos 0)))) ≤ 294912) × (nat_abs x ≤ 6488065)
  rising_asks = (rw rising_sample (h.bounded k l), rising_small h r)

  module _ (y : ℤ) (f : mag y < 2 ^ hbits w64) (e : y ≡ pos 16 *ℤ to_z w32 (of_z w32 (get_or t k (pos 0))) -ℤ round (pos P *ℤ x) T) where
    rising_value : to_z w64 (of_z w64 y) ≡ u (length s) (line s) k
    rising_value =
        read_back w64 y f ∙ e ∙ ap₂ (λ a b. pos 16 *ℤ a -ℤ round (pos P *ℤ b) T) rising_sample r.carried
        ∙ sym (u-place (length s) (line s) k l)

    rising_set : (w : ℤ) → w ≡ to_z w64 (of_z w64 y) → Rising s (k + 1) (to_z w64 (of_z w64 y)) (set t k w)
    rising_set w e' =
        record {
          carried = rising_value ∙ u-run (length s) (line s) k;
          filled = fill_step (u (length s) (line s)) s k t w r.filled l (e' ∙ rising_value);
        }

    -- u fits the sample's place
    pub rising_fits : SFits w32 (to_z w64 (of_z w64 y))
    rising_fits = sfits-nat_abs _ (rising_small h (rising_set _ refl)) (lit< tt)

    pub rising_next : Rising s (k + 1) (to_z w64 (of_z w64 y)) (set t k (to_z w32 (of_z w32 (to_z w64 (of_z w64 y)))))
    rising_next = rising_set _ (to_z-of_z rising_fits)

-- ---- downward over f: x is the value at k, and t has the scaled values in its places from k on
abbrev fallen_at : List ℤ → Line
fallen_at f k = scaled (back (length f) (line f) k)

pub record Falling (f : List ℤ) (k : ℕ) (x : ℤ) (t : List ℤ) : Type 0 where
  pub carried : x ≡ back (length f) (line f) k
  pub filled : FilledDown (fallen_at f) (length f) f k t

less_one : (k : ℕ) → 0 < k → k ≡ suc (k - 1)
less_one k h = omega arith

pub falling_start : (f : List ℤ) (n : ℕ) (x : ℤ) → length f ≡ n → mag x < 2 ^ hbits w64 → x ≡ run_in_down f → Falling f n (to_z w64 (of_z w64 x)) f
unfolding back run_in_down
falling_start f n x e b ex =
    rw (← e)
    record { carried = read_back w64 x b ∙ ex ∙ ap (down (length f) (line f)) (all (length f)); filled = fill_down_start (fallen_at f) (length f) f }
  where
    all : (n : ℕ) → run_in ≡ n + run_in - n
    all n = omega arith

pub falling_end : {f : List ℤ} {k : ℕ} {x : ℤ} {t : List ℤ} → Falling f k x t → k ≤ 0 → t ≡ fallen f
unfolding fallen
falling_end {f} {k} {x} {t} r h = fill_down_end (fallen_at f) (length f) f k t r.filled h (le_refl (length f))

falling_small : {f : List ℤ} {k : ℕ} {x : ℤ} {t : List ℤ} → LineWithin 6488065 f → Falling f k x t → nat_abs x ≤ 9142272
unfolding back
falling_small {f} {k} h r = rw r.carried (down_small f h.some h.bounded (length f + run_in - k))

-- a turn at place k - 1
module _ {f : List ℤ} (h : LineWithin 6488065 f) {k : ℕ} {x : ℤ} {t : List ℤ} (some : 0 < k) (l : k ≤ length f) (r : Falling f k x t) where
  -- what is read is a value of f
  falling_read : get_or t (k - 1) (pos 0) ≡ get_or f (k - 1) (pos 0)
  falling_read = fill_down_ahead (fallen_at f) (length f) f (le_refl (length f)) k t (k - 1) (pos 0) r.filled (omega arith) l

  own : nat_abs (get_or f (k - 1) (pos 0)) ≤ 6488065
  own = h.bounded (k - 1) (omega arith)

  falling_sample : to_z w32 (of_z w32 (get_or t (k - 1) (pos 0))) ≡ get_or f (k - 1) (pos 0)
  falling_sample = rw falling_read (place_read (lit≤ tt) h (k - 1) (omega arith))

  pub falling_asks : (nat_abs (to_z w32 (of_z w32 (get_or t (k - 1) (pos 0)))) ≤ 6488065) × (nat_abs x ≤ 9142272)
  falling_asks = (rw falling_sample own, falling_small h r)

  module _ (y : ℤ) (b : mag y < 2 ^ hbits w64) (e : y ≡ to_z w32 (of_z w32 (get_or t (k - 1) (pos 0))) -ℤ round (pos P *ℤ x) T) where
    falling_value : to_z w64 (of_z w64 y) ≡ back (length f) (line f) (k - 1)
    falling_value =
        read_back w64 y b ∙ e ∙ ap₂ (λ a b. a -ℤ round (pos P *ℤ b) T) (falling_sample ∙ sym (wrap_own (length f) (line f) (k - 1) (omega arith)))
        (r.carried ∙ ap (back (length f) (line f)) (less_one k some))
        ∙ sym (back_next (length f) (line f) (k - 1) (omega arith))

    falling_set : (w : ℤ) → w ≡ scaled (to_z w64 (of_z w64 y)) → Falling f (k - 1) (to_z w64 (of_z w64 y)) (set t (k - 1) w)
    falling_set w e' =
        record {
          carried = falling_value;
          filled =
              fill_down_step (fallen_at f) (length f) f (le_refl (length f)) (k - 1) t w
              (subst (λ (i : ℕ). FilledDown (fallen_at f) (length f) f i t) (less_one k some) r.filled) (omega arith) (e' ∙ ap scaled falling_value);
        }

    -- it may be scaled
    pub falling_size : nat_abs (to_z w64 (of_z w64 y)) ≤ 9142272
    falling_size = falling_small h (falling_set _ refl)

    pub falling_next : (w : ℤ) → mag w < 2 ^ hbits w32 → w ≡ scaled (to_z w64 (of_z w64 y))
        → Falling f (k - 1) (to_z w64 (of_z w64 y)) (set t (k - 1) (to_z w32 (of_z w32 w)))
    falling_next w c e' = falling_set _ (read_back w32 w c ∙ e')
