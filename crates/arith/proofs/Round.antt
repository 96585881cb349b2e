-- Division of an integer by a positive number m, rounded down, `floor z m`, and to the nearest with halves upward,
-- `round p r` = [p/r] = ⌊(2p + r) / (2r)⌋. Each is the one number within its bounds: `Floor z m q` and `Rounded p r q` are those
-- bounds, so an equation is proved by bounds alone (`floor_only`, `round_only`), and used through them (`floor_is`, `round_is`).
-- The machine's `>>` is `floor` at a power of two (`shr-floor`), its `/` is `floor` at no negative dividend (`quot-floor`).
-- Assumes nothing.
use mathlib.Core.Path.{◌≡◌, refl, sym, ap, ap₂, ◌∙◌, subst}
use Prim.Native.Nat.{ℕ, zero, suc, ◌+◌, ◌*◌, ◌-◌, ◌/◌, ◌%◌, ◌≤◌, ◌<◌}
use native.Mathlib.Nat.{div-add-mod, mod-lt, mul-le-mul_left, mul-lt-mul_of_pos_left, mul-pos, zero-div}
use native.Mathlib.Omega.{arith}
use lib.IntN.{ℤ, pos, negsuc, neg_ℤ, nat_abs, ◌+ℤ◌, ◌-ℤ◌, ◌*ℤ◌, +ℤ_idr}
use lib.Signed.{◌≤ℤ◌, ◌<ℤ◌, shr_z, quot_z, rem_z, ≤ℤ_refl}
use Rattle.std.specs.Int.{int_div_euclid, int_rem_euclid}
use Rattle.arith.specs.Whole.{floor, remainder, round}
use Rattle.arith.proofs.Bridge.{bridge, all1, all2, all3, all4}
use Rattle.arith.proofs.Laws.{≤ℤ_antisym, ≤ℤ_of_<ℤ, pos_non_neg, positive, *ℤ_cancel_<ℤ}

-- ---- rounded down
pub record Floor (z : ℤ) (m : ℕ) (q : ℤ) : Type 0 where
  pub lower : (pos m *ℤ q) ≤ℤ z
  pub upper : z <ℤ (pos m *ℤ q +ℤ pos m)

pub floor_is : (z : ℤ) (m : ℕ) → 0 < m → Floor z m (floor z m)
unfolding floor
floor_is (pos a) m h = record {
  lower = simp bridge (omega (arith, div-add-mod a m, mod-lt a h));
  upper = simp bridge (omega (arith, div-add-mod a m, mod-lt a h));
}
floor_is (negsuc a) m h = record {
  lower = simp bridge (omega (arith, div-add-mod a m, mod-lt a h));
  upper = simp bridge (omega (arith, div-add-mod a m, mod-lt a h));
}

-- a quotient is not above another's, if its number is not
pub floor_order : {z z' q q' : ℤ} {m : ℕ} → 0 < m → z ≤ℤ z' → Floor z m q → Floor z' m q' → q ≤ℤ q'
floor_order {z} {z'} {q} {q'} {m} h le f f' = down q q' (*ℤ_cancel_<ℤ m h (gap z z' q q' m le f.lower f'.upper))
  where
    gap : (z z' q q' : ℤ) (m : ℕ) → z ≤ℤ z' → (pos m *ℤ q) ≤ℤ z → z' <ℤ (pos m *ℤ q' +ℤ pos m) → (pos m *ℤ q) <ℤ (pos m *ℤ (q' +ℤ pos 1))
    gap = all4 _ (simp bridge (omega arith))

    down : (q q' : ℤ) → q <ℤ (q' +ℤ pos 1) → q ≤ℤ q'
    down = all2 _ (simp bridge (omega arith))

pub floor_only : {z q : ℤ} {m : ℕ} → 0 < m → Floor z m q → floor z m ≡ q
floor_only {z} {q} {m} h f = ≤ℤ_antisym (floor_order h (≤ℤ_refl z) (floor_is z m h) f) (floor_order h (≤ℤ_refl z) f (floor_is z m h))

pub floor_mono : {z z' : ℤ} (m : ℕ) → 0 < m → z ≤ℤ z' → floor z m ≤ℤ floor z' m
floor_mono {z} {z'} m h le = floor_order h le (floor_is z m h) (floor_is z' m h)

pub floor_shift : (z k : ℤ) (m : ℕ) → 0 < m → floor (z +ℤ pos m *ℤ k) m ≡ floor z m +ℤ k
floor_shift z k m h = floor_only h (record { lower = low z k (floor z m) m (floor_is z m h).lower; upper = high z k (floor z m) m (floor_is z m h).upper })
  where
    low : (z k q : ℤ) (m : ℕ) → (pos m *ℤ q) ≤ℤ z → (pos m *ℤ (q +ℤ k)) ≤ℤ (z +ℤ pos m *ℤ k)
    low = all3 _ (simp bridge (omega arith))

    high : (z k q : ℤ) (m : ℕ) → z <ℤ (pos m *ℤ q +ℤ pos m) → (z +ℤ pos m *ℤ k) <ℤ (pos m *ℤ (q +ℤ k) +ℤ pos m)
    high = all3 _ (simp bridge (omega arith))

-- a factor of both cancels
pub floor-scale : (k : ℕ) (z : ℤ) (m : ℕ) → 0 < k → 0 < m → floor (pos k *ℤ z) (k * m) ≡ floor z m
floor-scale k z m hk hm =
    floor_only (mul-pos hk hm) (record { lower = low z (floor z m) k m (floor_is z m hm).lower; upper = high z (floor z m) k m hk (floor_is z m hm).upper })
  where
    low : (z q : ℤ) (k m : ℕ) → (pos m *ℤ q) ≤ℤ z → (pos (k * m) *ℤ q) ≤ℤ (pos k *ℤ z)
    low = all2 _ (simp bridge (λ a b c d k m h. omega (arith, mul-le-mul_left k h)))

    high : (z q : ℤ) (k m : ℕ) → 0 < k → z <ℤ (pos m *ℤ q +ℤ pos m) → (pos k *ℤ z) <ℤ (pos (k * m) *ℤ q +ℤ pos (k * m))
    high = all2 _ (simp bridge (λ a b c d k m hk h. omega (arith, mul-le-mul_left k h)))

pub floor_exact : (k : ℤ) (m : ℕ) → 0 < m → floor (pos m *ℤ k) m ≡ k
floor_exact k m h = floor_only h (record { lower = ≤ℤ_refl (pos m *ℤ k); upper = more (pos m *ℤ k) m h })
  where
    more : (x : ℤ) (m : ℕ) → 0 < m → x <ℤ (x +ℤ pos m)
    more = all1 _ (simp bridge (omega arith))

-- one division after another
pub floor-floor : (z : ℤ) (m n : ℕ) → 0 < m → 0 < n → floor (floor z m) n ≡ floor z (m * n)
floor-floor z m n hm hn =
    sym (floor_only (mul-pos hm hn) (record { lower = low z (floor z m) q m n f.lower g.lower; upper = high z (floor z m) q m n f.upper g.upper }))
  where
    q : ℤ
    q = floor (floor z m) n

    f : Floor z m (floor z m)
    f = floor_is z m hm

    g : Floor (floor z m) n q
    g = floor_is (floor z m) n hn

    low : (z p q : ℤ) (m n : ℕ) → (pos m *ℤ p) ≤ℤ z → (pos n *ℤ q) ≤ℤ p → (pos (m * n) *ℤ q) ≤ℤ z
    low = all3 _ (simp bridge (λ a b c d e f m n h k. omega (arith, mul-le-mul_left m k)))

    high : (z p q : ℤ) (m n : ℕ) → z <ℤ (pos m *ℤ p +ℤ pos m) → p <ℤ (pos n *ℤ q +ℤ pos n) → z <ℤ (pos (m * n) *ℤ q +ℤ pos (m * n))
    high = all3 _ (simp bridge (λ a b c d e f m n h k. omega (arith, mul-le-mul_left m k)))

-- ---- what is left over
-- -1 modulo 4 is 3
pub remainder-upward : remainder (negsuc 0) 4 ≡ 3
unfolding remainder floor
remainder-upward = refl

pub remainder_is : (z : ℤ) (m : ℕ) → 0 < m → (z ≡ pos m *ℤ floor z m +ℤ pos (remainder z m)) × (remainder z m < m)
unfolding remainder
remainder_is z m h = split z (pos m *ℤ floor z m) m (floor_is z m h).lower (floor_is z m h).upper
  where
    split : (z p : ℤ) (m : ℕ) → p ≤ℤ z → z <ℤ (p +ℤ pos m) → (z ≡ p +ℤ pos (nat_abs (z -ℤ p))) × (nat_abs (z -ℤ p) < m)
    split = all2 _ (simp bridge (omega arith))

pub division_only : (z q : ℤ) (m r : ℕ) → r < m → z ≡ pos m *ℤ q +ℤ pos r → (floor z m ≡ q) × (remainder z m ≡ r)
unfolding remainder
division_only z q m r h e = (quotient, left z (pos m *ℤ floor z m) (pos m *ℤ q) r e (ap (λ t. pos m *ℤ t) quotient))
  where
    low : (z p : ℤ) (m r : ℕ) → r < m → z ≡ p +ℤ pos r → p ≤ℤ z
    low = all2 _ (simp bridge (omega arith))

    high : (z p : ℤ) (m r : ℕ) → r < m → z ≡ p +ℤ pos r → z <ℤ (p +ℤ pos m)
    high = all2 _ (simp bridge (omega arith))

    left : (z p p' : ℤ) (r : ℕ) → z ≡ p' +ℤ pos r → p ≡ p' → nat_abs (z -ℤ p) ≡ r
    left = all3 _ (simp bridge (omega arith))

    quotient : floor z m ≡ q
    quotient = floor_only (omega arith) (record { lower = low z (pos m *ℤ q) m r h e; upper = high z (pos m *ℤ q) m r h e })

pub remainder_shift : (z k : ℤ) (m : ℕ) → 0 < m → remainder (z +ℤ pos m *ℤ k) m ≡ remainder z m
remainder_shift z k m h =
    let (e, small) = remainder_is z m h in
    (division_only (z +ℤ pos m *ℤ k) (floor z m +ℤ k) m (remainder z m) small (moved z k (floor z m) m (remainder z m) e)).1
  where
    moved : (z k q : ℤ) (m r : ℕ) → z ≡ pos m *ℤ q +ℤ pos r → z +ℤ pos m *ℤ k ≡ pos m *ℤ (q +ℤ k) +ℤ pos r
    moved = all3 _ (simp bridge (omega arith))

pub remainder-scale : (k : ℕ) (z : ℤ) (m : ℕ) → 0 < k → 0 < m → remainder (pos k *ℤ z) (k * m) ≡ k * remainder z m
remainder-scale k z m hk h =
    let (e, small) = remainder_is z m h in
    (division_only (pos k *ℤ z) (floor z m) (k * m) (k * remainder z m) (mul-lt-mul_of_pos_left small hk)
    (ap (λ t. pos k *ℤ t) e ∙ scaled (floor z m) k m (remainder z m))).1
  where
    scaled : (q : ℤ) (k m r : ℕ) → pos k *ℤ (pos m *ℤ q +ℤ pos r) ≡ pos (k * m) *ℤ q +ℤ pos (k * r)
    scaled = all1 _ (simp bridge (omega arith))

pub remainder_exact : (k : ℤ) (m : ℕ) → 0 < m → remainder (pos m *ℤ k) m ≡ 0
remainder_exact k m h = (division_only (pos m *ℤ k) k m 0 h (sym (+ℤ_idr (pos m *ℤ k)))).1

-- of a natural number it is ℕ's
pub remainder_natural : (a m : ℕ) → 0 < m → remainder (pos a) m ≡ a % m
remainder_natural a m h = (division_only (pos a) (pos (a / m)) m (a % m) (mod-lt a h) (simp bridge (omega (arith, div-add-mod a m)))).1

-- the library's quotient and remainder, of a division whose remainder is not negative
pub euclid-floor : (z m : ℤ) → pos 0 <ℤ m → int_div_euclid z m ≡ floor z (nat_abs m)
unfolding floor
euclid-floor (pos a) (pos m) h = refl
euclid-floor (negsuc a) (pos m) h = refl
euclid-floor (pos a) (negsuc m) h = absurd h.lt
euclid-floor (negsuc a) (negsuc m) h = absurd h.lt

pub euclid-remainder : (z m : ℤ) → pos 0 <ℤ m → int_rem_euclid z m ≡ pos (remainder z (nat_abs m))
euclid-remainder (pos a) (pos m) h = ap pos (sym (remainder_natural a m (positive m h)))
euclid-remainder (negsuc a) (pos m) h =
    let small = mod-lt a (positive m h) in
    ap pos (sym (division_only (negsuc a) (negsuc (a / m)) m (m - 1 - a % m) (omega (arith, small)) (simp bridge (omega (arith, div-add-mod a m, small)))).1)
euclid-remainder (pos a) (negsuc m) h = absurd h.lt
euclid-remainder (negsuc a) (negsuc m) h = absurd h.lt

-- k places on
pub remainder-add : (z : ℤ) (k m : ℕ) → 0 < m → (remainder z m + k) % m ≡ remainder (z +ℤ pos k) m
remainder-add z k m h =
    sym (remainder_natural (remainder z m + k) m h)
    ∙ sym (remainder_shift (pos (remainder z m + k)) (floor z m) m h)
    ∙ ap (λ t. remainder t m) (sym (regroup z (pos m *ℤ floor z m) k (remainder z m) (remainder_is z m h).0))
  where
    regroup : (z p : ℤ) (k r : ℕ) → z ≡ p +ℤ pos r → z +ℤ pos k ≡ pos (r + k) +ℤ p
    regroup = all2 _ (simp bridge (omega arith))

-- ---- to the nearest, halves upward
abbrev pub Rounded : ℤ → ℕ → ℤ → Type 0
Rounded p r q = Floor (pos 2 *ℤ p +ℤ pos r) (2 * r) q

double : {r : ℕ} → 0 < r → 0 < 2 * r
double h = omega arith

-- [1/2] = 1, [-1/2] = 0 and [-3/2] = -1
pub halves_upward : (round (pos 1) 2 ≡ pos 1) × (round (negsuc 0) 2 ≡ pos 0) × (round (negsuc 2) 2 ≡ negsuc 0)
unfolding round floor
halves_upward = (refl, refl, refl)

pub round_is : (p : ℤ) (r : ℕ) → 0 < r → Rounded p r (round p r)
unfolding round
round_is p r h = floor_is (pos 2 *ℤ p +ℤ pos r) (2 * r) (double h)

pub round_only : (p q : ℤ) (r : ℕ) → 0 < r → Rounded p r q → round p r ≡ q
unfolding round
round_only p q r h f = floor_only (double h) f

pub round_mono : {p p' : ℤ} (r : ℕ) → 0 < r → p ≤ℤ p' → round p r ≤ℤ round p' r
unfolding round
round_mono {p} {p'} r h le = floor_mono (2 * r) (double h) (twice p p' r le)
  where
    twice : (p p' : ℤ) (r : ℕ) → p ≤ℤ p' → (pos 2 *ℤ p +ℤ pos r) ≤ℤ (pos 2 *ℤ p' +ℤ pos r)
    twice = all2 _ (simp bridge (omega arith))

-- [(p + m·r)/r] = [p/r] + m
pub round_shift : (p m : ℤ) (r : ℕ) → 0 < r → round (p +ℤ pos r *ℤ m) r ≡ round p r +ℤ m
unfolding round
round_shift p m r h = ap (λ t. floor t (2 * r)) (twice p m r) ∙ floor_shift (pos 2 *ℤ p +ℤ pos r) m (2 * r) (double h)
  where
    twice : (p m : ℤ) (r : ℕ) → pos 2 *ℤ (p +ℤ pos r *ℤ m) +ℤ pos r ≡ pos 2 *ℤ p +ℤ pos r +ℤ pos (2 * r) *ℤ m
    twice = all2 _ (simp bridge (omega arith))

-- [kp/kr] = [p/r]
pub round-scale : (k : ℕ) (p : ℤ) (r : ℕ) → 0 < k → 0 < r → round (pos k *ℤ p) (k * r) ≡ round p r
unfolding round
round-scale k p r hk h = ap₂ floor (factor p k r) (swap k r) ∙ floor-scale k (pos 2 *ℤ p +ℤ pos r) (2 * r) hk (double h)
  where
    factor : (p : ℤ) (k r : ℕ) → pos 2 *ℤ (pos k *ℤ p) +ℤ pos (k * r) ≡ pos k *ℤ (pos 2 *ℤ p +ℤ pos r)
    factor = all1 _ (simp bridge (omega arith))

    swap : (k r : ℕ) → 2 * (k * r) ≡ k * (2 * r)
    swap k r = omega arith

-- exact where r divides p
pub round_exact : (m : ℤ) (r : ℕ) → 0 < r → round (pos r *ℤ m) r ≡ m
round_exact m r h = round_only (pos r *ℤ m) m r h (record { lower = low m r; upper = high m r h })
  where
    low : (m : ℤ) (r : ℕ) → (pos (2 * r) *ℤ m) ≤ℤ (pos 2 *ℤ (pos r *ℤ m) +ℤ pos r)
    low = all1 _ (simp bridge (omega arith))

    high : (m : ℤ) (r : ℕ) → 0 < r → (pos 2 *ℤ (pos r *ℤ m) +ℤ pos r) <ℤ (pos (2 * r) *ℤ m +ℤ pos (2 * r))
    high = all1 _ (simp bridge (omega arith))

-- bounds on p / r are bounds on [p/r]
pub round-between : {lo hi : ℤ} (p : ℤ) (r : ℕ) → 0 < r → (pos r *ℤ lo) ≤ℤ p → p ≤ℤ (pos r *ℤ hi) → (lo ≤ℤ round p r) × (round p r ≤ℤ hi)
round-between {lo} {hi} p r h low high =
    (subst (λ q. q ≤ℤ round p r) (round_exact lo r h) (round_mono r h low), subst (λ q. round p r ≤ℤ q) (round_exact hi r h) (round_mono r h high))

-- the error: 2·|r·[p/r] − p| ≤ r, and -r < 2·(r·[p/r] − p)
pub round_error : (p : ℤ) (r : ℕ) → 0 < r → 2 * nat_abs (pos r *ℤ round p r -ℤ p) ≤ r
round_error p r h = near p (round p r) r (round_is p r h).lower (round_is p r h).upper
  where
    near : (p q : ℤ) (r : ℕ) → (pos (2 * r) *ℤ q) ≤ℤ (pos 2 *ℤ p +ℤ pos r) → (pos 2 *ℤ p +ℤ pos r) <ℤ (pos (2 * r) *ℤ q +ℤ pos (2 * r))
        → 2 * nat_abs (pos r *ℤ q -ℤ p) ≤ r
    near = all2 _ (simp bridge (omega arith))

-- at a divisor that is an integer, as a machine integer is: 2·r·q ≤ 2p + r < 2·r·(q + 1) with q = round p (nat_abs r)
pub record Nearest (p r q : ℤ) : Type 0 where
  pub lower : (pos 2 *ℤ r *ℤ q) ≤ℤ (pos 2 *ℤ p +ℤ r)
  pub upper : (pos 2 *ℤ p +ℤ r) <ℤ (pos 2 *ℤ r *ℤ (q +ℤ pos 1))

pub nearest_is : (p r : ℤ) → pos 0 <ℤ r → Nearest p r (round p (nat_abs r))
nearest_is p (pos r) h = record { lower = low p (round p r) r f.lower; upper = high p (round p r) r f.upper }
  where
    f : Rounded p r (round p r)
    f = round_is p r (positive r h)

    low : (p q : ℤ) (r : ℕ) → (pos (2 * r) *ℤ q) ≤ℤ (pos 2 *ℤ p +ℤ pos r) → (pos 2 *ℤ pos r *ℤ q) ≤ℤ (pos 2 *ℤ p +ℤ pos r)
    low = all2 _ (simp bridge (omega arith))

    high : (p q : ℤ) (r : ℕ) → (pos 2 *ℤ p +ℤ pos r) <ℤ (pos (2 * r) *ℤ q +ℤ pos (2 * r)) → (pos 2 *ℤ p +ℤ pos r) <ℤ (pos 2 *ℤ pos r *ℤ (q +ℤ pos 1))
    high = all2 _ (simp bridge (omega arith))
nearest_is p (negsuc r) h = absurd h.lt

pub nearest_only : (p r q : ℤ) → pos 0 <ℤ r → Nearest p r q → round p (nat_abs r) ≡ q
nearest_only p (pos r) q h n = round_only p q r (positive r h) (record { lower = low p q r n.lower; upper = high p q r n.upper })
  where
    low : (p q : ℤ) (r : ℕ) → (pos 2 *ℤ pos r *ℤ q) ≤ℤ (pos 2 *ℤ p +ℤ pos r) → (pos (2 * r) *ℤ q) ≤ℤ (pos 2 *ℤ p +ℤ pos r)
    low = all2 _ (simp bridge (omega arith))

    high : (p q : ℤ) (r : ℕ) → (pos 2 *ℤ p +ℤ pos r) <ℤ (pos 2 *ℤ pos r *ℤ (q +ℤ pos 1)) → (pos 2 *ℤ p +ℤ pos r) <ℤ (pos (2 * r) *ℤ q +ℤ pos (2 * r))
    high = all2 _ (simp bridge (omega arith))
nearest_only p (negsuc r) q h n = absurd h.lt

-- without the doubling: add half of r, and round down
pub round-floor : (p : ℤ) (r : ℕ) → 0 < r → round p r ≡ floor (p +ℤ pos (r / 2)) r
round-floor p r h = round_only p q r h (record { lower = low p q r f.lower; upper = high p q r f.upper })
  where
    q : ℤ
    q = floor (p +ℤ pos (r / 2)) r

    f : Floor (p +ℤ pos (r / 2)) r q
    f = floor_is (p +ℤ pos (r / 2)) r h

    low : (p q : ℤ) (r : ℕ) → (pos r *ℤ q) ≤ℤ (p +ℤ pos (r / 2)) → (pos (2 * r) *ℤ q) ≤ℤ (pos 2 *ℤ p +ℤ pos r)
    low = all2 _ (simp bridge (omega arith))

    high : (p q : ℤ) (r : ℕ) → (p +ℤ pos (r / 2)) <ℤ (pos r *ℤ q +ℤ pos r) → (pos 2 *ℤ p +ℤ pos r) <ℤ (pos (2 * r) *ℤ q +ℤ pos (2 * r))
    high = all2 _ (simp bridge (omega arith))

-- ---- the machine's operations
pub shr-floor : (z : ℤ) (m : ℕ) → shr_z z m ≡ floor z m
unfolding floor
shr-floor z m = refl

-- `(p + r / 2) >> k` at r = 2 ^ k
pub shr-round : (p : ℤ) (r : ℕ) → 0 < r → shr_z (p +ℤ pos (r / 2)) r ≡ round p r
shr-round p r h = shr-floor (p +ℤ pos (r / 2)) r ∙ sym (round-floor p r h)

-- `/` rounds toward zero: down at no negative dividend, and up otherwise
pub quot-floor : (z : ℤ) (m : ℕ) → pos 0 ≤ℤ z → quot_z z (pos m) ≡ floor z m
unfolding floor
quot-floor (pos a) m h = refl
quot-floor (negsuc a) m h = absurd h.le

pub quot-floor-neg : (z : ℤ) (m : ℕ) → z ≤ℤ pos 0 → quot_z z (pos m) ≡ neg_ℤ (floor (neg_ℤ z) m)
unfolding floor
quot-floor-neg (pos zero) m h = rw zero-div
quot-floor-neg (pos (suc a)) m h = absurd (above a h)
  where
    above : (a : ℕ) → pos (suc a) ≤ℤ pos 0 → ⊥
    above = simp bridge (omega arith)
quot-floor-neg (negsuc a) m h = refl

-- and neither at a multiple of the divisor
pub quot_exact : (k : ℤ) (m : ℕ) → 0 < m → quot_z (pos m *ℤ k) (pos m) ≡ k
quot_exact (pos k) m h = quot-floor (pos m *ℤ pos k) m (pos_non_neg (m * k)) ∙ floor_exact (pos k) m h
quot_exact (negsuc k) m h =
    quot-floor-neg (pos m *ℤ negsuc k) m (below m k)
    ∙ ap neg_ℤ (ap (λ z. floor z m) (turned m k) ∙ floor_exact (pos (suc k)) m h)
  where
    below : (m k : ℕ) → (pos m *ℤ negsuc k) ≤ℤ pos 0
    below = simp bridge (omega arith)

    turned : (m k : ℕ) → neg_ℤ (pos m *ℤ negsuc k) ≡ pos m *ℤ pos (suc k)
    turned = simp bridge (omega arith)

-- rounded down at no positive dividend, by `/`: -((m - 1 - z) / m)
pub floor-quot-neg : (z : ℤ) (m : ℕ) → 0 < m → z ≤ℤ pos 0 → floor z m ≡ neg_ℤ (quot_z (pos (m - 1) -ℤ z) (pos m))
floor-quot-neg z m h le =
    floor_only h (record { lower = low z q m h f.upper; upper = high z q m h f.lower })
    ∙ ap neg_ℤ (sym (quot-floor (pos (m - 1) -ℤ z) m (non_neg z m le)))
  where
    q : ℤ
    q = floor (pos (m - 1) -ℤ z) m

    f : Floor (pos (m - 1) -ℤ z) m q
    f = floor_is (pos (m - 1) -ℤ z) m h

    non_neg : (z : ℤ) (m : ℕ) → z ≤ℤ pos 0 → pos 0 ≤ℤ (pos (m - 1) -ℤ z)
    non_neg = all1 _ (simp bridge (omega arith))

    low : (z q : ℤ) (m : ℕ) → 0 < m → (pos (m - 1) -ℤ z) <ℤ (pos m *ℤ q +ℤ pos m) → (pos m *ℤ neg_ℤ q) ≤ℤ z
    low = all2 _ (simp bridge (omega arith))

    high : (z q : ℤ) (m : ℕ) → 0 < m → (pos m *ℤ q) ≤ℤ (pos (m - 1) -ℤ z) → z <ℤ (pos m *ℤ neg_ℤ q +ℤ pos m)
    high = all2 _ (simp bridge (omega arith))

-- [p/r] by `/`, at an r that is a machine integer
pub round-quot : (p r : ℤ) → pos 0 <ℤ r → pos 0 ≤ℤ (pos 2 *ℤ p +ℤ r) → round p (nat_abs r) ≡ quot_z (pos 2 *ℤ p +ℤ r) (pos 2 *ℤ r)
unfolding round
round-quot p (pos r) h le = sym (quot-floor (pos 2 *ℤ p +ℤ pos r) (2 * r) le)
round-quot p (negsuc r) h le = absurd h.lt

pub round-quot-neg : (p r : ℤ) → pos 0 <ℤ r → (pos 2 *ℤ p +ℤ r) <ℤ pos 0
    → round p (nat_abs r) ≡ pos 0 -ℤ quot_z (pos 2 *ℤ r -ℤ pos 1 -ℤ (pos 2 *ℤ p +ℤ r)) (pos 2 *ℤ r)
unfolding round
round-quot-neg p (pos r) h lt =
    floor-quot-neg (pos 2 *ℤ p +ℤ pos r) (2 * r) (double (positive r h)) (≤ℤ_of_<ℤ lt)
    ∙ turn (quot_z (pos (2 * r - 1) -ℤ (pos 2 *ℤ p +ℤ pos r)) (pos (2 * r)))
    ∙ ap (λ t. pos 0 -ℤ quot_z t (pos (2 * r))) (less p r (positive r h))
  where
    turn : (x : ℤ) → neg_ℤ x ≡ pos 0 -ℤ x
    turn = all1 _ (simp bridge (omega arith))

    less : (p : ℤ) (r : ℕ) → 0 < r → pos (2 * r - 1) -ℤ (pos 2 *ℤ p +ℤ pos r) ≡ pos 2 *ℤ pos r -ℤ pos 1 -ℤ (pos 2 *ℤ p +ℤ pos r)
    less = all1 _ (simp bridge (omega arith))
round-quot-neg p (negsuc r) h lt = absurd h.lt

-- `%` has the sign of the dividend: m is added to what is negative
pub rem_is : (z : ℤ) (m : ℕ) → 0 < m → (z ≡ pos m *ℤ quot_z z (pos m) +ℤ rem_z z (pos m)) × (nat_abs (rem_z z (pos m)) < m)
rem_is (pos a) m h = (simp bridge (omega (arith, div-add-mod a m)), mod-lt a h)
rem_is (negsuc a) m h = (simp bridge (omega (arith, div-add-mod (suc a) m)), simp bridge (omega (arith, mod-lt (suc a) h)))

pub rem-remainder : (z m : ℤ) → pos 0 <ℤ m → pos 0 ≤ℤ rem_z z m → rem_z z m ≡ pos (remainder z (nat_abs m))
rem-remainder z (pos m) h le =
    let (e, small) = rem_is z m (positive m h) in
    let own = size (rem_z z (pos m)) le in
    own ∙ ap pos (sym (division_only z (quot_z z (pos m)) m (nat_abs (rem_z z (pos m))) small (e ∙ ap (λ t. pos m *ℤ quot_z z (pos m) +ℤ t) own)).1)
  where
    size : (r : ℤ) → pos 0 ≤ℤ r → r ≡ pos (nat_abs r)
    size = all1 _ (simp bridge (omega arith))
rem-remainder z (negsuc m) h le = absurd h.lt

pub rem-remainder-neg : (z m : ℤ) → pos 0 <ℤ m → rem_z z m <ℤ pos 0 → rem_z z m +ℤ m ≡ pos (remainder z (nat_abs m))
rem-remainder-neg z (pos m) h lt =
    let (e, small) = rem_is z m (positive m h) in
    let (same, below, split) = raised z (quot_z z (pos m)) (rem_z z (pos m)) m lt e small in
    same ∙ ap pos (sym (division_only z (quot_z z (pos m) -ℤ pos 1) m (nat_abs (rem_z z (pos m) +ℤ pos m)) below split).1)
  where
    raised : (z q r : ℤ) (m : ℕ) → r <ℤ pos 0 → z ≡ pos m *ℤ q +ℤ r → nat_abs r < m
        → (r +ℤ pos m ≡ pos (nat_abs (r +ℤ pos m))) × (nat_abs (r +ℤ pos m) < m) × (z ≡ pos m *ℤ (q -ℤ pos 1) +ℤ pos (nat_abs (r +ℤ pos m)))
    raised = all3 _ (simp bridge (omega arith))
rem-remainder-neg z (negsuc m) h lt = absurd h.lt
