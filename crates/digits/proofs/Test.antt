-- Which bytes are digits, one at a time and all of a line. Assumes nothing.
use Prim.Native.Nat.{ℕ, zero, suc, ◌+◌, ◌%◌, ◌/◌, ◌*◌, ◌≤◌, ◌<◌, suc-le-suc}
use mathlib.Core.Bool.{true, ◌&&◌, and_assoc, and-true}
use mathlib.Core.List.{List, [], ◌∷◌, map}
use mathlib.Core.Path.{◌≡◌, refl, sym, ap, ◌∙◌}
use native.Mathlib.Nat.{not-suc-le-zero, le_of_suc-le-suc, zero-lt-suc}
use native.Mathlib.Omega.{arith}
use lib.Bits.{bit_or, or_add_and, and_le_l, and_le_r}
use lib.Dec.{eqb}
use lib.ListN.{length, take, drop, get_or, drop_of_length-le}
use lib.Seq.{drop-drop}
use Rattle.std.proofs.lemmas.Bool.Decides.{nat_tests}
use Rattle.std.specs.List.{list_all}
use Rattle.digits.specs.Digit.{is_digit, all_digits, digit_value, digit_of}

-- the sixteen digits, and what they stand for
abbrev pub sixteen : List ℕ
sixteen = 48 ∷ 49 ∷ 50 ∷ 51 ∷ 52 ∷ 53 ∷ 54 ∷ 55 ∷ 56 ∷ 57 ∷ 65 ∷ 66 ∷ 67 ∷ 68 ∷ 69 ∷ 70 ∷ []

pub sixteen_values : map digit_value sixteen ≡ 0 ∷ 1 ∷ 2 ∷ 3 ∷ 4 ∷ 5 ∷ 6 ∷ 7 ∷ 8 ∷ 9 ∷ 10 ∷ 11 ∷ 12 ∷ 13 ∷ 14 ∷ 15 ∷ []
unfolding digit_value
sixteen_values = refl

pub sixteen_digits : map digit_of (map digit_value sixteen) ≡ sixteen
unfolding digit_value digit_of
sixteen_digits = refl

-- what a digit stands for, as `digit_value` works it out
pub digit_worth : (b : ℕ) → is_digit b ≡ true → (b % 16 + 9 * (b / 64) ≡ digit_value b) × (digit_value b < 16)
unfolding is_digit digit_value
digit_worth b e = grind (arith, nat_tests)

-- marks joined bit by bit are 0 exactly where both are
zero_or : (a b : ℕ) → eqb (bit_or a b) 0 ≡ (eqb a 0 && eqb b 0)
zero_or a b = grind (arith, nat_tests, or_add_and a b, and_le_l a b, and_le_r a b)

-- all of a line by the list's own test, and by its parts
pub all_list : (s : List ℕ) → list_all is_digit s ≡ all_digits s
unfolding all_digits
all_list [] = refl
all_list (b ∷ bs) = ap (λ t. is_digit b && t) (all_list bs)

pub all_split : (n : ℕ) (s : List ℕ) → (all_digits (take n s) && all_digits (drop n s)) ≡ all_digits s
unfolding all_digits
all_split zero s = refl
all_split (suc n) [] = refl
all_split (suc n) (b ∷ bs) = and_assoc (is_digit b) _ _ ∙ rw (all_split n bs) refl

-- a loop over s that has marked the first k words: one more, and the end
pub all_more : (s : List ℕ) (k mark own : ℕ) → (eqb mark 0 && all_digits (drop (8 * k) s)) ≡ all_digits s
    → eqb own 0 ≡ all_digits (take 8 (drop (8 * k) s)) → (eqb (bit_or mark own) 0 && all_digits (drop (8 * (k + 1)) s)) ≡ all_digits s
all_more s k mark own e f =
    let n : 8 * (k + 1) ≡ 8 * k + 8 = omega arith in
    rw (zero_or mark own, f, n) (and_assoc (eqb mark 0) _ _ ∙ rw (← drop-drop 8 (8 * k) s, all_split 8 (drop (8 * k) s)) e)

pub all_end : (s : List ℕ) (i mark : ℕ) → length s ≤ i → (eqb mark 0 && all_digits (drop i s)) ≡ all_digits s → eqb mark 0 ≡ all_digits s
unfolding all_digits
all_end s i mark h e = sym (and-true (eqb mark 0)) ∙ (rw (drop_of_length-le s h) at e)

-- each byte of a line of digits is one, and so is each byte of a part
head_tail : (b : ℕ) (bs : List ℕ) → all_digits (b ∷ bs) ≡ true → (is_digit b ≡ true) × (all_digits bs ≡ true)
unfolding all_digits
head_tail b bs e = grind (arith, nat_tests)

pub all_at : (s : List ℕ) (i : ℕ) → all_digits s ≡ true → i < length s → is_digit (get_or s i 0) ≡ true
all_at [] i e h = absurd (not-suc-le-zero h)
all_at (b ∷ bs) zero e h = (head_tail b bs e).0
all_at (b ∷ bs) (suc i) e h = all_at bs i (head_tail b bs e).1 (le_of_suc-le-suc h)

pub all_each : (s : List ℕ) → ((i : ℕ) → i < length s → is_digit (get_or s i 0) ≡ true) → all_digits s ≡ true
unfolding all_digits
all_each [] e = refl
all_each (b ∷ bs) e = rw (e 0 (zero-lt-suc (length bs)), all_each bs (λ i h. e (suc i) (suc-le-suc h))) refl

all_drop : (a : ℕ) (s : List ℕ) → all_digits s ≡ true → all_digits (drop a s) ≡ true
all_drop zero s e = e
all_drop (suc a) [] e = e
all_drop (suc a) (b ∷ bs) e = all_drop a bs (head_tail b bs e).1

all_take : (n : ℕ) (s : List ℕ) → all_digits s ≡ true → all_digits (take n s) ≡ true
unfolding all_digits
all_take zero s e = refl
all_take (suc n) [] e = refl
all_take (suc n) (b ∷ bs) e = let (p, q) = head_tail b bs e in rw p (all_take n bs q)

pub all_part : (n a : ℕ) (s : List ℕ) → all_digits s ≡ true → all_digits (take n (drop a s)) ≡ true
all_part n a s e = all_take n (drop a s) (all_drop a s e)
