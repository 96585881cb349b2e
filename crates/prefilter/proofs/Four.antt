-- Four lines that lie one after the other in one list, and what is made of each: the rows that they are (`Parts`), and that each row of the
-- whole has its coefficients where each line has its own (`parts_made`). Assumes nothing.
use mathlib.Core.Path.{◌≡◌, refl, sym, ap, ◌∙◌}
use mathlib.Core.List.{List, ◌++◌}
use Prim.Native.Nat.{ℕ, zero, suc, ◌+◌, ◌*◌, ◌≤◌, ◌<◌}
use native.Mathlib.Omega.{arith}
use lib.IntN.{ℤ, pos, nat_abs}
use lib.ListN.{length, get_or, take, drop}
use Rattle.std.proofs.Math.Seq.{drop-append-add}
use Rattle.std.proofs.lemmas.List.{take_at}
use Rattle.lists.specs.Grid.{row_of}
use Rattle.lists.proofs.Rows.{row_length, row_at}
use Rattle.spline.specs.Coefficients.{coefficients}
use Rattle.prefilter.specs.InPlace.{LineWithin, FourWithin, risen, fallen}
use Rattle.prefilter.proofs.InPlace.{risen-length, risen_within, coefficients_in_place}

-- ---- a line before others
past : (n m : ℕ) (a t : List ℤ) → length a ≡ n → drop (n + m) (a ++ t) ≡ drop m t
past n m a t l = rw (← l) (drop-append-add a t m)

first_row : (n : ℕ) (a t : List ℤ) → length a ≡ n → row_of n (a ++ t) 0 ≡ a
unfolding row_of
first_row n a t l = let e : 0 * n ≡ 0 = omega arith in rw e (take_at a t n l)

later_row : (n i : ℕ) (a t : List ℤ) → length a ≡ n → row_of n (a ++ t) (suc i) ≡ row_of n t i
unfolding row_of
later_row n i a t l =
    let e : suc i * n ≡ n + i * n = omega arith in
    rw e (ap (take n) (past n (i * n) a t l))

-- what is made of each of m rows, and of the row before them
one_more : (f : List ℤ → List ℤ) (n m : ℕ) (a a' t t' : List ℤ) → length a ≡ n → length a' ≡ n → a' ≡ f a
    → ((i : ℕ) → i < m → row_of n t' i ≡ f (row_of n t i)) → (i : ℕ) → i < suc m → row_of n (a' ++ t') i ≡ f (row_of n (a ++ t) i)
one_more f n m a a' t t' l l' made rest zero h = first_row n a' t' l' ∙ made ∙ ap f (sym (first_row n a t l))
one_more f n m a a' t t' l l' made rest (suc i) h = later_row n i a' t' l' ∙ rest i (omega arith) ∙ ap f (sym (later_row n i a t l))

-- ---- a list is four lines of n places and what lies after them
pub record Parts (n : ℕ) (t a b c d later : List ℤ) : Type 0 where
  pub whole : t ≡ a ++ (b ++ (c ++ (d ++ later)))
  pub first : length a ≡ n
  pub second : length b ≡ n
  pub third : length c ≡ n
  pub fourth : length d ≡ n

pub parts_later : {n : ℕ} {t a b c d later : List ℤ} → Parts n t a b c d later → drop (4 * n) t ≡ later
parts_later {n} {t} {a} {b} {c} {d} {later} p =
    let e : 4 * n ≡ n + (n + (n + (n + 0))) = omega arith in
    rw (p.whole, e)
    (past n (n + (n + (n + 0))) a _ p.first ∙ past n (n + (n + 0)) b _ p.second ∙ past n (n + 0) c _ p.third ∙ past n 0 d later p.fourth)

-- each line lies within what all four do
pub parts_within : {B n : ℕ} {t a b c d later : List ℤ} → (1 ≤ n) × (n ≤ 3072) × (4 * n ≤ length t)
    → ((i k : ℕ) → i < 4 → k < n → nat_abs (get_or t (i * n + k) (pos 0)) ≤ B) → Parts n t a b c d later → FourWithin B a b c d
parts_within {B} {n} {t} {a} {b} {c} {d} {later} le_n bounded p =
    record {
      first = line a 0 (omega arith) (rw p.whole (first_row n a _ p.first));
      second = line b 1 (omega arith) (rw p.whole (later_row n 0 a _ p.first ∙ first_row n b _ p.second));
      third = line c 2 (omega arith) (rw p.whole (later_row n 1 a _ p.first ∙ later_row n 0 b _ p.second ∙ first_row n c _ p.third));
      fourth =
          line d 3 (omega arith)
          (rw p.whole (later_row n 2 a _ p.first ∙ later_row n 1 b _ p.second ∙ later_row n 0 c _ p.third ∙ first_row n d later p.fourth));
      as_second = omega arith;
      as_third = omega arith;
      as_fourth = omega arith;
    }
  where
    row : (i : ℕ) → i < 4 → LineWithin B (row_of n t i)
    row i l =
        let e = row_length n t i 4 l le_n.2 in record {
          some = omega arith;
          few = omega arith;
          bounded = λ k m. let h : k < n = omega arith in rw (← row_at n t i k (i * n + k) h refl) (bounded i k l h);
        }

    line : (s : List ℤ) (i : ℕ) → i < 4 → row_of n t i ≡ s → LineWithin B s
    line s i l e = rw e at (row i l)

-- ---- u in the four lines, and then c
module _ {a b c d : List ℤ} (h : FourWithin 294912 a b c d) (a₁ b₁ c₁ d₁ : List ℤ) (up : (a₁ ≡ risen a) × (b₁ ≡ risen b))
    (up' : (c₁ ≡ risen c) × (d₁ ≡ risen d)) where
  pub risen_four : FourWithin 6488065 a₁ b₁ c₁ d₁
  risen_four =
      rw (up.0, up.1, up'.0, up'.1)
      record {
        first = risen_within h.first;
        second = risen_within h.second;
        third = risen_within h.third;
        fourth = risen_within h.fourth;
        as_second = risen-length b ∙ h.as_second ∙ sym (risen-length a);
        as_third = risen-length c ∙ h.as_third ∙ sym (risen-length a);
        as_fourth = risen-length d ∙ h.as_fourth ∙ sym (risen-length a);
      }

  pub parts_made : {n : ℕ} {t later a₂ b₂ c₂ d₂ : List ℤ} → Parts n t a b c d later → Parts n (a₂ ++ (b₂ ++ (c₂ ++ (d₂ ++ later)))) a₂ b₂ c₂ d₂ later
      → (a₂ ≡ fallen a₁) × (b₂ ≡ fallen b₁) → (c₂ ≡ fallen c₁) × (d₂ ≡ fallen d₁)
      → (i : ℕ) → i < 4 → row_of n (a₂ ++ (b₂ ++ (c₂ ++ (d₂ ++ later)))) i ≡ coefficients (row_of n t i)
  parts_made {n} {later = later} p q down down' =
      rw p.whole
      (one_more coefficients n 3 a _ _ _ p.first q.first (down.0 ∙ ap fallen up.0 ∙ coefficients_in_place a h.first.some)
      (one_more coefficients n 2 b _ _ _ p.second q.second (down.1 ∙ ap fallen up.1 ∙ coefficients_in_place b h.second.some)
      (one_more coefficients n 1 c _ _ _ p.third q.third (down'.0 ∙ ap fallen up'.0 ∙ coefficients_in_place c h.third.some)
      (one_more coefficients n 0 d _ later later p.fourth q.fourth (down'.1 ∙ ap fallen up'.1 ∙ coefficients_in_place d h.fourth.some)
      (λ i l. absurd (omega arith))))))
