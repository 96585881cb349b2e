-- A word passes exactly when each of its eight bytes is a digit: by place, and where none of them is marked. Assumes nothing.
use Prim.Native.Nat.{ℕ, ◌/◌, ◌%◌, ◌^◌, ◌<◌}
use mathlib.Core.Bool.{true, ◌&&◌}
use mathlib.Core.List.{List, [], ◌∷◌}
use mathlib.Core.Path.{◌≡◌, refl, sym, ap, ◌∙◌}
use lib.Dec.{T, eqb}
use Rattle.words.specs.Word.{bytes_of}
use Rattle.words.proofs.Held.{bytes_length, byte_at}
use Rattle.words.proofs.Marks.{marks, unmarked}
use Rattle.words.proofs.Formula.{Made, marks_bytes, made_marks}
use Rattle.digits.specs.Digit.{is_digit, all_digits, passes}
use Rattle.digits.proofs.Test.{all_at, all_each}

-- ---- by place
pub passes_each : (w : ℕ) → passes w ≡ true → (i : ℕ) → i < 8 → is_digit (w / 256 ^ i % 256) ≡ true
unfolding passes
passes_each w e i h = ap is_digit (sym (byte_at 8 w i h)) ∙ all_at (bytes_of 8 w) i e (rw (bytes_length 8 w) h)

pub each_passes : (w : ℕ) → ((i : ℕ) → i < 8 → is_digit (w / 256 ^ i % 256) ≡ true) → passes w ≡ true
unfolding passes
each_passes w e = all_each (bytes_of 8 w) (λ i h. let h' : i < 8 = rw (bytes_length 8 w) at h in ap is_digit (byte_at 8 w i h') ∙ e i h')

-- ---- as a word with a mark in each byte that is none
none_marked : (s : List ℕ) → eqb (marks is_digit s) 0 ≡ all_digits s
unfolding marks all_digits
none_marked [] = refl
none_marked (b ∷ bs) = unmarked is_digit b bs ∙ ap (λ t. is_digit b && t) (none_marked bs)

pub formula_passes : (w x : ℕ) (m : Made w x) → T (marks_bytes is_digit m.formula) → w < 2 ^ 64 → eqb x 0 ≡ passes w
unfolding passes
formula_passes w x m t h = ap (λ (y : ℕ). eqb y 0) (made_marks is_digit m t h) ∙ none_marked (bytes_of 8 w)
