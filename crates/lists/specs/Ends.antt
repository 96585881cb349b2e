-- The smallest and the largest of f 0 .. f (n - 1), for n above 0. Assumes nothing.
use Rattle.std.specs.Prelude.{ℕ, zero, suc, List, ℤ}
use Rattle.arith.specs.Whole.{min_ℤ, max_ℤ}
use Rattle.lists.specs.declared.Extremes.{Extremes}
use Rattle.lists.specs.Line.{Line, line}

-- f 0, and then again and again the one of two that `of` picks
unfoldable pub picked : (ℤ → ℤ → ℤ) → Line → ℕ → ℤ
picked of f zero = f 0
picked of f (suc n) = of (picked of f n) (f n)

abbrev pub smallest : Line → ℕ → ℤ
smallest f n = picked min_ℤ f n

abbrev pub largest : Line → ℕ → ℤ
largest f n = picked max_ℤ f n

-- both, of the first n samples of a list
abbrev pub extremes_of : ℕ → List ℤ → Extremes
extremes_of n s = record { smallest = smallest (line s) n; largest = largest (line s) n }

-- those of two groups of samples together
abbrev pub joined_of : Extremes → Extremes → Extremes
joined_of a b = record { smallest = min_ℤ a.smallest b.smallest; largest = max_ℤ a.largest b.largest }

-- over H rows of W samples each: the smallest of what is smallest in a row, and the largest of what is largest in one
abbrev pub smallest_in_rows : ℕ → ℕ → (ℕ → Line) → ℤ
smallest_in_rows W H rows = smallest (λ y. smallest (rows y) W) H

abbrev pub largest_in_rows : ℕ → ℕ → (ℕ → Line) → ℤ
largest_in_rows W H rows = largest (λ y. largest (rows y) W) H
