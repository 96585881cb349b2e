-- Text at the front of a lent buffer, and text that is written where it fits. Assumes nothing.
use Rattle.std.specs.Prelude.{ℕ, ◌+◌, ◌≡◌, cond, Result, Ok, Err, List, ◌∷◌, ◌++◌, map, leb, ℤ, pos, length, take, drop, get_or}
use Rattle.lists.specs.Tab.{cat}
use Rattle.digits.specs.Digit.{places_of, spelt, word32}
use Rattle.refusals.specs.declared.Refusal.{Refusal}
use Rattle.refusals.specs.declared.Refusal.TheVariants.{TooShort}

-- what a buffer d holds after a text was written to its front, and how many bytes that was: all of the text, or nothing
unfoldable pub fitted : List ℕ → List ℕ → List ℕ
fitted text d = cond (leb (length text) (length d)) (text ++ drop (length text) d) d

unfoldable pub fitted_length : List ℕ → List ℕ → ℕ
fitted_length text d = cond (leb (length text) (length d)) (length text) 0

-- `after` and r are what a call leaves and answers that writes a text where it fits
pub record Fitted (text before after : List ℕ) (r : ℕ) : Type 0 where
  pub holds : after ≡ fitted text before
  pub wrote : r ≡ fitted_length text before

-- 2: a buffer under the places of the text, which then stays as it was
unfoldable pub written_of : List ℕ → List ℕ → Result ℕ Refusal
written_of text out = cond (leb (length text) (length out)) (Ok (length text)) (Err TooShort)

-- the same of a call that is refused with 2 where the text does not fit
pub record Written (text before after : List ℕ) (r : Result ℕ Refusal) : Type 0 where
  pub holds : after ≡ fitted text before
  pub answer : r ≡ written_of text before

-- a text stands at the front of d', and behind it d' is as d
pub record Front (text d d' : List ℕ) : Type 0 where
  pub stands : d' ≡ text ++ drop (length text) d

-- a buffer with a piece at a place
unfoldable pub piece_at : ℕ → List ℕ → List ℕ → List ℕ
piece_at at piece d = take at d ++ (piece ++ drop (at + length piece) d)

-- the first ten places of every answer, still as numbers
unfoldable pub head_places : ℕ → ℕ → ℕ → List ℕ
head_places a b c = places_of 2 a ++ (places_of 4 b ++ places_of 4 c)

-- the places of the samples, eight each, still as numbers
unfoldable pub sample_places : List ℤ → List ℕ
sample_places samples = cat (λ k. places_of 8 (word32 (get_or samples k (pos 0)))) (length samples)

-- the first n places spelt, with a line feed behind them
unfoldable pub closed : ℕ → List ℕ → List ℕ
closed n d = map spelt (take n d) ++ (10 ∷ drop (n + 1) d)
