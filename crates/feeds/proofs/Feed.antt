-- Line feeds in a word: the zero bits below the lowest mark count the bytes before the first. Assumes nothing.
use Prim.Native.Nat.{ℕ, suc, ◌*◌, ◌/◌, ◌^◌, ◌<◌}
use mathlib.Core.Bool.{cond}
use mathlib.Core.List.{List, [], ◌∷◌}
use mathlib.Core.Path.{◌≡◌, refl, ap, ◌∙◌}
use lib.Count.{count_trailing_zeros}
use lib.Dec.{T}
use lib.ListN.{length}
use Rattle.words.specs.Word.{bytes_of}
use Rattle.words.proofs.Formula.{Made, marks_bytes, made_marks}
use Rattle.words.proofs.Marks.{marks, first_mark}
use Rattle.feeds.specs.Feed.{in_line, line_length}

first_feed : (s : List ℕ) → count_trailing_zeros (8 * length s) (marks in_line s) / 8 ≡ line_length s
unfolding count_trailing_zeros marks line_length
first_feed [] = refl
first_feed (b ∷ bs) = first_mark in_line b bs ∙ ap (λ (n : ℕ). cond (in_line b) (suc n) 0) (first_feed bs)

pub formula_length : (w x : ℕ) (m : Made w x) → T (marks_bytes in_line m.formula) → w < 2 ^ 64 → count_trailing_zeros 64 x / 8 ≡ line_length (bytes_of 8 w)
unfolding bytes_of
formula_length w x m t h = ap (λ (y : ℕ). count_trailing_zeros 64 y / 8) (made_marks in_line m t h) ∙ first_feed (bytes_of 8 w)
