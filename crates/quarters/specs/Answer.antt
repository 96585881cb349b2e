-- What the calls answer, accepted or refused, and what a move leaves in the lent buffer. Assumes nothing.
use Rattle.std.specs.Prelude.{ℕ, ◌*◌, min, ◌≡◌, Bool, ◌||◌, Result, Ok, Err, List, ◌++◌, ltb, ℤ, length, take, drop}
use Rattle.refusals.specs.declared.Refusal.{Refusal}
use Rattle.refusals.specs.declared.Refusal.TheVariants.{BadMove}
use Rattle.refusals.specs.Tests.{first_bad}
use Rattle.refusals.specs.Judging.{Verdict, accepted, refused_if, answer_by, number_of, when_accepted, Figures, under_six}
use Rattle.readings.specs.Answers.{range, judged_by, lowest_by}
use Rattle.arrangements.specs.Places.{through, Bijection}
use Rattle.arrangements.specs.Moves.{screen, stored, moved, source}
use Rattle.arrangements.specs.Table.{entry, inverse_of}
use Rattle.arrangements.specs.Views.{from_right, from_below}
use Rattle.turns.specs.declared.View.{View}
use Rattle.quarters.specs.declared.Size.{Size}

-- 16: a move's number above 7
unfoldable pub bad_move : ℕ → Bool
bad_move m = ltb 7 m

abbrev pub own_verdict : ℕ → Verdict
own_verdict m = refused_if (bad_move m) BadMove accepted

-- numbers 1, 2, 16 and 6, in that order, of a call whose shortest lent buffer has `places` places
abbrev pub judged : ℕ → ℕ → ℕ → ℕ → List ℤ → Verdict
judged W H m places picture = judged_by W H places (own_verdict m) picture

-- what moving a picture comes to: the moved picture's size, or a refusal; refused, width and height are 0
abbrev pub Moved : Type 0
Moved = Result Size Refusal

abbrev pub width_of : Moved → ℕ
width_of (Ok size) = size.width
width_of (Err refusal) = 0

abbrev pub height_of : Moved → ℕ
height_of (Ok size) = size.height
height_of (Err refusal) = 0

abbrev pub size_after : ℕ → ℕ → ℕ → List ℤ → Size
size_after W H m picture = let p = moved m (screen W H picture) in record { width = p.width; height = p.height }

unfoldable pub moved_answer : ℕ → ℕ → ℕ → ℕ → List ℤ → Moved
moved_answer W H m places picture = answer_by (judged W H m places picture) (size_after W H m picture)

-- every sample of the picture has exactly one place in the result, whose size is r's: place k has the sample of place `source W H m k`, and the move that
-- undoes m says where each came to
pub record Arranged (W H m : ℕ) (picture new : List ℤ) (r : Moved) : Type 0 where
  pub samples : take (W * H) new ≡ through (source W H m) (W * H) picture
  pub one_place : Bijection (W * H) (source W H m) (source (width_of r) (height_of r) (inverse_of m))

-- A call that lends `picture` and the buffer `old`, and leaves `new` in it. Accepted, the first W·H places are the moved picture, and every later one is as it
-- was; refused, every place is, and the size that is answered is 0 by 0
pub record PictureMoved (W H m : ℕ) (picture old new : List ℤ) (r : Moved) : Type 0 where
  pub answer : r ≡ moved_answer W H m (min (length picture) (length old)) picture
  pub figures : Figures (lowest_by W H (min (length picture) (length old)) (bad_move m) 16 picture) (under_six (first_bad range W H picture)) r
  pub written : new ≡ when_accepted r (stored (moved m (screen W H picture)) ++ drop (W * H) old) old
  pub arranged : number_of r ≡ 0 → Arranged W H m picture new r
  pub refused : ¬ (number_of r ≡ 0) → (new ≡ old) × (width_of r ≡ 0) × (height_of r ≡ 0)

-- the one move that two moves in a row are, and the move that undoes one; refused under 16, it is 0
unfoldable pub joined_answer : ℕ → ℕ → Result ℕ Refusal
joined_answer first second = answer_by (refused_if (bad_move first || bad_move second) BadMove accepted) (entry first second)

unfoldable pub inverse_answer : ℕ → Result ℕ Refusal
inverse_answer m = answer_by (own_verdict m) (inverse_of m)

abbrev pub quarter_of : Result ℕ Refusal → ℕ
quarter_of (Ok quarter) = quarter
quarter_of (Err refusal) = 0

-- ---- how the code sees the picture
abbrev pub view_of : ℕ → ℕ → ℕ → View
view_of W H m = record { width = W; height = H; right = from_right m; below = from_below m }
