-- How parts of an input come together: lines split over blocks give the same output; and the answers to one line. Assumes nothing.
use Prim.Native.Nat.{ℕ, suc, ◌+◌, ◌*◌, ◌≤◌, ◌<◌}
use mathlib.Core.Bool.{Bool, true, false, cond}
use mathlib.Core.List.{List, [], ◌∷◌, ◌++◌, append_assoc, append-nil}
use mathlib.Core.Path.{◌≡◌, refl, sym, ◌∙◌}
use native.Mathlib.Omega.{arith}
use lib.ListN.{length, take, length-append}
use Rattle.feeds.specs.Feed.{in_line, line_length}
use Rattle.format.specs.Answer.{answer_of}
use Rattle.format.proofs.Judged.{answer_few, answer-short}
use Rattle.stream.specs.Output.{answers, rest, last_answer, output_of}

pub answers_append : (held xs ys : List ℕ) → answers held (xs ++ ys) ≡ answers held xs ++ answers (rest held xs) ys
unfolding answers rest
answers_append held [] ys = refl
answers_append held (b ∷ bs) ys = by (in_line b) (answers_append (held ++ (b ∷ [])) bs ys) (answers_append [] bs ys)
  where
    by : (t : Bool) → answers (held ++ (b ∷ [])) (bs ++ ys) ≡ answers (held ++ (b ∷ [])) bs ++ answers (rest (held ++ (b ∷ [])) bs) ys
        → answers [] (bs ++ ys) ≡ answers [] bs ++ answers (rest [] bs) ys
        → cond t (answers (held ++ (b ∷ [])) (bs ++ ys)) (answer_of held ++ answers [] (bs ++ ys))
        ≡ cond t (answers (held ++ (b ∷ [])) bs) (answer_of held ++ answers [] bs) ++ answers (cond t (rest (held ++ (b ∷ [])) bs) (rest [] bs)) ys
    by true e f = e
    by false e f = rw (f, append_assoc) refl

pub rest_append : (held xs ys : List ℕ) → rest held (xs ++ ys) ≡ rest (rest held xs) ys
unfolding rest
rest_append held [] ys = refl
rest_append held (b ∷ bs) ys = by (in_line b) (rest_append (held ++ (b ∷ [])) bs ys) (rest_append [] bs ys)
  where
    by : (t : Bool) → rest (held ++ (b ∷ [])) (bs ++ ys) ≡ rest (rest (held ++ (b ∷ [])) bs) ys
        → rest [] (bs ++ ys) ≡ rest (rest [] bs) ys
        → cond t (rest (held ++ (b ∷ [])) (bs ++ ys)) (rest [] (bs ++ ys)) ≡ rest (cond t (rest (held ++ (b ∷ [])) bs) (rest [] bs)) ys
    by true e f = e
    by false e f = f

-- ---- room for answers
-- eleven bytes for each byte of the lines that end, and of what is held of the first
answers_few : (held s : List ℕ) → length (answers held s) ≤ 11 * (length held + length s)
unfolding answers
answers_few held [] = omega arith
answers_few held (b ∷ bs) = by (in_line b) (simp length-append at (answers_few (held ++ (b ∷ [])) bs)) (answers_few [] bs)
  where
    by : (t : Bool) → length (answers (held ++ (b ∷ [])) bs) ≤ 11 * (length held + 1 + length bs) → length (answers [] bs) ≤ 11 * (0 + length bs)
        → length (cond t (answers (held ++ (b ∷ [])) bs) (answer_of held ++ answers [] bs)) ≤ 11 * (length held + suc (length bs))
    by true e f = omega arith
    by false e f = simp length-append (omega (arith, answer_few held))

-- or the longest answer for the first, however much of it was held
pub answers-room : (held s : List ℕ) → length (answers held s) ≤ 32783 + 11 * length s
unfolding answers
answers-room held [] = omega arith
answers-room held (b ∷ bs) = by (in_line b) (answers-room (held ++ (b ∷ [])) bs) (answers_few [] bs)
  where
    by : (t : Bool) → length (answers (held ++ (b ∷ [])) bs) ≤ 32783 + 11 * length bs → length (answers [] bs) ≤ 11 * (0 + length bs)
        → length (cond t (answers (held ++ (b ∷ [])) bs) (answer_of held ++ answers [] bs)) ≤ 32783 + 11 * suc (length bs)
    by true e f = omega arith
    by false e f = simp length-append (omega (arith, answer-short held))

-- ---- the program over blocks
unfoldable pub joined : List (List ℕ) → List ℕ
joined [] = []
joined (block ∷ blocks) = block ++ joined blocks

-- what is written for each block, one after the other, and for a last line
unfoldable pub written : List ℕ → List (List ℕ) → List ℕ
written held [] = last_answer held
written held (block ∷ blocks) = answers held block ++ written (rest held block) blocks

written_from : (held : List ℕ) (blocks : List (List ℕ)) → written held blocks ≡ answers held (joined blocks) ++ last_answer (rest held (joined blocks))
unfolding joined written answers rest
written_from held [] = refl
written_from held (block ∷ blocks) =
    rw (written_from (rest held block) blocks, answers_append held block (joined blocks), rest_append held block (joined blocks), append_assoc) refl

-- however the input is cut into blocks, the output is the same
pub blocks_do_not_matter : (blocks : List (List ℕ)) → written [] blocks ≡ output_of (joined blocks)
unfolding output_of
blocks_do_not_matter blocks = written_from [] blocks

-- ---- one line
-- a part with no line feed is held
pub no_end : (held s : List ℕ) → line_length s ≡ length s → (answers held s ≡ []) × (rest held s ≡ held ++ s)
unfolding answers rest line_length
no_end held [] e = (refl, sym (append-nil held))
no_end held (b ∷ bs) e = by (in_line b) (λ k. no_end (held ++ (b ∷ [])) bs k) e
  where
    by : (t : Bool) → (line_length bs ≡ length bs → (answers (held ++ (b ∷ [])) bs ≡ []) × (rest (held ++ (b ∷ [])) bs ≡ (held ++ (b ∷ [])) ++ bs))
        → cond t (suc (line_length bs)) 0 ≡ suc (length bs)
        → (cond t (answers (held ++ (b ∷ [])) bs) (answer_of held ++ answers [] bs) ≡ []) × (cond t (rest (held ++ (b ∷ [])) bs) (rest [] bs) ≡ held ++ (b ∷ bs))
    by true f k = let (x, y) = f (omega arith) in (x, y ∙ append_assoc held (b ∷ []) bs)
    by false f k = absurd (omega arith)

-- a line that ends is answered, and nothing is held
pub line_end : (held s : List ℕ) → line_length s < length s
    → (answers held (take (suc (line_length s)) s) ≡ answer_of (held ++ take (line_length s) s)) × (rest held (take (suc (line_length s)) s) ≡ [])
unfolding answers rest line_length
line_end held [] h = absurd (omega arith)
line_end held (b ∷ bs) h = by (in_line b) refl (λ k. line_end (held ++ (b ∷ [])) bs k) h
  where
    by : (t : Bool) → in_line b ≡ t
        → (line_length bs < length bs → (answers (held ++ (b ∷ [])) (take (suc (line_length bs)) bs) ≡ answer_of ((held ++ (b ∷ [])) ++ take (line_length bs) bs)) × (rest (held ++ (b ∷ [])) (take (suc (line_length bs)) bs) ≡ []))
        → cond t (suc (line_length bs)) 0 < suc (length bs)
        → (answers held (take (suc (cond t (suc (line_length bs)) 0)) (b ∷ bs)) ≡ answer_of (held ++ take (cond t (suc (line_length bs)) 0) (b ∷ bs))) × (rest held (take (suc (cond t (suc (line_length bs)) 0)) (b ∷ bs)) ≡ [])
    by true e f k = let (x, y) = f (omega arith) in (rw e (x ∙ rw append_assoc refl), rw e y)
    by false e f k = (rw (e, append-nil (answer_of held), append-nil held) refl, rw e refl)
