-- What the line program writes for an input: the answers to its lines, each of which ends in a line feed, and to a last one that lacks it.
-- Assumes nothing.
use Rattle.std.specs.Prelude.{ℕ, cond, List, [], ◌∷◌, ◌++◌}
use Rattle.feeds.specs.Feed.{in_line}
use Rattle.format.specs.Answer.{answer_of}

-- the answers to the lines that end in the input, where `held` came before it and has no line feed
unfoldable pub answers : List ℕ → List ℕ → List ℕ
answers held [] = []
answers held (b ∷ bs) = cond (in_line b) (answers (held ++ (b ∷ [])) bs) (answer_of held ++ answers [] bs)

-- what is held after it
unfoldable pub rest : List ℕ → List ℕ → List ℕ
rest held [] = held
rest held (b ∷ bs) = cond (in_line b) (rest (held ++ (b ∷ [])) bs) (rest [] bs)

-- a last line that lacks its line feed; no bytes are no line
unfoldable pub last_answer : List ℕ → List ℕ
last_answer [] = []
last_answer (b ∷ bs) = answer_of (b ∷ bs)

-- all that the program writes for an input
unfoldable pub output_of : List ℕ → List ℕ
output_of input = answers [] input ++ last_answer (rest [] input)
