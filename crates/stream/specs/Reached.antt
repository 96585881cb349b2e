-- Where the program stands after a turn, stated of the block that is in its buffer. Assumes nothing.
use Rattle.std.specs.Prelude.{ℕ, ◌≡◌, List, [], ◌++◌, take}
use Rattle.stream.specs.Output.{answers, rest}
use Rattle.stream.specs.Steps.{Held}

-- All that was read is `before` and then block: the first `used` bytes of carry are the unfinished line of all of it, and the first `wrote`
-- bytes of out are the answers to the lines that ended in block
pub record Reached (block carry out : List ℕ) (used wrote : ℕ) : Type 0 where
  pub before : List ℕ
  pub holds : Held (take used carry) (rest [] (before ++ block))
  pub writes : take wrote out ≡ answers (rest [] before) block
