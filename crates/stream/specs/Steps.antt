-- What the program holds of an unfinished line, and what each step promises. Assumes nothing.
use Rattle.std.specs.Prelude.{ℕ, ◌≤◌, ◌<◌, ◌≡◌, List, ◌++◌, length, take, drop}
use Rattle.format.specs.Answer.{answer_of}
use Rattle.stream.specs.Output.{answers, rest, last_answer}
use Rattle.stream.specs.declared.Advance.{Advance}
use Rattle.stream.specs.declared.Progress.{Progress}

-- what is kept of a line: 8,215 bytes, one more than a well-formed line can have
unfoldable pub cut : List ℕ → List ℕ
cut l = take 8215 l

-- the bytes kept are those of the line so far, cut
abbrev pub Held : List ℕ → List ℕ → Type 0
Held kept held = kept ≡ cut held

-- a text of n bytes stands at the front of a lent buffer, which is otherwise as it was
pub record Stands (text before after : List ℕ) (n : ℕ) : Type 0 where
  pub front : after ≡ text ++ drop (length text) before
  pub bytes : n ≡ length text

-- the line that was held and ends with s is answered
abbrev pub Finished : List ℕ → List ℕ → List ℕ → List ℕ → ℕ → Type 0
Finished s kept out out' r = (held : List ℕ) → Held kept held → Stands (answer_of (held ++ s)) out out' r

-- a part s of the input is read, of whose first line the first `used` bytes of carry came before it: the answers to the lines that end in it
-- stand in out', and what is left of its last line in carry'
pub record Read (s carry carry' : List ℕ) (used used' : ℕ) (out out' : List ℕ) (wrote : ℕ) : Type 0 where
  pub writes : (held : List ℕ) → Held (take used carry) held → Stands (answers held s) out out' wrote
  pub holds : (held : List ℕ) → Held (take used carry) held → Stands (cut (rest held s)) carry carry' used'

-- one line or a part of one
pub record Stepped (s carry carry' : List ℕ) (used used' : ℕ) (out out' : List ℕ) (r : Advance) : Type 0 where
  pub forward : (r.taken ≤ length s) × (0 < length s → 0 < r.taken)
  pub unheld : r.taken < length s → carry' ≡ carry
  pub reads : Read (take r.taken s) carry carry' used used' out out' r.wrote

-- a block of the input, in a turn of the program, whose answers have room in 1,048,576 bytes
pub record Turned (s carry carry' : List ℕ) (used : ℕ) (out out' : List ℕ) (r : Progress) : Type 0 where
  pub reads : Read s carry carry' used r.used out out' r.wrote
  pub room : r.wrote ≤ 1048576

-- a last line that lacks its line feed is answered
pub record Last (kept out out' : List ℕ) (r : ℕ) : Type 0 where
  pub writes : (held : List ℕ) → Held kept held → Stands (last_answer held) out out' r
  pub room : r ≤ 32783
