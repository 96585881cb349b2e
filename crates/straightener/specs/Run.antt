-- What a turn and all turns come to. What `read` puts into the block, and what `write` does with the bytes that it is handed, no contract
-- can say. Assumes nothing.
use Rattle.std.specs.Prelude.{ℕ, ◌<◌, ◌≡◌, true, false, List, [], take}
use Rattle.stream.specs.Output.{rest, last_answer}
use Rattle.stream.specs.Steps.{Held, Read, Last}
use Rattle.straightener.specs.declared.Failure.{Failure}
use Rattle.straightener.specs.declared.Failure.TheVariants.{Unread, Unwritten}
use Rattle.straightener.specs.declared.How.TheVariants.{More, Ended}
use Rattle.straightener.specs.declared.Program.{Program}
use Rattle.straightener.specs.declared.Turn.{Turn}
use Rattle.straightener.specs.declared.Turns.{Turns}

-- a failure that is told as a block not read
abbrev pub IsUnread : Failure → Type 0
IsUnread (Unread reason) = Unit
IsUnread (Unwritten reason) = ⊥

-- a failure that is told as bytes not all taken
abbrev pub IsUnwritten : Failure → Type 0
IsUnwritten (Unread reason) = ⊥
IsUnwritten (Unwritten reason) = Unit

-- a program whose last read and last write did not fail
abbrev pub Unfailed : Program → Type 0
Unfailed p = (p.read_failed ≡ false) × (p.write_failed ≡ false)

-- a failure that is told as bytes not all taken, of a program where the write failed and the read did not
abbrev pub OnlyUnwritten : Program → Failure → Type 0
OnlyUnwritten p failure = IsUnwritten failure × (p.write_failed ≡ true) × (p.read_failed ≡ false)

-- One turn that did not fail, from the program p to p'. Where it goes on, some bytes were read, on from the line that was held, and the
-- bytes counted as handed to `write` are the answers to the lines that ended in them. Where the input has ended, they are the answer to a last line
-- that lacks its line feed. A read or a write that failed is told
pub record TurnDone (p p' : Program) (r : Turn) : Type 0 where
  pub some : r.how ≡ More → 0 < r.read
  pub more : r.how ≡ More → Read (take r.read p'.block) p.carry p'.carry p.used p'.used p.answers p'.answers r.handed
  pub ended : r.how ≡ Ended → (p'.carry ≡ p.carry) × (p'.used ≡ p.used) × Last (take p.used p.carry) p.answers p'.answers r.handed
  pub told : Unfailed p'

-- One turn that failed: it tells a block not read where the read failed, and then nothing was answered; bytes not all taken where the write did
abbrev pub TurnFailed : Program → Program → Failure → Type 0
TurnFailed p p' (Unread reason) = (p'.carry ≡ p.carry) × (p'.used ≡ p.used) × (p'.answers ≡ p.answers) × (p'.read_failed ≡ true) × (p'.write_failed ≡ p.write_failed)
TurnFailed p p' (Unwritten reason) = (p'.write_failed ≡ true) × (p'.read_failed ≡ false)

-- The turn at the end of the input
pub record Closed (p p' : Program) (r : Turn) : Type 0 where
  pub done : r.how ≡ More → ⊥
  pub held : (p'.carry ≡ p.carry) × (p'.used ≡ p.used)
  pub last : Last (take p.used p.carry) p.answers p'.answers r.handed
  pub told : Unfailed p'

-- All turns that did not fail, from an empty carry. Where the input has ended, the carry holds the unfinished line of what was read, and the last bytes counted
-- as handed to `write` are the answer to it. They go on until then, or until a read or a write fails, which is told, or for 2⁶⁴ - 1 blocks
pub record AllDone (p : Program) (r : Turns) : Type 0 where
  pub ended : r.last.how ≡ Ended
      → (input : List ℕ)
      × Held (take p.used p.carry) (rest [] input)
      × (take r.last.handed p.answers ≡ last_answer (rest [] input))
  pub told : Unfailed p
  pub more : r.last.how ≡ More → r.blocks ≡ 18446744073709551615

-- All turns, of which the last failed: what failed is told, and nothing else
abbrev pub AllFailed : Program → Failure → Type 0
AllFailed p (Unread reason) = (p.read_failed ≡ true) × (p.write_failed ≡ false)
AllFailed p (Unwritten reason) = (p.write_failed ≡ true) × (p.read_failed ≡ false)
