-- `straightener::Program::all_turns` meets its contract. After each turn the carry holds the unfinished line of everything that was read, and
-- what was handed to `write` in it are the answers to the lines that ended in its block.
use mathlib.Core.Path.{◌≡◌}
use lib.ListN.{take}
use Rattle.stream.specs.Reached.{Reached}
use Rattle.straightener.specs.declared.How.TheVariants.{More}
use Rattle.straightener.specs.Run.{Unfailed}
use Rattle.straightener.proofs.Program.all_turns.Given as goal

abbrev pub invariant-loop-before : goal.invariant-loop-before
invariant-loop-before l =
    record { more : l.last.how ≡ More; count : l.blocks ≡ l.before; reached : Reached (take l.last.read l.self.block) l.self.carry l.self.answers l.self.used l.last.handed; unfailed : Unfailed l.self }
