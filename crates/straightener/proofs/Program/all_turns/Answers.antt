-- `straightener::Program::all_turns` meets its contract. After each turn the carry holds the unfinished line of everything that was read, and
-- what was handed to `write` in it are the answers to the lines that ended in its block.
use mathlib.Core.Bool.{false, true≢false}
use mathlib.Core.Path.{◌≡◌, refl, sym}
use denote.Enum.Bare.{sameb}
use Rattle.stream.proofs.Reached.{reached_start, reached_more}
use Rattle.straightener.specs.contracts.How.{the_type}
use Rattle.straightener.specs.declared.How.{How}
use Rattle.straightener.specs.declared.How.TheVariants.{More, Ended}
use Rattle.straightener.proofs.Program.all_turns.Goals as goal

goes_on : (how : How) → false ≡ sameb the_type how Ended → how ≡ More
goes_on More e = refl
goes_on Ended e = absurd (true≢false (sym e))

pub loop-before-init : goal.loop-before-init
loop-before-init c = record { more = refl; count = refl; reached = reached_start c.args.self.now.block c.args.self.now.carry c.args.self.now.answers; unfailed = (refl, refl) }

pub loop-before-preserved : goal.loop-before-preserved
loop-before-preserved c =
    let on = goes_on _ c.if-eq.ensures in record { more = on; count = refl; reached = reached_more c.loop-before.invariant.reached (c.in_ok-last.ensures.done.more on); unfailed = c.in_ok-last.ensures.done.told }
