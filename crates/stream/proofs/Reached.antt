-- The program from turn to turn. Assumes nothing.
use Prim.Native.Nat.{ℕ}
use mathlib.Core.Path.{◌≡◌, refl, sym, ap, ◌∙◌}
use mathlib.Core.List.{List, [], ◌++◌, append_assoc}
use lib.ListN.{take}
use Rattle.stream.specs.Output.{answers, rest, last_answer, output_of}
use Rattle.stream.specs.Steps.{cut, Read}
use Rattle.stream.specs.Reached.{Reached}
use Rattle.stream.proofs.Cut.{stands_take}
use Rattle.stream.proofs.Output.{answers_append, rest_append}

-- nothing is read yet
pub reached_start : (block carry out : List ℕ) → Reached (take 0 block) carry out 0 0
unfolding rest answers cut
reached_start block carry out = record { before = []; holds = refl; writes = refl }

-- a block more
pub reached_more : {block block' carry carry' out out' : List ℕ} {used used' wrote wrote' : ℕ} → Reached block carry out used wrote
    → Read block' carry carry' used used' out out' wrote' → Reached block' carry' out' used' wrote'
reached_more {block} {block'} r s =
    let input = r.before ++ block in
    record {
      before = input;
      holds = stands_take (s.holds (rest [] input) r.holds) ∙ ap cut (sym (rest_append [] input block'));
      writes = stands_take (s.writes (rest [] input) r.holds);
    }

-- what was written before the block, for it, and for a last line after it, is all that document 01 asks for the input
pub reached_output : (before block : List ℕ)
    → answers [] before ++ (answers (rest [] before) block ++ last_answer (rest [] (before ++ block))) ≡ output_of (before ++ block)
unfolding output_of
reached_output before block = rw (answers_append [] before block, append_assoc) refl
