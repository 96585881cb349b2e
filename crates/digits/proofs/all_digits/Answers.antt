-- `digits::all_digits` meets its contract.
use Prim.Native.Nat.{◌/◌, ◌*◌}
use mathlib.Core.Bool.{true}
use mathlib.Core.Path.{◌≡◌, sym, ap, ◌∙◌}
use lib.ListN.{length, take, drop}
use Rattle.digits.specs.Digit.{all_digits}
use Rattle.digits.proofs.Test.{all_list, all_split}
use Rattle.digits.proofs.all_digits.Goals as goal

pub returns-then-words_pass : goal.returns-then-words_pass
returns-then-words_pass c =
    let s = c.args.s.now in
    let n = length s / 8 * 8 in
    let e : all_digits (take n s) ≡ true = ap all_digits (sym c.split_at.ensures.front) ∙ sym c.words_pass.ensures ∙ c.if-words_pass.true in
    let f : c.bytes_pass.result ≡ all_digits (drop n s) = c.bytes_pass.ensures ∙ all_list _ ∙ ap all_digits c.split_at.ensures.back in
    f ∙ (rw e at (all_split n s))

pub returns-else-words_pass : goal.returns-else-words_pass
returns-else-words_pass c =
    let s = c.args.s.now in
    let n = length s / 8 * 8 in
    let e : c.words_pass.result ≡ all_digits (take n s) = c.words_pass.ensures ∙ ap all_digits c.split_at.ensures.front in
    c.if-words_pass.false ∙ (rw (sym e ∙ c.if-words_pass.false) at (all_split n s))
