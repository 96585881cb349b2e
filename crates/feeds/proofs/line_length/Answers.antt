-- `feeds::line_length` meets its contract.
use Prim.Native.Nat.{◌/◌, ◌*◌}
use mathlib.Core.Path.{◌≡◌, ap, ◌∙◌}
use native.Mathlib.Omega.{arith}
use lib.ListN.{length, take, drop, length-take}
use Rattle.feeds.specs.Feed.{line_length}
use Rattle.feeds.proofs.Length.{length_within, length_found, length-beyond}
use Rattle.feeds.proofs.line_length.Goals as goal

pub returns-then-n-words : goal.returns-then-n-words
returns-then-n-words c =
    let s = c.args.s.now in
    let n = length s / 8 * 8 in
    let e : c.words_length-n.result ≡ line_length (take n s) = c.words_length-n.ensures ∙ ap line_length c.split_at.ensures.front in
    e ∙ length_found n s (omega arith)

pub overflow_add-result : goal.overflow_add-result
overflow_add-result c =
    let s = c.args.s.now in
    let v = length_within c.split_at.result.0.now in
    let w = length_within c.split_at.result.1.now in
    omega arith

pub returns-else-n-words : goal.returns-else-n-words
returns-else-n-words c =
    let s = c.args.s.now in
    let n = length s / 8 * 8 in
    let e : c.words_length-n.result ≡ line_length (take n s) = c.words_length-n.ensures ∙ ap line_length c.split_at.ensures.front in
    let f : c.bytes_length.result ≡ line_length (drop n s) = c.bytes_length.ensures ∙ ap line_length c.split_at.ensures.back in
    let h = length_within (take n s) in
    let k : length (take n s) ≡ n = simp length-take (omega arith) in
    let g = length-beyond n s (omega arith) in
    omega arith
