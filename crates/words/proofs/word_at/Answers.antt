-- `words::word_at` meets its contract.
use Prim.Native.Nat.{◌+◌, ◌<◌}
use mathlib.Core.Path.{◌≡◌, ◌∙◌}
use native.Mathlib.Nat.{add-sub_cancel_left}
use native.Mathlib.Omega.{arith}
use lib.ListN.{length, take, drop, length-take, length-drop}
use lib.Seq.{take_all, get_or-take, get_or-drop}
use Rattle.words.proofs.Held.{bytes_read}
use Rattle.words.proofs.word_at.Goals as goal

pub returns : goal.returns
returns c =
    let s = c.args.s.now in
    let i = c.args.i in
    let l : length (take 8 (drop i s)) ≡ 8 = simp (length-take, length-drop) (omega arith) in
    let e : c.unwrap-bytes.result.now ≡ take 8 (drop i s) = (rw (c.unwrap-bytes.ensures, add-sub_cancel_left i 8) at c.first_chunk.ensures.cases).same ∙ take_all 8 _ (omega arith) in
    bytes_read (take 8 (drop i s)) c.from_le_bytes.result l
    (λ k h. let h' : k < 8 = omega arith in rw (get_or-take 8 (drop i s) k 0 h', get_or-drop i s k 0) (c.type_inv.s (i + k)).fits)
    (rw e at c.from_le_bytes.ensures)
