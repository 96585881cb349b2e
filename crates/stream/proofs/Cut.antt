-- A line that is cut to 8,215 bytes is answered as the whole line is, however often it is cut on the way. Assumes nothing.
use Prim.Native.Nat.{ℕ, ◌+◌, ◌-◌, ◌≤◌, ◌<◌, min}
use mathlib.Core.Bool.{Bool, true, false}
use mathlib.Core.List.{List, [], ◌∷◌, ◌++◌, append_assoc}
use mathlib.Core.Path.{◌≡◌, refl, sym, ap, ◌∙◌}
use native.Mathlib.Omega.{arith}
use borrow.Author.Tests.{leb-true, leb-false}
use lib.Dec.{leb}
use borrow.Rule.Slice.PartMut.{put_mid}
use lib.ListN.{length, take, drop, length-append, length-take}
use lib.Seq.{take_all, take-take, length-take-le, take-append-le, take-append-add, take-append_seam, drop-drop}
use Rattle.format.proofs.Judged.{long_ill, answer_ill}
use Rattle.format.specs.Answer.{answer_of}
use Rattle.stream.specs.Steps.{cut, Held, Stands}

by_length : {P : Type 0} (n m : ℕ) → (n ≤ m → P) → (m < n → P) → P
by_length {P} n m f g = go (leb n m) refl
  where
    go : (t : Bool) → leb n m ≡ t → P
    go true e = f (leb-true n m e)
    go false e = g (leb-false n m e)

pub answer-cut : (l : List ℕ) → answer_of (cut l) ≡ answer_of l
unfolding cut
answer-cut l =
    by_length (length l) 8215
    (λ (h : length l ≤ 8215). rw (take_all 8215 l h) refl)
    (λ (h : 8215 < length l).
    sym (answer_ill (take 8215 l) (long_ill (take 8215 l) (simp length-take (omega arith)))) ∙ answer_ill l (long_ill l (omega arith)))

-- a cut line with more behind it, cut again
cut_append : (l s : List ℕ) → cut (cut l ++ s) ≡ cut (l ++ s)
unfolding cut
cut_append l s =
    by_length (length l) 8215
    (λ (h : length l ≤ 8215). rw (take_all 8215 l h) refl)
    (λ (h : 8215 < length l).
    let k : length (take 8215 l) ≡ 8215 = length-take-le 8215 l (omega arith) in
    take-append-le 8215 (take 8215 l) s (omega arith) ∙ take-take 8215 8215 l (omega arith) ∙ sym (take-append-le 8215 l s (omega arith)))

pub held_append : (kept held s : List ℕ) → Held kept held → cut (kept ++ s) ≡ cut (held ++ s)
held_append kept held s e = rw e (cut_append held s)

-- a count of bytes beyond those that there are
pub take_min : (s : List ℕ) (n m : ℕ) → n ≡ min (length s) m → take n s ≡ take m s
take_min s n m e =
    by_length (length s) m
    (λ (h : length s ≤ m). take_all n s (omega arith) ∙ sym (take_all m s h))
    (λ (h : m < length s). let q : n ≡ m = omega arith in rw q refl)

-- used bytes that stand, and as many of s behind them as there is room for
pub held_stands : (carry s : List ℕ) (used n : ℕ) → used ≤ 8215 → length carry ≡ 8215 → n ≡ min (length s) (8215 - used)
    → Stands (cut (take used carry ++ s)) carry (put_mid used (used + n - used) carry (take n s)) (used + n)
unfolding cut
held_stands carry s used n h l e =
    let k : length (take used carry) ≡ used = length-take-le used carry (omega arith) in
    let m : length (take n s) ≡ n = length-take-le n s (omega arith) in
    let all : 8215 ≡ length (take used carry) + (8215 - used) = omega arith in
    let both : take 8215 (take used carry ++ s) ≡ take used carry ++ take n s =
    ap (λ (m : ℕ). take m (take used carry ++ s)) all ∙ take-append-add (take used carry) s (8215 - used)
    ∙ ap (λ (x : List ℕ). take used carry ++ x) (sym (take_min s n (8215 - used) e)) in
    let long : length (take used carry ++ take n s) ≡ used + n = simp length-append (omega arith) in
    let part : used + n - used ≡ n = omega arith in
    record { front = rw (part, both, long) (simp (append_assoc, ← drop-drop)); bytes = rw both (sym long) }

-- the first n bytes of a buffer that a text of n bytes stands in
pub stands_take : {text before after : List ℕ} {n : ℕ} → Stands text before after n → take n after ≡ text
stands_take {text} {before} st = rw (st.front, st.bytes) (take-append_seam text (drop (length text) before))

pub cut_short : (l : List ℕ) → length (cut l) ≤ 8215
unfolding cut
cut_short l = simp length-take (omega arith)

-- bytes that were kept are what they were cut from
pub held_itself : (carry : List ℕ) (used : ℕ) → length carry ≡ 8215 → Held (take used carry) (take used carry)
unfolding cut
held_itself carry used h = sym (take_all 8215 (take used carry) (simp length-take (omega arith)))

-- nothing is held of a line only where nothing came
pub held-nothing : (held : List ℕ) → Held [] held → held ≡ []
unfolding cut
held-nothing [] e = refl
held-nothing (b ∷ bs) e = absurd (omega (arith, ap length e, length-take 8215 (b ∷ bs)))
