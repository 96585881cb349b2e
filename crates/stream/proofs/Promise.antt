-- How each step keeps its promise. Assumes nothing.
use Prim.Native.Nat.{ℕ, suc, ◌+◌, ◌-◌, ◌*◌, ◌≤◌, ◌<◌}
use mathlib.Core.List.{List, [], ◌∷◌, ◌++◌, append-nil, append_assoc}
use mathlib.Core.Path.{◌≡◌, refl, sym, ap, ◌∙◌}
use native.Mathlib.Numerals.{add-one}
use native.Mathlib.Omega.{arith}
use borrow.Author.Tests.{le-leb}
use borrow.Rule.Slice.PartMut.{put_mid}
use lib.ListN.{length, take, drop, length-append, length-take, length-drop, drop_of_length-le, take-append-drop}
use lib.Seq.{take_all, drop_at, drop-drop, length-take-le}
use Rattle.format.proofs.Judged.{answer-short}
use Rattle.format.specs.Answer.{answer_of}
use Rattle.format.specs.Room.{Fitted, fitted, fitted_length}
use Rattle.feeds.specs.Feed.{line_length}
use Rattle.stream.specs.Output.{answers, rest, last_answer}
use Rattle.stream.specs.Steps.{cut, Held, Stands, Finished, Read, Stepped, Last}
use Rattle.stream.specs.declared.Advance.{Advance}
use Rattle.stream.proofs.Cut.{answer-cut, held_append, held-nothing, held_itself, stands_take, cut_short}
use Rattle.stream.proofs.Output.{answers_append, answers-room, rest_append, no_end, line_end}

-- nothing stands
pub stands_none : (before : List ℕ) → Stands [] before before 0
stands_none before = record { front = refl; bytes = refl }

-- an answer that has room is written whole
written : (line : List ℕ) {out out' : List ℕ} {r : ℕ} → 32783 ≤ length out → Fitted (answer_of line) out out' r → Stands (answer_of line) out out' r
unfolding fitted fitted_length
written line {out} room f =
    let t = le-leb (length (answer_of line)) (length out) (omega (arith, answer-short line)) in
    record { front = f.holds ∙ rw t refl; bytes = f.wrote ∙ rw t refl }

-- ---- a line that ends
-- of which nothing was held
pub finished_here : (s carry out out' : List ℕ) (used r : ℕ) → used ≡ 0 → 32783 ≤ length out → Fitted (answer_of s) out out' r
    → Finished s (take used carry) out out' r
finished_here s carry out out' used r e room f = λ held k. rw (held-nothing held (rw e at k)) (written s room f)

-- whose beginning was held
pub finished_held : (s kept all out out' : List ℕ) (r : ℕ) → all ≡ cut (kept ++ s) → 32783 ≤ length out → Fitted (answer_of all) out out' r
    → Finished s kept out out' r
finished_held s kept all out out' r e room f =
    λ held k. rw (ap answer_of (e ∙ held_append kept held s k) ∙ answer-cut (held ++ s)) at (written all room f)

-- ---- the end of the input
pub last_none : (carry out : List ℕ) (used : ℕ) → used ≡ 0 → Last (take used carry) out out 0
unfolding last_answer
last_none carry out used e = record { writes = λ held k. rw (held-nothing held (rw e at k)) (stands_none out); room = omega arith }

last_of : (held : List ℕ) → 0 < length held → last_answer held ≡ answer_of held
unfolding last_answer
last_of [] h = absurd (omega arith)
last_of (b ∷ bs) h = refl

held_some : (held kept : List ℕ) → Held kept held → 0 < length kept → 0 < length held
unfolding cut
held_some held kept q h = omega (arith, ap length q, length-take 8215 held)

pub last-held : (carry out out' : List ℕ) (used r : ℕ) → length carry ≡ 8215 → 0 < length (take used carry) → Finished [] (take used carry) out out' r
    → Last (take used carry) out out' r
last-held carry out out' used r l h f =
    record {
      writes = λ held k. rw (last_of held (held_some held (take used carry) k h), ← append-nil held) (f held k);
      room = omega (arith, answer-short (take used carry ++ []), (f (take used carry) (held_itself carry used l)).bytes);
    }

-- ---- one step
-- no line ends
pub step-held : (s carry carry' out : List ℕ) (used n u : ℕ) → n ≡ line_length s → n ≡ length s
    → Stands (cut (take used carry ++ s)) carry carry' u → Stepped s carry carry' used u out out (record { taken = n; wrote = 0 })
step-held s carry carry' out used n u e l st =
    let all : take n s ≡ s = take_all n s (omega arith) in
    let none : (held : List ℕ) → (answers held s ≡ []) × (rest held s ≡ held ++ s) = λ held. no_end held s (omega arith) in
    record {
      forward = omega arith;
      unheld = λ h. absurd (omega arith);
      reads = record {
        writes = λ held q. rw (all, (none held).0) (stands_none out);
        holds = λ held q. rw (all, (none held).1) (rw (held_append (take used carry) held s q) at st);
      };
    }

-- a line ends
pub step_answered : (s carry out out' : List ℕ) (used n r : ℕ) → n ≡ line_length s → n < length s
    → Finished (take n s) (take used carry) out out' r → Stepped s carry carry used 0 out out' (record { taken = n + 1; wrote = r })
step_answered s carry out out' used n r e l f =
    let line : (held : List ℕ) → (answers held (take (suc (line_length s)) s) ≡ answer_of (held ++ take (line_length s) s)) × (rest held (take (suc (line_length s)) s) ≡ []) = λ held. line_end held s (omega arith) in
    record {
      forward = omega arith;
      unheld = λ h. refl;
      reads = record {
        writes = λ held q. rw (add-one, e, (line held).0) (rw e at (f held q));
        holds = λ held q. rw (add-one, e, (line held).1) (unfold cut in stands_none carry);
      };
    }

-- ---- steps one after the other
pub read_none : (s carry out : List ℕ) (used : ℕ) → used ≤ 8215 → length carry ≡ 8215 → Read (take 0 s) carry carry used used out out 0
read_none s carry out used h l = record { writes = λ held k. unfold answers in stands_none out; holds = λ held k. unfold rest in kept held k }
  where
    kept : (held : List ℕ) → Held (take used carry) held → Stands (cut held) carry carry used
    kept held k =
        let n : length (take used carry) ≡ used = length-take-le used carry (omega arith) in
        record { front = rw (← k, n) (sym (take-append-drop used carry)); bytes = sym (rw (← k) n) }

-- two texts, the second in the part of the buffer behind the first
stands_more : (a b before after last : List ℕ) (wrote n r : ℕ) → Stands a before after wrote → n ≡ length after - wrote
    → Stands b (drop wrote after) last r → Stands (a ++ b) before (put_mid wrote n after last) (wrote + r)
stands_more a b before after last wrote n r p e q =
    let behind : drop wrote after ≡ drop (length a) before = rw (p.front, p.bytes) (drop_at a (drop (length a) before) (length a) refl) in
    let none : drop n (drop wrote after) ≡ [] = drop_of_length-le (drop wrote after) {i = n} (omega (arith, length-drop wrote after)) in
    record {
      front = rw (stands_take p, none, append-nil, q.front, behind, drop-drop (length b) (length a) before, length-append a b) (sym (append_assoc a b _));
      bytes = rw (p.bytes, q.bytes) (sym (length-append a b));
    }

-- What the loop over lines has done: it has read `done`, with `ahead` still to read, and bytes of a line are held only once all is read
pub record Going (s ahead carry carry' : List ℕ) (used used' : ℕ) (out out' : List ℕ) (wrote : ℕ) : Type 0 where
  pub done : List ℕ
  pub parts : s ≡ done ++ ahead
  pub unheld : 0 < length ahead → carry' ≡ carry
  pub reads : Read done carry carry' used used' out out' wrote

pub going_none : (s carry out : List ℕ) (used : ℕ) → used ≤ 8215 → length carry ≡ 8215 → Going s s carry carry used used out out 0
going_none s carry out used h l = record { done = []; parts = refl; unheld = λ k. refl; reads = read_none s carry out used h l }

pub going_all : {s ahead carry carry' out out' : List ℕ} {used used' wrote : ℕ} → ahead ≡ [] → Going s ahead carry carry' used used' out out' wrote
    → Read s carry carry' used used' out out' wrote
going_all {s} {ahead} e g = rw (← append-nil g.done, ← e, ← g.parts) at g.reads

-- a step more, at the part of out that is lent to it
module _ (s ahead carry carry1 carry2 out out1 last : List ℕ) (used used1 used2 wrote : ℕ) (r : Advance) (some : 0 < length ahead)
    (g : Going s ahead carry carry1 used used1 out out1 wrote)
    (st : Stepped ahead carry1 carry2 used1 used2 (take (length out1 - wrote) (drop wrote out1)) last r) where
  left : take (length ahead - r.taken) (drop r.taken ahead) ≡ drop r.taken ahead
  left = take_all (length ahead - r.taken) (drop r.taken ahead) (omega (arith, length-drop r.taken ahead))

  same : carry1 ≡ carry
  same = g.unheld some

  rest_out : take (length out1 - wrote) (drop wrote out1) ≡ drop wrote out1
  rest_out = take_all (length out1 - wrote) (drop wrote out1) (omega (arith, length-drop wrote out1))

  pub going_more : Going s (take (length ahead - r.taken) (drop r.taken ahead)) carry carry2 used used2 out (put_mid wrote (length out1 - wrote) out1 last) (wrote + r.wrote)
  going_more =
      record {
        done = g.done ++ take r.taken ahead;
        parts = rw (left, append_assoc, take-append-drop r.taken ahead) g.parts;
        unheld = λ h. st.unheld (omega (arith, h, length-drop r.taken ahead, ap length left)) ∙ same;
        reads = record {
          writes = λ held q.
              rw (answers_append held g.done (take r.taken ahead))
              (stands_more _ _ out out1 last wrote (length out1 - wrote) r.wrote (g.reads.writes held q) refl
              (rw rest_out at (st.reads.writes (rest held g.done) (stands_take (g.reads.holds held q)))));
          holds = λ held q.
              rw (rest_append held g.done (take r.taken ahead))
              (rw same at (st.reads.holds (rest held g.done) (stands_take (g.reads.holds held q))));
        };
      }

-- how far a part of the input that is read has filled the answers' room, and what is held of it
pub read-room : {s carry carry' out out' : List ℕ} {used used' wrote : ℕ} → length carry ≡ 8215 → Read s carry carry' used used' out out' wrote
    → (wrote ≤ 32783 + 11 * length s) × (used' ≤ 8215)
read-room {s} {carry} {carry'} {out} {out'} {used} h r =
    let k = held_itself carry used h in
    let w = (r.writes _ k).bytes in
    let u = (r.holds _ k).bytes in
    (omega (arith, answers-room (take used carry) s), omega (arith, cut_short (rest (take used carry) s)))

pub going-room : {s ahead carry carry' out out' : List ℕ} {used used' wrote : ℕ} → length carry ≡ 8215
    → Going s ahead carry carry' used used' out out' wrote → wrote ≤ 32783 + 11 * length s
going-room {s} {ahead} h g = omega (arith, read-room h g.reads, ap length g.parts, length-append g.done ahead)

-- the same of any number of held bytes, of which 8,215 count, and of any number of bytes read
pub read_least : {s s' carry carry' out out' : List ℕ} {used n used' wrote : ℕ} → s ≡ s' → take n carry ≡ take used carry
    → Read s carry carry' n used' out out' wrote → Read s' carry carry' used used' out out' wrote
read_least e k r = record { writes = λ held q. rw e at (r.writes held (k ∙ q)); holds = λ held q. rw e at (r.holds held (k ∙ q)) }
