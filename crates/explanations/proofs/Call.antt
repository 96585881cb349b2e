-- The call: what an accepted one has passed, and its answer in either case. Assumes nothing.
use mathlib.Core.Path.{◌≡◌, refl, sym, ap, ◌∙◌, subst}
use mathlib.Core.Bool.{◌||◌}
use mathlib.Core.List.{List, [], ◌∷◌, ◌++◌, map}
use Prim.Native.Nat.{ℕ, ◌*◌, ◌≤◌, ◌<◌}
use native.Mathlib.Omega.{arith}
use borrow.Author.Tests.{leb-false}
use lib.Dec.{leb, lit≤}
use lib.IntN.{ℤ, pos, negsuc}
use lib.ListN.{length, take, drop, replicate}
use lib.Seq.{length-take-le}
use Rattle.lists.specs.Tab.{tab}
use Rattle.lists.specs.Line.{line}
use Rattle.std.specs.Prelude.{Ok, Err}
use Rattle.refusals.specs.declared.Refusal.{Refusal}
use Rattle.refusals.specs.declared.Refusal.TheVariants.{BadSize, TooShort, TooFar, BadKernel, BadSample, Outside}
use Rattle.refusals.specs.Tests.{bad_side, short, bad_kernel, beyond_of, first_from, first_bad}
use Rattle.refusals.specs.Judging.{Verdict, accepted, refused_if, of_found, number_of}
use Rattle.refusals.proofs.First.{one_number_good}
use Rattle.refusals.proofs.Judging.{refused_if-accepted, some_number, accepted_by_zero}
use Rattle.refusals.proofs.Figures.{and_then-refused_if}
use Rattle.settings.specs.declared.Border.TheVariants.{Wrapped}
use Rattle.kernels.specs.Kernel.{kernel_of}
use Rattle.moves.specs.Move.{source}
use Rattle.moves.specs.Border.{move_in}
use Rattle.lines.specs.Answer.{farthest, range, too_short, judged_by}
use Rattle.lines.proofs.Answer.{passed}
use Rattle.explanations.specs.declared.Parts.{Parts}
use Rattle.explanations.specs.Made.{parts_of, no_term, no_parts}
use Rattle.explanations.specs.Answer.{judged, Explainable, source_of, explanation_of, parts_of_answer, Shown, Explained}
use Rattle.explanations.proofs.Made.{sum-mixed, quotient_moved, parts_shown}

-- ---- verdicts at the ends of each range and in the order of the numbers, worked out by the checker
-- a call: n, the kernel, d, k, the line, and the places of the work
data Call : Type 0 where
  call : ℕ → ℕ → ℤ → ℕ → List ℤ → ℕ → Call

abbrev verdict_of : Call → Verdict
verdict_of (call n kernel d k s work) = judged n kernel d k s work

-- two samples at the ends of their range and one past it
abbrev three : List ℤ
three = pos 294912 ∷ negsuc 294911 ∷ pos 294913 ∷ []

-- the first and the last place of a line of two, the farthest moves, a line and a work of just n and 6n places
accepted_at_the_ends :
    map verdict_of
    (call 2 0 (pos 4194304) 0 three 12
    ∷ call 2 2 (negsuc 4194303) 1 three 12
    ∷ call 1 1 (pos 0) 0 (pos 5 ∷ []) 6
    ∷ [])
    ≡ replicate 3 accepted
unfolding judged judged_by too_short bad_side short bad_kernel beyond_of first_bad first_from
accepted_at_the_ends = refl

-- computed up to number 6, which zeros do not meet
longest_accepted : verdict_of (call 1024 1 (pos 0) 1023 (replicate 1024 (pos 0)) 6144) ≡ accepted
unfolding judged judged_by too_short bad_side short bad_kernel beyond_of
longest_accepted = rw (one_number_good range 1024 1 1024 (pos 0) (lit≤ tt) (lit≤ tt)) refl

-- one past each end: a place beyond the line is refused though the buffer has it, ahead of a bad sample
refused_past_the_ends :
    map verdict_of
    (call 0 0 (pos 0) 0 three 18
    ∷ call 1025 0 (pos 0) 0 (replicate 1025 (pos 0)) 6150
    ∷ call 4 0 (pos 0) 0 three 24
    ∷ call 2 0 (pos 0) 0 three 11
    ∷ call 2 0 (pos 4194305) 0 three 12
    ∷ call 2 0 (negsuc 4194304) 0 three 12
    ∷ call 2 3 (pos 0) 0 three 12
    ∷ call 2 0 (pos 0) 2 three 12
    ∷ call 3 0 (pos 0) 2 three 18
    ∷ call 2 0 (pos 0) 0 (pos 0 ∷ negsuc 294912 ∷ []) 12
    ∷ [])
    ≡ Err BadSize
    ∷ Err BadSize
    ∷ Err TooShort
    ∷ Err TooShort
    ∷ Err TooFar
    ∷ Err TooFar
    ∷ Err BadKernel
    ∷ Err Outside
    ∷ Err (BadSample (record { row = 0; column = 2 }))
    ∷ Err (BadSample (record { row = 0; column = 1 }))
    ∷ []
unfolding judged judged_by too_short bad_side short bad_kernel beyond_of first_bad first_from
refused_past_the_ends = refl

-- of two neighbouring numbers that both apply the one that is judged first is told: 1, 2, 4, 5, 7, 6
first_of_two :
    map verdict_of
    (call 1025 0 (pos 0) 0 [] 0
    ∷ call 3 0 (pos 4194305) 0 three 17
    ∷ call 3 3 (pos 4194305) 0 three 18
    ∷ call 3 3 (pos 0) 3 three 18
    ∷ call 3 2 (pos 0) 3 three 18
    ∷ [])
    ≡ Err BadSize ∷ Err TooShort ∷ Err TooFar ∷ Err BadKernel ∷ Err Outside ∷ []
unfolding judged judged_by too_short bad_side short bad_kernel beyond_of first_bad first_from
first_of_two = refl

-- refused, every figure is 0
refused_parts :
    (explanation_of 2 0 (pos 0) 2 three 12 ≡ Err Outside)
    × (parts_of_answer (explanation_of 2 0 (pos 0) 2 three 12) ≡ record { terms = replicate 4 no_term; sum = pos 0; divisor = pos 0; quotient = pos 0 })
unfolding explanation_of judged judged_by too_short bad_side short bad_kernel beyond_of no_parts tab
refused_parts = (refl, refl)

-- ---- the numbers in their order: 1, 2, 4, 5, 7 and 6
pub in_order : (n kernel : ℕ) (d : ℤ) (k : ℕ) (s : List ℤ) (work : ℕ)
    → judged n kernel d k s work
    ≡ refused_if (bad_side n) BadSize
    (refused_if (short (length s) n || short work (6 * n)) TooShort
    (refused_if (beyond_of farthest d) TooFar
    (refused_if (bad_kernel kernel) BadKernel
    (refused_if (leb n k) Outside
    (of_found BadSample (first_bad range n 1 s))))))
unfolding judged judged_by too_short
in_order n kernel d k s work = rw (and_then-refused_if (leb n k) Outside accepted (of_found BadSample (first_bad range n 1 s))) refl

-- ---- what an accepted call has passed
pub explainable : (n kernel : ℕ) (d : ℤ) (k : ℕ) (s : List ℤ) (work : ℕ) → judged n kernel d k s work ≡ accepted → Explainable n d k s work
unfolding judged
explainable n kernel d k s work e =
    let (place, known, p) = passed n kernel d (refused_if (leb n k) Outside accepted) s (length s) work e in
    record { passed = p; inside = leb-false n k (refused_if-accepted (leb n k) Outside accepted _ place).0 }

pub known : (n kernel : ℕ) (d : ℤ) (k : ℕ) (s : List ℤ) (work : ℕ) → judged n kernel d k s work ≡ accepted → kernel ≤ 2
unfolding judged
known n kernel d k s work e = (passed n kernel d (refused_if (leb n k) Outside accepted) s (length s) work e).1

-- number 0 says that the call is accepted
pub zero-accepted : (n kernel : ℕ) (d : ℤ) (k : ℕ) (s : List ℤ) (work : ℕ) → number_of (judged n kernel d k s work) ≡ 0 → judged n kernel d k s work ≡ accepted
zero-accepted n kernel d k s work = accepted_by_zero _

-- the part of the work that is lent suffices
pub room_lent : {n : ℕ} {d : ℤ} {k : ℕ} {s : List ℤ} {work : ℕ} → Explainable n d k s work → Explainable n d k s (6 * n)
room_lent m =
    let p = m.passed in
    record {
      passed = record { some = p.some; few = p.few; held_room = p.held_room; work_room = omega arith; near = p.near; samples = p.samples };
      inside = m.inside;
    }

-- the quotient is the sample of the moved line
moved_at : (n kernel : ℕ) (d : ℤ) (k : ℕ) (s : List ℤ) → n ≤ length s → k < n
    → (parts_of (kernel_of kernel) n d k (source_of n kernel s)).quotient ≡ line (move_in Wrapped (kernel_of kernel) d (take n s)) k
moved_at n kernel d k s h l =
    let m = length-take-le n s h in
    subst (λ (N : ℕ). (parts_of (kernel_of kernel) N d k (source (kernel_of kernel) N (line (take n s)))).quotient ≡ line (move_in Wrapped (kernel_of kernel) d (take n s)) k) m
    (quotient_moved (kernel_of kernel) d k (take n s) (omega (arith, m)))

-- ---- the answer, refused and accepted
module _ (n kernel : ℕ) (d : ℤ) (k : ℕ) (s work : List ℤ) where
  pub refused-answer : (refusal : Refusal) → judged n kernel d k s (length work) ≡ Err refusal → Explained n kernel d k s work work (Err refusal)
  unfolding explanation_of
  refused-answer refusal e =
      record {
        answer = rw e refl;
        work = rw e refl;
        shown = λ zero. absurd (some_number refusal zero);
        mixed_sum = λ zero. absurd (some_number refusal zero);
        moved = λ zero. absurd (some_number refusal zero);
      }

  pub accepted-answer : (work' : List ℤ) (p : Parts) → judged n kernel d k s (length work) ≡ accepted → p ≡ parts_of (kernel_of kernel) n d k (source_of n kernel s)
      → work' ≡ replicate (6 * n) (pos 0) ++ drop (6 * n) work → Explained n kernel d k s work work' (Ok p)
  unfolding explanation_of
  accepted-answer work' p e q w =
      let x = explainable n kernel d k s (length work) e in
      record {
        answer = rw (e, q) refl;
        work = rw e w;
        shown = λ zero. subst (Shown n kernel s) (sym q) (parts_shown n kernel d k s x.passed.some);
        mixed_sum = λ zero. ap (λ (r : Parts). r.sum) q ∙ sum-mixed (kernel_of kernel) n d k (source_of n kernel s) x.passed.some;
        moved = λ zero. ap (λ (r : Parts). r.quotient) q ∙ moved_at n kernel d k s x.passed.held_room x.inside;
      }
