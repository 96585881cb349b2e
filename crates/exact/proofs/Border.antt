-- The laws of one exact line, under a border. Wrapped, they are those of `ExactLine`, `Step` and `Whole`; under background they are the same laws
-- of the line of 3N places, whose background places are b on both sides, and a line that becomes all background is b on both sides.
-- Assumes nothing.
use mathlib.Core.Path.{◌≡◌, refl, sym, ap, ◌∙◌, subst, subst₂}
use mathlib.Core.Bool.{Bool, true, false, cond}
use Prim.Native.Nat.{ℕ, ◌+◌, ◌*◌, ◌-◌, ◌≤◌, ◌<◌}
use native.Mathlib.Omega.{arith}
use lib.IntN.{ℤ, pos, ◌+ℤ◌, ◌-ℤ◌, ◌*ℤ◌, *ℤ_comm}
use lib.Signed.{◌≤ℤ◌, ◌<ℤ◌, lt_z_yes}
use Rattle.arith.proofs.Bridge.{bridge, all1, all2}
use Rattle.arith.proofs.Ring.{ring, reify, vars3, vars5}
use Rattle.arith.proofs.Cert.{linear, ◌⊕◌, ◌⊗◌}
use Rattle.arith.proofs.Laws.{≤ℤ_of_<ℤ, cancel_≤, pos_non_neg}
use Rattle.arith.proofs.Within.{Within}
use Rattle.arith.specs.Move.{fraction, whole}
use Rattle.lists.specs.Line.{Line, wrap}
use Rattle.settings.specs.declared.Border.{Border}
use Rattle.settings.specs.declared.Border.TheVariants.{Wrapped, Background}
use Rattle.kernels.specs.declared.Kernel.{Kernel}
use Rattle.moves.specs.Move.{first, moved}
use Rattle.moves.specs.Border.{framed, far, bordered, grey}
use Rattle.moves.proofs.Border.{framed_both, framed_every}
use Rattle.exact.specs.ExactLine.{ExactLine, Kept, OnBackground, ExactMove}
use Rattle.exact.proofs.ExactLine.{exact_moved, exact_over, exact_line, exact_over_positive, exact_line_only, Same}
use Rattle.exact.proofs.Step.{Near, base, growth, line-near}
use Rattle.exact.proofs.Whole.{grey-line, shift_line, whole-moved}

-- ---- document 02's sentence: the exact picture follows the same steps
pub far_exact : (b : ℤ) (κ : Kernel) (N : ℕ) (d : ℤ) (S : Line) (q : ℤ) (E : Line) (Z : ℤ) → far N d ≡ true → ExactMove (Background b) κ N d S q E Z
    → (k : ℕ) → k < N → E k ≡ b *ℤ Z
far_exact b κ N d S q E Z e a = (rw e at a.is)

pub near_exact : (b : ℤ) (κ : Kernel) (N : ℕ) (d : ℤ) (S : Line) (q : ℤ) (E : Line) (Z : ℤ) → far N d ≡ false → ExactMove (Background b) κ N d S q E Z
    → Kept κ N d b S q E Z
near_exact b κ N d S q E Z e a = (rw e at a.is)

-- ---- there is one, over a number that depends on the border, the kernel, the length and q alone
unfoldable pub over_in : Border → Kernel → ℕ → ℤ → ℤ
over_in Wrapped κ N q = exact_over κ N q
over_in (Background b) κ N q = exact_over κ (3 * N) q

unfoldable pub numbers_in : Border → Kernel → ℕ → ℤ → Line → ℤ → Line
numbers_in Wrapped κ N d S q k = exact_moved κ N d S k
numbers_in (Background b) κ N d S q k = cond (far N d) (b *ℤ exact_over κ (3 * N) q) (exact_moved κ (3 * N) d (framed N (b *ℤ q) S) (N + k))

pub exact_move : (β : Border) (κ : Kernel) (N : ℕ) (d : ℤ) (S : Line) (q : ℤ) → 0 < N → pos 0 <ℤ q
    → ExactMove β κ N d S q (numbers_in β κ N d S q) (over_in β κ N q)
unfolding over_in numbers_in
exact_move Wrapped κ N d S q h hq = record { is = exact_line κ N d S q h hq }
exact_move (Background b) κ N d S q h hq = record { is = by (far N d) }
  where
    by : (p : Bool) → OnBackground p κ N d b S q (λ k. cond p (b *ℤ exact_over κ (3 * N) q) (exact_moved κ (3 * N) d (framed N (b *ℤ q) S) (N + k))) (exact_over κ (3 * N) q)
    by true = λ k l. refl
    by false = record { long = exact_moved κ (3 * N) d (framed N (b *ℤ q) S); moves = exact_line κ (3 * N) d (framed N (b *ℤ q) S) q (omega arith) hq; kept = λ k l. refl }

pub over_in_positive : (β : Border) (κ : Kernel) (N : ℕ) (q : ℤ) → 0 < N → pos 0 <ℤ q → pos 0 <ℤ over_in β κ N q
unfolding over_in
over_in_positive Wrapped κ N q h hq = exact_over_positive κ N q h hq
over_in_positive (Background b) κ N q h hq = exact_over_positive κ (3 * N) q (omega arith) hq

-- ---- and one only: of equal fractions, equal fractions
exchanged : (b q q' : ℤ) → b *ℤ q *ℤ q' ≡ b *ℤ q' *ℤ q
exchanged = vars3 _ (simp reify (λ ρ. ring tt))

framed_same : {N : ℕ} {S S' : Line} {q q' : ℤ} (b : ℤ) → Same N S q S' q' → Same (3 * N) (framed N (b *ℤ q) S) q (framed N (b *ℤ q') S') q'
framed_same {N} {S} {S'} {q} {q'} b same = record { place = λ k l. framed_both (λ v w. v *ℤ q' ≡ w *ℤ q) {N = N} {x = S} {y = S'} (exchanged b q q') same.place k }

middle_in : {N k : ℕ} → k < N → N + k < 3 * N
middle_in l = omega arith

module _ {N : ℕ} {S S' : Line} {q q' : ℤ} (h : 0 < N) (hq : pos 0 <ℤ q) (hq' : pos 0 <ℤ q') (same : Same N S q S' q') where
  only_on : (p : Bool) (κ : Kernel) (d b : ℤ) (E E' : Line) (Z Z' : ℤ) → OnBackground p κ N d b S q E Z → OnBackground p κ N d b S' q' E' Z' → (k : ℕ) → k < N
      → E k *ℤ Z' ≡ E' k *ℤ Z
  only_on true κ d b E E' Z Z' a a' k l = ap (λ v. v *ℤ Z') (a k l) ∙ exchanged b Z Z' ∙ ap (λ v. v *ℤ Z) (sym (a' k l))
  only_on false κ d b E E' Z Z' a a' k l =
      ap (λ v. v *ℤ Z') (a.kept k l)
      ∙ (exact_line_only (omega arith) hq hq' (framed_same b same) a.moves a'.moves).place (N + k) (middle_in l)
      ∙ ap (λ v. v *ℤ Z) (sym (a'.kept k l))

  pub exact_move_only : {β : Border} {κ : Kernel} {d : ℤ} {E E' : Line} {Z Z' : ℤ} → ExactMove β κ N d S q E Z → ExactMove β κ N d S' q' E' Z' → Same N E Z E' Z'
  exact_move_only {β = Wrapped} a a' = exact_line_only h hq hq' same a.is a'.is
  exact_move_only {β = Background b} {κ} {d} {E} {E'} {Z} {Z'} a a' = record { place = only_on (far N d) κ d b E E' Z Z' a.is a'.is }

-- ---- rounded against exact: the same distance as without a border
bound_non_neg : (B v : ℤ) → Within B v → pos 0 ≤ℤ B
bound_non_neg = all2 _ (simp bridge (omega arith))

zero_within : (B c x : ℤ) → pos 0 ≤ℤ B → Within B (c *ℤ (x -ℤ x))
zero_within = vars3 _ (simp reify (λ ρ h. (linear h tt, linear h tt)))

-- a distance e/m between samples is not negative, and neither is what becomes of it
quotient_non_neg : (e q : ℤ) → pos 0 <ℤ q → pos 0 ≤ℤ (e *ℤ q) → pos 0 ≤ℤ e
quotient_non_neg e q hq h = cancel_≤ q (pos 0) e hq (subst₂ (λ x y. x ≤ℤ y) (none q) (*ℤ_comm e q) h)
  where
    none : (q : ℤ) → pos 0 ≡ q *ℤ pos 0
    none = all1 _ (simp bridge (omega arith))

grown : (u m w e Z : ℤ) → pos 0 ≤ℤ u → pos 0 ≤ℤ m → pos 0 ≤ℤ w → pos 0 ≤ℤ e → pos 0 ≤ℤ Z → pos 0 ≤ℤ ((u *ℤ m +ℤ w *ℤ e) *ℤ Z)
grown = vars5 _ (simp reify (λ ρ u m w e Z. linear (u ⊗ m ⊗ Z ⊕ w ⊗ e ⊗ Z) tt))

module _ {N : ℕ} {x S : Line} {q : ℤ} (m e : ℤ) (h : 0 < N) (small : (k : ℕ) → k < N → Within (pos 294912) (x k)) (hq : pos 0 <ℤ q) (hm : pos 0 ≤ℤ m) (near : Near N m e x S q) where
  bound : pos 0 ≤ℤ (e *ℤ q)
  bound = bound_non_neg (e *ℤ q) (m *ℤ (x 0 *ℤ q -ℤ S 0)) (near.place 0 h)

  framed-near : (b : ℤ) → Near (3 * N) m e (framed N b x) (framed N (b *ℤ q) S) q
  framed-near b = record { place = λ k l. framed_both (λ v w. Within (e *ℤ q) (m *ℤ (v *ℤ q -ℤ w))) {N = N} {x = x} {y = S} (zero_within (e *ℤ q) m (b *ℤ q) bound) near.place k }

  near_on : (p : Bool) (κ : Kernel) (d b : ℤ) (E : Line) (Z : ℤ) → Within (pos 294912) b → pos 0 <ℤ Z → OnBackground p κ N d b S q E Z → (k : ℕ) → k < N
      → Within ((pos (base κ) *ℤ m +ℤ pos (growth κ) *ℤ e) *ℤ Z) (pos 4 *ℤ m *ℤ (cond p b (moved κ (3 * N) d (framed N b x) (N + k)) *ℤ Z -ℤ E k))
  near_on true κ d b E Z hb hZ a k l =
      subst (λ v. Within ((pos (base κ) *ℤ m +ℤ pos (growth κ) *ℤ e) *ℤ Z) (pos 4 *ℤ m *ℤ (b *ℤ Z -ℤ v))) (sym (a k l))
      (zero_within ((pos (base κ) *ℤ m +ℤ pos (growth κ) *ℤ e) *ℤ Z) (pos 4 *ℤ m) (b *ℤ Z)
      (grown (pos (base κ)) m (pos (growth κ)) e Z (pos_non_neg (base κ)) hm (pos_non_neg (growth κ)) (quotient_non_neg e q hq bound) (≤ℤ_of_<ℤ hZ)))
  near_on false κ d b E Z hb hZ a k l =
      subst (λ v. Within ((pos (base κ) *ℤ m +ℤ pos (growth κ) *ℤ e) *ℤ Z) (pos 4 *ℤ m *ℤ (moved κ (3 * N) d (framed N b x) (N + k) *ℤ Z -ℤ v))) (sym (a.kept k l))
      ((line-near m e (omega arith) (λ i j. framed_every (Within (pos 294912)) {x = x} hb small i) hq hm (framed-near b) κ d hZ a.moves).place (N + k) (middle_in l))

  pub move-near : (β : Border) → Within (pos 294912) (grey β) → (κ : Kernel) (d : ℤ) {E : Line} {Z : ℤ} → pos 0 <ℤ Z → ExactMove β κ N d S q E Z
      → Near N (pos 4 *ℤ m) (pos (base κ) *ℤ m +ℤ pos (growth κ) *ℤ e) (bordered β κ N d x) E Z
  unfolding bordered
  move-near Wrapped hb κ d hZ a = line-near m e h small hq hm near κ d hZ a.is
  move-near (Background b) hb κ d {E} {Z} hZ a = record { place = near_on (far N d) κ d b E Z hb hZ a.is }

-- ---- where the exact line of samples is whole, the moved samples are that line
once : (b : ℤ) → b *ℤ pos 1 ≡ b
once = all1 _ (simp bridge (omega arith))

whole_on : (p : Bool) (κ : Kernel) (N : ℕ) (d b : ℤ) (x S W E : Line) (q Z : ℤ) → 0 < N → Within (pos 294912) b → ((k : ℕ) → k < N → Within (pos 294912) (x k))
    → pos 0 <ℤ q → OnBackground p κ N d b x (pos 1) W (pos 1) → Same N x (pos 1) S q → OnBackground p κ N d b S q E Z → (k : ℕ) → k < N
    → cond p b (moved κ (3 * N) d (framed N b x) (N + k)) *ℤ Z ≡ E k *ℤ pos 1
whole_on true κ N d b x S W E q Z h hb small hq whole same a k l = sym (ap (λ v. v *ℤ pos 1) (a k l) ∙ once (b *ℤ Z))
whole_on false κ N d b x S W E q Z h hb small hq whole same a k l =
    (whole-moved {x = framed N b x} {S = framed N (b *ℤ q) S} (omega arith) (λ i j. framed_every (Within (pos 294912)) {x = x} hb small i) hq
    (subst (λ c. ExactLine κ (3 * N) d (framed N c x) (pos 1) whole.long (pos 1)) (once b) whole.moves)
    (subst (λ c. Same (3 * N) (framed N c x) (pos 1) (framed N (b *ℤ q) S) q) (once b) (framed_same b same)) a.moves).place (N + k) (middle_in l)
    ∙ ap (λ v. v *ℤ pos 1) (sym (a.kept k l))

pub whole-move : {β : Border} {κ : Kernel} {N : ℕ} {d : ℤ} {x S W E : Line} {q Z : ℤ} → 0 < N → Within (pos 294912) (grey β)
    → ((k : ℕ) → k < N → Within (pos 294912) (x k)) → pos 0 <ℤ q → ExactMove β κ N d x (pos 1) W (pos 1) → Same N x (pos 1) S q → ExactMove β κ N d S q E Z
    → Same N (bordered β κ N d x) (pos 1) E Z
unfolding bordered
whole-move {β = Wrapped} h hb small hq whole same a = whole-moved h small hq whole.is same a.is
whole-move {β = Background b} {κ} {N} {d} {x} {S} {W} {E} {q} {Z} h hb small hq whole same a = record { place = whole_on (far N d) κ N d b x S W E q Z h hb small hq whole.is same a.is }

-- a line of one grey, its background too
abbrev pub Agrees : Border → ℤ → Type 0
Agrees Wrapped g = Unit {0}
Agrees (Background b) g = b ≡ g

grey_on : (p : Bool) (κ : Kernel) (N : ℕ) (d b : ℤ) (x : Line) → 0 < N → ((k : ℕ) → k < N → x k ≡ b) → OnBackground p κ N d b x (pos 1) (λ k. b) (pos 1)
grey_on true κ N d b x h grey = λ k l. sym (once b)
grey_on false κ N d b x h grey =
    record {
      long = λ k. b;
      moves = grey-line κ (3 * N) d b (framed N (b *ℤ pos 1) x) (omega arith) (λ k l. framed_every (λ v. v ≡ b) {x = x} (once b) grey k);
      kept = λ k l. refl;
    }

pub grey-move : (β : Border) (κ : Kernel) (N : ℕ) (d g : ℤ) (x : Line) → 0 < N → Agrees β g → ((k : ℕ) → k < N → x k ≡ g)
    → ExactMove β κ N d x (pos 1) (λ k. g) (pos 1)
grey-move Wrapped κ N d g x h agrees grey = record { is = grey-line κ N d g x h grey }
grey-move (Background b) κ N d g x h agrees grey =
    subst (λ v. ExactMove (Background b) κ N d x (pos 1) (λ k. v) (pos 1)) agrees (record { is = grey_on (far N d) κ N d b x h (λ k l. grey k l ∙ sym agrees) })

pub bordered-grey : (β : Border) {N : ℕ} {x : Line} → 0 < N → Within (pos 294912) (grey β) → ((k : ℕ) → k < N → Within (pos 294912) (x k)) → (κ : Kernel) (d g : ℤ) → Agrees β g
    → ((k : ℕ) → k < N → x k ≡ g) → (k : ℕ) → k < N → bordered β κ N d x k ≡ g
bordered-grey β {N} {x} h hb small κ d g agrees grey k l =
    sym (once (bordered β κ N d x k))
    ∙ (whole-move h hb small (lt_z_yes tt) (grey-move β κ N d g x h agrees grey) (record { place = λ k l. refl }) (grey-move β κ N d g x h agrees grey)).place k l
    ∙ once g

-- a line that moves by whole places
unfoldable pub shifted : Border → ℕ → ℤ → Line → ℤ → Line
shifted Wrapped N d S q k = wrap N S (first N d + k + 1)
shifted (Background b) N d S q k = cond (far N d) (b *ℤ q) (wrap (3 * N) (framed N (b *ℤ q) S) (first (3 * N) d + (N + k) + 1))

pub shift_move : (β : Border) (κ : Kernel) (N : ℕ) (d : ℤ) (S : Line) (q : ℤ) → 0 < N → pos 0 <ℤ q → fraction d ≡ 0
    → ExactMove β κ N d S q (shifted β N d S q) q
unfolding shifted
shift_move Wrapped κ N d S q h hq e = record { is = shift_line κ N d S q h hq e }
shift_move (Background b) κ N d S q h hq e = record { is = by (far N d) }
  where
    by : (p : Bool) → OnBackground p κ N d b S q (λ k. cond p (b *ℤ q) (wrap (3 * N) (framed N (b *ℤ q) S) (first (3 * N) d + (N + k) + 1))) q
    by true = λ k l. refl
    by false =
        record {
          long = λ k. wrap (3 * N) (framed N (b *ℤ q) S) (first (3 * N) d + k + 1);
          moves = shift_line κ (3 * N) d (framed N (b *ℤ q) S) q (omega arith) hq e;
          kept = λ k l. refl;
        }
