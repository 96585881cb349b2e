-- S is odd, and the whole number nearest 2·4,096²·t/(4,096² + t²) at every step: one computed test over the table, carried to each lookup.
-- Assumes nothing.
use Prim.Native.Nat.{ℕ, zero, suc, ◌+◌, ◌*◌, ◌≤◌, ◌<◌}
use mathlib.Core.Path.{◌≡◌, refl, sym, ap, ◌∙◌}
use mathlib.Core.Bool.{Bool, true, false, cond, true≢false}
use native.Mathlib.Omega.{arith, by_contra}
use lib.Dec.{T, ltb, ltb→lt}
use lib.IntN.{ℤ, pos, negsuc, neg_ℤ, nat_abs, ◌-ℤ◌, ◌*ℤ◌, neg_ℤ-neg_ℤ, +ℤ_idl}
use lib.Signed.{◌≤ℤ◌, ◌<ℤ◌}
use Rattle.arith.proofs.Bridge.{bridge, all2, all3, all4}
use Rattle.arith.proofs.Laws.{nat_abs-*ℤ}
use Rattle.std.specs.Prelude.{Result, Ok, Err}
use Rattle.refusals.specs.Tests.{Limit}
use Rattle.refusals.specs.Judging.{accepted, refused_if, number_of}
use Rattle.refusals.proofs.Judging.{refused_if-accepted}
use Rattle.refusals.specs.declared.Refusal.{Refusal}
use Rattle.refusals.specs.declared.Refusal.TheVariants.{TooFar}
use Rattle.refusals.proofs.Tests.{beyond_good}
use Rattle.lists.proofs.Table.{every, at}
use Rattle.settings.specs.declared.Setting.{Setting}
use Rattle.settings.specs.Setting.{with_shears}
use Rattle.steps.specs.Table.{sines}
use Rattle.steps.specs.Step.{entry, S, Nearest, dividend, divisor, SineRule, beyond, sine_of, SineAnswer, change_of, setting_after}

-- ---- the table: the rule as a test, which passes at every entry
follows : ℕ → ℕ → Bool
follows t s = ltb (2 * nat_abs (divisor (pos t) *ℤ pos s -ℤ dividend (pos t))) (nat_abs (divisor (pos t)))

every_follows : T (every follows 0 sines)
unfolding follows
every_follows = tt

pub entry_nearest : (t : ℕ) → t < 1698 → SineRule (pos t) (pos (entry t))
unfolding follows entry
entry_nearest t h = record { near = ltb→lt _ _ (at follows sines every_follows t h) }

-- ---- S is odd
pub sine_odd : (t : ℤ) → S (neg_ℤ t) ≡ neg_ℤ (S t)
unfolding S entry
sine_odd (pos zero) = refl
sine_odd (pos (suc t)) = refl
sine_odd (negsuc t) = sym (neg_ℤ-neg_ℤ (pos (entry (suc t))))

-- ---- at every step
nearest_odd : (p r s : ℤ) → Nearest p r s → Nearest (neg_ℤ p) r (neg_ℤ s)
nearest_odd p r s n = record { near = turned p r s n.near }
  where
    turned : (p r s : ℤ) → 2 * nat_abs (r *ℤ s -ℤ p) < nat_abs r → 2 * nat_abs (r *ℤ neg_ℤ s -ℤ neg_ℤ p) < nat_abs r
    turned = all3 _ (simp bridge (omega arith))

pub sine_nearest : (t : ℤ) → beyond t ≡ false → SineRule t (S t)
unfolding S
sine_nearest (pos t) e = entry_nearest t (omega (arith, beyond_good (pos t) e))
sine_nearest (negsuc t) e = nearest_odd _ _ _ (entry_nearest (suc t) (omega (arith, beyond_good (negsuc t) e)))

-- ---- what nearer than a half means: only s is within a half of p/r, so no whole number lies a half away, and every other is farther
pub nearest_only : (p r s u : ℤ) → Nearest p r s → 2 * nat_abs (r *ℤ u -ℤ p) ≤ nat_abs r → u ≡ s
nearest_only p r s u n h = meet u s (single (nat_abs r) (nat_abs (u -ℤ s)) (omega (arith, n.near, apart p r s u, nat_abs-*ℤ r (u -ℤ s))))
  where
    apart : (p r s u : ℤ) → nat_abs (r *ℤ (u -ℤ s)) ≤ nat_abs (r *ℤ u -ℤ p) + nat_abs (r *ℤ s -ℤ p)
    apart = all4 _ (simp bridge (omega arith))

    single : (m k : ℕ) → m * k < m → k ≡ 0
    single m zero h = refl
    single m (suc k) h = absurd (omega arith)

    meet : (u s : ℤ) → nat_abs (u -ℤ s) ≡ 0 → u ≡ s
    meet = all2 _ (simp bridge (omega arith))

pub nearest_no_tie : (p r s u : ℤ) → Nearest p r s → ¬ (2 * nat_abs (r *ℤ u -ℤ p) ≡ nat_abs r)
nearest_no_tie p r s u n e =
    let same = nearest_only p r s u n (omega arith) in
    omega (arith, n.near, ap (λ (z : ℤ). nat_abs (r *ℤ z -ℤ p)) same)

pub nearest_least : (p r s u : ℤ) → Nearest p r s → ¬ (u ≡ s) → nat_abs (r *ℤ s -ℤ p) < nat_abs (r *ℤ u -ℤ p)
nearest_least p r s u n d = by_contra _ _ (λ h. d (nearest_only p r s u n (omega (arith, n.near))))

-- no tie occurs
pub sine_no_tie : (t u : ℤ) → beyond t ≡ false → ¬ (2 * nat_abs (divisor t *ℤ u -ℤ dividend t) ≡ nat_abs (divisor t))
sine_no_tie t u e = nearest_no_tie (dividend t) (divisor t) (S t) u (sine_nearest t e)

-- ---- for the code: the limit of a step, and S by its sign
pub step-limit : Limit (pos 1697)
step-limit = record { from = record { le = tt }; to = record { le = tt } }

pub sine_above : (t : ℤ) → pos 0 ≤ℤ t → pos (entry (nat_abs t)) ≡ S t
unfolding S
sine_above (pos t) h = refl
sine_above (negsuc t) h = absurd h.le

pub sine_below : (t : ℤ) → t <ℤ pos 0 → pos 0 -ℤ pos (entry (nat_abs t)) ≡ S t
unfolding S
sine_below (pos t) h = absurd (above t h)
  where
    above : (t : ℕ) → pos t <ℤ pos 0 → ⊥
    above = simp bridge (omega arith)
sine_below (negsuc t) h = +ℤ_idl (neg_ℤ (pos (entry (suc t))))

-- ---- what the test tells: an accepted step is within its range, a refused one beyond it
pub taken : (t : ℤ) {u : Unit} → Ok u ≡ refused_if (beyond t) TooFar accepted → beyond t ≡ false
taken t e = (refused_if-accepted (beyond t) TooFar accepted _ (sym e)).0

pub refused : (t : ℤ) (refusal : Refusal) → Err refusal ≡ refused_if (beyond t) TooFar accepted → (beyond t ≡ true) × (refusal ≡ TooFar)
refused t refusal e = by (beyond t) e
  where
    by : (far : Bool) → Err refusal ≡ refused_if far TooFar accepted → (far ≡ true) × (refusal ≡ TooFar)
    by true e = (refl, cc)
    by false e = absurd cc

-- ---- the two answers of `sine`
module _ (t : ℤ) where
  pub answer-refused : beyond t ≡ true → SineAnswer t (Err TooFar)
  unfolding sine_of
  answer-refused e =
      record {
        answer = rw e refl;
        number = rw e refl;
        value = rw e refl;
        nearest = λ f. absurd (true≢false (sym e ∙ f));
      }

  pub answer_value : beyond t ≡ false → SineAnswer t (Ok (S t))
  unfolding sine_of
  answer_value e =
      record {
        answer = rw e refl;
        number = rw e refl;
        value = rw e refl;
        nearest = λ f. sine_nearest t e;
      }

-- ---- a change by step, part by part
module _ (setting : Setting) (t : ℤ) where
  abbrev by : Bool → Result Setting Refusal
  by refused = refused_if refused TooFar (Ok (with_shears setting (neg_ℤ t) (S t)))

  abbrev after : Setting
  after = setting_after setting (change_of setting t)

  -- number 4 just where t is beyond its range
  pub change_number : number_of (change_of setting t) ≡ cond (beyond t) 4 0
  unfolding change_of
  change_number = each (beyond t)
    where
      each : (refused : Bool) → number_of (by refused) ≡ cond refused 4 0
      each true = refl
      each false = refl

  -- A = -t and B = S(t), and as they were where t is refused
  pub change_shears : (after.a ≡ cond (beyond t) setting.a (neg_ℤ t)) × (after.b ≡ cond (beyond t) setting.b (S t))
  unfolding change_of
  change_shears = each (beyond t)
    where
      each : (refused : Bool) → ((setting_after setting (by refused)).a ≡ cond refused setting.a (neg_ℤ t))
          × ((setting_after setting (by refused)).b ≡ cond refused setting.b (S t))
      each true = (refl, refl)
      each false = (refl, refl)

  -- kernel and centre are kept, refused or not
  pub change_alone : (after.kernel ≡ setting.kernel) × (after.cx ≡ setting.cx) × (after.cy ≡ setting.cy)
  unfolding change_of
  change_alone = each (beyond t)
    where
      each : (refused : Bool) → ((setting_after setting (by refused)).kernel ≡ setting.kernel)
          × ((setting_after setting (by refused)).cx ≡ setting.cx) × ((setting_after setting (by refused)).cy ≡ setting.cy)
      each true = (refl, refl, refl)
      each false = (refl, refl, refl)

-- ---- the two answers of `with_step`
module _ (setting : Setting) (t : ℤ) where
  pub change_refused : beyond t ≡ true → Err TooFar ≡ change_of setting t
  unfolding change_of
  change_refused e = rw e refl

  pub change_taken : {a b : ℤ} {r : Setting} → beyond t ≡ false → r ≡ with_shears setting a b → a ≡ neg_ℤ t → b ≡ S t → Ok r ≡ change_of setting t
  unfolding change_of
  change_taken e q ea eb = rw (e, q, ea, eb) refl
