-- "Step t is 4,096 times the tangent of half the angle; it sets A = -t and B = S(t), with S(-t) = -S(t). S(t) is the whole number nearest
-- 2·4,096²·t/(4,096² + t²); no tie occurs." Assumes nothing.
use Rattle.std.specs.Prelude.{ℕ, suc, ◌*◌, ◌<◌, ◌≡◌, Bool, false, cond, Result, Ok, Err, ℤ, pos, negsuc, neg_ℤ, nat_abs, ◌+ℤ◌, ◌-ℤ◌, ◌*ℤ◌, get_or}
use Rattle.refusals.specs.Tests.{beyond_of}
use Rattle.refusals.specs.Judging.{refused_if, number_of}
use Rattle.refusals.specs.declared.Refusal.{Refusal}
use Rattle.refusals.specs.declared.Refusal.TheVariants.{TooFar}
use Rattle.settings.specs.declared.Setting.{Setting}
use Rattle.settings.specs.Setting.{with_shears}
use Rattle.steps.specs.Table.{sines}

-- the table's entry, for t from 0 to 1,697
unfoldable pub entry : ℕ → ℕ
entry t = get_or sines t 0

-- S(t), with S(-t) = -S(t)
unfoldable pub S : ℤ → ℤ
S (pos t) = pos (entry t)
S (negsuc t) = neg_ℤ (pos (entry (suc t)))

-- s is the whole number nearest p/r: |s - p/r| < 1/2, so that no tie occurs
pub record Nearest (p r s : ℤ) : Type 0 where
  pub near : 2 * nat_abs (r *ℤ s -ℤ p) < nat_abs r

-- 2·4,096²·t, and 4,096² + t²
abbrev pub dividend : ℤ → ℤ
dividend t = pos (2 * (4096 * 4096)) *ℤ t

abbrev pub divisor : ℤ → ℤ
divisor t = pos (4096 * 4096) +ℤ t *ℤ t

-- what S(t) is: the whole number nearest 2·4,096²·t/(4,096² + t²)
abbrev pub SineRule : ℤ → ℤ → Type 0
SineRule t s = Nearest (dividend t) (divisor t) s

-- number 4: t beyond its range, ±1,697
abbrev pub beyond : ℤ → Bool
beyond t = beyond_of 1697 t

-- S of an answer, 0 where it is refused
abbrev pub sine_value : Result ℤ Refusal → ℤ
sine_value (Ok s) = s
sine_value (Err refusal) = pos 0

-- the answer for every t
unfoldable pub sine_of : ℤ → Result ℤ Refusal
sine_of t = refused_if (beyond t) TooFar (Ok (S t))

-- what r, the answer at t, is: its case, its number and its value, which follows the rule where t is not refused
pub record SineAnswer (t : ℤ) (r : Result ℤ Refusal) : Type 0 where
  pub answer : r ≡ sine_of t
  pub number : number_of r ≡ cond (beyond t) 4 0
  pub value : sine_value r ≡ cond (beyond t) (pos 0) (S t)
  pub nearest : beyond t ≡ false → SineRule t (sine_value r)

-- the setting changed by step t
unfoldable pub change_of : Setting → ℤ → Result Setting Refusal
change_of s t = refused_if (beyond t) TooFar (Ok (with_shears s (neg_ℤ t) (S t)))

-- the setting after such a change, as it was where t is refused
abbrev pub setting_after : Setting → Result Setting Refusal → Setting
setting_after s (Ok r) = r
setting_after s (Err refusal) = s
