-- Lines with a period. The laws are about any function with that period, so that no index is reduced in them: the place before
-- k + 1 is k, and all places are reached from one side. Assumes nothing.
use mathlib.Core.Path.{◌≡◌, sym, ap, ◌∙◌, subst}
use Prim.Native.Nat.{ℕ, zero, suc, ◌+◌, ◌*◌, ◌%◌, ◌<◌}
use native.Mathlib.Nat.{mod-lt, mod-eq_of_lt, add-mod_right, mod-add-div}
use native.Mathlib.Omega.{arith}
use lib.IntN.{ℤ, pos}
use Rattle.lists.specs.Tab.{tab}
use Rattle.lists.specs.Line.{Line, wrap, line, Periodic}
use Rattle.lists.proofs.Tab.{tab_at}

pub wrap_periodic : (N : ℕ) (f : Line) → Periodic N (wrap N f)
unfolding wrap
wrap_periodic N f = record { again = λ k. ap f (add-mod_right k N) }

-- on its own places a line is not changed
pub wrap_own : (N : ℕ) (f : Line) (k : ℕ) → k < N → wrap N f k ≡ f k
unfolding wrap
wrap_own N f k h = ap f (mod-eq_of_lt h)

-- m periods on
pub periods : {N : ℕ} {f : Line} → Periodic N f → (m k : ℕ) → f (k + N * m) ≡ f k
periods {N} {f} p zero k = ap f (none N k)
  where
    none : (N k : ℕ) → k + N * zero ≡ k
    none N k = omega arith
periods {N} {f} p (suc m) k = ap f (one_more N k m) ∙ p.again (k + N * m) ∙ periods p m k
  where
    one_more : (N k m : ℕ) → k + N * suc m ≡ k + N * m + N
    one_more N k m = omega arith

-- a periodic sequence repeats its first N places
pub periodic_wrap : {N : ℕ} {f : Line} → Periodic N f → (k : ℕ) → f k ≡ wrap N f k
unfolding wrap
periodic_wrap {N} {f} p k = ap f (sym (mod-add-div k N)) ∙ periods p _ (k % N)

-- so what holds on those holds everywhere
pub everywhere : {N : ℕ} {f : Line} (P : ℤ → Type 0) → 0 < N → Periodic N f → ((k : ℕ) → k < N → P (f k)) → (k : ℕ) → P (f k)
unfolding wrap
everywhere {N} {f} P h p each k = subst P (sym (periodic_wrap p k)) (each (k % N) (mod-lt k h))

pub wrap_every : {N : ℕ} {f : Line} (P : ℤ → Type 0) → 0 < N → ((k : ℕ) → k < N → P (f k)) → (k : ℕ) → P (wrap N f k)
unfolding wrap
wrap_every {N} P h each k = each (k % N) (mod-lt k h)

-- ---- lists
-- wrapped, a list's line and the line of a list agree
pub wrap-tab : (n : ℕ) (f : Line) (k : ℕ) → 0 < n → wrap n (line (tab f n)) k ≡ wrap n f k
unfolding wrap
wrap-tab n f k h = tab_at f n (k % n) (pos 0) (mod-lt k h)
