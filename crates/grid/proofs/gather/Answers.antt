-- `gather` lays four lines into rows of work place by place, which is laying them line after line. Assumes nothing.
use Prim.Native.Nat.{ℕ, ◌+◌, ◌*◌, ◌<◌}
use mathlib.Core.Path.{◌≡◌, refl, sym, ap, ◌∙◌}
use mathlib.Core.List.{[], ◌∷◌}
use native.Mathlib.Omega.{arith}
use lib.ListN.{get_or}
use lib.IntN.{ℤ, pos}
use Rattle.lists.specs.Grid.{put}
use Rattle.lists.proofs.Grid.{row_lines, lines_within}
use Rattle.grid.specs.Four.{laid}
use Rattle.grid.proofs.Laid.{laid_none, laid_more, laid_inside, laid-turned}
use Rattle.grid.proofs.Rows.{place, each_four}
use Rattle.grid.proofs.gather.Goals as goal

none : (i : ℕ) → i < 4 → ◌≡◌ {A = ℕ} (get_or (0 ∷ 0 ∷ 0 ∷ 0 ∷ []) i 0) 0
none = each_four _ refl refl refl refl

pub loop-k-init : goal.loop-k-init
loop-k-init c = laid_none _ _ _ _ _ _

pub overflow_mul-k : goal.overflow_mul-k
overflow_mul-k c = omega (arith, laid_inside c.args.at c.requires.lines 0 c.loop-k.k (omega arith) (omega arith))

pub overflow_add-at : goal.overflow_add-at
overflow_add-at c = omega (arith, laid_inside c.args.at c.requires.lines 0 c.loop-k.k (omega arith) (omega arith))

once : (first k : ℕ) → first + k ≡ first + k * 1
once first k = omega arith

-- places of the four, in the order of the code and in that of the lines
order : (at along across k i j : ℕ) → j ≡ 0 → at + k * along + i * across + j ≡ at + i * across + k * along
order at along across k i j e = omega arith

pub loop-k-preserved : goal.loop-k-preserved
loop-k-preserved c =
    let v = c.copy_four in
    let a = c.args in
    let four : ℕ → ℤ = λ (i : ℕ). get_or a.picture.now (a.at + c.loop-k.k * a.s.along + i * a.s.across + get_or (0 ∷ 0 ∷ 0 ∷ 0 ∷ []) i 0) (pos 0) in
    laid_more a.first a.m 1 4 _ c.loop-k.k a.work.now c.loop-k.work _ four c.loop-k.invariant
    (v.ensures ∙ ap (λ (q : ℕ). put q a.m four 4 c.loop-k.work) (once a.first c.loop-k.k))
    (λ (i : ℕ) (h : i < 4). ap (λ (p : ℕ). get_or a.picture.now p (pos 0)) (order a.at a.s.along a.s.across c.loop-k.k i _ (none i h)))

pub returns : goal.returns
returns c =
    let a = c.args in
    let e : c.loop-k.k ≡ a.s.n = omega arith in
    c.loop-k.invariant
    ∙ ap (λ (k : ℕ). laid a.first a.m 1 4 (λ (k i : ℕ). place a.at a.s.along a.s.across a.s.n a.picture.now i k) k a.work.now) e
    ∙ sym (laid-turned a.first 1 a.m (4 * a.m) _ a.work.now a.s.n 4 (lines_within (omega (arith, c.requires.n_bound)) (omega arith) (row_lines a.m 4 (4 * a.m) (omega arith))))
