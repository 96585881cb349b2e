-- What the tests of levelling tell, and the answers that follow. Assumes nothing.
use Prim.Native.Nat.{ℕ, ◌≤◌}
use mathlib.Core.Path.{◌≡◌, refl, sym, ◌∙◌, subst}
use mathlib.Core.Bool.{Bool, true, false, cond}
use mathlib.Core.List.{[], ◌∷◌, map}
use native.Mathlib.Omega.{arith}
use lib.IntN.{ℤ, pos, negsuc, nat_abs, ◌+ℤ◌, ◌-ℤ◌}
use lib.Signed.{le_z, lt_z, ◌≤ℤ◌, ◌<ℤ◌}
use mir.Syntax.{w64}
use mir.Val.{SFits}
use Rattle.arith.proofs.Bridge.{bridge, all1, all2}
use Rattle.arith.proofs.Machine.{lt-false, le-false, false-lt, false-le}
use Rattle.std.specs.Prelude.{Result, Ok, Err}
use Rattle.refusals.specs.Judging.{refused_if, number_of}
use Rattle.refusals.specs.declared.Refusal.{Refusal}
use Rattle.refusals.specs.declared.Refusal.TheVariants.{Outside, TooSteep}
use Rattle.refusals.proofs.Tests.{or_false as neither}
use Rattle.levelling.specs.Level.{largest_side, outside, any_outside, steep, levelling, direction_of, level_of, level_step, Levels, LevelAnswer}
use Rattle.levelling.specs.Search.{Flat}
use Rattle.levelling.proofs.Levelling.{levelled_least}

-- ---- in a picture 4 wide and 3 high a point is outside from column 4 and from row 3 on, computed
sides :
    map (λ (p : ℤ × ℤ). any_outside 4 3 (pos 0) (pos 0) p.0 p.1)
    ((pos 3, pos 2) ∷ (pos 4, pos 0) ∷ (pos 3, pos 3) ∷ (negsuc 0, pos 0) ∷ (pos 0, negsuc 0) ∷ [])
    ≡ false ∷ true ∷ true ∷ true ∷ true ∷ []
unfolding any_outside outside
sides = refl

-- ---- number 7
pub inside : (side : ℕ) (c : ℤ) → outside side c ≡ false → (pos 0 ≤ℤ c) × (c <ℤ pos side)
unfolding outside
inside side c e = let (low, high) = neither (lt_z c (pos 0)) (le_z (pos side) c) e in (lt-false c (pos 0) low, le-false (pos side) c high)

pub within : (side : ℕ) (c : ℤ) → pos 0 ≤ℤ c → c <ℤ pos side → outside side c ≡ false
unfolding outside
within side c low high = rw (false-lt c (pos 0) low, false-le (pos side) c high) refl

-- what is inside a side is inside a longer one
wider : (side longer : ℕ) (c : ℤ) → side ≤ longer → outside side c ≡ false → outside longer c ≡ false
wider side longer c h e = let p = inside side c e in within longer c p.0 (farther c side longer h p.1)
  where
    farther : (c : ℤ) (m n : ℕ) → m ≤ n → c <ℤ pos m → c <ℤ pos n
    farther = all1 _ (simp bridge (omega arith))

pub span-range : (a b : ℤ) → outside largest_side a ≡ false → outside largest_side b ≡ false → SFits w64 (b -ℤ a) × (nat_abs (b -ℤ a) ≤ 1023)
span-range a b ea eb = apart a b (inside largest_side a ea) (inside largest_side b eb)
  where
    apart : (a b : ℤ) → (pos 0 ≤ℤ a) × (a <ℤ pos 1024) → (pos 0 ≤ℤ b) × (b <ℤ pos 1024) → SFits w64 (b -ℤ a) × (nat_abs (b -ℤ a) ≤ 1023)
    apart = all2 _ (simp bridge (omega arith))

module _ (width height : ℕ) (x1 y1 x2 y2 : ℤ) where
  pub none_outside : any_outside width height x1 y1 x2 y2 ≡ false
      → (outside width x1 ≡ false) × (outside height y1 ≡ false) × (outside width x2 ≡ false) × (outside height y2 ≡ false)
  unfolding any_outside
  none_outside e =
      let (e3, d) = neither _ (outside height y2) e in
      let (e2, c) = neither _ (outside width x2) e3 in
      let (a, b) = neither (outside width x1) (outside height y1) e2 in
      (a, b, c, d)

  -- points inside a picture are inside the largest
  pub inside_largest : width ≤ largest_side → height ≤ largest_side → any_outside width height x1 y1 x2 y2 ≡ false
      → (outside largest_side x1 ≡ false) × (outside largest_side y1 ≡ false) × (outside largest_side x2 ≡ false) × (outside largest_side y2 ≡ false)
  inside_largest w h e =
      let (a, b, c, d) = none_outside e in
      (wider width largest_side x1 w a, wider height largest_side y1 h b, wider width largest_side x2 w c, wider height largest_side y2 h d)

-- ---- number 8
pub flat : (dx dy : ℤ) → nat_abs dx ≤ 1023 → steep dx dy ≡ false → Flat dx dy
unfolding steep
flat dx dy h e =
    let (some, size) = neither (lt_z dx (pos 1)) (lt_z dx (pos (nat_abs dy))) e in
    let (wide, down, up) = bounds dx dy h (lt-false dx (pos (nat_abs dy)) size) in
    record { some = lt-false dx (pos 1) some; wide = wide; down = down; up = up }
  where
    bounds : (dx dy : ℤ) → nat_abs dx ≤ 1023 → pos (nat_abs dy) ≤ℤ dx → (dx ≤ℤ pos 1023) × (dy ≤ℤ dx) × (pos 0 ≤ℤ (dx +ℤ dy))
    bounds = all2 _ (simp bridge (omega arith))

-- ---- the answer, by its tests
module _ (width height : ℕ) (x1 y1 x2 y2 : ℤ) where
  pub answered : LevelAnswer width height x1 y1 x2 y2 (level_of width height x1 y1 x2 y2)
  unfolding level_of direction_of
  answered =
      let seven = any_outside width height x1 y1 x2 y2 in
      let eight = steep (x2 -ℤ x1) (y2 -ℤ y1) in
      record { answer = refl; number = number seven eight; step = step seven eight }
    where
      by : Bool → Bool → Result ℤ Refusal
      by seven eight = refused_if seven Outside (refused_if eight TooSteep (Ok (levelling (x2 -ℤ x1) (y2 -ℤ y1))))

      number : (seven eight : Bool) → number_of (by seven eight) ≡ cond seven 7 (cond eight 8 0)
      number true eight = refl
      number false true = refl
      number false false = refl

      step : (seven eight : Bool) → number_of (by seven eight) ≡ 0 → Levels (x2 -ℤ x1) (y2 -ℤ y1) (level_step (by seven eight))
      step true eight e = absurd (omega arith)
      step false true e = absurd (omega arith)
      step false false e = levelled_least (x2 -ℤ x1) (y2 -ℤ y1)

  is_outside : any_outside width height x1 y1 x2 y2 ≡ true → level_of width height x1 y1 x2 y2 ≡ Err Outside
  unfolding level_of
  is_outside e = rw e refl

  is_inside : any_outside width height x1 y1 x2 y2 ≡ false → level_of width height x1 y1 x2 y2 ≡ direction_of (x2 -ℤ x1) (y2 -ℤ y1)
  unfolding level_of
  is_inside e = rw e refl

  pub answer-outside : any_outside width height x1 y1 x2 y2 ≡ true → LevelAnswer width height x1 y1 x2 y2 (Err Outside)
  answer-outside e = subst (LevelAnswer width height x1 y1 x2 y2) (is_outside e) answered

  pub answer_inside : {r : Result ℤ Refusal} → any_outside width height x1 y1 x2 y2 ≡ false → r ≡ direction_of (x2 -ℤ x1) (y2 -ℤ y1) → LevelAnswer width height x1 y1 x2 y2 r
  answer_inside e q = subst (LevelAnswer width height x1 y1 x2 y2) (is_inside e ∙ sym q) answered

-- inside a picture the plain call answers the same
module _ (width height : ℕ) (x1 y1 x2 y2 : ℤ) (w : width ≤ largest_side) (h : height ≤ largest_side) (e : any_outside width height x1 y1 x2 y2 ≡ false) where
  none_outside-largest : any_outside largest_side largest_side x1 y1 x2 y2 ≡ false
  unfolding any_outside
  none_outside-largest = let (a, b, c, d) = inside_largest width height x1 y1 x2 y2 w h e in rw (a, b, c, d) refl

  pub plain_same : level_of largest_side largest_side x1 y1 x2 y2 ≡ level_of width height x1 y1 x2 y2
  plain_same = is_inside largest_side largest_side x1 y1 x2 y2 none_outside-largest ∙ sym (is_inside width height x1 y1 x2 y2 e)
