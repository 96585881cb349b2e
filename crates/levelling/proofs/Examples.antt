-- Document 01's figures for levelling, computed from the definitions. Assumes nothing.
use mathlib.Core.Path.{◌≡◌, refl}
use lib.IntN.{pos, negsuc}
use Rattle.std.specs.Prelude.{Ok, Err}
use Rattle.refusals.specs.declared.Refusal.TheVariants.{Outside, TooSteep}
use Rattle.levelling.specs.Level.{miss, first_smallest, step_at, miss_at, levelling, outside, any_outside, steep, direction_of, level_of}

-- levelling (0,0) to (100,1) → -20; (0,0) to (1000,1000) → -1697
level-100 : level_of 1024 1024 (pos 0) (pos 0) (pos 100) (pos 1) ≡ Ok (negsuc 19)
unfolding miss first_smallest step_at miss_at levelling outside any_outside steep direction_of level_of
level-100 = refl

level-1000 : level_of 1024 1024 (pos 0) (pos 0) (pos 1000) (pos 1000) ≡ Ok (negsuc 1696)
unfolding miss first_smallest step_at miss_at levelling outside any_outside steep direction_of level_of
level-1000 = refl

-- of equal misses, the first
first_of_equal : first_smallest (λ u. 7) 3 ≡ 0
unfolding first_smallest
first_of_equal = refl

-- a coordinate outside is 7 before dx is looked at; dx = 0 and |dy| above dx are 8
level-outside : level_of 1024 1024 (pos 5) (pos 0) (pos 5) (pos 1024) ≡ Err Outside
unfolding outside any_outside level_of
level-outside = refl

level_upright : level_of 1024 1024 (pos 5) (pos 0) (pos 5) (pos 0) ≡ Err TooSteep
unfolding outside any_outside steep direction_of level_of
level_upright = refl

level-steep : level_of 1024 1024 (pos 0) (pos 101) (pos 100) (pos 0) ≡ Err TooSteep
unfolding outside any_outside steep direction_of level_of
level-steep = refl
