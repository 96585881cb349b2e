-- Document 01's figures for steps, computed from the definitions. Assumes nothing.
use mathlib.Core.Path.{◌≡◌, refl}
use lib.IntN.{pos, negsuc}
use Rattle.std.specs.Prelude.{Ok, Err}
use Rattle.refusals.specs.Tests.{beyond_of}
use Rattle.refusals.specs.declared.Refusal.TheVariants.{TooFar}
use Rattle.settings.specs.declared.Border.TheVariants.{Background}
use Rattle.settings.specs.declared.Setting.{Setting}
use Rattle.steps.specs.Step.{entry, S, sine_of, change_of, setting_after}

-- S(1) = 2, S(1000) = 1,887, S(1697) = 2,897, and S(-1000) = -1,887
step-1 : S (pos 1) ≡ pos 2
unfolding S entry
step-1 = refl

step-1000 : S (pos 1000) ≡ pos 1887
unfolding S entry
step-1000 = refl

step-1697 : S (pos 1697) ≡ pos 2897
unfolding S entry
step-1697 = refl

step-back-1000 : S (negsuc 999) ≡ negsuc 1886
unfolding S entry
step-back-1000 = refl

-- steps 1,697 and -1,697 are taken, 1,698 and -1,698 are refused with 4
step-1697_taken : sine_of (pos 1697) ≡ Ok (pos 2897)
unfolding sine_of beyond_of S entry
step-1697_taken = refl

step-back-1697_taken : sine_of (negsuc 1696) ≡ Ok (negsuc 2896)
unfolding sine_of beyond_of S entry
step-back-1697_taken = refl

step-1698 : sine_of (pos 1698) ≡ Err TooFar
unfolding sine_of beyond_of
step-1698 = refl

step-back-1698 : sine_of (negsuc 1697) ≡ Err TooFar
unfolding sine_of beyond_of
step-back-1698 = refl

-- a change by step 1,000 sets A = -1,000 and B = 1,887 and keeps the border; a change by -1,698 is refused, and hands the setting back as it was
before_change : Setting
before_change = record { kernel = 2; cx = 3; cy = 5; a = pos 7; b = pos 11; border = Background (pos 13) }

change_1000 :
    change_of before_change (pos 1000) ≡ Ok (record { kernel = 2; cx = 3; cy = 5; a = negsuc 999; b = pos 1887; border = Background (pos 13) })
unfolding before_change change_of beyond_of S entry
change_1000 = refl

change_back_1698 : change_of before_change (negsuc 1697) ≡ Err TooFar
unfolding before_change change_of beyond_of
change_back_1698 = refl

kept_back_1698 :
    setting_after before_change (change_of before_change (negsuc 1697))
    ≡ record { kernel = 2; cx = 3; cy = 5; a = pos 7; b = pos 11; border = Background (pos 13) }
unfolding before_change change_of beyond_of
kept_back_1698 = refl
