-- A line moved under a border. Wrapped, its indices are taken modulo N, as in `Move`. Under background, a line that moves by N samples or more
-- either way becomes all background; one that moves by less is set between N background samples on each side, that line of 3N places is moved
-- with its indices modulo 3N, and its middle N are kept. Assumes nothing.
use Rattle.std.specs.Prelude.{Bool, false, cond, List, ℕ, ◌+◌, ◌*◌, ◌-◌, leb, ltb, ℤ, pos, nat_abs, length}
use Rattle.arith.specs.Move.{D, fraction}
use Rattle.lists.specs.Tab.{tab}
use Rattle.lists.specs.Line.{Line, line}
use Rattle.refusals.specs.Tests.{beyond_of}
use Rattle.settings.specs.declared.Border.{Border}
use Rattle.settings.specs.declared.Border.TheVariants.{Wrapped, Background}
use Rattle.kernels.specs.declared.Kernel.{Kernel}
use Rattle.moves.specs.Move.{moved}

-- a line of N samples set between N samples of the value b on each side
unfoldable pub framed : ℕ → ℤ → Line → Line
framed N b s k = cond (ltb k N) b (cond (ltb k (2 * N)) (s (k - N)) b)

-- a move by N samples or more, either way
unfoldable pub far : ℕ → ℤ → Bool
far N d = leb (D * N) (nat_abs d)

-- N samples moved by d/4,096 samples
unfoldable pub bordered : Border → Kernel → ℕ → ℤ → Line → Line
bordered Wrapped κ N d s k = moved κ N d s k
bordered (Background b) κ N d s k = cond (far N d) b (moved κ (3 * N) d (framed N b s) (N + k))

-- the same of a list
unfoldable pub move_in : Border → Kernel → ℤ → List ℤ → List ℤ
move_in β κ d s = tab (bordered β κ (length s) d (line s)) (length s)

-- whether a line of N samples that moves by d becomes all background
unfoldable pub gone : Border → ℕ → ℤ → Bool
gone Wrapped N d = false
gone (Background b) N d = far N d

-- its f, by which it is counted as interpolated: a line that becomes all background is not
unfoldable pub fraction_in : Border → ℕ → ℤ → ℕ
fraction_in β N d = cond (gone β N d) 0 (fraction d)

-- the background's sample value, 0 where there is none
abbrev pub grey : Border → ℤ
grey Wrapped = pos 0
grey (Background b) = b

-- 12: the background beyond ±32,767
unfoldable pub bad_background : Border → Bool
bad_background Wrapped = false
bad_background (Background b) = beyond_of 32767 b
