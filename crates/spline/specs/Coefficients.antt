-- The spline's coefficients as document 01 computes them. u and v are one rounded recursion, run upward and downward over the line, which is
-- read with its indices modulo N; each begins 24 places before the first value that is kept. Assumes nothing.
use Rattle.std.specs.Prelude.{List, ℕ, zero, suc, ◌+◌, ◌*◌, ◌-◌, ℤ, pos, ◌-ℤ◌, ◌*ℤ◌, length}
use Rattle.arith.specs.Whole.{round}
use Rattle.lists.specs.Tab.{tab}
use Rattle.lists.specs.Line.{Line, wrap, line}

-- 2³⁰, and document 01's P, the whole number nearest (2 - √3)·2³⁰
abbrev pub T : ℕ
T = 1073741824

abbrev pub P : ℕ
P = 287708255

-- how many places outside the line a run begins
abbrev pub run_in : ℕ
run_in = 24

-- after j inputs of x, from 0: each input less [P/2³⁰ times the value before it]
unfoldable pub filter : Line → ℕ → ℤ
filter x zero = pos 0
filter x (suc j) = x j -ℤ round (pos P *ℤ filter x j) T

-- u(j - 25), from u(-25) = 0. The first input is 16·s(-24), and -24 is 24·(N - 1) modulo N
unfoldable pub run : ℕ → Line → Line
run N s = filter (λ j. pos 16 *ℤ wrap N s (run_in * (N - 1) + j))

-- u(k), for k from 0 on
unfoldable pub u : ℕ → Line → Line
u N s k = run N s (suc run_in + k)

-- the same downward over a line f, from 0 at N + 24: the value at N + 24 - j
unfoldable pub down : ℕ → Line → Line
down N f = filter (λ j. wrap N f (N + run_in - suc j))

-- the value at k
unfoldable pub back : ℕ → Line → Line
back N f k = down N f (N + run_in - k)

-- v runs over u(0) to u(N - 1), wrapped
unfoldable pub v : ℕ → Line → Line
v N s = back N (u N s)

-- [6·P·y/2³⁰]
unfoldable pub scaled : ℤ → ℤ
scaled y = round (pos (6 * P) *ℤ y) T

-- c(k)
unfoldable pub coefficient : ℕ → Line → Line
coefficient N s k = scaled (v N s k)

-- c(0) to c(N - 1) of a list of N samples
unfoldable pub coefficients : List ℤ → List ℤ
coefficients s = tab (coefficient (length s) (line s)) (length s)
