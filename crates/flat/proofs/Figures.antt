-- What each case of an answer is laid out as: the figures that include/straightener.h names. Assumes nothing.
use Prim.Native.Nat.{ℕ}
use mathlib.Core.Path.{◌≡◌, refl}
use mathlib.Core.Bool.{true, false}
use mathlib.Core.List.{[], ◌∷◌, map}
use lib.IntN.{ℤ, pos}
use lib.Ieee.{Float, binary32, of_bits}
use lib.ListN.{replicate}
use Rattle.std.specs.Prelude.{Ok, Err}
use Rattle.lists.specs.Tab.{tab}
use Rattle.lists.specs.declared.Extremes.{Extremes}
use Rattle.refusals.specs.declared.Refusal.{Refusal}
use Rattle.refusals.specs.Judging.{number, place, accepted}
use Rattle.tickets.specs.declared.Ticket.{Ticket}
use Rattle.forecasts.specs.declared.Figures.{Figures}
use Rattle.explanations.specs.declared.Parts.{Parts}
use Rattle.explanations.specs.Made.{no_term, no_parts}
use Rattle.readings.specs.declared.Reading.{Reading}
use Rattle.readings.specs.declared.Reading.TheVariants.{Level, Under, Over}
use Rattle.readings.specs.declared.Summary.{Summary}
use Rattle.readings.proofs.Exact.{zero_bits}
use Rattle.quarters.specs.declared.Size.{Size}
use Rattle.flat.specs.declared.FlatSetting.{FlatSetting}
use Rattle.flat.specs.Exported.{of_verdict, of_asked, of_forecast, of_explanation, of_outcome, of_block, of_line, of_step, of_checked, of_moved, of_named, kind_of, greys_of, of_reading, of_summary, of_written}

-- ---- refused: the refusal's number, and its row and column, and every other figure 0
module _ (refusal : Refusal) where
  abbrev n : ℕ
  n = number refusal

  abbrev y : ℕ
  y = (place refusal).row

  abbrev x : ℕ
  x = (place refusal).column

  pub refused_verdict : of_verdict (Err refusal) ≡ record { number = n; row = y; column = x; count = 0; smallest = pos 0; largest = pos 0 }
  refused_verdict = refl

  pub refused-picture : of_outcome (Err refusal) ≡ record { number = n; row = y; column = x; count = 0; smallest = pos 0; largest = pos 0 }
  refused-picture = refl

  -- with a depth, too
  pub refused_block : (z : ℕ)
      → of_block (Err (record { refusal = refusal; depth = z })) ≡ record { number = n; depth = z; row = y; column = x; count = 0; smallest = pos 0; largest = pos 0 }
  refused_block z = refl

  -- with a ticket of size 0 by 0 and count 0, and the flat setting as it was asked
  pub refused_asked : (s : FlatSetting)
      → of_asked s (Err refusal) ≡ record { number = n; row = y; column = x; ticket = record { width = 0; height = 0; setting = s; count = 0 } }
  refused_asked s = refl

  pub refused-forecast : of_forecast (Err refusal) ≡ record { number = n; row = y; column = x; work = 0; count = 0; bound = pos 0 }
  refused-forecast = refl

  pub refused-line : of_line (Err refusal) ≡ record { number = n; row = y; column = x; count = 0; smallest = pos 0; largest = pos 0 }
  refused-line = refl

  -- with four terms of 0
  pub refused_explanation :
      of_explanation (Err refusal) ≡ record { number = n; row = y; column = x; terms = replicate 4 no_term; sum = pos 0; divisor = pos 0; quotient = pos 0 }
  unfolding no_parts tab
  refused_explanation = refl

  pub refused_checked : of_checked (Err refusal) ≡ record { number = n; row = y; column = x; step = pos 0 }
  refused_checked = refl

  pub refused_moved : of_moved (Err refusal) ≡ record { number = n; row = y; column = x; width = 0; height = 0 }
  refused_moved = refl

  pub refused_named : of_named (Err refusal) ≡ record { number = n; value = 0 }
  refused_named = refl

  -- Level 0
  pub refused_reading : of_reading (Err refusal) ≡ record { number = n; row = y; column = x; kind = 0; greys = of_bits binary32 0 }
  refused_reading = rw zero_bits refl

  pub refused_summary : of_summary (Err refusal) ≡ record { number = n; row = y; column = x; darkest = of_bits binary32 0; lightest = of_bits binary32 0 }
  refused_summary = rw zero_bits refl

  -- S of a step, and the step of a level line
  pub refused-step : of_step (Err refusal) ≡ record { number = n; value = pos 0 }
  refused-step = refl

  pub refused-answer : of_written (Err refusal) ≡ record { number = n; written = 0 }
  refused-answer = refl

-- ---- accepted: number, row and column 0
pub accepted_verdict : of_verdict accepted ≡ record { number = 0; row = 0; column = 0; count = 0; smallest = pos 0; largest = pos 0 }
accepted_verdict = refl

pub accepted_asked : (s : FlatSetting) (t : Ticket)
    → of_asked s (Ok t) ≡ record { number = 0; row = 0; column = 0; ticket = record { width = t.width; height = t.height; setting = s; count = t.count } }
accepted_asked s t = refl

pub accepted-forecast : (f : Figures) → of_forecast (Ok f) ≡ record { number = 0; row = 0; column = 0; work = f.work; count = f.count; bound = f.bound }
accepted-forecast f = refl

pub accepted_explanation : (p : Parts)
    → of_explanation (Ok p) ≡ record { number = 0; row = 0; column = 0; terms = p.terms; sum = p.sum; divisor = p.divisor; quotient = p.quotient }
accepted_explanation p = refl

-- with the extremes of what was written
pub accepted-picture : (lines : ℕ) (extremes : Extremes)
    → of_outcome (Ok (record { lines = lines; extremes = extremes }))
    ≡ record { number = 0; row = 0; column = 0; count = lines; smallest = extremes.smallest; largest = extremes.largest }
accepted-picture lines extremes = refl

pub accepted_block : (lines : ℕ) (extremes : Extremes)
    → of_block (Ok (record { lines = lines; extremes = extremes }))
    ≡ record { number = 0; depth = 0; row = 0; column = 0; count = lines; smallest = extremes.smallest; largest = extremes.largest }
accepted_block lines extremes = refl

-- a line counts 1 where it was interpolated, and 0 where it moved by whole samples
pub accepted-line : (extremes : Extremes)
    → map of_line (Ok (record { interpolated = true; extremes = extremes }) ∷ Ok (record { interpolated = false; extremes = extremes }) ∷ [])
    ≡ record { number = 0; row = 0; column = 0; count = 1; smallest = extremes.smallest; largest = extremes.largest }
    ∷ record { number = 0; row = 0; column = 0; count = 0; smallest = extremes.smallest; largest = extremes.largest }
    ∷ []
accepted-line extremes = refl

-- S of a step, and the step of a level line
pub accepted-step : (s : ℤ) → of_step (Ok s) ≡ record { number = 0; value = s }
accepted-step s = refl

pub accepted-answer : (bytes : ℕ) → of_written (Ok bytes) ≡ record { number = 0; written = bytes }
accepted-answer bytes = refl

pub accepted_checked : (t : ℤ) → of_checked (Ok t) ≡ record { number = 0; row = 0; column = 0; step = t }
accepted_checked t = refl

pub accepted_moved : (size : Size) → of_moved (Ok size) ≡ record { number = 0; row = 0; column = 0; width = size.width; height = size.height }
accepted_moved size = refl

pub accepted_named : (quarter : ℕ) → of_named (Ok quarter) ≡ record { number = 0; value = quarter }
accepted_named quarter = refl

-- ---- the cases of a reading: 0 Level, 1 Under, 2 Over, each with its own greys
pub kinds : (x y z : Float) → map kind_of (Level x ∷ Under y ∷ Over z ∷ []) ≡ 0 ∷ 1 ∷ 2 ∷ []
kinds x y z = refl

pub kinds_greys : (x y z : Float) → map greys_of (Level x ∷ Under y ∷ Over z ∷ []) ≡ x ∷ y ∷ z ∷ []
kinds_greys x y z = refl

pub accepted_reading : (reading : Reading)
    → of_reading (Ok reading) ≡ record { number = 0; row = 0; column = 0; kind = kind_of reading; greys = greys_of reading }
accepted_reading reading = refl

pub accepted_summary : (summary : Summary)
    → of_summary (Ok summary) ≡ record { number = 0; row = 0; column = 0; darkest = summary.darkest; lightest = summary.lightest }
accepted_summary summary = refl
