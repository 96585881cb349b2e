-- The structs that C and Rust receive: what the call beneath answers, laid out by the definitions that give document 01's figures for each
-- case. Assumes nothing.
use Rattle.std.specs.Prelude.{ℕ, zero, suc, ◌≡◌, Result, Ok, Err, ℤ, pos, Float}
use Rattle.refusals.specs.declared.Refusal.{Refusal}
use Rattle.refusals.specs.Judging.{Verdict, number_of, row_of, column_of}
use Rattle.pictures.specs.declared.Straightened.{Straightened}
use Rattle.pictures.specs.Answer as straightened
use Rattle.blocks.specs.declared.BlockRefusal.{BlockRefusal}
use Rattle.blocks.specs.Answer as blocks
use Rattle.lines.specs.declared.Moved.{Moved}
use Rattle.lines.specs.Answer as moved
use Rattle.explanations.specs.declared.Parts.{Parts}
use Rattle.explanations.specs.Answer.{parts_of_answer}
use Rattle.steps.specs.Step.{setting_after}
use Rattle.readings.specs.declared.Reading.{Reading}
use Rattle.readings.specs.declared.Reading.TheVariants.{Level, Under, Over}
use Rattle.readings.specs.declared.Summary.{Summary}
use Rattle.readings.specs.Answers.{reading_of_answer, summary_of_answer}
use Rattle.settings.specs.declared.Border.{Border}
use Rattle.settings.specs.declared.Border.TheVariants.{Wrapped, Background}
use Rattle.settings.specs.declared.Setting.{Setting}
use Rattle.format.specs.Answered.{written_bytes}
use Rattle.tickets.specs.declared.Ticket.{Ticket}
use Rattle.tickets.specs.Ticket.{ticket_in}
use Rattle.forecasts.specs.declared.Figures.{Figures}
use Rattle.forecasts.specs.Figures.{figures_in}
use Rattle.quarters.specs.declared.Size.{Size}
use Rattle.quarters.specs.Answer.{width_of, height_of, quarter_of}
use Rattle.flat.specs.declared.FlatSetting.{FlatSetting}
use Rattle.flat.specs.declared.FlatChange.{FlatChange}
use Rattle.flat.specs.declared.FlatTicket.{FlatTicket}
use Rattle.flat.specs.declared.FlatAsked.{FlatAsked}
use Rattle.flat.specs.declared.ForecastAnswer.{ForecastAnswer}
use Rattle.flat.specs.declared.ExplanationAnswer.{ExplanationAnswer}
use Rattle.flat.specs.declared.Answer.{Answer}
use Rattle.flat.specs.declared.BlockAnswer.{BlockAnswer}
use Rattle.flat.specs.declared.Step.{Step}
use Rattle.flat.specs.declared.CheckedStep.{CheckedStep}
use Rattle.flat.specs.declared.QuarterAnswer.{QuarterAnswer}
use Rattle.flat.specs.declared.Quarter.{Quarter}
use Rattle.flat.specs.declared.ReadingAnswer.{ReadingAnswer}
use Rattle.flat.specs.declared.SummaryAnswer.{SummaryAnswer}
use Rattle.flat.specs.declared.LineAnswer.{LineAnswer}

-- 0 wrapped, and any other number background of the value
abbrev pub border_of : ℕ → ℤ → Border
border_of zero background = Wrapped
border_of (suc n) background = Background background

abbrev pub setting_of : FlatSetting → Setting
setting_of s = record { kernel = s.kernel; cx = s.cx; cy = s.cy; a = s.a; b = s.b; border = border_of s.border s.background }

-- a changed setting, with the border's two fields as they stood in the one that was changed
abbrev pub laid_as : FlatSetting → Setting → FlatSetting
laid_as s c = record { kernel = c.kernel; cx = c.cx; cy = c.cy; a = c.a; b = c.b; border = s.border; background = s.background }

-- the changed setting, or the setting as it was where the change is refused
abbrev pub of_change : FlatSetting → Result Setting Refusal → FlatChange
of_change s c = record { number = number_of c; setting = laid_as s (setting_after (setting_of s) c) }

abbrev pub ticket_of : FlatTicket → Ticket
ticket_of t = record { width = t.width; height = t.height; setting = setting_of t.setting; count = t.count }

-- what asking answers: the ticket has the flat setting as it was asked
abbrev pub of_asked : FlatSetting → Result Ticket Refusal → FlatAsked
of_asked s a =
    let t = ticket_in (setting_of s) a in
    record {
      number = number_of a;
      row = row_of a;
      column = column_of a;
      ticket = record { width = t.width; height = t.height; setting = s; count = t.count };
    }

-- what a forecast answers
abbrev pub of_forecast : Result Figures Refusal → ForecastAnswer
of_forecast f =
    let told = figures_in f in
    record {
      number = number_of f;
      row = row_of f;
      column = column_of f;
      work = told.work;
      count = told.count;
      bound = told.bound;
    }

-- what an explanation answers
abbrev pub of_explanation : Result Parts Refusal → ExplanationAnswer
of_explanation e =
    let parts = parts_of_answer e in
    record {
      number = number_of e;
      row = row_of e;
      column = column_of e;
      terms = parts.terms;
      sum = parts.sum;
      divisor = parts.divisor;
      quotient = parts.quotient;
    }

-- a verdict alone interpolates no line and moves no sample
abbrev pub of_verdict : Verdict → Answer
of_verdict v = record { number = number_of v; row = row_of v; column = column_of v; count = 0; smallest = pos 0; largest = pos 0 }

abbrev pub of_outcome : Result Straightened Refusal → Answer
of_outcome o =
    record {
      number = number_of o;
      row = row_of o;
      column = column_of o;
      count = straightened.count_of o;
      smallest = straightened.smallest_of o;
      largest = straightened.largest_of o;
    }

-- what the call on a block answers
abbrev pub of_block : Result Straightened BlockRefusal → BlockAnswer
of_block o =
    record {
      number = blocks.number_of o;
      depth = blocks.depth_of o;
      row = blocks.row_of o;
      column = blocks.column_of o;
      count = blocks.count_of o;
      smallest = blocks.smallest_of o;
      largest = blocks.largest_of o;
    }

abbrev pub of_line : Result Moved Refusal → Answer
of_line m =
    record {
      number = number_of m;
      row = row_of m;
      column = column_of m;
      count = moved.count_of m;
      smallest = moved.smallest_of m;
      largest = moved.largest_of m;
    }

-- S of a step or the step of a level line, 0 where refused
abbrev pub value_of : Result ℤ Refusal → ℤ
value_of (Ok value) = value
value_of (Err refusal) = pos 0

abbrev pub of_step : Result ℤ Refusal → Step
of_step r = record { number = number_of r; value = value_of r }

-- what levelling with a picture answers
abbrev pub of_checked : Result ℤ Refusal → CheckedStep
of_checked r = record { number = number_of r; row = row_of r; column = column_of r; step = value_of r }

-- what moving a picture answers, and a call for a move's number
abbrev pub of_moved : Result Size Refusal → QuarterAnswer
of_moved m =
    record { number = number_of m; row = row_of m; column = column_of m; width = width_of m; height = height_of m }

abbrev pub of_named : Result ℕ Refusal → Quarter
of_named r = record { number = number_of r; value = quarter_of r }

-- 0 Level, 1 Under, 2 Over, each with its greys
abbrev pub kind_of : Reading → ℕ
kind_of (Level greys) = 0
kind_of (Under greys) = 1
kind_of (Over greys) = 2

abbrev pub greys_of : Reading → Float
greys_of (Level greys) = greys
greys_of (Under greys) = greys
greys_of (Over greys) = greys

abbrev pub of_reading : Result Reading Refusal → ReadingAnswer
of_reading a =
    let reading = reading_of_answer a in
    record {
      number = number_of a;
      row = row_of a;
      column = column_of a;
      kind = kind_of reading;
      greys = greys_of reading;
    }

abbrev pub of_summary : Result Summary Refusal → SummaryAnswer
of_summary a =
    let summary = summary_of_answer a in
    record {
      number = number_of a;
      row = row_of a;
      column = column_of a;
      darkest = summary.darkest;
      lightest = summary.lightest;
    }

abbrev pub of_written : Result ℕ Refusal → LineAnswer
of_written w = record { number = number_of w; written = written_bytes w }

-- r is laid out from an outcome of which the call beneath says all that it promises
pub record Exported {O R : Type 0} (flattened : O → R) (Promised : O → Type 0) (r : R) : Type 0 where
  pub outcome : O
  pub promised : Promised outcome
  pub answer : r ≡ flattened outcome
