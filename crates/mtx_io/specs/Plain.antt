-- What the numbers of a plainly written line tell, and the lines that may be so read.
use Rattle.std.specs.Prelude.{ℕ, ◌-◌, List, [], ◌∷◌, replicate, Option, Some, None}
use Rattle.text_lines.specs.Plain.{AreNumbers}
use Rattle.text_lines.specs.declared.line_kind.LineKind.{LineKind}
use Rattle.mtx_io.specs.Size.{Sized, Anywhere}
use Rattle.mtx_io.specs.declared.header.Header.{Header}
use Rattle.mtx_io.specs.declared.place.PlainLine.{PlainLine}
use Rattle.mtx_io.specs.declared.stage.Stage.{Stage}
use Rattle.mtx_io.specs.declared.stage.Stage.TheVariants.{Sized as SizedStage, Bad}

-- a line was read to these numbers: its tokens are the row, the column and the value behind them
abbrev pub IsReadTo : List (List ℕ) → PlainLine → Type 0
IsReadTo tokens plain = AreNumbers tokens (plain.row ∷ plain.column ∷ []) plain.value

-- so many entry lines are due, each of a row, a column and a value
abbrev pub full_due : Header → ℕ → Sized
full_due header count = record { header = header; slots = replicate count Anywhere }

-- how far a file is read behind one of so many such lines, which has this number: it may be bad
abbrev pub stage_behind : Header → ℕ → ℕ → Option LineKind → Stage
stage_behind header left number None = SizedStage (full_due header (left - 1))
stage_behind header left number (Some kind) = Bad number kind
