-- What a call of the program shows: its status, its line on standard error, and why it ends so, in three parts. `Written.antt` says what is
-- written of a statement's values; `Told.antt` what a kernel's turns and storage say, behind a result and in the printed texts;
-- `Refused.antt` what stands after a refusal, and why. `Executed.antt` says all of that of `exec`.
use Rattle.std.specs.Prelude.{◌≡◌, ℕ, ◌⊎◌, List, String, map, string_bytes}
use Rattle.std.specs.declared.alloc.Global.{Global}
use Rattle.outside.specs.Folder.{FolderState}
use Rattle.outside.specs.Sink.{SinkState, Appends}
use Rattle.outside.specs.declared.refusal.Refusal.{Refusal}
use Rattle.text_lines.specs.Puts.{AppendsPart}
use Rattle.kernel_code.specs.declared.syntax.Turns.{Turns}
use Rattle.reports.specs.Reports.{turns_line}
use Rattle.refusals.specs.Lines.{status_of, line_of}
use Rattle.refusals.specs.declared.fault.Fault.{Fault}
use Rattle.taco_top.specs.Values.{Values, values_in}
use Rattle.taco_top.specs.Told.{IsWrittenIn, IsPrinted}
use Rattle.taco_top.specs.Refused.{Refuses}
use Rattle.taco_top.specs.Executed.{IsExecuted, RefusesExec}

-- a result was written, of a run of so many turns; a text was printed; or a fault is told. The same of the run of a given kernel
pub data Ending : Type 0 where
  Written : (turns : Turns) → Ending
  Printed : Ending
  Refused : (why : Fault) → Ending
  Executed : (turns : Turns) → Ending
  Unexecuted : (why : Fault) → Ending

abbrev pub status_of_end : Ending → ℕ
status_of_end (Written turns) = 0
status_of_end Printed = 0
status_of_end (Refused why) = status_of why
status_of_end (Executed turns) = 0
status_of_end (Unexecuted why) = status_of why

-- why a command ends so, over these values
abbrev pub Cause : Values → List (List ℕ) → FolderState → FolderState → SinkState → SinkState → Ending → Type 0
Cause over words files files' out out' (Written turns) = IsWrittenIn over words files files' out out' turns
Cause over words files files' out out' Printed = IsPrinted over words files files' out out'
Cause over words files files' out out' (Refused why) = Refuses over words files files' out out' why
Cause over words files files' out out' (Executed turns) = IsExecuted words files files' out out' turns
Cause over words files files' out out' (Unexecuted why) = RefusesExec words files files' out out' why

-- the line was appended whole; or a part of it at its front, and then the sink failed or wanted memory. Nothing else of the sink changed
-- but for the count of that; a finish is due where anything was appended
abbrev pub PutsLine : SinkState → SinkState → List ℕ → Type 0
PutsLine old new line = Appends old new line ⊎ ((why : Refusal) × AppendsPart old new line why)

-- what a command tells beside its output: the turns of a run whose result it writes, or its fault; beside a printed text nothing
abbrev pub PutsEnd : SinkState → SinkState → Ending → Type 0
PutsEnd old new (Written turns) = PutsLine old new (turns_line turns)
PutsEnd old new Printed = new ≡ old
PutsEnd old new (Refused why) = PutsLine old new (line_of why)
PutsEnd old new (Executed turns) = PutsLine old new (turns_line turns)
PutsEnd old new (Unexecuted why) = PutsLine old new (line_of why)

-- a call with this status ended so: it has its cause, over the semiring that the words name, and its line was told on standard error
pub record Ends (words : List (String Global)) (files files' : FolderState) (out out' err err' : SinkState) (status : ℕ) : Type 0 where
  pub ended : Ending
  pub status_is : status ≡ status_of_end ended
  pub cause : Cause (values_in (map string_bytes words)) (map string_bytes words) files files' out out' ended
  pub line : PutsEnd err err' ended
