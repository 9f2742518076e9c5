-- A command that is refused by its words, and how any command ends.
use Rattle.std.specs.Prelude.{◌≡◌, ℕ, ◌⊎◌, List, Ok, refl}
use Rattle.std.proofs.Common.{inl, inr, subst}
use Rattle.outside.specs.Folder.{FolderState}
use Rattle.outside.specs.Sink.{SinkState}
use Rattle.refusals.specs.declared.fault.NamedFault.TheVariants as named
use Rattle.refusals.specs.declared.fault.Fault.{Fault}
use Rattle.refusals.specs.declared.fault.Fault.TheVariants as fault
use Rattle.kernel_code.specs.declared.syntax.Turns.{Turns}
use Rattle.taco_top.specs.Ends.{Cause, Printed, Refused, Written}
use Rattle.taco_top.specs.Exec.{IsExecRefused}
use Rattle.taco_top.specs.Executed.{IsExecuted, RefusesExec, StopsExec}
use Rattle.taco_top.specs.Executing.{EndsExec}
use Rattle.taco_top.specs.Prepared.{end_of}
use Rattle.taco_top.specs.Values.{values_in}
use Rattle.taco_top.specs.Work.{IsUnasked}
use Rattle.taco_top.specs.declared.ending.Done.{Done}
use Rattle.taco_top.specs.declared.ending.Done.TheVariants as done
use Rattle.taco_top.proofs.Executes.{exec_stopped}
use Rattle.taco_top.proofs.Stopped.{reads_nothing, stopped, stops_by_words}

-- the words of `exec` are refused, and no file was opened
stops_by_exec_words : (words : List (List ℕ)) (files : FolderState) (why : Fault) → IsExecRefused words why
    → StopsExec words files files why
stops_by_exec_words words files (fault.Notation why) is = record { folder_is = refl; refused = is }
stops_by_exec_words words files (fault.Named s (named.Name why)) is = record { folder_is = refl; refused = is }
stops_by_exec_words words files (fault.Named s (named.Binding why)) is = record { folder_is = refl; refused = is }
stops_by_exec_words words files (fault.Named s (named.Cycle cycle)) is = absurd is
stops_by_exec_words words files (fault.Named s (named.Range why)) is = absurd is
stops_by_exec_words words files (fault.Named s (named.SizeLimit large)) is = absurd is
stops_by_exec_words words files fault.Usage is = absurd is
stops_by_exec_words words files (fault.NoMinus name) is = absurd is
stops_by_exec_words words files (fault.WorkspaceLimit count) is = absurd is
stops_by_exec_words words files (fault.ReadFault path) is = absurd is
stops_by_exec_words words files (fault.FileBytes path) is = absurd is
stops_by_exec_words words files (fault.BadFile path line kind) is = absurd is
stops_by_exec_words words files (fault.Kernel why) is = absurd is
stops_by_exec_words words files (fault.WriteFault path) is = absurd is
stops_by_exec_words words files fault.Memory is = inl (record { folder_is = refl; refused = is })

pub by_unasked : (words : List (List ℕ)) (files : FolderState) (out : SinkState) (why : Fault) → IsUnasked words why
    → Cause (values_in words) words files files out out (Refused why) ⊎ RefusesExec words files files out out why
by_unasked words files out why (inl is) =
    inl (stopped (values_in words) words files files out why (reads_nothing files) (stops_by_words (values_in words) words why files is))
by_unasked words files out why (inr is) =
    inr (exec_stopped words files files out why (reads_nothing files) (stops_by_exec_words words files why is))

-- what was done, as it is told
module _ (words : List (List ℕ)) (files files' : FolderState) (out out' : SinkState) where
  abbrev IsEnd : Done → Type 0
  IsEnd told = Cause (values_in words) words files files' out out' (end_of (Ok told)) ⊎ EndsExec words files files' out out' (Ok told)

  pub written_by : (told : Done) (turns : Turns) → told ≡ done.Written turns → IsEnd told
      → Cause (values_in words) words files files' out out' (Written turns) ⊎ IsExecuted words files files' out out' turns
  written_by told turns same is = subst IsEnd same is

  printed_alone : IsEnd done.Printed → Cause (values_in words) words files files' out out' Printed
  printed_alone (inl cause) = cause
  printed_alone (inr none) = absurd none

  pub printed_by : (told : Done) → told ≡ done.Printed → IsEnd told → Cause (values_in words) words files files' out out' Printed
  printed_by told same is = printed_alone (subst IsEnd same is)
