-- A refusal of a folder or a sink as one of the writing of a result.
use Rattle.outside.specs.declared.refusal.Refusal.{Refusal}
use Rattle.outside.specs.declared.refusal.Refusal.TheVariants as of
use Rattle.result_files.specs.declared.refusal.WriteRefusal.{WriteRefusal}
use Rattle.result_files.specs.declared.refusal.WriteRefusal.TheVariants.{Fault, Memory}

-- Absent is never answered where something is written
abbrev pub refused_as : Refusal → WriteRefusal
refused_as of.Failed = Fault
refused_as of.Absent = Fault
refused_as (of.Memory e) = Memory e
