-- Faults of ranges, of packing and of growth as those of a run.
use Rattle.std.specs.Prelude.{ℕ}
use Rattle.expr_terms.specs.declared.range_fault.RangeFault.{RangeFault}
use Rattle.expr_terms.specs.declared.range_fault.RangeFault.TheVariants as range
use Rattle.operand_packing.specs.declared.packing.PackFault.{PackFault}
use Rattle.operand_packing.specs.declared.packing.PackFault.TheVariants as pack
use Rattle.kernel_runs.specs.declared.fault.RunFault.{RunFault}
use Rattle.kernel_runs.specs.declared.fault.RunFault.TheVariants.{Range, SizeLimit, Workspace, Memory}
use Rattle.kernel_code.specs.declared.syntax.Place.{Place}
use Rattle.kernel_code.specs.declared.syntax.Place.TheVariants as place

-- want of memory is that of the run
abbrev pub of_ranges : RangeFault → RunFault
of_ranges (range.Memory error) = Memory error
of_ranges fault = Range fault

abbrev pub of_packing : PackFault → RunFault
of_packing (pack.SizeLimit large) = SizeLimit large
of_packing (pack.Memory error) = Memory error

-- a growth of the result, which is tensor 0, or of the workspace
abbrev pub of_place : Place → ℕ → RunFault
of_place (place.Level level) count = SizeLimit (record { tensor = 0; level = level; count = count })
of_place place.Workspace count = Workspace count
