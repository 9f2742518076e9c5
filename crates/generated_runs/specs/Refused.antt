-- What a run of the workload may be refused for.
use Rattle.kernel_runs.specs.declared.fault.RunFault.{RunFault}
use Rattle.kernel_runs.specs.declared.fault.RunFault.TheVariants.{Memory}

-- want of memory, and no other fault
abbrev pub IsForMemory : RunFault → Type 0
IsForMemory (Memory error) = Unit {0}
IsForMemory fault = ⊥
