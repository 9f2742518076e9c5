-- What a request tells.
use Rattle.std.specs.Prelude.{map, ⊤}
use Rattle.command_line.specs.CommandLine.{CommandLine, Statement, Workload, Exec}
use Rattle.command_line.specs.declared.Request.{Request}
use Rattle.command_line.specs.declared.Request.TheVariants as request
use Rattle.command_line.specs.declared.RequestFault.{RequestFault}
use Rattle.command_line.specs.declared.RequestFault.TheVariants as fault

abbrev pub told : Request → CommandLine
told (request.Statement task over expr words) = Statement task over expr.now (map (λ w. w.now) words.items)
told (request.Workload size) = Workload size
told (request.Exec path budget expr words) = Exec path.now budget expr.now (map (λ w. w.now) words.items)

abbrev pub IsUsage : RequestFault → Type 0
IsUsage fault.Usage = ⊤
IsUsage fault.Memory = ⊥
