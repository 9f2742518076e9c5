use Rattle.std.proofs.Common.{◌≡◌, ◌∙◌, ap, map, string_bytes, Some}
use Rattle.std.specs.declared.alloc.Global.{Global}
use Rattle.command_line.specs.CommandLine.{Workload, command_line_of}
use Rattle.command_line.specs.Told.{told}
use Rattle.command_line.proofs.Limited.{are_limited}
use Rattle.taco_top.proofs.asked.ask.Goals as goal

pub returns-in-Workload-clause-asked : goal.returns-in-Workload-clause-asked
returns-in-Workload-clause-asked c =
    let line : command_line_of (map (string_bytes {Z = Global}) c.args.words.now) ≡ Some (Workload c.in-Workload.size) =
    c.in_ok-task.ensures ∙ ap (λ request. Some (told request)) c.in-Workload.is in
    (line, are_limited (map (string_bytes {Z = Global}) c.args.words.now) c.in-Workload.size line)
