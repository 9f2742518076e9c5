use Rattle.std.proofs.Common.{◌≡◌, map}
use Rattle.std.specs.List.{range_with_len}
use Rattle.bindings.specs.Tables.{file_in, paths_in}
use Rattle.taco_top.specs.Run.{operand_path}
use Rattle.taco_top.proofs.operands.files_of.Given as goal

-- the paths of the operands so far
abbrev pub invariant-loop-n : goal.invariant-loop-n
invariant-loop-n l = paths_in l.files.items
    ≡ map (operand_path l.statement (map file_in l.bindings.files.entries)) (range_with_len 1 l.n)
