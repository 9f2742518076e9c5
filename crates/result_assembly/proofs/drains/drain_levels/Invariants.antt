use Rattle.format_spec.specs.Formats.{letters_of}
use Rattle.result_assembly.specs.Levels.{DrainsFirst}
use Rattle.result_assembly.proofs.drains.drain_levels.Given as goal

abbrev pub invariant-loop-above : goal.invariant-loop-above
invariant-loop-above l = DrainsFirst (letters_of l.format) l.above l.workspace l.list l.base l.code
