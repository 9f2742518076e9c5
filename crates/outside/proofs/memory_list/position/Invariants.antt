use Rattle.outside.specs.MemoryFile.{IsNewName}
use Rattle.outside.proofs.memory_list.position.Given as goal

abbrev pub invariant-loop-i : goal.invariant-loop-i
invariant-loop-i l = IsNewName l.files l.i l.name
