use Rattle.std.specs.Prelude.{length}
use Rattle.format_spec.specs.Formats.{letters_of}
use Rattle.appended_results.specs.Begins.{BeginsFirst}
use Rattle.appended_results.proofs.starts.begin_levels.Given as goal

abbrev pub invariant-loop-above : goal.invariant-loop-above
invariant-loop-above l = BeginsFirst (letters_of l.format) (length l.format) l.base l.above l.code
