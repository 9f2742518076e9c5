use Rattle.format_spec.specs.Formats.{letters_of}
use Rattle.appended_results.specs.Ends.{EndsFirst}
use Rattle.appended_results.proofs.ends.end_levels.Given as goal

abbrev pub invariant-loop-above : goal.invariant-loop-above
invariant-loop-above l = EndsFirst (letters_of l.format) l.base l.free l.above l.code
