use Rattle.std.specs.Prelude.{◌≡◌}
use Rattle.format_spec.specs.Formats.{letters_of}
use Rattle.appended_results.specs.Places.{is_fixed}
use Rattle.appended_results.specs.Codes.{AppendsFirst}
use Rattle.appended_results.proofs.heads.append_levels.Given as goal

abbrev pub invariant-loop-above : goal.invariant-loop-above
invariant-loop-above l =
    AppendsFirst (letters_of l.format) l.head l.base l.free l.keys l.above l.code × (l.fixed ≡ is_fixed (letters_of l.format) l.above)
