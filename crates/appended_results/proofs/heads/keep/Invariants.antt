use Rattle.std.specs.Prelude.{◌≡◌}
use Rattle.appended_results.specs.Rows.{keep_code}
use Rattle.appended_results.proofs.heads.keep.Given as goal

abbrev pub invariant-loop-level : goal.invariant-loop-level
invariant-loop-level l = l.code ≡ keep_code l.base l.keys l.level
