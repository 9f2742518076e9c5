use Rattle.std.specs.Prelude.{◌≡◌, All, take}
use Rattle.storage_builder.proofs.paths.are_all.Given as goal

abbrev pub invariant-loop-value : goal.invariant-loop-value
invariant-loop-value l = All (λ v. v ≡ l.nothing) (take l.value-index l.values)
