-- What is told of nested sums, one after another: inside each stand accesses and earlier sums, of which it was told before.
use Rattle.std.specs.Prelude.{List, [], ◌∷◌, ◌++◌}
use Rattle.index_notation.specs.declared.syntax.NestedSum.{NestedSum}

-- what is told of accesses, and behind them of sums, each by what is told before it
abbrev pub told_with : {X : Type 0} → (List X → NestedSum → X) → List X → List NestedSum → List X
told_with of_sum told [] = told
told_with of_sum told (sum ∷ sums) = told_with of_sum (told ++ (of_sum told sum ∷ [])) sums
