-- Sums put in the place of numbers, one after another.
use Rattle.std.specs.Prelude.{◌≡◌, ℕ, List, ◌++◌, take, drop}
use Rattle.level_core.specs.Logs.{total, running}

-- the first i numbers are sums already
abbrev pub partly : ℕ → List ℕ → ℕ → List ℕ
partly before old i = running before (take i old) ++ drop i old

-- the first i numbers are sums, whose last is this
pub record Summing (old now : List ℕ) (i sum : ℕ) : Type 0 where
  pub items : now ≡ partly 0 old i
  pub last : sum ≡ total (take i old)
