-- Variables numbered by their places in a list of names.
use Rattle.std.specs.Prelude.{◌≡◌, ℕ, List, Option, Some, slice_get}
use Rattle.dead_code.specs.Follows.{Vars}

-- a table that has at each name its place among the names, and at other numbers none: so each name stands once
pub record IsTable (table : List (Option ℕ)) (names : List ℕ) : Type 0 where
  pub named : (x i : ℕ) → slice_get table x ≡ Some (Some i) → slice_get names i ≡ Some x
  pub placed : (x i : ℕ) → slice_get names i ≡ Some x → slice_get table x ≡ Some (Some i)

-- each variable has in the second what the one of its name has in the first
pub record Renamed (names : List ℕ) (v w : Vars) : Type 0 where
  pub at : (x i : ℕ) → slice_get names i ≡ Some x → w i ≡ v x
