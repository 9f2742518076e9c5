-- The operands of the generated workload.
use Rattle.std.specs.Prelude.{◌≡◌, ℕ, ◌*◌, ◌%◌, ◌<◌, ◌≤◌, List, [], ◌∷◌, map, length, All, pos, ◌-ℤ◌}
use Rattle.std.specs.List.{range_with_len}
use Rattle.numbers.specs.Ring.{ring}
use Rattle.numbers.specs.Signed.{word_of_signed}
use Rattle.tensor_map.specs.Entries.{Entry, Entries, SameValues, SameListed, StrictlyIncreasing}
use Rattle.generated_runs.specs.Draws.{draw, state_after}

-- the value of a draw: what is left of it by 19, less 9
abbrev pub value_of : ℕ → ℕ
value_of d = word_of_signed (pos (d % 19) -ℤ pos 9)

-- the entry of a matrix of n rows and columns that three draws from a state on give: its row, its column and its value
abbrev pub entry_at : ℕ → ℕ → Entry
entry_at n x = record { coords = draw x 0 % n ∷ draw x 1 % n ∷ []; value = value_of (draw x 2) }

-- the first so many entries that the draws from a state on give, three for each
abbrev pub first_drawn : ℕ → ℕ → ℕ → List Entry
first_drawn n x count = map (λ i. entry_at n (state_after x (3 * i))) (range_with_len 0 count)

-- as many as the matrix has rows
abbrev pub drawn : ℕ → ℕ → List Entry
drawn n x = first_drawn n x n

-- what stands of drawn entries, sorted, those with equal coordinates added
pub record AreSummed (n : ℕ) (drawn : List Entry) (entries : Entries) : Type 0 where
  pub order : entries.order ≡ 2
  pub values : SameValues ring drawn entries.list
  pub listed : SameListed drawn entries.list
  pub increasing : StrictlyIncreasing entries.list
  pub inside : All (λ entry. All (λ coordinate. coordinate < n) entry.coords) entries.list
  pub few : length entries.list ≤ n

-- the operand of this number, counted from 0, of the workload of size n: the draws begin with n as their state, and each operand
-- takes three for each of its n entries
abbrev pub IsGenerated : ℕ → ℕ → Entries → Type 0
IsGenerated n number entries = AreSummed n (drawn n (state_after n (number * (3 * n)))) entries
