-- A block of slots: each is empty or holds a coordinate. f tells what a slot holds, a block of width w begins at base, and
-- coordinate x is sought from slot x mod w of the block on, wrapping.
use Rattle.std.specs.Prelude.{◌≡◌, ◌≢◌, ◌⊎◌, ℕ, zero, suc, ◌+◌, ◌%◌, ◌^◌, ◌-◌}
use Rattle.std.specs.Prelude.{◌<◌, ◌==◌, if◌then◌else◌, List, [], ◌∷◌, Option, Some, None}
use Rattle.std.proofs.Common.{arith}
use Rattle.limits.specs.Limits.{greatest_position_count}
use Rattle.limits.proofs.Limits.{positions_are_small}
use Rattle.level_core.specs.declared.span.Entry.{Entry}
use Rattle.level_core.specs.Entries.{one}

-- what an empty slot holds: the last word
unfoldable pub empty_slot : ℕ
empty_slot = 2 ^ 64 - 1

-- no coordinate is so large
pub positions_below_empty : greatest_position_count < empty_slot
unfolding empty_slot
positions_below_empty = let small = positions_are_small in omega (arith, small)

-- the entry of a slot before others, if it isn't empty
abbrev pub with_slot : ℕ → ℕ → List Entry → List Entry
with_slot x pos es = if x == empty_slot then es else record { coord = x; child = one pos } ∷ es

-- the entries of so many slots from pos on
abbrev pub filled : (ℕ → ℕ) → ℕ → ℕ → List Entry
filled f zero pos = []
filled f (suc count) pos = with_slot (f pos) pos (filled f count (pos + 1))

-- what the word of a slot says
abbrev pub coord_of : ℕ → Option ℕ
coord_of x = if x == empty_slot then None else Some x

-- where coordinate x is sought after k steps
abbrev pub place : ℕ → ℕ → ℕ → ℕ → ℕ
place w base x k = base + (x + k) % w

-- the slots of the first d steps are filled
abbrev pub FilledBefore : (ℕ → ℕ) → ℕ → ℕ → ℕ → ℕ → Type 0
FilledBefore f w base x d = (k : ℕ) → k < d → f (place w base x k) ≢ empty_slot

-- coordinate x is at slot j of the block, and all slots from where it is sought up to it are filled
pub record IsReached (f : ℕ → ℕ) (w base x j : ℕ) : Type 0 where
  pub steps : ℕ
  pub few : steps < w
  pub at : (x + steps) % w ≡ j
  pub filled : FilledBefore f w base x steps

-- the rules of a block: coordinates are below n, each stands once and is found from where it is sought
pub record KeepsBlock (f : ℕ → ℕ) (n w base : ℕ) : Type 0 where
  pub below : (j : ℕ) → j < w → f (base + j) ≢ empty_slot → f (base + j) < n
  pub once : (i j : ℕ) → i < w → j < w → f (base + i) ≢ empty_slot → f (base + i) ≡ f (base + j) → i ≡ j
  pub reached : (j : ℕ) → j < w → f (base + j) ≢ empty_slot → IsReached f w base (f (base + j)) j

-- the slot where the search for x ends: it holds x or is empty, and none before is or does
pub record Stops (f : ℕ → ℕ) (w base x slot : ℕ) : Type 0 where
  pub steps : ℕ
  pub few : steps < w
  pub at : slot ≡ place w base x steps
  pub stop : (f slot ≡ empty_slot) ⊎ (f slot ≡ x)
  pub filled : FilledBefore f w base x steps
  pub passed : (k : ℕ) → k < steps → f (place w base x k) ≢ x

-- the first d steps of the search find neither x nor an empty slot
pub record Passes (f : ℕ → ℕ) (w base x d : ℕ) : Type 0 where
  pub filled : FilledBefore f w base x d
  pub passed : (k : ℕ) → k < d → f (place w base x k) ≢ x

-- the first empty slot from where x is sought on
pub record FirstEmpty (f : ℕ → ℕ) (w base x slot : ℕ) : Type 0 where
  pub steps : ℕ
  pub few : steps < w
  pub at : slot ≡ place w base x steps
  pub empty : f slot ≡ empty_slot
  pub filled : FilledBefore f w base x steps
