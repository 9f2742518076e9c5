-- The parents of finished levels, and the end of their positions.
use Rattle.std.specs.Prelude.{◌≡◌, ◌≢◌, ℕ, ◌+◌, ◌-◌, ◌≤◌}
use Rattle.std.proofs.Common.{sym, subst, arith}
use Rattle.level_core.specs.Entries.{span}
use Rattle.tensor_storage.specs.declared.level.StorageLevel.{StorageLevel}
use Rattle.tensor_storage.specs.Levels.{meaning}
use Rattle.tensor_storage.specs.Laws.{laws}
use Rattle.storage_arrays.specs.Arrays.{positions_in}

-- the parent whose number, counted from 1, is this may be asked
pub one_allowed : (l : StorageLevel) (parents number : ℕ) → meaning.has_parents l parents → number ≢ 0 → number ≤ parents
    → meaning.allowed l (span (number - 1) number)
one_allowed l parents number h some less =
    let more : number - 1 + 1 ≡ number = omega (arith, some) in
    subst (λ (hi : ℕ). meaning.allowed l (span (number - 1) hi)) more (laws.parents l parents (number - 1) h (omega (arith, some, less)))

-- the positions of the last one end with the level's
pub all_end : (l : StorageLevel) (parents : ℕ) → meaning.has_parents l parents → parents ≢ 0
    → (meaning.segment_of l (span (parents - 1) parents)).hi ≡ positions_in parents l
all_end l parents h some =
    let more : parents - 1 + 1 ≡ parents = omega (arith, some) in
    subst (λ (hi : ℕ). (meaning.segment_of l (span (parents - 1) hi)).hi ≡ positions_in parents l) more
    (laws.last_end l parents (parents - 1) h more)

pub no_positions : (l : StorageLevel) (parents : ℕ) → meaning.has_parents l parents → parents ≡ 0 → 0 ≡ positions_in parents l
no_positions l parents h none =
    sym (subst (λ (n : ℕ). positions_in n l ≡ 0) (sym none) (laws.none_without l (subst (meaning.has_parents l) none h)))
