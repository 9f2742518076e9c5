-- What the number of positions that a level needs tells of rows.
use Rattle.std.specs.Prelude.{◌≡◌, ◌⊎◌, ℕ, ◌*◌, ◌^◌, ◌≤◌, ◌<◌, Bool, true, false, refl}
use Rattle.std.proofs.Common.{◌∙◌, arith, inl, inr}
use Rattle.std.proofs.Math.Nat.{mul-le-mul_right}
use Rattle.kernel_code.specs.Widths.{slot_width}
use Rattle.kernel_code.proofs.Widths.{slot_width_enough}
use Rattle.level_core.specs.declared.letter.Letter.{Letter}
use Rattle.level_core.specs.Kinds.{properties, capabilities}
use Rattle.level_core.proofs.KindLaws.{inserted_else, stored_positions}
use Rattle.level_rows.specs.Rows.{Rows, begun_below, IsGreatestBelow}
use Rattle.level_rows.specs.Filling.{AreNeeded}

-- at most half as many coordinates stand below one parent as a level has positions
half : (rows : Rows) (parents most positions : ℕ) → most ≤ 2 ^ 62 → ((i : ℕ) → i < rows.count → rows.parent i < parents)
    → IsGreatestBelow rows most → positions ≡ parents * slot_width most → most ≤ positions
half rows parents most positions small within g is = by_reached g.reached
  where
    by_reached : (most ≡ 0) ⊎ ((i : ℕ) × (i < rows.count) × (begun_below rows (rows.parent i) rows.count ≡ most)) → most ≤ positions
    by_reached (inl none) = omega (arith, none)
    by_reached (inr some) =
        let w = within some.0 some.1 in
        let one : 1 ≤ parents = omega (arith, w) in
        let wide = slot_width_enough most small in
        let more : 1 * slot_width most ≤ parents * slot_width most = mul-le-mul_right (slot_width most) one in
        omega (arith, wide, more, is)

pub few_below : (letter : Letter) (size parents : ℕ) (rows : Rows) (positions most : ℕ) → (capabilities letter).append ≡ false
    → ((i : ℕ) → i < rows.count → rows.parent i < parents) → most ≤ 2 ^ 62 → AreNeeded letter size parents rows positions most
    → most ≤ positions
few_below letter size parents rows positions most none within small need = by_full (properties letter).full refl
  where
    by_full : (full : Bool) → (properties letter).full ≡ full → most ≤ positions
    by_full true is = let zero = need.full is in omega (arith, zero)
    by_full false is =
        half rows parents most positions small within (need.greatest none is)
        (need.inserted none ∙ stored_positions letter size parents most is (inserted_else letter none))
