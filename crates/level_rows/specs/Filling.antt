-- What a call leaves that gives a level of any kind its rows.
use Rattle.std.specs.Prelude.{◌≡◌, ℕ, ◌≤◌, ◌<◌, Bool, true, false, List, replicate, Result, Ok, Err, None}
use Rattle.std.specs.List.{range_with_len}
use Rattle.limits.specs.Limits.{greatest_position_count}
use Rattle.level_core.specs.declared.letter.Letter.{Letter}
use Rattle.level_core.specs.Kinds.{properties, capabilities, positions_for}
use Rattle.level_core.specs.Logs.{nothing_reserved}
use Rattle.level_core.specs.Meaning.{Meaning}
pub use Rattle.level_rows.specs.declared.filling.FillRefusal.{FillRefusal}
use Rattle.level_rows.specs.declared.filling.FillRefusal.TheVariants.{Memory, TooMany}
use Rattle.level_rows.specs.Rows.{Rows, begun, IsGreatestBelow, AreTogether, MayAppendRows, MayInsertRows}
use Rattle.level_rows.specs.Taken.{AppendsRows, InsertsRows}

-- how many positions a level of this kind and range has once it is given the rows: as many as they begin where it is appended to, else
-- as many as the kind says, for the greatest number that they begin below one parent where it isn't full
pub record AreNeeded (letter : Letter) (size parents : ℕ) (rows : Rows) (positions most : ℕ) : Type 0 where
  pub appended : (capabilities letter).append ≡ true → (positions ≡ begun rows.first rows.count) × (most ≡ positions)
  pub inserted : (capabilities letter).append ≡ false → positions ≡ positions_for letter size parents most
  pub greatest : (capabilities letter).append ≡ false → (properties letter).full ≡ false → IsGreatestBelow rows most
  pub full : (properties letter).full ≡ true → most ≡ 0

-- a level to which nothing was appended, or for which nothing was prepared, and rows that may be appended or inserted
pub record MayFill {L : Type 0} (means : Meaning L) (parents : ℕ) (rows : Rows) (l : L) : Type 0 where
  pub appends : (capabilities (means.kind l)).append ≡ true
      → MayAppendRows (means.kind l) (means.size l) parents rows × (means.log l ≡ nothing_reserved)
  pub inserts : (capabilities (means.kind l)).append ≡ false
      → MayInsertRows (means.size l) parents rows × AreTogether rows × (means.width l ≡ None)

-- the level is given the rows
pub record FillsRows {L : Type 0} (means : Meaning L) (parents most : ℕ) (rows : Rows) (places : List ℕ) (old new : L) : Type 0 where
  pub appended : (capabilities (means.kind old)).append ≡ true → AppendsRows means parents rows places old new
  pub inserted : (capabilities (means.kind old)).append ≡ false → InsertsRows means parents most rows places old new

-- what is answered where so many positions are needed: that they pass the limit exactly where they do; else the level is given the
-- rows and the number is answered, or memory was wanted; a refused call leaves all as it was
abbrev pub FillAnswer : {L : Type 0} → Meaning L → ℕ → Rows → ℕ → ℕ → List ℕ → List ℕ → L → L → Result ℕ FillRefusal → Type 0
FillAnswer means parents rows needed most before after old new (Ok n) =
    (needed ≤ greatest_position_count) × (n ≡ needed) × FillsRows means parents most rows after old new
FillAnswer means parents rows needed most before after old new (Err Memory) =
    (needed ≤ greatest_position_count) × (new ≡ old) × (after ≡ before)
FillAnswer means parents rows needed most before after old new (Err (TooMany count)) =
    (greatest_position_count < needed) × (count ≡ needed) × (new ≡ old) × (after ≡ before)

-- the positions of so many rows above a level that takes them all at once: their own numbers, or that of the first parent
abbrev pub places_once : Bool → ℕ → List ℕ
places_once true count = range_with_len 0 count
places_once false count = replicate count 0
