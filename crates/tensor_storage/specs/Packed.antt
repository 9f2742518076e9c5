-- Levels that are packed one below another, each given the rows of a table.
use Rattle.std.specs.Prelude.{◌≡◌, ℕ, ◌+◌, ◌<◌, ◌&&◌, Bool, true, List, [], ◌∷◌, ◌++◌, length, map, drop, slice_index}
use Rattle.limits.specs.Limits.{greatest_position_count}
use Rattle.level_core.specs.declared.letter.Letter.{Letter}
use Rattle.level_core.specs.Kinds.{properties, capabilities}
use Rattle.level_core.specs.Meaning.{Meaning}
use Rattle.level_rows.specs.Stacks.{Column}
use Rattle.level_rows.specs.Growing.{Growing}
use Rattle.format_spec.specs.Formats.{Chained}
use Rattle.tensor_storage.specs.Built.{counts_of, AreBuilt}
use Rattle.tensor_storage.specs.Chains.{chain_length}
use Rattle.tensor_storage.specs.Counts.{positions_from, AreFew}
use Rattle.tensor_storage.specs.Tables.{Table}
use Rattle.tensor_storage.specs.declared.packing.PackRefusal.{PackRefusal}
use Rattle.tensor_storage.specs.declared.packing.PackRefusal.TheVariants.{Memory, SizeLimit}

-- levels to be appended to stand below ordered ones alone
abbrev pub MayFollow : Bool → List Letter → Type 0
MayFollow ordered [] = Unit {0}
MayFollow ordered (letter ∷ letters) =
    ((capabilities letter).append ≡ true → ordered ≡ true) × MayFollow (ordered && (properties letter).ordered) letters

-- the first d levels are packed, and positions has the place of each row at the last of them
pub record ArePacked {L : Type 0} (means : Meaning L) (letters : List Letter) (sizes : List ℕ) (table : Table)
    (d : ℕ) (levels : List L) (positions : List ℕ) (parents : ℕ) : Type 0 where
  pub columns : List Column
  pub above : ℕ
  pub groups : Bool
  pub ordered : Bool
  pub growing : Growing means table.coords table.count d above groups ordered levels columns (slice_index positions) parents
  pub chained : Chained groups (drop d letters)
  pub deep : groups ≡ true → above ≡ d + chain_length (drop d letters)
  pub follow : MayFollow ordered (drop d letters)
  pub many : length positions ≡ table.count
  pub kinds : map means.kind levels ++ drop d letters ≡ letters
  pub ranges : map means.size levels ++ drop d sizes ≡ sizes
  pub counts : counts_of columns ++ positions_from table d parents (drop d letters) (drop d sizes) ≡ positions_from table 0 1 letters sizes
  pub few : AreFew (counts_of columns)
  pub built : AreBuilt means table 0 (λ i. 0) 1 letters levels columns

-- of levels with so many positions each, the level of this number, counted from 1, is the first that has more than may be, and
-- has so many
pub record IsFirstAbove (counts : List ℕ) (level count : ℕ) : Type 0 where
  pub above : List ℕ
  pub below : List ℕ
  pub all : counts ≡ above ++ (count ∷ below)
  pub at : level ≡ length above + 1
  pub few : AreFew above
  pub passes : greatest_position_count < count

-- memory was wanted, or the first level is told that would have more positions than may be, and how many
abbrev pub IsRefusal : List ℕ → PackRefusal → Type 0
IsRefusal counts Memory = Unit {0}
IsRefusal counts (SizeLimit level count) = IsFirstAbove counts level count
