-- The head of a row of a result: its coordinates through the last level that isn't full, in the order of the levels.
use Rattle.std.specs.Prelude.{◌≡◌, ◌⊎◌, ℕ, suc, ◌≤◌, ◌<◌, Bool, true, false, if◌then◌else◌}
use Rattle.std.specs.Prelude.{List, [], ◌∷◌, length, take, slice_index, slice_index_or}
use Rattle.std.specs.List.{list_all}
use Rattle.lists.specs.Each.{Each}
use Rattle.level_core.specs.declared.letter.Letter.{Letter}
use Rattle.level_core.specs.declared.letter.Letter.TheVariants.{Dense}
use Rattle.level_core.specs.Kinds.{properties, capabilities}
use Rattle.level_rows.specs.Tables.{Increase}
use Rattle.tensor_map.specs.Entries.{Entry}
use Rattle.tensor_storage.specs.Arranged.{no_entry}
use Rattle.level_appends.proofs.Keys.{KeyBefore}

-- the kind of the level that stands below d others
abbrev pub letter_at : List Letter → ℕ → Letter
letter_at letters d = slice_index_or letters d Dense

-- the last of the first `head` levels isn't full, and all below it are
pub record IsHead (letters : List Letter) (head : ℕ) : Type 0 where
  pub within : head ≤ length letters
  pub some : 0 < head
  pub last : (d : ℕ) → suc d ≡ head → (properties (letter_at letters d)).full ≡ false
  pub tail : (d : ℕ) → head ≤ d → d < length letters → (properties (letter_at letters d)).full ≡ true

abbrev pub is_full : Letter → Bool
is_full letter = (properties letter).full

-- how many levels there are, from the top, through the last that isn't full: none where all are
abbrev pub head_length : List Letter → ℕ
head_length [] = 0
head_length (letter ∷ letters) = if list_all is_full (letter ∷ letters) then 0 else suc (head_length letters)

-- every level that isn't full is appended to
abbrev pub AreAppended : List Letter → Type 0
AreAppended letters = (d : ℕ) → d < length letters → (properties (letter_at letters d)).full ≡ false
    → (capabilities (letter_at letters d)).append ≡ true

-- the coordinate at level d of the head numbered j
abbrev pub key_in : List (List ℕ) → ℕ → ℕ → ℕ
key_in heads d j = slice_index (slice_index_or heads j []) d

abbrev pub row_at : List Entry → ℕ → Entry
row_at rows i = slice_index_or rows i no_entry

-- the heads of rows, each once and in increasing order; the last row's is the last of them
pub record AreHeads (head : ℕ) (rows : List Entry) (heads : List (List ℕ)) : Type 0 where
  pub rise : Increase (key_in heads) head (length heads)
  pub long : Each (λ key. length key ≡ head) heads
  pub each : (i : ℕ) → i < length rows → (j : ℕ) × (j < length heads) × (take head (row_at rows i).coords ≡ slice_index_or heads j [])
  pub some : (j : ℕ) → j < length heads → (i : ℕ) × (i < length rows) × (take head (row_at rows i).coords ≡ slice_index_or heads j [])
  pub last : (i j : ℕ) → length rows ≡ suc i → length heads ≡ suc j → take head (row_at rows i).coords ≡ slice_index_or heads j []

-- the row's head isn't before that of the last row
abbrev pub Follows : ℕ → List Entry → Entry → Type 0
Follows head rows row = (i : ℕ) → length rows ≡ suc i
    → (take head (row_at rows i).coords ≡ take head row.coords)
    ⊎ KeyBefore head (slice_index (row_at rows i).coords) (slice_index row.coords)
