-- A row comes: its head is the last one, or it is appended.
use Rattle.std.specs.Prelude.{◌≡◌, ◌⊎◌, ℕ, suc, ◌<◌, List, [], ◌∷◌, ◌++◌, length, slice_index, Some}
use Rattle.kernel_code.specs.Does.{Does}
use Rattle.kernel_code.specs.Keeps.{Leaves, no_turns}
use Rattle.kernel_code.specs.Meaning.{Setting, State}
use Rattle.kernel_code.specs.declared.syntax.Arr.{Arr}
use Rattle.kernel_code.specs.declared.syntax.Arr.TheVariants.{Values}
use Rattle.kernel_code.specs.declared.syntax.KStmt.{KStmt}
use Rattle.level_core.specs.declared.letter.Letter.{Letter}
use Rattle.level_core.specs.Fragments.{RefusedWithin}
use Rattle.level_appends.proofs.Keys.{SameKey, KeyBefore}
use Rattle.appended_results.specs.Heads.{key_in}
use Rattle.appended_results.specs.Levels.{IsMine, IsKept, MayHold, PassesPlace}
use Rattle.appended_results.specs.Rows.{HoldsHeads, all_positions, HasHead}

-- the head is below the ranges, and the last one or behind it
pub record ComesNext (sizes : List ℕ) (head : ℕ) (heads : List (List ℕ)) (key : List ℕ) : Type 0 where
  pub below : (d : ℕ) → d < head → slice_index key d < slice_index sizes d
  pub follows : (j : ℕ) → length heads ≡ suc j
      → SameKey head (λ d. key_in heads d j) (slice_index key) ⊎ KeyBefore head (λ d. key_in heads d j) (slice_index key)

-- nothing has changed, and the head is the last one
pub record IsOpen (letters : List Letter) (sizes : List ℕ) (head base free : ℕ) (heads : List (List ℕ)) (key values : List ℕ)
    (s t : State) : Type 0 where
  pub holds : HoldsHeads letters sizes head base heads t
  pub values_are : t.arrays (Values 0) ≡ Some values
  pub last : ℕ
  pub is_last : length heads ≡ suc last
  pub same : SameKey head (λ d. key_in heads d last) (slice_index key)
  pub leaves : Leaves (IsMine base (length letters)) IsKept free no_turns s t

-- or the head has been appended
pub record Opens (letters : List Letter) (sizes : List ℕ) (head base free nothing : ℕ) (heads : List (List ℕ)) (key values : List ℕ)
    (s t : State) : Type 0 where
  pub may : MayHold letters sizes head (heads ++ key ∷ [])
  pub has : HasHead letters sizes head base free nothing heads key values s t

-- a growth is refused only where the head isn't the last one
pub record RefusesHead (letters : List Letter) (sizes : List ℕ) (head : ℕ) (heads : List (List ℕ)) (key : List ℕ) (a : Arr) (count : ℕ)
    : Type 0 where
  pub may : MayHold letters sizes head (heads ++ key ∷ [])
  pub level : ℕ
  pub inside : level < length letters
  pub passes : PassesPlace letters sizes (heads ++ key ∷ []) level a count

-- the code appends the head of a row, whose coordinates stand in variables, unless it is the last one
abbrev pub OpensHead : List Letter → ℕ → ℕ → ℕ → ℕ → List ℕ → List KStmt → Type 0
OpensHead letters head base free nothing keys code =
    (c : Setting) (sizes : List ℕ) (heads : List (List ℕ)) (key : List ℕ) → MayHold letters sizes head heads
    → ComesNext sizes head heads key
    → (s : State) → HoldsHeads letters sizes head base heads s → (values : List ℕ) → s.arrays (Values 0) ≡ Some values
    → length values ≡ all_positions letters sizes heads
    → ((e : ℕ) → e < head → s.vars (slice_index keys e) ≡ Some (slice_index key e))
    → Does c code s
    (λ t. IsOpen letters sizes head base free heads key values s t ⊎ Opens letters sizes head base free nothing heads key values s t)
    (RefusedWithin no_turns s (RefusesHead letters sizes head heads key))
