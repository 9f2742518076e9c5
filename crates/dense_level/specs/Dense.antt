-- What a dense level of size n holds.
use Rattle.std.specs.Prelude.{◌≡◌, ℕ, zero, suc, ◌+◌, ◌*◌, ◌≤◌, List, [], ◌∷◌, Option, Some, None}
use Rattle.limits.specs.Limits.{greatest_position_count}
use Rattle.kernel_code.specs.declared.syntax.Arr.TheVariants.{Dimension}
use Rattle.level_core.specs.declared.span.Span.{Span}
use Rattle.level_core.specs.declared.span.Entry.{Entry}
use Rattle.level_core.specs.declared.letter.Letter.TheVariants.{Dense}
use Rattle.level_core.specs.declared.arrays.LevelArray.{LevelArray}
use Rattle.level_core.specs.declared.arrays.LevelArray.TheVariants.{Dimension as OfSize}
use Rattle.level_core.specs.Entries.{span, one}
use Rattle.level_core.specs.Logs.{nothing_appended}
use Rattle.level_core.specs.Meaning.{Arrays, Meaning}

-- the range is within the limit
abbrev pub KeepsRules : ℕ → Type 0
KeepsRules n = n ≤ greatest_position_count

-- one word is stored, the size
abbrev pub Holds : ℕ → ℕ → ℕ → Arrays → Type 0
Holds n tensor level arrays = arrays (Dimension tensor level) ≡ Some (n ∷ [])

-- the words of its array
abbrev pub words_of : ℕ → LevelArray → Option (List ℕ)
words_of n OfSize = Some (n ∷ [])
words_of n _ = None

-- so many parents, whose positions are within the limit
pub record HasParents (n parents : ℕ) : Type 0 where
  pub size : n ≤ greatest_position_count
  pub positions : parents * n ≤ greatest_position_count

-- one parent, whose positions are within the limit
pub record IsAllowed (n : ℕ) (parent : Span) : Type 0 where
  pub size : n ≤ greatest_position_count
  pub one_parent : parent.hi ≡ parent.lo + 1
  pub positions : parent.hi * n ≤ greatest_position_count

-- each parent has n positions
abbrev pub segment_of : ℕ → Span → Span
segment_of n parent = span (parent.lo * n) (parent.hi * n)

-- so many coordinates in a row, from x on, at positions from pos on
abbrev pub entries_from : ℕ → ℕ → ℕ → List Entry
entries_from zero x pos = []
entries_from (suc count) x pos = record { coord = x; child = one pos } ∷ entries_from count (x + 1) (pos + 1)

abbrev pub entries_of : ℕ → Span → List Entry
entries_of n parent = entries_from n 0 (parent.lo * n)

-- nothing is to be prepared
abbrev pub Prepared : ℕ → ℕ → ℕ → ℕ → Type 0
Prepared n parents most m = m ≡ n

-- each coordinate is there already, at its place
abbrev pub Inserted : ℕ → ℕ → ℕ → ℕ → ℕ → Type 0
Inserted n parent x slot m = (m ≡ n) × (slot ≡ parent * n + x)

abbrev pub meaning : Meaning ℕ
meaning = record {
  kind = λ n. Dense;
  keeps = KeepsRules;
  size = λ n. n;
  width = λ n. None;
  holds = Holds;
  words = words_of;
  has_parents = HasParents;
  positions = λ n parents. parents * n;
  allowed = IsAllowed;
  segment_of = segment_of;
  entries = entries_of;
  log = λ n. nothing_appended;
  prepared = Prepared;
  inserted = Inserted;
}
