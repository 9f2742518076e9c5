-- Rows of a scratch list and of a workspace, in order.
use Rattle.std.specs.Prelude.{ℕ, ◌+◌, Bool, nat_lt, if◌then◌else◌, List, [], ◌∷◌, map, slice_index}
use Rattle.std.specs.declared.cmp.Ordering.{Ordering}
use Rattle.std.specs.Ordering.{nat_cmp, is_lt, is_eq}
use Rattle.std.specs.Cmp.Lexicographic.{slice_cmp}
use Rattle.numbers.specs.Arithmetic.{Arithmetic}

-- an element among sorted ones: before the first that isn't before it
abbrev pub insert_by : {X : Type 0} → (X → X → Bool) → X → List X → List X
insert_by before r [] = r ∷ []
insert_by before r (q ∷ qs) = if before q r then q ∷ insert_by before r qs else r ∷ (q ∷ qs)

-- the elements in order; those of which none is before the other stay as they stood
abbrev pub sorted_by : {X : Type 0} → (X → X → Bool) → List X → List X
sorted_by before [] = []
sorted_by before (r ∷ rs) = insert_by before r (sorted_by before rs)

-- a row of a scratch list
pub record ListRow : Type 0 where
  pub coordinate : ℕ
  pub position : ℕ

-- the rows of a scratch list
abbrev pub list_rows : List ℕ → List ℕ → List ListRow
list_rows [] positions = []
list_rows (c ∷ cs) [] = []
list_rows (c ∷ cs) (p ∷ ps) = record { coordinate = c; position = p } ∷ list_rows cs ps

-- rows sorted by coordinate
abbrev pub sorted_rows : List ListRow → List ListRow
sorted_rows rows = sorted_by (λ q r. nat_lt q.coordinate r.coordinate) rows

-- a row of a workspace
pub record Row : Type 0 where
  pub keys : List ℕ
  pub value : ℕ

-- key lists in the order of a dictionary
abbrev pub compare_keys : List ℕ → List ℕ → Ordering
compare_keys ks ls = slice_cmp nat_cmp ks ls

abbrev pub row_before : Row → Row → Bool
row_before q r = is_lt (compare_keys q.keys r.keys)

-- a row ahead of others, or its value added to that of the first where their keys are equal
abbrev pub join_row : Arithmetic → Row → List Row → List Row
join_row arithmetic r [] = r ∷ []
join_row arithmetic r (q ∷ qs) =
    if is_eq (compare_keys r.keys q.keys) then record { keys = q.keys; value = arithmetic.plus r.value q.value } ∷ qs else r ∷ (q ∷ qs)

-- neighbours with equal keys as one row with the sum of their values
abbrev pub joined_rows : Arithmetic → List Row → List Row
joined_rows arithmetic [] = []
joined_rows arithmetic (r ∷ rs) = join_row arithmetic r (joined_rows arithmetic rs)

-- rows sorted by their keys, each key list once with the sum of its values
abbrev pub summed_rows : Arithmetic → List Row → List Row
summed_rows arithmetic rows = joined_rows arithmetic (sorted_by row_before rows)

-- the keys at place i of columns
abbrev pub keys_at : List (List ℕ) → ℕ → List ℕ
keys_at columns i = map (λ column. slice_index column i) columns

-- the rows from place i on that columns of keys and a column of values make
abbrev pub rows_from : List (List ℕ) → ℕ → List ℕ → List Row
rows_from columns i [] = []
rows_from columns i (v ∷ vs) = record { keys = keys_at columns i; value = v } ∷ rows_from columns (i + 1) vs

-- column k of rows
abbrev pub column_of : ℕ → List Row → List ℕ
column_of k rows = map (λ r. slice_index r.keys k) rows
