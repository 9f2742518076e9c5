-- The rows of a scratch list that are entries, and that sorting them sorts the entries.
use Rattle.std.specs.Prelude.{◌≡◌, ℕ, nat_lt, if◌then◌else◌, true, false, List, [], ◌∷◌, ◌++◌, length, map, Some, slice_get, refl}
use Rattle.std.proofs.Common.{◌∙◌, ap}
use Rattle.kernel_code.specs.Rows.{ListRow, insert_by, list_rows, sorted_rows}
use Rattle.level_core.specs.declared.span.Entry.{Entry}
use Rattle.gathered_lists.specs.InOrder.{in_order}

-- the row behind those that are done
pub row_at : (f : Entry → ℕ) (done : List Entry) (e : Entry) (es : List Entry)
    → slice_get (map f (done ++ e ∷ es)) (length done) ≡ Some (f e)
row_at f [] e es = refl
row_at f (d ∷ done) e es = row_at f done e es

abbrev row : Entry → ListRow
row e = record { coordinate = e.coord; position = e.child.lo }

rows_are : (es : List Entry) → list_rows (map (λ e. e.coord) es) (map (λ e. e.child.lo) es) ≡ map row es
rows_are [] = refl
rows_are (e ∷ es) = ap (λ rows. row e ∷ rows) (rows_are es)

row_inserted : (r : Entry) (qs : List Entry)
    → insert_by (λ p q. nat_lt p.coordinate q.coordinate) (row r) (map row qs)
    ≡ map row (insert_by (λ d e. nat_lt d.coord e.coord) r qs)
row_inserted r [] = refl
row_inserted r (q ∷ qs) = elim (nat_lt q.coord r.coord) as
    (λ b. (if b then row q ∷ insert_by (λ p q. nat_lt p.coordinate q.coordinate) (row r) (map row qs) else row r ∷ (row q ∷ map row qs))
    ≡ map row (if b then q ∷ insert_by (λ d e. nat_lt d.coord e.coord) r qs else r ∷ (q ∷ qs)))
    [ true ↦ ap (λ rows. row q ∷ rows) (row_inserted r qs) | false ↦ refl ]

rows_sorted : (es : List Entry) → sorted_rows (map row es) ≡ map row (in_order es)
rows_sorted [] = refl
rows_sorted (e ∷ es) = ap (insert_by (λ p q. nat_lt p.coordinate q.coordinate) (row e)) (rows_sorted es) ∙ row_inserted e (in_order es)

sorted_are : (es : List Entry) → sorted_rows (list_rows (map (λ e. e.coord) es) (map (λ e. e.child.lo) es)) ≡ map row (in_order es)
sorted_are es = ap sorted_rows (rows_are es) ∙ rows_sorted es

coordinates_of : (es : List Entry) → map (λ r. r.coordinate) (map row es) ≡ map (λ e. e.coord) es
coordinates_of [] = refl
coordinates_of (e ∷ es) = ap (λ xs. e.coord ∷ xs) (coordinates_of es)

positions_of : (es : List Entry) → map (λ r. r.position) (map row es) ≡ map (λ e. e.child.lo) es
positions_of [] = refl
positions_of (e ∷ es) = ap (λ xs. e.child.lo ∷ xs) (positions_of es)

-- the columns of the sorted rows
pub sorted_coordinates : (es : List Entry)
    → map (λ r. r.coordinate) (sorted_rows (list_rows (map (λ e. e.coord) es) (map (λ e. e.child.lo) es)))
    ≡ map (λ e. e.coord) (in_order es)
sorted_coordinates es = ap (map (λ r. r.coordinate)) (sorted_are es) ∙ coordinates_of (in_order es)

pub sorted_positions : (es : List Entry)
    → map (λ r. r.position) (sorted_rows (list_rows (map (λ e. e.coord) es) (map (λ e. e.child.lo) es)))
    ≡ map (λ e. e.child.lo) (in_order es)
sorted_positions es = ap (map (λ r. r.position)) (sorted_are es) ∙ positions_of (in_order es)
