use Rattle.std.proofs.Common.{◌≡◌, ◌∙◌, Some, sym, ap, arith}
use Rattle.std.specs.Prelude.{map}
use Rattle.kernel_code.specs.declared.syntax.Arr.TheVariants.{ListCoordinates, ListPositions}
use Rattle.kernel_code.specs.Rows.{ListRow, list_rows, sorted_rows}
use Rattle.kernel_code.specs.Meaning.{State, set_array}
use Rattle.kernel_code.proofs.SortLemmas.{sort_done}
use Rattle.machine_parts.specs.declared.rows.ScratchRow.{ScratchRow}
use Rattle.machine_parts.specs.Rows.{as_row}
use Rattle.machine_parts.proofs.RowLemmas.{coordinates_as_rows, positions_as_rows}
use Rattle.kernel_interpreter.specs.Store.{state_of}
use Rattle.kernel_interpreter.proofs.machine.Machine.sort.Goals as goal

pub returns-clause-is : goal.returns-clause-is
returns-clause-is c =
    let s = state_of c.args.self.now in
    let g = c.args.list in
    let cs = c.in-Some.coordinates.now in
    let ps = c.in-Some-array.positions.now in
    let rows = c.sort_rows.new.rows.items in
    let sorted : map as_row rows ≡ sorted_rows (list_rows cs ps) = c.in_ok-sort_rows.ensures ∙ ap sorted_rows c.in_ok-rows.ensures in
    let x = c.in_ok-coordinates.coordinates.items in
    let y = c.in_ok-positions.positions.items in
    let first : x ≡ map (λ (r : ListRow). r.coordinate) (sorted_rows (list_rows cs ps)) = c.in_ok-coordinates.ensures
    ∙ ap (map (λ (r : ScratchRow). r.coordinate)) c.as_slice.ensures.value ∙ coordinates_as_rows rows
    ∙ ap (map (λ (r : ListRow). r.coordinate)) sorted in
    let second : y ≡ map (λ (r : ListRow). r.position) (sorted_rows (list_rows cs ps)) = c.in_ok-positions.ensures
    ∙ ap (map (λ (r : ScratchRow). r.position)) c.as_slice-2.ensures.value ∙ positions_as_rows rows
    ∙ ap (map (λ (r : ListRow). r.position)) sorted in
    let one : state_of c.replace.new.self ≡ set_array s (ListCoordinates g) x = c.replace.ensures.is cs (sym c.in-Some.ensures) in
    let there : (state_of c.replace.new.self).arrays (ListPositions g) ≡ Some ps =
    ap (λ (t : State). t.arrays (ListPositions g)) one ∙ sym c.in-Some-array.ensures in
    sort_done s (state_of c.replace-2.new.self) g cs ps _ _ (sym c.in-Some.ensures) (sym c.in-Some-array.ensures) (omega arith)
    (c.replace-2.ensures.is ps there
    ∙ ap (λ (t : State). set_array t (ListPositions g) y) one
    ∙ ap (λ xs. set_array (set_array s (ListCoordinates g) xs) (ListPositions g) y) first
    ∙ ap (set_array (set_array s (ListCoordinates g) (map (λ (r : ListRow). r.coordinate) (sorted_rows (list_rows cs ps))))
    (ListPositions g)) second)
