use Rattle.std.specs.Prelude.{List, ℕ, ◌++◌}
use Rattle.text_lines.proofs.PutPieces.{refused, retold, then_printed}
use Rattle.level_core.specs.declared.arrays.LevelArray.TheVariants.{Dimension as OfSize, Ends as OfEnds}
use Rattle.level_core.specs.declared.arrays.LevelArray.TheVariants.{Coordinates as OfCoordinates, Width as OfWidth}
use Rattle.storage_text.specs.StoreText.{array_lines, text_of}
use Rattle.storage_text.proofs.Lines.{four_lines}
use Rattle.storage_text.proofs.levels.put_level.Goals as goal

pub returns-in_err-put_array : goal.returns-in_err-put_array
returns-in_err-put_array g c =
    let n : ℕ = c.args.number in
    let l = c.args.level.now in
    let size : List ℕ = text_of (array_lines n l OfSize) in
    let ends : List ℕ = text_of (array_lines n l OfEnds) in
    let width : List ℕ = text_of (array_lines n l OfWidth) in
    let coords : List ℕ = text_of (array_lines n l OfCoordinates) in
    retold _ _ _ _ _
    (four_lines (array_lines n l OfSize) (array_lines n l OfEnds) (array_lines n l OfWidth) (array_lines n l OfCoordinates))
    (refused c.from_residual.result c.in_err-put_array.field-0.0 _ _ size (ends ++ (width ++ coords)) c.from_residual.ensures.1
    c.in_err-put_array.ensures)

pub returns-in_err-put_array-2 : goal.returns-in_err-put_array-2
returns-in_err-put_array-2 g c =
    let n : ℕ = c.args.number in
    let l = c.args.level.now in
    let size : List ℕ = text_of (array_lines n l OfSize) in
    let ends : List ℕ = text_of (array_lines n l OfEnds) in
    let width : List ℕ = text_of (array_lines n l OfWidth) in
    let coords : List ℕ = text_of (array_lines n l OfCoordinates) in
    let r = c.from_residual-in_err-put_array-2 in
    retold _ _ _ _ _
    (four_lines (array_lines n l OfSize) (array_lines n l OfEnds) (array_lines n l OfWidth) (array_lines n l OfCoordinates))
    (then_printed _ _ _ _ size (ends ++ (width ++ coords)) c.in_ok-put_array.ensures
    (refused r.result c.in_err-put_array-2.field-0.0 _ _ ends (width ++ coords) r.ensures.1 c.in_err-put_array-2.ensures))

pub returns-in_err-put_array-3 : goal.returns-in_err-put_array-3
returns-in_err-put_array-3 g c =
    let n : ℕ = c.args.number in
    let l = c.args.level.now in
    let size : List ℕ = text_of (array_lines n l OfSize) in
    let ends : List ℕ = text_of (array_lines n l OfEnds) in
    let width : List ℕ = text_of (array_lines n l OfWidth) in
    let coords : List ℕ = text_of (array_lines n l OfCoordinates) in
    let r = c.from_residual-in_err-put_array-3 in
    retold _ _ _ _ _
    (four_lines (array_lines n l OfSize) (array_lines n l OfEnds) (array_lines n l OfWidth) (array_lines n l OfCoordinates))
    (then_printed _ _ _ _ size (ends ++ (width ++ coords)) c.in_ok-put_array.ensures
    (then_printed _ _ _ _ ends (width ++ coords) c.in_ok-put_array-2.ensures
    (refused r.result c.in_err-put_array-3.field-0.0 _ _ width coords r.ensures.1 c.in_err-put_array-3.ensures)))

pub returns : goal.returns
returns g c =
    let n : ℕ = c.args.number in
    let l = c.args.level.now in
    let size : List ℕ = text_of (array_lines n l OfSize) in
    let ends : List ℕ = text_of (array_lines n l OfEnds) in
    let width : List ℕ = text_of (array_lines n l OfWidth) in
    let coords : List ℕ = text_of (array_lines n l OfCoordinates) in
    retold _ _ _ _ _
    (four_lines (array_lines n l OfSize) (array_lines n l OfEnds) (array_lines n l OfWidth) (array_lines n l OfCoordinates))
    (then_printed _ _ _ _ size (ends ++ (width ++ coords)) c.in_ok-put_array.ensures
    (then_printed _ _ _ _ ends (width ++ coords) c.in_ok-put_array-2.ensures
    (then_printed _ _ _ _ width coords c.in_ok-put_array-3.ensures c.put_array-4.ensures)))
