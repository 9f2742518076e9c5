use Rattle.std.specs.Prelude.{◌≡◌, ℕ, suc, ◌+◌, ◌-◌, ◌<◌, ◌∷◌, ◌++◌, List, [], true, false, map, refl}
use Rattle.std.specs.List.{range_with_len}
use Rattle.std.proofs.Common.{◌∙◌, sym, ap, arith}
use Rattle.std.proofs.lemmas.List.FromFn.{map-range_with_len_more}
use Rattle.level_rows.specs.Rows.{begun, place}
use Rattle.level_rows.specs.Runs.{begins_run}
use Rattle.level_rows.proofs.RowLaws.{begun_some}
use Rattle.level_rows.proofs.RunNumbers.{few_begun, one_begun, none_begun}
use Rattle.tensor_storage.proofs.places.numbers_of_runs.Goals as goal
use Rattle.tensor_storage.proofs.places.numbers_of_runs.Goals.{then-begins_run, else-begins_run}

-- one row more, which begins a run or doesn't
begins : (column : List ℕ) (row runs : ℕ) → begins_run column row ≡ true → runs ≡ begun (begins_run column) row
    → runs + 1 ≡ begun (begins_run column) (row + 1)
begins column row runs here is =
    let next : suc row ≡ row + 1 = omega arith in
    ap (λ n. n + 1) is ∙ sym (one_begun (begins_run column) row here) ∙ ap (begun (begins_run column)) next

goes_on : (column : List ℕ) (row runs : ℕ) → begins_run column row ≡ false → runs ≡ begun (begins_run column) row
    → runs ≡ begun (begins_run column) (row + 1)
goes_on column row runs here is =
    let next : suc row ≡ row + 1 = omega arith in
    is ∙ sym (none_begun (begins_run column) row here) ∙ ap (begun (begins_run column)) next

-- there is a run
some : (column : List ℕ) (row : ℕ) → 0 < begun (begins_run column) (row + 1)
some column row =
    begun_some (record { count = row; parent = λ i. 0; coord = λ i. 0; first = begins_run column }) (row + 1) refl (omega arith)

place_is : (column : List ℕ) (row runs : ℕ) → runs ≡ begun (begins_run column) (row + 1) → runs - 1 ≡ place (begins_run column) row
place_is column row runs is =
    let next : row + 1 ≡ suc row = omega arith in
    ap (λ n. n - 1) (is ∙ ap (begun (begins_run column)) next)

pub overflow_add-runs : goal.overflow_add-runs
overflow_add-runs c =
    let few = few_begun (begins_run c.args.column.now) c.loop-row.row in
    let is = c.loop-row.invariant.1 in
    let within = c.loop-row-test.true in
    omega (arith, few, is, within)

pub overflow_sub-runs : goal.overflow_sub-runs
overflow_sub-runs c =
    let column = c.args.column.now in
    let one = some column c.loop-row.row in
    elim c.if-begins_run.branch [
      | then-begins_run w ↦
          let is = w.runs-is ∙ begins column c.loop-row.row c.loop-row.runs (sym c.begins_run.ensures ∙ w.if-begins_run.true)
          c.loop-row.invariant.1 in
          omega (arith, is, one)
      | else-begins_run w ↦
          let is = w.runs-is ∙ goes_on column c.loop-row.row c.loop-row.runs (sym c.begins_run.ensures ∙ w.if-begins_run.false)
          c.loop-row.invariant.1 in
          omega (arith, is, one)
    ]

pub loop-row-preserved : goal.loop-row-preserved
loop-row-preserved c =
    let column = c.args.column.now in
    let items = c.in_ok-push.ensures.items in
    let more = map-range_with_len_more (place (begins_run column)) 0 c.loop-row.row c.loop-row.row (omega arith) in
    elim c.if-begins_run.branch [
      | then-begins_run w ↦
          let is = w.runs-is ∙ begins column c.loop-row.row c.loop-row.runs (sym c.begins_run.ensures ∙ w.if-begins_run.true)
          c.loop-row.invariant.1 in (
            items ∙ ap (λ ns. ns ++ (c.if-begins_run.runs - 1) ∷ []) c.loop-row.invariant.0
                ∙ ap (λ n. map (place (begins_run column)) (range_with_len 0 c.loop-row.row) ++ n ∷ [])
                (place_is column c.loop-row.row c.if-begins_run.runs is) ∙ sym more,
            is,
          )
      | else-begins_run w ↦
          let is = w.runs-is ∙ goes_on column c.loop-row.row c.loop-row.runs (sym c.begins_run.ensures ∙ w.if-begins_run.false)
          c.loop-row.invariant.1 in (
            items ∙ ap (λ ns. ns ++ (c.if-begins_run.runs - 1) ∷ []) c.loop-row.invariant.0
                ∙ ap (λ n. map (place (begins_run column)) (range_with_len 0 c.loop-row.row) ++ n ∷ [])
                (place_is column c.loop-row.row c.if-begins_run.runs is) ∙ sym more,
            is,
          )
    ]
