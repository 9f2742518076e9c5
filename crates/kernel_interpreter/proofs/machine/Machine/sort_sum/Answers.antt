use denote.Ref.{Bor}
use Rattle.std.proofs.Common.{◌≡◌, ◌∙◌, ℕ, List, length, Some, sym, ap, map, Vec, Global}
use Rattle.std.specs.Prelude.{slice_get, option_map}
use Rattle.machine_parts.specs.declared.sums.PlacedRow.{PlacedRow}
use Rattle.kernel_code.specs.declared.syntax.Arr.TheVariants.{Sums}
use Rattle.kernel_code.specs.Rows.{Row, rows_from, summed_rows}
use Rattle.kernel_code.specs.Meaning.{State, key_columns, set_array, set_columns}
use Rattle.machine_parts.specs.Rows.{row_of}
use Rattle.machine_parts.proofs.SumLemmas.{read, sum_done, values_of_places}
use Rattle.kernel_interpreter.specs.Store.{state_of}
use Rattle.kernel_interpreter.proofs.ColumnLemmas.{sums_kept}
use Rattle.kernel_interpreter.proofs.machine.Machine.sort_sum.Goals as goal

pub returns-clause-is : goal.returns-clause-is
returns-clause-is g c =
    let s = state_of c.args.self.now in
    let w = c.args.workspace in
    let keys = c.in-Some.keys in
    let vs = c.in-Some-array.values.now in
    let columns = read c.in-Some-2.columns.items in
    let ps = c.in_ok-rows.rows.items in
    let rows = summed_rows g.S.Semiring.arithmetic (rows_from columns 0 vs) in
    let number : slice_get c.args.workspaces.now w ≡ Some keys = sym c.in-Some.ensures in
    let found : key_columns s w (length vs) keys ≡ Some columns = sym c.in_ok-columns.ensures
    ∙ ap (option_map (λ (cs : Vec (Bor (List ℕ)) Global). read cs.items)) c.in-Some-2.is in
    let summed : map (row_of columns) ps ≡ rows =
    ap (λ (cs : List (Bor (List ℕ))). map (row_of (read cs)) ps) (sym c.as_slice.ensures.value) ∙ c.in_ok-rows.ensures
    ∙ ap (λ (cs : List (Bor (List ℕ))). summed_rows g.S.Semiring.arithmetic (rows_from (read cs) 0 vs)) c.as_slice.ensures.value in
    let sums : c.in_ok-sums.sums.items ≡ map (λ (r : Row). r.value) rows =
    c.in_ok-sums.ensures ∙ ap (map (λ (p : PlacedRow). p.value)) c.as_slice-2.ensures.value ∙ values_of_places columns ps
    ∙ ap (map (λ (r : Row). r.value)) summed in
    let picked : state_of c.pick_columns.new.self ≡ set_columns s w rows keys =
    c.in_ok-pick_columns.ensures.is columns (length vs) found
    ∙ ap (λ (ps : List PlacedRow). set_columns s w (map (row_of columns) ps) keys) c.as_slice-3.ensures.value
    ∙ ap (λ (rs : List Row). set_columns s w rs keys) summed in
    let there : (state_of c.pick_columns.new.self).arrays (Sums w) ≡ Some vs =
    ap (λ (t : State). t.arrays (Sums w)) picked ∙ sums_kept s w rows keys ∙ sym c.in-Some-array.ensures in
    sum_done g.S.Semiring.arithmetic s (state_of c.replace.new.self) w keys vs columns _ _ number (sym c.in-Some-array.ensures) found
    (c.replace.ensures.is vs there ∙ ap (λ (t : State). set_array t (Sums w) c.in_ok-sums.sums.items) picked
    ∙ ap (set_array (set_columns s w rows keys) (Sums w)) sums)
