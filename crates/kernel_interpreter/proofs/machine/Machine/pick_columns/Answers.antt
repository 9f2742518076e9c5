use Rattle.std.proofs.Common.{◌≡◌, ◌∙◌, ◌+◌, ℕ, List, [], suc, sym, ap, arith, map, unwrap_or, slice_index_or, Option, Some}
use Rattle.std.specs.Prelude.{slice_index}
use Rattle.machine_parts.specs.declared.sums.PlacedRow.{PlacedRow}
use Rattle.kernel_code.specs.declared.syntax.Arr.TheVariants.{Key}
use Rattle.kernel_code.specs.Rows.{column_of}
use Rattle.kernel_code.specs.Meaning.{State, set_array, set_columns}
use Rattle.machine_parts.specs.Rows.{row_of}
use Rattle.machine_parts.proofs.SumLemmas.{column_kept, column_is, column_at_places}
use Rattle.kernel_interpreter.specs.Store.{state_of}
use Rattle.kernel_interpreter.proofs.ColumnLemmas.{column_there}
use Rattle.kernel_interpreter.proofs.machine.Machine.pick_columns.Goals as goal

pub loop-k-preserved : goal.loop-k-preserved
loop-k-preserved c =
    let s = state_of c.args.self.now in
    let w = c.args.workspace in
    let k = c.loop-k.k in
    let ps = c.args.rows.now in
    let next : k + 1 ≡ suc k = omega arith in (
      λ columns count h.
          let rows = map (row_of columns) ps in
          let before = c.loop-k.invariant.0 columns count h in
          let column = column_there s w count c.args.keys columns k h (omega arith) in
          let there : (state_of c.loop-k.self).arrays (Key w k) ≡ Some column.0 =
          ap (λ (t : State). t.arrays (Key w k)) before ∙ column_kept s w rows k k (omega arith) ∙ column.1 in
          let words : c.words_of.result.now ≡ slice_index_or columns k [] =
          c.words_of.ensures ∙ ap (λ (t : State). unwrap_or (t.arrays (Key w k)) []) before
          ∙ ap (λ (o : Option (List ℕ)). unwrap_or o []) (column_kept s w rows k k (omega arith))
          ∙ column_is s w count c.args.keys columns k h (omega arith) in
          let picked : c.in_ok-column.column.items ≡ column_of k rows =
          c.in_ok-column.ensures ∙ ap (λ (xs : List ℕ). map (λ (p : PlacedRow). slice_index xs p.place) ps) words
          ∙ column_at_places columns k ps in
          c.replace.ensures.is column.0 there
          ∙ ap (λ (t : State). set_array t (Key w k) c.in_ok-column.column.items) before
          ∙ ap (set_array (set_columns s w rows k) (Key w k)) picked
          ∙ ap (set_columns s w rows) (sym next),
      c.replace.ensures.turns ∙ c.loop-k.invariant.1,
      c.replace.ensures.variables ∙ c.loop-k.invariant.2,
    )

pub returns-clause-is : goal.returns-clause-is
returns-clause-is c =
    let end : c.loop-k.k ≡ c.args.keys = omega arith in
    λ columns count h. c.loop-k.invariant.0 columns count h
    ∙ ap (set_columns (state_of c.args.self.now) c.args.workspace (map (row_of columns) c.args.rows.now)) end
