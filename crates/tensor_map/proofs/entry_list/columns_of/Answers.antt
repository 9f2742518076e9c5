use Rattle.std.proofs.Common.{◌≡◌, ◌∙◌, sym, ap, length, arith, ◌∷◌, ◌++◌, [], take, get_or}
use Rattle.std.proofs.Common.{rules}
use Rattle.std.proofs.lemmas.List.{take_more}
use Rattle.tensor_map.specs.Entries.{Entry}
use Rattle.tensor_map.proofs.entry_list.columns_of.Goals as goal

-- read only past the end of a list
blank : Entry
blank = record { coords = []; value = 0 }

pub push-requires-clause-long : goal.push-requires-clause-long
push-requires-clause-long g c =
    ap length c.as_slice-in-loop-i.ensures.value
    ∙ ap length (c.coords_at-coords.ensures blank)
    ∙ c.requires.long c.loop-i.i blank (omega (arith, c.loop-i-test.true, c.count-i-end.ensures))
    ∙ sym c.loop-i.invariant.as_many

pub loop-i-preserved : goal.loop-i-preserved
loop-i-preserved g c =
    let entry : Entry = record { coords = c.as_slice-in-loop-i.result.now; value = c.value_at.result } in
    let pushed : c.push.new.self.list ≡ c.loop-i.columns.list ++ entry ∷ [] = search rules in
    let is : entry ≡ get_or (g.R.Rows.entries c.args.rows.now) c.loop-i.i entry =
    λ j. record {
      coords = (c.as_slice-in-loop-i.ensures.value ∙ c.coords_at-coords.ensures entry) j;
      value = c.value_at.ensures entry j;
    } in
    record {
      as_many = c.push.ensures.order ∙ c.loop-i.invariant.as_many;
      so_far = pushed
          ∙ ap (λ es. es ++ entry ∷ []) c.loop-i.invariant.so_far
          ∙ ap (λ e. take c.loop-i.i (g.R.Rows.entries c.args.rows.now) ++ e ∷ []) is
          ∙ sym (take_more (g.R.Rows.entries c.args.rows.now) c.loop-i.i entry (omega (arith, c.loop-i-test.true, c.count-i-end.ensures)));
    }
