use Rattle.std.specs.Prelude.{length}
use Rattle.std.proofs.Common.{◌∙◌, sym, ap, subst}
use Rattle.format_spec.specs.Formats.{IsFormat}
use Rattle.level_rows.specs.Tables.{Increase}
use Rattle.tensor_storage.specs.Arranged.{table_of, AreInside}
use Rattle.tensor_storage.specs.Counts.{positions_of}
use Rattle.tensor_storage.specs.EntryOrders.{numbers_of, HasColumns}
use Rattle.tensor_storage.specs.Packed.{IsRefusal}
use Rattle.tensor_storage.specs.Stands.{IsPacked}
use Rattle.tensor_storage.specs.Storages.{IsStorage, storage_of, in_level_order}
use Rattle.tensor_storage.specs.Tables.{AreBelow}
use Rattle.tensor_storage.proofs.Arranging.{same_arranged, rows_below, refused}
use Rattle.tensor_storage.proofs.tensor.Tensor.pack.Goals as goal

pub pack_table-requires-clause-order : goal.pack_table-requires-clause-order
pack_table-requires-clause-order g c =
    let numbers = numbers_of (length c.args.entries.now.list) c.in-Ok.order in
    let a = same_arranged c.levels.result.now c.levels-2.result.now c.args.entries.now.list numbers
    (c.levels.ensures.value ∙ sym c.levels-2.ensures.value) c.in-Ok.ensures.arranged in
    subst (λ f. Increase (table_of c.levels-2.result.now c.args.entries.now.list numbers).coords (length f)
    (length numbers)) (c.levels-2.ensures.value ∙ sym c.levels-3.ensures.value) a.order

pub pack_table-requires-clause-below : goal.pack_table-requires-clause-below
pack_table-requires-clause-below g c =
    let numbers = numbers_of (length c.args.entries.now.list) c.in-Ok.order in
    let a = same_arranged c.levels.result.now c.levels-2.result.now c.args.entries.now.list numbers
    (c.levels.ensures.value ∙ sym c.levels-2.ensures.value) c.in-Ok.ensures.arranged in
    subst (λ f. AreBelow (table_of c.levels-2.result.now c.args.entries.now.list numbers)
    (in_level_order f c.ranges-2.result.now)) (c.levels-2.ensures.value ∙ sym c.levels-3.ensures.value)
    (rows_below c.levels-2.result.now c.args.entries.now.list numbers c.ranges-2.result.now
    (subst IsFormat (sym c.levels-2.ensures.value) c.levels-2.ensures.format)
    (ap length c.ranges-2.ensures.value ∙ c.requires.shape
    ∙ ap length (sym c.levels-2.ensures.value)) (subst (λ r. AreInside r c.args.entries.now.list) (sym c.ranges-2.ensures.value)
    c.requires.inside) a)

pub invariant_of-rows : goal.invariant_of-rows
invariant_of-rows g c = record {
  gathered = subst (λ f. HasColumns f c.args.entries.now.list c.in-Ok.order) (c.levels.ensures.value ∙ sym c.levels-2.ensures.value)
      c.in-Ok.ensures.columns;
}

pub invariant_of-result : goal.invariant_of-result
invariant_of-result g c = subst (λ f. IsStorage (storage_of f c.in-Ok-pack_table.packed.levels c.in-Ok-pack_table.packed.values))
    c.levels-3.ensures.value c.in-Ok-pack_table.ensures.packed.1

pub returns-clause-packed : goal.returns-clause-packed
returns-clause-packed g c =
    let numbers = numbers_of (length c.args.entries.now.list) c.in-Ok.order in
    record {
      numbers = numbers;
      arranged = same_arranged c.levels.result.now c.args.format c.args.entries.now.list numbers
          c.levels.ensures.value c.in-Ok.ensures.arranged;
      packed =
          subst (λ f. IsPacked g.S.Semiring.arithmetic.zero c.args.format c.args.shape.now
          (table_of f c.args.entries.now.list numbers) (storage_of c.args.format c.in-Ok-pack_table.packed.levels
          c.in-Ok-pack_table.packed.values)) c.levels-2.ensures.value
          (subst (λ r. IsPacked g.S.Semiring.arithmetic.zero c.args.format r
          (table_of c.levels-2.result.now c.args.entries.now.list numbers) (storage_of c.args.format
          c.in-Ok-pack_table.packed.levels c.in-Ok-pack_table.packed.values)) c.ranges-2.ensures.value
          (subst (λ f. IsPacked g.S.Semiring.arithmetic.zero f c.ranges-2.result.now
          (table_of c.levels-2.result.now c.args.entries.now.list numbers) (storage_of f c.in-Ok-pack_table.packed.levels
          c.in-Ok-pack_table.packed.values)) c.levels-3.ensures.value c.in-Ok-pack_table.ensures.packed.0));
    }

pub returns-in-Err-clause-packed : goal.returns-in-Err-clause-packed
returns-in-Err-clause-packed g c =
    let numbers = numbers_of (length c.args.entries.now.list) c.in-Ok.order in
    refused c.args.format c.args.shape.now c.args.entries.now.list numbers c.in-Err.refusal
    (same_arranged c.levels.result.now c.args.format c.args.entries.now.list numbers
    c.levels.ensures.value
    c.in-Ok.ensures.arranged)
    (subst (λ f. IsRefusal (positions_of c.args.format c.args.shape.now (table_of f c.args.entries.now.list numbers))
    c.in-Err.refusal) c.levels-2.ensures.value
    (subst (λ r. IsRefusal (positions_of c.args.format r (table_of c.levels-2.result.now c.args.entries.now.list numbers))
    c.in-Err.refusal) c.ranges-2.ensures.value
    (subst (λ f. IsRefusal (positions_of f c.ranges-2.result.now
    (table_of c.levels-2.result.now c.args.entries.now.list
    numbers)) c.in-Err.refusal) c.levels-3.ensures.value c.in-Err.ensures.packed)))
