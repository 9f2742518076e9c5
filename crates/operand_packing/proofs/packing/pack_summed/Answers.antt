use Rattle.std.proofs.Common.{sym, subst}
use Rattle.format_spec.specs.Formats.{IsFormat}
use Rattle.tensor_storage.specs.Arranged.{AreInside, IsPackedFrom, IsRefusalOf}
use Rattle.operand_packing.specs.Packed.{AreSummed}
use Rattle.operand_packing.proofs.Inside.{inside_same}
use Rattle.operand_packing.proofs.packing.pack_summed.Goals as goal

pub pack-requires-clause-inside : goal.pack-requires-clause-inside
pack-requires-clause-inside g c =
    subst (λ ns. AreInside ns c.sum_up.new.entries.list) (sym c.shape_of-shape.ensures)
    (inside_same c.args.sizes.now c.args.entries.now.list c.sum_up.new.entries.list c.in_ok-sum_up.ensures.summed.listed
    c.requires.inside)

pub returns-in-Ok-clause-packed : goal.returns-in-Ok-clause-packed
returns-in-Ok-clause-packed g c =
    let a = g.S.Semiring.arithmetic in
    let summed = c.sum_up.new.entries.list in
    let packed = subst (λ f. IsPackedFrom a.zero f c.args.sizes.now summed c.in-Ok.packed) c.copied.ensures.value
    (subst (λ ns. IsPackedFrom a.zero c.copied.result ns summed c.in-Ok.packed) c.shape_of-shape.ensures c.in-Ok.ensures.packed) in
    record {
      is_format = subst IsFormat c.copied.ensures.value c.copied.ensures.format;
      long = c.requires.long;
      summed = c.sum_up.new.entries.list;
      are_summed = subst (λ n. AreSummed g.S.Semiring.arithmetic n c.args.entries.now.list c.sum_up.new.entries.list) c.requires.order
          c.in_ok-sum_up.ensures.summed;
      inside = inside_same c.args.sizes.now c.args.entries.now.list c.sum_up.new.entries.list c.in_ok-sum_up.ensures.summed.listed
          c.requires.inside;
      packed = packed;
      whole = c.in-Ok.ensures.whole;
      words = c.in-Ok.ensures.words;
    }

pub returns-clause-packed : goal.returns-clause-packed
returns-clause-packed g c =
    let summed = c.sum_up.new.entries.list in
    c.fault_of.ensures g.S.Semiring.arithmetic c.args.format.now c.args.sizes.now c.args.entries.now.list summed
    (subst (λ n. AreSummed g.S.Semiring.arithmetic n c.args.entries.now.list c.sum_up.new.entries.list) c.requires.order
    c.in_ok-sum_up.ensures.summed)
    (subst (λ f. IsRefusalOf f c.args.sizes.now summed c.in-Err.refusal) c.copied.ensures.value
    (subst (λ ns. IsRefusalOf c.copied.result ns summed c.in-Err.refusal) c.shape_of-shape.ensures c.in-Err.ensures.packed))

pub returns-in-Ok-clause-kept : goal.returns-in-Ok-clause-kept
returns-in-Ok-clause-kept g c = record {
  order = c.sum_up.ensures.order;
  values = c.in_ok-sum_up.ensures.summed.values;
  listed = c.in_ok-sum_up.ensures.summed.listed;
}
