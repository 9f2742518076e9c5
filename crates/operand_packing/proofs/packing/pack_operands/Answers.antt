use Rattle.std.specs.Prelude.{◌+◌, ℕ, List, length, slice_index}
use Rattle.std.proofs.Common.{◌∙◌, sym, ap, subst}
use Rattle.std.proofs.lemmas.List.FromFn.{length-range_with_len}
use Rattle.operand_packing.specs.Drawn.{HaveOperands, drawn}
use Rattle.operand_packing.specs.Packed.{ArePackedOperands, MayAllBePacked, MayNotPack}
use Rattle.operand_packing.proofs.Drawing.{drawn_self, own_operands}
use Rattle.operand_packing.proofs.packing.pack_operands.Goals as goal

pub pack_drawn-requires-clause-many : goal.pack_drawn-requires-clause-many
pack_drawn-requires-clause-many g c =
    let many = length c.args.operands.now in
    let is = c.deref.ensures.value ∙ c.in_ok-origins.ensures in
    c.requires.many ∙ sym (ap (λ (ns : List ℕ). length ns + 1) is ∙ ap (λ n. n + 1) (length-range_with_len 1 many))

pub pack_drawn-requires-clause-known : goal.pack_drawn-requires-clause-known
pack_drawn-requires-clause-known g c =
    let is = c.deref.ensures.value ∙ c.in_ok-origins.ensures in
    subst (λ ns. HaveOperands ns c.args.operands.now) (sym is) (own_operands c.args.operands.now)

pub pack_drawn-requires-clause-may : goal.pack_drawn-requires-clause-may
pack_drawn-requires-clause-may g c =
    let is = c.deref.ensures.value ∙ c.in_ok-origins.ensures in
    subst (λ es. MayAllBePacked c.args.statement.now c.args.formats.now (slice_index c.args.ranges.now) es)
    (sym (ap (λ ns. drawn ns c.args.operands.now) is ∙ drawn_self c.args.operands.now)) c.requires.may

pub returns-in-Ok : goal.returns-in-Ok
returns-in-Ok g c =
    let is = c.deref.ensures.value ∙ c.in_ok-origins.ensures in
    subst (λ es. ArePackedOperands g.S.Semiring.arithmetic c.args.statement.now c.args.formats.now (slice_index c.args.ranges.now) es
    c.in-Ok.tensors.items) (ap (λ ns. drawn ns c.args.operands.now) is ∙ drawn_self c.args.operands.now) c.in-Ok.ensures

pub returns : goal.returns
returns g c =
    let is = c.deref.ensures.value ∙ c.in_ok-origins.ensures in
    subst (λ es. MayNotPack g.S.Semiring.arithmetic c.args.statement.now c.args.formats.now (slice_index c.args.ranges.now) es
    c.in-Err.fault) (ap (λ ns. drawn ns c.args.operands.now) is ∙ drawn_self c.args.operands.now) c.in-Err.ensures
