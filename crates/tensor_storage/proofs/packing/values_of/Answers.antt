use Rattle.std.specs.Prelude.{◌≡◌}
use Rattle.std.proofs.Common.{◌∙◌, sym, arith}
use Rattle.tensor_storage.specs.Places.{places_in}
use Rattle.tensor_storage.proofs.Standing.{copied_stored}
use Rattle.tensor_storage.proofs.packing.values_of.Goals as goal

pub returns-in-Some-clause-stored : goal.returns-in-Some-clause-stored
returns-in-Some-clause-stored g c =
    let many : c.args.positions ≡ (g.T.RowTable.table c.args.table.now).count = sym c.if-count-positions.true ∙ c.count.ensures in
    copied_stored (g.T.RowTable.table c.args.table.now) (places_in c.args.places) c.args.positions g.S.Semiring.arithmetic.zero
    c.in-Some.lent.now c.in_ok-copied.copied many
    (λ i h. c.are_own.ensures c.if-are_own.true i (let long = c.requires.many in omega (arith, h, long))) c.in-Some.ensures
    c.in_ok-copied.ensures.same
