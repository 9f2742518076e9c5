use Rattle.std.specs.Prelude.{◌≡◌, ℕ, List, length, replicate, slice_index}
use Rattle.std.proofs.Common.{◌∙◌, ap, sym, subst, arith}
use Rattle.level_rows.specs.Values.{StoresValues}
use Rattle.tensor_storage.proofs.Standing.{written}
use Rattle.tensor_storage.proofs.packing.values_at.Goals as goal

pub returns-clause-stored : goal.returns-clause-stored
returns-clause-stored g c =
    let table = g.T.RowTable.table c.args.table.now in
    let kept : length c.store_rows.new.values ≡ length c.in_ok-values.values.items =
    omega (arith, ap length c.deref_mut.ensures.value, c.store_rows.ensures.stored.long) in
    let all : c.in_ok-values.values.len ≡ length c.in_ok-values.values.items =
    omega (arith, ap length c.deref_mut.ensures.value, c.deref_mut.ensures.len) in
    let values : c.from_vec.result ≡ c.store_rows.new.values = c.from_vec.ensures
    ∙ written c.in_ok-values.values.len c.store_rows.new.values c.in_ok-values.values.items kept all in
    let before : c.deref_mut.result.now ≡ replicate c.args.positions g.S.Semiring.arithmetic.zero =
    c.deref_mut.ensures.value ∙ c.in_ok-values.ensures ∙ ap (replicate c.args.positions) c.zero.ensures in
    subst (λ (vs : List ℕ). StoresValues table.count (slice_index c.args.places.now) table.values
    (replicate c.args.positions g.S.Semiring.arithmetic.zero) vs) (sym values)
    (subst (λ (vs : List ℕ). StoresValues table.count (slice_index c.args.places.now) table.values vs c.store_rows.new.values) before
    c.store_rows.ensures.stored)
