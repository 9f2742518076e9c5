use Rattle.std.proofs.Common.{◌+◌, ◌<◌, ◌^◌, ℕ, List, [], arith, ap, length, subst, sym, ◌∙◌, slice_index_or}
use Rattle.tensor_map.specs.Entries.{Entry}
use Rattle.mtx_io.specs.Text.{AreSmall}
use Rattle.mtx_io.proofs.printing.put_if_nonzero.Goals as goal

pub overflow_add-row : goal.overflow_add-row
overflow_add-row g c =
    let d : Entry = record { coords = []; value = 0 } in
    let small = subst (λ (coords : List ℕ). AreSmall coords) (sym (c.as_slice-numbers.ensures.value ∙ c.coords-coords.ensures.value d))
    (c.requires.small c.args.i d c.requires.index) in
    let h : slice_index_or c.as_slice-numbers.result.now 0 0 + 1 < 2 ^ 64 = small 0 0 (omega arith) in
    omega (arith, h)

pub overflow_add-column : goal.overflow_add-column
overflow_add-column g c =
    let d : Entry = record { coords = []; value = 0 } in
    let small = subst (λ (coords : List ℕ). AreSmall coords) (sym (c.as_slice-numbers.ensures.value ∙ c.coords-coords.ensures.value d))
    (c.requires.small c.args.i d c.requires.index) in
    let h : slice_index_or c.as_slice-numbers.result.now 1 0 + 1 < 2 ^ 64 = small 1 0 (omega arith) in
    omega (arith, h)

pub overflow_add-row-in-len1-up : goal.overflow_add-row-in-len1-up
overflow_add-row-in-len1-up g c =
    let d : Entry = record { coords = []; value = 0 } in
    let small = subst (λ (coords : List ℕ). AreSmall coords) (sym (c.as_slice-numbers.ensures.value ∙ c.coords-coords.ensures.value d))
    (c.requires.small c.args.i d c.requires.index) in
    let h : slice_index_or c.as_slice-numbers.result.now 0 0 + 1 < 2 ^ 64 = small 0 0
    (omega (arith, ap length c.as_slice-numbers.ensures.value)) in
    omega (arith, h)
