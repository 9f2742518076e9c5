use Rattle.std.specs.Prelude.{◌<◌, ◌^◌, [], take}
use Rattle.std.proofs.Common.{◌∙◌, ap, subst, arith}
use Rattle.numbers.specs.Ring.{ring}
use Rattle.numbers.specs.RingLaws.{ring_laws}
use Rattle.numbers.specs.Sums.{total_of}
use Rattle.tensor_map.specs.Entries.{Entry}
use Rattle.generated_runs.proofs.Totals.{values_of, total_more}
use Rattle.generated_runs.proofs.telling.sum_of.Goals as goal

-- what stands where there is no entry
nothing : Entry
nothing = record { coords = []; value = 0 }

pub loop-i-preserved : goal.loop-i-preserved
loop-i-preserved c =
    let entries = c.args.entries.now.list in
    let fits = subst (λ v. v < 2 ^ 64) (c.value.ensures nothing) c.value.type_inv in
    c.add-sum.ensures ∙ ap (λ sum. ring.plus sum c.value.result) c.loop-i.invariant
    ∙ ap (ring.plus (total_of ring (values_of (take c.loop-i.i entries)))) (c.value.ensures nothing)
    ∙ total_more ring ring_laws entries c.loop-i.i nothing (omega arith) fits
