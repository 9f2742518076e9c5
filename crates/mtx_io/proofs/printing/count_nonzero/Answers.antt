use Rattle.std.proofs.Common.{◌≢◌, ◌<◌, ◌∙◌, sym, ap, [], ◌+◌, arith, length}
use Rattle.tensor_map.specs.Entries.{Entry}
use Rattle.mtx_io.proofs.WrittenEntries.{count_more, count_same}
use Rattle.mtx_io.proofs.printing.count_nonzero.Goals.{then-value-zero, else-value-zero}
use Rattle.mtx_io.proofs.printing.count_nonzero.Goals as goal

pub loop-i-preserved : goal.loop-i-preserved
loop-i-preserved g c =
    let a = g.S.Semiring.arithmetic in
    let list = c.args.entries.now.list in
    let i = c.loop-i.i in
    let d : Entry = record { coords = []; value = 0 } in
    let is = c.value.ensures d in
    let within : i < length list = omega (arith, c.loop-i-test.true, c.len-i-end.ensures.value) in
    elim c.if-value-zero.branch [
      | then-value-zero w ↦
          let some : c.value.result ≢ a.zero = λ e. w.if-value-zero.true (e ∙ sym c.zero.ensures) in
          let more = count_more a list i d c.value.result is within some in
          record { counted = w.count-is ∙ ap (λ n. n + 1) c.loop-i.invariant.counted ∙ sym more; within = omega arith }
      | else-value-zero w ↦
          let same = count_same a list i d c.value.result is within (w.if-value-zero.false ∙ c.zero.ensures) in
          record { counted = w.count-is ∙ c.loop-i.invariant.counted ∙ sym same; within = omega arith }
    ]
