use Rattle.std.proofs.Common.{◌<◌, length, sym, ◌∙◌, arith}
use Rattle.tensor_map.proofs.Neighbours.{adds_same, adds_other, adds_here, adds_all}
use Rattle.tensor_map.proofs.sorted_rows.add_neighbours.Goals as goal
use Rattle.tensor_map.proofs.sorted_rows.add_neighbours.Goals.{then-are_equal, else-are_equal+then-last-next, else-are_equal+else-last-next}

pub loop-next-preserved : goal.loop-next-preserved
loop-next-preserved g c =
    let within : c.loop-next.next < length (g.R.Rows.entries c.args.rows.now) = omega
    (arith, c.loop-next-test.true, c.count-count.ensures) in
    elim c.if-are_equal.branch [
      | then-are_equal w ↦ rw (w.rows-is, w.last-is)
          (adds_same g.S.Semiring.arithmetic _ _ _ _ _ c.loop-next.invariant within (λ d. sym (c.are_equal.ensures d)
          ∙ w.if-are_equal.true) w.join.ensures)
      | else-are_equal+then-last-next w ↦ rw (w.rows-is, w.last-is)
          (adds_other g.S.Semiring.arithmetic _ _ _ _ _ c.loop-next.invariant within (λ d. sym (c.are_equal.ensures d)
          ∙ w.if-are_equal.false) w.exchange.ensures.len w.exchange.ensures.by_index)
      | else-are_equal+else-last-next w ↦ rw (w.rows-is, w.last-is)
          (adds_here g.S.Semiring.arithmetic _ _ _ _ c.loop-next.invariant within (λ d. sym (c.are_equal.ensures d)
          ∙ w.if-are_equal.false) (omega (arith, w.if-last-next.false)))
    ]

pub returns-clause-front : goal.returns-clause-front
returns-clause-front g c =
    adds_all g.S.Semiring.arithmetic _ _ _ _ c.loop-next.invariant (omega (arith, c.loop-next-test.false, c.count-count.ensures))
