use Rattle.std.proofs.Common.{◌<◌, ◌≢◌, ◌∙◌, length, arith, refl, get_or}
use Rattle.tensor_map.specs.Entries.{Entry}
use Rattle.tensor_map.proofs.Kept.{keeps_not, keeps_here, keeps_moved, keeps_all, passes, fails}
use Rattle.tensor_map.proofs.entry_list.keep_nonzero.Goals as goal
use Rattle.tensor_map.proofs.entry_list.keep_nonzero.Goals.{then-value-zero, then-kept-next, else-kept-next, else-value-zero}

pub loop-next-init : goal.loop-next-init
loop-next-init g c = record {
  as_many = refl;
  keeps = record { long = refl; behind = omega arith; front = refl; rest = refl };
}

pub loop-next-preserved : goal.loop-next-preserved
loop-next-preserved g c =
    let within : c.loop-next.next < length c.args.columns.now.list = omega (arith, c.loop-next-test.true, c.len-next-end.ensures) in
    let other = λ (unequal : c.value.result ≢ c.zero.result) (d : Entry).
    passes g.S.Semiring.arithmetic (get_or c.loop-next.columns.list c.loop-next.next d) _ _ (c.value.ensures d) c.zero.ensures unequal in
    elim c.if-value-zero.branch [
      | then-value-zero w ↦ (elim w.if-kept-next.branch [
        | then-kept-next w' ↦ rw (w.columns-is, w.kept-is, w'.columns-is) (record {
          as_many = w'.overwrite.ensures.order ∙ c.loop-next.invariant.as_many;
          keeps = keeps_moved _ _ _ _ _ c.loop-next.invariant.keeps within _
              (other w.if-value-zero.true) w'.if-kept-next.true w'.overwrite.ensures.list;
        })
        | else-kept-next w' ↦ rw (w.columns-is, w.kept-is, w'.columns-is) (record {
          as_many = c.loop-next.invariant.as_many;
          keeps = keeps_here _ _ _ _ _ c.loop-next.invariant.keeps within
              (other w.if-value-zero.true) w'.if-kept-next.false;
        })
      ])
      | else-value-zero w ↦ rw (w.columns-is, w.kept-is) (record {
        as_many = c.loop-next.invariant.as_many;
        keeps = keeps_not _ _ _ _ _ c.loop-next.invariant.keeps within
            (λ d. fails g.S.Semiring.arithmetic (get_or c.loop-next.columns.list c.loop-next.next d) _ _ (c.value.ensures d)
            c.zero.ensures w.if-value-zero.false);
      })
    ]

pub returns-clause-kept : goal.returns-clause-kept
returns-clause-kept g c = c.truncate.ensures.list
    ∙ keeps_all _ _ _ _ c.loop-next.next c.loop-next.invariant.keeps (omega (arith, c.loop-next-test.false, c.len-next-end.ensures))
