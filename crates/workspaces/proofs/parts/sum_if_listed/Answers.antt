use Rattle.std.specs.Prelude.{◌≡◌, ◌+◌, ◌<◌, nat_eq, length, take, slice_index_or}
use Rattle.std.specs.Cmp.Lexicographic.{pointwise}
use Rattle.std.proofs.Common.{◌∙◌, sym, ap, subst, arith}
use Rattle.tensor_map.specs.Entries.{Entry}
use Rattle.workspaces.proofs.Present.{TellsEntries, tells_more, tells_no_more}
use Rattle.workspaces.proofs.parts.sum_if_listed.Goals as goal
use Rattle.workspaces.proofs.parts.sum_if_listed.Goals.{then-eq, else-eq}

pub loop-i-preserved : goal.loop-i-preserved
loop-i-preserved g c =
    let a = g.S.Semiring.arithmetic in
    let laws = g.met.S.Semiring.laws in
    let coords = c.args.coords.now in
    let entries = c.args.entries.now.list in
    let below : c.loop-i.i < length entries = omega (arith, c.len-i-end.ensures.value) in
    let d : Entry = record { coords = coords; value = 0 } in
    let test : c.eq.result ≡ pointwise nat_eq (slice_index_or entries c.loop-i.i d).coords coords =
    c.eq.ensures ∙ ap (λ xs. pointwise nat_eq xs coords) (c.as_slice-in-loop-i.ensures.value ∙ c.coords.ensures.value d) in
    elim c.if-eq.branch [
      | then-eq w ↦ subst (TellsEntries a laws coords (take (c.loop-i.i + 1) entries)) (sym w.sum-is)
          (tells_more a laws coords entries c.loop-i.i d w.value.result c.loop-i.sum w.either-sum.result below (sym test ∙ w.if-eq.true)
          (w.value.ensures d) w.value.type_inv w.either-sum.ensures c.loop-i.invariant)
      | else-eq w ↦ subst (TellsEntries a laws coords (take (c.loop-i.i + 1) entries)) (sym w.sum-is)
          (tells_no_more a laws coords entries c.loop-i.i d c.loop-i.sum below (sym test ∙ w.if-eq.false) c.loop-i.invariant)
    ]
