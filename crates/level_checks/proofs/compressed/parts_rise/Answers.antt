use Rattle.std.specs.Prelude.{◌+◌, drop}
use Rattle.std.proofs.Common.{◌∙◌, sym, ap, subst, arith}
use Rattle.std.proofs.lemmas.List.{drop_all, nil_from_length}
use Rattle.level_core.specs.Logs.{Rises, total}
use Rattle.compressed_level.specs.Compressed.{PartsRise}
use Rattle.level_checks.proofs.Loops.{never, same_self, yes, no}
use Rattle.level_checks.proofs.CompressedWords.{parts_next, total_next}
use Rattle.level_checks.proofs.compressed.parts_rise.Goals as goal

pub loop-count-init : goal.loop-count-init
loop-count-init c = (same_self, c.requires)

pub split_at-requires : goal.split_at-requires
split_at-requires c =
    let l = c.loop-count in
    let next = total_next c.args.counts.now l.count-index c.loop-count-test.true in
    let sum = l.invariant.1 in
    omega (arith, next, sum)

pub returns-then-not-rise : goal.returns-then-not-rise
returns-then-not-rise c =
    let l = c.loop-count in
    let next = parts_next c.args.unique c.args.counts.now l.count-index l.rest.now c.loop-count-test.true in
    no (λ p. never (sym c.if-not-rise.true
    ∙ c.rise.ensures.1 (subst (Rises c.args.unique 0) (sym c.split_at.ensures.front) (next.0 (l.invariant.0.1 p)).0)))

pub loop-count-preserved : goal.loop-count-preserved
loop-count-preserved c =
    let l = c.loop-count in
    let counts = c.args.counts.now in
    let next = parts_next c.args.unique counts l.count-index l.rest.now c.loop-count-test.true in
    let more = total_next counts l.count-index c.loop-count-test.true in
    let sum = l.invariant.1 in
    let long = c.split_at.ensures.back_len in
    let others = c.split_at.ensures.back in
    let front = subst (Rises c.args.unique 0) c.split_at.ensures.front (c.rise.ensures.0 c.if-not-rise.false) in (
      (
        λ rest. l.invariant.0.0 (next.1 (front, subst (PartsRise c.args.unique (drop (l.count-index + 1) counts)) others rest)),
        λ p. subst (PartsRise c.args.unique (drop (l.count-index + 1) counts)) (sym others) (next.0 (l.invariant.0.1 p)).1,
      ),
      omega (arith, more, sum, long),
    )

pub returns : goal.returns
returns c =
    let l = c.loop-count in
    let u = c.args.unique in
    let none = drop_all l.count-index c.args.counts.now c.loop-count-test.false in
    let empty = nil_from_length l.rest.now (sym l.invariant.1 ∙ ap total none) in
    yes (l.invariant.0.0 (subst (λ ns. PartsRise u ns l.rest.now) (sym none) (subst (Rises u 0) (sym empty) tt)))
