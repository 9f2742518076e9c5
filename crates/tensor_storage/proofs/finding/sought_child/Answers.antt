use Rattle.std.specs.Prelude.{◌≡◌, Some}
use Rattle.std.proofs.Common.{◌∙◌, sym, subst, arith}
use Rattle.level_core.specs.Entries.{IsIn, coord_at}
use Rattle.tensor_storage.proofs.Children.{Met, Passed, seek_past, seek_meets, seek_found, seek_passes, seek_ends}
use Rattle.tensor_storage.proofs.finding.sought_child.Given as given
use Rattle.tensor_storage.proofs.finding.sought_child.Goals as goal

-- the position is in the segment
is_in : (g : given.Over) (c : goal.In-loop-position g)
    → IsIn c.loop-position.position (g.L.LevelKind.meaning.segment_of c.args.level.now c.args.parent)
is_in g c = subst (IsIn c.loop-position.position) c.segment-segment.ensures (c.loop-position.invariant.0, c.loop-position-test.true)

pub coord-requires : goal.coord-requires
coord-requires g c = let i = is_in g c in (c.args.parent, c.requires, (i.0, i.1))

pub loop-position-preserved-in-None : goal.loop-position-preserved-in-None
loop-position-preserved-in-None g c =
    let from = c.loop-position.invariant.0 in
    let i = subst (IsIn c.loop-position.position) c.segment-segment.ensures (c.loop-position.invariant.0, c.loop-position-test.true) in (
      omega (arith, from),
      seek_past c.args.x c.loop-position.position c.segment-segment.result.hi (g.L.LevelKind.meaning.entries c.args.level.now c.args.parent)
          c.loop-position-test.true c.loop-position.invariant.1
          (sym (c.coord.ensures c.args.parent c.requires i) ∙ c.in-None.is),
    )

here : (g : given.Over) (c : goal.In-Some g) → coord_at (g.L.LevelKind.meaning.entries c.args.level.now c.args.parent)
    c.loop-position.position ≡ Some c.in-Some.coord
here g c =
    let i = subst (IsIn c.loop-position.position) c.segment-segment.ensures (c.loop-position.invariant.0, c.loop-position-test.true) in
    sym (c.coord.ensures c.args.parent c.requires i) ∙ c.in-Some.is

meets : (g : given.Over) (c : goal.In-Some g) → Met c.args.x c.in-Some.coord c.loop-position.position c.segment-segment.result.hi
    (g.L.LevelKind.meaning.entries c.args.level.now c.args.parent)
meets g c = seek_meets c.args.x c.in-Some.coord c.loop-position.position c.segment-segment.result.hi
    (g.L.LevelKind.meaning.entries c.args.level.now c.args.parent) c.loop-position.invariant.1 (here g c)

pub child-child-requires : goal.child-child-requires
child-child-requires g c = let m = meets g c in (c.args.parent, m.entry, c.requires, sym c.segment-segment.ensures, m.stands)

pub returns-then-coord-x : goal.returns-then-coord-x
returns-then-coord-x g c =
    let i = subst (IsIn c.loop-position.position) c.segment-segment.ensures (c.loop-position.invariant.0, c.loop-position-test.true) in
    seek_found c.args.x c.in-Some.coord c.loop-position.position c.segment-segment.result.hi
    (g.L.LevelKind.meaning.entries c.args.level.now c.args.parent) c.child-child.result c.loop-position.invariant.1
    (sym (c.coord.ensures c.args.parent c.requires i) ∙ c.in-Some.is) c.if-coord-x.true
    (λ e stands. c.child-child.ensures c.args.parent e c.requires (sym c.segment-segment.ensures) stands)

passed : (g : given.Over) (c : goal.Else-coord-x g)
    → Passed c.args.x c.loop-position.position c.segment-segment.result.hi c.child-child.result
    (g.L.LevelKind.meaning.entries c.args.level.now c.args.parent)
passed g c =
    let i = subst (IsIn c.loop-position.position) c.segment-segment.ensures (c.loop-position.invariant.0, c.loop-position-test.true) in
    seek_passes c.args.x c.in-Some.coord c.loop-position.position c.segment-segment.result.hi
    (g.L.LevelKind.meaning.entries c.args.level.now c.args.parent) c.child-child.result c.loop-position.invariant.1
    (sym (c.coord.ensures c.args.parent c.requires i) ∙ c.in-Some.is) c.if-coord-x.false
    (λ e stands. c.child-child.ensures c.args.parent e c.requires (sym c.segment-segment.ensures) stands)

pub loop-position-smaller : goal.loop-position-smaller
loop-position-smaller g c = let p = passed g c in let more = p.more in let within = p.within in omega (arith, more, within)

pub loop-position-preserved : goal.loop-position-preserved
loop-position-preserved g c = let p = passed g c in let more = p.more in let from = c.loop-position.invariant.0 in
    (omega (arith, more, from), p.seeks)

pub returns : goal.returns
returns g c = seek_ends c.args.x c.loop-position.position c.segment-segment.result.hi
    (g.L.LevelKind.meaning.entries c.args.level.now c.args.parent) c.loop-position-test.false c.loop-position.invariant.1
