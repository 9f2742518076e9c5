use Rattle.std.proofs.Common.{◌∙◌, sym, subst, arith}
use Rattle.level_core.specs.Entries.{IsIn}
use Rattle.level_core.proofs.EntryLaws.{placed_within}
use Rattle.level_core.proofs.Walks.{Steps, Stepped, walk_stepped, walk_past, walk_steps, walk_ends}
use Rattle.level_core.proofs.walking.walk.Given as given
use Rattle.level_core.proofs.walking.walk.Goals as goal

-- the position is in the segment
is_in : (g : given.Over) (c : goal.In-loop-position g)
    → IsIn c.loop-position.position (g.L.LevelKind.meaning.segment_of c.args.level.now c.args.parent)
is_in g c = subst (IsIn c.loop-position.position) c.segment-segment.ensures (
  placed_within c.segment-segment.result.lo c.loop-position.position c.loop-position.entries c.loop-position.invariant.behind,
  c.loop-position-test.true,
)

pub coord-requires : goal.coord-requires
coord-requires g c = let i = is_in g c in (c.args.parent, c.requires, (i.0, i.1))

pub loop-position-preserved-in-None : goal.loop-position-preserved-in-None
loop-position-preserved-in-None g c =
    walk_past c.segment-segment.result.lo c.loop-position.position c.segment-segment.result.hi c.loop-position.entries
    (g.L.LevelKind.meaning.entries c.args.level.now c.args.parent) c.loop-position-test.true c.loop-position.invariant
    (sym (c.coord.ensures c.args.parent c.requires
    (subst (IsIn c.loop-position.position) c.segment-segment.ensures (
      placed_within c.segment-segment.result.lo c.loop-position.position c.loop-position.entries c.loop-position.invariant.behind,
      c.loop-position-test.true,
    ))) ∙ c.in-None.is)

steps : (g : given.Over) (c : goal.In-Some g)
    → Steps c.segment-segment.result.lo c.loop-position.position c.segment-segment.result.hi c.in-Some.coord c.loop-position.entries
    (g.L.LevelKind.meaning.entries c.args.level.now c.args.parent)
steps g c = walk_steps c.segment-segment.result.lo c.loop-position.position c.segment-segment.result.hi c.in-Some.coord
    c.loop-position.entries (g.L.LevelKind.meaning.entries c.args.level.now c.args.parent) c.loop-position.invariant
    (sym (c.coord.ensures c.args.parent c.requires
    (subst (IsIn c.loop-position.position) c.segment-segment.ensures (
      placed_within c.segment-segment.result.lo c.loop-position.position c.loop-position.entries c.loop-position.invariant.behind,
      c.loop-position-test.true,
    ))) ∙ c.in-Some.is)

pub child-child-requires : goal.child-child-requires
child-child-requires g c = let s = steps g c in (c.args.parent, s.entry, c.requires, sym c.segment-segment.ensures, s.stands)

stepped : (g : given.Over) (c : goal.In_ok-push-in-Some g)
    → Stepped c.segment-segment.result.lo c.loop-position.position c.segment-segment.result.hi c.child-child.result c.push.new.self
    (g.L.LevelKind.meaning.entries c.args.level.now c.args.parent)
stepped g c = walk_stepped c.segment-segment.result.lo c.loop-position.position c.segment-segment.result.hi c.in-Some.coord
    c.loop-position.entries
    (g.L.LevelKind.meaning.entries c.args.level.now c.args.parent) c.push.new.self c.child-child.result c.loop-position.invariant
    (sym (c.coord.ensures c.args.parent c.requires
    (subst (IsIn c.loop-position.position) c.segment-segment.ensures (
      placed_within c.segment-segment.result.lo c.loop-position.position c.loop-position.entries c.loop-position.invariant.behind,
      c.loop-position-test.true,
    ))) ∙ c.in-Some.is)
    (λ e stands. c.child-child.ensures c.args.parent e c.requires (sym c.segment-segment.ensures) stands)
    c.in_ok-push-in-Some.ensures.ok

pub loop-position-smaller : goal.loop-position-smaller
loop-position-smaller g c = let s = stepped g c in let more = s.more in let within = s.within in omega (arith, more, within)

pub loop-position-preserved : goal.loop-position-preserved
loop-position-preserved g c = (stepped g c).walks

pub returns : goal.returns
returns g c = walk_ends c.segment-segment.result.lo c.loop-position.position c.segment-segment.result.hi c.loop-position.entries
    (g.L.LevelKind.meaning.entries c.args.level.now c.args.parent) c.loop-position-test.false c.loop-position.invariant
