use Rattle.std.specs.Prelude.{◌≡◌, Some}
use Rattle.std.proofs.Common.{◌∙◌, sym, subst, arith}
use Rattle.level_core.specs.Entries.{IsIn, coord_at}
use Rattle.tensor_storage.proofs.WalkLaws.{walk_from, walk_past, walk_meets, walk_tells, walk_ends}
use Rattle.tensor_storage.proofs.listing.next_entry.Given as given
use Rattle.tensor_storage.proofs.listing.next_entry.Goals as goal

-- the position is in the segment
is_in : (g : given.Over) (c : goal.In-loop-position g)
    → IsIn c.loop-position.position (g.L.LevelKind.meaning.segment_of c.args.level.now c.args.parent)
is_in g c =
    let lo = walk_from c.args.segment c.args.from c.requires.walking.0 (g.L.LevelKind.meaning.entries c.args.level.now c.args.parent)
    c.requires.walking.1 in
    let from = c.loop-position.invariant.0 in
    subst (IsIn c.loop-position.position) c.requires.segment (omega (arith, lo, from), c.loop-position-test.true)

pub coord-requires : goal.coord-requires
coord-requires g c = let i = is_in g c in (c.args.parent, c.requires.allowed, (i.0, i.1))

pub loop-position-preserved : goal.loop-position-preserved
loop-position-preserved g c =
    let lo = walk_from c.args.segment c.args.from c.requires.walking.0 (g.L.LevelKind.meaning.entries c.args.level.now c.args.parent)
    c.requires.walking.1 in
    let from = c.loop-position.invariant.0 in
    let i = subst (IsIn c.loop-position.position) c.requires.segment (omega (arith, lo, from), c.loop-position-test.true) in (
      omega (arith, from),
      λ done w. walk_past c.args.segment c.loop-position.position done (g.L.LevelKind.meaning.entries c.args.level.now c.args.parent)
          c.loop-position-test.true (c.loop-position.invariant.1 done w)
          (sym (c.coord.ensures c.args.parent c.requires.allowed i) ∙ c.in-None.is),
    )

here : (g : given.Over) (c : goal.In-Some g) → coord_at (g.L.LevelKind.meaning.entries c.args.level.now c.args.parent)
    c.loop-position.position ≡ Some c.in-Some.coord
here g c =
    let lo = walk_from c.args.segment c.args.from c.requires.walking.0 (g.L.LevelKind.meaning.entries c.args.level.now c.args.parent)
    c.requires.walking.1 in
    let from = c.loop-position.invariant.0 in
    let i = subst (IsIn c.loop-position.position) c.requires.segment (omega (arith, lo, from), c.loop-position-test.true) in
    sym (c.coord.ensures c.args.parent c.requires.allowed i) ∙ c.in-Some.is

pub child-requires : goal.child-requires
child-requires g c =
    let m = walk_meets c.args.segment c.loop-position.position c.in-Some.coord c.requires.walking.0
    (g.L.LevelKind.meaning.entries c.args.level.now c.args.parent) (c.loop-position.invariant.1 c.requires.walking.0
    c.requires.walking.1) (here g c) in
    (c.args.parent, m.entry, c.requires.allowed, sym c.requires.segment, m.stands)

pub returns-in-Some : goal.returns-in-Some
returns-in-Some g c = λ done w.
    let lo = walk_from c.args.segment c.args.from c.requires.walking.0 (g.L.LevelKind.meaning.entries c.args.level.now c.args.parent)
    c.requires.walking.1 in
    let from = c.loop-position.invariant.0 in
    let i = subst (IsIn c.loop-position.position) c.requires.segment (omega (arith, lo, from), c.loop-position-test.true) in
    let n = walk_tells c.args.segment c.loop-position.position c.in-Some.coord done
    (g.L.LevelKind.meaning.entries c.args.level.now c.args.parent) c.child.result (c.loop-position.invariant.1 done w)
    (sym (c.coord.ensures c.args.parent c.requires.allowed i)
    ∙ c.in-Some.is) (λ e stands. c.child.ensures c.args.parent e c.requires.allowed (sym c.requires.segment) stands) in
    let further = n.further in
    record { stands = n.stands; further = omega (arith, further, from); within = n.within; walks = n.walks }

pub returns : goal.returns
returns g c = λ done w. walk_ends c.args.segment c.loop-position.position done
    (g.L.LevelKind.meaning.entries c.args.level.now c.args.parent) c.loop-position-test.false (c.loop-position.invariant.1 done w)

pub loop-position-init : goal.loop-position-init
loop-position-init g c = (omega arith, λ done w. w)
