use Rattle.std.specs.Prelude.{◌<◌, ◌^◌, Some, None}
use Rattle.std.proofs.Common.{◌∙◌, sym, arith}
use Rattle.tensor_storage.proofs.Located.{located_is, located_within}
use Rattle.tensor_storage.proofs.finding.located_child.Goals as goal

pub overflow_add-result : goal.overflow_add-result
overflow_add-result g c =
    let k : c.in-Some.position < 2 ^ 62 = located_within g.L.LevelKind.meaning g.met.L.LevelKind.laws c.args.level.now c.args.parent
    c.requires.allowed c.requires.locates c.args.x c.in-Some.position
    (sym c.in-Some.is ∙ c.locate.ensures c.requires.locates) in
    omega (arith, k)

pub returns-in-None : goal.returns-in-None
returns-in-None g c =
    sym (located_is g.L.LevelKind.meaning g.met.L.LevelKind.laws c.args.level.now c.args.parent c.requires.allowed c.requires.locates
    c.args.x None (sym c.in-None.is ∙ c.locate.ensures c.requires.locates))

pub returns-in-Some : goal.returns-in-Some
returns-in-Some g c =
    sym (located_is g.L.LevelKind.meaning g.met.L.LevelKind.laws c.args.level.now c.args.parent c.requires.allowed c.requires.locates
    c.args.x (Some c.in-Some.position) (sym c.in-Some.is ∙ c.locate.ensures c.requires.locates))
