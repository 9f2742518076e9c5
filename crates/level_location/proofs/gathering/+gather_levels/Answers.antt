use Rattle.std.specs.Prelude.{◌≡◌, ◌≤◌, List, [], ◌++◌}
use Rattle.std.proofs.Common.{sym, subst, arith}
use Rattle.kernel_code.specs.declared.syntax.KStmt.{KStmt}
use Rattle.coiteration.proofs.Parts.{none_of_length}
use Rattle.level_location.specs.Listed.{Gathered, GathersSeeks}
use Rattle.level_location.proofs.GatherSteps.{gathered_more, nothing_gathered}
use Rattle.level_location.proofs.gathering.+gather_levels.Goals as goal

pub returns-in_default : goal.returns-in_default
returns-in_default t c =
    let s = c.args.statement.now in
    let formats = c.args.formats.now in
    let places = c.args.places.now in
    let gathered = c.args.gathered.now in
    let list = c.args.list in
    let free = c.args.free in
    let none : c.args.seeks.now ≡ [] = none_of_length c.args.seeks.now (omega (arith, c.in_default.ensures.cases)) in
    let with_code : List KStmt → Gathered = λ code. record { code = code; lists = list } in
    subst (λ code. GathersSeeks s formats places gathered c.args.seeks.now list free (with_code code)) (sym c.new.ensures)
    (subst (λ ss. GathersSeeks s formats places gathered ss list free (with_code [])) (sym none)
    (nothing_gathered s formats places gathered list free))

pub returns : goal.returns
returns t c =
    let s = c.args.statement.now in
    let formats = c.args.formats.now in
    let places = c.args.places.now in
    let gathered = c.args.gathered.now in
    let list = c.args.list in
    let free = c.args.free in
    let one = c.in_ok-one.one in
    let rest = c.in_ok-rest.rest in
    let with_code : List KStmt → Gathered = λ code. record { code = code; lists = rest.lists } in
    subst (λ code. GathersSeeks s formats places gathered c.args.seeks.now list free (with_code code)) (sym c.in_ok-append.ensures.ok)
    (subst (λ ss. GathersSeeks s formats places gathered ss list free (with_code (one.code ++ rest.code))) (sym c.in-Some.ensures.cases.0)
    (gathered_more s formats places gathered c.in-Some.first.now c.in-Some.others.now list free one rest c.requires.below
    c.in_ok-one.ensures c.in_ok-rest.ensures))
