use Rattle.std.proofs.Common.{◌≡◌, refl, subst}
use Rattle.std.specs.Prelude.{Err}
use Rattle.nested_sums.specs.Pieces.{HasMeaningWithSums}
use Rattle.taco_compiler.specs.Compiled.{Answers}
use Rattle.taco_compiler.specs.declared.compiled.CompileFault.TheVariants as compile
use Rattle.taco_top.specs.Values.{Values, semiring}
use Rattle.taco_top.specs.Run.{request_of}
use Rattle.taco_top.specs.Stored.{stored_statement, stored_formats}
use Rattle.taco_top.proofs.Accepted.{asked_meant, each_format, is_bound, well_named, left_has_format, right_have_formats}
use Rattle.taco_top.proofs.Mended.{ordered, run_by, kernel_is, stored_bound, stored_few, stored_meant, stored_numbered, cyclic}
use Rattle.taco_top.proofs.asking.accept.Goals as goal

pub mended-requires-clause-named : goal.mended-requires-clause-named
mended-requires-clause-named g c = well_named c.requires.asked.0 (request_of c.args.asked) c.requires.asked.1

pub mended-requires-clause-left : goal.mended-requires-clause-left
mended-requires-clause-left g c =
    left_has_format c.requires.asked.0 (request_of c.args.asked) c.requires.asked.1 c.requires.numbered c.as_slice-formats.result.now
    c.as_slice-formats.ensures.value

pub mended-requires-clause-right : goal.mended-requires-clause-right
mended-requires-clause-right g c =
    right_have_formats c.requires.asked.0 (request_of c.args.asked) c.requires.asked.1 c.requires.numbered c.as_slice-formats.result.now
    c.as_slice-formats.ensures.value

pub compile_stored-requires-clause-numbered : goal.compile_stored-requires-clause-numbered
compile_stored-requires-clause-numbered g c =
    stored_numbered (request_of c.args.asked) c.as_slice-formats.result.now c.as_slice-formats.ensures.value c.in_ok-plan.plan
    c.in_ok-plan.ensures.unplanned c.in_ok-plan.ensures.planned c.requires.needs c.requires.numbered c.in_ok-plan.ensures.compiled

pub compile_stored-requires-clause-bound : goal.compile_stored-requires-clause-bound
compile_stored-requires-clause-bound g c =
    stored_bound (request_of c.args.asked) c.as_slice-formats.result.now c.as_slice-formats.ensures.value c.in_ok-plan.plan
    c.in_ok-plan.ensures.unplanned c.in_ok-plan.ensures.planned g.S.Semiring.arithmetic c.requires.needs c.requires.numbered
    (is_bound c.requires.asked.0 (request_of c.args.asked) c.requires.asked.1 c.requires.numbered)

pub compile_stored-requires-clause-few : goal.compile_stored-requires-clause-few
compile_stored-requires-clause-few g c =
    stored_few (request_of c.args.asked) c.as_slice-formats.result.now c.as_slice-formats.ensures.value c.in_ok-plan.plan
    c.in_ok-plan.ensures.unplanned c.in_ok-plan.ensures.planned c.requires.needs
    (each_format c.requires.asked.0 (request_of c.args.asked) c.requires.asked.1)

pub compile_stored-requires-clause-named : goal.compile_stored-requires-clause-named
compile_stored-requires-clause-named g c = well_named c.requires.asked.0 (request_of c.args.asked) c.requires.asked.1

pub compile_stored-requires-clause-left : goal.compile_stored-requires-clause-left
compile_stored-requires-clause-left g c =
    left_has_format c.requires.asked.0 (request_of c.args.asked) c.requires.asked.1 c.requires.numbered c.as_slice-formats.result.now
    c.as_slice-formats.ensures.value

pub compile_stored-requires-clause-right : goal.compile_stored-requires-clause-right
compile_stored-requires-clause-right g c =
    right_have_formats c.requires.asked.0 (request_of c.args.asked) c.requires.asked.1 c.requires.numbered c.as_slice-formats.result.now
    c.as_slice-formats.ensures.value

pub compile_stored-requires-clause-meant : goal.compile_stored-requires-clause-meant
compile_stored-requires-clause-meant g c =
    let asked = asked_meant c.requires.asked.0 (request_of c.args.asked) c.requires.asked.1 in
    stored_meant (request_of c.args.asked) c.as_slice-formats.result.now c.as_slice-formats.ensures.value c.in_ok-plan.plan
    c.in_ok-plan.ensures.unplanned c.in_ok-plan.ensures.planned g.S.Semiring.has_minus c.requires.needs
    (subst (λ (v : Values). HasMeaningWithSums v.has_minus c.args.asked.statement) c.requires.over asked)

pub returns-in-Ok-clause-accepted : goal.returns-in-Ok-clause-accepted
returns-in-Ok-clause-accepted g c = λ words asks. record {
  asks = asks;
  ordered = ordered (request_of c.args.asked) c.as_slice-formats.result.now c.as_slice-formats.ensures.value c.in_ok-plan.plan
      c.in_ok-plan.ensures.unplanned c.in_ok-plan.ensures.planned c.in-Ok.compiled.order c.in-Ok.ensures.answers.0;
}

pub returns-in-Ok-clause-plan : goal.returns-in-Ok-clause-plan
returns-in-Ok-clause-plan g c =
    run_by (request_of c.args.asked) c.as_slice-formats.result.now c.as_slice-formats.ensures.value c.in_ok-plan.plan
    c.in_ok-plan.ensures.unplanned c.in_ok-plan.ensures.planned c.in-Ok.compiled.order c.in-Ok.ensures.answers.0 c.requires.needs

pub returns-in-Ok-clause-kernel : goal.returns-in-Ok-clause-kernel
returns-in-Ok-clause-kernel g c =
    let over = semiring g.S.Semiring.arithmetic g.S.Semiring.has_minus g.S.Semiring.is_ring g.S.Semiring.is_signed g.S.Semiring.name in
    kernel_is (request_of c.args.asked) c.as_slice-formats.result.now c.as_slice-formats.ensures.value c.in_ok-plan.plan
    c.in_ok-plan.ensures.unplanned c.in_ok-plan.ensures.planned over c.in-Ok.compiled c.in-Ok.ensures.answers c.in-Ok.ensures.over

pub returns-in-Err-Cycle-clause-refused : goal.returns-in-Err-Cycle-clause-refused
returns-in-Err-Cycle-clause-refused g c = λ words asks files.
    let told = c.in-Err-Cycle.field-0-is in
    let same : c.in-Err-Cycle.field-0 ≡ (compile.Cycle c.in-Err-Cycle.cycle) = cc in
    let is = cyclic (request_of c.args.asked) c.as_slice-formats.result.now c.as_slice-formats.ensures.value c.in_ok-plan.plan
    c.in_ok-plan.ensures.unplanned c.in_ok-plan.ensures.planned c.in_ok-plan.ensures.compiled c.in-Err-Cycle.cycle
    (subst (λ why. Answers g.S.Semiring.arithmetic (stored_statement c.args.asked.statement c.in_ok-plan.plan)
    (stored_formats c.as_slice-formats.result.now c.in_ok-plan.plan) (Err why)) same c.in-Err-Cycle.ensures.answers) c.requires.needs in (
      refl,
      record {
        request = request_of c.args.asked;
        statement_is = refl;
        asks = asks;
        needs = is.0;
        is = is.1;
      },
    )
