use Rattle.std.proofs.Common.{◌≡◌, subst, sym, inr}
use Rattle.bindings.specs.Tables.{path_to}
use Rattle.tensor_map.specs.Entries.{value_at}
use Rattle.result_files.specs.Writes.{RefusesResult}
use Rattle.result_files.specs.declared.refusal.WriteRefusal.TheVariants as write
use Rattle.taco_top.specs.Executed.{IsExecUnwritten}
use Rattle.taco_top.specs.Values.{semiring}
use Rattle.taco_top.proofs.Executes.{executed, exec_unwritten}
use Rattle.taco_top.proofs.executing.write_ready.Goals as goal

pub write_result-requires : goal.write_result-requires
write_result-requires g c = c.requires.2.written

pub returns-in-Ok : goal.returns-in-Ok
returns-in-Ok g c = λ words before reads is.
    let over = semiring g.S.Semiring.arithmetic g.S.Semiring.has_minus g.S.Semiring.is_ring g.S.Semiring.is_signed g.S.Semiring.name in
    executed over words before (g.F.Folder.state c.args.files.now) (g.F.Folder.state c.write_result.new.files)
    (g.O.Sink.state c.args.out.now) (g.O.Sink.state c.write_result.new.out) c.args.ready.now reads is c.in-Ok.ensures.written

pub returns-in-Err-Fault : goal.returns-in-Err-Fault
returns-in-Err-Fault g c = λ words before reads is.
    let over = semiring g.S.Semiring.arithmetic g.S.Semiring.has_minus g.S.Semiring.is_ring g.S.Semiring.is_signed g.S.Semiring.name in
    let told = c.in-Err-Fault.field-0-is in
    let same : c.in-Err-Fault.field-0 ≡ write.Fault = cc in
    let new = g.F.Folder.state c.write_result.new.files in
    let out = g.O.Sink.state c.args.out.now in
    let out' = g.O.Sink.state c.write_result.new.out in
    subst (λ p. IsExecUnwritten words before new out out' p write.Fault) (sym c.path_of.ensures)
    (exec_unwritten over words before (g.F.Folder.state c.args.files.now) new out out' c.args.ready.now reads is write.Fault
    (subst (λ why. RefusesResult g.S.Semiring.arithmetic g.S.Semiring.is_signed (path_to c.args.ready.now.file)
    c.args.ready.now.result.shape (value_at g.S.Semiring.arithmetic c.args.ready.now.result.entries.list)
    (g.F.Folder.state c.args.files.now) new out out' why) same c.in-Err-Fault.ensures.refused))

pub returns-in-Err-Memory : goal.returns-in-Err-Memory
returns-in-Err-Memory g c = λ words before reads is.
    let over = semiring g.S.Semiring.arithmetic g.S.Semiring.has_minus g.S.Semiring.is_ring g.S.Semiring.is_signed g.S.Semiring.name in
    let told = c.in-Err-Memory.field-0-is in
    let same : c.in-Err-Memory.field-0 ≡ (write.Memory c.in-Err-Memory.field-0-0) = cc in
    let new = g.F.Folder.state c.write_result.new.files in
    let out = g.O.Sink.state c.args.out.now in
    let out' = g.O.Sink.state c.write_result.new.out in
    inr (
      path_to c.args.ready.now.file,
      c.in-Err-Memory.field-0-0,
      exec_unwritten over words before (g.F.Folder.state c.args.files.now) new out out' c.args.ready.now reads is
          (write.Memory c.in-Err-Memory.field-0-0)
          (subst (λ why. RefusesResult g.S.Semiring.arithmetic g.S.Semiring.is_signed (path_to c.args.ready.now.file)
          c.args.ready.now.result.shape (value_at g.S.Semiring.arithmetic c.args.ready.now.result.entries.list)
          (g.F.Folder.state c.args.files.now) new out out' why) same c.in-Err-Memory.ensures.refused),
    )
