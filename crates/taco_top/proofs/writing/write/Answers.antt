use Rattle.std.proofs.Common.{◌≡◌, subst, sym, inl, inr}
use Rattle.bindings.specs.Tables.{path_to}
use Rattle.tensor_map.specs.Entries.{value_at}
use Rattle.result_files.specs.Writes.{RefusesResult}
use Rattle.result_files.specs.declared.refusal.WriteRefusal.TheVariants as write
use Rattle.taco_top.specs.Values.{semiring}
use Rattle.taco_top.specs.Refused.{FailsToWrite}
use Rattle.taco_top.proofs.Stopped.{written, unwritten}
use Rattle.taco_top.proofs.writing.write.Goals as goal

pub returns-in-Ok : goal.returns-in-Ok
returns-in-Ok g c = λ words task before writes reads is.
    let over = semiring g.S.Semiring.arithmetic g.S.Semiring.has_minus g.S.Semiring.is_ring g.S.Semiring.is_signed g.S.Semiring.name in
    written over words task writes before (g.F.Folder.state c.args.files.now) (g.F.Folder.state c.write_result.new.files)
    (g.O.Sink.state c.args.out.now) (g.O.Sink.state c.write_result.new.out) c.args.computed.now reads is c.in-Ok.ensures.written

pub returns-in-Err-Fault : goal.returns-in-Err-Fault
returns-in-Err-Fault g c = λ words task before writes reads is.
    let over = semiring g.S.Semiring.arithmetic g.S.Semiring.has_minus g.S.Semiring.is_ring g.S.Semiring.is_signed g.S.Semiring.name in
    let told = c.in-Err-Fault.field-0-is in
    let same : c.in-Err-Fault.field-0 ≡ write.Fault = cc in
    subst (FailsToWrite over words before (g.F.Folder.state c.write_result.new.files) (g.O.Sink.state c.args.out.now)
    (g.O.Sink.state c.write_result.new.out)) (sym c.path_of.ensures)
    (inl (unwritten over words task writes before (g.F.Folder.state c.args.files.now) (g.F.Folder.state c.write_result.new.files)
    (g.O.Sink.state c.args.out.now) (g.O.Sink.state c.write_result.new.out) c.args.computed.now reads is write.Fault
    (subst (λ why. RefusesResult g.S.Semiring.arithmetic g.S.Semiring.is_signed (path_to c.args.computed.now.file)
    c.args.computed.now.result.shape (value_at g.S.Semiring.arithmetic c.args.computed.now.result.entries.list)
    (g.F.Folder.state c.args.files.now)
    (g.F.Folder.state c.write_result.new.files) (g.O.Sink.state c.args.out.now) (g.O.Sink.state c.write_result.new.out) why) same
    c.in-Err-Fault.ensures.refused)))

pub returns-in-Err-Memory : goal.returns-in-Err-Memory
returns-in-Err-Memory g c = λ words task before writes reads is.
    let over = semiring g.S.Semiring.arithmetic g.S.Semiring.has_minus g.S.Semiring.is_ring g.S.Semiring.is_signed g.S.Semiring.name in
    let told = c.in-Err-Memory.field-0-is in
    let same : c.in-Err-Memory.field-0 ≡ (write.Memory c.in-Err-Memory.field-0-0) = cc in
    inr (inl (
      path_to c.args.computed.now.file,
      c.in-Err-Memory.field-0-0,
      unwritten over words task writes before (g.F.Folder.state c.args.files.now) (g.F.Folder.state c.write_result.new.files)
          (g.O.Sink.state c.args.out.now) (g.O.Sink.state c.write_result.new.out) c.args.computed.now reads is
          (write.Memory c.in-Err-Memory.field-0-0)
          (subst (λ why. RefusesResult g.S.Semiring.arithmetic g.S.Semiring.is_signed (path_to c.args.computed.now.file)
          c.args.computed.now.result.shape (value_at g.S.Semiring.arithmetic c.args.computed.now.result.entries.list)
          (g.F.Folder.state c.args.files.now)
          (g.F.Folder.state c.write_result.new.files) (g.O.Sink.state c.args.out.now) (g.O.Sink.state c.write_result.new.out) why) same
          c.in-Err-Memory.ensures.refused),
    ))
