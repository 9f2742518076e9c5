use Rattle.std.proofs.Common.{ℕ, List, map, string_bytes, inl, inr, refl}
use Rattle.std.specs.declared.alloc.Global.{Global}
use Rattle.reports.specs.Reports.{turns_line}
use Rattle.taco_top.specs.Ends.{Written, Printed, Refused, Executed, Unexecuted}
use Rattle.taco_top.proofs.Answered.{printed_by, written_by}
use Rattle.taco_top.proofs.Stopped.{line_put}
use Rattle.taco_top.proofs.top.taco.Goals as goal

pub returns-in-Err : goal.returns-in-Err
returns-in-Err g c = elim c.in-Err.ensures [
  | inl cause ↦ record {
    ended = Refused c.in-Err.fault;
    status_is = c.refuse.ensures.status;
    cause = cause;
    line = c.refuse.ensures.line;
  }
  | inr cause ↦ record {
    ended = Unexecuted c.in-Err.fault;
    status_is = c.refuse.ensures.status;
    cause = cause;
    line = c.refuse.ensures.line;
  }
]

pub returns-in-Ok-Written : goal.returns-in-Ok-Written
returns-in-Ok-Written g c =
    let words : List (List ℕ) = map (string_bytes {Z = Global}) c.args.words.now in
    let line = line_put c.put_turns.result (g.E.Sink.state c.args.err.now) (g.E.Sink.state c.put_turns.new.sink)
    (turns_line c.in-Ok-Written.turns) c.put_turns.ensures.whole c.put_turns.ensures.part in
    elim (written_by words (g.F.Folder.state c.args.files.now) (g.F.Folder.state c.answer.new.files) (g.O.Sink.state c.args.out.now)
    (g.O.Sink.state c.answer.new.out) c.in-Ok-Written.field-0 c.in-Ok-Written.turns c.in-Ok-Written.field-0-is c.in-Ok-Written.ensures) [
      | inl cause ↦ record { ended = Written c.in-Ok-Written.turns; status_is = refl; cause = cause; line = line }
      | inr cause ↦ record { ended = Executed c.in-Ok-Written.turns; status_is = refl; cause = cause; line = line }
    ]

pub returns-in-Ok-Printed : goal.returns-in-Ok-Printed
returns-in-Ok-Printed g c =
    let words : List (List ℕ) = map (string_bytes {Z = Global}) c.args.words.now in record {
      ended = Printed;
      status_is = refl;
      cause = printed_by words (g.F.Folder.state c.args.files.now) (g.F.Folder.state c.answer.new.files)
          (g.O.Sink.state c.args.out.now) (g.O.Sink.state c.answer.new.out) c.in-Ok-Printed.field-0 c.in-Ok-Printed.field-0-is
          c.in-Ok-Printed.ensures;
      line = refl;
    }
