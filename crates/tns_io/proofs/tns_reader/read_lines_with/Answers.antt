use Rattle.std.specs.Prelude.{◌≡◌, ℕ, ◌+◌, min, Bool, List, [], ◌∷◌, ◌++◌, drop, length}
use Rattle.std.proofs.Common.{ap, subst, sym, ◌∙◌}
use Rattle.text_lines.specs.Buffered.{count_of}
use Rattle.text_lines.specs.Cutting.{told_lines}
use Rattle.text_lines.specs.LineReader.{Feeds, LineReader, TellsLine, IsTooLong}
use Rattle.tensor_map.specs.Entries.{Entry}
use Rattle.text_lines.specs.declared.step.Step.{Step}
use Rattle.text_lines.specs.declared.step.Step.TheVariants.{Line as Told}
use Rattle.text_lines.proofs.CuttingLaws.{told_line_short}
use Rattle.tns_io.specs.Reading.{reading}
use Rattle.tns_io.specs.ReadSoFar.{Fails, FailsPiece, ReadsPiece, Takes}
use Rattle.tns_io.specs.declared.file_fault.FileFault.TheVariants.{Line}
use Rattle.text_lines.specs.declared.line_kind.LineKind.TheVariants.{LongLine}
use Rattle.tns_io.proofs.EntryLaws.{piece_more, piece_fails, piece_too_long}
use Rattle.tns_io.proofs.tns_reader.read_lines_with.Goals as goal

line_told : (old new : LineReader) (piece : List ℕ) (taken : ℕ) (step : Step) → step ≡ Told → Feeds old new piece taken step
    → TellsLine old new
line_told old new piece taken step is feeds = subst (Feeds old new piece taken) is feeds

-- what is read so far stays so where no line was taken whole
reads_still : (signed : Bool) (order : ℕ) (start piece rest : List ℕ) (list : List Entry) (old new : LineReader) → new ≡ old
    → ReadsPiece signed order start piece old rest list → ReadsPiece signed order start piece new rest list
reads_still signed order start piece rest list old new same reads =
    subst (λ (l : LineReader). ReadsPiece signed order start piece l rest list) (sym same) reads

pub returns-in-LongLine-clause-fails : goal.returns-in-LongLine-clause-fails
returns-in-LongLine-clause-fails c =
    let start : List ℕ = c.args.lines.now.text in
    let piece : List ℕ = c.args.piece.now in
    let old = c.take_numbers.new.self in
    let step : IsTooLong old c.feed-taken.new.self × (c.feed-taken.result.0 ≡ length c.loop-taken.rest.now) =
    subst (Feeds old c.feed-taken.new.self c.loop-taken.rest.now c.feed-taken.result.0) c.in-LongLine.is c.feed-taken.ensures.step in
    let reads = reads_still _ _ start piece _ _ _ old c.in_default.ensures.taken c.loop-taken.invariant.reads in
    let fails : FailsPiece c.args.signed c.loop-taken.entries.order start piece
    (Line (min (count_of (told_lines c.feed-taken.new.self.text) + 1) 18446744073709551615) LongLine) =
    piece_too_long c.args.signed c.loop-taken.entries.order start piece old c.feed-taken.new.self c.loop-taken.rest.now
    c.loop-taken.entries.list c.feed-taken.result.0 reads c.feed-taken.ensures.text step.0 step.1 in
    subst (λ f. FailsPiece c.args.signed c.args.entries.now.order start piece f)
    (ap (λ (n : ℕ). Line (min (n + 1) 18446744073709551615) LongLine) (sym c.number-in-LongLine.ensures) ∙ sym c.long_line.ensures)
    (subst (λ (order : ℕ). FailsPiece c.args.signed order start piece (Line
    (min (count_of (told_lines c.feed-taken.new.self.text) + 1) 18446744073709551615) LongLine)) c.loop-taken.invariant.order fails)

pub take_read_line-requires-clause-short : goal.take_read_line-requires-clause-short
take_read_line-requires-clause-short c =
    let tells = c.in-Some.ensures.taken.tells in
    told_line_short c.take_numbers.new.self.text c.in-Some.line.now (told_lines c.loop-taken.lines.text) tells.short tells.told

pub take_line-requires : goal.take_line-requires
take_line-requires c =
    let tells = line_told _ _ _ _ _ c.in-Line.is c.feed-taken.ensures.step in
    told_line_short c.feed-taken.new.self.text c.line.result.now (told_lines c.take_numbers.new.self.text) tells.short
    (tells.told ∙ ap (λ l. told_lines c.take_numbers.new.self.text ++ l ∷ []) (sym c.line.ensures))

pub loop-taken-preserved-in-Some : goal.loop-taken-preserved-in-Some
loop-taken-preserved-in-Some c =
    let start : List ℕ = c.args.lines.now.text in
    let piece : List ℕ = c.args.piece.now in
    let order : ℕ = c.loop-taken.entries.order in
    let whole = c.in-Some.ensures.taken in
    let more : ReadsPiece c.args.signed order start piece c.take_numbers.new.self
    (drop c.in-Some.taken c.loop-taken.rest.now) c.take_read_line.new.entries.list =
    piece_more c.args.signed order start piece c.loop-taken.lines c.take_numbers.new.self c.in-Some.line.now c.loop-taken.rest.now
    c.loop-taken.entries.list
    c.in-Some.taken c.loop-taken.invariant.reads whole.text whole.tells c.take_read_line.new.entries.list c.in-Ok.ensures.takes in
    record {
      order = c.take_read_line.ensures.order ∙ c.loop-taken.invariant.order;
      reads =
          subst (λ (n : ℕ). ReadsPiece c.args.signed n start piece c.take_numbers.new.self c.split_at.result.1.now
          c.take_read_line.new.entries.list)
          (sym c.take_read_line.ensures.order)
          (subst (λ (rest : List ℕ). ReadsPiece c.args.signed order start piece c.take_numbers.new.self rest
          c.take_read_line.new.entries.list)
          (sym c.split_at.ensures.back) more);
    }

pub loop-taken-preserved : goal.loop-taken-preserved
loop-taken-preserved c =
    let start : List ℕ = c.args.lines.now.text in
    let piece : List ℕ = c.args.piece.now in
    let order : ℕ = c.loop-taken.entries.order in
    let old = c.take_numbers.new.self in
    let tells = line_told _ _ _ _ _ c.in-Line.is c.feed-taken.ensures.step in
    let reads = reads_still _ _ start piece _ _ _ old c.in_default.ensures.taken c.loop-taken.invariant.reads in
    let more : ReadsPiece c.args.signed order start piece c.feed-taken.new.self (drop c.feed-taken.result.0 c.loop-taken.rest.now)
    c.take_line.new.entries.list =
    piece_more c.args.signed order start piece old c.feed-taken.new.self c.feed-taken.new.self.line c.loop-taken.rest.now
    c.loop-taken.entries.list
    c.feed-taken.result.0 reads c.feed-taken.ensures.text tells c.take_line.new.entries.list
    (subst (λ l. Takes (reading c.args.signed order l) c.loop-taken.entries.list c.take_line.new.entries.list) c.line.ensures
    c.in-Ok-take_line.ensures.takes) in
    record {
      order = c.take_line.ensures.order ∙ c.loop-taken.invariant.order;
      reads =
          subst (λ (n : ℕ). ReadsPiece c.args.signed n start piece c.feed-taken.new.self c.split_at-in-Ok-take_line.result.1.now
          c.take_line.new.entries.list)
          (sym c.take_line.ensures.order)
          (subst (λ (rest : List ℕ). ReadsPiece c.args.signed order start piece c.feed-taken.new.self rest
          c.take_line.new.entries.list)
          (sym c.split_at-in-Ok-take_line.ensures.back) more);
    }

pub returns-in-Err-clause-fails : goal.returns-in-Err-clause-fails
returns-in-Err-clause-fails c =
    let start : List ℕ = c.args.lines.now.text in
    let piece : List ℕ = c.args.piece.now in
    let order : ℕ = c.loop-taken.entries.order in
    let whole = c.in-Some.ensures.taken in
    let fails : FailsPiece c.args.signed order start piece c.in-Err.fault =
    piece_fails c.args.signed order start piece c.loop-taken.lines c.take_numbers.new.self c.in-Some.line.now c.loop-taken.rest.now
    c.loop-taken.entries.list
    c.in-Some.taken c.loop-taken.invariant.reads whole.text whole.tells c.in-Err.fault
    (subst (λ n. Fails n (reading c.args.signed order c.in-Some.line.now) c.in-Err.fault) c.number.ensures c.in-Err.ensures.fails) in
    subst (λ (n : ℕ). FailsPiece c.args.signed n start piece c.in-Err.fault) c.loop-taken.invariant.order fails

pub returns-in-Err-take_line-clause-fails : goal.returns-in-Err-take_line-clause-fails
returns-in-Err-take_line-clause-fails c =
    let start : List ℕ = c.args.lines.now.text in
    let piece : List ℕ = c.args.piece.now in
    let order : ℕ = c.loop-taken.entries.order in
    let old = c.take_numbers.new.self in
    let fault = c.in-Err-take_line.fault in
    let tells = line_told _ _ _ _ _ c.in-Line.is c.feed-taken.ensures.step in
    let reads = reads_still _ _ start piece _ _ _ old c.in_default.ensures.taken c.loop-taken.invariant.reads in
    let fails : FailsPiece c.args.signed order start piece fault =
    piece_fails c.args.signed order start piece old c.feed-taken.new.self c.feed-taken.new.self.line c.loop-taken.rest.now
    c.loop-taken.entries.list
    c.feed-taken.result.0 reads c.feed-taken.ensures.text tells fault
    (subst (λ n. Fails n (reading c.args.signed order c.feed-taken.new.self.line) fault) c.number-in-Line.ensures
    (subst (λ l. Fails c.number-in-Line.result (reading c.args.signed order l) fault) c.line.ensures c.in-Err-take_line.ensures.fails)) in
    subst (λ (n : ℕ). FailsPiece c.args.signed n start piece fault) c.loop-taken.invariant.order fails
