use Rattle.std.proofs.Common.{List, ℕ, subst, ap, sym, ◌∙◌}
use Rattle.text_lines.specs.Cutting.{is_long, told_lines}
use Rattle.text_lines.specs.LineReader.{Finishes}
use Rattle.text_lines.specs.declared.step.Step.{Step}
use Rattle.text_lines.proofs.CuttingLaws.{told_line_short}
use Rattle.mtx_io.specs.Progress.{Follows}
use Rattle.std.proofs.Common.{◌≡◌, ◌∷◌, [], false}
use Rattle.mtx_io.specs.Matrix.{is_skipped}
use Rattle.mtx_io.specs.MtxReader.{EndsEntry}
use Rattle.mtx_io.specs.Reader.{IsReadSoFar, TellsEntry}
use Rattle.mtx_io.proofs.EndedEntries.{entry_ends, on_err}
use Rattle.mtx_io.proofs.ReaderLaws.{reads_on, bad_at_end, more_at_end, line_at_end}
use Rattle.mtx_io.proofs.pieces.take_end.Goals as goal

pub returns-then-is_bad-clause-read : goal.returns-then-is_bad-clause-read
returns-then-is_bad-clause-read g c = λ fed read.
    bad_at_end g.S.Semiring.arithmetic g.S.Semiring.has_minus g.S.Semiring.is_signed c.args.entries.now.order fed c.args.lines.now.text _
    c.args.entries.now.list c.args.stage (sym c.is_bad.ensures ∙ c.if-is_bad.true) read

pub after_line-requires-clause-short : goal.after_line-requires-clause-short
after_line-requires-clause-short g c =
    let ends = subst (λ (s : Step). Finishes c.args.lines.now c.finish.new.self s) c.in-Line.is c.finish.ensures in
    ap is_long c.line.ensures
    ∙ told_line_short c.finish.new.self.text c.finish.new.self.line (told_lines c.args.lines.now.text) ends.0.short ends.0.told

pub returns-in-NeedMore-clause-read : goal.returns-in-NeedMore-clause-read
returns-in-NeedMore-clause-read g c = λ fed read.
    let ends = subst (λ (s : Step). Finishes c.args.lines.now c.finish.new.self s) c.in-NeedMore.is c.finish.ensures in
    more_at_end g.S.Semiring.arithmetic g.S.Semiring.has_minus g.S.Semiring.is_signed c.args.entries.now.order fed c.args.lines.now
    c.finish.new.self
    c.args.entries.now.list c.args.stage
    (sym c.is_bad.ensures ∙ c.if-is_bad.false) ends.0.told ends.2 read

pub returns-in_ok-after-in-Line-clause-read : goal.returns-in_ok-after-in-Line-clause-read
returns-in_ok-after-in-Line-clause-read g c = λ fed read.
    let a = g.S.Semiring.arithmetic in
    let has_minus = g.S.Semiring.has_minus in
    let signed = g.S.Semiring.is_signed in
    let order = c.args.entries.now.order in
    let entries' = c.after_line.new.entries.list in
    let ends = subst (λ (s : Step). Finishes c.args.lines.now c.finish.new.self s) c.in-Line.is c.finish.ensures in
    let follows : Follows a has_minus signed order c.number-number.result c.finish.new.self.line c.args.entries.now.list c.args.stage
    entries'
    c.in_ok-after-in-Line.after =
    subst (λ (line : List ℕ). Follows a has_minus signed order c.number-number.result line c.args.entries.now.list c.args.stage entries'
    c.in_ok-after-in-Line.after) c.line.ensures c.in_ok-after-in-Line.ensures.follows in
    line_at_end a has_minus signed order fed c.args.lines.now c.finish.new.self c.args.entries.now.list entries' c.args.stage
    c.in_ok-after-in-Line.after c.number-number.result
    (sym c.is_bad.ensures ∙ c.if-is_bad.false) ends.0.told ends.2 c.number-number.ensures follows read

pub returns-in_err-after-in-Line-clause-ended : goal.returns-in_err-after-in-Line-clause-ended
returns-in_err-after-in-Line-clause-ended g c =
    let a = g.S.Semiring.arithmetic in
    let has_minus = g.S.Semiring.has_minus in
    let signed = g.S.Semiring.is_signed in
    let order = c.args.entries.now.order in
    let old = c.args.lines.now in
    let new = c.finish.new.self in
    let entries = c.args.entries.now.list in
    let ended : (fed : List ℕ) → IsReadSoFar a has_minus signed order fed old.text entries c.args.stage
    → EndsEntry a has_minus signed order fed (10 ∷ []) = λ fed read.
    let on = reads_on a has_minus signed order fed old.text entries c.args.stage (sym c.is_bad.ensures ∙ c.if-is_bad.false) read in
    let ends = subst (λ (s : Step). Finishes old new s) c.in-Line.is c.finish.ensures in
    let here : is_skipped new.line ≡ false = ap is_skipped (sym c.line.ensures) ∙ c.in_err-after-in-Line.ensures.kept in
    let entry = subst (λ (line : List ℕ). TellsEntry signed c.args.stage line) c.line.ensures c.in_err-after-in-Line.ensures.tells in
    entry_ends a has_minus signed order fed old new (10 ∷ []) new.line entries c.args.stage ends.1 ends.0 on here entry in
    on_err _ _ ended
