use Rattle.std.proofs.Common.{◌+◌, List, ℕ, subst, ap, sym, ◌∙◌, ◌++◌, ◌∷◌, [], take, drop, false, ◌≡◌}
use Rattle.std.proofs.lemmas.List.{take-append-drop}
use Rattle.mtx_io.specs.Matrix.{is_skipped}
use Rattle.mtx_io.proofs.EndedEntries.{entry_ends, ends_in_more, on_err}
use Rattle.mtx_io.specs.MtxReader.{EndsEntry}
use Rattle.text_lines.specs.Cutting.{is_long, told_lines}
use Rattle.text_lines.specs.LineReader.{Feeds, LineReader, TellsLine}
use Rattle.text_lines.specs.declared.step.Step.{Step}
use Rattle.text_lines.proofs.CuttingLaws.{told_line_short}
use Rattle.mtx_io.specs.Progress.{counted, Follows}
use Rattle.mtx_io.specs.Reader.{IsKnown, IsReadSoFar, TellsEntry}
use Rattle.mtx_io.specs.declared.stage.Stage.{Stage}
use Rattle.mtx_io.proofs.ReaderLaws.{reads_on, line_read, long_read, counts_behind}
use Rattle.mtx_io.proofs.pieces.take_step.Goals as goal

pub after_line-requires-clause-short : goal.after_line-requires-clause-short
after_line-requires-clause-short g c =
    let tells = c.in-Some.ensures.tells in
    told_line_short c.take_whole.new.self.text c.in-Some.line.now (told_lines c.args.lines.now.text) tells.short tells.told

pub returns-in-Some-clause-read : goal.returns-in-Some-clause-read
returns-in-Some-clause-read g c = λ fed read.
    let whole = c.in-Some.ensures in
    line_read g.S.Semiring.arithmetic g.S.Semiring.has_minus g.S.Semiring.is_signed c.args.entries.now.order fed c.args.lines.now
    c.take_whole.new.self _
    c.in-Some.line.now c.args.entries.now.list c.after_line.new.entries.list c.args.stage c.in_ok-after.after c.number-number.result
    c.requires.good whole.text whole.tells c.number-number.ensures c.in_ok-after.ensures.follows c.in_ok-after.ensures.known read

pub returns-in_err-after-clause-ended : goal.returns-in_err-after-clause-ended
returns-in_err-after-clause-ended g c =
    let a = g.S.Semiring.arithmetic in
    let has_minus = g.S.Semiring.has_minus in
    let signed = g.S.Semiring.is_signed in
    let order = c.args.entries.now.order in
    let old = c.args.lines.now in
    let n = c.in-Some.n in
    let piece = c.args.piece.now in
    let entries = c.args.entries.now.list in
    let whole = c.in-Some.ensures in
    let ended : (fed : List ℕ) → IsReadSoFar a has_minus signed order fed old.text entries c.args.stage
    → EndsEntry a has_minus signed order fed piece = λ fed read.
    let on = reads_on a has_minus signed order fed old.text entries c.args.stage c.requires.good read in
    let ends = entry_ends a has_minus signed order fed old c.take_whole.new.self (take n piece) c.in-Some.line.now entries c.args.stage
    whole.text whole.tells on c.in_err-after.ensures.kept c.in_err-after.ensures.tells in
    subst (λ (all : List ℕ). EndsEntry a has_minus signed order fed all) (take-append-drop n piece)
    (ends_in_more a has_minus signed order fed (take n piece) (drop n piece) ends) in
    on_err _ _ ended

pub after_line-requires-in-Line-clause-short : goal.after_line-requires-in-Line-clause-short
after_line-requires-in-Line-clause-short g c =
    let old = c.take_whole.new.self in
    let tells : TellsLine old c.feed-n.new.self =
    subst (λ (s : Step). Feeds old c.feed-n.new.self c.args.piece.now c.feed-n.result.0 s) c.in-Line.is c.feed-n.ensures.step in
    ap is_long c.line.ensures
    ∙ told_line_short c.feed-n.new.self.text c.feed-n.new.self.line (told_lines old.text) tells.short tells.told

pub returns-in-LongLine-clause-read : goal.returns-in-LongLine-clause-read
returns-in-LongLine-clause-read g c = λ fed read.
    let a = g.S.Semiring.arithmetic in
    let old = c.take_whole.new.self in
    let still = subst (λ
    (l : LineReader). IsReadSoFar a g.S.Semiring.has_minus g.S.Semiring.is_signed c.args.entries.now.order fed l.text
    c.args.entries.now.list
    c.args.stage) (sym c.in_default.ensures) read in
    let long = subst (λ (s : Step). Feeds old c.feed-n.new.self c.args.piece.now c.feed-n.result.0 s) c.in-LongLine.is
    c.feed-n.ensures.step in
    subst (λ (s : Stage). IsReadSoFar a g.S.Semiring.has_minus g.S.Semiring.is_signed c.args.entries.now.order
    (fed ++ take c.feed-n.result.0 c.args.piece.now)
    c.feed-n.new.self.text c.args.entries.now.list s) (sym c.long_line_behind.ensures)
    (long_read a g.S.Semiring.has_minus g.S.Semiring.is_signed c.args.entries.now.order fed old c.feed-n.new.self _ c.args.entries.now.list
    c.args.stage (counted (c.number.result + 1))
    c.requires.good c.feed-n.ensures.text long.0 (counts_behind c.feed-n.new.self.text c.number.result c.number.ensures) still)

pub returns-in_ok-after-in-Line-clause-read : goal.returns-in_ok-after-in-Line-clause-read
returns-in_ok-after-in-Line-clause-read g c = λ fed read.
    let a = g.S.Semiring.arithmetic in
    let has_minus = g.S.Semiring.has_minus in
    let signed = g.S.Semiring.is_signed in
    let order = c.args.entries.now.order in
    let old = c.take_whole.new.self in
    let entries' = c.after_line-in-Line.new.entries.list in
    let still = subst (λ (l : LineReader). IsReadSoFar a has_minus signed order fed l.text c.args.entries.now.list c.args.stage)
    (sym c.in_default.ensures) read in
    let tells : TellsLine old c.feed-n.new.self =
    subst (λ (s : Step). Feeds old c.feed-n.new.self c.args.piece.now c.feed-n.result.0 s) c.in-Line.is c.feed-n.ensures.step in
    let follows : Follows a has_minus signed order c.number-number-in-Line.result c.feed-n.new.self.line c.args.entries.now.list
    c.args.stage
    entries' c.in_ok-after-in-Line.after =
    subst (λ (line : List ℕ). Follows a has_minus signed order c.number-number-in-Line.result line c.args.entries.now.list c.args.stage
    entries' c.in_ok-after-in-Line.after) c.line.ensures c.in_ok-after-in-Line.ensures.follows in
    let knows : (taken : List (List ℕ)) → IsKnown c.args.stage taken
    → IsKnown c.in_ok-after-in-Line.after (taken ++ c.feed-n.new.self.line ∷ []) =
    subst (λ (line : List ℕ). (taken : List (List ℕ)) → IsKnown c.args.stage taken
    → IsKnown c.in_ok-after-in-Line.after (taken ++ line ∷ [])) c.line.ensures c.in_ok-after-in-Line.ensures.known in
    line_read a has_minus signed order fed old c.feed-n.new.self _ c.feed-n.new.self.line c.args.entries.now.list entries'
    c.args.stage c.in_ok-after-in-Line.after c.number-number-in-Line.result
    c.requires.good c.feed-n.ensures.text tells c.number-number-in-Line.ensures follows knows still

pub returns-in_err-after-in-Line-clause-ended : goal.returns-in_err-after-in-Line-clause-ended
returns-in_err-after-in-Line-clause-ended g c =
    let a = g.S.Semiring.arithmetic in
    let has_minus = g.S.Semiring.has_minus in
    let signed = g.S.Semiring.is_signed in
    let order = c.args.entries.now.order in
    let old = c.take_whole.new.self in
    let new = c.feed-n.new.self in
    let n = c.feed-n.result.0 in
    let piece = c.args.piece.now in
    let entries = c.args.entries.now.list in
    let ended : (fed : List ℕ) → IsReadSoFar a has_minus signed order fed c.args.lines.now.text entries c.args.stage
    → EndsEntry a has_minus signed order fed piece = λ fed read.
    let still = subst (λ (l : LineReader). IsReadSoFar a has_minus signed order fed l.text entries c.args.stage)
    (sym c.in_default.ensures) read in
    let on = reads_on a has_minus signed order fed old.text entries c.args.stage c.requires.good still in
    let tells : TellsLine old new = subst (λ (s : Step). Feeds old new piece n s) c.in-Line.is c.feed-n.ensures.step in
    let here : is_skipped new.line ≡ false = ap is_skipped (sym c.line.ensures) ∙ c.in_err-after-in-Line.ensures.kept in
    let entry = subst (λ (line : List ℕ). TellsEntry signed c.args.stage line) c.line.ensures c.in_err-after-in-Line.ensures.tells in
    let ends = entry_ends a has_minus signed order fed old new
    (take n piece) new.line entries c.args.stage c.feed-n.ensures.text tells on here
    entry in
    subst (λ (all : List ℕ). EndsEntry a has_minus signed order fed all) (take-append-drop n piece)
    (ends_in_more a has_minus signed order fed (take n piece) (drop n piece) ends) in
    on_err _ _ ended
