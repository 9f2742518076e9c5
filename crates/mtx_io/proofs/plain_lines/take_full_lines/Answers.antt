use Rattle.std.proofs.Common.{◌≡◌, ℕ, List, ◌++◌, take, ap, sym, ◌∙◌, subst, Option, None, Some, refl, rules, w64}
use Rattle.std.proofs.lemmas.Int.{to_z-of_z}
use mir.Val.{SFits}
use Rattle.text_lines.specs.Buffered.{count_of}
use Rattle.text_lines.specs.Cutting.{told_lines}
use Rattle.text_lines.specs.LineReader.{LineReader}
use Rattle.text_lines.specs.Tokens.{tokens}
use Rattle.text_lines.specs.declared.line_kind.LineKind.{LineKind}
use Rattle.text_lines.proofs.CuttingLaws.{told_line_short}
use Rattle.mtx_io.specs.MtxReader.{EndsEntry}
use Rattle.mtx_io.specs.Plain.{full_due, stage_behind}
use Rattle.mtx_io.specs.Progress.{Follows}
use Rattle.mtx_io.specs.Reader.{IsReadSoFar}
use Rattle.mtx_io.specs.declared.stage.Stage.TheVariants.{Sized, Bad}
use Rattle.mtx_io.proofs.EndedEntries.{on_err}
use Rattle.mtx_io.proofs.FullLines.{full_step, full_wants, plain_kept, read_taken, read_to, taken_more}
use Rattle.mtx_io.proofs.plain_lines.take_full_lines.Goals as goal

pub push_plain-requires-clause-short : goal.push_plain-requires-clause-short
push_plain-requires-clause-short g c =
    let tells = c.in-Some.ensures.taken.tells in
    told_line_short c.take_plain.new.self.text c.in-Some.line.now (told_lines c.loop-left.lines.text) tells.short tells.told

pub loop-left-preserved : goal.loop-left-preserved
loop-left-preserved g c =
    let a = g.S.Semiring.arithmetic in
    let has_minus = g.S.Semiring.has_minus in
    let signed = g.S.Semiring.is_signed in
    let order = c.args.entries.now.order in
    let header = c.args.header in
    let left = c.loop-left.left in
    let taken = c.loop-left.invariant.read.0 in
    let rest = c.loop-left.rest.now in
    let n = c.in-Some.n in
    let line = c.in-Some.line.now in
    let entries = c.loop-left.entries.list in
    let entries' = c.push_plain.new.entries.list in
    let count = count_of (told_lines c.take_plain.new.self.text) in
    let follows : Follows a has_minus signed order count line entries (Sized (full_due header left)) entries'
    (stage_behind header left count None) =
    subst (λ (k : ℕ). Follows a has_minus signed k count line entries (Sized (full_due header left)) entries'
    (stage_behind header left count None)) c.loop-left.invariant.order
    (subst (λ (b : Option LineKind). Follows a has_minus signed c.loop-left.entries.order count line entries
    (Sized (full_due header left)) entries' (stage_behind header left count b)) c.in-None.is (c.in_ok-bad.ensures.follows count)) in
    record {
      order = c.in_ok-bad.ensures.order ∙ c.loop-left.invariant.order;
      read = (
        taken ++ take n rest,
        taken_more c.args.piece.now taken rest n c.loop-left.invariant.read.1
            ∙ ap (λ (back : List ℕ). (taken ++ take n rest) ++ back) (sym c.split_at.ensures.back),
        λ fed read. full_step a has_minus signed order fed taken rest line n c.loop-left.lines c.take_plain.new.self entries entries'
            header left count None c.in-Some.ensures.taken refl follows (c.loop-left.invariant.read.2 fed read),
      );
    }

pub returns-in_default-clause-read : goal.returns-in_default-clause-read
returns-in_default-clause-read g c = λ fed read.
    let a = g.S.Semiring.arithmetic in
    let has_minus = g.S.Semiring.has_minus in
    let signed = g.S.Semiring.is_signed in
    let order = c.args.entries.now.order in
    let taken = c.loop-left.invariant.read.0 in
    let entries = c.loop-left.entries.list in
    let full = full_due c.args.header c.loop-left.left in
    let still : IsReadSoFar a has_minus signed order (fed ++ taken) c.take_plain.new.self.text entries (Sized full) =
    subst (λ (l : LineReader). IsReadSoFar a has_minus signed order (fed ++ taken) l.text entries (Sized full))
    (sym c.in_default.ensures.taken) (c.loop-left.invariant.read.2 fed read) in
    read_taken a has_minus signed order fed c.args.piece.now taken c.loop-left.rest.now c.take_plain.new.self.text entries (Sized full)
    (Sized c.full.result) c.loop-left.invariant.read.1 (ap Sized c.full.ensures) still

pub returns-in-Some-bad-clause-read : goal.returns-in-Some-bad-clause-read
returns-in-Some-bad-clause-read g c = λ fed read.
    let a = g.S.Semiring.arithmetic in
    let has_minus = g.S.Semiring.has_minus in
    let signed = g.S.Semiring.is_signed in
    let order = c.args.entries.now.order in
    let header = c.args.header in
    let left = c.loop-left.left in
    let taken = c.loop-left.invariant.read.0 in
    let rest = c.loop-left.rest.now in
    let n = c.in-Some.n in
    let line = c.in-Some.line.now in
    let entries = c.loop-left.entries.list in
    let entries' = c.push_plain.new.entries.list in
    let new = c.take_plain.new.self in
    let count = c.number.result in
    let kind = c.in-Some-bad.kind in
    let follows : Follows a has_minus signed order count line entries (Sized (full_due header left)) entries'
    (stage_behind header left count (Some kind)) =
    subst (λ (k : ℕ). Follows a has_minus signed k count line entries (Sized (full_due header left)) entries'
    (stage_behind header left count (Some kind))) c.loop-left.invariant.order
    (subst (λ (b : Option LineKind). Follows a has_minus signed c.loop-left.entries.order count line entries
    (Sized (full_due header left)) entries' (stage_behind header left count b)) c.in-Some-bad.is (c.in_ok-bad.ensures.follows count)) in
    let whole : c.args.piece.now ≡ (taken ++ take n rest) ++ c.split_at.result.1.now =
    taken_more c.args.piece.now taken rest n c.loop-left.invariant.read.1
    ∙ ap (λ (back : List ℕ). (taken ++ take n rest) ++ back) (sym c.split_at.ensures.back) in
    read_taken a has_minus signed order fed c.args.piece.now (taken ++ take n rest) c.split_at.result.1.now new.text entries'
    (Bad count kind) c.bad_line.result whole c.bad_line.ensures
    (full_step a has_minus signed order fed taken rest line n c.loop-left.lines new entries entries' header left count (Some kind)
    c.in-Some.ensures.taken c.number.ensures follows (c.loop-left.invariant.read.2 fed read))

pub returns-clause-read : goal.returns-clause-read
returns-clause-read g c = λ fed read.
    let full = full_due c.args.header c.loop-left.left in
    read_taken g.S.Semiring.arithmetic g.S.Semiring.has_minus g.S.Semiring.is_signed c.args.entries.now.order fed c.args.piece.now
    c.loop-left.invariant.read.0 c.loop-left.rest.now c.loop-left.lines.text c.loop-left.entries.list (Sized full)
    (Sized c.full-2.result) c.loop-left.invariant.read.1 (ap Sized c.full-2.ensures) (c.loop-left.invariant.read.2 fed read)

pub returns-in_err-bad-clause-ended : goal.returns-in_err-bad-clause-ended
returns-in_err-bad-clause-ended g c =
    let a = g.S.Semiring.arithmetic in
    let has_minus = g.S.Semiring.has_minus in
    let signed = g.S.Semiring.is_signed in
    let order = c.args.entries.now.order in
    let line = c.in-Some.line.now in
    let full = full_due c.args.header c.loop-left.left in
    let fits : SFits w64 c.in-Some.value = search rules in
    let are = read_to (tokens line) c.take_plain.new.numbers c.in-Some.value c.plain_line.result c.in-Some.ensures.numbers
    c.plain_line.ensures.numbers (c.plain_line.ensures.value ∙ to_z-of_z w64 c.in-Some.value fits) in
    let ended : (fed : List ℕ) → IsReadSoFar a has_minus signed order fed c.args.lines.now.text c.args.entries.now.list
    (Sized (full_due c.args.header c.args.count))
    → EndsEntry a has_minus signed order fed c.args.piece.now = λ fed read.
    full_wants a has_minus signed order fed c.args.piece.now c.loop-left.invariant.read.0 c.loop-left.rest.now line c.in-Some.n
    c.loop-left.lines c.take_plain.new.self c.loop-left.entries.list c.args.header c.loop-left.left c.loop-left.invariant.read.1
    c.in-Some.ensures.taken (plain_kept line c.plain_line.result are) c.in_err-bad.ensures.tells
    (c.loop-left.invariant.read.2 fed read) in
    on_err _ _ ended
