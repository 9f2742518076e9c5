use Rattle.std.proofs.Common.{◌≡◌, ◌++◌, Ok, Err, sym, ◌∙◌}
use Rattle.text_lines.specs.Tokens.{tokens}
use Rattle.mtx_io.specs.Entry.{entries_by, entries_of}
use Rattle.mtx_io.specs.Plain.{full_due}
use Rattle.mtx_io.specs.Reader.{TellsEntry}
use Rattle.mtx_io.specs.declared.stage.Stage.TheVariants.{Sized}
use Rattle.mtx_io.proofs.EndedEntries.{on_err}
use Rattle.mtx_io.proofs.FullLines.{entry_follows, numbers_due, plain_kept}
use Rattle.mtx_io.proofs.ProgressLaws.{entry_bad}
use Rattle.mtx_io.proofs.plain_lines.push_plain.Goals as goal

pub returns-in_ok-push_entries-in-Ok-clause-follows : goal.returns-in_ok-push_entries-in-Ok-clause-follows
returns-in_ok-push_entries-in-Ok-clause-follows g c = λ number.
    let a = g.S.Semiring.arithmetic in
    let line = c.args._line.now in
    let header = c.args.header.now in
    let order = sym c.requires.stage.1 in
    let pushed : c.push_entries.new.entries.list ≡ c.args.entries.now.list ++ entries_of a header c.in-Ok.told =
    c.in_ok-push_entries-in-Ok.ensures.ok ∙ (λ i. c.args.entries.now.list ++ entries_by a header.symmetry (order i) c.in-Ok.told) in
    entry_follows a g.S.Semiring.has_minus g.S.Semiring.is_signed c.args.entries.now.order number line c.args.entries.now.list
    c.push_entries.new.entries.list header c.args._left c.in-Ok.told c.requires.short (plain_kept line c.args.plain c.requires.plain)
    c.requires.some
    (numbers_due g.S.Semiring.is_signed c.is_signed.result header c.args._left (tokens line) c.args.plain (Ok c.in-Ok.told) c.requires.some
    c.requires.plain c.is_signed.ensures c.in-Ok.ensures)
    pushed

pub returns-in-Err-clause-follows : goal.returns-in-Err-clause-follows
returns-in-Err-clause-follows g c = λ number.
    let line = c.args._line.now in
    let header = c.args.header.now in
    entry_bad g.S.Semiring.arithmetic g.S.Semiring.has_minus g.S.Semiring.is_signed c.args.entries.now.order number line
    c.args.entries.now.list c.args.entries.now.list (full_due header c.args._left) c.in-Err.kind c.requires.short
    (plain_kept line c.args.plain c.requires.plain)
    (numbers_due g.S.Semiring.is_signed c.is_signed.result header c.args._left (tokens line) c.args.plain (Err c.in-Err.kind)
    c.requires.some c.requires.plain c.is_signed.ensures c.in-Err.ensures)

pub returns-in_err-push_entries-in-Ok-clause-tells : goal.returns-in_err-push_entries-in-Ok-clause-tells
returns-in_err-push_entries-in-Ok-clause-tells g c =
    let line = c.args._line.now in
    let tells : TellsEntry g.S.Semiring.is_signed (Sized (full_due c.args.header.now c.args._left)) line = (
      c.in-Ok.told,
      numbers_due g.S.Semiring.is_signed c.is_signed.result c.args.header.now c.args._left (tokens line)
          c.args.plain (Ok c.in-Ok.told) c.requires.some c.requires.plain c.is_signed.ensures c.in-Ok.ensures,
    ) in
    on_err _ _ tells
