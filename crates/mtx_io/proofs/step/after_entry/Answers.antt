use Rattle.std.proofs.Common.{◌≡◌, Bool, ◌++◌, ap, sym, ◌∙◌}
use Rattle.text_lines.specs.Tokens.{tokens}
use Rattle.mtx_io.specs.Entry.{entries_by, entries_of}
use Rattle.mtx_io.specs.Matrix.{entry_due}
use Rattle.mtx_io.proofs.ProgressLaws.{entry_taken}
use Rattle.mtx_io.proofs.step.after_entry.Goals as goal

pub returns-in_ok-push_entries-in-Ok-clause-follows :
    goal.returns-in_ok-push_entries-in-Ok-clause-follows
returns-in_ok-push_entries-in-Ok-clause-follows g c =
    let a = g.S.Semiring.arithmetic in
    let symmetry = ap (λ h. h.symmetry) (c.header.ensures ∙ c.in-Ok.ensures.header) in
    let order = sym c.requires.stage.1 in
    let pushed : c.push_entries.new.entries.list ≡ c.args.entries.now.list ++ entries_of a c.args.lines.header c.in-Ok.told =
    c.in_ok-push_entries-in-Ok.ensures.ok ∙ (λ i. c.args.entries.now.list ++ entries_by a (symmetry i) (order i) c.in-Ok.told) in
    let told = c.in-Ok.ensures.told
    ∙ ap (λ (signed : Bool). entry_due signed c.args.lines.header c.args.lines.slots (tokens c.args.line.now)) c.is_signed.ensures in
    entry_taken a g.S.Semiring.has_minus g.S.Semiring.is_signed c.args.entries.now.order c.args.number c.args.line.now
    c.args.entries.now.list
    c.push_entries.new.entries.list c.args.lines c.take.new.self c.in-Ok.told
    c.requires.short c.requires.kept told pushed c.in-Ok.ensures.header c.in-Ok.ensures.left
