use Rattle.std.proofs.Common.{◌≡◌, ◌-◌, ◌∷◌, ap, sym, ◌∙◌, drop, replicate}
use Rattle.mtx_io.specs.Due.{slots_of, slot_with}
use Rattle.mtx_io.specs.Matrix.{entry_due}
use Rattle.mtx_io.proofs.SlotLaws.{one_of_entries}
use Rattle.text_lines.specs.Tokens.{tokens}
use Rattle.mtx_io.proofs.due.EntryLines.take.Goals as goal

pub returns-else-count-eq0-clause-told : goal.returns-else-count-eq0-clause-told
returns-else-count-eq0-clause-told c =
    let header = ap (λ s. s.header) c.self.view_is in
    let slot = slot_with c.in-Entries.value in
    let slots : c.args.self.now.slots ≡ slot ∷ replicate (c.in-Entries.count - 1) slot =
    sym (ap (λ s. s.slots) c.self.view_is) ∙ ap (slots_of c.self.inside.header) c.in-Entries.is
    ∙ one_of_entries (slot_with c.in-Entries.value) c.in-Entries.count c.if-count-eq0.false in
    c.read_entry.ensures ∙ (λ i. entry_due c.args.signed (header i) (sym slots i) (tokens c.args.line.now))

pub returns-else-count-eq0-clause-left : goal.returns-else-count-eq0-clause-left
returns-else-count-eq0-clause-left c =
    sym (ap (drop 1) (sym (ap (λ s. s.slots) c.self.view_is) ∙ ap (slots_of c.self.inside.header) c.in-Entries.is
    ∙ one_of_entries (slot_with c.in-Entries.value) c.in-Entries.count c.if-count-eq0.false))
