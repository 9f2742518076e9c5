use Rattle.std.proofs.Common.{subst, ◌∙◌, sym}
use Rattle.tns_io.specs.ReadSoFar.{is_want}
use Rattle.tns_io.specs.ReaderState.{IsKnown}
use Rattle.tns_io.specs.TnsReader.{Refuses}
use Rattle.tns_io.proofs.EntryLaws.{known_refuses}
use Rattle.tns_io.proofs.KindLaws.{answered_kinds, refused_kinds}
use Rattle.tns_io.proofs.tns_reader.TnsReader.finish.Goals as goal

pub returns-in-Some : goal.returns-in-Some
returns-in-Some g c =
    let refuses : Refuses g.S.Semiring.is_signed c.args.self c.in-Some.fault =
    subst (λ reader. Refuses g.S.Semiring.is_signed reader c.in-Some.fault)
    ((λ i. record { order = c.self.inside.entries.order; text = c.self.inside.fed.bytes; wants = is_want (sym c.in-Some.is i) }) ∙
    c.self.view_is)
    (known_refuses g.S.Semiring.is_signed c.in-Some.fault c.self.inside.entries.order c.self.inside.fed.bytes c.self.inside.lines.text
    c.self.inside.entries.list
    (subst (λ f. IsKnown g.S.Semiring.is_signed f c.self.inside.entries.order c.self.inside.fed.bytes c.self.inside.lines.text
    c.self.inside.entries.list)
    c.in-Some.is c.self.invariant)) in
    record { told = refuses; kinds = refused_kinds g.S.Semiring.is_signed c.args.self c.in-Some.fault refuses }

pub returns-in-None-clause-kinds : goal.returns-in-None-clause-kinds
returns-in-None-clause-kinds g c = answered_kinds _ _ c.finish_lines.result c.finish_lines.ensures
