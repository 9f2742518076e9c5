use Rattle.std.proofs.Common.{◌≡◌, ◌-◌, ◌∙◌, sym, ap, subst, if◌then◌else◌}
use Rattle.kernel_code.specs.declared.syntax.LoopKind.TheVariants.{Skip}
use Rattle.kernel_code.specs.Keeps.{no_turns}
use Rattle.level_core.specs.Fragments.{Reads, SpanLeft, turns_of}
use Rattle.singleton_level.proofs.Laws.{rises_where_unique}
use Rattle.singleton_level.proofs.Laws.{letter_tells}
use Rattle.singleton_level.proofs.CodeLaws.{child_turns_are}
use Rattle.singleton_level.proofs.kind.SingletonLevelLevelKind.frag_child.Goals as goal

pub returns : goal.returns
returns c = λ setting l like parent ok e stands s held values.
    let same : l.unique ≡ c.self.inside.unique = letter_tells l.unique c.args.self.now.unique like
    ∙ sym (ap (λ n. n.unique) c.self.view_is) in
    subst (λ most. Reads setting c.in_ok-code.code c.args.free most s (SpanLeft c.args.free e.child))
    (ap (λ u. if u then no_turns else turns_of Skip (e.child.hi - e.child.lo)) (sym same) ∙ sym (child_turns_are l.unique e))
    (c.in_ok-code.ensures setting l.coords parent ok.within.inside ok.keeps.few (λ u. rises_where_unique l parent ok (same
    ∙ u)) e stands s held values)
