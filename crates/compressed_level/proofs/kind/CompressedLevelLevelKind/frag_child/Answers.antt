use Rattle.std.proofs.Common.{◌≡◌, ◌-◌, ◌∙◌, sym, ap, subst, if◌then◌else◌}
use Rattle.kernel_code.specs.declared.syntax.LoopKind.TheVariants.{Skip}
use Rattle.kernel_code.specs.Keeps.{no_turns}
use Rattle.level_core.specs.Fragments.{Reads, SpanLeft, turns_of}
use Rattle.compressed_level.specs.Compressed.{segment_of}
use Rattle.compressed_level.specs.Laws.{within_coords}
use Rattle.compressed_level.proofs.Laws.{rises_where_unique}
use Rattle.compressed_level.proofs.CodeLaws.{letter_tells, child_turns_are}
use Rattle.compressed_level.proofs.kind.CompressedLevelLevelKind.frag_child.Goals as goal

pub returns : goal.returns
returns c = λ setting l like parent ok e stands s held values.
    let same : l.unique ≡ c.self.inside.unique = letter_tells l.unique c.args.self.now.unique like
    ∙ sym (ap (λ n. n.unique) c.self.view_is) in
    subst (λ most. Reads setting c.in_ok-code.code c.args.free most s (SpanLeft c.args.free e.child))
    (ap (λ u. if u then no_turns else turns_of Skip (e.child.hi - e.child.lo)) (sym same) ∙ sym (child_turns_are l.unique e))
    (c.in_ok-code.ensures setting l.log.coords (segment_of l parent) (within_coords l parent ok).inside ok.keeps.few
    (λ u. rises_where_unique l parent ok (same ∙ u)) e stands s held.coords values)
