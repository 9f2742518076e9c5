use Rattle.std.specs.Prelude.{◌≡◌, ℕ, ◌+◌, ◌-◌, ◌<◌}
use Rattle.std.proofs.Common.{ap, sym, subst, arith}
use Rattle.level_core.specs.Entries.{one, ShareOut}
use Rattle.level_core.proofs.EntryLaws.{placed_within}
use Rattle.level_core.specs.ParentLaws.{Askable}
use Rattle.level_core.proofs.ParentLaws.{share_out}
use Rattle.level_core.proofs.positions.positions_below.Goals as goal

pub returns-clause-share : goal.returns-clause-share
returns-clause-share g c =
    let segment_of = g.L.LevelKind.meaning.segment_of c.args.level.now in
    let last = c.args.parents - 1 in
    let all : last + 1 ≡ c.args.parents = omega (arith, c.if-parents-eq0.false) in
    let ok : (p : ℕ) → p < last + 1
    → g.L.LevelKind.meaning.allowed c.args.level.now (one p) = λ p h. c.requires p (subst (λ n. p < n) all h) in
    let asked : Askable (g.L.LevelKind.meaning.allowed c.args.level.now) segment_of (last + 1) = record {
      row = g.met.L.LevelKind.laws.in_row c.args.level.now;
      each = ok;
      rise = λ p h. placed_within (segment_of (one p)).lo (segment_of (one p)).hi (g.L.LevelKind.meaning.entries c.args.level.now (one p))
          (g.met.L.LevelKind.laws.entries c.args.level.now (one p) (ok p h)).placed;
    } in
    subst (λ n. ShareOut segment_of n c.segment.result.hi) all
    (subst (λ n. ShareOut segment_of (last + 1) n) (ap (λ s. s.hi) (sym c.segment.ensures))
    (share_out (g.L.LevelKind.meaning.allowed c.args.level.now) segment_of last asked))
