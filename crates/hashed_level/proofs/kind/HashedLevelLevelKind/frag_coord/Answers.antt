use Rattle.std.proofs.Common.{◌≡◌, sym, subst}
use Rattle.kernel_code.specs.Keeps.{no_turns}
use Rattle.level_core.specs.Entries.{coord_at}
use Rattle.level_core.specs.Fragments.{Reads, OptionLeft}
use Rattle.hashed_level.specs.Hashed.{entries_of}
use Rattle.hashed_level.specs.Code.{coord_code}
use Rattle.hashed_level.proofs.CodeLaws.{coord_does}
use Rattle.hashed_level.proofs.kind.HashedLevelLevelKind.frag_coord.Goals as goal

pub returns : goal.returns
returns c = λ can setting l same parent ok pos inside s held values.
    let is : c.in_ok-code.code ≡ coord_code c.args.tensor c.args.level c.in_ok-pos.pos c.args.free = c.in_ok-code.ensures in
    subst (λ code. Reads setting code c.args.free no_turns s (OptionLeft c.args.free (coord_at (entries_of l parent) pos))) (sym is)
    (coord_does setting l c.args.tensor c.args.level c.args.free c.args.args.now c.in_ok-pos.pos parent pos s c.in_ok-pos.ensures
    c.requires.below ok (inside.0, inside.1) held values)
