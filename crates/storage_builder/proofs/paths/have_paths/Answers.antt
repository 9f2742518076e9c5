use Rattle.storage_builder.proofs.Wholes.{zeros_of, zeros_all}
use Rattle.storage_builder.proofs.paths.have_paths.Goals as goal

pub returns : goal.returns
returns c =
    let a = c.args in
    let told = c.in_ok-clear_paths.ensures in
    let cleared = told.cleared c.if-not-branch.false in (
      λ e. (
        told.opened.0 c.if-not-branch.false,
        zeros_of a.nothing a.levels.now a.values.now c.clear_paths.new.values cleared told.long (c.are_all.ensures.0 e),
      ),
      λ p. c.are_all.ensures.1 (zeros_all a.nothing a.levels.now a.values.now c.clear_paths.new.values cleared told.long p.1),
    )
