use Rattle.std.specs.Prelude.{◌≡◌, length}
use Rattle.std.proofs.Common.{◌∙◌, ap, subst, sym}
use Rattle.level_core.specs.declared.stage.Stage.TheVariants.{Finished}
use Rattle.coordinate_lists.proofs.Words.{all_fit}
use Rattle.singleton_level.specs.Singleton.{KeepsRules, stored}
use Rattle.singleton_level.proofs.Handed.{made_keeps, coords_below}
use Rattle.singleton_level.proofs.singleton.SingletonLevel.from_words.Goals as goal

pub copied-requires : goal.copied-requires
copied-requires c = all_fit c.needs_wide.result c.args.n c.args.coords.now c.needs_wide.ensures
    (coords_below c.args.n c.args.unique c.requires.0 c.args.coords.now c.requires.1 c.requires.2)

pub invariant_of-result : goal.invariant_of-result
invariant_of-result c =
    let is = c.in_ok-coords.ensures.items in
    let many : c.len.result ≡ length c.args.coords.now = c.len.ensures ∙ ap length is in (
      subst KeepsRules
          (λ i. stored c.args.n c.args.unique Finished (sym many i) (sym is i) c.in_ok-coords.coords.spare)
          (made_keeps c.args.n c.args.unique c.requires.0 c.args.coords.now c.requires.1 c.requires.2 c.in_ok-coords.coords.spare),
      c.in_ok-coords.ensures.wide ∙ c.needs_wide.ensures,
    )

pub returns : goal.returns
returns c =
    let is = c.in_ok-coords.ensures.items in
    let many : c.len.result ≡ length c.args.coords.now = c.len.ensures ∙ ap length is in (
      c.in_ok-coords.coords.spare,
      λ i. stored c.args.n c.args.unique Finished (many i) (is i) c.in_ok-coords.coords.spare,
    )
