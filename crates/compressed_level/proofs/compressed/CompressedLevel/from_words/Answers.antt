use Rattle.std.specs.Prelude.{◌≡◌, ◌-◌, length}
use Rattle.std.proofs.Common.{◌∙◌, ap, subst, sym}
use Rattle.level_core.specs.declared.stage.Stage.TheVariants.{Finished}
use Rattle.level_core.specs.Logs.{running}
use Rattle.coordinate_lists.proofs.Words.{all_fit}
use Rattle.compressed_level.specs.Compressed.{KeepsRules, IsStored, stored}
use Rattle.compressed_level.proofs.PartLaws.{running_length}
use Rattle.compressed_level.proofs.Handed.{made_keeps, made_stored, coords_below, numbers_few}
use Rattle.compressed_level.proofs.compressed.CompressedLevel.from_words.Goals as goal

pub sums_of-requires : goal.sums_of-requires
sums_of-requires c = numbers_few c.args.n c.args.unique c.requires.0 c.args.numbers.now c.args.coords.now c.requires.1 c.requires.2

pub copied-requires : goal.copied-requires
copied-requires c = all_fit c.needs_wide.result c.args.n c.args.coords.now c.needs_wide.ensures
    (coords_below c.args.n c.args.unique c.requires.0 c.args.numbers.now c.args.coords.now c.requires.1 c.requires.2)

pub invariant_of-result : goal.invariant_of-result
invariant_of-result c =
    let n = c.args.n in
    let numbers = c.args.numbers.now in
    let ends = c.in_ok-ends.ensures.items in
    let next : c.saturating_sub-next.result ≡ length numbers - 1 =
    c.saturating_sub-next.ensures ∙ ap (λ k. k - 1) (c.len.ensures ∙ ap length ends ∙ running_length 0 numbers) in
    let is : stored n c.args.unique Finished c.in_ok-ends.ends.items c.in_ok-coords.coords.items c.saturating_sub-next.result
    c.in_ok-coords.coords.spare
    ≡ stored n c.args.unique Finished (running 0 numbers) c.args.coords.now (length numbers - 1) c.in_ok-coords.coords.spare =
    λ i. stored n c.args.unique Finished (ends i) (c.in_ok-coords.ensures.items i) (next i) c.in_ok-coords.coords.spare in (
      subst KeepsRules (sym is)
          (made_keeps n c.args.unique c.requires.0 numbers c.args.coords.now c.requires.1 c.requires.2 c.in_ok-coords.coords.spare),
      subst (IsStored Finished) (sym ends) (made_stored n c.args.unique c.requires.0 numbers c.args.coords.now c.requires.1 c.requires.2),
      c.in_ok-coords.ensures.wide ∙ c.needs_wide.ensures,
      c.in_ok-ends.ensures.wide,
    )

pub returns : goal.returns
returns c =
    let next : c.saturating_sub-next.result ≡ length c.args.numbers.now - 1 =
    c.saturating_sub-next.ensures
    ∙ ap (λ k. k - 1) (c.len.ensures ∙ ap length c.in_ok-ends.ensures.items ∙ running_length 0 c.args.numbers.now) in (
      c.in_ok-coords.coords.spare,
      λ i. stored c.args.n c.args.unique Finished (c.in_ok-ends.ensures.items i) (c.in_ok-coords.ensures.items i) (next i)
          c.in_ok-coords.coords.spare,
    )
