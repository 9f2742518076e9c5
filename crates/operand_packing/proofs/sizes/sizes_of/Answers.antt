use Rattle.std.proofs.Common.{◌≡◌, ◌+◌, ◌++◌, ◌∷◌, ℕ, [], map, ap, sym, ◌∙◌}
use Rattle.std.specs.Prelude.{slice_index}
use Rattle.std.proofs.lemmas.List.{map-append}
use Rattle.index_notation.specs.Statement.{numbers_from}
use Rattle.expr_terms.specs.Ranges.{mode_size}
use Rattle.operand_packing.proofs.SizeLemmas.{numbers_snoc}
use Rattle.operand_packing.proofs.sizes.sizes_of.Goals as goal

pub loop-mode-preserved : goal.loop-mode-preserved
loop-mode-preserved c =
    let size : ℕ → ℕ = mode_size c.args.statement.now (slice_index c.args.ranges.now) c.args.tensor in
    let whole : map size (numbers_from 0 (c.loop-mode.mode + 1)) ≡ map size (numbers_from 0 c.loop-mode.mode) ++ size c.loop-mode.mode
    ∷ [] =
    ap (map size) (numbers_snoc c.loop-mode.mode) ∙ map-append size (numbers_from 0 c.loop-mode.mode) (c.loop-mode.mode ∷ []) in
    c.in_ok-push.ensures.items ∙ ap (λ s. c.loop-mode.sizes.items ++ s ∷ []) c.size_of_mode.ensures
    ∙ ap (λ items. items ++ size c.loop-mode.mode ∷ []) c.loop-mode.invariant ∙ sym whole
