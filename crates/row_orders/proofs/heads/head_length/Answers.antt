use Rattle.std.specs.Prelude.{◌≡◌, ℕ, ◌+◌, ◌<◌, true, false, List, length, take, slice_index_or}
use Rattle.std.proofs.Common.{◌∙◌, sym, ap, arith}
use Rattle.std.proofs.lemmas.List.{take_all, take_more, length-take-le}
use Rattle.level_core.specs.declared.letter.Letter.TheVariants.{Dense}
use Rattle.format_spec.specs.declared.format.FormatLevel.{FormatLevel}
use Rattle.row_orders.specs.Heads.{is_dense, head_levels}
use Rattle.row_orders.proofs.HeadLengths.{head_taken, head_within, dense_more, sparse_more}
use Rattle.row_orders.proofs.heads.head_length.Goals as goal
use Rattle.row_orders.proofs.heads.head_length.Goals.{then-not-is_dense, else-not-is_dense}

behind_sparse : (levels : List FormatLevel) (depth : ℕ) (d : FormatLevel) → depth < length levels
    → is_dense (slice_index_or levels depth d) ≡ false → depth + 1 ≡ length (head_levels (take (depth + 1) levels))
behind_sparse levels depth d inside sparse =
    sym (ap (λ ls. length (head_levels ls)) (take_more levels depth d inside)
    ∙ sparse_more (take depth levels) (slice_index_or levels depth d) sparse
    ∙ ap (λ n. n + 1) (length-take-le depth levels (omega (arith, inside))))

behind_dense : (levels : List FormatLevel) (depth : ℕ) (d : FormatLevel) → depth < length levels
    → is_dense (slice_index_or levels depth d) ≡ true
    → length (head_levels (take depth levels)) ≡ length (head_levels (take (depth + 1) levels))
behind_dense levels depth d inside dense =
    sym (ap (λ ls. length (head_levels ls)) (take_more levels depth d inside)
    ∙ dense_more (take depth levels) (slice_index_or levels depth d) dense)

pub loop-depth-preserved : goal.loop-depth-preserved
loop-depth-preserved c =
    let levels = c.levels-level-items.result.now in
    let none : FormatLevel = record { letter = Dense; mode = 0 } in
    let inside : c.loop-depth.depth < length levels = c.loop-depth-test.true in
    elim c.if-not-is_dense.branch [
      | then-not-is_dense w ↦ (
          w.length-is ∙ behind_sparse levels c.loop-depth.depth none inside (sym c.is_dense.ensures ∙ w.if-not-is_dense.true))
      | else-not-is_dense w ↦ (
          w.length-is ∙ c.loop-depth.invariant
          ∙ behind_dense levels c.loop-depth.depth none inside (sym c.is_dense.ensures ∙ w.if-not-is_dense.false))
    ]

pub returns-clause-value : goal.returns-clause-value
returns-clause-value c =
    c.loop-depth.invariant
    ∙ ap (λ ls. length (head_levels ls)) (take_all c.loop-depth.depth c.levels-level-items.result.now c.loop-depth-test.false
    ∙ c.levels-level-items.ensures.value)

pub returns-clause-levels : goal.returns-clause-levels
returns-clause-levels c = ap (λ n. take n c.args.format.now) (returns-clause-value c) ∙ head_taken c.args.format.now

pub returns-clause-within : goal.returns-clause-within
returns-clause-within c =
    let value = returns-clause-value c in
    let within = head_within c.args.format.now in
    omega (arith, value, within)
