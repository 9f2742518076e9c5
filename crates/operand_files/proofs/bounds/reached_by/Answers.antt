use Rattle.std.proofs.Common.{ℕ, List, [], ◌∷◌, ◌++◌, ap, sym, ◌∙◌, zero-add}
use Rattle.std.proofs.lemmas.List.FromFn.{map-range_with_len_more}
use Rattle.expr_terms.specs.Ranges.{reach}
use Rattle.expr_terms.specs.declared.bound.Bound.{Bound}
use Rattle.expr_terms.specs.declared.bound.Bound.TheVariants.{AtLeast}
use Rattle.operand_files.specs.Decoded.{reached}
use Rattle.operand_files.proofs.bounds.reached_by.Goals as goal

pub loop-mode-preserved : goal.loop-mode-preserved
loop-mode-preserved c =
    let n : ℕ = c.loop-mode.mode in
    let list = c.args.entries.now.list in
    let more = map-range_with_len_more (λ (mode : ℕ). AtLeast (reach list mode)) 0 n n (zero-add n) in
    c.in_ok-push.ensures.items ∙ ap (λ (w : List Bound). w ++ AtLeast c.reach_of.result ∷ []) c.loop-mode.invariant
    ∙ ap (λ r. reached n list ++ AtLeast r ∷ []) c.reach_of.ensures ∙ sym more
