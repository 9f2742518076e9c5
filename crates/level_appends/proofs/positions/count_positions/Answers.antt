use Rattle.std.specs.Prelude.{◌≡◌, [], ◌∷◌, ◌++◌}
use Rattle.std.proofs.Common.{◌∙◌, sym, ap, subst}
use Rattle.kernel_code.specs.declared.syntax.Arr.TheVariants.{Dimension}
use Rattle.kernel_code.specs.declared.syntax.KExpr.{Num, At}
use Rattle.kernel_code.specs.declared.syntax.KStmt.{Set}
use Rattle.level_core.specs.GuardedProducts.{guarded_product}
use Rattle.level_appends.specs.Positions.{count_code, CountsPositions}
use Rattle.level_appends.proofs.Counting.{counts_positions}
use Rattle.level_appends.proofs.positions.count_positions.Goals as goal

pub returns : goal.returns
returns c =
    let total = c.args.total in
    let count = c.in_ok-count.ensures ∙ ap (guarded_product c.args.parents) c.in_ok-size.ensures in
    let code : c.append.new.self ≡ count_code c.args.level total c.args.parents =
    c.in_ok-append.ensures.ok ∙ ap (λ k. k ++ c.in_ok-refuse.field-0) (c.in_ok-code.ensures ∙ ap (λ n. Set total n ∷ []) count)
    ∙ ap (λ k. Set total (guarded_product c.args.parents (At (Dimension 0 c.args.level) (Num 0))) ∷ k) c.in_ok-refuse.ensures in
    subst (CountsPositions c.args.level total c.args.parents) (sym code) (counts_positions c.args.level total c.args.parents)
