use Rattle.std.specs.Prelude.{◌≡◌, [], ◌∷◌}
use Rattle.std.proofs.Common.{◌∙◌, sym, ap, subst}
use Rattle.kernel_code.specs.declared.syntax.Arr.TheVariants.{Values}
use Rattle.kernel_code.specs.declared.syntax.KExpr.{Var}
use Rattle.kernel_code.specs.declared.syntax.KStmt.{AddTo}
use Rattle.result_targets.specs.Sinks.{AddsTo}
use Rattle.term_code.specs.DenseSinks.{by_level, dense_sink, position_code}
use Rattle.term_code.proofs.DenseLaws.{adds_in_place}
use Rattle.term_code.proofs.dense_sink.DenseSinkRowSink.add_row.Goals as goal

pub returns : goal.returns
returns c =
    let k = c.args.self.now in
    let keys = c.args.keys.now in
    let value = c.args.value in
    let ordered : c.as_slice-2.result.now ≡ by_level k.modes keys =
    c.as_slice-2.ensures ∙ c.in_ok-ordered.ensures ∙ ap (λ ms. by_level ms keys) c.as_slice.ensures in
    let code = c.in_ok-code.ensures ∙ ap (λ e. AddTo (Values 0) e (Var value) ∷ []) (c.in_ok-position.ensures ∙ ap position_code ordered) in
    subst (AddsTo dense_sink k keys value c.args._free) (sym code) (adds_in_place k keys value c.args._free)
