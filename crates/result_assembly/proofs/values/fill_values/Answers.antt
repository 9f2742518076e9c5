use Rattle.std.specs.Prelude.{◌+◌, length, refl}
use Rattle.kernel_code.specs.declared.syntax.KExpr.{Var}
use Rattle.result_assembly.proofs.WholeResult.{whole_drained}
use Rattle.result_assembly.proofs.values.fill_values.Goals as goal

pub returns : goal.returns
returns c =
    let last = c.args.base + length c.args.format.now in
    whole_drained c.args.format.now c.args.workspace c.args.list c.args.base c.args.zero (last + 1) (Var last) c.in_ok-code.code
    c.in_ok-values.values c.append.new.self c.requires.format c.requires.last c.in_ok-code.ensures refl refl c.in_ok-values.ensures
    c.in_ok-append.ensures.ok
