use Rattle.std.specs.Prelude.{◌+◌, refl}
use Rattle.std.proofs.Common.{sym, subst, add-one}
use Rattle.kernel_code.specs.declared.syntax.KExpr.{Var}
use Rattle.format_spec.specs.declared.format.FormatLevel.{FormatLevel}
use Rattle.level_core.specs.declared.letter.Letter.TheVariants.{Dense}
use Rattle.result_assembly.specs.Drained.{IsCounted}
use Rattle.result_assembly.proofs.KindLaws.{counted_last}
use Rattle.result_assembly.proofs.WholeResult.{whole_filled}
use Rattle.result_assembly.proofs.values.fill_counted.Goals as goal

none : FormatLevel
none = record { letter = Dense; mode = 0 }

pub fill_last-requires-clause-counted : goal.fill_last-requires-clause-counted
unfolding none
fill_last-requires-clause-counted c =
    subst IsCounted (sym c.in_ok-level.ensures) (counted_last c.args.format.now c.args.above none c.requires.last)

pub returns : goal.returns
returns c =
    let d = c.args.above in
    whole_filled c.args.format.now c.args.workspace c.args.list c.args.base c.args.zero d (d + 1) (c.args.base + d + 1)
    (Var (c.args.base + d)) c.in_ok-code.code c.in_ok-last.last c.append.new.self c.requires.format c.requires.last c.in_ok-code.ensures
    (add-one d) refl refl c.in_ok-last.ensures c.in_ok-append.ensures.ok
