use Rattle.std.specs.Prelude.{slice_index}
use Rattle.std.proofs.Common.{rules}
use Rattle.index_notation.specs.declared.syntax.Expr.{Binary, Neg}
use Rattle.expr_terms.proofs.Meanings.{first_meant, second_meant, minus_subtracts, minus_negates, all_meant}
use Rattle.expr_terms.proofs.Heights.{falls, parts_of_binary, part_of_neg}
use Rattle.expr_terms.specs.Operands.{operand_values}
use Rattle.workspaces.specs.Presence.{operand_paths}
use Rattle.workspaces.proofs.Present.{tells_binary, tells_negated}
use Rattle.workspaces.proofs.parts.+presence.Goals as goal

pub returns-in-Binary : goal.returns-in-Binary
returns-in-Binary g t c =
    tells_binary g.S.Semiring.arithmetic (operand_paths c.args.tensors.now) (operand_values g.S.Semiring.arithmetic c.args.tensors.now)
    c.args.statement.now.accesses (slice_index c.args.point.now)
    c.args.expr.now c.in-Binary.operator c.in-Binary.first c.in-Binary.second c.get.result.now c.get-in-Binary.result.now
    c.presence-x.result c.presence-y.result c.applied.result
    c.in-Binary.is c.get.ensures c.get-in-Binary.ensures c.presence-x.ensures c.presence-y.ensures c.applied.ensures

pub returns-in-Neg : goal.returns-in-Neg
returns-in-Neg g t c =
    tells_negated g.S.Semiring.arithmetic (operand_paths c.args.tensors.now) (operand_values g.S.Semiring.arithmetic c.args.tensors.now)
    c.args.statement.now.accesses (slice_index c.args.point.now)
    c.args.expr.now c.in-Neg.inner c.get-in-Neg.result.now c.presence-x-in-Neg.result c.negated.result
    c.in-Neg.is c.get-in-Neg.ensures c.presence-x-in-Neg.ensures c.negated.ensures

pub presence-x-requires : goal.presence-x-requires
presence-x-requires g t c κs within =
    let o = c.in-Binary.operator in
    let e = c.in-Binary.first in
    let f = c.in-Binary.second in (
      falls t c.args.expr.now (Binary o e f) e c.get.result.now c.in-Binary.is c.get.ensures (parts_of_binary o e f).0 c.decreases,
      (
        search (rules, within),
        (
          c.requires.numbered,
          first_meant g.S.Semiring.has_minus c.args.expr.now o e f c.get.result.now c.in-Binary.is c.get.ensures c.requires.meant,
        ),
      ),
    )

pub presence-y-requires : goal.presence-y-requires
presence-y-requires g t c κs within =
    let o = c.in-Binary.operator in
    let e = c.in-Binary.first in
    let f = c.in-Binary.second in (
      falls t c.args.expr.now (Binary o e f) f c.get-in-Binary.result.now c.in-Binary.is c.get-in-Binary.ensures
          (parts_of_binary o e f).1 c.decreases,
      (
        search (rules, within),
        (
          c.requires.numbered,
          second_meant g.S.Semiring.has_minus c.args.expr.now o e f c.get-in-Binary.result.now c.in-Binary.is c.get-in-Binary.ensures
              c.requires.meant,
        ),
      ),
    )

pub applied-requires : goal.applied-requires
applied-requires g t c =
    minus_subtracts g.S.Semiring.has_minus c.args.expr.now c.in-Binary.operator c.in-Binary.first c.in-Binary.second c.in-Binary.is
    c.requires.meant

pub presence-x-requires-in-Neg : goal.presence-x-requires-in-Neg
presence-x-requires-in-Neg g t c κs within = (
  falls t c.args.expr.now (Neg c.in-Neg.inner) c.in-Neg.inner c.get-in-Neg.result.now c.in-Neg.is
      c.get-in-Neg.ensures (part_of_neg c.in-Neg.inner) c.decreases,
  (
    search (rules, within),
    (
      c.requires.numbered,
      all_meant g.S.Semiring.has_minus c.get-in-Neg.result.now
          (minus_negates g.S.Semiring.has_minus c.args.expr.now c.in-Neg.inner c.in-Neg.is c.requires.meant),
    ),
  ),
)

pub negated-requires : goal.negated-requires
negated-requires g t c = minus_negates g.S.Semiring.has_minus c.args.expr.now c.in-Neg.inner c.in-Neg.is c.requires.meant
