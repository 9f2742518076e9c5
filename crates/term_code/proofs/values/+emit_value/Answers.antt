use Rattle.std.specs.Prelude.{◌≡◌, ◌<◌, ◌+◌, true, length, Some, slice_get, slice_index_or}
use Rattle.std.proofs.Common.{sym, subst, rules, arith}
use Rattle.std.proofs.lemmas.Option.{slice_get-get_or}
use Rattle.index_notation.specs.declared.syntax.Expr.{Binary, Neg}
use Rattle.expr_terms.specs.Value.{minus}
use Rattle.expr_terms.proofs.Heights.{falls, parts_of_binary, part_of_neg}
use Rattle.expr_terms.proofs.Meanings as meant
use Rattle.loop_code.specs.Loops.{access_values}
use Rattle.loop_code.specs.PresentValues.{present_value, present_applied, each}
use Rattle.term_code.specs.Places.{AccessPlace, no_access}
use Rattle.term_code.specs.Options.{LeavesOption}
use Rattle.term_code.proofs.Parts.{first_side, second_side, negated_part, read_access, value_binary, value_neg}
use Rattle.term_code.proofs.PlaceLaws.{below_more}
use Rattle.term_code.proofs.OptionLaws.{leaves_same, number_leaves, access_leaves, applied_leaves, negated_leaves}
use Rattle.term_code.proofs.values.+emit_value.Goals as goal

pub emit_value-requires : goal.emit_value-requires
emit_value-requires g t c κs within =
    let o = c.in-Binary.operator in
    let e = c.in-Binary.first in
    let f = c.in-Binary.second in (
      falls t c.args.expr.now (Binary o e f) e c.get.result.now c.in-Binary.is c.get.ensures (parts_of_binary o e f).0 c.decreases,
      (
        search (rules, within),
        (
          first_side (λ k. k < length c.args.places.now.accesses) c.args.expr.now o e f c.get.result.now c.in-Binary.is c.get.ensures
              c.requires.placed,
          (
            meant.first_meant g.S.Semiring.has_minus c.args.expr.now o e f c.get.result.now c.in-Binary.is c.get.ensures c.requires.meant,
            (c.requires.below, c.requires.room),
          ),
        ),
      ),
    )

pub emit_value-requires-in-Binary : goal.emit_value-requires-in-Binary
emit_value-requires-in-Binary g t c κs within =
    let o = c.in-Binary.operator in
    let e = c.in-Binary.first in
    let f = c.in-Binary.second in (
      falls t c.args.expr.now (Binary o e f) f c.get-in-Binary.result.now c.in-Binary.is c.get-in-Binary.ensures
          (parts_of_binary o e f).1 c.decreases,
      (
        search (rules, within),
        (
          second_side (λ k. k < length c.args.places.now.accesses) c.args.expr.now o e f c.get-in-Binary.result.now c.in-Binary.is
              c.get-in-Binary.ensures c.requires.placed,
          (
            meant.second_meant g.S.Semiring.has_minus c.args.expr.now o e f c.get-in-Binary.result.now c.in-Binary.is
                c.get-in-Binary.ensures c.requires.meant,
            (below_more c.args.free (c.args.free + 2) c.args.places.now (omega arith) c.requires.below, omega (arith, c.if-free.false)),
          ),
        ),
      ),
    )

pub emit_value-requires-in-Neg : goal.emit_value-requires-in-Neg
emit_value-requires-in-Neg g t c κs within = (
  falls t c.args.expr.now (Neg c.in-Neg.inner) c.in-Neg.inner c.get-in-Neg.result.now c.in-Neg.is c.get-in-Neg.ensures
      (part_of_neg c.in-Neg.inner) c.decreases,
  (
    search (rules, within),
    (
      negated_part (λ k. k < length c.args.places.now.accesses) c.args.expr.now c.in-Neg.inner c.get-in-Neg.result.now c.in-Neg.is
          c.get-in-Neg.ensures c.requires.placed,
      (
        meant.all_meant g.S.Semiring.has_minus c.get-in-Neg.result.now
            (meant.minus_negates g.S.Semiring.has_minus c.args.expr.now c.in-Neg.inner c.in-Neg.is c.requires.meant),
        (c.requires.below, c.requires.room),
      ),
    ),
  ),
)

pub applied-requires : goal.applied-requires
applied-requires g t c = record {
  minus = meant.minus_subtracts g.S.Semiring.has_minus c.args.expr.now c.in-Binary.operator c.in-Binary.first c.in-Binary.second
      c.in-Binary.is c.requires.meant;
  room = c.requires.room;
}

pub negated-requires : goal.negated-requires
negated-requires g t c = record {
  minus = meant.minus_negates g.S.Semiring.has_minus c.args.expr.now c.in-Neg.inner c.in-Neg.is
      c.requires.meant;
  room = omega (arith, c.requires.room);
}

pub returns-in_ok-code-in-Binary : goal.returns-in_ok-code-in-Binary
returns-in_ok-code-in-Binary g t c = λ these stand.
    let a = g.S.Semiring.arithmetic in
    let places = c.args.places.now in
    let free = c.args.free in
    let o = c.in-Binary.operator in
    let e = c.in-Binary.first in
    let f = c.in-Binary.second in
    let one = subst (λ x. LeavesOption a places these (λ stored env. present_value a (access_values stored env) x) free
    c.in_ok-x-in-Binary.x) c.get.ensures (c.in_ok-x-in-Binary.ensures these
    (first_side (λ k. these k ≡ true) c.args.expr.now o e f c.get.result.now c.in-Binary.is c.get.ensures stand)) in
    let two = subst (λ x. LeavesOption a places these (λ stored env. present_value a (access_values stored env) x)
    (free + 2) c.in_ok-y-in-Binary.y) c.get-in-Binary.ensures (c.in_ok-y-in-Binary.ensures these
    (second_side (λ k. these k ≡ true) c.args.expr.now o e f c.get-in-Binary.result.now c.in-Binary.is c.get-in-Binary.ensures stand)) in
    subst (λ whole. LeavesOption a places these (λ stored env. present_value a (access_values stored env) whole) free
    c.in_ok-code-in-Binary.code)
    (sym c.in-Binary.is)
    (subst (LeavesOption a places these (λ stored env. present_value a (access_values stored env) (Binary o e f)) free)
    (sym c.in_ok-code-in-Binary.ensures)
    (leaves_same a places these free (λ stored env. present_applied a o (present_value a (access_values stored env) e)
    (present_value a (access_values stored env) f)) (λ stored env. present_value a (access_values stored env) (Binary o e f)) _
    (λ stored env. sym (value_binary a (access_values stored env) o e f))
    (applied_leaves a places these free c.requires.below o
    (λ stored env. present_value a (access_values stored env) e)
    (λ stored env. present_value a (access_values stored env) f) c.in_ok-x-in-Binary.x c.in_ok-y-in-Binary.y one two)))

pub returns-in_ok-code-in-Neg : goal.returns-in_ok-code-in-Neg
returns-in_ok-code-in-Neg g t c = λ these stand.
    let a = g.S.Semiring.arithmetic in
    let places = c.args.places.now in
    let free = c.args.free in
    let e = c.in-Neg.inner in
    let one = subst (λ x. LeavesOption a places these (λ stored env. present_value a (access_values stored env) x) free c.in_ok-x-in-Neg.x)
    c.get-in-Neg.ensures (c.in_ok-x-in-Neg.ensures these
    (negated_part (λ k. these k ≡ true) c.args.expr.now e c.get-in-Neg.result.now c.in-Neg.is c.get-in-Neg.ensures stand)) in
    subst (λ whole. LeavesOption a places these (λ stored env. present_value a (access_values stored env) whole) free
    c.in_ok-code-in-Neg.code)
    (sym c.in-Neg.is)
    (subst (LeavesOption a places these (λ stored env. present_value a (access_values stored env) (Neg e)) free)
    (sym c.in_ok-code-in-Neg.ensures)
    (leaves_same a places these free (λ stored env. each (minus a) (present_value a (access_values stored env) e))
    (λ stored env. present_value a (access_values stored env) (Neg e)) _ (λ stored env. sym (value_neg a (access_values stored env) e))
    (negated_leaves a places these free
    (λ stored env. present_value a (access_values stored env) e)
    c.in_ok-x-in-Neg.x one)))

pub returns-in_ok-code-in-Num : goal.returns-in_ok-code-in-Num
returns-in_ok-code-in-Num g t c = λ these stand.
    let a = g.S.Semiring.arithmetic in
    let places = c.args.places.now in
    let free = c.args.free in
    subst (λ whole. LeavesOption a places these (λ stored env. present_value a (access_values stored env) whole) free
    c.in_ok-code-in-Num.code)
    (sym c.in-Num.is)
    (subst (LeavesOption a places these (λ stored env. Some c.in-Num.n) free) (sym c.in_ok-code-in-Num.ensures)
    (number_leaves a places these c.in-Num.n free))

pub returns-in_ok-code-in-Access : goal.returns-in_ok-code-in-Access
returns-in_ok-code-in-Access g t c = λ these stand.
    let a = g.S.Semiring.arithmetic in
    let places = c.args.places.now in
    let free = c.args.free in
    let k = c.in-Access.k in
    let p : AccessPlace = slice_index_or c.as_slice.result.now k no_access in
    let within : k < length places.accesses = read_access
    (λ k. k < length places.accesses) c.args.expr.now k c.in-Access.is c.requires.placed in
    let at : slice_get places.accesses k ≡ Some p =
    subst (λ ps. slice_get places.accesses k ≡ Some (slice_index_or ps k no_access)) (sym c.as_slice.ensures)
    (slice_get-get_or places.accesses k no_access within) in
    subst (λ whole. LeavesOption a places these (λ stored env. present_value a (access_values stored env) whole) free
    c.in_ok-code-in-Access.code) (sym c.in-Access.is)
    (subst (LeavesOption a places these (λ stored env. access_values stored env k) free) (sym c.in_ok-code-in-Access.ensures)
    (access_leaves a places these free c.requires.below k p
    (read_access (λ k. these k ≡ true) c.args.expr.now k c.in-Access.is stand) at))
