use Rattle.std.specs.Prelude.{◌<◌, length, []}
use Rattle.index_notation.specs.declared.syntax.Expr.{Binary, Neg}
use Rattle.expr_terms.proofs.Heights.{falls, parts_of_binary, part_of_neg}
use Rattle.loop_code.specs.Parts.{is_live}
use Rattle.term_code.proofs.Parts.{first_side, second_side, negated_part}
use Rattle.loop_flags.specs.Told.{TellsOf}
use Rattle.loop_flags.proofs.LiveLaws.{live_neg}
use Rattle.loop_flags.proofs.FlagLaws.{if_flag, tells_part}
use Rattle.loop_flags.proofs.FlagParts.{live_at, flag_sides}
use Rattle.loop_flags.proofs.liveness.+live_in.Goals as goal

pub live_in-requires : goal.live_in-requires
live_in-requires t c =
    let o = c.in-Binary.operator in
    let e = c.in-Binary.first in
    let f = c.in-Binary.second in (
      falls t c.args.expr.now (Binary o e f) e c.get-first.result.now c.in-Binary.is c.get-first.ensures (parts_of_binary o e f).0
          c.decreases,
      first_side (λ k. k < length c.args.places.now.accesses) c.args.expr.now o e f c.get-first.result.now c.in-Binary.is
          c.get-first.ensures c.requires,
    )

pub live_in-requires-in-Binary : goal.live_in-requires-in-Binary
live_in-requires-in-Binary t c =
    let o = c.in-Binary.operator in
    let e = c.in-Binary.first in
    let f = c.in-Binary.second in (
      falls t c.args.expr.now (Binary o e f) f c.get-second.result.now c.in-Binary.is c.get-second.ensures (parts_of_binary o e f).1
          c.decreases,
      second_side (λ k. k < length c.args.places.now.accesses) c.args.expr.now o e f c.get-second.result.now c.in-Binary.is
          c.get-second.ensures c.requires,
    )

pub live_in-requires-in-Neg : goal.live_in-requires-in-Neg
live_in-requires-in-Neg t c = (
  falls t c.args.expr.now (Neg c.in-Neg.inner) c.in-Neg.inner c.get.result.now c.in-Neg.is c.get.ensures
      (part_of_neg c.in-Neg.inner) c.decreases,
  negated_part (λ k. k < length c.args.places.now.accesses) c.args.expr.now c.in-Neg.inner c.get.result.now c.in-Neg.is
      c.get.ensures c.requires,
)

pub in_sides-requires-clause-first : goal.in_sides-requires-clause-first
in_sides-requires-clause-first t c =
    first_side (λ k. k < length c.args.places.now.accesses) c.args.expr.now c.in-Binary.operator c.in-Binary.first c.in-Binary.second
    c.get-first.result.now c.in-Binary.is c.get-first.ensures c.requires

pub in_sides-requires-clause-second : goal.in_sides-requires-clause-second
in_sides-requires-clause-second t c =
    second_side (λ k. k < length c.args.places.now.accesses) c.args.expr.now c.in-Binary.operator c.in-Binary.first c.in-Binary.second
    c.get-second.result.now c.in-Binary.is c.get-second.ensures c.requires

pub returns-in_ok-flag-in-Binary : goal.returns-in_ok-flag-in-Binary
returns-in_ok-flag-in-Binary t c =
    flag_sides c.args.places.now c.args.told.now c.args.access c.args.expr.now c.in-Binary.operator c.in-Binary.first c.in-Binary.second
    c.get-first.result.now c.get-second.result.now c.in_ok-x-in-Binary.x c.in_ok-y-in-Binary.y c.in_ok-flag-in-Binary.flag
    c.in-Binary.is c.get-first.ensures c.get-second.ensures
    c.in_ok-x-in-Binary.ensures c.in_ok-y-in-Binary.ensures c.in_ok-flag-in-Binary.ensures

pub returns-in-Neg : goal.returns-in-Neg
returns-in-Neg t c =
    let places = c.args.places.now in
    let told = c.args.told.now in
    let k = c.args.access in
    let e = c.in-Neg.inner in
    if_flag c.live_in-in-Neg.result (TellsOf places told [] (λ P. is_live P c.get.result.now k))
    (TellsOf places told [] (λ P. is_live P c.args.expr.now k))
    (λ x h P are. tells_part places (live_at P k) c.args.expr.now (Neg e) e c.get.result.now x c.in-Neg.is c.get.ensures
    (λ env. live_neg (P env) e k) (h P are)) c.live_in-in-Neg.ensures
