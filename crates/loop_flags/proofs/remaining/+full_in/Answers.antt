use Rattle.std.specs.Prelude.{◌<◌, length}
use Rattle.std.proofs.Common.{◌∙◌, sym, subst}
use Rattle.index_notation.specs.declared.syntax.Expr.{Binary, Neg}
use Rattle.expr_terms.proofs.Heights.{falls, parts_of_binary, part_of_neg}
use Rattle.loop_code.specs.Parts.{here, is_full, is_other, remains}
use Rattle.term_code.specs.Presence.{Tells}
use Rattle.term_code.proofs.Parts.{first_side, second_side, negated_part}
use Rattle.loop_flags.specs.Told.{TellsOf}
use Rattle.loop_flags.proofs.LiveLaws.{remains_binary, remains_neg}
use Rattle.loop_flags.proofs.FlagLaws.{if_flag, tells_part, tells_parts_there}
use Rattle.loop_flags.proofs.FlagParts.{remains_at, told_given, told_number, told_other}
use Rattle.loop_flags.proofs.remaining.+full_in.Goals as goal

pub full_in-requires : goal.full_in-requires
full_in-requires t c =
    let o = c.in-Binary.operator in
    let e = c.in-Binary.first in
    let f = c.in-Binary.second in (
      falls t c.args.expr.now (Binary o e f) e c.get.result.now c.in-Binary.is c.get.ensures (parts_of_binary o e f).0 c.decreases,
      first_side (λ k. k < length c.args.places.now.accesses) c.args.expr.now o e f c.get.result.now c.in-Binary.is c.get.ensures
          c.requires,
    )

pub full_in-requires-in-Binary : goal.full_in-requires-in-Binary
full_in-requires-in-Binary t c =
    let o = c.in-Binary.operator in
    let e = c.in-Binary.first in
    let f = c.in-Binary.second in (
      falls t c.args.expr.now (Binary o e f) f c.get-in-Binary.result.now c.in-Binary.is c.get-in-Binary.ensures
          (parts_of_binary o e f).1 c.decreases,
      second_side (λ k. k < length c.args.places.now.accesses) c.args.expr.now o e f c.get-in-Binary.result.now c.in-Binary.is
          c.get-in-Binary.ensures c.requires,
    )

pub full_in-requires-in-Neg : goal.full_in-requires-in-Neg
full_in-requires-in-Neg t c = (
  falls t c.args.expr.now (Neg c.in-Neg.inner) c.in-Neg.inner c.get-in-Neg.result.now c.in-Neg.is c.get-in-Neg.ensures
      (part_of_neg c.in-Neg.inner) c.decreases,
  negated_part (λ k. k < length c.args.places.now.accesses) c.args.expr.now c.in-Neg.inner c.get-in-Neg.result.now c.in-Neg.is
      c.get-in-Neg.ensures c.requires,
)

pub returns-in-Num : goal.returns-in-Num
returns-in-Num t c =
    let places = c.args.places.now in
    let told = c.args.told.now in
    let seeks = c.args.seeks.now in
    if_flag c.fullness_of.result (Tells places (λ env. is_full (is_other seeks) (here env) c.args.expr.now))
    (TellsOf places told seeks (λ P. remains P c.args.expr.now))
    (λ x h. told_number places told seeks c.args.expr.now c.in-Num.field-0 x c.in-Num.is h) c.fullness_of.ensures

pub returns-in-Some : goal.returns-in-Some
returns-in-Some t c =
    subst (λ e. TellsOf c.args.places.now c.args.told.now c.args.seeks.now (λ P. remains P e) c.in-Some.flag) (sym c.in-Access.is)
    (told_given c.args.places.now c.args.told.now c.args.seeks.now c.in-Access.access c.in-Some.flag
    (sym c.in_ok-flag-in-Access.ensures ∙ c.in-Some.is))

pub returns-in-None : goal.returns-in-None
returns-in-None t c =
    let places = c.args.places.now in
    let told = c.args.told.now in
    let seeks = c.args.seeks.now in
    let k = c.in-Access.access in
    if_flag c.fullness_of-in-None.result (Tells places (λ env. is_full (is_other seeks) (here env) c.args.expr.now))
    (TellsOf places told seeks (λ P. remains P c.args.expr.now))
    (λ x h. subst (λ e. TellsOf places told seeks (λ P. remains P e) x) (sym c.in-Access.is)
    (told_other places told seeks k x (sym c.in_ok-flag-in-Access.ensures ∙ c.in-None.is)
    (subst (λ e. Tells places (λ env. is_full (is_other seeks) (here env) e) x) c.in-Access.is h))) c.fullness_of-in-None.ensures

pub returns-in_ok-flag-in-Binary : goal.returns-in_ok-flag-in-Binary
returns-in_ok-flag-in-Binary t c = λ P are.
    let o = c.in-Binary.operator in
    let e = c.in-Binary.first in
    let f = c.in-Binary.second in
    tells_parts_there c.args.places.now (remains_at P) o c.args.expr.now (Binary o e f) e f c.get.result.now c.get-in-Binary.result.now
    c.in_ok-x-in-Binary.x c.in_ok-y-in-Binary.y c.in_ok-flag-in-Binary.flag c.in-Binary.is c.get.ensures c.get-in-Binary.ensures
    (λ env. remains_binary (P env) o e f) (c.in_ok-x-in-Binary.ensures P are) (c.in_ok-y-in-Binary.ensures P are)
    c.in_ok-flag-in-Binary.ensures

pub returns-in-Neg : goal.returns-in-Neg
returns-in-Neg t c =
    let places = c.args.places.now in
    let told = c.args.told.now in
    let seeks = c.args.seeks.now in
    let e = c.in-Neg.inner in
    if_flag c.full_in-in-Neg.result (TellsOf places told seeks (λ P. remains P c.get-in-Neg.result.now))
    (TellsOf places told seeks (λ P. remains P c.args.expr.now))
    (λ x h P are. tells_part places (remains_at P) c.args.expr.now (Neg e) e c.get-in-Neg.result.now x c.in-Neg.is c.get-in-Neg.ensures
    (λ env. remains_neg (P env) e) (h P are)) c.full_in-in-Neg.ensures
