use Rattle.std.specs.Prelude.{◌<◌, length}
use Rattle.std.proofs.Common.{◌∙◌}
use Rattle.loop_code.specs.declared.loops.LoopCode.{Loop, Both, Sum}
use Rattle.loop_code.specs.Parts.{remains_below}
use Rattle.loop_code.specs.Places.{EachAccess}
use Rattle.loop_flags.specs.Told.{TellsOf}
use Rattle.loop_flags.proofs.LoopHeights.{falls, body_of_loop, parts_of_both, parts_of_sum}
use Rattle.loop_flags.proofs.LoopParts.{body_terms, first_terms, second_terms, inside_terms, summed_terms}
use Rattle.loop_flags.proofs.LiveLaws.{remains_loop, remains_both}
use Rattle.loop_flags.proofs.FlagLaws.{if_flag, tells_part, tells_parts_either}
use Rattle.loop_flags.proofs.FlagParts.{remains_at_below, remains_summed}
use Rattle.loop_flags.proofs.remaining.+full_with.Goals as goal

pub full_with-requires : goal.full_with-requires
full_with-requires t c =
    let v = c.in-Loop.variable in
    let seeks = c.in-Loop.seeks in
    let body = c.in-Loop.body in (
      falls t c.args.loops.now (Loop v seeks body) body c.get.result.now c.in-Loop.is c.get.ensures (body_of_loop v seeks body) c.decreases,
      body_terms (λ t. EachAccess (λ k. k < length c.args.places.now.accesses) t.expr) c.args.loops.now v seeks body c.get.result.now
          c.in-Loop.is c.get.ensures c.requires,
    )

pub full_with-requires-in-Both : goal.full_with-requires-in-Both
full_with-requires-in-Both t c =
    let f = c.in-Both.first in
    let g = c.in-Both.second in (
      falls t c.args.loops.now (Both f g) f c.get-in-Both.result.now c.in-Both.is c.get-in-Both.ensures (parts_of_both f g).0 c.decreases,
      first_terms (λ t. EachAccess (λ k. k < length c.args.places.now.accesses) t.expr) c.args.loops.now f g c.get-in-Both.result.now
          c.in-Both.is c.get-in-Both.ensures c.requires,
    )

pub full_with-requires-in-Both-2 : goal.full_with-requires-in-Both-2
full_with-requires-in-Both-2 t c =
    let f = c.in-Both.first in
    let g = c.in-Both.second in (
      falls t c.args.loops.now (Both f g) g c.get-in-Both-2.result.now c.in-Both.is c.get-in-Both-2.ensures (parts_of_both f g).1
          c.decreases,
      second_terms (λ t. EachAccess (λ k. k < length c.args.places.now.accesses) t.expr) c.args.loops.now f g c.get-in-Both-2.result.now
          c.in-Both.is c.get-in-Both-2.ensures c.requires,
    )

pub full_with-requires-in-Sum : goal.full_with-requires-in-Sum
full_with-requires-in-Sum t c =
    let k = c.in-Sum.sum in
    let f = c.in-Sum.inside in
    let g = c.in-Sum.body in (
      falls t c.args.loops.now (Sum k f g) f c.get-in-Sum.result.now c.in-Sum.is c.get-in-Sum.ensures (parts_of_sum k f g).0 c.decreases,
      inside_terms (λ t. EachAccess (λ k. k < length c.args.places.now.accesses) t.expr) c.args.loops.now k f g c.get-in-Sum.result.now
          c.in-Sum.is c.get-in-Sum.ensures c.requires,
    )

pub full_with-requires-in-Sum-2 : goal.full_with-requires-in-Sum-2
full_with-requires-in-Sum-2 t c =
    let k = c.in-Sum.sum in
    let f = c.in-Sum.inside in
    let g = c.in-Sum.body in (
      falls t c.args.loops.now (Sum k f g) g c.get-in-Sum-2.result.now c.in-Sum.is c.get-in-Sum-2.ensures (parts_of_sum k f g).1
          c.decreases,
      summed_terms (λ t. EachAccess (λ k. k < length c.args.places.now.accesses) t.expr) c.args.loops.now k f g c.get-in-Sum-2.result.now
          c.in-Sum.is c.get-in-Sum-2.ensures c.requires,
    )

pub returns-in-Loop : goal.returns-in-Loop
returns-in-Loop t c =
    let places = c.args.places.now in
    let told = c.args.told.now in
    let seeks = c.args.seeks.now in
    let v = c.in-Loop.variable in
    let levels = c.in-Loop.seeks in
    let body = c.in-Loop.body in
    if_flag c.full_with.result (TellsOf places told seeks (λ P. remains_below P c.get.result.now))
    (TellsOf places told seeks (λ P. remains_below P c.args.loops.now))
    (λ x h P are. tells_part places (remains_at_below P) c.args.loops.now (Loop v levels body) body c.get.result.now x c.in-Loop.is
    c.get.ensures (λ env. remains_loop (P env) v levels body) (h P are)) c.full_with.ensures

pub returns-in_ok-flag-in-Both : goal.returns-in_ok-flag-in-Both
returns-in_ok-flag-in-Both t c = λ P are.
    let f = c.in-Both.first in
    let g = c.in-Both.second in
    tells_parts_either c.args.places.now (remains_at_below P) c.args.loops.now (Both f g) f g c.get-in-Both.result.now
    c.get-in-Both-2.result.now c.in_ok-x-in-Both.x c.in_ok-y-in-Both.y c.in_ok-flag-in-Both.flag c.in-Both.is c.get-in-Both.ensures
    c.get-in-Both-2.ensures (λ env. remains_both (P env) f g) (c.in_ok-x-in-Both.ensures P are) (c.in_ok-y-in-Both.ensures P are)
    c.in_ok-flag-in-Both.ensures

pub returns-in_ok-more-in-Sum : goal.returns-in_ok-more-in-Sum
returns-in_ok-more-in-Sum t c =
    let places = c.args.places.now in
    let told = c.args.told.now in
    let seeks = c.args.seeks.now in
    let k = c.in-Sum.sum in
    let f = c.in-Sum.inside in
    let g = c.in-Sum.body in
    if_flag c.full_with-in-Sum-2.result (TellsOf places c.as_slice.result.now seeks (λ P. remains_below P c.get-in-Sum-2.result.now))
    (TellsOf places told seeks (λ P. remains_below P c.args.loops.now))
    (λ x h. remains_summed places told c.args.loops.now k f g c.get-in-Sum.result.now c.get-in-Sum-2.result.now c.in-Sum.is
    c.get-in-Sum.ensures c.get-in-Sum-2.ensures seeks c.in_ok-within-in-Sum.within x c.as_slice.result.now
    (c.as_slice.ensures ∙ c.in_ok-more-in-Sum.ensures) c.in_ok-within-in-Sum.ensures h)
    c.full_with-in-Sum-2.ensures
