use Rattle.std.specs.Prelude.{◌<◌, length, []}
use Rattle.std.proofs.Common.{subst}
use Rattle.loop_code.specs.declared.loops.LoopCode.{Loop, Both, Sum}
use Rattle.loop_code.specs.Parts.{is_live_below}
use Rattle.loop_code.specs.Places.{EachAccess}
use Rattle.loop_flags.specs.Told.{TellsOf}
use Rattle.loop_flags.proofs.LoopHeights.{falls, body_of_loop, parts_of_both, parts_of_sum}
use Rattle.loop_flags.proofs.LoopParts.{body_terms, first_terms, second_terms, inside_terms, summed_terms}
use Rattle.loop_flags.proofs.LiveLaws.{live_loop, live_both}
use Rattle.loop_flags.proofs.FlagLaws.{if_flag, tells_part, tells_parts_either}
use Rattle.loop_flags.proofs.FlagParts.{live_at_below, live_summed}
use Rattle.loop_flags.proofs.liveness.+live_with.Goals as goal

pub live_with-requires : goal.live_with-requires
live_with-requires t c =
    let v = c.in-Loop.variable in
    let seeks = c.in-Loop.seeks in
    let body = c.in-Loop.body in (
      falls t c.args.loops.now (Loop v seeks body) body c.get.result.now c.in-Loop.is c.get.ensures (body_of_loop v seeks body) c.decreases,
      body_terms (λ t. EachAccess (λ k. k < length c.args.places.now.accesses) t.expr) c.args.loops.now v seeks body c.get.result.now
          c.in-Loop.is c.get.ensures c.requires,
    )

pub live_with-requires-in-Both : goal.live_with-requires-in-Both
live_with-requires-in-Both t c =
    let f = c.in-Both.first in
    let g = c.in-Both.second in (
      falls t c.args.loops.now (Both f g) f c.get-in-Both.result.now c.in-Both.is c.get-in-Both.ensures (parts_of_both f g).0 c.decreases,
      first_terms (λ t. EachAccess (λ k. k < length c.args.places.now.accesses) t.expr) c.args.loops.now f g c.get-in-Both.result.now
          c.in-Both.is c.get-in-Both.ensures c.requires,
    )

pub live_with-requires-in-Both-2 : goal.live_with-requires-in-Both-2
live_with-requires-in-Both-2 t c =
    let f = c.in-Both.first in
    let g = c.in-Both.second in (
      falls t c.args.loops.now (Both f g) g c.get-in-Both-2.result.now c.in-Both.is c.get-in-Both-2.ensures (parts_of_both f g).1
          c.decreases,
      second_terms (λ t. EachAccess (λ k. k < length c.args.places.now.accesses) t.expr) c.args.loops.now f g c.get-in-Both-2.result.now
          c.in-Both.is c.get-in-Both-2.ensures c.requires,
    )

pub full_with-requires : goal.full_with-requires
full_with-requires t c =
    inside_terms (λ t. EachAccess (λ k. k < length c.args.places.now.accesses) t.expr) c.args.loops.now c.in-Sum.sum c.in-Sum.inside
    c.in-Sum.body c.get-inside.result.now c.in-Sum.is c.get-inside.ensures c.requires

pub live_with-requires-in-Sum : goal.live_with-requires-in-Sum
live_with-requires-in-Sum t c =
    let k = c.in-Sum.sum in
    let f = c.in-Sum.inside in
    let g = c.in-Sum.body in (
      falls t c.args.loops.now (Sum k f g) g c.get-body.result.now c.in-Sum.is c.get-body.ensures (parts_of_sum k f g).1 c.decreases,
      summed_terms (λ t. EachAccess (λ k. k < length c.args.places.now.accesses) t.expr) c.args.loops.now k f g c.get-body.result.now
          c.in-Sum.is c.get-body.ensures c.requires,
    )

pub live_with-requires-in-Sum-2 : goal.live_with-requires-in-Sum-2
live_with-requires-in-Sum-2 t c =
    let k = c.in-Sum.sum in
    let f = c.in-Sum.inside in
    let g = c.in-Sum.body in (
      falls t c.args.loops.now (Sum k f g) g c.get-body.result.now c.in-Sum.is c.get-body.ensures (parts_of_sum k f g).1 c.decreases,
      summed_terms (λ t. EachAccess (λ k. k < length c.args.places.now.accesses) t.expr) c.args.loops.now k f g c.get-body.result.now
          c.in-Sum.is c.get-body.ensures c.requires,
    )

pub live_with-requires-in-Sum-3 : goal.live_with-requires-in-Sum-3
live_with-requires-in-Sum-3 t c =
    let k = c.in-Sum.sum in
    let f = c.in-Sum.inside in
    let g = c.in-Sum.body in (
      falls t c.args.loops.now (Sum k f g) f c.get-inside.result.now c.in-Sum.is c.get-inside.ensures (parts_of_sum k f g).0 c.decreases,
      inside_terms (λ t. EachAccess (λ k. k < length c.args.places.now.accesses) t.expr) c.args.loops.now k f g c.get-inside.result.now
          c.in-Sum.is c.get-inside.ensures c.requires,
    )

pub returns-in-Loop : goal.returns-in-Loop
returns-in-Loop t c =
    let places = c.args.places.now in
    let told = c.args.told.now in
    let k = c.args.access in
    let v = c.in-Loop.variable in
    let seeks = c.in-Loop.seeks in
    let body = c.in-Loop.body in
    if_flag c.live_with.result (TellsOf places told [] (λ P. is_live_below P c.get.result.now k))
    (TellsOf places told [] (λ P. is_live_below P c.args.loops.now k))
    (λ x h P are. tells_part places (live_at_below P k) c.args.loops.now (Loop v seeks body) body c.get.result.now x c.in-Loop.is
    c.get.ensures (λ env. live_loop (P env) v seeks body k) (h P are)) c.live_with.ensures

pub returns-in_ok-flag-in-Both : goal.returns-in_ok-flag-in-Both
returns-in_ok-flag-in-Both t c = λ P are.
    let k = c.args.access in
    let f = c.in-Both.first in
    let g = c.in-Both.second in
    tells_parts_either c.args.places.now (live_at_below P k) c.args.loops.now (Both f g) f g c.get-in-Both.result.now
    c.get-in-Both-2.result.now c.in_ok-x-in-Both.x c.in_ok-y-in-Both.y c.in_ok-flag-in-Both.flag c.in-Both.is c.get-in-Both.ensures
    c.get-in-Both-2.ensures (λ env. live_both (P env) f g k) (c.in_ok-x-in-Both.ensures P are) (c.in_ok-y-in-Both.ensures P are)
    c.in_ok-flag-in-Both.ensures

pub returns-in_ok-flag-in-Sum : goal.returns-in_ok-flag-in-Sum
returns-in_ok-flag-in-Sum t c =
    let places = c.args.places.now in
    let body = c.get-body.result.now in
    live_summed c.args.places.now c.args.told.now c.args.loops.now c.in-Sum.sum c.in-Sum.inside c.in-Sum.body c.get-inside.result.now
    c.get-body.result.now c.in-Sum.is c.get-inside.ensures c.get-body.ensures c.args.access c.in_ok-remains-in-Sum.remains
    c.in_ok-direct-in-Sum.direct c.in_ok-summed-in-Sum.summed c.in_ok-within-in-Sum.within c.in_ok-through-in-Sum.through
    c.in_ok-flag-in-Sum.flag c.in_ok-more-in-Sum.more c.in_ok-more-in-Sum.ensures
    c.in_ok-remains-in-Sum.ensures
    (subst (λ m. TellsOf places m [] (λ P. is_live_below P body c.args.access) c.in_ok-direct-in-Sum.direct) c.as_slice.ensures
    c.in_ok-direct-in-Sum.ensures)
    (subst (λ m. TellsOf places m [] (λ P. is_live_below P body c.in-Sum.sum) c.in_ok-summed-in-Sum.summed) c.as_slice-in-Sum.ensures
    c.in_ok-summed-in-Sum.ensures) c.in_ok-within-in-Sum.ensures c.in_ok-through-in-Sum.ensures
    c.in_ok-flag-in-Sum.ensures
