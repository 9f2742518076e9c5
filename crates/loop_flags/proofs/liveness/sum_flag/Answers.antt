use Rattle.std.specs.Prelude.{[]}
use Rattle.std.proofs.Common.{◌∙◌, subst}
use Rattle.loop_code.specs.Parts.{here, given, is_live_below, remains_below}
use Rattle.loop_flags.specs.Told.{TellsOf}
use Rattle.loop_flags.proofs.FlagParts.{none_told, told_more}
use Rattle.loop_flags.proofs.liveness.sum_flag.Goals as goal

pub returns : goal.returns
returns c =
    let places = c.args.places.now in
    let k = c.args.sum in
    let inside = c.args.inside.now in
    let remains = c.in_ok-remains.remains in
    subst (λ told. TellsOf places told [] (λ P. is_live_below P c.args.body.now k) c.in_ok-flag.flag)
    (c.as_slice.ensures ∙ c.in_ok-told.ensures)
    c.in_ok-flag.ensures (λ env. given (here env) k (remains_below (here env) inside))
    (told_more places [] [] (λ env. here env) k remains (λ env. remains_below (here env) inside) c.in_ok-remains.ensures
    (none_told places []))
