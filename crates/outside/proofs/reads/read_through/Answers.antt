use Rattle.std.proofs.lemmas.Result.{err_from_is_err_and, IfErr-weaker}
use Rattle.outside.proofs.Feeding.{whole_of, stops_reading, refused_to_open}
use Rattle.outside.proofs.reads.read_through.Goals as goal

pub returns-clause-whole : goal.returns-clause-whole
returns-clause-whole g c =
    whole_of _ _ _ _ _ _ _ c.read_rest.result c.in_ok-start_read.ensures.opened c.read_rest.ensures.fed c.read_rest.ensures.within
    c.read_rest.ensures.at_end

pub returns-clause-stops : goal.returns-clause-stops
returns-clause-stops g c =
    IfErr-weaker c.read_rest.result _ _
    (λ stop. stops_reading g.E.Eater.eaten g.E.Eater.refused _ _ _ c.args.name.now c.args.budget c.args.eater.now c.read_rest.new.eater
    stop c.in_ok-start_read.ensures.opened)
    c.read_rest.ensures.stops

pub returns-in_err-start_read-clause-stops : goal.returns-in_err-start_read-clause-stops
returns-in_err-start_read-clause-stops g c =
    let p = err_from_is_err_and c.from_residual.result c.from_residual.ensures.1 in
    rw (p.1, p.2)
    (refused_to_open g.E.Eater.eaten g.E.Eater.refused _ _ c.args.name.now c.args.budget c.args.eater.now c.in_err-start_read.field-0.0
    c.in_err-start_read.ensures.refused)
