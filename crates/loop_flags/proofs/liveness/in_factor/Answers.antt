use Rattle.loop_code.specs.Parts.{remains}
use Rattle.loop_flags.proofs.liveness.in_factor.Goals as goal

pub returns : goal.returns
returns c = λ P are f h.
    c.in_ok-flag.ensures c.args.places.now f (λ env. remains (P env) c.args.other.now) h (c.in_ok-remains.ensures P are)
