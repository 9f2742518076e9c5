use Rattle.std.specs.Prelude.{[]}
use Rattle.loop_code.specs.Parts.{here}
use Rattle.loop_flags.proofs.FlagParts.{none_told}
use Rattle.loop_flags.proofs.remaining.remains_of.Goals as goal

pub returns : goal.returns
returns c = c.in_ok-flag.ensures (λ env. here env) (none_told c.args.places.now [])
