use Rattle.std.specs.Prelude.{◌&&◌}
use Rattle.loop_code.specs.Parts.{here, remains_below, is_full_below, is_other}
use Rattle.loop_code.proofs.Parts.{full_part}
use Rattle.std.specs.Prelude.{refl}
use Rattle.term_code.proofs.PresenceLaws.{tells_same}
use Rattle.loop_flags.proofs.FlagParts.{none_told}
use Rattle.loop_flags.proofs.remaining.fullness_below.Goals as goal

pub returns : goal.returns
returns c =
    let places = c.args.places.now in
    let loops = c.args.loops.now in
    let seeks = c.args.seeks.now in
    tells_same places (λ env. remains_below (λ k. is_other seeks k && here env k) loops)
    (λ env. is_full_below (is_other seeks) (here env) loops) c.in_ok-flag.flag
    (λ env. full_part (is_other seeks) (here env) (λ k. is_other seeks k && here env k) (λ k. refl) loops)
    (c.in_ok-flag.ensures (λ env k. is_other seeks k && here env k) (none_told places seeks))
