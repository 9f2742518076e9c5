use Rattle.std.specs.Prelude.{◌&&◌}
use Rattle.loop_code.specs.Parts.{here, is_live_below}
use Rattle.term_code.proofs.PresenceLaws.{tells_flag, tells_same}
use Rattle.loop_flags.proofs.LiveLaws.{live_present}
use Rattle.loop_flags.proofs.partly.present_flag.Goals as goal

pub returns-then-starts_no_sum : goal.returns-then-starts_no_sum
returns-then-starts_no_sum c = λ places at live.
    let loops = c.args.loops.now in
    let k = c.args.access in
    tells_same places (λ env. is_live_below (here env) loops k) (λ env. is_live_below (here env) loops k && here env k) c.args.flag
    (λ env. live_present (here env) loops k (c.starts_no_sum.ensures c.if-starts_no_sum.true)) live

pub returns : goal.returns
returns c = λ places at live.
    let k = c.args.access in
    c.in_ok-present.ensures places (λ env. is_live_below (here env) c.args.loops.now k) (λ env. here env k) live
    (tells_flag places k c.args.place at)
