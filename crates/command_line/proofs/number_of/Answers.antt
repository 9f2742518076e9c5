use Rattle.std.proofs.Common.{codes, ap, ◌∙◌}
use Rattle.std.specs.Prelude.{option_and_then}
use Rattle.std.specs.Str.Parse.{ParsesUnsigned, ExplainsUnsignedError, HasUnsignedDigitsIfOk}
use Rattle.clap.specs.Words.{found_of, one_text}
use Rattle.clap.proofs.WalkLemmas.{one_text-rows}
use Rattle.command_line.specs.Clap.{u64_read}
use Rattle.command_line.proofs.Numbers.{one_u64}
use Rattle.command_line.proofs.number_of.Goals as goal

pub returns : goal.returns
returns c =
    let f = found_of c.args.matches.now in
    one_u64 _ (λ bs r. ParsesUnsigned 64 10 bs r × ExplainsUnsignedError 10 bs r × HasUnsignedDigitsIfOk bs r)
    (one_text f (codes "N")) c.get_one.result (λ u x g. g.0) c.get_one.ensures.none c.get_one.ensures.value
    ∙ ap (option_and_then u64_read) (one_text-rows f (codes "N"))
