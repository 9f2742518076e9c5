use Rattle.std.proofs.Common.{◌∙◌, sym, ap}
use Rattle.storage_cases.proofs.Opened.{one_allowed}
use Rattle.storage_cases.proofs.levels.tell_level.Goals as goal

pub tell_places-requires : goal.tell_places-requires
tell_places-requires c = one_allowed c.args.level.now c.args.span c.requires (ap (λ can. can.locate) (sym c.caps.ensures) ∙ c.if-caps.true)
