use Rattle.kernel_code.proofs.Widths.{slot_width_is}
use Rattle.level_checks.proofs.hashed.width_for.Goals as goal

pub returns : goal.returns
returns c = slot_width_is c.args.most c.next_power_of_two-power.result c.requires c.next_power_of_two-power.ensures.power
    c.next_power_of_two-power.ensures.lower_bound c.next_power_of_two-power.ensures.upper_bound
