use Rattle.std.proofs.Common.{◌∙◌, sym, ap}
use Rattle.level_rows.proofs.filling.count_positions.Goals as goal

pub greatest_below-most-requires-clause-together : goal.greatest_below-most-requires-clause-together
greatest_below-most-requires-clause-together g c = (c.requires.rows.inserts (sym (ap (λ k. k.append) c.caps.ensures) ∙ c.if-caps.false)).1
