use Rattle.std.proofs.Common.{◌∙◌, ap, arith}
use Rattle.storage_arrays.proofs.LastParents.{one_allowed, all_end, no_positions}
use Rattle.storage_arrays.proofs.parents.positions_of.Goals as goal

pub returns-then-parents-eq0 : goal.returns-then-parents-eq0
returns-then-parents-eq0 c = no_positions c.args.level.now c.args.parents c.requires c.if-parents-eq0.true

pub segment-requires : goal.segment-requires
segment-requires c = one_allowed c.args.level.now c.args.parents c.args.parents c.requires c.if-parents-eq0.false (omega arith)

pub returns : goal.returns
returns c = ap (λ s. s.hi) c.segment.ensures ∙ all_end c.args.level.now c.args.parents c.requires c.if-parents-eq0.false
