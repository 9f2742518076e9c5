use Rattle.std.proofs.Common.{◌≤◌, drop, length, reverse}
use Rattle.jump_threading.specs.Alike.{DoesAlike}
use Rattle.jump_threading.proofs.leads.+leads.Given as goal

abbrev pub invariant-lead_code-loop-end : goal.invariant-lead_code-loop-end
invariant-lead_code-loop-end l = record {
  within : l.end ≤ length l.code;
  alike : DoesAlike (reverse l.backwards.items) (drop l.end l.code);
}

abbrev pub decreases-lead_code-loop-end : goal.decreases-lead_code-loop-end
decreases-lead_code-loop-end l = l.end
