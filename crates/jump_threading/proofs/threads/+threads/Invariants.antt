use Rattle.std.proofs.Common.{◌≤◌, ◌-◌, length, take}
use Rattle.jump_threading.specs.Alike.{DoesAlike}
use Rattle.jump_threading.proofs.threads.+threads.Given as goal

abbrev pub invariant-thread_code-loop-next : goal.invariant-thread_code-loop-next
invariant-thread_code-loop-next l = record {
  within : l.next ≤ length l.code;
  alike : DoesAlike l.out (take l.next l.code);
}

abbrev pub decreases-thread_code-loop-next : goal.decreases-thread_code-loop-next
decreases-thread_code-loop-next l = length l.code - l.next
