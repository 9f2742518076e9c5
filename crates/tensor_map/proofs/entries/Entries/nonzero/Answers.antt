use Rattle.std.proofs.Common.{◌≤◌, length, ◌∙◌, sym, ap, filter, arith}
use Rattle.tensor_map.specs.Entries.{is_nonzero, greatest_in}
use Rattle.tensor_map.proofs.Noted.{LeavesNonzero, leaves_nonzero, filter_all}
use Rattle.tensor_map.proofs.entries.Entries.nonzero.Goals as goal

left_then : (g : _) (c : goal.After-self-1 g) → LeavesNonzero g.S.Semiring.arithmetic c.self.inside.list c.nonzero.new.self
left_then g c = leaves_nonzero g.S.Semiring.arithmetic g.met.S.Semiring.laws c.self.inside.list c.nonzero.new.self
    c.self.invariant.row c.nonzero.ensures.order c.nonzero.ensures.kept

left_else : (g : _) (c : goal.Else-len-before g) → LeavesNonzero g.S.Semiring.arithmetic c.self.inside.list c.nonzero.new.self
left_else g c = leaves_nonzero g.S.Semiring.arithmetic g.met.S.Semiring.laws c.self.inside.list c.nonzero.new.self
    c.self.invariant.row c.nonzero.ensures.order c.nonzero.ensures.kept

pub invariant_of-self : goal.invariant_of-self
invariant_of-self g c = record { row = (left_then g c).row; most = c.greatest_of-self-inside.ensures }

-- nothing was dropped
pub invariant_of-self-else-len-before : goal.invariant_of-self-else-len-before
invariant_of-self-else-len-before g c =
    let long : length c.self.inside.list.list ≤ length (filter (is_nonzero g.S.Semiring.arithmetic) c.self.inside.list.list) =
    rw (← c.nonzero.ensures.kept) (omega (arith, c.if-len-before.false, c.len.ensures, c.len-before.ensures)) in
    record {
      row = (left_else g c).row;
      most = λ mode. c.self.invariant.most mode ∙ ap (λ es. greatest_in es mode)
          (sym (c.nonzero.ensures.kept ∙ filter_all (is_nonzero g.S.Semiring.arithmetic) c.self.inside.list.list long));
    }

pub returns-then-len-before-clause-none : goal.returns-then-len-before-clause-none
returns-then-len-before-clause-none g c = (left_then g c).none

pub returns-then-len-before-clause-values : goal.returns-then-len-before-clause-values
returns-then-len-before-clause-values g c = rw (← c.self.view_is) (left_then g c).values

pub returns-then-len-before-clause-increasing : goal.returns-then-len-before-clause-increasing
returns-then-len-before-clause-increasing g c = rw (← c.self.view_is) (left_then g c).increasing

pub returns-then-len-before-clause-entries : goal.returns-then-len-before-clause-entries
returns-then-len-before-clause-entries g c = (left_then g c).row

pub returns-else-len-before-clause-none : goal.returns-else-len-before-clause-none
returns-else-len-before-clause-none g c = (left_else g c).none

pub returns-else-len-before-clause-values : goal.returns-else-len-before-clause-values
returns-else-len-before-clause-values g c = rw (← c.self.view_is) (left_else g c).values

pub returns-else-len-before-clause-increasing : goal.returns-else-len-before-clause-increasing
returns-else-len-before-clause-increasing g c = rw (← c.self.view_is) (left_else g c).increasing

pub returns-else-len-before-clause-entries : goal.returns-else-len-before-clause-entries
returns-else-len-before-clause-entries g c = (left_else g c).row
