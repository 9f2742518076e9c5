-- What a reader keeps of a place in the grammar, and what it answers.
use Rattle.std.specs.Prelude.{◌≡◌}
use Rattle.notation_grammar.specs.declared.symbol.Symbol.{Symbol}
use Rattle.limits.specs.Limits.{greatest_accesses}
use Rattle.notation_grammar.specs.Grammar.{Tree, sentence_of}
use Rattle.index_notation.specs.Numbering.{distinct}
use Rattle.notation_grammar.specs.Faults.{variables_in}
use Rattle.notation_grammar.specs.TreeStatement.{accesses_of_tree, sum_expr}
use Rattle.notation_reader.specs.declared.reader.Reader.{Reader}
use Rattle.notation_reader.specs.declared.reader.Reading.{Reading}
use Rattle.notation_reader.specs.Machine.{State}
use Rattle.notation_reader.specs.Shown.{show}
use Rattle.notation_reader.specs.Counting.{IsCounted}
use Rattle.notation_reader.specs.Accesses.{accesses_so_far}
use Rattle.notation_reader.specs.Building.{built}
use Rattle.notation_reader.specs.Judging.{IsTaken}
use Rattle.notation_reader.specs.Sums.{written_in_sum}

-- each view of the reader is that of this place
pub record Shows (s : State) (r : Reader) : Type 0 where
  pub position : show s ≡ r.position
  pub counted : IsCounted s r.counts
  pub accesses : accesses_so_far s ≡ r.accesses
  pub is_built : built s ≡ r.builder

-- the symbol leads from the place to one that the reader shows, within the limits
pub record IsTakenBy (s : State) (t : Symbol) (r : Reader) : Type 0 where
  pub taken : IsTaken s t r.position r.counts
  pub accesses : accesses_so_far taken.next ≡ r.accesses
  pub is_built : built taken.next ≡ r.builder

-- the accesses, the variables, the nested sums and the expression of a tree
pub record IsReadingOf (tree : Tree) (r : Reading) : Type 0 where
  pub accesses : r.accesses ≡ accesses_of_tree tree
  pub vars : r.vars ≡ distinct (variables_in (sentence_of tree))
  pub sums : r.sums ≡ written_in_sum 0 greatest_accesses tree.right
  pub expr : r.expr ≡ sum_expr 0 greatest_accesses tree.right
