use Rattle.std.specs.Prelude.{length}
use Rattle.nested_sums.proofs.cutting.+push_pieces_of_terms.Given as goal

abbrev pub decreases-push_pieces_of_terms : goal.decreases-push_pieces_of_terms
decreases-push_pieces_of_terms l = length l.terms.now
