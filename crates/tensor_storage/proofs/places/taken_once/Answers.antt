use Rattle.std.specs.Prelude.{length, refl}
use Rattle.tensor_storage.specs.Places.{places_in}
use Rattle.tensor_storage.proofs.PlaceSteps.{own_list, no_more}
use Rattle.tensor_storage.proofs.places.taken_once.Goals as goal

pub returns-then-are_first : goal.returns-then-are_first
returns-then-are_first c = (c.are_first.ensures c.if-are_first.true, no_more)

pub returns-then-are_own : goal.returns-then-are_own
returns-then-are_own c = (
  own_list (length (places_in c.args.places.now)) (places_in c.args.places.now) refl (c.are_own.ensures c.if-are_own.true),
  λ _. c.if-not-branchless.false,
)
