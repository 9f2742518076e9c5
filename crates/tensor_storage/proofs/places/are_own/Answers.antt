use Rattle.std.specs.Prelude.{◌≡◌, ◌<◌, ℕ, length, slice_index}
use Rattle.std.proofs.Common.{subst, sym}
use Rattle.tensor_storage.specs.Places.{places_in}
use Rattle.tensor_storage.proofs.Arranging.{number_at}
use Rattle.tensor_storage.proofs.places.are_own.Goals as goal

pub returns-in-Own : goal.returns-in-Own
returns-in-Own c _ =
    subst (λ places. (i : ℕ) → i < length (places_in places) → slice_index (places_in places) i ≡ i) (sym c.in-Own.is)
    (λ i h. number_at _ i h)
