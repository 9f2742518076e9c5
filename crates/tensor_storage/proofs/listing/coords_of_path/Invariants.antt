use Rattle.std.specs.Prelude.{◌≡◌, take}
use Rattle.tensor_storage.specs.Routes.{in_mode_order}
use Rattle.tensor_storage.proofs.listing.coords_of_path.Given as goal

abbrev pub invariant-loop-place : goal.invariant-loop-place
invariant-loop-place l = l.coords ≡ in_mode_order (take l.place-index l.places) l.path
