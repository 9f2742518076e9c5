-- Entries that are summed up have the coordinates that they had before.
use Rattle.std.specs.Prelude.{ℕ, ◌<◌, List, [], ◌∷◌, length, slice_index, slice_index_or}
use Rattle.std.proofs.Common.{subst, arith, inl, inr}
use Rattle.std.proofs.lemmas.List.Elements.{All-tail}
use Rattle.tensor_map.specs.Entries.{Entry, Listed, SameListed}
use Rattle.tensor_map.proofs.Lemmas.{listed_at}
use Rattle.tensor_storage.specs.Arranged.{AreInside}

listed_inside : (sizes : List ℕ) (entries : List Entry) (coords : List ℕ) → AreInside sizes entries → Listed entries coords
    → (mode : ℕ) → mode < length sizes → slice_index coords mode < slice_index sizes mode
listed_inside sizes [] coords inside listed mode h = absurd listed
listed_inside sizes (e ∷ es) coords inside (inl here) mode h =
    subst (λ xs. slice_index xs mode < slice_index sizes mode) here (inside 0 e (omega arith) mode h)
listed_inside sizes (e ∷ es) coords inside (inr there) mode h =
    listed_inside sizes es coords
    (All-tail (λ (entry : Entry). (mode : ℕ) → mode < length sizes → slice_index entry.coords mode < slice_index sizes mode) e es inside)
    there mode h

pub inside_same : (sizes : List ℕ) (entries summed : List Entry) → SameListed entries summed → AreInside sizes entries
    → AreInside sizes summed
inside_same sizes entries summed same inside = λ k d h mode m.
    listed_inside sizes entries (slice_index_or summed k d).coords inside
    ((same (slice_index_or summed k d).coords).0 (listed_at summed k d h)) mode m
