-- The format `ds` is what its letters name.
use Rattle.std.specs.Prelude.{◌≡◌, true, false, [], ◌∷◌, Ok, None, refl}
use Rattle.std.proofs.Common.{arith}
use Rattle.std.proofs.lemmas.List.Elements.{All-nil, All-cons}
use Rattle.std.proofs.lemmas.List.Kept.{AllPairs-cons}
use Rattle.level_core.specs.declared.letter.Letter.TheVariants.{Dense, Compressed}
use Rattle.level_core.specs.Kinds.{properties, capabilities}
use Rattle.format_spec.specs.Formats.{InsertedBelowUnordered}
use Rattle.format_spec.specs.Words.{Answers}
use Rattle.generated_runs.specs.Workloads.{by_rows}

dense_is_ordered : true ≡ false → (capabilities Compressed).insert ≡ true
dense_is_ordered e = cc

-- of two levels of which the first is ordered the rule of those without order says nothing
all_ordered : InsertedBelowUnordered (Dense ∷ Compressed ∷ [])
all_ordered =
    AllPairs-cons (λ letter below. (properties letter).ordered ≡ false → (capabilities below).insert ≡ true) Dense (Compressed ∷ [])
    (All-cons (λ below. true ≡ false → (capabilities below).insert ≡ true) Compressed [] dense_is_ordered
    (All-nil (λ below. true ≡ false → (capabilities below).insert ≡ true)))
    (AllPairs-cons (λ letter below. (properties letter).ordered ≡ false → (capabilities below).insert ≡ true) Compressed []
    (All-nil (λ below. true ≡ false → (capabilities below).insert ≡ true))
    (λ i j d before inside. absurd (omega (arith, inside))))

pub read_by_rows : Answers (100 ∷ 115 ∷ []) None 2 (Ok by_rows)
read_by_rows = (record { letters_are = refl; count = refl; modes_are = refl }, (refl, (refl, refl)), all_ordered)
