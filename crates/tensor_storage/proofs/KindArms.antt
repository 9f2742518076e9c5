-- Facts about a level of any kind: what holds it if nothing is appended to it, and which level is dense.
use Rattle.std.specs.Prelude.{◌≡◌, ℕ, false}
use Rattle.std.proofs.Common.{◌∙◌, sym, ap}
use Rattle.kernel_code.specs.Arrays.{same_arr}
use Rattle.kernel_code.specs.declared.syntax.Arr.{Arr}
use Rattle.kernel_code.specs.declared.syntax.Arr.TheVariants.{Ends}
use Rattle.level_core.specs.Fragments.{IsOf}
use Rattle.level_core.specs.declared.letter.Letter.TheVariants.{Dense}
use Rattle.level_core.specs.Kinds.{capabilities}
use Rattle.level_core.specs.Meaning.{Arrays}
use Rattle.tensor_storage.specs.declared.level.StorageLevel.{StorageLevel}
use Rattle.tensor_storage.specs.declared.level.StorageLevel.TheVariants.{Dense as OfDense}
use Rattle.tensor_storage.specs.Laws.{of_letter}
use Rattle.tensor_storage.specs.Levels.{meaning}
use Rattle.tensor_storage.proofs.EachKind.{each_gives}

-- a level that isn't appended to has no segment ends: other arrays that are the same hold it
pub held_without_ends : (l : StorageLevel) (tensor level : ℕ) (a b : Arrays) → (capabilities (meaning.kind l)).append ≡ false
    → ((x : Arr) → IsOf tensor level x → same_arr (Ends tensor level) x ≡ false → b x ≡ a x)
    → meaning.holds l tensor level a → meaning.holds l tensor level b
held_without_ends = each_gives _ (λ L wrap gives l. gives.held_without_ends l)

-- a level of the dense kind is a dense level
pub dense_is : (l : StorageLevel) → meaning.kind l ≡ Dense → l ≡ OfDense (meaning.size l)
dense_is l h =
    let of = of_letter l Dense h in
    let same : l ≡ OfDense of.inner = of.is in same ∙ ap OfDense (sym (ap meaning.size same))
