-- What may be asked of finished levels that stand one below another.
use Rattle.std.specs.Prelude.{◌≡◌, ℕ, zero, suc, ◌+◌, ◌<◌, true, false, List, [], ◌∷◌, length, refl}
use Rattle.std.proofs.Common.{arith, subst, inl, inr, get_or}
use Rattle.level_core.specs.declared.span.Span.{Span}
use Rattle.level_core.specs.declared.span.Entry.{Entry}
use Rattle.level_core.specs.declared.letter.Letter.{Letter}
use Rattle.level_core.specs.declared.letter.Letter.TheVariants.{Dense, Compressed, CompressedGroups, Singleton, SingletonGroups, Hashed}
use Rattle.level_core.specs.Entries.{StandsAt, one}
use Rattle.level_core.specs.Kinds.{properties, capabilities}
use Rattle.tensor_storage.specs.Laws.{laws}
use Rattle.tensor_storage.specs.Levels.{meaning}
use Rattle.tensor_storage.specs.declared.level.StorageLevel.{StorageLevel}
use Rattle.tensor_storage.specs.Storages.{IsOpen}
use Rattle.storage_arrays.specs.Arrays.{AreDone}

-- where the first of some levels is finished, each of its parents may be asked
pub parent_allowed : (levels : List StorageLevel) (l : StorageLevel) (below : List StorageLevel) (parents : ℕ) → levels ≡ l ∷ below
    → AreDone parents levels → (p : ℕ) → p < parents → meaning.allowed l (one p)
parent_allowed levels l below parents same done p h =
    laws.parents l parents p (subst (AreDone parents) same done).0 h

-- where coordinates can be located, a parent is one position
located_alone : (k : Letter) → (capabilities k).locate ≡ true → (properties k).branchless ≡ false
located_alone Dense h = refl
located_alone Compressed h = absurd (cc)
located_alone CompressedGroups h = absurd (cc)
located_alone Singleton h = absurd (cc)
located_alone SingletonGroups h = absurd (cc)
located_alone Hashed h = refl

pub one_allowed : (l : StorageLevel) (span : Span) → meaning.allowed l span → (capabilities (meaning.kind l)).locate ≡ true
    → meaning.allowed l (one span.lo)
one_allowed l span allowed locates =
    let alone : span.hi ≡ span.lo + 1 = laws.one_parent l span allowed (located_alone (meaning.kind l) locates) in
    let asked : Span → Type 0 = meaning.allowed l in
    subst (λ (hi : ℕ). asked (record { lo = span.lo; hi = hi })) alone allowed

-- each item of a list of entries stands there
item_stands : (es : List Entry) (k : ℕ) (d : Entry) → k < length es → StandsAt (get_or es k d).child.lo (get_or es k d) es
item_stands [] k d h = absurd (omega (arith, h))
item_stands (e ∷ es) zero d h = inl (refl, refl)
item_stands (e ∷ es) (suc k) d h = inr (item_stands es k d (omega (arith, h)))

-- below an item of the entries of the first of some levels, those below it may be asked
pub open_below : (levels : List StorageLevel) (l : StorageLevel) (below : List StorageLevel) (positions : ℕ) (span : Span)
    (items : List Entry) (k : ℕ) (d : Entry) → levels ≡ l ∷ below → IsOpen meaning levels positions span
    → items ≡ meaning.entries l span → k < length items → IsOpen meaning below positions (get_or items k d).child
open_below levels l below positions span items k d same opened is h =
    (subst (λ ls. IsOpen meaning ls positions span) same opened).1 (get_or items k d)
    (subst (λ es. StandsAt (get_or items k d).child.lo (get_or items k d) es) is (item_stands items k d h))
