-- What the tables of kinds say of the kinds that coordinates are inserted into: some are full, and the coordinates of the others are
-- counted.
use Rattle.std.specs.Prelude.{◌≡◌, ℕ, zero, suc, ◌≤◌, Bool, true, false, if◌then◌else◌, List, [], ◌∷◌, length, Some, refl}
use Rattle.std.proofs.Common.{◌∙◌, sym, ap, subst, arith, get_or}
use Rattle.format_spec.specs.declared.format.FormatLevel.{FormatLevel}
use Rattle.format_spec.specs.Formats.{letters_of}
use Rattle.kernel_code.specs.Widths.{slot_width}
use Rattle.kernel_code.specs.declared.syntax.Arr.TheVariants.{Width}
use Rattle.level_core.specs.declared.letter.Letter.{Letter}
use Rattle.level_core.specs.Meaning.{Arrays}
use Rattle.level_core.specs.Kinds.{properties, capabilities}
use Rattle.level_core.proofs.KindLaws.{are_of_a_kind, inserted_is_hashed, unordered_stored}
use Rattle.hashed_level.specs.Hashed.{width_words}
use Rattle.level_rows.specs.Placing.{probes_each}
use Rattle.tensor_storage.specs.declared.level.StorageLevel.{StorageLevel}
use Rattle.tensor_storage.specs.declared.level.StorageLevel.TheVariants.{Dense as OfDense, Compressed as OfCompressed}
use Rattle.tensor_storage.specs.declared.level.StorageLevel.TheVariants.{Singleton as OfSingleton, Hashed as OfHashed}
use Rattle.tensor_storage.specs.Levels.{meaning}
use Rattle.result_assembly.specs.Drained.{IsCounted, IsAboveLast}

-- coordinates that are counted aren't appended, and have no order
pub counted_never : (letter : Letter) → IsCounted letter → (capabilities letter).append ≡ false
counted_never letter counted = (are_of_a_kind letter).not_both counted.inserted

pub counted_unordered : (letter : Letter) → IsCounted letter → (properties letter).ordered ≡ false
counted_unordered letter counted = (are_of_a_kind letter).inserted_unordered counted.inserted counted.stored

pub full_never : (letter : Letter) → (properties letter).full ≡ true → (capabilities letter).append ≡ false
full_never letter full = (are_of_a_kind letter).not_both ((are_of_a_kind letter).full_inserted full)

-- one kind alone is counted
pub one_counted : (letter other : Letter) → IsCounted letter → IsCounted other → letter ≡ other
one_counted letter other counted too =
    inserted_is_hashed letter counted.inserted counted.stored ∙ sym (inserted_is_hashed other too.inserted too.stored)

-- the coordinates of levels without order are counted
pub unordered_counted : (letter : Letter) → (properties letter).ordered ≡ false → IsCounted letter
unordered_counted letter unordered = record {
  inserted = (are_of_a_kind letter).unordered_inserted unordered;
  stored = unordered_stored letter unordered;
}

-- the coordinates of the last level are counted
pub counted_last : (format : List FormatLevel) (d : ℕ) (none : FormatLevel) → IsAboveLast (letters_of format) (Some d)
    → IsCounted (get_or format d none).letter
counted_last [] zero none above = let long = ap length above.2 in absurd (omega (arith, long))
counted_last [] (suc d) none above = let long = ap length above.2 in absurd (omega (arith, long))
counted_last (first ∷ format) zero none above =
    subst IsCounted (sym (heads first.letter above.0 (letters_of format) [] above.2)) above.1
  where
    heads : (x y : Letter) (xs ys : List Letter) → x ∷ xs ≡ y ∷ ys → x ≡ y
    heads x y xs ys h = cc
counted_last (first ∷ format) (suc d) none above = counted_last format d none above

-- full levels have an order, and no row is sought in them
pub full_unprobed : (letter : Letter) → (properties letter).full ≡ true → probes_each letter 0 ≡ 0
full_unprobed letter full = by (properties letter).ordered refl
  where
    by : (b : Bool) → (properties letter).ordered ≡ b → probes_each letter 0 ≡ 0
    by true is = ap (λ b. if b then 0 else slot_width 0) is
    by false is = absurd (let both : true ≡ false = sym full ∙ unordered_stored letter is in cc both)

pub each_within : (letter : Letter) (most : ℕ) → probes_each letter most ≤ slot_width most
each_within letter most = by (properties letter).ordered
  where
    by : (b : Bool) → (if b then 0 else slot_width most) ≤ slot_width most
    by true = omega arith
    by false = omega arith

-- a level whose blocks have a width keeps it in its array
pub width_held : (l : StorageLevel) (level width : ℕ) (arrays : Arrays) → meaning.holds l 0 level arrays → meaning.width l ≡ Some width
    → arrays (Width 0 level) ≡ Some (width ∷ [])
width_held (OfDense n) level width arrays held is = absurd (cc is)
width_held (OfCompressed l) level width arrays held is = absurd (cc is)
width_held (OfSingleton l) level width arrays held is = absurd (cc is)
width_held (OfHashed l) level width arrays held is = held.width ∙ ap (λ o. Some (width_words o)) is
