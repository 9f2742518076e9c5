-- Dense levels of the modes in their own order.
use Rattle.std.specs.Prelude.{◌≡◌, ℕ, zero, suc, ◌+◌, ◌≤◌, true, false, [], ◌∷◌, ◌++◌, length, replicate, refl}
use Rattle.std.proofs.Common.{◌∙◌, sym, ap, subst, arith}
use Rattle.std.proofs.lemmas.List.{get_or-replicate, length-replicate, length-append, map-append}
use Rattle.limits.specs.Limits.{greatest_order}
use Rattle.smallvec.specs.SmallVec.{SmallVec}
use Rattle.level_core.specs.declared.letter.Letter.TheVariants.{Dense}
use Rattle.level_core.specs.Kinds.{properties}
use Rattle.format_spec.specs.Formats.{FormatLevel, IsStored, IsOrder, Chained, InsertedBelowUnordered, letters_of, modes_of, standing}
use Rattle.format_spec.proofs.Counting.{standing_append, standing_is_order}

pub record DenseSoFar (count : ℕ) (levels : SmallVec FormatLevel) : Type 0 where
  pub letters : letters_of levels.items ≡ replicate count Dense
  pub modes : modes_of levels.items ≡ standing count
  pub length_is : length levels.items ≡ count
  pub inline : levels.capacity ≡ 6

dense_chained : (n : ℕ) → Chained false (replicate n Dense)
dense_chained zero = refl
dense_chained (suc n) = (refl, dense_chained n)

dense_inserted : (n : ℕ) → InsertedBelowUnordered (replicate n Dense)
dense_inserted n i j d before end is =
    let count = length-replicate n Dense in
    absurd (apart (ap (λ letter. (properties letter).ordered)
    (sym (get_or-replicate n i Dense d (omega (arith, before, end, count)))) ∙ is))
  where
    apart : true ≡ false → ⊥
    apart h = cc

-- the levels are those of a format
pub dense_format : (n : ℕ) (levels : SmallVec FormatLevel) → n ≤ greatest_order → DenseSoFar n levels → IsStored levels
dense_format n levels short d = record {
  format = record {
    short = omega (arith, d.length_is, short);
    order = subst (λ count. IsOrder count (modes_of levels.items)) (sym d.length_is)
        (subst (IsOrder n) (sym d.modes) (standing_is_order n));
    chained = subst (Chained false) (sym d.letters) (dense_chained n);
    inserted = subst InsertedBelowUnordered (sym d.letters) (dense_inserted n);
  };
  inline = d.inline;
}

-- with one level more
pub one_more_dense : (n : ℕ) (old new : SmallVec FormatLevel) → DenseSoFar n old
    → new.items ≡ old.items ++ record { letter = Dense; mode = n } ∷ [] → new.capacity ≡ old.capacity → DenseSoFar (n + 1) new
one_more_dense n old new d pushed kept = record {
  letters = ap letters_of pushed ∙ map-append (λ level. level.letter) old.items (record { letter = Dense; mode = n } ∷ [])
      ∙ ap (λ ls. ls ++ Dense ∷ []) d.letters ∙ replicate_more n;
  modes = ap modes_of pushed ∙ map-append (λ level. level.mode) old.items (record { letter = Dense; mode = n } ∷ [])
      ∙ ap (λ ms. ms ++ n ∷ []) d.modes ∙ standing_append n;
  length_is = let grown = ap length pushed
      ∙ length-append old.items (record { letter = Dense; mode = n } ∷ []) in omega (arith, grown, d.length_is);
  inline = kept ∙ d.inline;
}
  where
    replicate_more : (k : ℕ) → replicate k Dense ++ Dense ∷ [] ≡ replicate (k + 1) Dense
    replicate_more zero = refl
    replicate_more (suc k) = let same : suc (k + 1) ≡ suc k + 1 = omega arith in ap (λ ls. Dense ∷ ls) (replicate_more k)
        ∙ ap (λ m. replicate m Dense) same
