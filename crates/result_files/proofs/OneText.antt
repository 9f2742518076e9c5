-- A result has one text.
use Rattle.std.specs.Prelude.{◌≡◌, ◌⊎◌, ℕ, suc, ◌<◌, ◌≤◌, Bool, true, false, List, [], ◌∷◌, length, All, Option}
use Rattle.std.proofs.Common.{sym, subst, ap, ◌∙◌, inl, inr, arith}
use Rattle.std.proofs.lemmas.Bool.{cases_lt}
use Rattle.numbers.specs.Arithmetic.{Arithmetic, Laws}
use Rattle.tensor_map.specs.Entries.{Entry, Listed, value_at}
use Rattle.tensor_map.proofs.Lemmas.{value_unlisted, all_nonzero, one_row}
use Rattle.tns_io.specs.Positions.{IsBelow}
use Rattle.tns_io.proofs.TextLaws as tns
use Rattle.mtx_io.specs.Text.{IsBelow as IsBelowMatrix, matrix_text}
use Rattle.result_files.specs.ResultText.{IsResultText, IsTextIn, IsMatrixOf, asks_matrix}

below_back : (ranges coords : List ℕ) → IsBelowMatrix ranges coords → IsBelow ranges coords
below_back [] [] h = tt
below_back [] (c ∷ cs) h = absurd h
below_back (n ∷ ns) [] h = absurd h
below_back (n ∷ ns) (c ∷ cs) h = (h.0, below_back ns cs h.1)

-- what is listed is below the ranges
listed_below : (ranges : List ℕ) (entries : List Entry) (coords : List ℕ) → All (λ entry. IsBelowMatrix ranges entry.coords) entries
    → Listed entries coords → IsBelow ranges coords
listed_below ranges [] coords all listed = absurd listed
listed_below ranges (entry ∷ entries) coords all (inl here) =
    below_back ranges coords (subst (IsBelowMatrix ranges) here (all 0 entry (omega arith)))
listed_below ranges (entry ∷ entries) coords all (inr more) =
    listed_below ranges entries coords (λ k d h. all (suc k) d (omega (arith, h))) more

tell_below : (ranges coords : List ℕ) → IsBelow ranges coords ⊎ (IsBelow ranges coords → ⊥)
tell_below [] [] = inl tt
tell_below [] (c ∷ cs) = inr (λ h. h)
tell_below (n ∷ ns) [] = inr (λ h. h)
tell_below (n ∷ ns) (c ∷ cs) = by (cases_lt c n) (tell_below ns cs)
  where
    by : (c < n) ⊎ (n ≤ c) → IsBelow ns cs ⊎ (IsBelow ns cs → ⊥) → ((c < n) × IsBelow ns cs) ⊎ ((c < n) × IsBelow ns cs → ⊥)
    by (inl here) (inl rest) = inl (here, rest)
    by (inl here) (inr rest) = inr (λ both. rest both.1)
    by (inr over) rest = inr (λ both. let here : c < n = both.0 in omega (arith, over, here))

-- two matrix texts of one tensor below the ranges
module _ (a : Arithmetic) (signed : Bool) (laws : Laws a) (ranges : List ℕ) (value : List ℕ → ℕ) where
  one_matrix : (first second : List ℕ) → IsMatrixOf a signed ranges value first → IsMatrixOf a signed ranges value second → first ≡ second
  one_matrix first second one two =
      let same : one.text_is.entries ≡ two.text_is.entries = one_row a laws one.text_is.entries two.text_is.entries
      one.text_is.increasing two.text_is.increasing
      (all_nonzero a (length ranges) one.text_is.entries one.text_is.each one.text_is.nonzero)
      (all_nonzero a (length ranges) two.text_is.entries two.text_is.each two.text_is.nonzero)
      (λ coords. agree coords (tell_below ranges coords)) in
      one.text_is.text_is ∙ ap (matrix_text signed ranges) same ∙ sym two.text_is.text_is
    where
      agree : (coords : List ℕ) → IsBelow ranges coords ⊎ (IsBelow ranges coords → ⊥)
          → value_at a one.text_is.entries coords ≡ value_at a two.text_is.entries coords
      agree coords (inl below) =
          one.text_is.values coords ∙ one.inside coords below ∙ sym (two.inside coords below) ∙ sym (two.text_is.values coords)
      agree coords (inr above) =
          value_unlisted a laws coords one.text_is.entries
          (λ listed. above (listed_below ranges one.text_is.entries coords one.text_is.below listed))
          ∙ sym (value_unlisted a laws coords two.text_is.entries
          (λ listed. above (listed_below ranges two.text_is.entries coords two.text_is.below listed)))

  one_in : (b : Bool) (first second : List ℕ) → IsTextIn b a signed ranges value first → IsTextIn b a signed ranges value second
      → first ≡ second
  one_in true first second one two = one_matrix first second one two
  one_in false first second one two = tns.one_text a signed ranges value first second one two

pub one_text : (a : Arithmetic) (signed : Bool) → Laws a
    → (path : Option (List ℕ)) (ranges : List ℕ) (value : List ℕ → ℕ) (first second : List ℕ)
    → IsResultText a signed path ranges value first → IsResultText a signed path ranges value second → first ≡ second
one_text a signed laws path ranges value first second one two = one_in a signed laws ranges value (asks_matrix path) first second one two
