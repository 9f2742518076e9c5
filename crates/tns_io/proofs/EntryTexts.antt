-- The text of entries is that of the tensor that they stand for.
use Rattle.std.specs.Prelude.{◌≡◌, ℕ, Bool, true, false, cond, not, nat_eq, List, [], ◌∷◌, ◌++◌, length, filter, All}
use Rattle.std.specs.Prelude.{slice_index_or, refl}
use Rattle.std.specs.List.{flat_map}
use Rattle.std.proofs.Common.{arith, ap, sym, ◌∙◌, inl, inr, subst}
use Rattle.std.proofs.lemmas.List.Elements.{All-filter, All-tail}
use Rattle.numbers.specs.Arithmetic.{Arithmetic, Laws}
use Rattle.tensor_map.specs.Entries.{Entry, IsEntry, Listed, StrictlyIncreasing, coords_of, is_nonzero, value_at}
use Rattle.tensor_map.specs.Laws.{AllNonzero}
use Rattle.tensor_map.proofs.Lemmas.{increasing_filter, listed_nonzero, none_zero_filter, all_nonzero, value_nonzero, value_of_entry}
use Rattle.tns_io.specs.Positions.{IsBelow}
use Rattle.tns_io.specs.Text.{line_text, entries_text, IsAmong, IsTnsText}

among_listed : (entries : List Entry) (coords : List ℕ) → IsAmong (coords_of entries) coords → Listed entries coords
among_listed [] coords among = among
among_listed (entry ∷ entries) coords (inl here) = inl here
among_listed (entry ∷ entries) coords (inr more) = inr (among_listed entries coords more)

listed_among : (entries : List Entry) (coords : List ℕ) → Listed entries coords → IsAmong (coords_of entries) coords
listed_among [] coords listed = listed
listed_among (entry ∷ entries) coords (inl here) = inl here
listed_among (entry ∷ entries) coords (inr more) = inr (listed_among entries coords more)

kept_more : (b : Bool) (coords : List ℕ) (entry : Entry) (kept entries : List Entry) → (Listed kept coords → Listed entries coords)
    → Listed (cond b (entry ∷ kept) kept) coords → Listed (entry ∷ entries) coords
kept_more true coords entry kept entries more (inl here) = inl here
kept_more true coords entry kept entries more (inr there) = inr (more there)
kept_more false coords entry kept entries more h = inr (more h)

-- what a filter keeps was listed
kept_listed : (p : Entry → Bool) (coords : List ℕ) (entries : List Entry) → Listed (filter p entries) coords → Listed entries coords
kept_listed p coords [] h = h
kept_listed p coords (entry ∷ entries) h = kept_more (p entry) coords entry (filter p entries) entries (kept_listed p coords entries) h

listed_below : (ranges : List ℕ) (entries : List Entry) (coords : List ℕ) → All (λ entry. IsBelow ranges entry.coords) entries
    → Listed entries coords → IsBelow ranges coords
listed_below ranges [] coords below listed = absurd listed
listed_below ranges (entry ∷ entries) coords below (inl here) = subst (IsBelow ranges) here (below 0 entry (omega arith))
listed_below ranges (entry ∷ entries) coords below (inr more) =
    listed_below ranges entries coords (All-tail (λ e. IsBelow ranges e.coords) entry entries below) more

module _ (a : Arithmetic) (signed : Bool) where
  -- zeros are passed over
  text_of_kept : (entries : List Entry)
      → entries_text a signed entries ≡ flat_map (λ entry. line_text signed entry.coords entry.value) (filter (is_nonzero a) entries)
  text_of_kept [] = refl
  text_of_kept (entry ∷ entries) = by (nat_eq entry.value a.zero) (text_of_kept entries)
    where
      by : (b : Bool) → entries_text a signed entries
          ≡ flat_map (λ entry. line_text signed entry.coords entry.value) (filter (is_nonzero a) entries)
          → cond b [] (line_text signed entry.coords entry.value) ++ entries_text a signed entries
          ≡ flat_map (λ entry. line_text signed entry.coords entry.value)
          (cond (not b) (entry ∷ filter (is_nonzero a) entries) (filter (is_nonzero a) entries))
      by true h = h
      by false h = ap (λ t. line_text signed entry.coords entry.value ++ t) h

  text_by_values : (value : List ℕ → ℕ) (entries : List Entry) → All (λ entry. value entry.coords ≡ entry.value) entries
      → flat_map (λ entry. line_text signed entry.coords entry.value) entries ≡ flat_map (λ coords. line_text signed coords (value coords))
      (coords_of entries)
  text_by_values value [] each = refl
  text_by_values value (entry ∷ entries) each =
      let here : value entry.coords ≡ entry.value = each 0 entry (omega arith) in
      (λ i. line_text signed entry.coords (sym here i) ++ text_by_values value entries
      (All-tail (λ e. value e.coords ≡ e.value) entry entries each) i)

-- entries in increasing order, none at the coordinates of another
pub entries_are_text : (a : Arithmetic) (signed : Bool) → Laws a → (ranges : List ℕ) (entries : List Entry) → StrictlyIncreasing entries
    → All (IsEntry (length ranges)) entries
    → All (λ entry. IsBelow ranges entry.coords) entries → IsTnsText a signed ranges (value_at a entries) (entries_text a signed entries)
entries_are_text a signed laws ranges entries up each below =
    let kept : List Entry = filter (is_nonzero a) entries in
    let kept_up : StrictlyIncreasing kept = increasing_filter (is_nonzero a) entries up in
    let kept_each : All (IsEntry (length ranges)) kept = All-filter (is_nonzero a) (IsEntry (length ranges)) entries each in
    let some : AllNonzero a kept = all_nonzero a (length ranges) kept kept_each (none_zero_filter a entries) in
    let same : (coords : List ℕ) → value_at a kept coords ≡ value_at a entries coords = λ coords. value_nonzero a laws coords entries in
    let values : All (λ (entry : Entry). value_at a entries entry.coords ≡ entry.value) kept =
    λ k d h. sym (same (slice_index_or kept k d).coords) ∙ value_of_entry a laws kept k d kept_up h (kept_each k d h).word in
    record {
      places = coords_of kept;
      increasing = kept_up;
      exact = λ coords. (
        λ among.
            let listed : Listed kept coords = among_listed kept coords among in (
              listed_below ranges entries coords below (kept_listed (is_nonzero a) coords entries listed),
              λ zero'. (listed_nonzero a laws kept kept_up some coords).0 listed (same coords ∙ zero'),
            ),
        λ both. listed_among kept coords ((listed_nonzero a laws kept kept_up some coords).1 (λ zero'. both.1 (sym (same coords) ∙ zero'))),
      );
      lines = text_of_kept a signed entries ∙ text_by_values a signed (value_at a entries) kept values;
    }
