-- The entries that are written, one by one.
use Rattle.std.specs.Prelude.{◌≡◌, ◌≢◌, ℕ, suc, ◌+◌, ◌^◌, ◌<◌, ◌≤◌, All, Bool, true, false, cond, not, nat_eq, ◌==◌, List, [], ◌∷◌}
use Rattle.std.specs.Prelude.{◌++◌, length, take, drop, filter, slice_index_or, refl}
use Rattle.std.proofs.Common.{arith, ap, sym, ◌∙◌, append-nil, add-one, lit≤}
use Rattle.std.proofs.Math.Seq.{drop-cons}
use Rattle.std.proofs.lemmas.Bool.{ne_eqb, eq-eqb}
use Rattle.std.proofs.lemmas.List.Filters.{length-filter_more}
use Rattle.std.proofs.lemmas.List.Elements.{All-cons, All-tail}
use Rattle.limits.specs.Limits.{greatest_position_count}
use Rattle.limits.proofs.Limits.{positions_are_small}
use Rattle.numbers.specs.Arithmetic.{Arithmetic}
use Rattle.tensor_map.specs.Entries.{Entry, is_nonzero}
use Rattle.mtx_io.specs.Text.{AreSmall, IsBelow, entry_text, entries_text}

module _ (a : Arithmetic) (entries : List Entry) (i : ℕ) (d : Entry) (value : ℕ) (is : value ≡ (slice_index_or entries i d).value)
    (within : i < length entries) where
  test_is : (value == a.zero) ≡ nat_eq (slice_index_or entries i d).value a.zero
  test_is = ap (λ v. nat_eq v a.zero) is

  -- how many there are
  pub count_more : value ≢ a.zero
      → length (filter (is_nonzero a) (take (i + 1) entries)) ≡ length (filter (is_nonzero a) (take i entries)) + 1
  count_more some =
      length-filter_more (is_nonzero a) entries i d within
      ∙ ap (λ b. length (filter (is_nonzero a) (take i entries)) + cond (not b) 1 0) (sym test_is ∙ ne_eqb value a.zero some)

  pub count_same : value ≡ a.zero → length (filter (is_nonzero a) (take (i + 1) entries)) ≡ length (filter (is_nonzero a) (take i entries))
  count_same none =
      length-filter_more (is_nonzero a) entries i d within
      ∙ ap (λ b. length (filter (is_nonzero a) (take i entries)) + cond (not b) 1 0) (sym test_is ∙ eq-eqb value a.zero none)
      ∙ omega arith

-- what is left to be written
pub left_is : (a : Arithmetic) (signed : Bool) (entries : List Entry) (i : ℕ) (d : Entry) → i < length entries
    → entries_text signed (filter (is_nonzero a) (drop i entries))
    ≡ entries_text signed (filter (is_nonzero a) (slice_index_or entries i d ∷ []))
    ++ entries_text signed (filter (is_nonzero a) (drop (i + 1) entries))
left_is a signed entries i d within =
    ap (λ es. entries_text signed (filter (is_nonzero a) es)) (drop-cons entries i d within)
    ∙ by (is_nonzero a (slice_index_or entries i d))
    ∙ ap (λ n. entries_text signed (filter (is_nonzero a) (slice_index_or entries i d ∷ [])) ++ entries_text signed
    (filter (is_nonzero a) (drop n entries))) (sym (add-one i))
  where
    others : List Entry
    others = filter (is_nonzero a) (drop (suc i) entries)

    by : (b : Bool) → entries_text signed (cond b (slice_index_or entries i d ∷ others) others) ≡ entries_text signed
        (cond b (slice_index_or entries i d ∷ []) []) ++ entries_text signed others
    by true = ap (λ t. t ++ entries_text signed others) (sym (append-nil (entry_text signed (slice_index_or entries i d))))
    by false = refl

-- coordinates below ranges can be counted from 1
pub below_small : (ranges coords : List ℕ) → All (λ range. range ≤ greatest_position_count) ranges → IsBelow ranges coords → AreSmall coords
below_small [] [] within below = λ k d h. absurd (omega arith)
below_small [] (c ∷ coords) within below = absurd below
below_small (range ∷ ranges) [] within below = absurd below
below_small (range ∷ ranges) (c ∷ coords) within below =
    let first = within 0 0 (omega arith) in
    let wide : 2 ^ 62 ≤ 2 ^ 64 = lit≤ tt in
    All-cons (λ x. x + 1 < 2 ^ 64) c coords (omega (arith, first, below.0, positions_are_small))
    (below_small ranges coords (All-tail (λ x. x ≤ greatest_position_count) range ranges within) below.1)
