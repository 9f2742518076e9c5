-- What is noted beside a row of entries: the greatest coordinate of each mode; and how a row that increases goes on.
use Rattle.std.specs.Prelude.{◌≡◌, ℕ, suc, ◌<◌, ◌≤◌, Bool, true, false, cond, List, [], ◌∷◌, ◌++◌, length, max, filter, All}
use Rattle.std.specs.Prelude.{◌↔◌, IsTrue, refl, slice_index, slice_index_or}
use Rattle.std.specs.declared.cmp.Ordering.{Ordering}
use Rattle.std.specs.declared.cmp.Ordering.TheVariants.{Less, Equal, Greater}
use Rattle.std.specs.Ordering.{nat_cmp, is_lt}
use Rattle.std.specs.Cmp.Lexicographic.{slice_cmp}
use Rattle.std.proofs.Common.{arith, ap, subst, sym, ◌∙◌, inl, inr}
use Rattle.std.proofs.Math.Nat.{le-max_left, le-max_right, max-le, max-eq_left, max-eq_right, max-zero}
use Rattle.std.proofs.lemmas.Bool.{cases_lt}
use Rattle.std.proofs.lemmas.List.Elements.{All-filter, All-push}
use Rattle.std.proofs.lemmas.List.Recursion.{max_bounds}
use Rattle.std.proofs.lemmas.List.Sums.{length-filter, count_by-le-length}
use Rattle.numbers.specs.Arithmetic.{Arithmetic, Laws}
use Rattle.tensor_map.specs.Order.{IsBefore}
use Rattle.limits.specs.Limits.{greatest_order}
use Rattle.tensor_map.specs.Entries.{Entry, Entries, IsEntry, AreEntries, AreNoted}
use Rattle.tensor_map.specs.Entries.{coords_of, Listed, SameListed, SameValues, StrictlyIncreasing}
use Rattle.tensor_map.specs.Entries.{IsGreatest, ComeLast, NoneIsZero, is_nonzero, value_at, greatest_in}
use Rattle.tensor_map.proofs.Lemmas.{value_nonzero, increasing_filter, none_zero_filter}
use Rattle.tensor_map.proofs.OrderLaws.{before_irreflexive, before_trans, before_all_trans, compared_as}

max_swapped : (a b c : ℕ) → max a (max b c) ≡ max b (max a c)
max_swapped a b c =
    let low : max a (max b c) ≤ max b (max a c) = max-le (omega (arith, le-max_left a c, le-max_right b (max a c)))
    (max-le (le-max_left b (max a c)) (omega (arith, le-max_right a c, le-max_right b (max a c)))) in
    let high : max b (max a c) ≤ max a (max b c) = max-le (omega (arith, le-max_left b c, le-max_right a (max b c)))
    (max-le (le-max_left a (max b c)) (omega (arith, le-max_right b c, le-max_right a (max b c)))) in
    omega arith

-- the greatest coordinate with one more entry
pub greatest_more : (entries : List Entry) (entry : Entry) (mode : ℕ)
    → greatest_in (entries ++ entry ∷ []) mode ≡ max (slice_index entry.coords mode) (greatest_in entries mode)
greatest_more [] entry mode = refl
greatest_more (first ∷ entries) entry mode =
    ap (max (slice_index first.coords mode)) (greatest_more entries entry mode)
    ∙ max_swapped (slice_index first.coords mode) (slice_index entry.coords mode) (greatest_in entries mode)

coordinate_listed : (coords : List ℕ) (entries : List Entry) (mode : ℕ) → Listed entries coords
    → slice_index coords mode ≤ greatest_in entries mode
coordinate_listed coords [] mode listed = absurd listed
coordinate_listed coords (entry ∷ entries) mode (inl here) =
    subst (λ xs. slice_index xs mode ≤ max (slice_index entry.coords mode) (greatest_in entries mode)) here
    (le-max_left (slice_index entry.coords mode) (greatest_in entries mode))
coordinate_listed coords (entry ∷ entries) mode (inr more) =
    omega (arith, coordinate_listed coords entries mode more, le-max_right (slice_index entry.coords mode) (greatest_in entries mode))

listed_within : (entries others : List Entry) (mode : ℕ) → ((coords : List ℕ) → Listed entries coords → Listed others coords)
    → greatest_in entries mode ≤ greatest_in others mode
listed_within [] others mode h = omega arith
listed_within (entry ∷ entries) others mode h = max-le (coordinate_listed entry.coords others mode (h entry.coords (inl refl)))
    (listed_within entries others mode (λ coords more. h coords (inr more)))

-- it is told by the coordinates that are listed
pub same_greatest : (old new : List Entry) (mode : ℕ) → SameListed old new → greatest_in new mode ≡ greatest_in old mode
same_greatest old new mode same_listed =
    let low : greatest_in new mode ≤ greatest_in old mode = listed_within new old mode (λ coords. (same_listed coords).0) in
    let high : greatest_in old mode ≤ greatest_in new mode = listed_within old new mode (λ coords. (same_listed coords).1) in
    omega arith

greatest_found : (first : Entry) (entries : List Entry) (mode : ℕ) → (k : ℕ) × (k < length (first ∷ entries))
    × ((d : Entry) → slice_index (slice_index_or (first ∷ entries) k d).coords mode ≡ greatest_in (first ∷ entries) mode)
greatest_found first [] mode = (0, omega arith, λ d. sym (max-zero (slice_index first.coords mode)))
greatest_found first (next ∷ entries) mode =
    let more = greatest_found next entries mode in
    elim (cases_lt (slice_index first.coords mode) (greatest_in (next ∷ entries) mode)) [
      | inl low ↦ (suc more.0, omega (arith, more.1), λ d. more.2 d ∙ sym (max-eq_right (omega arith)))
      | inr high ↦ (0, omega arith, λ d. sym (max-eq_left high))
    ]

pub is_greatest : (entries : List Entry) (mode : ℕ) → 0 < length entries → IsGreatest entries mode (greatest_in entries mode)
is_greatest [] mode h = absurd (omega arith)
is_greatest (first ∷ entries) mode h = record {
  found = greatest_found first entries mode;
  most = max_bounds (λ es. greatest_in es mode) (λ (e : Entry). slice_index e.coords mode) refl (λ e es. refl) (first ∷ entries);
}

-- a test of an order, answered by a comparison
pub before_tested : (xs ys : List ℕ) (r : Ordering) → slice_cmp nat_cmp xs ys ≡ r → (IsTrue (is_lt r) ↔ IsBefore xs ys)
before_tested xs ys Less e = (λ h. compared_as xs ys Less e, λ before. refl)
before_tested xs ys Equal e = (
  λ h. absurd (cc),
  λ before. absurd (before_irreflexive xs (subst (IsBefore xs) (sym (compared_as xs ys Equal e)) before)),
)
before_tested xs ys Greater e = (
  λ h. absurd (cc),
  λ before. absurd (before_irreflexive xs (before_trans xs ys xs before (compared_as xs ys Greater e))),
)

-- an increasing row stays one with an entry after its last
pub increasing_more : (entries : List Entry) (entry : Entry) → StrictlyIncreasing entries → ComeLast entries entry.coords
    → StrictlyIncreasing (entries ++ entry ∷ [])
increasing_more [] entry up after = (tt, tt)
increasing_more (first ∷ []) entry up after = ((after 0 first (omega arith), tt), (tt, tt))
increasing_more (first ∷ next ∷ entries) entry up after =
    let rest : StrictlyIncreasing (next ∷ entries ++ entry ∷ []) =
    increasing_more (next ∷ entries) entry up.1 (λ k d e. after (suc k) d (omega arith)) in
    ((up.0.0, before_all_trans first.coords next.coords (coords_of (entries ++ entry ∷ [])) up.0.0 rest.0), rest)

-- a filter that leaves as many entries as there were leaves all
pub filter_all : (p : Entry → Bool) (entries : List Entry) → length entries ≤ length (filter p entries) → filter p entries ≡ entries
filter_all p [] h = refl
filter_all p (entry ∷ entries) h = by (p entry) h (filter_all p entries)
  where
    by : (b : Bool) → length (entry ∷ entries) ≤ length (cond b (entry ∷ filter p entries) (filter p entries))
        → (length entries ≤ length (filter p entries) → filter p entries ≡ entries)
        → cond b (entry ∷ filter p entries) (filter p entries) ≡ entry ∷ entries
    by true long rest = ap (λ es. entry ∷ es) (rest (omega arith))
    by false long rest = absurd (omega (arith, length-filter p entries, count_by-le-length p entries))

-- one more entry
pub noted_more : (v : ℕ) (old new : Entries) (coords greatest raised : List ℕ)
    → AreNoted old greatest
    → new.order ≡ old.order
    → new.list ≡ old.list ++ record { coords = coords; value = v } ∷ []
    → IsEntry old.order (record { coords = coords; value = v })
    → ((mode : ℕ) → slice_index raised mode ≡ max (slice_index coords mode) (slice_index greatest mode))
    → AreNoted new raised
noted_more v old new coords greatest raised noted order_is is is_entry raises =
    let entry : Entry = record { coords = coords; value = v } in
    record {
      row = record {
        short = subst (λ n. n ≤ greatest_order) (sym order_is) noted.row.short;
        each = subst (λ n. All (IsEntry n) new.list) (sym order_is) (subst (All (IsEntry old.order)) (sym is)
            (All-push (IsEntry old.order) old.list entry noted.row.each is_entry));
      };
      most = λ mode. raises mode ∙ ap (max (slice_index coords mode)) (noted.most mode)
          ∙ sym (greatest_more old.list entry mode) ∙ ap (λ es. greatest_in es mode) (sym is);
    }

-- the entries whose value isn't zero
pub record LeavesNonzero (a : Arithmetic) (old new : Entries) : Type 0 where
  pub row : AreEntries new
  pub none : NoneIsZero a new.list
  pub values : SameValues a old.list new.list
  pub increasing : StrictlyIncreasing old.list → StrictlyIncreasing new.list

pub leaves_nonzero : (a : Arithmetic) → Laws a → (old new : Entries) → AreEntries old → new.order ≡ old.order
    → new.list ≡ filter (is_nonzero a) old.list → LeavesNonzero a old new
leaves_nonzero a laws old new row order_is kept = record {
  row = record {
    short = subst (λ n. n ≤ greatest_order) (sym order_is) row.short;
    each = subst (λ n. All (IsEntry n) new.list) (sym order_is)
        (subst (All (IsEntry old.order)) (sym kept) (All-filter (is_nonzero a) (IsEntry old.order) old.list row.each));
  };
  none = subst (NoneIsZero a) (sym kept) (none_zero_filter a old.list);
  values = λ coords. ap (λ es. value_at a es coords) kept ∙ value_nonzero a laws coords old.list;
  increasing = λ rising. subst StrictlyIncreasing (sym kept) (increasing_filter (is_nonzero a) old.list rising);
}
