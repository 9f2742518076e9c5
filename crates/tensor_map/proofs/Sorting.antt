-- A sort by coordinates: what it leaves never falls, and has the same values at each coordinate list.
use Rattle.std.specs.Prelude.{◌≡◌, ℕ, suc, ◌<◌, ◌≤◌, false, List, [], ◌∷◌, ◌++◌, length, take}
use Rattle.std.specs.Prelude.{All, ◌⊎◌, ◌↔◌, refl, slice_index_or}
use Rattle.std.specs.declared.cmp.Ordering.{Ordering}
use Rattle.std.specs.declared.cmp.Ordering.TheVariants.{Less, Equal, Greater}
use Rattle.std.specs.Ordering.{nat_cmp, is_lt}
use Rattle.std.specs.Cmp.{IsStrictWeakOrder}
use Rattle.std.specs.Cmp.Lexicographic.{slice_cmp, nat_list_cmp_total}
use Rattle.std.specs.List.Sorted.{IsPermutation, IsSortedBy}
use Rattle.std.proofs.Common.{arith, ap, subst, sym, ◌∙◌, inl, inr}
use Rattle.std.proofs.lemmas.List.{take_at}
use Rattle.std.proofs.lemmas.List.Sorted.{ranks_by, sorted_far, All-permutation}
use Rattle.std.proofs.lemmas.List.Elements.{All-cons, All-tail}
use Rattle.numbers.specs.Arithmetic.{Arithmetic, Laws}
use Rattle.tensor_map.specs.Order.{IsBefore}
use Rattle.tensor_map.proofs.OrderLaws.{compared_as}
use Rattle.tensor_map.specs.Entries.{Entry, IsEntry, value_at, Listed, StrictlyIncreasing}
use Rattle.tensor_map.specs.Laws.{same, other}
use Rattle.tensor_map.specs.Sorted.{is_before}
use Rattle.tensor_map.proofs.Lemmas.{tested}
use Rattle.tensor_map.specs.Summed.{joined, summed_from, summed, SortsAndAdds}
use Rattle.tensor_map.proofs.Permutations.{value_permutation, listed_permutation}
use Rattle.tensor_map.proofs.Summed.{IsNotAfterAll, NeverFalls, summed_same, summed_other, value_summed, listed_summed, increasing_summed}

pub is_before_orders : IsStrictWeakOrder is_before
is_before_orders = ranks_by nat_list_cmp_total (λ (entry : Entry). entry.coords)

-- what isn't before is after, or the same
not_before : (xs ys : List ℕ) (r : Ordering) → slice_cmp nat_cmp xs ys ≡ r → is_lt r ≡ false → IsBefore ys xs ⊎ (ys ≡ xs)
not_before xs ys Less e h = absurd (cc)
not_before xs ys Equal e h = inr (sym (compared_as xs ys Equal e))
not_before xs ys Greater e h = inl (compared_as xs ys Greater e)

not_after_from : (coords : List ℕ) (entries : List Entry)
    → ((k : ℕ) (d : Entry) → k < length entries → is_lt (slice_cmp nat_cmp (slice_index_or entries k d).coords coords) ≡ false)
    → IsNotAfterAll coords entries
not_after_from coords [] h = tt
not_after_from coords (entry ∷ entries) h = (
  not_before entry.coords coords (slice_cmp nat_cmp entry.coords coords) refl (h 0 entry (omega arith)),
  not_after_from coords entries (λ k d i. h (suc k) d (omega arith)),
)

never_falls_from : (entries : List Entry)
    → ((i j : ℕ) (d : Entry) → i ≤ j → j < length entries → is_before (slice_index_or entries j d) (slice_index_or entries i d) ≡ false)
    → NeverFalls entries
never_falls_from [] h = tt
never_falls_from (entry ∷ entries) h = (
  not_after_from entry.coords entries (λ k d i. h 0 (suc k) d (omega arith) (omega arith)),
  never_falls_from entries (λ i j d le lt. h (suc i) (suc j) d (omega arith) (omega arith)),
)

pub never_falls : (entries : List Entry) → IsSortedBy is_before entries → NeverFalls entries
never_falls entries sorted = never_falls_from entries (sorted_far is_before is_before_orders entries sorted)

-- sums of entries are entries
module _ (a : Arithmetic) (laws : Laws a) (order : ℕ) where
  joined_entry : (entry next : Entry) → IsEntry order entry → IsEntry order (joined a entry next)
  joined_entry entry next is = record { long = is.long; words = is.words; word = laws.plus_fits entry.value next.value }

  all_summed_from : (entry : Entry) (others : List Entry) → IsEntry order entry → All (IsEntry order) others
      → All (IsEntry order) (summed_from a entry others)
  all_summed_from entry [] is all = All-cons (IsEntry order) entry [] is all
  all_summed_from entry (next ∷ others) is all = elim (tested next.coords entry.coords) [
    | same e t ↦ subst (All (IsEntry order)) (sym (summed_same a entry next others t))
        (all_summed_from (joined a entry next) others (joined_entry entry next is) (All-tail (IsEntry order) next others all))
    | other e t ↦ subst (All (IsEntry order)) (sym (summed_other a entry next others t))
        (All-cons (IsEntry order) entry (summed_from a next others) is
        (all_summed_from next others (all 0 next (omega arith)) (All-tail (IsEntry order) next others all)))
  ]

  pub all_summed : (entries : List Entry) → All (IsEntry order) entries → All (IsEntry order) (summed a entries)
  all_summed [] all = all
  all_summed (entry ∷ others) all = all_summed_from entry others (all 0 entry (omega arith)) (All-tail (IsEntry order) entry others all)

-- the front of a slice that was written back into its vector
pub front_written : {X : Type 0} (kept len : ℕ) (ws rest : List X) → length ws ≡ len → take kept (take len (ws ++ rest)) ≡ take kept ws
front_written kept len ws rest e = ap (take kept) (take_at ws rest len e)

both_ways : {A B C : Type 0} → (A ↔ B) → (B ↔ C) → (A ↔ C)
both_ways p q = (λ x. q.0 (p.0 x), λ z. p.1 (q.1 z))

pub sorts_and_adds : (a : Arithmetic) → Laws a → (old sorted new : List Entry) → IsPermutation old sorted → IsSortedBy is_before sorted
    → new ≡ summed a sorted → SortsAndAdds a old new
sorts_and_adds a laws old sorted new moved rising is = record {
  values = λ coords. ap (λ es. value_at a es coords) is ∙ value_summed a laws sorted coords
      ∙ value_permutation a laws old sorted moved coords;
  listed = λ coords. subst (λ es. Listed es coords ↔ Listed old coords) (sym is)
      (both_ways (listed_summed a sorted coords) (listed_permutation old sorted moved coords));
  increasing = subst StrictlyIncreasing (sym is) (increasing_summed a sorted (never_falls sorted rising));
  each = λ order all. subst (All (IsEntry order)) (sym is)
      (all_summed a laws order sorted (All-permutation (IsEntry order) old sorted moved all));
}
