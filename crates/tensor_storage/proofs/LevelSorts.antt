-- Numbers of entries, sorted by the coordinate at one level after another, from the last level up.
use Rattle.std.specs.Prelude.{◌≡◌, ℕ, suc, ◌+◌, ◌≤◌, ◌<◌, Bool, true, false, not, ◌&&◌, List, length, drop, slice_index, refl}
use Rattle.std.specs.declared.cmp.Ordering.{Ordering}
use Rattle.std.specs.declared.cmp.Ordering.TheVariants.{Less, Equal, Greater}
use Rattle.std.specs.Ordering.{nat_cmp, is_lt, ordering_reverse}
use Rattle.std.specs.Cmp.Lexicographic.{slice_cmp, nat_list_cmp_total}
use Rattle.std.specs.List.Sorted.{IsSortedBy, IsSortedByKey, IsStableByKey}
use Rattle.std.proofs.Common.{◌∙◌, ap, get_or}
use Rattle.std.proofs.lemmas.Cmp.{nat_cmp_total}
use Rattle.std.proofs.lemmas.List.Sorted.{ranks_by, ties_stay_sorted}
use Rattle.format_spec.specs.declared.format.FormatLevel.{FormatLevel}
use Rattle.tensor_map.specs.Entries.{Entry}
use Rattle.tensor_storage.specs.Arranged.{level_coords}
use Rattle.tensor_storage.proofs.Arranging.{level_drop, compare_past, compare_here, compare_ends}

-- whether the entry of the first number stands before that of the second by the coordinates from a level on
abbrev pub is_before_from : List FormatLevel → List Entry → ℕ → ℕ → ℕ → Bool
is_before_from format entries level left right =
    is_lt (slice_cmp nat_cmp (drop level (level_coords format entries left)) (drop level (level_coords format entries right)))

-- the coordinate at a level of the entry of this number
abbrev pub key_at : List FormatLevel → List Entry → ℕ → ℕ → ℕ
key_at format entries level number = slice_index (level_coords format entries number) level

-- behind the last level every order is right
pub sorted_behind : (format : List FormatLevel) (entries : List Entry) (level : ℕ) (numbers : List ℕ) → length format ≤ level
    → IsSortedBy (is_before_from format entries level) numbers
sorted_behind format entries level numbers h k d low high =
    ap is_lt (compare_ends format entries (get_or numbers (k + 1) d) (get_or numbers k d) level h)

-- numbers in the order from the next level on, sorted by the coordinate at a level so that ties stay, are in the order from it on
module _ (format : List FormatLevel) (entries : List Entry) (level : ℕ) (within : level < length format) (xs ys : List ℕ)
    (up : IsSortedBy (is_before_from format entries (suc level)) xs)
    (sorted : IsSortedByKey (key_at format entries level) nat_cmp ys)
    (stable : IsStableByKey (key_at format entries level) nat_cmp xs ys) where
  by_key : ℕ → ℕ → Bool
  by_key left right = is_lt (nat_cmp (key_at format entries level left) (key_at format entries level right))

  pub sorted_from : IsSortedBy (is_before_from format entries level) ys
  sorted_from k d low high = by_order (get_or ys k d) (get_or ys (k + 1) d) (sorted k d low high)
      (λ tie. ties_stay_sorted (is_before_from format entries (suc level))
      (λ left right. is_lt (nat_cmp (key_at format entries level left) (key_at format entries level right)))
      (ranks_by nat_list_cmp_total (λ number. drop (suc level) (level_coords format entries number)))
      (ranks_by nat_cmp_total (key_at format entries level)) xs ys up stable k d high tie) _ refl
    where
      by_order : (a b : ℕ) → is_lt (nat_cmp (key_at format entries level b) (key_at format entries level a)) ≡ false
          → ((not (is_lt (nat_cmp (key_at format entries level a) (key_at format entries level b)))
          && not (is_lt (nat_cmp (key_at format entries level b) (key_at format entries level a)))) ≡ true
          → is_before_from format entries (suc level) b a ≡ false)
          → (o : Ordering) → nat_cmp (key_at format entries level b) (key_at format entries level a) ≡ o
          → is_before_from format entries level b a ≡ false
      by_order a b least tied Less e = absurd (let less = ap is_lt e in cc)
      by_order a b least tied Equal e =
          let back : nat_cmp (key_at format entries level a) (key_at format entries level b) ≡ Equal =
          nat_cmp_total.antisymm (key_at format entries level a) (key_at format entries level b) ∙ ap ordering_reverse e in
          ap is_lt (compare_past (level_coords format entries b) (level_coords format entries a) level _ _
          (level_drop format entries b level within) (level_drop format entries a level within) e)
          ∙ tied (ap (λ o. not (is_lt o) && not (is_lt (nat_cmp (key_at format entries level b) (key_at format entries level a)))) back
          ∙ ap (λ o. not (is_lt Equal) && not (is_lt o)) e)
      by_order a b least tied Greater e =
          ap is_lt (compare_here (level_coords format entries b) (level_coords format entries a) level _ _ Greater
          (level_drop format entries b level within) (level_drop format entries a level within) e (λ same. cc))
