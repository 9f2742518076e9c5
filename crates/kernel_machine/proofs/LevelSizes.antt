-- The ranges of the result's levels.
use Rattle.std.specs.Prelude.{◌≡◌, ℕ, zero, suc, ◌+◌, ◌<◌, ◌≤◌, List, [], ◌∷◌, length, take, drop, slice_index, slice_index_or}
use Rattle.std.specs.Prelude.{refl}
use Rattle.std.proofs.Common.{sym, ap, subst, arith, inl, inr}
use Rattle.limits.specs.Limits.{greatest_position_count}
use Rattle.format_spec.specs.declared.format.FormatLevel.{FormatLevel}
use Rattle.format_spec.specs.Formats.{IsFormat, letters_of}
use Rattle.storage_builder.proofs.Room.{mode_within}
use Rattle.tensor_storage.specs.Storages.{in_level_order}
use Rattle.machine_starts.proofs.Steps.{drop_here}
use Rattle.kernel_correctness.specs.Stores.{StartsFew}
use Rattle.level_core.specs.declared.letter.Letter.{Letter}
use Rattle.level_core.specs.Kinds.{parents_below}
use Rattle.kernel_machine.specs.Begins.{IsTooLarge}

index_taken : (ranges : List ℕ) (n i : ℕ) → i < n → slice_index (take n ranges) i ≡ slice_index ranges i
index_taken [] zero i l = absurd (omega arith)
index_taken [] (suc n) i l = refl
index_taken (r ∷ ranges) zero i l = absurd (omega arith)
index_taken (r ∷ ranges) (suc n) zero l = refl
index_taken (r ∷ ranges) (suc n) (suc i) l = index_taken ranges n i (omega arith)

orders_taken : (format : List FormatLevel) (ranges : List ℕ) (n : ℕ) (d : FormatLevel)
    → ((i : ℕ) → i < length format → (slice_index_or format i d).mode < n)
    → in_level_order format (take n ranges) ≡ in_level_order format ranges
orders_taken [] ranges n d h = refl
orders_taken (f ∷ format) ranges n d h =
    (λ i. index_taken ranges n f.mode (h 0 (omega arith)) i ∷ orders_taken format ranges n d (λ j l. h (suc j) (omega arith)) i)

-- the ranges of the levels depend on those of the modes alone
pub taken_order : (format : List FormatLevel) (ranges : List ℕ) (d : FormatLevel) → IsFormat format
    → in_level_order format (take (length format) ranges) ≡ in_level_order format ranges
taken_order format ranges d is = orders_taken format ranges (length format) d (λ i l. mode_within format i d is l)

pub order_long : (format : List FormatLevel) (ranges : List ℕ) → length (in_level_order format ranges) ≡ length format
order_long [] ranges = refl
order_long (f ∷ format) ranges = ap suc (order_long format ranges)

drop_letters : (format : List FormatLevel) (i : ℕ) (d : FormatLevel) → i < length format
    → drop i (letters_of format) ≡ (slice_index_or format i d).letter ∷ drop (suc i) (letters_of format)
drop_letters [] i d l = absurd (omega arith)
drop_letters (f ∷ format) zero d l = refl
drop_letters (f ∷ format) (suc i) d l = drop_letters format i d (omega arith)

-- this level has so many positions
abbrev pub positions_here : List FormatLevel → List ℕ → ℕ → ℕ → FormatLevel → ℕ
positions_here format sizes i parents d = parents_below (slice_index_or format i d).letter (slice_index_or sizes i 0) parents

-- it is the first with too many
pub too_large_here : (format : List FormatLevel) (sizes : List ℕ) (i parents count : ℕ) (d : FormatLevel) → i < length format
    → i < length sizes → count ≡ positions_here format sizes i parents d → greatest_position_count < count
    → IsTooLarge (drop i (letters_of format)) (drop i sizes) parents (i + 1) (i + 1) count
too_large_here format sizes i parents count d l m is more =
    subst (λ ls. IsTooLarge ls (drop i sizes) parents (i + 1) (i + 1) count) (sym (drop_letters format i d l))
    (subst (λ ns. IsTooLarge ((slice_index_or format i d).letter ∷ drop (suc i) (letters_of format)) ns parents (i + 1) (i + 1) count)
    (sym (drop_here sizes i 0 m)) (inl (subst (λ n. greatest_position_count < n) is more, refl, is)))

-- it isn't, and what is said of the others is said of it and the others
pub few_before : (format : List FormatLevel) (sizes : List ℕ) (i parents count : ℕ) (d : FormatLevel) → i < length format
    → i < length sizes → count ≡ positions_here format sizes i parents d → count ≤ greatest_position_count
    → StartsFew (drop (i + 1) (letters_of format)) (drop (i + 1) sizes) count
    → StartsFew (drop i (letters_of format)) (drop i sizes) parents
few_before format sizes i parents count d l m is less few =
    let one : i + 1 ≡ suc i = omega arith in
    subst (λ ls. StartsFew ls (drop i sizes) parents) (sym (drop_letters format i d l))
    (subst (λ ns. StartsFew ((slice_index_or format i d).letter ∷ drop (suc i) (letters_of format)) ns parents)
    (sym (drop_here sizes i 0 m)) (
      subst (λ n. n ≤ greatest_position_count) is less,
      subst (StartsFew (drop (suc i) (letters_of format)) (drop (suc i) sizes)) is
          (subst (λ n. StartsFew (drop n (letters_of format)) (drop n sizes) count) one few),
    ))

pub large_later : (format : List FormatLevel) (sizes : List ℕ) (i parents count : ℕ) (d : FormatLevel) (level most : ℕ)
    → i < length format → i < length sizes → count ≡ positions_here format sizes i parents d → count ≤ greatest_position_count
    → IsTooLarge (drop (i + 1) (letters_of format)) (drop (i + 1) sizes) count (i + 1 + 1) level most
    → IsTooLarge (drop i (letters_of format)) (drop i sizes) parents (i + 1) level most
large_later format sizes i parents count d level most l m is less large =
    let one : i + 1 ≡ suc i = omega arith in
    let two : i + 1 + 1 ≡ suc (i + 1) = omega arith in
    subst (λ ls. IsTooLarge ls (drop i sizes) parents (i + 1) level most) (sym (drop_letters format i d l))
    (subst (λ ns. IsTooLarge ((slice_index_or format i d).letter ∷ drop (suc i) (letters_of format)) ns parents (i + 1) level most)
    (sym (drop_here sizes i 0 m))
    (inr (
      subst (λ n. n ≤ greatest_position_count) is less,
      subst (λ p. IsTooLarge (drop (suc i) (letters_of format)) (drop (suc i) sizes) p (suc (i + 1)) level most) is
          (subst (λ n. IsTooLarge (drop (suc i) (letters_of format)) (drop (suc i) sizes) count n level most) two
          (subst (λ n. IsTooLarge (drop n (letters_of format)) (drop n sizes) count (i + 1 + 1) level most) one large)),
    )))
