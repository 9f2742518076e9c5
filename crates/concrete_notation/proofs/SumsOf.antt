-- The row of the sums of pairs has their coordinates, each once and in increasing order, with the sums of their values.
use Rattle.std.specs.Prelude.{◌≡◌, ◌⊎◌, ◌↔◌, ℕ, suc, true, false, nat_eq, List, [], ◌∷◌, All, refl}
use Rattle.std.specs.declared.cmp.Ordering.{Ordering}
use Rattle.std.specs.declared.cmp.Ordering.TheVariants.{Less, Equal, Greater}
use Rattle.std.specs.Ordering.{nat_cmp, MatchOrdering}
use Rattle.std.specs.Cmp.Lexicographic.{pointwise, slice_cmp}
use Rattle.std.proofs.Common.{◌∙◌, sym, ap, arith, inl, inr}
use Rattle.std.proofs.lemmas.List.Elements.{All-nil, All-cons}
use Rattle.numbers.specs.Arithmetic.{Arithmetic, Laws}
use Rattle.lists.specs.Each.{Each}
use Rattle.tensor_map.specs.Order.{IsBefore, IsBeforeAll}
use Rattle.tensor_map.specs.Entries.{Entry, IsEntry, coords_of, is_at, value_at, Listed, StrictlyIncreasing}
use Rattle.tensor_map.specs.Laws.{same, other}
use Rattle.tensor_map.proofs.OrderLaws.{compared_as, before_all_trans}
use Rattle.tensor_map.proofs.Lemmas.{tested, value_here, value_elsewhere, value_cons}
use Rattle.numbers.proofs.Sums.{plus_swap}
use Rattle.workspaces.specs.Workspaces.{AreSums}
use Rattle.workspaces.proofs.SumsOfPairs.{one_row_of_sums}
use Rattle.concrete_notation.specs.Contributions.{put_by, put_pair, sums_of}

-- what is true of the coordinates of each pair is true of those of each sum
put_each : (P : List ℕ → Type 0) (a : Arithmetic) (pair : Entry) (row : List Entry) → P pair.coords → Each (λ (e : Entry). P e.coords) row
    → Each (λ (e : Entry). P e.coords) (put_pair a pair row)
put_each P a pair [] is each = (is, tt)
put_each P a pair (first ∷ others) is each = by (slice_cmp nat_cmp pair.coords first.coords) (put_each P a pair others is each.1)
  where
    by : (r : Ordering) → Each (λ (e : Entry). P e.coords) (put_pair a pair others)
        → Each (λ (e : Entry). P e.coords) (put_by a r pair first others (put_pair a pair others))
    by Less later = (is, each)
    by Equal later = each
    by Greater later = (each.0, later)

pub sums_each : (P : List ℕ → Type 0) (a : Arithmetic) (pairs : List Entry) → Each (λ (e : Entry). P e.coords) pairs
    → Each (λ (e : Entry). P e.coords) (sums_of a pairs)
sums_each P a [] each = tt
sums_each P a (pair ∷ pairs) each = put_each P a pair (sums_of a pairs) each.0 (sums_each P a pairs each.1)

-- a pair is listed, and so is what was
put_listed : (a : Arithmetic) (pair : Entry) (row : List Entry) (coords : List ℕ)
    → Listed (put_pair a pair row) coords ↔ ((pair.coords ≡ coords) ⊎ Listed row coords)
put_listed a pair [] coords = ((λ h. h), (λ h. h))
put_listed a pair (first ∷ others) coords =
    by (slice_cmp nat_cmp pair.coords first.coords)
    (compared_as pair.coords first.coords (slice_cmp nat_cmp pair.coords first.coords) refl)
    (put_listed a pair others coords)
  where
    by : (r : Ordering) → MatchOrdering r (IsBefore pair.coords first.coords) (pair.coords ≡ first.coords)
        (IsBefore first.coords pair.coords)
        → (Listed (put_pair a pair others) coords ↔ ((pair.coords ≡ coords) ⊎ Listed others coords))
        → (Listed (put_by a r pair first others (put_pair a pair others)) coords ↔
        ((pair.coords ≡ coords) ⊎ Listed (first ∷ others) coords))
    by Less is later = ((λ h. h), (λ h. h))
    by Equal is later = (
      (λ h. inr h),
      (λ h. elim h [
        | inl here ↦ inl (sym is ∙ here)
        | inr there ↦ there
      ]),
    )
    by Greater is later = (
      (λ h. elim h [
        | inl here ↦ inr (inl here)
        | inr there ↦ elim (later.0 there) [
          | inl here ↦ inl here
          | inr more ↦ inr (inr more)
        ]
      ]),
      (λ h. elim h [
        | inl here ↦ inr (later.1 (inl here))
        | inr there ↦ elim there [
          | inl here ↦ inl here
          | inr more ↦ inr (later.1 (inr more))
        ]
      ]),
    )

pub sums_listed : (a : Arithmetic) (pairs : List Entry) (coords : List ℕ) → Listed (sums_of a pairs) coords ↔ Listed pairs coords
sums_listed a [] coords = ((λ h. h), (λ h. h))
sums_listed a (pair ∷ pairs) coords =
    let put = put_listed a pair (sums_of a pairs) coords in
    let rest = sums_listed a pairs coords in (
      (λ h. elim (put.0 h) [
        | inl here ↦ inl here
        | inr there ↦ inr (rest.0 there)
      ]),
      (λ h. put.1 (elim h [
        | inl here ↦ inl here
        | inr there ↦ inr (rest.1 there)
      ])),
    )

module _ (a : Arithmetic) (laws : Laws a) (coords : List ℕ) where
  -- a pair adds its value
  put_value : (pair : Entry) (row : List Entry) → value_at a (put_pair a pair row) coords ≡ value_at a (pair ∷ row) coords
  put_value pair [] = refl
  put_value pair (first ∷ others) =
      by (slice_cmp nat_cmp pair.coords first.coords)
      (compared_as pair.coords first.coords (slice_cmp nat_cmp pair.coords first.coords) refl)
      (put_value pair others)
    where
      joined : pair.coords ≡ first.coords
          → value_at a (record { coords = first.coords; value = a.plus pair.value first.value } ∷ others) coords
          ≡ value_at a (pair ∷ first ∷ others) coords
      joined is = elim (tested first.coords coords) [
        | same there e ↦ (
            let here : is_at coords pair ≡ true = ap (λ cs. pointwise nat_eq cs coords) is ∙ e in
            value_here a coords (record { coords = first.coords; value = a.plus pair.value first.value }) others e
            ∙ laws.plus_assoc pair.value first.value (value_at a others coords)
            ∙ ap (a.plus pair.value) (sym (value_here a coords first others e))
            ∙ sym (value_here a coords pair (first ∷ others) here))
        | other apart e ↦ (
            let away : is_at coords pair ≡ false = ap (λ cs. pointwise nat_eq cs coords) is ∙ e in
            value_elsewhere a coords (record { coords = first.coords; value = a.plus pair.value first.value }) others e
            ∙ sym (value_elsewhere a coords first others e)
            ∙ sym (value_elsewhere a coords pair (first ∷ others) away))
      ]

      turned : value_at a (first ∷ pair ∷ others) coords ≡ value_at a (pair ∷ first ∷ others) coords
      turned = elim (tested first.coords coords) [
        | same there e ↦ elim (tested pair.coords coords) [
          | same here f ↦ value_here a coords first (pair ∷ others) e ∙ ap (a.plus first.value) (value_here a coords pair others f)
              ∙ plus_swap a laws first.value pair.value (value_at a others coords)
              ∙ ap (a.plus pair.value) (sym (value_here a coords first others e)) ∙ sym (value_here a coords pair (first ∷ others) f)
          | other away f ↦ value_here a coords first (pair ∷ others) e ∙ ap (a.plus first.value) (value_elsewhere a coords pair others f)
              ∙ sym (value_here a coords first others e) ∙ sym (value_elsewhere a coords pair (first ∷ others) f)
        ]
        | other apart e ↦ elim (tested pair.coords coords) [
          | same here f ↦ value_elsewhere a coords first (pair ∷ others) e ∙ value_here a coords pair others f
              ∙ ap (a.plus pair.value) (sym (value_elsewhere a coords first others e)) ∙ sym (value_here a coords pair (first ∷ others) f)
          | other away f ↦ value_elsewhere a coords first (pair ∷ others) e ∙ value_elsewhere a coords pair others f
              ∙ sym (value_elsewhere a coords first others e) ∙ sym (value_elsewhere a coords pair (first ∷ others) f)
        ]
      ]

      by : (r : Ordering) → MatchOrdering r (IsBefore pair.coords first.coords) (pair.coords ≡ first.coords)
          (IsBefore first.coords pair.coords)
          → value_at a (put_pair a pair others) coords ≡ value_at a (pair ∷ others) coords
          → value_at a (put_by a r pair first others (put_pair a pair others)) coords ≡ value_at a (pair ∷ first ∷ others) coords
      by Less is later = refl
      by Equal is later = joined is
      by Greater is later = value_cons a laws coords first (put_pair a pair others) (pair ∷ others) later ∙ turned

  pub sums_value : (pairs : List Entry) → value_at a (sums_of a pairs) coords ≡ value_at a pairs coords
  sums_value [] = refl
  sums_value (pair ∷ pairs) =
      put_value pair (sums_of a pairs) ∙ value_cons a laws coords pair (sums_of a pairs) pairs (sums_value pairs)

-- a coordinate list before a pair and before each of a row is before each of both
put_after : (a : Arithmetic) (coords : List ℕ) (pair : Entry) (row : List Entry) → IsBefore coords pair.coords
    → IsBeforeAll coords (coords_of row)
    → IsBeforeAll coords (coords_of (put_pair a pair row))
put_after a coords pair [] here all = (here, tt)
put_after a coords pair (first ∷ others) here all = by (slice_cmp nat_cmp pair.coords first.coords)
    (put_after a coords pair others here all.1)
  where
    by : (r : Ordering) → IsBeforeAll coords (coords_of (put_pair a pair others))
        → IsBeforeAll coords (coords_of (put_by a r pair first others (put_pair a pair others)))
    by Less later = (here, all)
    by Equal later = all
    by Greater later = (all.0, later)

put_increasing : (a : Arithmetic) (pair : Entry) (row : List Entry) → StrictlyIncreasing row → StrictlyIncreasing (put_pair a pair row)
put_increasing a pair [] up = (tt, tt)
put_increasing a pair (first ∷ others) up =
    by (slice_cmp nat_cmp pair.coords first.coords)
    (compared_as pair.coords first.coords (slice_cmp nat_cmp pair.coords first.coords) refl)
    (put_increasing a pair others up.1)
  where
    by : (r : Ordering) → MatchOrdering r (IsBefore pair.coords first.coords) (pair.coords ≡ first.coords)
        (IsBefore first.coords pair.coords)
        → StrictlyIncreasing (put_pair a pair others) → StrictlyIncreasing (put_by a r pair first others (put_pair a pair others))
    by Less before later = ((before, before_all_trans pair.coords first.coords (coords_of others) before up.0), up)
    by Equal is later = up
    by Greater behind later = (put_after a first.coords pair others behind up.0, later)

pub sums_increasing : (a : Arithmetic) (pairs : List Entry) → StrictlyIncreasing (sums_of a pairs)
sums_increasing a [] = tt
sums_increasing a (pair ∷ pairs) = put_increasing a pair (sums_of a pairs) (sums_increasing a pairs)

pub are_sums : (a : Arithmetic) → Laws a → (pairs : List Entry) → AreSums a pairs (sums_of a pairs)
are_sums a laws pairs = record {
  listed = λ coords. sums_listed a pairs coords;
  values = λ coords. sums_value a laws coords pairs;
  increasing = sums_increasing a pairs;
}

each_of_all : (P : Entry → Type 0) (rows : List Entry) → All P rows → Each P rows
each_of_all P [] all = tt
each_of_all P (row ∷ rows) all = (all 0 row (omega arith), each_of_all P rows (λ k d h. all (suc k) d (omega arith)))

all_of_each : (P : Entry → Type 0) (rows : List Entry) → Each P rows → All P rows
all_of_each P [] each = All-nil P
all_of_each P (row ∷ rows) each = All-cons P row rows each.0 (all_of_each P rows each.1)

-- sums of entries are entries
put_entries : (a : Arithmetic) → Laws a → (keys : ℕ) (pair : Entry) (row : List Entry) → IsEntry keys pair → Each (IsEntry keys) row
    → Each (IsEntry keys) (put_pair a pair row)
put_entries a laws keys pair [] is each = (is, tt)
put_entries a laws keys pair (first ∷ others) is each =
    by (slice_cmp nat_cmp pair.coords first.coords) (put_entries a laws keys pair others is each.1)
  where
    by : (r : Ordering) → Each (IsEntry keys) (put_pair a pair others)
        → Each (IsEntry keys) (put_by a r pair first others (put_pair a pair others))
    by Less later = (is, each)
    by Equal later =
        (record { long = each.0.long; words = each.0.words; word = laws.plus_fits pair.value first.value }, each.1)
    by Greater later = (each.0, later)

sums_entries : (a : Arithmetic) → Laws a → (keys : ℕ) (pairs : List Entry) → Each (IsEntry keys) pairs
    → Each (IsEntry keys) (sums_of a pairs)
sums_entries a laws keys [] each = tt
sums_entries a laws keys (pair ∷ pairs) each =
    put_entries a laws keys pair (sums_of a pairs) each.0 (sums_entries a laws keys pairs each.1)

pub all_entries : (a : Arithmetic) → Laws a → (keys : ℕ) (pairs : List Entry) → All (IsEntry keys) pairs
    → All (IsEntry keys) (sums_of a pairs)
all_entries a laws keys pairs all =
    all_of_each (IsEntry keys) (sums_of a pairs) (sums_entries a laws keys pairs (each_of_all (IsEntry keys) pairs all))

-- the sums that a workspace of code is drained into are these
pub drained_sums : (a : Arithmetic) → Laws a → (keys : ℕ) (pairs sums : List Entry) → All (IsEntry keys) pairs
    → All (IsEntry keys) sums → AreSums a pairs sums → sums ≡ sums_of a pairs
drained_sums a laws keys pairs sums all all' are =
    one_row_of_sums a laws keys pairs sums (sums_of a pairs) all' (all_entries a laws keys pairs all) are (are_sums a laws pairs)
