-- Lemmas about what specs/Laws.antt defines.
use Rattle.std.specs.Prelude.{◌≡◌, ◌≢◌, ℕ, zero, suc, ◌^◌, ◌<◌, Bool, true, false, cond, not, nat_eq, List, [], ◌∷◌, ◌++◌, length, map}
use Rattle.std.specs.Prelude.{filter, All, ◌⊎◌, ◌↔◌, refl, slice_index_or}
use Rattle.std.specs.declared.cmp.Ordering.{Ordering}
use Rattle.std.specs.declared.cmp.Ordering.TheVariants.{Less, Equal, Greater}
use Rattle.std.specs.Ordering.{nat_cmp, MatchOrdering}
use Rattle.std.specs.Cmp.Lexicographic.{pointwise, slice_cmp, bytes_decides}
use Rattle.std.proofs.Common.{arith, ap, subst, sym, ◌∙◌, inl, inr}
use Rattle.std.proofs.lemmas.Bool.{eqb-true, eq-eqb}
use Rattle.std.proofs.lemmas.List.Elements.{All-tail, filter_passes}
use Rattle.numbers.specs.Arithmetic.{Arithmetic, Laws}
use Rattle.numbers.specs.Sums.{total_of}
use Rattle.numbers.proofs.Sums.{total_fits, zero_before}
use Rattle.tensor_map.specs.Order.{IsBefore, IsBeforeAll}
use Rattle.tensor_map.proofs.OrderLaws.{before_irreflexive, compared_as, before_all_trans}
use Rattle.tensor_map.specs.Entries.{Entry, IsEntry, coords_of, is_at, values_at, value_at, Listed, StrictlyIncreasing, is_nonzero}
use Rattle.tensor_map.specs.Entries.{NoneIsZero}
use Rattle.tensor_map.specs.Laws.{Tested, AllNonzero, same, other}

tested_as : (xs ys : List ℕ) (b : Bool) → pointwise nat_eq xs ys ≡ b → Tested xs ys
tested_as xs ys true e = same ((bytes_decides xs ys).0 e) e
tested_as xs ys false e = other (λ q. cc (sym e, (bytes_decides xs ys).1 q)) e

pub tested : (xs ys : List ℕ) → Tested xs ys
tested xs ys = tested_as xs ys (pointwise nat_eq xs ys) refl

pub at_itself : (xs : List ℕ) → pointwise nat_eq xs xs ≡ true
at_itself xs = (bytes_decides xs xs).1 refl

-- the values at a coordinate list, entry by entry
pub values_first : (coords : List ℕ) (entry : Entry) (entries : List Entry) (b : Bool) → is_at coords entry ≡ b
    → values_at (entry ∷ entries) coords ≡ cond b (entry.value ∷ values_at entries coords) (values_at entries coords)
values_first coords entry entries true e =
    ap (λ b. map (λ (x : Entry). x.value) (cond b (entry ∷ filter (is_at coords) entries) (filter (is_at coords) entries))) e
values_first coords entry entries false e =
    ap (λ b. map (λ (x : Entry). x.value) (cond b (entry ∷ filter (is_at coords) entries) (filter (is_at coords) entries))) e

pub value_here : (a : Arithmetic) (coords : List ℕ) (entry : Entry) (entries : List Entry) → is_at coords entry ≡ true
    → value_at a (entry ∷ entries) coords ≡ a.plus entry.value (value_at a entries coords)
value_here a coords entry entries e = ap (total_of a) (values_first coords entry entries true e)

pub value_elsewhere : (a : Arithmetic) (coords : List ℕ) (entry : Entry) (entries : List Entry) → is_at coords entry ≡ false
    → value_at a (entry ∷ entries) coords ≡ value_at a entries coords
value_elsewhere a coords entry entries e = ap (total_of a) (values_first coords entry entries false e)

module _ (a : Arithmetic) (laws : Laws a) where
  -- entries that aren't at the coordinates add nothing
  pub value_unlisted : (coords : List ℕ) (entries : List Entry) → (Listed entries coords → ⊥) → value_at a entries coords ≡ a.zero
  value_unlisted coords [] none = refl
  value_unlisted coords (entry ∷ entries) none = elim (tested entry.coords coords) [
    | same is e ↦ absurd (none (inl is))
    | other isnt e ↦ value_elsewhere a coords entry entries e ∙ value_unlisted coords entries (λ more. none (inr more))
  ]

  -- of two rows, one after the other
  pub value_append : (coords : List ℕ) (front back : List Entry)
      → value_at a (front ++ back) coords ≡ a.plus (value_at a front coords) (value_at a back coords)
  value_append coords [] back = sym (zero_before a laws (value_at a back coords) (total_fits a laws (values_at back coords)))
  value_append coords (entry ∷ front) back = elim (tested entry.coords coords) [
    | same is e ↦ value_here a coords entry (front ++ back) e ∙ ap (a.plus entry.value) (value_append coords front back)
        ∙ sym (laws.plus_assoc entry.value (value_at a front coords) (value_at a back coords))
        ∙ sym (ap (λ v. a.plus v (value_at a back coords)) (value_here a coords entry front e))
    | other isnt e ↦ value_elsewhere a coords entry (front ++ back) e ∙ value_append coords front back
        ∙ sym (ap (λ v. a.plus v (value_at a back coords)) (value_elsewhere a coords entry front e))
  ]

  -- the same entry before two rows
  pub value_cons : (coords : List ℕ) (entry : Entry) (entries others : List Entry) → value_at a entries coords ≡ value_at a others coords
      → value_at a (entry ∷ entries) coords ≡ value_at a (entry ∷ others) coords
  value_cons coords entry entries others e = elim (tested entry.coords coords) [
    | same is t ↦ value_here a coords entry entries t ∙ ap (a.plus entry.value) e ∙ sym (value_here a coords entry others t)
    | other isnt t ↦ value_elsewhere a coords entry entries t ∙ e ∙ sym (value_elsewhere a coords entry others t)
  ]

  -- an entry of value zero adds nothing
  pub value_of_zero : (coords : List ℕ) (entry : Entry) (entries : List Entry) → entry.value ≡ a.zero
      → value_at a (entry ∷ entries) coords ≡ value_at a entries coords
  value_of_zero coords entry entries none = elim (tested entry.coords coords) [
    | same is t ↦ value_here a coords entry entries t ∙ ap (λ v. a.plus v (value_at a entries coords)) none
        ∙ zero_before a laws (value_at a entries coords) (total_fits a laws (values_at entries coords))
    | other isnt t ↦ value_elsewhere a coords entry entries t
  ]

  -- so leaving those out changes nothing
  pub value_nonzero : (coords : List ℕ) (entries : List Entry)
      → value_at a (filter (is_nonzero a) entries) coords ≡ value_at a entries coords
  value_nonzero coords [] = refl
  value_nonzero coords (entry ∷ entries) = by (nat_eq entry.value a.zero) refl (value_nonzero coords entries)
    where
      by : (b : Bool) → nat_eq entry.value a.zero ≡ b → value_at a (filter (is_nonzero a) entries) coords ≡ value_at a entries coords
          → value_at a (cond (not b) (entry ∷ filter (is_nonzero a) entries) (filter (is_nonzero a) entries)) coords ≡ value_at a (entry
          ∷ entries) coords
      by true e rest = rest ∙ sym (value_of_zero coords entry entries (eqb-true entry.value a.zero e))
      by false e rest = value_cons coords entry (filter (is_nonzero a) entries) entries rest

-- listed in one of two rows
listed_more : (coords : List ℕ) (entry : Entry) (front back : List Entry)
    → (Listed (front ++ back) coords ↔ (Listed front coords ⊎ Listed back coords))
    → (Listed (entry ∷ front ++ back) coords ↔ (Listed (entry ∷ front) coords ⊎ Listed back coords))
listed_more coords entry front back rest = (forth, back_again)
  where
    forth : Listed (entry ∷ front ++ back) coords → Listed (entry ∷ front) coords ⊎ Listed back coords
    forth (inl here) = inl (inl here)
    forth (inr more) = elim (rest.0 more) [ inl f ↦ inl (inr f) | inr b ↦ inr b ]

    back_again : Listed (entry ∷ front) coords ⊎ Listed back coords → Listed (entry ∷ front ++ back) coords
    back_again (inl (inl here)) = inl here
    back_again (inl (inr f)) = inr (rest.1 (inl f))
    back_again (inr b) = inr (rest.1 (inr b))

pub listed_append : (coords : List ℕ) (front back : List Entry) → Listed (front ++ back) coords ↔ (Listed front coords ⊎ Listed back coords)
listed_append coords [] back = (λ h. inr h, λ h. elim h [ inl none ↦ absurd none | inr there ↦ there ])
listed_append coords (entry ∷ front) back = listed_more coords entry front back (listed_append coords front back)

-- nothing before all coordinates of a row is among them
pub unlisted_before : (coords : List ℕ) (entries : List Entry) → IsBeforeAll coords (coords_of entries) → Listed entries coords → ⊥
unlisted_before coords [] before listed = listed
unlisted_before coords (entry ∷ entries) before (inl here) = before_irreflexive coords (subst (IsBefore coords) here before.0)
unlisted_before coords (entry ∷ entries) before (inr more) = unlisted_before coords entries before.1 more

-- an entry of a row has its coordinates listed
pub listed_at : (entries : List Entry) (k : ℕ) (d : Entry) → k < length entries → Listed entries (slice_index_or entries k d).coords
listed_at [] k d h = absurd (omega arith)
listed_at (entry ∷ entries) zero d h = inl refl
listed_at (entry ∷ entries) (suc k) d h = inr (listed_at entries k d (omega arith))

-- the first coordinates of a row are before those of a later entry
pub before_at : (coords : List ℕ) (entries : List Entry) (k : ℕ) (d : Entry) → IsBeforeAll coords (coords_of entries) → k < length entries
    → IsBefore coords (slice_index_or entries k d).coords
before_at coords [] k d before h = absurd (omega arith)
before_at coords (entry ∷ entries) zero d before h = before.0
before_at coords (entry ∷ entries) (suc k) d before h = before_at coords entries k d before.1 (omega arith)

module _ (a : Arithmetic) (laws : Laws a) where
  -- in an increasing row the value at an entry's coordinates is the entry's
  pub value_of_entry : (entries : List Entry) (k : ℕ) (d : Entry) → StrictlyIncreasing entries → k < length entries
      → (slice_index_or entries k d).value < 2 ^ 64
      → value_at a entries (slice_index_or entries k d).coords ≡ (slice_index_or entries k d).value
  value_of_entry [] k d up h fits = absurd (omega arith)
  value_of_entry (entry ∷ entries) zero d up h fits =
      value_here a entry.coords entry entries (at_itself entry.coords)
      ∙ ap (a.plus entry.value) (value_unlisted a laws entry.coords entries (unlisted_before entry.coords entries up.0))
      ∙ laws.plus_zero entry.value fits
  value_of_entry (entry ∷ entries) (suc k) d up h fits =
      let before : IsBefore entry.coords (slice_index_or entries k d).coords = before_at entry.coords entries k d up.0 (omega arith) in
      let away : pointwise nat_eq entry.coords (slice_index_or entries k d).coords ≡ false =
      elim (tested entry.coords (slice_index_or entries k d).coords) [
        | same is t ↦ absurd (before_irreflexive entry.coords (subst (IsBefore entry.coords) (sym is) before))
        | other isnt t ↦ t
      ] in
      value_elsewhere a (slice_index_or entries k d).coords entry entries away ∙ value_of_entry entries k d up.1 (omega arith) fits

-- a row with some entries left out
before_kept : (b : Bool) (coords : List ℕ) (entry : Entry) (kept : List Entry) → IsBefore coords entry.coords
    → IsBeforeAll coords (coords_of kept) → IsBeforeAll coords (coords_of (cond b (entry ∷ kept) kept))
before_kept true coords entry kept first more = (first, more)
before_kept false coords entry kept first more = more

before_filter : (p : Entry → Bool) (coords : List ℕ) (entries : List Entry) → IsBeforeAll coords (coords_of entries)
    → IsBeforeAll coords (coords_of (filter p entries))
before_filter p coords [] before = tt
before_filter p coords (entry ∷ entries) before =
    before_kept (p entry) coords entry (filter p entries) before.0 (before_filter p coords entries before.1)

increasing_kept : (b : Bool) (entry : Entry) (kept : List Entry) → IsBeforeAll entry.coords (coords_of kept) → StrictlyIncreasing kept
    → StrictlyIncreasing (cond b (entry ∷ kept) kept)
increasing_kept true entry kept before up = (before, up)
increasing_kept false entry kept before up = up

-- is increasing if the whole is
pub increasing_filter : (p : Entry → Bool) (entries : List Entry) → StrictlyIncreasing entries → StrictlyIncreasing (filter p entries)
increasing_filter p [] up = tt
increasing_filter p (entry ∷ entries) up =
    increasing_kept (p entry) entry (filter p entries) (before_filter p entry.coords entries up.0) (increasing_filter p entries up.1)

module _ (a : Arithmetic) (laws : Laws a) where
  first_value : (entry : Entry) (entries : List Entry) → IsBeforeAll entry.coords (coords_of entries) → entry.value < 2 ^ 64
      → value_at a (entry ∷ entries) entry.coords ≡ entry.value
  first_value entry entries before fits =
      value_here a entry.coords entry entries (at_itself entry.coords)
      ∙ ap (a.plus entry.value) (value_unlisted a laws entry.coords entries (unlisted_before entry.coords entries before))
      ∙ laws.plus_zero entry.value fits

  -- the first entry's coordinates are before all of another row's, or not: then the values differ there
  never_before : (entry : Entry) (entries others : List Entry) → IsBeforeAll entry.coords (coords_of entries) → entry.value < 2 ^ 64
      → entry.value ≢ a.zero → IsBeforeAll entry.coords (coords_of others)
      → value_at a (entry ∷ entries) entry.coords ≡ value_at a others entry.coords → ⊥
  never_before entry entries others up fits some before e =
      some (sym (first_value entry entries up fits) ∙ e
      ∙ value_unlisted a laws entry.coords others (unlisted_before entry.coords others before))

  -- after entries at the same coordinates the rest has the same values
  rest_same : (first second : Entry) (entries others : List Entry) → first.coords ≡ second.coords
      → IsBeforeAll first.coords (coords_of entries) → IsBeforeAll second.coords (coords_of others)
      → ((coords : List ℕ) → value_at a (first ∷ entries) coords ≡ value_at a (second ∷ others) coords) → (coords : List ℕ)
      → value_at a entries coords ≡ value_at a others coords
  rest_same first second entries others is up up' same_everywhere coords = elim (tested first.coords coords) [
    | same here t ↦ value_unlisted a laws coords entries (subst (λ xs. Listed entries xs
        → ⊥) here (unlisted_before first.coords entries up))
        ∙ sym (value_unlisted a laws coords others (subst (λ xs. Listed others xs
        → ⊥) (sym is ∙ here) (unlisted_before second.coords others up')))
    | other away t ↦ sym (value_elsewhere a coords first entries t) ∙ same_everywhere coords
        ∙ value_elsewhere a coords second others (sym (ap (λ xs. pointwise nat_eq xs coords) is) ∙ t)
  ]

  -- an increasing row without zeros is told by its values
  pub one_row : (entries others : List Entry) → StrictlyIncreasing entries → StrictlyIncreasing others → AllNonzero a entries
      → AllNonzero a others
      → ((coords : List ℕ) → value_at a entries coords ≡ value_at a others coords) → entries ≡ others
  one_row [] [] up up' some some' e = refl
  one_row [] (second ∷ others) up up' some some' e = absurd (never_before second others [] up'.0 some'.0 some'.1 tt (sym (e second.coords)))
  one_row (first ∷ entries) [] up up' some some' e = absurd (never_before first entries [] up.0 some.0 some.1 tt (e first.coords))
  one_row (first ∷ entries) (second ∷ others) up up' some some' e =
      by (slice_cmp nat_cmp first.coords second.coords)
      (compared_as first.coords second.coords (slice_cmp nat_cmp first.coords second.coords) refl)
      (λ is. one_row entries others up.1 up'.1 some.2 some'.2 (rest_same first second entries others is up.0 up'.0 e))
    where
      by : (r : Ordering) → MatchOrdering r (IsBefore first.coords second.coords) (first.coords ≡ second.coords)
          (IsBefore second.coords first.coords) → (first.coords ≡ second.coords → entries ≡ others) → first ∷ entries ≡ second ∷ others
      by Less before rest = absurd
          (never_before first entries (second
          ∷ others) up.0 some.0 some.1 (before, before_all_trans first.coords second.coords (coords_of others) before up'.0)
          (e first.coords))
      by Greater before rest =
          absurd (never_before second others (first
          ∷ entries) up'.0 some'.0 some'.1 (before, before_all_trans second.coords first.coords (coords_of entries) before up.0)
          (sym (e second.coords)))
      by Equal is rest =
          let values : first.value ≡ second.value = sym (first_value first entries up.0 some.0) ∙ e first.coords
          ∙ ap (value_at a (second ∷ others)) is ∙ first_value second others up'.0 some'.0 in
          let entry : first ≡ second = λ i. record { coords = is i; value = values i } in
          λ i. entry i ∷ rest is i

pub all_nonzero : (a : Arithmetic) (order : ℕ) (entries : List Entry) → All (IsEntry order) entries → NoneIsZero a entries
    → AllNonzero a entries
all_nonzero a order [] each some = tt
all_nonzero a order (entry ∷ entries) each some = (
  (each 0 entry (omega arith)).word,
  some 0 entry (omega arith),
  all_nonzero a order entries
      (All-tail (IsEntry order) entry entries each) (All-tail (λ e. e.value ≢ a.zero) entry entries some),
)

module _ (a : Arithmetic) (laws : Laws a) where
  -- in an increasing row without zeros the listed coordinates are those where the value isn't zero
  listed_some : (coords : List ℕ) (entries : List Entry) → StrictlyIncreasing entries → AllNonzero a entries → Listed entries coords
      → value_at a entries coords ≢ a.zero
  listed_some coords [] up some listed e = listed
  listed_some coords (entry ∷ entries) up some (inl here) e = some.1 (sym (first_value a laws entry entries up.0 some.0)
      ∙ ap (value_at a (entry ∷ entries)) here ∙ e)
  listed_some coords (entry ∷ entries) up some (inr more) e = elim (tested entry.coords coords) [
    | same is t ↦ unlisted_before entry.coords entries up.0 (subst (Listed entries) (sym is) more)
    | other away t ↦ listed_some coords entries up.1 some.2 more (sym (value_elsewhere a coords entry entries t) ∙ e)
  ]

  some_listed : (coords : List ℕ) (entries : List Entry) → value_at a entries coords ≢ a.zero → Listed entries coords
  some_listed coords [] some = some refl
  some_listed coords (entry ∷ entries) some = elim (tested entry.coords coords) [
    | same is t ↦ inl is
    | other away t ↦ inr (some_listed coords entries (λ e. some (value_elsewhere a coords entry entries t ∙ e)))
  ]

  pub listed_nonzero : (entries : List Entry) → StrictlyIncreasing entries → AllNonzero a entries → (coords : List ℕ)
      → Listed entries coords ↔ (value_at a entries coords ≢ a.zero)
  listed_nonzero entries up some coords = (listed_some coords entries up some, some_listed coords entries)

-- no two entries of an increasing row have the same coordinates
pub apart_at : (entries : List Entry) (i j : ℕ) (d : Entry) → StrictlyIncreasing entries → i < j → j < length entries
    → (slice_index_or entries i d).coords ≢ (slice_index_or entries j d).coords
apart_at [] i j d up h g e = omega arith
apart_at (entry ∷ entries) zero zero d up h g e = omega arith
apart_at (entry ∷ entries) zero (suc j) d up h g e =
    before_irreflexive entry.coords (subst (IsBefore entry.coords) (sym e) (before_at entry.coords entries j d up.0 (omega arith)))
apart_at (entry ∷ entries) (suc i) zero d up h g e = omega arith
apart_at (entry ∷ entries) (suc i) (suc j) d up h g e = apart_at entries i j d up.1 (omega arith) (omega arith) e

-- what leaving out zeros leaves
nonzero_is : (a : Arithmetic) (entry : Entry) (b : Bool) → nat_eq entry.value a.zero ≡ b → is_nonzero a entry ≡ true → entry.value ≢ a.zero
nonzero_is a entry true e h is = cc
nonzero_is a entry false e h is = cc (e, eq-eqb entry.value a.zero is)

pub none_zero_filter : (a : Arithmetic) (entries : List Entry) → NoneIsZero a (filter (is_nonzero a) entries)
none_zero_filter a entries k d h =
    nonzero_is a (slice_index_or (filter (is_nonzero a) entries) k d)
    (nat_eq (slice_index_or (filter (is_nonzero a) entries) k d).value a.zero) refl (filter_passes (is_nonzero a) entries k d h)
