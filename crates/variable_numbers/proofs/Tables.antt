-- Lemmas about tables of places.
use Rattle.std.specs.Prelude.{◌≡◌, ℕ, ◌<◌, Bool, true, false, ◌==◌, List, [], ◌∷◌, ◌++◌, length, Option, Some, None, slice_get, slice_set}
use Rattle.std.specs.Prelude.{OnErr, OnOk, Result, Ok, Err, refl}
use Rattle.std.specs.declared.alloc.AllocError.{AllocError}
use Rattle.std.proofs.Common.{◌∙◌, ap, sym, subst, arith}
use Rattle.std.proofs.lemmas.Option.{none-some, same_Some, slice_get_within}
use Rattle.lists.proofs.Tests.{number_same, same_number}
use Rattle.variable_numbers.specs.Numbers.{IsTable}
use Rattle.variable_numbers.proofs.Lists.{get_here, get_other, get_last, get_before}

no_place : (i : ℕ) → ◌≡◌ {A = Option (Option ℕ)} (Some None) (Some (Some i)) → ⊥
no_place i h = none-some i (same_Some None (Some i) h)

one_place : (i j : ℕ) → ◌≡◌ {A = Option (Option ℕ)} (Some (Some i)) (Some (Some j)) → i ≡ j
one_place i j h = same_Some i j (same_Some (Some i) (Some j) h)

differs : (x y : ℕ) → (x == y) ≡ false → x ≡ y → ⊥
differs x y h is = let one : (x == x) ≡ true = number_same x in let other : (x == x) ≡ false = ap (λ z. x == z) is ∙ h in cc

pub table_none : IsTable [] []
table_none = record { named = λ x i h. absurd (none-some (Some i) h); placed = λ x i h. absurd (none-some x h) }

table_longer : (table : List (Option ℕ)) (names : List ℕ) → IsTable table names → IsTable (table ++ None ∷ []) names
table_longer table names t = record {
  named = λ x i h. t.named x i (before x i (length table == x) refl h);
  placed = λ x i h. kept x i (t.placed x i h);
}
  where
    before : (x i : ℕ) (b : Bool) → (length table == x) ≡ b → slice_get (table ++ None ∷ []) x ≡ Some (Some i)
        → slice_get table x ≡ Some (Some i)
    before x i true is h =
        let here = subst (λ y. slice_get (table ++ None ∷ []) y ≡ Some (Some i)) (sym (same_number (length table) x is)) h in
        absurd (no_place i (sym (get_last table None) ∙ here))
    before x i false is h = sym (get_before table None x (differs (length table) x is)) ∙ h

    kept : (x i : ℕ) → slice_get table x ≡ Some (Some i) → slice_get (table ++ None ∷ []) x ≡ Some (Some i)
    kept x i h =
        let l : x < length table = slice_get_within table x (Some i) h in
        get_before table None x (λ e. absurd (omega arith)) ∙ h

table_met : (table : List (Option ℕ)) (names : List ℕ) (x : ℕ) → IsTable table names → slice_get table x ≡ Some None
    → IsTable (slice_set table x (Some (length names))) (names ++ x ∷ [])
table_met table names x t free = record {
  named = λ y i h. name_there y i (x == y) refl h;
  placed = λ y i h. place_there y i (length names == i) refl h;
}
  where
    inside : x < length table
    inside = slice_get_within table x None free

    name_there : (y i : ℕ) (b : Bool) → (x == y) ≡ b → slice_get (slice_set table x (Some (length names))) y ≡ Some (Some i)
        → slice_get (names ++ x ∷ []) i ≡ Some y
    name_there y i true is h =
        let same = same_number x y is in
        let here = subst (λ z. slice_get (slice_set table x (Some (length names))) z ≡ Some (Some i)) (sym same) h in
        let place = one_place (length names) i (sym (get_here table x (Some (length names)) inside) ∙ here) in
        subst (λ j. slice_get (names ++ x ∷ []) j ≡ Some y) place (get_last names x ∙ ap Some same)
    name_there y i false is h =
        let there = t.named y i (sym (get_other table x y (Some (length names)) (differs x y is)) ∙ h) in
        let l : i < length names = slice_get_within names i y there in
        get_before names x i (λ e. absurd (omega arith)) ∙ there

    place_there : (y i : ℕ) (b : Bool) → (length names == i) ≡ b → slice_get (names ++ x ∷ []) i ≡ Some y
        → slice_get (slice_set table x (Some (length names))) y ≡ Some (Some i)
    place_there y i true is h =
        let place = same_number (length names) i is in
        let here = subst (λ j. slice_get (names ++ x ∷ []) j ≡ Some y) (sym place) h in
        let same = same_Some x y (sym (get_last names x) ∙ here) in
        subst (λ z. slice_get (slice_set table x (Some (length names))) z ≡ Some (Some i)) same
        (get_here table x (Some (length names)) inside ∙ ap (λ j. Some (Some j)) place)
    place_there y i false is h =
        let there = t.placed y i (sym (get_before names x i (differs (length names) i is)) ∙ h) in
        get_other table x y (Some (length names))
        (λ e. no_place i (sym free ∙ subst (λ z. slice_get table z ≡ Some (Some i)) (sym e) there)) ∙ there

-- two places of one name are one
pub one_name : (table : List (Option ℕ)) (names : List ℕ) (x i j : ℕ) → IsTable table names → slice_get names i ≡ Some x
    → slice_get names j ≡ Some x → i ≡ j
one_name table names x i j t h g = one_place i j (sym (t.placed x i h) ∙ t.placed x j g)

longer_now : (table new : List (Option ℕ)) (names : List ℕ) → IsTable table names → new ≡ table ++ None ∷ [] → IsTable new names
longer_now table new names t is = subst (λ xs. IsTable xs names) (sym is) (table_longer table names t)

-- one more place, unless memory was refused
pub longer_or_same : (table new : List (Option ℕ)) (names : List ℕ) (r : Result (Unit {0}) AllocError) → IsTable table names
    → OnOk r (new ≡ table ++ None ∷ []) → OnErr r (new ≡ table) → IsTable new names
longer_or_same table new names (Ok u) t is same = longer_now table new names t is
longer_or_same table new names (Err why) t is same = subst (λ xs. IsTable xs names) (sym same) t

pub met_now : (table new : List (Option ℕ)) (names more : List ℕ) (x n : ℕ) → IsTable table names → slice_get table x ≡ Some None
    → n ≡ length names → more ≡ names ++ x ∷ [] → new ≡ slice_set table x (Some n) → IsTable new more
met_now table new names more x n t free count longer is =
    subst (λ xs. IsTable xs more) (sym (is ∙ ap (λ k. slice_set table x (Some k)) count))
    (subst (IsTable (slice_set table x (Some (length names)))) (sym longer) (table_met table names x t free))
