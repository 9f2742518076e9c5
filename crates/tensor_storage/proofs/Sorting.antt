-- Entries can be arranged for any format: the number of each is put in its place among those behind it.
use Rattle.std.specs.Prelude.{◌≡◌, ℕ, zero, suc, ◌<◌, Bool, true, false, if◌then◌else◌, List, [], ◌∷◌, length, IsPermutation, refl}
use Rattle.std.specs.List.{range_with_len}
use Rattle.std.specs.List.Sorted.{IsSortedBy}
use Rattle.std.specs.Cmp.{IsStrictWeakOrder}
use Rattle.std.proofs.Common.{sym, subst, arith, get_or, add-one}
use Rattle.std.proofs.lemmas.List.Sorted.{IsPermutation-refl, IsPermutation-cons, IsPermutation-trans}
use Rattle.std.proofs.lemmas.List.Sorted.{IsPermutation-append_left, IsPermutation-append_comm}
use Rattle.tensor_storage.specs.Arranged.{table_of}
use Rattle.tensor_storage.proofs.Arranging.{is_before, is_before_orders, arranged, rows_below}
use Rattle.tensor_storage.specs.Standing.{EntriesPackWhereFew}
use Rattle.tensor_storage.proofs.WhereFew.{stands_where_few}

module _ {X : Type 0} (lt : X → X → Bool) (orders : IsStrictWeakOrder lt) where
  -- no element is less than the one before it, the first of which is x
  abbrev Leads : X → List X → Type 0
  Leads x [] = Unit {0}
  Leads x (y ∷ ys) = (lt y x ≡ false) × Leads y ys

  abbrev Chain : List X → Type 0
  Chain [] = Unit {0}
  Chain (x ∷ xs) = Leads x xs

  abbrev put : X → List X → List X
  put x [] = x ∷ []
  put x (y ∷ ys) = if lt y x then y ∷ put x ys else x ∷ y ∷ ys

  put_leads : (x a : X) (xs : List X) → lt x a ≡ false → Leads a xs → Leads a (put x xs)
  put_leads x a [] h l = (h, tt)
  put_leads x a (y ∷ ys) h l = by_test (λ g. put_leads x y ys g l.1) (lt y x) refl
    where
      by_test : (lt x y ≡ false → Leads y (put x ys)) → (b : Bool) → lt y x ≡ b → Leads a (if b then y ∷ put x ys else x ∷ y ∷ ys)
      by_test again true is = (l.0, again (orders.one_way y x is))
      by_test again false is = (h, (is, l.1))

  put_chain : (x : X) (xs : List X) → Chain xs → Chain (put x xs)
  put_chain x [] c = tt
  put_chain x (y ∷ ys) c = by_test (lt y x) refl
    where
      by_test : (b : Bool) → lt y x ≡ b → Chain (if b then y ∷ put x ys else x ∷ y ∷ ys)
      by_test true is = put_leads x y ys (orders.one_way y x is) c
      by_test false is = (is, c)

  swap : (x y : X) (ys : List X) → IsPermutation (x ∷ y ∷ ys) (y ∷ x ∷ ys)
  swap x y ys = IsPermutation-append_left ys (x ∷ y ∷ []) (y ∷ x ∷ []) (IsPermutation-append_comm (x ∷ []) (y ∷ []))

  put_moves : (x : X) (xs : List X) → IsPermutation (x ∷ xs) (put x xs)
  put_moves x [] = IsPermutation-refl (x ∷ [])
  put_moves x (y ∷ ys) = by_test (put_moves x ys) (lt y x)
    where
      by_test : IsPermutation (x ∷ ys) (put x ys) → (b : Bool) → IsPermutation (x ∷ y ∷ ys) (if b then y ∷ put x ys else x ∷ y ∷ ys)
      by_test rest true = IsPermutation-trans (x ∷ y ∷ ys) (y ∷ x ∷ ys) (y ∷ put x ys) (swap x y ys)
          (IsPermutation-cons y (x ∷ ys) (put x ys) rest)
      by_test rest false = IsPermutation-refl (x ∷ y ∷ ys)

  abbrev sorted : List X → List X
  sorted [] = []
  sorted (x ∷ xs) = put x (sorted xs)

  sorted_chain : (xs : List X) → Chain (sorted xs)
  sorted_chain [] = tt
  sorted_chain (x ∷ xs) = put_chain x (sorted xs) (sorted_chain xs)

  sorted_moves : (xs : List X) → IsPermutation xs (sorted xs)
  sorted_moves [] = IsPermutation-refl []
  sorted_moves (x ∷ xs) = IsPermutation-trans (x ∷ xs) (x ∷ sorted xs) (put x (sorted xs))
      (IsPermutation-cons x xs (sorted xs) (sorted_moves xs)) (put_moves x (sorted xs))

  leads_at : (x : X) (xs : List X) (k : ℕ) (d : X) → Leads x xs → suc k < length (x ∷ xs)
      → lt (get_or (x ∷ xs) (suc k) d) (get_or (x ∷ xs) k d) ≡ false
  leads_at x [] k d l h = absurd (omega (arith, h))
  leads_at x (y ∷ ys) zero d l h = l.0
  leads_at x (y ∷ ys) (suc k) d l h = leads_at y ys k d l.1 (omega (arith, h))

  chain_at : (xs : List X) (k : ℕ) (d : X) → Chain xs → suc k < length xs → lt (get_or xs (suc k) d) (get_or xs k d) ≡ false
  chain_at [] k d c h = absurd (omega (arith, h))
  chain_at (x ∷ xs) k d c h = leads_at x xs k d c h

  sorted_by : (xs : List X) → IsSortedBy lt (sorted xs)
  sorted_by xs k d from h =
      subst (λ n. lt (get_or (sorted xs) n d) (get_or (sorted xs) k d) ≡ false) (sym (add-one k))
      (chain_at (sorted xs) k d (sorted_chain xs) (omega (arith, h)))

pub entries_pack_where_few : EntriesPackWhereFew
entries_pack_where_few filler format ranges entries is long small each up inside =
    let lt = is_before format entries in
    let orders = is_before_orders format entries in
    let all : List ℕ = range_with_len 0 (length entries) in
    let numbers : List ℕ = sorted lt orders all in
    let a = arranged format entries numbers is each up (sorted_moves lt orders all) (sorted_by lt orders all) in
    record {
      numbers = numbers;
      arranged = a;
      there = λ few.
          let s = stands_where_few filler format ranges (table_of format entries numbers) is long small a.order
          (rows_below format entries numbers ranges is long inside a) few in
          record {
            storage = s.storage;
            packed = record { numbers = numbers; arranged = a; packed = s.packed };
            whole = s.whole;
          };
    }
