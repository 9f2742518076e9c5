-- The statement that reads nested sums as tensors is well formed, and its values are those of the sums.
use Rattle.std.specs.Prelude.{◌≡◌, ◌≢◌, ℕ, zero, suc, ◌+◌, ◌<◌, ◌≤◌, Bool, true, false, cond, List, [], ◌∷◌, ◌++◌, length}
use Rattle.std.specs.Prelude.{filter, refl}
use Rattle.std.proofs.Common.{◌∙◌, sym, ap, subst, arith, append_assoc, length-append}
use Rattle.lists.specs.Each.{Each}
use Rattle.lists.proofs.Each.{each_append}
use Rattle.index_notation.specs.Numbering.{sum_name}
use Rattle.index_notation.specs.declared.syntax.Name.{Name}
use Rattle.index_notation.specs.declared.syntax.Access.{Access}
use Rattle.index_notation.specs.declared.syntax.NestedSum.{NestedSum}
use Rattle.index_notation.specs.declared.syntax.Statement.{Statement}
use Rattle.index_notation.specs.Statement.{IsAccess, IsRead, AccessesUnder, IsDistinct, HaveOneOrder, HaveOrders}
use Rattle.index_notation.specs.Statement.{IsNumbered, IsNumberedWithSums, IsWellNamed, numbers_from}
use Rattle.expr_terms.specs.Nested.{is_free, sum_access, accesses_with, names_with, flat}
use Rattle.expr_terms.proofs.TermLaws.{each_filtered, each_number}

-- a statement without nested sums is its own
pub flat_plain : (s : Statement) → s.sums ≡ [] → flat s ≡ s
flat_plain s none = λ i. record {
  tensors = names_with s.tensors (none i);
  vars = s.vars;
  left = s.left;
  accumulate = s.accumulate;
  accesses = accesses_with (length s.vars) s.accesses (length s.tensors) (none i);
  sums = s.sums;
  expr = s.expr;
}

-- there is a name and an access more for each sum
pub names_longer : (names : List Name) (sums : List NestedSum) → length (names_with names sums) ≡ length names + length sums
names_longer names [] = omega arith
names_longer names (sum ∷ sums) =
    let long : length (names ++ (sum_name ∷ [])) ≡ length names + 1 = length-append names (sum_name ∷ []) in
    let rest = names_longer (names ++ (sum_name ∷ [])) sums in omega (arith, long, rest)

pub accesses_longer : (vars : ℕ) (accesses : List Access) (tensor : ℕ) (sums : List NestedSum)
    → length (accesses_with vars accesses tensor sums) ≡ length accesses + length sums
accesses_longer vars accesses tensor [] = omega arith
accesses_longer vars accesses tensor (sum ∷ sums) =
    let one = sum_access vars accesses tensor sum in
    let long : length (accesses ++ (one ∷ [])) ≡ length accesses + 1 = length-append accesses (one ∷ []) in
    let rest = accesses_longer vars (accesses ++ (one ∷ [])) (tensor + 1) sums in omega (arith, long, rest)

-- each of the first accesses keeps its number
pub accesses_kept : (vars : ℕ) (accesses : List Access) (tensor : ℕ) (sums : List NestedSum)
    → (more : List Access) × (accesses_with vars accesses tensor sums ≡ accesses ++ more)
accesses_kept vars accesses tensor [] = ([], sym (append_none accesses))
  where
    append_none : (xs : List Access) → xs ++ [] ≡ xs
    append_none [] = refl
    append_none (x ∷ xs) = ap (λ ys. x ∷ ys) (append_none xs)
accesses_kept vars accesses tensor (sum ∷ sums) =
    let one = sum_access vars accesses tensor sum in
    let rest = accesses_kept vars (accesses ++ (one ∷ [])) (tensor + 1) sums in
    (one ∷ rest.0, rest.1 ∙ append_assoc accesses (one ∷ []) rest.0)

-- a sum is an access by variables of the statement
sum_is_read : (tensors vars : ℕ) (accesses : List Access) (tensor : ℕ) (sum : NestedSum) → tensor < tensors
    → IsRead tensors vars (sum_access vars accesses tensor sum)
sum_is_read tensors vars accesses tensor sum within = record {
  tensor = within;
  vars_stand = each_filtered (λ v. v < vars) (is_free accesses sum) (numbers_from 0 vars)
      (each_number (λ v. v < vars) 0 vars (λ v above below. omega (arith, below)));
}

accesses_numbered : (tensors vars : ℕ) (accesses : List Access) (tensor : ℕ) (sums : List NestedSum) → tensor + length sums ≤ tensors
    → Each (IsRead tensors vars) accesses → Each (IsRead tensors vars) (accesses_with vars accesses tensor sums)
accesses_numbered tensors vars accesses tensor [] within h = h
accesses_numbered tensors vars accesses tensor (sum ∷ sums) within h =
    accesses_numbered tensors vars (accesses ++ (sum_access vars accesses tensor sum ∷ [])) (tensor + 1) sums (omega (arith, within))
    (each_append (IsRead tensors vars) accesses (sum_access vars accesses tensor sum ∷ []) h
    (sum_is_read tensors vars accesses tensor sum (omega (arith, within)), tt))

-- among more tensors
wider : (tensors more vars : ℕ) (access : Access) → tensors ≤ more → IsAccess tensors vars access → IsAccess more vars access
wider tensors more vars access most h = record {
  tensor = let below = h.tensor in omega (arith, below, most);
  vars_stand = h.vars_stand;
  order = h.order;
}

each_read : (tensors more vars : ℕ) (accesses : List Access) → tensors ≤ more → Each (IsAccess tensors vars) accesses
    → Each (IsRead more vars) accesses
each_read tensors more vars [] most h = tt
each_read tensors more vars (access ∷ accesses) most h = (
  record { tensor = let below = h.0.tensor in omega (arith, below, most); vars_stand = h.0.vars_stand },
  each_read tensors more vars accesses most h.1,
)

pub flat_numbered : (s : Statement) → IsNumberedWithSums s → IsNumbered (flat s)
flat_numbered s h =
    let names = names_longer s.tensors s.sums in
    let most : length s.tensors ≤ length (names_with s.tensors s.sums) = omega (arith, names) in
    let all = accesses_longer (length s.vars) s.accesses (length s.tensors) s.sums in
    record {
      left = wider (length s.tensors) (length (names_with s.tensors s.sums)) (length s.vars) s.left most h.left;
      right = accesses_numbered (length (names_with s.tensors s.sums)) (length s.vars) s.accesses (length s.tensors) s.sums
          (omega (arith, names))
          (each_read (length s.tensors) (length (names_with s.tensors s.sums)) (length s.vars) s.accesses most h.right);
      expr = subst (λ n. AccessesUnder n s.expr) (sym all) h.expr;
      variables = h.variables;
    }

-- where a statement has no nested sums, none stands in its expression
pub plain_numbered : (s : Statement) → IsNumberedWithSums s → s.sums ≡ [] → IsNumbered s
plain_numbered s h none = subst IsNumbered (flat_plain s none) (flat_numbered s h)

-- no variable is free twice
distinct_filtered : (p : ℕ → Bool) (vs : List ℕ) → IsDistinct vs → IsDistinct (filter p vs)
distinct_filtered p [] distinct = tt
distinct_filtered p (v ∷ vs) distinct = by (p v) (distinct_filtered p vs distinct.1)
  where
    by : (b : Bool) → IsDistinct (filter p vs) → IsDistinct (cond b (v ∷ filter p vs) (filter p vs))
    by true rest = (each_filtered (λ w. v ≢ w) p vs distinct.0, rest)
    by false rest = rest

numbers_distinct : (n count : ℕ) → IsDistinct (numbers_from n count)
numbers_distinct n zero = tt
numbers_distinct n (suc count) =
    (each_number (λ w. n ≢ w) (n + 1) count (λ w above below same. absurd (omega (arith, above, same))), numbers_distinct (n + 1) count)

-- one more access, to a tensor behind those of the others
orders_more : (accesses : List Access) (one : Access) → HaveOrders accesses → Each (λ a. a.tensor < one.tensor) accesses
    → HaveOrders (accesses ++ (one ∷ []))
orders_more [] one h below = (tt, tt)
orders_more (access ∷ accesses) one h below = (
  each_append (HaveOneOrder access) accesses (one ∷ []) h.0
      ((λ same. absurd (let less = below.0 in omega (arith, less, same))), tt),
  orders_more accesses one h.1 below.1,
)

below_more : (accesses : List Access) (one : Access) (tensor : ℕ) → one.tensor ≡ tensor → Each (λ a. a.tensor < tensor) accesses
    → Each (λ a. a.tensor < tensor + 1) (accesses ++ (one ∷ []))
below_more [] one tensor at below = (omega (arith, at), tt)
below_more (access ∷ accesses) one tensor at below =
    ((let less = below.0 in omega (arith, less)), below_more accesses one tensor at below.1)

-- what the checks of names show, with one access of a sum after another behind the left one and the right side's
record Named (accesses : List Access) : Type 0 where
  pub unread : Each (λ a. a.tensor ≢ 0) accesses
  pub once : Each (λ a. IsDistinct a.vars) accesses

module _ (vars : ℕ) (left : Access) where
  named_with : (accesses : List Access) (tensor : ℕ) (sums : List NestedSum) → 0 < tensor → Named accesses
      → Named (accesses_with vars accesses tensor sums)
  named_with accesses tensor [] some h = h
  named_with accesses tensor (sum ∷ sums) some h =
      let one = sum_access vars accesses tensor sum in
      named_with (accesses ++ (one ∷ [])) (tensor + 1) sums (omega (arith, some)) (record {
        unread = each_append (λ a. a.tensor ≢ 0) accesses (one ∷ []) h.unread ((λ none. omega (arith, some, none)), tt);
        once = each_append (λ a. IsDistinct a.vars) accesses (one ∷ []) h.once
            (distinct_filtered (is_free accesses sum) (numbers_from 0 vars) (numbers_distinct 0 vars), tt);
      })

  orders_with : (accesses : List Access) (tensor : ℕ) (sums : List NestedSum) → Each (λ a. a.tensor < tensor) (left ∷ accesses)
      → HaveOrders (left ∷ accesses) → HaveOrders (left ∷ accesses_with vars accesses tensor sums)
  orders_with accesses tensor [] below h = h
  orders_with accesses tensor (sum ∷ sums) below h =
      let one = sum_access vars accesses tensor sum in
      orders_with (accesses ++ (one ∷ [])) (tensor + 1) sums (below_more (left ∷ accesses) one tensor refl below)
      (orders_more (left ∷ accesses) one h below)

tensors_below : (tensors vars : ℕ) (accesses : List Access) → Each (IsAccess tensors vars) accesses
    → Each (λ a. a.tensor < tensors) accesses
tensors_below tensors vars [] h = tt
tensors_below tensors vars (access ∷ accesses) h = (h.0.tensor, tensors_below tensors vars accesses h.1)

pub flat_named : (s : Statement) → IsNumberedWithSums s → IsWellNamed s → IsWellNamed (flat s)
flat_named s h k =
    let below = h.left.tensor in
    let named = named_with (length s.vars) s.left s.accesses (length s.tensors) s.sums (omega (arith, below))
    (record { unread = k.unread; once = k.right_once }) in
    record {
      result = k.result;
      unread = named.unread;
      orders = orders_with (length s.vars) s.left s.accesses (length s.tensors) s.sums
          (below, tensors_below (length s.tensors) (length s.vars) s.accesses h.right) k.orders;
      left_once = k.left_once;
      right_once = named.once;
      standing = k.standing;
    }
