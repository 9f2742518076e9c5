-- What follows for the sizes of modes: they hold the coordinates of each access, and of the entries that it reads.
use Rattle.std.specs.Prelude.{◌≡◌, ℕ, zero, suc, ◌+◌, ◌<◌, ◌≤◌, max, Bool, true, false, nat_eq, if◌then◌else◌, List, [], ◌∷◌, ◌++◌, map}
use Rattle.std.specs.Prelude.{length, Some, All, option_to_list, slice_get, slice_index, slice_index_or, refl}
use Rattle.std.proofs.Common.{ap, subst, sym, ◌∙◌, arith}
use Rattle.std.proofs.lemmas.Bool.{eq-eqb}
use Rattle.tensor_map.specs.Entries.{Entries}
use Rattle.index_notation.specs.Statement.{IsAccess, IsNumberedWithSums, IsWellNamed, numbers_from}
use Rattle.lists.specs.Each.{Each}
use Rattle.index_notation.specs.declared.syntax.Access.{Access}
use Rattle.index_notation.specs.declared.syntax.Statement.{Statement}
use Rattle.expr_terms.specs.Operands.{entries_of}
use Rattle.expr_terms.specs.Ranges.{greatest_of, ranges_at, mode_size}
use Rattle.expr_terms.proofs.RangeLaws.{greatest_append, size_of_result}
use Rattle.tns_io.specs.Positions.{IsBelow}
use Rattle.lists.proofs.Each.{each_get, each_append, all_from}
use Rattle.operand_packing.specs.Operands.{ReadsBelow}
use Rattle.operand_packing.proofs.Below.{below_each, below_length}
use Rattle.operand_packing.specs.Operands.{mode_sizes}

-- the first access counts where it is one of the tensor
pub size_first : (ranges : ℕ → ℕ) (tensor mode : ℕ) (access : Access) (accesses : List Access) (b : Bool) → nat_eq access.tensor tensor ≡ b
    → greatest_of (ranges_at ranges tensor mode (access ∷ accesses)) ≡
    (if b then max (greatest_of (map ranges (option_to_list (slice_get access.vars mode))))
    (greatest_of (ranges_at ranges tensor mode accesses)) else greatest_of (ranges_at ranges tensor mode accesses))
size_first ranges tensor mode access accesses true e =
    ap (λ b. greatest_of (if b then (map ranges (option_to_list (slice_get access.vars mode))
    ++ ranges_at ranges tensor mode accesses) else ranges_at ranges tensor mode accesses)) e
    ∙ greatest_append (map ranges (option_to_list (slice_get access.vars mode))) (ranges_at ranges tensor mode accesses)
size_first ranges tensor mode access accesses false e =
    ap (λ b. greatest_of (if b then (map ranges (option_to_list (slice_get access.vars mode))
    ++ ranges_at ranges tensor mode accesses) else ranges_at ranges tensor mode accesses)) e

range_there : (ranges : ℕ → ℕ) (vars : List ℕ) (mode : ℕ) → mode < length vars
    → greatest_of (map ranges (option_to_list (slice_get vars mode))) ≡ ranges (slice_index vars mode)
range_there ranges [] mode h = absurd (omega arith)
range_there ranges (v ∷ vars) zero h = omega arith
range_there ranges (v ∷ vars) (suc mode) h = range_there ranges vars mode (omega arith)

size_rest : (ranges : ℕ → ℕ) (tensor mode : ℕ) (first : Access) (accesses : List Access) (b : Bool) → nat_eq first.tensor tensor ≡ b
    → greatest_of (ranges_at ranges tensor mode accesses) ≤ greatest_of (ranges_at ranges tensor mode (first ∷ accesses))
size_rest ranges tensor mode first accesses true e = let split = size_first ranges tensor mode first accesses true e in omega arith
size_rest ranges tensor mode first accesses false e = let split = size_first ranges tensor mode first accesses false e in omega arith

range_among : (ranges : ℕ → ℕ) (mode : ℕ) (accesses : List Access) (n : ℕ) (access : Access) → slice_get accesses n ≡ Some access
    → mode < length access.vars → ranges (slice_index access.vars mode) ≤ greatest_of (ranges_at ranges access.tensor mode accesses)
range_among ranges mode [] n access is h = absurd cc
range_among ranges mode (first ∷ accesses) zero access is h =
    let same : access ≡ first = cc in
    subst (λ (a : Access). ranges (slice_index access.vars mode) ≤ greatest_of (ranges_at ranges access.tensor mode (a ∷ accesses))) same
    (let split = size_first ranges access.tensor mode access accesses true (eq-eqb access.tensor access.tensor refl) in
    let there = range_there ranges access.vars mode h in
    omega arith)
range_among ranges mode (first ∷ accesses) (suc n) access is h =
    let rest = range_among ranges mode accesses n access is h in
    let more = size_rest ranges access.tensor mode first accesses (nat_eq first.tensor access.tensor) refl in
    omega arith

-- the range of a variable is at most the size of each mode at which it stands, in any access of either side
pub range_below_size : (s : Statement) (ranges : ℕ → ℕ) (n : ℕ) (access : Access) → slice_get (s.left ∷ s.accesses) n ≡ Some access
    → (mode : ℕ) → mode < length access.vars → ranges (slice_index access.vars mode) ≤ mode_size s ranges access.tensor mode
range_below_size s ranges n access is mode h = range_among ranges mode (s.left ∷ s.accesses) n access is h

below_from : (size : ℕ → ℕ) (from : ℕ) (vars coords : List ℕ) → length coords ≡ length vars
    → ((mode : ℕ) → mode < length vars → slice_index coords mode < size (from + mode))
    → IsBelow (map size (numbers_from from (length vars))) coords
below_from size from [] [] long below = tt
below_from size from [] (c ∷ coords) long below = absurd (omega arith)
below_from size from (v ∷ vars) [] long below = absurd (omega arith)
below_from size from (v ∷ vars) (c ∷ coords) long below =
    let place : from + 0 ≡ from = omega arith in
    let first : c < size (from + 0) = below 0 (omega arith) in (
      rw place at first,
      below_from size (from + 1) vars coords (omega arith) (λ mode h.
          let next : from + suc mode ≡ (from + 1) + mode = omega arith in
          let there : slice_index coords mode < size (from + suc mode) = below (suc mode) (omega arith) in
          rw next at there),
    )

-- so coordinates within the ranges of an access's variables are below the sizes
pub below_sizes : (s : Statement) (ranges : ℕ → ℕ) (n : ℕ) (access : Access) → slice_get (s.left ∷ s.accesses) n ≡ Some access
    → (coords : List ℕ) → length coords ≡ length access.vars
    → ((mode : ℕ) → mode < length access.vars → slice_index coords mode < ranges (slice_index access.vars mode))
    → IsBelow (mode_sizes s ranges access.tensor (length access.vars)) coords
below_sizes s ranges n access is coords long within =
    below_from (mode_size s ranges access.tensor) 0 access.vars coords long (λ mode h.
    let size = range_below_size s ranges n access is mode h in
    let coordinate = within mode h in
    let below : slice_index coords mode < mode_size s ranges access.tensor mode = omega arith in
    let place : mode ≡ 0 + mode = omega arith in
    subst (λ (m : ℕ). slice_index coords mode < mode_size s ranges access.tensor m) place below)

at_point : (point ranges : ℕ → ℕ) (vars : List ℕ) → Each (λ v. point v < ranges v) vars → (mode : ℕ) → mode < length vars
    → slice_index (map point vars) mode < ranges (slice_index vars mode)
at_point point ranges [] each mode h = absurd (omega arith)
at_point point ranges (v ∷ vars) each zero h = each.0
at_point point ranges (v ∷ vars) each (suc mode) h = at_point point ranges vars each.1 mode (omega arith)

map_long : (point : ℕ → ℕ) (vars : List ℕ) → length (map point vars) ≡ length vars
map_long point [] = refl
map_long point (v ∷ vars) = ap suc (map_long point vars)

-- those of a point within the ranges, for one
pub point_below_sizes : (s : Statement) (ranges : ℕ → ℕ) (n : ℕ) (access : Access) → slice_get (s.left ∷ s.accesses) n ≡ Some access
    → (point : ℕ → ℕ) → Each (λ v. point v < ranges v) access.vars
    → IsBelow (mode_sizes s ranges access.tensor (length access.vars)) (map point access.vars)
point_below_sizes s ranges n access is point each =
    below_sizes s ranges n access is (map point access.vars) (map_long point access.vars) (at_point point ranges access.vars each)

-- and the coordinates of all entries that an access on the right reads
pub entries_below_sizes : (s : Statement) (operands : List Entries) (ranges : ℕ → ℕ) (n : ℕ) (access : Access)
    → slice_get s.accesses n ≡ Some access → ReadsBelow operands ranges access
    → All (λ entry. IsBelow (mode_sizes s ranges access.tensor (length access.vars)) entry.coords) (entries_of operands access.tensor)
entries_below_sizes s operands ranges n access is below = λ k d h.
    let coords : List ℕ = (slice_index_or (entries_of operands access.tensor) k d).coords in
    below_sizes s ranges (suc n) access is coords (below_length ranges access.vars coords (below k d h))
    (below_each ranges access.vars coords (below k d h))

-- the greatest of small numbers is small
greatest_small : (most : ℕ) (ns : List ℕ) → Each (λ n. n ≤ most) ns → greatest_of ns ≤ most
greatest_small most [] each = omega arith
greatest_small most (n ∷ ns) each = let first = each.0 in let rest = greatest_small most ns each.1 in omega arith

there_small : (most : ℕ) (ranges : ℕ → ℕ) → ((v : ℕ) → ranges v ≤ most) → (vars : List ℕ) → Each (λ n. n ≤ most) (map ranges vars)
there_small most ranges small [] = tt
there_small most ranges small (v ∷ vars) = (small v, there_small most ranges small vars)

ranges_small : (most : ℕ) (ranges : ℕ → ℕ) → ((v : ℕ) → ranges v ≤ most) → (tensor mode : ℕ) (accesses : List Access)
    → Each (λ n. n ≤ most) (ranges_at ranges tensor mode accesses)
ranges_small most ranges small tensor mode [] = tt
ranges_small most ranges small tensor mode (access ∷ accesses) =
    by (nat_eq access.tensor tensor) (ranges_small most ranges small tensor mode accesses)
  where
    by : (b : Bool) → Each (λ n. n ≤ most) (ranges_at ranges tensor mode accesses)
        → Each (λ n. n ≤ most) (if b
        then (map ranges (option_to_list (slice_get access.vars mode)) ++ ranges_at ranges tensor mode accesses)
        else ranges_at ranges tensor mode accesses)
    by true rest = each_append (λ n. n ≤ most) (map ranges (option_to_list (slice_get access.vars mode)))
        (ranges_at ranges tensor mode accesses)
        (there_small most ranges small (option_to_list (slice_get access.vars mode))) rest
    by false rest = rest

sizes_small_from : (most : ℕ) (size : ℕ → ℕ) → ((mode : ℕ) → size mode ≤ most) → (modes : List ℕ) → Each (λ n. n ≤ most) (map size modes)
sizes_small_from most size small [] = tt
sizes_small_from most size small (mode ∷ modes) = (small mode, sizes_small_from most size small modes)

-- no size is above a bound of the ranges
pub mode_sizes_small : (most : ℕ) (s : Statement) (ranges : ℕ → ℕ) → ((v : ℕ) → ranges v ≤ most) → (tensor order : ℕ)
    → All (λ size. size ≤ most) (mode_sizes s ranges tensor order)
mode_sizes_small most s ranges small tensor order =
    all_from (λ size. size ≤ most) (mode_sizes s ranges tensor order)
    (λ n size is. each_get (λ size. size ≤ most) (mode_sizes s ranges tensor order) n size
    (sizes_small_from most (mode_size s ranges tensor)
    (λ mode. greatest_small most (ranges_at ranges tensor mode (s.left ∷ s.accesses))
    (ranges_small most ranges small tensor mode (s.left ∷ s.accesses))) (numbers_from 0 order)) is)

-- a list of small ranges gives every number a small one
pub index_small : (most : ℕ) (ranges : List ℕ) → All (λ range. range ≤ most) ranges → (v : ℕ) → slice_index ranges v ≤ most
index_small most [] small v = omega arith
index_small most (range ∷ ranges) small zero = small 0 range (omega arith)
index_small most (range ∷ ranges) small (suc v) = index_small most ranges (λ k d h. small (suc k) d (omega arith)) v

result_from : (size ranges : ℕ → ℕ) (from : ℕ) (vars : List ℕ)
    → ((mode : ℕ) → mode < length vars → size (from + mode) ≡ ranges (slice_index vars mode))
    → map size (numbers_from from (length vars)) ≡ map ranges vars
result_from size ranges from [] each = refl
result_from size ranges from (v ∷ vars) each =
    let place : from + 0 ≡ from = omega arith in
    let first : size from ≡ ranges v = ap size (sym place) ∙ each 0 (omega arith) in
    let rest : map size (numbers_from (from + 1) (length vars)) ≡ map ranges vars = result_from size ranges (from + 1) vars (λ mode h.
    let next : (from + 1) + mode ≡ from + suc mode = omega arith in
    ap size next ∙ each (suc mode) (omega arith)) in
    λ i. first i ∷ rest i

-- the sizes of the result are the ranges of the left side's variables
pub sizes_of_result : (s : Statement) → IsWellNamed s → (ranges : ℕ → ℕ)
    → mode_sizes s ranges 0 (length s.left.vars) ≡ map ranges s.left.vars
sizes_of_result s named ranges = result_from (mode_size s ranges 0) ranges 0 s.left.vars (λ mode h.
    let place : 0 + mode ≡ mode = omega arith in
    ap (mode_size s ranges 0) place ∙ size_of_result s named ranges mode h)

there_same : (f g : ℕ → ℕ) (count : ℕ) → ((v : ℕ) → v < count → f v ≡ g v) → (vars : List ℕ) (mode : ℕ) → Each (λ v. v < count) vars
    → map f (option_to_list (slice_get vars mode)) ≡ map g (option_to_list (slice_get vars mode))
there_same f g count same [] mode stand = refl
there_same f g count same (v ∷ vars) zero stand = λ i. same v stand.0 i ∷ []
there_same f g count same (v ∷ vars) (suc mode) stand = there_same f g count same vars mode stand.1

ranges_same : (f g : ℕ → ℕ) (tensors count : ℕ) → ((v : ℕ) → v < count → f v ≡ g v) → (tensor mode : ℕ) (accesses : List Access)
    → Each (IsAccess tensors count) accesses → ranges_at f tensor mode accesses ≡ ranges_at g tensor mode accesses
ranges_same f g tensors count same tensor mode [] each = refl
ranges_same f g tensors count same tensor mode (access ∷ accesses) each =
    let rest : ranges_at f tensor mode accesses ≡ ranges_at g tensor mode accesses =
    ranges_same f g tensors count same tensor mode accesses each.1 in
    let there : map f (option_to_list (slice_get access.vars mode)) ≡ map g (option_to_list (slice_get access.vars mode)) =
    there_same f g count same access.vars mode each.0.vars_stand in
    λ i. if nat_eq access.tensor tensor then (there i ++ rest i) else rest i

-- only the ranges of the statement's variables count
pub mode_size_same : (s : Statement) → IsNumberedWithSums s → (f g : ℕ → ℕ) → ((v : ℕ) → v < length s.vars → f v ≡ g v) → (tensor mode : ℕ)
    → mode_size s f tensor mode ≡ mode_size s g tensor mode
mode_size_same s numbered f g same tensor mode =
    ap greatest_of (ranges_same f g (length s.tensors) (length s.vars) same tensor mode (s.left
    ∷ s.accesses) (numbered.left, numbered.right))

sizes_same_from : (f g : ℕ → ℕ) → ((mode : ℕ) → f mode ≡ g mode) → (ms : List ℕ) → map f ms ≡ map g ms
sizes_same_from f g same [] = refl
sizes_same_from f g same (m ∷ ms) = λ i. same m i ∷ sizes_same_from f g same ms i

pub mode_sizes_same : (s : Statement) → IsNumberedWithSums s → (f g : ℕ → ℕ) → ((v : ℕ) → v < length s.vars → f v ≡ g v)
    → (tensor order : ℕ) → mode_sizes s f tensor order ≡ mode_sizes s g tensor order
mode_sizes_same s numbered f g same tensor order =
    sizes_same_from (mode_size s f tensor) (mode_size s g tensor) (mode_size_same s numbered f g same tensor) (numbers_from 0 order)
