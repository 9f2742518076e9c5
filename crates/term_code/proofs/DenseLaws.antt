-- What adding a row to the values of a dense result does.
use Rattle.std.specs.Prelude.{◌≡◌, ℕ, zero, suc, ◌+◌, ◌*◌, ◌^◌, ◌≤◌, ◌<◌, nat_eq, Bool, true, false, ◌||◌, List, [], ◌∷◌, length, Option}
use Rattle.std.specs.Prelude.{Some, All, slice_index, slice_set, refl}
use Rattle.std.proofs.Common.{◌∙◌, sym, ap, subst, arith}
use Rattle.std.proofs.Math.Nat.{mul-le-mul_left}
use Rattle.std.proofs.lemmas.Bool.Decides.{nat_tests}
use Rattle.std.proofs.lemmas.List.{ext_get_or, get_or-set_same, get_or-set_other, length-set}
use Rattle.limits.proofs.Limits.{positions_are_small}
use Rattle.numbers.proofs.Sums.{total_fits}
use Rattle.kernel_code.specs.declared.syntax.Arr.{Arr}
use Rattle.kernel_code.specs.declared.syntax.Arr.TheVariants.{Values, Dimension}
use Rattle.kernel_code.specs.declared.syntax.Op.TheVariants.{Add, Mul}
use Rattle.kernel_code.specs.declared.syntax.KExpr.{KExpr, Num, Var, At, Bin}
use Rattle.kernel_code.specs.declared.syntax.KStmt.{AddTo}
use Rattle.kernel_code.proofs.ArrayNames.{same_arr_self}
use Rattle.kernel_code.specs.Meaning.{State, value, set_array}
use Rattle.kernel_code.proofs.Does.{does_nothing, does_add_to}
use Rattle.kernel_code.proofs.Keeps.{this_array, other_array}
use Rattle.kernel_code.proofs.Words.{word_is, sum_is, product_is}
use Rattle.tensor_map.specs.Entries.{value_at, values_at}
use Rattle.tensor_map.specs.Laws.{same, other}
use Rattle.tensor_map.proofs.Lemmas.{tested, value_append, value_here, value_elsewhere}
use Rattle.tns_io.specs.Positions.{product, IsBelow, position}
use Rattle.tns_io.proofs.PositionLaws as positions
use Rattle.expr_terms.specs.Terms.{contains}
use Rattle.result_targets.specs.Sinks.{AddsTo, VarsAre}
use Rattle.term_code.specs.DenseSinks.{DenseSink, by_level, place, HasSizes, AreModes, dense_sink, position_below, position_code}

-- below sizes, none of which is 0
some_below : (ns xs : List ℕ) → IsBelow ns xs → 1 ≤ product ns
some_below ns xs b = let below = positions.position_below ns xs b in omega (arith, below)

at_most_times : (x p : ℕ) → 1 ≤ p → x ≤ x * p
at_most_times x p h = let some : x * 1 ≤ x * p = mul-le-mul_left x h in omega arith

horner : (a n x p q : ℕ) → (a * n + x) * p + q ≡ a * (n * p) + (x * p + q)
horner a n x p q = omega arith

below_is : (s : State) (level : ℕ) (above : KExpr) (a : ℕ) (ys ns xs : List ℕ) → value above s ≡ Some a → HasSizes level ns s.arrays
    → VarsAre ys xs s → IsBelow ns xs → a * product ns + position ns xs < 2 ^ 64
    → value (position_below level above ys) s ≡ Some (a * product ns + position ns xs)
below_is s level above a [] [] [] h sizes have b l = h ∙ ap Some (omega arith)
below_is s level above a (y ∷ ys) (n ∷ ns) (x ∷ xs) h sizes have b l =
    let rest : 1 ≤ product ns = some_below ns xs b.1 in
    let equal = horner a n x (product ns) (position ns xs) in
    let whole : a * n + x ≤ (a * n + x) * product ns = at_most_times (a * n + x) (product ns) rest in
    let small : a * n + x < 2 ^ 64 = omega arith in
    let size : value (At (Dimension 0 level) (Num 0)) s ≡ Some n = word_is (Dimension 0 level) (Num 0) (n ∷ []) 0 n s sizes.0 refl refl in
    let begin : value (Bin Mul above (At (Dimension 0 level) (Num 0))) s ≡ Some (a * n) =
    product_is above (At (Dimension 0 level) (Num 0)) a n s h size (omega arith) in
    let here : value (Bin Add (Bin Mul above (At (Dimension 0 level) (Num 0))) (Var y)) s ≡ Some (a * n + x) =
    sum_is (Bin Mul above (At (Dimension 0 level) (Num 0))) (Var y) (a * n) x s begin have.0 small in
    below_is s (level + 1) (Bin Add (Bin Mul above (At (Dimension 0 level) (Num 0))) (Var y)) (a * n + x) ys ns xs here sizes.1 have.1 b.1
    (omega arith)
    ∙ ap Some equal
below_is s level above a [] [] (x ∷ xs) h sizes have b l = absurd b
below_is s level above a [] (n ∷ ns) [] h sizes have b l = absurd b
below_is s level above a [] (n ∷ ns) (x ∷ xs) h sizes have b l = absurd have
below_is s level above a (y ∷ ys) [] [] h sizes have b l = absurd have
below_is s level above a (y ∷ ys) [] (x ∷ xs) h sizes have b l = absurd b
below_is s level above a (y ∷ ys) (n ∷ ns) [] h sizes have b l = absurd b

position_is : (s : State) (ys ns xs : List ℕ) → HasSizes 1 ns s.arrays → VarsAre ys xs s → IsBelow ns xs → position ns xs < 2 ^ 64
    → value (position_code ys) s ≡ Some (position ns xs)
position_is s [] [] [] sizes have b l = refl
position_is s (y ∷ ys) (n ∷ ns) (x ∷ xs) sizes have b l = below_is s 2 (Var y) x ys ns xs have.0 sizes.1 have.1 b.1 l
position_is s [] [] (x ∷ xs) sizes have b l = absurd b
position_is s [] (n ∷ ns) [] sizes have b l = absurd b
position_is s [] (n ∷ ns) (x ∷ xs) sizes have b l = absurd have
position_is s (y ∷ ys) [] [] sizes have b l = absurd have
position_is s (y ∷ ys) [] (x ∷ xs) sizes have b l = absurd b
position_is s (y ∷ ys) (n ∷ ns) [] sizes have b l = absurd b

-- coordinates within the ranges, and variables that have them, in the order of the levels
below_at : (ns xs : List ℕ) (m : ℕ) → IsBelow ns xs → m < length ns → slice_index xs m < slice_index ns m
below_at [] [] m b l = absurd (omega (arith, l))
below_at [] (x ∷ xs) m b l = absurd b
below_at (n ∷ ns) [] m b l = absurd b
below_at (n ∷ ns) (x ∷ xs) zero b l = b.0
below_at (n ∷ ns) (x ∷ xs) (suc m) b l = below_at ns xs m b.1 (omega (arith, l))

levels_below : (modes ranges coords : List ℕ) → All (λ m. m < length ranges) modes → IsBelow ranges coords
    → IsBelow (by_level modes ranges) (by_level modes coords)
levels_below [] ranges coords all b = tt
levels_below (m ∷ modes) ranges coords all b =
    (below_at ranges coords m b (all 0 0 (omega arith)), levels_below modes ranges coords (λ j d l. all (suc j) d (omega (arith, l))) b)

var_at : (ys xs : List ℕ) (m : ℕ) (s : State) → VarsAre ys xs s → m < length xs → s.vars (slice_index ys m) ≡ Some (slice_index xs m)
var_at [] [] m s h l = absurd (omega (arith, l))
var_at [] (x ∷ xs) m s h l = absurd h
var_at (y ∷ ys) [] m s h l = absurd h
var_at (y ∷ ys) (x ∷ xs) zero s h l = h.0
var_at (y ∷ ys) (x ∷ xs) (suc m) s h l = var_at ys xs m s h.1 (omega (arith, l))

levels_are : (modes ys xs : List ℕ) (s : State) → All (λ m. m < length xs) modes → VarsAre ys xs s
    → VarsAre (by_level modes ys) (by_level modes xs) s
levels_are [] ys xs s all h = tt
levels_are (m ∷ modes) ys xs s all h =
    (var_at ys xs m s h (all 0 0 (omega arith)), levels_are modes ys xs s (λ j d l. all (suc j) d (omega (arith, l))) h)

-- coordinates that are equal in the order of the levels are equal, since each mode is stored
heads : (x y : ℕ) (xs ys : List ℕ) → (x ∷ xs) ≡ (y ∷ ys) → (x ≡ y) × (xs ≡ ys)
heads x y xs ys e = (cc, cc)

one_mode : (k m : ℕ) (modes xs ys : List ℕ) (b : Bool) → nat_eq k m ≡ b → (b || contains modes m) ≡ true
    → slice_index xs k ≡ slice_index ys k
    → (contains modes m ≡ true → slice_index xs m ≡ slice_index ys m) → slice_index xs m ≡ slice_index ys m
one_mode k m modes xs ys true is h first rest =
    let equal : k ≡ m = grind (arith, nat_tests, is) in subst (λ j. slice_index xs j ≡ slice_index ys j) equal first
one_mode k m modes xs ys false is h first rest = rest h

at_mode : (modes xs ys : List ℕ) (m : ℕ) → by_level modes xs ≡ by_level modes ys → contains modes m ≡ true
    → slice_index xs m ≡ slice_index ys m
at_mode [] xs ys m e h = absurd (cc h)
at_mode (k ∷ modes) xs ys m e h =
    let first = heads (slice_index xs k) (slice_index ys k) (by_level modes xs) (by_level modes ys) e in
    one_mode k m modes xs ys (nat_eq k m) refl h first.0 (λ in_rest. at_mode modes xs ys m first.1 in_rest)

same_coords : (modes xs ys : List ℕ) → AreModes modes → length xs ≡ length modes → length ys ≡ length modes
    → by_level modes xs ≡ by_level modes ys → xs ≡ ys
same_coords modes xs ys are long also e =
    ext_get_or 0 xs ys (long ∙ sym also) (λ m l. at_mode modes xs ys m e (are.each m (omega (arith, l, long))))

module _ (modes ranges : List ℕ) (are : AreModes modes) (many : length ranges ≡ length modes) where
  within : All (λ m. m < length ranges) modes
  within = λ k d l. let b = are.below k d l in omega (arith, b, many)

  coords_long : (coords : List ℕ) → IsBelow ranges coords → length coords ≡ length modes
  coords_long coords b = positions.below_long ranges coords b ∙ many

  place_below : (coords : List ℕ) → IsBelow ranges coords → place modes ranges coords < product (by_level modes ranges)
  place_below coords b = positions.position_below (by_level modes ranges) (by_level modes coords)
      (levels_below modes ranges coords within b)

  place_injective : (xs ys : List ℕ) → IsBelow ranges xs → IsBelow ranges ys → place modes ranges xs ≡ place modes ranges ys → xs ≡ ys
  place_injective xs ys b d e =
      same_coords modes xs ys are (coords_long xs b) (coords_long ys d)
      (positions.position_injective (by_level modes ranges) (by_level modes xs) (by_level modes ys)
      (levels_below modes ranges xs within b) (levels_below modes ranges ys within d) e)

-- the sizes stay where the arrays of sizes do
sizes_other : (level : ℕ) (ns : List ℕ) (a b : Arr → Option (List ℕ)) → ((l : ℕ) → b (Dimension 0 l) ≡ a (Dimension 0 l))
    → HasSizes level ns a
    → HasSizes level ns b
sizes_other level [] a b f h = tt
sizes_other level (n ∷ ns) a b f h = (f level ∙ h.0, sizes_other (level + 1) ns a b f h.1)

-- the code of a row of a dense result
pub adds_in_place : (k : DenseSink) (keys : List ℕ) (v free : ℕ)
    → AddsTo dense_sink k keys v free (AddTo (Values 0) (position_code (by_level k.modes keys)) (Var v) ∷ [])
adds_in_place k keys v free = λ c laws apart ranges rows r ok s vars at h.
    let a = c.arithmetic in
    let modes = k.modes in
    let all : All (λ m. m < length r.coords) modes = λ j d l. let b = ok.stored.below j d l in
    let long = coords_long modes ranges ok.stored ok.many r.coords ok.below in omega (arith, b, long) in
    let spot = place modes ranges r.coords in
    let low : spot < length h.words = let b = place_below modes ranges ok.stored ok.many r.coords ok.below in omega (arith, b, h.long) in
    let sum = a.plus (slice_index h.words spot) r.value in
    let t = set_array s (Values 0) (slice_set h.words spot sum) in
    let here : value (position_code (by_level modes keys)) s ≡ Some spot =
    position_is s (by_level modes keys) (by_level modes ranges) (by_level modes r.coords) h.sizes
    (levels_are modes keys r.coords s all vars)
    (levels_below modes ranges r.coords (within modes ranges ok.stored ok.many) ok.below)
    (omega (arith, low, h.few, positions_are_small)) in
    does_add_to c (Values 0) (position_code (by_level modes keys)) (Var v) [] s spot r.value h.words _ _ here at refl h.held low
    (does_nothing c t _ _ (
      record {
        below = λ y b z. refl;
        arrays = λ b out. other_array s (Values 0) b (slice_set h.words spot sum) out;
        turns =
            λ j. omega arith;
      },
      record {
        sizes = sizes_other 1 (by_level modes ranges) s.arrays t.arrays
            (λ l. other_array s (Values 0) (Dimension 0 l) (slice_set h.words spot sum) refl) h.sizes;
        words = slice_set h.words spot sum;
        held = this_array s (Values 0) (Values 0) (slice_set h.words spot sum) (same_arr_self (Values 0));
        long = length-set h.words spot sum ∙ h.long;
        few = let few = h.few in let long = length-set h.words spot sum in omega (arith, few, long);
        each = λ coords is. elim (tested r.coords coords) [
          | same e q ↦
              ap (slice_index (slice_set h.words spot sum)) (ap (place modes ranges) (sym e))
              ∙ get_or-set_same h.words spot sum 0 low
              ∙ ap (λ x. a.plus x r.value) (ap (λ cs. slice_index h.words (place modes ranges cs)) e ∙ h.each coords is)
              ∙ sym (value_append a laws coords rows (r ∷ [])
              ∙ ap (a.plus (value_at a rows coords)) (value_here a coords r [] q ∙ laws.plus_zero r.value ok.word))
          | other e q ↦
              get_or-set_other h.words spot (place modes ranges coords) sum 0
              (λ z. e (place_injective modes ranges ok.stored ok.many r.coords coords ok.below is (sym z)))
              ∙ h.each coords is
              ∙ sym (value_append a laws coords rows (r ∷ []) ∙ ap (a.plus (value_at a rows coords)) (value_elsewhere a coords r [] q)
              ∙ laws.plus_zero (value_at a rows coords) (total_fits a laws (values_at rows coords)))
        ];
      },
    ))
