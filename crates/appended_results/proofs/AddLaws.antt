-- A row's value is added at its position.
use Rattle.std.specs.Prelude.{◌≡◌, ℕ, suc, ◌+◌, ◌-◌, ◌*◌, ◌^◌, ◌≤◌, ◌<◌, false, List, [], ◌∷◌, ◌++◌, length, drop}
use Rattle.std.specs.Prelude.{slice_index, slice_set}
use Rattle.std.specs.Prelude.{Some, refl}
use Rattle.std.proofs.Common.{◌∙◌, sym, ap, arith}
use Rattle.std.proofs.Math.Nat.{mul-le-mul_left}
use Rattle.limits.specs.Limits.{greatest_position_count}
use Rattle.limits.proofs.Limits.{positions_are_small}
use Rattle.numbers.specs.Arithmetic.{Arithmetic, Laws}
use Rattle.kernel_code.proofs.ArrayNames.{same_arr_self}
use Rattle.kernel_code.specs.Does.{Does, Never}
use Rattle.kernel_code.proofs.Does.{does_nothing, does_add_to}
use Rattle.kernel_code.specs.Keeps.{Leaves, NoVariable, no_turns}
use Rattle.kernel_code.proofs.Keeps.{this_array, other_array}
use Rattle.kernel_code.proofs.Words.{word_is, sum_is, product_is, difference_is}
use Rattle.kernel_code.specs.Meaning.{Setting, State, value, set_array}
use Rattle.kernel_code.specs.declared.syntax.Arr.TheVariants.{Values, Dimension}
use Rattle.kernel_code.specs.declared.syntax.Op.TheVariants.{Add, Mul}
use Rattle.kernel_code.specs.declared.syntax.KExpr.{KExpr, Num, Var, At, Bin}
use Rattle.tensor_map.specs.Entries.{Entry}
use Rattle.tns_io.specs.Positions.{product, IsBelow, position}
use Rattle.tns_io.proofs.PositionLaws as positions
use Rattle.level_core.specs.declared.letter.Letter.{Letter}
use Rattle.level_core.specs.Kinds.{properties}
use Rattle.level_rows.specs.Rows.{begun}
use Rattle.level_rows.proofs.RowLaws.{begun_some}
use Rattle.appended_results.specs.Heads.{letter_at, key_in}
use Rattle.appended_results.specs.Places.{first_at, place_above, rows_above}
use Rattle.appended_results.specs.Levels.{cursor_at, IsKept, MayHold}
use Rattle.appended_results.specs.Rows.{HoldsHeads}
use Rattle.appended_results.specs.Sums.{head_at, spot_of, HoldsSums}
use Rattle.appended_results.specs.Values.{place_from, last_place, add_code, HaveTail}
use Rattle.appended_results.proofs.LevelSteps.{sparse_place, sparse_positions, holds_there}
use Rattle.appended_results.proofs.SumLaws.{spot_within, row_added}
use Rattle.appended_results.proofs.HeadCode.{no_value}

some_below : (ns xs : List ℕ) → IsBelow ns xs → 1 ≤ product ns
some_below ns xs b = let below = positions.position_below ns xs b in omega (arith, below)

at_most_times : (x p : ℕ) → 1 ≤ p → x ≤ x * p
at_most_times x p h = let some : x * 1 ≤ x * p = mul-le-mul_left x h in omega arith

horner : (a n x p q : ℕ) → (a * n + x) * p + q ≡ a * (n * p) + (x * p + q)
horner a n x p q = omega arith

place_told : (s : State) (d : ℕ) (above : KExpr) (a : ℕ) (ys ns xs : List ℕ) → value above s ≡ Some a → HaveTail d ns xs ys s
    → IsBelow ns xs → a * product ns + position ns xs < 2 ^ 64
    → value (place_from d above ys) s ≡ Some (a * product ns + position ns xs)
place_told s d above a [] [] [] h have b l = h ∙ ap Some (omega arith)
place_told s d above a (y ∷ ys) (n ∷ ns) (x ∷ xs) h have b l =
    let rest : 1 ≤ product ns = some_below ns xs b.1 in
    let equal = horner a n x (product ns) (position ns xs) in
    let whole : a * n + x ≤ (a * n + x) * product ns = at_most_times (a * n + x) (product ns) rest in
    let small : a * n + x < 2 ^ 64 = omega arith in
    let size : value (At (Dimension 0 (suc d)) (Num 0)) s ≡ Some n =
    word_is (Dimension 0 (suc d)) (Num 0) (n ∷ []) 0 n s have.0 refl refl in
    let begin : value (Bin Mul above (At (Dimension 0 (suc d)) (Num 0))) s ≡ Some (a * n) =
    product_is above (At (Dimension 0 (suc d)) (Num 0)) a n s h size (omega arith) in
    let here : value (Bin Add (Bin Mul above (At (Dimension 0 (suc d)) (Num 0))) (Var y)) s ≡ Some (a * n + x) =
    sum_is (Bin Mul above (At (Dimension 0 (suc d)) (Num 0))) (Var y) (a * n) x s begin have.1 small in
    place_told s (suc d) (Bin Add (Bin Mul above (At (Dimension 0 (suc d)) (Num 0))) (Var y)) (a * n + x) ys ns xs here have.2 b.1
    (omega arith)
    ∙ ap Some equal
place_told s d above a [] [] (x ∷ xs) h have b l = absurd b
place_told s d above a [] (n ∷ ns) [] h have b l = absurd b
place_told s d above a [] (n ∷ ns) (x ∷ xs) h have b l = absurd have
place_told s d above a (y ∷ ys) [] [] h have b l = absurd have
place_told s d above a (y ∷ ys) [] (x ∷ xs) h have b l = absurd b
place_told s d above a (y ∷ ys) (n ∷ ns) [] h have b l = absurd b

-- the row has been added
pub record HasRow (a : Arithmetic) (letters : List Letter) (sizes : List ℕ) (head base free : ℕ) (heads : List (List ℕ)) (rows : List Entry)
    (s t : State) : Type 0 where
  pub holds : HoldsHeads letters sizes head base heads t
  pub words : List ℕ
  pub held : t.arrays (Values 0) ≡ Some words
  pub sums : HoldsSums a letters sizes head heads rows words
  pub leaves : Leaves NoVariable IsKept free no_turns s t

module _ (c : Setting) (laws : Laws c.arithmetic) (letters : List Letter) (sizes : List ℕ) (head base free : ℕ) (heads : List (List ℕ))
    (may : MayHold letters sizes head heads) (long : (j : ℕ) → j < length heads → length (head_at heads j) ≡ head)
    (rows : List Entry) (row : Entry) (word : row.value < 2 ^ 64) (s : State) (holds : HoldsHeads letters sizes head base heads s)
    (words : List ℕ) (held : s.arrays (Values 0) ≡ Some words) (sums : HoldsSums c.arithmetic letters sizes head heads rows words)
    (j : ℕ) (is_last : length heads ≡ suc j) (xs keys : List ℕ) (var : ℕ) (below : IsBelow (drop head sizes) xs)
    (coords_are : row.coords ≡ head_at heads j ++ xs) (have : HaveTail head (drop head sizes) xs (drop head keys) s)
    (value_is : s.vars var ≡ Some row.value) where
  abbrev spot : ℕ
  spot = spot_of letters sizes head heads j xs

  inside : j < length heads
  inside = omega (arith, is_last)

  low : spot_of letters sizes head heads j xs < length words
  low = let w = spot_within letters sizes head heads may j xs inside below in let m = sums.many in omega (arith, w, m)

  few : length words ≤ greatest_position_count
  few = let m = sums.many in let f = holds.few (length letters) (omega arith) in omega (arith, m, f)

  -- the last head's position
  last_told : value (last_place base head) s ≡ Some (place_above letters sizes (key_in heads) head j)
  last_told =
      let some = may.is_head.some in
      let w = may.is_head.within in
      let last : suc (head - 1) ≡ head = omega (arith, some) in
      let sparse = may.is_head.last (head - 1) last in
      let at = (holds.levels (head - 1) (omega (arith, some, w))).appended sparse in
      let many = at.progress.appended.many in
      let more = begun_some (rows_above letters sizes (key_in heads) (length heads) (head - 1)) (length heads) refl
      (omega (arith, is_last)) in
      let f = holds.few head w in
      let here = sparse_place letters sizes (key_in heads) (head - 1) j sparse in
      difference_is (Var (cursor_at base (head - 1) + 2)) (Num 1) (length at.log.coords) 1 s at.count_is refl
      (few_words at.log.coords many last sparse) (omega (arith, many, more))
      ∙ ap (λ n. Some (n - 1)) (many ∙ ap (begun (first_at letters (key_in heads) (head - 1))) is_last)
      ∙ ap Some (sym here) ∙ ap (λ d. Some (place_above letters sizes (key_in heads) d j)) last
    where
      few_words : (cs : List ℕ) → length cs ≡ begun (first_at letters (key_in heads) (head - 1)) (length heads) → suc (head - 1) ≡ head
          → (properties (letter_at letters (head - 1))).full ≡ false → length cs < 2 ^ 64
      few_words cs many last sparse =
          let p = sparse_positions letters sizes (key_in heads) (length heads) (head - 1) sparse in
          let w = may.is_head.within in
          let f = holds.few (suc (head - 1)) (omega (arith, last, w)) in
          let small = positions_are_small in
          omega (arith, many, p, f, small)

  pub adds_value : Does c (add_code base head keys var) s
      (HasRow c.arithmetic letters sizes head base free heads (rows ++ row ∷ []) s) Never
  adds_value =
      let small = positions_are_small in
      let sum = c.arithmetic.plus (slice_index words (spot_of letters sizes head heads j xs)) row.value in
      let after = slice_set words (spot_of letters sizes head heads j xs) sum in
      let t = set_array s (Values 0) after in
      let told = place_told s head (last_place base head) (place_above letters sizes (key_in heads) head j) (drop head keys)
      (drop head sizes) xs
      last_told have below (omega (arith, low, few, small)) in
      does_add_to c (Values 0) (place_from head (last_place base head) (drop head keys)) (Var var) [] s
      (spot_of letters sizes head heads j xs) row.value words _ _ told value_is refl held low
      (does_nothing c t _ _ (record {
        holds = record {
          levels = λ e h. holds_there letters sizes heads base e s t (λ y cursor. refl)
              (λ a of. other_array s (Values 0) a after (no_value a (suc e) of)) (holds.levels e h);
          few = holds.few;
          last = holds.last;
        };
        words = after;
        held = this_array s (Values 0) (Values 0) after (same_arr_self (Values 0));
        sums = row_added c.arithmetic laws letters sizes head heads may long rows row words word sums j xs inside below coords_are;
        leaves = record {
          below = λ y h m. refl;
          arrays = λ a kept. other_array s (Values 0) a after kept.no_values;
          turns = λ k. omega arith;
        };
      }))
