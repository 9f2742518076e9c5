-- The whole code of one head: all levels, the values, and the head's coordinates.
use Rattle.std.specs.Prelude.{◌≡◌, ◌≢◌, ◌⊎◌, ℕ, zero, suc, ◌+◌, ◌-◌, ◌*◌, ◌≤◌, ◌<◌, nat_le, ◌&&◌, Bool, true, false, List, [], ◌∷◌, ◌++◌}
use Rattle.std.specs.Prelude.{length, replicate}
use Rattle.std.specs.Prelude.{slice_index, Some, refl}
use Rattle.std.proofs.Common.{◌∙◌, sym, ap, subst, arith, inl, inr}
use Rattle.std.proofs.lemmas.Bool.{cases_lt}
use Rattle.std.proofs.lemmas.Bool.Decides.{nat_tests}
use Rattle.std.proofs.lemmas.List.{length_push}
use Rattle.limits.specs.Limits.{greatest_position_count}
use Rattle.limits.proofs.Limits.{positions_are_small, some_positions}
use Rattle.kernel_code.specs.Arrays.{same_arr, may_have}
use Rattle.kernel_code.proofs.ArrayNames.{same_arr_self}
use Rattle.kernel_code.specs.Does.{Does, Never}
use Rattle.kernel_code.proofs.Does.{does_weaker, does_nothing, does_append, does_set, does_extend}
use Rattle.kernel_code.specs.Keeps.{Leaves, EveryArray, no_turns}
use Rattle.kernel_code.proofs.Keeps.{this_var, other_var, this_array, other_array, leaves_none, leaves_set}
use Rattle.kernel_code.proofs.Words.{difference_is}
use Rattle.kernel_code.specs.Meaning.{Setting, State, length_of, set_var, set_array}
use Rattle.kernel_code.specs.declared.syntax.Arr.{Arr}
use Rattle.kernel_code.specs.declared.syntax.Arr.TheVariants.{Range, Values, Dimension, Ends, Coordinates, Width, Key, Sums}
use Rattle.kernel_code.specs.declared.syntax.Arr.TheVariants.{ListCoordinates, ListPositions}
use Rattle.kernel_code.specs.declared.syntax.Op.TheVariants.{Sub}
use Rattle.kernel_code.specs.declared.syntax.KExpr.{Num, Var, Len, Bin}
use Rattle.kernel_code.specs.declared.syntax.KStmt.{KStmt, Set}
use Rattle.level_core.specs.declared.letter.Letter.{Letter}
use Rattle.level_core.specs.Fragments.{IsOf, RefusedWithin}
use Rattle.level_core.specs.Kinds.{properties}
use Rattle.appended_results.specs.Heads.{letter_at, key_in}
use Rattle.appended_results.specs.Places.{positions_above, is_fixed}
use Rattle.appended_results.specs.Levels.{key_at, IsMine, IsKept, LevelHolds, MayHold, PassesPlace, Between}
use Rattle.appended_results.specs.Codes.{AppendsFirst, AreKeys}
use Rattle.appended_results.specs.Rows.{HoldsHeads, all_positions, zeros_code, keep_code, HasHead, AppendsHead}
use Rattle.appended_results.proofs.HeadLaws.{key_last}
use Rattle.appended_results.proofs.PlaceLaws.{more_positions}
use Rattle.appended_results.proofs.LevelSteps.{holds_there, same_coords}

-- the variables that keep a head's first n coordinates
record IsKey (base n y : ℕ) : Type 0 where
  level : ℕ
  inside : level < n
  is : y ≡ key_at base level

-- the first n coordinates are kept
record Keeps (base n : ℕ) (key : List ℕ) (s t : State) : Type 0 where
  kept : (e : ℕ) → e < n → t.vars (key_at base e) ≡ Some (slice_index key e)
  leaves : (top : ℕ) → Leaves (IsKey base n) EveryArray top no_turns s t

module _ (c : Setting) (base : ℕ) (key keys : List ℕ) (s : State) (levels : ℕ)
    (now : (e : ℕ) → e < levels → s.vars (slice_index keys e) ≡ Some (slice_index key e))
    (apart : (e i : ℕ) → e < levels → i < levels → slice_index keys e ≢ key_at base i) where
  keeps : (n : ℕ) → n ≤ levels → Does c (keep_code base keys n) s (Keeps base n key s) Never
  keeps zero h =
      does_nothing c s _ _
      (record { kept = λ e l. absurd (omega (arith, l)); leaves = λ top. leaves_none (IsKey base 0) EveryArray top no_turns s })
  keeps (suc n) h =
      does_append c (keep_code base keys n) (Set (key_at base n) (Var (slice_index keys n)) ∷ []) s _ _ _ (keeps n (omega (arith, h)))
      (λ t k.
      let u = set_var t (key_at base n) (slice_index key n) in
      does_set c (key_at base n) (Var (slice_index keys n)) [] t (slice_index key n) _ _
      ((k.leaves (suc (slice_index keys n))).below (slice_index keys n) (omega arith)
      (λ is. apart n is.level (omega (arith, h)) (let l = is.inside in omega (arith, l, h)) is.is) ∙ now n (omega (arith, h)))
      (does_nothing c u _ _ (record {
        kept = λ e l. by_order t k e l (cases_lt e n);
        leaves = λ top. leaves_set (IsKey base (suc n)) EveryArray top no_turns s t (key_at base n) (slice_index key n)
            (λ y l e. record { level = n; inside = omega arith; is = sym e })
            (record {
              below = λ y l m. (k.leaves top).below y l (λ is. m
                  (record { level = is.level; inside = (let i = is.inside in omega (arith, i)); is = is.is }));
              arrays = (k.leaves top).arrays;
              turns = (k.leaves top).turns;
            });
      })))
    where
      by_order : (t : State) → Keeps base n key s t → (e : ℕ) → e < suc n → (e < n) ⊎ (n ≤ e)
          → (set_var t (key_at base n) (slice_index key n)).vars (key_at base e) ≡ Some (slice_index key e)
      by_order t k e l (inl less) =
          other_var t (key_at base n) (key_at base e) (slice_index key n) (λ same. omega (arith, same, less)) ∙ k.kept e less
      by_order t k e l (inr from) =
          let same : e ≡ n = omega (arith, l, from) in
          subst (λ m. (set_var t (key_at base n) (slice_index key n)).vars (key_at base m) ≡ Some (slice_index key m)) (sym same)
          (this_var t (key_at base n) (slice_index key n))

pub no_value : (a : Arr) (k : ℕ) → IsOf 0 k a → same_arr (Values 0) a ≡ false
no_value Range k h = absurd h
no_value (Values n) k h = absurd h
no_value (Dimension n j) k h = refl
no_value (Ends n j) k h = refl
no_value (Coordinates n j) k h = refl
no_value (Width n j) k h = refl
no_value (Key n j) k h = absurd h
no_value (Sums n) k h = absurd h
no_value (ListCoordinates n) k h = absurd h
no_value (ListPositions n) k h = absurd h

unfixed : (letters : List Letter) (d e : ℕ) → (properties (letter_at letters e)).full ≡ false → e < d → is_fixed letters d ≡ false
unfixed letters zero e sparse h = absurd (omega (arith, h))
unfixed letters (suc d) e sparse h = by_order (λ less. unfixed letters d e sparse less) (cases_lt e d)
  where
    and_false : (x : Bool) → (x && false) ≡ false
    and_false true = refl
    and_false false = refl

    by_order : (e < d → is_fixed letters d ≡ false) → (e < d) ⊎ (d ≤ e)
        → (is_fixed letters d && (properties (letter_at letters d)).full) ≡ false
    by_order above (inl less) = ap (λ x. x && (properties (letter_at letters d)).full) (above less)
    by_order above (inr from) =
        let same : e ≡ d = omega (arith, h, from) in
        ap (λ k. is_fixed letters d && (properties (letter_at letters k)).full) (sym same)
        ∙ ap (λ x. is_fixed letters d && x) sparse ∙ and_false (is_fixed letters d)

module _ (letters : List Letter) (head base free nothing : ℕ) (keys : List ℕ) (are : AreKeys (length letters) base free keys)
    (above : base + 4 * length letters ≤ free) (levels : List KStmt)
    (first : AppendsFirst letters head base free keys (length letters) levels)
    (c : Setting) (sizes : List ℕ) (heads : List (List ℕ)) (key : List ℕ) (may : MayHold letters sizes head (heads ++ key ∷ []))
    (s : State) (holds : HoldsHeads letters sizes head base heads s) (values : List ℕ) (held : s.arrays (Values 0) ≡ Some values)
    (many : length values ≡ all_positions letters sizes heads)
    (now : (e : ℕ) → e < head → s.vars (slice_index keys e) ≡ Some (slice_index key e)) where
  abbrev order : ℕ
  order = length letters

  abbrev total : ℕ
  total = free + 2 * length letters + 1

  some_level : 0 < length letters
  some_level = let w = may.is_head.within in let m = may.is_head.some in omega (arith, w, m)

  counted : length (heads ++ key ∷ []) ≡ suc (length heads)
  counted = let k = length_push heads key in omega (arith, k)

  upto : length values ≤ positions_above letters sizes (key_in (heads ++ key ∷ [])) (suc (length heads)) (length letters)
  upto =
      let more = more_positions letters sizes (key_in heads) (key_in (heads ++ key ∷ [])) (length heads)
      (same_coords letters head base free 0 some_level above sizes heads key) (length letters) in
      omega (arith, many, more)

  begun : Between letters sizes head base free heads key 0 s (set_var s (free + 2 * 0) 0)
  begun = record {
    above = λ e h. absurd (omega (arith, h));
    below = λ e from h.
        holds_there letters sizes heads base e s (set_var s (free + 2 * 0) 0)
        (λ y cursor. other_var s (free + 2 * 0) y 0 (λ same. let f = cursor.before in omega (arith, same, f, h, above)))
        (λ a of. refl) (holds.levels e h);
    place = λ _. this_var s (free + 2 * 0) 0;
    count = λ no. absurd (apart_is no);
    few = λ e h. few_none e (omega (arith, h));
    leaves = leaves_set (IsMine base (length letters)) IsKept free no_turns s s (free + 2 * 0) 0 (λ y h e. absurd (omega (arith, h, e)))
        (leaves_none (IsMine base (length letters)) IsKept free no_turns s);
    keys = λ e h. other_var s (free + 2 * 0) (key_at base e) 0 (λ same. omega (arith, same, h, above));
    values = refl;
  }
    where
      apart_is : true ≡ false → ⊥
      apart_is e = cc

      few_none : (e : ℕ) → e ≡ 0
          → positions_above letters sizes (key_in (heads ++ key ∷ [])) (suc (length heads)) e ≤ greatest_position_count
      few_none e none =
          subst (λ k. positions_above letters sizes (key_in (heads ++ key ∷ [])) (suc (length heads)) k ≤ greatest_position_count)
          (sym none)
          some_positions

  module _ (t : State) (b : Between letters sizes head base free heads key (length letters) s t) where
    not_fixed : is_fixed letters (length letters) ≡ false
    not_fixed =
        let m = may.is_head.some in let w = may.is_head.within in
        let last : suc (head - 1) ≡ head = omega (arith, m) in
        unfixed letters (length letters) (head - 1) (may.is_head.last (head - 1) last) (omega (arith, m, w))

    fits : positions_above letters sizes (key_in (heads ++ key ∷ [])) (suc (length heads)) (length letters) ≤ greatest_position_count
    fits = b.few (length letters) (omega arith)

    value_now : t.arrays (Values 0) ≡ Some values
    value_now = b.values ∙ held

    -- what is left once the values and the coordinates are there
    module _ (v : State) (k : Keeps base head key
        (set_array t (Values 0) (values ++ replicate (positions_above letters sizes (key_in (heads ++ key ∷ [])) (suc (length heads))
        (length letters) - length values) nothing)) v) where
      abbrev after : List ℕ
      after = values ++ replicate (positions_above letters sizes (key_in (heads ++ key ∷ [])) (suc (length heads)) (length letters)
          - length values) nothing

      level_now : (e : ℕ) → e < length letters → LevelHolds letters sizes (heads ++ key ∷ []) base e v
      level_now e h =
          holds_there letters sizes (heads ++ key ∷ []) base e t v
          (λ y cursor. (k.leaves (suc y)).below y (omega arith)
          (λ is. let f = cursor.from in let g = cursor.before in let e = is.is in omega (arith, f, g, e)))
          (λ a of. (k.leaves 0).arrays a tt ∙ other_array t (Values 0) a after (no_value a (suc e) of)) (b.above e h)

      all_same : positions_above letters sizes (key_in (heads ++ key ∷ [])) (suc (length heads)) (length letters)
          ≡ all_positions letters sizes (heads ++ key ∷ [])
      all_same = ap (λ m. positions_above letters sizes (key_in (heads ++ key ∷ [])) m (length letters)) (sym counted)

      has_head : HasHead letters sizes head base free nothing heads key values s v
      has_head = record {
        holds = record {
          levels = level_now;
          few = λ e h.
              subst (λ m. positions_above letters sizes (key_in (heads ++ key ∷ [])) m e ≤ greatest_position_count) (sym counted)
              (b.few e h);
          last = λ e j h is.
              let at : j ≡ length heads = omega (arith, is, counted) in
              k.kept e h ∙ ap Some (sym (key_last heads key e)) ∙ ap (λ i. Some (key_in (heads ++ key ∷ []) e i)) (sym at);
        };
        upto = omega (arith, upto, all_same);
        values_are = (k.leaves 0).arrays (Values 0) tt ∙ this_array t (Values 0) (Values 0) after (same_arr_self (Values 0))
            ∙ ap (λ m. Some (values ++ replicate (m - length values) nothing)) all_same;
        leaves = record {
          below = λ y h mine.
              (k.leaves free).below y h
              (λ is. mine (record {
                from = (let e = is.is in omega (arith, e));
                before = (let e = is.is in let l = is.inside in let w = may.is_head.within in omega (arith, e, l, w));
              })) ∙ b.leaves.below y h mine;
          arrays = λ a kept. (k.leaves 0).arrays a tt ∙ other_array t (Values 0) a after kept.no_values ∙ b.leaves.arrays a kept;
          turns = λ j. let x = (k.leaves 0).turns j in let y = b.leaves.turns j in omega (arith, x, y);
        };
      }

    apart_keys : (e i : ℕ) → e < head → i < head → slice_index keys e ≢ key_at base i
    apart_keys e i h g same =
        let w = may.is_head.within in
        (are.outside e (omega (arith, h, w))).other (record { from = omega (arith, same); before = omega (arith, same, g, w) })

    key_there : (e : ℕ) → e < head → t.vars (slice_index keys e) ≡ Some (slice_index key e)
    key_there e h =
        let w = may.is_head.within in
        let o = are.outside e (omega (arith, h, w)) in
        b.leaves.below (slice_index keys e) o.below (λ mine. o.other mine) ∙ now e h

    -- the values and the coordinates
    ends : Does c (zeros_code (free + 2 * length letters + 1) nothing ++ keep_code base keys head) t
        (HasHead letters sizes head base free nothing heads key values s)
        (RefusedWithin no_turns s (λ a count. (e : ℕ) × (e < length letters) × PassesPlace letters sizes (heads ++ key ∷ []) e a count))
    ends =
        let small = positions_are_small in
        does_extend c (Values 0) (Bin Sub (Var (free + 2 * length letters + 1)) (Len (Values 0))) (Num nothing) (keep_code base keys head) t
        (positions_above letters sizes (key_in (heads ++ key ∷ [])) (suc (length heads)) (length letters) - length values)
        nothing values _ _
        (difference_is (Var (free + 2 * length letters + 1)) (Len (Values 0))
        (positions_above letters sizes (key_in (heads ++ key ∷ [])) (suc (length heads)) (length letters)) (length values) t
        (b.count not_fixed) (ap length_of value_now) (omega (arith, fits, small)) upto) refl refl value_now
        (λ _. does_weaker c (keep_code base keys head) _ _ _ _ _
        (keeps c base key keys _ head key_there apart_keys head (omega arith)) (λ v k. has_head v k) (λ turns a count never. absurd never))
        (λ no. absurd (too_few no))
      where
        too_few : may_have (Values 0) (length values + (positions_above letters sizes (key_in (heads ++ key ∷ [])) (suc (length heads))
            (length letters) - length values)) ≡ false → ⊥
        too_few never_may =
            let all : length values + (positions_above letters sizes (key_in (heads ++ key ∷ [])) (suc (length heads)) (length letters)
            - length values) ≤ greatest_position_count = omega (arith, upto, fits) in
            let yes : nat_le (length values + (positions_above letters sizes (key_in (heads ++ key ∷ [])) (suc (length heads))
            (length letters)
            - length values)) greatest_position_count ≡ true = grind (arith, nat_tests) in
            differs (sym yes ∙ never_may)
          where
            differs : true ≡ false → ⊥
            differs e = cc

  whole : Does c (Set (free + 2 * 0) (Num 0) ∷ (levels ++ (zeros_code (free + 2 * length letters + 1) nothing ++ keep_code base keys head)))
      s
      (HasHead letters sizes head base free nothing heads key values s)
      (RefusedWithin no_turns s (λ a count. (e : ℕ) × (e < length letters) × PassesPlace letters sizes (heads ++ key ∷ []) e a count))
  whole =
      does_set c (free + 2 * 0) (Num 0) _ s 0 _ _ refl
      (does_append c levels (zeros_code (free + 2 * length letters + 1) nothing ++ keep_code base keys head) (set_var s (free + 2 * 0) 0)
      (Between letters sizes head base free heads key (length letters) s) _ _
      (first c sizes heads key may holds.few values (let f = holds.few (length letters) (omega arith) in omega (arith, many, f)) s
      (set_var s (free + 2 * 0) 0) held (record { now = now; last = holds.last }) begun)
      (λ t b. ends t b))

pub appends_head_whole : (letters : List Letter) (head base free nothing : ℕ) (keys : List ℕ) → AreKeys (length letters) base free keys
    → base + 4 * length letters ≤ free → (levels zeros keep code : List KStmt)
    → AppendsFirst letters head base free keys (length letters) levels
    → zeros ≡ zeros_code (free + 2 * length letters + 1) nothing → keep ≡ keep_code base keys head
    → code ≡ Set free (Num 0) ∷ (levels ++ (zeros ++ keep)) → AppendsHead letters head base free nothing keys code
appends_head_whole letters head base free nothing keys are above levels zeros keep code first zeroed kept is
    c sizes heads key may s holds values held many now =
    let at : free ≡ free + 2 * 0 = omega arith in
    subst (λ k. Does c k s (HasHead letters sizes head base free nothing heads key values s)
    (RefusedWithin no_turns s (λ a count. (e : ℕ) × (e < length letters) × PassesPlace letters sizes (heads ++ key ∷ []) e a count)))
    (sym (is ∙ ap (λ f. Set f (Num 0) ∷ (levels ++ (zeros ++ keep))) at
    ∙ ap (λ z. Set (free + 2 * 0) (Num 0) ∷ (levels ++ (z ++ keep))) zeroed
    ∙ ap (λ k. Set (free + 2 * 0) (Num 0) ∷ (levels ++ (zeros_code (free + 2 * length letters + 1) nothing ++ k))) kept))
    (whole letters head base free nothing keys are above levels first c sizes heads key may s holds values held many now)
