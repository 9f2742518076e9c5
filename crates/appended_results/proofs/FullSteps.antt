-- One head more at a full level of a result, which stores nothing.
use Rattle.std.specs.Prelude.{◌≡◌, ℕ, suc, ◌+◌, ◌*◌, ◌≤◌, ◌<◌, ◌&&◌, true, false, List, [], ◌∷◌, ◌++◌, length}
use Rattle.std.specs.Prelude.{slice_index, Some, refl}
use Rattle.std.proofs.Common.{◌∙◌, sym, ap, subst, arith, inr}
use Rattle.limits.specs.Limits.{greatest_position_count}
use Rattle.limits.proofs.Limits.{positions_are_small}
use Rattle.kernel_code.specs.Does.{Does}
use Rattle.kernel_code.proofs.Does.{does_weaker, does_nothing, does_append, does_set}
use Rattle.kernel_code.specs.Keeps.{Leaves, EveryArray, no_turns}
use Rattle.kernel_code.proofs.Keeps.{this_var, other_var, leaves_set, leaves_none}
use Rattle.kernel_code.proofs.Words.{sum_is, product_is, word_is}
use Rattle.kernel_code.specs.Meaning.{Setting, State, set_var}
use Rattle.kernel_code.specs.declared.syntax.Arr.TheVariants.{Values, Dimension}
use Rattle.kernel_code.specs.declared.syntax.Op.TheVariants.{Add, Mul}
use Rattle.kernel_code.specs.declared.syntax.KExpr.{KExpr, Num, Var, At, Bin}
use Rattle.kernel_code.specs.declared.syntax.KStmt.{KStmt}
use Rattle.level_core.specs.declared.letter.Letter.{Letter}
use Rattle.level_core.specs.Fragments.{IsOutside, RefusedWithin}
use Rattle.level_core.specs.Kinds.{properties}
use Rattle.level_appends.specs.Appended.{IsOfCursor}
use Rattle.level_appends.specs.Positions.{IsOne}
use Rattle.level_appends.proofs.Placed.{full_within}
use Rattle.appended_results.specs.Heads.{letter_at, key_in}
use Rattle.appended_results.specs.Places.{place_above, positions_above, is_fixed}
use Rattle.appended_results.specs.Levels.{cursor_at, LevelHolds, MayHold, PassesPlace, Between}
use Rattle.appended_results.specs.Codes.{place_full, AppendsLevel}
use Rattle.appended_results.specs.Parts.{Counts, AsCounted, Recounted}
use Rattle.appended_results.proofs.PlaceLaws.{fixed_positions, place_within}
use Rattle.appended_results.proofs.LevelSteps.{one_more, between_next, full_positions, full_place}

apart : {A : Type 0} → true ≡ false → A
apart e = absurd (never e)
  where
    never : true ≡ false → ⊥
    never e = cc

module _ (letters : List Letter) (head base free d : ℕ) (inside : d < length letters) (above : base + 4 * length letters ≤ free)
    (full : (properties (letter_at letters d)).full ≡ true) (count : List KStmt) (counts : Counts letters free d count)
    (c : Setting) (sizes : List ℕ) (heads : List (List ℕ)) (key : List ℕ) (may : MayHold letters sizes head (heads ++ key ∷ []))
    (old_few : (e : ℕ) → e ≤ length letters → positions_above letters sizes (key_in heads) (length heads) e ≤ greatest_position_count)
    (values : List ℕ) (few : length values ≤ greatest_position_count)
    (s0 s : State) (held : s0.arrays (Values 0) ≡ Some values) (b : Between letters sizes head base free heads key d s0 s) where
  abbrev n : ℕ
  n = length heads

  abbrev coords : ℕ → ℕ → ℕ
  coords = key_in (heads ++ key ∷ [])

  abbrev positions : ℕ
  positions = positions_above letters sizes (key_in (heads ++ key ∷ [])) (suc (length heads)) (suc d)

  abbrev total : ℕ
  total = free + 2 * suc d + 1

  many : length (heads ++ key ∷ []) ≡ suc (length heads)
  many = one_more letters head base free d inside above sizes heads key

  sized : s.arrays (Dimension 0 (suc d)) ≡ Some (slice_index sizes d ∷ [])
  sized = (b.below d (omega arith) inside).size full

  small : slice_index sizes d ≤ greatest_position_count
  small = may.small d 0 (let e = may.each in omega (arith, e, inside))

  product : positions ≡ positions_above letters sizes coords (suc n) d * slice_index sizes d
  product = full_positions letters sizes coords (suc n) d full

  -- how many positions there are
  does_count : Does c count s
      (λ t. Leaves (IsOne total) EveryArray (suc total) no_turns s t
      × (is_fixed letters (suc d) ≡ false → t.vars total ≡ Some positions) × (positions ≤ greatest_position_count))
      (RefusedWithin no_turns s0 (PassesPlace letters sizes (heads ++ key ∷ []) d))
  does_count = by_fixed counts
    where
      by_fixed : Counts letters free d count → Does c count s
          (λ t. Leaves (IsOne total) EveryArray (suc total) no_turns s t
          × (is_fixed letters (suc d) ≡ false → t.vars total ≡ Some positions) × (positions ≤ greatest_position_count))
          (RefusedWithin no_turns s0 (PassesPlace letters sizes (heads ++ key ∷ []) d))
      by_fixed (AsCounted fixed none) =
          let fixed_on : is_fixed letters (suc d) ≡ true = ap (λ f. f && (properties (letter_at letters d)).full) fixed ∙ full in
          let same = fixed_positions letters sizes (key_in heads) coords n (suc n) (suc d) fixed_on in
          let old = old_few (suc d) (omega (arith, inside)) in
          subst (λ k. Does c k s
          (λ t. Leaves (IsOne total) EveryArray (suc total) no_turns s t
          × (is_fixed letters (suc d) ≡ false → t.vars total ≡ Some positions) × (positions ≤ greatest_position_count))
          (RefusedWithin no_turns s0 (PassesPlace letters sizes (heads ++ key ∷ []) d))) (sym none)
          (does_nothing c s _ _ (
            leaves_none (IsOne total) EveryArray (suc total) no_turns s,
            (λ no. apart (sym fixed_on ∙ no)),
            omega (arith, same, old),
          ))
      by_fixed (Recounted unfixed code) =
          does_weaker c count s _ _ _ _
          (code c (slice_index sizes d) (positions_above letters sizes coords (suc n) d) (suc total) values small few s sized
          (b.values ∙ held) (b.count unfixed))
          (λ t k. (k.0, (λ _. k.1 ∙ ap Some (sym product)), (let p = product in let f = k.2 in omega (arith, p, f))))
          (λ turns a m z. (
            (λ j. let x = z.0 j in let w = b.leaves.turns j in omega (arith, x, w)),
            record {
              array = inr z.1.array;
              above = z.1.above;
              within =
                  (let w = z.1.within in
                  let p = product in
                  let more = ap (λ k. positions_above letters sizes coords k (suc d)) many in
                  omega (arith, w, p, more));
            },
          ))

  leaves_more : (t : State) → Leaves (IsOne total) EveryArray (suc total) no_turns s t
      → Leaves (IsOfCursor (cursor_at base d)) (IsOutside 0 (suc d)) free no_turns s t
  leaves_more t l = record {
    below = λ y h m. l.below y (omega (arith, h)) (λ e. omega (arith, e, h));
    arrays = λ a o. l.arrays a tt;
    turns = l.turns;
  }

  holds_now : (t : State) → Leaves (IsOne total) EveryArray (suc total) no_turns s t → LevelHolds letters sizes (heads ++ key ∷ []) base d t
  holds_now t l = record { size = λ _. l.arrays (Dimension 0 (suc d)) tt ∙ sized; appended = λ no. apart (sym full ∙ no) }

  -- below the head no position is told
  counts_tail : head ≤ d → Does c count s (Between letters sizes head base free heads key (suc d) s0)
      (RefusedWithin no_turns s0 (PassesPlace letters sizes (heads ++ key ∷ []) d))
  counts_tail from =
      does_weaker c count s _ _ _ _ does_count
      (λ t k. between_next letters head base free d inside above sizes heads key s0 s t b (leaves_more t k.0) (holds_now t k.0)
      (λ no. absurd (omega (arith, from, no))) k.1 k.2)
      (λ turns a m z. z)

  module _ (headed : d < head) (coord : ℕ) (coord_below : coord < free)
      (coord_is : s.vars coord ≡ Some (key_in (heads ++ key ∷ []) d (length heads))) where
    abbrev parent : ℕ
    parent = place_above letters sizes (key_in (heads ++ key ∷ [])) d (length heads)

    abbrev size : ℕ
    size = slice_index sizes d

    abbrev x : ℕ
    x = key_in (heads ++ key ∷ []) d (length heads)

    stands : parent * size + x < positions
    stands =
        let w = place_within letters sizes coords (length (heads ++ key ∷ [])) head may.chained may.is_head.within may.rise may.below d n
        (omega (arith, headed)) (omega (arith, many)) in
        let below = may.below d n headed (omega (arith, many)) in
        let more = ap (λ k. positions_above letters sizes coords k d) many in
        let all = full_within size parent (positions_above letters sizes coords (suc n) d) x below (omega (arith, w, more)) in
        let p = product in
        omega (arith, all, p)

    places : (t : State) → Leaves (IsOne total) EveryArray (suc total) no_turns s t
        → (is_fixed letters (suc d) ≡ false → t.vars total ≡ Some positions) → positions ≤ greatest_position_count
        → Does c (place_full free d coord) t (Between letters sizes head base free heads key (suc d) s0)
        (RefusedWithin no_turns s0 (PassesPlace letters sizes (heads ++ key ∷ []) d))
    places t l told within =
        let y = free + 2 * suc d in
        let st = stands in
        let low = positions_are_small in
        let place_now = l.below (free + 2 * d) (omega arith) (λ e. omega (arith, e)) ∙ b.place (omega (arith, headed)) in
        let coord_now = l.below coord (omega (arith, coord_below)) (λ e. omega (arith, e, coord_below)) ∙ coord_is in
        let begin = product_is (Var (free + 2 * d)) (At (Dimension 0 (suc d)) (Num 0)) parent size t place_now
        (word_is (Dimension 0 (suc d)) (Num 0) (size ∷ []) 0 size t (l.arrays (Dimension 0 (suc d)) tt ∙ sized) refl refl)
        (omega (arith, st, within, low)) in
        let u = set_var t y (parent * size + x) in
        does_set c y (Bin Add (Bin Mul (Var (free + 2 * d)) (At (Dimension 0 (suc d)) (Num 0))) (Var coord)) [] t (parent * size + x) _ _
        (sum_is (Bin Mul (Var (free + 2 * d)) (At (Dimension 0 (suc d)) (Num 0))) (Var coord) (parent * size) x t begin coord_now
        (omega (arith, st, within, low)))
        (does_nothing c u _ _
        (between_next letters head base free d inside above sizes heads key s0 s u b
        (leaves_set (IsOfCursor (cursor_at base d)) (IsOutside 0 (suc d)) free no_turns s t y (parent * size + x)
        (λ v h e. absurd (omega (arith, h, e))) (leaves_more t l))
        (record {
          size = λ _. l.arrays (Dimension 0 (suc d)) tt ∙ sized;
          appended = λ no. apart (sym full ∙ no);
        })
        (λ _. this_var t y (parent * size + x) ∙ ap Some (sym (full_place letters sizes coords d n full)))
        (λ unfixed. other_var t y total (parent * size + x) (λ e. omega (arith, e)) ∙ told unfixed)
        within))

    places_head : Does c (count ++ place_full free d coord) s (Between letters sizes head base free heads key (suc d) s0)
        (RefusedWithin no_turns s0 (PassesPlace letters sizes (heads ++ key ∷ []) d))
    places_head = does_append c count (place_full free d coord) s _ _ _ does_count (λ t k. places t k.0 k.1 k.2)

-- at a level of the head
pub places_at_level : (letters : List Letter) (head base free d : ℕ) → d < head → d < length letters → base + 4 * length letters ≤ free
    → (test : KExpr) (coord : ℕ) → coord < free → (properties (letter_at letters d)).full ≡ true → (count code : List KStmt)
    → Counts letters free d count → code ≡ count ++ place_full free d coord → AppendsLevel letters head base free d test coord code
places_at_level letters head base free d headed inside above test coord low full count code counts is
    c sizes heads key may old_few values few s0 s held b tested coord_is =
    subst (λ k. Does c k s (Between letters sizes head base free heads key (suc d) s0)
    (RefusedWithin no_turns s0 (PassesPlace letters sizes (heads ++ key ∷ []) d))) (sym is)
    (places_head letters head base free d inside above full count counts c sizes heads key may old_few values few s0 s held b
    headed coord low
    (coord_is headed))

-- and at one below it
pub counts_at_level : (letters : List Letter) (head base free d : ℕ) → head ≤ d → d < length letters → base + 4 * length letters ≤ free
    → (test : KExpr) (coord : ℕ) → (properties (letter_at letters d)).full ≡ true → (code : List KStmt)
    → Counts letters free d code → AppendsLevel letters head base free d test coord code
counts_at_level letters head base free d from inside above test coord full code counts
    c sizes heads key may old_few values few s0 s held b tested coord_is =
    counts_tail letters head base free d inside above full code counts c sizes heads key may old_few values few s0 s held b from
