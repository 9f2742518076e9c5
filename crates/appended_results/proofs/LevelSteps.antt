-- One head more at one level of a result.
use Rattle.std.specs.Prelude.{◌≡◌, ◌≢◌, ◌⊎◌, ℕ, suc, ◌+◌, ◌-◌, ◌*◌, ◌≤◌, ◌<◌, Bool, true, false, if◌then◌else◌, List, [], ◌∷◌}
use Rattle.std.specs.Prelude.{◌++◌}
use Rattle.std.specs.Prelude.{length, slice_index, Some, refl}
use Rattle.std.proofs.Common.{◌∙◌, sym, ap, subst, arith, inl, inr}
use Rattle.std.proofs.lemmas.Bool.{cases_lt}
use Rattle.std.proofs.lemmas.List.{length_push}
use Rattle.limits.specs.Limits.{greatest_position_count}
use Rattle.limits.proofs.Limits.{positions_are_small}
use Rattle.kernel_code.specs.Does.{Does, Never}
use Rattle.kernel_code.proofs.Does.{does_weaker, does_nothing, does_append, does_set, does_if_yes, does_if_no}
use Rattle.kernel_code.specs.Keeps.{Leaves, NoVariable, Mentions, no_turns}
use Rattle.kernel_code.proofs.Keeps.{this_var, other_var, leaves_set, leaves_none, value_kept}
use Rattle.kernel_code.proofs.Words.{difference_is}
use Rattle.kernel_code.specs.Meaning.{Setting, State, value, word_of, set_var}
use Rattle.kernel_code.specs.declared.syntax.Arr.{Arr}
use Rattle.kernel_code.specs.declared.syntax.Arr.TheVariants.{Range, Values, Dimension, Ends, Coordinates, Width, Key, Sums}
use Rattle.kernel_code.specs.declared.syntax.Arr.TheVariants.{ListCoordinates, ListPositions}
use Rattle.kernel_code.specs.declared.syntax.Op.TheVariants.{Sub}
use Rattle.kernel_code.specs.declared.syntax.KExpr.{KExpr, Num, Var, Bin}
use Rattle.kernel_code.specs.declared.syntax.KStmt.{KStmt, If}
use Rattle.level_core.specs.declared.letter.Letter.{Letter}
use Rattle.level_core.specs.Fragments.{IsOf, IsOutside, RefusedWithin, PassesLimit}
use Rattle.level_core.specs.Kinds.{properties, capabilities}
use Rattle.level_rows.specs.Rows.{Rows, begun, place, MayAppendRows}
use Rattle.level_rows.proofs.RowLaws.{begun_no, begun_some}
use Rattle.tensor_storage.specs.Laws.{laws}
use Rattle.tensor_storage.specs.Levels.{meaning}
use Rattle.level_appends.specs.Appended.{IsOfCursor, LevelAt}
use Rattle.level_appends.specs.Codes.{AppendsRow}
use Rattle.level_appends.proofs.Keeping.{level_there, level_along, level_again}
use Rattle.appended_results.specs.Heads.{letter_at, key_in}
use Rattle.appended_results.specs.Places.{first_at, place_above, positions_above, rows_above, is_fixed}
use Rattle.appended_results.specs.Levels.{cursor_at, key_at, LevelHolds, MayHold, PassesPlace, Between}
use Rattle.appended_results.specs.Codes.{place_appended, AppendsLevel}
use Rattle.appended_results.specs.Parts.{Reserves, AsBefore, Anew}
pub use Rattle.appended_results.specs.SinkLaws.{holds_there}
use Rattle.appended_results.proofs.HeadLaws.{key_before}
use Rattle.level_appends.proofs.Logs.{begun_along}
use Rattle.appended_results.proofs.PlaceLaws.{SameCoords, first_along, rows_along, more_positions, fixed_positions, may_append_at}

apart : {A : Type 0} → true ≡ false → A
apart e = absurd (never e)
  where
    never : true ≡ false → ⊥
    never e = cc

-- an array is one of one level alone
pub of_one : (a : Arr) (j k : ℕ) → IsOf 0 j a → IsOf 0 k a → j ≡ k
of_one Range j k h g = absurd h
of_one (Values n) j k h g = absurd h
of_one (Dimension n i) j k h g = sym h.1 ∙ g.1
of_one (Ends n i) j k h g = sym h.1 ∙ g.1
of_one (Coordinates n i) j k h g = sym h.1 ∙ g.1
of_one (Width n i) j k h g = sym h.1 ∙ g.1
of_one (Key n i) j k h g = absurd h
of_one (Sums n) j k h g = absurd h
of_one (ListCoordinates n) j k h g = absurd h
of_one (ListPositions n) j k h g = absurd h

module _ (letters : List Letter) (head base free d : ℕ) (inside : d < length letters) (above : base + 4 * length letters ≤ free)
    (sizes : List ℕ) (heads : List (List ℕ)) (key : List ℕ) where
  abbrev then : List (List ℕ)
  then = heads ++ key ∷ []

  abbrev coords : ℕ → ℕ → ℕ
  coords = key_in (heads ++ key ∷ [])

  pub same_coords : SameCoords (length heads) (key_in heads) (key_in (heads ++ key ∷ []))
  same_coords e i h = key_before heads key e i h

  pub one_more : length (heads ++ key ∷ []) ≡ suc (length heads)
  one_more = let k = length_push heads key in omega (arith, k)

  -- another level's variables aren't this one's
  other_cursor : (e y : ℕ) → e ≢ d → IsOfCursor (cursor_at base e) y → IsOfCursor (cursor_at base d) y → ⊥
  other_cursor e y away a b =
      let from = a.from in let before = a.before in let from_d = b.from in let before_d = b.before in
      omega (arith, away, from, before, from_d, before_d)

  -- one level more has the head
  pub between_next : (s0 s t : State) → Between letters sizes head base free heads key d s0 s
      → Leaves (IsOfCursor (cursor_at base d)) (IsOutside 0 (suc d)) free no_turns s t
      → LevelHolds letters sizes (heads ++ key ∷ []) base d t
      → (suc d ≤ head → t.vars (free + 2 * suc d) ≡ Some (place_above letters sizes coords (suc d) (length heads)))
      → (is_fixed letters (suc d) ≡ false
      → t.vars (free + 2 * suc d + 1) ≡ Some (positions_above letters sizes coords (suc (length heads)) (suc d)))
      → positions_above letters sizes coords (suc (length heads)) (suc d) ≤ greatest_position_count
      → Between letters sizes head base free heads key (suc d) s0 t
  between_next s0 s t b l now place count few = record {
    above = λ e h. by_order e h (cases_lt e d);
    below = λ e from h.
        holds_there letters sizes heads base e s t (kept_vars e (λ same. omega (arith, same, from)) h)
        (λ a of. l.arrays a (λ also. let k = of_one a (suc e) (suc d) of also in omega (arith, k, from)))
        (b.below e (omega (arith, from)) h);
    place = place;
    count = count;
    few = λ e h. few_by e h (cases_lt e (suc d));
    leaves = record {
      below = λ y h mine. l.below y h (λ cursor. mine (record {
        from = (let f = cursor.from in omega (arith, f));
        before = (let f = cursor.before in omega (arith, f, inside));
      })) ∙ b.leaves.below y h mine;
      arrays = λ a kept. l.arrays a (kept.outside (suc d)) ∙ b.leaves.arrays a kept;
      turns = λ k. let x = l.turns k in let y = b.leaves.turns k in omega (arith, x, y);
    };
    keys = λ e h.
        l.below (key_at base e) (omega (arith, h, above))
        (λ cursor. let f = cursor.from in let g = cursor.before in omega (arith, f, g)) ∙ b.keys e h;
    values = l.arrays (Values 0) (λ of. of) ∙ b.values;
  }
    where
      kept_vars : (e : ℕ) → e ≢ d → e < length letters → (y : ℕ) → IsOfCursor (cursor_at base e) y → t.vars y ≡ s.vars y
      kept_vars e away h y cursor =
          l.below y (let f = cursor.before in omega (arith, f, h, above)) (λ own. other_cursor e y away cursor own)

      few_by : (e : ℕ) → e ≤ suc d → (e < suc d) ⊎ (suc d ≤ e)
          → positions_above letters sizes (key_in (heads ++ key ∷ [])) (suc (length heads)) e ≤ greatest_position_count
      few_by e h (inl less) = b.few e (omega (arith, less))
      few_by e h (inr from) =
          let same : e ≡ suc d = omega (arith, h, from) in
          subst (λ k. positions_above letters sizes (key_in (heads ++ key ∷ [])) (suc (length heads)) k ≤ greatest_position_count)
          (sym same)
          few

      by_order : (e : ℕ) → e < suc d → (e < d) ⊎ (d ≤ e) → LevelHolds letters sizes (heads ++ key ∷ []) base e t
      by_order e h (inl less) =
          holds_there letters sizes (heads ++ key ∷ []) base e s t
          (kept_vars e (λ same. omega (arith, same, less)) (omega (arith, less, inside)))
          (λ a of. l.arrays a (λ also. let k = of_one a (suc e) (suc d) of also in omega (arith, k, less)))
          (b.above e less)
      by_order e h (inr from) =
          let same : e ≡ d = omega (arith, h, from) in
          subst (λ k. LevelHolds letters sizes (heads ++ key ∷ []) base k t) (sym same) now

pub sparse_positions : (letters : List Letter) (sizes : List ℕ) (coords : ℕ → ℕ → ℕ) (count d : ℕ)
    → (properties (letter_at letters d)).full ≡ false
    → positions_above letters sizes coords count (suc d) ≡ begun (first_at letters coords d) count
sparse_positions letters sizes coords count d is =
    ap (λ b. if b then positions_above letters sizes coords count d * slice_index sizes d else begun (first_at letters coords d) count) is

pub sparse_place : (letters : List Letter) (sizes : List ℕ) (coords : ℕ → ℕ → ℕ) (d i : ℕ) → (properties (letter_at letters d)).full ≡ false
    → place_above letters sizes coords (suc d) i ≡ place (first_at letters coords d) i
sparse_place letters sizes coords d i is =
    ap (λ b. if b then place_above letters sizes coords d i * slice_index sizes d + coords d i else place (first_at letters coords d) i) is

pub full_positions : (letters : List Letter) (sizes : List ℕ) (coords : ℕ → ℕ → ℕ) (count d : ℕ)
    → (properties (letter_at letters d)).full ≡ true
    → positions_above letters sizes coords count (suc d) ≡ positions_above letters sizes coords count d * slice_index sizes d
full_positions letters sizes coords count d is =
    ap (λ b. if b then positions_above letters sizes coords count d * slice_index sizes d else begun (first_at letters coords d) count) is

pub full_place : (letters : List Letter) (sizes : List ℕ) (coords : ℕ → ℕ → ℕ) (d i : ℕ) → (properties (letter_at letters d)).full ≡ true
    → place_above letters sizes coords (suc d) i ≡ place_above letters sizes coords d i * slice_index sizes d + coords d i
full_place letters sizes coords d i is =
    ap (λ b. if b then place_above letters sizes coords d i * slice_index sizes d + coords d i else place (first_at letters coords d) i) is

module _ (letters : List Letter) (head base free d inner : ℕ) (headed : d < head) (above : base + 4 * length letters ≤ free)
    (room : free + 2 * length letters + 2 ≤ inner) (test : KExpr) (coord : ℕ) (coord_below : coord < inner)
    (mentions : Mentions (λ y. y < inner) (λ a. ⊥) test)
    (sparse : (properties (letter_at letters d)).full ≡ false) (reserve append : List KStmt)
    (reserves : Reserves letters base free d inner reserve)
    (appends : AppendsRow meaning (letter_at letters d) (suc d) (cursor_at base d) (free + 2 * d) coord inner append)
    (c : Setting) (sizes : List ℕ) (heads : List (List ℕ)) (key : List ℕ) (may : MayHold letters sizes head (heads ++ key ∷ []))
    (old_few : (e : ℕ) → e ≤ length letters → positions_above letters sizes (key_in heads) (length heads) e ≤ greatest_position_count)
    (s0 s : State) (b : Between letters sizes head base free heads key d s0 s)
    (tested : value test s ≡ Some (word_of (first_at letters (key_in (heads ++ key ∷ [])) d (length heads))))
    (coord_is : s.vars coord ≡ Some (key_in (heads ++ key ∷ []) d (length heads))) where
  abbrev n : ℕ
  n = length heads

  abbrev new_coords : ℕ → ℕ → ℕ
  new_coords = key_in (heads ++ key ∷ [])

  abbrev rows : Rows
  rows = rows_above letters sizes (key_in (heads ++ key ∷ [])) (suc (length heads)) d

  abbrev parents : ℕ
  parents = positions_above letters sizes (key_in (heads ++ key ∷ [])) (suc (length heads)) d

  abbrev letter : Letter
  letter = letter_at letters d

  abbrev size : ℕ
  size = slice_index sizes d

  inside : d < length letters
  inside = let w = may.is_head.within in omega (arith, headed, w)

  able : (capabilities (letter_at letters d)).append ≡ true
  able = may.appended d inside sparse

  many : length (heads ++ key ∷ []) ≡ suc (length heads)
  many = one_more letters head base free d inside above sizes heads key

  same : SameCoords (length heads) (key_in heads) (key_in (heads ++ key ∷ []))
  same = same_coords letters head base free d inside above sizes heads key

  may_rows : MayAppendRows letter size parents rows
  may_rows =
      subst (λ m. MayAppendRows letter size (positions_above letters sizes new_coords m d) (rows_above letters sizes new_coords m d)) many
      (may_append_at letters sizes new_coords (length (heads ++ key ∷ [])) head may.chained may.is_head.within may.rise may.below d headed)

  level_before : LevelAt meaning letter size (suc d) (cursor_at base d) (positions_above letters sizes (key_in heads) n d) n rows s
  level_before =
      level_along meaning laws letter size (suc d) (cursor_at base d) (positions_above letters sizes (key_in heads) n d) n
      (rows_above letters sizes (key_in heads) n d) rows s (rows_along letters sizes (key_in heads) new_coords n same (suc n) d)
      ((b.below d (omega arith) inside).appended sparse)

  does_reserve : Does c reserve s
      (λ t. Leaves NoVariable (IsOutside 0 (suc d)) inner no_turns s t
      × LevelAt meaning letter size (suc d) (cursor_at base d) parents n rows t) Never
  does_reserve = by_fixed reserves
    where
      by_fixed : Reserves letters base free d inner reserve → Does c reserve s
          (λ t. Leaves NoVariable (IsOutside 0 (suc d)) inner no_turns s t
          × LevelAt meaning letter size (suc d) (cursor_at base d) parents n rows t) Never
      by_fixed (AsBefore fixed none) =
          subst (λ k. Does c k s
          (λ t. Leaves NoVariable (IsOutside 0 (suc d)) inner no_turns s t
          × LevelAt meaning letter size (suc d) (cursor_at base d) parents n rows t) Never) (sym none)
          (does_nothing c s _ _ (
            leaves_none NoVariable (IsOutside 0 (suc d)) inner no_turns s,
            subst (λ p. LevelAt meaning letter size (suc d) (cursor_at base d) p n rows s)
                (fixed_positions letters sizes (key_in heads) new_coords n (suc n) d fixed) level_before,
          ))
      by_fixed (Anew free_count code) =
          code able c size (positions_above letters sizes (key_in heads) n d) parents n rows
          (more_positions letters sizes (key_in heads) new_coords n same d) (b.few d (omega arith)) s level_before (b.count free_count)

  -- the row has its position
  added_again : (t : State) → first_at letters new_coords d n ≡ false
      → LevelAt meaning letter size (suc d) (cursor_at base d) parents n rows t
      → LevelAt meaning letter size (suc d) (cursor_at base d) parents (suc n) rows t
      × (begun (first_at letters new_coords d) (suc n) ≤ greatest_position_count)
  added_again t is at =
      let old = old_few (suc d) (omega (arith, inside)) in
      let there = sparse_positions letters sizes (key_in heads) n d sparse in
      let along = more_positions letters sizes (key_in heads) new_coords n same d in
      let equal = begun_same in
      let none = begun_no rows n is in (
        level_again meaning laws letter size (suc d) (cursor_at base d) parents n rows t may_rows (omega arith) is at,
        omega (arith, old, there, equal, none),
      )
    where
      begun_same : begun (first_at letters (key_in (heads ++ key ∷ [])) d) (length heads)
          ≡ begun (first_at letters (key_in heads) d) (length heads)
      begun_same = begun_along (length heads) (first_at letters (key_in heads) d) (first_at letters (key_in (heads ++ key ∷ [])) d)
          (first_along letters sizes (key_in heads) (key_in (heads ++ key ∷ [])) (length heads) same d)

  refused : (t : State) (turns : _) (a : Arr) (count : ℕ) → Leaves NoVariable (IsOutside 0 (suc d)) inner no_turns s t
      → RefusedWithin no_turns t (PassesLimit 0 (suc d) (begun (first_at letters new_coords d) (suc n))) turns a count
      → RefusedWithin no_turns s0 (PassesPlace letters sizes (heads ++ key ∷ []) d) turns a count
  refused t turns a count l z = (
    (λ k. let x = z.0 k in let y = l.turns k in let w = b.leaves.turns k in omega (arith, x, y, w)),
    record {
      array = inl z.1.array;
      above = (let t = z.1.told in let p = z.1.above in omega (arith, t, p));
      within =
          (let t = z.1.told in
          let there = sparse_positions letters sizes new_coords (length (heads ++ key ∷ [])) d sparse in
          let more = ap (begun (first_at letters new_coords d)) many in
          omega (arith, t, there, more));
    },
  )

  -- the test, and the row where it begins a position
  does_row : (rest : List KStmt) (t : State) (Q : State → Type 0) → Leaves NoVariable (IsOutside 0 (suc d)) inner no_turns s t
      → LevelAt meaning letter size (suc d) (cursor_at base d) parents n rows t
      → ((u : State) → Leaves (IsOfCursor (cursor_at base d)) (IsOutside 0 (suc d)) inner no_turns s u
      → LevelAt meaning letter size (suc d) (cursor_at base d) parents (suc n) rows u
      → begun (first_at letters new_coords d) (suc n) ≤ greatest_position_count
      → Does c rest u Q (RefusedWithin no_turns s0 (PassesPlace letters sizes (heads ++ key ∷ []) d)))
      → Does c (If test append [] ∷ rest) t Q (RefusedWithin no_turns s0 (PassesPlace letters sizes (heads ++ key ∷ []) d))
  does_row rest t Q l at next = by_first (first_at letters new_coords d n) refl
    where
      test_now : value test t ≡ Some (word_of (first_at letters new_coords d n))
      test_now = value_kept (λ y. y < inner) (λ a. ⊥) test s t mentions (λ y h. l.below y h (λ m. m)) (λ a h. absurd h) ∙ tested

      by_first : (f : Bool) → first_at letters new_coords d n ≡ f
          → Does c (If test append [] ∷ rest) t Q (RefusedWithin no_turns s0 (PassesPlace letters sizes (heads ++ key ∷ []) d))
      by_first false is =
          does_if_no c test append [] rest t (λ u. u ≡ t) Q _ (test_now ∙ ap (λ f. Some (word_of f)) is) (does_nothing c t _ _ refl)
          (λ u e.
          subst (λ v. Does c rest v Q (RefusedWithin no_turns s0 (PassesPlace letters sizes (heads ++ key ∷ []) d))) (sym e)
          (let k = added_again t is at in
          next t (record { below = λ y h m. l.below y h (λ never. never); arrays = l.arrays; turns = l.turns }) k.0 k.1))
      by_first true is =
          does_if_yes c test append [] rest t 0
          (λ u. Leaves (IsOfCursor (cursor_at base d)) (IsOutside 0 (suc d)) inner no_turns t u
          × LevelAt meaning letter size (suc d) (cursor_at base d) parents (suc n) rows u
          × (begun (first_at letters new_coords d) (suc n) ≤ greatest_position_count)) Q _ (test_now ∙ ap (λ f. Some (word_of f)) is)
          (does_weaker c append t _ _ _ _
          (appends able c size parents n rows may_rows (omega arith) is t at
          (l.below (free + 2 * d) (omega (arith, inside, room)) (λ m. m) ∙ b.place (omega (arith, headed)))
          (l.below coord coord_below (λ m. m) ∙ coord_is)) (λ u k. k)
          (λ turns a count z. refused t turns a count l z))
          (λ u k. next u (record {
            below = λ y h m. k.0.below y h m ∙ l.below y h (λ never. never);
            arrays = λ a o. k.0.arrays a o ∙ l.arrays a o;
            turns = λ j. let x = k.0.turns j in let y = l.turns j in omega (arith, x, y);
          }) k.1 k.2)

  -- where the row stands
  places_it : (u : State) → Leaves (IsOfCursor (cursor_at base d)) (IsOutside 0 (suc d)) inner no_turns s u
      → LevelAt meaning letter size (suc d) (cursor_at base d) parents (suc n) rows u
      → begun (first_at letters new_coords d) (suc n) ≤ greatest_position_count
      → Does c (place_appended base free d) u (Between letters sizes head base free heads key (suc d) s0)
      (RefusedWithin no_turns s0 (PassesPlace letters sizes (heads ++ key ∷ []) d))
  places_it u l at few =
      let x = free + 2 * suc d in
      let count = begun (first_at letters new_coords d) (suc n) in
      let u1 = set_var u x (count - 1) in
      let u2 = set_var u1 (x + 1) count in
      let some = begun_some rows (suc n) (may_rows.order.begins (omega arith)) (omega arith) in
      let small = positions_are_small in
      let counted : u.vars (cursor_at base d + 2) ≡ Some count = at.count_is ∙ ap Some at.progress.appended.many in
      let cursor_low : cursor_at base d + 2 < free = omega (arith, inside, above) in
      does_set c x (Bin Sub (Var (cursor_at base d + 2)) (Num 1)) _ u (count - 1) _ _
      (difference_is (Var (cursor_at base d + 2)) (Num 1) count 1 u counted refl (omega (arith, few, small)) (omega (arith, some)))
      (does_set c (x + 1) (Var (cursor_at base d + 2)) [] u1 count _ _
      (other_var u x (cursor_at base d + 2) (count - 1) (λ e. omega (arith, e, cursor_low)) ∙ counted)
      (does_nothing c u2 _ _
      (between_next letters head base free d inside above sizes heads key s0 s u2 b
      (leaves_set (IsOfCursor (cursor_at base d)) (IsOutside 0 (suc d)) free no_turns s u1 (x + 1) count
      (λ y h e. absurd (omega (arith, h, e)))
      (leaves_set (IsOfCursor (cursor_at base d)) (IsOutside 0 (suc d)) free no_turns s u x (count - 1)
      (λ y h e. absurd (omega (arith, h, e)))
      (record { below = λ y h m. l.below y (omega (arith, h, room)) m; arrays = l.arrays; turns = l.turns })))
      (record {
        size = λ full. apart (sym full ∙ sparse);
        appended = λ _.
            subst (λ m. LevelAt meaning letter size (suc d) (cursor_at base d) (positions_above letters sizes new_coords m d) m
            (rows_above letters sizes new_coords m d) u2) (sym many)
            (level_there meaning laws letter size (suc d) (cursor_at base d) parents (suc n) rows u u2
            (λ y cursor.
            let f = cursor.before in
            other_var u1 (x + 1) y count (λ e. omega (arith, e, f, cursor_low))
            ∙ other_var u x y (count - 1) (λ e. omega (arith, e, f, cursor_low)))
            (λ a of. refl) at);
      })
      (λ _. other_var u1 (x + 1) x count (λ e. omega (arith, e)) ∙ this_var u x (count - 1)
      ∙ ap Some (sym (sparse_place letters sizes new_coords d n sparse)))
      (λ _. this_var u1 (x + 1) count ∙ ap Some (sym (sparse_positions letters sizes new_coords (suc n) d sparse)))
      (let there = sparse_positions letters sizes new_coords (suc n) d sparse in omega (arith, there, few)))))

  appends_head : Does c (reserve ++ (If test append [] ∷ place_appended base free d)) s
      (Between letters sizes head base free heads key (suc d) s0)
      (RefusedWithin no_turns s0 (PassesPlace letters sizes (heads ++ key ∷ []) d))
  appends_head =
      does_append c reserve (If test append [] ∷ place_appended base free d) s _ _ _
      (does_weaker c reserve s _ _ _ _ does_reserve (λ t k. k) (λ turns a count never. absurd never))
      (λ t k. does_row (place_appended base free d) t (Between letters sizes head base free heads key (suc d) s0) k.0 k.1
      (λ u l at few. places_it u l at few))

pub appends_to_level : (letters : List Letter) (head base free d inner : ℕ) → d < head → base + 4 * length letters ≤ free
    → free + 2 * length letters + 2 ≤ inner → (test : KExpr) (coord : ℕ) → coord < inner → Mentions (λ y. y < inner) (λ a. ⊥) test
    → (properties (letter_at letters d)).full ≡ false → (reserve append code : List KStmt) → Reserves letters base free d inner reserve
    → AppendsRow meaning (letter_at letters d) (suc d) (cursor_at base d) (free + 2 * d) coord inner append
    → code ≡ reserve ++ (If test append [] ∷ place_appended base free d)
    → AppendsLevel letters head base free d test coord code
appends_to_level letters head base free d inner headed above room test coord low mentions sparse reserve append code reserves appends is
    c sizes heads key may old_few values few s0 s held b tested coord_is =
    subst (λ k. Does c k s (Between letters sizes head base free heads key (suc d) s0)
    (RefusedWithin no_turns s0 (PassesPlace letters sizes (heads ++ key ∷ []) d))) (sym is)
    (appends_head letters head base free d inner headed above room test coord low mentions sparse reserve append reserves appends c sizes
    heads key may old_few s0 s b tested (coord_is headed))
