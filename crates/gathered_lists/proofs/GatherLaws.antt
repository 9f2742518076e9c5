-- What the code does that gathers the entries below a parent into a scratch list and sorts them.
use Rattle.std.specs.Prelude.{◌≡◌, ℕ, zero, suc, ◌+◌, ◌-◌, ◌^◌, ◌≤◌, ◌<◌, Bool, true, false, if◌then◌else◌, List, [], ◌∷◌, ◌++◌}
use Rattle.std.specs.Prelude.{length, map, Option, Some, None, refl}
use Rattle.std.proofs.Common.{◌∙◌, sym, ap, subst, arith}
use Rattle.std.proofs.lemmas.List.{length-map, map-append}
use Rattle.lists.specs.Each.{Each}
use Rattle.lists.proofs.Tests.{number_same}
use Rattle.limits.specs.Limits.{greatest_position_count}
use Rattle.limits.proofs.Limits.{positions_are_small}
use Rattle.kernel_code.specs.declared.syntax.Arr.{Arr}
use Rattle.kernel_code.specs.declared.syntax.Arr.TheVariants.{Range, Values, Dimension, Ends, Coordinates, Width, Key, Sums}
use Rattle.kernel_code.specs.declared.syntax.Arr.TheVariants.{ListCoordinates, ListPositions}
use Rattle.kernel_code.specs.declared.syntax.LoopKind.{LoopKind}
use Rattle.kernel_code.specs.declared.syntax.LoopKind.TheVariants.{Gather}
use Rattle.kernel_code.specs.declared.syntax.Op.TheVariants.{Add, Less}
use Rattle.kernel_code.specs.declared.syntax.KExpr.{KExpr, Num, Var, Bin}
use Rattle.kernel_code.specs.declared.syntax.KStmt.{KStmt, Set, Push, Sort}
use Rattle.kernel_code.specs.Arrays.{same_arr}
use Rattle.kernel_code.specs.Rows.{list_rows, sorted_rows}
use Rattle.kernel_code.specs.Meaning.{Setting, State, value, set_var, set_array, one_turn, same_kind}
use Rattle.kernel_code.proofs.ArrayNames.{same_arr_is}
use Rattle.kernel_code.proofs.SortLemmas.{sort_done}
use Rattle.kernel_code.specs.Does.{Does, Never, Turn, Goes}
use Rattle.kernel_code.proofs.Does.{does_append, does_set, does_push, does_cut, does_sort, does_nothing, does_if_yes}
use Rattle.kernel_code.proofs.Does.{does_if_no, does_while}
use Rattle.kernel_code.specs.Keeps.{Leaves, NoVariable, EveryArray, no_turns}
use Rattle.kernel_code.proofs.Keeps.{this_var, other_var, this_array, other_array}
use Rattle.kernel_code.proofs.Words.{sum_is, less_yes, less_no}
use Rattle.level_core.specs.declared.letter.Letter.{Letter}
use Rattle.level_core.specs.declared.span.Span.{Span}
use Rattle.level_core.specs.declared.span.Entry.{Entry}
use Rattle.level_core.specs.Entries.{IsIn, Placed, Single, AllBelow, Distinct, coord_at}
use Rattle.level_core.specs.Kinds.{properties}
use Rattle.level_core.specs.Codes.{SegmentCode, CoordCode}
use Rattle.level_core.specs.Fragments.{IsOf, Reads, OptionLeft, SpanLeft, turns_of}
use Rattle.level_core.specs.Laws.{Laws}
use Rattle.level_core.specs.Meaning.{Meaning}
use Rattle.level_core.proofs.EntryLaws.{placed_within}
use Rattle.level_core.proofs.KindLaws.{are_of_a_kind, unordered_stored}
use Rattle.level_cursors.proofs.Fronts.{positions_below_it}
use Rattle.gathered_lists.specs.InOrder.{in_order}
use Rattle.gathered_lists.specs.Rows.{IsOfList, IsOffList, HasList, HasRows, IsRow, HoldsEntries}
use Rattle.gathered_lists.specs.Gathered.{IsGathered, Fills, Gathers, clear_code, push_code, fill_code, gather_code}
use Rattle.gathered_lists.proofs.InOrder.{are_in_order, each_in_order}
use Rattle.gathered_lists.proofs.Passing.{Passing, passing_begins, passing_none, passing_some, passing_ends}
use Rattle.gathered_lists.proofs.Rows.{sorted_coordinates, sorted_positions}

-- levels without order may be gathered
pub unordered_gathered : (letter : Letter) → (properties letter).ordered ≡ false → IsGathered letter
unordered_gathered letter is =
    let kind = are_of_a_kind letter in
    record { unique = kind.located_unique (kind.unordered_located is); positions = kind.stored (unordered_stored letter is) }

-- an array of the list isn't one off it
off_apart : (list : ℕ) (a b : Arr) → IsOfList list a → IsOffList list b → same_arr a b ≡ false
off_apart list a b of off = by_test (same_arr a b) refl
  where
    by_test : (t : Bool) → same_arr a b ≡ t → t ≡ false
    by_test true is = absurd (off (subst (IsOfList list) (same_arr_is a b is) of))
    by_test false is = refl

-- an array of a level isn't one of a list
level_off : (tensor level list : ℕ) (a : Arr) → IsOf tensor level a → IsOffList list a
level_off tensor level list Range h g = g
level_off tensor level list (Values n) h g = g
level_off tensor level list (Dimension n k) h g = g
level_off tensor level list (Ends n k) h g = g
level_off tensor level list (Coordinates n k) h g = g
level_off tensor level list (Width n k) h g = g
level_off tensor level list (Key n k) h g = g
level_off tensor level list (Sums n) h g = g
level_off tensor level list (ListCoordinates n) h g = h
level_off tensor level list (ListPositions n) h g = h

-- entries that stand below a position are no more than there are positions
placed_few : (lo hi : ℕ) (es : List Entry) → Placed lo hi es → lo + length es ≤ hi
placed_few lo hi [] p = omega (arith, p)
placed_few lo hi (e ∷ es) p = let rest = placed_few e.child.hi hi es p.2 in omega (arith, rest, p.0, p.1)

-- they are rows of a list
are_rows : (size lo hi : ℕ) (es : List Entry) → size ≤ greatest_position_count → hi ≤ greatest_position_count → AllBelow size es
    → Placed lo hi es → Single es → Each IsRow es
are_rows size lo hi [] m n b p s = tt
are_rows size lo hi (e ∷ es) m n b p s =
    let inside = placed_within e.child.hi hi es p.2 in (
      record { below = omega (arith, b.0, m, positions_below_it); one = s.0; within = omega (arith, inside, n) },
      are_rows size e.child.hi hi es m n b.1 p.2 s.1,
    )

true_not_false : true ≡ false → ⊥
true_not_false h = cc

zero_not_one : (v : Option ℕ) → v ≡ Some 0 → v ≡ Some 1 → ⊥
zero_not_one v h g = cc

one_gathered : (n : ℕ) (s : State) (j : LoopKind)
    → (one_turn s Gather).turns j + turns_of Gather n j ≡ s.turns j + turns_of Gather (suc n) j
one_gathered n s j = elim (same_kind Gather j) as
    (λ b. (if b then s.turns j + 1 else s.turns j) + (if b then n else 0) ≡ s.turns j + (if b then suc n else 0))
    [ true ↦ omega arith | false ↦ omega arith ]

module _ (c : Setting) (list top : ℕ) (coord : List KStmt) (segment : Span) (all : List Entry) (s0 : State)
    (asks : (pos : ℕ) (t : State) → IsIn pos segment → ((a : Arr) → IsOffList list a → t.arrays a ≡ s0.arrays a)
    → t.vars top ≡ Some pos → Reads c coord (top + 2) no_turns t (OptionLeft (top + 2) (coord_at all pos)))
    (placed : Placed segment.lo segment.hi all) (single : Single all) (small : segment.hi ≤ greatest_position_count) where
  -- the entries before a position are pushed, n positions are left, and the variable is so many behind the position
  record Gathering (behind n : ℕ) (t : State) : Type 0 where
    at : ℕ
    pos : ℕ
    done : List Entry
    pos_is : pos ≡ at + behind
    left : pos + n ≡ segment.hi
    passing : Passing segment.lo pos segment.hi done all
    rows : HasRows list done t
    at_is : t.vars top ≡ Some at
    end_is : t.vars (top + 1) ≡ Some segment.hi
    below : (y : ℕ) → y < top → t.vars y ≡ s0.vars y
    arrays : (a : Arr) → IsOffList list a → t.arrays a ≡ s0.arrays a
    turns : (j : LoopKind) → t.turns j + turns_of Gather n j ≤ s0.turns j + turns_of Gather (segment.hi - segment.lo) j

  abbrev test : KExpr
  test = Bin Less (Var top) (Var (top + 1))

  goes : (n : ℕ) (t : State) → Gathering 0 (suc n) t → value test t ≡ Some 1
  goes n t g =
      less_yes (Var top) (Var (top + 1)) g.at segment.hi t g.at_is g.end_is
      (let is = g.pos_is in let left = g.left in omega (arith, is, left))

  ends : (t : State) → Gathering 0 0 t → value test t ≡ Some 0
  ends t g =
      less_no (Var top) (Var (top + 1)) g.at segment.hi t g.at_is g.end_is
      (let is = g.pos_is in let left = g.left in omega (arith, is, left))

  -- on to the next position
  steps_on : (n : ℕ) (t : State) → Gathering 1 n t → Does c (Set top (Bin Add (Var top) (Num 1)) ∷ []) t (Gathering 0 n) Never
  steps_on n t g =
      let is = g.pos_is in let left = g.left in
      let few : g.at + 1 < 2 ^ 64 = omega (arith, is, left, small, positions_are_small) in
      does_set c top (Bin Add (Var top) (Num 1)) [] t (g.at + 1) _ Never (sum_is (Var top) (Num 1) g.at 1 t g.at_is refl few)
      (does_nothing c (set_var t top (g.at + 1)) _ Never (record {
        at = g.at + 1;
        pos = g.pos;
        done = g.done;
        pos_is = omega (arith, is);
        left = g.left;
        passing = g.passing;
        rows = record { coordinates = g.rows.coordinates; positions = g.rows.positions };
        at_is = this_var t top (g.at + 1);
        end_is = other_var t top (top + 1) (g.at + 1) (λ q. omega (arith, q)) ∙ g.end_is;
        below = λ y b. other_var t top y (g.at + 1) (λ q. omega (arith, q, b)) ∙ g.below y b;
        arrays = g.arrays;
        turns = g.turns;
      }))

  -- what the code of a coordinate leaves
  record Asked (t u : State) : Type 0 where
    vars : (y : ℕ) → y < top + 2 → u.vars y ≡ t.vars y
    arrays : (a : Arr) → u.arrays a ≡ t.arrays a
    turns : (j : LoopKind) → u.turns j ≤ (one_turn t Gather).turns j

  fewer : (n : ℕ) (t u : State) → Gathering 0 (suc n) t → Asked t u
      → (j : LoopKind) → u.turns j + turns_of Gather n j ≤ s0.turns j + turns_of Gather (segment.hi - segment.lo) j
  fewer n t u g k j = let one = one_gathered n t j in let few = k.turns j in let more = g.turns j in omega (arith, one, few, more)

  passed : (n : ℕ) (t u : State) (g : Gathering 0 (suc n) t) → Asked t u → coord_at all g.pos ≡ None → Gathering 1 n u
  passed n t u g k none =
      let is = g.pos_is in let left = g.left in
      record {
        at = g.at;
        pos = g.pos + 1;
        done = g.done;
        pos_is = omega (arith, is);
        left = omega (arith, left);
        passing = passing_none segment.lo g.pos segment.hi g.done all (omega (arith, left)) g.passing none;
        rows = record {
          coordinates = k.arrays (ListCoordinates list) ∙ g.rows.coordinates;
          positions = k.arrays (ListPositions list) ∙ g.rows.positions;
        };
        at_is = k.vars top (omega arith) ∙ g.at_is;
        end_is = k.vars (top + 1) (omega arith) ∙ g.end_is;
        below = λ y b. k.vars y (omega (arith, b)) ∙ g.below y b;
        arrays = λ a off. k.arrays a ∙ g.arrays a off;
        turns = fewer n t u g k;
      }

  pushed : (n : ℕ) (t u : State) (g : Gathering 0 (suc n) t) → Asked t u → (x : ℕ) → coord_at all g.pos ≡ Some x
      → Gathering 1 n (set_array (set_array u (ListCoordinates list) (map (λ e. e.coord) g.done ++ x ∷ [])) (ListPositions list)
      (map (λ e. e.child.lo) g.done ++ g.at ∷ []))
  pushed n t u g k x some =
      let is = g.pos_is in let left = g.left in
      let s = passing_some segment.lo g.pos segment.hi x g.done all single g.passing some in
      let first : s.entry.child.lo ≡ g.at = let here = s.at in omega (arith, here, is) in
      let xs = map (λ e. e.coord) g.done ++ x ∷ [] in
      let ps = map (λ e. e.child.lo) g.done ++ g.at ∷ [] in
      let v = set_array u (ListCoordinates list) xs in
      record {
        at = g.at;
        pos = g.pos + 1;
        done = g.done ++ s.entry ∷ [];
        pos_is = omega (arith, is);
        left = omega (arith, left);
        passing = s.past;
        rows = record {
          coordinates = other_array v (ListPositions list) (ListCoordinates list) ps refl
              ∙ this_array u (ListCoordinates list) (ListCoordinates list) xs (number_same list)
              ∙ ap Some (sym (map-append (λ e. e.coord) g.done (s.entry ∷ []) ∙ ap (λ y. map (λ e. e.coord) g.done ++ y ∷ []) s.coord));
          positions = this_array v (ListPositions list) (ListPositions list) ps (number_same list)
              ∙ ap Some (sym (map-append (λ e. e.child.lo) g.done (s.entry ∷ []) ∙ ap (λ y. map (λ e. e.child.lo) g.done ++ y ∷ []) first));
        };
        at_is = k.vars top (omega arith) ∙ g.at_is;
        end_is = k.vars (top + 1) (omega arith) ∙ g.end_is;
        below = λ y b. k.vars y (omega (arith, b)) ∙ g.below y b;
        arrays = λ a off. other_array v (ListPositions list) a ps (off_apart list (ListPositions list) a refl off)
            ∙ other_array u (ListCoordinates list) a xs (off_apart list (ListCoordinates list) a refl off) ∙ k.arrays a
            ∙ g.arrays a off;
        turns = fewer n t u g k;
      }

  pushes : (n : ℕ) (t u : State) (g : Gathering 0 (suc n) t) → Asked t u → (o : Option ℕ) → coord_at all g.pos ≡ o
      → OptionLeft (top + 2) o u → Does c (push_code list top) u (Gathering 0 n) Never
  pushes n t u g k None none h =
      does_if_no c (Var (top + 2)) _ [] _ u (Gathering 1 n) (Gathering 0 n) Never h
      (does_nothing c u (Gathering 1 n) Never (passed n t u g k none))
      (λ v i. steps_on n v i)
  pushes n t u g k (Some x) some h =
      let xs = map (λ e. e.coord) g.done in
      let ps = map (λ e. e.child.lo) g.done in
      let v = set_array u (ListCoordinates list) (xs ++ x ∷ []) in
      does_if_yes c (Var (top + 2)) _ [] _ u 0 (Gathering 1 n) (Gathering 0 n) Never h.0
      (does_push c (ListCoordinates list) (Var (top + 2 + 1)) (Push (ListPositions list) (Var top) ∷ []) u x xs (Gathering 1 n) Never
      h.1 refl (k.arrays (ListCoordinates list) ∙ g.rows.coordinates)
      (λ may. does_push c (ListPositions list) (Var top) [] v g.at ps (Gathering 1 n) Never
      (k.vars top (omega arith) ∙ g.at_is) refl
      (other_array u (ListCoordinates list) (ListPositions list) (xs ++ x ∷ []) refl ∙ k.arrays (ListPositions list) ∙ g.rows.positions)
      (λ too. does_nothing c (set_array v (ListPositions list) (ps ++ g.at ∷ [])) (Gathering 1 n) Never (pushed n t u g k x some))
      (λ no. true_not_false no))
      (λ no. true_not_false no))
      (λ w i. steps_on n w i)

  turn : (n : ℕ) (t : State) → Gathering 0 (suc n) t
      → Turn c Gather test (coord ++ push_code list top) t (Gathering 0 n) (Gathering 0 0) Never
  turn n t g =
      let is = g.pos_is in let left = g.left in
      let from = placed_within segment.lo g.pos g.done g.passing.behind in
      Goes 0 (goes n t g)
      (does_append c coord (push_code list top) (one_turn t Gather) _ (Gathering 0 n) Never
      (asks g.pos (one_turn t Gather) (from, omega (arith, left)) g.arrays (g.at_is ∙ ap Some (omega (arith, is))))
      (λ u q. pushes n t u g (record {
        vars = λ y b. q.0.below y b (λ z. z);
        arrays = λ a. q.0.arrays a tt;
        turns = λ j. let few = q.0.turns j in omega (arith, few);
      }) (coord_at all g.pos) refl q.1))

  over : (n : ℕ) (t : State) → Gathering 0 n t → value test t ≡ Some 0 → Gathering 0 0 t
  over zero t g z = g
  over (suc n) t g z = absurd (zero_not_one (value test t) z (goes n t g))

  module _ (size : ℕ) (range : size ≤ greatest_position_count) (under : AllBelow size all) (distinct : Distinct all) where
    abbrev Ready : State → Type 0
    Ready t = Leaves NoVariable (IsOffList list) top (turns_of Gather (segment.hi - segment.lo)) s0 t × HoldsEntries list (in_order all) t

    -- the rows are sorted
    sorts : (t : State) → Gathering 0 0 t → Does c (Sort list ∷ []) t Ready Never
    sorts t g =
        let left = g.left in
        let whole : g.done ≡ all = passing_ends segment.lo g.pos segment.hi g.done all (omega (arith, left)) g.passing in
        let cs = map (λ e. e.coord) g.done in
        let ps = map (λ e. e.child.lo) g.done in
        let xs = map (λ r. r.coordinate) (sorted_rows (list_rows cs ps)) in
        let ys = map (λ r. r.position) (sorted_rows (list_rows cs ps)) in
        let t1 = set_array t (ListCoordinates list) xs in
        let t2 = set_array t1 (ListPositions list) ys in
        let long : length cs ≡ length ps = length-map g.done (λ e. e.coord) ∙ sym (length-map g.done (λ e. e.child.lo)) in
        let sorted = are_in_order all distinct in
        let many = sorted.many in
        let few = placed_few segment.lo segment.hi all placed in
        does_sort c list [] t t2 Ready Never
        (sym (sort_done t t2 list cs ps (t.arrays (ListCoordinates list)) (t.arrays (ListPositions list)) g.rows.coordinates
        g.rows.positions
        long refl))
        (does_nothing c t2 Ready Never (
          record {
            below = λ y b m. g.below y b;
            arrays = λ a off. other_array t1 (ListPositions list) a ys (off_apart list (ListPositions list) a refl off)
                ∙ other_array t (ListCoordinates list) a xs (off_apart list (ListCoordinates list) a refl off) ∙ g.arrays a off;
            turns = λ j. let more = g.turns j in omega (arith, more);
          },
          record {
            rows = record {
              coordinates = other_array t1 (ListPositions list) (ListCoordinates list) ys refl
                  ∙ this_array t (ListCoordinates list) (ListCoordinates list) xs (number_same list)
                  ∙ ap Some (sorted_coordinates g.done ∙ ap (λ es. map (λ e. e.coord) (in_order es)) whole);
              positions = this_array t1 (ListPositions list) (ListPositions list) ys (number_same list)
                  ∙ ap Some (sorted_positions g.done ∙ ap (λ es. map (λ e. e.child.lo) (in_order es)) whole);
            };
            few = omega (arith, many, few, small);
            each = each_in_order IsRow all (are_rows size segment.lo segment.hi all range small under placed single);
            rising = sorted.rising;
          },
        ))

    -- from where the ends of the segment are left
    pub fills : (t : State) → HasList list s0 → Leaves NoVariable EveryArray top no_turns s0 t → SpanLeft top segment t
        → Does c (fill_code list top coord) t Ready Never
    fills t has k h =
        let wide = placed_within segment.lo segment.hi all placed in
        let t1 = set_array t (ListCoordinates list) [] in
        let t2 = set_array t1 (ListPositions list) [] in
        does_cut c (ListCoordinates list) (Num 0) _ t 0 has.coordinates Ready Never refl refl
        (k.arrays (ListCoordinates list) tt ∙ has.coordinates_are)
        (does_cut c (ListPositions list) (Num 0) _ t1 0 has.positions Ready Never refl refl
        (other_array t (ListCoordinates list) (ListPositions list) [] refl ∙ k.arrays (ListPositions list) tt ∙ has.positions_are)
        (does_while c Gather test (coord ++ push_code list top) (Sort list ∷ []) (Gathering 0) (Gathering 0 0) Ready Never
        (λ u g. ends u g) (λ n u g z. over n u g z) (λ n u g. turn n u g) (segment.hi - segment.lo) t2
        (record {
          at = segment.lo;
          pos = segment.lo;
          done = [];
          pos_is = omega arith;
          left = omega (arith, wide);
          passing = passing_begins segment.lo segment.hi all placed;
          rows = record {
            coordinates = other_array t1 (ListPositions list) (ListCoordinates list) [] refl
                ∙ this_array t (ListCoordinates list) (ListCoordinates list) [] (number_same list);
            positions = this_array t1 (ListPositions list) (ListPositions list) [] (number_same list);
          };
          at_is = h.lo;
          end_is = h.hi;
          below = λ y b. k.below y b (λ z. z);
          arrays = λ a off. other_array t1 (ListPositions list) a [] (off_apart list (ListPositions list) a refl off)
              ∙ other_array t (ListCoordinates list) a [] (off_apart list (ListCoordinates list) a refl off) ∙ k.arrays a tt;
          turns = λ j. let few = k.turns j in omega (arith, few);
        })
        (λ u g. sorts u g)))

-- a list without rows
clears : (c : Setting) (list top : ℕ) (s : State) → HasList list s → Fills c (clear_code list) list top no_turns s []
clears c list top s has =
    let s1 = set_array s (ListCoordinates list) [] in
    let s2 = set_array s1 (ListPositions list) [] in
    does_cut c (ListCoordinates list) (Num 0) _ s 0 has.coordinates _ Never refl refl has.coordinates_are
    (does_cut c (ListPositions list) (Num 0) _ s1 0 has.positions _ Never refl refl
    (other_array s (ListCoordinates list) (ListPositions list) [] refl ∙ has.positions_are)
    (does_nothing c s2 _ Never (
      record {
        below = λ y b m. refl;
        arrays = λ a off. other_array s1 (ListPositions list) a [] (off_apart list (ListPositions list) a refl off)
            ∙ other_array s (ListCoordinates list) a [] (off_apart list (ListCoordinates list) a refl off);
        turns = λ j. omega arith;
      },
      record {
        rows = record {
          coordinates = other_array s1 (ListPositions list) (ListCoordinates list) [] refl
              ∙ this_array s (ListCoordinates list) (ListCoordinates list) [] (number_same list);
          positions = this_array s1 (ListPositions list) (ListPositions list) [] (number_same list);
        };
        few = omega arith;
        each = tt;
        rising = tt;
      },
    )))

pub gathers : {L : Type 0} (means : Meaning L) → Laws means → (letter : Letter) (tensor level list top : ℕ) → IsGathered letter
    → (flag : KExpr) (parent : List KExpr) (segment coord : List KStmt) → SegmentCode means letter tensor level parent top segment
    → CoordCode means letter tensor level (Var top ∷ []) (top + 2) coord
    → Gathers means letter tensor level list top flag parent (gather_code list top flag segment coord)
gathers means laws letter tensor level list top gathered flag parent segment coord segment_law coord_law = record {
  off = λ c s is has. does_if_no c flag _ (clear_code list) [] s
      (λ t. Leaves NoVariable (IsOffList list) top no_turns s t × HoldsEntries list [] t) _ Never is (clears c list top s has)
      (λ t h. does_nothing c t _ Never h);
  on = λ c s n is has l kind p ok held ends.
      let are = laws.entries l p ok in
      let unique : (properties (means.kind l)).unique ≡ (properties letter).unique = ap (λ k. (properties k).unique) kind in
      does_if_yes c flag (segment ++ fill_code list top coord) (clear_code list) [] s n
      (λ t. Leaves NoVariable (IsOffList list) top (turns_of Gather ((means.segment_of l p).hi - (means.segment_of l p).lo)) s t
      × HoldsEntries list (in_order (means.entries l p)) t) _ Never is
      (does_append c segment (fill_code list top coord) s _ _ Never (segment_law c l kind p ok s held ends)
      (λ t q. fills c list top coord (means.segment_of l p) (means.entries l p) s
      (λ pos u inside same at. coord_law gathered.positions c l kind p ok pos inside u
      (laws.held_there l tensor level s.arrays u.arrays (λ a of. same a (level_off tensor level list a of)) held) (at, tt))
      are.placed (are.properties.unique (unique ∙ gathered.unique)) are.positions (means.size l) are.within are.below are.distinct
      t has q.0 q.1))
      (λ t h. does_nothing c t _ Never h);
}
