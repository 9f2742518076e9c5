-- The cost of a statement, told by its groups of terms alone, whatever its loops are made of. As in Kjolstad and others, 'The Tensor
-- Algebra Compiler' (OOPSLA 2017), section 5: at a variable the terms whose next loop is over it share that loop, which goes over the
-- whole range where the part of them that remains is full, and else through the coordinates that its accesses have stored. A nested sum
-- that a statement reads is a group of its own, with its inside as the only term. It starts where the last of its variables is fixed and it
-- stands in a part that remains; before, what it sums counts in its place, and from then on it counts as a number that is there or not.
use Rattle.std.specs.Prelude.{◌≡◌, ℕ, zero, suc, ◌+◌, ◌-◌, ◌<◌, nat_eq, nat_lt, not, Bool, true}
use Rattle.std.specs.Prelude.{false, ◌&&◌, ◌||◌, if◌then◌else◌, List, [], ◌∷◌}
use Rattle.std.specs.Prelude.{length, map, Option, Some, None}
use Rattle.std.specs.List.{flat_map, list_any}
use Rattle.lists.specs.Each.{Each}
use Rattle.level_core.specs.declared.span.Span.{Span}
use Rattle.level_core.specs.declared.span.Entry.{Entry as LevelEntry}
use Rattle.format_spec.specs.declared.format.FormatLevel.{FormatLevel}
use Rattle.index_notation.specs.declared.syntax.Expr.{Expr, Access as AccessOf}
use Rattle.index_notation.specs.declared.syntax.Statement.{Statement}
use Rattle.expr_terms.specs.Points.{with_coordinate}
use Rattle.expr_terms.specs.Terms.{contains, plain_term, terms}
use Rattle.expr_terms.specs.declared.term.Term.{Term}
use Rattle.concrete_notation.specs.Nests.{Nest, nest_of}
use Rattle.loop_code.specs.Loops.{Stored}
use Rattle.loop_code.specs.Opened.{put_at, put_in}
use Rattle.loop_code.specs.Parts.{entries_of, given, is_full, is_live, is_some, remains}
use Rattle.loop_code.specs.Turns.{count_below, some_below, weight_of}
use Rattle.lowering.specs.Held.{path_span}
use Rattle.lowering.specs.Layouts.{layout_of}
use Rattle.lowering.specs.Seeking.{reached}
use Rattle.lowering.specs.Shapes.{variables_at}
use Rattle.lowering.specs.Sums.{are_bound, first_sum, is_met, starts_at, sum_at, vars_at}

-- a term whose loops are these, without the first of them, if that is over the variable
abbrev pub inside_of : ℕ → List ℕ → Term → List Nest
inside_of v [] t = []
inside_of v (w ∷ loops) t = if nat_eq w v then (record { loops = loops; term = t } ∷ []) else []

-- the group of a variable: of some terms in loops those whose next loop is over it, in the loops that are left
abbrev pub group_of : ℕ → List Nest → List Nest
group_of v nests = flat_map (λ (n : Nest). inside_of v n.loops n.term) nests

-- whether the expression of some term is such
abbrev pub some_term : (Expr → Bool) → List Nest → Bool
some_term is_such nests = list_any (λ (n : Nest). is_such n.term.expr) nests

-- the first of these variables that isn't bound, if there is one
abbrev pub next_variable : List ℕ → List ℕ → Option ℕ
next_variable bound [] = None
next_variable bound (w ∷ ws) = if contains bound w then next_variable bound ws else Some w

abbrev pub is_variable : ℕ → Option ℕ → Bool
is_variable v None = false
is_variable v (Some w) = nat_eq w v

-- a term with other expressions in the places of its accesses
abbrev pub with_others : (ℕ → Expr) → Nest → Nest
with_others others n = record { loops = n.loops; term = record { negated = n.term.negated; expr = put_in others n.term.expr } }

module _ (s : Statement) where
  -- what counts in the place of an access where some sums have started: of a sum that hasn't, what it sums, and so there too
  abbrev pub in_place : (ℕ → Bool) → ℕ → ℕ → Expr
  in_place started zero = λ k. AccessOf k
  in_place started (suc n) =
      if started (first_sum s + n) then in_place started n
      else put_at (in_place started n) (first_sum s + n) (put_in (in_place started n) (sum_at s n).inside)

  -- the terms of a group so
  abbrev pub opened_group : (ℕ → Bool) → List Nest → List Nest
  opened_group started group = map (with_others (in_place started (length s.sums))) group

  -- whether a sum has started inside loops over bound variables: where the last of its variables is fixed
  abbrev pub has_started : List ℕ → ℕ → Bool
  has_started bound k = are_bound bound (vars_at s k)

  -- the same where, of those that start there, only the ones before an access have started. The innermost variable is told
  abbrev pub has_started_before : Option ℕ → List ℕ → ℕ → ℕ → Bool
  has_started_before innermost bound k j = has_started bound j && (not (is_met innermost (vars_at s j)) || nat_lt j k)

  -- a sum is a group of its own, with what it sums as the only term
  abbrev pub own_group : ℕ → List Nest
  own_group n = record { loops = (sum_at s n).var ∷ []; term = plain_term (sum_at s n).inside } ∷ []

module _ (s : Statement) (formats : List (List FormatLevel)) where
  -- the level of an access that comes next, inside loops over the bound variables: those are found whose variables are bound, from the
  -- top on
  abbrev pub next_level : List ℕ → ℕ → ℕ
  next_level bound k = suc (reached bound (variables_at s formats k))

  -- whether an access is gone through at a variable: its next level is that of the variable and isn't full. Each other access is full
  -- there, or lacks the variable, as does a sum
  abbrev pub is_walked : List ℕ → ℕ → ℕ → Bool
  is_walked bound v k =
      is_variable v (next_variable bound (variables_at s formats k)) && not ((layout_of s formats).full k (next_level bound k))

  -- how often an entry's coordinate is stored: once, but in groups
  abbrev pub times_stored : ℕ → ℕ → LevelEntry → ℕ
  times_stored k level e = if (layout_of s formats).unique k level then 1 else e.child.hi - e.child.lo

  module _ (stored : Stored) where
    -- the positions to which the coordinates of the levels lead that are found at a point, if they are stored
    abbrev pub at : List ℕ → (ℕ → ℕ) → ℕ → Option Span
    at bound point k = path_span (layout_of s formats) stored k (reached bound (variables_at s formats k)) point

    -- the entries of the next level, below there
    abbrev pub segment : List ℕ → (ℕ → ℕ) → ℕ → List LevelEntry
    segment bound point k = entries_of stored (at bound point k) k (next_level bound k)

    -- the number of coordinates that a segment has stored, repeats counted
    abbrev pub segment_length : List ℕ → (ℕ → ℕ) → ℕ → ℕ
    segment_length bound point k = weight_of (times_stored k (next_level bound k)) (segment bound point k)

    -- the same in a level that has groups; one whose coordinates are unique has none
    abbrev pub groups_length : List ℕ → (ℕ → ℕ) → ℕ → ℕ
    groups_length bound point k = if (layout_of s formats).unique k (next_level bound k) then 0 else segment_length bound point k

    -- each coordinate of a level in groups has a position, wherever loops come to it
    abbrev pub HaveGroups : Type 0
    HaveGroups = (k depth : ℕ) (point : ℕ → ℕ) (p : Span) → k < length s.accesses → depth < (layout_of s formats).levels k
        → (layout_of s formats).unique k (suc depth) ≡ false → path_span (layout_of s formats) stored k depth point ≡ Some p
        → Each (λ (e : LevelEntry). e.child.lo < e.child.hi) (stored.entries k (suc depth) p)

    module _ (ranges : ℕ → ℕ) where
      -- whether an access is present at a point: a tensor's where the coordinates of all its levels lead to a position, and that of a sum
      -- before a number where a part of what it sums remains at some coordinate
      abbrev pub present_at : ℕ → (ℕ → ℕ) → ℕ → Bool
      present_at zero point k = is_some (path_span (layout_of s formats) stored k ((layout_of s formats).levels k) point)
      present_at (suc n) point k =
          if nat_eq (first_sum s + n) k
          then some_below (ranges (sum_at s n).var)
          (λ x. remains (present_at n (with_coordinate point (sum_at s n).var x)) (sum_at s n).inside)
          else present_at n point k

      -- whether an access is there so far, where some sums have started: a tensor's where the coordinates lead to positions, a sum that has
      -- started where it is present
      abbrev pub is_there : (ℕ → Bool) → List ℕ → (ℕ → ℕ) → ℕ → Bool
      is_there started bound point k =
          if nat_lt k (first_sum s) then is_some (at bound point k) else (not (started k) || present_at (length s.sums) point k)

      abbrev pub is_here : List ℕ → (ℕ → ℕ) → ℕ → Bool
      is_here bound point = is_there (has_started s bound) bound point

      -- a number of each access that stands in the part of a group that remains and is gone through at the variable, summed
      abbrev pub sum_walked : (ℕ → ℕ) → List Nest → List ℕ → (ℕ → ℕ) → ℕ → ℕ
      sum_walked number group bound point v =
          count_below (length s.accesses)
          (λ k. if some_term (λ e. is_live (is_here bound point) e k) group && is_walked bound v k then number k else 0)

      -- whether the part of a group that remains is full at the variable
      abbrev pub is_full_group : List Nest → List ℕ → (ℕ → ℕ) → ℕ → Bool
      is_full_group group bound point v = some_term (is_full (λ k. not (is_walked bound v k)) (is_here bound point)) group

      -- the length of a group's loop over the variable
      abbrev pub group_length : List Nest → List ℕ → (ℕ → ℕ) → ℕ → ℕ
      group_length group bound point v =
          if is_full_group group bound point v then ranges v else sum_walked (segment_length bound point) group bound point v

      -- the repeated coordinates of a group's loop
      abbrev pub group_repeats : List Nest → List ℕ → (ℕ → ℕ) → ℕ → ℕ
      group_repeats group bound point v = sum_walked (groups_length bound point) group bound point v

      -- whether a sum that is about to start is wanted: it stands in the part of a group that remains, as an access that is there where a
      -- part of what it sums remains
      abbrev pub is_wanted : Option ℕ → List ℕ → (ℕ → ℕ) → List Nest → ℕ → Bool
      is_wanted innermost bound point group n =
          let k = first_sum s + n in
          let started = has_started_before s innermost bound k in
          let there = is_there started bound point in
          let part = some_term (remains there) (opened_group s started (own_group s n)) in
          some_term (λ e. is_live (given there k part) e k) (opened_group s (given started k true) group)

      -- a number of the sums that start inside loops over bound variables, at a point: those of which the innermost variable is the last
      -- and that are wanted there, each by its own group
      abbrev pub of_starting : (List Nest → ℕ) → Option ℕ → List ℕ → (ℕ → ℕ) → List Nest → ℕ
      of_starting number innermost bound point group =
          count_below (length s.sums)
          (λ n. if starts_at s (λ k. is_wanted innermost bound point group n) innermost bound n then number (own_group s n) else 0)

      -- a number of groups, over all of them. In loop order each variable takes the group whose next loop is over it, where a part of
      -- it remains: its number, and at each coordinate of the variable those of the sums that start there, and of the groups that it
      -- falls into inside. In a group what is summed counts in the place of each sum that hasn't started
      abbrev pub total : (List Nest → List ℕ → (ℕ → ℕ) → ℕ → ℕ) → List ℕ → List Nest → List ℕ → (ℕ → ℕ) → ℕ
      total number [] nests bound point = 0
      total number (v ∷ order) nests bound point =
          (if some_term (remains (is_here bound point)) (opened_group s (has_started s bound) (group_of v nests))
          then number (opened_group s (has_started s bound) (group_of v nests)) bound point v
          + count_below (ranges v)
          (λ x. of_starting (λ own. total number order own (v ∷ bound) (with_coordinate point v x)) (Some v) (v ∷ bound)
          (with_coordinate point v x) (group_of v nests)
          + total number order (group_of v nests) (v ∷ bound) (with_coordinate point v x)) else 0)
          + total number order nests bound point

      -- the same of all terms of a statement in a loop order, with the sums that have no variables
      abbrev pub whole_total : (List Nest → List ℕ → (ℕ → ℕ) → ℕ → ℕ) → List ℕ → ℕ
      whole_total number order =
          of_starting (λ own. total number order own [] (λ v. 0)) None [] (λ v. 0) (map (nest_of s order) (terms s.expr))
          + total number order (map (nest_of s order) (terms s.expr)) [] (λ v. 0)

-- over all groups of a statement in a loop order
abbrev pub statement_cost : Statement → List (List FormatLevel) → List ℕ → Stored → (ℕ → ℕ) → ℕ
statement_cost s formats order stored ranges = whole_total s formats stored ranges (group_length s formats stored ranges) order

abbrev pub statement_repeats : Statement → List (List FormatLevel) → List ℕ → Stored → (ℕ → ℕ) → ℕ
statement_repeats s formats order stored ranges = whole_total s formats stored ranges (group_repeats s formats stored ranges) order
