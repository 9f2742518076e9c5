-- The same for a statement without nested sums: no sum starts, and each access stands for itself.
use Rattle.std.specs.Prelude.{ℕ, ◌+◌, not, Bool, ◌&&◌, if◌then◌else◌, List, [], ◌∷◌, length, map}
use Rattle.format_spec.specs.declared.format.FormatLevel.{FormatLevel}
use Rattle.index_notation.specs.declared.syntax.Statement.{Statement}
use Rattle.expr_terms.specs.Points.{with_coordinate}
use Rattle.expr_terms.specs.Terms.{terms}
use Rattle.concrete_notation.specs.Nests.{Nest, nest_of}
use Rattle.loop_code.specs.Loops.{Stored}
use Rattle.loop_code.specs.Parts.{is_full, is_live, is_some, remains}
use Rattle.loop_code.specs.Turns.{count_below}
use Rattle.statement_costs.specs.Costs.{at, group_of, groups_length, is_walked, next_level, segment_length, some_term}
use Rattle.statement_costs.specs.Slots.{level_slots}

module _ (s : Statement) (formats : List (List FormatLevel)) (stored : Stored) where
  -- whether the positions to which coordinates lead are stored
  abbrev pub plain_here : List ℕ → (ℕ → ℕ) → ℕ → Bool
  plain_here bound point k = is_some (at s formats stored bound point k)

  -- a number of each access that stands in the part of a group that remains and is gone through at the variable, summed
  abbrev pub plain_walked : (ℕ → ℕ) → List Nest → List ℕ → (ℕ → ℕ) → ℕ → ℕ
  plain_walked number group bound point v =
      count_below (length s.accesses)
      (λ k. if some_term (λ e. is_live (plain_here bound point) e k) group && is_walked s formats bound v k then number k else 0)

  -- whether the part of a group that remains is full at the variable
  abbrev pub plain_full : List Nest → List ℕ → (ℕ → ℕ) → ℕ → Bool
  plain_full group bound point v = some_term (is_full (λ k. not (is_walked s formats bound v k)) (plain_here bound point)) group

  module _ (ranges : ℕ → ℕ) where
    -- the length of a group's loop over the variable, its repeated coordinates, and its slots
    abbrev pub plain_length : List Nest → List ℕ → (ℕ → ℕ) → ℕ → ℕ
    plain_length group bound point v =
        if plain_full group bound point v then ranges v
        else plain_walked (segment_length s formats stored bound point) group bound point v

    abbrev pub plain_repeats : List Nest → List ℕ → (ℕ → ℕ) → ℕ → ℕ
    plain_repeats group bound point v = plain_walked (groups_length s formats stored bound point) group bound point v

    abbrev pub plain_slots : (ℕ → ℕ → ℕ) → List Nest → List ℕ → (ℕ → ℕ) → ℕ → ℕ
    plain_slots widths group bound point v =
        plain_walked (λ k. level_slots s formats widths k (next_level s formats bound k)) group bound point v

    -- a number of groups, over all of them. In loop order each variable takes the group whose next loop is over it, where a part of
    -- it remains: its number, and those of the groups that it falls into inside, at each coordinate of the variable
    abbrev pub plain_total : (List Nest → List ℕ → (ℕ → ℕ) → ℕ → ℕ) → List ℕ → List Nest → List ℕ → (ℕ → ℕ) → ℕ
    plain_total number [] nests bound point = 0
    plain_total number (v ∷ order) nests bound point =
        (if some_term (remains (plain_here bound point)) (group_of v nests)
        then number (group_of v nests) bound point v
        + count_below (ranges v) (λ x. plain_total number order (group_of v nests) (v ∷ bound) (with_coordinate point v x)) else 0)
        + plain_total number order nests bound point

    -- the same of all terms of the statement in a loop order
    abbrev pub whole_plain : (List Nest → List ℕ → (ℕ → ℕ) → ℕ → ℕ) → List ℕ → ℕ
    whole_plain number order = plain_total number order (map (nest_of s order) (terms s.expr)) [] (λ v. 0)
