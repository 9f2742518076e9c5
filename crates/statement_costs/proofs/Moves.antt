-- A loop's coordinate leaves each access that stands in its terms where the coordinates lead.
use Rattle.std.specs.Prelude.{◌≡◌, ◌⊎◌, ℕ, zero, suc, ◌+◌, ◌≤◌, ◌<◌, nat_eq, nat_lt, Bool, true, false, if◌then◌else◌, List, ◌∷◌}
use Rattle.std.specs.Prelude.{length, slice_get, slice_index_or, Option, Some, None, refl}
use Rattle.std.proofs.Common.{◌∙◌, sym, ap, subst, arith, inl, inr}
use Rattle.std.proofs.lemmas.Bool.Decides.{nat_tests, eqb_tells}
use Rattle.std.proofs.lemmas.Option.{slice_get_past}
use denote.Hole.Carrier.{hidden}
use Rattle.level_core.specs.declared.span.Span.{Span}
use Rattle.format_spec.specs.declared.format.FormatLevel.{FormatLevel}
use Rattle.index_notation.specs.declared.syntax.Access.{Access}
use Rattle.index_notation.specs.declared.syntax.Expr.{Expr}
use Rattle.index_notation.specs.declared.syntax.Statement.{Statement}
use Rattle.expr_terms.specs.Points.{with_coordinate}
use Rattle.expr_terms.specs.Terms.{contains}
use Rattle.expr_terms.proofs.PointLaws.{coordinate_other, coordinate_same}
use Rattle.loop_code.specs.declared.loops.LoopCode.{LoopCode, Loop}
use Rattle.loop_code.specs.declared.loops.LoopCode.TheBlock.{hidden-the_row-LoopCode-0}
use Rattle.loop_code.specs.declared.loops.Seek.{Seek}
use Rattle.loop_code.specs.Loops.{Layout, Stored, Env, at_variable, moved}
use Rattle.loop_code.specs.Parts.{here, is_live, is_some, remains}
use Rattle.loop_code.specs.Places.{AreSeeks, IsWellPlaced, depth_after}
use Rattle.loop_code.specs.Turns.{some_below, some_if}
use Rattle.loop_code.proofs.Alike.{some_same}
use Rattle.loop_code.proofs.Equations.{placed_loop}
use Rattle.lowering.specs.Held.{path_span}
use Rattle.lowering.specs.Layouts.{layout_of, variables_of}
use Rattle.lowering.specs.Lowered.{concrete_of}
use Rattle.lowering.specs.Seeking.{has_access, reached}
use Rattle.lowering.specs.Shapes.{Allows, variables_at}
use Rattle.lowering.specs.Sums.{first_sum, reads_any, sum_at, through, vars_at}
use Rattle.lowering.proofs.Reached.{reached_bound, reached_within}
use Rattle.lowering.proofs.Standing.{all_bound, at_access, none_behind, one_bound, or_so, stands_by}
use Rattle.statement_costs.specs.Costs.{at, has_started, in_place, is_there, opened_group, present_at, some_term}
use Rattle.lowering.specs.Starts.{IsBehind, StartsInPlace}
use Rattle.statement_costs.proofs.Here.{IsLaid, IsThere, in_part, leaf, leaf_started, less_there, live_there, place, place_there, some_told}
use Rattle.statement_costs.proofs.Here.{terms_of}
use Rattle.statement_costs.proofs.Opened.{inside_others, less_or_not, started_inside, started_known, started_outside, started_so}
use Rattle.statement_costs.proofs.Parts.{less_live, less_remains, same_if, some_inside, some_less, some_stands, some_uses}
use Rattle.statement_costs.proofs.Trees.{below_loop, nests_loop, nests_of, reached_loop, uses_loop}
use Rattle.statement_costs.proofs.Walks.{AreAt, at_front, at_same, found_at, path_same}

-- what a loop's sums tell of its body
pub starts_loop : (s : Statement) (innermost : Option ℕ) (bound : List ℕ) (from v : ℕ) (seeks : List Seek) (body : LoopCode)
    → StartsInPlace s innermost bound from (Loop v seeks body)
    → IsBehind s innermost bound from (concrete_of body) × (contains bound v ≡ false) × StartsInPlace s (Some v) (v ∷ bound) 0 body
unfolding hidden-the_row-LoopCode-0 hidden
starts_loop s innermost bound from v seeks body h = h

pub reads_loop : (s : Statement) (v : ℕ) (seeks : List Seek) (body : LoopCode) (k : ℕ)
    → reads_any s (concrete_of (Loop v seeks body)) k ≡ reads_any s (concrete_of body) k
reads_loop s v seeks body k = ap (λ u. through s (length s.sums) u k) (λ i j. uses_loop j v seeks body i)

-- the same remains of an expression where its accesses are there alike
pub remains_alike : (P Q : ℕ → Bool) (e : Expr) → ((k : ℕ) → has_access e k ≡ true → P k ≡ Q k) → remains P e ≡ remains Q e
remains_alike P Q e same =
    same_if (remains P e) (remains Q e) (less_remains P Q e (λ k is h. sym (same k is) ∙ h)) (less_remains Q P e (λ k is h. same k is ∙ h))

-- what is one of two or none
chosen : (o z : Option Span) → (o ≡ z) ⊎ (o ≡ None) → o ≡ (if is_some o then z else None)
chosen None z h = refl
chosen (Some p) z (inl same) = same
chosen (Some p) z (inr none) = absurd (apart none)
  where
    apart : Some p ≡ None → ⊥
    apart e = cc

module _ (s : Statement) (formats : List (List FormatLevel)) (stored : Stored) (ranges : ℕ → ℕ) (order : List ℕ)
    (allows : Allows s formats order) where
  abbrev layout : Layout
  layout = layout_of s formats

  -- the variables of an access's levels are its own
  own_variable : (k e : ℕ) → e < layout.levels k → contains (vars_at s k) (slice_index_or (variables_at s formats k) e 0) ≡ true
  own_variable k e l = by (less_or_not k (length s.accesses))
    where
      by : (k < length s.accesses) ⊎ (length s.accesses ≤ k)
          → contains (vars_at s k) (slice_index_or (variables_at s formats k) e 0) ≡ true
      by (inl below) =
          let all = allows.whole (vars_at s k) k below (all_bound (vars_at s k) (vars_at s k) (λ w h. h)) in
          reached_bound (vars_at s k) (variables_at s formats k) e 0 (subst (λ n. e < n) (sym all) l)
      by (inr past) =
          let none : layout.levels k ≡ 0 = ap (λ (a : Option Access). length (variables_of formats a)) (slice_get_past s.accesses k past) in
          absurd (omega (arith, none, l))

  path_local : (k : ℕ) (p q : ℕ → ℕ) → ((w : ℕ) → contains (vars_at s k) w ≡ true → p w ≡ q w)
      → path_span layout stored k (layout.levels k) p ≡ path_span layout stored k (layout.levels k) q
  path_local k p q same =
      path_same layout stored k (layout.levels k) p q (λ e l. same (slice_index_or (variables_at s formats k) e 0) (own_variable k e l))

  -- whether an access is present is told by its variables' coordinates
  pub present_local : (n : ℕ) → n ≤ length s.sums → (k : ℕ) (p q : ℕ → ℕ) → ((w : ℕ) → contains (vars_at s k) w ≡ true → p w ≡ q w)
      → present_at s formats stored ranges n p k ≡ present_at s formats stored ranges n q k
  present_local zero top k p q same = ap is_some (path_local k p q same)
  present_local (suc n) top k p q same = by (nat_eq (first_sum s + n) k) refl (present_local n (omega (arith, top)))
    where
      v : ℕ
      v = (sum_at s n).var

      same_by : (a b : ℕ) → nat_eq a b ≡ true → a ≡ b
      same_by a b h = grind (arith, nat_tests, h)

      free : first_sum s + n ≡ k → (j w : ℕ) → has_access (sum_at s n).inside j ≡ true → contains (vars_at s j) w ≡ true
          → contains (v ∷ vars_at s k) w ≡ true
      free is j w there has =
          subst (λ i. contains (v ∷ vars_at s i) w ≡ true) is
          (allows.sums.free n (omega (arith, top)) w
          (stands_by s.accesses w j (sum_at s n).inside there (at_access w (slice_get s.accesses j) ∙ has)))

      inside_same : first_sum s + n ≡ k → (x j : ℕ) → has_access (sum_at s n).inside j ≡ true → (w : ℕ)
          → contains (vars_at s j) w ≡ true → with_coordinate p v x w ≡ with_coordinate q v x w
      inside_same is x j there w has = elim (eqb_tells v w) [
        | inl e ↦ subst (λ u. with_coordinate p v x u ≡ with_coordinate q v x u) e.1 (coordinate_same p v x ∙ sym (coordinate_same q v x))
        | inr e ↦ coordinate_other p v x w e.1
            ∙ same w (or_so (nat_eq v w) (contains (vars_at s k) w) (free is j w there has) e.0)
            ∙ sym (coordinate_other q v x w e.1)
      ]

      by : (b : Bool) → nat_eq (first_sum s + n) k ≡ b
          → ((k : ℕ) (p q : ℕ → ℕ) → ((w : ℕ) → contains (vars_at s k) w ≡ true → p w ≡ q w)
          → present_at s formats stored ranges n p k ≡ present_at s formats stored ranges n q k)
          → (if b
          then some_below (ranges v) (λ x. remains (present_at s formats stored ranges n (with_coordinate p v x)) (sum_at s n).inside)
          else present_at s formats stored ranges n p k)
          ≡ (if b
          then some_below (ranges v) (λ x. remains (present_at s formats stored ranges n (with_coordinate q v x)) (sum_at s n).inside)
          else present_at s formats stored ranges n q k)
      by true is before =
          some_same (ranges v)
          (λ x. remains (present_at s formats stored ranges n (with_coordinate p v x)) (sum_at s n).inside)
          (λ x. remains (present_at s formats stored ranges n (with_coordinate q v x)) (sum_at s n).inside)
          (λ x. remains_alike (present_at s formats stored ranges n (with_coordinate p v x))
          (present_at s formats stored ranges n (with_coordinate q v x)) (sum_at s n).inside
          (λ j there. before j (with_coordinate p v x) (with_coordinate q v x)
          (inside_same (same_by (first_sum s + n) k is) x j there)))
      by false is before = before k p q same

  -- a sum has no level to be found
  no_depth : (bound : List ℕ) (k d : ℕ) → first_sum s ≤ k → d ≡ reached bound (variables_at s formats k) → d ≡ 0
  no_depth bound k d low is =
      let none = none_behind s formats allows.sums k low in
      let within = reached_within bound (variables_at s formats k) in
      omega (arith, is, none, within)

  module _ (outer : ℕ → Bool) (innermost : Option ℕ) (bound : List ℕ) (from : ℕ) (depth : ℕ → ℕ) (v : ℕ) (seeks : List Seek)
      (body : LoopCode) (laid : IsLaid s formats stored ranges outer innermost bound from depth (Loop v seeks body)) where
    abbrev told : IsBehind s innermost bound from (concrete_of body) × (contains bound v ≡ false)
        × StartsInPlace s (Some v) (v ∷ bound) 0 body
    told = starts_loop s innermost bound from v seeks body laid.starts

    abbrev placed_here : (contains bound v ≡ false) × AreSeeks (layout_of s formats) (length s.accesses) v bound depth depth seeks
        × IsWellPlaced (layout_of s formats) (length s.accesses) (v ∷ bound) (depth_after seeks depth) body
    placed_here = placed_loop (layout_of s formats) (length s.accesses) bound depth v seeks body laid.placed

    pub laid_inside : IsLaid s formats stored ranges outer (Some v) (v ∷ bound) 0 (depth_after seeks depth) body
    laid_inside = record {
      placed = placed_here.2;
      finds = (reached_loop s formats bound depth v seeks body laid.finds).1;
      reached = (reached_loop s formats bound depth v seeks body laid.finds).0;
      below = (below_loop s v seeks body laid.below).1;
      starts = told.2;
      covers = λ j read low out.
          started_inside s bound v j told.1
          (started_known s innermost bound from j (laid.covers j (reads_loop s v seeks body j ∙ read) low out));
      covered = λ j read low is.
          laid.covered j (reads_loop s v seeks body j ∙ read) low
          (started_so s innermost bound from j (started_outside s bound v j is) (λ may. elim (less_or_not j from) [
            | inl less ↦ less
            | inr over ↦ absurd (told.0.none j over low read may)
          ]));
    }

    -- the loop has the terms of its body
    pub same_some : (f : Expr → Bool)
        → some_term f (terms_of s formats stored ranges outer (Loop v seeks body))
        ≡ some_term f (terms_of s formats stored ranges outer body)
    same_some f =
        ap (λ ns. some_term f (opened_group s outer ns)) (nests_loop v seeks body)
        ∙ sym (ap (some_term f) (inside_others (in_place s outer (length s.sums)) v (nests_of body)))
        ∙ some_inside f v (terms_of s formats stored ranges outer body)

    module _ (exact : Bool) (env : Env) (there : IsThere s formats stored ranges exact outer bound (Loop v seeks body) env) (x : ℕ) where
      abbrev inner : Env
      inner = moved (layout_of s formats) stored v seeks env x

      abbrev point : ℕ → ℕ
      point = with_coordinate env.point v x

      leaf_outside : (k : ℕ) → some_uses (terms_of s formats stored ranges outer body) k ≡ true
          → some_uses (terms_of s formats stored ranges outer (Loop v seeks body)) k ≡ true
      leaf_outside k h = same_some (λ e. has_access e k) ∙ h

      depth_is : (k : ℕ) → some_uses (terms_of s formats stored ranges outer body) k ≡ true
          → depth k ≡ reached bound (variables_at s formats k)
      depth_is k h =
          laid.reached k
          (leaf s formats stored ranges allows.sums outer innermost bound from depth (Loop v seeks body) laid k (leaf_outside k h)).0

      inner_depth : (k : ℕ) → some_uses (terms_of s formats stored ranges outer body) k ≡ true
          → depth_after seeks depth k ≡ reached (v ∷ bound) (variables_at s formats k)
      inner_depth k h =
          laid_inside.reached k
          (leaf s formats stored ranges allows.sums outer (Some v) (v ∷ bound) 0 (depth_after seeks depth) body laid_inside k h).0

      -- of a sum that has started no coordinate of a variable that isn't bound tells anything
      sum_stays : (k : ℕ) → some_uses (terms_of s formats stored ranges outer body) k ≡ true → first_sum s ≤ k
          → present_at s formats stored ranges (length s.sums) env.point k ≡ present_at s formats stored ranges (length s.sums) point k
      sum_stays k h low =
          present_local (length s.sums) (omega arith) k env.point point
          (λ w has. sym (coordinate_other env.point v x w (λ same. clash w same has)))
        where
          known : has_started s bound k ≡ true
          known = started_known s innermost bound from k ((leaf s formats stored ranges allows.sums outer innermost bound from depth
              (Loop v seeks body) laid k (leaf_outside k h)).1 low)

          not_both : (b : Bool) → b ≡ true → b ≡ false → ⊥
          not_both b g e = cc

          clash : (w : ℕ) → v ≡ w → contains (vars_at s k) w ≡ true → ⊥
          clash w same has =
              not_both (contains bound v) (ap (contains bound) same ∙ one_bound bound (vars_at s k) known w has) told.1

      high : (k : ℕ) → nat_lt k (first_sum s) ≡ false → first_sum s ≤ k
      high k e = grind (arith, nat_tests, e)

      cursor_before : (k : ℕ) → some_uses (terms_of s formats stored ranges outer body) k ≡ true
          → env.cursor k ≡ (if here env k then path_span layout stored k (depth k) point else None)
      cursor_before k h = chosen (env.cursor k) (path_span layout stored k (depth k) point) (by (there.some k (leaf_outside k h)))
        where
          spans : (b : Bool) → nat_lt k (first_sum s) ≡ b
              → env.cursor k ≡ (if b then at s formats stored bound env.point k
              else some_if (present_at s formats stored ranges (length s.sums) env.point k))
              → (env.cursor k ≡ path_span layout stored k (depth k) point) ⊎ (env.cursor k ≡ None)
          spans true e is =
              inl (is ∙ at_same s formats stored bound v x env.point k told.1
              ∙ ap (λ n. path_span layout stored k n point) (sym (depth_is k h)))
          spans false e is = present (present_at s formats stored ranges (length s.sums) env.point k) is
            where
              present : (c : Bool) → env.cursor k ≡ some_if c
                  → (env.cursor k ≡ path_span layout stored k (depth k) point) ⊎ (env.cursor k ≡ None)
              present true f =
                  inl (f ∙ ap (λ n. path_span layout stored k n point) (sym (no_depth bound k (depth k) (high k e) (depth_is k h))))
              present false f = inr f

          by : (env.cursor k ≡ place s formats stored ranges bound env.point k) ⊎ (env.cursor k ≡ None)
              → (env.cursor k ≡ path_span layout stored k (depth k) point) ⊎ (env.cursor k ≡ None)
          by (inl is) = spans (nat_lt k (first_sum s)) refl is
          by (inr none) = inr none

      inner_at : AreAt layout stored (some_uses (terms_of s formats stored ranges outer body)) (here env) (depth_after seeks depth) point
          inner
      inner_at =
          found_at layout stored (length s.accesses) v bound depth (some_uses (terms_of s formats stored ranges outer body)) (here env)
          point depth seeks (at_variable env v x) placed_here.1 (record { point = refl; cursor = cursor_before })

      -- an access that is there outside is where the coordinates lead
      arrived : (k : ℕ) → some_uses (terms_of s formats stored ranges outer body) k ≡ true → here env k ≡ true
          → inner.cursor k ≡ place s formats stored ranges (v ∷ bound) inner.point k
      arrived k h is =
          inner_at.cursor k h ∙ ap (λ b. if b then path_span layout stored k (depth_after seeks depth k) point else None) is
          ∙ by (nat_lt k (first_sum s)) refl
          ∙ ap (λ (p : ℕ → ℕ). place s formats stored ranges (v ∷ bound) p k) (sym inner_at.point)
        where
          there_before : nat_lt k (first_sum s) ≡ false → present_at s formats stored ranges (length s.sums) env.point k ≡ true
          there_before e =
              sym (some_told (present_at s formats stored ranges (length s.sums) env.point k))
              ∙ sym (ap (λ b. is_some (if b then at s formats stored bound env.point k
              else some_if (present_at s formats stored ranges (length s.sums) env.point k))) e)
              ∙ place_there s formats stored ranges outer bound env.point k
              (leaf_started s formats stored ranges allows.sums outer innermost bound from depth (Loop v seeks body) laid k
              (leaf_outside k h))
              ∙ less_there s formats stored ranges allows.sums outer innermost bound from depth (Loop v seeks body) laid exact env there k
              (leaf_outside k h) is

          by : (b : Bool) → nat_lt k (first_sum s) ≡ b → path_span layout stored k (depth_after seeks depth k) point
              ≡ (if b then at s formats stored (v ∷ bound) point k
              else some_if (present_at s formats stored ranges (length s.sums) point k))
          by true e = ap (λ n. path_span layout stored k n point) (inner_depth k h)
          by false e =
              ap (λ n. path_span layout stored k n point) (no_depth (v ∷ bound) k (depth_after seeks depth k) (high k e) (inner_depth k h))
              ∙ ap some_if (sym (sym (sum_stays k h (high k e)) ∙ there_before e))

      front : (k : ℕ) → some_uses (terms_of s formats stored ranges outer body) k ≡ true
          → is_there s formats stored ranges outer (v ∷ bound) inner.point k ≡ true
          → is_there s formats stored ranges outer bound env.point k ≡ true
      front k h is =
          sym (place_there s formats stored ranges outer bound env.point k started)
          ∙ by (nat_lt k (first_sum s)) refl
          (ap (λ (p : ℕ → ℕ). is_some (place s formats stored ranges (v ∷ bound) p k)) (sym inner_at.point)
          ∙ place_there s formats stored ranges outer (v ∷ bound) inner.point k started ∙ is)
        where
          started : first_sum s ≤ k → outer k ≡ true
          started = leaf_started s formats stored ranges allows.sums outer innermost bound from depth (Loop v seeks body) laid k
              (leaf_outside k h)

          by : (b : Bool) → nat_lt k (first_sum s) ≡ b
              → is_some (if b then at s formats stored (v ∷ bound) point k
              else some_if (present_at s formats stored ranges (length s.sums) point k)) ≡ true
              → is_some (if b then at s formats stored bound env.point k
              else some_if (present_at s formats stored ranges (length s.sums) env.point k)) ≡ true
          by true e g = at_front s formats stored bound v x env.point k told.1 g
          by false e g = ap (λ c. is_some (some_if c)) (sum_stays k h (high k e)) ∙ g

      -- what stands in the part that remains at the coordinate stood there before
      inner_part : (k : ℕ) → in_part s formats stored ranges outer (v ∷ bound) inner.point body k ≡ true
          → in_part s formats stored ranges outer bound env.point (Loop v seeks body) k ≡ true
      inner_part k h =
          same_some (λ e. is_live (is_there s formats stored ranges outer bound env.point) e k)
          ∙ some_less (is_there s formats stored ranges outer bound env.point)
          (is_there s formats stored ranges outer (v ∷ bound) inner.point)
          (λ e. is_live (is_there s formats stored ranges outer (v ∷ bound) inner.point) e k)
          (λ e. is_live (is_there s formats stored ranges outer bound env.point) e k)
          (less_live (is_there s formats stored ranges outer (v ∷ bound) inner.point)
          (is_there s formats stored ranges outer bound env.point) k)
          (terms_of s formats stored ranges outer body) front h

      pub there_inside : IsThere s formats stored ranges exact outer (v ∷ bound) body inner
      there_inside = record {
        some = λ k h. by k (here env k) refl h;
        live = λ e k h. arrived k
            (some_stands (is_there s formats stored ranges outer (v ∷ bound) inner.point) (terms_of s formats stored ranges outer body) k h)
            (live_there s formats stored ranges allows.sums outer innermost bound from depth (Loop v seeks body) laid exact env there e k
            (inner_part k h));
      }
        where
          by : (k : ℕ) (b : Bool) → here env k ≡ b → some_uses (terms_of s formats stored ranges outer body) k ≡ true
              → (inner.cursor k ≡ place s formats stored ranges (v ∷ bound) inner.point k) ⊎ (inner.cursor k ≡ None)
          by k true is h = inl (arrived k h is)
          by k false is h =
              inr (inner_at.cursor k h ∙ ap (λ b. if b then path_span layout stored k (depth_after seeks depth k) point else None) is)

      pub inner_point : inner.point ≡ point
      inner_point = inner_at.point
