-- One loop of some loops: what it has in common with its group, and that its length and its repeated coordinates are at most the group's.
use Rattle.std.specs.Prelude.{◌≡◌, ◌⊎◌, ℕ, suc, ◌+◌, ◌-◌, ◌≤◌, ◌<◌, not, Bool, true, false, ◌&&◌, if◌then◌else◌, List, [], ◌∷◌, length}
use Rattle.std.specs.Prelude.{Option, Some, None, refl}
use Rattle.std.proofs.Common.{◌∙◌, sym, ap, subst, arith, inl, inr}
use Rattle.level_core.specs.declared.span.Span.{Span}
use Rattle.level_core.specs.declared.span.Entry.{Entry as LevelEntry}
use Rattle.format_spec.specs.declared.format.FormatLevel.{FormatLevel}
use Rattle.index_notation.specs.declared.syntax.Statement.{Statement}
use Rattle.lists.specs.Each.{Each}
use Rattle.expr_terms.specs.Terms.{contains}
use Rattle.concrete_notation.specs.Nests.{Nest}
use Rattle.loop_code.specs.declared.loops.LoopCode.{LoopCode}
use Rattle.loop_code.specs.declared.loops.Seek.{Seek}
use Rattle.loop_code.specs.Loops.{Stored, Env}
use Rattle.loop_code.specs.Parts.{entries_at, entries_of, here, is_full, is_full_below, is_live, is_other}
use Rattle.loop_code.specs.Places.{AreSeeks, depth_after}
use Rattle.loop_code.specs.Turns.{lengths, repeated, repeats, weight_of}
use Rattle.lowering.specs.Layouts.{layout_of}
use Rattle.lowering.specs.Lowered.{concrete_of}
use Rattle.lowering.specs.Seeking.{reached}
use Rattle.lowering.specs.Shapes.{AreReached, variables_at}
use Rattle.lowering.specs.Sums.{first_sum, reads_any}
use Rattle.statement_costs.specs.Costs.{HaveGroups, at, group_length, group_repeats, groups_length, has_started, is_full_group, is_here}
use Rattle.statement_costs.specs.Costs.{is_walked, next_level, opened_group, segment, segment_length, some_term, sum_walked}
use Rattle.statement_costs.proofs.Opened.{less_or_not}
use Rattle.statement_costs.proofs.Parts.{full_other, some_uses}
use Rattle.statement_costs.proofs.Trees.{loop_length, loop_repeats, nests_of}
use Rattle.statement_costs.proofs.Walks.{walked_at, walked_same}
use Rattle.statement_costs.proofs.Lengths.{length_weight, seeks_most, weight_none}

module _ (s : Statement) (formats : List (List FormatLevel)) (stored : Stored) (ranges : ℕ → ℕ) where
  -- the terms of a loop's body, where what is summed stands in the places of the sums that haven't started
  abbrev pub group_at : List ℕ → LoopCode → List Nest
  group_at bound body = opened_group s (has_started s bound) (nests_of body)

  -- whether an access stands in the part of them that remains
  abbrev pub in_group : List ℕ → (ℕ → ℕ) → LoopCode → ℕ → Bool
  in_group bound point body k = some_term (λ e. is_live (is_here s formats stored ranges bound point) e k) (group_at bound body)

  -- a loop over a variable, without the accesses that stand in no part of it
  pub record IsStep (bound : List ℕ) (depth : ℕ → ℕ) (v : ℕ) (seeks : List Seek) (body : LoopCode) (env : Env) : Type 0 where
    pub fresh : contains bound v ≡ false
    pub are : AreSeeks (layout_of s formats) (length s.accesses) v bound depth depth seeks
    pub below : Each (λ (x : Seek). reads_any s (concrete_of body) x.access ≡ true) seeks
    pub outer : AreReached s formats bound depth (concrete_of body)
    pub inner : AreReached s formats (v ∷ bound) (depth_after seeks depth) (concrete_of body)
    pub full : (F : ℕ → Bool) → is_full_below F (here env) body
        ≡ some_term (is_full F (is_here s formats stored ranges bound env.point)) (group_at bound body)
    pub stands : (k : ℕ) → some_uses (group_at bound body) k ≡ true → reads_any s (concrete_of body) k ≡ true
    pub cursor : (k : ℕ) → k < first_sum s → env.cursor k
        ≡ (if in_group bound env.point body k then at s formats stored bound env.point k else None)
    pub sums : (k : ℕ) → first_sum s ≤ k → (layout_of s formats).levels k ≡ 0

  module _ (bound : List ℕ) (depth : ℕ → ℕ) (v : ℕ) (seeks : List Seek) (body : LoopCode) (env : Env)
      (step : IsStep bound depth v seeks body env) where
    abbrev live : ℕ → Bool
    live = in_group bound env.point body

    abbrev used : ℕ → Bool
    used = reads_any s (concrete_of body)

    -- an access that has a level is no sum
    pub step_real : (k level d : ℕ) → level ≡ suc d → level ≤ (layout_of s formats).levels k → k < first_sum s
    step_real k level d is within = by (less_or_not k (first_sum s))
      where
        by : (k < first_sum s) ⊎ (first_sum s ≤ k) → k < first_sum s
        by (inl less) = less
        by (inr over) = let none = step.sums k over in absurd (omega (arith, none, is, within))

    -- the loop is full where its group is
    step_full : is_full_below (is_other seeks) (here env) body
        ≡ is_full_group s formats stored ranges (group_at bound body) bound env.point v
    step_full =
        step.full (is_other seeks)
        ∙ full_other (is_other seeks) (λ k. not (is_walked s formats bound v k)) (is_here s formats stored ranges bound env.point)
        (group_at bound body)
        (λ k is. ap not (walked_same s formats stored bound (length s.accesses) v depth seeks k step.are
        (step.outer k (step.stands k is)) (step.inner k (step.stands k is))))

    -- what is stored below an access that is gone through
    step_entries : (x : Seek) → used x.access ≡ true → x.level ≡ suc (depth x.access)
        → x.level ≤ (layout_of s formats).levels x.access
        → entries_at stored env x
        ≡ (if live x.access then segment s formats stored bound env.point x.access else [])
    step_entries x is level within =
        ap (λ o. entries_of stored o x.access x.level) (step.cursor x.access (step_real x.access x.level (depth x.access) level within))
        ∙ ap (λ n. entries_of stored (if live x.access then at s formats stored bound env.point x.access else None) x.access n)
        (level ∙ ap suc (step.outer x.access is))
        ∙ by (live x.access)
      where
        by : (b : Bool)
            → entries_of stored (if b then at s formats stored bound env.point x.access else None) x.access
            (next_level s formats bound x.access)
            ≡ (if b then segment s formats stored bound env.point x.access else [])
        by true = refl
        by false = refl

    pub step_walked : (x : Seek) → used x.access ≡ true → x.level ≡ suc (depth x.access)
        → (layout_of s formats).full x.access x.level ≡ false → (layout_of s formats).variable x.access x.level ≡ v
        → x.level ≤ (layout_of s formats).levels x.access → is_walked s formats bound v x.access ≡ true
    step_walked x is level part own within =
        walked_at s formats stored bound v x.access (depth x.access) (step.outer x.access is)
        (subst (λ n. (layout_of s formats).full x.access n ≡ false) level part)
        (subst (λ n. (layout_of s formats).variable x.access n ≡ v) level own)
        (subst (λ n. n ≤ (layout_of s formats).levels x.access) level within)

    -- a number of the entries of each segment is summed by the loop over no more than by the group
    module _ (of_seek : Seek → List LevelEntry → ℕ) (of_access : ℕ → ℕ) (nothing : (x : Seek) → of_seek x [] ≡ 0)
        (most : (x : Seek) → used x.access ≡ true → x.access < length s.accesses → x.level ≡ suc (depth x.access)
        → x.level ≤ (layout_of s formats).levels x.access
        → of_seek x (segment s formats stored bound env.point x.access) ≤ of_access x.access) where
      summed : (x : Seek) → used x.access ≡ true → x.access < length s.accesses → x.level ≡ suc (depth x.access)
          → (layout_of s formats).full x.access x.level ≡ false → (layout_of s formats).variable x.access x.level ≡ v
          → x.level ≤ (layout_of s formats).levels x.access
          → of_seek x (entries_at stored env x)
          ≤ (if live x.access && is_walked s formats bound v x.access then of_access x.access else 0)
      summed x is below level part own within =
          subst (λ es. of_seek x es ≤ (if live x.access && is_walked s formats bound v x.access then of_access x.access else 0))
          (sym (step_entries x is level within))
          (subst (λ w. of_seek x (if live x.access then segment s formats stored bound env.point x.access else [])
          ≤ (if live x.access && w then of_access x.access else 0)) (sym (step_walked x is level part own within))
          (by (live x.access)))
        where
          by : (b : Bool) → of_seek x (if b then segment s formats stored bound env.point x.access else [])
              ≤ (if b && true then of_access x.access else 0)
          by true = most x is below level within
          by false = let none = nothing x in omega (arith, none)

      pub sum_most : (sum : List Seek → ℕ) → sum [] ≡ 0
          → ((x : Seek) (xs : List Seek) → sum (x ∷ xs) ≡ (if x.full then 0 else of_seek x (entries_at stored env x)) + sum xs)
          → sum seeks ≤ sum_walked s formats stored ranges of_access (group_at bound body) bound env.point v
      sum_most sum none next =
          seeks_most (layout_of s formats) (length s.accesses) v bound depth used
          (λ x. of_seek x (entries_at stored env x))
          (λ k. if live k && is_walked s formats bound v k then of_access k else 0) summed sum none next seeks step.are step.below

    -- the repeated coordinates of the loop
    pub repeats_most : loop_repeats (layout_of s formats) stored ranges v seeks body env
        ≤ group_repeats s formats stored ranges (group_at bound body) bound env.point v
    repeats_most =
        sum_most (λ x es. weight_of (repeats (layout_of s formats) x) es) (groups_length s formats stored bound env.point) (λ x. refl)
        (λ x is below level within. at_level x.access x.level (level ∙ ap suc (step.outer x.access is)))
        (λ xs. repeated (layout_of s formats) stored env xs) refl (λ x xs. refl)
      where
        by : (u : Bool) (es : List LevelEntry) → weight_of (λ e. if u then 0 else e.child.hi - e.child.lo) es
            ≤ (if u then 0 else weight_of (λ e. if u then 1 else e.child.hi - e.child.lo) es)
        by true es = let none = weight_none es in omega (arith, none)
        by false es = omega arith

        at_level : (k level : ℕ) → level ≡ next_level s formats bound k
            → weight_of (λ e. if (layout_of s formats).unique k level then 0 else e.child.hi - e.child.lo)
            (segment s formats stored bound env.point k)
            ≤ groups_length s formats stored bound env.point k
        at_level k level same =
            subst (λ n. weight_of (λ e. if (layout_of s formats).unique k n then 0 else e.child.hi - e.child.lo)
            (segment s formats stored bound env.point k) ≤ groups_length s formats stored bound env.point k) (sym same)
            (by ((layout_of s formats).unique k (next_level s formats bound k)) (segment s formats stored bound env.point k))

    -- and its length
    pub length_most : HaveGroups s formats stored → loop_length (layout_of s formats) stored ranges v seeks body env
        ≤ group_length s formats stored ranges (group_at bound body) bound env.point v
    length_most groups =
        subst (λ b. (if is_full_below (is_other seeks) (here env) body then ranges v else lengths stored env seeks)
        ≤ (if b then ranges v else sum_walked s formats stored ranges (segment_length s formats stored bound env.point)
        (group_at bound body) bound env.point v))
        step_full
        (by (is_full_below (is_other seeks) (here env) body)
        (sum_most (λ x es. length es) (segment_length s formats stored bound env.point) (λ x. refl)
        (λ x is below level within. segment_most x.access below
        (let at_last : suc (reached bound (variables_at s formats x.access)) ≤ (layout_of s formats).levels x.access =
        subst (λ n. n ≤ (layout_of s formats).levels x.access) (level ∙ ap suc (step.outer x.access is)) within in
        omega (arith, at_last)))
        (λ xs. lengths stored env xs) refl (λ x xs. refl)))
      where
        by : (b : Bool) {m n : ℕ} → m ≤ n → (if b then ranges v else m) ≤ (if b then ranges v else n)
        by true l = omega arith
        by false l = l

        segment_most : (k : ℕ) → k < length s.accesses
            → reached bound (variables_at s formats k) < (layout_of s formats).levels k
            → length (segment s formats stored bound env.point k) ≤ segment_length s formats stored bound env.point k
        segment_most k below within =
            length_weight ((layout_of s formats).unique k (next_level s formats bound k)) (segment s formats stored bound env.point k)
            (λ not_unique. each (at s formats stored bound env.point k)
            (λ p is. groups k (reached bound (variables_at s formats k)) env.point p below within not_unique is))
          where
            each : (o : Option Span)
                → ((p : Span) → o ≡ Some p
                → Each (λ (e : LevelEntry). e.child.lo < e.child.hi) (stored.entries k (next_level s formats bound k) p))
                → Each (λ (e : LevelEntry). e.child.lo < e.child.hi) (entries_of stored o k (next_level s formats bound k))
            each None f = tt
            each (Some p) f = f p refl
