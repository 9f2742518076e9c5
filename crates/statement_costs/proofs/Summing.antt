-- Sums start where they are told to be present, and whoever reads them finds them so.
use Rattle.std.specs.Prelude.{◌≡◌, ◌⊎◌, ℕ, zero, suc, ◌+◌, ◌≤◌, ◌<◌, nat_eq, nat_lt, not, Bool, true, false, ◌||◌, ◌&&◌, if◌then◌else◌}
use Rattle.std.specs.Prelude.{List, [], ◌∷◌, ◌++◌, length, map, Option, Some, None, refl}
use Rattle.std.proofs.Common.{◌∙◌, sym, ap, subst, arith, inl, inr}
use Rattle.std.proofs.lemmas.Bool.Decides.{nat_tests}
use Rattle.std.proofs.lemmas.List.{map-append}
use denote.Hole.Carrier.{hidden}
use Rattle.level_core.specs.declared.span.Span.{Span}
use Rattle.format_spec.specs.declared.format.FormatLevel.{FormatLevel}
use Rattle.tensor_storage.specs.Children.{child_of}
use Rattle.index_notation.specs.declared.syntax.Expr.{Expr, Access as AccessOf}
use Rattle.index_notation.specs.declared.syntax.Statement.{Statement}
use Rattle.expr_terms.specs.Points.{with_coordinate}
use Rattle.expr_terms.specs.declared.term.Term.{Term}
use Rattle.concrete_notation.specs.declared.concrete.Concrete.TheBlock.{hidden-the_row-Concrete-0}
use Rattle.concrete_notation.specs.Nests.{Nest, inside, nests}
use Rattle.loop_code.specs.declared.loops.LoopCode.{LoopCode, Loop, Both, Add, Sum}
use Rattle.loop_code.specs.declared.loops.LoopCode.TheBlock.{hidden-the_row-LoopCode-0}
use Rattle.loop_code.specs.declared.loops.Seek.{Seek}
use Rattle.loop_code.specs.Loops.{Layout, Stored, Env, at_cursor, at_variable, follow, found, moved, sought}
use Rattle.loop_code.specs.Opened.{put_at, whole}
use Rattle.loop_code.specs.Parts.{given, here, is_live, is_live_below, is_some, remains, remains_below}
use Rattle.loop_code.specs.Places.{depth_after}
use Rattle.loop_code.specs.Turns.{adds_some, some_below, some_if}
use Rattle.loop_code.proofs.Equations.{placed_both, placed_sum}
use Rattle.lowering.specs.Held.{path_span}
use Rattle.lowering.specs.Layouts.{layout_of}
use Rattle.lowering.specs.Lowered.{concrete_of}
use Rattle.lowering.specs.Seeking.{has_access, uses}
use Rattle.lowering.specs.Shapes.{Allows}
use Rattle.lowering.specs.Sums.{first_sum, reads_any, sum_at, sum_tree}
use Rattle.lowering.proofs.Accesses.{of_access}
use Rattle.lowering.proofs.Through.{so_both, sum_of_list, through_uses, under}
use Rattle.statement_costs.specs.Costs.{at, has_started, in_place, is_there, opened_group, present_at, some_term, with_others}
use Rattle.lowering.specs.Starts.{IsBehind, IsNext, MayStart, StartsInPlace}
use Rattle.statement_costs.proofs.Here.{IsLaid, IsThere, in_part, leaf, leaf_is, place, place_there, remains_is}
use Rattle.statement_costs.proofs.Here.{remains_less, some_told, terms_of}
use Rattle.statement_costs.proofs.Leaves.{by_side, whole_follows}
use Rattle.statement_costs.proofs.Moves.{inner_point, laid_inside, remains_alike, there_inside}
use Rattle.statement_costs.proofs.Opened.{Started, before_it, behind_it, but_it, inside_read, into, live_here, past_it, remains_here}
use Rattle.statement_costs.proofs.Opened.{started_so}
use Rattle.statement_costs.proofs.Parts.{less_live, less_remains, or_left, or_more, or_right, some_both, some_less, some_present}
use Rattle.statement_costs.proofs.Parts.{some_stands, some_uses}
use Rattle.statement_costs.proofs.Trees.{below_sum, below_two, by_parts, concrete_sum, live_sum, nests_loop, nests_of, nests_sum, nests_two}
use Rattle.statement_costs.proofs.Trees.{reached_sum, reached_two, uses_two}

same_by : (a b : ℕ) → nat_eq a b ≡ true → a ≡ b
same_by a b h = grind (arith, nat_tests, h)

self : (k : ℕ) → nat_eq k k ≡ true
self k = grind (arith, nat_tests)

-- ---- what is so of some coordinate
below_more : (n : ℕ) (f g : ℕ → Bool) → ((x : ℕ) → f x ≡ true → g x ≡ true) → some_below n f ≡ true → some_below n g ≡ true
below_more zero f g more h = h
below_more (suc n) f g more h = or_more (some_below n f) (f n) (some_below n g) (g n) (below_more n f g more) (more n) h

below_one : (X : Type 0) (n : ℕ) (f : ℕ → Bool) → some_below n f ≡ true → ((x : ℕ) → f x ≡ true → X) → X
below_one X zero f h g = absurd (cc h)
below_one X (suc n) f h g = by_side X (some_below n f) (f n) h (λ before. below_one X n f before g) (g n)

below_none : (n : ℕ) → some_below n (λ x. false) ≡ false
below_none zero = refl
below_none (suc n) = ap (λ b. b || false) (below_none n)

below_or : (n : ℕ) (f g : ℕ → Bool) → (some_below n f || some_below n g) ≡ some_below n (λ x. f x || g x)
below_or zero f g = refl
below_or (suc n) f g =
    by (some_below n f) (f n) (some_below n g) (g n) ∙ ap (λ b. b || (f n || g n)) (below_or n f g)
  where
    by : (a b c d : Bool) → ((a || b) || (c || d)) ≡ ((a || c) || (b || d))
    by true b c d = refl
    by false true true d = refl
    by false true false d = refl
    by false false c d = refl

-- ---- where a loop adds something a part of it remained
module _ (layout : Layout) (stored : Stored) (ranges : ℕ → ℕ) where
  found_less : (seeks : List Seek) (env : Env) (k : ℕ) → here (found layout stored seeks env) k ≡ true → here env k ≡ true
  found_less [] env k h = h
  found_less (x ∷ seeks) env k h =
      by (nat_eq x.access k) refl (found_less seeks (at_cursor env x.access (sought layout stored env x.access x.level)) k h)
    where
      followed : (o : Option Span) (f : Span → Option Span) → is_some (follow o f) ≡ true → is_some o ≡ true
      followed None f g = g
      followed (Some p) f g = refl

      by : (b : Bool) → nat_eq x.access k ≡ b
          → is_some (if b then sought layout stored env x.access x.level else env.cursor k) ≡ true → here env k ≡ true
      by true is g =
          ap (λ i. is_some (env.cursor i)) (sym (same_by x.access k is))
          ∙ followed (env.cursor x.access)
          (λ p. child_of (stored.entries x.access x.level p) (env.point (layout.variable x.access x.level))) g
      by false is g = g

  abbrev Lasts : LoopCode → Type 0
  Lasts c = (env : Env) (Q : ℕ → Bool) → ((k : ℕ) → here env k ≡ true → Q k ≡ true) → adds_some layout stored ranges c env ≡ true
      → remains_below Q c ≡ true

  lasts_loop : (v : ℕ) (seeks : List Seek) (body : LoopCode) → Lasts body → Lasts (Loop v seeks body)
  unfolding hidden-the_row-LoopCode-0 hidden
  lasts_loop v seeks body more env Q f h =
      below_one (remains_below Q body ≡ true) (ranges v) (λ x. adds_some layout stored ranges body (moved layout stored v seeks env x)) h
      (λ x is. more (moved layout stored v seeks env x) Q (λ k there. f k (found_less seeks (at_variable env v x) k there)) is)

  lasts_both : (f g : LoopCode) → Lasts f → Lasts g → Lasts (Both f g)
  unfolding hidden-the_row-LoopCode-0 hidden
  lasts_both f g one two env Q less h =
      or_more (adds_some layout stored ranges f env) (adds_some layout stored ranges g env) (remains_below Q f) (remains_below Q g)
      (one env Q less) (two env Q less) h

  lasts_sum : (k : ℕ) (inside body : LoopCode) → Lasts inside → Lasts body → Lasts (Sum k inside body)
  unfolding hidden-the_row-LoopCode-0 hidden
  lasts_sum k inside body one two env Q less h =
      two (at_cursor env k (some_if (adds_some layout stored ranges inside env))) (given Q k (remains_below Q inside))
      (λ j. by j (nat_eq k j)) h
    where
      by : (j : ℕ) (b : Bool)
          → is_some (if b then some_if (adds_some layout stored ranges inside env) else env.cursor j) ≡ true
          → (if b then remains_below Q inside else Q j) ≡ true
      by j true is = one env Q less (sym (some_told (adds_some layout stored ranges inside env)) ∙ is)
      by j false is = less j is

  pub adds_last : (c : LoopCode) → Lasts c
  adds_last = by_parts Lasts lasts_loop lasts_both (λ t env Q less h. less_remains (here env) Q t.expr (λ k there. less k) h) lasts_sum

-- ---- sums that are told to be present
module _ (s : Statement) (formats : List (List FormatLevel)) (stored : Stored) (ranges : ℕ → ℕ) (order : List ℕ)
    (allows : Allows s formats order) where
  abbrev there_is : (ℕ → Bool) → List ℕ → (ℕ → ℕ) → ℕ → Bool
  there_is outer bound point = is_there s formats stored ranges outer bound point

  abbrev all : (ℕ → ℕ) → ℕ → Bool
  all point = present_at s formats stored ranges (length s.sums) point

  abbrev over : List ℕ → ((ℕ → ℕ) → Bool) → (ℕ → ℕ) → Bool
  over [] f point = f point
  over (v ∷ vs) f point = some_below (ranges v) (λ x. over vs f (with_coordinate point v x))

  -- whether a term is present at some point of its loops
  abbrev pub any : (ℕ → ℕ) → List Nest → Bool
  any point [] = false
  any point (n ∷ ns) = over n.loops (λ p. remains (all p) n.term.expr) point || any point ns

  any_both : (point : ℕ → ℕ) (xs ys : List Nest) → any point (xs ++ ys) ≡ (any point xs || any point ys)
  any_both point [] ys = refl
  any_both point (x ∷ xs) ys =
      ap (λ b. over x.loops (λ p. remains (all p) x.term.expr) point || b) (any_both point xs ys)
      ∙ by (over x.loops (λ p. remains (all p) x.term.expr) point)
    where
      by : (b : Bool) → (b || (any point xs || any point ys)) ≡ ((b || any point xs) || any point ys)
      by true = refl
      by false = refl

  any_inside : (v : ℕ) (point : ℕ → ℕ) (ns : List Nest)
      → any point (map (inside v) ns) ≡ some_below (ranges v) (λ x. any (with_coordinate point v x) ns)
  any_inside v point [] = sym (below_none (ranges v))
  any_inside v point (n ∷ ns) =
      ap (λ b. some_below (ranges v) (λ x. over n.loops (λ p. remains (all p) n.term.expr) (with_coordinate point v x)) || b)
      (any_inside v point ns)
      ∙ below_or (ranges v) (λ x. over n.loops (λ p. remains (all p) n.term.expr) (with_coordinate point v x))
      (λ x. any (with_coordinate point v x) ns)

  present_other : (n k : ℕ) (point : ℕ → ℕ) → nat_eq (first_sum s + n) k ≡ false
      → present_at s formats stored ranges (suc n) point k ≡ present_at s formats stored ranges n point k
  present_other n k point e =
      ap (λ b. if b then some_below (ranges (sum_at s n).var)
      (λ x. remains (present_at s formats stored ranges n (with_coordinate point (sum_at s n).var x)) (sum_at s n).inside)
      else present_at s formats stored ranges n point k) e

  apart : (a b : ℕ) → b < a → nat_eq a b ≡ false
  apart a b l = grind (arith, nat_tests, l)

  less_or_same : (m n : ℕ) → m ≤ n → (m < n) ⊎ (m ≡ n)
  less_or_same m n l = grind (arith, l)

  present_before : (m n k : ℕ) (point : ℕ → ℕ) → m ≤ n → k < first_sum s + m
      → present_at s formats stored ranges n point k ≡ present_at s formats stored ranges m point k
  present_before m zero k point l low =
      ap (λ i. present_at s formats stored ranges i point k) (let none : 0 ≡ m = omega (arith, l) in none)
  present_before m (suc n) k point l low = elim (less_or_same m (suc n) l) [
    | inl less ↦ present_other n k point (apart (first_sum s + n) k (omega (arith, low, less)))
        ∙ present_before m n k point (omega (arith, less)) low
    | inr same ↦ ap (λ i. present_at s formats stored ranges i point k) (sym same)
  ]

  -- a tensor's access is where its path is stored
  present_real : (k : ℕ) (point : ℕ → ℕ) → k < first_sum s
      → all point k ≡ is_some (path_span (layout_of s formats) stored k ((layout_of s formats).levels k) point)
  present_real k point low = present_before 0 (length s.sums) k point (omega arith) (omega (arith, low))

  any_sum : (n : ℕ) → n < length s.sums → (point : ℕ → ℕ) → any point (nests (sum_tree s n)) ≡ all point (first_sum s + n)
  unfolding hidden-the_row-Concrete-0 hidden
  any_sum n l point =
      or_none (some_below (ranges v) (λ x. remains (all (with_coordinate point v x)) (sum_at s n).inside))
      ∙ (λ i. some_below (ranges v) (λ x. each x i))
      ∙ sym (ap (λ b. if b then some_below (ranges v)
      (λ x. remains (present_at s formats stored ranges n (with_coordinate point v x)) (sum_at s n).inside)
      else present_at s formats stored ranges n point (first_sum s + n)) (self (first_sum s + n)))
      ∙ sym (present_before (suc n) (length s.sums) (first_sum s + n) point (omega (arith, l)) (omega arith))
    where
      v : ℕ
      v = (sum_at s n).var

      or_none : (b : Bool) → (b || false) ≡ b
      or_none true = refl
      or_none false = refl

      each : (x : ℕ) → remains (all (with_coordinate point v x)) (sum_at s n).inside
          ≡ remains (present_at s formats stored ranges n (with_coordinate point v x)) (sum_at s n).inside
      each x =
          remains_alike (all (with_coordinate point v x)) (present_at s formats stored ranges n (with_coordinate point v x))
          (sum_at s n).inside
          (λ j there. present_before n (length s.sums) j (with_coordinate point v x) (omega (arith, l))
          (of_access (λ i. i < first_sum s + n) (sum_at s n).inside j
          (under (first_sum s + n) (sum_at s n).inside
          (sum_of_list (length s.vars) (first_sum s) s.sums allows.sums.numbers n l).1) there))

  -- ---- two loops side by side
  module _ (outer : ℕ → Bool) (innermost : Option ℕ) (bound : List ℕ) (from : ℕ) (depth : ℕ → ℕ) (f g : LoopCode)
      (laid : IsLaid s formats stored ranges outer innermost bound from depth (Both f g)) where
    starts_two : StartsInPlace s innermost bound from (Both f g)
        → IsBehind s innermost bound from (concrete_of f) × IsBehind s innermost bound from (concrete_of g)
        × StartsInPlace s innermost bound from f × StartsInPlace s innermost bound from g
    unfolding hidden-the_row-LoopCode-0 hidden
    starts_two h = h

    read_first : (j : ℕ) → reads_any s (concrete_of f) j ≡ true → reads_any s (concrete_of (Both f g)) j ≡ true
    read_first j h =
        into s (length s.vars) allows.sums.numbers outer (concrete_of f) (concrete_of (Both f g))
        (λ k is. uses_two k f g ∙ or_left (uses (concrete_of f) k) (uses (concrete_of g) k) is) j h

    read_second : (j : ℕ) → reads_any s (concrete_of g) j ≡ true → reads_any s (concrete_of (Both f g)) j ≡ true
    read_second j h =
        into s (length s.vars) allows.sums.numbers outer (concrete_of g) (concrete_of (Both f g))
        (λ k is. uses_two k f g ∙ or_right (uses (concrete_of f) k) (uses (concrete_of g) k) is) j h

    pub laid_first : IsLaid s formats stored ranges outer innermost bound from depth f
    laid_first = record {
      placed = (placed_both (layout_of s formats) (length s.accesses) bound depth f g laid.placed).0;
      finds = (reached_two s formats bound depth f g laid.finds).0;
      reached = λ k is. laid.reached k (read_first k is);
      below = (below_two s f g laid.below).0;
      starts = (starts_two laid.starts).2;
      covers = λ j is. laid.covers j (read_first j is);
      covered = λ j is. laid.covered j (read_first j is);
    }

    pub laid_second : IsLaid s formats stored ranges outer innermost bound from depth g
    laid_second = record {
      placed = (placed_both (layout_of s formats) (length s.accesses) bound depth f g laid.placed).1;
      finds = (reached_two s formats bound depth f g laid.finds).1;
      reached = λ k is. laid.reached k (read_second k is);
      below = (below_two s f g laid.below).1;
      starts = (starts_two laid.starts).3;
      covers = λ j is. laid.covers j (read_second j is);
      covered = λ j is. laid.covered j (read_second j is);
    }

    pub behind_two : IsBehind s innermost bound from (concrete_of f) × IsBehind s innermost bound from (concrete_of g)
    behind_two = ((starts_two laid.starts).0, (starts_two laid.starts).1)

    terms_both : (test : Expr → Bool) → some_term test (terms_of s formats stored ranges outer (Both f g))
        ≡ (some_term test (terms_of s formats stored ranges outer f) || some_term test (terms_of s formats stored ranges outer g))
    terms_both test =
        ap (λ ns. some_term test (opened_group s outer ns)) (nests_two f g)
        ∙ ap (some_term test) (map-append (with_others (in_place s outer (length s.sums))) (nests_of f) (nests_of g))
        ∙ some_both test (terms_of s formats stored ranges outer f) (terms_of s formats stored ranges outer g)

    module _ (exact : Bool) (env : Env) (there : IsThere s formats stored ranges exact outer bound (Both f g) env) where
      pub there_first : IsThere s formats stored ranges exact outer bound f env
      there_first = record {
        some = λ k h. there.some k (terms_both (λ e. has_access e k) ∙ or_left (some_uses (terms_of s formats stored ranges outer f) k)
            (some_uses (terms_of s formats stored ranges outer g) k) h);
        live = λ e k h. there.live e k (terms_both (λ d. is_live (there_is outer bound env.point) d k)
            ∙ or_left (in_part s formats stored ranges outer bound env.point f k)
            (in_part s formats stored ranges outer bound env.point g k) h);
      }

      pub there_second : IsThere s formats stored ranges exact outer bound g env
      there_second = record {
        some = λ k h. there.some k (terms_both (λ e. has_access e k) ∙ or_right (some_uses (terms_of s formats stored ranges outer f) k)
            (some_uses (terms_of s formats stored ranges outer g) k) h);
        live = λ e k h. there.live e k (terms_both (λ d. is_live (there_is outer bound env.point) d k)
            ∙ or_right (in_part s formats stored ranges outer bound env.point f k)
            (in_part s formats stored ranges outer bound env.point g k) h);
      }

  -- ---- at a sum
  module _ (outer : ℕ → Bool) (innermost : Option ℕ) (bound : List ℕ) (from : ℕ) (depth : ℕ → ℕ) (k : ℕ) (inside body : LoopCode)
      (laid : IsLaid s formats stored ranges outer innermost bound from depth (Sum k inside body)) where
    starts_sum : StartsInPlace s innermost bound from (Sum k inside body)
        → IsNext s innermost bound from k (concrete_of inside) (concrete_of body) × StartsInPlace s innermost bound k inside
        × StartsInPlace s innermost bound (suc k) body
    unfolding hidden-the_row-LoopCode-0 hidden
    starts_sum h = h

    pub next : IsNext s innermost bound from k (concrete_of inside) (concrete_of body)
    next = (starts_sum laid.starts).0

    pub low_sum : first_sum s ≤ k
    low_sum = let is = next.access in omega (arith, is)

    read_body : (j : ℕ) → reads_any s (concrete_of body) j ≡ true → reads_any s (concrete_of (Sum k inside body)) j ≡ true
    read_body j h = ap (λ c. reads_any s c j) (concrete_sum k inside body) ∙ h

    read_inside : (j : ℕ) → reads_any s (concrete_of inside) j ≡ true → reads_any s (concrete_of body) j ≡ true
    read_inside =
        inside_read s (length s.vars) allows.sums.numbers outer innermost bound from k (concrete_of inside) (concrete_of body) next

    pub back : (j : ℕ) → reads_any s (concrete_of body) j ≡ true → first_sum s ≤ j → Started s innermost bound k j
        → Started s innermost bound from j
    back = before_it s (length s.vars) allows.sums.numbers outer innermost bound from k (concrete_of inside) (concrete_of body) next

    pub past : (j : ℕ) → Started s innermost bound from j → Started s innermost bound k j
    past = past_it s (length s.vars) allows.sums.numbers outer innermost bound from k (concrete_of inside) (concrete_of body) next

    more : (j : ℕ) → Started s innermost bound k j → Started s innermost bound (suc k) j
    more = behind_it s (length s.vars) allows.sums.numbers outer innermost bound from k (concrete_of inside) (concrete_of body) next

    less : (j : ℕ) → nat_eq k j ≡ false → Started s innermost bound (suc k) j → Started s innermost bound k j
    less = but_it s (length s.vars) allows.sums.numbers outer innermost bound from k (concrete_of inside) (concrete_of body) next

    pub itself : Started s innermost bound (suc k) k
    itself = started_so s innermost bound (suc k) k next.starts.known (λ may. omega arith)

    pub laid_summed : IsLaid s formats stored ranges outer innermost bound k depth inside
    laid_summed = record {
      placed = (placed_sum (layout_of s formats) (length s.accesses) bound depth k inside body laid.placed).2;
      finds = (reached_sum s formats bound depth k inside body laid.finds).0;
      reached = λ j is. laid.reached j (read_body j (read_inside j is));
      below = (below_sum s k inside body laid.below).0;
      starts = (starts_sum laid.starts).1;
      covers = λ j is low out. past j (laid.covers j (read_body j (read_inside j is)) low out);
      covered = λ j is low h. laid.covered j (read_body j (read_inside j is)) low (back j (read_inside j is) low h);
    }

    pub laid_body : IsLaid s formats stored ranges (given outer k true) innermost bound (suc k) depth body
    laid_body = record {
      placed = (placed_sum (layout_of s formats) (length s.accesses) bound depth k inside body laid.placed).3;
      finds = (reached_sum s formats bound depth k inside body laid.finds).1;
      reached = λ j is. laid.reached j (read_body j is);
      below = (below_sum s k inside body laid.below).1;
      starts = (starts_sum laid.starts).2;
      covers = λ j is low out. covered_by j is low (nat_eq k j) refl out;
      covered = λ j is low h. covers_by j is low (nat_eq k j) refl h;
    }
      where
        covered_by : (j : ℕ) → reads_any s (concrete_of body) j ≡ true → first_sum s ≤ j → (b : Bool) → nat_eq k j ≡ b
            → (if b then true else outer j) ≡ true → Started s innermost bound (suc k) j
        covered_by j is low true e out = subst (Started s innermost bound (suc k)) (same_by k j e) itself
        covered_by j is low false e out = more j (past j (laid.covers j (read_body j is) low out))

        covers_by : (j : ℕ) → reads_any s (concrete_of body) j ≡ true → first_sum s ≤ j → (b : Bool) → nat_eq k j ≡ b
            → Started s innermost bound (suc k) j → (if b then true else outer j) ≡ true
        covers_by j is low true e h = refl
        covers_by j is low false e h = laid.covered j (read_body j is) low (back j is low (less j e h))

    -- which accesses stand there
    whole_here : (j : ℕ) → has_access (whole (λ i. AccessOf i) (Sum k inside body)) j
        ≡ has_access (whole (put_at (λ i. AccessOf i) k (whole (λ i. AccessOf i) inside)) body) j
    unfolding hidden-the_row-LoopCode-0 hidden
    whole_here j = refl

    leaf_here : (j : ℕ) → some_uses (terms_of s formats stored ranges outer (Sum k inside body)) j
        ≡ has_access (whole (put_at (λ i. AccessOf i) k (whole (λ i. AccessOf i) inside)) body) j
    leaf_here j =
        leaf_is s formats stored ranges allows.sums outer innermost bound from depth (Sum k inside body) laid j ∙ whole_here j

    body_leaf : (j : ℕ) → some_uses (terms_of s formats stored ranges (given outer k true) body) j
        ≡ has_access (whole (λ i. AccessOf i) body) j
    body_leaf j = leaf_is s formats stored ranges allows.sums (given outer k true) innermost bound (suc k) depth body laid_body j

    pub leaf_of_body : (j : ℕ) → nat_eq k j ≡ false
        → some_uses (terms_of s formats stored ranges (given outer k true) body) j ≡ true
        → some_uses (terms_of s formats stored ranges outer (Sum k inside body)) j ≡ true
    leaf_of_body j other h =
        leaf_here j
        ∙ whole_follows j j (λ i. AccessOf i) (put_at (λ i. AccessOf i) k (whole (λ i. AccessOf i) inside))
        (λ i is. ap (λ b. has_access (if b then whole (λ m. AccessOf m) inside else AccessOf i) j)
        (ap (nat_eq k) (same_by i j is) ∙ other) ∙ is) body
        (sym (body_leaf j) ∙ h)

    pub leaf_of_inside : some_uses (terms_of s formats stored ranges (given outer k true) body) k ≡ true → (j : ℕ)
        → some_uses (terms_of s formats stored ranges outer inside) j ≡ true
        → some_uses (terms_of s formats stored ranges outer (Sum k inside body)) j ≡ true
    leaf_of_inside stands j h =
        leaf_here j
        ∙ whole_follows k j (λ i. AccessOf i) (put_at (λ i. AccessOf i) k (whole (λ i. AccessOf i) inside))
        (λ i is. ap (λ b. has_access (if b then whole (λ m. AccessOf m) inside else AccessOf i) j)
        (ap (nat_eq k) (same_by i k is) ∙ self k)
        ∙ sym (leaf_is s formats stored ranges allows.sums outer innermost bound k depth inside laid_summed j) ∙ h) body
        (sym (body_leaf k) ∙ stands)

    module _ (env : Env) where
      abbrev P : ℕ → Bool
      P = there_is outer bound env.point

      -- whether the sum is wanted: it stands in a part that remains, where a part of what it sums does
      abbrev pub wanted : Bool
      wanted = is_live_below (given P k (remains_below P inside)) body k

      pub there_summed : (exact want : Bool) → IsThere s formats stored ranges exact outer bound (Sum k inside body) env
          → some_uses (terms_of s formats stored ranges (given outer k true) body) k ≡ true
          → (want ≡ true → (exact ≡ true) × (wanted ≡ true)) → IsThere s formats stored ranges want outer bound inside env
      there_summed exact want there stands f = record {
        some = λ j h. there.some j (leaf_of_inside stands j h);
        live = λ e j h. there.live (f e).0 j (part e j h);
      }
        where
          part : want ≡ true → (j : ℕ) → in_part s formats stored ranges outer bound env.point inside j ≡ true
              → in_part s formats stored ranges outer bound env.point (Sum k inside body) j ≡ true
          part e j h =
              let is = leaf s formats stored ranges allows.sums outer innermost bound k depth inside laid_summed j
              (some_stands P (terms_of s formats stored ranges outer inside) j h) in
              sym (live_here s (length s.vars) allows.sums.numbers outer (Sum k inside body) innermost bound from laid.starts laid.covers
              laid.covered P j (λ low. back j (read_inside j is.0) low (is.1 low)))
              ∙ live_sum P k inside body j
              ∙ or_right (is_live_below (given P k (remains_below P inside)) body j) (wanted && is_live_below P inside j)
              (so_both wanted (is_live_below P inside j) (f e).1
              (live_here s (length s.vars) allows.sums.numbers outer inside innermost bound k laid_summed.starts laid_summed.covers
              laid_summed.covered P j is.1 ∙ h))

      -- whether the sum is present, as its terms tell
      pub sum_any : any env.point (nests_of inside) ≡ all env.point k
      sum_any =
          ap (λ c. any env.point (nests c)) next.tree ∙ any_sum next.number next.below env.point ∙ ap (all env.point) (sym next.access)

      place_sum : place s formats stored ranges bound env.point k ≡ some_if (all env.point k)
      place_sum =
          ap (λ b. if b then at s formats stored bound env.point k else some_if (all env.point k)) (behind_test k (first_sum s) low_sum)
        where
          behind_test : (a b : ℕ) → b ≤ a → nat_lt a b ≡ false
          behind_test a b l = grind (arith, nat_tests, l)

      abbrev started_here : ℕ → Bool
      started_here = there_is (given outer k true) bound env.point

      here_other : (j : ℕ) → nat_eq k j ≡ false → started_here j ≡ P j
      here_other j e =
          ap (λ b. if nat_lt j (first_sum s) then is_some (at s formats stored bound env.point j)
          else (not (if b then true else outer j) || all env.point j)) e

      here_itself : started_here k ≡ all env.point k
      here_itself =
          sym (place_there s formats stored ranges (given outer k true) bound env.point k
          (λ low. ap (λ b. if b then true else outer k) (self k)))
          ∙ ap is_some place_sum ∙ some_told (all env.point k)

      module _ (sums_remain : all env.point k ≡ true → remains_below P inside ≡ true) where
        -- what stands in a part that remains behind the sum stood there before
        live_before : (j : ℕ) → (first_sum s ≤ j → Started s innermost bound (suc k) j)
            → in_part s formats stored ranges (given outer k true) bound env.point body j ≡ true
            → is_live_below (given P k (remains_below P inside)) body j ≡ true
        live_before j known h =
            live_here s (length s.vars) allows.sums.numbers (given outer k true) body innermost bound (suc k) laid_body.starts
            laid_body.covers laid_body.covered (given P k (remains_below P inside)) j known
            ∙ some_less (given P k (remains_below P inside)) started_here (λ e. is_live started_here e j)
            (λ e. is_live (given P k (remains_below P inside)) e j)
            (less_live started_here (given P k (remains_below P inside)) j)
            (terms_of s formats stored ranges (given outer k true) body) (λ i is here. by i (nat_eq k i) refl here) h
          where
            by : (i : ℕ) (b : Bool) → nat_eq k i ≡ b → started_here i ≡ true → (if b then remains_below P inside else P i) ≡ true
            by i true e here = sums_remain (sym here_itself ∙ ap started_here (same_by k i e) ∙ here)
            by i false e here = sym (here_other i e) ∙ here

        abbrev pub body_env : Env
        body_env = at_cursor env k (some_if (adds_some (layout_of s formats) stored ranges inside env))

        pub there_body : (exact : Bool) → IsThere s formats stored ranges exact outer bound (Sum k inside body) env
            → (some_uses (terms_of s formats stored ranges (given outer k true) body) k ≡ true
            → adds_some (layout_of s formats) stored ranges inside env ≡ true → all env.point k ≡ true)
            → (exact ≡ true → wanted ≡ true
            → some_uses (terms_of s formats stored ranges (given outer k true) body) k ≡ true
            → all env.point k ≡ true → adds_some (layout_of s formats) stored ranges inside env ≡ true)
            → IsThere s formats stored ranges exact (given outer k true) bound body body_env
        there_body exact there most least = record {
          some = λ j h. some_by j (nat_eq k j) refl h;
          live = λ e j h. live_by e j (nat_eq k j) refl h;
        }
          where
            adds : Bool
            adds = adds_some (layout_of s formats) stored ranges inside env

            told : (b : Bool) → b ≡ adds → (b ≡ true → all env.point k ≡ true)
                → (some_if b ≡ place s formats stored ranges bound env.point k) ⊎ (some_if b ≡ None)
            told true is f = inl (sym (place_sum ∙ ap some_if (f refl)))
            told false is f = inr refl

            some_by : (j : ℕ) (b : Bool) → nat_eq k j ≡ b
                → some_uses (terms_of s formats stored ranges (given outer k true) body) j ≡ true
                → ((if b then some_if adds else env.cursor j) ≡ place s formats stored ranges bound env.point j)
                ⊎ ((if b then some_if adds else env.cursor j) ≡ None)
            some_by j true e h =
                subst (λ i. (some_if adds ≡ place s formats stored ranges bound env.point i) ⊎ (some_if adds ≡ None)) (same_by k j e)
                (told adds refl
                (most (subst (λ i. some_uses (terms_of s formats stored ranges (given outer k true) body) i ≡ true)
                (sym (same_by k j e)) h)))
            some_by j false e h = there.some j (leaf_of_body j e h)

            live_by : exact ≡ true → (j : ℕ) (b : Bool) → nat_eq k j ≡ b
                → in_part s formats stored ranges (given outer k true) bound env.point body j ≡ true
                → (if b then some_if adds else env.cursor j) ≡ place s formats stored ranges bound env.point j
            live_by x j true e h =
                let h_sum = subst (λ i. in_part s formats stored ranges (given outer k true) bound env.point body i ≡ true)
                (sym (same_by k j e)) h in
                let present : all env.point k ≡ true = sym here_itself
                ∙ some_present started_here k (terms_of s formats stored ranges (given outer k true) body) h_sum in
                ap some_if (least x (live_before k (λ low. itself) h_sum)
                (some_stands started_here (terms_of s formats stored ranges (given outer k true) body) k h_sum) present
                ∙ sym present) ∙ sym place_sum ∙ ap (place s formats stored ranges bound env.point) (same_by k j e)
            live_by x j false e h =
                let is = leaf s formats stored ranges allows.sums (given outer k true) innermost bound (suc k) depth body laid_body j
                (some_stands started_here (terms_of s formats stored ranges (given outer k true) body) j h) in
                there.live x j
                (sym (live_here s (length s.vars) allows.sums.numbers outer (Sum k inside body) innermost bound from laid.starts laid.covers
                laid.covered P j (λ low. back j is.0 low (less j e (is.1 low))))
                ∙ live_sum P k inside body j
                ∙ or_left (is_live_below (given P k (remains_below P inside)) body j) (wanted && is_live_below P inside j)
                (live_before j is.1 h))

  -- ---- loops add something where some term is present
  abbrev adds : LoopCode → Env → Bool
  adds c env = adds_some (layout_of s formats) stored ranges c env

  abbrev pub Tells : LoopCode → Type 0
  Tells c = (outer : ℕ → Bool) (innermost : Option ℕ) (bound : List ℕ) (from : ℕ) (depth : ℕ → ℕ) (exact : Bool) (env : Env)
      → IsLaid s formats stored ranges outer innermost bound from depth c → IsThere s formats stored ranges exact outer bound c env
      → (adds c env ≡ true → any env.point (nests_of c) ≡ true) × (exact ≡ true → any env.point (nests_of c) ≡ true → adds c env ≡ true)

  adds_loop : (v : ℕ) (seeks : List Seek) (body : LoopCode) (env : Env)
      → adds (Loop v seeks body) env ≡ some_below (ranges v) (λ x. adds body (moved (layout_of s formats) stored v seeks env x))
  unfolding hidden-the_row-LoopCode-0 hidden
  adds_loop v seeks body env = refl

  adds_both : (f g : LoopCode) (env : Env) → adds (Both f g) env ≡ (adds f env || adds g env)
  unfolding hidden-the_row-LoopCode-0 hidden
  adds_both f g env = refl

  adds_sum : (k : ℕ) (inside body : LoopCode) (env : Env)
      → adds (Sum k inside body) env ≡ adds body (at_cursor env k (some_if (adds inside env)))
  unfolding hidden-the_row-LoopCode-0 hidden
  adds_sum k inside body env = refl

  tells_loop : (v : ℕ) (seeks : List Seek) (body : LoopCode) → Tells body → Tells (Loop v seeks body)
  tells_loop v seeks body more outer innermost bound from depth exact env laid there = (
    λ h. sym terms ∙ below_more (ranges v) (λ x. adds body (inner x)) (λ x. any (with_coordinate env.point v x) (nests_of body))
        (λ x is. sym (same x) ∙ (at x).0 is) (sym (adds_loop v seeks body env) ∙ h),
    λ e h. adds_loop v seeks body env ∙ below_more (ranges v) (λ x. any (with_coordinate env.point v x) (nests_of body))
        (λ x. adds body (inner x)) (λ x is. (at x).1 e (same x ∙ is)) (terms ∙ h),
  )
    where
      inner : ℕ → Env
      inner x = moved (layout_of s formats) stored v seeks env x

      same : (x : ℕ) → any (inner x).point (nests_of body) ≡ any (with_coordinate env.point v x) (nests_of body)
      same x =
          ap (λ (p : ℕ → ℕ). any p (nests_of body))
          (inner_point s formats stored ranges order allows outer innermost bound from depth v seeks body laid exact env there x)

      at : (x : ℕ) → (adds body (inner x) ≡ true → any (inner x).point (nests_of body) ≡ true)
          × (exact ≡ true → any (inner x).point (nests_of body) ≡ true → adds body (inner x) ≡ true)
      at x =
          more outer (Some v) (v ∷ bound) 0 (depth_after seeks depth) exact (inner x)
          (laid_inside s formats stored ranges order allows outer innermost bound from depth v seeks body laid)
          (there_inside s formats stored ranges order allows outer innermost bound from depth v seeks body laid exact env there x)

      terms : some_below (ranges v) (λ x. any (with_coordinate env.point v x) (nests_of body))
          ≡ any env.point (nests_of (Loop v seeks body))
      terms = sym (ap (any env.point) (nests_loop v seeks body) ∙ any_inside v env.point (nests_of body))

  tells_both : (f g : LoopCode) → Tells f → Tells g → Tells (Both f g)
  tells_both f g one two outer innermost bound from depth exact env laid there =
      let first = one outer innermost bound from depth exact env (laid_first outer innermost bound from depth f g laid)
      (there_first outer innermost bound from depth f g laid exact env there) in
      let second = two outer innermost bound from depth exact env (laid_second outer innermost bound from depth f g laid)
      (there_second outer innermost bound from depth f g laid exact env there) in
      let terms : any env.point (nests_of (Both f g)) ≡ (any env.point (nests_of f) || any env.point (nests_of g)) =
      ap (any env.point) (nests_two f g) ∙ any_both env.point (nests_of f) (nests_of g) in (
        λ h. terms ∙ or_more (adds f env) (adds g env) (any env.point (nests_of f)) (any env.point (nests_of g)) first.0 second.0
            (sym (adds_both f g env) ∙ h),
        λ e h. adds_both f g env ∙ or_more (any env.point (nests_of f)) (any env.point (nests_of g)) (adds f env) (adds g env) (first.1 e)
            (second.1 e) (sym terms ∙ h),
      )

  tells_add : (t : Term) → Tells (Add t)
  tells_add t outer innermost bound from depth exact env laid there = (
    λ h. ap (λ b. b || false) (sym same ∙ sym (terms_here P)
        ∙ remains_less s formats stored ranges allows.sums outer innermost bound from depth (Add t) laid exact env there h),
    λ e h. remains_is s formats stored ranges allows.sums outer innermost bound from depth (Add t) laid exact env there e ∙ terms_here P
        ∙ same ∙ or_none (remains (all env.point) t.expr) h,
  )
    where
      P : ℕ → Bool
      P = there_is outer bound env.point

      or_none : (b : Bool) → (b || false) ≡ true → b ≡ true
      or_none true h = refl
      or_none false h = h

      terms_here : (Q : ℕ → Bool) → some_term (remains Q) (terms_of s formats stored ranges outer (Add t)) ≡ remains Q t.expr
      terms_here Q =
          sym (remains_here s (length s.vars) allows.sums.numbers outer (Add t) innermost bound from laid.starts laid.covers laid.covered Q)

      each : (k : ℕ) → has_access t.expr k ≡ true → P k ≡ all env.point k
      each k is =
          sym (place_there s formats stored ranges outer bound env.point k
          (λ low. let at_term = of_access (λ i. first_sum s ≤ i → (i < first_sum s + length s.sums) × (has_started s bound i ≡ true)
          × (MayStart s innermost bound i → i < from)) t.expr k laid.starts is low in
          laid.covered k (through_uses s (length s.sums) (uses (concrete_of (Add t))) k is) low
          (started_so s innermost bound from k at_term.1 at_term.2)))
          ∙ by (nat_lt k (first_sum s)) refl
        where
          low_test : nat_lt k (first_sum s) ≡ true → k < first_sum s
          low_test e = grind (arith, nat_tests, e)

          depth_is : depth k ≡ (layout_of s formats).levels k
          depth_is = (of_access (λ i. (i < length s.accesses) × (depth i ≡ (layout_of s formats).levels i)) t.expr k laid.placed is).1

          by : (b : Bool) → nat_lt k (first_sum s) ≡ b
              → is_some (if b then at s formats stored bound env.point k else some_if (all env.point k)) ≡ all env.point k
          by true e =
              ap (λ n. is_some (path_span (layout_of s formats) stored k n env.point))
              (sym (laid.reached k (through_uses s (length s.sums) (uses (concrete_of (Add t))) k is)) ∙ depth_is)
              ∙ sym (present_real k env.point (low_test e))
          by false e = some_told (all env.point k)

      same : remains P t.expr ≡ remains (all env.point) t.expr
      same = remains_alike P (all env.point) t.expr each

  -- what is told of what is summed
  module _ (inside : LoopCode) (tells : Tells inside) (outer : ℕ → Bool) (innermost : Option ℕ) (bound : List ℕ) (from : ℕ)
      (depth : ℕ → ℕ) (k : ℕ) (body : LoopCode) (laid : IsLaid s formats stored ranges outer innermost bound from depth (Sum k inside body))
      (env : Env) where
    abbrev inside_laid : IsLaid s formats stored ranges outer innermost bound k depth inside
    inside_laid = laid_summed outer innermost bound from depth k inside body laid

    -- where it is present a part of it remains
    pub sum_remains : all env.point k ≡ true → remains_below (there_is outer bound env.point) inside ≡ true
    sum_remains h =
        remains_here s (length s.vars) allows.sums.numbers outer inside innermost bound k inside_laid.starts inside_laid.covers
        inside_laid.covered (there_is outer bound env.point)
        ∙ remains_less s formats stored ranges allows.sums outer innermost bound k depth inside inside_laid true placed_env placed_there
        (adds_last (layout_of s formats) stored ranges inside placed_env (here placed_env) (λ j is. is)
        ((tells outer innermost bound k depth true placed_env inside_laid placed_there).1 refl
        (sum_any outer innermost bound from depth k inside body laid env ∙ h)))
      where
        placed_env : Env
        placed_env = record { point = env.point; cursor = place s formats stored ranges bound env.point }

        placed_there : IsThere s formats stored ranges true outer bound inside placed_env
        placed_there = record { some = λ j is. inl refl; live = λ e j is. refl }

    module _ (exact : Bool) (there : IsThere s formats stored ranges exact outer bound (Sum k inside body) env) where
      sum_most : some_uses (terms_of s formats stored ranges (given outer k true) body) k ≡ true → adds inside env ≡ true
          → all env.point k ≡ true
      sum_most stands h =
          sym (sum_any outer innermost bound from depth k inside body laid env)
          ∙ (tells outer innermost bound k depth false env inside_laid
          (there_summed outer innermost bound from depth k inside body laid env exact false there stands (λ no. absurd (never no)))).0 h
        where
          never : false ≡ true → ⊥
          never e = cc

      sum_least : exact ≡ true → wanted outer innermost bound from depth k inside body laid env ≡ true
          → some_uses (terms_of s formats stored ranges (given outer k true) body) k ≡ true → all env.point k ≡ true
          → adds inside env ≡ true
      sum_least e want stands h =
          (tells outer innermost bound k depth true env inside_laid
          (there_summed outer innermost bound from depth k inside body laid env exact true there stands (λ yes. (e, want)))).1 refl
          (sum_any outer innermost bound from depth k inside body laid env ∙ h)

      -- so whoever reads it finds it so
      pub sum_there : IsThere s formats stored ranges exact (given outer k true) bound body (at_cursor env k (some_if (adds inside env)))
      sum_there =
          there_body outer innermost bound from depth k inside body laid env sum_remains exact there sum_most sum_least

  tells_sum : (k : ℕ) (inside body : LoopCode) → Tells inside → Tells body → Tells (Sum k inside body)
  tells_sum k inside body one two outer innermost bound from depth exact env laid there =
      let rest = two (given outer k true) innermost bound (suc k) depth exact (at_cursor env k (some_if (adds inside env)))
      (laid_body outer innermost bound from depth k inside body laid)
      (sum_there inside one outer innermost bound from depth k body laid env exact there) in
      let terms : any env.point (nests_of (Sum k inside body)) ≡ any env.point (nests_of body) =
      ap (any env.point) (nests_sum k inside body) in (
        λ h. terms ∙ rest.0 (sym (adds_sum k inside body env) ∙ h),
        λ e h. adds_sum k inside body env ∙ rest.1 e (sym terms ∙ h),
      )

  pub all_tell : (c : LoopCode) → Tells c
  all_tell = by_parts Tells tells_loop tells_both tells_add tells_sum
