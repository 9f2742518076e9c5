-- No more sums are drained at the points of outer loops together than the rows of all loops have.
use Rattle.std.specs.Prelude.{◌≡◌, ℕ, zero, suc, ◌+◌, ◌≤◌, ◌<◌, nat_eq, ◌||◌, Bool, true, false, if◌then◌else◌, List, [], ◌∷◌, ◌++◌, length}
use Rattle.std.specs.Prelude.{Option, None, refl}
use Rattle.std.proofs.lemmas.Bool.Decides.{nat_tests}
use Rattle.std.proofs.Common.{◌∙◌, sym, ap, subst, arith, inl}
use Rattle.std.proofs.lemmas.List.{length-append, length-map}
use Rattle.numbers.specs.Arithmetic.{Arithmetic}
use Rattle.lists.proofs.Each.{each_append}
use Rattle.tensor_map.specs.Entries.{Entry}
use Rattle.format_spec.specs.declared.format.FormatLevel.{FormatLevel}
use Rattle.index_notation.specs.declared.syntax.Statement.{Statement}
use Rattle.expr_terms.specs.Points.{with_coordinate}
use Rattle.expr_terms.specs.Terms.{contains}
use Rattle.expr_terms.proofs.PointLaws.{coordinate_same}
use Rattle.concrete_notation.specs.Contributions.{rows_below, sums_of}
use Rattle.loop_code.specs.declared.loops.LoopCode.{LoopCode, Add, Both', Loop', Sum', Row_of-LoopCode, end_of-LoopCode}
use Rattle.loop_code.specs.declared.loops.LoopCode.{more_of-LoopCode}
use Rattle.loop_code.specs.declared.loops.Seek.{Seek}
use Rattle.loop_code.specs.Loops.{Env, at_cursor, contributions, contributions_in, moved, sum_of}
use Rattle.loop_code.specs.Parts.{given, here, is_live_below, is_live_below_in, only, remains_below}
use Rattle.loop_code.specs.Places.{IsWellPlaced, IsWellPlaced_in, depth_after}
use Rattle.loop_code.specs.Turns.{count_below}
use Rattle.loop_code.proofs.Parts.{pruned_rows, rows_same}
use Rattle.level_core.specs.declared.span.Span.{Span}
use Rattle.loop_flags.proofs.EnvLaws.{sum_left_out}
use Rattle.lowering.specs.Layouts.{layout_of}
use Rattle.operand_arrays.specs.Operands.{Operands, stored_in}
use Rattle.summed_groups.specs.Groups.{AllBefore, ComesBefore, GroupsBefore, with_front, with_fronts}
use Rattle.summed_groups.proofs.Parts.{sums_of_both}
use Rattle.summed_groups.proofs.Prefixed.{sums_behind}
use Rattle.grouped_loops.specs.Chains.{IsChain, IsChain_in}
use Rattle.grouped_loops.specs.Emitted.{kept_sum, sums_at, sums_in}
use Rattle.grouped_loops.proofs.Fronts.{fronts_stay, moved_point}

-- rows of coordinate x in front come before all with y in front, if x is less
one_before : (x y : ℕ) (rows : List Entry) (coords : List ℕ) → x < y → AllBefore 1 (with_fronts (x ∷ []) rows) (y ∷ coords)
one_before x y [] coords l = tt
one_before x y (row ∷ rows) coords l = (inl l, one_before x y rows coords l)

all_before : (n y : ℕ) (f : ℕ → List Entry) (coords : List ℕ) → n ≤ y
    → AllBefore 1 (rows_below n (λ x. with_fronts (x ∷ []) (f x))) (y ∷ coords)
all_before zero y f coords l = tt
all_before (suc n) y f coords l =
    each_append (λ (row : Entry). ComesBefore 1 row.coords (y ∷ coords)) (rows_below n (λ x. with_fronts (x ∷ []) (f x)))
    (with_fronts (n ∷ []) (f n)) (all_before n y f coords (omega (arith, l))) (one_before n y (f n) coords (omega (arith, l)))

groups_before : (n : ℕ) (f : ℕ → List Entry) (rows : List Entry)
    → GroupsBefore 1 (rows_below n (λ x. with_fronts (x ∷ []) (f x))) (with_fronts (n ∷ []) rows)
groups_before n f [] = tt
groups_before n f (row ∷ rows) = (all_before n n f row.coords (omega arith), groups_before n f rows)

-- so their sums are as many as those of each coordinate's rows together
sums_together : (a : Arithmetic) (n : ℕ) (f : ℕ → List Entry)
    → length (sums_of a (rows_below n (λ x. with_fronts (x ∷ []) (f x)))) ≡ count_below n (λ x. length (sums_of a (f x)))
sums_together a zero f = refl
sums_together a (suc n) f =
    ap length (sums_of_both 1 a (rows_below n (λ x. with_fronts (x ∷ []) (f x))) (with_fronts (n ∷ []) (f n)) (groups_before n f (f n)))
    ∙ length-append (sums_of a (rows_below n (λ x. with_fronts (x ∷ []) (f x)))) (sums_of a (with_fronts (n ∷ []) (f n)))
    ∙ ap (λ m. m + length (sums_of a (with_fronts (n ∷ []) (f n)))) (sums_together a n f)
    ∙ ap (λ m. count_below n (λ x. length (sums_of a (f x))) + m)
    (ap length (sums_behind a (n ∷ []) (f n)) ∙ length-map (sums_of a (f n)) (with_front (n ∷ [])))

count_more : (n : ℕ) (f g : ℕ → ℕ) → ((x : ℕ) → f x ≤ g x) → count_below n f ≤ count_below n g
count_more zero f g h = omega arith
count_more (suc n) f g h = let rest = count_more n f g h in let last = h n in omega (arith, rest, last)

itself : (w v : ℕ) (bound : List ℕ) → w ≡ v → contains (w ∷ bound) v ≡ true
itself w v bound is = by (nat_eq w v) (same w v is)
  where
    same : (w v : ℕ) → w ≡ v → nat_eq w v ≡ true
    same w v is = grind (arith, nat_tests, is)

    by : (b : Bool) → b ≡ true → (b || contains bound v) ≡ true
    by true e = refl
    by false e = absurd (cc e)

module _ (a : Arithmetic) (s : Statement) (formats : List (List FormatLevel)) (tail : List ℕ) (o : Operands) (ranges : ℕ → ℕ) where
  abbrev rows_in : {m : _} → List ℕ → Row_of-LoopCode m → Env → List Entry
  rows_in vs row env = contributions_in a (layout_of s formats) (stored_in o) ranges (vs ++ tail) row env

  -- the rows at one coordinate of a loop have it in front
  module _ (v : ℕ) (vs : List ℕ) (w : ℕ) (seeks : List Seek) (bound : List ℕ) (depth : ℕ → ℕ) (env : Env) (is : w ≡ v) where
    pub front_here : {m : _} (body : Row_of-LoopCode m)
        → IsWellPlaced_in (layout_of s formats) (length s.accesses) (w ∷ bound) (depth_after seeks depth) body → (x : ℕ)
        → rows_in (v ∷ vs) body (moved (layout_of s formats) (stored_in o) w seeks env x)
        ≡ with_fronts (x ∷ []) (rows_in vs body (moved (layout_of s formats) (stored_in o) w seeks env x))
    front_here end_of-LoopCode placed x = refl
    front_here (more_of-LoopCode d rest) placed x =
        let at : Env = moved (layout_of s formats) (stored_in o) w seeks env x in
        fronts_stay a (layout_of s formats) (stored_in o) ranges (length s.accesses) (v ∷ []) (vs ++ tail) (w ∷ bound)
        (depth_after seeks depth) d at placed (itself w v bound is, tt)
        ∙ ap (λ y. with_fronts (y ∷ []) (contributions a (layout_of s formats) (stored_in o) ranges (vs ++ tail) d at))
        (ap (λ (point : ℕ → ℕ). point v) (moved_point a (layout_of s formats) (stored_in o) ranges w seeks env x)
        ∙ ap (λ u. with_coordinate env.point u x v) is ∙ coordinate_same env.point v x)

  -- the body of a sum has the same rows where this isn't made since it doesn't have to be
  kept_rows : {m : _} {n : _} (target : List ℕ) (k : ℕ) (inside : Row_of-LoopCode m) (body : Row_of-LoopCode n) (env : Env)
      → contributions_in a (layout_of s formats) (stored_in o) ranges target body
      (at_cursor env k (kept_sum a s formats tail o ranges k inside body env))
      ≡ contributions_in a (layout_of s formats) (stored_in o) ranges target body
      (at_cursor env k (sum_of a (contributions_in a (layout_of s formats) (stored_in o) ranges [] inside env)))
  kept_rows target k inside end_of-LoopCode env = refl
  kept_rows target k end_of-LoopCode (more_of-LoopCode c rest) env =
      by (is_live_below (given (here env) k false) c k)
    where
      by : (b : Bool) → contributions a (layout_of s formats) (stored_in o) ranges target c (at_cursor env k (if b then None else None))
          ≡ contributions a (layout_of s formats) (stored_in o) ranges target c (at_cursor env k None)
      by true = refl
      by false = refl
  kept_rows target k (more_of-LoopCode f others) (more_of-LoopCode c rest) env =
      by (is_live_below (given (here env) k (remains_below (here env) f)) c k) refl
    where
      o_sum : Option Span
      o_sum = sum_of a (contributions a (layout_of s formats) (stored_in o) ranges [] f env)

      by : (b : Bool) → is_live_below (given (here env) k (remains_below (here env) f)) c k ≡ b
          → contributions a (layout_of s formats) (stored_in o) ranges target c (at_cursor env k (if b then o_sum else None))
          ≡ contributions a (layout_of s formats) (stored_in o) ranges target c (at_cursor env k o_sum)
      by true is = refl
      by false is = sum_left_out a (layout_of s formats) (stored_in o) ranges target k f c env is

  mutual
    -- no more sums are drained than all rows have
    pub sums_few : (vs bound : List ℕ) (depth : ℕ → ℕ) (c : LoopCode) (env : Env)
        → IsWellPlaced (layout_of s formats) (length s.accesses) bound depth c → IsChain vs c
        → sums_at a s formats tail o ranges vs c env
        ≤ length (sums_of a (contributions a (layout_of s formats) (stored_in o) ranges (vs ++ tail) c env))
    sums_few [] bound depth c env placed chain = omega arith
    sums_few (v ∷ vs) bound depth (Loop' w seeks p body) env placed chain =
        let e : Env = only (is_live_below_in (here env) body) env in
        let at = moved (layout_of s formats) (stored_in o) w seeks e in
        let more = count_more (ranges w) (λ x. sums_in a s formats tail o ranges vs body (at x))
        (λ x. length (sums_of a (rows_in vs body (at x))))
        (λ x. sums_few_in vs (w ∷ bound) (depth_after seeks depth) body (at x) placed.2 chain.1) in
        let together = sums_together a (ranges w) (λ x. rows_in vs body (at x)) in
        let same = ap (λ rows. length (sums_of a rows))
        (sym (pruned_rows (layout_of s formats) (stored_in o) a ranges ((v ∷ vs) ++ tail) (Loop' w seeks p body) env)
        ∙ rows_same (ranges w) (λ x. rows_in (v ∷ vs) body (at x)) (λ x. with_fronts (x ∷ []) (rows_in vs body (at x)))
        (λ x. front_here v vs w seeks bound depth e chain.0 body placed.2 x)) in
        omega (arith, more, together, same)
    sums_few (v ∷ vs) bound depth (Both' p f q g) env placed chain = absurd chain
    sums_few (v ∷ vs) bound depth (Add t) env placed chain = absurd chain
    sums_few (v ∷ vs) bound depth (Sum' k p inside q body) env placed chain =
        subst (λ rows. sums_in a s formats tail o ranges (v ∷ vs) body
        (at_cursor env k (kept_sum a s formats tail o ranges k inside body env))
        ≤ length (sums_of a rows)) (kept_rows ((v ∷ vs) ++ tail) k inside body env)
        (sums_few_in (v ∷ vs) bound depth body (at_cursor env k (kept_sum a s formats tail o ranges k inside body env)) placed.3 chain)

    sums_few_in : {m : _} (vs bound : List ℕ) (depth : ℕ → ℕ) (row : Row_of-LoopCode m) (env : Env)
        → IsWellPlaced_in (layout_of s formats) (length s.accesses) bound depth row → IsChain_in vs row
        → sums_in a s formats tail o ranges vs row env ≤ length (sums_of a (rows_in vs row env))
    sums_few_in vs bound depth end_of-LoopCode env placed chain = omega arith
    sums_few_in vs bound depth (more_of-LoopCode c rest) env placed chain = sums_few vs bound depth c env placed chain
