-- What is so of loops that are made of their parts, and of the terms in them.
use Rattle.std.specs.Prelude.{◌≡◌, ℕ, ◌+◌, Bool, true, false, ◌||◌, ◌&&◌, if◌then◌else◌, List, [], ◌∷◌, ◌++◌, map, refl}
use Rattle.std.proofs.Common.{◌∙◌, sym, ap, subst}
use denote.Hole.Carrier.{hidden}
use Rattle.format_spec.specs.declared.format.FormatLevel.{FormatLevel}
use Rattle.index_notation.specs.Statement.{IsDistinct}
use Rattle.index_notation.specs.declared.syntax.Expr.{Expr}
use Rattle.index_notation.specs.declared.syntax.Statement.{Statement}
use Rattle.lists.specs.Each.{Each}
use Rattle.expr_terms.specs.declared.term.Term.{Term}
use Rattle.concrete_notation.specs.declared.concrete.Concrete.TheBlock.{hidden-the_row-Concrete-0}
use Rattle.concrete_notation.specs.Nests.{Nest, inside, nests, next_loops, SharesLoops}
use Rattle.loop_code.specs.declared.loops.LoopCode.{LoopCode, map-LoopCode, Loop, Both, Add, Sum}
use Rattle.loop_code.specs.declared.loops.LoopCode.TheVariants.{rolls-Loop, rolls-Both, rolls-Add, rolls-Sum}
use Rattle.loop_code.specs.declared.loops.LoopCode.TheBlock.{hidden-the_row-LoopCode-0}
use Rattle.loop_code.specs.declared.loops.LoopCode.TheFolds.{ind-LoopCode}
use Rattle.loop_code.specs.declared.loops.LoopCode.TheViews.{roll-LoopCode}
use Rattle.loop_code.specs.declared.loops.LoopCode.TheOpen as view
use Rattle.loop_code.specs.declared.loops.Seek.{Seek}
use Rattle.loop_code.specs.Loops.{Layout, Stored, Env, at_cursor, moved}
use Rattle.loop_code.specs.Parts.{given, here, is_full, is_full_below, is_live, is_live_below, is_other, pruned, remains, remains_below}
use Rattle.loop_code.specs.Places.{depth_after}
use Rattle.loop_code.specs.Turns.{adds_some, cost, count_below, dups, lengths, repeated, some_if}
use Rattle.lowering.specs.Lowered.{concrete_of}
use Rattle.lowering.specs.Seeking.{has_access, uses}
use Rattle.lowering.specs.Shapes.{AreReached, FindsBelow, FindsReached}
use Rattle.lowering.specs.Sums.{reads_any}
use Rattle.statement_costs.specs.Costs.{some_term}
use Rattle.statement_costs.proofs.Parts.{some_inside, some_both}
use Rattle.statement_costs.proofs.Plain.{HasNone}

-- what is so of the parts of loops and so of what is made of them, is so of all loops
module _ (P : LoopCode → Type 0) (loop : (v : ℕ) (seeks : List Seek) (body : LoopCode) → P body → P (Loop v seeks body))
    (both : (f g : LoopCode) → P f → P g → P (Both f g)) (add : (t : Term) → P (Add t))
    (sum : (k : ℕ) (inside body : LoopCode) → P inside → P body → P (Sum k inside body)) where
  layer : (y : view.LoopCode-F ((c : LoopCode) × P c)) → P (roll-LoopCode (map-LoopCode ((c : LoopCode) × P c) LoopCode (λ c. c.0) y))
  layer (view.Loop v seeks body) = subst P (sym (rolls-Loop v seeks body.0)) (loop v seeks body.0 body.1)
  layer (view.Both f g) = subst P (sym (rolls-Both f.0 g.0)) (both f.0 g.0 f.1 g.1)
  layer (view.Add t) = subst P (sym (rolls-Add t)) (add t)
  layer (view.Sum k inside body) = subst P (sym (rolls-Sum k inside.0 body.0)) (sum k inside.0 body.0 inside.1 body.1)

  pub by_parts : (c : LoopCode) → P c
  by_parts = ind-LoopCode P (λ x y is. subst (λ z. P (roll-LoopCode z)) is (layer y))

pub none_loop : (v : ℕ) (seeks : List Seek) (body : LoopCode) → HasNone (Loop v seeks body) → HasNone body
unfolding hidden-the_row-LoopCode-0 hidden
none_loop v seeks body h = h

pub none_two : (f g : LoopCode) → HasNone (Both f g) → HasNone f × HasNone g
unfolding hidden-the_row-LoopCode-0 hidden
none_two f g h = h

pub not_none : (k : ℕ) (inside body : LoopCode) → HasNone (Sum k inside body) → ⊥
unfolding hidden-the_row-LoopCode-0 hidden
not_none k inside body h = h

-- of loops without sums
module _ (P : LoopCode → Type 0) (loop : (v : ℕ) (seeks : List Seek) (body : LoopCode) → HasNone body → P body → P (Loop v seeks body))
    (both : (f g : LoopCode) → HasNone f → HasNone g → P f → P g → P (Both f g)) (add : (t : Term) → P (Add t)) where
  pub by_plain_parts : (c : LoopCode) → HasNone c → P c
  by_plain_parts = by_parts (λ c. HasNone c → P c)
      (λ v seeks body more h. let none = none_loop v seeks body h in loop v seeks body none (more none))
      (λ f g one two h. let none = none_two f g h in both f g none.0 none.1 (one none.0) (two none.1))
      (λ t h. add t) (λ k inside body one two h. absurd (not_none k inside body h))

-- the terms of loops with the loops around them
abbrev pub nests_of : LoopCode → List Nest
nests_of c = nests (concrete_of c)

pub nests_loop : (v : ℕ) (seeks : List Seek) (body : LoopCode) → nests_of (Loop v seeks body) ≡ map (inside v) (nests_of body)
unfolding hidden-the_row-LoopCode-0 hidden-the_row-Concrete-0 hidden
nests_loop v seeks body = refl

pub nests_two : (f g : LoopCode) → nests_of (Both f g) ≡ nests_of f ++ nests_of g
unfolding hidden-the_row-LoopCode-0 hidden-the_row-Concrete-0 hidden
nests_two f g = refl

pub next_loop : (v : ℕ) (seeks : List Seek) (body : LoopCode) → next_loops (concrete_of (Loop v seeks body)) ≡ v ∷ []
unfolding hidden-the_row-LoopCode-0 hidden-the_row-Concrete-0 hidden
next_loop v seeks body = refl

pub next_two : (f g : LoopCode) → next_loops (concrete_of (Both f g)) ≡ next_loops (concrete_of f) ++ next_loops (concrete_of g)
unfolding hidden-the_row-LoopCode-0 hidden-the_row-Concrete-0 hidden
next_two f g = refl

pub shares_loop : (v : ℕ) (seeks : List Seek) (body : LoopCode) → SharesLoops (concrete_of (Loop v seeks body))
    → SharesLoops (concrete_of body)
unfolding hidden-the_row-LoopCode-0 hidden-the_row-Concrete-0 hidden
shares_loop v seeks body h = h

pub shares_two : (f g : LoopCode) → SharesLoops (concrete_of (Both f g))
    → IsDistinct (next_loops (concrete_of f) ++ next_loops (concrete_of g)) × SharesLoops (concrete_of f) × SharesLoops (concrete_of g)
unfolding hidden-the_row-LoopCode-0 hidden-the_row-Concrete-0 hidden
shares_two f g h = h

module _ (s : Statement) where
  pub below_loop : (v : ℕ) (seeks : List Seek) (body : LoopCode) → FindsBelow s (Loop v seeks body)
      → Each (λ (x : Seek). reads_any s (concrete_of body) x.access ≡ true) seeks × FindsBelow s body
  unfolding hidden-the_row-LoopCode-0 hidden
  below_loop v seeks body h = h

  pub below_two : (f g : LoopCode) → FindsBelow s (Both f g) → FindsBelow s f × FindsBelow s g
  unfolding hidden-the_row-LoopCode-0 hidden
  below_two f g h = h

module _ (s : Statement) (formats : List (List FormatLevel)) (bound : List ℕ) (depth : ℕ → ℕ) where
  pub reached_loop : (v : ℕ) (seeks : List Seek) (body : LoopCode) → FindsReached s formats bound depth (Loop v seeks body)
      → AreReached s formats (v ∷ bound) (depth_after seeks depth) (concrete_of body)
      × FindsReached s formats (v ∷ bound) (depth_after seeks depth) body
  unfolding hidden-the_row-LoopCode-0 hidden
  reached_loop v seeks body h = h

  pub reached_two : (f g : LoopCode) → FindsReached s formats bound depth (Both f g)
      → FindsReached s formats bound depth f × FindsReached s formats bound depth g
  unfolding hidden-the_row-LoopCode-0 hidden
  reached_two f g h = h

-- a test of loops without sums that holds where it holds of some term
module _ (test : LoopCode → Bool) (of : Expr → Bool)
    (loop : (v : ℕ) (seeks : List Seek) (body : LoopCode) → test (Loop v seeks body) ≡ test body)
    (both : (f g : LoopCode) → test (Both f g) ≡ (test f || test g)) (add : (t : Term)
    → test (Add t) ≡ some_term of (nests_of (Add t))) where
  pub of_terms : (c : LoopCode) → HasNone c → test c ≡ some_term of (nests_of c)
  of_terms = by_plain_parts (λ c. test c ≡ some_term of (nests_of c))
      (λ v seeks body none more. loop v seeks body ∙ more
      ∙ sym (ap (some_term of) (nests_loop v seeks body) ∙ some_inside of v (nests_of body)))
      (λ f g none_one none_other one two. both f g ∙ ap (λ b. b || test g) one ∙ ap (λ b. some_term of (nests_of f) || b) two
      ∙ sym (ap (some_term of) (nests_two f g) ∙ some_both of (nests_of f) (nests_of g)))
      add

or_false : (b : Bool) → b ≡ (b || false)
or_false true = refl
or_false false = refl

remains_loop : (P : ℕ → Bool) (v : ℕ) (seeks : List Seek) (body : LoopCode) → remains_below P (Loop v seeks body) ≡ remains_below P body
unfolding hidden-the_row-LoopCode-0 hidden
remains_loop P v seeks body = refl

remains_two : (P : ℕ → Bool) (f g : LoopCode) → remains_below P (Both f g) ≡ (remains_below P f || remains_below P g)
unfolding hidden-the_row-LoopCode-0 hidden
remains_two P f g = refl

pub remains_terms : (P : ℕ → Bool) (c : LoopCode) → HasNone c → remains_below P c ≡ some_term (remains P) (nests_of c)
remains_terms P = of_terms (remains_below P) (remains P) (remains_loop P) (remains_two P) (λ t. or_false (remains P t.expr))

live_loop : (P : ℕ → Bool) (k v : ℕ) (seeks : List Seek) (body : LoopCode) → is_live_below P (Loop v seeks body) k ≡ is_live_below P body k
unfolding hidden-the_row-LoopCode-0 hidden
live_loop P k v seeks body = refl

live_two : (P : ℕ → Bool) (k : ℕ) (f g : LoopCode) → is_live_below P (Both f g) k ≡ (is_live_below P f k || is_live_below P g k)
unfolding hidden-the_row-LoopCode-0 hidden
live_two P k f g = refl

pub live_terms : (P : ℕ → Bool) (c : LoopCode) → HasNone c → (k : ℕ)
    → is_live_below P c k ≡ some_term (λ e. is_live P e k) (nests_of c)
live_terms P c none k =
    of_terms (λ d. is_live_below P d k) (λ e. is_live P e k) (live_loop P k) (live_two P k) (λ t. or_false (is_live P t.expr k)) c none

full_loop : (F P : ℕ → Bool) (v : ℕ) (seeks : List Seek) (body : LoopCode) → is_full_below F P (Loop v seeks body) ≡ is_full_below F P body
unfolding hidden-the_row-LoopCode-0 hidden
full_loop F P v seeks body = refl

full_two : (F P : ℕ → Bool) (f g : LoopCode) → is_full_below F P (Both f g) ≡ (is_full_below F P f || is_full_below F P g)
unfolding hidden-the_row-LoopCode-0 hidden
full_two F P f g = refl

pub full_terms : (F P : ℕ → Bool) (c : LoopCode) → HasNone c → is_full_below F P c ≡ some_term (is_full F P) (nests_of c)
full_terms F P = of_terms (is_full_below F P) (is_full F P) (full_loop F P) (full_two F P) (λ t. or_false (is_full F P t.expr))

pub uses_loop : (k v : ℕ) (seeks : List Seek) (body : LoopCode) → uses (concrete_of (Loop v seeks body)) k ≡ uses (concrete_of body) k
unfolding hidden-the_row-LoopCode-0 hidden-the_row-Concrete-0 hidden
uses_loop k v seeks body = refl

pub uses_two : (k : ℕ) (f g : LoopCode) → uses (concrete_of (Both f g)) k ≡ (uses (concrete_of f) k || uses (concrete_of g) k)
unfolding hidden-the_row-LoopCode-0 hidden-the_row-Concrete-0 hidden
uses_two k f g = refl

pub uses_terms : (c : LoopCode) → HasNone c → (k : ℕ) → uses (concrete_of c) k ≡ some_term (λ e. has_access e k) (nests_of c)
uses_terms c none k =
    of_terms (λ d. uses (concrete_of d) k) (λ e. has_access e k) (uses_loop k) (uses_two k) (λ t. or_false (has_access t.expr k)) c none

-- what is so of a sum of its parts
pub nests_sum : (k : ℕ) (inside body : LoopCode) → nests_of (Sum k inside body) ≡ nests_of body
unfolding hidden-the_row-LoopCode-0 hidden
nests_sum k inside body = refl

pub shares_sum : (k : ℕ) (inside body : LoopCode) → SharesLoops (concrete_of (Sum k inside body)) → SharesLoops (concrete_of body)
unfolding hidden-the_row-LoopCode-0 hidden
shares_sum k inside body h = h

pub concrete_sum : (k : ℕ) (inside body : LoopCode) → concrete_of (Sum k inside body) ≡ concrete_of body
unfolding hidden-the_row-LoopCode-0 hidden
concrete_sum k inside body = refl

pub below_sum : (s : Statement) (k : ℕ) (inside body : LoopCode) → FindsBelow s (Sum k inside body)
    → FindsBelow s inside × FindsBelow s body
unfolding hidden-the_row-LoopCode-0 hidden
below_sum s k inside body h = h

pub reached_sum : (s : Statement) (formats : List (List FormatLevel)) (bound : List ℕ) (depth : ℕ → ℕ) (k : ℕ) (inside body : LoopCode)
    → FindsReached s formats bound depth (Sum k inside body)
    → FindsReached s formats bound depth inside × FindsReached s formats bound depth body
unfolding hidden-the_row-LoopCode-0 hidden
reached_sum s formats bound depth k inside body h = h

pub live_sum : (P : ℕ → Bool) (k : ℕ) (inside body : LoopCode) (j : ℕ) → is_live_below P (Sum k inside body) j
    ≡ (is_live_below (given P k (remains_below P inside)) body j
    || (is_live_below (given P k (remains_below P inside)) body k && is_live_below P inside j))
unfolding hidden-the_row-LoopCode-0 hidden
live_sum P k inside body j = refl

-- a number of loops of which each loop has its own, where a part remains, and the numbers of its body at each coordinate; a sum has that of
-- what is summed, where it is wanted, and that of its body
pub record IsCount (layout : Layout) (stored : Stored) (ranges : ℕ → ℕ) (own : ℕ → List Seek → LoopCode → Env → ℕ)
    (count : LoopCode → Env → ℕ) : Type 0 where
  pub loop : (v : ℕ) (seeks : List Seek) (body : LoopCode) (env : Env) → count (Loop v seeks body) env
      ≡ (if remains_below (here env) body then own v seeks body (pruned body env)
      + count_below (ranges v) (λ x. count body (moved layout stored v seeks (pruned body env) x)) else 0)
  pub both : (f g : LoopCode) (env : Env) → count (Both f g) env ≡ count f env + count g env
  pub add : (t : Term) (env : Env) → count (Add t) env ≡ 0
  pub sum : (k : ℕ) (inside body : LoopCode) (env : Env) → count (Sum k inside body) env
      ≡ (if is_live_below (given (here env) k (remains_below (here env) inside)) body k then count inside env else 0)
      + count body (at_cursor env k (some_if (adds_some layout stored ranges inside env)))

module _ (layout : Layout) (stored : Stored) (ranges : ℕ → ℕ) where
  -- the length of one loop, and its repeated coordinates
  abbrev pub loop_length : ℕ → List Seek → LoopCode → Env → ℕ
  loop_length v seeks body env = if is_full_below (is_other seeks) (here env) body then ranges v else lengths stored env seeks

  abbrev pub loop_repeats : ℕ → List Seek → LoopCode → Env → ℕ
  loop_repeats v seeks body env = repeated layout stored env seeks

  cost_loop : (v : ℕ) (seeks : List Seek) (body : LoopCode) (env : Env) → cost layout stored ranges (Loop v seeks body) env
      ≡ (if remains_below (here env) body then loop_length v seeks body (pruned body env)
      + count_below (ranges v) (λ x. cost layout stored ranges body (moved layout stored v seeks (pruned body env) x)) else 0)
  unfolding hidden-the_row-LoopCode-0 hidden
  cost_loop v seeks body env = refl

  cost_both : (f g : LoopCode) (env : Env) → cost layout stored ranges (Both f g) env
      ≡ cost layout stored ranges f env + cost layout stored ranges g env
  unfolding hidden-the_row-LoopCode-0 hidden
  cost_both f g env = refl

  cost_sum : (k : ℕ) (inside body : LoopCode) (env : Env) → cost layout stored ranges (Sum k inside body) env
      ≡ (if is_live_below (given (here env) k (remains_below (here env) inside)) body k then cost layout stored ranges inside env else 0)
      + cost layout stored ranges body (at_cursor env k (some_if (adds_some layout stored ranges inside env)))
  unfolding hidden-the_row-LoopCode-0 hidden
  cost_sum k inside body env = refl

  pub cost_counts : IsCount layout stored ranges loop_length (cost layout stored ranges)
  cost_counts = record { loop = cost_loop; both = cost_both; add = λ t env. refl; sum = cost_sum }

  dups_loop : (v : ℕ) (seeks : List Seek) (body : LoopCode) (env : Env) → dups layout stored ranges (Loop v seeks body) env
      ≡ (if remains_below (here env) body then loop_repeats v seeks body (pruned body env)
      + count_below (ranges v) (λ x. dups layout stored ranges body (moved layout stored v seeks (pruned body env) x)) else 0)
  unfolding hidden-the_row-LoopCode-0 hidden
  dups_loop v seeks body env = refl

  dups_both : (f g : LoopCode) (env : Env) → dups layout stored ranges (Both f g) env
      ≡ dups layout stored ranges f env + dups layout stored ranges g env
  unfolding hidden-the_row-LoopCode-0 hidden
  dups_both f g env = refl

  dups_sum : (k : ℕ) (inside body : LoopCode) (env : Env) → dups layout stored ranges (Sum k inside body) env
      ≡ (if is_live_below (given (here env) k (remains_below (here env) inside)) body k then dups layout stored ranges inside env else 0)
      + dups layout stored ranges body (at_cursor env k (some_if (adds_some layout stored ranges inside env)))
  unfolding hidden-the_row-LoopCode-0 hidden
  dups_sum k inside body env = refl

  pub dups_count : IsCount layout stored ranges loop_repeats (dups layout stored ranges)
  dups_count = record { loop = dups_loop; both = dups_both; add = λ t env. refl; sum = dups_sum }
