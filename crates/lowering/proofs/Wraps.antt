-- Loops with the sums around them that start there are in place, and each sum that they read is started.
use Rattle.std.specs.Prelude.{◌≡◌, ◌⊎◌, ℕ, zero, suc, ◌+◌, ◌-◌, ◌≤◌, ◌<◌, nat_eq, Bool, true, false, ◌&&◌, if◌then◌else◌}
use Rattle.std.specs.Prelude.{List, [], ◌∷◌, length, Option, None, Some, slice_get, refl}
use Rattle.std.proofs.Common.{◌∙◌, sym, ap, subst, arith, inl, inr}
use Rattle.std.proofs.lemmas.Bool.Decides.{eqb_tells}
use denote.Hole.Carrier.{hidden}
use Rattle.format_spec.specs.declared.format.FormatLevel.{FormatLevel}
use Rattle.index_notation.specs.Statement.{numbers_from}
use Rattle.index_notation.specs.declared.syntax.Statement.{Statement}
use Rattle.lists.specs.Each.{Each}
use Rattle.expr_terms.specs.Terms.{contains, plain_term, stands_before}
use Rattle.concrete_notation.specs.declared.concrete.Concrete.{Concrete, Forall}
use Rattle.concrete_notation.specs.declared.concrete.Concrete.TheBlock.{hidden-the_row-Concrete-0}
use Rattle.concrete_notation.proofs.Points.{each_contained, numbers_distinct}
use Rattle.loop_code.specs.declared.loops.LoopCode.{LoopCode, Add, Loop, Sum}
use Rattle.loop_code.specs.declared.loops.LoopCode.TheBlock.{hidden-the_row-LoopCode-0}
use Rattle.loop_code.specs.declared.loops.Seek.{Seek}
use Rattle.loop_code.specs.Parts.{given}
use Rattle.loop_code.specs.Places.{EachAccess, AreSeeks, depth_after}
use Rattle.loop_code.proofs.Equations.{loop_placed, sum_placed}
use Rattle.lowering.specs.Layouts.{layout_of}
use Rattle.lowering.specs.Lowered.{concrete_of}
use Rattle.lowering.specs.Seeking.{has_access, reached, seeks_at, uses}
use Rattle.lowering.specs.Shapes.{Allows, AreGood, AreReached, FindsBelow, FindsReached, HasStarts, IsStart, MayLoop, variables_at}
use Rattle.lowering.specs.Sums.{are_bound, first_sum, inside_of, is_met, reads, reads_any, starts_at, sum_at, sum_tree}
use Rattle.lowering.specs.Sums.{vars_at}
use Rattle.lowering.specs.Wrapped.{inside_code, wrapped}
use Rattle.lowering.proofs.Accesses.{each_access, or_left, or_right}
use Rattle.lowering.proofs.Reached.{all_are, all_reached, only_used}
use Rattle.lowering.proofs.Standing.{all_bound, at_access, bound_less, each_as, fresh_behind, given_kept, numbers_each, number_in}
use Rattle.lowering.proofs.Standing.{one_bound, or_so, self_test, stands_by, sum_has_no_level}
use Rattle.lowering.proofs.Through.{both_so, inside_below, so_both, sum_of_list, through_above, through_closed, through_limit}
use Rattle.lowering.proofs.Through.{through_less, through_uses, under}

module _ (s : Statement) where
  -- with those sums before a limit that start there
  abbrev pub with_started : (ℕ → Bool) → Option ℕ → List ℕ → (ℕ → Bool) → ℕ → ℕ → Bool
  with_started used at bound started zero = started
  with_started used at bound started (suc n) =
      if starts_at s used at bound n then given (with_started used at bound started n) (first_sum s + n) true
      else with_started used at bound started n

  pub still_started : (used : ℕ → Bool) (at : Option ℕ) (bound : List ℕ) (started : ℕ → Bool) (n k : ℕ) → started k ≡ true
      → with_started used at bound started n k ≡ true
  still_started used at bound started zero k h = h
  still_started used at bound started (suc n) k h =
      by (starts_at s used at bound n) (still_started used at bound started n k h)
    where
      by : (b : Bool) → with_started used at bound started n k ≡ true
          → (if b then given (with_started used at bound started n) (first_sum s + n) true else with_started used at bound started n) k
          ≡ true
      by true g = given_kept (with_started used at bound started n) (first_sum s + n) k g
      by false g = g

  pub now_started : (used : ℕ → Bool) (at : Option ℕ) (bound : List ℕ) (started : ℕ → Bool) (n m : ℕ) → m < n
      → starts_at s used at bound m ≡ true → with_started used at bound started n (first_sum s + m) ≡ true
  now_started used at bound started zero m l h = absurd (omega (arith, l))
  now_started used at bound started (suc n) m l h =
      by (starts_at s used at bound n) refl (less_or_same m n l) (λ less. now_started used at bound started n m less h)
    where
      less_or_same : (m n : ℕ) → m < suc n → (m < n) ⊎ (m ≡ n)
      less_or_same m n l = grind (arith, l)

      clash : (b : Bool) → b ≡ true → b ≡ false → ⊥
      clash b h g = cc

      by : (b : Bool) → starts_at s used at bound n ≡ b → (m < n) ⊎ (m ≡ n)
          → (m < n → with_started used at bound started n (first_sum s + m) ≡ true)
          → (if b then given (with_started used at bound started n) (first_sum s + n) true else with_started used at bound started n)
          (first_sum s + m) ≡ true
      by true is (inl less) rest =
          given_kept (with_started used at bound started n) (first_sum s + n) (first_sum s + m) (rest less)
      by true is (inr same) rest =
          subst (λ i. given (with_started used at bound started n) (first_sum s + n) true (first_sum s + i) ≡ true) (sym same)
          (ap (λ b. if b then true else with_started used at bound started n (first_sum s + n)) (self_test (first_sum s + n)))
      by false is (inl less) rest = rest less
      by false is (inr same) rest =
          absurd (clash (starts_at s used at bound n) (subst (λ i. starts_at s used at bound i ≡ true) same h) is)

-- the innermost loop's variable stands in the order behind the others that are bound, and without loops none is
abbrev pub Leads : List ℕ → Option ℕ → List ℕ → Type 0
Leads order None bound = bound ≡ []
Leads order (Some v) bound = Each (λ w. (w ≡ v) ⊎ (stands_before order w v ≡ true)) bound

module _ (s : Statement) (formats : List (List FormatLevel)) where
  pub sum_shape : (k : ℕ) (inside body : LoopCode) → concrete_of (Sum k inside body) ≡ concrete_of body
  unfolding hidden-the_row-LoopCode-0 hidden
  sum_shape k inside body = refl

  -- loops with sums around them are the same without them
  pub wrapped_shape : (n : ℕ) (used : ℕ → Bool) (at : Option ℕ) (bound : List ℕ) (loops : LoopCode)
      → concrete_of (wrapped s formats used at bound n loops) ≡ concrete_of loops
  wrapped_shape zero used at bound loops = refl
  wrapped_shape (suc n) used at bound loops =
      wrapped_shape n used at bound
      (if starts_at s used at bound n then Sum (first_sum s + n) (inside_code s formats bound n) loops else loops)
      ∙ by (starts_at s used at bound n)
    where
      by : (b : Bool) → concrete_of (if b then Sum (first_sum s + n) (inside_code s formats bound n) loops else loops) ≡ concrete_of loops
      by true = sum_shape (first_sum s + n) (inside_code s formats bound n) loops
      by false = refl

  pub loop_shape : (v : ℕ) (seeks : List Seek) (body : LoopCode) (c : Concrete) → concrete_of body ≡ c
      → concrete_of (Loop v seeks body) ≡ Forall v c
  unfolding hidden-the_row-LoopCode-0 hidden-the_row-Concrete-0 hidden
  loop_shape v seeks body c h = ap (Forall v) h

  abbrev pub seeks_inside : List ℕ → ℕ → List Seek
  seeks_inside bound n =
      seeks_at s formats (reads s n (inside_of s n)) bound ((sum_at s n).var ∷ bound) (numbers_from 0 (length s.accesses))

  abbrev pub body_inside : List ℕ → ℕ → LoopCode
  body_inside bound n =
      wrapped s formats (reads s n (inside_of s n)) (Some (sum_at s n).var) ((sum_at s n).var ∷ bound) n
      (Add (plain_term (sum_at s n).inside))

  pub body_shape : (bound : List ℕ) (n : ℕ) → concrete_of (body_inside bound n) ≡ inside_of s n
  body_shape bound n =
      wrapped_shape n (reads s n (inside_of s n)) (Some (sum_at s n).var) ((sum_at s n).var ∷ bound)
      (Add (plain_term (sum_at s n).inside))

  pub inside_shape : (bound : List ℕ) (n : ℕ) → concrete_of (inside_code s formats bound n) ≡ sum_tree s n
  inside_shape bound n =
      loop_shape (sum_at s n).var (seeks_inside bound n) (body_inside bound n) (inside_of s n) (body_shape bound n)

  pub finds_loop : (v : ℕ) (seeks : List Seek) (body : LoopCode) → Each (λ (x : Seek). reads_any s (concrete_of body) x.access ≡ true) seeks
      → FindsBelow s body → FindsBelow s (Loop v seeks body)
  unfolding hidden-the_row-LoopCode-0 hidden
  finds_loop v seeks body each h = (each, h)

  finds_sum : (k : ℕ) (inside body : LoopCode) → FindsBelow s inside → FindsBelow s body → FindsBelow s (Sum k inside body)
  unfolding hidden-the_row-LoopCode-0 hidden
  finds_sum k inside body f g = (f, g)

  -- their loops find levels of what is read below
  pub wrapped_finds : (n : ℕ) → n ≤ length s.sums → (used : ℕ → Bool) (at : Option ℕ) (bound : List ℕ) (loops : LoopCode)
      → FindsBelow s loops → FindsBelow s (wrapped s formats used at bound n loops)
  wrapped_finds zero top used at bound loops h = h
  wrapped_finds (suc n) top used at bound loops h =
      wrapped_finds n (omega (arith, top)) used at bound
      (if starts_at s used at bound n then Sum (first_sum s + n) (inside_code s formats bound n) loops else loops)
      (by (starts_at s used at bound n) (inside
      (wrapped_finds n (omega (arith, top)) (reads s n (inside_of s n)) (Some (sum_at s n).var) ((sum_at s n).var ∷ bound)
      (Add (plain_term (sum_at s n).inside)) tt)))
    where
      inside : FindsBelow s (body_inside bound n) → FindsBelow s (inside_code s formats bound n)
      inside rest =
          finds_loop (sum_at s n).var (seeks_inside bound n) (body_inside bound n)
          (each_as (λ (x : Seek). reads s n (inside_of s n) x.access ≡ true)
          (λ (x : Seek). reads_any s (concrete_of (body_inside bound n)) x.access ≡ true) (seeks_inside bound n)
          (λ x is. subst (λ c. reads_any s c x.access ≡ true) (sym (body_shape bound n))
          (through_less s n (length s.sums) (omega (arith, top)) (uses (inside_of s n)) x.access is))
          (only_used s formats (reads s n (inside_of s n)) bound ((sum_at s n).var ∷ bound) (numbers_from 0 (length s.accesses)))) rest

      by : (b : Bool) → FindsBelow s (inside_code s formats bound n)
          → FindsBelow s (if b then Sum (first_sum s + n) (inside_code s formats bound n) loops else loops)
      by true f = finds_sum (first_sum s + n) (inside_code s formats bound n) loops f h
      by false f = h

  module _ (order : List ℕ) (allows : Allows s formats order) where
    -- a sum that is read inside another one stands before it
    earlier : (n m : ℕ) → n < length s.sums → reads s n (inside_of s n) (first_sum s + m) ≡ true → m < n
    earlier n m l h = by (less_or_not m n)
      where
        less_or_not : (m n : ℕ) → (m < n) ⊎ (n ≤ m)
        less_or_not m n = grind arith

        by : (m < n) ⊎ (n ≤ m) → m < n
        by (inl less) = less
        by (inr not) =
            let there = through_above s (length s.vars) allows.sums.numbers n (omega (arith, l)) (uses (inside_of s n)) m not h in
            let below = inside_below s (length s.vars) allows.sums.numbers n l (first_sum s + m) there in
            absurd (omega (arith, below, not))

    top : first_sum s + length s.sums ≤ length s.accesses
    top = let within = allows.sums.count in omega (arith, within)

    abbrev vars_of_sum : ℕ → List ℕ
    vars_of_sum n = vars_at s (first_sum s + n)

    -- what is used of the statement inside the loops of bound variables, the innermost of which is told, and what is started outside:
    -- all that is read inside sums that are used is, and so many levels are found as are reached
    pub record AreUsed (used : ℕ → Bool) (at : Option ℕ) (bound : List ℕ) (depth : ℕ → ℕ) (started : ℕ → Bool) : Type 0 where
      pub leads : Leads order at bound
      pub reach : (k : ℕ) → used k ≡ true → depth k ≡ reached bound (variables_at s formats k)
      pub below : (k : ℕ) → used k ≡ true → k < length s.accesses
      pub closed : (m : ℕ) → m < length s.sums → used (first_sum s + m) ≡ true → (k : ℕ) → reads s m (inside_of s m) k ≡ true
          → used k ≡ true
      pub outer : (m : ℕ) → m < length s.sums → used (first_sum s + m) ≡ true → are_bound bound (vars_of_sum m) ≡ true
          → is_met at (vars_of_sum m) ≡ false → started (first_sum s + m) ≡ true

    -- the variable of a sum that starts stands behind all that are bound
    pub behind_all : (at : Option ℕ) (bound : List ℕ) (n : ℕ) → n < length s.sums → Leads order at bound → is_met at (vars_of_sum n) ≡ true
        → Each (λ w. stands_before order w (sum_at s n).var ≡ true) bound
    behind_all None bound n l leads met = subst (Each (λ w. stands_before order w (sum_at s n).var ≡ true)) (sym leads) tt
    behind_all (Some v) bound n l leads met =
        each_as (λ w. (w ≡ v) ⊎ (stands_before order w v ≡ true)) (λ w. stands_before order w (sum_at s n).var ≡ true) bound by leads
      where
        last : stands_before order v (sum_at s n).var ≡ true
        last = each_contained (λ w. stands_before order w (sum_at s n).var ≡ true) (vars_of_sum n) (allows.inner n l) v met

        by : (w : ℕ) → (w ≡ v) ⊎ (stands_before order w v ≡ true) → stands_before order w (sum_at s n).var ≡ true
        by w (inl same) = ap (λ u. stands_before order u (sum_at s n).var) same ∙ last
        by w (inr before) = allows.behind w v (sum_at s n).var before last

    loop_found : (bound : List ℕ) (depth : ℕ → ℕ) (v : ℕ) (seeks : List Seek) (body : LoopCode)
        → AreReached s formats (v ∷ bound) (depth_after seeks depth) (concrete_of body)
        → FindsReached s formats (v ∷ bound) (depth_after seeks depth) body → FindsReached s formats bound depth (Loop v seeks body)
    unfolding hidden-the_row-LoopCode-0 hidden
    loop_found bound depth v seeks body at f = (at, f)

    loop_starts : (bound : List ℕ) (started : ℕ → Bool) (v : ℕ) (seeks : List Seek) (body : LoopCode)
        → HasStarts s (v ∷ bound) started body → HasStarts s bound started (Loop v seeks body)
    unfolding hidden-the_row-LoopCode-0 hidden
    loop_starts bound started v seeks body h = h

    pub loop_good : (bound : List ℕ) (depth : ℕ → ℕ) (started : ℕ → Bool) (v : ℕ) (seeks : List Seek) (body : LoopCode)
        → contains bound v ≡ false → AreSeeks (layout_of s formats) (length s.accesses) v bound depth depth seeks
        → AreReached s formats (v ∷ bound) (depth_after seeks depth) (concrete_of body)
        → AreGood s formats (v ∷ bound) (depth_after seeks depth) started body → AreGood s formats bound depth started (Loop v seeks body)
    loop_good bound depth started v seeks body fresh are at good = record {
      placed = loop_placed (layout_of s formats) (length s.accesses) bound depth v seeks body fresh are good.placed;
      found = loop_found bound depth v seeks body at good.found;
      starts = loop_starts bound started v seeks body good.starts;
    }

    sum_found : (bound : List ℕ) (depth : ℕ → ℕ) (k : ℕ) (inside body : LoopCode) → FindsReached s formats bound depth inside
        → FindsReached s formats bound depth body → FindsReached s formats bound depth (Sum k inside body)
    unfolding hidden-the_row-LoopCode-0 hidden
    sum_found bound depth k inside body a b = (a, b)

    sum_starts : (bound : List ℕ) (started : ℕ → Bool) (k : ℕ) (inside body : LoopCode) → IsStart s bound k (concrete_of inside)
        → HasStarts s bound started inside → HasStarts s bound (given started k true) body
        → HasStarts s bound started (Sum k inside body)
    unfolding hidden-the_row-LoopCode-0 hidden
    sum_starts bound started k inside body a b c = (a, b, c)

    sum_good : (bound : List ℕ) (depth : ℕ → ℕ) (started : ℕ → Bool) (n : ℕ) (inside body : LoopCode) → n < length s.sums
        → are_bound bound (vars_of_sum n) ≡ true → concrete_of inside ≡ sum_tree s n → AreGood s formats bound depth started inside
        → AreGood s formats bound depth (given started (first_sum s + n) true) body
        → AreGood s formats bound depth started (Sum (first_sum s + n) inside body)
    sum_good bound depth started n inside body l known shape f g = record {
      placed = sum_placed (layout_of s formats) (length s.accesses) bound depth (first_sum s + n) inside body (omega (arith, l, top))
          (sum_has_no_level s formats (first_sum s + n) (allows.sums.levels n l)) f.placed g.placed;
      found = sum_found bound depth (first_sum s + n) inside body f.found g.found;
      starts = sum_starts bound started (first_sum s + n) inside body
          (record { number = n; below = l; access = refl; known = known; inside = shape }) f.starts g.starts;
    }

    abbrev WrapsWell : ℕ → Type 0
    WrapsWell n =
        n ≤ length s.sums → (used : ℕ → Bool) (at : Option ℕ) (bound : List ℕ) (depth : ℕ → ℕ) (started : ℕ → Bool) (loops : LoopCode)
        → AreUsed used at bound depth started → AreGood s formats bound depth (with_started s used at bound started n) loops
        → AreGood s formats bound depth started (wrapped s formats used at bound n loops)

    module _ (n : ℕ) (l : n < length s.sums) (used : ℕ → Bool) (at : Option ℕ) (bound : List ℕ) (depth : ℕ → ℕ) (started : ℕ → Bool)
        (are : AreUsed used at bound depth started) (test : starts_at s used at bound n ≡ true) where
      abbrev v : ℕ
      v = (sum_at s n).var

      abbrev inner : ℕ → Bool
      inner = reads s n (inside_of s n)

      abbrev now : ℕ → Bool
      now = with_started s used at bound started n

      is_used : used (first_sum s + n) ≡ true
      is_used = (both_so (used (first_sum s + n)) (is_met at (vars_of_sum n) && are_bound bound (vars_of_sum n)) test).0

      both_met : (is_met at (vars_of_sum n) && are_bound bound (vars_of_sum n)) ≡ true
      both_met = (both_so (used (first_sum s + n)) (is_met at (vars_of_sum n) && are_bound bound (vars_of_sum n)) test).1

      known : are_bound bound (vars_of_sum n) ≡ true
      known = (both_so (is_met at (vars_of_sum n)) (are_bound bound (vars_of_sum n)) both_met).1

      behind : Each (λ w. stands_before order w v ≡ true) bound
      behind = behind_all at bound n l are.leads (both_so (is_met at (vars_of_sum n)) (are_bound bound (vars_of_sum n)) both_met).0

      fresh : contains bound v ≡ false
      fresh = fresh_behind order bound v (allows.apart v) behind

      inner_used : (k : ℕ) → inner k ≡ true → used k ≡ true
      inner_used k h = are.closed n l is_used k h

      abbrev ks : List ℕ
      ks = numbers_from 0 (length s.accesses)

      same_depth : Each (λ k. depth k ≡ depth k) ks
      same_depth = numbers_each (λ k. depth k ≡ depth k) 0 (length s.accesses) (λ k low high. refl)

      may : (k : ℕ) → inner k ≡ true → MayLoop s formats bound v k
      may k h = allows.next bound v k (allows.known n l) behind (are.below k (inner_used k h))

      reach : (k : ℕ) → inner k ≡ true → depth_after (seeks_inside bound n) depth k ≡ reached (v ∷ bound) (variables_at s formats k)
      reach k h =
          all_reached s formats v bound inner depth may (λ j g. are.reach j (inner_used j g)) ks
          (numbers_distinct 0 (length s.accesses)) depth same_depth k (number_in 0 (length s.accesses) k (omega arith)
          (let below = are.below k (inner_used k h) in let high : k < 0 + length s.accesses = omega (arith, below) in high)) h

      seeks_are : AreSeeks (layout_of s formats) (length s.accesses) v bound depth depth (seeks_inside bound n)
      seeks_are =
          all_are s formats v bound inner depth may (λ j g. are.reach j (inner_used j g)) ks (numbers_distinct 0 (length s.accesses))
          (numbers_each (λ k. k < length s.accesses) 0 (length s.accesses) (λ k low high. omega (arith, high))) depth same_depth

      -- a sum that stands inside, all of whose variables but the sum's own are bound, is started
      inner_started : (m : ℕ) → m < length s.sums → inner (first_sum s + m) ≡ true → are_bound (v ∷ bound) (vars_of_sum m) ≡ true
          → contains (vars_of_sum m) v ≡ false → now (first_sum s + m) ≡ true
      inner_started m below h bound_there apart = by (is_met at (vars_of_sum m)) refl
        where
          all : are_bound bound (vars_of_sum m) ≡ true
          all = bound_less v bound (vars_of_sum m) bound_there apart

          there : used (first_sum s + m) ≡ true
          there = inner_used (first_sum s + m) h

          before : m < n
          before = earlier n m l h

          by : (b : Bool) → is_met at (vars_of_sum m) ≡ b → now (first_sum s + m) ≡ true
          by true met =
              now_started s used at bound started n m before
              (so_both (used (first_sum s + m)) (is_met at (vars_of_sum m) && are_bound bound (vars_of_sum m)) there
              (so_both (is_met at (vars_of_sum m)) (are_bound bound (vars_of_sum m)) met all))
          by false not = still_started s used at bound started n (first_sum s + m) (are.outer m below there all not)

      inner_are : AreUsed inner (Some v) (v ∷ bound) (depth_after (seeks_inside bound n) depth) now
      inner_are = record {
        leads = (
          inl refl,
          each_as (λ w. stands_before order w v ≡ true) (λ w. (w ≡ v) ⊎ (stands_before order w v ≡ true)) bound
              (λ w h. inr h) behind,
        );
        reach = reach;
        below = λ k h. are.below k (inner_used k h);
        closed = λ m below h k inside.
            through_closed s (length s.vars) allows.sums.numbers n (omega (arith, l)) (uses (inside_of s n)) m
            (earlier n m l h) h k inside;
        outer = λ m below h bound_there not. inner_started m below h bound_there not;
      }

      -- the variables of an access that stands inside are bound there
      access_bound : (k : ℕ) → has_access (sum_at s n).inside k ≡ true → are_bound (v ∷ bound) (vars_at s k) ≡ true
      access_bound k has = all_bound (v ∷ bound) (vars_at s k) (λ w is.
          by w (allows.sums.free n l w (stands_by s.accesses w k (sum_at s n).inside has (at_access w (slice_get s.accesses k) ∙ is))))
        where
          by : (w : ℕ) → contains (v ∷ vars_of_sum n) w ≡ true → contains (v ∷ bound) w ≡ true
          by w is = elim (eqb_tells v w) [
            | inl same ↦ or_left (nat_eq v w) (contains bound w) same.0
            | inr other ↦ or_right (nat_eq v w) (contains bound w)
                (one_bound bound (vars_of_sum n) known w (or_so (nat_eq v w) (contains (vars_of_sum n) w) is other.0))
          ]

      term_good : AreGood s formats (v ∷ bound) (depth_after (seeks_inside bound n) depth)
          (with_started s inner (Some v) (v ∷ bound) now n) (Add (plain_term (sum_at s n).inside))
      term_good = record {
        placed = each_access (λ k. k < first_sum s + n)
            (λ k. (k < length s.accesses) × (depth_after (seeks_inside bound n) depth k ≡ (layout_of s formats).levels k))
            (sum_at s n).inside
            (λ k has h. (
              omega (arith, h, l, top),
              reach k (through_uses s n (uses (inside_of s n)) k has)
                  ∙ allows.whole (v ∷ bound) k (omega (arith, h, l, top)) (access_bound k has),
            )) below;
        found = tt;
        starts = each_access (λ k. k < first_sum s + n)
            (λ k. first_sum s ≤ k → with_started s inner (Some v) (v ∷ bound) now n k ≡ true) (sum_at s n).inside
            (λ k has h sum. started_inside k has h sum) below;
      }
        where
          below : EachAccess (λ k. k < first_sum s + n) (sum_at s n).inside
          below = under (first_sum s + n) (sum_at s n).inside (sum_of_list (length s.vars) (first_sum s) s.sums allows.sums.numbers n l).1

          started_inside : (k : ℕ) → has_access (sum_at s n).inside k ≡ true → k < first_sum s + n → first_sum s ≤ k
              → with_started s inner (Some v) (v ∷ bound) now n k ≡ true
          started_inside k has high low =
              subst (λ i. with_started s inner (Some v) (v ∷ bound) now n i ≡ true) (sym is)
              (by (contains (vars_of_sum m) v) refl)
            where
              m : ℕ
              m = k - first_sum s

              is : k ≡ first_sum s + m
              is = omega (arith, low)

              before : m < n
              before = omega (arith, high, low)

              read : inner (first_sum s + m) ≡ true
              read = subst (λ i. inner i ≡ true) is (through_uses s n (uses (inside_of s n)) k has)

              all : are_bound (v ∷ bound) (vars_of_sum m) ≡ true
              all = subst (λ i. are_bound (v ∷ bound) (vars_at s i) ≡ true) is (access_bound k has)

              by : (b : Bool) → contains (vars_of_sum m) v ≡ b
                  → with_started s inner (Some v) (v ∷ bound) now n (first_sum s + m) ≡ true
              by true met =
                  now_started s inner (Some v) (v ∷ bound) now n m before
                  (so_both (inner (first_sum s + m)) (contains (vars_of_sum m) v && are_bound (v ∷ bound) (vars_of_sum m)) read
                  (so_both (contains (vars_of_sum m) v) (are_bound (v ∷ bound) (vars_of_sum m)) met all))
              by false not =
                  still_started s inner (Some v) (v ∷ bound) now n (first_sum s + m)
                  (inner_started m (omega (arith, before, l)) read all not)

      inside_good : WrapsWell n → AreGood s formats bound depth now (inside_code s formats bound n)
      inside_good wraps =
          loop_good bound depth now v (seeks_inside bound n) (body_inside bound n) fresh seeks_are
          (λ k h. reach k (through_limit s (length s.vars) allows.sums.numbers n (length s.sums) (omega arith) l (omega (arith, l)) k
          (subst (λ c. reads_any s c k ≡ true) (body_shape bound n) h)))
          (wraps (omega (arith, l)) inner (Some v) (v ∷ bound) (depth_after (seeks_inside bound n) depth) now
          (Add (plain_term (sum_at s n).inside)) inner_are term_good)

    -- loops with the sums around them that start there are in place, and what they read is started
    pub wrapped_good : (n : ℕ) → WrapsWell n
    wrapped_good zero top used at bound depth started loops are good = good
    wrapped_good (suc n) top used at bound depth started loops are good =
        wrapped_good n (omega (arith, top)) used at bound depth started
        (if starts_at s used at bound n then Sum (first_sum s + n) (inside_code s formats bound n) loops else loops) are
        (by (starts_at s used at bound n) refl (wrapped_good n) good)
      where
        by : (b : Bool) → starts_at s used at bound n ≡ b → WrapsWell n
            → AreGood s formats bound depth (if b then given (with_started s used at bound started n) (first_sum s + n) true
            else with_started s used at bound started n) loops
            → AreGood s formats bound depth (with_started s used at bound started n)
            (if b then Sum (first_sum s + n) (inside_code s formats bound n) loops else loops)
        by true is wraps g =
            sum_good bound depth (with_started s used at bound started n) n (inside_code s formats bound n) loops (omega (arith, top))
            (known n (omega (arith, top)) used at bound depth started are is) (inside_shape bound n)
            (inside_good n (omega (arith, top)) used at bound depth started are is wraps) g
        by false is wraps g = g
