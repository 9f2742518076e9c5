-- Sums start in place where loops have around them those that are read and start there.
use Rattle.std.specs.Prelude.{◌≡◌, ◌⊎◌, ℕ, zero, suc, ◌+◌, ◌-◌, ◌≤◌, ◌<◌, nat_eq, Bool, true, false, ◌||◌, ◌&&◌}
use Rattle.std.specs.Prelude.{if◌then◌else◌, List, [], ◌∷◌}
use Rattle.std.specs.Prelude.{length, slice_get, Option, None, Some, refl}
use Rattle.std.proofs.Common.{◌∙◌, sym, ap, subst, arith, inl, inr}
use Rattle.std.proofs.lemmas.Bool.Decides.{eqb_tells}
use denote.Hole.Carrier.{hidden}
use Rattle.format_spec.specs.declared.format.FormatLevel.{FormatLevel}
use Rattle.index_notation.specs.declared.syntax.Statement.{Statement}
use Rattle.lists.specs.Each.{Each}
use Rattle.expr_terms.specs.Terms.{contains, plain_term, stands_before}
use Rattle.concrete_notation.specs.declared.concrete.Concrete.{Concrete, Add as AddOf}
use Rattle.concrete_notation.specs.declared.concrete.Concrete.TheBlock.{hidden-the_row-Concrete-0}
use Rattle.loop_code.specs.declared.loops.LoopCode.{LoopCode, Loop, Both, Add, Sum, Both', Loop', Sum', Row_of-LoopCode, end_of-LoopCode}
use Rattle.loop_code.specs.declared.loops.LoopCode.{more_of-LoopCode}
use Rattle.loop_code.specs.declared.loops.LoopCode.TheBlock.{hidden-the_row-LoopCode-0}
use Rattle.loop_code.specs.declared.loops.Seek.{Seek}
use Rattle.loop_code.specs.Places.{EachAccess}
use Rattle.lowering.specs.Lowered.{concrete_in, concrete_of}
use Rattle.lowering.specs.Seeking.{has_access, uses}
use Rattle.lowering.specs.Shapes.{Allows}
use Rattle.lowering.specs.Starts.{IsBehind, IsNext, MayStart, StartsInPlace, StartsInPlace_in}
use Rattle.lowering.specs.Sums.{are_bound, first_sum, inside_of, is_met, reads, reads_any, starts_at, sum_at, sum_tree}
use Rattle.lowering.specs.Sums.{through, vars_at}
use Rattle.lowering.specs.Wrapped.{inside_code, wrapped}
use Rattle.lowering.proofs.Accesses.{each_access, or_left, or_right}
use Rattle.lowering.proofs.Standing.{all_bound, at_access, each_as, fresh_behind, one_bound, or_so, stands_by}
use Rattle.lowering.proofs.Through.{both_so, inside_below, sum_of_list, through_above, through_less, through_limit, through_more}
use Rattle.lowering.proofs.Through.{through_uses}
use Rattle.lowering.proofs.Through.{under}
use Rattle.lowering.proofs.Wraps.{Leads, behind_all, body_inside, body_shape, inside_shape, seeks_inside, sum_shape}

less_or_not : (m n : ℕ) → (m < n) ⊎ (n ≤ m)
less_or_not m n = grind arith

module _ (s : Statement) where
  -- of a statement's parts what is read is read of the whole
  into : (used others : ℕ → Bool) → ((k : ℕ) → used k ≡ true → others k ≡ true) → (j : ℕ) → through s (length s.sums) used j ≡ true
      → through s (length s.sums) others j ≡ true
  into used others f j h = through_more s (length s.sums) used others f j h

  -- none of the sums between is read and starts
  abbrev NoneBetween : Option ℕ → List ℕ → ℕ → ℕ → (ℕ → Bool) → Type 0
  NoneBetween innermost bound m n read = (j : ℕ) → m ≤ j → j < n → first_sum s ≤ j → read j ≡ true → MayStart s innermost bound j → ⊥

  behind_less : (innermost : Option ℕ) (bound : List ℕ) (m n : ℕ) (c : Concrete) → NoneBetween innermost bound m n (reads_any s c)
      → IsBehind s innermost bound n c → IsBehind s innermost bound m c
  behind_less innermost bound m n c f h = record {
    none = λ j over low read may. elim (less_or_not j n) [
      | inl less ↦ f j over less low read may
      | inr past ↦ h.none j past low read may
    ];
  }

  mutual
    unfolding hidden-the_row-LoopCode-0 hidden-the_row-Concrete-0 hidden

    -- fewer of the sums that start there have been gone through
    pub from_less : (c : LoopCode) (innermost : Option ℕ) (bound : List ℕ) (m n : ℕ) → m ≤ n
        → NoneBetween innermost bound m n (reads_any s (concrete_of c)) → StartsInPlace s innermost bound n c
        → StartsInPlace s innermost bound m c
    from_less (Loop' v seeks p body) innermost bound m n l f h =
        (behind_less innermost bound m n (concrete_in body) f h.0, h.1, h.2)
    from_less (Both' p c q d) innermost bound m n l f h =
        let first : NoneBetween innermost bound m n (reads_any s (concrete_in c)) = λ j over less low read.
        f j over less low (into (uses (concrete_in c)) (uses (concrete_of (Both' p c q d)))
        (λ k is. or_left (uses (concrete_in c) k) (uses (concrete_in d) k) is) j read) in
        let second : NoneBetween innermost bound m n (reads_any s (concrete_in d)) = λ j over less low read.
        f j over less low (into (uses (concrete_in d)) (uses (concrete_of (Both' p c q d)))
        (λ k is. or_right (uses (concrete_in c) k) (uses (concrete_in d) k) is) j read) in (
          behind_less innermost bound m n (concrete_in c) first h.0,
          behind_less innermost bound m n (concrete_in d) second h.1,
          from_less_in c innermost bound m n l first h.2,
          from_less_in d innermost bound m n l second h.3,
        )
    from_less (Add t) innermost bound m n l f h =
        each_access (λ k. first_sum s ≤ k → (k < first_sum s + length s.sums) × (are_bound bound (vars_at s k) ≡ true)
        × (MayStart s innermost bound k → k < n))
        (λ k. first_sum s ≤ k → (k < first_sum s + length s.sums) × (are_bound bound (vars_at s k) ≡ true)
        × (MayStart s innermost bound k → k < m)) t.expr
        (λ k there g low. (
          (g low).0,
          (g low).1,
          λ may. elim (less_or_not k m) [
            | inl less ↦ less
            | inr over ↦ absurd (f k over ((g low).2 may) low (through_uses s (length s.sums) (uses (AddOf t)) k there) may)
          ],
        )) h
    from_less (Sum' k p inside q body) innermost bound m n l f h = (
      record {
        number = h.0.number;
        below = h.0.below;
        access = h.0.access;
        next = let next = h.0.next in omega (arith, l, next);
        starts = h.0.starts;
        used = h.0.used;
        tree = h.0.tree;
        behind = h.0.behind;
        skipped = λ j over less low read may. elim (less_or_not j n) [
          | inl before ↦ f j over before low read may
          | inr past ↦ h.0.skipped j past less low read may
        ];
      },
      h.1,
      h.2,
    )

    from_less_in : {m : _} (row : Row_of-LoopCode m) (innermost : Option ℕ) (bound : List ℕ) (i n : ℕ) → i ≤ n
        → NoneBetween innermost bound i n (reads_any s (concrete_in row)) → StartsInPlace_in s innermost bound n row
        → StartsInPlace_in s innermost bound i row
    from_less_in end_of-LoopCode innermost bound i n l f h = tt
    from_less_in (more_of-LoopCode c rest) innermost bound i n l f h = from_less c innermost bound i n l f h

  pub in_place_loop : (innermost : Option ℕ) (bound : List ℕ) (from v : ℕ) (seeks : List Seek) (body : LoopCode)
      → IsBehind s innermost bound from (concrete_of body) → contains bound v ≡ false → StartsInPlace s (Some v) (v ∷ bound) 0 body
      → StartsInPlace s innermost bound from (Loop v seeks body)
  unfolding hidden-the_row-LoopCode-0 hidden
  in_place_loop innermost bound from v seeks body a b c = (a, b, c)

  pub in_place_both : (innermost : Option ℕ) (bound : List ℕ) (from : ℕ) (f g : LoopCode) → IsBehind s innermost bound from (concrete_of f)
      → IsBehind s innermost bound from (concrete_of g) → StartsInPlace s innermost bound from f → StartsInPlace s innermost bound from g
      → StartsInPlace s innermost bound from (Both f g)
  unfolding hidden-the_row-LoopCode-0 hidden
  in_place_both innermost bound from f g a b c d = (a, b, c, d)

  in_place_sum : (innermost : Option ℕ) (bound : List ℕ) (from k : ℕ) (inside body : LoopCode)
      → IsNext s innermost bound from k (concrete_of inside) (concrete_of body) → StartsInPlace s innermost bound k inside
      → StartsInPlace s innermost bound (suc k) body → StartsInPlace s innermost bound from (Sum k inside body)
  unfolding hidden-the_row-LoopCode-0 hidden
  in_place_sum innermost bound from k inside body a b c = (a, b, c)

  reads_tree : (n j : ℕ) → reads_any s (sum_tree s n) j ≡ true → reads_any s (inside_of s n) j ≡ true
  unfolding hidden-the_row-Concrete-0 hidden
  reads_tree n j h = h

  module _ (formats : List (List FormatLevel)) (order : List ℕ) (allows : Allows s formats order) where
    abbrev vars_of_sum : ℕ → List ℕ
    vars_of_sum n = vars_at s (first_sum s + n)

    -- inside a sum only accesses before it are read
    read_before : (n : ℕ) → n < length s.sums → (j : ℕ) → reads_any s (inside_of s n) j ≡ true → j < first_sum s + n
    read_before n l j h = by (less_or_not j (first_sum s + n))
      where
        by : (j < first_sum s + n) ⊎ (first_sum s + n ≤ j) → j < first_sum s + n
        by (inl less) = less
        by (inr over) =
            let m : ℕ = j - first_sum s in
            let is : j ≡ first_sum s + (j - first_sum s) = omega (arith, over) in
            let used = through_above s (length s.vars) allows.sums.numbers n (omega (arith, l)) (uses (inside_of s n)) (j - first_sum s)
            (omega (arith, over))
            (subst (λ i. reads s n (inside_of s n) i ≡ true) is
            (through_limit s (length s.vars) allows.sums.numbers n (length s.sums) (omega arith) l (omega (arith, l)) j h)) in
            let below = inside_below s (length s.vars) allows.sums.numbers n l (first_sum s + (j - first_sum s)) used in
            omega (arith, is, below)

    -- what starts, by a test
    module _ (used : ℕ → Bool) (at : Option ℕ) (bound : List ℕ) (n : ℕ) (test : starts_at s used at bound n ≡ true) where
      used_there : used (first_sum s + n) ≡ true
      used_there = (both_so (used (first_sum s + n)) (is_met at (vars_of_sum n) && are_bound bound (vars_of_sum n)) test).0

      may_there : MayStart s at bound (first_sum s + n)
      may_there =
          let met = (both_so (used (first_sum s + n)) (is_met at (vars_of_sum n) && are_bound bound (vars_of_sum n)) test).1 in
          let parts = both_so (is_met at (vars_of_sum n)) (are_bound bound (vars_of_sum n)) met in
          record { known = parts.1; met = parts.0 }

    -- inside the loop of a sum all variables of what stands there are bound
    access_bound : (n : ℕ) → n < length s.sums → (bound : List ℕ) → are_bound bound (vars_of_sum n) ≡ true → (k : ℕ)
        → has_access (sum_at s n).inside k ≡ true → are_bound ((sum_at s n).var ∷ bound) (vars_at s k) ≡ true
    access_bound n l bound known k has = all_bound (v ∷ bound) (vars_at s k) (λ w is.
        by w (allows.sums.free n l w (stands_by s.accesses w k (sum_at s n).inside has (at_access w (slice_get s.accesses k) ∙ is))))
      where
        v : ℕ
        v = (sum_at s n).var

        by : (w : ℕ) → contains (v ∷ vars_of_sum n) w ≡ true → contains (v ∷ bound) w ≡ true
        by w is = elim (eqb_tells v w) [
          | inl same ↦ or_left (nat_eq v w) (contains bound w) same.0
          | inr other ↦ or_right (nat_eq v w) (contains bound w)
              (one_bound bound (vars_of_sum n) known w (or_so (nat_eq v w) (contains (vars_of_sum n) w) is other.0))
        ]

    -- loops use what they read
    pub record Uses (used : ℕ → Bool) (n : ℕ) (loops : LoopCode) : Type 0 where
      pub read : (k : ℕ) → used k ≡ true → reads_any s (concrete_of loops) k ≡ true
      pub back : (k : ℕ) → k < first_sum s + n → reads_any s (concrete_of loops) k ≡ true → used k ≡ true

    abbrev WrapsInPlace : ℕ → Type 0
    WrapsInPlace n =
        n ≤ length s.sums → (used : ℕ → Bool) (at : Option ℕ) (bound : List ℕ) (loops : LoopCode) → Leads order at bound
        → Uses used n loops → StartsInPlace s at bound (first_sum s + n) loops
        → StartsInPlace s at bound 0 (wrapped s formats used at bound n loops)

    term_in_place : (n : ℕ) → n < length s.sums → (bound : List ℕ) → are_bound bound (vars_of_sum n) ≡ true
        → StartsInPlace s (Some (sum_at s n).var) ((sum_at s n).var ∷ bound) (first_sum s + n) (Add (plain_term (sum_at s n).inside))
    term_in_place n l bound known =
        each_access (λ k. k < first_sum s + n)
        (λ k. first_sum s ≤ k → (k < first_sum s + length s.sums) × (are_bound ((sum_at s n).var ∷ bound) (vars_at s k) ≡ true)
        × (MayStart s (Some (sum_at s n).var) ((sum_at s n).var ∷ bound) k → k < first_sum s + n)) (sum_at s n).inside
        (λ k has below low. (omega (arith, below, l), access_bound n l bound known k has, λ may. below))
        (under (first_sum s + n) (sum_at s n).inside (sum_of_list (length s.vars) (first_sum s) s.sums allows.sums.numbers n l).1)

    inside_in_place : (n : ℕ) → n < length s.sums → WrapsInPlace n → (at : Option ℕ) (bound : List ℕ) → Leads order at bound
        → MayStart s at bound (first_sum s + n) → StartsInPlace s at bound (first_sum s + n) (inside_code s formats bound n)
    inside_in_place n l wraps at bound leads may =
        in_place_loop at bound (first_sum s + n) v (seeks_inside s formats bound n) (body_inside s formats bound n)
        (record {
          none = λ j over low read may_start.
              let before = read_before n l j (subst (λ c. reads_any s c j ≡ true) (body_shape s formats bound n) read) in
              omega (arith, over, before);
        }) (fresh_behind order bound v (allows.apart v) behind)
        (wraps (omega (arith, l)) (reads s n (inside_of s n)) (Some v) (v ∷ bound) (Add (plain_term (sum_at s n).inside)) (
          inl refl,
          each_as (λ w. stands_before order w v ≡ true) (λ w. (w ≡ v) ⊎ (stands_before order w v ≡ true)) bound (λ w h. inr h) behind,
        ) (record {
          read = λ k is. through_less s n (length s.sums) (omega (arith, l)) (uses (inside_of s n)) k is;
          back = λ k low is.
              through_limit s (length s.vars) allows.sums.numbers n (length s.sums) (omega arith) l (omega (arith, l)) k is;
        }) (term_in_place n l bound may.known))
      where
        v : ℕ
        v = (sum_at s n).var

        behind : Each (λ w. stands_before order w v ≡ true) bound
        behind = behind_all s formats order allows at bound n l leads may.met

    -- loops with the sums around them that start there have all in place
    pub wrapped_in_place : (n : ℕ) → WrapsInPlace n
    wrapped_in_place zero top used at bound loops leads uses_it h =
        from_less loops at bound 0 (first_sum s + 0) (omega arith) (λ j over less low read may. omega (arith, less, low)) h
    wrapped_in_place (suc n) top used at bound loops leads uses_it h =
        wrapped_in_place n (omega (arith, top)) used at bound
        (if starts_at s used at bound n then Sum (first_sum s + n) (inside_code s formats bound n) loops else loops) leads
        (same_uses (starts_at s used at bound n)) (by (starts_at s used at bound n) refl (wrapped_in_place n))
      where
        next_is : first_sum s + suc n ≡ suc (first_sum s + n)
        next_is = omega arith

        same_uses : (b : Bool) → Uses used n (if b then Sum (first_sum s + n) (inside_code s formats bound n) loops else loops)
        same_uses true = record {
          read = λ k is. subst (λ c. reads_any s c k ≡ true) (sym (sum_shape s formats (first_sum s + n)
              (inside_code s formats bound n) loops)) (uses_it.read k is);
          back = λ k low is. uses_it.back k (omega (arith, low)) (subst (λ c. reads_any s c k ≡ true)
              (sum_shape s formats (first_sum s + n) (inside_code s formats bound n) loops) is);
        }
        same_uses false = record { read = uses_it.read; back = λ k low is. uses_it.back k (omega (arith, low)) is }

        clash : (b : Bool) → b ≡ true → b ≡ false → ⊥
        clash b x y = cc

        all_so : (a b c : Bool) → a ≡ true → b ≡ true → c ≡ true → (a && (b && c)) ≡ true
        all_so a b c x y z = (λ i. x i && (y i && z i))

        by : (b : Bool) → starts_at s used at bound n ≡ b → WrapsInPlace n
            → StartsInPlace s at bound (first_sum s + n)
            (if b then Sum (first_sum s + n) (inside_code s formats bound n) loops else loops)
        by true is wraps =
            let may = may_there used at bound n is in
            in_place_sum at bound (first_sum s + n) (first_sum s + n) (inside_code s formats bound n) loops (record {
              number = n;
              below = omega (arith, top);
              access = refl;
              next = omega arith;
              starts = may;
              used = uses_it.read (first_sum s + n) (used_there used at bound n is);
              tree = inside_shape s formats bound n;
              behind = record {
                none = λ j over low read may_start.
                    let before = read_before n (omega (arith, top)) j
                    (reads_tree n j (subst (λ c. reads_any s c j ≡ true) (inside_shape s formats bound n) read)) in
                    omega (arith, over, before);
              };
              skipped = λ j over less low read may_start. omega (arith, over, less);
            }) (inside_in_place n (omega (arith, top)) wraps at bound leads may)
            (subst (λ m. StartsInPlace s at bound m loops) next_is h)
        by false is wraps =
            from_less loops at bound (first_sum s + n) (suc (first_sum s + n)) (omega arith)
            (λ j over less low read may.
            let same : j ≡ first_sum s + n = omega (arith, over, less) in
            let may_n = subst (MayStart s at bound) same may in
            clash (starts_at s used at bound n)
            (all_so (used (first_sum s + n)) (is_met at (vars_of_sum n)) (are_bound bound (vars_of_sum n))
            (uses_it.back (first_sum s + n) (omega arith) (subst (λ i. reads_any s (concrete_of loops) i ≡ true) same read))
            may_n.met may_n.known) is)
            (subst (λ m. StartsInPlace s at bound m loops) next_is h)
