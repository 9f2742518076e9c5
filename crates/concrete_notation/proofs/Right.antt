-- A concrete statement that has each term of a statement once, in the loops over the left variables and its own ones, is right:
-- by itself, and as the producer of a workspace that is keyed by the left variables.
use Rattle.std.specs.Prelude.{◌≡◌, ℕ, ◌<◌, Bool, true, false, cond, nat_eq, ◌||◌, List, [], ◌++◌, map, length, refl}
use Rattle.std.specs.Cmp.Lexicographic.{pointwise}
use Rattle.std.proofs.Common.{◌∙◌, sym, ap, subst}
use Rattle.std.proofs.lemmas.List.Sorted.{IsPermutation-map, IsPermutation-sym}
use Rattle.numbers.specs.Arithmetic.{Arithmetic, Laws}
use Rattle.numbers.specs.Sums.{total_of}
use Rattle.tensor_map.specs.Entries.{value_at, Listed}
use Rattle.tensor_map.proofs.Permutations.{total_permutation}
use Rattle.index_notation.specs.Statement.{IsDistinct, IsNumbered, IsWellNamed}
use Rattle.index_notation.specs.declared.syntax.Statement.{Statement}
use Rattle.expr_terms.specs.Points.{point_of, sum_over}
use Rattle.expr_terms.specs.Result.{AreBelow}
use Rattle.expr_terms.specs.Terms.{terms, contains, own_variables, term_value, term_sum}
use Rattle.expr_terms.specs.declared.term.Term.{Term}
use Rattle.expr_terms.proofs.PointLaws.{sum_over_order}
use Rattle.workspaces.specs.PresenceLaws.{AreZeroElsewhere}
use Rattle.concrete_notation.specs.declared.concrete.Concrete.{Concrete}
use Rattle.concrete_notation.specs.Contributions.{Inputs, contributions}
use Rattle.concrete_notation.specs.Nests.{Nest, nests, workspaces, IsOrderOf, loops_of, nest_of, HasTerms}
use Rattle.concrete_notation.specs.Right.{IsSome, IsPresentAt, IsInSupport, IsRight}
use Rattle.concrete_notation.proofs.Around.{left_is_not_own, loops_distinct, loops_contain}
use Rattle.concrete_notation.proofs.Around.{around_distinct, around_contain}
use Rattle.concrete_notation.proofs.LoopSums.{nest_sum, loops_add, map_map}
use Rattle.concrete_notation.proofs.LoopSupports.{Reaches, loops_listed, listed_loops}
use Rattle.concrete_notation.proofs.Pinned.{counted, same_totals, pinned}
use Rattle.concrete_notation.proofs.Points.{point_elsewhere, point_of_map, coordinates_of}
use Rattle.concrete_notation.proofs.Points.{coordinate_below, below_long, all_below, from_zero}
use Rattle.concrete_notation.proofs.Points.{neither, or_first, or_second, turned, map_long}
use Rattle.expr_terms.proofs.ValueLaws.{map_same}
use Rattle.concrete_notation.proofs.Somes.{some_moved, some_mapped, mapped_some, some_as, some_is}

module _ (s : Statement) (numbered : IsNumbered s) (order : List ℕ) (ordered : IsOrderOf (length s.vars) order)
    (keys : List ℕ) (once : IsDistinct keys) (are : (v : ℕ) → contains keys v ≡ contains s.left.vars v) where
  module _ (a : Arithmetic) (laws : Laws a) (inputs : Inputs) (elsewhere : AreZeroElsewhere a inputs.paths inputs.values)
      (coords : List ℕ)
      (below : AreBelow coords (map inputs.ranges keys)) where
    -- a term's loops add what it adds to the statement's value
    nest_adds : (t : Term)
        → counted a laws (nest_sum a laws coords inputs elsewhere s.accesses keys (λ v. 0) (nest_of s order t))
        ≡ counted a laws (term_sum a s inputs.values inputs.ranges (point_of keys coords) t)
    nest_adds t =
        let f : (ℕ → ℕ) → ℕ = λ q. term_value a inputs.values s.accesses q t in
        ap (counted a laws) (sum_over_order a laws inputs.ranges (λ q. cond (pointwise nat_eq (map q keys) coords) (f q) a.zero)
        (loops_of s order (own_variables s t)) (keys ++ own_variables s t)
        (loops_distinct s numbered order ordered t) (around_distinct s numbered order ordered keys once are t)
        (around_contain s numbered order ordered keys are t) (λ v. 0))
        ∙ pinned a laws inputs.ranges f (own_variables s t) keys coords below once
        (λ w h. left_is_not_own s numbered t w (sym (are w) ∙ h)) (λ v. 0)
        ∙ ap (λ p. counted a laws (sum_over a inputs.ranges (own_variables s t) f p)) (from_zero keys coords)

    pub loops_value : (c : Concrete) → workspaces c ≡ [] → HasTerms s order c
        → value_at a (contributions a inputs s.accesses keys c (λ v. 0)) coords
        ≡ total_of a (map (term_sum a s inputs.values inputs.ranges (point_of keys coords)) (terms s.expr))
    loops_value c plain has =
        let adds : Nest → ℕ = nest_sum a laws coords inputs elsewhere s.accesses keys (λ v. 0) in
        loops_add a laws coords inputs elsewhere s.accesses keys c plain (λ v. 0)
        ∙ total_permutation a laws (map adds (map (nest_of s order) (terms s.expr))) (map adds (nests c))
        (IsPermutation-map adds (map (nest_of s order) (terms s.expr)) (nests c) has)
        ∙ ap (total_of a) (map_map (nest_of s order) adds (terms s.expr))
        ∙ same_totals a laws (λ t. adds (nest_of s order t)) (term_sum a s inputs.values inputs.ranges (point_of keys coords))
        (terms s.expr) nest_adds

  module _ (a : Arithmetic) (inputs : Inputs) (coords ks : List ℕ) where
    -- loops that reach a point at which the term is present tell that it is present at the point's left coordinates
    abbrev IsThereBelow : Term → Type 0
    IsThereBelow t = AreBelow coords (map inputs.ranges s.left.vars) × IsPresentAt s inputs coords t

    reached : coords ≡ map (point_of keys ks) s.left.vars → (t : Term)
        → Reaches a inputs s.accesses keys ks (λ v. 0) (nest_of s order t) → IsThereBelow t
    reached at t r =
        let same : point_of s.left.vars coords ≡ point_of keys ks =
        ap (point_of s.left.vars) at ∙ turned keys s.left.vars are ks in (
          subst (λ cs. AreBelow cs (map inputs.ranges s.left.vars)) (sym at)
              (all_below inputs.ranges (point_of keys ks) s.left.vars (λ w h. subst (λ x. x < inputs.ranges w) (here w h)
              (r.below w (loops_contain s numbered order ordered t w
              ∙ or_first (contains s.left.vars w) (contains (own_variables s t) w) h)))),
          record {
            point = r.at;
            chosen = λ v own. r.below v (loops_contain s numbered order ordered t v
                ∙ or_second (contains s.left.vars v) (contains (own_variables s t) v) own);
            others = λ v other. by same v other (contains s.left.vars v) refl;
            present = r.holds.1;
          },
        )
      where
        here : (w : ℕ) → contains s.left.vars w ≡ true → r.at w ≡ point_of keys ks w
        here w h = sym (point_of_map r.at keys w (are w ∙ h)) ∙ ap (λ xs. point_of keys xs w) r.holds.0

        by : point_of s.left.vars coords ≡ point_of keys ks → (v : ℕ) → contains (own_variables s t) v ≡ false → (b : Bool)
            → contains s.left.vars v ≡ b → r.at v ≡ point_of s.left.vars coords v
        by same v other true left = here v left ∙ ap (λ p. p v) (sym same)
        by same v other false apart =
            r.others v (loops_contain s numbered order ordered t v ∙ ap (λ b. b || contains (own_variables s t) v) apart ∙ other)
            ∙ sym (point_elsewhere s.left.vars coords v apart)

    reaches : ks ≡ map (point_of s.left.vars coords) keys → AreBelow coords (map inputs.ranges s.left.vars) → (t : Term)
        → IsPresentAt s inputs coords t → Reaches a inputs s.accesses keys ks (λ v. 0) (nest_of s order t)
    reaches at below t p = record {
      at = p.point;
      others = λ v out.
          let apart = neither (contains s.left.vars v) (contains (own_variables s t) v)
          (sym (loops_contain s numbered order ordered t v) ∙ out) in
          p.others v apart.1 ∙ point_elsewhere s.left.vars coords v apart.0;
      below = λ v inside. by v (sym (loops_contain s numbered order ordered t v) ∙ inside) (contains s.left.vars v) refl;
      holds = (
        map_same p.point (point_of s.left.vars coords) keys
            (λ v h. p.others v (left_is_not_own s numbered t v (sym (are v) ∙ h))) ∙ sym at,
        p.present,
      );
    }
      where
        by : (v : ℕ) → (contains s.left.vars v || contains (own_variables s t) v) ≡ true → (b : Bool) → contains s.left.vars v ≡ b
            → p.point v < inputs.ranges v
        by v inside true left =
            subst (λ x. x < inputs.ranges v) (sym (p.others v (left_is_not_own s numbered t v left)))
            (coordinate_below inputs.ranges s.left.vars coords below v left)
        by v inside false apart = p.chosen v (sym (ap (λ b. b || contains (own_variables s t) v) apart) ∙ inside)

    module _ (c : Concrete) (plain : workspaces c ≡ []) (has : HasTerms s order c) where
      pub in_support : coords ≡ map (point_of keys ks) s.left.vars → Listed (contributions a inputs s.accesses keys c (λ v. 0)) ks
          → IsInSupport s inputs coords
      in_support at listed =
          let some : IsSome (λ t. Reaches a inputs s.accesses keys ks (λ v. 0) (nest_of s order t)) (terms s.expr) =
          some_mapped (Reaches a inputs s.accesses keys ks (λ v. 0)) (nest_of s order) (terms s.expr)
          (some_moved (Reaches a inputs s.accesses keys ks (λ v. 0)) (nests c) (map (nest_of s order) (terms s.expr))
          (IsPermutation-sym (map (nest_of s order) (terms s.expr)) (nests c) has)
          (loops_listed a inputs s.accesses keys ks c plain (λ v. 0) listed)) in
          let there : IsSome IsThereBelow (terms s.expr) =
          some_as (λ t. Reaches a inputs s.accesses keys ks (λ v. 0) (nest_of s order t)) IsThereBelow (terms s.expr)
          (reached at) some in (
            some_is IsThereBelow (AreBelow coords (map inputs.ranges s.left.vars)) (terms s.expr) (λ t h. h.0) there,
            some_as IsThereBelow (IsPresentAt s inputs coords) (terms s.expr) (λ t h. h.1) there,
          )

      pub support_listed : ks ≡ map (point_of s.left.vars coords) keys → IsInSupport s inputs coords
          → Listed (contributions a inputs s.accesses keys c (λ v. 0)) ks
      support_listed at support =
          listed_loops a inputs s.accesses keys ks c plain (λ v. 0)
          (some_moved (Reaches a inputs s.accesses keys ks (λ v. 0)) (map (nest_of s order) (terms s.expr)) (nests c) has
          (mapped_some (Reaches a inputs s.accesses keys ks (λ v. 0)) (nest_of s order) (terms s.expr)
          (some_as (IsPresentAt s inputs coords) (λ t. Reaches a inputs s.accesses keys ks (λ v. 0) (nest_of s order t)) (terms s.expr)
          (reaches at support.0) support.1)))

      -- as many coordinates as keys are listed
      pub listed_long : Listed (contributions a inputs s.accesses keys c (λ v. 0)) ks → length ks ≡ length keys
      listed_long listed =
          some_is (Reaches a inputs s.accesses keys ks (λ v. 0)) (length ks ≡ length keys) (nests c)
          (λ n r. ap length (sym r.holds.0) ∙ map_long r.at keys) (loops_listed a inputs s.accesses keys ks c plain (λ v. 0) listed)

-- loops alone are right
pub plain_is_right : (s : Statement) → IsNumbered s → IsWellNamed s → (order : List ℕ) → IsOrderOf (length s.vars) order
    → (c : Concrete) → workspaces c ≡ [] → HasTerms s order c → IsRight s c
plain_is_right s numbered named order ordered c plain has = record {
  values = λ a laws inputs elsewhere coords below. loops_value s numbered order ordered s.left.vars named.left_once (λ v. refl) a laws
      inputs elsewhere coords below c plain has;
  support = λ a inputs coords.
      let long = listed_long s numbered order ordered s.left.vars named.left_once (λ v. refl) a inputs coords coords c plain has in (
        (λ listed. in_support s numbered order ordered s.left.vars named.left_once (λ v. refl) a inputs coords coords c plain has
            (sym (coordinates_of s.left.vars coords named.left_once (long listed))) listed),
        (λ support. support_listed s numbered order ordered s.left.vars named.left_once (λ v. refl) a inputs coords coords c plain has
            (sym (coordinates_of s.left.vars coords named.left_once (below_long inputs.ranges s.left.vars coords support.0))) support),
      );
}
