-- Loops whose rows go through a workspace that is keyed by the left variables, in any order, are right too.
use Rattle.std.specs.Prelude.{◌≡◌, ◌↔◌, ℕ, Bool, true, false, nat_eq, List, [], ◌∷◌, map, length, refl}
use Rattle.std.specs.Cmp.Lexicographic.{pointwise}
use Rattle.std.proofs.Common.{◌∙◌, sym, ap, subst, inl, inr}
use denote.Hole.Carrier.{hidden}
use Rattle.lists.specs.Each.{Each}
use Rattle.numbers.specs.Arithmetic.{Arithmetic, Laws}
use Rattle.numbers.specs.Sums.{total_of}
use Rattle.tensor_map.specs.Entries.{Entry, value_at, Listed}
use Rattle.tensor_map.specs.Laws.{same, other}
use Rattle.tensor_map.proofs.Lemmas.{tested, at_itself, value_here, value_elsewhere}
use Rattle.index_notation.specs.Statement.{IsDistinct, IsNumbered, IsWellNamed}
use Rattle.index_notation.specs.declared.syntax.Access.{Access}
use Rattle.index_notation.specs.declared.syntax.Statement.{Statement}
use Rattle.expr_terms.specs.Points.{point_of}
use Rattle.expr_terms.specs.Result.{AreBelow}
use Rattle.expr_terms.specs.Terms.{terms, contains, term_sum, statement_value}
use Rattle.expr_terms.proofs.GroupLaws.{turned as unequal_turned}
use Rattle.workspaces.specs.PresenceLaws.{AreZeroElsewhere}
use Rattle.concrete_notation.specs.declared.concrete.Concrete.{Concrete, Where}
use Rattle.concrete_notation.specs.declared.concrete.Concrete.TheBlock.{hidden-the_row-Concrete-0}
use Rattle.concrete_notation.specs.Contributions.{Inputs, contributions, with_coordinates, sums_of, passed_on}
use Rattle.concrete_notation.specs.Nests.{workspaces, IsOrderOf, HasTerms}
use Rattle.concrete_notation.specs.Right.{IsInSupport, IsRight}
use Rattle.concrete_notation.proofs.Points.{coordinates_of, coordinate_below, below_long, all_below, from_zero, turned}
use Rattle.concrete_notation.proofs.Right.{loops_value, in_support, support_listed, listed_long}
use Rattle.concrete_notation.proofs.SumsOf.{sums_listed, sums_value}

contributions_where : (a : Arithmetic) (inputs : Inputs) (accesses : List Access) (target keys : List ℕ) (body : Concrete) (point : ℕ → ℕ)
    → contributions a inputs accesses target (Where keys body) point
    ≡ map (passed_on target point keys) (sums_of a (contributions a inputs accesses keys body point))
unfolding hidden-the_row-Concrete-0 hidden
contributions_where a inputs accesses target keys body point = refl

each_listed : (P : List ℕ → Type 0) (rows : List Entry) → ((coords : List ℕ) → Listed rows coords → P coords)
    → Each (λ (row : Entry). P row.coords) rows
each_listed P [] h = tt
each_listed P (row ∷ rows) h = (h row.coords (inl refl), each_listed P rows (λ coords there. h coords (inr there)))

module _ (left keys : List ℕ) (left_once : IsDistinct left) (once : IsDistinct keys)
    (are : (v : ℕ) → contains keys v ≡ contains left v) where
  -- the coordinates of the keys are passed on to the left variables, and come from there
  forth : List ℕ → List ℕ
  forth ks = map (with_coordinates (λ v. 0) keys ks) left

  forth_is : (ks : List ℕ) → map (with_coordinates (λ v. 0) keys ks) left ≡ map (point_of keys ks) left
  forth_is ks = ap (λ p. map p left) (from_zero keys ks)

  pub forth_and_back : (ks : List ℕ) → length ks ≡ length keys → map (point_of left (map (point_of keys ks) left)) keys ≡ ks
  forth_and_back ks long = ap (λ p. map p keys) (turned keys left are ks) ∙ coordinates_of keys ks once long

  pub back_and_forth : (coords : List ℕ) → length coords ≡ length left
      → map (with_coordinates (λ v. 0) keys (map (point_of left coords) keys)) left ≡ coords
  back_and_forth coords long =
      forth_is (map (point_of left coords) keys)
      ∙ ap (λ p. map p left) (turned left keys (λ v. sym (are v)) coords) ∙ coordinates_of left coords left_once long

  -- a row's coordinates are passed on to these
  passed_test : (coords ks : List ℕ) → length coords ≡ length left → length ks ≡ length keys
      → pointwise nat_eq (map (with_coordinates (λ v. 0) keys ks) left) coords ≡ pointwise nat_eq ks (map (point_of left coords) keys)
  passed_test coords ks long short = elim (tested ks (map (point_of left coords) keys)) [
    | same is e ↦ ap (λ rs. pointwise nat_eq (map (with_coordinates (λ v. 0) keys rs) left) coords) is
        ∙ ap (λ cs. pointwise nat_eq cs coords) (back_and_forth coords long) ∙ at_itself coords ∙ sym e
    | other isnt e ↦ unequal_turned coords (map (with_coordinates (λ v. 0) keys ks) left)
        (λ is. isnt (sym (forth_and_back ks short) ∙ ap (λ cs. map (point_of left cs) keys) (sym (is ∙ forth_is ks)))) ∙ sym e
  ]

  pub passed_value : (a : Arithmetic) (coords : List ℕ) → length coords ≡ length left → (rows : List Entry)
      → Each (λ (row : Entry). length row.coords ≡ length keys) rows
      → value_at a (map (passed_on left (λ v. 0) keys) rows) coords ≡ value_at a rows (map (point_of left coords) keys)
  passed_value a coords long [] each = refl
  passed_value a coords long (row ∷ rows) each =
      by (pointwise nat_eq row.coords (map (point_of left coords) keys)) refl (passed_value a coords long rows each.1)
    where
      test : pointwise nat_eq (map (with_coordinates (λ v. 0) keys row.coords) left) coords
          ≡ pointwise nat_eq row.coords (map (point_of left coords) keys)
      test = passed_test coords row.coords long each.0

      by : (b : Bool) → pointwise nat_eq row.coords (map (point_of left coords) keys) ≡ b
          → value_at a (map (passed_on left (λ v. 0) keys) rows) coords ≡ value_at a rows (map (point_of left coords) keys)
          → value_at a (passed_on left (λ v. 0) keys row ∷ map (passed_on left (λ v. 0) keys) rows) coords
          ≡ value_at a (row ∷ rows) (map (point_of left coords) keys)
      by true is rest =
          value_here a coords (passed_on left (λ v. 0) keys row) (map (passed_on left (λ v. 0) keys) rows) (test ∙ is)
          ∙ ap (a.plus row.value) rest ∙ sym (value_here a (map (point_of left coords) keys) row rows is)
      by false is rest =
          value_elsewhere a coords (passed_on left (λ v. 0) keys row) (map (passed_on left (λ v. 0) keys) rows) (test ∙ is)
          ∙ rest ∙ sym (value_elsewhere a (map (point_of left coords) keys) row rows is)

-- a row that is passed on
record PassedFrom (left keys : List ℕ) (rows : List Entry) (coords : List ℕ) : Type 0 where
  ks : List ℕ
  listed : Listed rows ks
  is : map (with_coordinates (λ v. 0) keys ks) left ≡ coords

passed_from : (left keys : List ℕ) (rows : List Entry) (coords : List ℕ)
    → Listed (map (passed_on left (λ v. 0) keys) rows) coords → PassedFrom left keys rows coords
passed_from left keys [] coords h = absurd h
passed_from left keys (row ∷ rows) coords (inl here) = record { ks = row.coords; listed = inl refl; is = here }
passed_from left keys (row ∷ rows) coords (inr there) =
    let p = passed_from left keys rows coords there in record { ks = p.ks; listed = inr p.listed; is = p.is }

passed_listed : (left keys : List ℕ) (rows : List Entry) (ks : List ℕ) → Listed rows ks
    → Listed (map (passed_on left (λ v. 0) keys) rows) (map (with_coordinates (λ v. 0) keys ks) left)
passed_listed left keys [] ks h = absurd h
passed_listed left keys (row ∷ rows) ks (inl here) = inl (ap (λ rs. map (with_coordinates (λ v. 0) keys rs) left) here)
passed_listed left keys (row ∷ rows) ks (inr there) = inr (passed_listed left keys rows ks there)

module _ (s : Statement) (numbered : IsNumbered s) (named : IsWellNamed s) (order : List ℕ) (ordered : IsOrderOf (length s.vars) order)
    (keys : List ℕ) (once : IsDistinct keys) (are : (v : ℕ) → contains keys v ≡ contains s.left.vars v)
    (c : Concrete) (plain : workspaces c ≡ []) (has : HasTerms s order c) where
  keyed_value : (a : Arithmetic) → Laws a → (inputs : Inputs) → AreZeroElsewhere a inputs.paths inputs.values
      → (coords : List ℕ) → AreBelow coords (map inputs.ranges s.left.vars)
      → value_at a (contributions a inputs s.accesses s.left.vars (Where keys c) (λ v. 0)) coords
      ≡ statement_value a s inputs.values inputs.ranges coords
  keyed_value a laws inputs elsewhere coords below =
      let pairs : List Entry = contributions a inputs s.accesses keys c (λ v. 0) in
      let ks : List ℕ = map (point_of s.left.vars coords) keys in
      let inside : AreBelow ks (map inputs.ranges keys) =
      all_below inputs.ranges (point_of s.left.vars coords) keys
      (λ w h. coordinate_below inputs.ranges s.left.vars coords below w (sym (are w) ∙ h)) in
      ap (λ rows. value_at a rows coords) (contributions_where a inputs s.accesses s.left.vars keys c (λ v. 0))
      ∙ passed_value s.left.vars keys named.left_once once are a coords (below_long inputs.ranges s.left.vars coords below)
      (sums_of a pairs)
      (each_listed (λ rs. length rs ≡ length keys) (sums_of a pairs)
      (λ rs there. listed_long s numbered order ordered keys once are a inputs rs rs c plain has ((sums_listed a pairs rs).0 there)))
      ∙ sums_value a laws ks pairs
      ∙ loops_value s numbered order ordered keys once are a laws inputs elsewhere ks inside c plain has
      ∙ ap (λ p. total_of a (map (term_sum a s inputs.values inputs.ranges p) (terms s.expr)))
      (turned s.left.vars keys (λ v. sym (are v)) coords)

  keyed_support : (a : Arithmetic) (inputs : Inputs) (coords : List ℕ)
      → Listed (contributions a inputs s.accesses s.left.vars (Where keys c) (λ v. 0)) coords ↔ IsInSupport s inputs coords
  keyed_support a inputs coords = (
    (λ listed.
        let p = passed_from s.left.vars keys (sums_of a pairs) coords (subst (λ rows. Listed rows coords) rows_are listed) in
        in_support s numbered order ordered keys once are a inputs coords p.ks c plain has
        (sym p.is ∙ ap (λ q. map q s.left.vars) (from_zero keys p.ks)) ((sums_listed a pairs p.ks).0 p.listed)),
    (λ support.
        let ks : List ℕ = map (point_of s.left.vars coords) keys in
        subst (λ rows. Listed rows coords) (sym rows_are)
        (subst (Listed (map (passed_on s.left.vars (λ v. 0) keys) (sums_of a pairs)))
        (back_and_forth s.left.vars keys named.left_once once are coords (below_long inputs.ranges s.left.vars coords support.0))
        (passed_listed s.left.vars keys (sums_of a pairs) ks ((sums_listed a pairs ks).1
        (support_listed s numbered order ordered keys once are a inputs coords ks c plain has refl support))))),
  )
    where
      pairs : List Entry
      pairs = contributions a inputs s.accesses keys c (λ v. 0)

      rows_are : contributions a inputs s.accesses s.left.vars (Where keys c) (λ v. 0)
          ≡ map (passed_on s.left.vars (λ v. 0) keys) (sums_of a (contributions a inputs s.accesses keys c (λ v. 0)))
      rows_are = contributions_where a inputs s.accesses s.left.vars keys c (λ v. 0)

  pub keyed_is_right : IsRight s (Where keys c)
  keyed_is_right = record { values = keyed_value; support = keyed_support }
