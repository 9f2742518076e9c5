-- Rows never fall by the first variables of the left side, as far as no summed variable stands before one of them.
use Rattle.std.specs.Prelude.{◌≡◌, ℕ, Bool, true, false, ◌||◌, List, [], ◌∷◌, ◌++◌, length, map, take, filter, refl}
use Rattle.std.specs.List.{list_any}
use Rattle.std.proofs.Common.{◌∙◌, sym, ap, subst}
use Rattle.lists.specs.Each.{Each}
use Rattle.tensor_map.proofs.Summed.{NeverFalls}
use Rattle.index_notation.specs.Statement.{IsNumbered}
use Rattle.index_notation.specs.declared.syntax.Statement.{Statement}
use Rattle.expr_terms.specs.Points.{coords_at}
use Rattle.expr_terms.specs.declared.term.Term.{Term}
use Rattle.expr_terms.specs.Terms.{terms, contains, own_variables}
use Rattle.concrete_notation.specs.Nests.{IsOrderOf, left_in_order, nests, nest_of}
use Rattle.concrete_notation.proofs.Around.{loops_distinct}
use Rattle.concrete_notation.proofs.Points.{or_first, or_second}
use Rattle.loop_code.specs.declared.loops.LoopCode.{LoopCode}
use Rattle.loop_code.specs.Loops.{start}
use Rattle.lowering.specs.Layouts.{layout_of}
use Rattle.lowering.specs.Lowered.{concrete_of}
use Rattle.row_orders.specs.Orders.{AreLoopsOf, AreOutsideSums, FrontsNeverFall}
use Rattle.row_orders.specs.Takings.{is_summed, outside}
use Rattle.row_orders.proofs.Fronts.{front_stays}
use Rattle.row_orders.proofs.Lists.{each_permuted, none_passes}
use Rattle.row_orders.proofs.Rising.{IsLed, rows_reread, rows_rise}

-- a test that passes no more
each_none : (p q : ℕ → Bool) (order front : List ℕ) → ((v : ℕ) → p v ≡ true → q v ≡ true)
    → Each (λ h. list_any q (outside order h) ≡ false) front → Each (λ h. list_any p (outside order h) ≡ false) front
each_none p q order [] more h = tt
each_none p q order (v ∷ front) more h = (none_passes p q (outside order v) more h.0, each_none p q order front more h.1)

-- the coordinates of the first variables at a point
pub taken_front : (point : ℕ → ℕ) (front rest : List ℕ) → take (length front) (map point (front ++ rest)) ≡ map point front
taken_front point [] rest = refl
taken_front point (v ∷ front) rest = ap (λ xs. point v ∷ xs) (taken_front point front rest)

pub left_alone : (s : Statement) (order : List ℕ) → filter (contains s.left.vars) order ≡ left_in_order s order
left_alone s order = ap (λ (p : ℕ → Bool). filter p order) (λ i v. or_none (contains s.left.vars v) i)
  where
    or_none : (b : Bool) → b ≡ (b || false)
    or_none true = refl
    or_none false = refl

module _ (s : Statement) (numbered : IsNumbered s) (order : List ℕ) (ordered : IsOrderOf (length s.vars) order) (front rest : List ℕ)
    (parted : left_in_order s order ≡ front ++ rest) (outer : AreOutsideSums s order front) where
  terms_led : (ts : List Term) → ((v : ℕ) → list_any (λ (t : Term). contains (own_variables s t) v) ts ≡ true → is_summed s v ≡ true)
      → Each (IsLed front) (map (nest_of s order) ts)
  terms_led [] summed = tt
  terms_led (t ∷ ts) summed = (
    record {
      starts = front_stays (contains s.left.vars) (contains (own_variables s t)) order front rest ordered.once
          (left_alone s order ∙ parted)
          (each_none (contains (own_variables s t)) (is_summed s) order front
          (λ v own. summed v (or_first (contains (own_variables s t) v)
          (list_any (λ (u : Term). contains (own_variables s u) v) ts) own)) outer);
      once = loops_distinct s numbered order ordered t;
    },
    terms_led ts (λ v own. summed v (or_second (contains (own_variables s t) v)
        (list_any (λ (u : Term). contains (own_variables s u) v) ts) own)),
  )

  -- the loops around each term begin with those over them
  pub led : (loops : LoopCode) → AreLoopsOf s order loops → Each (IsLed front) (nests (concrete_of loops))
  led loops are = each_permuted (IsLed front) (map (nest_of s order) (terms s.expr)) (nests (concrete_of loops)) are.terms
      (terms_led (terms s.expr) (λ v own. own))

pub fronts_never_fall : FrontsNeverFall
fronts_never_fall s formats numbered order ordered front rest parted outer loops are a inputs stored =
    let layout = layout_of s formats in
    let rising = rows_rise a layout stored inputs.ranges front loops start (led s numbered order ordered front rest parted outer loops are)
    are.shared in
    let told = λ (point : ℕ → ℕ). ap (λ vs. take (length front) (coords_at point vs)) parted ∙ taken_front point front rest in (
      rising,
      subst NeverFalls (sym (rows_reread a layout stored inputs.ranges (left_in_order s order) front (take (length front)) told
          loops start))
          rising,
    )
