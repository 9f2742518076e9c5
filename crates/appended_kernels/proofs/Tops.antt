-- Before all loops of a kernel whose result is appended in place: the loops are at their top.
use Rattle.std.specs.Prelude.{◌≡◌, ℕ, zero, suc, ◌<◌, ◌==◌, false, List, [], ◌∷◌, map, Some, slice_get, refl}
use Rattle.std.proofs.Common.{◌∙◌, sym, ap, subst, arith}
use Rattle.std.proofs.lemmas.Bool.Decides.{nat_tests}
use Rattle.numbers.specs.Arithmetic.{Arithmetic}
use Rattle.kernel_code.specs.Arrays.{same_arr}
use Rattle.kernel_code.specs.declared.syntax.Arr.{Arr}
use Rattle.kernel_code.specs.declared.syntax.Arr.TheVariants.{Range, Values, Dimension, Ends, Coordinates, Width, Key, Sums}
use Rattle.kernel_code.specs.declared.syntax.Arr.TheVariants.{ListCoordinates, ListPositions}
use Rattle.kernel_code.specs.Meaning.{State}
use Rattle.level_core.specs.Entries.{one}
use Rattle.level_core.specs.Fragments.{IsOf}
use Rattle.level_cursors.specs.Children.{ChildLeft}
use Rattle.format_spec.specs.declared.format.FormatLevel.{FormatLevel}
use Rattle.index_notation.specs.declared.syntax.Access.{Access}
use Rattle.index_notation.specs.declared.syntax.Statement.{Statement}
use Rattle.term_code.specs.declared.places.AccessPlace.{AccessPlace}
use Rattle.term_code.specs.declared.places.Places.{Places}
use Rattle.term_code.specs.Places.{new_access}
use Rattle.kernel_correctness.specs.Stores.{Store, IsGiven}
use Rattle.operand_arrays.specs.Apart.{AreOutside}
use Rattle.operand_arrays.specs.Operands.{IsOfOperands}
use Rattle.dense_results.specs.Kernels.{AreAtBase}
use Rattle.dense_results.specs.Operands.{IsReadStore, first_summed}
use Rattle.dense_results.proofs.Operands.{arrays_stand}
use Rattle.appended_results.specs.Levels.{IsKept}
use Rattle.appended_results.specs.declared.sink.AppendedSink.{AppendedSink}
use Rattle.appended_results.specs.Sink.{appended_sink}
use Rattle.appended_kernels.specs.Kernels.{IsAtTop, behind}

-- no array of an operand is one of the result
no_level : (k : ℕ) (b : Arr) → IsOfOperands b → IsOf 0 k b → ⊥
no_level k Range h g = g
no_level k (Values n) h g = g
no_level k (Dimension n j) h g = let is = g.0 in omega (arith, h, is)
no_level k (Ends n j) h g = let is = g.0 in omega (arith, h, is)
no_level k (Coordinates n j) h g = let is = g.0 in omega (arith, h, is)
no_level k (Width n j) h g = let is = g.0 in omega (arith, h, is)
no_level k (Key n j) h g = h
no_level k (Sums n) h g = h
no_level k (ListCoordinates n) h g = h
no_level k (ListPositions n) h g = h

no_values : (b : Arr) → IsOfOperands b → same_arr (Values 0) b ≡ false
no_values Range h = refl
no_values (Values n) h = other n h
  where
    other : (n : ℕ) → 0 < n → (0 == n) ≡ false
    other zero g = absurd (omega (arith, g))
    other (suc m) g = grind (arith, nat_tests)
no_values (Dimension n k) h = refl
no_values (Ends n k) h = refl
no_values (Coordinates n k) h = refl
no_values (Width n k) h = refl
no_values (Key n k) h = absurd h
no_values (Sums n) h = absurd h
no_values (ListCoordinates n) h = absurd h
no_values (ListPositions n) h = absurd h

pub operands_kept : (b : Arr) → IsOfOperands b → IsKept b
operands_kept b h = record { outside = λ k of. no_level k b h of; no_values = no_values b h }

-- the place of each access, before all loops
record IsNew (base real : ℕ) (all : List Access) (k : ℕ) (p : AccessPlace) : Type 0 where
  access : Access
  is : slice_get all k ≡ Some access
  place : p ≡ new_access base real access.tensor

some_same : (p q : AccessPlace) → Some p ≡ Some q → p ≡ q
some_same p q h = cc

place_new : (base real : ℕ) (all : List Access) (k : ℕ) (p : AccessPlace)
    → slice_get (map (new_access base real) (map (λ (x : Access). x.tensor) all)) k ≡ Some p → IsNew base real all k p
place_new base real [] k p is = absurd (cc)
place_new base real (x ∷ all) zero p is =
    record { access = x; is = refl; place = sym (some_same (new_access base real x.tensor) p is) }
place_new base real (x ∷ all) (suc k) p is =
    let n = place_new base real all k p is in record { access = n.access; is = n.is; place = n.place }

pub at_top : (a : Arithmetic) (k : AppendedSink) (s : Statement) (formats : List (List FormatLevel)) (store : Store)
    → IsReadStore s formats store → (base : ℕ) (places : Places) → AreAtBase s base places → AreOutside 0 (behind k) places
    → (st : State) → IsGiven a.zero store st.arrays → ChildLeft base (Some (one 0)) st → appended_sink.holds k a store.ranges [] st
    → IsAtTop a k s formats store places st
at_top a k s formats store r base places at from st given left held = record {
  stands = arrays_stand s formats store r a.zero st.arrays given places.accesses (λ j p is.
      let n = new j p is in
      (n.access, n.is, ap (λ (q : AccessPlace). q.tensor) n.place, ap (λ (q : AccessPlace). q.is_sum) n.place));
  keeps = record {
    points = λ v h. absurd (cc);
    cursors = λ j p is.
        let n = new j p is in
        subst (λ b. ChildLeft b (Some (one 0)) st) (sym (ap (λ (q : AccessPlace). q.cursor) n.place)) left;
  };
  from = from;
  kept = operands_kept;
  held = held;
}
  where
    new : (j : ℕ) (p : AccessPlace) → slice_get places.accesses j ≡ Some p → IsNew base (first_summed s) s.accesses j p
    new j p is = place_new base (first_summed s) s.accesses j p (ap (λ ps. slice_get ps j) (sym at) ∙ is)
