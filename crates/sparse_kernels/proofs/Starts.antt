-- What a run starts with: the loops are at their top, and the result has no value yet.
use Rattle.std.specs.Prelude.{◌≡◌, ℕ, suc, ◌<◌, nat_lt, Bool, true, false, List, [], ◌∷◌, length, map, Option, Some, None, option_map}
use Rattle.std.specs.Prelude.{slice_get, slice_index, refl}
use Rattle.std.proofs.Common.{◌∙◌, sym, ap, subst, arith, inr}
use Rattle.std.proofs.lemmas.Bool.Decides.{nat_tests}
use Rattle.std.proofs.lemmas.List.Elements.{All-nil, All-cons}
use Rattle.std.proofs.lemmas.Option.{slice_get-map, slice_get_within, get_or_from_slice_get}
use Rattle.numbers.specs.Arithmetic.{Arithmetic}
use Rattle.kernel_code.specs.declared.syntax.Arr.{Arr}
use Rattle.kernel_code.specs.declared.syntax.Arr.TheVariants.{Range, Values, Dimension, Ends, Coordinates, Width, Key, Sums}
use Rattle.kernel_code.specs.declared.syntax.Arr.TheVariants.{ListCoordinates, ListPositions}
use Rattle.kernel_code.specs.declared.syntax.Kernel.{Kernel}
use Rattle.kernel_code.specs.Kernels.{empty_if, start_arrays}
use Rattle.kernel_code.specs.Meaning.{State}
use Rattle.level_core.specs.declared.letter.Letter.{Letter}
use Rattle.level_core.specs.declared.letter.Letter.TheVariants.{Dense}
use Rattle.level_core.proofs.KindLaws.{full_is_dense, no_parents_below, stored_none_below}
use Rattle.level_core.specs.Entries.{one}
use Rattle.level_core.specs.Fragments.{IsOf}
use Rattle.level_core.specs.Meaning.{Arrays}
use Rattle.level_cursors.specs.Children.{ChildLeft}
use Rattle.format_spec.specs.declared.format.FormatLevel.{FormatLevel}
use Rattle.format_spec.specs.Formats.{letters_of}
use Rattle.index_notation.specs.declared.syntax.Access.{Access}
use Rattle.index_notation.specs.declared.syntax.Statement.{Statement}
use Rattle.concrete_notation.specs.Workspaces.{AreAllDense}
use Rattle.tensor_storage.specs.Storages.{in_level_order}
use Rattle.term_code.specs.declared.places.AccessPlace.{AccessPlace}
use Rattle.term_code.specs.declared.places.Places.{Places}
use Rattle.term_code.specs.declared.workspace_sink.WorkspaceSink.{WorkspaceSink}
use Rattle.term_code.specs.Places.{new_access}
use Rattle.term_code.specs.WorkspaceSinks.{HoldsRows, IsOfWorkspace}
use Rattle.kernel_correctness.specs.Stores.{Store, IsGiven, StartsBelow}
use Rattle.level_core.specs.Kinds.{properties, parents_below}
use Rattle.operand_arrays.specs.Operands.{IsOfOperands}
use Rattle.dense_results.specs.Kernels.{AreAtBase}
use Rattle.dense_results.specs.Operands.{IsReadStore, first_summed}
use Rattle.dense_results.proofs.Operands.{arrays_stand}
use Rattle.sparse_kernels.specs.Kernels.{IsAtTop}

-- no array of an operand is one of a workspace
operands_beside : (w : ℕ) (b : Arr) → IsOfOperands b → IsOfWorkspace w b → ⊥
operands_beside w Range h g = g
operands_beside w (Values n) h g = g
operands_beside w (Dimension n k) h g = g
operands_beside w (Ends n k) h g = g
operands_beside w (Coordinates n k) h g = g
operands_beside w (Width n k) h g = g
operands_beside w (Key n k) h g = h
operands_beside w (Sums n) h g = h
operands_beside w (ListCoordinates n) h g = g
operands_beside w (ListPositions n) h g = g

-- nor is one of a level
pub levels_beside : (w tensor level : ℕ) (b : Arr) → IsOf tensor level b → IsOfWorkspace w b → ⊥
levels_beside w tensor level Range h g = g
levels_beside w tensor level (Values n) h g = g
levels_beside w tensor level (Dimension n k) h g = g
levels_beside w tensor level (Ends n k) h g = g
levels_beside w tensor level (Coordinates n k) h g = g
levels_beside w tensor level (Width n k) h g = g
levels_beside w tensor level (Key n k) h g = h
levels_beside w tensor level (Sums n) h g = h
levels_beside w tensor level (ListCoordinates n) h g = g
levels_beside w tensor level (ListPositions n) h g = g

-- the place of each access, before all loops
record IsNew (s : Statement) (base k : ℕ) (p : AccessPlace) : Type 0 where
  access : Access
  is : slice_get s.accesses k ≡ Some access
  place : p ≡ new_access base (first_summed s) access.tensor

place_new : (s : Statement) (base : ℕ) (places : Places) → AreAtBase s base places → (k : ℕ) (p : AccessPlace)
    → slice_get places.accesses k ≡ Some p → IsNew s base k p
place_new s base places at k p is = by (slice_get s.accesses k) refl
  where
    told : option_map (new_access base (first_summed s)) (option_map (λ (x : Access). x.tensor) (slice_get s.accesses k)) ≡ Some p
    told =
        ap (option_map (new_access base (first_summed s))) (sym (slice_get-map (λ (x : Access). x.tensor) s.accesses k))
        ∙ sym (slice_get-map (new_access base (first_summed s)) (map (λ (x : Access). x.tensor) s.accesses) k)
        ∙ ap (λ ps. slice_get ps k) (sym at) ∙ is

    none : None ≡ Some p → ⊥
    none e = cc

    some : (q : AccessPlace) → Some q ≡ Some p → p ≡ q
    some q e = cc

    by : (o : Option Access) → slice_get s.accesses k ≡ o → IsNew s base k p
    by None e =
        absurd (none (ap (λ o. option_map (new_access base (first_summed s)) (option_map (λ (x : Access). x.tensor) o)) (sym e) ∙ told))
    by (Some x) e = record {
      access = x;
      is = e;
      place = some (new_access base (first_summed s) x.tensor)
          (ap (λ o. option_map (new_access base (first_summed s)) (option_map (λ (y : Access). y.tensor) o)) (sym e) ∙ told);
    }

pub at_top : (a : Arithmetic) (k : WorkspaceSink) (s : Statement) (formats : List (List FormatLevel)) (store : Store)
    → IsReadStore s formats store → (base : ℕ) (places : Places) → AreAtBase s base places
    → (st : State) → IsGiven a.zero store st.arrays → ChildLeft base (Some (one 0)) st → HoldsRows k.number k.keys [] st.arrays
    → IsAtTop a k s formats store places st
at_top a k s formats store r base places at st given left held = record {
  stands = arrays_stand s formats store r a.zero st.arrays given places.accesses (λ j p is.
      let n = place_new s base places at j p is in
      (n.access, n.is, ap (λ (q : AccessPlace). q.tensor) n.place, ap (λ (q : AccessPlace). q.is_sum) n.place));
  keeps = record {
    points = λ v h. absurd (cc);
    cursors = λ j p is.
        let n = place_new s base places at j p is in
        subst (λ b. ChildLeft b (Some (one 0)) st) (sym (ap (λ (q : AccessPlace). q.cursor) n.place)) left;
  };
  from = record { variables = λ j d h. inr (omega arith); accesses = λ j p is. inr (omega arith) };
  none = λ y no. absurd no;
  kept = operands_beside k.number;
  held = held;
}

-- a workspace that the kernel has starts without rows
pub starts_empty : (kernel : Kernel) (arrays : Arrays) (w keys : ℕ) → slice_get kernel.workspaces w ≡ Some keys
    → HoldsRows w keys [] (start_arrays kernel arrays)
starts_empty kernel arrays w keys there = record {
  key = λ k h. ap empty_if (key_there k h);
  sums = ap empty_if sums_there;
  few = omega arith;
}
  where
    key_there : (k : ℕ) → k < keys → nat_lt k (slice_index kernel.workspaces w) ≡ true
    key_there k h =
        let many : slice_index kernel.workspaces w ≡ keys = get_or_from_slice_get kernel.workspaces w keys 0 there in
        grind (arith, nat_tests)

    sums_there : nat_lt w (length kernel.workspaces) ≡ true
    sums_there = let inside = slice_get_within kernel.workspaces w keys there in grind (arith, nat_tests)

-- so does a scratch list
pub list_starts_empty : (kernel : Kernel) (arrays : Arrays) (g : ℕ) → g < kernel.lists
    → start_arrays kernel arrays (ListPositions g) ≡ Some []
list_starts_empty kernel arrays g h = ap empty_if there
  where
    there : nat_lt g kernel.lists ≡ true
    there = grind (arith, nat_tests)

-- below no parents there is no value
values_none : (letters : List Letter) (sizes : List ℕ) (nothing level : ℕ) (arrays : Arrays)
    → StartsBelow nothing letters sizes 0 level arrays → arrays (Values 0) ≡ Some []
values_none [] [] nothing level arrays h = h
values_none [] (size ∷ sizes) nothing level arrays h = h
values_none (letter ∷ letters) [] nothing level arrays h = h
values_none (letter ∷ letters) (size ∷ sizes) nothing level arrays h =
    values_none letters sizes nothing (suc level) arrays
    (subst (λ n. StartsBelow nothing letters sizes n (suc level) arrays) (no_parents_below letter size) h.1)

-- a result that isn't dense throughout starts without values
pub values_start : (format : List FormatLevel) (ranges : List ℕ) (nothing parents level : ℕ) (arrays : Arrays) → (AreAllDense format → ⊥)
    → StartsBelow nothing (letters_of format) (in_level_order format ranges) parents level arrays → arrays (Values 0) ≡ Some []
values_start [] ranges nothing parents level arrays some h = absurd (some (All-nil (λ (l : FormatLevel). l.letter ≡ Dense)))
values_start (l ∷ ls) ranges nothing parents level arrays some h =
    by (properties l.letter).full refl
    (values_start ls ranges nothing (parents_below l.letter (slice_index ranges l.mode) parents) (suc level) arrays)
  where
    by : (full : Bool) → (properties l.letter).full ≡ full
        → ((AreAllDense ls → ⊥) → StartsBelow nothing (letters_of ls) (in_level_order ls ranges)
        (parents_below l.letter (slice_index ranges l.mode) parents) (suc level) arrays → arrays (Values 0) ≡ Some [])
        → arrays (Values 0) ≡ Some []
    by true full again =
        again (λ rest. some (All-cons (λ (x : FormatLevel). x.letter ≡ Dense) l ls (full_is_dense l.letter full) rest)) h.1
    by false stored again =
        values_none (letters_of ls) (in_level_order ls ranges) nothing (suc level) arrays
        (subst (λ n. StartsBelow nothing (letters_of ls) (in_level_order ls ranges) n (suc level) arrays)
        (stored_none_below l.letter (slice_index ranges l.mode) parents stored) h.1)
