-- What a store of packed operands tells a statement is what its operands' entries say.
use Rattle.std.specs.Prelude.{◌≡◌, ◌≢◌, ℕ, zero, suc, ◌<◌, Bool, true, false, nat_eq, List, [], ◌∷◌, length, Some}
use Rattle.std.specs.Prelude.{slice_get, slice_index, slice_index_or, refl}
use Rattle.std.proofs.Common.{◌∙◌, sym, ap, subst, arith}
use Rattle.std.proofs.lemmas.Bool.Decides.{nat_tests}
use Rattle.lists.specs.Each.{Each}
use Rattle.lists.proofs.Each.{each_get, each_from}
use Rattle.numbers.specs.Arithmetic.{Arithmetic, Laws}
use Rattle.tensor_map.specs.Entries.{Entry, Entries, value_at}
use Rattle.format_spec.specs.declared.format.FormatLevel.{FormatLevel}
use Rattle.index_notation.specs.Statement.{IsAccess}
use Rattle.index_notation.specs.declared.syntax.Access.{Access}
use Rattle.index_notation.specs.declared.syntax.Statement.{Statement}
use Rattle.iteration_graph.specs.Edges.{HasFormat, format_of}
use Rattle.expr_terms.specs.Operands.{list_or_none, operand_values}
use Rattle.expr_terms.specs.ValueLaws.{AgreeAt}
use Rattle.tensor_storage.specs.Storages.{Storage, EndsAt, storage_of}
use Rattle.tensor_storage.specs.Told.{TellsEntries}
use Rattle.tensor_storage.proofs.TellLaws.{packed_tell_entries}
use Rattle.lowering.specs.Stored.{IsToldBy, inputs_of}
use Rattle.lowering.proofs.Walked.{storages_tell}
use Rattle.kernel_correctness.specs.Stores.{Store, operand_of, told_alone}
use Rattle.operand_packing.specs.Operands.{AreOperands}
use Rattle.operand_packing.specs.Packed.{IsPackedAt, IsPackedOperand, operand_sizes}
use Rattle.kernel_runs.specs.Runs.{IsStoreFor}

some_at : {A : Type 0} (xs : List A) (n : ℕ) → n < length xs → (x : A) × (slice_get xs n ≡ Some x)
some_at [] n h = absurd (omega (arith, h))
some_at (x ∷ xs) zero h = (x, refl)
some_at (x ∷ xs) (suc n) h = some_at xs n (omega (arith, h))

found_at : (xs : List Storage) (n : ℕ) (x d : Storage) → slice_get xs n ≡ Some x → slice_index_or xs n d ≡ x
found_at [] n x d is = absurd cc
found_at (y ∷ xs) zero x d is = cc
found_at (y ∷ xs) (suc n) x d is = found_at xs n x d is

-- numbers are the same or they aren't
same_or : (x y : ℕ) → ((x ≡ y → ⊥) → ⊥) → x ≡ y
same_or x y h = by (nat_eq x y) refl
  where
    by : (b : Bool) → nat_eq x y ≡ b → x ≡ y
    by true t = grind (arith, nat_tests, t)
    by false t = absurd (h (λ e. grind (arith, nat_tests, t, e)))

module _ (a : Arithmetic) (laws : Laws a) where
  -- a storage tells at each coordinate list the value that the entries have there
  value_told : (storages : ℕ → Storage) (ranges : ℕ → ℕ) (tensor : ℕ) (format : List FormatLevel) (sizes : List ℕ) (entries : List Entry)
      → IsPackedOperand a format sizes entries (storages tensor) → (coords : List ℕ) → length coords ≡ length format
      → (inputs_of a storages ranges).values tensor coords ≡ value_at a entries coords
  value_told storages ranges tensor format sizes entries p coords long =
      same_or ((inputs_of a storages ranges).values tensor coords) (value_at a entries coords) (λ apart.
      let told : IsToldBy a (inputs_of a storages ranges) (storages tensor) tensor coords =
      storages_tell a storages ranges tensor p.whole coords in
      let tells : TellsEntries a p.summed (storages tensor) coords =
      packed_tell_entries a laws format sizes p.summed (storages tensor) p.is_format p.long p.are_summed.each p.are_summed.increasing
      p.inside p.packed coords long in
      let none : (pos : ℕ) → EndsAt (storages tensor) coords pos → ⊥ =
      λ pos ends. apart (sym (told.path pos ends).1 ∙ tells.stored pos ends ∙ p.are_summed.values coords) in
      apart ((told.none none).1 ∙ sym (tells.absent none) ∙ p.are_summed.values coords))

  module _ (s : Statement) (formats : List (List FormatLevel)) (ranges : List ℕ) (operands : List Entries) (store : Store)
      (are : AreOperands s formats operands) (is : IsStoreFor a s formats ranges operands store) where
    access_told : (j : ℕ) (access : Access) → slice_get s.accesses j ≡ Some access
        → AgreeAt (told_alone a store).values (operand_values a operands) access
    access_told j access at = by access.tensor refl
      where
        unread : access.tensor ≢ 0
        unread = each_get (λ (x : Access). x.tensor ≢ 0) s.accesses j access are.named.unread at

        below : access.tensor < length s.tensors
        below = (each_get (IsAccess (length s.tensors) (length s.vars)) s.accesses j access are.numbered.right at).tensor

        fits : length (format_of formats access.tensor) ≡ length access.vars
        fits = (each_get (HasFormat formats) s.accesses j access are.formats_fit at).order

        by : (t : ℕ) → access.tensor ≡ t → AgreeAt (told_alone a store).values (operand_values a operands) access
        by zero e = absurd (unread e)
        by (suc n) e = λ coords long.
            let inside : n < length store.operands =
            (let most = below in let many = are.many in let stored = is.packed.many in omega (arith, most, many, stored, e)) in
            let there = some_at store.operands n inside in
            let packed : IsPackedAt a s formats (slice_index ranges) operands n there.0 = is.packed.each n there.0 there.1 in
            let found : there.0 ≡ operand_of store (suc n) = sym (found_at store.operands n there.0 (storage_of [] [] []) there.1) in
            let order : length coords ≡ length (format_of formats (suc n)) =
            long ∙ sym fits ∙ ap (λ t. length (format_of formats t)) e in
            ap (λ t. (told_alone a store).values t coords) e
            ∙ value_told (operand_of store) (slice_index store.ranges) (suc n) (format_of formats (suc n))
            (operand_sizes s (slice_index ranges) n packed.entries) packed.entries.list
            (subst (IsPackedOperand a (format_of formats (suc n)) (operand_sizes s (slice_index ranges) n packed.entries)
            packed.entries.list) found packed.packed) coords order
            ∙ sym (ap (λ t. operand_values a operands t coords) e
            ∙ ap (λ o. value_at a (list_or_none o) coords) packed.is)

    pub values_told : Each (AgreeAt (told_alone a store).values (operand_values a operands)) s.accesses
    values_told = each_from (AgreeAt (told_alone a store).values (operand_values a operands)) s.accesses access_told
