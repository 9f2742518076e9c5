-- What is told of an expression that is made of its parts, and of the first entries of a tensor.
use Rattle.std.specs.Prelude.{◌≡◌, ℕ, zero, suc, ◌+◌, ◌<◌, ◌≤◌, ◌^◌, Bool, true, false, ◌||◌, List, [], ◌∷◌, ◌++◌, length, take}
use Rattle.std.specs.Prelude.{Option, None, Some, slice_index_or, refl}
use Rattle.std.proofs.Common.{◌∙◌, sym, ap, subst, arith}
use Rattle.std.proofs.lemmas.List.{take_all}
use Rattle.std.proofs.lemmas.List.Folds.{list_any-append}
use Rattle.std.proofs.Math.Bool.{or-false}
use denote.Hole.Carrier.{hidden}
use Rattle.numbers.specs.Arithmetic.{Arithmetic, Laws}
use Rattle.numbers.proofs.Sums.{total_fits}
use Rattle.tensor_map.specs.Entries.{Entry, is_at, value_at, values_at}
use Rattle.tensor_map.proofs.Lemmas.{value_here, value_elsewhere, value_append}
use Rattle.index_notation.specs.declared.operator.Operator.{Operator}
use Rattle.index_notation.specs.declared.syntax.Access.{Access}
use Rattle.index_notation.specs.declared.syntax.Expr.{Expr, Binary, Neg}
use Rattle.index_notation.specs.declared.syntax.Expr.TheBlock.{hidden-the_row-Expr-0}
use Rattle.index_notation.specs.Operators.{is_there}
use Rattle.expr_terms.specs.Value.{applied, value_of, minus}
use Rattle.workspaces.specs.Presence.{TellsPart, is_listed, is_present}

module _ (a : Arithmetic) (paths : ℕ → List ℕ → Bool) (values : ℕ → List ℕ → ℕ) (accesses : List Access) (point : ℕ → ℕ) where
  abbrev pub Tells : Expr → Option ℕ → Type 0
  Tells e told = TellsPart a (is_present paths accesses point e) (value_of a values accesses point e) told

  two_sides : (o : Operator) (e f : Expr) (r : Option ℕ)
      → TellsPart a (is_there o (is_present paths accesses point e) (is_present paths accesses point f))
      (applied a o (value_of a values accesses point e) (value_of a values accesses point f)) r
      → Tells (Binary o e f) r
  unfolding hidden-the_row-Expr-0 hidden
  two_sides o e f r told = told

  turned : (e : Expr) (r : Option ℕ) → TellsPart a (is_present paths accesses point e) (minus a (value_of a values accesses point e)) r
      → Tells (Neg e) r
  unfolding hidden-the_row-Expr-0 hidden
  turned e r told = told

  -- the parts were read of the whole, and x and y tell of them
  pub tells_binary : (whole : Expr) (o : Operator) (e f e' f' : Expr) (x y r : Option ℕ) → whole ≡ Binary o e f → e' ≡ e → f' ≡ f
      → Tells e' x → Tells f' y
      → ((p q : Bool) (m n : ℕ) → TellsPart a p m x → TellsPart a q n y → TellsPart a (is_there o p q) (applied a o m n) r) → Tells whole r
  tells_binary whole o e f e' f' x y r is first second left right made =
      subst (λ w. Tells w r) (sym is) (two_sides o e f r (made (is_present paths accesses point e) (is_present paths accesses point f)
      (value_of a values accesses point e) (value_of a values accesses point f)
      (subst (λ w. Tells w x) first left) (subst (λ w. Tells w y) second right)))

  pub tells_negated : (whole e e' : Expr) (x r : Option ℕ) → whole ≡ Neg e → e' ≡ e → Tells e' x
      → ((p : Bool) (m : ℕ) → TellsPart a p m x → TellsPart a p (minus a m) r) → Tells whole r
  tells_negated whole e e' x r is inner of_it made =
      subst (λ w. Tells w r) (sym is) (turned e r
      (made (is_present paths accesses point e) (value_of a values accesses point e) (subst (λ w. Tells w x) inner of_it)))

-- one entry more of a row
take_next : (entries : List Entry) (i : ℕ) (d : Entry) → i < length entries
    → take (suc i) entries ≡ take i entries ++ slice_index_or entries i d ∷ []
take_next [] i d below = absurd (omega arith)
take_next (entry ∷ entries) zero d below = refl
take_next (entry ∷ entries) (suc i) d below = ap (λ es. entry ∷ es) (take_next entries i d (omega arith))

take_more : (entries : List Entry) (i : ℕ) (d : Entry) → i < length entries
    → take (i + 1) entries ≡ take i entries ++ slice_index_or entries i d ∷ []
take_more entries i d below =
    let more : i + 1 ≡ suc i = omega arith in
    ap (λ k. take k entries) more ∙ take_next entries i d below

module _ (a : Arithmetic) (laws : Laws a) (coords : List ℕ) where
  -- what is told of a row's entries at the coordinates
  abbrev pub TellsEntries : List Entry → Option ℕ → Type 0
  TellsEntries entries told = TellsPart a (is_listed entries coords) (value_at a entries coords) told

  pub tells_none : TellsEntries [] None
  tells_none = (refl, refl)

  tells_append : (front back : List Entry) (r : Option ℕ)
      → TellsPart a (is_listed front coords || is_listed back coords) (a.plus (value_at a front coords) (value_at a back coords)) r
      → TellsEntries (front ++ back) r
  tells_append front back r told =
      subst (λ p. TellsPart a p (value_at a (front ++ back) coords) r) (sym (list_any-append (is_at coords) front back))
      (subst (λ m. TellsPart a (is_listed front coords || is_listed back coords) m r) (sym (value_append a laws coords front back)) told)

  tells_one : (entry : Entry) → is_at coords entry ≡ true → entry.value < 2 ^ 64 → TellsEntries (entry ∷ []) (Some entry.value)
  tells_one entry at word = (or-false (is_at coords entry) ∙ at, sym (value_here a coords entry [] at ∙ laws.plus_zero entry.value word))

  -- an entry at the coordinates is added
  pub tells_more : (entries : List Entry) (i : ℕ) (d : Entry) (value : ℕ) (before r : Option ℕ) → i < length entries
      → is_at coords (slice_index_or entries i d) ≡ true
      → value ≡ (slice_index_or entries i d).value → value < 2 ^ 64
      → ((p q : Bool) (m n : ℕ) → TellsPart a p m before → TellsPart a q n (Some value) → TellsPart a (p || q) (a.plus m n) r)
      → TellsEntries (take i entries) before → TellsEntries (take (i + 1) entries) r
  tells_more entries i d value before r below at is word made told =
      let entry : Entry = slice_index_or entries i d in
      let one : TellsEntries (entry ∷ []) (Some value) =
      subst (λ v. TellsEntries (entry ∷ []) (Some v)) (sym is) (tells_one entry at (subst (λ v. v < 2 ^ 64) is word)) in
      subst (λ es. TellsEntries es r) (sym (take_more entries i d below))
      (tells_append (take i entries) (entry ∷ []) r (made (is_listed (take i entries) coords) (is_listed (entry ∷ []) coords)
      (value_at a (take i entries) coords) (value_at a (entry ∷ []) coords) told one))

  -- another is not
  pub tells_no_more : (entries : List Entry) (i : ℕ) (d : Entry) (before : Option ℕ) → i < length entries
      → is_at coords (slice_index_or entries i d) ≡ false
      → TellsEntries (take i entries) before → TellsEntries (take (i + 1) entries) before
  tells_no_more entries i d before below away told =
      let entry : Entry = slice_index_or entries i d in
      let unlisted : is_listed (entry ∷ []) coords ≡ false = or-false (is_at coords entry) ∙ away in
      let none : value_at a (entry ∷ []) coords ≡ a.zero = value_elsewhere a coords entry [] away in
      let listed : (is_listed (take i entries) coords || is_listed (entry ∷ []) coords) ≡ is_listed (take i entries) coords =
      ap (λ b. is_listed (take i entries) coords || b) unlisted ∙ or-false (is_listed (take i entries) coords) in
      let value : a.plus (value_at a (take i entries) coords) (value_at a (entry ∷ []) coords) ≡ value_at a (take i entries) coords =
      ap (a.plus (value_at a (take i entries) coords)) none
      ∙ laws.plus_zero (value_at a (take i entries) coords) (total_fits a laws (values_at (take i entries) coords)) in
      subst (λ es. TellsEntries es before) (sym (take_more entries i d below))
      (tells_append (take i entries) (entry ∷ []) before
      (subst (λ p. TellsPart a p (a.plus (value_at a (take i entries) coords) (value_at a (entry ∷ []) coords)) before) (sym listed)
      (subst (λ m. TellsPart a (is_listed (take i entries) coords) m before) (sym value) told)))

  pub tells_all : (entries : List Entry) (i : ℕ) (told : Option ℕ) → length entries ≤ i → TellsEntries (take i entries) told
      → TellsEntries entries told
  tells_all entries i told end so = subst (λ es. TellsEntries es told) (take_all i entries end) so
