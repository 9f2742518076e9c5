-- Tensors that are packed one after another, each from the entries of one of the operands.
use Rattle.std.specs.Prelude.{◌≡◌, ◌≢◌, ◌⊎◌, ℕ, zero, suc, ◌+◌, ◌-◌, ◌<◌}
use Rattle.std.specs.Prelude.{◌≤◌, Bool, true, false, List, [], ◌∷◌, ◌++◌, length}
use Rattle.std.specs.Prelude.{Some, slice_get, slice_index, slice_index_or, slice_set, refl}
use Rattle.std.proofs.Common.{◌∙◌, sym, ap, subst, arith, inl, inr, add-one}
use Rattle.std.proofs.lemmas.Bool.{cases_order}
use Rattle.numbers.specs.Arithmetic.{Arithmetic}
use Rattle.tensor_map.specs.Entries.{Entry, Entries}
use Rattle.format_spec.specs.declared.format.FormatLevel.{FormatLevel}
use Rattle.index_notation.specs.declared.syntax.Statement.{Statement}
use Rattle.iteration_graph.specs.Edges.{format_of}
use Rattle.tensor_storage.specs.Storages.{Storage}
use Rattle.operand_packing.specs.Drawn.{HaveOperands, StandsFor, drawn, or_no_entries}
use Rattle.operand_packing.specs.Operands.{mode_sizes, operand_of}
use Rattle.operand_packing.specs.Packed.{AreSummed, ArePackedOperands, IsPackedAt, IsPackedOperand, IsFirstLargeOperand, IsLargeOperand}
use Rattle.operand_packing.specs.Packed.{MayBePacked, IsPackRefusal, MayAllBePacked, MayNotPack}
use Rattle.operand_packing.specs.declared.packing.PackFault.{PackFault}
use Rattle.operand_packing.specs.declared.packing.PackFault.TheVariants.{SizeLimit, Memory}
use Rattle.operand_packing.proofs.Inside.{inside_same}
use Rattle.operand_packing.proofs.Lists.{default_free, get_is, set_at, set_other, set_long, behind, one_more}

-- ---- entries that stand for others
pub stands_self : (a : Arithmetic) (e : Entries) → StandsFor a e e
stands_self a e = record { order = refl; values = λ coords. refl; listed = λ coords. ((λ h. h), (λ h. h)) }

stands_on : (a : Arithmetic) (e f g : Entries) → StandsFor a e f → StandsFor a f g → StandsFor a e g
stands_on a e f g first second = record {
  order = second.order ∙ first.order;
  values = λ coords. second.values coords ∙ first.values coords;
  listed = λ coords. (
    (λ h. (first.listed coords).0 ((second.listed coords).0 h)),
    (λ h. (second.listed coords).1 ((first.listed coords).1 h)),
  );
}

module _ (a : Arithmetic) (e f : Entries) (stands : StandsFor a e f) where
  summed_before : (order : ℕ) (summed : List Entry) → AreSummed a order f.list summed → AreSummed a order e.list summed
  summed_before order summed are = record {
    each = are.each;
    increasing = are.increasing;
    values = λ coords. are.values coords ∙ stands.values coords;
    listed = λ coords. (
      (λ h. (stands.listed coords).0 ((are.listed coords).0 h)),
      (λ h. (are.listed coords).1 ((stands.listed coords).1 h)),
    );
  }

  packed_before : (format : List FormatLevel) (sizes : List ℕ) (t : Storage) → IsPackedOperand a format sizes f.list t
      → IsPackedOperand a format sizes e.list t
  packed_before format sizes t is = record {
    is_format = is.is_format;
    long = is.long;
    summed = is.summed;
    are_summed = summed_before (length format) is.summed is.are_summed;
    inside = is.inside;
    packed = is.packed;
    whole = is.whole;
    words = is.words;
  }

  large_before : (format : List FormatLevel) (sizes : List ℕ) (level count : ℕ) → IsLargeOperand a format sizes f.list level count
      → IsLargeOperand a format sizes e.list level count
  large_before format sizes level count is = record {
    counts = is.counts;
    have = record {
      summed = is.have.summed;
      numbers = is.have.numbers;
      are_summed = summed_before (length format) is.have.summed is.have.are_summed;
      arranged = is.have.arranged;
      counts_are = is.have.counts_are;
    };
    first = is.first;
  }

  may_after : (format : List FormatLevel) (sizes : List ℕ) → MayBePacked format sizes e → MayBePacked format sizes f
  may_after format sizes may = record {
    order = stands.order ∙ may.order;
    long = may.long;
    shape = may.shape;
    inside = inside_same sizes e.list f.list stands.listed may.inside;
  }

-- ---- the operand of a tensor
pub drawn_at : (origins : List ℕ) (operands : List Entries) (n : ℕ) → n < length origins
    → slice_get (drawn origins operands) n ≡ Some (or_no_entries (operand_of operands (slice_index origins n)))
drawn_at [] operands n h = absurd (omega (arith, h))
drawn_at (origin ∷ origins) operands zero h = refl
drawn_at (origin ∷ origins) operands (suc n) h = drawn_at origins operands n (omega (arith, h))

operand_at : (now : List Entries) (origin : ℕ) (e : Entries) → 0 < origin → origin ≤ length now → e ≡ slice_index_or now (origin - 1) e
    → or_no_entries (operand_of now origin) ≡ e
operand_at now zero e some within is = absurd (omega (arith, some))
operand_at now (suc n) e some within is =
    let same : suc n - 1 ≡ n = omega arith in
    ap or_no_entries (get_is now n e (omega (arith, within)) (subst (λ k. e ≡ slice_index_or now k e) same is))

operand_set : (now : List Entries) (origin : ℕ) (e : Entries) → 0 < origin → origin ≤ length now
    → or_no_entries (operand_of (slice_set now (origin - 1) e) origin) ≡ e
operand_set now zero e some within = absurd (omega (arith, some))
operand_set now (suc n) e some within =
    let same : suc n - 1 ≡ n = omega arith in
    ap (λ k. or_no_entries (slice_get (slice_set now k e) n)) same ∙ ap or_no_entries (set_at now n e (omega (arith, within)))

operand_other : (now : List Entries) (origin other : ℕ) (e : Entries) → 0 < origin → 0 < other → origin ≢ other
    → or_no_entries (operand_of (slice_set now (origin - 1) e) other) ≡ or_no_entries (operand_of now other)
operand_other now zero other e some more apart = absurd (omega (arith, some))
operand_other now (suc n) zero e some more apart = absurd (omega (arith, more))
operand_other now (suc n) (suc m) e some more apart =
    let same : suc n - 1 ≡ n = omega arith in
    ap (λ k. or_no_entries (slice_get (slice_set now k e) m)) same ∙ ap or_no_entries (set_other now n m e (λ one. apart (ap suc one)))

-- ---- the first tensors are packed, and the entries that others store stand for what they stood for
pub record Packing (a : Arithmetic) (s : Statement) (formats : List (List FormatLevel)) (ranges : ℕ → ℕ) (origins : List ℕ)
    (operands : List Entries) (number : ℕ) (now : List Entries) (storages : List Storage) : Type 0 where
  pub many : length storages ≡ number
  pub long : length now ≡ length operands
  pub rest : (n : ℕ) → number ≤ n → n < length origins → StandsFor a (or_no_entries (operand_of operands (slice_index origins n)))
      (or_no_entries (operand_of now (slice_index origins n)))
  pub packed : (n : ℕ) (t : Storage) → slice_get storages n ≡ Some t → IsPackedAt a s formats ranges (drawn origins operands) n t

pub none_packed : (a : Arithmetic) (s : Statement) (formats : List (List FormatLevel)) (ranges : ℕ → ℕ) (origins : List ℕ)
    (operands : List Entries) → Packing a s formats ranges origins operands 0 operands []
none_packed a s formats ranges origins operands = record {
  many = refl;
  long = refl;
  rest = λ n h inside. stands_self a (or_no_entries (operand_of operands (slice_index origins n)));
  packed = λ n t is. absurd (nothing n t is);
}
  where
    nothing : (n : ℕ) (t : Storage) → slice_get [] n ≡ Some t → ⊥
    nothing n t is = cc

module _ (a : Arithmetic) (s : Statement) (formats : List (List FormatLevel)) (ranges : ℕ → ℕ) (origins : List ℕ)
    (operands : List Entries) (number : ℕ) (now : List Entries) (storages : List Storage)
    (p : Packing a s formats ranges origins operands number now storages) (as_many : length formats ≡ length origins + 1)
    (known : HaveOperands origins operands) (some : number < length origins) where
  pub origin_known : (0 < slice_index origins number) × (slice_index origins number ≤ length operands)
  origin_known = known number 0 some

  pub origin_within : slice_index origins number - 1 < length now
  origin_within = let at = origin_known in let first = at.0 in let last = at.1 in let long = p.long in omega (arith, first, last, long)

  abbrev before : Entries
  before = or_no_entries (operand_of operands (slice_index origins number))

  -- the entries that come next
  module _ (e : Entries) (is : e ≡ slice_index_or now (slice_index origins number - 1) e) where
    now_is : or_no_entries (operand_of now (slice_index origins number)) ≡ e
    now_is =
        let at = origin_known in
        let within = at.1 in
        let long = p.long in
        operand_at now (slice_index origins number) e at.0 (omega (arith, within, long)) is

    stands : StandsFor a before e
    stands = subst (StandsFor a before) now_is (p.rest number (omega arith) some)

    -- their format
    module _ (f : List FormatLevel) (format : f ≡ slice_index_or formats (number + 1) f) (sizes : List ℕ)
        (sized : sizes ≡ mode_sizes s ranges (number + 1) e.order) where
      format_is : f ≡ format_of formats (suc number)
      format_is =
          format ∙ default_free formats (number + 1) f [] (omega (arith, some, as_many)) ∙ ap (format_of formats) (add-one number)

      sizes_are : sizes ≡ mode_sizes s ranges (suc number) before.order
      sizes_are = sized ∙ ap (λ k. mode_sizes s ranges k e.order) (add-one number) ∙ ap (mode_sizes s ranges (suc number)) stands.order

      -- they may be packed
      pub may_next : MayAllBePacked s formats ranges (drawn origins operands) → MayBePacked f sizes e
      may_next may =
          may_after a before e stands f sizes
          (subst (λ g. MayBePacked g sizes before) (sym format_is)
          (subst (λ ns. MayBePacked (format_of formats (suc number)) ns before) (sym sizes_are)
          (may number before (drawn_at origins operands number some))))

      -- they are packed
      pub more_packed : (again : Bool)
          → (again ≡ false → (later : ℕ) → number < later → later < length origins
          → slice_index origins later ≢ slice_index origins number) → (e' : Entries) → (again ≡ true → StandsFor a e e')
          → (t : Storage) (now' : List Entries) (storages' : List Storage) → e.order ≡ length f → IsPackedOperand a f sizes e.list t
          → now' ≡ slice_set now (slice_index origins number - 1) e' → storages' ≡ storages ++ t ∷ []
          → Packing a s formats ranges origins operands (number + 1) now' storages'
      more_packed again later_apart e' kept t now' storages' order packed set pushed = record {
        many = let m = p.many in let more = one_more storages t in let long = ap length pushed in omega (arith, m, more, long);
        long = ap length set ∙ set_long now (slice_index origins number - 1) e' ∙ p.long;
        rest = λ n h inside. subst (λ ns. StandsFor a (or_no_entries (operand_of operands (slice_index origins n)))
            (or_no_entries (operand_of ns (slice_index origins n)))) (sym set)
            (left n (omega (arith, h)) inside again refl (cases_order (slice_index origins n) (slice_index origins number)));
        packed = λ n u at. by n u (behind storages t u n (ap (λ (ts : List Storage). slice_get ts n) (sym pushed) ∙ at));
      }
        where
          here : IsPackedAt a s formats ranges (drawn origins operands) number t
          here = record {
            entries = before;
            is = drawn_at origins operands number some;
            order = sym stands.order ∙ order ∙ ap length format_is;
            packed = subst (λ ns. IsPackedOperand a (format_of formats (suc number)) ns before.list t) sizes_are
                (subst (λ g. IsPackedOperand a g sizes before.list t) format_is (packed_before a before e stands f sizes t packed));
          }

          by : (n : ℕ) (u : Storage) → (slice_get storages n ≡ Some u) ⊎ ((n ≡ length storages) × (t ≡ u))
              → IsPackedAt a s formats ranges (drawn origins operands) n u
          by n u (inl at) = p.packed n u at
          by n u (inr end) =
              subst (λ k. IsPackedAt a s formats ranges (drawn origins operands) k u) (sym (end.0 ∙ p.many))
              (subst (λ v. IsPackedAt a s formats ranges (drawn origins operands) number v) end.1 here)

          other : (n : ℕ) → number < n → n < length origins → slice_index origins n ≢ slice_index origins number
              → StandsFor a (or_no_entries (operand_of operands (slice_index origins n)))
              (or_no_entries (operand_of (slice_set now (slice_index origins number - 1) e') (slice_index origins n)))
          other n behind_it inside apart =
              let at = known n 0 inside in
              subst (StandsFor a (or_no_entries (operand_of operands (slice_index origins n))))
              (sym (operand_other now (slice_index origins number) (slice_index origins n) e' origin_known.0 at.0
              (λ same. apart (sym same))))
              (p.rest n (omega (arith, behind_it)) inside)

          left : (n : ℕ) → number < n → n < length origins → (b : Bool) → again ≡ b
              → (slice_index origins n ≡ slice_index origins number) ⊎ ((slice_index origins n < slice_index origins number)
              ⊎ (slice_index origins number < slice_index origins n))
              → StandsFor a (or_no_entries (operand_of operands (slice_index origins n)))
              (or_no_entries (operand_of (slice_set now (slice_index origins number - 1) e') (slice_index origins n)))
          left n behind_it inside b which (inr (inl less)) = other n behind_it inside (λ same. omega (arith, less, same))
          left n behind_it inside b which (inr (inr more)) = other n behind_it inside (λ same. omega (arith, more, same))
          left n behind_it inside false which (inl same) = absurd (later_apart which n behind_it inside same)
          left n behind_it inside true which (inl same) =
              let at = origin_known in
              let within = at.1 in
              let long = p.long in
              let set_is = operand_set now (slice_index origins number) e' at.0 (omega (arith, within, long)) in
              subst (λ o. StandsFor a (or_no_entries (operand_of operands o))
              (or_no_entries (operand_of (slice_set now (slice_index origins number - 1) e') o))) (sym same)
              (subst (StandsFor a before) (sym set_is) (stands_on a before e e' stands (kept which)))

      -- or their tensor is the first that is too large
      first_large : (level count : ℕ) → IsLargeOperand a f sizes e.list level count
          → IsFirstLargeOperand a s formats ranges (drawn origins operands) (number + 1) level count
      first_large level count large = record {
        n = number;
        tensor_is = add-one number;
        entries = before;
        is = drawn_at origins operands number some;
        earlier = λ m h. earlier m (there storages m (let many = p.many in omega (arith, h, many)));
        large = subst (λ ns. IsLargeOperand a (format_of formats (suc number)) ns before.list level count) sizes_are
            (subst (λ g. IsLargeOperand a g sizes before.list level count) format_is
            (large_before a before e stands f sizes level count large));
      }
        where
          there : (ts : List Storage) (m : ℕ) → m < length ts → (t : Storage) × (slice_get ts m ≡ Some t)
          there [] m h = absurd (omega (arith, h))
          there (t ∷ ts) zero h = (t, refl)
          there (t ∷ ts) (suc m) h = there ts m (omega (arith, h))

          earlier : (m : ℕ) → (t : Storage) × (slice_get storages m ≡ Some t)
              → (t : Storage) × IsPackedAt a s formats ranges (drawn origins operands) m t
          earlier m found = (found.0, p.packed m found.0 found.1)

      -- so a refusal of it is one of all
      pub not_packed : (fault : PackFault) → IsPackRefusal a f sizes e.list (number + 1) fault
          → MayNotPack a s formats ranges (drawn origins operands) fault
      not_packed (Memory error) why = tt
      not_packed (SizeLimit large) why =
          subst (λ t. IsFirstLargeOperand a s formats ranges (drawn origins operands) t large.level large.count) (sym why.0)
          (first_large large.level large.count why.1)

-- in the end all are packed
pub drawn_long : (origins : List ℕ) (operands : List Entries) → length (drawn origins operands) ≡ length origins
drawn_long [] operands = refl
drawn_long (origin ∷ origins) operands = ap suc (drawn_long origins operands)

pub all_packed : (a : Arithmetic) (s : Statement) (formats : List (List FormatLevel)) (ranges : ℕ → ℕ) (origins : List ℕ)
    (operands : List Entries) (number : ℕ) (now : List Entries) (storages : List Storage)
    → Packing a s formats ranges origins operands number now storages
    → length origins ≡ number → ArePackedOperands a s formats ranges (drawn origins operands) storages
all_packed a s formats ranges origins operands number now storages p all =
    record { many = p.many ∙ sym all ∙ sym (drawn_long origins operands); each = p.packed }
