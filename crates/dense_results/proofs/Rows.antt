-- Each row that loops add is one that a dense result takes.
use Rattle.std.specs.Prelude.{◌≡◌, ℕ, zero, suc, ◌^◌, ◌<◌, nat_eq, nat_lt, Bool, true, false, if◌then◌else◌, List, [], ◌∷◌, map}
use Rattle.std.specs.Prelude.{All, Option, Some, None, slice_index, slice_index_or, refl}
use Rattle.std.proofs.Common.{◌∙◌, sym, ap, subst, arith}
use Rattle.std.proofs.lemmas.Bool.{eqb-true}
use Rattle.lists.specs.Each.{Each}
use Rattle.lists.proofs.Each.{each_append}
use Rattle.numbers.specs.Arithmetic.{Arithmetic, Laws}
use Rattle.numbers.specs.Sums.{total_of}
use Rattle.level_core.specs.declared.span.Span.{Span}
use Rattle.level_core.specs.Entries.{one}
use Rattle.format_spec.specs.declared.format.FormatLevel.{FormatLevel}
use Rattle.format_spec.specs.Formats.{modes_of}
use Rattle.index_notation.specs.declared.operator.Operator.{Operator}
use Rattle.index_notation.specs.declared.operator.Operator.TheVariants as op
use Rattle.index_notation.specs.declared.syntax.Expr.{Expr, Num, Access as AccessOf, Binary', Neg', Row_of-Expr, end_of-Expr, more_of-Expr}
use Rattle.index_notation.specs.declared.syntax.Statement.{Statement}
use Rattle.tensor_map.specs.Entries.{Entry}
use Rattle.tensor_storage.specs.Children.{child_of}
use Rattle.tensor_map.proofs.Lemmas.{listed_at}
use Rattle.expr_terms.specs.Points.{coords_at}
use Rattle.expr_terms.specs.Value.{minus}
use Rattle.expr_terms.specs.ValueLaws.{HasWords, HasWords_in}
use Rattle.concrete_notation.specs.Contributions.{rows_below}
use Rattle.loop_code.specs.declared.loops.LoopCode.{LoopCode, Add, Both', Loop', Sum', Row_of-LoopCode, end_of-LoopCode}
use Rattle.loop_code.specs.declared.loops.LoopCode.{more_of-LoopCode}
use Rattle.loop_code.specs.declared.loops.Seek.{Seek}
use Rattle.loop_code.specs.Loops.{Layout, Stored, Env, start, follow, at_variable, at_cursor, sought, found, moved, word_of}
use Rattle.loop_code.specs.Loops.{access_values, term_value, row_of, sum_of, contributions, contributions_in}
use Rattle.loop_code.specs.PresentValues.{both, either, each, present_applied, present_value, present_value_in, signed}
use Rattle.lowering.specs.Layouts.{layout_of}
use Rattle.lowering.specs.Right.{HaveValues, rows_to}
use Rattle.lowering.specs.Shapes as shapes
use Rattle.lowering.specs.Sums.{first_sum}
use Rattle.lowering.proofs.RightLoops.{are_right}
use Rattle.term_code.specs.DenseSinks.{IsWithin}
use Rattle.kernel_correctness.specs.Stores.{Store, told_by}
use Rattle.operand_arrays.specs.Operands.{stored_in}
use Rattle.dense_results.specs.Loops.{RowsAreTaken}
use Rattle.dense_results.specs.Operands.{IsReadStore, operands_in}
use Rattle.dense_results.specs.Results.{IsDenseStore, left_ranges}
use Rattle.dense_results.proofs.Ends.{to_below}
use Rattle.dense_results.proofs.Modes.{has_modes}
use Rattle.dense_results.proofs.Operands.{told, stored_small, sum_plain, none_stored}

-- a value is a word, if there is one
abbrev IsWord : Option ℕ → Type 0
IsWord None = Unit {0}
IsWord (Some v) = v < 2 ^ 64

module _ (a : Arithmetic) (laws : Laws a) where
  both_word : (x y : Option ℕ) → IsWord (both a.times x y)
  both_word None y = tt
  both_word (Some v) None = tt
  both_word (Some v) (Some w) = laws.times_fits v w

  either_word : (x y : Option ℕ) → IsWord x → IsWord y → IsWord (either a.plus x y)
  either_word None y f g = g
  either_word (Some v) None f g = f
  either_word (Some v) (Some w) f g = laws.plus_fits v w

  minus_word : (x : Option ℕ) → IsWord (each (minus a) x)
  minus_word None = tt
  minus_word (Some v) = laws.times_fits a.minus_one v

  applied_word : (o : Operator) (x y : Option ℕ) → IsWord x → IsWord y → IsWord (present_applied a o x y)
  applied_word op.Add x y f g = either_word x y f g
  applied_word op.Sub x y f g = either_word x (each (minus a) y) f (minus_word y)
  applied_word op.Mul x y f g = both_word x y

  module _ (values : ℕ → Option ℕ) (words : (k : ℕ) → IsWord (values k)) where
    mutual
      value_word : (e : Expr) → HasWords e → IsWord (present_value a values e)
      value_word (Num n) h = h
      value_word (AccessOf k) h = words k
      value_word (Binary' o p e q f) h =
          applied_word o (present_value_in a values e) (present_value_in a values f) (value_word_in e h.0) (value_word_in f h.1)
      value_word (Neg' p e) h = minus_word (present_value_in a values e)

      value_word_in : {m : _} (row : Row_of-Expr m) → HasWords_in row → IsWord (present_value_in a values row)
      value_word_in end_of-Expr h = tt
      value_word_in (more_of-Expr e rest) h = value_word e h

  signed_word : (b : Bool) (x : Option ℕ) → IsWord x → IsWord (signed a b x)
  signed_word true x h = minus_word x
  signed_word false x h = h

  -- the rows that loops add
  abbrev HasWord : Entry → Type 0
  HasWord row = row.value < 2 ^ 64

  row_word : (coords : List ℕ) (x : Option ℕ) → IsWord x → Each HasWord (row_of coords x)
  row_word coords None h = tt
  row_word coords (Some v) h = (h, tt)

  below_words : (n : ℕ) (f : ℕ → List Entry) → ((x : ℕ) → Each HasWord (f x)) → Each HasWord (rows_below n f)
  below_words zero f h = tt
  below_words (suc n) f h = each_append HasWord (rows_below n f) (f n) (below_words n f h) (h n)

  -- of some accesses words are stored; each other one is that of a sum, of which no level is found, and whose value is its position
  module _ (layout : Layout) (stored : Stored) (ranges : ℕ → ℕ) (is_stored : ℕ → Bool)
      (small : (k position : ℕ) → is_stored k ≡ true → stored.word k position < 2 ^ 64)
      (plain : (k position : ℕ) → is_stored k ≡ false → stored.word k position ≡ position)
      (none : (k level : ℕ) (span : Span) → is_stored k ≡ false → stored.entries k level span ≡ []) where
    -- the sums that are present are words
    abbrev SumsAreWords : Env → Type 0
    SumsAreWords env = (k : ℕ) (span : Span) → is_stored k ≡ false → env.cursor k ≡ Some span → span.lo < 2 ^ 64

    access_word : (env : Env) → SumsAreWords env → (k : ℕ) → IsWord (word_of (stored.word k) (env.cursor k))
    access_word env sums k = by (env.cursor k) refl
      where
        by_stored : (span : Span) → env.cursor k ≡ Some span → (b : Bool) → is_stored k ≡ b → stored.word k span.lo < 2 ^ 64
        by_stored span at true is = small k span.lo is
        by_stored span at false is = let low = sums k span is at in let same = plain k span.lo is in omega (arith, low, same)

        by : (cursor : Option Span) → env.cursor k ≡ cursor → IsWord (word_of (stored.word k) cursor)
        by None at = tt
        by (Some span) at = by_stored span at (is_stored k) refl

    cursor_words : (env : Env) (k : ℕ) (o : Option Span) → SumsAreWords env
        → ((span : Span) → is_stored k ≡ false → o ≡ Some span → span.lo < 2 ^ 64) → SumsAreWords (at_cursor env k o)
    cursor_words env k o sums here j span is = by (nat_eq k j) refl
      where
        by : (b : Bool) → nat_eq k j ≡ b → (if b then o else env.cursor j) ≡ Some span → span.lo < 2 ^ 64
        by true same at = here span (ap is_stored (eqb-true k j same) ∙ is) at
        by false other at = sums j span is at

    found_words : (seeks : List Seek) (env : Env) → SumsAreWords env → SumsAreWords (found layout stored seeks env)
    found_words [] env sums = sums
    found_words (s ∷ seeks) env sums =
        found_words seeks (at_cursor env s.access (sought layout stored env s.access s.level))
        (cursor_words env s.access (sought layout stored env s.access s.level) sums
        (λ span is at. absurd (let gone : ◌≡◌ {A = Option Span} None (Some span) = sym (absent is (env.cursor s.access)) ∙ at in cc)))
      where
        absent : is_stored s.access ≡ false → (o : Option Span)
            → follow o (λ p. child_of (stored.entries s.access s.level p) (env.point (layout.variable s.access s.level))) ≡ None
        absent is None = refl
        absent is (Some p) = ap (λ es. child_of es (env.point (layout.variable s.access s.level))) (none s.access s.level p is)

    sum_words : (rows : List Entry) (span : Span) → sum_of a rows ≡ Some span → span.lo < 2 ^ 64
    sum_words [] span at = absurd (cc at)
    sum_words (row ∷ rows) span at =
        let values = map (λ (r : Entry). r.value) rows in
        let total = a.plus row.value (total_of a values) in
        let low : total < 2 ^ 64 = laws.plus_fits row.value (total_of a values) in
        let same : ◌≡◌ {A = Option Span} (Some (record { lo = total; hi = total })) (Some span) = at in
        subst (λ n. n < 2 ^ 64) (ap low_end same) low
      where
        low_end : Option Span → ℕ
        low_end None = 0
        low_end (Some p) = p.lo

    mutual
      rows_words : (target : List ℕ) (c : LoopCode) → shapes.EachTerm (λ t. HasWords t.expr) c → (env : Env) → SumsAreWords env
          → Each HasWord (contributions a layout stored ranges target c env)
      rows_words target (Loop' v seeks p body) h env sums =
          below_words (ranges v) (λ x. contributions_in a layout stored ranges target body (moved layout stored v seeks env x))
          (λ x. rows_words_in target body h (moved layout stored v seeks env x) (found_words seeks (at_variable env v x) sums))
      rows_words target (Both' p f q g) h env sums =
          each_append HasWord (contributions_in a layout stored ranges target f env) (contributions_in a layout stored ranges target g env)
          (rows_words_in target f h.0 env sums) (rows_words_in target g h.1 env sums)
      rows_words target (Add t) h env sums =
          row_word (coords_at env.point target) (term_value a stored env t)
          (signed_word t.negated (present_value a (access_values stored env) t.expr)
          (value_word (access_values stored env) (access_word env sums) t.expr h))
      rows_words target (Sum' k p inside q body) h env sums =
          let rows = contributions_in a layout stored ranges [] inside env in
          rows_words_in target body h.1 (at_cursor env k (sum_of a rows))
          (cursor_words env k (sum_of a rows) sums (λ span is at. sum_words rows span at))

      rows_words_in : {m : _} (target : List ℕ) (row : Row_of-LoopCode m) → shapes.EachTerm_in (λ t. HasWords t.expr) row → (env : Env)
          → SumsAreWords env → Each HasWord (contributions_in a layout stored ranges target row env)
      rows_words_in target end_of-LoopCode h env sums = tt
      rows_words_in target (more_of-LoopCode c rest) h env sums = rows_words target c h env sums

each_to_all : {X : Type 0} (P : X → Type 0) (xs : List X) → Each P xs → All P xs
each_to_all P [] h k d l = absurd (omega (arith, l))
each_to_all P (x ∷ xs) h zero d l = h.0
each_to_all P (x ∷ xs) h (suc k) d l = each_to_all P xs h.1 k d (omega (arith, l))

-- rows that have the statement's values
within_all : (a : Arithmetic) (s : Statement) (formats : List (List FormatLevel)) (store : Store) → IsDenseStore s formats store
    → (rows : List Entry) → HaveValues a s (told_by a s store) rows → All (λ (row : Entry). row.value < 2 ^ 64) rows
    → All (IsWithin (modes_of store.format) (left_ranges s store)) rows
within_all a s formats store d rows have words k e l =
    let m = has_modes s formats store d in
    let row : Entry = slice_index_or rows k e in
    record {
      stored = m.modes;
      many = m.ranges;
      below = to_below (left_ranges s store) row.coords ((have.support row.coords).0 (listed_at rows k e l)).0;
      word = words k e l;
    }

-- before all loops each access is at its top
start_small : (span : Span) → Some (one 0) ≡ Some span → span.lo < 2 ^ 64
start_small span at = let same : one 0 ≡ span = cc at in subst (λ (p : Span). p.lo < 2 ^ 64) same (omega arith)

-- the rows that loops add to any target
pub loops_words : (a : Arithmetic) → Laws a → (s : Statement) (formats : List (List FormatLevel)) (store : Store)
    → IsReadStore s formats store → (target : List ℕ) (loops : LoopCode) → shapes.EachTerm (λ t. HasWords t.expr) loops
    → Each (λ (row : Entry). row.value < 2 ^ 64) (rows_to a s formats (told_by a s store) (stored_in (operands_in s store)) target loops)
loops_words a laws s formats store r target loops words =
    rows_words a laws (layout_of s formats) (stored_in (operands_in s store)) (slice_index store.ranges) (λ k. nat_lt k (first_sum s))
    (λ k position is. stored_small s formats store r k position is) (λ k position is. sum_plain s formats store r k position is)
    (λ k level span is. none_stored s formats store r k level span is) target loops words start (λ k span is at. start_small span at)

pub rows_are_taken : RowsAreTaken
rows_are_taken a laws s formats store d r c in_order loops adds words =
    let t = told s formats store r a laws in
    let right = are_right s r.numbered formats c in_order r.named loops adds in
    let rows : List Entry = rows_to a s formats (told_by a s store) (stored_in (operands_in s store)) s.left.vars loops in
    within_all a s formats store d rows (right.added a laws (told_by a s store) (stored_in (operands_in s store)) t.held t.elsewhere)
    (each_to_all (λ (row : Entry). row.value < 2 ^ 64) rows (loops_words a laws s formats store r s.left.vars loops words))
