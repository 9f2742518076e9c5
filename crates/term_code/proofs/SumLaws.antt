-- What the code of a sum does that is kept in variables.
use Rattle.std.specs.Prelude.{◌≡◌, ℕ, ◌+◌, ◌^◌, ◌<◌, true, List, [], ◌∷◌, ◌++◌, map, Some, refl}
use Rattle.std.proofs.Common.{◌∙◌, sym, ap, arith}
use Rattle.std.proofs.lemmas.List.{map-append}
use Rattle.numbers.specs.Arithmetic.{Arithmetic, Laws}
use Rattle.numbers.specs.Sums.{total_of}
use Rattle.numbers.proofs.Sums.{total_append}
use Rattle.kernel_code.specs.declared.syntax.ValueOp.TheVariants.{Plus}
use Rattle.kernel_code.specs.declared.syntax.KExpr.{Num, Var}
use Rattle.kernel_code.specs.declared.syntax.KStmt.{Set}
use Rattle.kernel_code.specs.Meaning.{State, set_var, word_of}
use Rattle.kernel_code.specs.Does.{Never}
use Rattle.kernel_code.specs.Keeps.{EveryArray, Leaves, NoVariable, no_turns}
use Rattle.kernel_code.proofs.Does.{does_combine, does_nothing, does_set}
use Rattle.kernel_code.proofs.Keeps.{other_var, this_var}
use Rattle.level_cursors.specs.Children.{ChildLeft}
use Rattle.tensor_map.specs.Entries.{Entry}
use Rattle.result_targets.specs.Sinks.{AddsTo}
use Rattle.loop_code.specs.Loops.{sum_of}
use Rattle.loop_code.proofs.Summed.{has_rows}
use Rattle.term_code.specs.SumSinks.{BeginsSum, EndsSum, HoldsSum, SumSink, add_code, begin_code, sum_sink}

abbrev values : List Entry → List ℕ
values rows = map (λ (row : Entry). row.value) rows

some_rows : (rows : List Entry) (row : Entry) → has_rows (rows ++ row ∷ []) ≡ true
some_rows [] row = refl
some_rows (first ∷ rows) row = refl

-- the sum with a value more
total_more : (a : Arithmetic) → Laws a → (rows : List Entry) (row : Entry)
    → a.plus (total_of a (values rows)) row.value ≡ total_of a (values (rows ++ row ∷ []))
total_more a laws rows row =
    let total = total_of a (values rows) in
    sym (laws.plus_zero (a.plus total row.value) (laws.plus_fits total row.value))
    ∙ laws.plus_assoc total row.value a.zero
    ∙ sym (total_append a laws (values rows) (row.value ∷ []))
    ∙ ap (total_of a) (sym (map-append (λ (r : Entry). r.value) rows (row ∷ [])))

pub adds_value : (k : SumSink) (keys : List ℕ) (v free : ℕ) → AddsTo sum_sink k keys v free (add_code k.at v)
adds_value k keys v free = λ c laws apart ranges rows row ok s vars at h.
    let a = c.arithmetic in
    let total = total_of a (values rows) in
    let t = set_var s (k.at + 1) (a.plus total row.value) in
    does_combine c (k.at + 1) Plus (Var (k.at + 1)) (Var v) _ s total row.value _ _ h.total at
    (does_set c k.at (Num 1) [] t 1 _ _ refl
    (does_nothing c (set_var t k.at 1) _ _ (
      record {
        below = λ y b out. other_var t k.at y 1 (λ q. out (omega (arith, q), omega (arith, q)))
            ∙ other_var s (k.at + 1) y (a.plus total row.value) (λ q. out (omega (arith, q), omega (arith, q)));
        arrays = λ b z. refl;
        turns = λ j. omega arith;
      },
      record {
        there = this_var t k.at 1 ∙ ap (λ b. Some (word_of b)) (sym (some_rows rows row));
        total = other_var t k.at (k.at + 1) 1 (λ q. omega (arith, q)) ∙ this_var s (k.at + 1) (a.plus total row.value)
            ∙ ap Some (total_more a laws rows row);
      },
    )))

pub begins_sum : (a : Arithmetic) (at : ℕ) → BeginsSum a at (begin_code at a.zero)
begins_sum a at = λ c is s.
    let t = set_var s at 0 in
    does_set c at (Num 0) _ s 0 _ Never refl
    (does_set c (at + 1) (Num a.zero) [] t a.zero _ Never refl
    (does_nothing c (set_var t (at + 1) a.zero) _ Never (
      record {
        below = λ y b z. other_var t (at + 1) y a.zero (λ q. omega (arith, b, q)) ∙ other_var s at y 0 (λ q. omega (arith, b, q));
        arrays = λ b z. refl;
        turns = λ j. omega arith;
      },
      record {
        there = other_var t (at + 1) at a.zero (λ q. omega (arith, q)) ∙ this_var s at 0;
        total = this_var t (at + 1) a.zero ∙ ap (λ (b : Arithmetic). Some b.zero) (sym is);
      },
    )))

-- behind its last row
left_as_span : (a : Arithmetic) (at : ℕ) (rows : List Entry) (s : State) → HoldsSum at a rows s
    → ChildLeft at (sum_of a rows) (set_var s (at + 1 + 1) (total_of a (values rows)))
left_as_span a at [] s h = other_var s (at + 1 + 1) at (total_of a []) (λ q. omega (arith, q)) ∙ h.there
left_as_span a at (row ∷ rows) s h =
    let total = total_of a (values (row ∷ rows)) in (
      other_var s (at + 1 + 1) at total (λ q. omega (arith, q)) ∙ h.there,
      record {
        lo = other_var s (at + 1 + 1) (at + 1) total (λ q. omega (arith, q)) ∙ h.total;
        hi = this_var s (at + 1 + 1) total;
      },
    )

pub ends_sum : (at : ℕ) → EndsSum at (Set (at + 1 + 1) (Var (at + 1)) ∷ [])
ends_sum at = λ c rows s h.
    let total = total_of c.arithmetic (values rows) in
    does_set c (at + 1 + 1) (Var (at + 1)) [] s total _ Never h.total
    (does_nothing c (set_var s (at + 1 + 1) total) _ Never (
      record {
        below = λ y b z. other_var s (at + 1 + 1) y total (λ q. omega (arith, b, q));
        arrays = λ b z. refl;
        turns = λ j. omega arith;
      },
      left_as_span c.arithmetic at rows s h,
    ))
