-- The statement of a tree within the limits has numbers that stand in its lists.
use Rattle.std.specs.Prelude.{◌≡◌, ℕ, suc, ◌+◌, ◌≤◌, nat_lt, Option, Some, None, List, [], ◌∷◌, ◌++◌, length, map, refl}
use Rattle.std.proofs.Common.{sym, ◌∙◌, ap, subst, arith, append_assoc, length-append}
use Rattle.std.proofs.lemmas.Bool.{ltb-false}
use Rattle.std.proofs.lemmas.List.{length-map}
use Rattle.limits.specs.Limits.{greatest_order, greatest_variables, greatest_accesses, greatest_operands}
use Rattle.lists.specs.Each.{Each}
use Rattle.lists.proofs.Each.{each_append}
use Rattle.index_notation.specs.declared.operator.Operator.TheVariants as op
use Rattle.index_notation.specs.declared.syntax.Name.{Name}
use Rattle.index_notation.specs.declared.syntax.NestedSum.{NestedSum}
use Rattle.index_notation.specs.declared.syntax.Statement.{Statement}
use Rattle.index_notation.specs.declared.token.Mark.TheVariants.{Plus, Minus, Times, Close}
use Rattle.index_notation.specs.declared.token.WrittenAccess.{WrittenAccess}
use Rattle.notation_grammar.specs.declared.symbol.Symbol.{Symbol}
use Rattle.notation_grammar.specs.declared.fault.SymbolFault.{SymbolFault}
use Rattle.notation_grammar.specs.declared.fault.SymbolFault.TheVariants.{TooMany}
use Rattle.notation_grammar.specs.declared.fault.Counted.TheVariants.{Order, Variables, Accesses, Operands}
use Rattle.notation_grammar.specs.Grammar.{Factor, Digits, Read, Bracketed, Negated, Summed, Product, Lone, Multiplied, Sum, Alone, Added}
use Rattle.notation_grammar.specs.Grammar.{Taken, LeftSide, Tree, HasNames}
use Rattle.notation_grammar.specs.Grammar.{Role, NamesLeft, NamesRight, IsVariable, Binds, IsNumber, Opens, Plain, Written, plain, the_end}
use Rattle.notation_grammar.specs.Grammar.{more_variables, in_brackets, access_of, factor_of, product_of, sum_of, left_of, sentence_of}
use Rattle.notation_grammar.specs.Grammar.{symbols}
use Rattle.notation_grammar.specs.Faults.{variable_at, access_at, variables_in, accesses_in, operands_in, above, limit_passed, past_limit}
use Rattle.notation_grammar.specs.Faults.{HaveNoFault}
use Rattle.index_notation.specs.Numbering.{distinct, name_of, numbered}
use Rattle.index_notation.specs.NumberingLaws.{Within}
use Rattle.index_notation.specs.Statement.{AccessesUnder, AreSums, IsNumberedWithSums}
use Rattle.notation_grammar.specs.TreeStatement.{accesses_of_factor, accesses_of_product, accesses_of_sum, accesses_of_tree}
use Rattle.notation_grammar.specs.TreeStatement.{variables_of_factor, variables_of_product, variables_of_sum, variables_of_tree}
use Rattle.notation_grammar.specs.TreeStatement.{reads_in_factor, reads_in_product, reads_in_sum, sums_in_factor, sums_in_product}
use Rattle.notation_grammar.specs.TreeStatement.{sums_in_sum, factor_expr, product_expr, sum_expr, nested_sum, sums_of_factor}
use Rattle.notation_grammar.specs.TreeStatement.{sums_of_product, sums_of_sum, statement_of_tree}
use Rattle.notation_grammar.specs.Notation.{IsNotationOf}
use Rattle.index_notation.proofs.NumberingLaws.{same_self, stands_here, stands_later, stands_front, stands_back, stands_distinct}
use Rattle.index_notation.proofs.NumberingLaws.{numbered_are_accesses}
use Rattle.index_notation.proofs.StatementLaws.{accesses_under_binary, accesses_under_neg}
use Rattle.notation_reader.proofs.MachineLaws.{append_none}
use Rattle.notation_reader.proofs.NameLaws.{each_parts}
use Rattle.notation_reader.proofs.ReadingLaws.{symbols_join}
use Rattle.notation_reader.proofs.AnswerLaws.{none_at}
use Rattle.notation_reader.proofs.CountLaws.{variables_more}
use Rattle.notation_reader.proofs.ReadingSteps.{not_above}

-- no symbol is past its limits
abbrev AreWithin : List Written → Type 0
AreWithin ms = (front : List Written) (m : Written) (rest : List Written) → ms ≡ front ++ (m ∷ rest)
    → limit_passed m.role m.symbol (front ++ (m ∷ [])) ≡ None

none_passed : (o : Option SymbolFault) → ((f : SymbolFault) → o ≡ Some f → ⊥) → o ≡ None
none_passed None h = refl
none_passed (Some f) h = absurd (h f refl)

sentence_within : (w : Tree) → HasNames w → HaveNoFault [] (symbols (sentence_of w)) → AreWithin (sentence_of w)
sentence_within w k h front m rest e =
    let parts : symbols (sentence_of w) ≡ symbols front ++ (m.symbol ∷ symbols rest) = ap symbols e ∙ symbols_join front (m ∷ rest) in
    none_passed (limit_passed m.role m.symbol (front ++ (m ∷ [])))
    (λ f p. none_at [] (symbols front) m.symbol (symbols rest) (subst (λ (ts : List Symbol). HaveNoFault [] ts) parts h) f
    (past_limit (record {
      front = front;
      last = m;
      begins = record { tree = w; names = k; rest = rest; is = append_assoc front (m ∷ []) rest ∙ sym e };
      symbols_are = symbols_join front (m ∷ []);
      passed = p;
    })))

within_on : (done ms : List Written) (m : Written) → AreWithin (done ++ (m ∷ ms)) → AreWithin ((done ++ (m ∷ [])) ++ ms)
within_on done ms m h = subst AreWithin (sym (append_assoc done (m ∷ []) ms)) h

-- variables are numbered up to the greatest order
abbrev OrderWithin : Role → Type 0
OrderWithin (IsVariable n) = n ≤ greatest_order
OrderWithin _ = Unit {0}

abbrev OrdersWithin : List Written → Type 0
OrdersWithin ms = Each (λ m. OrderWithin m.role) ms

order_within : (r : Role) (t : Symbol) (all : List Written) → limit_passed r t all ≡ None → OrderWithin r
order_within (IsVariable n) t all e =
    ltb-false greatest_order n
    (not_above (nat_lt greatest_order n) (TooMany Order)
    (above greatest_variables (length (distinct (variables_in all))) (TooMany Variables) None) e).0
order_within NamesLeft t all e = tt
order_within NamesRight t all e = tt
order_within Binds t all e = tt
order_within IsNumber t all e = tt
order_within (Opens n) t all e = tt
order_within Plain t all e = tt

orders_within : (done ms : List Written) → AreWithin (done ++ ms) → OrdersWithin ms
orders_within done [] h = tt
orders_within done (m ∷ ms) h =
    (order_within m.role m.symbol (done ++ (m ∷ [])) (h done m ms refl), orders_within (done ++ (m ∷ [])) ms (within_on done ms m h))

parts : (xs ys : List Written) → OrdersWithin (xs ++ ys) → OrdersWithin xs × OrdersWithin ys
parts xs ys h = each_parts (λ m. OrderWithin m.role) xs ys h

more_orders : (n : ℕ) (vars : List Name) → OrdersWithin (more_variables n vars) → n ≤ greatest_order + 1
    → n + length vars ≤ greatest_order + 1
more_orders n [] h k = omega (arith, k)
more_orders n (var ∷ vars) h k =
    let here : n ≤ greatest_order = h.1.0 in
    let up : suc n ≤ greatest_order + 1 = omega (arith, here) in
    let r = more_orders (suc n) vars h.1.1 up in
    omega (arith, r)

bracket_orders : (vars : List Name) → OrdersWithin (in_brackets vars) → length vars ≤ greatest_order
bracket_orders [] h = omega arith
bracket_orders (var ∷ vars) h =
    let here : 1 ≤ greatest_order = h.1.0 in
    let up : 2 ≤ greatest_order + 1 = omega (arith, here) in
    let r = more_orders 2 vars h.1.1 up in
    omega (arith, r)

abbrev HasOrder : WrittenAccess → Type 0
HasOrder access = length access.vars ≤ greatest_order

mutual
  factor_orders : (n : ℕ) (f : Factor) → OrdersWithin (factor_of n f) → Each HasOrder (accesses_of_factor f)
  factor_orders n (Digits digits) h = tt
  factor_orders n (Read access) h = (bracket_orders access.vars h.1, tt)
  factor_orders n (Bracketed s) h = sum_orders (suc n) s (parts (sum_of (suc n) s) (plain Close ∷ []) h.1).0
  factor_orders n (Negated f) h = factor_orders (suc n) f h.1
  factor_orders n (Summed var s) h = sum_orders (suc n) s (parts (sum_of (suc n) s) (plain Close ∷ []) h.1.1.1.1).0

  product_orders : (n : ℕ) (p : Product) → OrdersWithin (product_of n p) → Each HasOrder (accesses_of_product p)
  product_orders n (Lone f) h = factor_orders n f h
  product_orders n (Multiplied p f) h =
      let q = parts (product_of n p) _ h in
      each_append HasOrder (accesses_of_product p) (accesses_of_factor f) (product_orders n p q.0) (factor_orders n f q.1.1)

  sum_orders : (n : ℕ) (s : Sum) → OrdersWithin (sum_of n s) → Each HasOrder (accesses_of_sum s)
  sum_orders n (Alone p) h = product_orders n p h
  sum_orders n (Added s p) h =
      let q = parts (sum_of n s) _ h in
      each_append HasOrder (accesses_of_sum s) (accesses_of_product p) (sum_orders n s q.0) (product_orders n p q.1.1)
  sum_orders n (Taken s p) h =
      let q = parts (sum_of n s) _ h in
      each_append HasOrder (accesses_of_sum s) (accesses_of_product p) (sum_orders n s q.0) (product_orders n p q.1.1)

tree_orders : (w : Tree) → OrdersWithin (sentence_of w) → Each HasOrder (accesses_of_tree w)
tree_orders w h =
    let whole = parts (left_of w.left ++ sum_of 0 w.right) (the_end ∷ []) h in
    let sides = parts (left_of w.left) (sum_of 0 w.right) whole.0 in
    let left = parts (access_of NamesLeft w.left.access) _ sides.0 in
    (bracket_orders w.left.access.vars left.0.1, sum_orders 0 w.right sides.1)

-- the variables that are written are those of the tree
variables_join : (ms ns : List Written) → variables_in (ms ++ ns) ≡ variables_in ms ++ variables_in ns
variables_join [] ns = refl
variables_join (m ∷ ms) ns = ap (λ (vars : List Name). variable_at m.role m.symbol ++ vars) (variables_join ms ns)
    ∙ sym (append_assoc (variable_at m.role m.symbol) (variables_in ms) (variables_in ns))

more_written : (n : ℕ) (vars : List Name) → variables_in (more_variables n vars) ≡ vars
more_written n [] = refl
more_written n (var ∷ vars) = ap (λ (more : List Name). var ∷ more) (more_written (suc n) vars)

bracket_written : (vars : List Name) → variables_in (in_brackets vars) ≡ vars
bracket_written [] = refl
bracket_written (var ∷ vars) = ap (λ (more : List Name). var ∷ more) (more_written 2 vars)

joined : (ms ns : List Written) (xs ys : List Name) → variables_in ms ≡ xs → variables_in ns ≡ ys → variables_in (ms ++ ns) ≡ xs ++ ys
joined ms ns xs ys e f = variables_join ms ns ∙ (λ i. e i ++ f i)

mutual
  factor_written : (n : ℕ) (f : Factor) → variables_in (factor_of n f) ≡ variables_of_factor f
  factor_written n (Digits digits) = refl
  factor_written n (Read access) = bracket_written access.vars
  factor_written n (Bracketed s) = variables_join (sum_of (suc n) s) (plain Close ∷ []) ∙ append_none (variables_in (sum_of (suc n) s))
      ∙ sum_written (suc n) s
  factor_written n (Negated f) = factor_written (suc n) f
  factor_written n (Summed var s) = ap (λ (vars : List Name). var ∷ vars)
      (variables_join (sum_of (suc n) s) (plain Close ∷ []) ∙ append_none (variables_in (sum_of (suc n) s)) ∙ sum_written (suc n) s)

  product_written : (n : ℕ) (p : Product) → variables_in (product_of n p) ≡ variables_of_product p
  product_written n (Lone f) = factor_written n f
  product_written n (Multiplied p f) =
      joined (product_of n p) _ (variables_of_product p) (variables_of_factor f) (product_written n p) (factor_written n f)

  sum_written : (n : ℕ) (s : Sum) → variables_in (sum_of n s) ≡ variables_of_sum s
  sum_written n (Alone p) = product_written n p
  sum_written n (Added s p) = joined (sum_of n s) _ (variables_of_sum s) (variables_of_product p) (sum_written n s) (product_written n p)
  sum_written n (Taken s p) = joined (sum_of n s) _ (variables_of_sum s) (variables_of_product p) (sum_written n s) (product_written n p)

left_written : (left : LeftSide) → variables_in (left_of left) ≡ left.access.vars
left_written left =
    variables_join (access_of NamesLeft left.access) _ ∙ append_none (variables_in (access_of NamesLeft left.access))
    ∙ bracket_written left.access.vars

pub sentence_written : (w : Tree) → variables_in (sentence_of w) ≡ variables_of_tree w
sentence_written w =
    variables_join (left_of w.left ++ sum_of 0 w.right) (the_end ∷ [])
    ∙ append_none (variables_in (left_of w.left ++ sum_of 0 w.right))
    ∙ variables_join (left_of w.left) (sum_of 0 w.right)
    ∙ (λ i. left_written w.left i ++ sum_written 0 w.right i)

-- there are not too many of them
abbrev FewVariables : List Written → Type 0
FewVariables ms = length (distinct (variables_in ms)) ≤ greatest_variables

few_still : (done : List Written) (m : Written) → variable_at m.role m.symbol ≡ [] → FewVariables done → FewVariables (done ++ (m ∷ []))
few_still done m e h =
    let same : variables_in (done ++ (m ∷ [])) ≡ variables_in done = variables_more done m
    ∙ ap (λ (vars : List Name). variables_in done ++ vars) e ∙ append_none (variables_in done) in
    subst (λ (vars : List Name). length (distinct vars) ≤ greatest_variables) (sym same) h

few_more : (done : List Written) (t : Symbol) (r : Role) → limit_passed r t (done ++ (record { symbol = t; role = r } ∷ [])) ≡ None
    → FewVariables done → FewVariables (done ++ (record { symbol = t; role = r } ∷ []))
few_more done t (IsVariable n) e h =
    let all = distinct (variables_in (done ++ (record { symbol = t; role = IsVariable n } ∷ []))) in
    let first = not_above (nat_lt greatest_order n) (TooMany Order) (above greatest_variables (length all) (TooMany Variables) None) e in
    ltb-false greatest_variables (length all) (not_above (nat_lt greatest_variables (length all)) (TooMany Variables) None first.1).0
few_more done t Binds e h =
    let all = distinct (variables_in (done ++ (record { symbol = t; role = Binds } ∷ []))) in
    ltb-false greatest_variables (length all) (not_above (nat_lt greatest_variables (length all)) (TooMany Variables) None e).0
few_more done t NamesLeft e h = few_still done (record { symbol = t; role = NamesLeft }) refl h
few_more done t NamesRight e h = few_still done (record { symbol = t; role = NamesRight }) refl h
few_more done t IsNumber e h = few_still done (record { symbol = t; role = IsNumber }) refl h
few_more done t (Opens n) e h = few_still done (record { symbol = t; role = Opens n }) refl h
few_more done t Plain e h = few_still done (record { symbol = t; role = Plain }) refl h

few_variables : (done ms : List Written) → AreWithin (done ++ ms) → FewVariables done → FewVariables (done ++ ms)
few_variables done [] h k = subst FewVariables (sym (append_none done)) k
few_variables done (m ∷ ms) h k =
    subst FewVariables (append_assoc done (m ∷ []) ms)
    (few_variables (done ++ (m ∷ [])) ms (within_on done ms m h) (few_more done m.symbol m.role (h done m ms refl) k))

-- nor too many accesses
abbrev FewAccesses : List Written → Type 0
FewAccesses ms = accesses_in ms ≤ greatest_accesses

accesses_join : (ms ns : List Written) → accesses_in (ms ++ ns) ≡ accesses_in ms + accesses_in ns
accesses_join [] ns = omega arith
accesses_join (m ∷ ms) ns = let h = accesses_join ms ns in omega (arith, h)

as_few : (done : List Written) (m : Written) → access_at m.role ≡ 0 → FewAccesses done → FewAccesses (done ++ (m ∷ []))
as_few done m e h = let more = accesses_join done (m ∷ []) in omega (arith, more, e, h)

one_access_more : (done : List Written) (t : Symbol) (r : Role)
    → limit_passed r t (done ++ (record { symbol = t; role = r } ∷ [])) ≡ None
    → FewAccesses done → FewAccesses (done ++ (record { symbol = t; role = r } ∷ []))
one_access_more done t NamesRight e h =
    let all = done ++ (record { symbol = t; role = NamesRight } ∷ []) in
    ltb-false greatest_accesses (accesses_in all)
    (not_above (nat_lt greatest_accesses (accesses_in all)) (TooMany Accesses)
    (above greatest_operands (operands_in all) (TooMany Operands) None) e).0
one_access_more done t NamesLeft e h = as_few done (record { symbol = t; role = NamesLeft }) refl h
one_access_more done t (IsVariable n) e h = as_few done (record { symbol = t; role = IsVariable n }) refl h
one_access_more done t Binds e h = as_few done (record { symbol = t; role = Binds }) refl h
one_access_more done t IsNumber e h = as_few done (record { symbol = t; role = IsNumber }) refl h
one_access_more done t (Opens n) e h = as_few done (record { symbol = t; role = Opens n }) refl h
one_access_more done t Plain e h = as_few done (record { symbol = t; role = Plain }) refl h

few_accesses : (done ms : List Written) → AreWithin (done ++ ms) → FewAccesses done → FewAccesses (done ++ ms)
few_accesses done [] h k = subst FewAccesses (sym (append_none done)) k
few_accesses done (m ∷ ms) h k =
    subst FewAccesses (append_assoc done (m ∷ []) ms)
    (few_accesses (done ++ (m ∷ [])) ms (within_on done ms m h) (one_access_more done m.symbol m.role (h done m ms refl) k))

more_reads : (n : ℕ) (vars : List Name) → accesses_in (more_variables n vars) ≡ 0
more_reads n [] = refl
more_reads n (var ∷ vars) = let h = more_reads (suc n) vars in omega (arith, h)

bracket_reads : (vars : List Name) → accesses_in (in_brackets vars) ≡ 0
bracket_reads [] = refl
bracket_reads (var ∷ vars) = let h = more_reads 2 vars in omega (arith, h)

mutual
  factor_counted : (n : ℕ) (f : Factor) → accesses_in (factor_of n f) ≡ reads_in_factor f
  factor_counted n (Digits digits) = refl
  factor_counted n (Read access) = let h = bracket_reads access.vars in omega (arith, h)
  factor_counted n (Bracketed s) =
      let j = accesses_join (sum_of (suc n) s) (plain Close ∷ []) in let h = sum_counted (suc n) s in omega (arith, j, h)
  factor_counted n (Negated f) = let h = factor_counted (suc n) f in omega (arith, h)
  factor_counted n (Summed var s) =
      let j = accesses_join (sum_of (suc n) s) (plain Close ∷ []) in let h = sum_counted (suc n) s in omega (arith, j, h)

  product_counted : (n : ℕ) (p : Product) → accesses_in (product_of n p) ≡ reads_in_product p
  product_counted n (Lone f) = factor_counted n f
  product_counted n (Multiplied p f) =
      let j = accesses_join (product_of n p) (plain Times ∷ factor_of n f) in
      let a = product_counted n p in let b = factor_counted n f in omega (arith, j, a, b)

  sum_counted : (n : ℕ) (s : Sum) → accesses_in (sum_of n s) ≡ reads_in_sum s
  sum_counted n (Alone p) = product_counted n p
  sum_counted n (Added s p) =
      let j = accesses_join (sum_of n s) (plain Plus ∷ product_of n p) in
      let a = sum_counted n s in let b = product_counted n p in omega (arith, j, a, b)
  sum_counted n (Taken s p) =
      let j = accesses_join (sum_of n s) (plain Minus ∷ product_of n p) in
      let a = sum_counted n s in let b = product_counted n p in omega (arith, j, a, b)

pub reads_are_few : (w : Tree) → HasNames w → HaveNoFault [] (symbols (sentence_of w)) → reads_in_sum w.right ≤ greatest_accesses
reads_are_few w k h =
    let none : FewAccesses [] = omega arith in
    let few : FewAccesses (sentence_of w) = few_accesses [] (sentence_of w) (sentence_within w k h) none in
    let whole = accesses_join (left_of w.left ++ sum_of 0 w.right) (the_end ∷ []) in
    let sides = accesses_join (left_of w.left) (sum_of 0 w.right) in
    let right = sum_counted 0 w.right in
    omega (arith, few, whole, sides, right)

-- the accesses of the expression are counted
mutual
  factor_reads : (f : Factor) → reads_in_factor f ≡ length (accesses_of_factor f)
  factor_reads (Digits digits) = refl
  factor_reads (Read access) = refl
  factor_reads (Bracketed s) = sum_reads s
  factor_reads (Negated f) = factor_reads f
  factor_reads (Summed var s) = sum_reads s

  product_reads : (p : Product) → reads_in_product p ≡ length (accesses_of_product p)
  product_reads (Lone f) = factor_reads f
  product_reads (Multiplied p f) = (λ i. product_reads p i + factor_reads f i)
      ∙ sym (length-append (accesses_of_product p) (accesses_of_factor f))

  pub sum_reads : (s : Sum) → reads_in_sum s ≡ length (accesses_of_sum s)
  sum_reads (Alone p) = product_reads p
  sum_reads (Added s p) = (λ i. sum_reads s i + product_reads p i) ∙ sym (length-append (accesses_of_sum s) (accesses_of_product p))
  sum_reads (Taken s p) = (λ i. sum_reads s i + product_reads p i) ∙ sym (length-append (accesses_of_sum s) (accesses_of_product p))

mutual
  factor_under : (b n m : ℕ) (f : Factor) → n + reads_in_factor f ≤ b → m + sums_in_factor f ≤ b → AccessesUnder b (factor_expr n m f)
  factor_under b n m (Digits digits) h k = tt
  factor_under b n m (Read access) h k = omega (arith, h)
  factor_under b n m (Bracketed s) h k = sum_under b n m s h k
  factor_under b n m (Negated f) h k = rw (accesses_under_neg b (factor_expr n m f)) (factor_under b n m f h k)
  factor_under b n m (Summed var s) h k = omega (arith, k)

  product_under : (b n m : ℕ) (p : Product) → n + reads_in_product p ≤ b → m + sums_in_product p ≤ b
      → AccessesUnder b (product_expr n m p)
  product_under b n m (Lone f) h k = factor_under b n m f h k
  product_under b n m (Multiplied p f) h k =
      rw (accesses_under_binary b op.Mul (product_expr n m p) (factor_expr (n + reads_in_product p) (m + sums_in_product p) f)) (
        product_under b n m p (omega (arith, h)) (omega (arith, k)),
        factor_under b (n + reads_in_product p) (m + sums_in_product p) f (omega (arith, h)) (omega (arith, k)),
      )

  sum_under : (b n m : ℕ) (s : Sum) → n + reads_in_sum s ≤ b → m + sums_in_sum s ≤ b → AccessesUnder b (sum_expr n m s)
  sum_under b n m (Alone p) h k = product_under b n m p h k
  sum_under b n m (Added s p) h k =
      rw (accesses_under_binary b op.Add (sum_expr n m s) (product_expr (n + reads_in_sum s) (m + sums_in_sum s) p)) (
        sum_under b n m s (omega (arith, h)) (omega (arith, k)),
        product_under b (n + reads_in_sum s) (m + sums_in_sum s) p (omega (arith, h)) (omega (arith, k)),
      )
  sum_under b n m (Taken s p) h k =
      rw (accesses_under_binary b op.Sub (sum_expr n m s) (product_expr (n + reads_in_sum s) (m + sums_in_sum s) p)) (
        sum_under b n m s (omega (arith, h)) (omega (arith, k)),
        product_under b (n + reads_in_sum s) (m + sums_in_sum s) p (omega (arith, h)) (omega (arith, k)),
      )

-- the nested sums are counted
count_join : (xs ys : List NestedSum) (n m : ℕ) → length xs ≡ n → length ys ≡ m → length (xs ++ ys) ≡ n + m
count_join xs ys n m e f = length-append xs ys ∙ (λ i. e i + f i)

mutual
  factor_sums : (vars : List Name) (n m : ℕ) (f : Factor) → length (sums_of_factor vars n m f) ≡ sums_in_factor f
  factor_sums vars n m (Digits digits) = refl
  factor_sums vars n m (Read access) = refl
  factor_sums vars n m (Bracketed s) = sum_sums vars n m s
  factor_sums vars n m (Negated f) = factor_sums vars n m f
  factor_sums vars n m (Summed var s) = count_join (sums_of_sum vars n m s) _ (sums_in_sum s) 1 (sum_sums vars n m s) refl

  product_sums : (vars : List Name) (n m : ℕ) (p : Product) → length (sums_of_product vars n m p) ≡ sums_in_product p
  product_sums vars n m (Lone f) = factor_sums vars n m f
  product_sums vars n m (Multiplied p f) =
      count_join (sums_of_product vars n m p) _ (sums_in_product p) (sums_in_factor f) (product_sums vars n m p)
      (factor_sums vars (n + reads_in_product p) (m + sums_in_product p) f)

  sum_sums : (vars : List Name) (n m : ℕ) (s : Sum) → length (sums_of_sum vars n m s) ≡ sums_in_sum s
  sum_sums vars n m (Alone p) = product_sums vars n m p
  sum_sums vars n m (Added s p) =
      count_join (sums_of_sum vars n m s) _ (sums_in_sum s) (sums_in_product p) (sum_sums vars n m s)
      (product_sums vars (n + reads_in_sum s) (m + sums_in_sum s) p)
  sum_sums vars n m (Taken s p) =
      count_join (sums_of_sum vars n m s) _ (sums_in_sum s) (sums_in_product p) (sum_sums vars n m s)
      (product_sums vars (n + reads_in_sum s) (m + sums_in_sum s) p)

-- and each has a variable that stands in its list, and inside it accesses and earlier ones
sums_join : (vars n m : ℕ) (xs ys : List NestedSum) → length xs ≡ m → AreSums vars n xs → AreSums vars (n + m) ys
    → AreSums vars n (xs ++ ys)
sums_join vars n m [] ys e h k = subst (λ (x : ℕ). AreSums vars x ys) (let z : n + m ≡ n = omega (arith, e) in z) k
sums_join vars n m (x ∷ xs) ys e h k = (
  h.0,
  h.1,
  sums_join vars (n + 1) (length xs) xs ys refl h.2
      (subst (λ (x : ℕ). AreSums vars x ys) (let z : n + m ≡ (n + 1) + length xs = omega (arith, e) in z) k),
)

front_within : (xs ys others : List Name) → Within (xs ++ ys) others → Within xs others
front_within xs ys others h name s = h name (stands_front name xs ys s)

back_within : (xs ys others : List Name) → Within (xs ++ ys) others → Within ys others
back_within xs ys others h name s = h name (stands_back name xs ys s)

rest_within : (x : Name) (xs others : List Name) → Within (x ∷ xs) others → Within xs others
rest_within x xs others h name s = h name (stands_later name x xs s)

mutual
  factor_are_sums : (vars : List Name) (n m : ℕ) (f : Factor) → Within (variables_of_factor f) vars → n + reads_in_factor f ≤ m
      → AreSums (length vars) m (sums_of_factor vars n m f)
  factor_are_sums vars n m (Digits digits) v h = tt
  factor_are_sums vars n m (Read access) v h = tt
  factor_are_sums vars n m (Bracketed s) v h = sum_are_sums vars n m s v h
  factor_are_sums vars n m (Negated f) v h = factor_are_sums vars n m f v h
  factor_are_sums vars n m (Summed var s) v h =
      sums_join (length vars) m (sums_in_sum s) (sums_of_sum vars n m s) (nested_sum vars var (sum_expr n m s) ∷ [])
      (sum_sums vars n m s) (sum_are_sums vars n m s (rest_within var (variables_of_sum s) vars v) h) (
        v var (stands_here var var (variables_of_sum s) (same_self var)),
        sum_under (m + sums_in_sum s) n m s (omega (arith, h)) (omega arith),
        tt,
      )

  product_are_sums : (vars : List Name) (n m : ℕ) (p : Product) → Within (variables_of_product p) vars → n + reads_in_product p ≤ m
      → AreSums (length vars) m (sums_of_product vars n m p)
  product_are_sums vars n m (Lone f) v h = factor_are_sums vars n m f v h
  product_are_sums vars n m (Multiplied p f) v h =
      sums_join (length vars) m (sums_in_product p) (sums_of_product vars n m p) _ (product_sums vars n m p)
      (product_are_sums vars n m p (front_within (variables_of_product p) (variables_of_factor f) vars v) (omega (arith, h)))
      (factor_are_sums vars (n + reads_in_product p) (m + sums_in_product p) f
      (back_within (variables_of_product p) (variables_of_factor f) vars v) (omega (arith, h)))

  sum_are_sums : (vars : List Name) (n m : ℕ) (s : Sum) → Within (variables_of_sum s) vars → n + reads_in_sum s ≤ m
      → AreSums (length vars) m (sums_of_sum vars n m s)
  sum_are_sums vars n m (Alone p) v h = product_are_sums vars n m p v h
  sum_are_sums vars n m (Added s p) v h =
      sums_join (length vars) m (sums_in_sum s) (sums_of_sum vars n m s) _ (sum_sums vars n m s)
      (sum_are_sums vars n m s (front_within (variables_of_sum s) (variables_of_product p) vars v) (omega (arith, h)))
      (product_are_sums vars (n + reads_in_sum s) (m + sums_in_sum s) p
      (back_within (variables_of_sum s) (variables_of_product p) vars v) (omega (arith, h)))
  sum_are_sums vars n m (Taken s p) v h =
      sums_join (length vars) m (sums_in_sum s) (sums_of_sum vars n m s) _ (sum_sums vars n m s)
      (sum_are_sums vars n m s (front_within (variables_of_sum s) (variables_of_product p) vars v) (omega (arith, h)))
      (product_are_sums vars (n + reads_in_sum s) (m + sums_in_sum s) p
      (back_within (variables_of_sum s) (variables_of_product p) vars v) (omega (arith, h)))

-- the variables of accesses are among those of the tree
abbrev HasVariables : List Name → WrittenAccess → Type 0
HasVariables vars access = Within access.vars vars

mutual
  factor_variables : (vars : List Name) (f : Factor) → Within (variables_of_factor f) vars → Each (HasVariables vars) (accesses_of_factor f)
  factor_variables vars (Digits digits) h = tt
  factor_variables vars (Read access) h = (h, tt)
  factor_variables vars (Bracketed s) h = sum_variables vars s h
  factor_variables vars (Negated f) h = factor_variables vars f h
  factor_variables vars (Summed var s) h = sum_variables vars s (rest_within var (variables_of_sum s) vars h)

  product_variables : (vars : List Name) (p : Product) → Within (variables_of_product p) vars
      → Each (HasVariables vars) (accesses_of_product p)
  product_variables vars (Lone f) h = factor_variables vars f h
  product_variables vars (Multiplied p f) h =
      each_append (HasVariables vars) (accesses_of_product p) (accesses_of_factor f)
      (product_variables vars p (front_within (variables_of_product p) (variables_of_factor f) vars h))
      (factor_variables vars f (back_within (variables_of_product p) (variables_of_factor f) vars h))

  sum_variables : (vars : List Name) (s : Sum) → Within (variables_of_sum s) vars → Each (HasVariables vars) (accesses_of_sum s)
  sum_variables vars (Alone p) h = product_variables vars p h
  sum_variables vars (Added s p) h =
      each_append (HasVariables vars) (accesses_of_sum s) (accesses_of_product p)
      (sum_variables vars s (front_within (variables_of_sum s) (variables_of_product p) vars h))
      (product_variables vars p (back_within (variables_of_sum s) (variables_of_product p) vars h))
  sum_variables vars (Taken s p) h =
      each_append (HasVariables vars) (accesses_of_sum s) (accesses_of_product p)
      (sum_variables vars s (front_within (variables_of_sum s) (variables_of_product p) vars h))
      (product_variables vars p (back_within (variables_of_sum s) (variables_of_product p) vars h))

tree_variables : (w : Tree) (vars : List Name) → Within (variables_of_tree w) vars → Each (HasVariables vars) (accesses_of_tree w)
tree_variables w vars h = (
  front_within w.left.access.vars (variables_of_sum w.right) vars h,
  sum_variables vars w.right (back_within w.left.access.vars (variables_of_sum w.right) vars h),
)

pub tree_is_numbered : (w : Tree) → HasNames w → HaveNoFault [] (symbols (sentence_of w)) → IsNumberedWithSums (statement_of_tree w)
tree_is_numbered w k h =
    let within = sentence_within w k h in
    let all = accesses_of_tree w in
    let tensors = distinct (map name_of all) in
    let vars = distinct (variables_of_tree w) in
    let count = reads_in_sum w.right in
    let stands : Within (variables_of_tree w) vars = λ name s. stands_distinct name (variables_of_tree w) s in
    let orders = tree_orders w (orders_within [] (sentence_of w) within) in
    let stand = numbered_are_accesses tensors vars all (λ name s. stands_distinct name (map name_of all) s)
    (tree_variables w vars stands) orders in
    let none : FewVariables [] = omega arith in
    let accesses : length (map (numbered tensors vars) (accesses_of_sum w.right)) ≡ count =
    length-map (accesses_of_sum w.right) (numbered tensors vars) ∙ sym (sum_reads w.right) in
    let sums = sum_sums vars 0 count w.right in
    record {
      left = stand.0;
      right = stand.1;
      sums = subst (λ (n : ℕ). AreSums (length vars) n (sums_of_sum vars 0 count w.right)) (sym accesses)
          (sum_are_sums vars 0 count w.right (back_within w.left.access.vars (variables_of_sum w.right) vars stands) (omega arith));
      expr = sum_under (length (map (numbered tensors vars) (accesses_of_sum w.right)) + length (sums_of_sum vars 0 count w.right)) 0
          count w.right (omega (arith, accesses, sums)) (omega (arith, accesses, sums));
      variables = subst (λ (names : List Name). length (distinct names) ≤ greatest_variables) (sentence_written w)
          (few_variables [] (sentence_of w) within none);
    }

-- the statement of a text has numbers that stand in its lists
pub notation_is_numbered : (text : List ℕ) (s : Statement) → IsNotationOf text s → IsNumberedWithSums s
notation_is_numbered text s h =
    subst IsNumberedWithSums (sym h.is)
    (tree_is_numbered h.tree h.is_tree.names (subst (λ (ts : List Symbol). HaveNoFault [] ts) h.is_tree.is h.is_tree.within))
