-- No minus stands in a statement that is multiplied out where none stood.
use Rattle.std.specs.Prelude.{◌≡◌, ℕ, ◌+◌, nat_eq, Bool, true, false, ◌||◌, ◌&&◌}
use Rattle.std.specs.Prelude.{cond, if◌then◌else◌, List, [], ◌∷◌, ◌++◌, length, map, refl}
use Rattle.std.specs.List.{list_all, list_any}
use Rattle.std.proofs.Common.{◌∙◌, ap}
use Rattle.std.proofs.lemmas.List.Folds.{list_any-append}
use Rattle.lists.specs.Each.{Each}
use Rattle.lists.proofs.Each.{each_append}
use Rattle.index_notation.specs.Operators.{is_minus}
use Rattle.index_notation.specs.Statement.{numbers_from}
use Rattle.index_notation.specs.declared.operator.Operator.{Operator}
use Rattle.index_notation.specs.declared.operator.Operator.TheVariants as op
use Rattle.index_notation.specs.declared.syntax.Expr.{Expr, Num, Access as AccessOf, Binary, Neg, Binary', Neg', Row_of-Expr, end_of-Expr}
use Rattle.index_notation.specs.declared.syntax.Expr.{more_of-Expr}
use Rattle.index_notation.specs.declared.syntax.NestedSum.{NestedSum}
use Rattle.index_notation.specs.declared.syntax.Statement.{Statement}
use Rattle.expr_terms.specs.Minus.{has_minus, has_minus_in}
use Rattle.expr_terms.specs.Nested.{flat}
use Rattle.expr_terms.specs.Terms.{terms, terms_in, terms_of_sides, own_variables}
use Rattle.expr_terms.specs.declared.term.Term.{Term}
use Rattle.expr_terms.proofs.Meanings.{has_minus_binary, neither}
use Rattle.nested_sums.specs.Inner.{is_inner}
use Rattle.nested_sums.specs.Multiplied.{cut_piece, cut_pieces, pieces_of_terms, term_pieces}
use Rattle.nested_sums.specs.Multiplied.{unit_sum, kept_sums, missing, lacking, with_units}
use Rattle.nested_sums.specs.Multiplied.{added, sum_of_terms, final_term, unit_leaf, all_sums, multiplied_out, multiplied, KeepsNoMinus}
use Rattle.nested_sums.specs.Pieces.{Piece, Opened, whole_piece, summed_piece, differ, piece_product, piece_products, pieces_of_sides}
use Rattle.nested_sums.specs.Pieces.{pieces_at, is_whole_in, pieces, pieces_in, opened_sum, opened_sums}
use Rattle.nested_sums.proofs.AddedPieces.{each_map}
use Rattle.nested_sums.proofs.StatementPieces.{all_opened_sums}

-- no minus stands in a piece, nor is it negated
pub record IsPlain (piece : Piece) : Type 0 where
  pub sign : piece.negated ≡ false
  pub minus : has_minus piece.factors ≡ false

abbrev ArePlain : Opened → Type 0
ArePlain o = Each IsPlain o.pieces

-- nor in a term
pub record IsPlainTerm (t : Term) : Type 0 where
  pub sign : t.negated ≡ false
  pub minus : has_minus t.expr ≡ false

plain_product : (e f : Expr) → has_minus e ≡ false → has_minus f ≡ false → has_minus (Binary op.Mul e f) ≡ false
plain_product e f h g = has_minus_binary op.Mul e f ∙ ap (λ b. b || has_minus f) h ∙ g

plain_sum : (e f : Expr) → has_minus e ≡ false → has_minus f ≡ false → has_minus (Binary op.Add e f) ≡ false
plain_sum e f h g = has_minus_binary op.Add e f ∙ ap (λ b. b || has_minus f) h ∙ g

product_plain : (p q : Piece) → IsPlain p → IsPlain q → IsPlain (piece_product p q)
product_plain p q h g = record {
  sign = ap (λ b. differ b q.negated) h.sign ∙ g.sign;
  minus = plain_product p.factors q.factors h.minus g.minus;
}

products_plain : (ps qs : List Piece) → Each IsPlain ps → Each IsPlain qs → Each IsPlain (piece_products ps qs)
products_plain [] qs h g = tt
products_plain (p ∷ ps) qs h g =
    each_append IsPlain (map (piece_product p) qs) (piece_products ps qs)
    (each_map IsPlain IsPlain (piece_product p) (λ q k. product_plain p q h.0 k) qs g) (products_plain ps qs h.1 g)

sides_plain : (o : Operator) (ps qs : List Piece) → is_minus o ≡ false → Each IsPlain ps → Each IsPlain qs
    → Each IsPlain (pieces_of_sides o ps qs)
sides_plain op.Add ps qs added_only h g = each_append IsPlain ps qs h g
sides_plain op.Sub ps qs added_only h g = cc
sides_plain op.Mul ps qs added_only h g = products_plain ps qs h g

at_plain : (os : List Opened) (k : ℕ) → Each ArePlain os → Each IsPlain (pieces_at os k)
at_plain [] k each = (record { sign = refl; minus = refl }, tt)
at_plain (o ∷ os) k each = by (nat_eq o.leaf k) (at_plain os k each.1)
  where
    by : (b : Bool) → Each IsPlain (pieces_at os k) → Each IsPlain (cond b o.pieces (pieces_at os k))
    by true rest = each.0
    by false rest = rest

two : (b : Bool) (e : Expr) (ps : List Piece) → has_minus e ≡ false → Each IsPlain ps → Each IsPlain (cond b (whole_piece e ∷ []) ps)
two true e ps none parts = (record { sign = refl; minus = none }, tt)
two false e ps none parts = parts

module _ (opened : List Opened) (each : Each ArePlain opened) where
  mutual
    pieces_plain : (e : Expr) → has_minus e ≡ false → Each IsPlain (pieces opened e)
    pieces_plain (Num k) none = (record { sign = refl; minus = refl }, tt)
    pieces_plain (AccessOf k) none = at_plain opened k each
    pieces_plain (Binary' o p e q f) none =
        let apart = neither (is_minus o) (has_minus_in e || has_minus_in f) none in
        let parts = neither (has_minus_in e) (has_minus_in f) apart.1 in
        two (is_whole_in opened e && is_whole_in opened f) (Binary' o p e q f)
        (pieces_of_sides o (pieces_in opened e) (pieces_in opened f)) none
        (sides_plain o (pieces_in opened e) (pieces_in opened f) apart.0 (pieces_in_plain e parts.0) (pieces_in_plain f parts.1))
    pieces_plain (Neg' p e) none = cc

    pieces_in_plain : {m : _} (e : Row_of-Expr m) → has_minus_in e ≡ false → Each IsPlain (pieces_in opened e)
    pieces_in_plain end_of-Expr none = tt
    pieces_in_plain (more_of-Expr e rest) none = pieces_plain e none

term_sides_plain : (o : Operator) (whole : Expr) (ts us : List Term) → is_minus o ≡ false → has_minus whole ≡ false → Each IsPlainTerm ts
    → Each IsPlainTerm us → Each IsPlainTerm (terms_of_sides o whole ts us)
term_sides_plain op.Add whole ts us added_only none h g = each_append IsPlainTerm ts us h g
term_sides_plain op.Sub whole ts us added_only none h g = cc
term_sides_plain op.Mul whole ts us added_only none h g = (record { sign = refl; minus = none }, tt)

mutual
  terms_plain : (e : Expr) → has_minus e ≡ false → Each IsPlainTerm (terms e)
  terms_plain (Num k) none = (record { sign = refl; minus = refl }, tt)
  terms_plain (AccessOf k) none = (record { sign = refl; minus = refl }, tt)
  terms_plain (Binary' o p e q f) none =
      let apart = neither (is_minus o) (has_minus_in e || has_minus_in f) none in
      let parts = neither (has_minus_in e) (has_minus_in f) apart.1 in
      term_sides_plain o (Binary' o p e q f) (terms_in e) (terms_in f) apart.0 none (terms_in_plain e parts.0) (terms_in_plain f parts.1)
  terms_plain (Neg' p e) none = cc

  terms_in_plain : {m : _} (e : Row_of-Expr m) → has_minus_in e ≡ false → Each IsPlainTerm (terms_in e)
  terms_in_plain end_of-Expr none = tt
  terms_in_plain (more_of-Expr e rest) none = terms_plain e none

abbrev NoneInside : List NestedSum → Bool
NoneInside sums = list_any (λ (sum : NestedSum). has_minus sum.inside) sums

opened_plain : (inner : ℕ → Bool) (count n : ℕ) (opened : List Opened) (sums : List NestedSum) → NoneInside sums ≡ false
    → Each ArePlain opened → Each ArePlain (opened_sums inner count n opened sums)
opened_plain inner count n opened [] none each = each
opened_plain inner count n opened (sum ∷ sums) none each =
    let apart = neither (has_minus sum.inside) (NoneInside sums) none in
    opened_plain inner count (n + 1) (cond (inner n) opened (opened ++ (opened_sum opened (count + n) sum ∷ []))) sums apart.1
    (by (inner n) apart.0)
  where
    by : (b : Bool) → has_minus sum.inside ≡ false → Each ArePlain (cond b opened (opened ++ (opened_sum opened (count + n) sum ∷ [])))
    by true inside = each
    by false inside = each_append ArePlain opened (opened_sum opened (count + n) sum ∷ []) each (
      each_map IsPlain IsPlain (summed_piece sum.var) (λ p h. record { sign = h.sign; minus = h.minus }) (pieces opened sum.inside)
          (pieces_plain opened each sum.inside inside),
      tt,
    )

cut_plain : (own : List ℕ) (b : Bool) → b ≡ false → (ps : List Piece) → Each IsPlain ps → Each IsPlain (cut_pieces b own ps)
cut_plain own b sign [] h = tt
cut_plain own b sign (p ∷ ps) h =
    each_append IsPlain (map (cut_piece b own p) (terms p.factors)) (cut_pieces b own ps)
    (each_map IsPlainTerm IsPlain (cut_piece b own p) (λ t k. record {
      sign = ap (λ c. differ (differ c p.negated) t.negated) sign ∙ ap (λ c. differ c t.negated) h.0.sign ∙ k.sign;
      minus = k.minus;
    }) (terms p.factors) (terms_plain p.factors h.0.minus))
    (cut_plain own b sign ps h.1)

of_terms_plain : (s : Statement) (opened : List Opened) → Each ArePlain opened → (ts : List Term) → Each IsPlainTerm ts
    → Each IsPlain (pieces_of_terms s opened ts)
of_terms_plain s opened each [] h = tt
of_terms_plain s opened each (t ∷ ts) h =
    each_append IsPlain (cut_pieces t.negated (own_variables (flat s) t) (pieces opened t.expr)) (pieces_of_terms s opened ts)
    (cut_plain (own_variables (flat s) t) t.negated h.0.sign (pieces opened t.expr) (pieces_plain opened each t.expr h.0.minus))
    (of_terms_plain s opened each ts h.1)

units_plain : (unit : ℕ → ℕ) (e : Expr) (vs : List ℕ) → has_minus e ≡ false → has_minus (with_units unit e vs) ≡ false
units_plain unit e [] none = none
units_plain unit e (v ∷ vs) none = plain_product (with_units unit e vs) (AccessOf (unit v)) (units_plain unit e vs none) refl

added_plain : (e : Expr) (ts : List Term) → has_minus e ≡ false → Each IsPlainTerm ts → has_minus (added e ts) ≡ false
added_plain e [] none h = none
added_plain e (t ∷ ts) none h =
    added_plain (Binary (if t.negated then op.Sub else op.Add) e t.expr) ts
    (ap (λ b. has_minus (Binary (if b then op.Sub else op.Add) e t.expr)) h.0.sign ∙ plain_sum e t.expr none h.0.minus) h.1

sum_plain : (ts : List Term) → Each IsPlainTerm ts → has_minus (sum_of_terms ts) ≡ false
sum_plain [] h = refl
sum_plain (t ∷ ts) h =
    added_plain (if t.negated then Neg t.expr else t.expr) ts
    (ap (λ b. has_minus (if b then Neg t.expr else t.expr)) h.0.sign ∙ h.0.minus) h.1

kept_plain : (inner : ℕ → Bool) (one n : ℕ) (sums : List NestedSum) → NoneInside sums ≡ false
    → NoneInside (kept_sums inner one n sums) ≡ false
kept_plain inner one n [] none = refl
kept_plain inner one n (sum ∷ sums) none =
    let apart = neither (has_minus sum.inside) (NoneInside sums) none in
    ap (λ b. b || NoneInside (kept_sums inner one (n + 1) sums)) (by (inner n) apart.0) ∙ kept_plain inner one (n + 1) sums apart.1
  where
    by : (b : Bool) → has_minus sum.inside ≡ false → has_minus (cond b sum (unit_sum one sum.var)).inside ≡ false
    by true h = h
    by false h = refl

units_none : (one : ℕ) (vs : List ℕ) → NoneInside (map (unit_sum one) vs) ≡ false
units_none one [] = refl
units_none one (v ∷ vs) = units_none one vs

out_plain : (one : ℕ) (s : Statement) (order : List ℕ) → KeepsNoMinus s (multiplied_out one s order)
out_plain one s order none =
    let apart = neither (has_minus s.expr) (NoneInside s.sums) none in
    let kept : List NestedSum = kept_sums (is_inner s order) one 0 s.sums in
    let vs : List ℕ = missing (length s.vars) (flat s).accesses one kept (term_pieces s order) in
    let sums : List NestedSum = all_sums one s order in
    ap (λ b. b || NoneInside sums) (sum_plain (map (final_term s (unit_leaf one s sums)) (term_pieces s order))
    (each_map IsPlain IsPlainTerm (final_term s (unit_leaf one s sums)) (λ p h. record {
      sign = h.sign;
      minus = units_plain (unit_leaf one s sums) p.factors (lacking (flat s).accesses p) h.minus;
    }) (term_pieces s order)
    (of_terms_plain s (all_opened_sums s order)
    (opened_plain (is_inner s order) (length s.accesses) 0 [] s.sums apart.1 tt) (terms s.expr) (terms_plain s.expr apart.0))))
    ∙ list_any-append (λ (sum : NestedSum). has_minus sum.inside) kept (map (unit_sum one) vs)
    ∙ ap (λ b. b || NoneInside (map (unit_sum one) vs)) (kept_plain (is_inner s order) one 0 s.sums apart.1)
    ∙ units_none one vs

pub keeps_no_minus : (one : ℕ) (s : Statement) (order : List ℕ) → KeepsNoMinus s (multiplied one s order)
keeps_no_minus one s order = by (list_all (is_inner s order) (numbers_from 0 (length s.sums)))
  where
    by : (b : Bool) → KeepsNoMinus s (if b then s else multiplied_out one s order)
    by true = λ none. none
    by false = out_plain one s order
