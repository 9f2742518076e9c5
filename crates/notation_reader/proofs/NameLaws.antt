-- No access of a sentence that is read is named `sum`.
use Rattle.std.specs.Prelude.{◌≡◌, ℕ, suc, Bool, true, false, Some, List, [], ◌∷◌, ◌++◌, refl}
use Rattle.lists.specs.Each.{Each}
use Rattle.index_notation.specs.declared.syntax.Name.{Name}
use Rattle.index_notation.specs.declared.token.Mark.TheVariants.{Close}
use Rattle.index_notation.specs.declared.token.Token.TheVariants.{Name as NameToken}
use Rattle.notation_grammar.specs.declared.symbol.Symbol.{Symbol}
use Rattle.notation_grammar.specs.declared.symbol.Symbol.TheVariants.{Lexeme}
use Rattle.notation_grammar.specs.Grammar.{Factor, Digits, Read, Bracketed, Negated, Summed, Product, Lone, Multiplied, Sum, Alone, Added}
use Rattle.notation_grammar.specs.Grammar.{Taken, Tree, Role, NamesLeft, NamesRight, Written, plain, the_end, is_sum}
use Rattle.notation_grammar.specs.Grammar.{FactorNames, ProductNames, SumNames, HasNames, factor_of, product_of, sum_of}
use Rattle.notation_grammar.specs.Grammar.{left_of, sentence_of}
use Rattle.notation_reader.specs.Machine.{FactorPlace, State, Start, WantsFactor, left_named, role_of_named, role_of_factor, step, role}
use Rattle.notation_reader.proofs.MachineLaws.{nothing_leads}

-- a symbol in this role names no access, or one whose name isn't `sum`
abbrev pub IsNamed : Role → Symbol → Type 0
IsNamed NamesLeft (Lexeme (NameToken name)) = is_sum name ≡ false
IsNamed NamesRight (Lexeme (NameToken name)) = is_sum name ≡ false
IsNamed _ _ = Unit {0}

abbrev pub AreNamed : List Written → Type 0
AreNamed ms = Each (λ m. IsNamed m.role m.symbol) ms

left_is_named : (name : Name) (b : Bool) (next : State) → left_named name b ≡ Some next → b ≡ false
left_is_named name true next e = nothing_leads next e
left_is_named name false next e = refl

start_is_named : (t : Symbol) (next : State) → step Start t ≡ Some next → IsNamed NamesLeft t
start_is_named (Lexeme (NameToken name)) next e = left_is_named name (is_sum name) next e
start_is_named _ next e = tt

right_is_named : (name : Name) (b : Bool) → is_sum name ≡ b → IsNamed (role_of_named b) (Lexeme (NameToken name))
right_is_named name true e = tt
right_is_named name false e = e

factor_is_named : (place : FactorPlace) (t : Symbol) → IsNamed (role_of_factor place t) t
factor_is_named place (Lexeme (NameToken name)) = right_is_named name (is_sum name) refl
factor_is_named place _ = tt

pub step_is_named : (s : State) (t : Symbol) (next : State) → step s t ≡ Some next → IsNamed (role s t) t
step_is_named Start t next e = start_is_named t next e
step_is_named (WantsFactor place) t next e = factor_is_named place t
step_is_named _ t next e = tt

-- two lists that are one after the other
pub each_parts : {A : Type 0} (P : A → Type 0) (xs ys : List A) → Each P (xs ++ ys) → Each P xs × Each P ys
each_parts P [] ys h = (tt, h)
each_parts P (x ∷ xs) ys h = let p = each_parts P xs ys h.1 in ((h.0, p.0), p.1)

parts : (xs ys : List Written) → AreNamed (xs ++ ys) → AreNamed xs × AreNamed ys
parts xs ys h = each_parts (λ m. IsNamed m.role m.symbol) xs ys h

mutual
  factor_names : (n : ℕ) (f : Factor) → AreNamed (factor_of n f) → FactorNames f
  factor_names n (Digits digits) h = tt
  factor_names n (Read access) h = h.0
  factor_names n (Bracketed s) h = sum_names (suc n) s (parts (sum_of (suc n) s) (plain Close ∷ []) h.1).0
  factor_names n (Negated f) h = factor_names (suc n) f h.1
  factor_names n (Summed var s) h = sum_names (suc n) s (parts (sum_of (suc n) s) (plain Close ∷ []) h.1.1.1.1).0

  product_names : (n : ℕ) (p : Product) → AreNamed (product_of n p) → ProductNames p
  product_names n (Lone f) h = factor_names n f h
  product_names n (Multiplied p f) h = let q = parts (product_of n p) _ h in (product_names n p q.0, factor_names n f q.1.1)

  sum_names : (n : ℕ) (s : Sum) → AreNamed (sum_of n s) → SumNames s
  sum_names n (Alone p) h = product_names n p h
  sum_names n (Added s p) h = let q = parts (sum_of n s) _ h in (sum_names n s q.0, product_names n p q.1.1)
  sum_names n (Taken s p) h = let q = parts (sum_of n s) _ h in (sum_names n s q.0, product_names n p q.1.1)

pub tree_names : (w : Tree) → AreNamed (sentence_of w) → HasNames w
tree_names w h =
    let whole = parts (left_of w.left ++ sum_of 0 w.right) (the_end ∷ []) h in
    let sides = parts (left_of w.left) (sum_of 0 w.right) whole.0 in
    record { left = sides.0.0; right = sum_names 0 w.right sides.1 }
