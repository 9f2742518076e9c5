-- Each step adds to the accesses what its symbol says.
use Rattle.std.specs.Prelude.{◌≡◌, Bool, true, false, Option, Some, List, [], ◌∷◌, ◌++◌, refl}
use Rattle.std.proofs.Common.{sym, ◌∙◌, ap, append_assoc}
use Rattle.index_notation.specs.declared.syntax.Name.{Name}
use Rattle.index_notation.specs.declared.token.WrittenAccess.{WrittenAccess}
use Rattle.index_notation.specs.declared.token.Mark.TheVariants.{Equals, PlusEquals, Plus, Minus, Times, Open, Close, Comma}
use Rattle.index_notation.specs.declared.token.Token.TheVariants.{Name as NameToken, Number as NumberToken, Mark as MarkToken}
use Rattle.notation_grammar.specs.declared.symbol.Symbol.{Symbol}
use Rattle.notation_grammar.specs.declared.symbol.Symbol.TheVariants.{Lexeme, End}
use Rattle.notation_grammar.specs.Grammar.{Factor, Digits, Read, Bracketed, Negated, Summed, Product, is_sum}
use Rattle.notation_grammar.specs.TreeStatement.{accesses_of_factor, accesses_of_product, accesses_of_sum}
use Rattle.notation_reader.specs.Machine.{SumPlace, OnTheRight, InBrackets, InSum, ProductPlace, First, BehindPlus, BehindMinus}
use Rattle.notation_reader.specs.Machine.{FactorPlace, FirstFactor, BehindTimes, BehindSign, its_product, product_with, its_sum, sum_with}
use Rattle.notation_reader.specs.Machine.{behind_factor, closed, ended, left_named, factor_named, step_behind, step, Side, Left, Right}
use Rattle.notation_reader.specs.Machine.{behind_mark, State, Start, Named, WantsVariable, BehindVariable, BehindLeft, WantsFactor}
use Rattle.notation_reader.specs.Machine.{NamedSum, WantsBound, BehindBound, Behind, Ended}
use Rattle.notation_reader.specs.Leads.{left_named_leads, factor_named_leads, lead_of}
use Rattle.notation_reader.specs.Shown.{show}
use Rattle.notation_reader.specs.Accesses.{accesses_to_sum, accesses_to_product, accesses_to, access_to, accesses_so_far, Mentions}
use Rattle.notation_reader.proofs.MachineLaws.{some_is, nothing_leads, append_none}

product_accesses : (place : FactorPlace) (f : Factor)
    → accesses_to_product (its_product place) ++ accesses_of_product (product_with place f) ≡ accesses_to place ++ accesses_of_factor f
product_accesses (FirstFactor place) f = refl
product_accesses (BehindTimes place p) f = sym (append_assoc (accesses_to_product place) (accesses_of_product p) (accesses_of_factor f))
product_accesses (BehindSign place) f = product_accesses place (Negated f)

sum_accesses : (place : ProductPlace) (p : Product)
    → accesses_to_sum (its_sum place) ++ accesses_of_sum (sum_with place p) ≡ accesses_to_product place ++ accesses_of_product p
sum_accesses (First place) p = refl
sum_accesses (BehindPlus place s) p = sym (append_assoc (accesses_to_sum place) (accesses_of_sum s) (accesses_of_product p))
sum_accesses (BehindMinus place s) p = sym (append_assoc (accesses_to_sum place) (accesses_of_sum s) (accesses_of_product p))

from_equal : (x next : State) (new : List WrittenAccess) → ◌≡◌ {A = Option State} (Some x) (Some next) → accesses_so_far x ≡ new
    → accesses_so_far next ≡ new
from_equal x next new e h = ap accesses_so_far (sym (some_is x next e)) ∙ h

close_keeps : (at : SumPlace) (place : ProductPlace) (p : Product) (next : State) → its_sum place ≡ at
    → closed at (sum_with place p) ≡ Some next → accesses_so_far next ≡ accesses_so_far (Behind place p)
close_keeps (OnTheRight left) place p next e h = nothing_leads next h
close_keeps (InBrackets at) place p next e h =
    from_equal (behind_factor at (Bracketed (sum_with place p))) next (accesses_so_far (Behind place p)) h
    (product_accesses at (Bracketed (sum_with place p))
    ∙ ap (λ (x : SumPlace). accesses_to_sum x ++ accesses_of_sum (sum_with place p)) (sym e)
    ∙ sum_accesses place p)
close_keeps (InSum at var) place p next e h =
    from_equal (behind_factor at (Summed var (sum_with place p))) next (accesses_so_far (Behind place p)) h
    (product_accesses at (Summed var (sum_with place p))
    ∙ ap (λ (x : SumPlace). accesses_to_sum x ++ accesses_of_sum (sum_with place p)) (sym e)
    ∙ sum_accesses place p)

end_keeps : (at : SumPlace) (place : ProductPlace) (p : Product) (next : State) → its_sum place ≡ at
    → ended at (sum_with place p) ≡ Some next → accesses_so_far next ≡ accesses_so_far (Behind place p)
end_keeps (OnTheRight left) place p next e h =
    from_equal (Ended (record { left = left; right = sum_with place p })) next (accesses_so_far (Behind place p)) h
    (ap (λ (x : SumPlace). accesses_to_sum x ++ accesses_of_sum (sum_with place p)) (sym e)
    ∙ sum_accesses place p)
end_keeps (InBrackets at) place p next e h = nothing_leads next h
end_keeps (InSum at var) place p next e h = nothing_leads next h

-- a symbol behind a factor says nothing of the accesses
behind_keeps : (place : ProductPlace) (p : Product) (t : Symbol) (next : State) → step_behind place p t ≡ Some next
    → accesses_so_far next ≡ accesses_so_far (Behind place p)
behind_keeps place p (Lexeme (MarkToken Times)) next e =
    from_equal (WantsFactor (BehindTimes place p)) next (accesses_so_far (Behind place p)) e refl
behind_keeps place p (Lexeme (MarkToken Plus)) next e =
    from_equal (WantsFactor (FirstFactor (BehindPlus (its_sum place) (sum_with place p)))) next (accesses_so_far (Behind place p)) e
    (sum_accesses place p)
behind_keeps place p (Lexeme (MarkToken Minus)) next e =
    from_equal (WantsFactor (FirstFactor (BehindMinus (its_sum place) (sum_with place p)))) next (accesses_so_far (Behind place p)) e
    (sum_accesses place p)
behind_keeps place p (Lexeme (MarkToken Close)) next e = close_keeps (its_sum place) place p next refl e
behind_keeps place p End next e = end_keeps (its_sum place) place p next refl e
behind_keeps place p _ next e = nothing_leads next e

scalar_keeps : (place : FactorPlace) (name : Name) (t : Symbol) (next : State) (new : List WrittenAccess)
    → step_behind (its_product place) (product_with place (Read (access_to name []))) t ≡ Some next
    → new ≡ accesses_so_far (Named (Right place) name) → accesses_so_far next ≡ new
scalar_keeps place name t next new e w =
    behind_keeps (its_product place) (product_with place (Read (access_to name []))) t next e
    ∙ product_accesses place (Read (access_to name [])) ∙ sym w

abbrev Says : State → Type 0
Says s = (t : Symbol) (next : State) (new : List WrittenAccess) → step s t ≡ Some next
    → Mentions t (lead_of (show s).stand t) (accesses_so_far s) new → accesses_so_far next ≡ new

left_named_says : (name : Name) (b : Bool) (next : State) (new : List WrittenAccess) → left_named name b ≡ Some next
    → Mentions (Lexeme (NameToken name)) (left_named_leads b) [] new → accesses_so_far next ≡ new
left_named_says name true next new e w = nothing_leads next e
left_named_says name false next new e w = from_equal (Named Left name) next new e (sym w)

start_says : Says Start
start_says (Lexeme (NameToken name)) next new e w = left_named_says name (is_sum name) next new e w
start_says _ next new e w = nothing_leads next e

left_name_says : (name : Name) → Says (Named Left name)
left_name_says name (Lexeme (MarkToken Open)) next new e w = from_equal (WantsVariable Left name []) next new e (sym w)
left_name_says name (Lexeme (MarkToken Equals)) next new e w =
    from_equal (behind_mark (access_to name []) false) next new e (sym w)
left_name_says name (Lexeme (MarkToken PlusEquals)) next new e w =
    from_equal (behind_mark (access_to name []) true) next new e (sym w)
left_name_says name _ next new e w = nothing_leads next e

right_name_says : (place : FactorPlace) (name : Name) → Says (Named (Right place) name)
right_name_says place name (Lexeme (MarkToken Open)) next new e w = from_equal (WantsVariable (Right place) name []) next new e (sym w)
right_name_says place name (Lexeme (MarkToken Times)) next new e w = scalar_keeps place name (Lexeme (MarkToken Times)) next new e w
right_name_says place name (Lexeme (MarkToken Plus)) next new e w = scalar_keeps place name (Lexeme (MarkToken Plus)) next new e w
right_name_says place name (Lexeme (MarkToken Minus)) next new e w = scalar_keeps place name (Lexeme (MarkToken Minus)) next new e w
right_name_says place name (Lexeme (MarkToken Close)) next new e w = scalar_keeps place name (Lexeme (MarkToken Close)) next new e w
right_name_says place name End next new e w = scalar_keeps place name End next new e w
right_name_says place name _ next new e w = nothing_leads next e

wants_variable_says : (side : Side) (name : Name) (vars : List Name) → Says (WantsVariable side name vars)
wants_variable_says Left name vars (Lexeme (NameToken var)) next new e w =
    from_equal (BehindVariable Left name vars var) next new e (sym (w [] (access_to name vars) refl))
wants_variable_says (Right place) name vars (Lexeme (NameToken var)) next new e w =
    from_equal (BehindVariable (Right place) name vars var) next new e (sym (w (accesses_to place) (access_to name vars) refl))
wants_variable_says Left name vars _ next new e w = nothing_leads next e
wants_variable_says (Right place) name vars _ next new e w = nothing_leads next e

variable_says : (side : Side) (name : Name) (vars : List Name) (var : Name) → Says (BehindVariable side name vars var)
variable_says Left name vars var (Lexeme (MarkToken Comma)) next new e w =
    from_equal (WantsVariable Left name (vars ++ (var ∷ []))) next new e (sym w)
variable_says Left name vars var (Lexeme (MarkToken Close)) next new e w =
    from_equal (BehindLeft (access_to name (vars ++ (var ∷ [])))) next new e (sym w)
variable_says Left name vars var _ next new e w = nothing_leads next e
variable_says (Right place) name vars var (Lexeme (MarkToken Comma)) next new e w =
    from_equal (WantsVariable (Right place) name (vars ++ (var ∷ []))) next new e (sym w)
variable_says (Right place) name vars var (Lexeme (MarkToken Close)) next new e w =
    from_equal (behind_factor place (Read (access_to name (vars ++ (var ∷ []))))) next new e
    (product_accesses place (Read (access_to name (vars ++ (var ∷ [])))) ∙ sym w)
variable_says (Right place) name vars var _ next new e w = nothing_leads next e

left_says : (access : WrittenAccess) → Says (BehindLeft access)
left_says access (Lexeme (MarkToken Equals)) next new e w =
    from_equal (behind_mark access false) next new e (sym w)
left_says access (Lexeme (MarkToken PlusEquals)) next new e w =
    from_equal (behind_mark access true) next new e (sym w)
left_says access _ next new e w = nothing_leads next e

factor_named_says : (place : FactorPlace) (name : Name) (b : Bool) (next : State) (new : List WrittenAccess)
    → ◌≡◌ {A = Option State} (Some (factor_named place name b)) (Some next)
    → Mentions (Lexeme (NameToken name)) (factor_named_leads b) (accesses_to place) new → accesses_so_far next ≡ new
factor_named_says place name true next new e w = from_equal (NamedSum place) next new e (sym w)
factor_named_says place name false next new e w = from_equal (Named (Right place) name) next new e (sym w)

wants_says : (place : FactorPlace) → Says (WantsFactor place)
wants_says place (Lexeme (NumberToken digits)) next new e w =
    from_equal (behind_factor place (Digits digits)) next new e (product_accesses place (Digits digits) ∙ append_none (accesses_to place)
    ∙ sym w)
wants_says place (Lexeme (NameToken name)) next new e w = factor_named_says place name (is_sum name) next new e w
wants_says place (Lexeme (MarkToken Open)) next new e w =
    from_equal (WantsFactor (FirstFactor (First (InBrackets place)))) next new e (sym w)
wants_says place (Lexeme (MarkToken Minus)) next new e w = from_equal (WantsFactor (BehindSign place)) next new e (sym w)
wants_says place _ next new e w = nothing_leads next e

named_sum_says : (place : FactorPlace) → Says (NamedSum place)
named_sum_says place (Lexeme (MarkToken Open)) next new e w = from_equal (WantsBound place) next new e (sym w)
named_sum_says place _ next new e w = nothing_leads next e

wants_bound_says : (place : FactorPlace) → Says (WantsBound place)
wants_bound_says place (Lexeme (NameToken var)) next new e w = from_equal (BehindBound place var) next new e (sym w)
wants_bound_says place _ next new e w = nothing_leads next e

bound_says : (place : FactorPlace) (var : Name) → Says (BehindBound place var)
bound_says place var (Lexeme (MarkToken Comma)) next new e w =
    from_equal (WantsFactor (FirstFactor (First (InSum place var)))) next new e (sym w)
bound_says place var _ next new e w = nothing_leads next e

behind_says : (place : ProductPlace) (p : Product) → Says (Behind place p)
behind_says place p (Lexeme (MarkToken Times)) next new e w = behind_keeps place p (Lexeme (MarkToken Times)) next e ∙ sym w
behind_says place p (Lexeme (MarkToken Plus)) next new e w = behind_keeps place p (Lexeme (MarkToken Plus)) next e ∙ sym w
behind_says place p (Lexeme (MarkToken Minus)) next new e w = behind_keeps place p (Lexeme (MarkToken Minus)) next e ∙ sym w
behind_says place p (Lexeme (MarkToken Close)) next new e w = behind_keeps place p (Lexeme (MarkToken Close)) next e ∙ sym w
behind_says place p End next new e w = behind_keeps place p End next e ∙ sym w
behind_says place p _ next new e w = nothing_leads next e

pub says : (s : State) → Says s
says Start t next new e w = start_says t next new e w
says (Named Left name) t next new e w = left_name_says name t next new e w
says (Named (Right place) name) t next new e w = right_name_says place name t next new e w
says (WantsVariable side name vars) t next new e w = wants_variable_says side name vars t next new e w
says (BehindVariable side name vars var) t next new e w = variable_says side name vars var t next new e w
says (BehindLeft access) t next new e w = left_says access t next new e w
says (WantsFactor place) t next new e w = wants_says place t next new e w
says (NamedSum place) t next new e w = named_sum_says place t next new e w
says (WantsBound place) t next new e w = wants_bound_says place t next new e w
says (BehindBound place var) t next new e w = bound_says place var t next new e w
says (Behind place p) t next new e w = behind_says place p t next new e w
says (Ended tree) t next new e w = nothing_leads next e
