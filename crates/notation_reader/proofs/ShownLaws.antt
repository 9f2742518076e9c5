-- Each step of a state is what the reader's lead says.
use Rattle.std.specs.Prelude.{◌≡◌, Bool, true, false, ℕ, suc, ◌+◌, ◌-◌, Some, List, [], ◌∷◌, ◌++◌, refl}
use Rattle.std.proofs.Common.{sym, ◌∙◌, ap, arith}
use Rattle.index_notation.specs.declared.syntax.Name.{Name}
use Rattle.index_notation.specs.declared.token.Mark.TheVariants.{Equals, PlusEquals, Plus, Minus, Times, Open, Close, Comma}
use Rattle.index_notation.specs.declared.token.Token.TheVariants.{Name as NameToken, Number as NumberToken, Mark as MarkToken}
use Rattle.index_notation.specs.declared.token.WrittenAccess.{WrittenAccess}
use Rattle.notation_grammar.specs.declared.symbol.Symbol.{Symbol}
use Rattle.notation_grammar.specs.declared.symbol.Symbol.TheVariants.{Lexeme, End, Stray}
use Rattle.notation_grammar.specs.Grammar.{Factor, Digits, Read, Bracketed, Summed, Product, Sum, Tree, NamesLeft, Opens, Plain}
use Rattle.notation_grammar.specs.Grammar.{is_sum}
use Rattle.notation_reader.specs.Machine.{SumPlace, OnTheRight, InBrackets, InSum, ProductPlace, First, BehindPlus, BehindMinus}
use Rattle.notation_reader.specs.Machine.{FactorPlace, FirstFactor, BehindTimes, BehindSign, sum_levels, product_levels, levels}
use Rattle.notation_reader.specs.Machine.{its_product, product_with, its_sum, sum_with, Side, Left, Right, State, Start, Named}
use Rattle.notation_reader.specs.Machine.{WantsVariable, BehindVariable, BehindLeft, WantsFactor, NamedSum, WantsBound, BehindBound}
use Rattle.notation_reader.specs.Machine.{Behind, Ended, behind_factor, behind_mark, closed, ended, left_named, factor_named}
use Rattle.notation_reader.specs.Machine.{step_behind, step, count_on, role_of_named, role}
use Rattle.notation_reader.specs.declared.position.Stand.{Stand}
use Rattle.notation_reader.specs.declared.position.Stand.TheVariants as stand
use Rattle.notation_reader.specs.declared.position.Lead.{Lead}
use Rattle.notation_reader.specs.declared.position.Lead.TheVariants as lead
use Rattle.notation_reader.specs.declared.position.Position.{Position}
use Rattle.notation_reader.proofs.FaultLaws.{last_once}
use Rattle.notation_reader.specs.Leads.{factor_leads, left_named_leads, factor_named_leads, lead_of}
use Rattle.notation_reader.specs.Shown.{minuses_of, outer_of_sum, outer_of_product, outer_of, at_place, show, finished}
use Rattle.notation_reader.specs.Shown.{out_of_bracket}
use Rattle.notation_reader.proofs.Doing.{Does}

no_levels_without_minuses : (n m k : ℕ) → n ≡ m + k → n - m ≡ k
no_levels_without_minuses n m k e = omega arith

-- the levels of a place are its minuses and those of its product
pub levels_are : (place : FactorPlace) → levels place ≡ minuses_of place + product_levels (its_product place)
levels_are (FirstFactor place) = omega arith
levels_are (BehindTimes place product) = omega arith
levels_are (BehindSign place) = let h = levels_are place in omega (arith, h)

outer_stays : (place : FactorPlace) → outer_of_product (its_product place) ≡ outer_of place
outer_stays (FirstFactor place) = refl
outer_stays (BehindTimes place product) = refl
outer_stays (BehindSign place) = outer_stays place

reader_of : (at : Stand) (l k m : ℕ) (o q : List ℕ) → l ≡ k → o ≡ q
    → ◌≡◌ {A = Position} (record { stand = at; levels = l; minuses = m; outer = o })
    (record { stand = at; levels = k; minuses = m; outer = q })
reader_of at l k m o q e f = λ i. record { stand = at; levels = e i; minuses = m; outer = f i }

pub factor_shows : (place : FactorPlace) (f : Factor) (at : Stand) → show (behind_factor place f) ≡ finished (at_place at place)
factor_shows place f at =
    reader_of stand.Factor (product_levels (its_product place)) (levels place - minuses_of place) 0 (outer_of_product (its_product place))
    (outer_of place)
    (sym (no_levels_without_minuses (levels place) (minuses_of place) (product_levels (its_product place)) (levels_are place)))
    (outer_stays place)

sum_levels_stay : (place : ProductPlace) → product_levels place ≡ sum_levels (its_sum place)
sum_levels_stay (First place) = refl
sum_levels_stay (BehindPlus place s) = refl
sum_levels_stay (BehindMinus place s) = refl

sum_outer_stays : (place : ProductPlace) → outer_of_product place ≡ outer_of_sum (its_sum place)
sum_outer_stays (First place) = refl
sum_outer_stays (BehindPlus place s) = refl
sum_outer_stays (BehindMinus place s) = refl

full : {A X : Type 0} (xs : List X) (x : X) → xs ++ (x ∷ []) ≡ [] → A
full [] x e = absurd (let no = e in cc)
full (y ∷ xs) x e = absurd (let no = e in cc)

closing : (place : FactorPlace) (f : Factor) (r : Position) (front : List ℕ) (m : ℕ) → r.levels - r.minuses ≡ suc (levels place)
    → outer_of place ++ (minuses_of place ∷ []) ≡ front ++ (m ∷ []) → show (behind_factor place f) ≡ out_of_bracket r front m
closing place f r front m e k =
    let both = last_once (outer_of place) front (minuses_of place) m k in
    let lev : levels place ≡ (r.levels - r.minuses) - 1 = omega (arith, e) in
    factor_shows place f stand.Factor
    ∙ (λ i. finished (record { stand = stand.Factor; levels = lev i; minuses = both.1 i; outer = both.0 i }))

closed_does : (at : SumPlace) (s : Sum) (r : Position) → r.levels - r.minuses ≡ sum_levels at → r.outer ≡ outer_of_sum at
    → Does (closed at s) r Plain lead.Close
closed_does (OnTheRight left) s r e k = ((λ none. refl), (λ front m h. full front m (sym h ∙ k)), tt)
closed_does (InBrackets place) s r e k = (
  (λ none. full (outer_of place) (minuses_of place) (sym k ∙ none)),
  (λ front m h. (behind_factor place (Bracketed s), refl, closing place (Bracketed s) r front m e (sym k ∙ h))),
  tt,
)
closed_does (InSum place var) s r e k = (
  (λ none. full (outer_of place) (minuses_of place) (sym k ∙ none)),
  (λ front m h. (behind_factor place (Summed var s), refl, closing place (Summed var s) r front m e (sym k ∙ h))),
  tt,
)

ended_does : (at : SumPlace) (s : Sum) (r : Position) → r.outer ≡ outer_of_sum at → Does (ended at s) r Plain lead.End
ended_does (OnTheRight left) s r k =
    ((λ none. (Ended (record { left = left; right = s }), refl, refl)), (λ front m h. full front m (sym h ∙ k)), tt)
ended_does (InBrackets place) s r k = ((λ none. full (outer_of place) (minuses_of place) (sym k ∙ none)), (λ front m h. refl), tt)
ended_does (InSum place var) s r k = ((λ none. full (outer_of place) (minuses_of place) (sym k ∙ none)), (λ front m h. refl), tt)

-- what a symbol does behind a factor
abbrev pub behind_leads : Symbol → Lead
behind_leads (Lexeme (MarkToken mark)) = factor_leads mark
behind_leads End = lead.End
behind_leads _ = lead.Nowhere

joined : (l k : ℕ) (o q : List ℕ) → l ≡ k → o ≡ q
    → ◌≡◌ {A = Position} (record { stand = stand.Operator; levels = l; minuses = 0; outer = o })
    (record { stand = stand.Operator; levels = k; minuses = 0; outer = q })
joined l k o q e f = reader_of stand.Operator l k 0 o q e f

behind_does : (place : ProductPlace) (p : Product) (t : Symbol) (r : Position) → r.levels - r.minuses ≡ product_levels place
    → r.outer ≡ outer_of_product place → Does (step_behind place p t) r Plain (behind_leads t)
behind_does place p (Lexeme (MarkToken Times)) r e k = (
  (
    WantsFactor (BehindTimes place p),
    refl,
    joined (product_levels place) (r.levels - r.minuses) (outer_of_product place) r.outer
        (sym e) (sym k),
  ),
  tt,
)
behind_does place p (Lexeme (MarkToken Plus)) r e k = (
  (
    WantsFactor (FirstFactor (BehindPlus (its_sum place) (sum_with place p))),
    refl,
    joined (sum_levels (its_sum place))
        (r.levels - r.minuses) (outer_of_sum (its_sum place)) r.outer (sym (e ∙ sum_levels_stay place)) (sym (k
        ∙ sum_outer_stays place)),
  ),
  tt,
)
behind_does place p (Lexeme (MarkToken Minus)) r e k = (
  (
    WantsFactor (FirstFactor (BehindMinus (its_sum place) (sum_with place p))),
    refl,
    joined (sum_levels (its_sum place))
        (r.levels - r.minuses) (outer_of_sum (its_sum place)) r.outer (sym (e ∙ sum_levels_stay place)) (sym (k
        ∙ sum_outer_stays place)),
  ),
  tt,
)
behind_does place p (Lexeme (MarkToken Close)) r e k = closed_does (its_sum place) (sum_with place p) r (e ∙ sum_levels_stay place) (k
    ∙ sum_outer_stays place)
behind_does place p End r e k = ended_does (its_sum place) (sum_with place p) r (k ∙ sum_outer_stays place)
behind_does place p _ r e k = refl

scalar_does : (place : FactorPlace) (name : Name) (t : Symbol)
    → Does (step_behind (its_product place) (product_with place (Read (record { name = name; vars = [] }))) t)
    (at_place stand.Name place) Plain (behind_leads t)
scalar_does place name t =
    behind_does (its_product place) (product_with place (Read (record { name = name; vars = [] }))) t (at_place stand.Name place)
    (no_levels_without_minuses (levels place) (minuses_of place) (product_levels (its_product place)) (levels_are place))
    (sym (outer_stays place))

abbrev DoesAs : State → Symbol → Type 0
DoesAs s t = Does (step s t) (show s) (role s t) (lead_of (show s).stand t)

left_named_does : (name : Name) (b : Bool) → Does (left_named name b) (show Start) NamesLeft (left_named_leads b)
left_named_does name true = refl
left_named_does name false = ((Named Left name, refl, refl), tt)

start_does : (t : Symbol) → DoesAs Start t
start_does (Lexeme (NameToken name)) = left_named_does name (is_sum name)
start_does _ = refl

left_name_does : (name : Name) (t : Symbol) → DoesAs (Named Left name) t
left_name_does name (Lexeme (MarkToken Open)) = ((WantsVariable Left name [], refl, refl), tt)
left_name_does name (Lexeme (MarkToken Equals)) =
    ((behind_mark (record { name = name; vars = [] }) false, refl, refl), tt)
left_name_does name (Lexeme (MarkToken PlusEquals)) =
    ((behind_mark (record { name = name; vars = [] }) true, refl, refl), tt)
left_name_does name _ = refl

right_name_does : (place : FactorPlace) (name : Name) (t : Symbol) → DoesAs (Named (Right place) name) t
right_name_does place name (Lexeme (MarkToken Open)) = ((WantsVariable (Right place) name [], refl, refl), tt)
right_name_does place name (Lexeme (MarkToken Times)) = scalar_does place name (Lexeme (MarkToken Times))
right_name_does place name (Lexeme (MarkToken Plus)) = scalar_does place name (Lexeme (MarkToken Plus))
right_name_does place name (Lexeme (MarkToken Minus)) = scalar_does place name (Lexeme (MarkToken Minus))
right_name_does place name (Lexeme (MarkToken Close)) = scalar_does place name (Lexeme (MarkToken Close))
right_name_does place name End = scalar_does place name End
right_name_does place name _ = refl

wants_variable_does : (side : Side) (name : Name) (vars : List Name) (t : Symbol) → DoesAs (WantsVariable side name vars) t
wants_variable_does Left name vars (Lexeme (NameToken var)) = ((BehindVariable Left name vars var, refl, refl), (count_on 1 vars, refl))
wants_variable_does (Right place) name vars (Lexeme (NameToken var)) =
    ((BehindVariable (Right place) name vars var, refl, refl), (count_on 1 vars, refl))
wants_variable_does Left name vars _ = refl
wants_variable_does (Right place) name vars _ = refl

variable_does : (side : Side) (name : Name) (vars : List Name) (var : Name) (t : Symbol) → DoesAs (BehindVariable side name vars var) t
variable_does Left name vars var (Lexeme (MarkToken Comma)) = ((WantsVariable Left name (vars ++ (var ∷ [])), refl, refl), tt)
variable_does Left name vars var (Lexeme (MarkToken Close)) =
    ((BehindLeft (record { name = name; vars = vars ++ (var ∷ []) }), refl, refl), tt)
variable_does Left name vars var _ = refl
variable_does (Right place) name vars var (Lexeme (MarkToken Comma)) =
    ((WantsVariable (Right place) name (vars ++ (var ∷ [])), refl, refl), tt)
variable_does (Right place) name vars var (Lexeme (MarkToken Close)) = (
  (
    behind_factor place (Read (record { name = name; vars = vars ++ (var ∷ []) })),
    refl,
    factor_shows place
        (Read (record { name = name; vars = vars ++ (var ∷ []) })) stand.Variable,
  ),
  tt,
)
variable_does (Right place) name vars var _ = refl

left_does : (access : WrittenAccess) (t : Symbol) → DoesAs (BehindLeft access) t
left_does access (Lexeme (MarkToken Equals)) = ((behind_mark access false, refl, refl), tt)
left_does access (Lexeme (MarkToken PlusEquals)) = ((behind_mark access true, refl, refl), tt)
left_does access _ = refl

factor_named_does : (place : FactorPlace) (name : Name) (b : Bool)
    → Does (Some (factor_named place name b)) (show (WantsFactor place)) (role_of_named b) (factor_named_leads b)
factor_named_does place name true = ((NamedSum place, refl, refl), tt)
factor_named_does place name false = ((Named (Right place) name, refl, refl), refl)

level_more : (n : ℕ) → Opens (suc n) ≡ Opens (n + 1)
level_more n = ap (λ k. Opens k) (let h : suc n ≡ n + 1 = omega arith in h)

wants_does : (place : FactorPlace) (t : Symbol) → DoesAs (WantsFactor place) t
wants_does place (Lexeme (NumberToken digits)) =
    ((behind_factor place (Digits digits), refl, factor_shows place (Digits digits) stand.Operator), refl)
wants_does place (Lexeme (NameToken name)) = factor_named_does place name (is_sum name)
wants_does place (Lexeme (MarkToken Open)) = (
  (
    WantsFactor (FirstFactor (First (InBrackets place))),
    refl,
    joined (suc (levels place)) (levels place + 1)
        (outer_of_sum (InBrackets place)) (outer_of_sum (InBrackets place)) (omega arith) refl,
  ),
  level_more (levels place),
)
wants_does place (Lexeme (MarkToken Minus)) = (
  (
    WantsFactor (BehindSign place),
    refl,
    reader_of stand.Operator (suc (levels place)) (levels place + 1) (minuses_of place + 1)
        (outer_of place) (outer_of place) (omega arith) refl,
  ),
  level_more (levels place),
)
wants_does place _ = refl

named_sum_does : (place : FactorPlace) (t : Symbol) → DoesAs (NamedSum place) t
named_sum_does place (Lexeme (MarkToken Open)) = ((WantsBound place, refl, refl), level_more (levels place))
named_sum_does place _ = refl

wants_bound_does : (place : FactorPlace) (t : Symbol) → DoesAs (WantsBound place) t
wants_bound_does place (Lexeme (NameToken var)) = ((BehindBound place var, refl, refl), refl)
wants_bound_does place _ = refl

bound_does : (place : FactorPlace) (var : Name) (t : Symbol) → DoesAs (BehindBound place var) t
bound_does place var (Lexeme (MarkToken Comma)) = (
  (
    WantsFactor (FirstFactor (First (InSum place var))),
    refl,
    joined (suc (levels place)) (levels place + 1)
        (outer_of_sum (InSum place var)) (outer_of_sum (InSum place var)) (omega arith) refl,
  ),
  tt,
)
bound_does place var _ = refl

behind_factor_does : (place : ProductPlace) (p : Product) (t : Symbol) → DoesAs (Behind place p) t
behind_factor_does place p (Lexeme (NameToken name)) = refl
behind_factor_does place p (Lexeme (NumberToken digits)) = refl
behind_factor_does place p (Lexeme (MarkToken mark)) =
    behind_does place p (Lexeme (MarkToken mark)) (show (Behind place p)) (omega arith) refl
behind_factor_does place p End = behind_does place p End (show (Behind place p)) (omega arith) refl
behind_factor_does place p Stray = refl

ended_state_does : (tree : Tree) (t : Symbol) → DoesAs (Ended tree) t
ended_state_does tree (Lexeme (NameToken name)) = refl
ended_state_does tree (Lexeme (NumberToken digits)) = refl
ended_state_does tree (Lexeme (MarkToken mark)) = refl
ended_state_does tree End = refl
ended_state_does tree Stray = refl

-- each step is what the lead says
pub does : (s : State) (t : Symbol) → Does (step s t) (show s) (role s t) (lead_of (show s).stand t)
does Start t = start_does t
does (Named Left name) t = left_name_does name t
does (Named (Right place) name) t = right_name_does place name t
does (WantsVariable side name vars) t = wants_variable_does side name vars t
does (BehindVariable side name vars var) t = variable_does side name vars var t
does (BehindLeft access) t = left_does access t
does (WantsFactor place) t = wants_does place t
does (NamedSum place) t = named_sum_does place t
does (WantsBound place) t = wants_bound_does place t
does (BehindBound place var) t = bound_does place var t
does (Behind place p) t = behind_factor_does place p t
does (Ended tree) t = ended_state_does tree t
