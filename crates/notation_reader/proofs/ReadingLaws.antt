-- A sentence is read to its end, and each state can be led to an end. So some sentence begins with the symbols exactly where
-- a reader takes them all, and then their roles are the reader's.
use Rattle.std.specs.Prelude.{◌≡◌, ℕ, suc, Bool, true, false, Option, Some, None, option_and_then, List, [], ◌∷◌, ◌++◌, refl}
use Rattle.std.proofs.Common.{sym, ◌∙◌, ap, subst, append_assoc}
use Rattle.lists.proofs.Each.{each_append}
use Rattle.index_notation.specs.declared.syntax.Name.{Name}
use Rattle.index_notation.specs.declared.token.Mark.TheVariants.{Equals, PlusEquals, Plus, Minus, Times, Open, Close, Comma}
use Rattle.index_notation.specs.declared.token.Token.TheVariants.{Name as NameToken, Number as NumberToken, Mark as MarkToken}
use Rattle.index_notation.specs.declared.token.WrittenAccess.{WrittenAccess}
use Rattle.notation_grammar.specs.declared.symbol.Symbol.{Symbol}
use Rattle.notation_grammar.specs.declared.symbol.Symbol.TheVariants.{Lexeme, End}
use Rattle.notation_grammar.specs.Grammar.{Factor, Digits, Read, Bracketed, Negated, Summed, Product, Lone, Multiplied, Sum, Alone, Added}
use Rattle.notation_grammar.specs.Grammar.{Taken, Tree, NamesLeft, Written, plain, the_end, assigning, access_of, factor_of, product_of}
use Rattle.notation_grammar.specs.Grammar.{sum_of, left_of, sentence_of, more_variables, in_brackets, symbols, Begins}
use Rattle.notation_grammar.specs.Grammar.{is_sum, FactorNames, ProductNames, SumNames, HasNames}
use Rattle.notation_reader.specs.Machine.{SumPlace, OnTheRight, InBrackets, InSum, ProductPlace, First, BehindPlus, BehindMinus}
use Rattle.notation_reader.specs.Machine.{FactorPlace, FirstFactor, BehindTimes, BehindSign, its_sum, sum_with, Side, Left, Right, State}
use Rattle.notation_reader.specs.Machine.{Start, Named, WantsVariable, BehindVariable, BehindLeft, WantsFactor, NamedSum, WantsBound}
use Rattle.notation_reader.specs.Machine.{BehindBound, Behind, Ended, behind_factor, behind_mark, behind_access, closed, ended}
use Rattle.notation_reader.specs.Machine.{left_named, factor_named, step, run, before, read}
use Rattle.notation_reader.proofs.MachineLaws.{some_is, grows}
use Rattle.notation_reader.proofs.NameLaws.{IsNamed, AreNamed, step_is_named, tree_names}

-- a symbol follows, and opens no bracket
abbrev pub Follows : List Symbol → Type 0
Follows [] = ⊥
Follows (Lexeme (MarkToken Open) ∷ rest) = ⊥
Follows (t ∷ rest) = Unit {0}

abbrev scalar : Name → WrittenAccess
scalar name = record { name = name; vars = [] }

left_scalar_read : (name : Name) (rest : List Symbol) → Follows rest
    → run (Named Left name) rest ≡ run (behind_access Left (scalar name)) rest
left_scalar_read name [] h = absurd h
left_scalar_read name (Lexeme (MarkToken Open) ∷ rest) h = absurd h
left_scalar_read name (t ∷ rest) h = refl

right_scalar_read : (place : FactorPlace) (name : Name) (rest : List Symbol) → Follows rest
    → run (Named (Right place) name) rest ≡ run (behind_access (Right place) (scalar name)) rest
right_scalar_read place name [] h = absurd h
right_scalar_read place name (Lexeme (MarkToken Open) ∷ rest) h = absurd h
right_scalar_read place name (t ∷ rest) h = refl

scalar_read : (side : Side) (name : Name) (rest : List Symbol) → Follows rest
    → run (Named side name) rest ≡ run (behind_access side (scalar name)) rest
scalar_read Left name rest h = left_scalar_read name rest h
scalar_read (Right place) name rest h = right_scalar_read place name rest h

variables_read : (side : Side) (name : Name) (vars : List Name) (var : Name) (more : List Name) (n : ℕ) (rest : List Written)
    → run (BehindVariable side name vars var) (symbols (more_variables n more ++ rest)) ≡ run
    (behind_access side (record { name = name; vars = vars ++ (var ∷ more) })) (symbols rest)
variables_read side name vars var [] n rest = refl
variables_read side name vars var (next ∷ more) n rest =
    variables_read side name (vars ++ (var ∷ [])) next more (suc n) rest
    ∙ ap (λ (all : List Name). run (behind_access side (record { name = name; vars = all })) (symbols rest))
    (append_assoc vars (var ∷ []) (next ∷ more))

access_parts_read : (side : Side) (name : Name) (vars : List Name) (rest : List Written) → Follows (symbols rest)
    → run (Named side name) (symbols (in_brackets vars ++ rest)) ≡ run (behind_access side (record { name = name; vars = vars }))
    (symbols rest)
access_parts_read side name [] rest h = scalar_read side name (symbols rest) h
access_parts_read side name (var ∷ vars) rest h = variables_read side name [] var vars 2 rest

access_read : (side : Side) (access : WrittenAccess) (rest : List Written) → Follows (symbols rest)
    → run (Named side access.name) (symbols (in_brackets access.vars ++ rest)) ≡ run (behind_access side access) (symbols rest)
access_read side access rest h = access_parts_read side access.name access.vars rest h

-- behind a sum that stands at its place
abbrev pub behind_sum : SumPlace → Sum → State
behind_sum place (Alone p) = Behind (First place) p
behind_sum place (Added s p) = Behind (BehindPlus place s) p
behind_sum place (Taken s p) = Behind (BehindMinus place s) p

sum_adds : (place : SumPlace) (s : Sum)
    → step (behind_sum place s) (Lexeme (MarkToken Plus)) ≡ Some (WantsFactor (FirstFactor (BehindPlus place s)))
sum_adds place (Alone p) = refl
sum_adds place (Added s p) = refl
sum_adds place (Taken s p) = refl

sum_takes : (place : SumPlace) (s : Sum)
    → step (behind_sum place s) (Lexeme (MarkToken Minus)) ≡ Some (WantsFactor (FirstFactor (BehindMinus place s)))
sum_takes place (Alone p) = refl
sum_takes place (Added s p) = refl
sum_takes place (Taken s p) = refl

sum_closes : (place : SumPlace) (s : Sum) → step (behind_sum place s) (Lexeme (MarkToken Close)) ≡ closed place s
sum_closes place (Alone p) = refl
sum_closes place (Added s p) = refl
sum_closes place (Taken s p) = refl

sum_ends : (place : SumPlace) (s : Sum) → step (behind_sum place s) End ≡ ended place s
sum_ends place (Alone p) = refl
sum_ends place (Added s p) = refl
sum_ends place (Taken s p) = refl

pub stepped : (s : State) (t : Symbol) (o : Option State) (rest : List Symbol) → step s t ≡ o
    → run s (t ∷ rest) ≡ option_and_then (λ next. run next rest) o
stepped s t o rest e = ap (λ (o : Option State). option_and_then (λ next. run next rest) o) e

abbrev read_on : State → List Written → Option State
read_on s ms = run s (symbols ms)

mutual
  factor_read : (f : Factor) (n : ℕ) (place : FactorPlace) (rest : List Written) → FactorNames f → Follows (symbols rest)
      → run (WantsFactor place) (symbols (factor_of n f ++ rest)) ≡ run (behind_factor place f) (symbols rest)
  factor_read (Digits digits) n place rest k h = refl
  factor_read (Read access) n place rest k h =
      ap (λ b. run (factor_named place access.name b) (symbols (in_brackets access.vars ++ rest))) k
      ∙ access_read (Right place) access rest h
  factor_read (Bracketed s) n place rest k h =
      ap (read_on (WantsFactor (FirstFactor (First (InBrackets place))))) (append_assoc (sum_of (suc n) s) (plain Close ∷ []) rest)
      ∙ sum_read s (suc n) (InBrackets place) (plain Close ∷ rest) k tt
      ∙ stepped (behind_sum (InBrackets place) s) (Lexeme (MarkToken Close)) (Some (behind_factor place (Bracketed s))) (symbols rest)
      (sum_closes (InBrackets place) s)
  factor_read (Negated f) n place rest k h = factor_read f (suc n) (BehindSign place) rest k h
  factor_read (Summed var s) n place rest k h =
      ap (read_on (WantsFactor (FirstFactor (First (InSum place var))))) (append_assoc (sum_of (suc n) s) (plain Close ∷ []) rest)
      ∙ sum_read s (suc n) (InSum place var) (plain Close ∷ rest) k tt
      ∙ stepped (behind_sum (InSum place var) s) (Lexeme (MarkToken Close)) (Some (behind_factor place (Summed var s))) (symbols rest)
      (sum_closes (InSum place var) s)

  product_read : (p : Product) (n : ℕ) (place : ProductPlace) (rest : List Written) → ProductNames p → Follows (symbols rest)
      → run (WantsFactor (FirstFactor place)) (symbols (product_of n p ++ rest)) ≡ run (Behind place p) (symbols rest)
  product_read (Lone f) n place rest k h = factor_read f n (FirstFactor place) rest k h
  product_read (Multiplied p f) n place rest k h =
      ap (read_on (WantsFactor (FirstFactor place))) (append_assoc (product_of n p) (plain Times ∷ factor_of n f) rest)
      ∙ product_read p n place (plain Times ∷ (factor_of n f ++ rest)) k.0 tt
      ∙ factor_read f n (BehindTimes place p) rest k.1 h

  sum_read : (s : Sum) (n : ℕ) (place : SumPlace) (rest : List Written) → SumNames s → Follows (symbols rest)
      → run (WantsFactor (FirstFactor (First place))) (symbols (sum_of n s ++ rest)) ≡ run (behind_sum place s) (symbols rest)
  sum_read (Alone p) n place rest k h = product_read p n (First place) rest k h
  sum_read (Added s p) n place rest k h =
      ap (read_on (WantsFactor (FirstFactor (First place)))) (append_assoc (sum_of n s) (plain Plus ∷ product_of n p) rest)
      ∙ sum_read s n place (plain Plus ∷ (product_of n p ++ rest)) k.0 tt
      ∙ stepped (behind_sum place s) (Lexeme (MarkToken Plus)) (Some (WantsFactor (FirstFactor (BehindPlus place s))))
      (symbols (product_of n p ++ rest)) (sum_adds place s)
      ∙ product_read p n (BehindPlus place s) rest k.1 h
  sum_read (Taken s p) n place rest k h =
      ap (read_on (WantsFactor (FirstFactor (First place)))) (append_assoc (sum_of n s) (plain Minus ∷ product_of n p) rest)
      ∙ sum_read s n place (plain Minus ∷ (product_of n p ++ rest)) k.0 tt
      ∙ stepped (behind_sum place s) (Lexeme (MarkToken Minus)) (Some (WantsFactor (FirstFactor (BehindMinus place s))))
      (symbols (product_of n p ++ rest)) (sum_takes place s)
      ∙ product_read p n (BehindMinus place s) rest k.1 h

-- a sentence is read to its end
left_read : (access : WrittenAccess) (rest : List Written) → is_sum access.name ≡ false → Follows (symbols rest)
    → run Start (symbols (access_of NamesLeft access ++ rest)) ≡ run (BehindLeft access) (symbols rest)
left_read access rest k h =
    stepped Start (Lexeme (NameToken access.name)) (Some (Named Left access.name)) (symbols (in_brackets access.vars ++ rest))
    (ap (left_named access.name) k)
    ∙ access_read Left access rest h

behind_left : (access : WrittenAccess) (accumulate : Bool) (rest : List Written) → is_sum access.name ≡ false
    → run Start (symbols (access_of NamesLeft access ++ (plain (assigning accumulate) ∷ rest)))
    ≡ run (behind_mark access accumulate) (symbols rest)
behind_left access false rest k = left_read access (plain Equals ∷ rest) k tt
behind_left access true rest k = left_read access (plain PlusEquals ∷ rest) k tt

pub sentence_read : (w : Tree) → HasNames w → run Start (symbols (sentence_of w)) ≡ Some (Ended w)
sentence_read w k =
    let right = sum_of 0 w.right ++ (the_end ∷ []) in
    ap (read_on Start) (
    append_assoc (left_of w.left) (sum_of 0 w.right) (the_end ∷ [])
    ∙ append_assoc (access_of NamesLeft w.left.access) (plain (assigning w.left.accumulate) ∷ []) right)
    ∙ behind_left w.left.access w.left.accumulate right k.left
    ∙ sum_read w.right 0 (OnTheRight w.left) (the_end ∷ []) k.right tt
    ∙ stepped (behind_sum (OnTheRight w.left) w.right) End (Some (Ended w)) [] (sum_ends (OnTheRight w.left) w.right)

-- a state can be led to an end
pub record Ends (s : State) : Type 0 where
  pub rest : List Symbol
  pub tree : Tree
  pub is : run s rest ≡ Some (Ended tree)

ends_from : (s : State) (t : Symbol) (next : State) → step s t ≡ Some next → Ends next → Ends s
ends_from s t next e h = record { rest = t ∷ h.rest; tree = h.tree; is = stepped s t (Some next) h.rest e ∙ h.is }

mutual
  ends_sum : (at : SumPlace) (place : ProductPlace) (p : Product) → its_sum place ≡ at → Ends (Behind place p)
  ends_sum (OnTheRight left) place p e =
      let next = Ended (record { left = left; right = sum_with place p }) in
      ends_from (Behind place p) End next (ap (λ (x : SumPlace). ended x (sum_with place p)) e)
      (record { rest = []; tree = record { left = left; right = sum_with place p }; is = refl })
  ends_sum (InBrackets at) place p e =
      ends_from (Behind place p) (Lexeme (MarkToken Close)) (behind_factor at (Bracketed (sum_with place p)))
      (ap (λ (x : SumPlace). closed x (sum_with place p)) e) (ends_factor at (Bracketed (sum_with place p)))
  ends_sum (InSum at var) place p e =
      ends_from (Behind place p) (Lexeme (MarkToken Close)) (behind_factor at (Summed var (sum_with place p)))
      (ap (λ (x : SumPlace). closed x (sum_with place p)) e) (ends_factor at (Summed var (sum_with place p)))

  ends_product : (place : ProductPlace) (p : Product) → Ends (Behind place p)
  ends_product (First at) p = ends_sum at (First at) p refl
  ends_product (BehindPlus at s) p = ends_sum at (BehindPlus at s) p refl
  ends_product (BehindMinus at s) p = ends_sum at (BehindMinus at s) p refl

  ends_factor : (place : FactorPlace) (f : Factor) → Ends (behind_factor place f)
  ends_factor (FirstFactor place) f = ends_product place (Lone f)
  ends_factor (BehindTimes place q) f = ends_product place (Multiplied q f)
  ends_factor (BehindSign place) f = ends_factor place (Negated f)

-- the number 0, and the name a
ends_place : (place : FactorPlace) → Ends (WantsFactor place)
ends_place place = ends_from (WantsFactor place) (Lexeme (NumberToken (48 ∷ []))) (behind_factor place (Digits (48 ∷ []))) refl
    (ends_factor place (Digits (48 ∷ [])))

abbrev a_name : Name
a_name = record { bytes = 97 ∷ [] }

ends_left : (access : WrittenAccess) → Ends (BehindLeft access)
ends_left access = ends_from (BehindLeft access) (Lexeme (MarkToken Equals)) (behind_mark access false) refl
    (ends_place (FirstFactor (First (OnTheRight (record { access = access; accumulate = false })))))

ends_access : (side : Side) (access : WrittenAccess) → Ends (behind_access side access)
ends_access Left access = ends_left access
ends_access (Right place) access = ends_factor place (Read access)

ends_variable : (side : Side) (name : Name) (vars : List Name) (var : Name) → Ends (BehindVariable side name vars var)
ends_variable side name vars var =
    ends_from (BehindVariable side name vars var) (Lexeme (MarkToken Close))
    (behind_access side (record { name = name; vars = vars ++ (var ∷ []) })) refl
    (ends_access side (record { name = name; vars = vars ++ (var ∷ []) }))

ends_variables : (side : Side) (name : Name) (vars : List Name) → Ends (WantsVariable side name vars)
ends_variables side name vars =
    ends_from (WantsVariable side name vars) (Lexeme (NameToken a_name)) (BehindVariable side name vars a_name) refl
    (ends_variable side name vars a_name)

ends_named : (side : Side) (name : Name) → Ends (Named side name)
ends_named side name = ends_from (Named side name) (Lexeme (MarkToken Open)) (WantsVariable side name []) refl (ends_variables side name [])

ends_bound : (place : FactorPlace) (var : Name) → Ends (BehindBound place var)
ends_bound place var =
    let next = FirstFactor (First (InSum place var)) in
    ends_from (BehindBound place var) (Lexeme (MarkToken Comma)) (WantsFactor next) refl (ends_place next)

ends_wants_bound : (place : FactorPlace) → Ends (WantsBound place)
ends_wants_bound place =
    ends_from (WantsBound place) (Lexeme (NameToken a_name)) (BehindBound place a_name) refl (ends_bound place a_name)

pub ends : (s : State) → Ends s
ends Start = ends_from Start (Lexeme (NameToken a_name)) (Named Left a_name) refl (ends_named Left a_name)
ends (Named side name) = ends_named side name
ends (WantsVariable side name vars) = ends_variables side name vars
ends (BehindVariable side name vars var) = ends_variable side name vars var
ends (BehindLeft access) = ends_left access
ends (WantsFactor place) = ends_place place
ends (NamedSum place) = ends_from (NamedSum place) (Lexeme (MarkToken Open)) (WantsBound place) refl (ends_wants_bound place)
ends (WantsBound place) = ends_wants_bound place
ends (BehindBound place var) = ends_bound place var
ends (Behind place p) = ends_product place p
ends (Ended tree) = record { rest = []; tree = tree; is = refl }

-- what is read along the way
pub record Way (s last : State) (ts : List Symbol) : Type 0 where
  pub ms : List Written
  pub symbols_are : symbols ms ≡ ts
  pub grown : before last ≡ before s ++ ms

pub append_none : {A : Type 0} (xs : List A) → xs ++ [] ≡ xs
append_none [] = refl
append_none (x ∷ xs) = ap (λ ys. x ∷ ys) (append_none xs)

-- the first step of a run
pub record FirstStep (s : State) (t : Symbol) (ts : List Symbol) (last : State) : Type 0 where
  pub next : State
  pub steps : step s t ≡ Some next
  pub runs : run next ts ≡ Some last

pub first_step : (o : Option State) (ts : List Symbol) (last : State) → option_and_then (λ next. run next ts) o ≡ Some last
    → (next : State) × (o ≡ Some next) × (run next ts ≡ Some last)
first_step None ts last e = absurd (let no = e in cc)
first_step (Some next) ts last e = (next, refl, e)

pub way : (ts : List Symbol) (s last : State) → run s ts ≡ Some last → Way s last ts
way [] s last e =
    let same : s ≡ last = cc in
    record { ms = []; symbols_are = refl; grown = ap before (sym same) ∙ sym (append_none (before s)) }
way (t ∷ ts) s last e =
    let f = first_step (step s t) ts last e in
    let w = way ts f.0 last f.2 in
    record {
      ms = read s t ∷ w.ms;
      symbols_are = ap (λ (us : List Symbol). t ∷ us) w.symbols_are;
      grown = w.grown ∙ ap (λ (ms : List Written). ms ++ w.ms) (grows s t f.0 f.1) ∙ append_assoc (before s) (read s t ∷ []) w.ms;
    }

pub run_is_named : (ts : List Symbol) (s last : State) → run s ts ≡ Some last → AreNamed (before s) → AreNamed (before last)
run_is_named [] s last e h = subst (λ (x : State). AreNamed (before x)) (some_is s last e) h
run_is_named (t ∷ ts) s last e h =
    let f = first_step (step s t) ts last e in
    run_is_named ts f.0 last f.2 (subst AreNamed (sym (grows s t f.0 f.1))
    (each_append (λ m. IsNamed m.role m.symbol) (before s) (read s t ∷ []) h (step_is_named s t f.0 f.1, tt)))

-- a run parts where its symbols do
pub run_parts : (ts us : List Symbol) (s last : State) → run s (ts ++ us) ≡ Some last
    → (next : State) × (run s ts ≡ Some next) × (run next us ≡ Some last)
run_parts [] us s last e = (s, refl, e)
run_parts (t ∷ ts) us s last e =
    let f = first_step (step s t) (ts ++ us) last e in
    let p = run_parts ts us f.0 last f.2 in
    (p.0, stepped s t (Some f.0) ts f.1 ∙ p.1, p.2)

pub symbols_join : (ms ns : List Written) → symbols (ms ++ ns) ≡ symbols ms ++ symbols ns
symbols_join [] ns = refl
symbols_join (m ∷ ms) ns = ap (λ (ts : List Symbol). m.symbol ∷ ts) (symbols_join ms ns)

-- fronts of one list with the same symbols are one
same_front : (ms ns r q : List Written) → ms ++ r ≡ ns ++ q → symbols ms ≡ symbols ns → ms ≡ ns
same_front [] [] r q e k = refl
same_front [] (n ∷ ns) r q e k = absurd (let no = k in cc)
same_front (m ∷ ms) [] r q e k = absurd (let no = k in cc)
same_front (m ∷ ms) (n ∷ ns) r q e k =
    let first : m ≡ n = cc in
    let behind : ms ++ r ≡ ns ++ q = cc in
    let signs_behind : symbols ms ≡ symbols ns = cc in
    let others : ms ≡ ns = same_front ms ns r q behind signs_behind in
    cc

-- a reader stands behind these symbols in these roles
abbrev pub StandsBehind : List Written → State → Type 0
StandsBehind ms s = (run Start (symbols ms) ≡ Some s) × (before s ≡ ms)

-- where some sentence begins so, a reader comes there
pub begun_stands : (ms : List Written) → Begins ms → (s : State) × StandsBehind ms s
begun_stands ms h =
    let all : run Start (symbols ms ++ symbols h.rest) ≡ Some (Ended h.tree) = ap (run Start) (sym (symbols_join ms h.rest)
    ∙ ap symbols h.is) ∙ sentence_read h.tree h.names in
    let p = run_parts (symbols ms) (symbols h.rest) Start (Ended h.tree) all in
    let to = way (symbols ms) Start p.0 p.1 in
    let from = way (symbols h.rest) p.0 (Ended h.tree) p.2 in
    let whole : before p.0 ++ from.ms ≡ ms ++ h.rest = sym from.grown ∙ sym h.is in
    let here : symbols (before p.0) ≡ symbols ms = ap symbols to.grown ∙ to.symbols_are in
    (p.0, (p.1, same_front (before p.0) ms from.ms h.rest whole here))

-- where a reader comes, some sentence begins so
pub stands_begins : (ts : List Symbol) (s : State) → run Start ts ≡ Some s → Begins (before s) × (symbols (before s) ≡ ts)
stands_begins ts s e =
    let to = way ts Start s e in
    let end = ends s in
    let from = way end.rest s (Ended end.tree) end.is in
    let names = tree_names end.tree (run_is_named end.rest s (Ended end.tree) end.is (run_is_named ts Start s e tt)) in
    (record { tree = end.tree; names = names; rest = from.ms; is = sym from.grown }, ap symbols to.grown ∙ to.symbols_are)

-- symbols have one reading
pub one_reading : (ms ns : List Written) → Begins ms → Begins ns → symbols ms ≡ symbols ns → ms ≡ ns
one_reading ms ns h k e =
    let a = begun_stands ms h in
    let b = begun_stands ns k in
    let same : ◌≡◌ {A = Option State} (Some a.0) (Some b.0) = sym a.1.0 ∙ ap (run Start) e ∙ b.1.0 in
    let states : a.0 ≡ b.0 = cc in
    sym a.1.1 ∙ ap before states ∙ b.1.1

-- a token list has one tree at most
pub one_tree : (w v : Tree) → HasNames w → HasNames v → symbols (sentence_of w) ≡ symbols (sentence_of v) → w ≡ v
one_tree w v h k e =
    let same : ◌≡◌ {A = Option State} (Some (Ended w)) (Some (Ended v)) =
    sym (sentence_read w h) ∙ ap (run Start) e ∙ sentence_read v k in
    let states : Ended w ≡ Ended v = cc in
    cc
