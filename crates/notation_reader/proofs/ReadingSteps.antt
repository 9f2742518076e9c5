-- How far a reader has come.
use Rattle.std.specs.Prelude.{◌≡◌, ℕ, ◌+◌, ◌<◌, ◌≤◌, nat_lt, Bool, true, false, Option, Some, None, List, [], ◌∷◌, ◌++◌, cond, length}
use Rattle.std.specs.Prelude.{take, get_or, zero, suc, refl}
use Rattle.std.proofs.Common.{sym, ◌∙◌, ap, subst, arith}
use Rattle.std.proofs.lemmas.Bool.{ltb-false}
use Rattle.std.proofs.Math.Seq.{take-suc}
use Rattle.limits.specs.Limits.{greatest_accesses, greatest_operands, greatest_literal}
use Rattle.notation_grammar.specs.declared.symbol.Symbol.{Symbol}
use Rattle.notation_grammar.specs.declared.fault.Counted.TheVariants.{Operands}
use Rattle.notation_grammar.specs.declared.fault.SymbolFault.{SymbolFault}
use Rattle.notation_grammar.specs.declared.fault.SymbolFault.TheVariants.{TooMany, LiteralRange}
use Rattle.notation_reader.specs.declared.position.Lead.{Lead}
use Rattle.notation_reader.specs.declared.position.Lead.TheVariants as lead
use Rattle.notation_reader.specs.declared.position.Position.{Position}
use Rattle.notation_reader.specs.declared.counts.Counts.{Counts}
use Rattle.notation_reader.specs.declared.builder.Builder.{Builder}
use Rattle.notation_grammar.specs.Grammar.{Tree, sentence_of}
use Rattle.index_notation.specs.Numbering.{distinct}
use Rattle.notation_reader.specs.Machine.{State, Start, Named, WantsVariable, BehindVariable, BehindLeft, WantsFactor, NamedSum}
use Rattle.notation_reader.specs.Machine.{WantsBound, BehindBound, Behind, Ended, Left, Right, run, before}
use Rattle.notation_reader.proofs.MachineLaws.{some_is}
use Rattle.notation_reader.proofs.ReadingLaws.{sentence_read}
use Rattle.notation_grammar.specs.Faults.{above, number_of, variables_in, symbols_of, IsFirstFault, IsTreeOf}
use Rattle.notation_reader.proofs.FaultLaws.{run_on, faultless_on, taken_has_no_fault}
use Rattle.notation_reader.specs.Leads.{lead_of}
use Rattle.notation_reader.specs.Shown.{show}
use Rattle.notation_reader.specs.Counting.{CountsSymbol, number_fault}
use Rattle.notation_reader.specs.Judging.{IsRefused, IsTaken, HasLast}
use Rattle.notation_reader.proofs.JudgingLaws.{Comes, fault_of, tree_found}
use Rattle.notation_reader.specs.Building.{built, Builds}
use Rattle.notation_grammar.specs.TreeStatement.{sum_expr, accesses_of_tree}
use Rattle.notation_reader.specs.Sums.{written_in_sum}
use Rattle.index_notation.specs.declared.token.WrittenAccess.{WrittenAccess}
use Rattle.notation_grammar.specs.declared.symbol.PlacedSymbol.{PlacedSymbol}
use Rattle.notation_reader.specs.declared.reader.Reader.{Reader}
use Rattle.notation_reader.specs.Accesses.{accesses_so_far, Mentions}
use Rattle.notation_reader.specs.Reading.{Shows, IsTakenBy}
use Rattle.notation_reader.proofs.AccessLaws.{says}
use Rattle.notation_reader.proofs.AnswerLaws.{symbols_append}
use Rattle.notation_reader.proofs.BuildLaws.{builds}

pub not_above : (b : Bool) (f : SymbolFault) (o : Option SymbolFault) → cond b (Some f) o ≡ None → (b ≡ false) × (o ≡ None)
not_above false f o e = (refl, e)
not_above true f o e = absurd (let no = e in cc)

pub number_small : (c : Counts) (t : Symbol) → None ≡ number_fault c t → number_of t ≤ greatest_literal
number_small c t e =
    let first = not_above (nat_lt greatest_operands (c.operands + 1)) (TooMany Operands)
    (above greatest_literal (number_of t) LiteralRange None) (sym e) in
    let second = not_above (nat_lt greatest_literal (number_of t)) LiteralRange None first.1 in
    ltb-false greatest_literal (number_of t) second.0

-- the counted symbols have small numbers
pub counted_small : (c d : Counts) (l : ℕ) (t : Symbol) (at : Lead) → CountsSymbol c l t at None d → at ≡ lead.Number
    → number_of t ≤ greatest_literal
counted_small c d l t at k e = number_small c t (subst (λ (x : Lead). CountsSymbol c l t x None d) e k).0

-- the minuses that are built are those that are shown
pub same_minuses : (s : State) → (built s).frame.minuses ≡ (show s).minuses
same_minuses Start = refl
same_minuses (Named Left name) = refl
same_minuses (Named (Right place) name) = refl
same_minuses (WantsVariable Left name vars) = refl
same_minuses (WantsVariable (Right place) name vars) = refl
same_minuses (BehindVariable Left name vars var) = refl
same_minuses (BehindVariable (Right place) name vars var) = refl
same_minuses (BehindLeft access) = refl
same_minuses (WantsFactor place) = refl
same_minuses (NamedSum place) = refl
same_minuses (WantsBound place) = refl
same_minuses (BehindBound place var) = refl
same_minuses (Behind place p) = refl
same_minuses (Ended tree) = refl

-- a reader has come behind these symbols
pub record HasRead (ts : List Symbol) (r : Reader) : Type 0 where
  pub comes : Comes ts r.position r.counts
  pub accesses : accesses_so_far comes.state ≡ r.accesses
  pub is_built : built comes.state ≡ r.builder

pub read_first : (r : Reader) → Shows Start r → HasRead [] r
read_first r h = record {
  comes = record { state = Start; runs = refl; shows = h.position; counted = h.counted; faultless = tt };
  accesses = h.accesses;
  is_built = h.is_built;
}

pub shown_so : (ts : List Symbol) (r : Reader) (h : HasRead ts r) → Shows h.comes.state r
shown_so ts r h = record { position = h.comes.shows; counted = h.comes.counted; accesses = h.accesses; is_built = h.is_built }

-- a symbol is taken, its accesses kept, and its expression built
pub taken_by : (s : State) (t : Symbol) (r q : Reader) → Shows s r → IsTaken s t q.position q.counts
    → Mentions t (lead_of r.position.stand t) r.accesses q.accesses
    → Builds r.builder r.position.stand t (lead_of r.position.stand t) q.builder → IsTakenBy s t q
taken_by s t r q h k m w =
    let mentioned : Mentions t (lead_of (show s).stand t) (accesses_so_far s) q.accesses =
    subst (λ (x : List WrittenAccess). Mentions t (lead_of (show s).stand t) x q.accesses) (sym h.accesses)
    (subst (λ (x : Position). Mentions t (lead_of x.stand t) r.accesses q.accesses) (sym h.position) m) in
    let done : Builds (built s) (show s).stand t (lead_of (show s).stand t) q.builder =
    subst (λ (x : Builder). Builds x (show s).stand t (lead_of (show s).stand t) q.builder) (sym h.is_built)
    (subst (λ (x : Position). Builds r.builder x.stand t (lead_of x.stand t) q.builder) (sym h.position) w) in
    record {
      taken = k;
      accesses = says s t k.next q.accesses k.steps mentioned;
      is_built = builds s t k.next q.builder k.steps done;
    }

pub read_on : (ts : List Symbol) (t : Symbol) (r q : Reader) → HasRead ts r → ((s : State) → Shows s r → IsTakenBy s t q)
    → HasRead (ts ++ (t ∷ [])) q
read_on ts t r q h j =
    let k = j h.comes.state (shown_so ts r h) in
    record {
      comes = record {
        state = k.taken.next;
        runs = run_on ts t Start h.comes.state k.taken.next h.comes.runs k.taken.steps;
        shows = k.taken.shows;
        counted = k.taken.counted;
        faultless = faultless_on [] ts t h.comes.faultless
            (taken_has_no_fault ts t h.comes.state k.taken.next h.comes.runs k.taken.steps k.taken.within);
      };
      accesses = k.accesses;
      is_built = k.is_built;
    }

pub read_minuses : (ts : List Symbol) (r : Reader) → HasRead ts r → r.builder.frame.minuses ≡ r.position.minuses
read_minuses ts r h = ap (λ (x : Builder). x.frame.minuses) (sym h.is_built) ∙ same_minuses h.comes.state
    ∙ ap (λ (x : Position). x.minuses) h.comes.shows

-- the tree that is read, with its accesses, its variables, its nested sums and its expression
pub record IsWholeTree (ts : List Symbol) (r : Reader) : Type 0 where
  pub tree : Tree
  pub is_tree : IsTreeOf ts tree
  pub accesses : r.accesses ≡ accesses_of_tree tree
  pub vars : r.counts.vars ≡ distinct (variables_in (sentence_of tree))
  pub sums : r.builder.sums ≡ written_in_sum 0 greatest_accesses tree.right
  pub expr : r.builder.result ≡ Some (sum_expr 0 greatest_accesses tree.right)

pub whole_tree : (ts : List Symbol) (r : Reader) → HasLast ts → HasRead ts r → IsWholeTree ts r
whole_tree ts r l h =
    let f = tree_found ts r.position r.counts l h.comes in
    let ran : run Start ts ≡ Some (Ended f.0) = ap (run Start) f.1.is ∙ sentence_read f.0 f.1.names in
    let there : h.comes.state ≡ Ended f.0 = some_is h.comes.state (Ended f.0) (sym h.comes.runs ∙ ran) in
    record {
      tree = f.0;
      is_tree = f.1;
      accesses = sym h.accesses ∙ ap accesses_so_far there;
      vars = h.comes.counted.vars ∙ ap (λ (s : State). distinct (variables_in (before s))) there;
      sums = ap (λ (x : Builder). x.sums) (sym h.is_built) ∙ ap (λ (s : State). (built s).sums) there;
      expr = ap (λ (x : Builder). x.result) (sym h.is_built) ∙ ap (λ (s : State). (built s).result) there;
    }

split_at : (i : ℕ) (xs : List PlacedSymbol) (x : PlacedSymbol) → i < length xs → x ≡ get_or xs i x
    → (later : List PlacedSymbol) × (xs ≡ take i xs ++ (x ∷ later))
split_at zero [] x h e = absurd (omega arith)
split_at zero (y ∷ ys) x h e = (ys, ap (λ (z : PlacedSymbol). z ∷ ys) (sym e))
split_at (suc i) [] x h e = absurd (omega arith)
split_at (suc i) (y ∷ ys) x h e = let r = split_at i ys x (omega (arith, h)) e in (r.0, ap (λ (zs : List PlacedSymbol). y ∷ zs) r.1)

one_more : (i : ℕ) (xs : List PlacedSymbol) (x : PlacedSymbol) → i < length xs → x ≡ get_or xs i x
    → symbols_of (take (i + 1) xs) ≡ symbols_of (take i xs) ++ (x.symbol ∷ [])
one_more i xs x h e =
    let n : i + 1 ≡ suc i = omega arith in
    ap symbols_of (ap (λ k. take k xs) n ∙ take-suc xs i x h ∙ ap (λ (y : PlacedSymbol). take i xs ++ (y ∷ [])) (sym e))
    ∙ symbols_append (take i xs) (x ∷ [])

-- one symbol further
pub read_more : (i : ℕ) (xs : List PlacedSymbol) (x : PlacedSymbol) (r q : Reader) → i < length xs → x ≡ get_or xs i x
    → HasRead (symbols_of (take i xs)) r → ((s : State) → Shows s r → IsTakenBy s x.symbol q) → HasRead (symbols_of (take (i + 1) xs)) q
read_more i xs x r q h e k j =
    subst (λ (ts : List Symbol). HasRead ts q) (sym (one_more i xs x h e)) (read_on (symbols_of (take i xs)) x.symbol r q k j)

-- the symbol at the index is the first that is faulty
pub fault_found : (i : ℕ) (xs : List PlacedSymbol) (x : PlacedSymbol) (r : Reader) (f : SymbolFault) → i < length xs → x ≡ get_or xs i x
    → HasRead (symbols_of (take i xs)) r → ((s : State) → Shows s r → IsRefused s x.symbol f) → IsFirstFault xs x.at f
fault_found i xs x r f h e k j =
    let parts = split_at i xs x h e in
    record {
      earlier = take i xs;
      faulty = x;
      later = parts.0;
      all_are = parts.1;
      place = refl;
      none_before = k.comes.faultless;
      is = fault_of (symbols_of (take i xs)) x.symbol k.comes.state f k.comes.runs
          (j k.comes.state (shown_so (symbols_of (take i xs)) r k));
    }
