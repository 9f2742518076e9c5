-- A text has one list of symbols, and one answer: a statement or a fault.
use Rattle.std.specs.Prelude.{Bool, ◌≡◌, ℕ, ◌<◌, ◌≤◌, List, [], ◌∷◌, length, map, refl}
use Rattle.std.proofs.Common.{sym, ◌∙◌, ap, subst, arith}
use Rattle.limits.specs.Limits.{greatest_text_bytes}
use Rattle.notation_grammar.specs.declared.symbol.Symbol.{Symbol}
use Rattle.notation_grammar.specs.declared.symbol.Symbol.TheVariants.{Lexeme, End, Stray}
use Rattle.notation_grammar.specs.declared.symbol.PlacedSymbol.{PlacedSymbol}
use Rattle.index_notation.specs.declared.syntax.Statement.{Statement}
use Rattle.index_notation.specs.declared.token.WrittenAccess.{WrittenAccess}
use Rattle.notation_grammar.specs.declared.fault.NotationFault.{NotationFault}
use Rattle.notation_grammar.specs.declared.fault.NotationFault.TheVariants.{TextLength, BadNotation, TooDeep, TooMany, LiteralRange, Memory}
use Rattle.notation_grammar.specs.Grammar.{Tree}
use Rattle.notation_grammar.specs.Faults.{symbols_of, IsFirstFault, IsTreeOf, HaveNoFault}
use Rattle.index_notation.specs.Numbering.{distinct}
use Rattle.notation_grammar.specs.Symbols.{StartsWith, AreSymbols}
use Rattle.notation_grammar.specs.TreeStatement.{accesses_of_sum, variables_of_tree, reads_in_sum, sum_expr, sums_of_sum}
use Rattle.notation_grammar.specs.TreeStatement.{numbered_statement, statement_of_tree}
use Rattle.notation_reader.specs.declared.reader.Reading.{Reading}
use Rattle.notation_reader.specs.Reading.{IsReadingOf}
use Rattle.notation_reader.specs.Sums.{rebased, numbered_sum}
use Rattle.notation_grammar.specs.Notation.{IsNotationOf, at_byte, HasFaultySymbol, IsFaultOf}
use Rattle.index_notation.proofs.TokenLaws.{next_once, token_full}
use Rattle.notation_reader.specs.Assigning.{accumulates}
use Rattle.notation_reader.proofs.TreeMarks.{tree_assigns}
use Rattle.notation_reader.proofs.ReadingLaws.{one_tree}
use Rattle.notation_reader.proofs.AnswerLaws.{first_once, tree_or_fault}
use Rattle.notation_reader.proofs.TreeNumbers.{reads_are_few, sum_reads, sentence_written}
use Rattle.notation_reader.proofs.TreeSums.{expr_moved, sums_moved}

abbrev Once : ℕ → List PlacedSymbol → List PlacedSymbol → Type 0
Once size ps qs = (rest : List ℕ) → AreSymbols size rest ps → AreSymbols size rest qs → ps ≡ qs

starts_once : (size : ℕ) (text : List ℕ) (ps qs : List PlacedSymbol) (t u : Symbol) → Once size ps qs
    → StartsWith text (λ rest. AreSymbols size rest ps) (ps ≡ []) t → StartsWith text (λ rest. AreSymbols size rest qs) (qs ≡ []) u
    → (t ≡ u) × (ps ≡ qs)
starts_once size text ps qs (Lexeme t) (Lexeme u) once h k =
    let same = next_once text t u h.0 k.0 h.1 k.1 in
    (ap Lexeme same.0, once k.0 (subst (λ (r : List ℕ). AreSymbols size r ps) same.1 h.2) k.2)
starts_once size text ps qs (Lexeme t) End once h k = absurd (token_full t h.0 h.1.stands (sym h.1.spelled ∙ k.0))
starts_once size text ps qs (Lexeme t) Stray once h k = absurd (k.1 t h.0 h.1)
starts_once size text ps qs End (Lexeme u) once h k = absurd (token_full u k.0 k.1.stands (sym k.1.spelled ∙ h.0))
starts_once size text ps qs End End once h k = (refl, h.1 ∙ sym k.1)
starts_once size text ps qs End Stray once h k = absurd (k.0 h.0)
starts_once size text ps qs Stray (Lexeme u) once h k = absurd (h.1 u k.0 k.1)
starts_once size text ps qs Stray End once h k = absurd (h.0 k.0)
starts_once size text ps qs Stray Stray once h k = (refl, h.2 ∙ sym k.2)

-- a text has one list of symbols
pub symbols_once : (size : ℕ) (text : List ℕ) (ps qs : List PlacedSymbol) → AreSymbols size text ps → AreSymbols size text qs → ps ≡ qs
symbols_once size text [] qs h k = absurd h
symbols_once size text (p ∷ ps) [] h k = absurd k
symbols_once size text (p ∷ ps) (q ∷ qs) h k =
    let at : p.at ≡ q.at = h.0 ∙ sym k.0 in
    let same = starts_once size text ps qs p.symbol q.symbol (λ rest a b. symbols_once size rest ps qs a b) h.1 k.1 in
    λ i. record { symbol = same.0 i; at = at i } ∷ same.1 i

-- a text has one statement
pub statement_once : (text : List ℕ) (s t : Statement) → IsNotationOf text s → IsNotationOf text t → s ≡ t
statement_once text s t h k =
    let placed = symbols_once (length text) text h.placed k.placed h.are_symbols k.are_symbols in
    let tree : h.tree ≡ k.tree = one_tree h.tree k.tree h.is_tree.names k.is_tree.names
    (sym h.is_tree.is ∙ ap symbols_of placed ∙ k.is_tree.is) in
    h.is ∙ ap statement_of_tree tree ∙ sym k.is

-- the two kinds of fault
data Told (text : List ℕ) (f : NotationFault) : Type 0 where
  too_long : f ≡ TextLength → greatest_text_bytes < length text → Told text f
  faulty : HasFaultySymbol text f → Told text f

told : (text : List ℕ) (f : NotationFault) → IsFaultOf text f → Told text f
told text TextLength h = too_long refl h
told text (BadNotation at) h = faulty h
told text (TooDeep at) h = faulty h
told text (TooMany what at) h = faulty h
told text (LiteralRange at) h = faulty h
told text (Memory error) h = absurd h

never_long : {A : Type 0} (text : List ℕ) → greatest_text_bytes < length text → length text ≤ greatest_text_bytes → A
never_long text h k = absurd (omega (arith, h, k))

faulty_once : (text : List ℕ) (f g : NotationFault) → HasFaultySymbol text f → HasFaultySymbol text g → f ≡ g
faulty_once text f g h k =
    let placed = symbols_once (length text) text h.placed k.placed h.are_symbols k.are_symbols in
    let same = first_once k.placed h.at k.at h.symbol_fault k.symbol_fault
    (subst (λ (ps : List PlacedSymbol). IsFirstFault ps h.at h.symbol_fault) placed h.first) k.first in
    h.is ∙ (λ i. at_byte (same.0 i) (same.1 i)) ∙ sym k.is

told_once : (text : List ℕ) (f g : NotationFault) → Told text f → Told text g → f ≡ g
told_once text f g (too_long e h) (too_long i k) = e ∙ sym i
told_once text f g (too_long e h) (faulty k) = never_long text h k.short
told_once text f g (faulty h) (too_long i k) = never_long text k h.short
told_once text f g (faulty h) (faulty k) = faulty_once text f g h k

-- a text has one fault
pub fault_once : (text : List ℕ) (f g : NotationFault) → IsFaultOf text f → IsFaultOf text g → f ≡ g
fault_once text f g h k = told_once text f g (told text f h) (told text g k)

never_told : (text : List ℕ) (s : Statement) (f : NotationFault) → IsNotationOf text s → Told text f → ⊥
never_told text s f h (too_long e k) = never_long text k h.short
never_told text s f h (faulty k) =
    let placed = symbols_once (length text) text h.placed k.placed h.are_symbols k.are_symbols in
    tree_or_fault k.placed h.tree k.at k.symbol_fault
    (subst (λ (ps : List PlacedSymbol). IsTreeOf (symbols_of ps) h.tree) placed h.is_tree) k.first

-- and not both
pub never_both : (text : List ℕ) (s : Statement) (f : NotationFault) → IsNotationOf text s → IsFaultOf text f → ⊥
never_both text s f h k = never_told text s f h (told text f k)

-- the statement of a reading, by the accesses of its tree
abbrev statement_by : Reading → WrittenAccess → Bool → List WrittenAccess → Statement
statement_by reading left flag right =
    numbered_statement left flag reading.vars right (map (numbered_sum reading.vars (length right)) reading.sums)
    (rebased (length right) reading.expr)

tree_statement : (ts : List Symbol) (tree : Tree) (reading : Reading) → IsTreeOf ts tree → IsReadingOf tree reading
    → statement_by reading tree.left.access tree.left.accumulate (accesses_of_sum tree.right) ≡ statement_of_tree tree
tree_statement ts tree reading h k =
    let right = accesses_of_sum tree.right in
    let count : length right ≡ reads_in_sum tree.right = sym (sum_reads tree.right) in
    let few = reads_are_few tree h.names (subst (λ (us : List Symbol). HaveNoFault [] us) h.is h.within) in
    let vars : reading.vars ≡ distinct (variables_of_tree tree) = k.vars ∙ ap distinct (sentence_written tree) in
    (λ i. numbered_statement tree.left.access tree.left.accumulate (vars i) right
    (map (numbered_sum (vars i) (length right)) (k.sums i)) (rebased (length right) (k.expr i)))
    ∙ (λ i. numbered_statement tree.left.access tree.left.accumulate (distinct (variables_of_tree tree)) right
    (sums_moved (distinct (variables_of_tree tree)) (length right) tree.right count few i)
    (expr_moved (length right) tree.right count few i))
    ∙ (λ i. numbered_statement tree.left.access tree.left.accumulate (distinct (variables_of_tree tree)) right
    (sums_of_sum (distinct (variables_of_tree tree)) 0 (count i) tree.right) (sum_expr 0 (count i) tree.right))

-- the statement of what was read is the text's
pub parsed : (text bytes : List ℕ) (ps slice : List PlacedSymbol) (reading : Reading) (flag : Bool) (s : Statement)
    → bytes ≡ text → length bytes ≤ greatest_text_bytes → AreSymbols (length bytes) bytes ps → slice ≡ ps
    → (tree : Tree) × IsTreeOf (symbols_of slice) tree × IsReadingOf tree reading
    → flag ≡ accumulates (symbols_of slice) → ((left : WrittenAccess) (right : List WrittenAccess) → reading.accesses ≡ left ∷ right
    → s ≡ statement_by reading left flag right) → IsNotationOf text s
parsed text bytes ps slice reading flag s same short are e h f n = record {
  placed = ps;
  tree = h.0;
  short = subst (λ (t : List ℕ). length t ≤ greatest_text_bytes) same short;
  are_symbols = subst (λ (t : List ℕ). AreSymbols (length t) t ps) same are;
  is_tree = subst (λ (qs : List PlacedSymbol). IsTreeOf (symbols_of qs) h.0) e h.1;
  is = n h.0.left.access (accesses_of_sum h.0.right) h.2.accesses
      ∙ ap (λ b. statement_by reading h.0.left.access b (accesses_of_sum h.0.right)) mark
      ∙ tree_statement (symbols_of slice) h.0 reading h.1 h.2;
}
  where
    mark : flag ≡ h.0.left.accumulate
    mark = f ∙ ap accumulates h.1.is ∙ tree_assigns h.0
