-- A text appended by a loop.
use Rattle.std.specs.Prelude.{◌≡◌, ℕ, suc, ◌+◌, ◌-◌, ◌<◌, List, [], ◌++◌, length, codes, drop, slice_index_or, Result, refl}
use Rattle.std.specs.Fmt.{decimal}
use Rattle.std.proofs.Common.{◌∙◌, ap, sym, subst, add-one, append_assoc, append-nil, arith}
use Rattle.std.proofs.Math.Seq.{drop-cons}
use Rattle.outside.specs.Sink.{SinkState, Appends, AppendsSoFar}
use Rattle.outside.specs.declared.refusal.Refusal.{Refusal}
use Rattle.outside.proofs.Sinks.{appended-nil}
use Rattle.kernel_code.specs.declared.syntax.KStmt.{KStmt}
use Rattle.text_lines.proofs.PutsLemmas.{both_whole}
use Rattle.text_lines.specs.Puts.{Prints}
use Rattle.kernel_print.specs.Text.{indentation, statement_text, statements_text, workspaces_text, lists_text}
use Rattle.text_lines.proofs.PutPieces.{then_printed}

pub none_so_far : (s : SinkState) (text : List ℕ) → AppendsSoFar s s text text
none_so_far s text = record {
  front = [];
  text_is = refl;
  written_is = sym (appended-nil s.written);
  unfinished_is = refl;
  faults_are = refl;
  wants_are = refl;
  beside_is = refl;
}

front_of : (old mid : SinkState) (text rest : List ℕ) (so_far : AppendsSoFar old mid text rest) → Appends old mid so_far.front
front_of old mid text rest so_far = record {
  written_is = so_far.written_is;
  unfinished_is = so_far.unfinished_is;
  faults_are = so_far.faults_are;
  wants_are = so_far.wants_are;
  beside_is = so_far.beside_is;
}

pub more_so_far : (old mid new : SinkState) (text piece rest : List ℕ)
    → AppendsSoFar old mid text (piece ++ rest) → Appends mid new piece → AppendsSoFar old new text rest
more_so_far old mid new text piece rest so_far more =
    let both = both_whole old mid new so_far.front piece (front_of old mid text (piece ++ rest) so_far) more in record {
      front = so_far.front ++ piece;
      text_is = so_far.text_is ∙ sym (append_assoc so_far.front piece rest);
      written_is = both.written_is;
      unfinished_is = both.unfinished_is;
      faults_are = both.faults_are;
      wants_are = both.wants_are;
      beside_is = both.beside_is;
    }

pub all_so_far : (old new : SinkState) (text rest : List ℕ) → rest ≡ [] → AppendsSoFar old new text rest → Appends old new text
all_so_far old new text rest none so_far =
    let whole : so_far.front ≡ text = sym (so_far.text_is ∙ ap (λ r. so_far.front ++ r) none ∙ append-nil so_far.front) in
    subst (λ (t : List ℕ). Appends old new t) whole (front_of old new text rest so_far)

pub rest_told : (old mid : SinkState) (text rest told : List ℕ) → rest ≡ told → AppendsSoFar old mid text rest
    → AppendsSoFar old mid text told
rest_told old mid text rest told same so_far = subst (λ (r : List ℕ). AppendsSoFar old mid text r) same so_far

module _ {A : Type 0} where
  pub then_rest : (r : Result A Refusal) (old mid new : SinkState) (text rest : List ℕ)
      → AppendsSoFar old mid text rest → Prints mid new rest r → Prints old new text r
  then_rest r old mid new text rest so_far prints =
      subst (λ (t : List ℕ). Prints old new t r) (sym so_far.text_is)
      (then_printed r old mid new so_far.front rest (front_of old mid text rest so_far) prints)

-- what is left where one more is taken
pub statements_step : (depth : ℕ) (ss : List KStmt) (i : ℕ) (s : KStmt) → i < length ss → s ≡ slice_index_or ss i s
    → statements_text depth (drop i ss) ≡ indentation depth ++ (statement_text depth s ++ statements_text depth (drop (i + 1) ss))
statements_step depth ss i s inside is =
    ap (statements_text depth) (drop-cons ss i s inside)
    ∙ ap (λ (x : KStmt). indentation depth ++ (statement_text depth x ++ statements_text depth (drop (suc i) ss))) (sym is)
    ∙ ap (λ (k : ℕ). indentation depth ++ (statement_text depth s ++ statements_text depth (drop k ss))) (sym (add-one i))

pub workspaces_step : (ws : List ℕ) (i keys : ℕ) → i < length ws → keys ≡ slice_index_or ws i 0
    → workspaces_text i (drop i ws)
    ≡ (codes "  workspace w" ++ (decimal i ++ (codes " " ++ (decimal keys ++ codes ";\n")))) ++ workspaces_text (i + 1) (drop (i + 1) ws)
workspaces_step ws i keys inside is =
    let rest : List ℕ = workspaces_text (i + 1) (drop (i + 1) ws) in
    ap (workspaces_text i) (drop-cons ws i 0 inside)
    ∙ ap (λ (x : ℕ). codes "  workspace w"
    ++ (decimal i ++ (codes " " ++ (decimal x ++ (codes ";\n" ++ workspaces_text (suc i) (drop (suc i) ws)))))) (sym is)
    ∙ ap (λ (k : ℕ). codes "  workspace w"
    ++ (decimal i ++ (codes " " ++ (decimal keys ++ (codes ";\n" ++ workspaces_text k (drop k ws)))))) (sym (add-one i))
    ∙ ap (λ (t : List ℕ). codes "  workspace w" ++ (decimal i ++ (codes " " ++ t))) (sym (append_assoc (decimal keys) (codes ";\n") rest))
    ∙ ap (λ (t : List ℕ). codes "  workspace w" ++ t) (sym (append_assoc (decimal i) (codes " " ++ (decimal keys ++ codes ";\n")) rest))

pub lists_step : (count n : ℕ) → n < count
    → lists_text n (count - n) ≡ (codes "  scratch g" ++ (decimal n ++ codes ";\n")) ++ lists_text (n + 1) (count - (n + 1))
lists_step count n inside =
    let one : count - n ≡ suc (count - (n + 1)) = omega arith in
    ap (lists_text n) one
    ∙ ap (λ (k : ℕ). codes "  scratch g" ++ (decimal n ++ (codes ";\n" ++ lists_text k (count - (n + 1))))) (sym (add-one n))
    ∙ ap (λ (t : List ℕ). codes "  scratch g" ++ t) (sym (append_assoc (decimal n) (codes ";\n") (lists_text (n + 1) (count - (n + 1)))))
