-- A text appended piece by piece, and by a loop.
use Rattle.std.specs.Prelude.{◌≡◌, ℕ, List, [], ◌++◌, Result, Ok, Err, OnOk, IfErr, refl}
use Rattle.std.specs.Result.{IsErrAnd}
use Rattle.std.proofs.Common.{◌∙◌, ap, sym, subst, append_assoc, append-nil}
use Rattle.outside.specs.Sink.{SinkState, Appends, AppendsSoFar}
use Rattle.outside.specs.declared.refusal.Refusal.{Refusal}
use Rattle.outside.proofs.Sinks.{appended-nil}
use Rattle.text_lines.specs.Puts.{AppendsPart, Prints}
use Rattle.text_lines.proofs.PutsLemmas.{both_whole, part_of_first, part_of_second}

module _ {A : Type 0} where
  -- both clauses of a call as one fact
  pub printed : (r : Result A Refusal) (old new : SinkState) (text : List ℕ)
      → OnOk r (Appends old new text) → IfErr r (AppendsPart old new text) → Prints old new text r
  printed (Ok done) old new text whole part = whole
  printed (Err why) old new text whole part = part

  -- a piece behind one that was appended
  pub then_printed : (r : Result A Refusal) (old mid new : SinkState) (a b : List ℕ)
      → Appends old mid a → Prints mid new b r → Prints old new (a ++ b) r
  then_printed (Ok done) old mid new a b first second = both_whole old mid new a b first second
  then_printed (Err why) old mid new a b first second = part_of_second old mid new a b why first second

  -- a piece that was refused, of a text that goes on behind it
  pub refused : (r : Result A Refusal) (why : Refusal) (old new : SinkState) (a b : List ℕ)
      → IsErrAnd r (λ e. e ≡ why) → AppendsPart old new a why → Prints old new (a ++ b) r
  refused (Ok done) why old new a b same part = absurd same
  refused (Err e) why old new a b same part =
      part_of_first old new a b e (subst (λ (w : Refusal). AppendsPart old new a w) (sym same) part)

  -- the last piece, refused
  pub refused_last : (r : Result A Refusal) (why : Refusal) (old new : SinkState) (text : List ℕ)
      → IsErrAnd r (λ e. e ≡ why) → AppendsPart old new text why → Prints old new text r
  refused_last (Ok done) why old new text same part = absurd same
  refused_last (Err e) why old new text same part = subst (λ (w : Refusal). AppendsPart old new text w) (sym same) part

  -- the same text in other words
  pub retold : (r : Result A Refusal) (old new : SinkState) (text told : List ℕ)
      → told ≡ text → Prints old new told r → Prints old new text r
  retold r old new text told same prints = subst (λ (t : List ℕ). Prints old new t r) same prints

  -- the fact as a call's clause
  pub part_printed : (r : Result A Refusal) (old new : SinkState) (text : List ℕ) → Prints old new text r
      → IfErr r (AppendsPart old new text)
  part_printed (Ok done) old new text prints = tt
  part_printed (Err why) old new text prints = prints

pub none_so_far : (s : SinkState) (text : List ℕ) → AppendsSoFar s s text text
none_so_far s text = record {
  front = [];
  text_is = refl;
  written_is = sym (appended-nil s.written);
  unfinished_is = refl;
  faults_are = refl;
  wants_are = refl;
  beside_is = refl;
}

front_of : (old mid : SinkState) (text rest : List ℕ) (so_far : AppendsSoFar old mid text rest) → Appends old mid so_far.front
front_of old mid text rest so_far = record {
  written_is = so_far.written_is;
  unfinished_is = so_far.unfinished_is;
  faults_are = so_far.faults_are;
  wants_are = so_far.wants_are;
  beside_is = so_far.beside_is;
}

pub more_so_far : (old mid new : SinkState) (text piece rest : List ℕ)
    → AppendsSoFar old mid text (piece ++ rest) → Appends mid new piece → AppendsSoFar old new text rest
more_so_far old mid new text piece rest so_far more =
    let both = both_whole old mid new so_far.front piece (front_of old mid text (piece ++ rest) so_far) more in record {
      front = so_far.front ++ piece;
      text_is = so_far.text_is ∙ sym (append_assoc so_far.front piece rest);
      written_is = both.written_is;
      unfinished_is = both.unfinished_is;
      faults_are = both.faults_are;
      wants_are = both.wants_are;
      beside_is = both.beside_is;
    }

pub all_so_far : (old new : SinkState) (text rest : List ℕ) → rest ≡ [] → AppendsSoFar old new text rest → Appends old new text
all_so_far old new text rest none so_far =
    let whole : so_far.front ≡ text = sym (so_far.text_is ∙ ap (λ r. so_far.front ++ r) none ∙ append-nil so_far.front) in
    subst (λ (t : List ℕ). Appends old new t) whole (front_of old new text rest so_far)

pub rest_told : (old mid : SinkState) (text rest told : List ℕ) → rest ≡ told → AppendsSoFar old mid text rest
    → AppendsSoFar old mid text told
rest_told old mid text rest told same so_far = subst (λ (r : List ℕ). AppendsSoFar old mid text r) same so_far

module _ {A : Type 0} where
  pub then_rest : (r : Result A Refusal) (old mid new : SinkState) (text rest : List ℕ)
      → AppendsSoFar old mid text rest → Prints mid new rest r → Prints old new text r
  then_rest r old mid new text rest so_far prints =
      subst (λ (t : List ℕ). Prints old new t r) (sym so_far.text_is)
      (then_printed r old mid new so_far.front rest (front_of old mid text rest so_far) prints)
