-- What a sink was given of one text and then of another.
use Rattle.std.specs.Prelude.{◌≡◌, ℕ, ◌<◌, List, ◌++◌, length, Option, Result, Ok, Err, OnOk}
use Rattle.std.proofs.Common.{◌∙◌, ap, sym, subst, append_assoc, arith, length-append}
use Rattle.outside.specs.Folder.{appended}
use Rattle.outside.specs.Refusal.{IsCounted}
use Rattle.outside.specs.Sink.{SinkState, Refuses, Appends, AppendsSoFar, due_after}
use Rattle.outside.specs.declared.refusal.Refusal.{Refusal}
use Rattle.outside.proofs.Sinks.{appended-append, due_append}
use Rattle.text_lines.specs.Puts.{PutsLess, AppendsPart}

-- a count that rose rose from what it was before
counted_from : (why : Refusal) (f g f' w v w' : ℕ) → g ≡ f → v ≡ w → IsCounted why g f' v w' → IsCounted why f f' w w'
counted_from why f g f' w v w' e h counted = subst (λ k. IsCounted why k f' w w') e (subst (λ k. IsCounted why g f' k w') h counted)

-- a part of the first text is a part of both, and so is the first with a part of the second
abbrev less_of_first : (old new : Option (List ℕ)) (a b : List ℕ) → PutsLess old new a → PutsLess old new (a ++ b)
less_of_first old new a b less = record {
  front = less.front;
  rest = less.rest ++ b;
  text_is = ap (λ t. t ++ b) less.text_is ∙ append_assoc less.front less.rest b;
  short = simp length-append (omega (arith, less.short));
  written_is = less.written_is;
}

abbrev less_of_second : (old mid new : Option (List ℕ)) (a b : List ℕ) → mid ≡ appended old a → PutsLess mid new b
    → PutsLess old new (a ++ b)
less_of_second old mid new a b first less = record {
  front = a ++ less.front;
  rest = less.rest;
  text_is = ap (λ t. a ++ t) less.text_is ∙ sym (append_assoc a less.front less.rest);
  short = less.short;
  written_is = less.written_is ∙ ap (λ o. appended o less.front) first ∙ appended-append old a less.front;
}

-- a refusal behind what was appended so far
pub part_so_far : (old mid new : SinkState) (text rest : List ℕ) (why : Refusal) → AppendsSoFar old mid text rest
    → 0 < length rest → Refuses mid new why → AppendsPart old new text why
part_so_far old mid new text rest why so_far some refuses = record {
  less = record {
    front = so_far.front;
    rest = rest;
    text_is = so_far.text_is;
    short = some;
    written_is = refuses.written_is ∙ so_far.written_is;
  };
  counted = counted_from why _ _ _ _ _ _ so_far.faults_are so_far.wants_are refuses.counted;
  unfinished_is = refuses.unfinished_is ∙ so_far.unfinished_is;
  beside_is = refuses.beside_is ∙ so_far.beside_is;
}

pub part_of_first : (old new : SinkState) (a b : List ℕ) (why : Refusal) → AppendsPart old new a why → AppendsPart old new (a ++ b) why
part_of_first old new a b why part = record {
  less = less_of_first old.written new.written a b part.less;
  counted = part.counted;
  unfinished_is = part.unfinished_is;
  beside_is = part.beside_is;
}

pub part_of_second : (old mid new : SinkState) (a b : List ℕ) (why : Refusal) → Appends old mid a → AppendsPart mid new b why
    → AppendsPart old new (a ++ b) why
part_of_second old mid new a b why first part = record {
  less = less_of_second old.written mid.written new.written a b first.written_is part.less;
  counted = counted_from why _ _ _ _ _ _ first.faults_are first.wants_are part.counted;
  unfinished_is = part.unfinished_is ∙ ap (due_after part.less.front) first.unfinished_is
      ∙ due_append a part.less.front old.unfinished;
  beside_is = part.beside_is ∙ first.beside_is;
}

pub both_whole : (old mid new : SinkState) (a b : List ℕ) → Appends old mid a → Appends mid new b → Appends old new (a ++ b)
both_whole old mid new a b first second = record {
  written_is = second.written_is ∙ ap (λ o. appended o b) first.written_is ∙ appended-append old.written a b;
  unfinished_is = second.unfinished_is ∙ ap (due_after b) first.unfinished_is ∙ due_append a b old.unfinished;
  faults_are = second.faults_are ∙ first.faults_are;
  wants_are = second.wants_are ∙ first.wants_are;
  beside_is = second.beside_is ∙ first.beside_is;
}

-- what follows from a fact on one side of an answer
pub on_ok_then : {A E : Type 0} (r : Result A E) (P Q : Type 0) → (P → Q) → OnOk r P → OnOk r Q
on_ok_then (Ok x) P Q f h = f h
on_ok_then (Err e) P Q f h = h
