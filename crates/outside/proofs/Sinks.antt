-- What a sink is given piece by piece.
use Rattle.std.proofs.Common.{Option, None, Some, Bool, true, List, [], ◌∷◌, ◌++◌, ◌≡◌, ◌<◌, ℕ, zero, suc, length, take, drop, refl, sym, ap, ◌∙◌}
use Rattle.std.proofs.Common.{append_assoc, append-nil, arith}
use Rattle.std.proofs.lemmas.List.{take-append-drop}
use Rattle.outside.specs.Folder.{appended}
use Rattle.outside.specs.Sink.{SinkState, Takes, AppendsSoFar, due_after}

pub appended-nil : (old : Option (List ℕ)) → appended old [] ≡ old
appended-nil None = refl
appended-nil (Some bytes) = ap Some (append-nil bytes)

pub appended-append : (old : Option (List ℕ)) (a b : List ℕ) → appended (appended old a) b ≡ appended old (a ++ b)
appended-append None a b = refl
appended-append (Some bytes) a b = ap Some (append_assoc bytes a b)

pub due_append : (a b : List ℕ) (due : Bool) → due_after b (due_after a due) ≡ due_after (a ++ b) due
due_append [] b due = refl
due_append (x ∷ a) [] due = refl
due_append (x ∷ a) (y ∷ b) due = refl

-- some bytes of a piece that isn't empty
due_taken : (piece : List ℕ) (n : ℕ) (due : Bool) → 0 < length piece → 0 < n → due_after (take n piece) due ≡ true
due_taken [] n due some taken = absurd (omega (arith, some))
due_taken (byte ∷ piece) zero due some taken = absurd (omega (arith, taken))
due_taken (byte ∷ piece) (suc n) due some taken = refl

pub so_far_more : (old mid new : SinkState) (text rest : List ℕ) (n : ℕ) → 0 < length rest → AppendsSoFar old mid text rest
    → Takes mid new rest n → AppendsSoFar old new text (drop n rest)
so_far_more old mid new text rest n some so_far takes = record {
  front = so_far.front ++ take n rest;
  text_is = so_far.text_is ∙ ap (λ r. so_far.front ++ r) (sym (take-append-drop n rest))
      ∙ sym (append_assoc so_far.front (take n rest) (drop n rest));
  written_is = takes.written_is ∙ ap (λ o. appended o (take n rest)) so_far.written_is
      ∙ appended-append old.written so_far.front (take n rest);
  unfinished_is = takes.unfinished_is ∙ sym (due_taken rest n (due_after so_far.front old.unfinished) some (takes.progress some))
      ∙ due_append so_far.front (take n rest) old.unfinished;
  faults_are = takes.faults_are ∙ so_far.faults_are;
  wants_are = takes.wants_are ∙ so_far.wants_are;
  beside_is = takes.beside_is ∙ so_far.beside_is;
}
