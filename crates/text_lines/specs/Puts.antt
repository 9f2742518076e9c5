-- What a sink was given: a whole text, or a part of it at its front.
use Rattle.std.specs.Prelude.{◌≡◌, ℕ, ◌<◌, List, ◌++◌, length, Option, Result, Ok, Err}
use Rattle.outside.specs.Folder.{appended}
use Rattle.outside.specs.Refusal.{IsCounted}
use Rattle.outside.specs.Sink.{SinkState, Appends, due_after}
use Rattle.outside.specs.declared.refusal.Refusal.{Refusal}

-- a part of the text, at its front, was appended, and not the whole
pub record PutsLess (old new : Option (List ℕ)) (text : List ℕ) : Type 0 where
  pub front : List ℕ
  pub rest : List ℕ
  pub text_is : text ≡ front ++ rest
  pub short : 0 < length rest
  pub written_is : new ≡ appended old front

-- a part of the text was appended, and then the sink refused more, for a reason that it counted; no `finish` was made since
pub record AppendsPart (old new : SinkState) (text : List ℕ) (why : Refusal) : Type 0 where
  pub less : PutsLess old.written new.written text
  pub counted : IsCounted why old.faults new.faults old.wants new.wants
  pub unfinished_is : new.unfinished ≡ due_after less.front old.unfinished
  pub beside_is : new.beside ≡ old.beside

-- the whole text was appended, or the sink refused behind a part of it at its front
abbrev pub Prints : {A : Type 0} → SinkState → SinkState → List ℕ → Result A Refusal → Type 0
Prints old new text (Ok done) = Appends old new text
Prints old new text (Err why) = AppendsPart old new text why
