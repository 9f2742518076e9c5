-- What a sink holds after a batch over it was refused.
use Rattle.std.specs.Prelude.{◌≡◌, ℕ, List, ◌++◌}
use Rattle.outside.specs.Folder.{appended}
use Rattle.outside.specs.Refusal.{IsCounted}
use Rattle.outside.specs.Sink.{SinkState}
use Rattle.outside.specs.declared.refusal.Refusal.{Refusal}

-- the sink's bytes and those kept back are what was there and then a part of the text at its front; it counted why
pub record FillsPart (old new : SinkState) (text : List ℕ) (why : Refusal) : Type 0 where
  pub front : List ℕ
  pub rest : List ℕ
  pub kept : List ℕ
  pub text_is : text ≡ front ++ rest
  pub written_is : appended new.written kept ≡ appended old.written front
  pub counted : IsCounted why old.faults new.faults old.wants new.wants
  pub beside_is : new.beside ≡ old.beside
