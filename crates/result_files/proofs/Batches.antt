-- What a sink holds after a batch over it was refused.
use Rattle.std.specs.Prelude.{◌≡◌, ℕ, Bool, List, [], ◌∷◌, drop, Result, Ok, Err, IfErr}
use Rattle.std.specs.Result.{IsErrAnd}
use Rattle.std.specs.Borrow.{GName}
use Rattle.std.proofs.Common.{ap, sym, subst, ◌∙◌, append-nil}
use Rattle.outside.specs.Folder.{appended}
use Rattle.outside.specs.Refusal.{IsCounted}
use Rattle.outside.specs.Sink.{SinkState, Beside, Appends, Refuses, batched}
use Rattle.outside.specs.declared.refusal.Refusal.{Refusal}
use Rattle.outside.proofs.Sinks.{appended-nil}
use Rattle.text_lines.specs.Puts.{AppendsPart}
use Rattle.result_files.specs.Fills.{FillsPart}

-- an answer that hands a refusal on
pub handed_on : {A E : Type 0} (r : Result A E) (why : E) (P : E → Type 0) → IsErrAnd r (λ e. e ≡ why) → P why → IfErr r P
handed_on (Ok done) why P same part = absurd same
handed_on (Err e) why P same part = subst P (sym same) part

-- a cause counted after calls that counted nothing
pub counted_from : (why : Refusal) (f f' f'' w w' w'' : ℕ) → f' ≡ f → w' ≡ w → IsCounted why f' f'' w' w'' → IsCounted why f f'' w w''
counted_from why f f' f'' w w' w'' faults wants counted =
    subst (λ (n : ℕ). IsCounted why n f'' w w'') faults (subst (λ (n : ℕ). IsCounted why f' f'' n w'') wants counted)

-- what a sink is beside, without the borrow that leads to it
abbrev beneath : Beside → Beside
beneath beside = record { borrows = drop 1 beside.borrows; folder = beside.folder }

pub batch_part : (old new start : SinkState) (γ γ' : GName) (kept : List ℕ) (b b' : Bool) (text : List ℕ) (why : Refusal)
    → start ≡ batched old γ [] b → AppendsPart start (batched new γ' kept b') text why → FillsPart old new text why
batch_part old new start γ γ' kept b b' text why at all =
    let part : AppendsPart (batched old γ [] b) (batched new γ' kept b') text why =
    subst (λ (s : SinkState). AppendsPart s (batched new γ' kept b') text why) at all in
    record {
      front = part.less.front;
      rest = part.less.rest;
      kept = kept;
      text_is = part.less.text_is;
      written_is = part.less.written_is ∙ ap (λ o. appended o part.less.front) (appended-nil old.written);
      counted = part.counted;
      beside_is = ap beneath part.beside_is;
    }

pub batch_unfinished : (old mid new start : SinkState) (γ γ' γ'' : GName) (kept kept' : List ℕ) (b b' b'' : Bool) (text : List ℕ)
    (why : Refusal) → start ≡ batched old γ [] b → Appends start (batched mid γ' kept b') text
    → Refuses (batched mid γ' kept b') (batched new γ'' kept' b'') why → FillsPart old new text why
batch_unfinished old mid new start γ γ' γ'' kept kept' b b' b'' text why at whole refused =
    let all : Appends (batched old γ [] b) (batched mid γ' kept b') text =
    subst (λ (s : SinkState). Appends s (batched mid γ' kept b') text) at whole in
    record {
      front = text;
      rest = [];
      kept = kept';
      text_is = sym (append-nil text);
      written_is = refused.written_is ∙ all.written_is ∙ ap (λ o. appended o text) (appended-nil old.written);
      counted = counted_from why old.faults mid.faults new.faults old.wants mid.wants new.wants
          all.faults_are all.wants_are refused.counted;
      beside_is = ap beneath (refused.beside_is ∙ all.beside_is);
    }

-- the name of the outermost borrow that it writes through
abbrev pub head_of : GName → List GName → GName
head_of γ [] = γ
head_of γ (name ∷ names) = name

pub same_borrow : (old new : Beside) (γ : GName) → new ≡ old → head_of γ new.borrows ≡ head_of γ old.borrows
same_borrow old new γ same = ap (λ (b : Beside). head_of γ b.borrows) same
