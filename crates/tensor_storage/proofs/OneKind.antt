-- What is true of the levels of one kind, and of their code, is true of each level of any kind that has the letter.
use Rattle.std.specs.Prelude.{◌≡◌, ℕ, Result, Ok, Err, List, IfOk}
use Rattle.std.proofs.Common.{◌∙◌, sym, ap, subst}
use Rattle.kernel_code.specs.declared.syntax.Arr.{Arr}
use Rattle.kernel_code.specs.declared.syntax.KExpr.{KExpr}
use Rattle.kernel_code.specs.declared.syntax.KStmt.{KStmt}
use Rattle.kernel_code.specs.declared.syntax.LoopKind.{LoopKind}
use Rattle.kernel_code.specs.Meaning.{Setting, State}
use Rattle.kernel_code.specs.Does.{Never}
use Rattle.kernel_code.proofs.Does.{does_weaker}
use Rattle.level_core.specs.Logs.{Log}
use Rattle.level_core.specs.Fragments.{Writes, Grows, RefusedWithin}
use Rattle.level_core.specs.Codes.{HoldsLog, HoldsPrepared, HoldsInserted}
use Rattle.tensor_storage.specs.declared.kind.Call.TheVariants.{Segment, Coord, Child, Locate, Reserve, Append, Edges, Prepare, Insert}
use Rattle.tensor_storage.specs.Calls.{Call, CallCode}
use Rattle.tensor_storage.specs.Laws.{IsKind, wrapped}
use Rattle.tensor_storage.specs.Levels.{StorageLevel, kind_of, meaning}

pub ok_then : {A E : Type 0} {P Q : A → Type 0} (r : Result A E) → ((x : A) → P x → Q x) → IfOk r P → IfOk r Q
ok_then (Ok x) f h = f x h
ok_then (Err e) f h = h

-- code that leaves more
writes_then : {P Q : State → Type 0} (c : Setting) (code : List KStmt) (free tensor level : ℕ) (most : LoopKind → ℕ) (s : State)
    → ((t : State) → P t → Q t) → Writes c code free tensor level most s P → Writes c code free tensor level most s Q
writes_then {P} {Q} c code free tensor level most s f h = does_weaker c code s _ _ Never Never h (λ t p. (p.0, f t p.1)) (λ t a n r. r)

grows_then : {P Q : State → Type 0} {R : Arr → ℕ → Type 0} (c : Setting) (code : List KStmt) (free tensor level : ℕ)
    (most : LoopKind → ℕ) (s : State) → ((t : State) → P t → Q t) → Grows c code free tensor level most s P R
    → Grows c code free tensor level most s Q R
grows_then {P} {Q} {R} c code free tensor level most s f h =
    does_weaker c code s _ _ (RefusedWithin most s R) (RefusedWithin most s R) h (λ t p. (p.0, f t p.1)) (λ t a n r. r)

-- what is true of each level of a kind is true of each level that has the letter of one
pub of_one_kind : {L : Type 0} {wrap : L → StorageLevel} → IsKind wrap → (l : L) (P : StorageLevel → Type 0)
    → ((k : L) → kind_of (wrap k) ≡ kind_of (wrap l) → P (wrap k)) → (m : StorageLevel) → kind_of m ≡ kind_of (wrap l) → P m
of_one_kind {L} {wrap} kind l P each m same = there (kind.only l m same)
  where
    there : (k : L) × (m ≡ wrap k) → P m
    there (k, is) = subst P (sym is) (each k (sym (ap kind_of is) ∙ same))

log_held : {L : Type 0} (wrap : L → StorageLevel) (l : L) (log : Log) (tensor level : ℕ) (s : State)
    → HoldsLog (wrapped wrap) l log tensor level s → HoldsLog meaning (wrap l) log tensor level s
log_held wrap l log tensor level s h =
    record { left = wrap h.left; keeps = h.keeps; kind = h.kind; size = h.size; log = h.log; held = h.held }

prepared_held : {L : Type 0} (wrap : L → StorageLevel) (l : L) (parents most tensor level : ℕ) (s : State)
    → HoldsPrepared (wrapped wrap) l parents most tensor level s → HoldsPrepared meaning (wrap l) parents most tensor level s
prepared_held wrap l parents most tensor level s h =
    record { left = wrap h.left; keeps = h.keeps; prepared = h.prepared; held = h.held }

inserted_held : {L : Type 0} (wrap : L → StorageLevel) (l : L) (parent x tensor level free : ℕ) (s : State)
    → HoldsInserted (wrapped wrap) l parent x tensor level free s → HoldsInserted meaning (wrap l) parent x tensor level free s
inserted_held wrap l parent x tensor level free s h =
    record { left = wrap h.left; slot = h.slot; keeps = h.keeps; inserted = h.inserted; held = h.held; answer = h.answer }

-- the code of a call of a level of a kind is the code of that call of the storage level
module _ {L : Type 0} {wrap : L → StorageLevel} (kind : IsKind wrap) (l : L) (tensor level free : ℕ) (args : List KExpr)
    (code : List KStmt) where
  code_kind : (call : Call) → CallCode call (wrapped wrap) (kind_of (wrap l)) tensor level args free code
      → CallCode call meaning (kind_of (wrap l)) tensor level args free code
  code_kind Segment law = λ c. of_one_kind kind l _ (λ k same. law c k same)
  code_kind Coord law = λ can c. of_one_kind kind l _ (λ k same. law can c k same)
  code_kind Child law = λ c. of_one_kind kind l _ (λ k same. law c k same)
  code_kind Locate law = λ can c. of_one_kind kind l _ (λ k same. law can c k same)
  code_kind Reserve law = λ can c. of_one_kind kind l _
      (λ k same keeps n parents may s held values. grows_then c code _ _ _ _ s (λ t p. (log_held wrap _ _ _ _ t p.0, p.1))
      (law can c k same keeps n parents may s held values))
  code_kind Append law = λ can c. of_one_kind kind l _
      (λ k same keeps x may s held values. grows_then c code _ _ _ _ s (λ t p. (log_held wrap _ _ _ _ t p.0, p.1))
      (law can c k same keeps x may s held values))
  code_kind Edges law = λ can c. of_one_kind kind l _
      (λ k same keeps parent begin end may s held values. writes_then c code _ _ _ _ s (λ t p. log_held wrap _ _ _ _ t p)
      (law can c k same keeps parent begin end may s held values))
  code_kind Prepare law = λ c. of_one_kind kind l _
      (λ k same keeps parents most may enough s held values. grows_then c code _ _ _ _ s
      (λ t p. (prepared_held wrap _ _ _ _ _ t p.0, p.1)) (law c k same keeps parents most may enough s held values))
  code_kind Insert law = λ c. of_one_kind kind l _
      (λ k same keeps parent x ok may s held values. writes_then c code _ _ _ _ s (λ t p. inserted_held wrap _ _ _ _ _ _ t p)
      (law c k same keeps parent x ok may s held values))

pub code_told : {L : Type 0} {wrap : L → StorageLevel} → IsKind wrap → {self : StorageLevel} {l : L} → self ≡ wrap l → {E : Type 0}
    (r : Result (List KStmt) E) (call : Call) (tensor level free : ℕ) (args : List KExpr)
    → IfOk r (CallCode call (wrapped wrap) (kind_of (wrap l)) tensor level args free)
    → IfOk r (CallCode call meaning (kind_of self) tensor level args free)
code_told {L} {wrap} kind {self} {l} is r call tensor level free args h =
    subst (λ m. IfOk r (CallCode call meaning (kind_of m) tensor level args free)) (sym is)
    (ok_then r (λ code law. code_kind kind l tensor level free args code call law) h)
