-- Readers one after another: what stands at a place where two parts stand one behind the other.
use Rattle.std.specs.Prelude.{◌≡◌, ℕ, List, ◌++◌, drop, Option, Some, None, Result, Ok, Err, IfOk}
use Rattle.std.specs.declared.alloc.AllocError.{AllocError}
use Rattle.std.proofs.Common.{◌∙◌, ap, sym, subst, append_assoc}
use Rattle.kernel_print.specs.ArrayNames.{BeginsWithoutDigit}
use Rattle.kernel_read.specs.Reading.{Stands, NoneStands, Reads}
use Rattle.kernel_read.proofs.Bytes.{behind_told}
use Rattle.kernel_read.proofs.Plain.{end_begins}
use Rattle.kernel_read.proofs.Standing.{Tells, stands_more, told_mid}

-- what a reader found
abbrev pub Found : (A : Type 0) → (A → List ℕ) → (A → Type 0) → List ℕ → ℕ → A → ℕ → Type 0
Found A text Fits line at x next = Fits x × Stands line at (text x) next × BeginsWithoutDigit (drop next line)

-- a text is that of two parts
abbrev pub Parts : (A B : Type 0) → (A → List ℕ) → (B → List ℕ) → (A × B → List ℕ) → Type 0
Parts A B T U S = (p : A × B) → S p ≡ T p.0 ++ U p.1

-- no digit stands in front of the second
abbrev pub AllPlain : (B : Type 0) → (B → List ℕ) → Type 0
AllPlain B U = (y : B) (rest : List ℕ) → BeginsWithoutDigit (U y ++ rest)

opened : (whole t u behind text : List ℕ) → whole ≡ t ++ u → text ≡ whole ++ behind → text ≡ t ++ (u ++ behind)
opened whole t u behind text parts same = same ∙ ap (λ (x : List ℕ). x ++ behind) parts ∙ append_assoc t u behind

pub none_reads : (A : Type 0) (T : A → List ℕ) (F : A → Type 0) (line : List ℕ) (at : ℕ) (answer : Option (A × ℕ)) → answer ≡ None
    → NoneStands A T F line at → Reads A T F line at answer
none_reads A T F line at answer is none = subst (λ (x : Option (A × ℕ)). Reads A T F line at x) (sym is) none

-- bytes, and a part behind them
pub none_behind : (A : Type 0) (T : A → List ℕ) (F : A → Type 0) (line : List ℕ) (at : ℕ) (before : List ℕ)
    → ((rest : List ℕ) → drop at line ≡ before ++ rest → ⊥) → NoneStands A (λ x. before ++ T x) F line at
none_behind A T F line at before none x behind fits plain same = none (T x ++ behind) (same ∙ append_assoc before (T x) behind)

pub reads_behind : (A : Type 0) (T : A → List ℕ) (F : A → Type 0) (line : List ℕ) (at : ℕ) (before : List ℕ) (mid : ℕ)
    → Stands line at before mid → (answer : Option (A × ℕ)) → Reads A T F line mid answer
    → Reads A (λ x. before ++ T x) F line at answer
reads_behind A T F line at before mid stands None none = λ x behind fits plain same.
    none x behind fits plain (behind_told line at before mid (T x ++ behind) stands (same ∙ append_assoc before (T x) behind))
reads_behind A T F line at before mid stands (Some f) found =
    (found.0, stands_more line at mid f.1 before (T f.0) stands found.1, found.2)

-- a part, and bytes behind it
pub none_before : (A : Type 0) (T : A → List ℕ) (F : A → Type 0) (line : List ℕ) (at : ℕ) (S : A → List ℕ) (after : List ℕ)
    → NoneStands A T F line at → BeginsWithoutDigit after → ((x : A) → S x ≡ T x ++ after) → NoneStands A S F line at
none_before A T F line at S after none first parts x behind fits plain same =
    none x (after ++ behind) fits (end_begins after behind first plain) (opened (S x) (T x) after behind (drop at line) (parts x) same)

pub none_after : (A : Type 0) (T : A → List ℕ) (F : A → Type 0) (line : List ℕ) (at : ℕ) (S : A → List ℕ) (after : List ℕ)
    → Tells A T F → (found : A) (mid : ℕ) → Found A T F line at found mid
    → ((rest : List ℕ) → BeginsWithoutDigit rest → drop mid line ≡ after ++ rest → ⊥)
    → BeginsWithoutDigit after → ((x : A) → S x ≡ T x ++ after) → NoneStands A S F line at
none_after A T F line at S after tells found mid stands none first parts x behind fits plain same =
    none behind plain (told_mid A T F tells line at found mid stands x (after ++ behind) fits (end_begins after behind first plain)
    (opened (S x) (T x) after behind (drop at line) (parts x) same)).1

pub found_after : (A : Type 0) (T : A → List ℕ) (F : A → Type 0) (line : List ℕ) (at : ℕ) (S : A → List ℕ) (after : List ℕ)
    → (found : A) (mid next : ℕ) → Found A T F line at found mid → Stands line mid after next × BeginsWithoutDigit (drop next line)
    → ((x : A) → S x ≡ T x ++ after) → Found A S F line at found next
found_after A T F line at S after found mid next first last parts = (
  first.0,
  subst (λ (t : List ℕ). Stands line at t next) (sym (parts found)) (stands_more line at mid next (T found) after first.1 last.0),
  last.1,
)

-- two parts
pub none_first : (A B : Type 0) (T : A → List ℕ) (U : B → List ℕ) (F : A → Type 0) (G : B → Type 0) (line : List ℕ) (at : ℕ)
    (S : A × B → List ℕ) → NoneStands A T F line at → AllPlain B U → Parts A B T U S
    → NoneStands (A × B) S (λ p. F p.0 × G p.1) line at
none_first A B T U F G line at S none first parts p behind fits plain same =
    none p.0 (U p.1 ++ behind) fits.0 (first p.1 behind) (opened (S p) (T p.0) (U p.1) behind (drop at line) (parts p) same)

pub none_second : (A B : Type 0) (T : A → List ℕ) (U : B → List ℕ) (F : A → Type 0) (G : B → Type 0) (line : List ℕ) (at : ℕ)
    (S : A × B → List ℕ) → Tells A T F → (found : A) (mid : ℕ) → Found A T F line at found mid → NoneStands B U G line mid
    → AllPlain B U → Parts A B T U S → NoneStands (A × B) S (λ p. F p.0 × G p.1) line at
none_second A B T U F G line at S tells found mid stands none first parts p behind fits plain same =
    none p.1 behind fits.1 plain (told_mid A T F tells line at found mid stands p.0 (U p.1 ++ behind) fits.0 (first p.1 behind)
    (opened (S p) (T p.0) (U p.1) behind (drop at line) (parts p) same)).1

pub found_both : (A B : Type 0) (T : A → List ℕ) (U : B → List ℕ) (F : A → Type 0) (G : B → Type 0) (line : List ℕ) (at : ℕ)
    (S : A × B → List ℕ) (x : A) (y : B) (mid next : ℕ) → Found A T F line at x mid → Found B U G line mid y next → Parts A B T U S
    → Found (A × B) S (λ p. F p.0 × G p.1) line at (x, y) next
found_both A B T U F G line at S x y mid next first second parts = (
  (first.0, second.0),
  subst (λ (t : List ℕ). Stands line at t next) (sym (parts (x, y))) (stands_more line at mid next (T x) (U y) first.1 second.1),
  second.2,
)

-- the same within what may be refused for want of memory
pub ok_behind : (A : Type 0) (T : A → List ℕ) (F : A → Type 0) (line : List ℕ) (at : ℕ) (before : List ℕ) (mid : ℕ)
    → Stands line at before mid → (answer : Result (Option (A × ℕ)) AllocError) → IfOk answer (Reads A T F line mid)
    → IfOk answer (Reads A (λ x. before ++ T x) F line at)
ok_behind A T F line at before mid stands (Ok answer) reads = reads_behind A T F line at before mid stands answer reads
ok_behind A T F line at before mid stands (Err e) reads = tt
