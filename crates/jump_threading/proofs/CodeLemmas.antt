-- Lemmas about code that does the same as other code, and about whole kernels.
use Rattle.std.specs.Prelude.{◌≡◌, ℕ, ◌+◌, ◌-◌, ◌≤◌, ◌<◌, List, [], ◌∷◌, ◌++◌, length, refl}
use Rattle.std.proofs.Common.{◌∙◌, ap, sym, subst, take, drop, get_or, append_assoc, arith}
use Rattle.std.proofs.lemmas.List.{length-drop, take_more}
use Rattle.std.proofs.Math.Seq.{take-add}
use Rattle.kernel_code.specs.declared.syntax.Kernel.{Kernel}
use Rattle.kernel_code.specs.declared.syntax.KStmt.{KStmt}
use Rattle.kernel_code.proofs.Behind.{then_same}
use Rattle.simplifier.specs.Refines.{AnyState, RefinesKernel, plain}
use Rattle.simplifier.proofs.CodeLemmas.{SameStep, pushed, runs_more, runs_same, runs_then}
use Rattle.simplifier.proofs.Refining.{kernel_refines}
use Rattle.simplifier.proofs.Unnumbered.{plain_append}
use Rattle.jump_threading.specs.Alike.{DoesAlike}

pub alike_same : (a : List KStmt) → DoesAlike a a
alike_same a = record { over = λ m. runs_same m a }

pub alike_then : (a b d : List KStmt) → DoesAlike a b → DoesAlike b d → DoesAlike a d
alike_then a b d p q = record { over = λ m. runs_then m a b d (p.over m) (q.over m) }

pub alike_now : (a a' b b' : List KStmt) → a ≡ a' → b ≡ b' → DoesAlike a' b' → DoesAlike a b
alike_now a a' b b' is same h = subst (λ x. DoesAlike x b) (sym is) (subst (DoesAlike a') (sym same) h)

-- more code behind, and before
pub alike_behind : (a b more : List KStmt) → DoesAlike a b → DoesAlike (a ++ more) (b ++ more)
alike_behind a b more p = record { over = λ m. runs_more m a b more (p.over m) }

pub alike_before : (front a b : List KStmt) → DoesAlike a b → DoesAlike (front ++ a) (front ++ b)
alike_before front a b p = record {
  over = λ m. record {
    from = λ c q n s. plain_append c n front a s
        ∙ then_same (plain c n front s) (plain c n a) (plain c n b) ((p.over m).from c q n)
        ∙ sym (plain_append c n front b s);
  };
}

-- one more statement, with so many of those behind it
pub more_within : (code rest : List KStmt) (i taken : ℕ) → i < length code → rest ≡ drop (i + 1) code → taken ≤ length rest
    → i + 1 + taken ≤ length code
more_within code rest i taken l is within =
    let long : length rest ≡ length code - (i + 1) = ap length is ∙ length-drop (i + 1) code in
    omega (arith, long)

pub alike_more : (code out new rest : List KStmt) (i taken : ℕ) (s : KStmt) → i < length code → s ≡ get_or code i s
    → rest ≡ drop (i + 1) code → DoesAlike out (take i code) → DoesAlike new (out ++ s ∷ take taken rest)
    → DoesAlike new (take (i + 1 + taken) code)
alike_more code out new rest i taken s l is behind p q =
    let more = take taken rest in
    let all : take (i + 1 + taken) code ≡ take i code ++ s ∷ more =
    take-add (i + 1) taken code
    ∙ ap (λ x. x ++ take taken (drop (i + 1) code)) (take_more code i s l ∙ ap (λ x. take i code ++ x ∷ []) (sym is))
    ∙ ap (λ x. (take i code ++ s ∷ []) ++ take taken x) (sym behind)
    ∙ append_assoc (take i code) (s ∷ []) more in
    alike_then new (out ++ s ∷ more) (take (i + 1 + taken) code) q
    (alike_now (out ++ s ∷ more) (out ++ s ∷ more) (take (i + 1 + taken) code) (take i code ++ s ∷ more) refl all
    (alike_behind out (take i code) (s ∷ more) p))

-- a statement in place of one that does the same
pub alike_pushed : (out new : List KStmt) (s t : KStmt) → new ≡ out ++ s ∷ []
    → ((m : _) → SameStep m s t) → DoesAlike new (out ++ t ∷ [])
alike_pushed out new s t is h =
    alike_now new (out ++ s ∷ []) (out ++ t ∷ []) (out ++ t ∷ []) is refl (record { over = λ m. pushed m out s t (h m) })

-- a kernel whose code does the same
pub kernel_alike : (k : Kernel) (held body : List KStmt) → held ≡ k.body → DoesAlike body held
    → RefinesKernel AnyState (record k { body = body }) k
kernel_alike k held body is h =
    let p = subst (DoesAlike body) is h in
    kernel_refines AnyState k body (record { same = λ c n s any good. (p.over c.arithmetic).from c refl n s })
