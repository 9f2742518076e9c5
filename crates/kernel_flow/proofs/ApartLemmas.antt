-- Lemmas about facts that code keeps since it sets none of their variables.
use Rattle.std.specs.Prelude.{◌≡◌, ◌≢◌, ℕ, ◌+◌, ◌<◌, Bool, true, false, List, [], ◌∷◌, ◌++◌, length, refl}
use Rattle.std.proofs.Common.{◌∙◌, ap, sym, subst, take, get_or}
use Rattle.std.proofs.lemmas.List.{take_more}
use Rattle.kernel_code.specs.declared.syntax.Arr.{Arr}
use Rattle.kernel_code.specs.declared.syntax.LoopKind.{LoopKind}
use Rattle.kernel_code.specs.declared.syntax.ValueOp.{ValueOp}
use Rattle.kernel_code.specs.declared.syntax.KExpr.{KExpr}
use Rattle.kernel_code.specs.declared.syntax.KStmt.{KStmt, Set, Combine, Put, AddTo, Push, Extend, Cut, Sort, SortSum, If, While}
use Rattle.kernel_code.specs.Keeps.{Mentions}
use Rattle.kernel_code.specs.Meaning.{Outcome, Ended, Stuck, Over, More, set_var}
use Rattle.kernel_code.proofs.Keeps.{mentions_more, other_var}
use Rattle.simplifier.specs.Refines.{plain}
use Rattle.kernel_flow.specs.declared.facts.Fact.{Fact}
use Rattle.kernel_flow.specs.Apart.{AreApart, KeepsApart, is_in}
use Rattle.kernel_flow.specs.Facts.{Gives, Survives, WhereNot, WhereZero}
use Rattle.kernel_flow.specs.Passing.{KnownAfter, Passes}
use Rattle.kernel_flow.specs.Steady.{IsReadOnly}
use Rattle.kernel_flow.proofs.CodeLemmas.{pass_set, pass_combine, pass_put, pass_sum, pass_push, pass_extend, pass_cut, pass_sort}
use Rattle.kernel_flow.proofs.CodeLemmas.{pass_sort_sum, pass_choice, pass_loop, pass_turn, passes_more, passes_nothing}
use Rattle.kernel_flow.proofs.ExprLemmas.{becomes_itself}
use Rattle.kernel_flow.proofs.FactLemmas.{both_hold, gives_same, survive_more, survive_none}

-- a variable among some is none that isn't among them
unlike : (some : List Bool) (x y : ℕ) → is_in some x ≡ true → is_in some y ≡ false → x ≢ y
unlike some x y h g = λ same. let both : is_in some x ≡ is_in some y = ap (is_in some) same in cc

apart_mentions : (some : List Bool) (x : ℕ) (e : KExpr) → is_in some x ≡ true → Mentions (λ y. is_in some y ≡ false) IsReadOnly e
    → Mentions (λ y. x ≢ y) IsReadOnly e
apart_mentions some x e h m =
    mentions_more (λ y. is_in some y ≡ false) (λ y. x ≢ y) IsReadOnly IsReadOnly e (λ y g. unlike some x y h g) (λ a r. r) m

pub apart_none : (some : List Bool) → AreApart some []
apart_none some = record { at = λ x h. survive_none x [] }

pub apart_more : (some : List Bool) (gs new : List Fact) (f : Fact) → AreApart some gs
    → Mentions (λ y. is_in some y ≡ false) IsReadOnly f.left → Mentions (λ y. is_in some y ≡ false) IsReadOnly f.right
    → new ≡ gs ++ f ∷ [] → AreApart some new
apart_more some gs new f a l r now = record {
  at = λ x h.
      subst (λ xs. Survives x xs xs) (sym now)
      (survive_more x gs gs (gs ++ f ∷ []) f (a.at x h) (apart_mentions some x f.left h l) (apart_mentions some x f.right h r) refl);
}

-- code keeps them
same_not : (F : List Fact) (e : KExpr) → WhereNot F e F
same_not F e = record { at = λ s v words all is. all }

same_zero : (F : List Fact) (e : KExpr) → WhereZero F e F
same_zero F e = record { at = λ s words all is. all }

pub keeps_is : (some : List Bool) (s k : KStmt) → s ≡ k → KeepsApart some (k ∷ []) → KeepsApart some (s ∷ [])
keeps_is some s k is h = subst (λ x. KeepsApart some (x ∷ [])) (sym is) h

pub keeps_set : (some : List Bool) (x : ℕ) (e : KExpr) → is_in some x ≡ true → KeepsApart some (Set x e ∷ [])
keeps_set some x e h = record {
  at = λ F a.
      pass_set F F x e e (Set x e ∷ []) (becomes_itself F e)
      (record { at = λ s v k is. (a.at x h).at s (set_var s x v) (λ y m. other_var s x y v m) (λ b r. refl) k.all }) refl;
}

pub keeps_combine : (some : List Bool) (x : ℕ) (o : ValueOp) (e f : KExpr) → is_in some x ≡ true → KeepsApart some (Combine x o e f ∷ [])
keeps_combine some x o e f h = record {
  at = λ F a. pass_combine F F x o e f e f (Combine x o e f ∷ []) (becomes_itself F e) (becomes_itself F f) (a.at x h) refl;
}

pub keeps_put : (some : List Bool) (b : Arr) (i e : KExpr) → KeepsApart some (Put b i e ∷ [])
keeps_put some b i e =
    record { at = λ F a. pass_put F b i e i e (Put b i e ∷ []) (becomes_itself F i) (becomes_itself F e) refl }

pub keeps_sum : (some : List Bool) (b : Arr) (i e : KExpr) → KeepsApart some (AddTo b i e ∷ [])
keeps_sum some b i e =
    record { at = λ F a. pass_sum F b i e i e (AddTo b i e ∷ []) (becomes_itself F i) (becomes_itself F e) refl }

pub keeps_push : (some : List Bool) (b : Arr) (e : KExpr) → KeepsApart some (Push b e ∷ [])
keeps_push some b e = record { at = λ F a. pass_push F b e e (Push b e ∷ []) (becomes_itself F e) refl }

pub keeps_extend : (some : List Bool) (b : Arr) (i e : KExpr) → KeepsApart some (Extend b i e ∷ [])
keeps_extend some b i e =
    record { at = λ F a. pass_extend F b i e i e (Extend b i e ∷ []) (becomes_itself F i) (becomes_itself F e) refl }

pub keeps_cut : (some : List Bool) (b : Arr) (e : KExpr) → KeepsApart some (Cut b e ∷ [])
keeps_cut some b e = record { at = λ F a. pass_cut F b e e (Cut b e ∷ []) (becomes_itself F e) refl }

pub keeps_sort : (some : List Bool) (g : ℕ) → KeepsApart some (Sort g ∷ [])
keeps_sort some g = record { at = λ F a. pass_sort F g (Sort g ∷ []) refl }

pub keeps_sort_sum : (some : List Bool) (w : ℕ) → KeepsApart some (SortSum w ∷ [])
keeps_sort_sum some w = record { at = λ F a. pass_sort_sum F w (SortSum w ∷ []) refl }

pub keeps_choice : (some : List Bool) (e : KExpr) (first second : List KStmt) → KeepsApart some first → KeepsApart some second
    → KeepsApart some (If e first second ∷ [])
keeps_choice some e first second p q = record {
  at = λ F a.
      pass_choice F F F F F F e e first second first second (If e first second ∷ []) (becomes_itself F e) (same_not F e) (same_zero F e)
      (p.at F a) (q.at F a) (gives_same F) (gives_same F) refl;
}

pub keeps_loop : (some : List Bool) (k : LoopKind) (e : KExpr) (body : List KStmt) → KeepsApart some body
    → KeepsApart some (While k e body ∷ [])
keeps_loop some k e body p = record {
  at = λ F a.
      pass_loop F F F k e e body body (While k e body ∷ [])
      (pass_turn F F F e e body body (becomes_itself F e) (same_not F e) (p.at F a)) (gives_same F) (same_zero F e) refl;
}

pub keeps_body : (some : List Bool) (s : KStmt) (k : LoopKind) (e : KExpr) (body held : List KStmt) → s ≡ While k e body → held ≡ body
    → KeepsApart some held → KeepsApart some (s ∷ [])
keeps_body some s k e body held is same p =
    keeps_is some s (While k e body) is (keeps_loop some k e body (subst (KeepsApart some) same p))

pub keeps_both : (some : List Bool) (s : KStmt) (e : KExpr) (first second one other : List KStmt) → s ≡ If e first second → one ≡ first
    → other ≡ second → KeepsApart some one → KeepsApart some other → KeepsApart some (s ∷ [])
keeps_both some s e first second one other is one_is other_is p q =
    keeps_is some s (If e first second) is
    (keeps_choice some e first second (subst (KeepsApart some) one_is p) (subst (KeepsApart some) other_is q))

pub keeps_none : (some : List Bool) → KeepsApart some []
keeps_none some = record { at = λ F a. passes_nothing F }

pub keeps_more : (some : List Bool) (code : List KStmt) (i : ℕ) (s : KStmt) → i < length code → s ≡ get_or code i s
    → KeepsApart some (take i code) → KeepsApart some (s ∷ []) → KeepsApart some (take (i + 1) code)
keeps_more some code i s l is p q = record {
  at = λ F a.
      passes_more F F F code (take i code) (s ∷ []) (take (i + 1) code) i s l is (p.at F a) (q.at F a)
      (take_more code i s l ∙ ap (λ x. take i code ++ x ∷ []) (sym is));
}

-- what is known beside them
known_both : (A R : List Fact) (o : Outcome) → KnownAfter A o → KnownAfter R o → KnownAfter (A ++ R) o
known_both A R (Ended s) h g = record { words = h.words; all = both_hold A R s h.all g.all }
known_both A R (Stuck t statement) h g = tt
known_both A R (Over t a count) h g = tt
known_both A R More h g = tt

known_less : (P R : List Fact) (o : Outcome) → Gives P R → KnownAfter P o → KnownAfter R o
known_less P R (Ended s) g h = record { words = h.words; all = g.at s h.all }
known_less P R (Stuck t statement) g h = tt
known_less P R (Over t a count) g h = tt
known_less P R More g h = tt

pub passes_beside : (some : List Bool) (F P A R all : List Fact) (old new : List KStmt) → Passes F old new P → Gives F A → AreApart some A
    → KeepsApart some old → Gives P R → all ≡ A ++ R → Passes F old new all
passes_beside some F P A R all old new p g a k h is = record {
  same = p.same;
  known = λ c n s known.
      subst (λ fs. KnownAfter fs (plain c n old s)) (sym is)
      (known_both A R (plain c n old s) ((k.at A a).known c n s (record { words = known.words; all = g.at s known.all }))
      (known_less P R (plain c n old s) h (p.known c n s known)));
}

pub loop_beside : (some : List Bool) (F P A R all : List Fact) (k : LoopKind) (e : KExpr) (body new : List KStmt)
    → Passes F (While k e body ∷ []) new P → Gives F A → AreApart some A → KeepsApart some body → Gives P R → all ≡ A ++ R
    → Passes F (While k e body ∷ []) new all
loop_beside some F P A R all k e body new p g a b h is =
    passes_beside some F P A R all (While k e body ∷ []) new p g a (keeps_loop some k e body b) h is
