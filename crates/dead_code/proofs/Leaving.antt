-- What is left of statements, by what is live behind them.
use Rattle.std.specs.Prelude.{◌≡◌, ℕ, ◌+◌, ◌-◌, ◌<◌, ◌≤◌, Bool, false, List, [], ◌∷◌, ◌++◌, Option, Some, None, length, drop, take}
use Rattle.std.specs.Prelude.{reverse, Result, Ok, Err, IfOk, refl}
use Rattle.std.specs.declared.alloc.AllocError.{AllocError}
use Rattle.std.proofs.Common.{◌∙◌, ap, sym, subst, get_or, arith}
use Rattle.std.proofs.lemmas.List.{append_assoc, drop_more, drop-append-le, length-take-le, reverse-append, take-append-drop}
use Rattle.kernel_code.specs.declared.syntax.Arr.{Arr}
use Rattle.kernel_code.specs.declared.syntax.LoopKind.{LoopKind}
use Rattle.kernel_code.specs.declared.syntax.ValueOp.{ValueOp}
use Rattle.kernel_code.specs.declared.syntax.KExpr.{KExpr, Num}
use Rattle.kernel_code.specs.declared.syntax.KStmt.{KStmt, Set, Combine, Put, AddTo, Push, Extend, Cut, Sort, SortSum, If, While}
use Rattle.dead_code.specs.Follows.{Follows}
use Rattle.dead_code.specs.Gathers.{AreGathered, IsLeftOfChoice, Nothing, Choice, Leaves, last_of}
use Rattle.dead_code.specs.Live.{is_live, Covers, CoversBut, ReadsLive, Agree, left_of}
use Rattle.dead_code.proofs.Following.{alike_plain, follows_then, follows_wider, follows_now, set_alike, combine_alike}
use Rattle.dead_code.proofs.Following.{put_alike, sum_alike}
use Rattle.dead_code.proofs.Following.{push_alike, extend_alike, cut_alike, choice_runs, set_dropped, combine_dropped, choice_dropped}
use Rattle.dead_code.proofs.Following.{follows_loop, follows_sort, follows_sort_sum}
use Rattle.dead_code.proofs.Gathering.{gathered, none_last}
use Rattle.dead_code.proofs.LiveLemmas.{agree_dead, agree_less, agree_set, reads_as}

-- a statement of which something is left without those before it
pub leaves_alone : (live after : List Bool) (before : List KStmt) (k : KStmt) (left : Option KStmt)
    → Follows (Agree live) (k ∷ []) (left_of left) (Agree after) → Leaves live before k left 0 after
leaves_alone live after before k left p = record {
  within = omega arith;
  follows = subst (λ xs. Follows (Agree live) (xs ++ k ∷ []) (left_of left) (Agree after)) (sym (none_last before)) p;
}

-- a variable that nothing reads
pub set_gone : (live : List Bool) (before : List KStmt) (x : ℕ) (e : KExpr) → is_live live x ≡ false
    → Leaves live before (Set x e) None 0 live
set_gone live before x e dead = leaves_alone live live before (Set x e) None
    (set_dropped (Agree live) (Agree live) x e (λ v w n. agree_dead live x dead v w n))

pub combine_gone : (live : List Bool) (before : List KStmt) (x : ℕ) (o : ValueOp) (e f : KExpr) → is_live live x ≡ false
    → Leaves live before (Combine x o e f) None 0 live
combine_gone live before x o e f dead = leaves_alone live live before (Combine x o e f) None
    (combine_dropped (Agree live) (Agree live) x o e f (λ v w n. agree_dead live x dead v w n))

-- statements whose operands are gathered
module _ (live after : List Bool) (before : List KStmt) (taken : ℕ) (i e g h : KExpr) where
  pub set_left : (mid : List Bool) (x : ℕ) → CoversBut x mid after → AreGathered live mid before i e g h taken
      → Leaves live before (Set x i) (Some (Set x g)) taken after
  set_left mid x but r = gathered live mid after before taken i e g h (Set x i) (Set x g) r (λ c n t w agree is same.
      alike_plain (Agree after) _ _ (set_alike (Agree after) x x i g c n t w is (λ m. agree_set after mid x but t.vars w m agree)))

  pub combine_left : (mid : List Bool) (x : ℕ) (o : ValueOp) → CoversBut x mid after → AreGathered live mid before i e g h taken
      → Leaves live before (Combine x o i e) (Some (Combine x o g h)) taken after
  combine_left mid x o but r = gathered live mid after before taken i e g h (Combine x o i e) (Combine x o g h) r (λ c n t w agree is same.
      alike_plain (Agree after) _ _
      (combine_alike (Agree after) x x o i e g h c n t w is same (λ m. agree_set after mid x but t.vars w m agree)))

  pub put_left : (a : Arr) → AreGathered live after before i e g h taken → Leaves live before (Put a i e) (Some (Put a g h)) taken after
  put_left a r = gathered live after after before taken i e g h (Put a i e) (Put a g h) r (λ c n t w agree is same.
      alike_plain (Agree after) _ _ (put_alike (Agree after) a i e g h c n t w is same agree))

  pub sum_left : (a : Arr) → AreGathered live after before i e g h taken
      → Leaves live before (AddTo a i e) (Some (AddTo a g h)) taken after
  sum_left a r = gathered live after after before taken i e g h (AddTo a i e) (AddTo a g h) r (λ c n t w agree is same.
      alike_plain (Agree after) _ _ (sum_alike (Agree after) a i e g h c n t w is same agree))

  pub extend_left : (a : Arr) → AreGathered live after before i e g h taken
      → Leaves live before (Extend a i e) (Some (Extend a g h)) taken after
  extend_left a r = gathered live after after before taken i e g h (Extend a i e) (Extend a g h) r (λ c n t w agree is same.
      alike_plain (Agree after) _ _ (extend_alike (Agree after) a i e g h c n t w is same agree))

  pub push_left : (a : Arr) → AreGathered live after before i e g h taken → Leaves live before (Push a i) (Some (Push a g)) taken after
  push_left a r = gathered live after after before taken i e g h (Push a i) (Push a g) r (λ c n t w agree is same.
      alike_plain (Agree after) _ _ (push_alike (Agree after) a i g c n t w is agree))

  pub cut_left : (a : Arr) → AreGathered live after before i e g h taken → Leaves live before (Cut a i) (Some (Cut a g)) taken after
  cut_left a r = gathered live after after before taken i e g h (Cut a i) (Cut a g) r (λ c n t w agree is same.
      alike_plain (Agree after) _ _ (cut_alike (Agree after) a i g c n t w is agree))

pub sort_left : (live : List Bool) (before : List KStmt) (list : ℕ) → Leaves live before (Sort list) (Some (Sort list)) 0 live
sort_left live before list = leaves_alone live live before (Sort list) (Some (Sort list)) (follows_sort (Agree live) list)

pub sort_sum_left : (live : List Bool) (before : List KStmt) (space : ℕ)
    → Leaves live before (SortSum space) (Some (SortSum space)) 0 live
sort_sum_left live before space =
    leaves_alone live live before (SortSum space) (Some (SortSum space)) (follows_sort_sum (Agree live) space)

-- choices and loops
pub choice_left : (live there elsewhere after : List Bool) (before : List KStmt) (e : KExpr) (first second one other : List KStmt)
    (left : Option KStmt) (taken : ℕ) → Follows (Agree there) first one (Agree after) → Follows (Agree elsewhere) second other (Agree after)
    → IsLeftOfChoice live there elsewhere before e one other left taken → Leaves live before (If e first second) left taken after
choice_left live there elsewhere after before e first second one other left taken p q (Nothing none nothing is zero h g) =
    subst (λ o. Leaves live before (If e first second) o taken after) (sym is)
    (subst (λ n. Leaves live before (If e first second) None n after) (sym zero)
    (leaves_alone live after before (If e first second) None
    (choice_dropped (Agree live) (Agree there) (Agree elsewhere) (Agree after) e first second (agree_less live there h)
    (agree_less live elsewhere g) (subst (λ x. Follows (Agree there) first x (Agree after)) none p)
    (subst (λ x. Follows (Agree elsewhere) second x (Agree after)) nothing q))))
choice_left live there elsewhere after before e first second one other left taken p q (Choice inside d h a b r is) =
    subst (λ o. Leaves live before (If e first second) o taken after) (sym is)
    (gathered live inside after before taken e (Num 0) d h (If e first second) (If d one other) r (λ c n t w agree same last.
    choice_runs (Agree there) (Agree elsewhere) (Agree after) e d first second one other p q c n t w same
    (agree_less inside there a t.vars w agree) (agree_less inside elsewhere b t.vars w agree)))

pub choice_now : (live there elsewhere after : List Bool) (before : List KStmt) (k : KStmt) (e : KExpr)
    (first second held last one other : List KStmt) (left : Option KStmt) (taken : ℕ) → k ≡ If e first second → held ≡ first
    → last ≡ second → Follows (Agree there) held one (Agree after) → Follows (Agree elsewhere) last other (Agree after)
    → IsLeftOfChoice live there elsewhere before e one other left taken → Leaves live before k left taken after
choice_now live there elsewhere after before k e first second held last one other left taken is same end p q l =
    subst (λ s. Leaves live before s left taken after) (sym is)
    (choice_left live there elsewhere after before e first second one other left taken
    (subst (λ x. Follows (Agree there) x one (Agree after)) same p) (subst (λ x. Follows (Agree elsewhere) x other (Agree after)) end q) l)

pub loop_left : (head after : List Bool) (before : List KStmt) (k : LoopKind) (e copy : KExpr) (body turned : List KStmt)
    → Follows (Agree head) body turned (Agree head) → ReadsLive head e → Covers head after → copy ≡ e
    → Leaves head before (While k e body) (Some (While k copy turned)) 0 after
loop_left head after before k e copy body turned p reads h is =
    leaves_alone head after before (While k e body) (Some (While k copy turned))
    (subst (λ f. Follows (Agree head) (While k e body ∷ []) (While k f turned ∷ []) (Agree after)) (sym is)
    (follows_loop (Agree head) (Agree after) k e e body turned (reads_as head e reads) p (agree_less head after h)))

pub turn_left : (head inside : List Bool) (body turned : List KStmt) → Follows (Agree inside) body turned (Agree head)
    → Covers head inside → Follows (Agree head) body turned (Agree head)
turn_left head inside body turned p h =
    follows_wider (Agree head) (Agree inside) (Agree head) (Agree head) body turned (agree_less head inside h) (λ v w g. g) p

-- code from a place on, by the statements up to another place, the one there and those behind it
split_behind : (code : List KStmt) (m i : ℕ) (s : KStmt) → i ≤ m → m < length code → s ≡ get_or code m s
    → drop i code ≡ (drop i (take m code) ++ s ∷ []) ++ drop (m + 1) code
split_behind code m i s l lt is =
    let long : i ≤ length (take m code) = omega (arith, length-take-le m code (omega arith)) in
    ap (drop i) (sym (take-append-drop m code)) ∙ drop-append-le i (take m code) (drop m code) long
    ∙ ap (λ xs. drop i (take m code) ++ xs) (drop_more code m s lt ∙ ap (λ x. x ∷ drop (m + 1) code) (sym is))
    ∙ sym (append_assoc (drop i (take m code)) (s ∷ []) (drop (m + 1) code))

-- one more statement, with those before it that it takes
pub one_before : (before mid after : List Bool) (code first : List KStmt) (m taken : ℕ) (s : KStmt) (left : Option KStmt)
    (backwards new : List KStmt) → m < length code → first ≡ take m code → s ≡ get_or code m s → Leaves before first s left taken mid
    → Follows (Agree mid) (drop (m + 1) code) (reverse backwards) (Agree after) → new ≡ backwards ++ left_of left
    → Follows (Agree before) (drop (m - taken) code) (reverse new) (Agree after)
one_before before mid after code first m taken s left backwards new l part is p q same =
    let whole = subst (λ xs. Leaves before xs s left taken mid) part p in
    let long : length (take m code) ≡ m = length-take-le m code (omega arith) in
    let place : last_of taken (take m code) ≡ drop (m - taken) (take m code) = ap (λ n. drop (n - taken) (take m code)) long in
    follows_now (Agree before) (Agree after) (drop (m - taken) code) ((last_of taken (take m code) ++ s ∷ []) ++ drop (m + 1) code)
    (reverse new) (left_of left ++ reverse backwards)
    (split_behind code m (m - taken) s (omega arith) l is ∙ ap (λ xs. (xs ++ s ∷ []) ++ drop (m + 1) code) (sym place))
    (ap reverse same ∙ reverse-append backwards (left_of left) ∙ ap (λ x. x ++ reverse backwards) (short left))
    (follows_then (Agree before) (Agree mid) (Agree after) (last_of taken (take m code) ++ s ∷ []) (drop (m + 1) code) (left_of left)
    (reverse backwards) whole.follows q)
  where
    short : (o : Option KStmt) → reverse (left_of o) ≡ left_of o
    short None = refl
    short (Some k) = refl

module _ {A : Type 0} where
  pub if_ok_more : (r : Result A AllocError) (P Q : A → Type 0) → IfOk r P → ((x : A) → P x → Q x) → IfOk r Q
  if_ok_more (Ok x) P Q h f = f x h
  if_ok_more (Err why) P Q h f = tt
