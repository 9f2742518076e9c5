-- What is so of a concrete statement that is made of its parts.
use Rattle.std.specs.Prelude.{◌≡◌, ℕ, Bool, true, false, nat_eq, if◌then◌else◌, ◌||◌, List, [], ◌∷◌, ◌++◌, map, refl}
use Rattle.std.specs.List.Sorted.{IsPermutation}
use Rattle.std.proofs.Common.{◌∙◌, sym, ap, subst, append_assoc}
use Rattle.std.proofs.lemmas.Bool.{eqb-true, eq-eqb}
use Rattle.std.proofs.lemmas.List.{append-nil}
use Rattle.std.proofs.lemmas.List.Sorted.{IsPermutation-map, IsPermutation-append_left, IsPermutation-append_right, IsPermutation-middle}
use Rattle.std.proofs.lemmas.List.Sorted.{IsPermutation-sym, IsPermutation-trans, IsPermutation-to_front}
use denote.Hole.Carrier.{hidden}
use Rattle.index_notation.specs.Statement.{IsDistinct}
use Rattle.expr_terms.specs.Terms.{contains}
use Rattle.expr_terms.specs.declared.term.Term.{Term}
use Rattle.concrete_notation.specs.declared.concrete.Concrete.{Concrete, Add as AddOf, Forall, Both, Where, Forall', Both', Where'}
use Rattle.concrete_notation.specs.declared.concrete.Concrete.TheBlock.{hidden-the_row-Concrete-0}
use Rattle.concrete_notation.specs.Nests.{inside, nests, workspaces, next_loops, SharesLoops}
use Rattle.concrete_notation.specs.Nesting.{nest_in, next_of, shares, with_next, IsNest, IsPut}
use Rattle.concrete_notation.proofs.Points.{contains_both, distinct_both, or_first}

pub nests_forall : (v : ℕ) (body : Concrete) → nests (Forall v body) ≡ map (inside v) (nests body)
unfolding hidden-the_row-Concrete-0 hidden
nests_forall v body = refl

pub nests_both : (first second : Concrete) → nests (Both first second) ≡ nests first ++ nests second
unfolding hidden-the_row-Concrete-0 hidden
nests_both first second = refl

pub nests_where : (keys : List ℕ) (body : Concrete) → nests (Where keys body) ≡ nests body
unfolding hidden-the_row-Concrete-0 hidden
nests_where keys body = refl

pub workspaces_forall : (v : ℕ) (body : Concrete) → workspaces (Forall v body) ≡ workspaces body
unfolding hidden-the_row-Concrete-0 hidden
workspaces_forall v body = refl

pub workspaces_both : (first second : Concrete) → workspaces (Both first second) ≡ workspaces first ++ workspaces second
unfolding hidden-the_row-Concrete-0 hidden
workspaces_both first second = refl

pub workspaces_where : (keys : List ℕ) (body : Concrete) → workspaces (Where keys body) ≡ keys ∷ workspaces body
unfolding hidden-the_row-Concrete-0 hidden
workspaces_where keys body = refl

pub next_both : (first second : Concrete) → next_loops (Both first second) ≡ next_loops first ++ next_loops second
unfolding hidden-the_row-Concrete-0 hidden
next_both first second = refl

pub next_forall : (v : ℕ) (body : Concrete) → next_loops (Forall v body) ≡ v ∷ []
unfolding hidden-the_row-Concrete-0 hidden
next_forall v body = refl

pub shared_forall : (v : ℕ) (body : Concrete) → SharesLoops body → SharesLoops (Forall v body)
unfolding hidden-the_row-Concrete-0 hidden
shared_forall v body h = h

pub forall_shared : (v : ℕ) (body : Concrete) → SharesLoops (Forall v body) → SharesLoops body
unfolding hidden-the_row-Concrete-0 hidden
forall_shared v body h = h

pub shared_where : (keys : List ℕ) (body : Concrete) → SharesLoops body → SharesLoops (Where keys body)
unfolding hidden-the_row-Concrete-0 hidden
shared_where keys body h = h

pub shared_both : (first second : Concrete) → IsDistinct (next_loops first ++ next_loops second) → SharesLoops first → SharesLoops second
    → SharesLoops (Both first second)
unfolding hidden-the_row-Concrete-0 hidden
shared_both first second distinct left right = (distinct, left, right)

pub both_shared : (first second : Concrete) → SharesLoops (Both first second) → SharesLoops first × SharesLoops second
unfolding hidden-the_row-Concrete-0 hidden
both_shared first second h = (h.1, h.2)

next_distinct : (c : Concrete) → SharesLoops c → IsDistinct (next_loops c)
next_distinct (AddOf t) h = tt
next_distinct (Forall' v p body) h = (tt, tt)
next_distinct (Both' p first q second) h = h.0
next_distinct (Where' keys p body) h = tt

shares_both : (xs ys loops : List ℕ) → shares (xs ++ ys) loops ≡ (shares xs loops || shares ys loops)
shares_both xs ys [] = refl
shares_both xs ys (v ∷ vs) = contains_both xs ys v

distinct_with_next : (next loops : List ℕ) → IsDistinct next → IsDistinct (with_next next loops)
distinct_with_next next loops distinct = by loops (shares next loops) refl
  where
    other : (v u : ℕ) (b : Bool) → nat_eq v u ≡ b → contains next v ≡ false → contains next u ≡ true → (b || false) ≡ false
    other v u true same none there = sym there ∙ ap (contains next) (sym (eqb-true v u same)) ∙ none
    other v u false apart none there = refl

    by : (loops : List ℕ) (b : Bool) → shares next loops ≡ b → IsDistinct (if b then next else (next ++ next_of loops))
    by loops true is = distinct
    by [] false is = subst IsDistinct (sym (append-nil next)) distinct
    by (v ∷ vs) false is = distinct_both next (v ∷ []) distinct (tt, tt) (λ u there. other v u (nat_eq v u) refl is there)

-- a nest of one loop more
pub nest_alone : (t : Term) → IsNest [] t (AddOf t)
nest_alone t = record { terms = refl; plain = refl; next = refl; shared = tt }

pub nest_inside : (v w : ℕ) (inner loops : List ℕ) (t : Term) (body : Concrete) → loops ≡ v ∷ inner → w ≡ v → IsNest inner t body
    → IsNest loops t (Forall w body)
nest_inside v w inner loops t body is same nest = record {
  terms = nests_forall w body ∙ ap (map (inside w)) nest.terms ∙ (λ i. nest_in (same i ∷ inner) t ∷ [])
      ∙ ap (λ vs. nest_in vs t ∷ []) (sym is);
  plain = workspaces_forall w body ∙ nest.plain;
  next = next_forall w body ∙ ap (λ u. u ∷ []) same ∙ ap next_of (sym is);
  shared = shared_forall w body nest.shared;
}

module _ (loops : List ℕ) (t : Term) where
  pub put_last : (tree more all : Concrete) → shares (next_loops tree) loops ≡ false → IsNest loops t more → all ≡ Both tree more
      → IsPut loops t tree all
  put_last tree more all apart nest is =
      let next : next_loops all ≡ with_next (next_loops tree) loops =
      ap next_loops is ∙ next_both tree more ∙ ap (λ vs. next_loops tree ++ vs) nest.next
      ∙ ap (λ b. if b then next_loops tree else (next_loops tree ++ next_of loops)) (sym apart) in
      record {
        terms = subst (IsPermutation (nest_in loops t ∷ nests tree))
            (sym (ap nests is ∙ nests_both tree more ∙ ap (λ ns. nests tree ++ ns) nest.terms))
            (IsPermutation-sym (nests tree ++ nest_in loops t ∷ []) (nest_in loops t ∷ nests tree)
            (IsPermutation-to_front (nests tree) (nest_in loops t)));
        plain = ap workspaces is ∙ workspaces_both tree more ∙ ap (λ ks. workspaces tree ++ ks) nest.plain ∙ append-nil (workspaces tree);
        next = next;
        shared = λ h. subst SharesLoops (sym is) (shared_both tree more
            (subst IsDistinct (sym next ∙ ap next_loops is ∙ next_both tree more)
            (distinct_with_next (next_loops tree) loops (next_distinct tree h))) h nest.shared);
      }

  pub put_first : (first second after whole all : Concrete) → whole ≡ Both first second → all ≡ Both after second
      → shares (next_loops first) loops ≡ true → IsPut loops t first after → IsPut loops t whole all
  put_first first second after whole all was is here put =
      let there : next_loops after ≡ next_loops first =
      put.next ∙ ap (λ b. if b then next_loops first else (next_loops first ++ next_of loops)) here in
      let among : shares (next_loops whole) loops ≡ true =
      ap (λ c. shares (next_loops c) loops) was ∙ ap (λ vs. shares vs loops) (next_both first second)
      ∙ shares_both (next_loops first) (next_loops second) loops
      ∙ or_first (shares (next_loops first) loops) (shares (next_loops second) loops) here in
      let next : next_loops all ≡ next_loops whole =
      ap next_loops is ∙ next_both after second ∙ ap (λ vs. vs ++ next_loops second) there ∙ sym (next_both first second)
      ∙ ap next_loops (sym was) in
      record {
        terms = subst (λ ns. IsPermutation (nest_in loops t ∷ ns) (nests all)) (sym (ap nests was ∙ nests_both first second))
            (subst (IsPermutation (nest_in loops t ∷ (nests first ++ nests second))) (sym (ap nests is ∙ nests_both after second))
            (IsPermutation-append_left (nests second) (nest_in loops t ∷ nests first) (nests after) put.terms));
        plain = ap workspaces is ∙ workspaces_both after second ∙ ap (λ ks. ks ++ workspaces second) put.plain
            ∙ sym (workspaces_both first second) ∙ ap workspaces (sym was);
        next = next ∙ ap (λ b. if b then next_loops whole else (next_loops whole ++ next_of loops)) (sym among);
        shared = λ h.
            let parts = both_shared first second (subst SharesLoops was h) in
            subst SharesLoops (sym is) (shared_both after second
            (subst IsDistinct (sym next ∙ ap next_loops is ∙ next_both after second) (next_distinct whole h))
            (put.shared parts.0) parts.1);
      }

  pub put_second : (first second after whole all : Concrete) → whole ≡ Both first second → all ≡ Both first after
      → shares (next_loops first) loops ≡ false → IsPut loops t second after → IsPut loops t whole all
  put_second first second after whole all was is apart put =
      let fs : List ℕ = next_loops first in
      let ss : List ℕ = next_loops second in
      let among : shares (fs ++ ss) loops ≡ shares ss loops =
      shares_both fs ss loops ∙ ap (λ b. b || shares ss loops) apart in
      let next : next_loops all ≡ with_next (next_loops whole) loops =
      ap next_loops is ∙ next_both first after ∙ ap (λ vs. fs ++ vs) put.next
      ∙ joined fs ss (shares ss loops)
      ∙ ap (λ b. if b then fs ++ ss else ((fs ++ ss) ++ next_of loops)) (sym among)
      ∙ ap (λ vs. with_next vs loops) (sym (next_both first second)) ∙ ap (λ c. with_next (next_loops c) loops) (sym was) in
      record {
        terms = subst (λ ns. IsPermutation (nest_in loops t ∷ ns) (nests all)) (sym (ap nests was ∙ nests_both first second))
            (subst (IsPermutation (nest_in loops t ∷ (nests first ++ nests second))) (sym (ap nests is ∙ nests_both first after))
            (IsPermutation-trans (nest_in loops t ∷ (nests first ++ nests second)) (nests first ++ nest_in loops t ∷ nests second)
            (nests first ++ nests after)
            (IsPermutation-sym (nests first ++ nest_in loops t ∷ nests second) (nest_in loops t ∷ (nests first ++ nests second))
            (IsPermutation-middle (nests first) (nest_in loops t) (nests second)))
            (IsPermutation-append_right (nests first) (nest_in loops t ∷ nests second) (nests after) put.terms)));
        plain = ap workspaces is ∙ workspaces_both first after ∙ ap (λ ks. workspaces first ++ ks) put.plain
            ∙ sym (workspaces_both first second) ∙ ap workspaces (sym was);
        next = next;
        shared = λ h.
            let parts = both_shared first second (subst SharesLoops was h) in
            subst SharesLoops (sym is) (shared_both first after
            (subst IsDistinct (sym next ∙ ap next_loops is ∙ next_both first after)
            (distinct_with_next (next_loops whole) loops (next_distinct whole h)))
            parts.0 (put.shared parts.1));
      }
    where
      joined : (fs ss : List ℕ) (b : Bool)
          → fs ++ (if b then ss else (ss ++ next_of loops)) ≡ (if b then fs ++ ss else ((fs ++ ss) ++ next_of loops))
      joined fs ss true = refl
      joined fs ss false = sym (append_assoc fs ss (next_of loops))

  pub put_inside : (v w : ℕ) (inner : List ℕ) (body after whole : Concrete) → whole ≡ Forall v body → loops ≡ w ∷ inner → w ≡ v
      → IsPut inner t body after → IsPut loops t whole (Forall v after)
  put_inside v w inner body after whole was loops_are same put =
      let all_loops : loops ≡ v ∷ inner = loops_are ∙ ap (λ u. u ∷ inner) same in
      let here : shares (v ∷ []) loops ≡ true = ap (shares (v ∷ [])) all_loops ∙ or_first (nat_eq v v) false (eq-eqb v v refl) in
      record {
        terms = subst (λ ns. IsPermutation (nest_in loops t ∷ ns) (nests (Forall v after))) (sym (ap nests was ∙ nests_forall v body))
            (subst (IsPermutation (nest_in loops t ∷ map (inside v) (nests body))) (sym (nests_forall v after))
            (subst (λ vs. IsPermutation (nest_in vs t ∷ map (inside v) (nests body)) (map (inside v) (nests after))) (sym all_loops)
            (IsPermutation-map (inside v) (nest_in inner t ∷ nests body) (nests after) put.terms)));
        plain = workspaces_forall v after ∙ put.plain ∙ sym (workspaces_forall v body) ∙ ap workspaces (sym was);
        next = next_forall v after ∙ ap (λ b. if b then v ∷ [] else ((v ∷ []) ++ next_of loops)) (sym here)
            ∙ ap (λ vs. with_next vs loops) (sym (next_forall v body)) ∙ ap (λ c. with_next (next_loops c) loops) (sym was);
        shared = λ h. shared_forall v after (put.shared (forall_shared v body (subst SharesLoops was h)));
      }

-- a whole by the parts that were read of it
pub whole_is : (whole first second left right : Concrete) → whole ≡ Both first second → left ≡ first → right ≡ second
    → whole ≡ Both left right
whole_is whole first second left right is one two = is ∙ (λ i. Both (sym one i) (sym two i))
