-- A statement has one fault of its names at most.
use Rattle.std.specs.Prelude.{◌≡◌, ◌≢◌, ℕ, zero, suc, ◌<◌, List, [], ◌∷◌, ◌++◌, length, slice_index_or, Contains, refl}
use Rattle.std.proofs.Common.{sym, ◌∙◌, ap, subst, arith, append_assoc}
use Rattle.lists.specs.Each.{Each}
use Rattle.index_notation.specs.declared.syntax.Access.{Access}
use Rattle.index_notation.specs.declared.syntax.Statement.{Statement}
use Rattle.index_notation.specs.Statement.{IsDistinct}
use Rattle.expr_terms.specs.declared.names.NameFault.{NameFault}
use Rattle.expr_terms.specs.declared.names.NameFault.TheVariants.{ResultRead, Arity, RepeatedVariable, BadSum}
use Rattle.expr_terms.specs.Names.{RepeatsFirst, IsFaultless, HasFault, AreFaultless, HasNoNameFault, IsFirstNameFault}
use Rattle.expr_terms.proofs.NameLaws.{append_none}

-- how two places in a list stand to each other
data Places {A : Type 0} (a b : List A) (t u : A) : Type 0 where
  same : a ≡ b → t ≡ u → Places a b t u
  before : (c : List A) → b ≡ a ++ (t ∷ c) → Places a b t u
  behind : (c : List A) → a ≡ b ++ (u ∷ c) → Places a b t u

one_on : {A : Type 0} (x : A) (a b : List A) (t u : A) → Places a b t u → Places (x ∷ a) (x ∷ b) t u
one_on {A} x a b t u p = elim p [
  | same e f ↦ same (ap (λ (l : List A). x ∷ l) e) f
  | before c e ↦ before c (ap (λ (l : List A). x ∷ l) e)
  | behind c e ↦ behind c (ap (λ (l : List A). x ∷ l) e)
]

places : {A : Type 0} (a b : List A) (t u : A) (r q : List A) → a ++ (t ∷ r) ≡ b ++ (u ∷ q) → Places a b t u
places [] [] t u r q e = same refl (let h : t ≡ u = cc in h)
places {A} [] (y ∷ b) t u r q e = before b (let h : t ≡ y = cc in ap (λ (z : A). z ∷ b) (sym h))
places {A} (x ∷ a) [] t u r q e = behind a (let h : x ≡ u = cc in ap (λ (z : A). z ∷ a) h)
places {A} (x ∷ a) (y ∷ b) t u r q e =
    let first : x ≡ y = cc in
    let others : a ++ (t ∷ r) ≡ b ++ (u ∷ q) = cc in
    subst (λ (z : A). Places (x ∷ a) (z ∷ b) t u) first (one_on x a b t u (places a b t u r q others))

-- distinct numbers have none of theirs at their front
each_at : (P : ℕ → Type 0) (front : List ℕ) (v : ℕ) (rest : List ℕ) → Each P (front ++ (v ∷ rest)) → P v
each_at P [] v rest h = h.0
each_at P (x ∷ front) v rest h = each_at P front v rest h.1

not_at : (k : ℕ) (front : List ℕ) (v : ℕ) (rest : List ℕ) → IsDistinct (front ++ (v ∷ rest)) → k < length front
    → slice_index_or front k v ≡ v → ⊥
not_at k [] v rest h l s = omega (arith, l)
not_at zero (x ∷ front) v rest h l s = each_at (λ y. x ≢ y) front v rest h.0 s
not_at (suc k) (x ∷ front) v rest h l s = not_at k front v rest h.1 (let m : k < length front = omega (arith, l) in m) s

never_again : {A : Type 0} (front : List ℕ) (v : ℕ) (rest : List ℕ) → IsDistinct (front ++ (v ∷ rest)) → Contains front v → A
never_again front v rest h c = absurd (not_at c.0 front v rest h c.1 c.2)

repeats_once : (xs : List ℕ) (v w : ℕ) → RepeatsFirst xs v → RepeatsFirst xs w → v ≡ w
repeats_once xs v w h k = elim (places h.front k.front v w h.behind k.behind (sym h.all ∙ k.all)) [
  | same e f ↦ f
  | before c e ↦ never_again h.front v c (subst IsDistinct e k.once) h.again
  | behind c e ↦ never_again k.front w c (subst IsDistinct e h.once) k.again
]

-- an access has one fault
fault_once : (left : Access) (earlier : List Access) (a : Access) (f g : NameFault) → HasFault left earlier a f
    → HasFault left earlier a g → f ≡ g
fault_once left earlier a (ResultRead t) (ResultRead u) h k = ap ResultRead (h.0 ∙ sym k.0)
fault_once left earlier a (ResultRead t) (Arity u) h k = absurd (k.1 h.1)
fault_once left earlier a (ResultRead t) (RepeatedVariable u w) h k = absurd (k.1 h.1)
fault_once left earlier a (ResultRead t) (BadSum v) h k = absurd k
fault_once left earlier a (Arity t) (ResultRead u) h k = absurd (h.1 k.1)
fault_once left earlier a (Arity t) (Arity u) h k = ap Arity (h.0 ∙ sym k.0)
fault_once left earlier a (Arity t) (RepeatedVariable u w) h k = absurd (h.2 k.2)
fault_once left earlier a (Arity t) (BadSum v) h k = absurd k
fault_once left earlier a (RepeatedVariable t v) (ResultRead u) h k = absurd (h.1 k.1)
fault_once left earlier a (RepeatedVariable t v) (Arity u) h k = absurd (k.2 h.2)
fault_once left earlier a (RepeatedVariable t v) (BadSum w) h k = absurd k
fault_once left earlier a (BadSum v) g h k = absurd h
fault_once left earlier a (RepeatedVariable t v) (RepeatedVariable u w) h k =
    let tensor : t ≡ u = h.0 ∙ sym k.0 in
    let var : v ≡ w = repeats_once a.vars v w h.3 k.3 in
    λ i. RepeatedVariable (tensor i) (var i)

-- and none beside the fact that it has none
fault_or_none : {A : Type 0} (left : Access) (earlier : List Access) (a : Access) (f : NameFault) → IsFaultless left earlier a
    → HasFault left earlier a f → A
fault_or_none left earlier a (ResultRead t) h k = absurd (h.unread k.1)
fault_or_none left earlier a (Arity t) h k = absurd (k.2 h.order)
fault_or_none left earlier a (RepeatedVariable t v) h k = never_again k.3.front v k.3.behind (subst IsDistinct k.3.all h.once) k.3.again
fault_or_none left earlier a (BadSum v) h k = absurd k

none_at : (left : Access) (e a : List Access) (t : Access) (r : List Access) → AreFaultless left e (a ++ (t ∷ r))
    → IsFaultless left (e ++ a) t
none_at left e [] t r h = subst (λ (l : List Access). IsFaultless left l t) (sym (append_none e)) h.0
none_at left e (x ∷ a) t r h =
    subst (λ (l : List Access). IsFaultless left l t) (append_assoc e (x ∷ []) a) (none_at left (e ++ (x ∷ [])) a t r h.1)

-- where the faulty access stands earlier, there is a fault before the other
never_earlier : {A : Type 0} (left : Access) (a b c : List Access) (t : Access) (f : NameFault) → b ≡ a ++ (t ∷ c) → HasFault left a t f
    → AreFaultless left [] b → A
never_earlier left a b c t f e h k =
    fault_or_none left a t f (none_at left [] a t c (subst (λ (l : List Access). AreFaultless left [] l) e k)) h

pub name_fault_once : (s : Statement) (f g : NameFault) → IsFirstNameFault s f → IsFirstNameFault s g → f ≡ g
name_fault_once s f g h k = elim (places h.earlier k.earlier h.access k.access h.later k.later (sym h.all ∙ k.all)) [
  | same e a ↦ fault_once s.left k.earlier k.access f g
      (subst (λ (x : Access). HasFault s.left k.earlier x f) a (subst (λ (l : List Access). HasFault s.left l h.access f) e h.is)) k.is
  | before c e ↦ never_earlier s.left h.earlier k.earlier c h.access f e h.is k.none_before
  | behind c e ↦ never_earlier s.left k.earlier h.earlier c k.access g e k.is h.none_before
]

pub names_never_both : (s : Statement) (f : NameFault) → HasNoNameFault s → IsFirstNameFault s f → ⊥
names_never_both s f h k = never_earlier s.left k.earlier (s.left ∷ s.accesses) k.later k.access f k.all k.is h
