-- Lemmas about what specs/InOrder.antt defines.
use Rattle.std.specs.Prelude.{◌≡◌, ◌≢◌, ℕ, ◌+◌, ◌≤◌, ◌<◌, ◌==◌, nat_lt, Bool, true, false, if◌then◌else◌, List, [], ◌∷◌, length, Option}
use Rattle.std.specs.Prelude.{Some, refl}
use Rattle.std.proofs.Common.{◌∙◌, sym, ap, arith}
use Rattle.std.proofs.lemmas.Bool.Decides.{nat_tests}
use Rattle.lists.proofs.Tests.{same_number}
use Rattle.lists.specs.Each.{Each}
use Rattle.kernel_code.specs.Rows.{insert_by}
use Rattle.level_core.specs.declared.span.Span.{Span}
use Rattle.level_core.specs.declared.span.Entry.{Entry}
use Rattle.level_core.specs.Entries.{Rising, Lacks, Distinct}
use Rattle.tensor_storage.specs.Children.{child_of}
use Rattle.gathered_lists.specs.InOrder.{in_order, AreInOrder}

abbrev before : Entry → Entry → Bool
before d e = nat_lt d.coord e.coord

-- one entry more, in its place
lacks_insert : (x : ℕ) (r : Entry) (qs : List Entry) → r.coord ≢ x → Lacks x qs → Lacks x (insert_by before r qs)
lacks_insert x r [] h l = (h, tt)
lacks_insert x r (q ∷ qs) h l = elim (before q r) as (λ b. Lacks x (if b then q ∷ insert_by before r qs else r ∷ (q ∷ qs)))
    [ true ↦ (l.0, lacks_insert x r qs h l.1) | false ↦ (h, l) ]

rising_by : (m : ℕ) (r q : Entry) (qs : List Entry) (b : Bool) → nat_lt q.coord r.coord ≡ b → m ≤ r.coord → q.coord ≢ r.coord
    → Rising m (q ∷ qs) → (q.coord + 1 ≤ r.coord → Rising (q.coord + 1) (insert_by before r qs))
    → Rising m (if b then q ∷ insert_by before r qs else r ∷ (q ∷ qs))
rising_by m r q qs true is h apart k later = (k.0, later (let less : q.coord < r.coord = grind (arith, nat_tests) in omega arith))
rising_by m r q qs false is h apart k later =
    let more : r.coord ≤ q.coord = grind (arith, nat_tests) in (h, (omega arith, k.1))

rising_insert : (m : ℕ) (r : Entry) (qs : List Entry) → m ≤ r.coord → Lacks r.coord qs → Rising m qs → Rising m (insert_by before r qs)
rising_insert m r [] h l k = (h, tt)
rising_insert m r (q ∷ qs) h l k =
    rising_by m r q qs (nat_lt q.coord r.coord) refl h l.0 k (λ g. rising_insert (q.coord + 1) r qs g l.1 k.1)

swapped : (a b : Bool) (p q o : Option Span) → (a ≡ true → b ≡ true → ⊥)
    → (if a then p else if b then q else o) ≡ (if b then q else if a then p else o)
swapped true true p q o h = absurd (h refl refl)
swapped true false p q o h = refl
swapped false true p q o h = refl
swapped false false p q o h = refl

child_insert : (x : ℕ) (r : Entry) (qs : List Entry) → Lacks r.coord qs → child_of (insert_by before r qs) x ≡ child_of (r ∷ qs) x
child_insert x r [] l = refl
child_insert x r (q ∷ qs) l = elim (before q r) as
    (λ b. child_of (if b then q ∷ insert_by before r qs else r ∷ (q ∷ qs)) x ≡ child_of (r ∷ (q ∷ qs)) x) [
      | true ↦ ap (λ o. if q.coord == x then Some q.child else o) (child_insert x r qs l.1)
          ∙ swapped (q.coord == x) (r.coord == x) (Some q.child) (Some r.child) (child_of qs x)
          (λ h g. l.0 (same_number q.coord x h ∙ sym (same_number r.coord x g)))
      | false ↦ refl
    ]

many_insert : (r : Entry) (qs : List Entry) → length (insert_by before r qs) ≡ length qs + 1
many_insert r [] = refl
many_insert r (q ∷ qs) = let more = many_insert r qs in
    elim (before q r) as (λ b. length (if b then q ∷ insert_by before r qs else r ∷ (q ∷ qs)) ≡ length (q ∷ qs) + 1)
    [ true ↦ omega (arith, more) | false ↦ omega arith ]

each_insert : (P : Entry → Type 0) (r : Entry) (qs : List Entry) → P r → Each P qs → Each P (insert_by before r qs)
each_insert P r [] h l = (h, tt)
each_insert P r (q ∷ qs) h l = elim (before q r) as (λ b. Each P (if b then q ∷ insert_by before r qs else r ∷ (q ∷ qs)))
    [ true ↦ (l.0, each_insert P r qs h l.1) | false ↦ (h, l) ]

-- all of them
lacks_sorted : (x : ℕ) (es : List Entry) → Lacks x es → Lacks x (in_order es)
lacks_sorted x [] l = tt
lacks_sorted x (e ∷ es) l = lacks_insert x e (in_order es) l.0 (lacks_sorted x es l.1)

rising_sorted : (es : List Entry) → Distinct es → Rising 0 (in_order es)
rising_sorted [] d = tt
rising_sorted (e ∷ es) d =
    rising_insert 0 e (in_order es) (omega arith) (lacks_sorted e.coord es d.0) (rising_sorted es d.1)

child_sorted : (x : ℕ) (es : List Entry) → Distinct es → child_of (in_order es) x ≡ child_of es x
child_sorted x [] d = refl
child_sorted x (e ∷ es) d = child_insert x e (in_order es) (lacks_sorted e.coord es d.0)
    ∙ ap (λ o. if e.coord == x then Some e.child else o) (child_sorted x es d.1)

many_sorted : (es : List Entry) → length (in_order es) ≡ length es
many_sorted [] = refl
many_sorted (e ∷ es) = let one = many_insert e (in_order es) in let rest = many_sorted es in omega (arith, one, rest)

pub each_in_order : (P : Entry → Type 0) (es : List Entry) → Each P es → Each P (in_order es)
each_in_order P [] l = tt
each_in_order P (e ∷ es) l = each_insert P e (in_order es) l.0 (each_in_order P es l.1)

-- entries of which no coordinate stands twice
pub are_in_order : (es : List Entry) → Distinct es → AreInOrder es (in_order es)
are_in_order es d = record { rising = rising_sorted es d; children = λ x. child_sorted x es d; many = many_sorted es }
