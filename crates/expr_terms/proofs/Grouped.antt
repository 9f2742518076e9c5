-- What one more term, behind others, does to their groups.
use Rattle.std.specs.Prelude.{◌≡◌, ℕ, zero, suc, ◌<◌, ◌≤◌, Bool, true, false, not, cond, ◌||◌, nat_eq, List, [], ◌∷◌, ◌++◌, length, map}
use Rattle.std.specs.Prelude.{filter, slice_index_or, slice_set, None, refl}
use Rattle.std.specs.List.{list_any, position, position_or_len}
use Rattle.std.specs.Cmp.Lexicographic.{pointwise}
use Rattle.std.proofs.Common.{sym, ◌∙◌, ap, subst, arith, true≢false, append-nil, get_or}
use Rattle.std.proofs.lemmas.List.{map-append}
use Rattle.std.proofs.lemmas.List.Elements.{filter-append}
use Rattle.std.proofs.lemmas.List.Sums.{fails_before_first}
use Rattle.std.proofs.lemmas.Grind.{common_steps}
use Rattle.lists.specs.Each.{Each}
use Rattle.tensor_map.specs.Laws.{same, other}
use Rattle.tensor_map.proofs.Lemmas.{tested, at_itself}
use Rattle.index_notation.specs.declared.syntax.Statement.{Statement}
use Rattle.expr_terms.specs.Terms.{Term, own_variables}
use Rattle.expr_terms.specs.Groups.{Group, firsts, group_in, groups_in}
use Rattle.expr_terms.proofs.GroupLaws.{kept, dropped, apart_from, turned}

-- whether a list of numbers is among others
abbrev pub among : List ℕ → List (List ℕ) → Bool
among v ks = list_any (λ k. pointwise nat_eq k v) ks

-- taking out another list changes nothing of that
among_others : (k v : List ℕ) → pointwise nat_eq k v ≡ false → (ks : List (List ℕ)) → among v (filter (apart_from k) ks) ≡ among v ks
among_others k v apart [] = refl
among_others k v apart (w ∷ ks) = elim (tested w k) [
  | same is e ↦
      ap (among v) (dropped (apart_from k) w ks (ap not e)) ∙ among_others k v apart ks
      ∙ sym (ap (λ b. b || among v ks) (ap (λ u. pointwise nat_eq u v) is ∙ apart))
  | other is e ↦
      ap (among v) (kept (apart_from k) w ks (ap not e)) ∙ ap (λ b. pointwise nat_eq w v || b) (among_others k v apart ks)
]

pub among_firsts : (v : List ℕ) (ks : List (List ℕ)) → among v (firsts ks) ≡ among v ks
among_firsts v [] = refl
among_firsts v (k ∷ ks) = elim (tested k v) [
  | same is e ↦ ap (λ b. b || among v (filter (apart_from k) (firsts ks))) e ∙ sym (ap (λ b. b || among v ks) e)
  | other is e ↦ ap (λ b. pointwise nat_eq k v || b) (among_others k v e (firsts ks) ∙ among_firsts v ks)
]

-- one more list at the end stands first there, or stood before
pub firsts_more : (ks : List (List ℕ)) (v : List ℕ) (b : Bool) → among v (firsts ks) ≡ b
    → firsts (ks ++ v ∷ []) ≡ cond b (firsts ks) (firsts ks ++ v ∷ [])
firsts_more [] v b is = ap (λ c. cond c [] (v ∷ [])) is
firsts_more (k ∷ ks) v b is = elim (tested k v) [
  | same equal e ↦
      ap (λ us. k ∷ us) (unmoved e (among v (firsts ks)) (firsts_more ks v (among v (firsts ks)) refl))
      ∙ ap (λ c. cond c (firsts (k ∷ ks)) (firsts (k ∷ ks) ++ v ∷ [])) (sym (ap (λ c. c || among v (filter (apart_from k) (firsts ks))) e)
      ∙ is)
  | other apart e ↦ (
      let there : among v (firsts ks) ≡ b = sym (among_others k v e (firsts ks))
      ∙ sym (ap (λ c. c || among v (filter (apart_from k) (firsts ks))) e) ∙ is in
      moved (kept (apart_from k) v [] (ap not (turned k v apart))) b (firsts_more ks v b there))
]
  where
    unmoved : pointwise nat_eq k v ≡ true → (c : Bool) → firsts (ks ++ v ∷ []) ≡ cond c (firsts ks) (firsts ks ++ v ∷ [])
        → filter (apart_from k) (firsts (ks ++ v ∷ [])) ≡ filter (apart_from k) (firsts ks)
    unmoved e true before = ap (filter (apart_from k)) before
    unmoved e false before =
        let out : filter (apart_from k) (v ∷ []) ≡ [] = elim (tested v k) [
          | same is f ↦ dropped (apart_from k) v [] (ap not f)
          | other is f ↦ absurd (true≢false (sym e ∙ turned v k is))
        ] in
        ap (filter (apart_from k)) before ∙ filter-append (apart_from k) (firsts ks) (v ∷ [])
        ∙ ap (λ us. filter (apart_from k) (firsts ks) ++ us) out ∙ append-nil (filter (apart_from k) (firsts ks))

    moved : filter (apart_from k) (v ∷ []) ≡ v ∷ [] → (c : Bool) → firsts (ks ++ v ∷ []) ≡ cond c (firsts ks) (firsts ks ++ v ∷ [])
        → k ∷ filter (apart_from k) (firsts (ks ++ v ∷ [])) ≡ cond c (k ∷ filter (apart_from k) (firsts ks))
        (k ∷ filter (apart_from k) (firsts ks) ++ v ∷ [])
    moved stays true before = ap (λ us. k ∷ filter (apart_from k) us) before
    moved stays false before = ap (λ us. k ∷ us) (ap (filter (apart_from k)) before ∙ filter-append (apart_from k) (firsts ks) (v ∷ [])
        ∙ ap (λ us. filter (apart_from k) (firsts ks) ++ us) stays)

-- lists that each stand once
abbrev pub Apart : List (List ℕ) → Type 0
Apart [] = Unit {0}
Apart (k ∷ ks) = Each (λ w. pointwise nat_eq w k ≡ false) ks × Apart ks

keeps_each : (P : List ℕ → Type 0) (p : List ℕ → Bool) (ks : List (List ℕ)) → Each P ks → Each P (filter p ks)
keeps_each P p [] each = tt
keeps_each P p (k ∷ ks) each = by (p k) (keeps_each P p ks each.1)
  where
    by : (b : Bool) → Each P (filter p ks) → Each P (cond b (k ∷ filter p ks) (filter p ks))
    by true rest = (each.0, rest)
    by false rest = rest

keeps_apart : (p : List ℕ → Bool) (ks : List (List ℕ)) → Apart ks → Apart (filter p ks)
keeps_apart p [] apart = tt
keeps_apart p (k ∷ ks) apart = by (p k) (keeps_apart p ks apart.1)
  where
    by : (b : Bool) → Apart (filter p ks) → Apart (cond b (k ∷ filter p ks) (filter p ks))
    by true rest = (keeps_each (λ w. pointwise nat_eq w k ≡ false) p ks apart.0, rest)
    by false rest = rest

-- what is left is apart from what was taken out
left_apart : (k : List ℕ) (ks : List (List ℕ)) → Each (λ w. pointwise nat_eq w k ≡ false) (filter (apart_from k) ks)
left_apart k [] = tt
left_apart k (w ∷ ks) = by (pointwise nat_eq w k) refl (left_apart k ks)
  where
    by : (b : Bool) → pointwise nat_eq w k ≡ b → Each (λ u. pointwise nat_eq u k ≡ false) (filter (apart_from k) ks)
        → Each (λ u. pointwise nat_eq u k ≡ false) (cond (not b) (w ∷ filter (apart_from k) ks) (filter (apart_from k) ks))
    by true e rest = rest
    by false e rest = (e, rest)

pub firsts_apart : (ks : List (List ℕ)) → Apart (firsts ks)
firsts_apart [] = tt
firsts_apart (k ∷ ks) = (left_apart k (firsts ks), keeps_apart (apart_from k) (firsts ks) (firsts_apart ks))

-- the group with one term more
abbrev pub with_term : Term → Group → Group
with_term t g = record { vars = g.vars; terms = g.terms ++ t ∷ [] }

or_true : (b : Bool) → (b || true) ≡ true
or_true true = refl
or_true false = refl

equal_lists : (vs ws : List ℕ) → pointwise nat_eq vs ws ≡ true → vs ≡ ws
equal_lists vs ws e = elim (tested vs ws) [
  | same is f ↦ is
  | other is f ↦ absurd (true≢false (sym e ∙ f))
]

none_each : (v : List ℕ) (ks : List (List ℕ)) → among v ks ≡ false → Each (λ k. pointwise nat_eq v k ≡ false) ks
none_each v [] absent = tt
none_each v (k ∷ ks) absent = elim (tested k v) [
  | same is e ↦ absurd (true≢false (sym (ap (λ b. b || among v ks) e) ∙ absent))
  | other is e ↦ (turned k v is, none_each v ks (sym (ap (λ b. b || among v ks) e) ∙ absent))
]

-- without a place nothing passes
none_any : {X : Type 0} (p : X → Bool) (xs : List X) → ((k : ℕ) → k < length xs → (d : X) → p (get_or xs k d) ≡ false)
    → list_any p xs ≡ false
none_any p [] fails = refl
none_any p (x ∷ xs) fails =
    ap (λ b. b || list_any p xs) (fails 0 (omega arith) x) ∙ none_any p xs (λ k below d. fails (suc k) (omega arith) d)

none_passes : {X : Type 0} (p : X → Bool) (xs : List X) → position p xs ≡ None → list_any p xs ≡ false
none_passes p xs none =
    let past : length xs ≤ position_or_len p xs = grind (arith, common_steps) in
    none_any p xs (λ k below d. fails_before_first p xs k d (omega arith))

module _ (s : Statement) (ts : List Term) (t : Term) where
  -- a term is put behind those of its own variables
  group_gains : (k : List ℕ) → pointwise nat_eq (own_variables s t) k ≡ true → group_in s (ts ++ t ∷ []) k ≡ with_term t (group_in s ts k)
  group_gains k e =
      let test : Term → Bool = λ u. pointwise nat_eq (own_variables s u) k in
      λ i. record { vars = k; terms = (filter-append test ts (t ∷ []) ∙ ap (λ us. filter test ts ++ us) (kept test t [] e)) i }

  group_stays : (k : List ℕ) → pointwise nat_eq (own_variables s t) k ≡ false → group_in s (ts ++ t ∷ []) k ≡ group_in s ts k
  group_stays k e =
      let test : Term → Bool = λ u. pointwise nat_eq (own_variables s u) k in
      λ i. record {
        vars = k;
        terms =
            (filter-append test ts (t ∷ []) ∙ ap (λ us. filter test ts ++ us) (dropped test t [] e) ∙ append-nil (filter test ts)) i;
      }

  groups_stay : (ks : List (List ℕ)) → Each (λ k. pointwise nat_eq (own_variables s t) k ≡ false) ks
      → map (group_in s (ts ++ t ∷ [])) ks ≡ map (group_in s ts) ks
  groups_stay [] each = refl
  groups_stay (k ∷ ks) each = ap (λ g. g ∷ map (group_in s (ts ++ t ∷ [])) ks) (group_stays k each.0)
      ∙ ap (λ gs. group_in s ts k ∷ gs) (groups_stay ks each.1)

  flipped : (k : List ℕ) (ks : List (List ℕ)) → k ≡ own_variables s t → Each (λ w. pointwise nat_eq w k ≡ false) ks
      → Each (λ w. pointwise nat_eq (own_variables s t) w ≡ false) ks
  flipped k [] is each = tt
  flipped k (w ∷ ks) is each = (
    elim (tested (own_variables s t) w) [
      | same equal e ↦ absurd (true≢false (sym (at_itself k) ∙ ap (λ u. pointwise nat_eq u k) (is ∙ equal) ∙ each.0))
      | other apart e ↦ e
    ],
    flipped k ks is each.1,
  )

  -- what is so of each key is so of a group's
  each_at : (P : List ℕ → Type 0) (ks : List (List ℕ)) (n : ℕ) (g : Group) → n < length (map (group_in s ts) ks)
      → g ≡ slice_index_or (map (group_in s ts) ks) n g → Each P ks → P g.vars
  each_at P [] n g within read each = absurd (omega arith)
  each_at P (k ∷ ks) zero g within read each = subst P (sym (ap (λ h. h.vars) read)) each.0
  each_at P (k ∷ ks) (suc n) g within read each = each_at P ks n g (omega arith) read each.1

  among_at : (v : List ℕ) (ks : List (List ℕ)) (n : ℕ) (g : Group) → n < length (map (group_in s ts) ks)
      → g ≡ slice_index_or (map (group_in s ts) ks) n g → pointwise nat_eq g.vars v ≡ true → among v ks ≡ true
  among_at v [] n g within read found = absurd (omega arith)
  among_at v (k ∷ ks) zero g within read found = ap (λ b. b || among v ks) (sym (ap (λ h. pointwise nat_eq h.vars v) read) ∙ found)
  among_at v (k ∷ ks) (suc n) g within read found = ap (λ b. pointwise nat_eq k v || b) (among_at v ks n g (omega arith) read found)
      ∙ or_true (pointwise nat_eq k v)

  any_key : (v : List ℕ) (ks : List (List ℕ)) → list_any (λ h. pointwise nat_eq h.vars v) (map (group_in s ts) ks) ≡ among v ks
  any_key v [] = refl
  any_key v (k ∷ ks) = ap (λ b. pointwise nat_eq k v || b) (any_key v ks)

  -- the group at a place gains the term, if it is that of the term's own variables
  group_at : (ks : List (List ℕ)) (n : ℕ) (g : Group) → Apart ks → n < length (map (group_in s ts) ks)
      → g ≡ slice_index_or (map (group_in s ts) ks) n g → g.vars ≡ own_variables s t
      → slice_set (map (group_in s ts) ks) n (with_term t g) ≡ map (group_in s (ts ++ t ∷ [])) ks
  group_at [] n g apart within read is = absurd (omega arith)
  group_at (k ∷ ks) zero g apart within read is =
      let own : k ≡ own_variables s t = sym (ap (λ h. h.vars) read) ∙ is in
      let here : with_term t g ≡ group_in s (ts ++ t ∷ []) k = ap (with_term t) read
      ∙ sym (group_gains k (sym (ap (λ v. pointwise nat_eq v k) own) ∙ at_itself k)) in
      ap (λ h. h ∷ map (group_in s ts) ks) here
      ∙ ap (λ gs. group_in s (ts ++ t ∷ []) k ∷ gs) (sym (groups_stay ks (flipped k ks own apart.0)))
  group_at (k ∷ ks) (suc n) g apart within read is =
      let elsewhere : pointwise nat_eq (own_variables s t) k ≡ false = ap (λ v. pointwise nat_eq v k) (sym is)
      ∙ each_at (λ w. pointwise nat_eq w k ≡ false) ks n g (omega arith) read apart.0 in
      ap (λ h. h ∷ slice_set (map (group_in s ts) ks) n (with_term t g)) (sym (group_stays k elsewhere))
      ∙ ap (λ gs. group_in s (ts ++ t ∷ []) k ∷ gs) (group_at ks n g apart.1 (omega arith) read is)

  keys_more : firsts (map (own_variables s) (ts ++ t ∷ [])) ≡ firsts (map (own_variables s) ts ++ own_variables s t ∷ [])
  keys_more = ap firsts (map-append (own_variables s) ts (t ∷ []))

  none_left : (v : List ℕ) (us : List Term) → among v (map (own_variables s) us) ≡ false
      → filter (λ u. pointwise nat_eq (own_variables s u) v) us ≡ []
  none_left v [] absent = refl
  none_left v (u ∷ us) absent = by (pointwise nat_eq (own_variables s u) v) absent (none_left v us)
    where
      by : (b : Bool) → (b || among v (map (own_variables s) us)) ≡ false
          → (among v (map (own_variables s) us) ≡ false → filter (λ w. pointwise nat_eq (own_variables s w) v) us ≡ [])
          → cond b (u ∷ filter (λ w. pointwise nat_eq (own_variables s w) v) us) (filter (λ w. pointwise nat_eq (own_variables s w) v) us)
          ≡ []
      by true none rest = absurd (true≢false none)
      by false none rest = rest none

  pub term_joins : (gs : List Group) (v : List ℕ) (n : ℕ) (g : Group) → gs ≡ groups_in s ts → v ≡ own_variables s t → n < length gs
      → g ≡ slice_index_or gs n g → pointwise nat_eq g.vars v ≡ true
      → slice_set gs n (with_term t g) ≡ groups_in s (ts ++ t ∷ [])
  term_joins gs v n g are owned within read found =
      let ks : List (List ℕ) = firsts (map (own_variables s) ts) in
      let inside : n < length (map (group_in s ts) ks) = subst (λ (hs : List Group). n < length hs) are within in
      let there : g ≡ slice_index_or (map (group_in s ts) ks) n g = read ∙ ap (λ hs. slice_index_or hs n g) are in
      let own : pointwise nat_eq g.vars (own_variables s t) ≡ true = ap (pointwise nat_eq g.vars) (sym owned) ∙ found in
      ap (λ hs. slice_set hs n (with_term t g)) are
      ∙ group_at ks n g (firsts_apart (map (own_variables s) ts)) inside there (equal_lists g.vars (own_variables s t) own)
      ∙ ap (map (group_in s (ts ++ t ∷ [])))
      (sym (keys_more ∙ firsts_more (map (own_variables s) ts) (own_variables s t) true
      (among_at (own_variables s t) ks n g inside there own)))

  pub term_opens : (gs : List Group) (v : List ℕ) (g : Group) → gs ≡ groups_in s ts → v ≡ own_variables s t → g.vars ≡ v
      → g.terms ≡ t ∷ [] → position (λ h. pointwise nat_eq h.vars v) gs ≡ None
      → gs ++ g ∷ [] ≡ groups_in s (ts ++ t ∷ [])
  term_opens gs v g are owned vars made none =
      let own : List ℕ = own_variables s t in
      let keys : List (List ℕ) = map (own_variables s) ts in
      let absent : among own (firsts keys) ≡ false =
      ap (λ w. among w (firsts keys)) (sym owned) ∙ sym (any_key v (firsts keys))
      ∙ ap (list_any (λ h. pointwise nat_eq h.vars v)) (sym are) ∙ none_passes (λ h. pointwise nat_eq h.vars v) gs none in
      let alone : filter (λ u. pointwise nat_eq (own_variables s u) own) ts ≡ [] =
      none_left own ts (sym (among_firsts own keys) ∙ absent) in
      let one : g ≡ group_in s (ts ++ t ∷ []) own =
      (λ i. record { vars = (vars ∙ owned) i; terms = (made ∙ ap (λ us. us ++ t ∷ []) (sym alone)) i })
      ∙ sym (group_gains own (at_itself own)) in
      ap (λ hs. hs ++ g ∷ []) (are ∙ sym (groups_stay (firsts keys) (none_each own (firsts keys) absent)))
      ∙ ap (λ h. map (group_in s (ts ++ t ∷ [])) (firsts keys) ++ h ∷ []) one
      ∙ sym (map-append (group_in s (ts ++ t ∷ [])) (firsts keys) (own ∷ []))
      ∙ ap (map (group_in s (ts ++ t ∷ []))) (sym (keys_more ∙ firsts_more keys own false absent))
