-- The loop that keeps some entries, in place.
use Rattle.std.proofs.Common.{◌≡◌, ℕ, ◌+◌, ◌<◌, ◌≤◌, Bool, true, false, List, [], ◌∷◌}
use Rattle.std.proofs.Common.{◌++◌, length, get_or, take, drop, filter, cond, sym, ◌∙◌, ap, refl}
use Rattle.std.proofs.Common.{arith}
use Rattle.std.proofs.Math.ListN.{length-set, set}
use Rattle.std.proofs.lemmas.List.{take_more, take_more_set, get_or-drop, drop-drop, drop-set-lt, append-nil, take_all}
use Rattle.std.proofs.lemmas.List.Elements.{filter-append}
use Rattle.std.specs.Prelude.{nat_eq, not}
use Rattle.std.proofs.lemmas.Bool.{eqb-true, eq-eqb}
use Rattle.numbers.specs.Arithmetic.{Arithmetic}
use Rattle.tensor_map.specs.Entries.{Entry, is_nonzero}

-- read only past the end of a list
blank : Entry
blank = record { coords = []; value = 0 }

-- of the first `next` entries those that pass stand in front, and from there on all are as they were
pub record Keeps (p : Entry → Bool) (initial current : List Entry) (kept next : ℕ) : Type 0 where
  pub long : length current ≡ length initial
  pub behind : kept ≤ next
  pub front : take kept current ≡ filter p (take next initial)
  pub rest : drop next current ≡ drop next initial

module _ (p : Entry → Bool) (initial current : List Entry) (kept next : ℕ) (so : Keeps p initial current kept next)
    (h : next < length initial) where
  -- the next entry
  pub same_next : (d : Entry) → get_or initial next d ≡ get_or current next d
  same_next d = sym (ap (λ n. get_or initial n d) (omega arith)) ∙ sym (get_or-drop next initial 0 d)
      ∙ sym (ap (λ es. get_or es 0 d) so.rest) ∙ get_or-drop next current 0 d ∙ ap (λ n. get_or current n d) (omega arith)

  more : (d : Entry) → filter p (take (next + 1) initial)
      ≡ take kept current ++ cond (p (get_or current next d)) (get_or current next d ∷ []) []
  more d = ap (filter p) (take_more initial next d h) ∙ filter-append p (take next initial) (get_or initial next d ∷ [])
      ∙ (λ i. sym so.front i ++ cond (p (same_next d i)) (same_next d i ∷ []) [])

  rest_more : drop (next + 1) current ≡ drop (next + 1) initial
  rest_more = sym (drop-drop 1 next current) ∙ ap (drop 1) so.rest ∙ drop-drop 1 next initial

  pub keeps_not : ((d : Entry) → p (get_or current next d) ≡ false) → Keeps p initial current kept (next + 1)
  keeps_not fails = record {
    long = so.long;
    behind = omega (arith, so.behind);
    front = sym (more blank ∙ ap (λ b. take kept current ++ cond b (get_or current next blank ∷ []) []) (fails blank)
        ∙ append-nil (take kept current));
    rest = rest_more;
  }

  -- it stands where it goes already
  pub keeps_here : ((d : Entry) → p (get_or current next d) ≡ true) → next ≤ kept → Keeps p initial current (kept + 1) (next + 1)
  keeps_here passes here =
      let kept_is : kept ≡ next = omega (arith, so.behind) in
      let within : kept < length current = omega (arith, so.long) in
      record {
        long = so.long;
        behind = omega (arith, so.behind);
        front = take_more current kept blank within
            ∙ ap (λ n. take kept current ++ get_or current n blank ∷ []) kept_is
            ∙ sym (more blank ∙ ap (λ b. take kept current ++ cond b (get_or current next blank ∷ []) []) (passes blank));
        rest = rest_more;
      }

  -- it is put where it goes
  pub keeps_moved : (new : List Entry) → ((d : Entry) → p (get_or current next d) ≡ true) → kept < next
      → ((d : Entry) → new ≡ set current kept (get_or current next d)) → Keeps p initial new (kept + 1) (next + 1)
  keeps_moved new passes before is =
      let entry : Entry = get_or current next blank in
      let within : kept < length current = omega (arith, so.long) in
      record {
        long = ap length (is blank) ∙ length-set current kept entry ∙ so.long;
        behind = omega (arith, so.behind);
        front = ap (take (kept + 1)) (is blank) ∙ take_more_set current kept entry within
            ∙ sym (more blank ∙ ap (λ b. take kept current ++ cond b (get_or current next blank ∷ []) []) (passes blank));
        rest = ap (drop (next + 1)) (is blank) ∙ drop-set-lt (next + 1) current kept entry (omega arith) ∙ rest_more;
      }

-- at the end
pub keeps_all : (p : Entry → Bool) (initial current : List Entry) (kept next : ℕ) → Keeps p initial current kept next
    → length initial ≤ next → take kept current ≡ filter p initial
keeps_all p initial current kept next so h = so.front ∙ ap (filter p) (take_all next initial h)

-- whether an entry's value is the zero
passes_by : (a : Arithmetic) (entry : Entry) (b : Bool) → nat_eq entry.value a.zero ≡ b → (entry.value ≡ a.zero → ⊥)
    → is_nonzero a entry ≡ true
passes_by a entry true e other = absurd (other (eqb-true entry.value a.zero e))
passes_by a entry false e other = ap not e

pub passes : (a : Arithmetic) (entry : Entry) (value none : ℕ) → value ≡ entry.value → none ≡ a.zero → (value ≡ none → ⊥)
    → is_nonzero a entry ≡ true
passes a entry value none v z other = passes_by a entry (nat_eq entry.value a.zero) refl (λ e. other (v ∙ e ∙ sym z))

pub fails : (a : Arithmetic) (entry : Entry) (value none : ℕ) → value ≡ entry.value → none ≡ a.zero → value ≡ none
    → is_nonzero a entry ≡ false
fails a entry value none v z same = ap not (eq-eqb entry.value a.zero (sym v ∙ same ∙ z))
