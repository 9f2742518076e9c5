-- What a list of files tells of a name, from the place of the first file of that name.
use Rattle.std.proofs.Common.{List, [], ◌∷◌, ◌++◌, ◌≡◌, ◌≢◌, ℕ, zero, suc, ◌+◌, ◌<◌, Bool, true, false, Option, None, Some, length, get_or}
use Rattle.std.proofs.Common.{take, drop, refl, sym, ap, ◌∙◌, subst, arith, string_bytes}
use Rattle.std.specs.Prelude.{slice_get, if◌then◌else◌}
use Rattle.std.specs.Bool.{Decides}
use Rattle.std.specs.Str.{bytes_eq}
use Rattle.std.proofs.lemmas.Slice.Eq.{bytes_eq-Decides}
use Rattle.std.proofs.Math.ListN.{set}
use Rattle.std.proofs.lemmas.List.{take-append-drop, drop-drop}
use Rattle.std.proofs.lemmas.Grind.{common_steps}
use Rattle.std.proofs.lemmas.Option.{slice_get_read}
use Rattle.std.proofs.lemmas.Bool.Decides.{not_from_Decides}
use Rattle.std.specs.Option.{option_map}
use Rattle.outside.specs.Told.{Told, NoFile, Bytes, grown, emptied}
use Rattle.outside.specs.Folder.{before_rest}
use Rattle.outside.specs.MemoryFile.{told, name_at, IsNewName, IsFirst, IsFirstOfName, Changes, rest_of}
use Rattle.outside.specs.declared.memory_file.MemoryFile.{MemoryFile}

is_false : {P : Type 0} (r : Bool) → Decides r P → ¬ P → r ≡ false
is_false true d h = absurd (h (d.0 refl))
is_false false d h = refl

told-same : (x : MemoryFile) (fs : List MemoryFile) (name : List ℕ) → string_bytes x.name ≡ name → told (x ∷ fs) name ≡ Bytes x.bytes.items
told-same x fs name h = rw ((bytes_eq-Decides (string_bytes x.name) name).1 h) refl

told-other : (x : MemoryFile) (fs : List MemoryFile) (name : List ℕ) → string_bytes x.name ≢ name → told (x ∷ fs) name ≡ told fs name
told-other x fs name h = rw (is_false (bytes_eq (string_bytes x.name) name) (bytes_eq-Decides (string_bytes x.name) name) h) refl

other_front : (x : MemoryFile) (fs : List MemoryFile) (name : List ℕ) (i : ℕ) → IsNewName (x ∷ fs) (suc i) name → string_bytes x.name ≢ name
other_front x fs name i h e = h 0 (omega arith) (ap Some e)

other_later : (x : MemoryFile) (fs : List MemoryFile) (name : List ℕ) (i : ℕ) → IsNewName (x ∷ fs) (suc i) name → IsNewName fs i name
other_later x fs name i h k b = h (suc k) (omega arith)

-- no file has the name
pub told_none : (fs : List MemoryFile) (name : List ℕ) → IsNewName fs (length fs) name → told fs name ≡ NoFile
told_none [] name h = refl
told_none (x ∷ fs) name h =
    told-other x fs name (other_front x fs name (length fs) h) ∙ told_none fs name (other_later x fs name (length fs) h)

-- the first file of the name
pub told_first : (fs : List MemoryFile) (i : ℕ) (name : List ℕ) (f : MemoryFile) → IsFirst fs i name → slice_get fs i ≡ Some f
    → told fs name ≡ Bytes f.bytes.items
told_first [] i name f h e = cc
told_first (x ∷ fs) zero name f h e =
    let is : x ≡ f = cc in
    let named : string_bytes x.name ≡ name = let n : Some (string_bytes x.name) ≡ Some name = h.named in cc in
    told-same x fs name named ∙ ap (λ (y : MemoryFile). Bytes y.bytes.items) is
told_first (x ∷ fs) (suc i) name f h e =
    told-other x fs name (other_front x fs name i h.before)
    ∙ told_first fs i name f (record { named = h.named; before = other_later x fs name i h.before }) e

-- a new file at the end
pub told_new : (fs : List MemoryFile) (name : List ℕ) (f : MemoryFile) → IsNewName fs (length fs) name → string_bytes f.name ≡ name
    → told (fs ++ f ∷ []) name ≡ Bytes f.bytes.items
told_new [] name f h n = told-same f [] name n
told_new (x ∷ fs) name f h n =
    told-other x (fs ++ f ∷ []) name (other_front x fs name (length fs) h) ∙ told_new fs name f (other_later x fs name (length fs) h) n

pub told_new_other : (fs : List MemoryFile) (f : MemoryFile) (other : List ℕ) → string_bytes f.name ≢ other
    → told (fs ++ f ∷ []) other ≡ told fs other
told_new_other [] f other n = told-other f [] other n
told_new_other (x ∷ fs) f other n =
    ap (λ (t : Told). if bytes_eq (string_bytes x.name) other then Bytes x.bytes.items else t) (told_new_other fs f other n)

-- the bytes of the first file of the name are changed
pub told_changed : (fs : List MemoryFile) (i : ℕ) (name : List ℕ) (f : MemoryFile) → IsFirst fs i name → string_bytes f.name ≡ name
    → told (set fs i f) name ≡ Bytes f.bytes.items
told_changed [] i name f h n = let e : None ≡ Some name = h.named in cc
told_changed (x ∷ fs) zero name f h n = told-same f fs name n
told_changed (x ∷ fs) (suc i) name f h n =
    told-other x (set fs i f) name (other_front x fs name i h.before)
    ∙ told_changed fs i name f (record { named = h.named; before = other_later x fs name i h.before }) n

pub told_changed_other : (fs : List MemoryFile) (i : ℕ) (name : List ℕ) (f : MemoryFile) (other : List ℕ) → name_at fs i ≡ Some name
    → string_bytes f.name ≡ name → other ≢ name → told (set fs i f) other ≡ told fs other
told_changed_other [] i name f other h n o = refl
told_changed_other (x ∷ fs) zero name f other h n o =
    let is : Some (string_bytes x.name) ≡ Some name = h in
    let named : string_bytes x.name ≡ name = cc in
    told-other f fs other (λ e. o (sym e ∙ n)) ∙ sym (told-other x fs other (λ e. o (sym e ∙ named)))
told_changed_other (x ∷ fs) (suc i) name f other h n o =
    ap (λ (t : Told). if bytes_eq (string_bytes x.name) other then Bytes x.bytes.items else t) (told_changed_other fs i name f other h n o)

-- names stay, where a file gets the name that stood at its place, or where one is added
pub name_at-set : (fs : List MemoryFile) (i k : ℕ) (f : MemoryFile) → name_at fs i ≡ Some (string_bytes f.name)
    → name_at (set fs i f) k ≡ name_at fs k
name_at-set [] i k f h = refl
name_at-set (x ∷ fs) zero zero f h = sym h
name_at-set (x ∷ fs) zero (suc k) f h = refl
name_at-set (x ∷ fs) (suc i) zero f h = refl
name_at-set (x ∷ fs) (suc i) (suc k) f h = name_at-set fs i k f h

pub name_at-append : (fs : List MemoryFile) (k : ℕ) (f : MemoryFile) → k < length fs → name_at (fs ++ f ∷ []) k ≡ name_at fs k
name_at-append [] k f h = absurd (omega arith)
name_at-append (x ∷ fs) zero f h = refl
name_at-append (x ∷ fs) (suc k) f h = name_at-append fs k f (omega arith)

pub name_at-last : (fs : List MemoryFile) (f : MemoryFile) → name_at (fs ++ f ∷ []) (length fs) ≡ Some (string_bytes f.name)
name_at-last [] f = refl
name_at-last (x ∷ fs) f = name_at-last fs f

-- the file that was read at a place
pub name_at-read : (fs : List MemoryFile) (i : ℕ) (f : MemoryFile) → i < length fs → f ≡ get_or fs i f
    → name_at fs i ≡ Some (string_bytes f.name)
name_at-read fs i f b e = ap (option_map (λ (x : MemoryFile). string_bytes x.name)) (slice_get_read fs (length fs) i f refl b e)

-- the file that was read has the name, or hasn't, by `==` on its text
pub name_found : (fs : List MemoryFile) (i : ℕ) (f : MemoryFile) (text name : List ℕ) (r : Bool) → i < length fs → f ≡ get_or fs i f
    → text ≡ string_bytes f.name → r ≡ bytes_eq text name → r ≡ true → name_at fs i ≡ Some name
name_found fs i f text name r b e t q y =
    name_at-read fs i f b e ∙ ap Some (sym t ∙ (bytes_eq-Decides text name).0 (sym q ∙ y))

pub name_missed : (fs : List MemoryFile) (i : ℕ) (f : MemoryFile) (text name : List ℕ) (r : Bool) → i < length fs → f ≡ get_or fs i f
    → text ≡ string_bytes f.name → r ≡ bytes_eq text name → r ≡ false → name_at fs i ≢ Some name
name_missed fs i f text name r b e t q n h =
    let is : Some (string_bytes f.name) ≡ Some name = sym (name_at-read fs i f b e) ∙ h in
    let same : string_bytes f.name ≡ name = cc in
    not_from_Decides (bytes_eq text name) (bytes_eq-Decides text name) (sym q ∙ n) (t ∙ same)

pub name_at_within : (fs : List MemoryFile) (i : ℕ) (name : List ℕ) → name_at fs i ≡ Some name → i < length fs
name_at_within [] i name h = cc
name_at_within (x ∷ fs) zero name h = omega arith
name_at_within (x ∷ fs) (suc i) name h = omega (arith, name_at_within fs i name h)

length-set_file : (fs : List MemoryFile) (i : ℕ) (f : MemoryFile) → length (set fs i f) ≡ length fs
length-set_file fs i f = grind (arith, common_steps)

-- a file that keeps its name and its bytes
pub told_kept : (fs : List MemoryFile) (i : ℕ) (x f : MemoryFile) → i < length fs → x ≡ get_or fs i x
    → string_bytes f.name ≡ string_bytes x.name → f.bytes.items ≡ x.bytes.items → (name : List ℕ) → told (set fs i f) name ≡ told fs name
told_kept [] i x f b e n h name = refl
told_kept (y ∷ fs) zero x f b e n h name =
    let same_name : string_bytes f.name ≡ string_bytes y.name = n ∙ ap (λ (z : MemoryFile). string_bytes z.name) e in
    let same_bytes : f.bytes.items ≡ y.bytes.items = h ∙ ap (λ (z : MemoryFile). z.bytes.items) e in
    rw (same_name, same_bytes) refl
told_kept (y ∷ fs) (suc i) x f b e n h name =
    ap (λ (t : Told). if bytes_eq (string_bytes y.name) name then Bytes y.bytes.items else t) (told_kept fs i x f (omega arith) e n h name)

-- the first file of a name keeps its name and gets other bytes
pub changes_at : (fs : List MemoryFile) (i : ℕ) (name : List ℕ) (x f : MemoryFile) → IsFirst fs i name → x ≡ get_or fs i x
    → string_bytes f.name ≡ string_bytes x.name → Changes fs (set fs i f) name (Bytes f.bytes.items)
changes_at fs i name x f h e n =
    let b : i < length fs = name_at_within fs i name h.named in
    let at : name_at fs i ≡ Some (string_bytes x.name) = name_at-read fs i x b e in
    let same : Some (string_bytes x.name) ≡ Some name = sym at ∙ h.named in
    let named : string_bytes f.name ≡ name = cc in
    record {
      told_is = told_changed fs i name f h named;
      others = λ other o. told_changed_other fs i name f other h.named named o;
      names = λ k w. name_at-set fs i k f (at ∙ ap Some (sym n));
      grows = omega (arith, length-set_file fs i f);
    }

pub grows_at : (fs : List MemoryFile) (i : ℕ) (name piece : List ℕ) (x f : MemoryFile) → IsFirst fs i name → x ≡ get_or fs i x
    → string_bytes f.name ≡ string_bytes x.name → f.bytes.items ≡ x.bytes.items ++ piece
    → Changes fs (set fs i f) name (grown (told fs name) piece)
grows_at fs i name piece x f h e n g =
    let b : i < length fs = name_at_within fs i name h.named in
    let was : told fs name ≡ Bytes x.bytes.items = told_first fs i name x h (slice_get_read fs (length fs) i x refl b e) in
    let now : Bytes f.bytes.items ≡ grown (told fs name) piece = ap Bytes g ∙ sym (ap (λ (t : Told). grown t piece) was) in
    subst (λ (t : Told). Changes fs (set fs i f) name t) now (changes_at fs i name x f h e n)

pub first_after : (fs gs : List MemoryFile) (i : ℕ) (name other : List ℕ) (now : Told) → IsFirst fs i name → Changes fs gs other now
    → IsFirst gs i name
first_after fs gs i name other now h d =
    let b : i < length fs = name_at_within fs i name h.named in
    record { named = d.names i b ∙ h.named; before = λ k w e. h.before k w (sym (d.names k (omega arith)) ∙ e) }

-- a new file is added
pub changes_by_new : (fs : List MemoryFile) (name : List ℕ) (f : MemoryFile) → IsNewName fs (length fs) name → string_bytes f.name ≡ name
    → Changes fs (fs ++ f ∷ []) name (Bytes f.bytes.items)
changes_by_new fs name f h n = record {
  told_is = told_new fs name f h n;
  others = λ other o. told_new_other fs f other (λ e. o (sym e ∙ n));
  names = λ k w. name_at-append fs k f w;
  grows = grind (arith, common_steps);
}

pub first_new : (fs : List MemoryFile) (name : List ℕ) (f : MemoryFile) → IsNewName fs (length fs) name → string_bytes f.name ≡ name
    → IsFirst (fs ++ f ∷ []) (length fs) name
first_new fs name f h n = record {
  named = name_at-last fs f ∙ ap Some n;
  before = λ k w e. h k w (sym (name_at-append fs k f w) ∙ e);
}

pub told_all_kept : (fs : List MemoryFile) (i : ℕ) (x f : MemoryFile) → i < length fs → x ≡ get_or fs i x
    → string_bytes f.name ≡ string_bytes x.name → f.bytes.items ≡ x.bytes.items → told (set fs i f) ≡ told fs
told_all_kept fs i x f b e n h = λ j name. told_kept fs i x f b e n h name j

pub first_of_name : (fs : List MemoryFile) (i : ℕ) (name : List ℕ) → IsFirstOfName fs i → name_at fs i ≡ Some name → IsFirst fs i name
first_of_name fs i name h n = record { named = n; before = λ k w e. h.before k w (e ∙ sym n) }

pub told_read : (fs : List MemoryFile) (i : ℕ) (name : List ℕ) (x : MemoryFile) → IsFirst fs i name → x ≡ get_or fs i x
    → told fs name ≡ Bytes x.bytes.items
told_read fs i name x h e = told_first fs i name x h (slice_get_read fs (length fs) i x refl (name_at_within fs i name h.named) e)

pub told_present : (fs : List MemoryFile) (i : ℕ) (name : List ℕ) → IsFirst fs i name → told fs name ≢ NoFile
told_present [] i name h e = let n : None ≡ Some name = h.named in cc
told_present (x ∷ fs) zero name h e =
    let n : Some (string_bytes x.name) ≡ Some name = h.named in
    let named : string_bytes x.name ≡ name = cc in
    let is : told (x ∷ fs) name ≡ Bytes x.bytes.items = told-same x fs name named in cc
told_present (x ∷ fs) (suc i) name h e =
    told_present fs i name (record { named = h.named; before = other_later x fs name i h.before })
    (sym (told-other x fs name (other_front x fs name i h.before)) ∙ e)

-- a list of files tells of each name, so an emptied file is told to be empty
pub emptied-told : (fs : List MemoryFile) (name : List ℕ) → emptied (told fs name) ≡ Bytes []
emptied-told [] name = refl
emptied-told (x ∷ fs) name =
    elim (bytes_eq (string_bytes x.name) name) as
    (λ b. emptied (if b then Bytes x.bytes.items else told fs name) ≡ Bytes []) [ true ↦ refl | false ↦ emptied-told fs name ]

rest_parts : (text : List ℕ) (t n : ℕ) → drop t text ≡ take n (drop t text) ++ drop (t + n) text
rest_parts text t n = sym (take-append-drop n (drop t text)) ∙ ap (λ w. take n (drop t text) ++ w) (drop-drop n t text)

-- what is read, and then what is left
pub rest_of-read : (place : Option ℕ) (text : List ℕ) (t n : ℕ) (front : List ℕ) → front ≡ take n (drop t text)
    → rest_of place (drop t text) ≡ before_rest front (rest_of place (drop (t + n) text))
rest_of-read None text t n front e = refl
rest_of-read (Some place) text t n front e = ap Some (rest_parts text t n ∙ ap (λ w. w ++ drop (t + n) text) (sym e))
