use Rattle.std.proofs.Common.{List, ℕ, ◌≡◌, Result, Ok, Err, is_ok, OnOk, OnErr, refl}
use Rattle.std.specs.Prelude.{if◌then◌else◌}
use Rattle.std.proofs.lemmas.Result.{on_ok_weaker, on_err_weaker}
use Rattle.outside.proofs.FilesByName.{grows_at, told_all_kept, name_at-set, name_at-read}
use Rattle.outside.proofs.memory_list.append_to_file.Goals as goal

items_at_ok : {T E : Type 0} (r : Result T E) (x y z : List ℕ) → x ≡ (if is_ok r then y else z) → OnOk r (x ≡ y)
items_at_ok (Ok t) x y z e = e
items_at_ok (Err t) x y z e = tt

items_at_err : {T E : Type 0} (r : Result T E) (x y z : List ℕ) → x ≡ (if is_ok r then y else z) → OnErr r (x ≡ z)
items_at_err (Ok t) x y z e = tt
items_at_err (Err t) x y z e = e

pub returns-clause-changes : goal.returns-clause-changes
returns-clause-changes c =
    on_ok_weaker c.extend_from_slice.result
    (λ g name h. grows_at _ _ name _ c.index_mut.result.now _ h c.index_mut.ensures.value refl g)
    (items_at_ok c.extend_from_slice.result _ _ _ c.extend_from_slice.ensures.items)

pub returns-clause-refused : goal.returns-clause-refused
returns-clause-refused c =
    on_err_weaker c.extend_from_slice.result
    (λ g. told_all_kept _ _ c.index_mut.result.now _ c.requires c.index_mut.ensures.value refl g)
    (items_at_err c.extend_from_slice.result _ _ _ c.extend_from_slice.ensures.items)

pub returns-clause-names : goal.returns-clause-names
returns-clause-names c = λ k. name_at-set _ _ k _ (name_at-read _ _ c.index_mut.result.now c.requires c.index_mut.ensures.value)
