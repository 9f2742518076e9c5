use Rattle.std.proofs.Common.{◌≡◌, refl, sym, ap, ◌∙◌, length, vec_len}
use Rattle.outside.proofs.FilesByName.{changes_at, first_after, changes_by_new, first_new}
use Rattle.outside.proofs.memory_list.put_file.Goals as goal

pub returns-in-Some-clause-changes : goal.returns-in-Some-clause-changes
returns-in-Some-clause-changes c =
    changes_at _ _ _ c.index_mut.result.now _ (rw c.as_slice.ensures.value at c.in-Some.ensures) c.index_mut.ensures.value refl

pub returns-in-Some-clause-first : goal.returns-in-Some-clause-first
returns-in-Some-clause-first c =
    let h = rw c.as_slice.ensures.value at c.in-Some.ensures in
    first_after _ _ _ _ _ _ h (changes_at _ _ _ c.index_mut.result.now _ h c.index_mut.ensures.value refl)

pub returns-in_ok-push-in-None-clause-changes : goal.returns-in_ok-push-in-None-clause-changes
returns-in_ok-push-in-None-clause-changes c =
    rw c.in_ok-push-in-None.ensures.items
    (changes_by_new _ _ _ (rw c.as_slice.ensures.value at c.in-None.ensures.1) c.in_ok-name-in-None.ensures.ok)

pub returns-in_ok-push-in-None-clause-first : goal.returns-in_ok-push-in-None-clause-first
returns-in_ok-push-in-None-clause-first c =
    let len : vec_len c.args.files.now ≡ length c.args.files.now.items = sym c.as_slice.ensures.len ∙ ap length c.as_slice.ensures.value in
    rw (c.in_ok-push-in-None.ensures.items, c.len-i.ensures, len)
    (first_new _ _ _ (rw c.as_slice.ensures.value at c.in-None.ensures.1) c.in_ok-name-in-None.ensures.ok)
