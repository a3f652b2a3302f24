use Rattle.salt_deps.proofs.Errs.{on_err}
use Rattle.salt_deps.proofs.Linking.{linked, listed-more, sources-kept}
use Rattle.salt_deps.proofs.links.Links.add.Goals as goal
use Rattle.salt_values.specs.Id.{has_id}
use Rattle.salt_values.specs.Id.{is_same_id}
use Rattle.salt_values.specs.declared.id.Id.{Id}
use Rattle.std.proofs.Common.{Bool, Err, List, Ok, Result, ap, refl, ◌&&◌, ◌++◌, ◌||◌, ◌∙◌, ◌≡◌}
use Rattle.std.proofs.lemmas.List.Folds.{list_any-append}
use Rattle.std.specs.Prelude.{OnErr, OnOk}

-- what is in the set that is made of the names and the fresh ones
gathered : (y : Id) (set given all names fresh : List Id) (reads : Bool) → has_id y set ≡ has_id y given → given ≡ all → all ≡ names ++ fresh → has_id y names ≡ reads →
    has_id y set ≡ (reads || has_id y fresh)
gathered y set given all names fresh reads made same joined read =
    made ∙ (ap (has_id y) same ∙ (ap (has_id y) joined ∙ (list_any-append (is_same_id y) names fresh ∙ ap (λ b. b || has_id y fresh) read)))

-- what follows both where the call went well and where it did not
either : {T E : Type 0} (r : Result T E) (A B P : Type 0) → OnOk r A → OnErr r B → (A → P) → (B → P) → P
either (Ok x) A B P a b f g = f a
either (Err e) A B P a b f g = g b

pub invariant_of-self-2 : goal.invariant_of-self-2
invariant_of-self-2 c = record {
  listed = either c.insert.result _ _ _ c.insert.ensures.updates c.insert.ensures.err
      (λ updated. listed-more c.args.self.now.sources c.insert.new.self c.args.self.now.readers c.list_readers.new.readers c.args.reader c.args.fresh.now
      c.args.self.now.listed c.in_ok-list_readers.ensures.ok
      (linked c.args.self.now.sources c.insert.new.self c.in_ok-set.set c.args.reader c.args.fresh.now
      (λ y. gathered y _ _ _ _ _ _ (c.in_ok-set.ensures y) c.deref.ensures.value c.in_ok-extend_from_slice.ensures.items (c.in_ok-names.ensures y))
      updated.0))
      (λ same x y h. c.list_readers.ensures.kept x y (c.args.self.now.listed x y (rw (← same) h)));
}

pub returns-in_err-insert-clause-err : goal.returns-in_err-insert-clause-err
returns-in_err-insert-clause-err c = on_err c.from_residual-in_err-insert.result _ (λ x y. rw c.in_err-insert.ensures.err refl)

pub returns-clause-ok : goal.returns-clause-ok
returns-clause-ok c =
    linked c.args.self.now.sources c.insert.new.self c.in_ok-set.set c.args.reader c.args.fresh.now
    (λ y. gathered y _ _ _ _ _ _ (c.in_ok-set.ensures y) c.deref.ensures.value c.in_ok-extend_from_slice.ensures.items (c.in_ok-names.ensures y))
    c.in_ok-insert.ensures.updates.0

pub returns-clause-kept : goal.returns-clause-kept
returns-clause-kept c = sources-kept c.args.self.now.sources c.insert.new.self (λ x y. is_same_id x c.args.reader && has_id y c.args.fresh.now) (returns-clause-ok c)

pub returns-in_err-insert-clause-kept : goal.returns-in_err-insert-clause-kept
returns-in_err-insert-clause-kept c x y h = rw c.in_err-insert.ensures.err h
