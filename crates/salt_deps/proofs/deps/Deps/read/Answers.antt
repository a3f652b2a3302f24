use Rattle.law_states.specs.DependencyCalls.{AreSame, HasRead}
use Rattle.salt_deps.proofs.Calls.{read-more}
use Rattle.salt_deps.proofs.Errs.{on_err}
use Rattle.salt_deps.proofs.Settling.{more-read}
use Rattle.salt_deps.proofs.Showing.{over}
use Rattle.salt_deps.proofs.Spanning.{none-inside}
use Rattle.salt_deps.proofs.deps.Deps.read.Goals as goal
use Rattle.salt_deps.specs.Group.{reads_in}
use Rattle.salt_values.specs.Id.{has_id}
use Rattle.salt_values.specs.Id.{is_same_id}
use Rattle.salt_values.specs.declared.id.Id.{Id}
use Rattle.std.proofs.Common.{⊎_elim, inl, refl, subst, sym, ◌&&◌, ◌||◌, ◌∙◌, ◌≡◌}

pub returns-clause-ok : goal.returns-clause-ok
returns-clause-ok c mode =
    let x = c.self.inside in
    over (HasRead c.args.base (record { table = c.args.table; range = c.args.range.now; mode = mode })) c.args.self.now x.writers.last x.writers.last x.readings c.add.new.self
    x.finished.keys x.finished.keys c.self.view_is (record {
      writer = λ q. refl;
      reads = read-more c.args.base c.args.table c.args.range.now mode x.writers.last (reads_in x.readings) (reads_in c.add.new.self) c.in_ok-fresh.fresh.items
          c.in_ok-fresh.ensures.ordered c.in_ok-fresh.ensures.fresh
          (subst (λ l. (y z : Id) → reads_in c.add.new.self y z ≡ (reads_in x.readings y z || (is_same_id y c.args.base && has_id z l))) c.deref.ensures.value c.in_ok-more.ensures.ok);
      finished = λ b. (λ h. h, λ h. h);
    })

pub returns-then-is_empty-clause-ok : goal.returns-then-is_empty-clause-ok
returns-then-is_empty-clause-ok c mode = record {
  writer = λ q. refl;
  reads = λ x y. ((λ h. inl h), (λ h. ⊎_elim (λ old. old) (λ read. absurd (none-inside c.args.range.now read.2.0 (sym c.is_empty.ensures ∙ c.if-is_empty.true) read.2.1)) h));
  finished = λ b. (λ h. h, λ h. h);
}

pub returns-clause-same : goal.returns-clause-same
returns-clause-same c none =
    let x = c.self.inside in
    over AreSame c.args.self.now x.writers.last x.writers.last x.readings c.add.new.self x.finished.keys x.finished.keys c.self.view_is (record {
      writer = λ q. refl;
      reads = λ y z. let e = c.in_ok-more.ensures.none none y z in ((λ h. sym e ∙ h), (λ h. e ∙ h));
      finished = λ b. (λ h. h, λ h. h);
    })

pub invariant_of-self-2 : goal.invariant_of-self-2
invariant_of-self-2 c t =
    let x = c.self.inside in
    more-read (reads_in x.readings) (reads_in c.add.new.self) x.finished.keys c.add.ensures.kept (c.self.invariant t)

pub invariant_of-self : goal.invariant_of-self
invariant_of-self c t =
    let x = c.self.inside in
    more-read (reads_in x.readings) (reads_in c.add.new.self) x.finished.keys c.add.ensures.kept (c.self.invariant t)

pub returns-in_err-more-clause-err : goal.returns-in_err-more-clause-err
returns-in_err-more-clause-err c =
    let x = c.self.inside in
    on_err c.from_residual-in_err-more.result _
    (over AreSame c.args.self.now x.writers.last x.writers.last x.readings c.add.new.self x.finished.keys x.finished.keys c.self.view_is (record {
      writer = λ q. refl;
      reads = λ y z. let e = c.in_err-more.ensures.err y z in ((λ h. sym e ∙ h), (λ h. e ∙ h));
      finished = λ b. (λ h. h, λ h. h);
    }))
