use Rattle.law_states.specs.DependencyCalls.{AreSame, Wrote}
use Rattle.salt_deps.proofs.Calls.{wrote}
use Rattle.salt_deps.proofs.Showing.{over}
use Rattle.salt_deps.proofs.deps.Deps.wrote.Goals as goal
use Rattle.salt_model.specs.Tables.{place, place_cmp}
use Rattle.std.proofs.Common.{None, Some}
use Rattle.std.proofs.lemmas.Result.{on_err_weaker, on_ok_weaker}
use Rattle.std.specs.BTreeMap.{get}

pub returns-in-Some-clause-ok : goal.returns-in-Some-clause-ok
returns-in-Some-clause-ok c =
    let x = c.self.inside in
    let p = place c.args.table c.args.key.now in
    on_ok_weaker c.write.result
    (λ h. over (Wrote c.args.base p) c.args.self.now x.writers.last c.write.new.self.last x.readings x.readings x.finished.keys x.finished.keys c.self.view_is (record {
      writer = wrote c.args.base (Some c.in-Some.base) p (get place_cmp x.writers.last) (get place_cmp c.write.new.self.last) c.in-Some.is h;
      reads = λ x y. (λ h. h, λ h. h);
      finished = λ b. (λ h. h, λ h. h);
    }))
    c.write.ensures.ok

pub returns-in-None-clause-ok : goal.returns-in-None-clause-ok
returns-in-None-clause-ok c =
    let x = c.self.inside in
    let p = place c.args.table c.args.key.now in
    on_ok_weaker c.forget.result
    (λ h. over (Wrote c.args.base p) c.args.self.now x.writers.last c.forget.new.self.last x.readings x.readings x.finished.keys x.finished.keys c.self.view_is (record {
      writer = wrote c.args.base None p (get place_cmp x.writers.last) (get place_cmp c.forget.new.self.last) c.in-None.is h;
      reads = λ x y. (λ h. h, λ h. h);
      finished = λ b. (λ h. h, λ h. h);
    }))
    c.forget.ensures.ok

pub returns-in-Some-clause-err : goal.returns-in-Some-clause-err
returns-in-Some-clause-err c =
    let x = c.self.inside in
    on_err_weaker c.write.result
    (λ h. over AreSame c.args.self.now x.writers.last c.write.new.self.last x.readings x.readings x.finished.keys x.finished.keys c.self.view_is (record {
      writer = h;
      reads = λ y z. (λ r. r, λ r. r);
      finished = λ b. (λ f. f, λ f. f);
    }))
    c.write.ensures.err

pub returns-in-None-clause-err : goal.returns-in-None-clause-err
returns-in-None-clause-err c =
    let x = c.self.inside in
    on_err_weaker c.forget.result
    (λ h. over AreSame c.args.self.now x.writers.last c.forget.new.self.last x.readings x.readings x.finished.keys x.finished.keys c.self.view_is (record {
      writer = h;
      reads = λ y z. (λ r. r, λ r. r);
      finished = λ b. (λ f. f, λ f. f);
    }))
    c.forget.ensures.err
