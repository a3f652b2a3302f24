use Rattle.salt_deps.proofs.Grouping.{one-more, still}
use Rattle.salt_deps.proofs.readings.Readings.add.Goals as goal
use Rattle.salt_deps.specs.Group.{is_mutual}
use Rattle.salt_deps.specs.Maps.{is_source}
use Rattle.salt_values.specs.Id.{has_id, is_same_id}
use Rattle.std.proofs.Common.{Err, Ok, Result, ap, ◌&&◌, ◌||◌}
use Rattle.std.proofs.lemmas.Result.{on_ok_weaker}
use Rattle.std.specs.Prelude.{IfOk, OnErr}

if_ok_weaker : {T E : Type 0} (r : Result T E) {P Q : T → Type 0} → ((x : T) → P x → Q x) → IfOk r P → IfOk r Q
if_ok_weaker (Ok x) f p = f x p
if_ok_weaker (Err e) f p = tt

on_err_weaker : {T E : Type 0} (r : Result T E) {P Q : Type 0} → (P → Q) → OnErr r P → OnErr r Q
on_err_weaker (Ok x) f p = tt
on_err_weaker (Err e) f p = f p

pub returns-clause-ok : goal.returns-clause-ok
returns-clause-ok c =
    on_ok_weaker c.add.result
    (λ f x y. one-more (is_source c.args.self.now.links.sources x y) (is_mutual c.args.self.now.group x y) (is_source c.add.new.self.sources x y) (is_same_id x c.args.reader && has_id y c.args.fresh.now) (f x y))
    c.add.ensures.ok

pub returns-clause-none : goal.returns-clause-none
returns-clause-none c =
    if_ok_weaker c.add.result (λ some f none x y. ap (λ t. t || is_mutual c.args.self.now.group x y) (f none x y)) c.add.ensures.none

pub returns-clause-err : goal.returns-clause-err
returns-clause-err c = on_err_weaker c.add.result (λ f x y. ap (λ t. t || is_mutual c.args.self.now.group x y) (f x y)) c.add.ensures.err

pub returns-clause-kept : goal.returns-clause-kept
returns-clause-kept c x y =
    still (is_source c.args.self.now.links.sources x y) (is_mutual c.args.self.now.group x y) (is_source c.add.new.self.sources x y) (c.add.ensures.kept x y)
