-- One step of an expression, from what its operands told.
use Rattle.salt_exprs.specs.Operands.{IsCause, is_decided, operated}
use Rattle.salt_exprs.specs.declared.error.EvalErr.TheVariants.{Cause, Memory}
use Rattle.salt_exprs.specs.declared.error.EvalErr.{EvalErr}
use Rattle.salt_ast.specs.declared.trees.Op.TheVariants.{And, Or}
use Rattle.salt_ast.specs.declared.trees.Op.{Op}
use Rattle.salt_model.specs.Eval.{Datum, Gives, Holds, No, Truth, Yes, joined, operate, with_truth}
use Rattle.salt_model.specs.Words.{and_then}
use Rattle.salt_model.specs.declared.events.Cause as cause
use Rattle.std.proofs.Common.{refl, ◌≡◌}
use Rattle.std.specs.Prelude.{Ok, Result, false, true}

-- a cause is passed on
pub passed_on : {A B : Type 0} (e : EvalErr) (m : Result A cause.Cause) (f : A → Result B cause.Cause) → IsCause e m → IsCause e (and_then m f)
passed_on (Cause c) m f h = rw h refl
passed_on Memory m f h = h

pub left_passed_on : (e : EvalErr) (op : Op) (l r : Result Datum cause.Cause) → IsCause e l → IsCause e (operate op l r)
left_passed_on (Cause c) op l r h = rw h refl
left_passed_on Memory op l r h = h

by_truth : (op : Op) (t : Truth) (r : Result Datum cause.Cause) → is_decided op (Holds t) ≡ false → with_truth op t r ≡ and_then r (joined op t)
by_truth And No r h = absurd cc
by_truth Or Yes r h = absurd cc
by_truth op t r h = refl

-- where the left side does not decide, the right one is asked
pub operate-goes_on : (op : Op) (d : Datum) (r : Result Datum cause.Cause) → is_decided op d ≡ false → operate op (Ok d) r ≡ and_then r (operated op d)
operate-goes_on op (Gives v) r h = refl
operate-goes_on op (Holds t) r h = by_truth op t r h

truth_decides : (op : Op) (t : Truth) (r : Result Datum cause.Cause) → is_decided op (Holds t) ≡ true → with_truth op t r ≡ Ok (Holds t)
truth_decides And No r h = refl
truth_decides Or Yes r h = refl
truth_decides op t r h = absurd cc

operate-is_decided : (op : Op) (d : Datum) (r : Result Datum cause.Cause) → is_decided op d ≡ true → operate op (Ok d) r ≡ Ok d
operate-is_decided And (Gives v) r h = absurd cc
operate-is_decided Or (Gives v) r h = absurd cc
operate-is_decided op (Gives v) r h = absurd cc
operate-is_decided op (Holds t) r h = truth_decides op t r h

-- the left side decides
pub decided : (op : Op) (l r : Result Datum cause.Cause) (d : Datum) → l ≡ Ok d → is_decided op d ≡ true → operate op l r ≡ Ok d
decided op l r d h k = rw h (operate-is_decided op d r k)

-- the right side has a cause
pub right_passed_on : (e : EvalErr) (op : Op) (l r : Result Datum cause.Cause) (d : Datum) → l ≡ Ok d → is_decided op d ≡ false → IsCause e r → IsCause e (operate op l r)
right_passed_on e op l r d h k p = rw (h, operate-goes_on op d r k) (passed_on e r (operated op d) p)

-- both sides are there
pub both_given : (op : Op) (l r : Result Datum cause.Cause) (d x : Datum) → l ≡ Ok d → r ≡ Ok x → is_decided op d ≡ false → operate op l r ≡ operated op d x
both_given op l r d x h k p = rw (h, k, operate-goes_on op d (Ok x) p) refl
