-- What a part of an expression gives, and what an answer tells of it.
use Rattle.salt_exprs.specs.declared.error.EvalErr.TheVariants.{Cause, Memory}
use Rattle.salt_exprs.specs.declared.error.EvalErr.{EvalErr}
use Rattle.salt_exprs.specs.declared.operand.Operand.TheVariants as operand
use Rattle.salt_exprs.specs.declared.operand.Operand.{Operand}
use Rattle.salt_exprs.specs.declared.truth.Truth.TheVariants as truth
use Rattle.salt_exprs.specs.declared.truth.Truth.{Truth}
use Rattle.salt_model.specs.Eval as eval
use Rattle.salt_model.specs.declared.events.Cause as cause
use Rattle.salt_ast.specs.declared.trees.Op.TheVariants.{And, Or}
use Rattle.salt_ast.specs.declared.trees.Op.{Op}
use Rattle.std.specs.Prelude.{Bool, Err, Ok, Result, false, true, ⊤, ◌≡◌}

-- the truth value that is meant
abbrev pub truth_meant : Truth → eval.Truth
truth_meant truth.Yes = eval.Yes
truth_meant truth.No = eval.No
truth_meant truth.Unknown = eval.Unknown

-- what an operand stands for
abbrev pub datum_of : Operand → eval.Datum
datum_of (operand.Lent v) = eval.Gives v.now
datum_of (operand.Made v) = eval.Gives v
datum_of (operand.Holds t) = eval.Holds (truth_meant t)

-- the cause is that of what is meant; want of memory tells nothing
abbrev pub IsCause : {B : Type 0} → EvalErr → Result B cause.Cause → Type 0
IsCause (Cause c) m = m ≡ Err c
IsCause Memory m = ⊤

-- an answer tells what is meant: its value, or its cause, unless memory ran out
abbrev pub TellsMeaning : {A B : Type 0} → (A → B) → Result B cause.Cause → Result A EvalErr → Type 0
TellsMeaning f m (Ok x) = m ≡ Ok (f x)
TellsMeaning f m (Err e) = IsCause e m

abbrev pub same : {A : Type 0} → A → A
same x = x

-- whether the left side alone decides: a false one of `and`, and a true one of `or`
abbrev pub is_decided : Op → eval.Datum → Bool
is_decided And (eval.Holds t) = eval.is_no t
is_decided Or (eval.Holds t) = eval.is_yes t
is_decided op d = false

-- an operation on what both sides gave, where the left one did not decide
abbrev pub operated : Op → eval.Datum → eval.Datum → Result eval.Datum cause.Cause
operated op (eval.Gives v) d = eval.with_value op v d
operated op (eval.Holds t) d = eval.joined op t d

-- what a test that is met tells
abbrev pub passing : {A : Type 0} → A → Bool
passing x = true
