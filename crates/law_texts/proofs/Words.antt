-- The words of events: each is told by its letters.
use Rattle.salt_ast.specs.Limits.{limit_word}
use Rattle.salt_ast.specs.declared.limit.LimitName.TheVariants as limit
use Rattle.salt_ast.specs.declared.limit.LimitName.{LimitName}
use Rattle.salt_model.specs.EventTexts.{cause_text, family_text, mode_text, why_text}
use Rattle.salt_model.specs.declared.events.Cause.TheVariants as cause
use Rattle.salt_model.specs.declared.events.Cause.{Cause}
use Rattle.salt_model.specs.declared.events.Why.TheVariants as why
use Rattle.salt_model.specs.declared.events.Why.{Why}
use Rattle.salt_model.specs.declared.locks.Family.TheVariants as family
use Rattle.salt_model.specs.declared.locks.Family.{Family}
use Rattle.salt_model.specs.declared.locks.Mode.TheVariants as mode
use Rattle.salt_model.specs.declared.locks.Mode.{Mode}
use Rattle.law_texts.proofs.Clear.{differ}
use Rattle.std.proofs.Common.{List, ap, drop, refl, ℕ, ◌++◌, ◌≡◌}

pub cause_one : (a b : Cause) (x y : List ℕ) → cause_text a ++ x ≡ cause_text b ++ y → (a ≡ b) × (x ≡ y)
cause_one cause.Duplicate cause.Duplicate x y e = (refl, ap (drop 9) e)
cause_one cause.Check cause.Check x y e = (refl, ap (drop 5) e)
cause_one cause.Missing cause.Missing x y e = (refl, ap (drop 7) e)
cause_one cause.Ensure cause.Ensure x y e = (refl, ap (drop 6) e)
cause_one cause.Overflow cause.Overflow x y e = (refl, ap (drop 8) e)
cause_one cause.TooLong cause.TooLong x y e = (refl, ap (drop 7) e)
cause_one a b x y e = absurd (differ _ _ e refl)

pub family_one : (a b : Family) (x y : List ℕ) → family_text a ++ x ≡ family_text b ++ y → (a ≡ b) × (x ≡ y)
family_one family.Acid family.Acid x y e = (refl, ap (drop 4) e)
family_one family.Alkaline family.Alkaline x y e = (refl, ap (drop 8) e)
family_one family.Saline family.Saline x y e = (refl, ap (drop 6) e)
family_one a b x y e = absurd (differ _ _ e refl)

pub mode_one : (a b : Mode) (x y : List ℕ) → mode_text a ++ x ≡ mode_text b ++ y → (a ≡ b) × (x ≡ y)
mode_one mode.Read mode.Read x y e = (refl, ap (drop 4) e)
mode_one mode.Write mode.Write x y e = (refl, ap (drop 5) e)
mode_one a b x y e = absurd (differ _ _ e refl)

pub why_one : (a b : Why) (x y : List ℕ) → why_text a ++ x ≡ why_text b ++ y → (a ≡ b) × (x ≡ y)
why_one why.Stopped why.Stopped x y e = (refl, ap (drop 7) e)
why_one why.Fault why.Fault x y e = (refl, ap (drop 5) e)
why_one a b x y e = absurd (differ _ _ e refl)

pub limit_one : (a b : LimitName) (x y : List ℕ) → limit_word a ++ x ≡ limit_word b ++ y → (a ≡ b) × (x ≡ y)
limit_one limit.Session limit.Session x y e = (refl, ap (drop 7) e)
limit_one limit.Name limit.Name x y e = (refl, ap (drop 4) e)
limit_one limit.Number limit.Number x y e = (refl, ap (drop 6) e)
limit_one limit.Text limit.Text x y e = (refl, ap (drop 4) e)
limit_one limit.Tables limit.Tables x y e = (refl, ap (drop 6) e)
limit_one limit.Columns limit.Columns x y e = (refl, ap (drop 7) e)
limit_one limit.Checks limit.Checks x y e = (refl, ap (drop 6) e)
limit_one limit.Programs limit.Programs x y e = (refl, ap (drop 8) e)
limit_one limit.Parts limit.Parts x y e = (refl, ap (drop 5) e)
limit_one limit.Retry limit.Retry x y e = (refl, ap (drop 5) e)
limit_one limit.Statements limit.Statements x y e = (refl, ap (drop 10) e)
limit_one limit.Parameters limit.Parameters x y e = (refl, ap (drop 10) e)
limit_one limit.Variables limit.Variables x y e = (refl, ap (drop 9) e)
limit_one limit.Depth limit.Depth x y e = (refl, ap (drop 5) e)
limit_one limit.Crash limit.Crash x y e = (refl, ap (drop 5) e)
limit_one limit.Pick limit.Pick x y e = (refl, ap (drop 4) e)
limit_one limit.Pairs limit.Pairs x y e = (refl, ap (drop 5) e)
limit_one limit.Net limit.Net x y e = (refl, ap (drop 3) e)
limit_one limit.Act limit.Act x y e = (refl, ap (drop 3) e)
limit_one limit.Bases limit.Bases x y e = (refl, ap (drop 5) e)
limit_one a b x y e = absurd (differ _ _ e refl)
