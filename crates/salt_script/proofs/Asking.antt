-- What a line of some bytes asks, by what reading its tokens tells.
use Rattle.std.proofs.Common.{Bool, List, false, length, subst, true, ℕ, ◌≡◌, ◌≤◌}
use Rattle.std.specs.List.{list_all}
use Rattle.std.specs.Prelude.{Err, Result}
use Rattle.salt_ast.specs.Spelling.{LinePasses, SpellsLine}
use Rattle.salt_ast.specs.declared.limit.LimitName.{LimitName}
use Rattle.salt_ast.specs.declared.lines.Line.{Line}
use Rattle.salt_model.specs.Lines.{Asks, does_nothing, has_other_byte, is_line_byte, is_no_line, passes}
use Rattle.salt_model.specs.Trace.{Rejected}
use Rattle.salt_model.specs.declared.events.Refusal.{Refusal}
use Rattle.salt_model.specs.declared.events.Refusal.TheVariants as refused
use Rattle.salt_parse.specs.declared.error.ParseErr.{ParseErr}
use Rattle.salt_parse.specs.declared.error.ParseErr.TheVariants.{Limit, Memory, Syntax}
use Rattle.salt_script.proofs.LineBytes.{spelled_bytes}
use Rattle.salt_script.specs.Answers.{read_err}
use Rattle.salt_script.specs.declared.error.ReadErr.{ReadErr}
use Rattle.salt_script.specs.declared.error.ReadErr.TheVariants as read_is
use Rattle.salt_values.specs.declared.limits.TheConstants.{LINE_MOST}

-- the refusal that is told is the one that is asked
pub told : (text : List ℕ) (s : Refusal) → Asks text (Rejected s) → (r : Refusal) →
    ◌≡◌ {A = Result Line ReadErr} (Err (read_is.Refused s)) (Err (read_is.Refused r)) → Asks text (Rejected r)
told text s a r e = let same : s ≡ r = cc e in subst (λ x. Asks text (Rejected x)) same a

-- a line that is read, and has no tree
pub told_of : (text : List ℕ) (e : ParseErr) → length text ≤ LINE_MOST → does_nothing text ≡ false → (has_line_bytes : Bool) → list_all is_line_byte text ≡ has_line_bytes
    → (e ≡ Syntax → (line : Line) → SpellsLine text line → ⊥) → ((l : LimitName) → e ≡ Limit l → (line : Line) × SpellsLine text line × LinePasses text line l) → (r : Refusal)
    → ◌≡◌ {A = Result Line ReadErr} (Err (read_err has_line_bytes e)) (Err (read_is.Refused r)) → Asks text (Rejected r)
told_of text Syntax within something true bytes none passed r h =
    told text refused.Syntax (is_no_line (record { within = within; does_something = something; bytes = bytes }) (none (λ t. Syntax))) r h
told_of text Syntax within something false bytes none passed r h = told text refused.Byte (has_other_byte within something bytes) r h
told_of text (Limit l) within something has_line_bytes bytes none passed r h =
    let p = passed l (λ t. Limit l) in
    told text (refused.Limit l) (passes (record { within = within; does_something = something; bytes = spelled_bytes text p.0 p.1 }) p.1 p.2) r h
told_of text Memory within something has_line_bytes bytes none passed r h = absurd cc
