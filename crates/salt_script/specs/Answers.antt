-- What the answers of the readers mean.
use Rattle.salt_ast.specs.declared.limit.LimitName.{LimitName}
use Rattle.salt_script.specs.Literals.{IsValueOf}
use Rattle.salt_parse.specs.declared.error.ParseErr.{ParseErr}
use Rattle.salt_parse.specs.declared.error.ParseErr.TheVariants.{Limit, Memory, Syntax}
use Rattle.salt_model.specs.declared.events.Refusal.{Refusal}
use Rattle.salt_model.specs.declared.events.Refusal.TheVariants as refused
use Rattle.salt_script.specs.declared.error.ReadErr.{ReadErr}
use Rattle.salt_script.specs.declared.error.ReadErr.TheVariants as read_is
use Rattle.salt_ast.specs.Symbols.{Symbols}
use Rattle.salt_values.specs.declared.value.Value.{Value}
use Rattle.std.specs.Prelude.{Bool, Err, None, Ok, Option, Result, Some, false, true, ⊤, ◌≡◌}

-- an error tells that nothing is read, unless memory ran out; a limit is no error here
abbrev pub FailsToRead : {A : Type 0} → ParseErr → Option A → Type 0
FailsToRead Memory read = ⊤
FailsToRead Syntax read = read ≡ None
FailsToRead (Limit l) read = ⊥

-- a literal's value or limit, where these symbols stand behind it
abbrev pub GivesLiteral : Result (Result Value LimitName) ParseErr → Symbols → Option (Value × Symbols) → Type 0
GivesLiteral (Ok x) behind read = (w : Value) × (read ≡ Some (w, behind)) × IsValueOf x w
GivesLiteral (Err e) behind read = FailsToRead e read

-- why a line that spells none is refused, where all of its bytes are a line's, or not
abbrev pub no_line : Bool → Refusal
no_line true = refused.Syntax
no_line false = refused.Byte

-- why a line is refused for its text, or is not read
abbrev pub read_err : Bool → ParseErr → ReadErr
read_err has_line_bytes Syntax = read_is.Refused (no_line has_line_bytes)
read_err has_line_bytes (Limit l) = read_is.Refused (refused.Limit l)
read_err has_line_bytes Memory = read_is.Memory

-- what was read, or the first limit that it passes
abbrev pub GivesOrLimit : {A : Type 0} → (A → Option LimitName) → Result (Result A LimitName) ParseErr → Option A → Type 0
GivesOrLimit passed (Ok (Ok x)) read = (read ≡ Some x) × (passed x ≡ None)
GivesOrLimit {A} passed (Ok (Err l)) read = (x : A) × (read ≡ Some x) × (passed x ≡ Some l)
GivesOrLimit passed (Err e) read = FailsToRead e read
