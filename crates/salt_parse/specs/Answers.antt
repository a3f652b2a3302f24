-- What the answers of the reader mean.
use Rattle.salt_parse.specs.declared.error.ParseErr.{ParseErr}
use Rattle.salt_parse.specs.declared.error.ParseErr.TheVariants.{Limit, Memory, Syntax}
use Rattle.salt_ast.specs.declared.error.ScanErr.{ScanErr}
use Rattle.salt_ast.specs.declared.error.ScanErr.TheVariants as scan
use Rattle.std.specs.Prelude.{None, Option, ◌≡◌}

abbrev pub parse_err : ScanErr → ParseErr
parse_err scan.Memory = Memory
parse_err scan.Syntax = Syntax

-- an error tells that reading gives nothing, unless memory ran out; a limit stops no reading
abbrev pub Fails : {T : Type 0} → ParseErr → Option T → Type 0
Fails Memory read = Unit {0}
Fails Syntax read = read ≡ None
Fails (Limit l) read = ⊥
