-- What expressions give, as the code has it.
use Rattle.salt_ast.specs.Judgement.{truths, values}
use Rattle.salt_ast.specs.Judgement as judged
use Rattle.salt_schema.specs.declared.kinds.Kind.{Kind}
use Rattle.salt_schema.specs.declared.kinds.Kind.TheVariants as kind

abbrev pub kind_meant : Kind → judged.Kind
kind_meant (kind.Value t) = values t
kind_meant kind.Truth = truths
