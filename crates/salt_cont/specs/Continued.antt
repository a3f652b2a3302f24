-- Continuations that are kept, and what a move makes of them.
use Rattle.salt_ast.specs.declared.programs.ProgramDef.{ProgramDef}
use Rattle.salt_bytes.specs.declared.moves.Move.TheVariants as move
use Rattle.salt_bytes.specs.declared.moves.Move.{Move}
use Rattle.salt_model.specs.Kept.{Kept, change_cont, cont_of, kept_program, without_cont}
use Rattle.salt_values.specs.declared.cont.Cont.{Cont}
use Rattle.salt_values.specs.declared.id.Id.{Id}
use Rattle.std.specs.Prelude.{List, Some, ◌≡◌}

-- the program is kept, goes on here, and is defined so
pub record StandsAt (k : Kept) (b : Id) (c : Cont) (p : ProgramDef) : Type 0 where
  pub kept : cont_of b k ≡ Some c
  pub defined : kept_program c.program k ≡ Some p

-- the continuation of the program is as the move says, or gone where that ends
abbrev pub after_move : Id → Move → List Cont → List Cont
after_move b move.Plain cs = cs
after_move b (move.Continue c) cs = change_cont b (λ d. c) cs
after_move b (move.Finish d) cs = without_cont d cs
