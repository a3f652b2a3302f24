-- A move that continuations allow, by its kind.
use Rattle.salt_cont.specs.Move.TheVariants.{Continue, Finish}
use Rattle.salt_model.specs.Kept.{cont_in}
use Rattle.salt_stands.specs.OpenConts.{go_to, is_accepted_before, is_not_of, make_move, replace_cont}
use Rattle.salt_values.specs.declared.cont.Cont.{Cont}
use Rattle.salt_values.specs.declared.id.Id.{Id}
use Rattle.std.specs.List.{filter, list_all}
use Rattle.std.specs.Prelude.{Bool, List, None, Option, Some, [], false, is_some, option_map, true, ◌++◌, ◌==◌, ◌∷◌, ◌≡◌}
use Rattle.std.specs.Bool.{then_some}

allowed : (t : Bool) (x y : List Cont) → then_some t x ≡ Some y → x ≡ y
allowed true x y e = cc
allowed false x y e = cc

-- one of a program that goes on
pub replaced : (c : Cont) (cs ds : List Cont) → is_some (cont_in c.base cs) ≡ true → make_move cs (Continue c) ≡ Some ds → replace_cont c cs ≡ ds
replaced c cs ds there e = by (cont_in c.base cs) there e
  where
    by : (o : Option Cont) → is_some o ≡ true → go_to c o cs ≡ Some ds → replace_cont c cs ≡ ds
    by None h f = absurd cc
    by (Some d) h f = allowed (c.accepted == d.accepted) (replace_cont c cs) ds f

-- one of a program that did not go on yet
pub added : (c : Cont) (cs ds : List Cont) → is_some (cont_in c.base cs) ≡ false → make_move cs (Continue c) ≡ Some ds → cs ++ c ∷ [] ≡ ds
added c cs ds none e = by (cont_in c.base cs) none e
  where
    by : (o : Option Cont) → is_some o ≡ false → go_to c o cs ≡ Some ds → cs ++ c ∷ [] ≡ ds
    by None h f = allowed (list_all (is_accepted_before c) cs) (cs ++ c ∷ []) ds f
    by (Some d) h f = absurd cc

pub finished : (b : Id) (cs ds : List Cont) → make_move cs (Finish b) ≡ Some ds → filter (is_not_of b) cs ≡ ds
finished b cs ds e = by (cont_in b cs) e
  where
    by : (o : Option Cont) → option_map (λ d. filter (is_not_of b) cs) o ≡ Some ds → filter (is_not_of b) cs ≡ ds
    by None f = absurd cc
    by (Some d) f = cc
