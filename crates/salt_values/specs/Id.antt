-- Names of units and programs.
use Rattle.salt_values.specs.declared.id.Id.{Id}
use Rattle.std.specs.List.{filter, list_any}
use Rattle.std.specs.Prelude.{Bool, List, [], if◌then◌else◌, nat_lt, not, ◌&&◌, ◌==◌, ◌||◌, ◌∷◌}

abbrev pub is_same_id : Id → Id → Bool
is_same_id a b = (a.boot == b.boot) && (a.seq == b.seq)

-- a is older than b
abbrev pub is_older : Id → Id → Bool
is_older a b = nat_lt a.boot b.boot || ((a.boot == b.boot) && nat_lt a.seq b.seq)

abbrev pub has_id : Id → List Id → Bool
has_id u ids = list_any (is_same_id u) ids

-- u put into a list in order of names, once
abbrev pub insert_id : Id → List Id → List Id
insert_id u [] = u ∷ []
insert_id u (v ∷ vs) = if is_older u v then u ∷ v ∷ vs else (if is_same_id u v then v ∷ vs else v ∷ insert_id u vs)

-- the names in order, each once
abbrev pub in_order : List Id → List Id
in_order [] = []
in_order (u ∷ us) = insert_id u (in_order us)

-- the elements of the second list that are not in the first
abbrev pub without : List Id → List Id → List Id
without seen ids = filter (λ u. not (has_id u seen)) ids
