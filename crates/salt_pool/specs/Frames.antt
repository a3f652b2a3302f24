-- Which frame gives way, and the frames with a page among them.
use Rattle.salt_pool.specs.Dirtied.{is_dirty}
use Rattle.salt_pool.specs.declared.places.Dirty.{Dirty}
use Rattle.std.specs.Map.{lookup, remove_entry}
use Rattle.std.specs.Prelude.{Bool, List, None, Option, Some, [], cond, false, is_some, length, nat_eq, nat_lt, true, ℕ, ◌∷◌}

abbrev pub frame_count : ℕ
frame_count = 64

abbrev pub or_clean : Option ℕ → Bool → ℕ → Option ℕ
or_clean (Some later) dirty page = Some later
or_clean None true page = None
or_clean None false page = Some page

-- the page of the last frame that is not dirty; frames stand in the order of their use, the latest first
abbrev pub last_clean : {P : Type 0} → List Dirty → List (ℕ × P) → Option ℕ
last_clean ds [] = None
last_clean ds (e ∷ es) = or_clean (last_clean ds es) (is_dirty ds e.0) e.0

-- the page whose frame is taken for another page: none while there are fewer frames than 64
abbrev pub victim : {P : Type 0} → List Dirty → List (ℕ × P) → Option ℕ
victim ds es = cond (nat_lt (length es) frame_count) None (last_clean ds es)

abbrev pub without : {P : Type 0} → Option ℕ → List (ℕ × P) → List (ℕ × P)
without None es = es
without (Some page) es = remove_entry (nat_eq page) es

-- the frames beside a page's own: where it has none yet, the least recently used clean one gives way
abbrev pub beside : {P : Type 0} → List Dirty → List (ℕ × P) → ℕ → List (ℕ × P)
beside ds es page = cond (is_some (lookup (nat_eq page) es)) (remove_entry (nat_eq page) es) (without (victim ds es) es)
