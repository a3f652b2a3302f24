-- Pages that are to be written, in order of their numbers.
use Rattle.salt_bytes.specs.Spellable.{Every}
use Rattle.salt_pool.specs.declared.places.Dirty.{Dirty}
use Rattle.std.specs.List.{list_any}
use Rattle.std.specs.Prelude.{Bool, List, [], cond, nat_eq, nat_lt, suc, ℕ, ⊤, ◌&&◌, ◌∷◌, ◌≤◌}

-- its number, and the side that it goes to
abbrev pub dirty_page : Dirty → ℕ
dirty_page d = d.page

abbrev pub dirty_side : Dirty → ℕ
dirty_side d = d.side

abbrev pub is_dirty : List Dirty → ℕ → Bool
is_dirty ds page = list_any (λ d. nat_eq d.page page) ds

-- one of them goes to this side of this page
abbrev pub goes_to : List Dirty → (page side : ℕ) → Bool
goes_to ds page side = list_any (λ d. nat_eq d.page page && nat_eq d.side side) ds

-- this one before others, or in the place of the first one where that is the same page
abbrev pub put_before : Dirty → Dirty → List Dirty → List Dirty
put_before d e ds = cond (nat_eq e.page d.page) (d ∷ ds) (d ∷ e ∷ ds)

-- with this one at its place; a page that is there has its side then
abbrev pub put_dirty : Dirty → List Dirty → List Dirty
put_dirty d [] = d ∷ []
put_dirty d (e ∷ ds) = cond (nat_lt e.page d.page) (e ∷ put_dirty d ds) (put_before d e ds)

-- each page is above the one before it, and the first at least this
abbrev pub IsRisingFrom : ℕ → List Dirty → Type 0
IsRisingFrom low [] = ⊤
IsRisingFrom low (d ∷ ds) = (low ≤ d.page) × IsRisingFrom (suc d.page) ds

abbrev pub AreSides : List Dirty → Type 0
AreSides ds = Every (λ d. d.side ≤ 1) ds
