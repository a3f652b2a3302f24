-- What programs come to by reading, and which finished ones come to finished ones alone.
use Rattle.law_states.specs.KeptSources.{Through}
use Rattle.law_states.specs.Members.{In}
use Rattle.salt_values.specs.Id.{has_id}
use Rattle.salt_values.specs.declared.id.Id.{Id}
use Rattle.std.specs.Prelude.{Bool, List, false, true, ◌&&◌, ◌↔◌, ◌≡◌, ◌⊎◌}

-- these are the program and all that it reads from, directly or through programs
abbrev pub AreReached : (Id → Id → Bool) → Id → List Id → Type 0
AreReached reads b names = (c : Id) → In c names ↔ Through reads b c

-- these are the programs, and all that read from them, directly or through programs
abbrev pub AreComers : (Id → Id → Bool) → List Id → List Id → Type 0
AreComers reads starts names = (b : Id) → In b names ↔ ((s : Id) × In s starts × Through reads b s)

-- a finished program reads from another
abbrev pub reads_done : (Id → Id → Bool) → List Id → Id → Id → Bool
reads_done reads finished x y = reads x y && has_id x finished

-- a program comes to finished ones alone, itself among them
abbrev pub IsSettled : (Id → Id → Bool) → List Id → Id → Type 0
IsSettled reads finished b = (c : Id) → Through reads b c → has_id c finished ≡ true

-- these are the programs that come to finished ones alone
abbrev pub AreSettled : (Id → Id → Bool) → List Id → List Id → Type 0
AreSettled reads finished names = (b : Id) → In b names ↔ IsSettled reads finished b

-- all programs that come to finished ones alone come to one of these
abbrev pub SettledComeTo : (Id → Id → Bool) → List Id → List Id → Type 0
SettledComeTo reads finished starts = (b : Id) → IsSettled reads finished b → ((s : Id) → In s starts → Through reads b s → ⊥) → ⊥

-- a program is not finished, or reads from one that is not among these
abbrev pub IsHeld : (Id → Id → Bool) → List Id → List Id → Id → Bool → Type 0
IsHeld reads finished found b true = (has_id b finished ≡ false) ⊎ ((y : Id) × (reads b y ≡ true) × (has_id y found ≡ false))
IsHeld reads finished found b false = (has_id b finished ≡ true) × ((y : Id) → reads b y ≡ true → has_id y found ≡ true)

abbrev pub AreHeld : (Id → Id → Bool) → List Id → List Id → List Id → List Id → Type 0
AreHeld reads finished found names held = (b : Id) → In b held ↔ (In b names × IsHeld reads finished found b true)

-- no program comes to finished ones alone
abbrev pub NoneSettled : (Id → Id → Bool) → List Id → Type 0
NoneSettled reads finished = (b : Id) → IsSettled reads finished b → ⊥
